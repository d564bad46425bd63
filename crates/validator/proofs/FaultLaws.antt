-- The truncated owner of a prototype: none is truncated but the owner of the last word; and how many words it claims. Assumes nothing.
use Rattle.std.proofs.Common.{◌≡◌, ℕ, suc, ◌+◌, ◌-◌, ◌/◌, ◌<◌, ◌≤◌, Bool, true, false, T, leb, List, [], ◌∷◌, length, get_or, drop, pos, sym, refl, ap, ◌∙◌, subst, append-nil, add-zero, zero-add, add-one, arith, length-append, ltb-true, le-ltb, lt-ltb, eq-eqb, ne_eqb, le-leb, leb-false, leb-true}
use mathlib.Core.Path.{subst⁻¹}
use mathlib.Core.Bool.{and-false}
use mathlib.Core.List.{flat_map}
use mathlib.Core.Option as option
use borrow.Author.Tests.{lt-leb}
use Rattle.std.specs.Prelude.{Option, Some, None}
use Rattle.base.specs.Bytes.{u32s}
use Rattle.base.specs.Lists.{up_from, tabulate, only}
use Rattle.opcodes.specs.Words.{is, decoded, operand, field_bx, C, CLOSURE, SETLIST}
use Rattle.opcodes.specs.declared.RawInstruction51.{RawInstruction51}
use Rattle.base.proofs.AllLaws.{all_up_from, all_up_to, flat_map_none}
use Rattle.base.proofs.ListLaws.{length_tabulate, up_from_append, flat_map_append}
use Rattle.roles_spec.specs.Table.{Row, Proto, field_at, row_at, rows, child_at, child_of_row, proto_in}
use Rattle.roles_spec.specs.Roles.{ClosureBinding, SetlistExtra, executable_at, Executable, binding_count, has_extra, claims, role_at, word_at, owned, existing, companions, is_truncated, role_in, last_owner}
use Rattle.roles.specs.Terms.{child_from}
use Rattle.roles.specs.declared.table.Child.{Child}
use Rattle.roles_spec.proofs.RoleLaws.{exists, owned_count}
use Rattle.roles_spec.proofs.ChildLaws.{ChildIn, child_in, no_upvalues}
use Rattle.roles_spec.proofs.OwnerLaws.{Owns, owner_is, owner_of}
use Rattle.opcodes.proofs.SplitLaws.{raw_of, split_again, has_opcode, has_other}
use Rattle.validator_spec.specs.Diagnostics.{diagnostic, truncation_at}
use Rattle.validator.specs.Terms.{Describes, fault_diagnostics, row_limits}
use Rattle.validator.proofs.DescribedLaws.{word_read, code_words}
use Rattle.validator.specs.declared.fault.Lua51RoleFault.TheVariants as fault
use Rattle.validator.specs.declared.rows.RowLimits.{RowLimits}

-- ---- truncated owners

-- lists for numbers, where only the list for one number has entries
one_only : {A : Type 0} (f : ℕ → List A) (n o : ℕ) → o < n → ((k : ℕ) → (k ≡ o → ⊥) → f k ≡ []) → flat_map f (up_from 0 n) ≡ f o
unfolding flat_map
one_only f n o h none =
    let m : ℕ = n - suc o in
    let whole : n ≡ o + suc m = omega arith in
    let before : flat_map f (up_from 0 o) ≡ [] = flat_map_none f (all_up_to (λ k. f k ≡ []) o (λ k l. none k (λ e. omega arith))) in
    let after : flat_map f (up_from (suc o) m) ≡ [] = flat_map_none f (all_up_from {P = λ k. f k ≡ []} (suc o) m (λ k l. none (suc o + k) (λ e. omega arith))) in
    ap (λ (k : ℕ). flat_map f (up_from 0 k)) whole
    ∙ ap (flat_map f) (up_from_append 0 o (suc m))
    ∙ flat_map_append f (up_from 0 o) (up_from (0 + o) (suc m))
    ∙ rw (before, zero-add, after) (append-nil (f o))

-- a truncated owner owns all words after it
truncated_owns : (p : Proto) (pc : ℕ) → is_truncated p pc ≡ true → Owns p pc (length p.code - 1)
unfolding is_truncated companions existing owned
truncated_owns p pc t = go (executable_at p pc) refl (ltb-true (companions p pc) (owned p pc) t)
  where
    go : (b : Bool) → executable_at p pc ≡ b → companions p pc < owned p pc → Owns p pc (length p.code - 1)
    go true e h =
        let x : Executable p pc = subst⁻¹ T e tt in
        record { executes = x; after = omega (arith, exists p pc x); within = omega (arith, exists p pc x) }
    go false e h = let none : owned p pc ≡ 0 = rw e in absurd (omega arith)

-- a prototype of n words, where n is not 0
module _ (p : Proto) (n : ℕ) (words : length p.code ≡ n) (some : 0 < n) where
  -- the owner of the last word
  abbrev last : ℕ
  last = last_owner (n - 1) (role_at p (n - 1))

  last_owns : Owns p last (n - 1)
  last_owns = owner_of p (n - 1) (omega arith)

  other : (pc : ℕ) → (pc ≡ last → ⊥) → truncation_at p pc ≡ []
  unfolding truncation_at only
  other pc f = go (is_truncated p pc) refl
    where
      go : (b : Bool) → is_truncated p pc ≡ b → truncation_at p pc ≡ []
      go true e =
          let v : Owns p pc (n - 1) = subst (λ (k : ℕ). Owns p pc (k - 1)) words (truncated_owns p pc e) in
          absurd (f (sym (owner_is p pc (n - 1) (omega arith) v)))
      go false e = rw e

  -- no other can be truncated
  pub last_truncated : flat_map (truncation_at p) (up_from 0 n) ≡ truncation_at p last
  last_truncated = one_only (truncation_at p) n last (omega (arith, last_owns.after)) other

  -- as the code finds it: where it stands, its bits, and how many words it owns
  module _ (o w m : ℕ) (place : o ≡ last) (bits : word_at p o ≡ w) (count : m ≡ length (claims p o w)) where
    pub owner_there : Owns p o (n - 1)
    owner_there = subst⁻¹ (λ (k : ℕ). Owns p k (n - 1)) place last_owns

    owner_owns : owned p o ≡ m
    owner_owns = owned_count p o owner_there.executes ∙ ap (λ (x : ℕ). length (claims p o x)) bits ∙ sym count

    -- the owner is truncated where it owns words past the last
    pub truncated_test : is_truncated p o ≡ leb n (o + m)
    unfolding is_truncated companions existing
    truncated_test = go (leb n (o + m)) refl
      where
        go : (b : Bool) → leb n (o + m) ≡ b → is_truncated p o ≡ b
        go true t = lt-ltb (companions p o) (owned p o) (omega (arith, leb-true n (o + m) t, owner_owns, owner_there.after))
        go false t = le-ltb (companions p o) (owned p o) (omega (arith, leb-false n (o + m) t, owner_owns, owner_there.after))

    whole : flat_map (truncation_at p) (up_from 0 n) ≡ truncation_at p o
    whole = last_truncated ∙ ap (truncation_at p) (sym place)

    pub none_truncated : o + m < n → [] ≡ flat_map (truncation_at p) (up_from 0 n)
    unfolding truncation_at only
    none_truncated h = sym (whole ∙ rw (truncated_test, lt-leb n (o + m) h))

    pub truncated_closure : n ≤ o + m → is w (CLOSURE ∷ []) ≡ true → diagnostic o 1 (pos m) ∷ [] ≡ flat_map (truncation_at p) (up_from 0 n)
    unfolding truncation_at only
    truncated_closure h e = sym (whole ∙ rw (truncated_test, le-leb n (o + m) h, bits, e, owner_owns))

    pub truncated_setlist : n ≤ o + m → is w (CLOSURE ∷ []) ≡ false → diagnostic o 2 (pos 0) ∷ [] ≡ flat_map (truncation_at p) (up_from 0 n)
    unfolding truncation_at only
    truncated_setlist h e = sym (whole ∙ rw (truncated_test, le-leb n (o + m) h, bits, e))

-- ---- how many words a word claims, by its fields

pub claims_count : (p : Proto) (pc w : ℕ) → length (claims p pc w) ≡ binding_count p w + length (only (has_extra w) (SetlistExtra pc))
unfolding claims
claims_count p pc w =
    length-append (tabulate (binding_count p w) (ClosureBinding pc)) (only (has_extra w) (SetlistExtra pc))
    ∙ ap (λ (n : ℕ). n + length (only (has_extra w) (SetlistExtra pc))) (length_tabulate (ClosureBinding pc) (binding_count p w))

module _ (p : Proto) (pc : ℕ) (r : RawInstruction51) (split : r ≡ decoded r.raw) where
  pub claims_bindings : r.opcode_num ≡ CLOSURE → get_or p.children r.bx 0 ≡ length (claims p pc r.raw)
  unfolding binding_count has_extra only decoded
  claims_bindings e =
      let not-setlist : is r.raw (SETLIST ∷ []) ≡ false = has_other r.raw r split SETLIST (λ f. omega arith) in
      let bx : r.bx ≡ field_bx r.raw = ap (λ (x : RawInstruction51). x.bx) split in
      sym (claims_count p pc r.raw ∙ rw (has_opcode r.raw r split CLOSURE e, not-setlist, ← bx, add-zero))

  module _ (not-closure : r.opcode_num ≡ CLOSURE → ⊥) where
    pub claims_extra : r.opcode_num ≡ SETLIST → r.c ≡ 0 → 1 ≡ length (claims p pc r.raw)
    unfolding binding_count has_extra only decoded
    claims_extra e f =
        let c : operand C r.raw ≡ 0 = sym (ap (λ (x : RawInstruction51). x.c) split) ∙ f in
        sym (claims_count p pc r.raw ∙ rw (has_other r.raw r split CLOSURE not-closure, has_opcode r.raw r split SETLIST e, eq-eqb (operand C r.raw) 0 c))

    pub claims_no_extra : (r.c ≡ 0 → ⊥) → 0 ≡ length (claims p pc r.raw)
    unfolding binding_count has_extra only decoded
    claims_no_extra f =
        let c : operand C r.raw ≡ 0 → ⊥ = λ e. f (ap (λ (x : RawInstruction51). x.c) split ∙ e) in
        sym (claims_count p pc r.raw ∙ rw (has_other r.raw r split CLOSURE not-closure, ne_eqb (operand C r.raw) 0 c, and-false))

    pub claims_none : (r.opcode_num ≡ SETLIST → ⊥) → 0 ≡ length (claims p pc r.raw)
    unfolding binding_count has_extra only
    claims_none f = sym (claims_count p pc r.raw ∙ rw (has_other r.raw r split CLOSURE not-closure, has_other r.raw r split SETLIST f))

-- ---- the prototype that the code was given

module _ (table : List ℕ) (q : RowLimits) (same : q ≡ row_limits table q.row) where
  -- the search for its child k, and the child's upvalues
  module _ (k : ℕ) (c : Option Child) (search : c ≡ child_from table (q.row + 1) 0 (child_at q.depth (drop (q.row + 1) (rows table)) k)) where
    child_is : c ≡ child_from table (suc q.row) 0 (child_of_row table q.row k)
    unfolding row_limits row_at child_of_row
    child_is = let depth : q.depth ≡ field_at table q.row 0 = ap (λ (x : RowLimits). x.depth) same in search ∙ rw (depth, add-one)

    pub child_found : (x : Child) → c ≡ Some x → ChildIn table q.row k x.row
    unfolding child_from
    child_found x e = go (child_of_row table q.row k) refl (sym e ∙ child_is)
      where
        go : (o : option.Option Row) → child_of_row table q.row k ≡ o → Some x ≡ child_from table (suc q.row) 0 o → ChildIn table q.row k x.row
        go option.none f g = let z : ◌≡◌ {A = ℕ} 0 1 = cc in absurd (omega arith)
        go (option.some r) f g = child_in table q.row k x.row r f cc

    pub child_missed : c ≡ None → 0 ≡ get_or (proto_in table q.row []).children k 0
    unfolding child_from
    child_missed e = go (child_of_row table q.row k) refl (sym e ∙ child_is)
      where
        go : (o : option.Option Row) → child_of_row table q.row k ≡ o → None ≡ child_from table (suc q.row) 0 o → 0 ≡ get_or (proto_in table q.row []).children k 0
        go option.none f g = sym (no_upvalues table q.row k f)
        go (option.some r) f g = let z : ◌≡◌ {A = ℕ} 0 1 = cc in absurd (omega arith)

  -- its words, and the last one's owner
  module _ (code records : List ℕ) (d : Describes (proto_in table q.row (u32s code)) q code records) (some : length code / 4 ≡ 0 → ⊥) where
    abbrev proto : Proto
    proto = proto_in table q.row (u32s code)

    abbrev size : ℕ
    size = length code / 4

    module _ (o w m : ℕ) (r : RawInstruction51) (place : o ≡ last_owner (size - 1) (role_in records (size - 1))) (read : w ≡ get_or (u32s code) o 0) (split : r ≡ decoded w)
        (count : (pc : ℕ) (words : List ℕ) → m ≡ length (claims (proto_in table q.row words) pc r.raw)) where
      words_are : length proto.code ≡ size
      words_are = sym (code_words proto q code records d)

      place_is : o ≡ last_owner (size - 1) (role_at proto (size - 1))
      place_is = place ∙ ap (last_owner (size - 1)) (d.stands.roles (size - 1))

      there : o < size
      there = omega (arith, place_is, (owner_of proto (size - 1) (omega (arith, words_are))).after)

      bits : word_at proto o ≡ r.raw
      bits = sym (raw_of w r split ∙ read ∙ word_read proto q code records d o)

      again : r ≡ decoded r.raw
      again = split_again w r split

      pub no_fault : o + m < size → fault_diagnostics None ≡ flat_map (truncation_at proto) (up_from 0 size)
      unfolding fault_diagnostics
      no_fault h = none_truncated proto size words_are (omega arith) o r.raw m place_is bits (count o (u32s code)) h

      pub closure_fault : size ≤ o + m → r.opcode_num ≡ CLOSURE → fault_diagnostics (Some (fault.TruncatedClosure o m)) ≡ flat_map (truncation_at proto) (up_from 0 size)
      unfolding fault_diagnostics
      closure_fault h e = truncated_closure proto size words_are (omega arith) o r.raw m place_is bits (count o (u32s code)) h (has_opcode r.raw r again CLOSURE e)

      pub setlist_fault : size ≤ o + m → (r.opcode_num ≡ CLOSURE → ⊥) → fault_diagnostics (Some (fault.TruncatedSetlist o)) ≡ flat_map (truncation_at proto) (up_from 0 size)
      unfolding fault_diagnostics
      setlist_fault h e = truncated_setlist proto size words_are (omega arith) o r.raw m place_is bits (count o (u32s code)) h (has_other r.raw r again CLOSURE e)
