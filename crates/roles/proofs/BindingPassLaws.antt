-- The bindings that a pass over a prototype's words makes: what is bound after each executable word and its companions. Assumes nothing.
use Rattle.std.proofs.Common.{◌≡◌, ℕ, suc, ◌+◌, ◌-◌, ◌*◌, ◌/◌, ◌≤◌, min, Bool, true, false, ◌⊎◌, List, [], ◌∷◌, ◌++◌, length, get_or, take, drop, sym, refl, ap, ◌∙◌, subst, ap₂, inl, inr, arith, length-take}
use mathlib.Core.List.{flat_map, foldl-append, foldl-map}
use mathlib.Core.Option.{Option, none, some}
use Rattle.base.specs.Lists.{up_from, tabulate}
use Rattle.base.specs.Bytes.{u32s}
use Rattle.opcodes.specs.Words.{is, field_bx, CLOSURE}
use Rattle.roles_spec.specs.Table.{Row, row_bytes, row_at, rows, Proto, proto_of, child_of_row, proto_in}
use Rattle.roles_spec.specs.Roles.{Role, ClosureBinding, has_extra, word_at, executable_at, binding_count, existing, binding_words}
use Rattle.roles_spec.specs.Bindings.{Write, binding_of, write_of, writes_at, writes, first_binding, binding_total, binding_bytes}
use Rattle.roles.specs.Terms.{records_between, records_before, owned_bindings, child_bindings, companions_of}
use Rattle.roles.specs.BindingSteps.{bound_by, bound_from, bound_claim, BindsFrom, Bindable, stored, bound_in}
use Rattle.roles.specs.declared.discovery.Companions.{Companions}
use Rattle.roles.specs.declared.discovery.Companions.TheVariants.{None, Extra}
use Rattle.base.proofs.ListLaws.{foldl_flat_map, foldl_same, length_tabulate}
use Rattle.base.proofs.BoolLaws.{t_true}
use Rattle.base.proofs.ByteLaws.{length_u32s, length_overwrite}
use Rattle.roles_spec.proofs.TableLaws.{child_upvalues}
use Rattle.roles_spec.proofs.TotalLaws.{records_front, records_next}
use Rattle.roles_spec.proofs.ChildLaws.{found, no_upvalues}
use Rattle.roles_spec.proofs.BindingWriteLaws.{writes_next}
use Rattle.roles.proofs.CountLaws.{between_first}
use Rattle.roles.proofs.MarkLaws.{owned_roles, existing_roles}
use Rattle.roles.proofs.BindingStepLaws.{owned_bound, owned_bindable}
use Rattle.roles.proofs.RolePassLaws.{OwnerHere, OwnerStep}

-- ---- the records of a child

pub record ChildRecords (table : List ℕ) (row k : ℕ) (c : Row) : Type 0 where
  -- where they begin, and that they are among all
  pub begin : first_binding (rows table) c.row ≡ first_binding (rows table) (suc row) + records_between table (suc row) c.row
  pub inside : first_binding (rows table) c.row + c.upvalues ≤ binding_total (rows table)
  pub upvalues : get_or (proto_in table row []).children k 0 ≡ c.upvalues

pub child_records : (table : List ℕ) (row k : ℕ) (c : Row) → child_of_row table row k ≡ some c → ChildRecords table row k c
unfolding child_of_row proto_in
child_records table row k c e =
    let v = found (length table / row_bytes) table (row_at table row).depth (suc row) k c (omega arith) e in
    record {
      begin = between_first table (suc row) c.row v.after;
      inside = omega (arith, records_next table c.row v.there, ap (λ (r : Row). r.upvalues) v.same, records_front (rows table) (suc c.row));
      upvalues = child_upvalues (row_at table row) (drop (suc row) (rows table)) [] k c e;
    }

-- ---- the writes of a CLOSURE, in a buffer

module _ (table : List ℕ) (row : ℕ) where
  bound_append : (vs us : List Write) (out : List ℕ) → bound_in table row (vs ++ us) out ≡ bound_in table row us (bound_in table row vs out)
  unfolding bound_in
  bound_append vs us out = foldl-append _ out vs us

  pub length_bound_in : (vs : List Write) (out : List ℕ) → length (bound_in table row vs out) ≡ length out
  unfolding bound_in stored
  length_bound_in [] out = refl
  length_bound_in (v ∷ vs) out = length_bound_in vs (stored (rows table) (child_of_row table row v.child) v out) ∙ one (child_of_row table row v.child)
    where
      one : (o : Option Row) → length (stored (rows table) o v out) ≡ length out
      one none = refl
      one (some c) = length_overwrite out _ _

  -- one binding word
  module _ (k : ℕ) (c : Row) (named : child_of_row table row k ≡ some c) where
    word_bound : (j pc w : ℕ) (out : List ℕ) → bound_in table row (write_of k j pc w) out ≡ bound_by (first_binding (rows table) c.row + j) pc w out
    unfolding bound_in write_of bound_by stored
    word_bound j pc w out =
        foldl-map _ _ (binding_of pc w) out
        ∙ foldl_same _ _ (λ o b. ap (λ (x : Option Row). stored (rows table) x (record { child = k; upvalue = j; binding = b }) o) named) out (binding_of pc w)

    words_bound : (words : List ℕ) (pc n : ℕ) (out : List ℕ)
        → bound_in table row (flat_map (λ j. write_of k j (pc + j) (get_or words (pc + j) 0)) (up_from 0 n)) out ≡ bound_from words pc (first_binding (rows table) c.row) n out
    unfolding bound_in bound_from
    words_bound words pc n out =
        foldl_flat_map _ _ out (up_from 0 n)
        ∙ foldl_same _ _ (λ o j. word_bound j (pc + j) (get_or words (pc + j) 0) o) out (up_from 0 n)

-- ---- the pass

pub record BindPass (table : List ℕ) (row : ℕ) (code old out : List ℕ) (pc : ℕ) : Type 0 where
  pub bound : out ≡ bound_in table row (flat_map (writes_at (proto_in table row (u32s code))) (up_from 0 pc)) old
  pub long : length out ≡ length old

module _ (table : List ℕ) (row : ℕ) (code : List ℕ) where
  abbrev p : Proto
  p = proto_in table row (u32s code)

  pub bind_begins : (old : List ℕ) → BindPass table row code old old 0
  unfolding bound_in flat_map
  bind_begins old = record { bound = refl; long = refl }

  -- an executable word, and the companions that exist
  module _ (code_of : p.code ≡ u32s code) (base room : ℕ) (binds_from : BindsFrom table row base room)
      (pc k w : ℕ) (cs : Companions) (roles new-roles : List ℕ) (step : OwnerStep table row code pc w k cs roles new-roles) where
    abbrev o : OwnerHere p pc w k
    o = step.here

    -- a CLOSURE binds as many upvalues as there are words for them
    module _ (closure : is w (CLOSURE ∷ []) ≡ true) where
      abbrev upvalues : ℕ
      upvalues = get_or (proto_in table row []).children (field_bx w) 0

      abbrev named : Option Row
      named = child_of_row table row (field_bx w)

      claim : cs ≡ owned_bindings upvalues (records_before table row named)
      unfolding companions_of child_bindings
      claim = step.owned ∙ rw closure

      claimed : k ≡ min (length code / 4 - pc - 1) upvalues
      unfolding existing_roles
      claimed =
          step.size
          ∙ ap (λ (c : Companions). length (existing_roles (length code / 4) pc c)) claim
          ∙ ap (λ (rs : List Role). length (take (length code / 4 - pc - 1) rs)) (owned_roles pc upvalues (records_before table row named))
          ∙ length-take (length code / 4 - pc - 1) (tabulate upvalues (ClosureBinding pc))
          ∙ ap (min (length code / 4 - pc - 1)) (length_tabulate (ClosureBinding pc) upvalues)

      words_there : binding_words p pc ≡ min upvalues (length p.code - (pc + 1))
      unfolding binding_words existing binding_count proto_in proto_of
      words_there = rw (t_true (executable_at p pc) o.executes, o.word, closure)

      binds : binding_words p pc ≡ k
      binds = omega (arith, claimed, words_there, ap length code_of, length_u32s code)

      writes_here : writes_at p pc ≡ flat_map (λ j. write_of (field_bx w) j (pc + 1 + j) (get_or (u32s code) (pc + 1 + j) 0)) (up_from 0 k)
      unfolding writes_at word_at
      writes_here =
          ap (λ (v : ℕ). flat_map (λ j. write_of (field_bx v) j (pc + 1 + j) (word_at p (pc + 1 + j))) (up_from 0 (binding_words p pc))) o.word
          ∙ ap₂ (λ (l : List ℕ) (n : ℕ). flat_map (λ j. write_of (field_bx w) j (pc + 1 + j) (get_or l (pc + 1 + j) 0)) (up_from 0 n)) code_of binds

      -- they are the child's records
      place : (c : Row) → named ≡ some c → first_binding (rows table) c.row ≡ base + records_before table row (some c)
      unfolding records_before
      place c e = let r = child_records table row (field_bx w) c e in omega (arith, binds_from.begins, binds_from.few, r.begin, records_front (rows table) c.row)

      by_child : (c : Option Row) → named ≡ c → (out : List ℕ) → bound_in table row (writes_at p pc) out ≡ bound_from (u32s code) (pc + 1) (base + records_before table row c) k out
      unfolding flat_map bound_in bound_from
      by_child none e out =
          let z : k ≡ 0 = omega (arith, claimed, no_upvalues table row (field_bx w) e) in
          ap (λ (vs : List Write). bound_in table row vs out) (writes_here ∙ ap (λ (n : ℕ). flat_map (λ j. write_of (field_bx w) j (pc + 1 + j) (get_or (u32s code) (pc + 1 + j) 0)) (up_from 0 n)) z)
          ∙ no_writes
          ∙ ap (λ (n : ℕ). bound_from (u32s code) (pc + 1) (base + records_before table row none) n out) (sym z)
        where
          no_writes : bound_in table row (flat_map (λ j. write_of (field_bx w) j (pc + 1 + j) (get_or (u32s code) (pc + 1 + j) 0)) []) out ≡ bound_from (u32s code) (pc + 1) (base + records_before table row none) 0 out
          no_writes = refl
      by_child (some c) e out =
          ap (λ (vs : List Write). bound_in table row vs out) writes_here
          ∙ words_bound table row (field_bx w) c e (u32s code) (pc + 1) k out
          ∙ ap (λ (n : ℕ). bound_from (u32s code) (pc + 1) n k out) (place c e)

      closure_bound : (out : List ℕ) → bound_in table row (writes_at p pc) out ≡ bound_claim (u32s code) pc base k cs out
      closure_bound out =
          by_child named refl out
          ∙ sym (ap (λ (c : Companions). bound_claim (u32s code) pc base k c out) claim ∙ owned_bound (u32s code) out pc base k upvalues (records_before table row named) (omega (arith, claimed)))

      closure_bindable : Bindable base k room cs
      unfolding records_before
      closure_bindable = subst (Bindable base k room) (sym claim) (owned_bindable base k room upvalues (records_before table row named) (omega (arith, claimed)) (λ some. all named refl (binds_from.fits some)))
        where
          all : (c : Option Row) → named ≡ c → binding_bytes * binding_total (rows table) ≤ room → binding_bytes * (base + records_before table row c + upvalues) ≤ room
          all none e h = omega (arith, no_upvalues table row (field_bx w) e, binds_from.begins, records_front (rows table) (suc row))
          all (some c) e h =
              let r = child_records table row (field_bx w) c e in
              let at : first_binding (rows table) c.row ≡ base + records_before table row (some c) = place c e in
              omega (arith, at, r.inside, r.upvalues)

    -- another word binds nothing
    module _ (other : is w (CLOSURE ∷ []) ≡ false) where
      other_claim : (cs ≡ Extra) ⊎ (cs ≡ None)
      unfolding companions_of
      other_claim = go (has_extra w) refl
        where
          go : (b : Bool) → has_extra w ≡ b → (cs ≡ Extra) ⊎ (cs ≡ None)
          go true e = inl (step.owned ∙ rw (other, e))
          go false e = inr (step.owned ∙ rw (other, e))

      none_bound : binding_words p pc ≡ min 0 (length p.code - (pc + 1))
      unfolding binding_words existing binding_count
      none_bound = rw (t_true (executable_at p pc) o.executes, o.word, other)

      none_here : writes_at p pc ≡ []
      unfolding writes_at flat_map
      none_here = let z : binding_words p pc ≡ 0 = omega (arith, none_bound) in rw z

      other_bound : (out : List ℕ) → bound_in table row (writes_at p pc) out ≡ bound_claim (u32s code) pc base k cs out
      unfolding bound_in bound_claim
      other_bound out = ap (λ (vs : List Write). bound_in table row vs out) none_here ∙ go other_claim
        where
          go : (cs ≡ Extra) ⊎ (cs ≡ None) → out ≡ bound_claim (u32s code) pc base k cs out
          go (inl e) = sym (ap (λ (c : Companions). bound_claim (u32s code) pc base k c out) e)
          go (inr e) = sym (ap (λ (c : Companions). bound_claim (u32s code) pc base k c out) e)

      other_bindable : Bindable base k room cs
      unfolding Bindable
      other_bindable = go other_claim
        where
          go : (cs ≡ Extra) ⊎ (cs ≡ None) → Bindable base k room cs
          go (inl e) = subst (Bindable base k room) (sym e) tt
          go (inr e) = subst (Bindable base k room) (sym e) tt

    word_bound_here : (out : List ℕ) → bound_in table row (writes_at p pc) out ≡ bound_claim (u32s code) pc base k cs out
    word_bound_here out = go (is w (CLOSURE ∷ [])) refl
      where
        go : (b : Bool) → is w (CLOSURE ∷ []) ≡ b → bound_in table row (writes_at p pc) out ≡ bound_claim (u32s code) pc base k cs out
        go true e = closure_bound e out
        go false e = other_bound e out

    pub bindable_here : Bindable base k room cs
    bindable_here = go (is w (CLOSURE ∷ [])) refl
      where
        go : (b : Bool) → is w (CLOSURE ∷ []) ≡ b → Bindable base k room cs
        go true e = closure_bindable e
        go false e = other_bindable e

    pub bind_next : (old out new : List ℕ) → BindPass table row code old out pc → new ≡ bound_claim (u32s code) pc base k cs out → BindPass table row code old new (pc + (1 + k))
    bind_next old out new v d =
        let vs = flat_map (writes_at p) (up_from 0 pc) in
        let all : new ≡ bound_in table row (flat_map (writes_at p) (up_from 0 (pc + (1 + k)))) old =
        d
        ∙ sym (word_bound_here out)
        ∙ ap (bound_in table row (writes_at p pc)) v.bound
        ∙ sym (bound_append table row vs (writes_at p pc) old)
        ∙ ap (λ (us : List Write). bound_in table row us old) (sym (writes_next p pc k o.executes o.count)) in
        record { bound = all; long = ap length all ∙ length_bound_in table row _ old }

  pub bind_ends : (code_of : p.code ≡ u32s code) (old out : List ℕ) (pc : ℕ) → BindPass table row code old out pc → pc ≡ length code / 4 → out ≡ bound_in table row (writes p) old
  unfolding writes
  bind_ends code_of old out pc v e =
      let all : pc ≡ length p.code = e ∙ sym (ap length code_of ∙ length_u32s code) in
      v.bound ∙ ap (λ (n : ℕ). bound_in table row (flat_map (writes_at p) (up_from 0 n)) old) all
