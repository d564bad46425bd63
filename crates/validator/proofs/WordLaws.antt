-- What the code finds at a word, in the terms of the definitions: its operands, its target, its skip. Assumes nothing.
use Rattle.std.proofs.Common.{◌≡◌, ℕ, suc, ◌+◌, ◌-◌, ◌<◌, ◌≤◌, Bool, true, false, cond, not, ◌&&◌, ltb, leb, List, [], ◌∷◌, ◌++◌, map, length, pos, negsuc, ◌+ℤ◌, ◌-ℤ◌, sym, refl, ap, ◌∙◌, arith, ltb-false, ltb-true, le-ltb, lt-ltb}
use mathlib.Core.List.{map-append, flatten}
use Rattle.std.specs.Bool.{then_some}
use Rattle.std.specs.Prelude.{Option}
use Rattle.base.specs.Bytes.{i32_bits}
use Rattle.base.specs.Lists.{elem, only, keep_if, select}
use Rattle.opcodes.specs.Words.{B, C, field_bx, number_of, mode_of, with_sbx, with_bx, offset_sbx}
use Rattle.opcodes.specs.declared.Opcode51.{Opcode51}
use Rattle.opcodes.specs.declared.OpMode51.{OpMode51}
use Rattle.opcodes.specs.declared.OpMode51.TheVariants.{IABC, IABx, IAsBx}
use Rattle.opcodes.specs.declared.RawInstruction51.{RawInstruction51}
use Rattle.roles_spec.specs.Roles.{Role, is_executable, role_at, role_in}
use Rattle.roles_spec.specs.Table.{Proto}
use Rattle.validator_spec.specs.Diagnostics.{Diagnostic, diagnostic, not_below, target_diagnostics, jump_diagnostics, skip_diagnostics, operand_diagnostics}
use Rattle.validator_spec.specs.Operands.{is_jump, target, is_skip, skip_target, constant_bx, upvalue_b, flag_a, flag_limit, register_a, span_ends, register_in, constant_in, child_bx}
use Rattle.validator.specs.Terms.{Decodes, HasLimits, Stands, as_list}
use Rattle.validator.specs.Steps.{State, emitted, emitted_if, emit_all}
use Rattle.validator.specs.declared.rows.RowLimits.{RowLimits}
use Rattle.validator.proofs.EmitLaws.{emits_none, emits_word, emits_bits, emits_only, emits_then}
use Rattle.validator.proofs.KnownOperandLaws.{listed}

-- ---- operands

-- operands that were checked, given by another list that is equal
pub checked_as : (row pc code limit : ℕ) (xs ys : List ℕ) (s t : State) → t ≡ emit_all row (not_below pc code limit xs) s → xs ≡ ys → t ≡ emit_all row (not_below pc code limit ys) s
checked_as row pc code limit xs ys s t e q = e ∙ ap (λ (vs : List ℕ). emit_all row (not_below pc code limit vs) s) q

-- two lists of operands under one limit
select_append : {A : Type 0} (f : A → Bool) (xs ys : List A) → select f (xs ++ ys) ≡ select f xs ++ select f ys
select_append f [] ys = refl
select_append {A = A} f (x ∷ xs) ys = go (f x) (select_append f xs ys)
  where
    go : (b : Bool) → select f (xs ++ ys) ≡ select f xs ++ select f ys → keep_if b x (select f (xs ++ ys)) ≡ keep_if b x (select f xs) ++ select f ys
    go true e = ap (λ (l : List A). x ∷ l) e
    go false e = e

pub below_append : (pc code limit : ℕ) (xs ys : List ℕ) → not_below pc code limit (xs ++ ys) ≡ not_below pc code limit xs ++ not_below pc code limit ys
unfolding not_below
below_append pc code limit xs ys =
    ap (map (λ v. diagnostic pc code (pos v))) (select_append (λ v. leb limit v) xs ys)
    ∙ map-append (λ v. diagnostic pc code (pos v)) (select (λ v. leb limit v) xs) (select (λ v. leb limit v) ys)

-- two spans are those of the word
pub spans_checked : (row pc limit w : ℕ) (first second : Option ℕ) (s t u : State) → as_list first ++ as_list second ≡ span_ends w
    → t ≡ emit_all row (not_below pc 11 limit (as_list first)) s → u ≡ emit_all row (not_below pc 11 limit (as_list second)) t → u ≡ emit_all row (not_below pc 11 limit (span_ends w)) s
spans_checked row pc limit w first second s t u q e f =
    emits_then row _ _ s t u e f
    ∙ ap (λ (ds : List Diagnostic). emit_all row ds s) (sym (below_append pc 11 limit (as_list first) (as_list second)) ∙ ap (not_below pc 11 limit) q)

-- all operands, with the limits that the code has
pub emits_operands : (row : ℕ) (p : Proto) (q : RowLimits) (pc w : ℕ) → HasLimits p q → (s t : State)
    → t
    ≡ emit_all row (flatten (
    not_below pc 7 q.constants (constant_bx w)
    ∷ not_below pc 8 q.upvalues (upvalue_b w)
    ∷ not_below pc 9 flag_limit (flag_a w)
    ∷ not_below pc 10 q.stack (register_a w)
    ∷ not_below pc 11 q.stack (span_ends w)
    ∷ not_below pc 12 q.stack (register_in B w)
    ∷ not_below pc 13 q.stack (register_in C w)
    ∷ not_below pc 14 q.constants (constant_in B w)
    ∷ not_below pc 15 q.constants (constant_in C w)
    ∷ not_below pc 16 q.children (child_bx w)
    ∷ []
    )) s
    → t ≡ emit_all row (operand_diagnostics p pc w) s
unfolding operand_diagnostics
emits_operands row p q pc w l s t e = rw (l.constants, l.upvalues, l.stack, l.children) e

-- ---- targets

-- the target is pc + 1 + Bx - offset_sbx
pub target_sum : (pc w : ℕ) → target pc w ≡ pos (pc + 1 + field_bx w) -ℤ pos offset_sbx
unfolding target
target_sum pc w = go (field_bx w)
  where
    low : (n : ℕ) → n < offset_sbx → (pos (pc + 1) +ℤ negsuc (offset_sbx - suc n)) ≡ pos (pc + 1 + n) -ℤ pos offset_sbx
    low n h = at (ltb (pc + 1 + n) offset_sbx) refl
      where
        at : (b : Bool) → ltb (pc + 1 + n) offset_sbx ≡ b → (pos (pc + 1) +ℤ negsuc (offset_sbx - suc n)) ≡ pos (pc + 1 + n) -ℤ pos offset_sbx
        at true e =
            let l : pc + 1 + n < offset_sbx = ltb-true _ _ e in
            rw (e, lt-ltb (pc + 1) (suc (offset_sbx - suc n)) (omega arith)) (ap negsuc (omega arith))
        at false e =
            let l : offset_sbx ≤ pc + 1 + n = ltb-false _ _ e in
            rw (e, le-ltb (pc + 1) (suc (offset_sbx - suc n)) (omega arith)) (ap pos (omega arith))

    go : (n : ℕ) → (pos (pc + 1) +ℤ (pos n -ℤ pos offset_sbx)) ≡ pos (pc + 1 + n) -ℤ pos offset_sbx
    go n = at (ltb n offset_sbx) refl
      where
        at : (b : Bool) → ltb n offset_sbx ≡ b → (pos (pc + 1) +ℤ (pos n -ℤ pos offset_sbx)) ≡ pos (pc + 1 + n) -ℤ pos offset_sbx
        at true e = rw e (low n (ltb-true _ _ e))
        at false e =
            let l : offset_sbx ≤ n = ltb-false _ _ e in
            rw (e, le-ltb (pc + 1 + n) offset_sbx (omega arith)) (ap pos (omega arith))

module _ (row pc sum : ℕ) (p : Proto) (q : RowLimits) (roles : List ℕ) (h : Stands p q roles) (s t : State) where
  -- before the first word
  pub target_before : sum < offset_sbx → t ≡ emitted row pc 5 (4294967295 - (offset_sbx - 1 - sum)) s → t ≡ emit_all row (target_diagnostics p pc (pos sum -ℤ pos offset_sbx)) s
  unfolding target_diagnostics
  target_before l e =
      rw (lt-ltb sum offset_sbx l)
      (e ∙ ap (λ (v : ℕ). emitted row pc 5 v s) (omega arith) ∙ emits_bits row pc 5 (offset_sbx - suc sum) s)

  -- past the last word
  pub target_past : offset_sbx ≤ sum → q.words ≤ sum - offset_sbx → t ≡ emitted row pc 5 (sum - offset_sbx) s → t ≡ emit_all row (target_diagnostics p pc (pos sum -ℤ pos offset_sbx)) s
  unfolding target_diagnostics
  target_past l m e =
      let past : length p.code ≤ sum - offset_sbx = omega (arith, h.words) in
      rw (le-ltb sum offset_sbx l, le-ltb (sum - offset_sbx) (length p.code) past) (e ∙ emits_word row pc 5 (sum - offset_sbx) s)

  -- at a word
  pub target_at : offset_sbx ≤ sum → sum - offset_sbx < q.words → (b : Bool) → b ≡ not (is_executable (role_in roles (sum - offset_sbx))) → (o : Option ℕ) → o ≡ then_some b (sum - offset_sbx) → t ≡ emitted_if row pc 6 o s
      → t ≡ emit_all row (target_diagnostics p pc (pos sum -ℤ pos offset_sbx)) s
  unfolding target_diagnostics i32_bits
  target_at l m b f o g e =
      let there : sum - offset_sbx < length p.code = omega (arith, h.words) in
      let role : b ≡ not (is_executable (role_at p (sum - offset_sbx))) = f ∙ ap (λ (r : Role). not (is_executable r)) (h.roles (sum - offset_sbx)) in
      rw (le-ltb sum offset_sbx l, lt-ltb (sum - offset_sbx) (length p.code) there, ← role) (emits_only row b (diagnostic pc 6 (pos (sum - offset_sbx))) o s t g e)

-- ---- jumps, by the mode of the opcode

module _ (op : Opcode51) (w : RawInstruction51) (d : Decodes op w) (mode : OpMode51) (e : mode ≡ mode_of op) where
  jumps : (b : Bool) → elem (number_of op) with_sbx ≡ b → is_jump w.raw ≡ b
  unfolding is_jump
  jumps b q = sym (listed op w d with_sbx) ∙ q

  pub has_target : mode ≡ IAsBx → is_jump w.raw ≡ true
  unfolding mode_of
  has_target m = jumps true (go (elem (number_of op) with_sbx) (elem (number_of op) with_bx) (sym e ∙ m))
    where
      go : (a b : Bool) → cond a IAsBx (cond b IABx IABC) ≡ IAsBx → a ≡ true
      go true b q = refl
      go false true q = let z : ◌≡◌ {A = ℕ} 0 1 = cc in absurd (omega arith)
      go false false q = let z : ◌≡◌ {A = ℕ} 0 1 = cc in absurd (omega arith)

  pub no_target : (mode ≡ IAsBx → ⊥) → is_jump w.raw ≡ false
  unfolding mode_of
  no_target m = jumps false (go (elem (number_of op) with_sbx) e)
    where
      go : (a : Bool) → mode ≡ cond a IAsBx (cond (elem (number_of op) with_bx) IABx IABC) → a ≡ false
      go true q = absurd (m q)
      go false q = refl

module _ (row pc w : ℕ) (p : Proto) (s : State) where
  -- a word without a target
  pub no_jump : is_jump w ≡ false → s ≡ emit_all row (jump_diagnostics p pc w) s
  unfolding jump_diagnostics
  no_jump e = rw e (emits_none row s)

  -- a word with one
  pub jump : (sum : ℕ) (t : State) → is_jump w ≡ true → sum ≡ pc + 1 + field_bx w → t ≡ emit_all row (target_diagnostics p pc (pos sum -ℤ pos offset_sbx)) s → t ≡ emit_all row (jump_diagnostics p pc w) s
  unfolding jump_diagnostics
  jump sum t e q f = rw (e, target_sum pc w, ← q) f

  -- the skip
  pub skip : (q : RowLimits) (roles : List ℕ) (b : Bool) (t : State) → Stands p q roles → b ≡ is_skip w && not (is_executable (role_in roles (skip_target pc))) → (o : Option ℕ) → o ≡ then_some b (pc + 2) → t ≡ emitted_if row pc 6 o s
      → t ≡ emit_all row (skip_diagnostics p pc w) s
  unfolding skip_diagnostics skip_target i32_bits
  skip q roles b t h e o g f =
      emits_only row b (diagnostic pc 6 (pos (pc + 2))) o s t g f
      ∙ ap (λ (x : Bool). emit_all row (only x (diagnostic pc 6 (pos (pc + 2)))) s) (e ∙ ap (λ (r : Role). is_skip w && not (is_executable r)) (h.roles (pc + 2)))
