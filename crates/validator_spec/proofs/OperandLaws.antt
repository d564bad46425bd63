-- Operands against the table of diagnostics: they are in range exactly where the word has no diagnostic of an operand's code. Assumes nothing.
use Prim.Native.Nat.{ℕ, ◌+◌}
use mathlib.Core.Path.{◌≡◌, refl, sym, subst}
use mathlib.Core.Logic.{◌↔◌}
use mathlib.Core.Bool.{Bool, true, false, not, ◌&&◌}
use mathlib.Core.List.{List, [], ◌∷◌, map}
use lib.Dec.{T, T_not, eqb, leb, ltb, nleb→lt}
use lib.ListN.{length}
use lib.IntN.{ℤ, pos, negsuc}
use Rattle.base.specs.Lists.{All, all_nil, all_cons, elem, only, select, keep_if}
use Rattle.base.proofs.AllLaws.{all_of, all_map, all_head, all_tail, all_flatten, flatten_all, all_flat_map, flat_map_all, all_up_from, up_from_all}
use Rattle.base.proofs.BoolLaws.{by_cond}
use Rattle.roles_spec.specs.Table.{Proto}
use Rattle.roles_spec.specs.Roles.{is_executable, role_at, word_at, binding_words}
use Rattle.validator_spec.specs.Operands.{is_binding, is_jump, target, is_skip, skip_target, flag_a, captured_register, captured_upvalue}
use Rattle.validator_spec.specs.Diagnostics.{Diagnostic, diagnostic, not_below, target_diagnostics, jump_diagnostics, skip_diagnostics, opcode_value, binding_diagnostics, operand_diagnostics, known_diagnostics}
use Rattle.validator_spec.specs.Rules.{Below, registers_of, constants_of, CapturesInRange, OperandsInRange}
use Rattle.validator_spec.specs.Statements.{operand_codes, OfNoOperand}
use Rattle.validator_spec.proofs.RuleDiagnosticLaws.{below_none}

-- ---- one limit

-- no diagnostic of an operand's code: the values are below the limit
below_of : (pc code limit : ℕ) (vs : List ℕ) → T (elem code operand_codes) → All OfNoOperand (not_below pc code limit vs) → Below limit vs
unfolding not_below
below_of pc code limit [] t k = all_nil
below_of pc code limit (v ∷ vs) t k = go (leb limit v) refl (below_of pc code limit vs t) k
  where
    go : (b : Bool) → leb limit v ≡ b → (All OfNoOperand (not_below pc code limit vs) → Below limit vs)
        → All OfNoOperand (map (λ x. diagnostic pc code (pos x)) (keep_if b v (select (λ x. leb limit x) vs))) → Below limit (v ∷ vs)
    go true q rest h = absurd (T_not (elem code operand_codes) (all_head h) t)
    go false q rest h = all_cons (nleb→lt limit v (subst (λ (b : Bool). T (not b)) (sym q) tt)) (rest h)

-- values below the limit have no diagnostic
of_below : (pc code limit : ℕ) (vs : List ℕ) → T (not (eqb code 3)) → Below limit vs → All OfNoOperand (not_below pc code limit vs)
of_below pc code limit vs e k = subst (λ (ds : List Diagnostic). All OfNoOperand ds) (sym (below_none pc code limit vs e k)) all_nil

-- ---- the diagnostics of other codes

other_limit : (pc code limit : ℕ) (vs : List ℕ) → T (not (elem code operand_codes)) → All OfNoOperand (not_below pc code limit vs)
unfolding not_below
other_limit pc code limit vs t = all_map OfNoOperand (λ v. diagnostic pc code (pos v)) (all_of (λ v. t) (select (λ v. leb limit v) vs))

other_only : (b : Bool) (d : Diagnostic) → OfNoOperand d → All OfNoOperand (only b d)
unfolding only
other_only true d t = all_cons t all_nil
other_only false d t = all_nil

other_target : (p : Proto) (pc : ℕ) (z : ℤ) → All OfNoOperand (target_diagnostics p pc z)
unfolding target_diagnostics
other_target p pc (negsuc n) = all_cons tt all_nil
other_target p pc (pos n) =
    by_cond (λ (ds : List Diagnostic). All OfNoOperand ds) (ltb n (length p.code)) _ _ (λ _. other_only (not (is_executable (role_at p n))) (diagnostic pc 6 (pos n)) tt) (λ _. all_cons tt all_nil)

other_jump : (p : Proto) (pc w : ℕ) → All OfNoOperand (jump_diagnostics p pc w)
unfolding jump_diagnostics
other_jump p pc w = by_cond (λ (ds : List Diagnostic). All OfNoOperand ds) (is_jump w) _ _ (λ _. other_target p pc (target pc w)) (λ _. all_nil)

other_skip : (p : Proto) (pc w : ℕ) → All OfNoOperand (skip_diagnostics p pc w)
unfolding skip_diagnostics
other_skip p pc w = other_only (is_skip w && not (is_executable (role_at p (skip_target pc)))) (diagnostic pc 6 (pos (skip_target pc))) tt

-- ---- a companion of a CLOSURE

captures_of : (p : Proto) (pc : ℕ) → All OfNoOperand (binding_diagnostics p pc) → CapturesInRange p (word_at p pc)
unfolding binding_diagnostics
captures_of p pc k =
    let w = word_at p pc in
    let each = flatten_all (only (not (is_binding w)) (diagnostic pc 17 (opcode_value w)) ∷ not_below pc 12 p.stack (captured_register w) ∷ not_below pc 8 p.upvalues (captured_upvalue w) ∷ []) k in
    record {
      register = below_of pc 12 p.stack (captured_register w) tt (all_head (all_tail each));
      upvalue = below_of pc 8 p.upvalues (captured_upvalue w) tt (all_head (all_tail (all_tail each)));
    }

of_captures : (p : Proto) (pc : ℕ) → CapturesInRange p (word_at p pc) → All OfNoOperand (binding_diagnostics p pc)
unfolding binding_diagnostics
of_captures p pc k =
    let w = word_at p pc in
    all_flatten (
    all_cons (other_only (not (is_binding w)) (diagnostic pc 17 (opcode_value w)) tt)
    (all_cons (of_below pc 12 p.stack (captured_register w) tt k.register)
    (all_cons (of_below pc 8 p.upvalues (captured_upvalue w) tt k.upvalue) all_nil)))

-- ---- a word

module _ (p : Proto) (pc : ℕ) where
  abbrev w : ℕ
  w = word_at p pc

  operands_of : All OfNoOperand (known_diagnostics p pc w) → OperandsInRange p pc
  unfolding known_diagnostics operand_diagnostics registers_of constants_of
  operands_of k =
      let each = flatten_all _ k in
      let bound = flat_map_all OfNoOperand (binding_diagnostics p) _ (all_head (all_tail (all_tail (all_tail each)))) in
      let l7 = flatten_all _ (all_head (all_tail (all_tail each))) in
      let l8 = all_tail l7 in
      let l10 = all_tail (all_tail l8) in
      let l11 = all_tail l10 in
      let l12 = all_tail l11 in
      let l13 = all_tail l12 in
      let l14 = all_tail l13 in
      let l15 = all_tail l14 in
      record {
        register = all_flatten (all_cons (below_of pc 10 _ _ tt (all_head l10)) (all_cons (below_of pc 11 _ _ tt (all_head l11)) (all_cons (below_of pc 12 _ _ tt (all_head l12)) (all_cons (below_of pc 13 _ _ tt (all_head l13)) all_nil))));
        constant = all_flatten (all_cons (below_of pc 7 _ _ tt (all_head l7)) (all_cons (below_of pc 14 _ _ tt (all_head l14)) (all_cons (below_of pc 15 _ _ tt (all_head l15)) all_nil)));
        upvalue = below_of pc 8 _ _ tt (all_head l8);
        child = below_of pc 16 _ _ tt (all_head (all_tail l15));
        captures = λ j h. captures_of p (pc + 1 + j) (up_from_all (λ at. All OfNoOperand (binding_diagnostics p at)) (pc + 1) (binding_words p pc) bound j h);
      }

  of_operands : OperandsInRange p pc → All OfNoOperand (known_diagnostics p pc w)
  unfolding known_diagnostics operand_diagnostics registers_of constants_of
  of_operands k =
      let rs = flatten_all _ k.register in
      let cs = flatten_all _ k.constant in
      let within =
      all_flatten (
      all_cons (of_below pc 7 _ _ tt (all_head cs))
      (all_cons (of_below pc 8 _ _ tt k.upvalue)
      (all_cons (other_limit pc 9 _ (flag_a w) tt)
      (all_cons (of_below pc 10 _ _ tt (all_head rs))
      (all_cons (of_below pc 11 _ _ tt (all_head (all_tail rs)))
      (all_cons (of_below pc 12 _ _ tt (all_head (all_tail (all_tail rs))))
      (all_cons (of_below pc 13 _ _ tt (all_head (all_tail (all_tail (all_tail rs)))))
      (all_cons (of_below pc 14 _ _ tt (all_head (all_tail cs)))
      (all_cons (of_below pc 15 _ _ tt (all_head (all_tail (all_tail cs))))
      (all_cons (of_below pc 16 _ _ tt k.child) all_nil)))))))))) in
      let bound = all_flat_map OfNoOperand (binding_diagnostics p) (all_up_from (pc + 1) (binding_words p pc) (λ j h. of_captures p (pc + 1 + j) (k.captures j h))) in
      all_flatten (all_cons (other_jump p pc w) (all_cons (other_skip p pc w) (all_cons within (all_cons bound all_nil))))

pub operands_by_codes : (p : Proto) (pc : ℕ) → OperandsInRange p pc ↔ All OfNoOperand (known_diagnostics p pc (word_at p pc))
operands_by_codes p pc = (of_operands p pc, operands_of p pc)
