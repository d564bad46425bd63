-- An accepted image has at most 10,255 diagnostics: 9,999 before a word, and 256 of that word. Assumes nothing.
use Prim.Native.Nat.{ℕ, suc, ◌+◌, ◌-◌, ◌≤◌, min}
use native.Mathlib.Nat.{le_refl}
use native.Mathlib.Omega.{arith}
use mathlib.Core.Path.{◌≡◌, refl, sym, ap, subst}
use mathlib.Core.Bool.{Bool, true, false, not, ◌&&◌, ◌||◌, cond}
use mathlib.Core.List.{List, [], ◌∷◌, ◌++◌, map, flat_map, flatten, foldl, append-nil, foldl-append}
use lib.Dec.{T, leb, ltb}
use lib.ListN.{length, get_or, length-append, length-map, get_or-eq_default}
use lib.IntN.{ℤ, pos, negsuc}
use borrow.Author.Tests.{leb-true, leb-false}
use Rattle.base.specs.Lists.{All, all_cons, only, up_from, select, keep_if}
use Rattle.opcodes.specs.Words.{is, opcode, operand, field_a, field_bx, B, C, with_sbx, without_a, MOVE, GETUPVAL, LOADK, GETGLOBAL, SETGLOBAL, SETUPVAL, LOADBOOL, SELF, EQ, LT, LE, TEST, TESTSET, CALL, TAILCALL, RETURN, FORLOOP, FORPREP, TFORLOOP, SETLIST, CLOSURE, VARARG}
use Rattle.base.specs.Bytes.{u32s}
use Rattle.roles_spec.specs.Table.{rows, Proto, protos}
use Rattle.roles_spec.proofs.RefusalLaws.{image_kept}
use Rattle.roles_spec.proofs.TableLaws.{children_most}
use Rattle.roles_spec.specs.Roles.{is_executable, role_at, executable_at, word_at, binding_count, existing, binding_words}
use Rattle.validator_spec.specs.Operands.{is_unknown, is_binding, is_jump, target, is_skip, is_loadbool_skip, skip_target, constant_bx, upvalue_b, flag_a, register_a, span_ends, register_in, constant_in, child_bx, captured_register, captured_upvalue}
use Rattle.validator_spec.specs.Diagnostics.{Diagnostic, diagnostic, opcode_value, not_below, truncation_at, has_large_stack, stack_diagnostics, opcode_diagnostics, target_diagnostics, jump_diagnostics, skip_diagnostics, binding_diagnostics, operand_diagnostics, known_diagnostics, word_diagnostics, diagnostics_at, Step, tested_step, untested_step, proto_steps}
use Rattle.roles_spec.specs.Refusals.{image_refusal, max_upvalues}
use Rattle.std.proofs.Math.Option.{none}
use Rattle.validator_spec.specs.Walk.{in_row, Walk, diagnostic_limit, max_diagnostics, count_n, start, advance, walk_row, walk_from, walk}
use Rattle.validator_spec.specs.Image.{Image, image_protos, image_walk, diagnostics}
use Rattle.base.proofs.AllLaws.{all_get_d, all_imp}
use Rattle.base.proofs.ListLaws.{length_up_from, select_most}
use Rattle.base.proofs.BoolLaws.{true≢false, or_false, t_true, by_cond, disjoint}
use Rattle.opcodes.proofs.OpcodeTestLaws.{is_not, is_among}

-- ---- the most elements of lists end to end

record AtMost {A : Type 0} (L : List (List A)) (n : ℕ) : Type 0 where
  most : length (flatten L) ≤ n

at_most_nil : {A : Type 0} → AtMost {A = A} [] 0
unfolding flatten
at_most_nil = record { most = omega arith }

infixr 20 ◌also◌
◌also◌ : {A : Type 0} {a : List A} {L : List (List A)} {n m : ℕ} → length a ≤ n → AtMost L m → AtMost (a ∷ L) (n + m)
unfolding flatten
◌also◌ {A} {a} {L} {n} {m} h k = record { most = omega (arith, length-append a (flatten L), k.most) }

-- a test that passes gives one, another none
pub only_most : {A : Type 0} (b : Bool) (x : A) → length (only b x) ≤ 1
unfolding only
only_most true x = omega arith
only_most false x = omega arith

below_most : (pc code limit : ℕ) (vs : List ℕ) (n : ℕ) → length vs ≤ n → length (not_below pc code limit vs) ≤ n
unfolding not_below
below_most pc code limit vs n h =
    omega (arith, length-map (select (λ v. leb limit v) vs) (λ v. diagnostic pc code (pos v)), select_most (λ v. leb limit v) vs)

-- one operand
one : (pc code limit : ℕ) (b : Bool) (x : ℕ) → length (not_below pc code limit (only b x)) ≤ 1
one pc code limit b x = below_most pc code limit (only b x) 1 (only_most b x)

-- each element adds one at most
flat_map_most : {A B : Type 0} (f : A → List B) → ((x : A) → length (f x) ≤ 1) → (xs : List A) → length (flat_map f xs) ≤ length xs
unfolding flat_map
flat_map_most f h [] = omega arith
flat_map_most f h (x ∷ xs) = omega (arith, length-append (f x) (flat_map f xs), h x, flat_map_most f h xs)

-- ---- a companion has one at most

binding_most : (p : Proto) (pc : ℕ) → length (binding_diagnostics p pc) ≤ 1
unfolding binding_diagnostics is_binding captured_register captured_upvalue flatten only not_below
binding_most p pc =
    let w = word_at p pc in
    let both = MOVE ∷ GETUPVAL ∷ [] in
    go (is w both) (is w (MOVE ∷ [])) (is w (GETUPVAL ∷ [])) (is_among w (MOVE ∷ []) both tt) (is_among w (GETUPVAL ∷ []) both tt)
    (λ t. is_not w (MOVE ∷ []) (GETUPVAL ∷ []) tt t)
  where
    go : (b m g : Bool) → (T m → T b) → (T g → T b) → (T m → g ≡ false)
        → length (flatten (only (not b) (diagnostic pc 17 (opcode_value (word_at p pc))) ∷ not_below pc 12 p.stack (only m (operand B (word_at p pc))) ∷ not_below pc 8 p.upvalues (only g (operand B (word_at p pc))) ∷ [])) ≤ 1
    go true true true f h k = true≢false (k tt)
    go true true false f h k =
        let most : length (not_below pc 12 p.stack (only true (operand B (word_at p pc))) ++ []) ≤ 1 = rw append-nil (one pc 12 p.stack true (operand B (word_at p pc))) in
        most
    go true false true f h k =
        let most : length (not_below pc 8 p.upvalues (only true (operand B (word_at p pc))) ++ []) ≤ 1 = rw append-nil (one pc 8 p.upvalues true (operand B (word_at p pc))) in
        most
    go true false false f h k = omega arith
    go false true g f h k = absurd (f tt)
    go false false true f h k = absurd (h tt)
    go false false false f h k = omega arith

-- ---- a word that is no CLOSURE has 19 at most

span_most : (w : ℕ) → length (span_ends w) ≤ 8
unfolding span_ends
span_most w =
    (only_most _ _ also only_most _ _ also only_most _ _ also only_most _ _ also only_most _ _ also only_most _ _ also only_most _ _ also only_most _ _ also at_most_nil).most

target_most : (p : Proto) (pc : ℕ) (z : ℤ) → length (target_diagnostics p pc z) ≤ 1
unfolding target_diagnostics
target_most p pc (negsuc n) = omega arith
target_most p pc (pos n) =
    let one : length (diagnostic pc 5 (pos n) ∷ []) ≤ 1 = omega arith in
    by_cond (λ (ds : List Diagnostic). length ds ≤ 1) (ltb n (length p.code)) _ _ (λ _. only_most (not (is_executable (role_at p n))) _) (λ _. one)

jump_most : (p : Proto) (pc w : ℕ) → length (jump_diagnostics p pc w) ≤ 1
unfolding jump_diagnostics
jump_most p pc w = by_cond (λ (ds : List Diagnostic). length ds ≤ 1) (is_jump w) (target_diagnostics p pc (target pc w)) [] (λ _. target_most p pc (target pc w)) (λ _. omega arith)

skip_most : (p : Proto) (pc w : ℕ) → length (skip_diagnostics p pc w) ≤ 1
unfolding skip_diagnostics
skip_most p pc w = only_most (is_skip w && not (is_executable (role_at p (skip_target pc)))) _

operands_most : (p : Proto) (pc w : ℕ) → length (operand_diagnostics p pc w) ≤ 17
unfolding operand_diagnostics constant_bx upvalue_b flag_a register_a register_in constant_in child_bx
operands_most p pc w =
    (one pc 7 _ _ _ also one pc 8 _ _ _ also one pc 9 _ _ _ also one pc 10 _ _ _ also below_most pc 11 _ (span_ends w) 8 (span_most w)
    also one pc 12 _ _ _ also one pc 13 _ _ _ also one pc 14 _ _ _ also one pc 15 _ _ _ also one pc 16 _ _ _ also at_most_nil).most

-- the companions of a word
words_most : (p : Proto) (pc : ℕ) → binding_words p pc ≤ binding_count p (word_at p pc)
unfolding binding_words existing
words_most p pc = go (executable_at p pc)
  where
    go : (b : Bool) → cond b (min (binding_count p (word_at p pc)) (length p.code - (pc + 1))) 0 ≤ binding_count p (word_at p pc)
    go true = omega arith
    go false = omega arith

bindings_most : (p : Proto) (pc : ℕ) → length (flat_map (binding_diagnostics p) (up_from (pc + 1) (binding_words p pc))) ≤ binding_count p (word_at p pc)
bindings_most p pc =
    omega (arith, words_most p pc, flat_map_most (binding_diagnostics p) (binding_most p) (up_from (pc + 1) (binding_words p pc)), length_up_from (pc + 1) (binding_words p pc))

other_most : (p : Proto) (pc : ℕ) → is (word_at p pc) (CLOSURE ∷ []) ≡ false → length (known_diagnostics p pc (word_at p pc)) ≤ 256
unfolding known_diagnostics binding_count
other_most p pc e =
    let none : binding_count p (word_at p pc) ≡ 0 = rw e in
    let most : length (known_diagnostics p pc (word_at p pc)) ≤ 1 + (1 + (17 + (binding_count p (word_at p pc) + 0))) =
    (jump_most p pc (word_at p pc) also skip_most p pc (word_at p pc) also operands_most p pc (word_at p pc) also bindings_most p pc also at_most_nil).most in
    omega arith

-- ---- a CLOSURE has one of register A, and one of each companion or one of a missing child

closure_operands : (p : Proto) (pc w : ℕ) → T (is w (CLOSURE ∷ [])) → operand_diagnostics p pc w ≡ not_below pc 10 p.stack (register_a w) ++ not_below pc 16 (length p.children) (child_bx w)
unfolding operand_diagnostics constant_bx upvalue_b flag_a span_ends register_in constant_in B C flatten not_below only
closure_operands p pc w t =
    let other : (ops : List ℕ) → T (disjoint (CLOSURE ∷ []) ops) → is w ops ≡ false = λ ops d. is_not w (CLOSURE ∷ []) ops d t in
    simp (
      other (LOADK ∷ GETGLOBAL ∷ SETGLOBAL ∷ []) tt,
      other (GETUPVAL ∷ SETUPVAL ∷ []) tt,
      other (EQ ∷ LT ∷ LE ∷ []) tt,
      other (SELF ∷ []) tt,
      other (FORPREP ∷ FORLOOP ∷ []) tt,
      other (TFORLOOP ∷ []) tt,
      other (CALL ∷ []) tt,
      other (TAILCALL ∷ []) tt,
      other (RETURN ∷ VARARG ∷ []) tt,
      other (SETLIST ∷ []) tt,
      other B.fixed tt,
      other B.rk tt,
      other C.fixed tt,
      other C.rk tt,
      append-nil,
    )

closure_jumps : (p : Proto) (pc w : ℕ) → T (is w (CLOSURE ∷ [])) → jump_diagnostics p pc w ++ skip_diagnostics p pc w ≡ []
unfolding jump_diagnostics is_jump skip_diagnostics is_skip is_loadbool_skip only
closure_jumps p pc w t =
    simp (is_not w (CLOSURE ∷ []) with_sbx tt t, is_not w (CLOSURE ∷ []) (EQ ∷ LT ∷ LE ∷ TEST ∷ TESTSET ∷ TFORLOOP ∷ []) tt t, is_not w (CLOSURE ∷ []) (LOADBOOL ∷ []) tt t)

child_most : (p : Proto) (pc w : ℕ) → T (is w (CLOSURE ∷ [])) → All (λ n. n ≤ max_upvalues) p.children
    → length (not_below pc 16 (length p.children) (child_bx w)) + binding_count p w ≤ 255
unfolding not_below child_bx only binding_count
child_most p pc w t h = rw (t_true (is w (CLOSURE ∷ [])) t) (go (leb (length p.children) (field_bx w)) refl)
  where
    go : (b : Bool) → leb (length p.children) (field_bx w) ≡ b
        → length (map (λ v. diagnostic pc 16 (pos v)) (keep_if b (field_bx w) [])) + get_or p.children (field_bx w) 0 ≤ 255
    go true e = omega (arith, get_or-eq_default p.children 0 (leb-true _ _ e))
    go false e = omega (arith, all_get_d (field_bx w) 0 (omega arith) h)

closure_most : (p : Proto) (pc : ℕ) → T (is (word_at p pc) (CLOSURE ∷ [])) → All (λ n. n ≤ max_upvalues) p.children → length (known_diagnostics p pc (word_at p pc)) ≤ 256
unfolding known_diagnostics register_a
closure_most p pc t h =
    let w = word_at p pc in
    let jumps : length (jump_diagnostics p pc w) + length (skip_diagnostics p pc w) ≤ 0 =
    omega (arith, length-append (jump_diagnostics p pc w) (skip_diagnostics p pc w), ap length (closure_jumps p pc w t)) in
    let operands : length (operand_diagnostics p pc w) ≤ 1 + length (not_below pc 16 (length p.children) (child_bx w)) =
    rw (closure_operands p pc w t) (omega (arith, length-append (not_below pc 10 p.stack (register_a w)) (not_below pc 16 (length p.children) (child_bx w)), one pc 10 p.stack (not (is_unknown w) && not (is w without_a)) (field_a w))) in
    let most : length (known_diagnostics p pc w) ≤ length (jump_diagnostics p pc w) + (length (skip_diagnostics p pc w) + (1 + length (not_below pc 16 (length p.children) (child_bx w)) + (binding_count p w + 0))) =
    (le_refl (length (jump_diagnostics p pc w)) also le_refl (length (skip_diagnostics p pc w)) also operands also bindings_most p pc also at_most_nil).most in
    omega (arith, child_most p pc w t h)

-- ---- a word, whatever it is

word_most : (p : Proto) (pc : ℕ) → All (λ n. n ≤ max_upvalues) p.children → length (diagnostics_at p pc) ≤ 256
unfolding diagnostics_at word_diagnostics opcode_diagnostics only
word_most p pc h = at (executable_at p pc) (is_unknown (word_at p pc)) (is (word_at p pc) (CLOSURE ∷ [])) refl
  where
    at : (x u c : Bool) → is (word_at p pc) (CLOSURE ∷ []) ≡ c
        → length (cond x (only u (diagnostic pc 4 (pos (opcode (word_at p pc)))) ++ cond u [] (known_diagnostics p pc (word_at p pc))) []) ≤ 256
    at true true c e = omega arith
    at true false true e = closure_most p pc (subst T (sym e) tt) h
    at true false false e = other_most p pc e
    at false u c e = omega arith

-- ---- the walk

-- at most `max_diagnostics` are found, and at most `going` where the walk goes on
record Within (going : ℕ) (v : Walk) : Type 0 where
  most : length v.found ≤ max_diagnostics
  while_going : v.ended ≡ false → length v.found ≤ going

within_more : {m n : ℕ} {v : Walk} → m ≤ n → Within m v → Within n v
within_more h k = record { most = k.most; while_going = λ e. omega (arith, k.while_going e) }

-- a step ends the walk or adds its diagnostics
step_within : (incoming row m n : ℕ) (v : Walk) (s : Step) → Within m v → (v.ended ≡ false → (s.tested && leb diagnostic_limit (count_n incoming v)) ≡ false → length v.found + length s.adds ≤ n)
    → n ≤ max_diagnostics → Within n (advance incoming row v s)
unfolding advance
step_within incoming row m n v s k h l = go (v.ended || s.tested && leb diagnostic_limit (count_n incoming v)) refl
  where
    go : (b : Bool) → (v.ended || s.tested && leb diagnostic_limit (count_n incoming v)) ≡ b
        → Within n (cond b (record { found = v.found; ended = true }) (record { found = v.found ++ map (in_row row) s.adds; ended = false }))
    go true e = record { most = k.most; while_going = λ f. true≢false f }
    go false e =
        let t = or_false v.ended (s.tested && leb diagnostic_limit (count_n incoming v)) e in
        let count : length (v.found ++ map (in_row row) s.adds) ≤ n =
        omega (arith, length-append v.found (map (in_row row) s.adds), length-map s.adds (in_row row), h t.0 t.1) in
        record { most = omega arith; while_going = λ _. count }

-- a tested step that adds at most a: N was below the limit before it
tested_within : (incoming row m a : ℕ) (v : Walk) (ds : List Diagnostic) → Within m v → length ds ≤ a → a ≤ 256 → Within (9999 + a) (advance incoming row v (tested_step ds))
unfolding tested_step
tested_within incoming row m a v ds k h l =
    step_within incoming row m (9999 + a) v (tested_step ds) k (λ e t. omega (arith, leb-false diagnostic_limit (count_n incoming v) t)) (omega arith)

-- an untested step
untested_within : (incoming row m a : ℕ) (v : Walk) (ds : List Diagnostic) → Within m v → length ds ≤ a → m + a ≤ max_diagnostics → Within (m + a) (advance incoming row v (untested_step ds))
unfolding untested_step
untested_within incoming row m a v ds k h l =
    step_within incoming row m (m + a) v (untested_step ds) k (λ e t. omega (arith, k.while_going e)) l

-- any number of tested steps of at most a each
steps_within : {A : Type 0} (incoming row a : ℕ) (f : A → List Diagnostic) → ((x : A) → length (f x) ≤ a) → a ≤ 256 → (xs : List A) (v : Walk)
    → Within (9999 + a) v → Within (9999 + a) (foldl (advance incoming row) v (map (λ x. tested_step (f x)) xs))
steps_within incoming row a f h l [] v k = k
steps_within incoming row a f h l (x ∷ xs) v k =
    steps_within incoming row a f h l xs (advance incoming row v (tested_step (f x))) (tested_within incoming row (9999 + a) a v (f x) k (h x) l)

-- a row: its start, its truncations, its stack, its words
row_within : (incoming row : ℕ) (p : Proto) (v : Walk) → All (λ n. n ≤ max_upvalues) p.children → Within max_diagnostics v → Within max_diagnostics (walk_row incoming row v (proto_steps p))
unfolding walk_row proto_steps flatten stack_diagnostics
row_within incoming row p v h k =
    let pcs = up_from 0 (length p.code) in
    let cuts = flat_map (truncation_at p) pcs in
    let step = advance incoming row in
    let first = step v (tested_step []) in
    let second = foldl step first (map (λ d. tested_step (d ∷ [])) cuts) in
    let third = step second (untested_step (stack_diagnostics p)) in
    let a : Within diagnostic_limit first = within_more (omega arith) (tested_within incoming row max_diagnostics 0 v [] k (omega arith) (omega arith)) in
    let b : Within diagnostic_limit second = steps_within incoming row 1 (λ d. d ∷ []) (λ d. omega arith) (omega arith) cuts first a in
    let c : Within 10001 third = untested_within incoming row 10000 1 second (stack_diagnostics p) b (only_most (has_large_stack p) _) (omega arith) in
    let d = steps_within incoming row 256 (diagnostics_at p) (λ pc. word_most p pc h) (omega arith) pcs third (within_more (omega arith) c) in
    rw (append-nil, foldl-append step) d

-- all rows
walk_within : (incoming row : ℕ) (ps : List Proto) (v : Walk) → All (λ (p : Proto). All (λ n. n ≤ max_upvalues) p.children) ps → Within max_diagnostics v → Within max_diagnostics (walk_from incoming row v (map proto_steps ps))
unfolding walk_from
walk_within incoming row [] v h k = k
walk_within incoming row (p ∷ ps) v (all_cons h hs) k = walk_within incoming (suc row) ps (walk_row incoming row v (proto_steps p)) hs (row_within incoming row p v h k)

-- an accepted image
pub at_most : (i : Image) → image_refusal i.table i.words ≡ none → length (diagnostics i) ≤ max_diagnostics
unfolding diagnostics image_walk image_protos protos walk
at_most i a =
    let kept = image_kept i.table i.words a in
    let few = children_most max_upvalues (rows i.table) (u32s i.words) (all_imp (λ r h. h.upvalues) kept.fields) in
    (walk_within (i.warnings + i.errors) 0 (image_protos i) start few (record { most = omega arith; while_going = λ _. omega arith })).most
