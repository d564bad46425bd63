-- An accepted image with 10,255 diagnostics and nothing that came in: 9,999 words of an unknown opcode, and then a CLOSURE with a register and 255
-- companions to complain of. Assumes nothing.
use Prim.Native.Nat.{ℕ, zero, suc, ◌+◌, ◌-◌, ◌*◌, ◌≤◌, ◌<◌, ◌^◌, min}
use native.Mathlib.Nat.{add-zero, zero-add, add-suc, suc-add, not-suc-le-zero, le_of_suc-le-suc}
use native.Mathlib.Omega.{arith}
use mathlib.Core.Path.{◌≡◌, refl, sym, ◌∙◌, ap, ap₂, subst⁻¹}
use mathlib.Core.Bool.{Bool, true, false, or-true}
use mathlib.Core.List.{List, [], ◌∷◌, ◌++◌, map, flat_map, flatten, foldl, append-nil, foldl-append, map-append}
use lib.Dec.{ltb, eqb}
use borrow.Author.Tests.{le-leb, le-ltb, ltb-true, ltb-false, eqb-true, eqb-false}
use lib.ListN.{length, get_or, take, replicate, length-append, length-map, length-replicate, get_or-replicate, get_or-append}
use lib.Seq.{take_all, get_or_at, get_or-append-add}
use Rattle.base.specs.Lists.{All, all_nil, all_cons, only, up_from, tabulate}
use Rattle.opcodes.specs.Words.{is, B, C}
use Rattle.roles_spec.specs.Table.{Proto, row_bytes}
use Rattle.roles_spec.specs.Roles.{Role, Instruction, ClosureBinding, binding_count, has_extra, claims, roles_from, roles, role_at, word_at, executable_at, Executable, owned, existing, companions, is_truncated, binding_words}
use Rattle.validator_spec.specs.Operands.{is_unknown, is_binding, is_jump, is_skip, is_loadbool_skip, constant_bx, upvalue_b, flag_a, register_a, span_ends, register_in, constant_in, child_bx, captured_register, captured_upvalue}
use Rattle.validator_spec.specs.Diagnostics.{Diagnostic, truncation_at, opcode_diagnostics, jump_diagnostics, skip_diagnostics, not_below, operand_diagnostics, binding_diagnostics, known_diagnostics, word_diagnostics, diagnostics_at}
use Rattle.validator_spec.specs.Diagnostics.{Step, tested_step, untested_step, has_large_stack, stack_diagnostics, proto_steps}
use Rattle.validator_spec.specs.Walk.{in_row, Walk, diagnostic_limit, max_diagnostics, count_n, start, advance, walk_row, walk_from, walk}
use Rattle.validator_spec.proofs.VerdictLaws.{advance_going}
use Rattle.validator_spec.proofs.TreeLaws.{Begins, begins, advance_ended, proto_begins}
use Rattle.base.specs.Bytes.{u32_from, u32_bytes, u32_record}
use Rattle.roles_spec.specs.Table.{row_at, rows, below, children, proto_of, protos_of, protos}
use mathlib.Core.Option.{none}
use Rattle.roles_spec.specs.Refusals.{refuse_if, or_else, depth_fits, bad_depth, fields_fit, bad_field, word_total, image_refusal}
use Rattle.roles_spec.specs.Samples.{row, plain_row, plain_proto}
use Rattle.validator_spec.specs.Image.{Image, image_protos, image_walk, diagnostics}
use Rattle.base.proofs.ByteLaws.{length_u32_record, u32s_record}
use Rattle.base.proofs.AllLaws.{all_append, all_up_from, all_up_to, flat_map_none}
use Rattle.base.proofs.ListLaws.{length_up_from, length_tabulate}
use Rattle.base.proofs.BoolLaws.{t_true, by_cond}
use Rattle.roles_spec.proofs.RoleLaws.{role_executable, executable, owned_count}

-- a word of an unknown opcode
abbrev junk : ℕ
junk = 63

-- a walk that goes on and has found n diagnostics
record Reached (n : ℕ) (v : Walk) : Type 0 where
  going : v.ended ≡ false
  count : length v.found ≡ n

-- n words of opcode 63, a CLOSURE of child 0, and its m companions of opcode 63
unfoldable pub full_code : ℕ → ℕ → List ℕ
full_code n m = replicate n 63 ++ 36 ∷ replicate m 63

unfoldable pub full_proto : ℕ → ℕ → Proto
full_proto n m = plain_proto (full_code n m) 0 0 (m ∷ [])

length_code : (n m : ℕ) → length (full_code n m) ≡ n + suc m
unfolding full_code
length_code n m = length-append (replicate n 63) (36 ∷ replicate m 63) ∙ omega (arith, length-replicate n junk, length-replicate m junk)

-- ---- its words and roles

word_before : (n m pc : ℕ) → pc < n → word_at (full_proto n m) pc ≡ 63
unfolding word_at full_proto full_code
word_before n m pc h = get_or-append (replicate n 63) (36 ∷ replicate m 63) 0 pc (omega (arith, length-replicate n junk)) ∙ get_or-replicate n pc 63 0 h

word_there : (n m : ℕ) → word_at (full_proto n m) n ≡ 36
unfolding word_at full_proto full_code
word_there n m = get_or_at (replicate n 63) 36 (replicate m 63) 0 n (length-replicate n junk)

word_after : (n m j : ℕ) → j < m → word_at (full_proto n m) (n + 1 + j) ≡ 63
unfolding word_at full_proto full_code
word_after n m j h =
    ap (λ (k : ℕ). get_or (replicate n 63 ++ 36 ∷ replicate m 63) k 0) (omega (arith, length-replicate n junk))
    ∙ get_or-append-add (replicate n 63) (36 ∷ replicate m 63) (suc j) 0
    ∙ get_or-replicate m j 63 0 h

-- words that own nothing are executable, one after the other
roles_before : (p : Proto) (n pc : ℕ) (ws : List ℕ) → roles_from p pc [] (replicate n 63 ++ ws) ≡ replicate n Instruction ++ roles_from p (pc + n) [] ws
unfolding roles_from claims binding_count has_extra is only
roles_before p zero pc ws = ap (λ (k : ℕ). roles_from p k [] ws) (sym (add-zero pc))
roles_before p (suc n) pc ws =
    ap (λ (l : List Role). Instruction ∷ l) (roles_before p n (suc pc) ws ∙ ap (λ (k : ℕ). replicate n Instruction ++ roles_from p k [] ws) (suc-add pc n ∙ sym (add-suc pc n)))

instructions : (n pc : ℕ) (rest : List Role) → pc < suc n → get_or (replicate n Instruction ++ Instruction ∷ rest) pc Instruction ≡ Instruction
instructions zero zero rest h = refl
instructions zero (suc pc) rest h = absurd (not-suc-le-zero (le_of_suc-le-suc h))
instructions (suc n) zero rest h = refl
instructions (suc n) (suc pc) rest h = instructions n pc rest (le_of_suc-le-suc h)

executable_there : (n m pc : ℕ) → pc < suc n → Executable (full_proto n m) pc
unfolding role_at roles full_proto full_code roles_from
executable_there n m pc h =
    let p = full_proto n m in
    let e : role_at p pc ≡ Instruction = ap (λ (l : List Role). get_or l pc Instruction) (roles_before p n 0 (36 ∷ replicate m junk)) ∙ instructions n pc _ h in
    executable p pc (omega (arith, length_code n m)) (role_executable e)

-- ---- its diagnostics

one_before : (n m pc : ℕ) → pc < n → length (diagnostics_at (full_proto n m) pc) ≡ 1
unfolding diagnostics_at word_diagnostics opcode_diagnostics is_unknown only
one_before n m pc h = rw (t_true (executable_at (full_proto n m) pc) (executable_there n m pc (omega arith)), word_before n m pc h)

one_after : (n m j : ℕ) → j < m → length (binding_diagnostics (full_proto n m) (n + 1 + j)) ≡ 1
unfolding binding_diagnostics is_binding captured_register captured_upvalue not_below is only flatten
one_after n m j h = rw (word_after n m j h)

full_binding_words : (n m : ℕ) → binding_words (full_proto n m) n ≡ m
unfolding binding_words existing binding_count is full_proto
full_binding_words n m =
    rw (t_true (executable_at (full_proto n m) n) (executable_there n m n (omega arith)), word_there n m) (omega (arith, length_code n m))

-- ones, end to end
flat_map_ones : {A : Type 0} (f : A → List Diagnostic) {xs : List A} → All (λ x. length (f x) ≡ 1) xs → length (flat_map f xs) ≡ length xs
unfolding flat_map
flat_map_ones f all_nil = refl
flat_map_ones f (all_cons {x} {xs} h hs) = length-append (f x) (flat_map f xs) ∙ omega (arith, flat_map_ones f hs)

closure_there : (n m : ℕ) → length (known_diagnostics (full_proto n m) n 36) ≡ suc m
unfolding known_diagnostics jump_diagnostics is_jump skip_diagnostics is_skip is_loadbool_skip operand_diagnostics not_below constant_bx upvalue_b flag_a register_a is_unknown span_ends register_in constant_in child_bx is B C only flatten full_proto
closure_there n m =
    let p = full_proto n m in
    let bound = up_from (n + 1) (binding_words p n) in
    let ones : All (λ pc. length (binding_diagnostics p pc) ≡ 1) bound = all_up_from (n + 1) (binding_words p n) (λ j h. one_after n m j (omega (arith, full_binding_words n m))) in
    ap suc (ap length (append-nil (flat_map (binding_diagnostics p) bound)) ∙ flat_map_ones (binding_diagnostics p) ones ∙ length_up_from (n + 1) (binding_words p n) ∙ full_binding_words n m)

many_there : (n m : ℕ) → length (diagnostics_at (full_proto n m) n) ≡ suc m
unfolding diagnostics_at word_diagnostics opcode_diagnostics is_unknown only
many_there n m = rw (t_true (executable_at (full_proto n m) n) (executable_there n m n (omega arith)), word_there n m) (closure_there n m)

-- none is truncated: a word of opcode 63 owns nothing, and the CLOSURE has all m
not_truncated : (n m pc o : ℕ) → owned (full_proto n m) pc ≡ o → pc + o < n + suc m → truncation_at (full_proto n m) pc ≡ []
unfolding truncation_at is_truncated companions existing only full_proto
not_truncated n m pc o e h =
    let p = full_proto n m in
    rw (le-ltb (min (owned p pc) (length p.code - (pc + 1))) (owned p pc) (omega (arith, length_code n m)))

junk_owns : (n m pc : ℕ) → word_at (full_proto n m) pc ≡ 63 → owned (full_proto n m) pc ≡ 0
unfolding owned claims binding_count has_extra is only
junk_owns n m pc e =
    let p = full_proto n m in
    by_cond (λ (k : ℕ). k ≡ 0) (executable_at p pc) (length (claims p pc (word_at p pc))) 0 (λ _. rw e) (λ _. refl)

closure_owns : (n m : ℕ) → owned (full_proto n m) n ≡ m
unfolding claims binding_count has_extra is only full_proto
closure_owns n m = owned_count (full_proto n m) n (executable_there n m n (omega arith)) ∙ rw (word_there n m) (ap length (append-nil (tabulate m (ClosureBinding n))) ∙ length_tabulate (ClosureBinding n) m)

whole : (n m pc : ℕ) → pc < n + suc m → truncation_at (full_proto n m) pc ≡ []
whole n m pc h = go (ltb pc n) (eqb pc n) refl refl
  where
    go : (b c : Bool) → ltb pc n ≡ b → eqb pc n ≡ c → truncation_at (full_proto n m) pc ≡ []
    go true c e f = not_truncated n m pc 0 (junk_owns n m pc (word_before n m pc (ltb-true pc n e))) (omega arith)
    go false true e f =
        let same : pc ≡ n = eqb-true pc n f in
        not_truncated n m pc m (ap (owned (full_proto n m)) same ∙ closure_owns n m) (omega arith)
    go false false e f =
        let past : n ≤ pc = ltb-false pc n e in
        let other : pc ≡ n → ⊥ = eqb-false pc n f in
        let at : pc ≡ n + 1 + (pc - (n + 1)) = omega arith in
        not_truncated n m pc 0 (junk_owns n m pc (ap (word_at (full_proto n m)) at ∙ word_after n m (pc - (n + 1)) (omega arith))) (omega arith)

-- ---- the walk over it

reached_as : {n m : ℕ} {v : Walk} → n ≡ m → Reached n v → Reached m v
reached_as e r = record { going = r.going; count = r.count ∙ e }

-- a step below the limit
step_reached : (row n : ℕ) (v : Walk) (s : Step) → Reached n v → n < diagnostic_limit → Reached (n + length s.adds) (advance 0 row v s)
step_reached row n v s r h =
    subst⁻¹ (Reached (n + length s.adds)) (advance_going 0 row v s r.going (omega (arith, r.count)))
    (record { going = refl; count = length-append v.found (map (in_row row) s.adds) ∙ omega (arith, r.count, length-map s.adds (in_row row)) })

-- tested steps of one diagnostic each, up to the limit
ones_reached : (row n : ℕ) (f : ℕ → List Diagnostic) (xs : List ℕ) (v : Walk) → All (λ x. length (f x) ≡ 1) xs → Reached n v → n + length xs ≤ diagnostic_limit
    → Reached (n + length xs) (foldl (advance 0 row) v (map (λ x. tested_step (f x)) xs))
unfolding tested_step
ones_reached row n f [] v all_nil r l = reached_as (omega arith) r
ones_reached row n f (x ∷ xs) v (all_cons h hs) r l =
    reached_as (omega arith)
    (ones_reached row (n + 1) f xs (advance 0 row v (tested_step (f x))) hs (reached_as (omega arith) (step_reached row n v (tested_step (f x)) r (omega arith))) (omega arith))

-- once N has reached the limit, tested steps add nothing
record Full (n : ℕ) (v : Walk) : Type 0 where
  limit : diagnostic_limit ≤ n
  count : length v.found ≡ n

full_stays : (row n : ℕ) (v : Walk) (ds : List Diagnostic) → Full n v → Full n (advance 0 row v (tested_step ds)) × ((advance 0 row v (tested_step ds)).ended ≡ true)
unfolding advance tested_step
full_stays row n v ds k = rw (le-leb diagnostic_limit (count_n 0 v) (omega (arith, k.limit, k.count)), or-true) (record { limit = k.limit; count = k.count }, refl)

full_word_steps : (row n : ℕ) (f : ℕ → List Diagnostic) (xs : List ℕ) (v : Walk) → Full n v → Full n (foldl (advance 0 row) v (map (λ x. tested_step (f x)) xs))
full_word_steps row n f [] v k = k
full_word_steps row n f (x ∷ xs) v k = full_word_steps row n f xs (advance 0 row v (tested_step (f x))) (full_stays row n v (f x) k).0

ended_stays : (row : ℕ) (steps : List Step) (v : Walk) → v.ended ≡ true → foldl (advance 0 row) v steps ≡ v
ended_stays row [] v e = refl
ended_stays row (s ∷ steps) v e = ap (λ (u : Walk). foldl (advance 0 row) u steps) (advance_ended 0 row v s e) ∙ ended_stays row steps v e

full_row : (row n : ℕ) {steps : List Step} (v : Walk) → Begins steps → Full n v → Full n (walk_row 0 row v steps)
unfolding walk_row
full_row row n v (begins rest) k =
    let s = full_stays row n v [] k in
    subst⁻¹ (Full n) (ended_stays row rest (advance 0 row v (tested_step [])) s.1) s.0

-- the pcs of its words: those before the CLOSURE, the CLOSURE's, and the companions'
up_from_add : (i n m : ℕ) → up_from i (n + m) ≡ up_from i n ++ up_from (i + n) m
up_from_add i zero m = ap₂ up_from (sym (add-zero i)) (zero-add m)
up_from_add i (suc n) m =
    rw suc-add (ap (λ (l : List ℕ). i ∷ l) (up_from_add (suc i) n m ∙ ap (λ (k : ℕ). up_from (suc i) n ++ up_from k m) (suc-add i n ∙ sym (add-suc i n))))

pcs_split : (n m : ℕ) → up_from 0 (length (full_proto n m).code) ≡ up_from 0 n ++ n ∷ up_from (suc n) m
unfolding full_proto
pcs_split n m = ap (up_from 0) (length_code n m) ∙ up_from_add 0 n (suc m) ∙ rw zero-add

full_steps : (n m : ℕ)
    → proto_steps (full_proto n m)
    ≡ tested_step [] ∷ untested_step [] ∷ (map (λ pc. tested_step (diagnostics_at (full_proto n m) pc)) (up_from 0 n) ++ map (λ pc. tested_step (diagnostics_at (full_proto n m) pc)) (n ∷ up_from (suc n) m))
unfolding proto_steps flatten stack_diagnostics has_large_stack only full_proto
full_steps n m =
    let p = full_proto n m in
    let uncut : flat_map (truncation_at p) (up_from 0 (length p.code)) ≡ [] =
    flat_map_none (truncation_at p) (all_up_to (λ pc. truncation_at p pc ≡ []) (length p.code) (λ pc h. whole n m pc (omega (arith, length_code n m)))) in
    rw (uncut, append-nil, pcs_split n m, map-append)

proto_full : (n m : ℕ) → n ≡ 9999 → Full (n + suc m) (walk_row 0 0 start (proto_steps (full_proto n m)))
unfolding walk_row tested_step untested_step
proto_full n m e =
    let f = diagnostics_at (full_proto n m) in
    let first = advance 0 0 (advance 0 0 start (tested_step [])) (untested_step []) in
    let before = foldl (advance 0 0) first (map (λ pc. tested_step (f pc)) (up_from 0 n)) in
    let a : Reached 0 first = step_reached 0 0 _ (untested_step []) (step_reached 0 0 start (tested_step []) (record { going = refl; count = refl }) (omega arith)) (omega arith) in
    let b : Reached n before = reached_as (zero-add (length (up_from 0 n)) ∙ length_up_from 0 n) (ones_reached 0 0 f (up_from 0 n) first (all_up_to (λ pc. length (f pc) ≡ 1) n (λ pc h. one_before n m pc h)) a (omega (arith, length_up_from 0 n))) in
    let c = step_reached 0 n before (tested_step (f n)) b (omega arith) in
    let d : Full (n + suc m) (advance 0 0 before (tested_step (f n))) = record { limit = omega arith; count = c.count ∙ ap (λ (k : ℕ). n + k) (many_there n m) } in
    rw (full_steps n m, foldl-append (advance 0 0)) (full_word_steps 0 (n + suc m) f (up_from (suc n) m) (advance 0 0 before (tested_step (f n))) d)

-- ---- the image: row 0 with these words, and its child, without words

unfoldable pub full_table : List ℕ
full_table = u32_record (row 0 10255 0 0 0 ++ row 1 0 0 255 0)

unfoldable pub full_words : List ℕ
full_words = u32_record (full_code 9999 255)

unfoldable pub fullest : Image
fullest = record { table = full_table; words = full_words; warnings = 0; errors = 0 }

length_table : length full_table ≡ 2 * row_bytes
unfolding full_table u32_record u32_bytes flat_map
length_table = refl

length_words : length full_words ≡ 41020
unfolding full_words
length_words = length_u32_record (full_code 9999 255) ∙ ap (λ (n : ℕ). 4 * n) (length_code 9999 255)

full_rows : rows full_table
    ≡ plain_row 0 0 10255 0 ∷ plain_row 1 1 0 255 ∷ []
unfolding full_table rows row_at u32_from u32_record u32_bytes flat_map
full_rows = refl

pub fullest_accepted : image_refusal (fullest).table (fullest).words ≡ none
unfolding fullest image_refusal refuse_if or_else bad_depth depth_fits bad_field fields_fit word_total
fullest_accepted = rw (length_table, full_rows, length_words)

junk_small : (n : ℕ) → All (λ w. w < 2 ^ 32) (replicate n junk)
junk_small zero = all_nil
junk_small (suc n) = all_cons {x = junk} (omega arith) (junk_small n)

words_small : (n m : ℕ) → All (λ w. w < 2 ^ 32) (full_code n m)
unfolding full_code
words_small n m = all_append (junk_small n) (all_cons {x = 36} (omega arith) (junk_small m))

fullest_protos : image_protos fullest ≡ full_proto 9999 255 ∷ plain_proto [] 255 0 [] ∷ []
unfolding image_protos protos protos_of proto_of children below fullest full_proto full_words
fullest_protos =
    let all : take 10255 (full_code 9999 255) ≡ full_code 9999 255 = take_all 10255 (full_code 9999 255) (omega (arith, length_code 9999 255)) in
    rw (full_rows, u32s_record (full_code 9999 255) (words_small 9999 255), all)

pub fullest_count : length (diagnostics fullest) ≡ max_diagnostics
unfolding diagnostics image_walk walk walk_from fullest
fullest_count =
    let second : Proto = plain_proto [] 255 0 [] in
    subst⁻¹ (λ (ps : List Proto). length (walk_from 0 0 start (map proto_steps ps)).found ≡ max_diagnostics) fullest_protos
    (full_row 1 10255 (walk_row 0 0 start (proto_steps (full_proto 9999 255))) (proto_begins second) (proto_full 9999 255 refl)).count
