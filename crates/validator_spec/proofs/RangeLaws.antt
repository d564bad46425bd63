-- Every diagnostic of an accepted image is one that four i32 hold: its row is one of the table's, its code is one of the document's. Assumes nothing.
use Prim.Native.Nat.{ℕ, suc, ◌+◌, ◌-◌, ◌^◌, ◌≤◌, ◌<◌, min}
use native.Mathlib.Omega.{arith}
use mathlib.Core.Path.{◌≡◌, refl, subst}
use mathlib.Core.Bool.{Bool, true, false, ◌&&◌, ◌||◌, cond}
use mathlib.Core.List.{List, [], ◌∷◌, ◌++◌, map, flat_map, foldl}
use mathlib.Core.Option.{none}
use lib.Dec.{T, leb, ltb, leb→le}
use lib.ListN.{length, get_or, drop, length-append, length-map, length-take, length-drop}
use lib.IntN.{ℤ, pos, negsuc, sub_ℕ, ◌+ℤ◌}
use Rattle.base.specs.Lists.{All, all_nil, all_cons, only, up_from, tabulate}
use Rattle.opcodes.specs.Words.{Field, B, C, opcode, operand, field_a, field_bx, is, is_constant, constant_index, CLOSURE, offset_sbx}
use Rattle.base.specs.Bytes.{u32s, i32_bits}
use Rattle.roles_spec.specs.Table.{Row, rows, Proto, proto_of, protos_of, protos}
use Rattle.roles_spec.specs.Roles.{ClosureBinding, SetlistExtra, executable_at, word_at, binding_count, has_extra, claims, owned, existing, binding_words}
use Rattle.roles_spec.specs.Refusals.{image_refusal, roles_refusal}
use Rattle.roles_spec.specs.Calls.{accepted}
use Rattle.validator_spec.specs.Operands.{is_unknown, is_jump, target, skip_target, constant_bx, upvalue_b, flag_a, register_a, span_ends, register_in, constant_in, child_bx, captured_register, captured_upvalue}
use Rattle.validator_spec.specs.Diagnostics.{Diagnostic, diagnostic, truncation_at, stack_diagnostics, opcode_diagnostics, target_diagnostics, jump_diagnostics, skip_diagnostics, not_below, operand_diagnostics, opcode_value, binding_diagnostics, known_diagnostics, word_diagnostics, diagnostics_at, Step, tested_step, untested_step, proto_steps, code_count}
use Rattle.validator_spec.specs.Walk.{RowDiagnostic, in_row, diagnostic_limit, Walk, start, count_n, advance, walk_row, walk_from, walk, diagnostic_fields}
use Rattle.validator_spec.specs.Image.{Image, image_protos, image_walk, diagnostics}
use Rattle.validator_spec.specs.Check.{Checked, checked, check_refusal, check_answer}
use Rattle.validator_spec.specs.Rules.{Below}
use Rattle.base.proofs.AllLaws.{all_append, all_get_d, all_head, all_flatten, all_select, all_map, all_flat_map, all_imp, all_up_from, all_up_to}
use Rattle.base.proofs.ByteLaws.{length_u32s}
use Rattle.opcodes.proofs.FieldLaws.{field_below, operand_below}
use Rattle.base.proofs.ListLaws.{length_tabulate}
use Rattle.base.proofs.BoolLaws.{t_and, by_cond}
use Rattle.roles_spec.proofs.RefusalLaws.{FieldsKept, or_else_none, image_kept}
use Rattle.roles_spec.proofs.TableLaws.{length_protos_of, children_most}
use Rattle.roles_spec.proofs.AcceptedCallLaws.{accepted_none}
use Rattle.validator_spec.proofs.LimitLaws.{only_most}

-- ---- numbers that an i32 holds

-- a number from -2 ^ 31 to 2 ^ 31 - 1
abbrev pub Signed32 : ℤ → Type 0
Signed32 (pos n) = n < 2 ^ 31
Signed32 (negsuc n) = n < 2 ^ 31

-- the bits of a number that is not negative are the number itself
pub signed_bits_pos : (n : ℕ) → Signed32 (pos n) → (i32_bits (pos n) ≡ n) × (i32_bits (pos n) < 2 ^ 31)
unfolding i32_bits
signed_bits_pos n h = (refl, h)

-- the bits of a negative number are 2 ^ 32 more than it, and the highest bit is set
pub signed_bits_negsuc : (n : ℕ) → Signed32 (negsuc n) → (i32_bits (negsuc n) ≡ 2 ^ 32 - suc n) × (2 ^ 31 ≤ i32_bits (negsuc n)) × (i32_bits (negsuc n) < 2 ^ 32)
unfolding i32_bits
signed_bits_negsuc n h = (refl, omega arith, omega arith)

-- in either case they are a u32
pub signed_bits_below : (z : ℤ) → Signed32 z → i32_bits z < 2 ^ 32
signed_bits_below (pos n) h = omega (arith, (signed_bits_pos n h).1)
signed_bits_below (negsuc n) h = (signed_bits_negsuc n h).2

-- a difference of two naturals
sub_signed : (a b : ℕ) → a < 2 ^ 31 → b ≤ 2 ^ 31 → Signed32 (sub_ℕ a b)
sub_signed a b h k = by_cond Signed32 (ltb a b) (negsuc (b - suc a)) (pos (a - b)) (λ _. omega arith) (λ _. omega arith)

-- ---- diagnostics

-- an i32 holds pc and value, and the code is one of the table's
pub record Held (d : Diagnostic) : Type 0 where
  pub pc : Signed32 d.pc
  pub code : (1 ≤ d.code) × (d.code ≤ code_count)
  pub value : Signed32 d.value

-- such a diagnostic, with a row that is one of `count` rows
pub record InRange (count : ℕ) (d : RowDiagnostic) : Type 0 where
  pub row : d.row < count
  pub held : Held d.diagnostic

-- at a word: `T` computes at each code
held : (pc code : ℕ) (z : ℤ) → pc < 2 ^ 31 → T (leb 1 code && leb code code_count) → Signed32 z → Held (diagnostic pc code z)
held pc code z h t s =
    let k = t_and (leb 1 code) (leb code code_count) t in
    record { pc = h; code = (leb→le 1 code k.0, leb→le code code_count k.1); value = s }

all_only : {A : Type 0} {P : A → Type 0} (b : Bool) (x : A) → P x → All P (only b x)
unfolding only
all_only true x h = all_cons h all_nil
all_only false x h = all_nil

all_if : (b : Bool) {ds : List Diagnostic} → All Held ds → All Held (cond b ds [])
all_if true h = h
all_if false h = all_nil

-- lists of such diagnostics, one after the other
infixr 20 ◌and◌
◌and◌ : {ds : List Diagnostic} {L : List (List Diagnostic)} → All Held ds → All (All Held) L → All (All Held) (ds ∷ L)
h and t = all_cons h t

-- ---- operands

abbrev Small : List ℕ → Type 0
Small = Below (2 ^ 31)

small_bx : (b : Bool) (w : ℕ) → Small (only b (field_bx w))
small_bx b w = all_only b (field_bx w) (omega (arith, field_below 14 18 w))

small_a : (b : Bool) (w : ℕ) → Small (only b (field_a w))
small_a b w = all_only b (field_a w) (omega (arith, field_below 6 8 w))

small_operand : (f : Field) (b : Bool) (w : ℕ) → Small (only b (operand f w))
small_operand f b w = all_only b (operand f w) (omega (arith, operand_below f w))

-- the operands of a field, as a register and as a constant
small_register : (f : Field) (w : ℕ) → Small (register_in f w)
unfolding register_in
small_register f w = small_operand f _ w

small_constant : (f : Field) (w : ℕ) → Small (constant_in f w)
unfolding constant_in constant_index
small_constant f w =
    let h = operand_below f w in
    all_only _ _ (by_cond (λ v. v < 2 ^ 31) (is_constant (operand f w)) (operand f w - 256) (operand f w) (λ _. omega arith) (λ _. omega arith))

small_spans : (w : ℕ) → Small (span_ends w)
unfolding span_ends
small_spans w =
    let a = field_below 6 8 w in
    let b = operand_below B w in
    let c = operand_below C w in
    all_flatten
    (all_cons (all_only _ _ (omega arith))
    (all_cons (all_only _ _ (omega arith))
    (all_cons (all_only _ _ (omega arith))
    (all_cons (all_only _ _ (omega arith))
    (all_cons (all_only _ _ (omega arith))
    (all_cons (all_only _ _ (omega arith))
    (all_cons (all_only _ _ (omega arith))
    (all_cons (all_only _ _ (omega arith)) all_nil))))))))

-- the diagnostics of some operands
held_below : (pc code limit : ℕ) {vs : List ℕ} → pc < 2 ^ 31 → T (leb 1 code && leb code code_count) → Small vs → All Held (not_below pc code limit vs)
unfolding not_below
held_below pc code limit h t s = all_map Held (λ v. diagnostic pc code (pos v)) (all_imp (λ v l. held pc code (pos v) h t l) (all_select (λ v. leb limit v) s))

held_operands : (p : Proto) (pc w : ℕ) → pc < 2 ^ 31 → All Held (operand_diagnostics p pc w)
unfolding operand_diagnostics constant_bx upvalue_b flag_a register_a child_bx
held_operands p pc w h =
    all_flatten (
    held_below pc 7 _ h tt (small_bx _ w)
    and held_below pc 8 _ h tt (small_operand B _ w)
    and held_below pc 9 _ h tt (small_a _ w)
    and held_below pc 10 _ h tt (small_a _ w)
    and held_below pc 11 _ h tt (small_spans w)
    and held_below pc 12 _ h tt (small_register B w)
    and held_below pc 13 _ h tt (small_register C w)
    and held_below pc 14 _ h tt (small_constant B w)
    and held_below pc 15 _ h tt (small_constant C w)
    and held_below pc 16 _ h tt (small_bx _ w)
    and all_nil
    )

-- ---- the other diagnostics of a word

-- a target is at most 131,070 before pc 0
signed_target : (pc w : ℕ) → pc < 2 ^ 30 → Signed32 (target pc w)
unfolding target
signed_target pc w h =
    by_cond (λ z. Signed32 (pos (pc + 1) +ℤ z)) (ltb (field_bx w) offset_sbx) (negsuc (offset_sbx - suc (field_bx w))) (pos (field_bx w - offset_sbx))
    (λ _. sub_signed (pc + 1) (suc (offset_sbx - suc (field_bx w))) (omega arith) (omega arith))
    (λ _. omega (arith, field_below 14 18 w))

held_target : (p : Proto) (pc : ℕ) (z : ℤ) → pc < 2 ^ 31 → Signed32 z → All Held (target_diagnostics p pc z)
unfolding target_diagnostics
held_target p pc (negsuc n) h s = all_cons (held pc 5 (negsuc n) h tt s) all_nil
held_target p pc (pos n) h s =
    by_cond (All Held) (ltb n (length p.code)) _ _ (λ _. all_only _ _ (held pc 6 (pos n) h tt s)) (λ _. all_cons (held pc 5 (pos n) h tt s) all_nil)

held_jump : (p : Proto) (pc w : ℕ) → pc < 2 ^ 30 → All Held (jump_diagnostics p pc w)
unfolding jump_diagnostics
held_jump p pc w h = all_if (is_jump w) (held_target p pc (target pc w) (omega arith) (signed_target pc w h))

held_skip : (p : Proto) (pc w : ℕ) → pc < 2 ^ 30 → All Held (skip_diagnostics p pc w)
unfolding skip_diagnostics skip_target
held_skip p pc w h = all_only _ _ (held pc 6 (pos (pc + 2)) (omega arith) tt (omega arith))

held_binding : (p : Proto) (pc : ℕ) → pc < 2 ^ 31 → All Held (binding_diagnostics p pc)
unfolding binding_diagnostics opcode_value captured_register captured_upvalue
held_binding p pc h =
    let w = word_at p pc in
    let value : Signed32 (opcode_value w) = by_cond Signed32 (is_unknown w) (negsuc 0) (pos (opcode w)) (λ _. omega arith) (λ _. omega (arith, field_below 0 6 w)) in
    all_flatten (all_only _ _ (held pc 17 (opcode_value w) h tt value)
    and held_below pc 12 _ h tt (small_operand B _ w)
    and held_below pc 8 _ h tt (small_operand B _ w)
    and all_nil)

-- a companion that exists has its pc below the number of words
binding_there : (p : Proto) (pc j : ℕ) → j < binding_words p pc → pc + 1 + j < length p.code
unfolding binding_words existing
binding_there p pc j = go (executable_at p pc)
  where
    go : (b : Bool) → j < cond b (min (binding_count p (word_at p pc)) (length p.code - (pc + 1))) 0 → pc + 1 + j < length p.code
    go true h = omega arith
    go false h = absurd (omega arith)

held_known : (p : Proto) (pc w : ℕ) → length p.code ≤ 2 ^ 30 → pc < 2 ^ 30 → All Held (known_diagnostics p pc w)
unfolding known_diagnostics
held_known p pc w l h =
    all_flatten (held_jump p pc w h
    and held_skip p pc w h
    and held_operands p pc w (omega arith)
    and all_flat_map Held (binding_diagnostics p) (all_up_from (pc + 1) (binding_words p pc) (λ j k. held_binding p (pc + 1 + j) (omega (arith, binding_there p pc j k))))
    and all_nil)

-- a word, whatever it is
held_word : (p : Proto) (pc : ℕ) → length p.code ≤ 2 ^ 30 → pc < length p.code → All Held (diagnostics_at p pc)
unfolding diagnostics_at word_diagnostics opcode_diagnostics
held_word p pc l h =
    let w = word_at p pc in
    all_if (executable_at p pc)
    (all_append (all_only (is_unknown w) _ (held pc 4 (pos (opcode w)) (omega arith) tt (omega (arith, field_below 0 6 w))))
    (by_cond (All Held) (is_unknown w) [] (known_diagnostics p pc w) (λ _. all_nil) (λ _. held_known p pc w l (omega arith))))

-- ---- a prototype

-- a prototype with few enough words, registers and upvalues of each child. Nothing is asked of its constants, its own upvalues and what its words are
pub record Few (p : Proto) : Type 0 where
  pub code : length p.code ≤ 2 ^ 30
  pub stack : p.stack ≤ 2 ^ 30
  pub children : All (λ n. n ≤ 2 ^ 30) p.children

-- what a word owns: the binding words of a CLOSURE, or the one of a SETLIST
bindings_few : (p : Proto) (w : ℕ) → All (λ n. n ≤ 2 ^ 30) p.children → binding_count p w ≤ 2 ^ 30
unfolding binding_count
bindings_few p w h =
    by_cond (λ n. n ≤ 2 ^ 30) (is w (CLOSURE ∷ [])) (get_or p.children (field_bx w) 0) 0 (λ _. all_get_d (field_bx w) 0 (omega arith) h) (λ _. omega arith)

owned_few : (p : Proto) (pc : ℕ) → All (λ n. n ≤ 2 ^ 30) p.children → owned p pc ≤ 2 ^ 30 + 1
unfolding owned claims
owned_few p pc h =
    let w = word_at p pc in
    let bound = tabulate (binding_count p w) (ClosureBinding pc) in
    let extra = only (has_extra w) (SetlistExtra pc) in
    by_cond (λ n. n ≤ 2 ^ 30 + 1) (executable_at p pc) (length (bound ++ extra)) 0
    (λ _. omega (arith, length-append bound extra, length_tabulate (ClosureBinding pc) (binding_count p w), bindings_few p w h, only_most (has_extra w) (SetlistExtra pc)))
    (λ _. omega arith)

held_truncation : (p : Proto) (pc : ℕ) → Few p → pc < length p.code → All Held (truncation_at p pc)
unfolding truncation_at
held_truncation p pc f h =
    let l = f.code in
    all_only _ _ (
    by_cond Held (is (word_at p pc) (CLOSURE ∷ [])) _ _
    (λ _. held pc 1 (pos (owned p pc)) (omega arith) tt (omega (arith, owned_few p pc f.children)))
    (λ _. held pc 2 (pos 0) (omega arith) tt (omega arith))
    )

held_stack : (p : Proto) → Few p → All Held (stack_diagnostics p)
unfolding stack_diagnostics
held_stack p f =
    let s = f.stack in
    all_only _ _ (record { pc = omega arith; code = (omega arith, omega arith); value = omega arith })

abbrev HeldStep : Step → Type 0
HeldStep s = All Held s.adds

held_steps : (p : Proto) → Few p → All HeldStep (proto_steps p)
unfolding proto_steps tested_step untested_step
held_steps p f =
    let n = length p.code in
    let cuts : All Held (flat_map (truncation_at p) (up_from 0 n)) = all_flat_map Held (truncation_at p) (all_up_to (λ pc. All Held (truncation_at p pc)) n (λ pc h. held_truncation p pc f h)) in
    let words : All (λ pc. All Held (diagnostics_at p pc)) (up_from 0 n) = all_up_to (λ pc. All Held (diagnostics_at p pc)) n (λ pc h. held_word p pc f.code h) in
    all_flatten
    (all_cons (all_cons all_nil all_nil)
    (all_cons (all_map HeldStep (λ d. tested_step (d ∷ [])) (all_imp (λ d h. all_cons h all_nil) cuts))
    (all_cons (all_cons (held_stack p f) all_nil)
    (all_cons (all_map HeldStep (λ pc. tested_step (diagnostics_at p pc)) words) all_nil))))

-- ---- the walk

abbrev FoundIn : ℕ → Walk → Type 0
FoundIn count v = All (InRange count) v.found

advance_found : (incoming count row : ℕ) (v : Walk) (s : Step) → row < count → FoundIn count v → HeldStep s → FoundIn count (advance incoming row v s)
unfolding advance
advance_found incoming count row v s l h k =
    by_cond (FoundIn count) (v.ended || s.tested && leb diagnostic_limit (count_n incoming v)) _ _
    (λ _. h)
    (λ _. all_append h (all_map (InRange count) (in_row row) (all_imp (λ d r. record { row = l; held = r }) k)))

row_found : (incoming count row : ℕ) (v : Walk) {ss : List Step} → row < count → FoundIn count v → All HeldStep ss → FoundIn count (foldl (advance incoming row) v ss)
row_found incoming count row v l h all_nil = h
row_found incoming count row v l h (all_cons {x = s} k ks) = row_found incoming count row (advance incoming row v s) l (advance_found incoming count row v s l h k) ks

walk_found : (incoming count row : ℕ) (v : Walk) (all : List (List Step)) → row + length all ≤ count → FoundIn count v → All (All HeldStep) all → FoundIn count (walk_from incoming row v all)
unfolding walk_from walk_row
walk_found incoming count row v [] l h all_nil = h
walk_found incoming count row v (ss ∷ rest) l h (all_cons k ks) =
    walk_found incoming count (suc row) (walk_row incoming row v ss) rest (omega arith) (row_found incoming count row v (omega arith) h k) ks

-- the walk over any prototypes that are few enough: every row is one of theirs
pub walk_in_range : (incoming : ℕ) (ps : List Proto) → All Few ps → All (InRange (length ps)) (walk incoming (map proto_steps ps)).found
unfolding walk
walk_in_range incoming ps f =
    walk_found incoming (length ps) 0 start (map proto_steps ps) (omega (arith, length-map ps proto_steps)) all_nil
    (all_map (All HeldStep) proto_steps (all_imp held_steps f))

-- ---- an accepted image

few_protos : (rs : List Row) (words : List ℕ) → All FieldsKept rs → length words ≤ 2 ^ 30 → All Few (protos_of rs words)
unfolding protos_of proto_of
few_protos [] words all_nil l = all_nil
few_protos (r ∷ rs) words (all_cons k ks) l =
    let upvalues = children_most 255 (r ∷ rs) words (all_imp (λ s h. h.upvalues) (all_cons k ks)) in
    let stack = k.stack in
    all_cons {x = proto_of r rs words}
    (record {
      code = omega (arith, length-take r.words words);
      stack = omega arith;
      children = all_imp (λ n h. omega arith) (all_head upvalues);
    })
    (few_protos rs (drop r.words words) ks (omega (arith, length-drop r.words words)))

-- every diagnostic of an accepted image: its row is one of the table's rows, and an i32 holds its pc and its value
pub diagnostics_in_range : (i : Image) → image_refusal i.table i.words ≡ none → All (InRange (length (rows i.table))) (diagnostics i)
unfolding diagnostics image_walk image_protos protos
diagnostics_in_range i e =
    let kept = image_kept i.table i.words e in
    let words = u32s i.words in
    let size : length words ≤ 2 ^ 30 = omega (arith, length_u32s i.words, kept.word_limit) in
    subst (λ (n : ℕ). All (InRange n) (image_walk i).found) (length_protos_of (rows i.table) words)
    (walk_in_range (i.warnings + i.errors) (image_protos i) (few_protos (rows i.table) words kept.fields size))

-- so an i32 holds its row too
pub diagnostics_held : (i : Image) → image_refusal i.table i.words ≡ none → All (InRange (2 ^ 31)) (diagnostics i)
diagnostics_held i e =
    let few = (image_kept i.table i.words e).row_limit in
    all_imp (λ d r. record { row = omega (arith, r.row); held = r.held }) (diagnostics_in_range i e)

-- the diagnostics of an accepted check call
pub check_held : (i : Image) (role_length diagnostics_length : ℕ) (c : Checked) → check_answer i role_length diagnostics_length ≡ accepted c → All (InRange (2 ^ 31)) (diagnostics i)
unfolding check_answer check_refusal roles_refusal
check_held i role_length diagnostics_length c e =
    diagnostics_held i (or_else_none _ _ (or_else_none _ _ (accepted_none (check_refusal i role_length diagnostics_length) (checked i) c e)).0).0

-- the four i32 of such a diagnostic
pub fields_signed : (d : RowDiagnostic) → InRange (2 ^ 31) d → All Signed32 (diagnostic_fields d)
unfolding diagnostic_fields
fields_signed d r =
    let code = r.held.code.1 in
    all_cons r.row (all_cons r.held.pc (all_cons {x = pos d.diagnostic.code} (omega arith) (all_cons r.held.value all_nil)))
