-- What is proved of document 01's definitions. Open this file first: each theorem stands under the sentence that it states, and its proof cites a law of
-- the modules beside it. Witnesses has, for each rule and each claim about runs, a prototype for which it is false. The definitions are in specs/, but for one image, `fullest` in MostLaws. Assumes nothing.
use Prim.Native.Nat.{ℕ, ◌+◌, ◌*◌, ◌≤◌, ◌<◌}
use mathlib.Core.Path.{◌≡◌, refl, ◌∙◌, subst⁻¹}
use mathlib.Core.Logic.{◌↔◌, ◌⊎◌, ◌≢◌}
use mathlib.Core.Bool.{Bool, true, false, not, ◌&&◌, ◌||◌, cond}
use mathlib.Core.List.{List, [], ◌∷◌, ◌++◌, map, flat_map, flatten}
use lib.Dec.{T, ltb}
use borrow.Author.Tests.{lt-ltb, le-ltb}
use lib.IntN.{ℤ, pos, negsuc}
use lib.ListN.{length, get_or, drop, set}
use Rattle.base.specs.Lists.{All, Some, up_from}
use Rattle.opcodes.specs.Words.{is, operand, B, C, JMP, FORPREP, FORLOOP, EQ, LT, LE, TEST, TESTSET, TFORLOOP, LOADBOOL, CLOSURE, SETLIST, RETURN, TAILCALL}
use Rattle.base.specs.Bytes.{i32_record}
use Rattle.roles_spec.specs.Table.{rows, Proto, protos}
use Rattle.roles_spec.specs.Roles.{Instruction, is_executable, Executable, claims, roles, role_at, word_at, companions, is_truncated, binding_words, role_bytes, records_of}
use Rattle.roles_spec.specs.Bindings.{binding_bytes, binding_records}
use Rattle.std.proofs.Math.Option.{none}
use Rattle.roles_spec.specs.Refusals.{Refused, image_refusal, word_total}
use Rattle.roles_spec.specs.Calls.{accepted, refused, roles_answer, roles_after, image_bindings, bindings_refusal, bindings_answer, bindings_after}
use Rattle.validator_spec.specs.Operands.{is_unknown, target, is_loadbool_skip, conditional_skips, constant_bx, upvalue_b, flag_a, flag_limit, register_a, span_ends, register_in, constant_in, child_bx}
use Rattle.validator_spec.specs.Diagnostics.{Step, tested_step, proto_steps, truncation_at, opcode_diagnostics, jump_diagnostics, skip_diagnostics, not_below, binding_diagnostics, known_diagnostics, diagnostics_at}
use Rattle.validator_spec.specs.Walk.{Walk, in_row, diagnostic_fields, diagnostic_bytes, count_n, advance, diagnostic_limit, max_diagnostics, ValidForParser, Invalid}
use Rattle.validator_spec.specs.Image.{Image, image_protos, image_walk, diagnostics, verdict}
use Rattle.validator_spec.specs.Check.{Checked, check_answer, diagnostics_after}
use Rattle.validator_spec.specs.Rules.{Below, registers_of, constants_of, JumpKept, BindingKept, OperandsInRange, WellFormed}
use Rattle.validator_spec.specs.Executions.{Exit, ended_at, no_word_at, out_of_choices, at, left, arrive, next, meet, run_from, run, SafeRun}
use Rattle.validator_spec.specs.Statements.{large_stacks, IsError, OfNoOperand, walk_by_children, GaveOut, Passed, Guarantee}
use Rattle.validator_spec.specs.Examples.{result, examples, misreadings, word_runs, run_examples}
use Rattle.base.proofs.AllLaws.{all_imp}
use Rattle.roles_spec.proofs.RefusalLaws.{or_else_none}
use Rattle.roles_spec.proofs.AcceptedCallLaws.{accepted_none, accepted_result, roles_written, bindings_written}
use Rattle.roles_spec.proofs.RefusedCallLaws.{roles_untouched}
use Rattle.roles_spec.proofs.RoleLaws.{owned_role, companion_unread, roles_by_children}
use Rattle.validator_spec.proofs.RuleDiagnosticLaws.{well_formed_iff_none, truncated_by_codes, opcode_by_code, jump_by_codes, constant_by_codes, upvalue_by_code, flag_by_code, register_by_codes, proto_by_code, binding_by_codes}
use Rattle.validator_spec.proofs.ExecutionLaws.{runs_safe}
use Rattle.validator_spec.proofs.RunLaws.{one_way, jump_goes, loop_goes, skip_goes, loadbool_goes, owner_goes, return_ends, tailcall_goes, other_goes, ends_there, goes_past, starts_at_0, empty_meets_none, goes_on_from, left_meets_no_more}
use Rattle.validator_spec.proofs.OperandLaws.{operands_by_codes}
use Rattle.validator_spec.proofs.VerdictLaws.{valid_well_formed, well_formed_valid, invalid_iff, advance_going, word_is_one_step}
use Rattle.validator_spec.proofs.LimitLaws.{at_most}
use Rattle.validator_spec.proofs.MostLaws.{fullest, fullest_accepted, fullest_count}
use Rattle.validator_spec.proofs.RangeLaws.{Signed32, diagnostics_held, fields_signed}
use Rattle.validator_spec.proofs.TreeLaws.{image_by_children}
use Rattle.validator_spec.proofs.GuaranteeLaws.{check_guaranteed, bindings_leaves, check_leaves, check_written}
use Rattle.validator_spec.proofs.ExampleLaws.{examples_hold, misreadings_excluded, word_runs_hold, runs_hold}

-- ---- the rules are the conditions of the diagnostics

-- "A part keeps the rules when no condition of codes 1, 2 and 4 to 17 holds in it"
pub rules_are_the_conditions : (p : Proto) → WellFormed p ↔ ((pc : ℕ) → pc < length p.code → (truncation_at p pc ≡ []) × (diagnostics_at p pc ≡ []))
rules_are_the_conditions p = well_formed_iff_none p

-- rule by rule: a rule is kept exactly where there are no diagnostics of its codes

-- "truncated 1, 2"
pub truncated_is_1_2 : (p : Proto) (pc : ℕ) → T (not (is_truncated p pc)) ↔ (truncation_at p pc ≡ [])
truncated_is_1_2 p pc = truncated_by_codes p pc

-- "opcode 4"
pub opcode_is_4 : (p : Proto) (pc : ℕ) → T (not (is_unknown (word_at p pc))) ↔ (opcode_diagnostics pc (word_at p pc) ≡ [])
opcode_is_4 p pc = opcode_by_code p pc

-- "jump 5, 6"
pub jump_is_5_6 : (p : Proto) (pc : ℕ) → JumpKept p pc ↔ (flatten (jump_diagnostics p pc (word_at p pc) ∷ skip_diagnostics p pc (word_at p pc) ∷ []) ≡ [])
jump_is_5_6 p pc = jump_by_codes p pc

-- "constant 7, 14, 15"
pub constant_is_7_14_15 : (p : Proto) (pc : ℕ) → Below p.constants (constants_of (word_at p pc))
    ↔ (flatten (not_below pc 7 p.constants (constant_bx (word_at p pc)) ∷ not_below pc 14 p.constants (constant_in B (word_at p pc)) ∷ not_below pc 15 p.constants (constant_in C (word_at p pc)) ∷ []) ≡ [])
constant_is_7_14_15 p pc = constant_by_codes p pc

-- "upvalue 8"
pub upvalue_is_8 : (p : Proto) (pc : ℕ) → Below p.upvalues (upvalue_b (word_at p pc)) ↔ (not_below pc 8 p.upvalues (upvalue_b (word_at p pc)) ≡ [])
upvalue_is_8 p pc = upvalue_by_code p pc

-- "flag 9"
pub flag_is_9 : (p : Proto) (pc : ℕ) → Below flag_limit (flag_a (word_at p pc)) ↔ (not_below pc 9 flag_limit (flag_a (word_at p pc)) ≡ [])
flag_is_9 p pc = flag_by_code p pc

-- "register 10 to 13"
pub register_is_10_to_13 : (p : Proto) (pc : ℕ) → Below p.stack (registers_of (word_at p pc))
    ↔ (flatten (not_below pc 10 p.stack (register_a (word_at p pc)) ∷ not_below pc 11 p.stack (span_ends (word_at p pc)) ∷ not_below pc 12 p.stack (register_in B (word_at p pc)) ∷ not_below pc 13 p.stack (register_in C (word_at p pc)) ∷ []) ≡ [])
register_is_10_to_13 p pc = register_by_codes p pc

-- "part 16"
pub part_is_16 : (p : Proto) (pc : ℕ) → Below (length p.children) (child_bx (word_at p pc)) ↔ (not_below pc 16 (length p.children) (child_bx (word_at p pc)) ≡ [])
part_is_16 p pc = proto_by_code p pc

-- "binding 17, and 12 and 8 at companions"
pub binding_is_17_12_8 : (p : Proto) (pc : ℕ) → ((j : ℕ) → j < binding_words p pc → BindingKept p (word_at p (pc + 1 + j))) ↔ (flat_map (binding_diagnostics p) (up_from (pc + 1) (binding_words p pc)) ≡ [])
binding_is_17_12_8 p pc = binding_by_codes p pc

-- ---- a. a prototype that keeps the rules: for every list of choices the whole run from pc 0 meets only executable words with all named operands in
-- range, and leaves only at RETURN, TAILCALL or past the last word

pub well_formed_runs_safely : (p : Proto) → WellFormed p → (choices : List Bool) → SafeRun p choices
well_formed_runs_safely p k choices = runs_safe p k choices

-- read out: each word that the run meets is executable and has its operands in range; it leaves only at RETURN, TAILCALL or past the last word
pub safe_run_meets : (p : Proto) (choices : List Bool) → SafeRun p choices → All (λ pc. Executable p pc × OperandsInRange p pc) (run p choices).met
unfolding SafeRun
safe_run_meets p choices s = all_imp (λ pc m. (m.executable, m.operands)) s.met

pub safe_run_ends : (p : Proto) (choices : List Bool) (pc : ℕ) → SafeRun p choices → (run p choices).exit ≡ ended_at pc → T (is (word_at p pc) (RETURN ∷ TAILCALL ∷ []))
unfolding SafeRun
safe_run_ends p choices pc s q = ends_there p (run p choices).exit pc s.exit q

pub safe_run_goes_past : (p : Proto) (choices : List Bool) (z : ℤ) → SafeRun p choices → (run p choices).exit ≡ no_word_at z → (n : ℕ) × (z ≡ pos n) × (length p.code ≤ n)
unfolding SafeRun
safe_run_goes_past p choices z s q = goes_past p (run p choices).exit z s.exit q

-- the operands that a word names are in range exactly where it has no diagnostic of an operand's code, those of a CLOSURE's companions among them
pub operands_have_their_codes : (p : Proto) (pc : ℕ) → OperandsInRange p pc ↔ All OfNoOperand (known_diagnostics p pc (word_at p pc))
operands_have_their_codes p pc = operands_by_codes p pc

-- ---- a run, sentence by sentence, of any prototype. "It starts at place 0"

pub run_starts_at_0 : (p : Proto) (choices : List Bool) → run p choices ≡ run_from p choices (arrive p (pos 0))
unfolding run
run_starts_at_0 p choices = refl

-- a run comes to a word, or "to a place without a word": "past the last word is any place not below the word count"
pub comes_to_a_word : (p : Proto) (n : ℕ) → n < length p.code → arrive p (pos n) ≡ at n
unfolding arrive
comes_to_a_word p n h = rw (lt-ltb n (length p.code) h)

pub comes_past_the_last : (p : Proto) (n : ℕ) → length p.code ≤ n → arrive p (pos n) ≡ left (no_word_at (pos n))
unfolding arrive
comes_past_the_last p n h = rw (le-ltb n (length p.code) h)

pub comes_before_the_first : (p : Proto) (n : ℕ) → arrive p (negsuc n) ≡ left (no_word_at (negsuc n))
unfolding arrive
comes_before_the_first p n = refl

-- "Each step takes one choice"; a run "meets the word at each place it comes to"
pub step_takes_one : (p : Proto) (pc : ℕ) (choice : Bool) (choices : List Bool)
    → run_from p (choice ∷ choices) (at pc) ≡ record { met = pc ∷ (run_from p choices (next p pc choice)).met; exit = (run_from p choices (next p pc choice)).exit }
unfolding run_from meet
step_takes_one p pc choice choices = refl

-- "the one where the list gives out included"
pub list_gives_out : (p : Proto) (pc : ℕ) → run_from p [] (at pc) ≡ record { met = pc ∷ []; exit = out_of_choices }
unfolding run_from
list_gives_out p pc = refl

-- "It leaves where it ends or comes to a place without a word": then it meets nothing more
pub left_for_good : (p : Proto) (choices : List Bool) (e : Exit) → run_from p choices (left e) ≡ record { met = []; exit = e }
unfolding run_from
left_for_good p [] e = refl
left_for_good p (choice ∷ choices) e = refl

-- "JMP goes to its target; FORPREP too"
pub jmp_goes_to_its_target : (p : Proto) (pc : ℕ) (choice : Bool) → T (is (word_at p pc) (JMP ∷ FORPREP ∷ [])) → next p pc choice ≡ arrive p (target pc (word_at p pc))
jmp_goes_to_its_target p pc choice t = jump_goes p pc choice t

-- "FORLOOP there or to the next word"
pub forloop_goes_there_or_on : (p : Proto) (pc : ℕ) (choice : Bool) → T (is (word_at p pc) (FORLOOP ∷ [])) → next p pc choice ≡ cond choice (arrive p (target pc (word_at p pc))) (arrive p (pos (pc + 1)))
forloop_goes_there_or_on p pc choice t = loop_goes p pc choice t

-- "a skip word to place + 1 or + 2"
pub test_skips_or_goes_on : (p : Proto) (pc : ℕ) (choice : Bool) → T (is (word_at p pc) (EQ ∷ LT ∷ LE ∷ TEST ∷ TESTSET ∷ TFORLOOP ∷ [])) → next p pc choice ≡ cond choice (arrive p (pos (pc + 2))) (arrive p (pos (pc + 1)))
test_skips_or_goes_on p pc choice t = skip_goes p pc choice t

-- "LOADBOOL with C not 0 only + 2"
pub loadbool_only_skips : (p : Proto) (pc : ℕ) (choice : Bool) → T (is (word_at p pc) (LOADBOOL ∷ []) && ltb 0 (operand C (word_at p pc))) → next p pc choice ≡ arrive p (pos (pc + 2))
unfolding is_loadbool_skip
loadbool_only_skips p pc choice t = loadbool_goes p pc choice t

-- "an owner past its companions"
pub owner_goes_past_them : (p : Proto) (pc : ℕ) (choice : Bool) → T (is (word_at p pc) (CLOSURE ∷ SETLIST ∷ [])) → next p pc choice ≡ arrive p (pos (pc + 1 + companions p pc))
owner_goes_past_them p pc choice t = owner_goes p pc choice t

-- "RETURN ends"
pub return_only_ends : (p : Proto) (pc : ℕ) (choice : Bool) → T (is (word_at p pc) (RETURN ∷ [])) → next p pc choice ≡ left (ended_at pc)
return_only_ends p pc choice t = return_ends p pc choice t

-- "TAILCALL ends or goes on"
pub tailcall_ends_or_goes_on : (p : Proto) (pc : ℕ) (choice : Bool) → T (is (word_at p pc) (TAILCALL ∷ [])) → next p pc choice ≡ cond choice (left (ended_at pc)) (arrive p (pos (pc + 1)))
tailcall_ends_or_goes_on p pc choice t = tailcall_goes p pc choice t

-- "others go on"
pub others_go_on : (p : Proto) (pc : ℕ) (choice : Bool)
    → T (not (is (word_at p pc) (JMP ∷ FORPREP ∷ FORLOOP ∷ EQ ∷ LT ∷ LE ∷ TEST ∷ TESTSET ∷ TFORLOOP ∷ CLOSURE ∷ SETLIST ∷ RETURN ∷ TAILCALL ∷ []) || is (word_at p pc) (LOADBOOL ∷ []) && ltb 0 (operand C (word_at p pc))))
    → next p pc choice ≡ arrive p (pos (pc + 1))
unfolding is_loadbool_skip
others_go_on p pc choice t = other_goes p pc choice t

-- ---- runs go as the tables of runs say: each way of each kind of word, and where a run begins, stands and leaves

pub words_go : map (λ e. run e.proto e.choices) word_runs ≡ map (λ e. e.expected) word_runs
words_go = word_runs_hold

pub runs_go : map (λ e. run e.proto e.choices) run_examples ≡ map (λ e. e.expected) run_examples
runs_go = runs_hold

-- the choice "counts only where two ways are given", at FORLOOP, TAILCALL and the six test words: elsewhere both choices go the same way
pub choice_counts_only_there : (p : Proto) (pc : ℕ) → T (not (is (word_at p pc) (FORLOOP ∷ TAILCALL ∷ conditional_skips))) → next p pc true ≡ next p pc false
choice_counts_only_there p pc t = one_way p pc t

-- `met` begins with place 0 where there is a word; "An empty part has no run"
pub first_word_is_met : (p : Proto) (choices : List Bool) → 0 < length p.code → (rest : List ℕ) × ((run p choices).met ≡ 0 ∷ rest)
first_word_is_met p choices h = starts_at_0 p choices h

pub no_run_without_words : (p : Proto) (choices : List Bool) → p.code ≡ [] → (run p choices).met ≡ []
no_run_without_words p choices e = empty_meets_none p choices e

-- a run of xs ++ ys goes on where that of xs stands, which met a word for each choice before; and one that has left meets nothing more
pub run_goes_on : (p : Proto) (xs : List Bool) → GaveOut (run p xs).exit
    → (before : List ℕ) × (pc : ℕ) × (length before ≡ length xs) × ((run p xs).met ≡ before ++ (pc ∷ []))
    × ((ys : List Bool) → run p (xs ++ ys) ≡ record { met = before ++ (run_from p ys (at pc)).met; exit = (run_from p ys (at pc)).exit })
unfolding run
run_goes_on p xs g = let v = goes_on_from p xs g in (v.before, v.stands, v.each, v.met, v.rest)

pub left_run_meets_no_more : (p : Proto) (xs ys : List Bool) → (GaveOut (run p xs).exit → ⊥) → run p (xs ++ ys) ≡ run p xs
unfolding run
left_run_meets_no_more p xs ys n = left_meets_no_more p (arrive p (pos 0)) xs ys n

-- ---- b. ValidForParser, with any incoming numbers: every prototype of the image keeps the rules, and so every run of it is safe

pub valid_means_passed : (i : Image) → verdict i ≡ ValidForParser → All Passed (image_protos i)
valid_means_passed i v = all_imp (λ p k. record { well_formed = k; runs = runs_safe p k }) (valid_well_formed i v)

-- ---- c. with no incoming error, and incoming warnings plus prototypes with stack above 250 below 10,000: ValidForParser exactly when every prototype
-- keeps the rules

pub valid_iff_well_formed : (i : Image) → i.errors ≡ 0 → i.warnings + large_stacks (image_protos i) < diagnostic_limit → (verdict i ≡ ValidForParser) ↔ All WellFormed (image_protos i)
valid_iff_well_formed i clean few = (valid_well_formed i, well_formed_valid i clean few)

-- ---- d. Invalid exactly when an error came in or a diagnostic other than code 3 was found

pub invalid_iff_error : (i : Image) → (verdict i ≡ Invalid) ↔ ((0 < i.errors) ⊎ Some IsError (diagnostics i))
invalid_iff_error i = invalid_iff i

-- ---- e. an image that no refusal from 1 to 6 meets has at most 10,255 diagnostics; and one of them has that many, with nothing that came in

pub diagnostics_at_most : (i : Image) → image_refusal i.table i.words ≡ none → length (diagnostics i) ≤ max_diagnostics
diagnostics_at_most i a = at_most i a

pub max_diagnostics_reached : (image_refusal fullest.table fullest.words ≡ none) × (fullest.warnings ≡ 0) × (fullest.errors ≡ 0) × (length (diagnostics fullest) ≡ max_diagnostics)
unfolding fullest
max_diagnostics_reached = (fullest_accepted, refl, refl, fullest_count)

-- "Four i32: row, place, code, value": they hold the numbers of each diagnostic of such an image
pub records_hold : (i : Image) → image_refusal i.table i.words ≡ none → All (λ d. All Signed32 (diagnostic_fields d)) (diagnostics i)
records_hold i a = all_imp fields_signed (diagnostics_held i a)

-- ---- f. the worked examples P1 to P13, and the misreadings that document 01 excludes: each has its cases in a table, and the first three a law too

pub worked_examples : map (λ e. result e.image) examples ≡ map (λ e. e.expected) examples
worked_examples = examples_hold

pub misreadings_are_excluded : map (λ e. result e.image) misreadings ≡ map (λ e. e.expected) misreadings
misreadings_are_excluded = misreadings_excluded

-- not "a companion that looks like CLOSURE owning words": whatever word stands in a companion's place, all roles stay
pub companion_bits_unread : (p : Proto) (pc w : ℕ) → T (not (is_executable (role_at p pc))) → roles (record p { code = set p.code pc w }) ≡ roles p
unfolding roles role_at
companion_bits_unread p pc w t = roles_by_children (record p { code = set p.code pc w }) p refl 0 [] (set p.code pc w) ∙ companion_unread p 0 [] p.code pc w t

-- not "a truncated CLOSURE leaving its existing companions unmarked": each owned word that exists has its role, truncated or not
pub owner_marks_companions : (p : Proto) (pc j : ℕ) → Executable p pc → j < companions p pc → role_at p (pc + 1 + j) ≡ get_or (claims p pc (word_at p pc)) j Instruction
owner_marks_companions p pc j x h = owned_role p pc j x h

-- not "10,000 as a cut inside a word's findings": a step that begins below the limit adds all of its diagnostics
pub no_cut_within_a_step : (incoming row : ℕ) (v : Walk) (s : Step) → v.ended ≡ false → count_n incoming v < diagnostic_limit
    → advance incoming row v s ≡ record { found = v.found ++ map (in_row row) s.adds; ended = false }
no_cut_within_a_step incoming row v s going h = advance_going incoming row v s going h

-- and a word's diagnostics are one step
pub each_word_is_one_step : (p : Proto) (pc : ℕ) → pc < length p.code → Some (λ s. s ≡ tested_step (diagnostics_at p pc)) (proto_steps p)
each_word_is_one_step p pc h = word_is_one_step p pc h

-- (not "binding index clamped rather than reduced": the table, P10 and 511)

-- ---- the walk row by row, over an image that no refusal from 1 to 6 meets, is the one that document 01 tells: a prototype's own steps, "then the
-- children", each after a test "before a child"

pub walk_goes_by_children : (i : Image) → image_refusal i.table i.words ≡ none → image_walk i ≡ walk_by_children i
walk_goes_by_children i a = image_by_children i a

-- ---- demand 3 of the check call: whatever image and buffers it is called with, if it is not refused, its result says this of the image

pub demand_3 : (i : Image) (role_length diagnostics_length : ℕ) (c : Checked) → check_answer i role_length diagnostics_length ≡ accepted c → Guarantee i c
demand_3 i role_length diagnostics_length c e = check_guaranteed i role_length diagnostics_length c e

-- read out: verdict and number are document 01's; a prototype that keeps the rules is safe; ValidForParser says that all do, and is given exactly then;
-- Invalid comes of an error
pub passed_says : (p : Proto) → Passed p → WellFormed p × ((choices : List Bool) → SafeRun p choices)
passed_says p k = (k.well_formed, k.runs)

pub guarantee_of_verdict : (i : Image) (c : Checked) → Guarantee i c → (c.verdict ≡ verdict i) × (c.count ≡ length (diagnostics i)) × (c.count ≤ max_diagnostics)
guarantee_of_verdict i c g = (g.verdict, g.count, g.most)

pub guarantee_of_safety : (i : Image) (c : Checked) → Guarantee i c → All (λ p. WellFormed p → (choices : List Bool) → SafeRun p choices) (image_protos i)
guarantee_of_safety i c g = g.safe

pub guarantee_of_a_pass : (i : Image) (c : Checked) → Guarantee i c → c.verdict ≡ ValidForParser → All Passed (image_protos i)
guarantee_of_a_pass i c g = g.valid

pub guarantee_of_exactness : (i : Image) (c : Checked) → Guarantee i c → i.errors ≡ 0 → i.warnings + large_stacks (image_protos i) < diagnostic_limit → (c.verdict ≡ ValidForParser) ↔ All WellFormed (image_protos i)
guarantee_of_exactness i c g = g.exact

pub guarantee_of_invalid : (i : Image) (c : Checked) → Guarantee i c → (c.verdict ≡ Invalid) ↔ ((0 < i.errors) ⊎ Some IsError (diagnostics i))
guarantee_of_invalid i c g = g.invalid

-- ---- "Trays stay untouched, but 8 comes with roles written": of each call, for any table, words and buffers

pub roles_call_refused : (table words role_buffer : List ℕ) (r : Refused) → roles_answer table words (length role_buffer) ≡ refused r → roles_after table words role_buffer ≡ role_buffer
roles_call_refused table words role_buffer r e = roles_untouched table words role_buffer r e

pub bindings_call_refused : (table words role_buffer bindings : List ℕ) (r : Refused) → bindings_answer table words (length role_buffer) (length bindings) ≡ refused r
    → (bindings_after table words (length role_buffer) bindings ≡ bindings)
    × (r.number ≢ 8 → roles_after table words role_buffer ≡ role_buffer)
    × (r.number ≡ 8 → roles_after table words role_buffer ≡ records_of (flat_map roles (protos table words)) ++ drop (role_bytes * word_total (rows table)) role_buffer)
bindings_call_refused table words role_buffer bindings r e = let left = bindings_leaves table words role_buffer bindings r e in (left.0, left.1.0, left.1.1)

pub check_call_refused : (i : Image) (role_buffer buffer : List ℕ) (r : Refused) → check_answer i (length role_buffer) (length buffer) ≡ refused r
    → (diagnostics_after i (length role_buffer) buffer ≡ buffer)
    × (r.number ≢ 8 → roles_after i.table i.words role_buffer ≡ role_buffer)
    × (r.number ≡ 8 → roles_after i.table i.words role_buffer ≡ records_of (flat_map roles (image_protos i)) ++ drop (role_bytes * word_total (rows i.table)) role_buffer)
unfolding image_protos
check_call_refused i role_buffer buffer r e = let left = check_leaves i role_buffer buffer r e in (left.0, left.1.0, left.1.1)

-- ---- an accepted call answers the number of its records; they stand in front of its buffers, and "what lies past the records is unchanged"

pub roles_call_accepted : (table words role_buffer : List ℕ) (n : ℕ) → roles_answer table words (length role_buffer) ≡ accepted n
    → (n ≡ word_total (rows table)) × (roles_after table words role_buffer ≡ records_of (flat_map roles (protos table words)) ++ drop (role_bytes * n) role_buffer)
unfolding roles_answer
roles_call_accepted table words role_buffer n e =
    let q = accepted_result _ _ n e in
    (q, subst⁻¹ (λ (m : ℕ). roles_after table words role_buffer ≡ records_of (flat_map roles (protos table words)) ++ drop (role_bytes * m) role_buffer) q (roles_written table words role_buffer (accepted_none _ _ n e)))

pub bindings_call_accepted : (table words role_buffer bindings : List ℕ) (n : ℕ) → bindings_answer table words (length role_buffer) (length bindings) ≡ accepted n
    → (n ≡ length (image_bindings table words))
    × (bindings_after table words (length role_buffer) bindings ≡ binding_records (image_bindings table words) ++ drop (binding_bytes * n) bindings)
    × (roles_after table words role_buffer ≡ records_of (flat_map roles (protos table words)) ++ drop (role_bytes * word_total (rows table)) role_buffer)
unfolding bindings_answer bindings_refusal
bindings_call_accepted table words role_buffer bindings n e =
    let unrefused = accepted_none (bindings_refusal table words (length role_buffer) (length bindings)) _ n e in
    let q = accepted_result _ _ n e in (
      q,
      subst⁻¹ (λ (m : ℕ). bindings_after table words (length role_buffer) bindings ≡ binding_records (image_bindings table words) ++ drop (binding_bytes * m) bindings) q (bindings_written table words bindings (length role_buffer) unrefused),
      roles_written table words role_buffer (or_else_none _ _ unrefused).0,
    )

pub check_call_accepted : (i : Image) (role_buffer buffer : List ℕ) (c : Checked) → check_answer i (length role_buffer) (length buffer) ≡ accepted c
    → (c.count ≡ length (diagnostics i))
    × (diagnostics_after i (length role_buffer) buffer ≡ i32_record (flat_map diagnostic_fields (diagnostics i)) ++ drop (diagnostic_bytes * c.count) buffer)
    × (roles_after i.table i.words role_buffer ≡ records_of (flat_map roles (image_protos i)) ++ drop (role_bytes * word_total (rows i.table)) role_buffer)
check_call_accepted i role_buffer buffer c e =
    let q = (check_guaranteed i (length role_buffer) (length buffer) c e).count in
    let left = check_written i role_buffer buffer c e in
    (q, subst⁻¹ (λ (n : ℕ). diagnostics_after i (length role_buffer) buffer ≡ i32_record (flat_map diagnostic_fields (diagnostics i)) ++ drop (diagnostic_bytes * n) buffer) q left.0, left.1)
