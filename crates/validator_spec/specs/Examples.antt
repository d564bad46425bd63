-- The worked examples (document 01, "Boards on the shelf"): all cases of P1 to P13 in one table; tables of the four misreadings below them, of further
-- cases and of runs. proofs/ExampleLaws proves them. Assumes nothing: these are definitions.
use Rattle.std.specs.Prelude.{ℕ, Bool, true, false, ℤ, pos, negsuc}
use mathlib.Core.List.{List, [], ◌∷◌, ◌++◌, flat_map}
use Rattle.base.specs.Bytes.{u32_record}
use Rattle.roles_spec.specs.Table.{Proto}
use Rattle.roles_spec.specs.Bindings.{binding_fields}
use Rattle.roles_spec.specs.Calls.{image_bindings}
use Rattle.roles_spec.specs.Samples.{row, parent_rows, parent_words, plain_proto}
use Rattle.validator_spec.specs.Walk.{Verdict, ValidForParser, Incomplete, Invalid, diagnostic_fields}
use Rattle.validator_spec.specs.Executions.{Exit, ended_at, no_word_at, out_of_choices, Trace}
use Rattle.validator_spec.specs.Image.{Image, diagnostics, verdict}

-- what is said of an image: the fields of its diagnostics and of its bindings, and the verdict
pub record Result : Type 0 where
  pub diagnostics : List ℤ
  pub bindings : List ℤ
  pub verdict : Verdict

-- the result of an image, by the definitions
unfoldable pub result : Image → Result
result i =
    record {
      diagnostics = flat_map diagnostic_fields (diagnostics i);
      bindings = flat_map binding_fields (image_bindings i.table i.words);
      verdict = verdict i;
    }

-- an image, and its expected result
pub record Example : Type 0 where
  pub image : Image
  pub expected : Result

-- an example: an image by its rows (depth, words, constants, upvalues, stack), words and incoming numbers; its diagnostics, bindings and verdict
abbrev example : List ℕ → List ℕ → ℕ → ℕ → List ℤ → List ℤ → Verdict → Example
example rows words warnings errors found bound v =
    record {
      image = record { table = u32_record rows; words = u32_record words; warnings = warnings; errors = errors };
      expected = record { diagnostics = found; bindings = bound; verdict = v };
    }

-- an example: "One part, 0 constants", with one word
abbrev word : ℕ → ℕ → List ℤ → Verdict → Example
word w stack found v = example (row 0 1 0 0 stack) (w ∷ []) 0 0 found [] v

-- an example: one part without words
abbrev empty : ℕ → ℕ → ℕ → List ℤ → Verdict → Example
empty stack warnings errors found v = example (row 0 0 0 0 stack) [] warnings errors found [] v

-- an example: a prototype of these words and stack 2, and its child with `upvalues` upvalues, "holding 0x0080001e"; it is Invalid
abbrev parent : List ℕ → ℕ → List ℤ → List ℤ → Example
parent words upvalues found bound = example (parent_rows words upvalues) (parent_words words) 0 0 found bound Invalid

-- a diagnostic of row 0
abbrev row0 : ℕ → ℕ → ℤ → List ℤ
row0 pc code value = pos 0 ∷ pos pc ∷ pos code ∷ value ∷ []

-- P1 to P13
unfoldable pub examples : List Example
examples =
    -- P1 to P5
    word 0x7fff8016 2 [] ValidForParser
    ∷ word 0x7fff4016 2 (row0 0 5 (negsuc 0)) Invalid
    ∷ word 0x7fffc016 2 (row0 0 5 (pos 1)) Invalid
    ∷ word 0x0000003f 2 (row0 0 4 (pos 63)) Invalid
    ∷ word 0x00000097 1 (row0 0 9 (pos 2)) Invalid
    -- P6, P7, P8 twice, P9
    ∷ word 0x00800022 2 (row0 0 2 (pos 0)) Invalid
    ∷ word 0x00800022 1 (row0 0 2 (pos 0) ++ row0 0 11 (pos 1)) Invalid
    ∷ word 0x0080001e 0 (row0 0 10 (pos 0)) Invalid
    ∷ word 0x0080001e 1 [] ValidForParser
    ∷ word 0x0100c01c 1 (row0 0 11 (pos 1) ++ row0 0 11 (pos 1)) Invalid
    -- P10, P11
    ∷ parent (0x00000024 ∷ 0x96000000 ∷ []) 1 (row0 1 12 (pos 300)) (pos 1 ∷ pos 44 ∷ pos 1 ∷ [])
    ∷ parent (0x00000024 ∷ []) 1 (row0 0 1 (pos 1)) (pos 0 ∷ pos 0 ∷ negsuc 0 ∷ [])
    -- P12 twice, P13 twice: the document does not say which words P13 has, and here it has none; the error comes with the warnings
    ∷ empty 251 0 0 (pos 0 ∷ negsuc 0 ∷ pos 3 ∷ pos 251 ∷ []) ValidForParser
    ∷ empty 250 0 0 [] ValidForParser
    ∷ empty 2 10000 0 [] Incomplete
    ∷ empty 2 10000 1 [] Invalid
    ∷ []

-- "Misreadings to exclude"
unfoldable pub misreadings : List Example
misreadings =
    -- "a companion that looks like CLOSURE owning words": it owns none, so that the word after it, a RETURN of register 2, is executable.
    -- The companion is a CLOSURE's, then a SETLIST's
    parent (0x00000024 ∷ 0x00000024 ∷ 0x0080009e ∷ []) 1 (row0 1 17 (pos 36) ++ row0 2 10 (pos 2)) (pos 0 ∷ pos 0 ∷ negsuc 0 ∷ [])
    ∷ parent (0x00800022 ∷ 0x00000024 ∷ 0x0080009e ∷ []) 1 (row0 2 10 (pos 2)) (pos 0 ∷ pos 0 ∷ negsuc 0 ∷ [])
    -- "a truncated CLOSURE leaving its existing companions unmarked": the one that exists is judged as a binding word, and binds
    ∷ parent (0x00000024 ∷ 0x0000003f ∷ []) 2 (row0 0 1 (pos 2) ++ row0 1 17 (negsuc 0)) (pos 0 ∷ pos 0 ∷ negsuc 0 ∷ pos 0 ∷ pos 0 ∷ negsuc 0 ∷ [])
    ∷ parent (0x00000024 ∷ 0x00000000 ∷ []) 2 (row0 0 1 (pos 2)) (pos 1 ∷ pos 0 ∷ pos 1 ∷ pos 0 ∷ pos 0 ∷ negsuc 0 ∷ [])
    -- "10,000 as a cut inside a word's findings": N is 9,999 before a word with two diagnostics, and 10,001 after it
    ∷ example (row 0 1 0 0 1) (0x0100c01c ∷ []) 9999 0 (row0 0 11 (pos 1) ++ row0 0 11 (pos 1)) [] Invalid
    -- "binding index clamped rather than reduced": P10, and 511 as 255
    ∷ parent (0x00000024 ∷ 0xff800000 ∷ []) 1 (row0 1 12 (pos 511)) (pos 1 ∷ pos 255 ∷ pos 1 ∷ [])
    ∷ []

-- cases beyond the document's
unfoldable pub more_examples : List Example
more_examples =
    -- only the second row has a word of an unknown opcode
    example (row 0 1 0 0 1 ++ row 1 1 0 0 1) (0x0080001e ∷ 0x0000003f ∷ []) 0 0 (pos 1 ∷ pos 0 ∷ pos 4 ∷ pos 63 ∷ []) [] Invalid
    -- a skip to a SETLIST's extra, and a jump to one
    ∷ example (row 0 3 0 0 2) (0x00000017 ∷ 0x00000022 ∷ 0x00000000 ∷ []) 0 0 (row0 0 6 (pos 2)) [] Invalid
    ∷ example (row 0 3 0 0 2) (0x80000016 ∷ 0x00000022 ∷ 0x00000000 ∷ []) 0 0 (row0 0 6 (pos 2)) [] Invalid
    -- a TFORLOOP whose last register is 3; an ADD of register 5 and constant 0, the register first
    ∷ word 0x00004021 3 (row0 0 11 (pos 3)) Invalid
    ∷ word 0x8001400c 2 (row0 0 13 (pos 5) ++ row0 0 14 (pos 0)) Invalid
    -- spans that end at the last register, and one past it: SELF, FORPREP, FORLOOP, TAILCALL, RETURN, SETLIST
    ∷ word 0x0000000b 2 [] ValidForParser
    ∷ word 0x0000000b 1 (row0 0 11 (pos 1)) Invalid
    ∷ word 0x7fff8020 4 [] ValidForParser
    ∷ word 0x7fff8020 3 (row0 0 11 (pos 3)) Invalid
    ∷ word 0x7fff801f 4 [] ValidForParser
    ∷ word 0x7fff801f 3 (row0 0 11 (pos 3)) Invalid
    ∷ word 0x0100001d 2 [] ValidForParser
    ∷ word 0x0100001d 1 (row0 0 11 (pos 1)) Invalid
    ∷ word 0x0180001e 2 [] ValidForParser
    ∷ word 0x0180001e 1 (row0 0 11 (pos 1)) Invalid
    ∷ word 0x00804022 2 [] ValidForParser
    ∷ word 0x00804022 1 (row0 0 11 (pos 1)) Invalid
    -- a CLOSURE with a companion GETUPVAL: of an upvalue that is there, and of one that is not; and with a LOADNIL
    ∷ example (row 0 2 0 1 2 ++ row 1 1 0 1 2) (0x00000024 ∷ 0x00000004 ∷ 0x0080001e ∷ []) 0 0 [] (pos 0 ∷ pos 0 ∷ negsuc 0 ∷ pos 0 ∷ pos 0 ∷ pos 1 ∷ []) ValidForParser
    ∷ example (row 0 2 0 1 2 ++ row 1 1 0 1 2) (0x00000024 ∷ 0x00800004 ∷ 0x0080001e ∷ []) 0 0 (row0 1 8 (pos 1)) (pos 0 ∷ pos 0 ∷ negsuc 0 ∷ pos 0 ∷ pos 1 ∷ pos 1 ∷ []) Invalid
    ∷ parent (0x00000024 ∷ 0x00000003 ∷ []) 1 (row0 1 17 (pos 3)) (pos 0 ∷ pos 0 ∷ negsuc 0 ∷ [])
    -- constants: a LOADK of the last one and of one past it, a SETGLOBAL of one past it; upvalues: a SETUPVAL
    ∷ example (row 0 1 1 0 2) (0x00000001 ∷ []) 0 0 [] [] ValidForParser
    ∷ example (row 0 1 1 0 2) (0x00004001 ∷ []) 0 0 (row0 0 7 (pos 1)) [] Invalid
    ∷ example (row 0 1 1 0 2) (0x00004007 ∷ []) 0 0 (row0 0 7 (pos 1)) [] Invalid
    ∷ example (row 0 1 0 1 2) (0x00000008 ∷ []) 0 0 [] (pos 0 ∷ pos 0 ∷ negsuc 0 ∷ []) ValidForParser
    ∷ example (row 0 1 0 1 2) (0x00800008 ∷ []) 0 0 (row0 0 8 (pos 1)) (pos 0 ∷ pos 0 ∷ negsuc 0 ∷ []) Invalid
    -- flags of LT and LE
    ∷ word 0x00000098 1 (row0 0 9 (pos 2)) Invalid
    ∷ word 0x00000099 1 (row0 0 9 (pos 2)) Invalid
    -- the last known opcode: a VARARG of one register, and one whose last register is 2
    ∷ word 0x01000025 2 [] ValidForParser
    ∷ word 0x02000025 2 (row0 0 11 (pos 2)) Invalid
    -- a CLOSURE without its child, and N at 10,000 after a stack warning, which nothing tests
    ∷ word 0x00004024 2 (row0 0 16 (pos 1)) Invalid
    ∷ empty 251 9999 0 (pos 0 ∷ negsuc 0 ∷ pos 3 ∷ pos 251 ∷ []) ValidForParser
    -- rows nested: a child, its child and a second child, each with a word of an unknown opcode
    ∷ example (row 0 1 0 0 2 ++ row 1 1 0 0 2 ++ row 2 1 0 0 2 ++ row 1 1 0 0 2) (0x0000003f ∷ 0x0000003e ∷ 0x0000003d ∷ 0x0000003c ∷ []) 0 0
    (row0 0 4 (pos 63) ++ (pos 1 ∷ pos 0 ∷ pos 4 ∷ pos 62 ∷ []) ++ (pos 2 ∷ pos 0 ∷ pos 4 ∷ pos 61 ∷ []) ++ pos 3 ∷ pos 0 ∷ pos 4 ∷ pos 60 ∷ []) [] Invalid
    -- the limit before a child
    ∷ example (row 0 1 0 0 2 ++ row 1 1 0 0 2) (0x0000003f ∷ 0x0000003f ∷ []) 9999 0 (row0 0 4 (pos 63)) [] Invalid
    -- N at 10,000 after a truncation: the stack warning still comes, and the word no more
    ∷ example (row 0 1 0 0 251) (0x00803fe2 ∷ []) 9999 0 (row0 0 2 (pos 0) ++ pos 0 ∷ negsuc 0 ∷ pos 3 ∷ pos 251 ∷ []) [] Invalid
    ∷ []

-- ---- runs

-- a prototype, choices, and what its run meets and how it stands at the end
pub record RunExample : Type 0 where
  pub proto : Proto
  pub choices : List Bool
  pub expected : Trace

-- a run of these words, with a child of one upvalue and a child of two
abbrev run_of : List ℕ → List Bool → List ℕ → Exit → RunExample
run_of code choices met exit =
    record {
      proto = plain_proto code 0 2 (1 ∷ 2 ∷ []);
      choices = choices;
      expected = record { met = met; exit = exit };
    }

-- a word before two RETURNs, and the pc that it goes to on one choice
abbrev goes : ℕ → Bool → ℕ → RunExample
goes w choice pc = run_of (w ∷ 0x0080001e ∷ 0x0080001e ∷ []) (choice ∷ []) (0 ∷ pc ∷ []) out_of_choices

-- a word before two RETURNs, which ends its run
abbrev ends : ℕ → Bool → RunExample
ends w choice = run_of (w ∷ 0x0080001e ∷ 0x0080001e ∷ []) (choice ∷ []) (0 ∷ []) (ended_at 0)

-- a word alone, and the place without a word that it goes to on one choice
abbrev leaves : ℕ → Bool → ℤ → RunExample
leaves w choice z = run_of (w ∷ []) (choice ∷ []) (0 ∷ []) (no_word_at z)

-- each kind of word, with both choices
unfoldable pub word_runs : List RunExample
word_runs =
    -- JMP and FORPREP go to their target
    goes 0x80000016 true 2
    ∷ goes 0x80000016 false 2
    ∷ goes 0x80000020 true 2
    ∷ goes 0x80000020 false 2
    -- FORLOOP there or to the next word
    ∷ goes 0x8000001f true 2
    ∷ goes 0x8000001f false 1
    -- EQ, LT, LE, TEST, TESTSET, TFORLOOP skip a word or go on
    ∷ goes 0x00000017 true 2
    ∷ goes 0x00000017 false 1
    ∷ goes 0x00000018 true 2
    ∷ goes 0x00000018 false 1
    ∷ goes 0x00000019 true 2
    ∷ goes 0x00000019 false 1
    ∷ goes 0x0000001a true 2
    ∷ goes 0x0000001a false 1
    ∷ goes 0x0000001b true 2
    ∷ goes 0x0000001b false 1
    ∷ goes 0x00000021 true 2
    ∷ goes 0x00000021 false 1
    -- LOADBOOL with C = 0 goes on; with C = 1 and 256 it only skips
    ∷ goes 0x00000002 true 1
    ∷ goes 0x00000002 false 1
    ∷ goes 0x00004002 true 2
    ∷ goes 0x00004002 false 2
    ∷ goes 0x00400002 true 2
    ∷ goes 0x00400002 false 2
    -- CLOSURE goes past its child's companion, and without its child to the next word
    ∷ goes 0x00000024 true 2
    ∷ goes 0x00000024 false 2
    ∷ goes 0x00008024 true 1
    ∷ goes 0x00008024 false 1
    -- SETLIST with C = 0 goes past its companion, with C = 1 to the next word
    ∷ goes 0x00000022 true 2
    ∷ goes 0x00000022 false 2
    ∷ goes 0x00004022 true 1
    ∷ goes 0x00004022 false 1
    -- RETURN ends; TAILCALL ends or goes on
    ∷ ends 0x0080001e true
    ∷ ends 0x0080001e false
    ∷ ends 0x0000001d true
    ∷ goes 0x0000001d false 1
    -- an ordinary word, and an unknown opcode, go on
    ∷ goes 0x00000000 true 1
    ∷ goes 0x00000000 false 1
    ∷ goes 0x0000003f true 1
    ∷ goes 0x0000003f false 1
    ∷ []

-- how a run begins, how long it goes on and where it leaves
unfoldable pub run_examples : List RunExample
run_examples =
    -- no words, with choices and without
    run_of [] (true ∷ []) [] (no_word_at (pos 0))
    ∷ run_of [] [] [] (no_word_at (pos 0))
    -- a list that gives out at once, and after a step
    ∷ run_of (0x0080001e ∷ []) [] (0 ∷ []) out_of_choices
    ∷ run_of (0x00000000 ∷ 0x0080001e ∷ []) (true ∷ []) (0 ∷ 1 ∷ []) out_of_choices
    -- a longer list than the run: it ended, or left
    ∷ run_of (0x0080001e ∷ []) (true ∷ true ∷ false ∷ []) (0 ∷ []) (ended_at 0)
    ∷ run_of (0x00000000 ∷ []) (false ∷ true ∷ true ∷ []) (0 ∷ []) (no_word_at (pos 1))
    -- a loop: FORPREP to FORLOOP, twice back and then out
    ∷ run_of (0x80000020 ∷ 0x00000000 ∷ 0x7fff401f ∷ 0x0080001e ∷ []) (true ∷ true ∷ true ∷ true ∷ true ∷ false ∷ true ∷ []) (0 ∷ 2 ∷ 1 ∷ 2 ∷ 1 ∷ 2 ∷ 3 ∷ []) (ended_at 3)
    -- TAILCALL that goes on, and then RETURN
    ∷ run_of (0x0000001d ∷ 0x0080001e ∷ []) (false ∷ true ∷ []) (0 ∷ 1 ∷ []) (ended_at 1)
    -- a target before the first word: of JMP, FORPREP, and FORLOOP on one choice
    ∷ leaves 0x7fff4016 true (negsuc 0)
    ∷ leaves 0x7fff4020 false (negsuc 0)
    ∷ leaves 0x7fff401f true (negsuc 0)
    ∷ leaves 0x7fff401f false (pos 1)
    ∷ leaves 0x00000016 true (negsuc 131069)
    -- past the last word: a word that goes on, a target, a skip
    ∷ leaves 0x00000000 true (pos 1)
    ∷ leaves 0x7fffc016 true (pos 1)
    ∷ leaves 0xffffc016 true (pos 131073)
    ∷ leaves 0x00000017 true (pos 2)
    ∷ leaves 0x00000017 false (pos 1)
    ∷ leaves 0x00004002 false (pos 2)
    -- a truncated owner goes past the companions that exist: a SETLIST without its one, a CLOSURE without any and with one of two
    ∷ leaves 0x00000022 true (pos 1)
    ∷ leaves 0x00000024 true (pos 1)
    ∷ run_of (0x00004024 ∷ 0x00000000 ∷ []) (true ∷ []) (0 ∷ []) (no_word_at (pos 2))
    -- one that is not truncated, at the end
    ∷ run_of (0x00000024 ∷ 0x00000000 ∷ []) (true ∷ []) (0 ∷ []) (no_word_at (pos 2))
    ∷ run_of (0x00004024 ∷ 0x00000000 ∷ 0x00000000 ∷ 0x0080001e ∷ []) (true ∷ true ∷ []) (0 ∷ 3 ∷ []) (ended_at 3)
    -- a jump to a companion: it goes by its bits, and owns nothing, as one that looks like CLOSURE
    ∷ run_of (0x80000016 ∷ 0x00000022 ∷ 0x0080001e ∷ []) (true ∷ true ∷ []) (0 ∷ 2 ∷ []) (ended_at 2)
    ∷ run_of (0x80000016 ∷ 0x00000024 ∷ 0x00000024 ∷ 0x0080001e ∷ []) (true ∷ true ∷ true ∷ []) (0 ∷ 2 ∷ 3 ∷ []) (ended_at 3)
    ∷ []
