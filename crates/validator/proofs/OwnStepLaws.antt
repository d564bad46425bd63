-- A prototype's own steps: its truncated owner, its stack, and its words one after another. Assumes nothing.
use Rattle.std.proofs.Common.{◌≡◌, ℕ, zero, suc, ◌+◌, ◌-◌, ◌/◌, ◌<◌, ◌≤◌, Bool, true, false, cond, not, ◌&&◌, ◌||◌, T, ltb, leb, List, [], ◌∷◌, ◌++◌, map, length, pos, negsuc, sym, refl, ap, ◌∙◌, subst, append-nil, add-zero, add-one, arith}
use mathlib.Core.Path.{subst⁻¹}
use Rattle.std.specs.Bool.{then_some}
use Rattle.std.specs.Prelude.{Option}
use mathlib.Core.List.{flat_map, flatten, foldl, foldl-append}
use Rattle.base.specs.Bytes.{i32_bits}
use Rattle.base.specs.Lists.{up_from}
use Rattle.base.proofs.BoolLaws.{t_true}
use Rattle.roles_spec.specs.Roles.{Executable, executable_at, is_executable, word_at, role_in}
use Rattle.roles_spec.specs.Table.{Proto}
use Rattle.roles_spec.proofs.RoleLaws.{executable}
use Rattle.validator_spec.specs.Diagnostics.{Diagnostic, Step, tested_step, untested_step, usual_stack, has_large_stack, stack_diagnostics, truncation_at, word_diagnostics, diagnostics_at, proto_steps}
use Rattle.validator.specs.Terms.{HasLimits, Describes, fault_diagnostics}
use Rattle.validator.specs.Steps.{State, emitted_if, emit_all, ended, tested_of, take_step}
use Rattle.validator.specs.declared.fault.Lua51RoleFault.{Lua51RoleFault}
use Rattle.validator.specs.declared.rows.RowLimits.{RowLimits}
use Rattle.validator.specs.declared.state.WalkState.{WalkState}
use Rattle.validator.proofs.EmitLaws.{emits_none, emits_only, tested_going, step_ends, step_adds}
use Rattle.validator.proofs.DescribedLaws.{looked_up, code_words}
use Rattle.validator.proofs.RowStepLaws.{tested_step_taken, steps_ended}

-- ---- the stack and the truncated owner

pub stack_warned : (row : ℕ) (p : Proto) (q : RowLimits) → HasLimits p q → (o : Option ℕ) → o ≡ then_some (ltb usual_stack q.stack) q.stack → (s t : State) → t ≡ emitted_if row 4294967295 3 o s → t ≡ emit_all row (stack_diagnostics p) s
unfolding stack_diagnostics has_large_stack i32_bits
stack_warned row p q l o f s t e = rw l.stack (emits_only row (ltb usual_stack q.stack) (record { pc = negsuc 0; code = 3; value = pos q.stack }) o s t f e)

-- the steps of a fault, once the code knows which it is
pub fault_steps_taken : (row : ℕ) (found told : Option Lua51RoleFault) (s t : State) → found ≡ told → t ≡ foldl (take_step row) s (map (λ d. tested_step (d ∷ [])) (fault_diagnostics told))
    → t ≡ foldl (take_step row) s (map (λ d. tested_step (d ∷ [])) (fault_diagnostics found))
fault_steps_taken row found told s t e f = f ∙ ap (λ (x : Option Lua51RoleFault). foldl (take_step row) s (map (λ d. tested_step (d ∷ [])) (fault_diagnostics x))) (sym e)

-- ---- a word

pub executes : (p : Proto) (q : RowLimits) (code records : List ℕ) → Describes p q code records → (pc : ℕ) → pc < length code / 4 → (b : Bool) → b ≡ not (is_executable (role_in records pc)) → b ≡ false → Executable p pc
executes p q code records d pc h b e f =
    executable p pc (omega (arith, h, code_words p q code records d)) (subst T (sym (looked_up p q code records d pc b true e f)) tt)

-- an executable word adds its own diagnostics
pub word_adds : (row pc : ℕ) (p : Proto) (s t : State) → Executable p pc → t ≡ emit_all row (word_diagnostics p pc (word_at p pc)) s → t ≡ emit_all row (diagnostics_at p pc) s
unfolding diagnostics_at
word_adds row pc p s t x e = rw (t_true (executable_at p pc) x) e

-- ---- the words one after another

-- the step of the word at pc
abbrev pub word_step : Proto → ℕ → Step
word_step p pc = tested_step (diagnostics_at p pc)

-- at pc, of n words: the steps of the words from pc on lead to where the steps of all words lead
pub record WordPass (q : RowLimits) (code records : List ℕ) (n : ℕ) (s₀ s : State) (pc : ℕ) : Type 0 where
  pub long : length s.1 ≡ length s₀.1
  pub within : pc ≤ n
  pub rest : (p : Proto) → Describes p q code records → foldl (take_step q.row) s (map (word_step p) (up_from pc (n - pc))) ≡ foldl (take_step q.row) s₀ (map (word_step p) (up_from 0 n))

module _ (q : RowLimits) (code records : List ℕ) (n : ℕ) (s₀ : State) where
  pub words_begin : WordPass q code records n s₀ s₀ 0
  words_begin =
      record { long = refl; within = omega arith; rest = λ p d. (let all : n - 0 ≡ n = omega arith in ap (λ (k : ℕ). foldl (take_step q.row) s₀ (map (word_step p) (up_from 0 k))) all) }

  module _ (s : State) (pc : ℕ) (pass : WordPass q code records n s₀ s pc) where
    pub words_end : n ≤ pc → (p : Proto) → Describes p q code records → s ≡ foldl (take_step q.row) s₀ (map (word_step p) (up_from 0 n))
    words_end h p d = let z : n - pc ≡ 0 = omega arith in subst (λ (k : ℕ). foldl (take_step q.row) s (map (word_step p) (up_from pc k)) ≡ foldl (take_step q.row) s₀ (map (word_step p) (up_from 0 n))) z (pass.rest p d)

    module _ (h : pc < n) (t : State) (stepped : (p : Proto) → Describes p q code records → t ≡ take_step q.row s (word_step p pc)) where
      onwards : (p : Proto) → Describes p q code records → foldl (take_step q.row) t (map (word_step p) (up_from (pc + 1) (n - (pc + 1)))) ≡ foldl (take_step q.row) s₀ (map (word_step p) (up_from 0 n))
      onwards p d =
          let k : n - pc ≡ suc (n - (pc + 1)) = omega arith in
          ap (λ (x : State). foldl (take_step q.row) x (map (word_step p) (up_from (pc + 1) (n - (pc + 1))))) (stepped p d)
          ∙ ap (λ (i : ℕ). foldl (take_step q.row) (take_step q.row s (word_step p pc)) (map (word_step p) (up_from i (n - (pc + 1))))) (add-one pc)
          ∙ subst (λ (m : ℕ). foldl (take_step q.row) s (map (word_step p) (up_from pc m)) ≡ foldl (take_step q.row) s₀ (map (word_step p) (up_from 0 n))) k (pass.rest p d)

      pub words_next : length t.1 ≡ length s.1 → WordPass q code records n s₀ t (pc + 1)
      words_next size = record { long = size ∙ pass.long; within = omega arith; rest = onwards }

      -- where the walk has ended, the words after it change nothing
      pub words_stop : t.0.limit ≡ true → (p : Proto) → Describes p q code records → t ≡ foldl (take_step q.row) s₀ (map (word_step p) (up_from 0 n))
      words_stop l p d = sym (steps_ended q.row t (map (word_step p) (up_from (pc + 1) (n - (pc + 1)))) l) ∙ onwards p d

  -- from a test on
  module _ (s : State) (pc : ℕ) (pass : WordPass q code records n s₀ s pc) (t : WalkState) (e : t ≡ tested_of s.0) where
    -- it ends the walk
    pub test_stops : pc < n → t.limit ≡ true → (p : Proto) → Describes p q code records → ◌≡◌ {A = State} (t, s.1) (foldl (take_step q.row) s₀ (map (word_step p) (up_from 0 n)))
    test_stops h l = words_stop s pc pass h (t, s.1) (λ p d. step_ends q.row (diagnostics_at p pc) s t e l) l

    -- it does not: words without diagnostics change nothing
    clean_step : (p : Proto) (i : ℕ) → t.limit ≡ false → diagnostics_at p i ≡ [] → s ≡ take_step q.row s (word_step p i)
    clean_step p i l none =
        step_adds q.row (diagnostics_at p i) s t e s l
        (emits_none q.row s ∙ ap (λ (ds : List Diagnostic). emit_all q.row ds s) (sym none) ∙ ap (λ (w : WalkState). emit_all q.row (diagnostics_at p i) (w, s.1)) (sym (tested_going s.0 t e l)))

    pass_over : t.limit ≡ false → (k : ℕ) → pc + k ≤ n → ((p : Proto) → Describes p q code records → (i : ℕ) → pc ≤ i → i < pc + k → diagnostics_at p i ≡ []) → WordPass q code records n s₀ s (pc + k)
    pass_over l zero h none = subst (WordPass q code records n s₀ s) (sym (add-zero pc)) pass
    pass_over l (suc k) h none =
        let before = pass_over l k (omega arith) (λ p d i a b. none p d i a (omega arith)) in
        let same : pc + k + 1 ≡ pc + suc k = omega arith in
        subst (WordPass q code records n s₀ s) same (words_next s (pc + k) before (omega arith) s (λ p d. clean_step p (pc + k) l (none p d (pc + k) (omega arith) (omega arith))) refl)

    pub words_over : t.limit ≡ false → (to : ℕ) → pc ≤ to → to ≤ n → ((p : Proto) → Describes p q code records → (i : ℕ) → pc ≤ i → i < to → diagnostics_at p i ≡ []) → WordPass q code records n s₀ (t, s.1) to
    words_over l to a b none =
        let there : pc + (to - pc) ≡ to = omega arith in
        subst⁻¹ (λ (w : WalkState). WordPass q code records n s₀ (w, s.1) to) (tested_going s.0 t e l)
        (subst (WordPass q code records n s₀ s) there (pass_over l (to - pc) (omega arith) (λ p d i x y. none p d i x (omega arith))))

    -- and the word there is judged
    pub word_step_taken : (p : Proto) (to : ℕ) (u : State) → t.limit ≡ false → Executable p to → u ≡ emit_all q.row (word_diagnostics p to (word_at p to)) (t, s.1) → u ≡ take_step q.row (t, s.1) (word_step p to)
    word_step_taken p to u l x f =
        step_adds q.row (diagnostics_at p to) (t, s.1) t (e ∙ ap tested_of (sym (tested_going s.0 t e l))) u l (word_adds q.row to p (t, s.1) u x f)

-- ---- all steps of a prototype

-- a diagnostic of a truncated owner, after a test
abbrev fault_step : Diagnostic → Step
fault_step d = tested_step (d ∷ [])

-- the steps of the words; the steps of the truncated owner; the steps after these; the steps after the first test
abbrev word_steps : Proto → List Step
word_steps p = map (word_step p) (up_from 0 (length p.code))

abbrev fault_steps : Proto → List Step
fault_steps p = map fault_step (flat_map (truncation_at p) (up_from 0 (length p.code)))

abbrev after_fault : Proto → List Step
after_fault p = untested_step (stack_diagnostics p) ∷ (word_steps p ++ [])

abbrev after_test : Proto → List Step
after_test p = fault_steps p ++ after_fault p

-- what the code found, for all words
module _ (row : ℕ) (p : Proto) (q : RowLimits) (code records : List ℕ) (d : Describes p q code records) (s u : State) where
  pub faulted : (found : Option Lua51RoleFault) → fault_diagnostics found ≡ flat_map (truncation_at p) (up_from 0 (length code / 4)) → u ≡ foldl (take_step row) s (map fault_step (fault_diagnostics found))
      → u ≡ foldl (take_step row) s (fault_steps p)
  faulted found e f =
      f ∙ ap (λ (ds : List Diagnostic). foldl (take_step row) s (map fault_step ds)) (e ∙ ap (λ (n : ℕ). flat_map (truncation_at p) (up_from 0 n)) (code_words p q code records d))

  pub worded : u ≡ foldl (take_step row) s (map (word_step p) (up_from 0 (length code / 4))) → u ≡ foldl (take_step row) s (word_steps p)
  worded f = f ∙ ap (λ (n : ℕ). foldl (take_step row) s (map (word_step p) (up_from 0 n))) (code_words p q code records d)

module _ (row : ℕ) (p : Proto) (s : State) (t : WalkState) (e : t ≡ tested_of s.0) where
  begins : ◌≡◌ {A = State} (t, s.1) (take_step row s (tested_step []))
  begins = ap (λ (w : WalkState). (w, s.1)) e ∙ sym (tested_step_taken row s)

  -- from the first test on
  steps_after_test : foldl (take_step row) s (proto_steps p)
      ≡ foldl (take_step row) (t, s.1) (after_test p)
  unfolding proto_steps flatten
  steps_after_test =
      ap (λ (x : State). foldl (take_step row) x (after_test p)) (sym begins)

  -- the walk ends there
  pub own_test : t.limit ≡ true → ◌≡◌ {A = State} (t, s.1) (foldl (take_step row) s (proto_steps p))
  own_test l = sym (steps_after_test ∙ steps_ended row (t, s.1) (after_test p) l)

  module _ (u : State) (f : u ≡ foldl (take_step row) (t, s.1) (fault_steps p)) where
    -- from the truncated owner on
    steps_after_fault : foldl (take_step row) s (proto_steps p) ≡ foldl (take_step row) u (after_fault p)
    steps_after_fault =
        steps_after_test
        ∙ foldl-append (take_step row) (t, s.1) (fault_steps p) _
        ∙ ap (λ (x : State). foldl (take_step row) x (after_fault p)) (sym f)

    pub own_fault : u.0.limit ≡ true → u ≡ foldl (take_step row) s (proto_steps p)
    own_fault l = sym (steps_after_fault ∙ steps_ended row u (after_fault p) l)

    stack_step : (v : State) → u.0.limit ≡ false → v ≡ emit_all row (stack_diagnostics p) u → v ≡ take_step row u (untested_step (stack_diagnostics p))
    unfolding take_step untested_step
    stack_step v l g = g ∙ sym (ap (λ (b : Bool). cond (b || false && leb u.0.stop u.0.count) (ended u.0, u.1) (emit_all row (stack_diagnostics p) u)) l)

    -- to the last word
    pub own_words : (v z : State) → u.0.limit ≡ false → v ≡ emit_all row (stack_diagnostics p) u → z ≡ foldl (take_step row) v (word_steps p) → z ≡ foldl (take_step row) s (proto_steps p)
    own_words v z l g h =
        let words = word_steps p in
        h ∙ ap (λ (x : State). foldl (take_step row) x words) (stack_step v l g)
        ∙ ap (foldl (take_step row) (take_step row u (untested_step (stack_diagnostics p)))) (sym (append-nil words))
        ∙ sym steps_after_fault
