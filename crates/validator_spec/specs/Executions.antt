-- Executions (document 01, "A run"). They are defined of any prototype, so that what is claimed of them can be false. Assumes nothing: these are definitions.
use Rattle.std.specs.Prelude.{ℕ, ◌+◌, ◌≤◌, Bool, cond, List, [], ◌∷◌, T, ltb, length, ℤ, pos, negsuc}
use Rattle.base.specs.Lists.{All}
use Rattle.opcodes.specs.Words.{is, JMP, FORPREP, FORLOOP, RETURN, TAILCALL}
use Rattle.roles_spec.specs.Table.{Proto}
use Rattle.roles_spec.specs.Roles.{Executable, word_at, companions}
use Rattle.validator_spec.specs.Operands.{is_skip, is_loadbool_skip, skip_target, target}
use Rattle.validator_spec.specs.Rules.{OperandsInRange}

-- how a run stands: "it leaves where it ends or comes to a place without a word", or the list of choices gave out
pub data Exit : Type 0 where
  ended_at : ℕ → Exit
  no_word_at : ℤ → Exit
  out_of_choices : Exit

-- where a run is: at a word, or it has left
pub data State : Type 0 where
  at : ℕ → State
  left : Exit → State

-- a run comes to a pc: it is at the word there, if there is one
unfoldable pub arrive : Proto → ℤ → State
arrive p (negsuc n) = left (no_word_at (negsuc n))
arrive p (pos n) = cond (ltb n (length p.code)) (at n) (left (no_word_at (pos n)))

-- A step from the word at pc; the choice "counts only where two ways are given". A run of a prototype that breaks the rules may come to a companion or
-- to an unknown opcode: these go by their bits, but own nothing
unfoldable pub next : Proto → ℕ → Bool → State
next p pc choice =
    let w = word_at p pc in
    let on = arrive p (pos (pc + 1)) in
    let skipped = arrive p (pos (skip_target pc)) in
    let jumped = arrive p (target pc w) in
    cond (is w (JMP ∷ FORPREP ∷ [])) jumped
    (cond (is w (FORLOOP ∷ [])) (cond choice jumped on)
    (cond (is_loadbool_skip w) skipped
    (cond (is_skip w) (cond choice skipped on)
    (cond (is w (RETURN ∷ [])) (left (ended_at pc))
    (cond (is w (TAILCALL ∷ [])) (cond choice (left (ended_at pc)) on)
    (arrive p (pos (pc + 1 + companions p pc))))))))

-- the pcs whose words a run meets, "the first and the one where the list gives out included", and how it stands at the end
pub record Trace : Type 0 where
  pub met : List ℕ
  pub exit : Exit

-- a trace with one more pc met, before the others
unfoldable pub meet : ℕ → Trace → Trace
meet pc t = record { met = pc ∷ t.met; exit = t.exit }

-- a run of a list of choices, from where it stands
unfoldable pub run_from : Proto → List Bool → State → Trace
run_from p [] (left e) = record { met = []; exit = e }
run_from p [] (at pc) = record { met = pc ∷ []; exit = out_of_choices }
run_from p (choice ∷ choices) (left e) = record { met = []; exit = e }
run_from p (choice ∷ choices) (at pc) = meet pc (run_from p choices (next p pc choice))

-- "It starts at place 0". (An empty prototype has no run; here it has come past its last word at once and met nothing)
unfoldable pub run : Proto → List Bool → Trace
run p choices = run_from p choices (arrive p (pos 0))

-- a word that a run may meet: executable, and all that it names in range
pub record MayMeet (p : Proto) (pc : ℕ) : Type 0 where
  pub executable : Executable p pc
  pub operands : OperandsInRange p pc

-- where a run may leave: at RETURN or TAILCALL, the only words that end it, or "past the last word", which is "any place not below the word count"
abbrev pub MayLeave : Proto → Exit → Type 0
MayLeave p (ended_at pc) = T (is (word_at p pc) (RETURN ∷ TAILCALL ∷ []))
MayLeave p (no_word_at (pos n)) = length p.code ≤ n
MayLeave p (no_word_at (negsuc n)) = ⊥
MayLeave p out_of_choices = Unit {0}

-- the "single claim about the whole list of choices"
pub record Safe (p : Proto) (t : Trace) : Type 0 where
  pub met : All (MayMeet p) t.met
  pub exit : MayLeave p t.exit

-- the claim holds of the run on these choices
unfoldable pub SafeRun : Proto → List Bool → Type 0
SafeRun p choices = Safe p (run p choices)
