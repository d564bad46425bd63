-- Every execution of a well-formed prototype is safe. Assumes nothing.
use Prim.Native.Nat.{ℕ, ◌+◌}
use native.Mathlib.Nat.{add-zero}
use native.Mathlib.Omega.{arith}
use mathlib.Core.Path.{◌≡◌}
use mathlib.Core.Bool.{Bool, not}
use mathlib.Core.List.{List, [], ◌∷◌}
use lib.Dec.{T, ltb, ltb→lt, nltb→le}
use lib.ListN.{length}
use lib.IntN.{ℤ, pos, negsuc}
use Rattle.base.specs.Lists.{All, all_nil, all_cons}
use Rattle.opcodes.specs.Words.{operand, C, is, with_sbx, JMP, FORPREP, FORLOOP, RETURN, TAILCALL, EQ, LT, LE, TEST, TESTSET, TFORLOOP, LOADBOOL, CLOSURE, SETLIST}
use Rattle.roles_spec.specs.Table.{Proto}
use Rattle.roles_spec.specs.Roles.{Executable, is_executable, role_at, word_at, owned, existing, is_truncated, companions}
use Rattle.validator_spec.specs.Operands.{is_jump, is_skip, is_loadbool_skip, skip_target, target}
use Rattle.validator_spec.specs.Rules.{Lands, RulesAt, WellFormed, OperandsInRange}
use Rattle.validator_spec.specs.Executions.{State, at, left, arrive, next, meet, run_from, run, MayLeave, MayMeet, SafeRun}
use Rattle.base.proofs.BoolLaws.{t_and, by_cond, by_or, or_right, disjoint}
use Rattle.opcodes.proofs.OpcodeTestLaws.{is_among}
use Rattle.roles_spec.proofs.RoleLaws.{role, executable, first_executable, next_executable, owns_none}

-- a run may be in this state: at an executable word, or gone where it may leave
abbrev Fine : Proto → State → Type 0
Fine p (at pc) = Executable p pc
Fine p (left e) = MayLeave p e

arrive_role : (p : Proto) (n : ℕ) → T (is_executable (role_at p n)) → Fine p (arrive p (pos n))
unfolding arrive
arrive_role p n r =
    by_cond (Fine p) (ltb n (length p.code)) _ _ (λ t. executable p n (ltb→lt n _ t) r) (λ t. nltb→le n _ t)

arrive_lands : (p : Proto) (z : ℤ) → Lands p z → Fine p (arrive p z)
arrive_lands p (pos n) x = arrive_role p n (role p n x)
arrive_lands p (negsuc n) x = absurd x

-- a word of these opcodes goes on to the next word
on_fine : (p : Proto) (pc : ℕ) → Executable p pc → (ops : List ℕ) → T (disjoint ops (CLOSURE ∷ [])) → T (disjoint ops (SETLIST ∷ []))
    → T (is (word_at p pc) ops) → Fine p (arrive p (pos (pc + 1)))
on_fine p pc x ops c s t =
    arrive_role p (pc + 1) (rw (owns_none p pc ops c s t, add-zero) at (next_executable p pc x))

-- an owner that is not truncated has all the companions that it owns
all_there : (p : Proto) (pc : ℕ) → T (not (is_truncated p pc)) → companions p pc ≡ owned p pc
unfolding companions is_truncated existing
all_there p pc t = omega (arith, nltb→le _ (owned p pc) t)

-- each step of a run comes to a fine place
next_fine : (p : Proto) (pc : ℕ) (choice : Bool) → Executable p pc → RulesAt p pc → Fine p (next p pc choice)
unfolding next is_jump is_skip is_loadbool_skip
next_fine p pc choice x k =
    let w = word_at p pc in
    let tests = EQ ∷ LT ∷ LE ∷ TEST ∷ TESTSET ∷ TFORLOOP ∷ [] in
    let jumped : T (is_jump w) → Fine p (arrive p (target pc w)) = λ t. arrive_lands p (target pc w) (k.jump.target t) in
    let skipped : T (is_skip w) → Fine p (arrive p (pos (skip_target pc))) = λ t. arrive_role p (skip_target pc) (k.jump.skip t) in
    by_cond (Fine p) (is w (JMP ∷ FORPREP ∷ [])) _ _ (λ t. jumped (is_among w (JMP ∷ FORPREP ∷ []) with_sbx tt t))
    (λ _. by_cond (Fine p) (is w (FORLOOP ∷ [])) _ _
    (λ t. by_cond (Fine p) choice _ _ (λ _. jumped (is_among w (FORLOOP ∷ []) with_sbx tt t)) (λ _. on_fine p pc x (FORLOOP ∷ []) tt tt t))
    (λ _. by_cond (Fine p) (is_loadbool_skip w) _ _ (λ t. skipped (or_right (is w tests) (is_loadbool_skip w) t))
    (λ _. by_cond (Fine p) (is_skip w) _ _
    (λ t. by_cond (Fine p) choice _ _ (λ _. skipped t)
    (λ _. by_or (is w tests) (is_loadbool_skip w)
    (λ u. on_fine p pc x tests tt tt u)
    (λ u. on_fine p pc x (LOADBOOL ∷ []) tt tt (t_and (is w (LOADBOOL ∷ [])) (ltb 0 (operand C w)) u).0) t))
    (λ _. by_cond (Fine p) (is w (RETURN ∷ [])) _ _ (λ t. is_among w (RETURN ∷ []) (RETURN ∷ TAILCALL ∷ []) tt t)
    (λ _. by_cond (Fine p) (is w (TAILCALL ∷ [])) _ _
    (λ t. by_cond (Fine p) choice _ _ (λ _. is_among w (TAILCALL ∷ []) (RETURN ∷ TAILCALL ∷ []) tt t) (λ _. on_fine p pc x (TAILCALL ∷ []) tt tt t))
    (λ _. rw (all_there p pc k.truncated) (arrive_role p (pc + 1 + owned p pc) (next_executable p pc x))))))))

-- where the rules are kept at a word, the operands that it names are in range
in_range : (p : Proto) (pc : ℕ) → RulesAt p pc → OperandsInRange p pc
in_range p pc k =
    record {
      register = k.register;
      constant = k.constant;
      upvalue = k.upvalue;
      child = k.proto;
      captures = λ j h. (k.binding j h).captures;
    }

may_meet : (p : Proto) → WellFormed p → (pc : ℕ) → Executable p pc → MayMeet p pc
may_meet p k pc x = record { executable = x; operands = in_range p pc (k.words pc x) }

from_fine : (p : Proto) → WellFormed p → (choices : List Bool) (s : State) → Fine p s → All (MayMeet p) (run_from p choices s).met × MayLeave p (run_from p choices s).exit
unfolding run_from meet
from_fine p k [] (left e) x = (all_nil, x)
from_fine p k [] (at pc) x = (all_cons (may_meet p k pc x) all_nil, tt)
from_fine p k (c ∷ cs) (left e) x = (all_nil, x)
from_fine p k (c ∷ cs) (at pc) x =
    let (met, exit) = from_fine p k cs (next p pc c) (next_fine p pc c x (k.words pc x)) in
    (all_cons (may_meet p k pc x) met, exit)

pub runs_safe : (p : Proto) → WellFormed p → (choices : List Bool) → SafeRun p choices
unfolding SafeRun run
runs_safe p k choices =
    let (met, exit) = from_fine p k choices (arrive p (pos 0)) (arrive_role p 0 (first_executable p)) in
    record { met = met; exit = exit }
