-- Laws of runs, under document 01's words. They hold of every prototype, whether it keeps the rules or not. Assumes nothing.
use Rattle.std.specs.Prelude.{◌≡◌, refl, ℕ, suc, ◌+◌, ◌<◌, ◌≤◌, Bool, true, false, not, ◌||◌, cond, List, [], ◌∷◌, ◌++◌, T, eqb, length, ltb, ℤ, pos, negsuc}
use native.Mathlib.Omega.{arith}
use mathlib.Core.Path.{sym, ◌∙◌, ap, subst}
use borrow.Author.Tests.{lt-ltb}
use Rattle.opcodes.specs.Words.{is, opcode, operand, C, JMP, FORPREP, FORLOOP, RETURN, TAILCALL, EQ, LT, LE, TEST, TESTSET, LOADBOOL, TFORLOOP, CLOSURE, SETLIST}
use Rattle.base.proofs.BoolLaws.{t_true, t_false, t_and, or_false, true≢false, by_cond, subset}
use Rattle.opcodes.proofs.OpcodeTestLaws.{is_not, is_among}
use Rattle.roles_spec.specs.Table.{Proto}
use Rattle.roles_spec.specs.Roles.{word_at, owned, existing, companions}
use Rattle.roles_spec.proofs.RoleLaws.{owns_nothing}
use Rattle.validator_spec.specs.Operands.{is_skip, is_loadbool_skip, skip_target, conditional_skips, target}
use Rattle.validator_spec.specs.Statements.{GaveOut}
use Rattle.validator_spec.specs.Executions.{Exit, ended_at, no_word_at, out_of_choices, State, at, left, arrive, next, meet, run_from, run, MayLeave}

-- a test that passes twice
twice : {A : Type 0} (b : Bool) (x y z o : A) → cond b x (cond b y o) ≡ cond b x (cond b z o)
twice true x y z o = refl
twice false x y z o = refl

-- The choice "counts only where two ways are given": at each other word both choices go the same way
pub one_way : (p : Proto) (pc : ℕ) → T (not (is (word_at p pc) (FORLOOP ∷ TAILCALL ∷ conditional_skips))) → next p pc true ≡ next p pc false
unfolding next is_skip is
one_way p pc t =
    let w = word_at p pc in
    let none = or_false (eqb (opcode w) FORLOOP) _ (t_false _ t) in
    let rest = or_false (eqb (opcode w) TAILCALL) _ none.1 in
    rw (none.0, rest.0, rest.1)
    (ap (λ (s : State). cond (is w (JMP ∷ FORPREP ∷ [])) (arrive p (target pc w)) s) (twice (is_loadbool_skip w) _ _ _ _))

-- a word that owns none goes on to the next word
no_companions : (p : Proto) (pc : ℕ) → owned p pc ≡ 0 → arrive p (pos (pc + 1 + companions p pc)) ≡ arrive p (pos (pc + 1))
unfolding companions existing
no_companions p pc e = ap (λ (n : ℕ). arrive p (pos n)) (omega arith)

-- and an owner past its companions
pub owner_goes : (p : Proto) (pc : ℕ) (choice : Bool) → T (is (word_at p pc) (CLOSURE ∷ SETLIST ∷ [])) → next p pc choice ≡ arrive p (pos (pc + 1 + companions p pc))
unfolding next is_skip is_loadbool_skip
owner_goes p pc choice t =
    let w = word_at p pc in
    let owners = CLOSURE ∷ SETLIST ∷ [] in
    rw (is_not w owners (JMP ∷ FORPREP ∷ []) tt t, is_not w owners (FORLOOP ∷ []) tt t, is_not w owners (LOADBOOL ∷ []) tt t, is_not w owners conditional_skips tt t, is_not w owners (RETURN ∷ []) tt t, is_not w owners (TAILCALL ∷ []) tt t)

-- a word of none of these opcodes has none of those, which are among them
is_no : (w : ℕ) (these those : List ℕ) → T (subset those these) → is w these ≡ false → is w those ≡ false
is_no w these those s e = go (is w those) refl
  where
    go : (b : Bool) → is w those ≡ b → is w those ≡ false
    go true q = true≢false (sym (t_true (is w these) (is_among w those these s (subst T (sym q) tt))) ∙ e)
    go false q = q

-- the words that go elsewhere than to the next word, but for LOADBOOL
abbrev pub goes_elsewhere : List ℕ
goes_elsewhere = JMP ∷ FORPREP ∷ FORLOOP ∷ EQ ∷ LT ∷ LE ∷ TEST ∷ TESTSET ∷ TFORLOOP ∷ CLOSURE ∷ SETLIST ∷ RETURN ∷ TAILCALL ∷ []

-- each other word goes on
pub other_goes : (p : Proto) (pc : ℕ) (choice : Bool) → T (not (is (word_at p pc) goes_elsewhere || is_loadbool_skip (word_at p pc))) → next p pc choice ≡ arrive p (pos (pc + 1))
unfolding next is_skip
other_goes p pc choice t =
    let w = word_at p pc in
    let none = or_false (is w goes_elsewhere) (is_loadbool_skip w) (t_false _ t) in
    let no : (those : List ℕ) → T (subset those goes_elsewhere) → is w those ≡ false = λ those s. is_no w goes_elsewhere those s none.0 in
    rw (no (JMP ∷ FORPREP ∷ []) tt, no (FORLOOP ∷ []) tt, none.1, no conditional_skips tt, no (RETURN ∷ []) tt, no (TAILCALL ∷ []) tt)
    (no_companions p pc (owns_nothing p pc (no (CLOSURE ∷ []) tt) (no (SETLIST ∷ []) tt)))

-- where a step goes from each other kind of word
module _ (p : Proto) (pc : ℕ) where
  abbrev w : ℕ
  w = word_at p pc

  abbrev jump : List ℕ
  jump = JMP ∷ FORPREP ∷ []

  abbrev loop : List ℕ
  loop = FORLOOP ∷ []

  abbrev load : List ℕ
  load = LOADBOOL ∷ []

  abbrev return : List ℕ
  return = RETURN ∷ []

  abbrev call : List ℕ
  call = TAILCALL ∷ []

  pub jump_goes : (choice : Bool) → T (is w jump) → next p pc choice ≡ arrive p (target pc w)
  unfolding next
  jump_goes choice t = rw (t_true (is w jump) t)

  pub loop_goes : (choice : Bool) → T (is w loop) → next p pc choice ≡ cond choice (arrive p (target pc w)) (arrive p (pos (pc + 1)))
  unfolding next
  loop_goes choice t = rw (is_not w loop jump tt t, t_true (is w loop) t)

  pub skip_goes : (choice : Bool) → T (is w conditional_skips) → next p pc choice ≡ cond choice (arrive p (pos (pc + 2))) (arrive p (pos (pc + 1)))
  unfolding next is_skip is_loadbool_skip skip_target
  skip_goes choice t =
      let skip = conditional_skips in
      rw (is_not w skip jump tt t, is_not w skip loop tt t, is_not w skip load tt t, t_true (is w skip) t)

  pub loadbool_goes : (choice : Bool) → T (is_loadbool_skip w) → next p pc choice ≡ arrive p (pos (pc + 2))
  unfolding next is_loadbool_skip skip_target
  loadbool_goes choice t =
      let both = t_and (is w load) (ltb 0 (operand C w)) t in
      rw (is_not w load jump tt both.0, is_not w load loop tt both.0, t_true _ both.0, t_true _ both.1)

  pub return_ends : (choice : Bool) → T (is w return) → next p pc choice ≡ left (ended_at pc)
  unfolding next is_skip is_loadbool_skip
  return_ends choice t =
      rw (is_not w return jump tt t, is_not w return loop tt t, is_not w return load tt t, is_not w return conditional_skips tt t, t_true (is w return) t)

  pub tailcall_goes : (choice : Bool) → T (is w call) → next p pc choice ≡ cond choice (left (ended_at pc)) (arrive p (pos (pc + 1)))
  unfolding next is_skip is_loadbool_skip
  tailcall_goes choice t =
      rw (is_not w call jump tt t, is_not w call loop tt t, is_not w call load tt t, is_not w call conditional_skips tt t, is_not w call return tt t, t_true (is w call) t)

-- "It starts at place 0", where there is a word
pub starts_at_0 : (p : Proto) (choices : List Bool) → 0 < length p.code → (rest : List ℕ) × ((run p choices).met ≡ 0 ∷ rest)
unfolding run arrive run_from meet
starts_at_0 p [] h = ([], rw (lt-ltb 0 (length p.code) h))
starts_at_0 p (choice ∷ choices) h = ((run_from p choices (next p 0 choice)).met, rw (lt-ltb 0 (length p.code) h))

-- "An empty part has no run": it meets nothing
pub empty_meets_none : (p : Proto) (choices : List Bool) → p.code ≡ [] → (run p choices).met ≡ []
unfolding run arrive run_from
empty_meets_none p [] e = rw e
empty_meets_none p (choice ∷ choices) e = rw e

-- a run that has left meets nothing more, however many choices follow
pub left_meets_no_more : (p : Proto) (s : State) (xs ys : List Bool) → (GaveOut (run_from p xs s).exit → ⊥) → run_from p (xs ++ ys) s ≡ run_from p xs s
unfolding run_from meet
left_meets_no_more p (left e) [] [] n = refl
left_meets_no_more p (left e) [] (y ∷ ys) n = refl
left_meets_no_more p (at pc) [] ys n = absurd (n tt)
left_meets_no_more p (left e) (x ∷ xs) ys n = refl
left_meets_no_more p (at pc) (x ∷ xs) ys n = ap (meet pc) (left_meets_no_more p (next p pc x) xs ys n)

-- A run is at a word, or it has left. (The state `left out_of_choices` is neither, but no run comes to it)
abbrev Stands : State → Type 0
Stands (at pc) = Unit {0}
Stands (left e) = GaveOut e → ⊥

arrive_stands : (p : Proto) (z : ℤ) → Stands (arrive p z)
unfolding arrive
arrive_stands p (negsuc n) = λ g. g
arrive_stands p (pos n) = by_cond Stands (ltb n (length p.code)) _ _ (λ _. tt) (λ _ g. g)

next_stands : (p : Proto) (pc : ℕ) (choice : Bool) → Stands (next p pc choice)
unfolding next
next_stands p pc choice =
    let w = word_at p pc in
    let on : (z : ℤ) → Stands (arrive p z) = arrive_stands p in
    let ended : Stands (left (ended_at pc)) = λ g. g in
    by_cond Stands (is w (JMP ∷ FORPREP ∷ [])) _ _ (λ _. on _)
    (λ _. by_cond Stands (is w (FORLOOP ∷ [])) _ _ (λ _. by_cond Stands choice _ _ (λ _. on _) (λ _. on _))
    (λ _. by_cond Stands (is_loadbool_skip w) _ _ (λ _. on _)
    (λ _. by_cond Stands (is_skip w) _ _ (λ _. by_cond Stands choice _ _ (λ _. on _) (λ _. on _))
    (λ _. by_cond Stands (is w (RETURN ∷ [])) _ _ (λ _. ended)
    (λ _. by_cond Stands (is w (TAILCALL ∷ [])) _ _ (λ _. by_cond Stands choice _ _ (λ _. ended) (λ _. on _))
    (λ _. on _))))))

-- such a run met a word for each choice, and then the word at which it stands; with more choices it meets these, and then what a run from there meets
pub record GoesOnFrom (p : Proto) (s : State) (choices : List Bool) : Type 0 where
  pub before : List ℕ
  pub each : length before ≡ length choices
  pub stands : ℕ
  pub met : (run_from p choices s).met ≡ before ++ (stands ∷ [])
  pub rest : (more : List Bool) → run_from p (choices ++ more) s ≡ record { met = before ++ (run_from p more (at stands)).met; exit = (run_from p more (at stands)).exit }

from_stands : (p : Proto) (s : State) (xs : List Bool) → Stands s → GaveOut (run_from p xs s).exit → GoesOnFrom p s xs
unfolding run_from meet
from_stands p (left e) [] n g = absurd (n g)
from_stands p (at pc) [] n g = record { before = []; stands = pc; each = refl; met = refl; rest = λ ys. refl }
from_stands p (left e) (x ∷ xs) n g = absurd (n g)
from_stands p (at pc) (x ∷ xs) n g =
    let r = from_stands p (next p pc x) xs (next_stands p pc x) g in
    record { before = pc ∷ r.before; stands = r.stands; each = ap suc r.each; met = ap (λ (l : List ℕ). pc ∷ l) r.met; rest = λ ys. ap (meet pc) (r.rest ys) }

-- a run of xs ++ ys goes on where that of xs stands
pub goes_on_from : (p : Proto) (xs : List Bool) → GaveOut (run p xs).exit → GoesOnFrom p (arrive p (pos 0)) xs
unfolding run
goes_on_from p xs g = from_stands p (arrive p (pos 0)) xs (arrive_stands p (pos 0)) g

-- ---- a safe run leaves only where it may

-- how a run stands, by kind
abbrev IsEnd : Exit → Type 0
IsEnd (ended_at pc) = Unit {0}
IsEnd (no_word_at z) = ⊥
IsEnd out_of_choices = ⊥

abbrev IsGone : Exit → Type 0
IsGone (ended_at pc) = ⊥
IsGone (no_word_at z) = Unit {0}
IsGone out_of_choices = ⊥

-- past the last word, if it has come to no word
abbrev Past : Proto → Exit → Type 0
Past p (ended_at pc) = ⊥
Past p (no_word_at z) = (n : ℕ) × (z ≡ pos n) × (length p.code ≤ n)
Past p out_of_choices = ⊥

pub ends_there : (p : Proto) (e : Exit) (pc : ℕ) → MayLeave p e → e ≡ ended_at pc → T (is (word_at p pc) (RETURN ∷ TAILCALL ∷ []))
ends_there p (ended_at n) pc m q = subst (λ (x : Exit). MayLeave p x) q m
ends_there p (no_word_at z) pc m q = absurd (subst IsGone q tt)
ends_there p out_of_choices pc m q = absurd (subst GaveOut q tt)

pub goes_past : (p : Proto) (e : Exit) (z : ℤ) → MayLeave p e → e ≡ no_word_at z → (n : ℕ) × (z ≡ pos n) × (length p.code ≤ n)
goes_past p (ended_at pc) z m q = absurd (subst IsEnd q tt)
goes_past p (no_word_at (pos n)) z m q = subst (Past p) q (n, refl, m)
goes_past p (no_word_at (negsuc n)) z m q = absurd m
goes_past p out_of_choices z m q = absurd (subst GaveOut q tt)
