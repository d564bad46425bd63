-- Laws of roles: what an executable word is, that the word after one and its companions is executable, and what is claimed. Assumes nothing.
use Prim.Native.Nat.{ℕ, zero, suc, ◌+◌, ◌<◌}
use native.Mathlib.Nat.{not-suc-le-zero, le_of_suc-le-suc, add-zero, add-suc, zero-add, suc-add}
use native.Mathlib.Numerals.{add-one}
use mathlib.Core.Path.{◌≡◌, refl, sym, ◌∙◌, subst, ap, ap₂}
use mathlib.Core.Bool.{Bool, true, false, not, ◌&&◌, and-false}
use mathlib.Core.List.{List, [], ◌∷◌, map, ◌++◌}
use lib.ListN.{length, get_or, drop, set, length-drop, take}
use lib.Seq.{get_or-drop, take-nil}
use native.Mathlib.Omega.{arith}
use lib.Dec.{T, ltb, ltb→lt, lt→ltb}
use Rattle.base.specs.Lists.{All, all_nil, all_cons, up_from, only}
use Rattle.opcodes.specs.Words.{is, CLOSURE, SETLIST}
use Rattle.roles_spec.specs.Table.{Proto}
use Rattle.roles_spec.specs.Roles.{Role, Instruction, ClosureBinding, SetlistExtra, is_executable, executable_at, Executable, binding_count, has_extra, claims, roles_from, roles, role_at, word_at, owned, existing, companions}
use Rattle.base.proofs.AllLaws.{all_append, all_at}
use Rattle.base.proofs.BoolLaws.{t_and, t_true, t_false, and_t, by_cond, disjoint}
use Rattle.opcodes.proofs.OpcodeTestLaws.{is_not}

-- ---- an executable word

pub executable_role : (r : Role) → T (is_executable r) → r ≡ Instruction
executable_role Instruction t = refl
executable_role (ClosureBinding o i) t = absurd t
executable_role (SetlistExtra o) t = absurd t

pub role_executable : {r : Role} → r ≡ Instruction → T (is_executable r)
role_executable e = subst (λ (r : Role). T (is_executable r)) (sym e) tt

pub exists : (p : Proto) (pc : ℕ) → Executable p pc → pc < length p.code
unfolding executable_at
exists p pc x = ltb→lt pc (length p.code) (t_and (ltb pc (length p.code)) (is_executable (role_at p pc)) x).0

pub role : (p : Proto) (pc : ℕ) → Executable p pc → T (is_executable (role_at p pc))
unfolding executable_at
role p pc x = (t_and (ltb pc (length p.code)) (is_executable (role_at p pc)) x).1

pub executable : (p : Proto) (pc : ℕ) → pc < length p.code → T (is_executable (role_at p pc)) → Executable p pc
unfolding executable_at
executable p pc h r = and_t (ltb pc (length p.code)) (is_executable (role_at p pc)) (lt→ltb pc (length p.code) h) r

-- ---- the word after an executable one and its companions

-- no role that is claimed is executable
abbrev Companion : Role → Type 0
Companion r = T (not (is_executable r))

bindings_companions : (pc i n : ℕ) → All Companion (map (ClosureBinding pc) (up_from i n))
bindings_companions pc i zero = all_nil
bindings_companions pc i (suc n) = all_cons tt (bindings_companions pc (suc i) n)

extra_companion : (b : Bool) (pc : ℕ) → All Companion (only b (SetlistExtra pc))
unfolding only
extra_companion true pc = all_cons tt all_nil
extra_companion false pc = all_nil

claims_companions : (p : Proto) (pc w : ℕ) → All Companion (claims p pc w)
unfolding claims
claims_companions p pc w = all_append (bindings_companions pc 0 (binding_count p w)) (extra_companion (has_extra w) pc)

-- the word after the claimed ones is executable, or there is none
past_claimed : (p : Proto) (pc : ℕ) (claimed : List Role) (ws : List ℕ) → get_or (roles_from p pc claimed ws) (length claimed) Instruction ≡ Instruction
unfolding roles_from
past_claimed p pc claimed [] = refl
past_claimed p pc [] (w ∷ ws) = refl
past_claimed p pc (r ∷ claimed) (w ∷ ws) = past_claimed p (suc pc) claimed ws

-- a claimed word that exists has the role that was claimed for it
claimed_role : (p : Proto) (pc : ℕ) (claimed : List Role) (ws : List ℕ) (j : ℕ) → j < length claimed → j < length ws → get_or (roles_from p pc claimed ws) j Instruction ≡ get_or claimed j Instruction
unfolding roles_from
claimed_role p pc claimed [] j h l = absurd (not-suc-le-zero l)
claimed_role p pc [] (w ∷ ws) j h l = absurd (not-suc-le-zero h)
claimed_role p pc (r ∷ claimed) (w ∷ ws) zero h l = refl
claimed_role p pc (r ∷ claimed) (w ∷ ws) (suc j) h l = claimed_role p (suc pc) claimed ws j (le_of_suc-le-suc h) (le_of_suc-le-suc l)

-- after an executable word at index k, the words go on with what it claims
after_owner : (p : Proto) (pc : ℕ) (claimed : List Role) (ws : List ℕ) (k : ℕ) → All Companion claimed → k < length ws → get_or (roles_from p pc claimed ws) k Instruction ≡ Instruction
    → drop (suc k) (roles_from p pc claimed ws) ≡ roles_from p (suc (pc + k)) (claims p (pc + k) (get_or ws k 0)) (drop (suc k) ws)
unfolding roles_from
after_owner p pc claimed [] k c h e = absurd (not-suc-le-zero h)
after_owner p pc [] (w ∷ ws) zero c h e = rw add-zero
after_owner p pc [] (w ∷ ws) (suc k) c h e =
    rw (add-suc pc k, ← suc-add pc k) (after_owner p (suc pc) (claims p pc w) ws k (claims_companions p pc w) (le_of_suc-le-suc h) e)
after_owner p pc (r ∷ claimed) (w ∷ ws) zero (all_cons c cs) h e = absurd (subst Companion e c)
after_owner p pc (r ∷ claimed) (w ∷ ws) (suc k) (all_cons c cs) h e =
    rw (add-suc pc k, ← suc-add pc k) (after_owner p (suc pc) claimed ws k cs (le_of_suc-le-suc h) e)

-- the roles of a prototype's words after an executable word
pub roles_after_owner : (p : Proto) (pc : ℕ) → Executable p pc → drop (pc + 1) (roles p) ≡ roles_from p (pc + 1) (claims p pc (word_at p pc)) (drop (pc + 1) p.code)
unfolding roles word_at role_at
roles_after_owner p pc x =
    let e = after_owner p 0 [] p.code pc all_nil (exists p pc x) (executable_role _ (role p pc x)) in
    rw add-one (rw zero-add at e)

-- word 0 is executable, or there is none
pub first_executable : (p : Proto) → T (is_executable (role_at p 0))
unfolding role_at roles
first_executable p = role_executable (past_claimed p 0 [] p.code)

-- an executable word owns what it claims
pub owned_count : (p : Proto) (pc : ℕ) → Executable p pc → owned p pc ≡ length (claims p pc (word_at p pc))
unfolding owned
owned_count p pc x = rw (t_true (executable_at p pc) x)

-- the word after an executable word and the words that it owns is executable
pub next_executable : (p : Proto) (pc : ℕ) → Executable p pc → T (is_executable (role_at p (pc + 1 + owned p pc)))
unfolding role_at
next_executable p pc x =
    role_executable (
    sym (get_or-drop (pc + 1) (roles p) (owned p pc) Instruction)
    ∙ ap₂ (λ (l : List Role) (n : ℕ). get_or l n Instruction) (roles_after_owner p pc x) (owned_count p pc x)
    ∙ past_claimed p (pc + 1) (claims p pc (word_at p pc)) (drop (pc + 1) p.code)
    )

-- a word that is neither CLOSURE nor SETLIST owns none
pub owns_nothing : (p : Proto) (pc : ℕ) → is (word_at p pc) (CLOSURE ∷ []) ≡ false → is (word_at p pc) (SETLIST ∷ []) ≡ false → owned p pc ≡ 0
unfolding owned claims binding_count has_extra only
owns_nothing p pc c s = by_cond (λ (n : ℕ). n ≡ 0) (executable_at p pc) (length (claims p pc (word_at p pc))) 0 (λ _. simp (c, s)) (λ _. refl)

-- a word whose opcode is in a list without CLOSURE and SETLIST owns none
pub owns_none : (p : Proto) (pc : ℕ) (ops : List ℕ) → T (disjoint ops (CLOSURE ∷ [])) → T (disjoint ops (SETLIST ∷ [])) → T (is (word_at p pc) ops) → owned p pc ≡ 0
owns_none p pc ops c s t = owns_nothing p pc (is_not (word_at p pc) ops (CLOSURE ∷ []) c t) (is_not (word_at p pc) ops (SETLIST ∷ []) s t)

-- the words that an executable word owns, as far as they exist, have the roles that it claims, whether it is truncated or not
pub owned_role : (p : Proto) (pc j : ℕ) → Executable p pc → j < companions p pc → role_at p (pc + 1 + j) ≡ get_or (claims p pc (word_at p pc)) j Instruction
unfolding role_at companions existing
owned_role p pc j x h =
    sym (get_or-drop (pc + 1) (roles p) j Instruction)
    ∙ ap (λ (l : List Role). get_or l j Instruction) (roles_after_owner p pc x)
    ∙ claimed_role p (pc + 1) (claims p pc (word_at p pc)) (drop (pc + 1) p.code) j (omega (arith, owned_count p pc x)) (omega (arith, length-drop (pc + 1) p.code))

-- so none of those words is executable
pub companion_unexecutable : (p : Proto) (pc j : ℕ) → Executable p pc → j < companions p pc → executable_at p (pc + 1 + j) ≡ false
unfolding executable_at companions existing
companion_unexecutable p pc j x h =
    let cs = claims p pc (word_at p pc) in
    let mine = all_at j Instruction (omega (arith, owned_count p pc x)) (claims_companions p pc (word_at p pc)) in
    let no : is_executable (role_at p (pc + 1 + j)) ≡ false = ap is_executable (owned_role p pc j x h) ∙ t_false (is_executable (get_or cs j Instruction)) mine in
    ap (λ (b : Bool). ltb (pc + 1 + j) (length p.code) && b) no ∙ and-false (ltb (pc + 1 + j) (length p.code))

-- other bits in a companion change no role: it is never read as an owner
pub companion_unread : (p : Proto) (pc : ℕ) (claimed : List Role) (ws : List ℕ) (k w : ℕ) → T (not (is_executable (get_or (roles_from p pc claimed ws) k Instruction)))
    → roles_from p pc claimed (set ws k w) ≡ roles_from p pc claimed ws
unfolding roles_from
companion_unread p pc claimed [] k w t = refl
companion_unread p pc [] (v ∷ ws) zero w t = absurd t
companion_unread p pc [] (v ∷ ws) (suc k) w t = ap (λ (l : List Role). Instruction ∷ l) (companion_unread p (suc pc) (claims p pc v) ws k w t)
companion_unread p pc (r ∷ claimed) (v ∷ ws) zero w t = refl
companion_unread p pc (r ∷ claimed) (v ∷ ws) (suc k) w t = ap (λ (l : List Role). r ∷ l) (companion_unread p (suc pc) claimed ws k w t)

-- roles depend on the words and on the children alone
pub roles_by_children : (p q : Proto) (e : p.children ≡ q.children) (pc : ℕ) (claimed : List Role) (ws : List ℕ) → roles_from p pc claimed ws ≡ roles_from q pc claimed ws
unfolding roles_from claims binding_count
roles_by_children p q e pc claimed [] = refl
roles_by_children p q e pc [] (w ∷ ws) = rw e (ap (λ (l : List Role). Instruction ∷ l) (roles_by_children p q e (suc pc) (claims q pc w) ws))
roles_by_children p q e pc (r ∷ claimed) (w ∷ ws) = ap (λ (l : List Role). r ∷ l) (roles_by_children p q e (suc pc) claimed ws)

-- ---- claimed words

-- the claimed words that exist take their roles, and the word after them is looked at next
pub past_claims : (p : Proto) (pc : ℕ) (cl : List Role) (ws : List ℕ) → let mine = take (length ws) cl in roles_from p pc cl ws ≡ mine ++ roles_from p (pc + length mine) [] (drop (length mine) ws)
unfolding roles_from
past_claims p pc [] ws = rw (take-nil, add-zero)
past_claims p pc (r ∷ cl) [] = refl
past_claims p pc (r ∷ cl) (w ∷ ws) = ap (λ (l : List Role). r ∷ l) (past_claims p (suc pc) cl ws ∙ rw (suc-add, add-suc))

-- a SETLIST is no CLOSURE
pub no_both : {X : Type 0} (w : ℕ) → T (has_extra w) → T (is w (CLOSURE ∷ [])) → X
unfolding has_extra
no_both w x c = absurd (subst T (is_not w (SETLIST ∷ []) (CLOSURE ∷ []) tt (t_and (is w (SETLIST ∷ [])) _ x).0) c)
