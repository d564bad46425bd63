-- The diagnostics of a prototype against the rules: each list of diagnostics is empty where its rule is kept, else it has an error. Assumes nothing.
use Prim.Native.Nat.{ℕ, zero, suc, ◌+◌, ◌≤◌, ◌<◌}
use native.Mathlib.Nat.{add-zero, add-suc, suc-add, not-suc-le-zero, le_of_suc-le-suc}
use native.Mathlib.Omega.{arith}
use mathlib.Core.Path.{◌≡◌, refl, sym, ◌∙◌, ap₂, subst}
use mathlib.Core.Logic.{◌↔◌}
use mathlib.Core.Bool.{Bool, true, false, not, ◌&&◌, cond}
use mathlib.Core.List.{List, [], ◌∷◌, ◌++◌, map, flat_map, flatten}
use lib.Dec.{T, T_not, eqb, leb, ltb, leb→le, nleb→lt, ltb→lt, nltb→le}
use lib.ListN.{length}
use borrow.Author.Tests.{le-ltb}
use lib.IntN.{ℤ, pos, negsuc}
use Rattle.base.specs.Lists.{All, all_nil, all_cons, only, up_from, select, keep_if}
use Rattle.opcodes.specs.Words.{opcode, is, B, C, CLOSURE}
use Rattle.roles_spec.specs.Table.{Proto}
use Rattle.roles_spec.specs.Roles.{is_executable, executable_at, Executable, role_at, word_at, owned, existing, companions, is_truncated, binding_words}
use Rattle.validator_spec.specs.Operands.{is_unknown, is_binding, is_jump, target, is_skip, skip_target, constant_bx, upvalue_b, flag_a, flag_limit, register_a, span_ends, register_in, constant_in, child_bx, captured_register, captured_upvalue}
use Rattle.validator_spec.specs.Diagnostics.{Diagnostic, diagnostic, is_error, not_below, truncation_at, opcode_diagnostics, target_diagnostics, jump_diagnostics, skip_diagnostics, binding_diagnostics, operand_diagnostics, known_diagnostics, word_diagnostics, diagnostics_at}
use Rattle.validator_spec.specs.Rules.{Below, registers_of, constants_of, Lands, JumpKept, BindingKept, RulesAt, WellFormed}
use Rattle.base.proofs.AllLaws.{all_left, all_right, all_head, all_tail, all_flatten, flatten_all}
use Rattle.base.proofs.BoolLaws.{t_true, t_false, not_not, double_not, by_cond}
use Rattle.roles_spec.proofs.RoleLaws.{exists, role, executable}

abbrev pub Warns : Diagnostic → Type 0
Warns d = T (not (is_error d))

-- these diagnostics tell whether X holds: there are none where it does, and an error where it does not
record Tells (ds : List Diagnostic) (X : Type 0) : Type 0 where
  clean : All Warns ds → X
  none : X → ds ≡ []

tells_as : {ds : List Diagnostic} {X Y : Type 0} → (X → Y) → (Y → X) → Tells ds X → Tells ds Y
tells_as f g t = record { clean = λ c. f (t.clean c); none = λ y. t.none (g y) }

tells_error : (d : Diagnostic) (ds : List Diagnostic) {X : Type 0} → T (is_error d) → (X → ⊥) → Tells (d ∷ ds) X
tells_error d ds e f = record { clean = λ c. absurd (T_not (is_error d) (all_head c) e); none = λ x. absurd (f x) }

tells_only : (b : Bool) (d : Diagnostic) → T (is_error d) → Tells (only b d) (T (not b))
unfolding only
tells_only true d e = tells_error d [] e (λ x. x)
tells_only false d e = record { clean = λ c. tt; none = λ x. refl }

tells_if : (b : Bool) {X : Type 0} {ds : List Diagnostic} → Tells ds X → Tells (cond b ds []) (T b → X)
tells_if true t = tells_as (λ x _. x) (λ f. f tt) t
tells_if false t = record { clean = λ _ b. absurd b; none = λ _. refl }

-- lists end to end
append_none : {a b : List Diagnostic} → a ≡ [] → b ≡ [] → a ++ b ≡ []
append_none p q = ap₂ (λ (x y : List Diagnostic). x ++ y) p q

tells_append : (a b : List Diagnostic) {X Y : Type 0} → Tells a X → Tells b Y → Tells (a ++ b) (X × Y)
tells_append a b s t =
    record { clean = λ c. (s.clean (all_left a b c), t.clean (all_right a c)); none = λ x. append_none (s.none x.0) (t.none x.1) }

-- such lists of diagnostics, end to end. (A record, so that the lists can be inferred)
record TellAll (L : List (List Diagnostic)) (X : Type 0) : Type 0 where
  all : Tells (flatten L) X

tell_nil : TellAll [] (Unit {0})
unfolding flatten
tell_nil = record { all = record { clean = λ c. tt; none = λ x. refl } }

infixr 20 ◌and◌
◌and◌ : {a : List Diagnostic} {L : List (List Diagnostic)} {X Y : Type 0} → Tells a X → TellAll L Y → TellAll (a ∷ L) (X × Y)
unfolding flatten
◌and◌ {a} {L} s t = record { all = tells_append a (flatten L) s t.all }

-- a pair, for chains of them
infixr 20 ◌&◌
abbrev ◌&◌ : {X Y : Type 0} → X → Y → X × Y
x & y = (x, y)

tells_up_from : (f : ℕ → List Diagnostic) (X : ℕ → Type 0) (i n : ℕ) → ((j : ℕ) → j < n → Tells (f (i + j)) (X (i + j)))
    → Tells (flat_map f (up_from i n)) ((j : ℕ) → j < n → X (i + j))
unfolding flat_map
tells_up_from f X i zero t = record { clean = λ c j h. absurd (not-suc-le-zero h); none = λ x. refl }
tells_up_from f X i (suc n) t =
    tells_as
    (λ xs. λ j. elim j as (λ k. k < suc n → X (i + k)) [ zero ↦ λ h. subst X (sym (add-zero i)) xs.0 | suc k ↦ λ h. subst X (suc-add i k ∙ sym (add-suc i k)) (xs.1 k (le_of_suc-le-suc h)) ])
    (λ g. (subst X (add-zero i) (g 0 (omega arith)), λ k h. subst X (add-suc i k ∙ sym (suc-add i k)) (g (suc k) (omega arith))))
    (tells_append (f i) (flat_map f (up_from (suc i) n))
    (subst (λ (m : ℕ). Tells (f m) (X m)) (add-zero i) (t 0 (omega arith)))
    (tells_up_from f X (suc i) n (λ k h. subst (λ (m : ℕ). Tells (f m) (X m)) (add-suc i k ∙ sym (suc-add i k)) (t (suc k) (omega arith)))))

-- ---- each kind of diagnostic

tells_below : (pc code limit : ℕ) (vs : List ℕ) → T (not (eqb code 3)) → Tells (not_below pc code limit vs) (Below limit vs)
unfolding not_below
tells_below pc code limit [] e = record { clean = λ c. all_nil; none = λ x. refl }
tells_below pc code limit (v ∷ vs) e = go (leb limit v) refl (tells_below pc code limit vs e)
  where
    go : (b : Bool) → leb limit v ≡ b → Tells (not_below pc code limit vs) (Below limit vs)
        → Tells (map (λ x. diagnostic pc code (pos x)) (keep_if b v (select (λ x. leb limit x) vs))) (Below limit (v ∷ vs))
    go true q t =
        let h : limit ≤ v = leb→le limit v (subst T (sym q) tt) in
        tells_error (diagnostic pc code (pos v)) _ e (λ k. let l : v < limit = all_head k in omega arith)
    go false q t =
        let h : v < limit = nleb→lt limit v (subst (λ (b : Bool). T (not b)) (sym q) tt) in
        tells_as (λ k. all_cons h k) (λ k. all_tail k) t

pub below_none : (pc code limit : ℕ) (vs : List ℕ) → T (not (eqb code 3)) → Below limit vs → not_below pc code limit vs ≡ []
below_none pc code limit vs e = (tells_below pc code limit vs e).none

tells_target : (p : Proto) (pc : ℕ) (z : ℤ) → Tells (target_diagnostics p pc z) (Lands p z)
unfolding target_diagnostics
tells_target p pc (negsuc n) = tells_error _ [] tt (λ x. x)
tells_target p pc (pos n) = go (ltb n (length p.code)) refl
  where
    go : (b : Bool) → ltb n (length p.code) ≡ b
        → Tells (cond b (only (not (is_executable (role_at p n))) (diagnostic pc 6 (pos n))) (diagnostic pc 5 (pos n) ∷ [])) (Executable p n)
    go true q =
        tells_as (λ x. executable p n (ltb→lt n _ (subst T (sym q) tt)) (double_not (is_executable (role_at p n)) x))
        (λ x. not_not (is_executable (role_at p n)) (role p n x))
        (tells_only (not (is_executable (role_at p n))) _ tt)
    go false q =
        tells_error _ [] tt (λ x. let h : length p.code ≤ n = nltb→le n _ (subst (λ (b : Bool). T (not b)) (sym q) tt) in omega (arith, exists p n x))

tells_skip : (p : Proto) (pc w : ℕ) → Tells (skip_diagnostics p pc w) (T (is_skip w) → T (is_executable (role_at p (skip_target pc))))
unfolding skip_diagnostics only
tells_skip p pc w = go (is_skip w) (is_executable (role_at p (skip_target pc)))
  where
    go : (b r : Bool) → Tells (only (b && not r) (diagnostic pc 6 (pos (skip_target pc)))) (T b → T r)
    go true r = tells_as (λ x _. double_not r x) (λ f. not_not r (f tt)) (tells_only (not r) _ tt)
    go false r = record { clean = λ c t. absurd t; none = λ x. refl }

tells_binding : (p : Proto) (pc : ℕ) → Tells (binding_diagnostics p pc) (BindingKept p (word_at p pc))
unfolding binding_diagnostics
tells_binding p pc =
    let w = word_at p pc in
    tells_as
    (λ x. record { opcode = double_not (is_binding w) x.0; captures = record { register = x.1.0; upvalue = x.1.1.0 } })
    (λ k. not_not (is_binding w) k.opcode & k.captures.register & k.captures.upvalue & tt)
    (tells_only (not (is_binding w)) _ tt
    and tells_below pc 12 p.stack (captured_register w) tt
    and tells_below pc 8 p.upvalues (captured_upvalue w) tt
    and tell_nil).all

-- ---- the rules at one executable word

-- the rules of codes 5 to 17
pub record KnownKept (p : Proto) (pc : ℕ) : Type 0 where
  pub jump : JumpKept p pc
  pub constant : Below p.constants (constants_of (word_at p pc))
  pub upvalue : Below p.upvalues (upvalue_b (word_at p pc))
  pub flag : Below flag_limit (flag_a (word_at p pc))
  pub register : Below p.stack (registers_of (word_at p pc))
  pub proto : Below (length p.children) (child_bx (word_at p pc))
  pub binding : (j : ℕ) → j < binding_words p pc → BindingKept p (word_at p (pc + 1 + j))

tells_kept : (p : Proto) (pc : ℕ) → Tells (known_diagnostics p pc (word_at p pc)) (KnownKept p pc)
unfolding known_diagnostics jump_diagnostics operand_diagnostics registers_of constants_of
tells_kept p pc =
    let w = word_at p pc in
    tells_as
    (λ (jump, (skip, ((k, (u, (f, (a, (s, (b, (c, (kb, (kc, (child, _)))))))))), (bound, _)))).
    record {
      jump = record { target = jump; skip = skip };
      constant = all_flatten (all_cons k (all_cons kb (all_cons kc all_nil)));
      upvalue = u;
      flag = f;
      register = all_flatten (all_cons a (all_cons s (all_cons b (all_cons c all_nil))));
      proto = child;
      binding = bound;
    })
    (λ h.
    let r = flatten_all (register_a w ∷ span_ends w ∷ register_in B w ∷ register_in C w ∷ []) h.register in
    let k = flatten_all (constant_bx w ∷ constant_in B w ∷ constant_in C w ∷ []) h.constant in
    h.jump.target
    & h.jump.skip
    & (all_head k & h.upvalue & h.flag & all_head r & all_head (all_tail r) & all_head (all_tail (all_tail r)) & all_head (all_tail (all_tail (all_tail r)))
    & all_head (all_tail k) & all_head (all_tail (all_tail k)) & h.proto & tt)
    & h.binding
    & tt)
    (tells_if (is_jump w) (tells_target p pc (target pc w))
    and tells_skip p pc w
    and (tells_below pc 7 p.constants (constant_bx w) tt
    and tells_below pc 8 p.upvalues (upvalue_b w) tt
    and tells_below pc 9 flag_limit (flag_a w) tt
    and tells_below pc 10 p.stack (register_a w) tt
    and tells_below pc 11 p.stack (span_ends w) tt
    and tells_below pc 12 p.stack (register_in B w) tt
    and tells_below pc 13 p.stack (register_in C w) tt
    and tells_below pc 14 p.constants (constant_in B w) tt
    and tells_below pc 15 p.constants (constant_in C w) tt
    and tells_below pc 16 (length p.children) (child_bx w) tt
    and tell_nil).all
    and tells_up_from (binding_diagnostics p) (λ at. BindingKept p (word_at p at)) (pc + 1) (binding_words p pc) (λ j h. tells_binding p (pc + 1 + j))
    and tell_nil).all

tells_known : (p : Proto) (pc : ℕ) → T (not (is_unknown (word_at p pc))) → T (not (is_truncated p pc)) → Tells (known_diagnostics p pc (word_at p pc)) (RulesAt p pc)
tells_known p pc known whole =
    tells_as
    (λ k.
    record {
      truncated = whole;
      opcode = known;
      jump = k.jump;
      constant = k.constant;
      upvalue = k.upvalue;
      flag = k.flag;
      register = k.register;
      proto = k.proto;
      binding = k.binding;
    })
    (λ h.
    record { jump = h.jump; constant = h.constant; upvalue = h.upvalue; flag = h.flag; register = h.register; proto = h.proto; binding = h.binding })
    (tells_kept p pc)

tells_word : (p : Proto) (pc : ℕ) → T (not (is_truncated p pc)) → Tells (word_diagnostics p pc (word_at p pc)) (RulesAt p pc)
unfolding word_diagnostics opcode_diagnostics only
tells_word p pc whole = go (is_unknown (word_at p pc)) refl
  where
    go : (b : Bool) → is_unknown (word_at p pc) ≡ b → Tells (only b (diagnostic pc 4 (pos (opcode (word_at p pc)))) ++ cond b [] (known_diagnostics p pc (word_at p pc))) (RulesAt p pc)
    go true e = tells_error _ [] tt (λ k. T_not (is_unknown (word_at p pc)) k.opcode (subst T (sym e) tt))
    go false e = tells_known p pc (subst (λ (b : Bool). T (not b)) (sym e) tt) whole

-- at an executable word
tells_at : (p : Proto) (pc : ℕ) → Executable p pc → T (not (is_truncated p pc)) → Tells (diagnostics_at p pc) (RulesAt p pc)
unfolding diagnostics_at
tells_at p pc x whole = rw (t_true (executable_at p pc) x) (tells_word p pc whole)

tells_truncation : (p : Proto) (pc : ℕ) → Tells (truncation_at p pc) (T (not (is_truncated p pc)))
unfolding truncation_at
tells_truncation p pc =
    (tells_only (is_truncated p pc) _ (by_cond (λ d. T (is_error d)) (is (word_at p pc) (CLOSURE ∷ [])) _ _ (λ _. tt) (λ _. tt)))

-- ---- a prototype

-- diagnostics that are there only at an executable word
none_elsewhere : (p : Proto) (pc : ℕ) (f : Bool → List Diagnostic) → f false ≡ [] → (Executable p pc → f (executable_at p pc) ≡ []) → f (executable_at p pc) ≡ []
none_elsewhere p pc f away here = go (executable_at p pc) refl
  where
    go : (b : Bool) → executable_at p pc ≡ b → f (executable_at p pc) ≡ []
    go true e = here (subst T (sym e) tt)
    go false e = subst (λ (b : Bool). f b ≡ []) (sym e) away

pub clean_well_formed : (p : Proto) → ((pc : ℕ) → pc < length p.code → All Warns (truncation_at p pc)) → ((pc : ℕ) → pc < length p.code → All Warns (diagnostics_at p pc)) → WellFormed p
clean_well_formed p t d =
    record { words = λ pc x. (tells_at p pc x ((tells_truncation p pc).clean (t pc (exists p pc x)))).clean (d pc (exists p pc x)) }

-- a companion owns none and is not truncated
not_truncated : (p : Proto) → WellFormed p → (pc : ℕ) → T (not (is_truncated p pc))
unfolding is_truncated companions owned
not_truncated p k pc = go (executable_at p pc) refl
  where
    go : (b : Bool) → executable_at p pc ≡ b → T (not (is_truncated p pc))
    go true e = (k.words pc (subst T (sym e) tt)).truncated
    go false e = rw (e, le-ltb (existing p pc 0) 0 (omega arith)) tt

pub no_truncation : (p : Proto) → WellFormed p → (pc : ℕ) → truncation_at p pc ≡ []
no_truncation p k pc = (tells_truncation p pc).none (not_truncated p k pc)

pub no_diagnostics : (p : Proto) → WellFormed p → (pc : ℕ) → diagnostics_at p pc ≡ []
unfolding diagnostics_at
no_diagnostics p k pc =
    none_elsewhere p pc (λ b. cond b (word_diagnostics p pc (word_at p pc)) []) refl (λ x. (tells_at p pc x (k.words pc x).truncated).none (k.words pc x))

-- a word of a known opcode that keeps the rules of codes 5 to 17 has none, truncated or not
pub known_none : (p : Proto) (pc : ℕ) → T (not (is_unknown (word_at p pc))) → KnownKept p pc → diagnostics_at p pc ≡ []
unfolding diagnostics_at word_diagnostics opcode_diagnostics only
known_none p pc known k =
    none_elsewhere p pc (λ b. cond b (word_diagnostics p pc (word_at p pc)) []) refl (λ x. rw (t_true (executable_at p pc) x, t_false (is_unknown (word_at p pc)) known) ((tells_kept p pc).none k))

-- document 01's own sentence: a prototype keeps the rules when no condition of codes 1, 2 and 4 to 17 holds in it
pub well_formed_iff_none : (p : Proto) → WellFormed p ↔ ((pc : ℕ) → pc < length p.code → (truncation_at p pc ≡ []) × (diagnostics_at p pc ≡ []))
well_formed_iff_none p =
    let clean : (ds : List Diagnostic) → ds ≡ [] → All Warns ds = λ ds e. subst (λ (l : List Diagnostic). All Warns l) (sym e) all_nil in (
      λ k pc h. (no_truncation p k pc, no_diagnostics p k pc),
      λ f. clean_well_formed p (λ pc h. clean _ (f pc h).0) (λ pc h. clean _ (f pc h).1),
    )

-- ---- each rule by its codes

tells_iff : {ds : List Diagnostic} {X : Type 0} → Tells ds X → X ↔ (ds ≡ [])
tells_iff t = (t.none, λ e. t.clean (subst (λ (l : List Diagnostic). All Warns l) (sym e) all_nil))

module _ (p : Proto) (pc : ℕ) where
  abbrev word : ℕ
  word = word_at p pc

  pub truncated_by_codes : T (not (is_truncated p pc)) ↔ (truncation_at p pc ≡ [])
  truncated_by_codes = tells_iff (tells_truncation p pc)

  pub opcode_by_code : T (not (is_unknown word)) ↔ (opcode_diagnostics pc word ≡ [])
  unfolding opcode_diagnostics
  opcode_by_code = tells_iff (tells_only (is_unknown word) _ tt)

  pub jump_by_codes : JumpKept p pc ↔ (flatten (jump_diagnostics p pc word ∷ skip_diagnostics p pc word ∷ []) ≡ [])
  unfolding jump_diagnostics
  jump_by_codes = tells_iff (
      tells_as (λ (t, (s, _)). record { target = t; skip = s }) (λ k. k.target & k.skip & tt)
      (tells_if (is_jump word) (tells_target p pc (target pc word)) and tells_skip p pc word and tell_nil).all
      )

  pub constant_by_codes : Below p.constants (constants_of word)
      ↔ (flatten (not_below pc 7 p.constants (constant_bx word) ∷ not_below pc 14 p.constants (constant_in B word) ∷ not_below pc 15 p.constants (constant_in C word) ∷ []) ≡ [])
  unfolding constants_of
  constant_by_codes = tells_iff (
      tells_as (λ (k, (b, (c, _))). all_flatten (all_cons k (all_cons b (all_cons c all_nil))))
      (λ h.
      let k = flatten_all _ h in
      all_head k & all_head (all_tail k) & all_head (all_tail (all_tail k)) & tt)
      (tells_below pc 7 p.constants (constant_bx word) tt and tells_below pc 14 p.constants (constant_in B word) tt and tells_below pc 15 p.constants (constant_in C word) tt and tell_nil).all
      )

  pub upvalue_by_code : Below p.upvalues (upvalue_b word) ↔ (not_below pc 8 p.upvalues (upvalue_b word) ≡ [])
  upvalue_by_code = tells_iff (tells_below pc 8 p.upvalues (upvalue_b word) tt)

  pub flag_by_code : Below flag_limit (flag_a word) ↔ (not_below pc 9 flag_limit (flag_a word) ≡ [])
  flag_by_code = tells_iff (tells_below pc 9 flag_limit (flag_a word) tt)

  pub register_by_codes : Below p.stack (registers_of word)
      ↔ (flatten (not_below pc 10 p.stack (register_a word) ∷ not_below pc 11 p.stack (span_ends word) ∷ not_below pc 12 p.stack (register_in B word) ∷ not_below pc 13 p.stack (register_in C word) ∷ []) ≡ [])
  unfolding registers_of
  register_by_codes = tells_iff (
      tells_as (λ (a, (s, (b, (c, _)))). all_flatten (all_cons a (all_cons s (all_cons b (all_cons c all_nil)))))
      (λ h.
      let r = flatten_all _ h in
      all_head r & all_head (all_tail r) & all_head (all_tail (all_tail r)) & all_head (all_tail (all_tail (all_tail r))) & tt)
      (tells_below pc 10 p.stack (register_a word) tt and tells_below pc 11 p.stack (span_ends word) tt and tells_below pc 12 p.stack (register_in B word) tt and tells_below pc 13 p.stack (register_in C word) tt and tell_nil).all
      )

  pub proto_by_code : Below (length p.children) (child_bx word) ↔ (not_below pc 16 (length p.children) (child_bx word) ≡ [])
  proto_by_code = tells_iff (tells_below pc 16 (length p.children) (child_bx word) tt)

  pub binding_by_codes : ((j : ℕ) → j < binding_words p pc → BindingKept p (word_at p (pc + 1 + j))) ↔ (flat_map (binding_diagnostics p) (up_from (pc + 1) (binding_words p pc)) ≡ [])
  binding_by_codes = tells_iff (tells_up_from (binding_diagnostics p) (λ at. BindingKept p (word_at p at)) (pc + 1) (binding_words p pc) (λ j h. tells_binding p (pc + 1 + j)))
