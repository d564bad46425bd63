-- Laws of tests: taking one apart, cases on one, and elements of lists. Assumes nothing.
use Prim.Native.Nat.{ℕ}
use mathlib.Core.Path.{◌≡◌, refl, sym, subst}
use mathlib.Core.Bool.{Bool, true, false, not, ◌&&◌, ◌||◌, cond}
use mathlib.Core.List.{List, [], ◌∷◌}
use lib.Dec.{T, eqb, eqb→eq}
use Rattle.base.specs.Lists.{elem}

pub t_and : (a b : Bool) → T (a && b) → T a × T b
t_and true b t = (tt, t)
t_and false b t = absurd t

pub and_t : (a b : Bool) → T a → T b → T (a && b)
and_t true b s t = t
and_t false b s t = absurd s

pub t_true : (b : Bool) → T b → b ≡ true
t_true true t = refl
t_true false t = absurd t

pub t_false : (b : Bool) → T (not b) → b ≡ false
t_false true t = absurd t
t_false false t = refl

pub not_not : (b : Bool) → T b → T (not (not b))
not_not true t = tt
not_not false t = t

pub double_not : (b : Bool) → T (not (not b)) → T b
double_not true t = tt
double_not false t = t

pub or_right : (a b : Bool) → T b → T (a || b)
or_right true b t = tt
or_right false b t = t

-- true is not false
pub true≢false : {X : Type 0} → true ≡ false → X
true≢false e = absurd (subst T e tt)

pub or_false : (a b : Bool) → a || b ≡ false → (a ≡ false) × (b ≡ false)
or_false true b e = true≢false e
or_false false b e = (refl, e)

-- ---- cases on a test

pub by_cond {ℓ κ} : {A : Type ℓ} (P : A → Type κ) (b : Bool) (x y : A) → (T b → P x) → (T (not b) → P y) → P (cond b x y)
by_cond P true x y f g = f tt
by_cond P false x y f g = g tt

pub by_or {κ} : {P : Type κ} (a b : Bool) → (T a → P) → (T b → P) → T (a || b) → P
by_or true b f g t = f tt
by_or false b f g t = g t

-- ---- elements of lists

-- no element of one list is in the other
abbrev pub disjoint : List ℕ → List ℕ → Bool
disjoint [] ys = true
disjoint (x ∷ xs) ys = not (elem x ys) && disjoint xs ys

pub elem_disjoint : (x : ℕ) (xs ys : List ℕ) → T (disjoint xs ys) → T (elem x xs) → elem x ys ≡ false
elem_disjoint x [] ys d t = absurd t
elem_disjoint x (z ∷ xs) ys d t = go (eqb x z) refl (λ u. elem_disjoint x xs ys (t_and (not (elem z ys)) (disjoint xs ys) d).1 u) t
  where
    go : (b : Bool) → eqb x z ≡ b → (T (elem x xs) → elem x ys ≡ false) → T (b || elem x xs) → elem x ys ≡ false
    go true e rest u =
        subst (λ (v : ℕ). elem v ys ≡ false) (sym (eqb→eq x z (subst T (sym e) tt))) (t_false (elem z ys) (t_and (not (elem z ys)) (disjoint xs ys) d).0)
    go false e rest u = rest u

-- each element of one list is in the other
abbrev pub subset : List ℕ → List ℕ → Bool
subset [] ys = true
subset (x ∷ xs) ys = elem x ys && subset xs ys

pub elem_subset : (x : ℕ) (xs ys : List ℕ) → T (subset xs ys) → T (elem x xs) → T (elem x ys)
elem_subset x [] ys d t = absurd t
elem_subset x (z ∷ xs) ys d t = go (eqb x z) refl (λ u. elem_subset x xs ys (t_and (elem z ys) (subset xs ys) d).1 u) t
  where
    go : (b : Bool) → eqb x z ≡ b → (T (elem x xs) → T (elem x ys)) → T (b || elem x xs) → T (elem x ys)
    go true e rest u = subst (λ (v : ℕ). T (elem v ys)) (sym (eqb→eq x z (subst T (sym e) tt))) (t_and (elem z ys) (subset xs ys) d).0
    go false e rest u = rest u
