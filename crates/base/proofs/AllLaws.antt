-- Laws of a property that each element of a list has. Assumes nothing.
use Prim.Native.Nat.{ℕ, zero, suc, ◌+◌, ◌<◌}
use native.Mathlib.Nat.{not-suc-le-zero, le_of_suc-le-suc, add-zero, add-suc, zero-add, suc-add}
use native.Mathlib.Omega.{arith}
use mathlib.Core.Path.{◌≡◌, refl, sym, ◌∙◌, ap₂, subst}
use mathlib.Core.List.{List, [], ◌∷◌, ◌++◌, map, flat_map, flatten}
use mathlib.Core.Bool.{Bool, true, false}
use lib.ListN.{length, get_or, drop}
use Rattle.base.specs.Lists.{All, all_nil, all_cons, up_from, select, keep_if, take_while, go_on_if}

module _ {A : Type 0} {P : A → Type 0} where
  pub all_append : {xs ys : List A} → All P xs → All P ys → All P (xs ++ ys)
  all_append all_nil k = k
  all_append (all_cons h t) k = all_cons h (all_append t k)

  pub all_left : (xs ys : List A) → All P (xs ++ ys) → All P xs
  all_left [] ys h = all_nil
  all_left (x ∷ xs) ys (all_cons h t) = all_cons h (all_left xs ys t)

  pub all_right : (xs : List A) {ys : List A} → All P (xs ++ ys) → All P ys
  all_right [] h = h
  all_right (x ∷ xs) (all_cons h t) = all_right xs t

  pub all_drop : (n : ℕ) {xs : List A} → All P xs → All P (drop n xs)
  all_drop zero h = h
  all_drop (suc n) all_nil = all_nil
  all_drop (suc n) (all_cons h t) = all_drop n t

  pub all_get_d : {xs : List A} (k : ℕ) (d : A) → P d → All P xs → P (get_or xs k d)
  all_get_d k d e all_nil = e
  all_get_d zero d e (all_cons h t) = h
  all_get_d (suc k) d e (all_cons h t) = all_get_d k d e t

  pub all_at : {xs : List A} (k : ℕ) (d : A) → k < length xs → All P xs → P (get_or xs k d)
  all_at k d l all_nil = absurd (not-suc-le-zero l)
  all_at zero d l (all_cons h t) = h
  all_at (suc k) d l (all_cons h t) = all_at k d (le_of_suc-le-suc l) t

  pub all_head : {x : A} {xs : List A} → All P (x ∷ xs) → P x
  all_head (all_cons h t) = h

  pub all_tail : {x : A} {xs : List A} → All P (x ∷ xs) → All P xs
  all_tail (all_cons h t) = t

-- ---- lists end to end

module _ {A : Type 0} {P : A → Type 0} where
  pub all_flatten : {L : List (List A)} → All (All P) L → All P (flatten L)
  unfolding flatten
  all_flatten all_nil = all_nil
  all_flatten (all_cons h t) = all_append h (all_flatten t)

  pub flatten_all : (L : List (List A)) → All P (flatten L) → All (All P) L
  unfolding flatten
  flatten_all [] h = all_nil
  flatten_all (l ∷ L) h = all_cons (all_left l (flatten L) h) (flatten_all L (all_right l h))

-- ---- of some elements of a list

module _ {A : Type 0} {P : A → Type 0} (f : A → Bool) where
  pub all_select : {xs : List A} → All P xs → All P (select f xs)
  all_select all_nil = all_nil
  all_select (all_cons {x} {xs} h t) = go (f x) (all_select t)
    where
      go : (b : Bool) → All P (select f xs) → All P (keep_if b x (select f xs))
      go true k = all_cons h k
      go false k = k

  pub all_take_while : {xs : List A} → All P xs → All P (take_while f xs)
  all_take_while all_nil = all_nil
  all_take_while (all_cons {x} {xs} h t) = go (f x) (all_take_while t)
    where
      go : (b : Bool) → All P (take_while f xs) → All P (go_on_if b x (take_while f xs))
      go true k = all_cons h k
      go false k = all_nil

-- ---- over map and flat_map

pub map_all : {A B : Type 0} (P : B → Type 0) (f : A → B) (xs : List A) → All P (map f xs) → All (λ x. P (f x)) xs
map_all P f [] h = all_nil
map_all P f (x ∷ xs) (all_cons h t) = all_cons h (map_all P f xs t)

pub all_map : {A B : Type 0} (P : B → Type 0) (f : A → B) {xs : List A} → All (λ x. P (f x)) xs → All P (map f xs)
all_map P f all_nil = all_nil
all_map P f (all_cons h t) = all_cons h (all_map P f t)

pub flat_map_all : {A B : Type 0} (P : B → Type 0) (f : A → List B) (xs : List A) → All P (flat_map f xs) → All (λ x. All P (f x)) xs
unfolding flat_map
flat_map_all P f [] h = all_nil
flat_map_all P f (x ∷ xs) h = all_cons (all_left (f x) (flat_map f xs) h) (flat_map_all P f xs (all_right (f x) h))

pub all_flat_map : {A B : Type 0} (P : B → Type 0) (f : A → List B) {xs : List A} → All (λ x. All P (f x)) xs → All P (flat_map f xs)
unfolding flat_map
all_flat_map P f all_nil = all_nil
all_flat_map P f (all_cons h t) = all_append h (all_flat_map P f t)

pub flat_map_none : {A B : Type 0} (f : A → List B) {xs : List A} → All (λ x. f x ≡ []) xs → flat_map f xs ≡ []
unfolding flat_map
flat_map_none f all_nil = refl
flat_map_none f (all_cons h t) = ap₂ (λ (a b : List _). a ++ b) h (flat_map_none f t)

pub all_imp : {A : Type 0} {P Q : A → Type 0} {xs : List A} → ((x : A) → P x → Q x) → All P xs → All Q xs
all_imp f all_nil = all_nil
all_imp f (all_cons {x} h t) = all_cons (f x h) (all_imp f t)

-- a property that everything has
pub all_of : {A : Type 0} {P : A → Type 0} → ((x : A) → P x) → (xs : List A) → All P xs
all_of f [] = all_nil
all_of f (x ∷ xs) = all_cons (f x) (all_of f xs)

-- ---- of the numbers from i on, and from 0 on

pub all_up_from : {P : ℕ → Type 0} (i n : ℕ) → ((j : ℕ) → j < n → P (i + j)) → All P (up_from i n)
all_up_from i zero h = all_nil
all_up_from {P} i (suc n) h =
    all_cons (subst P (add-zero i) (h 0 (omega arith)))
    (all_up_from (suc i) n (λ j k. subst P (add-suc i j ∙ sym (suc-add i j)) (h (suc j) (omega arith))))

pub up_from_all : (P : ℕ → Type 0) (i n : ℕ) → All P (up_from i n) → (j : ℕ) → j < n → P (i + j)
up_from_all P i zero h j k = absurd (not-suc-le-zero k)
up_from_all P i (suc n) (all_cons h t) zero k = subst P (sym (add-zero i)) h
up_from_all P i (suc n) (all_cons h t) (suc j) k = subst P (suc-add i j ∙ sym (add-suc i j)) (up_from_all P (suc i) n t j (le_of_suc-le-suc k))

pub up_to_all : (P : ℕ → Type 0) (n : ℕ) → All P (up_from 0 n) → (j : ℕ) → j < n → P j
up_to_all P n h j k = subst P (zero-add j) (up_from_all P 0 n h j k)

pub all_up_to : (P : ℕ → Type 0) (n : ℕ) → ((j : ℕ) → j < n → P j) → All P (up_from 0 n)
all_up_to P n h = all_up_from 0 n (λ j k. subst P (sym (zero-add j)) (h j k))
