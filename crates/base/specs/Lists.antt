-- Tests and lists that the other files share. Assumes nothing: these are definitions.
use Rattle.std.specs.Prelude.{ℕ, zero, suc, ◌+◌, Bool, true, false, ◌&&◌, ◌||◌, List, [], ◌∷◌, map, eqb}

-- x is in a list
abbrev pub elem : ℕ → List ℕ → Bool
elem x [] = false
elem x (y ∷ ys) = eqb x y || elem x ys

-- i, i + 1, ..: n numbers
abbrev pub up_from : ℕ → ℕ → List ℕ
up_from i zero = []
up_from i (suc n) = i ∷ up_from (suc i) n

-- f 0, f 1, ..: n values
abbrev pub tabulate {ℓ} : {A : Type ℓ} → ℕ → (ℕ → A) → List A
tabulate n f = map f (up_from 0 n)

-- the numbers of a list, added up
abbrev pub total : List ℕ → ℕ
total [] = 0
total (n ∷ ns) = n + total ns

module _ {ℓ} {A : Type ℓ} where
  -- x where a test passes, nothing where it fails
  unfoldable pub only : Bool → A → List A
  only true x = x ∷ []
  only false x = []

  -- x and then xs, where a test passes; where it fails, `keep_if` gives xs and `go_on_if` gives nothing
  abbrev pub keep_if : Bool → A → List A → List A
  keep_if true x xs = x ∷ xs
  keep_if false x xs = xs

  abbrev pub go_on_if : Bool → A → List A → List A
  go_on_if true x xs = x ∷ xs
  go_on_if false x xs = []

  -- the elements that pass a test
  abbrev pub select : (A → Bool) → List A → List A
  select f [] = []
  select f (x ∷ xs) = keep_if (f x) x (select f xs)

  -- the elements before the first that fails a test
  abbrev pub take_while : (A → Bool) → List A → List A
  take_while f [] = []
  take_while f (x ∷ xs) = go_on_if (f x) x (take_while f xs)

  -- an element passes a test
  abbrev pub any : (A → Bool) → List A → Bool
  any f [] = false
  any f (x ∷ xs) = f x || any f xs

  -- each element passes a test
  abbrev pub every : (A → Bool) → List A → Bool
  every f [] = true
  every f (x ∷ xs) = f x && every f xs

-- P holds of each element of a list
pub data All {A : Type 0} (P : A → Type 0) : List A → Type 0 where
  all_nil : All P []
  all_cons : {x : A} {xs : List A} → P x → All P xs → All P (x ∷ xs)

-- P holds of an element of a list
pub data Some {A : Type 0} (P : A → Type 0) : List A → Type 0 where
  here : {x : A} {xs : List A} → P x → Some P (x ∷ xs)
  there : {x : A} {xs : List A} → Some P xs → Some P (x ∷ xs)
