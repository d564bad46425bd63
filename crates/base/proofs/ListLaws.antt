-- Laws of the shared lists. Assumes nothing.
use Prim.Native.Nat.{ℕ, zero, suc, ◌+◌, ◌*◌, ◌≤◌, ◌<◌}
use native.Mathlib.Nat.{add-zero, zero-add, add-suc, suc-add, mul-zero, mul-suc, not-suc-le-zero, le_of_suc-le-suc}
use native.Mathlib.Numerals.{add-one}
use native.Mathlib.Omega.{arith}
use mathlib.Core.Path.{◌≡◌, refl, sym, ◌∙◌, ap}
use mathlib.Core.Bool.{Bool, true, false}
use mathlib.Core.List.{List, [], ◌∷◌, ◌++◌, map, flat_map, foldl, foldl-append, append_assoc}
use lib.ListN.{length, get_or, take, length-append, length-map, get_or-append}
use lib.Seq.{get_or-append-add}
use Rattle.base.specs.Lists.{up_from, tabulate, select, keep_if, take_while, go_on_if}

pub length_up_from : (i n : ℕ) → length (up_from i n) ≡ n
length_up_from i zero = refl
length_up_from i (suc n) = ap suc (length_up_from (suc i) n)

get_d_map_up_from : {A : Type 0} (f : ℕ → A) (i n k : ℕ) (d : A) → k < n → get_or (map f (up_from i n)) k d ≡ f (i + k)
get_d_map_up_from f i zero k d h = absurd (not-suc-le-zero h)
get_d_map_up_from f i (suc n) zero d h = ap f (sym (add-zero i))
get_d_map_up_from f i (suc n) (suc k) d h = get_d_map_up_from f (suc i) n k d (le_of_suc-le-suc h) ∙ ap f (suc-add i k ∙ sym (add-suc i k))

-- tabulate n f has n values, and value k is f k
pub length_tabulate : {A : Type 0} (f : ℕ → A) (n : ℕ) → length (tabulate n f) ≡ n
length_tabulate f n = length-map (up_from 0 n) f ∙ length_up_from 0 n

pub get_d_tabulate : {A : Type 0} (f : ℕ → A) (n k : ℕ) (d : A) → k < n → get_or (tabulate n f) k d ≡ f k
get_d_tabulate f n k d h = get_d_map_up_from f 0 n k d h ∙ ap f (zero-add k)

-- one value more, and the first m values
map_up_from_next : {A : Type 0} (f : ℕ → A) (i n : ℕ) → map f (up_from i (suc n)) ≡ map f (up_from i n) ++ (f (i + n) ∷ [])
map_up_from_next f i zero = rw add-zero
map_up_from_next f i (suc n) = ap (λ (l : List _). f i ∷ l) (map_up_from_next f (suc i) n ∙ rw (suc-add, add-suc))

pub tabulate_next : {A : Type 0} (f : ℕ → A) (n : ℕ) → tabulate (suc n) f ≡ tabulate n f ++ (f n ∷ [])
tabulate_next f n = map_up_from_next f 0 n ∙ rw zero-add

take_map_up_from : {A : Type 0} (f : ℕ → A) (i m n : ℕ) → m ≤ n → take m (map f (up_from i n)) ≡ map f (up_from i m)
take_map_up_from f i zero n h = refl
take_map_up_from f i (suc m) zero h = absurd (not-suc-le-zero h)
take_map_up_from f i (suc m) (suc n) h = ap (λ (l : List _). f i ∷ l) (take_map_up_from f (suc i) m n (le_of_suc-le-suc h))

pub take_tabulate : {A : Type 0} (f : ℕ → A) (m n : ℕ) → m ≤ n → take m (tabulate n f) ≡ tabulate m f
take_tabulate f m n h = take_map_up_from f 0 m n h

-- ---- what a test keeps is no longer than the list

module _ {A : Type 0} (f : A → Bool) where
  pub select_most : (xs : List A) → length (select f xs) ≤ length xs
  select_most [] = omega arith
  select_most (x ∷ xs) = go (f x) (select_most xs)
    where
      go : (b : Bool) → length (select f xs) ≤ length xs → length (keep_if b x (select f xs)) ≤ suc (length xs)
      go true h = omega arith
      go false h = omega arith

  pub take_while_most : (xs : List A) → length (take_while f xs) ≤ length xs
  take_while_most [] = omega arith
  take_while_most (x ∷ xs) = go (f x) (take_while_most xs)
    where
      go : (b : Bool) → length (take_while f xs) ≤ length xs → length (go_on_if b x (take_while f xs)) ≤ suc (length xs)
      go true h = omega arith
      go false h = omega arith

-- ---- lists end to end

module _ {A B : Type 0} (f : A → List B) where
  pub flat_map_append : (xs ys : List A) → flat_map f (xs ++ ys) ≡ flat_map f xs ++ flat_map f ys
  unfolding flat_map
  flat_map_append [] ys = refl
  flat_map_append (x ∷ xs) ys = ap (λ (l : List B). f x ++ l) (flat_map_append xs ys) ∙ sym (append_assoc (f x) (flat_map f xs) (flat_map f ys))

  -- element j of the list of entry k, by its index in the whole list
  pub get_d_flat_map : (xs : List A) (k j : ℕ) (e : A) (d : B) → k < length xs → j < length (f (get_or xs k e))
      → get_or (flat_map f xs) (length (flat_map f (take k xs)) + j) d ≡ get_or (f (get_or xs k e)) j d
  unfolding flat_map
  get_d_flat_map [] k j e d h l = absurd (not-suc-le-zero h)
  get_d_flat_map (x ∷ xs) zero j e d h l = rw zero-add (get_or-append (f x) (flat_map f xs) d j l)
  get_d_flat_map (x ∷ xs) (suc k) j e d h l =
      let n : length (f x ++ flat_map f (take k xs)) + j ≡ length (f x) + (length (flat_map f (take k xs)) + j) = omega (arith, length-append (f x) (flat_map f (take k xs))) in
      ap (λ (m : ℕ). get_or (f x ++ flat_map f xs) m d) n
      ∙ get_or-append-add (f x) (flat_map f xs) (length (flat_map f (take k xs)) + j) d
      ∙ get_d_flat_map xs k j e d (le_of_suc-le-suc h) l

  -- that index is in the whole list
  pub flat_map_index : (xs : List A) (k j : ℕ) (e : A) → k < length xs → j < length (f (get_or xs k e)) → length (flat_map f (take k xs)) + j < length (flat_map f xs)
  unfolding flat_map
  flat_map_index [] k j e h l = absurd (not-suc-le-zero h)
  flat_map_index (x ∷ xs) zero j e h l = omega (arith, length-append (f x) (flat_map f xs))
  flat_map_index (x ∷ xs) (suc k) j e h l =
      omega (arith, length-append (f x) (flat_map f (take k xs)), length-append (f x) (flat_map f xs), flat_map_index xs k j e (le_of_suc-le-suc h) l)

  -- where the list of each entry has the same length
  pub length_flat_map : (m : ℕ) → ((x : A) → length (f x) ≡ m) → (xs : List A) → length (flat_map f xs) ≡ m * length xs
  unfolding flat_map
  length_flat_map m size [] = sym (mul-zero m)
  length_flat_map m size (x ∷ xs) = length-append (f x) (flat_map f xs) ∙ omega (arith, size x, length_flat_map m size xs, mul-suc m (length xs))

-- ---- folds

-- numbers up to a + b are those up to a and then the others
pub up_from_append : (i a b : ℕ) → up_from i (a + b) ≡ up_from i a ++ up_from (i + a) b
up_from_append i zero b = rw (zero-add, add-zero)
up_from_append i (suc a) b = ap (up_from i) (suc-add a b) ∙ ap (λ (l : List ℕ). i ∷ l) (up_from_append (suc i) a b ∙ rw (suc-add, add-suc))

module _ {A B : Type 0} (f : B → A → B) where
  pub foldl_flat_map : {C : Type 0} (g : C → List A) (z : B) (xs : List C) → foldl f z (flat_map g xs) ≡ foldl (λ (z : B) (x : C). foldl f z (g x)) z xs
  unfolding flat_map
  foldl_flat_map g z [] = refl
  foldl_flat_map g z (x ∷ xs) = foldl-append f z (g x) (flat_map g xs) ∙ foldl_flat_map g (foldl f z (g x)) xs

  pub foldl_same : (g : B → A → B) → ((z : B) (x : A) → f z x ≡ g z x) → (z : B) (xs : List A) → foldl f z xs ≡ foldl g z xs
  foldl_same g e z [] = refl
  foldl_same g e z (x ∷ xs) = foldl_same g e (f z x) xs ∙ ap (λ (y : B). foldl g y xs) (e z x)

-- over numbers, one more
pub foldl_next : {B : Type 0} (f : B → ℕ → B) (z : B) (n : ℕ) → foldl f z (up_from 0 (suc n)) ≡ f (foldl f z (up_from 0 n)) n
foldl_next f z n =
    ap (foldl f z) (ap (up_from 0) (sym (add-one n)) ∙ up_from_append 0 n 1 ∙ ap (λ (k : ℕ). up_from 0 n ++ (k ∷ [])) (zero-add n))
    ∙ foldl-append f z (up_from 0 n) (n ∷ [])
