-- Laws of the prototype table: rows as elements, prototypes of rows, the rows below a row, and the search for a child. Assumes nothing.
use Prim.Native.Nat.{ℕ, zero, suc, ◌/◌, ◌≤◌, ◌<◌, suc-le-suc}
use native.Mathlib.Omega.{arith}
use mathlib.Core.Path.{◌≡◌, refl, sym, ◌∙◌, ap, subst}
use mathlib.Core.Bool.{Bool, true, false}
use mathlib.Core.List.{List, [], ◌∷◌, ◌++◌, map}
use mathlib.Core.Option.{none, some}
use lib.Dec.{T, ltb, ltb→lt, lt→ltb}
use lib.ListN.{length, get_or, drop, get_elem?, length-map}
use lib.Seq.{drop-cons}
use borrow.Author.Tests.{lt-ltb, le-ltb, eq-eqb, ne_eqb}
use Rattle.base.specs.Lists.{All, all_nil, all_cons, take_while, go_on_if}
use Rattle.roles_spec.specs.Table.{Row, row_bytes, row_at, rows, below, children, child_at, Proto, proto_of, protos_of}
use Rattle.base.proofs.ListLaws.{length_tabulate, get_d_tabulate}
use Rattle.base.proofs.AllLaws.{all_select, all_take_while, all_map}

-- ---- the rows of a table

pub length_rows : (table : List ℕ) → length (rows table) ≡ length table / row_bytes
unfolding rows
length_rows table = length_tabulate (row_at table) (length table / row_bytes)

pub get_d_rows : (table : List ℕ) (k : ℕ) (d : Row) → k < length table / row_bytes → get_or (rows table) k d ≡ row_at table k
unfolding rows
get_d_rows table k d h = get_d_tabulate (row_at table) (length table / row_bytes) k d h

-- the rows from row k on, one at a time
pub drop_rows : (table : List ℕ) (k : ℕ) → k < length table / row_bytes → drop k (rows table) ≡ row_at table k ∷ drop (suc k) (rows table)
drop_rows table k h =
    drop-cons (rows table) k (row_at table k) (subst (λ (n : ℕ). k < n) (sym (length_rows table)) h)
    ∙ ap (λ (r : Row). r ∷ drop (suc k) (rows table)) (get_d_rows table k (row_at table k) h)

-- ---- prototypes

-- there is one prototype for each row
pub length_protos_of : (rs : List Row) (words : List ℕ) → length (protos_of rs words) ≡ length rs
unfolding protos_of
length_protos_of [] words = refl
length_protos_of (r ∷ rs) words = ap suc (length_protos_of rs (drop r.words words))

-- a limit on the upvalues of every row also holds for the children of every prototype
pub children_most : (limit : ℕ) (rs : List Row) (words : List ℕ) → All (λ (r : Row). r.upvalues ≤ limit) rs → All (λ (p : Proto). All (λ n. n ≤ limit) p.children) (protos_of rs words)
unfolding protos_of proto_of children below
children_most limit [] words all_nil = all_nil
children_most limit (r ∷ rs) words (all_cons h hs) =
    all_cons (all_map (λ n. n ≤ limit) (λ (c : Row). c.upvalues) (all_select _ (all_take_while _ hs)))
    (children_most limit rs (drop r.words words) hs)

-- ---- the rows below a row of depth d: the first of the rows after it, and the rest

pub below_end : (d : ℕ) (r : Row) (rs : List Row) → r.depth ≤ d → below d (r ∷ rs) ≡ []
unfolding below
below_end d r rs h = rw (le-ltb d r.depth h)

pub below_next : (d : ℕ) (r : Row) (rs : List Row) → d < r.depth → below d (r ∷ rs) ≡ r ∷ below d rs
unfolding below
below_next d r rs h = rw (lt-ltb d r.depth h)

-- the elements that pass the stricter of two tests come first
module _ {A : Type 0} (f g : A → Bool) (stricter : (x : A) → T (g x) → T (f x)) where
  take_while_split : (xs : List A) → take_while f xs ≡ take_while g xs ++ take_while f (drop (length (take_while g xs)) xs)
  take_while_split [] = refl
  take_while_split (x ∷ xs) = go (g x) (f x) (stricter x) refl (take_while_split xs)
    where
      go : (b c : Bool) → (T b → T c) → f x ≡ c → take_while f xs ≡ take_while g xs ++ take_while f (drop (length (take_while g xs)) xs)
          → go_on_if c x (take_while f xs) ≡ go_on_if b x (take_while g xs) ++ take_while f (drop (length (go_on_if b x (take_while g xs))) (x ∷ xs))
      go true true s e h = ap (λ (l : List A). x ∷ l) h
      go true false s e h = absurd (s tt)
      go false c s e h = ap (λ (b : Bool). go_on_if b x (take_while f xs)) (sym e)

-- a deeper row, the rows below it, and then those that are left
pub below_split : (d : ℕ) (r : Row) (rs : List Row) → d < r.depth → below d (r ∷ rs) ≡ r ∷ (below r.depth rs ++ below d (drop (length (below r.depth rs)) rs))
unfolding below
below_split d r rs h =
    let f : Row → Bool = λ x. ltb d x.depth in
    let g : Row → Bool = λ x. ltb r.depth x.depth in
    let stricter : (x : Row) → T (g x) → T (f x) = λ x t. lt→ltb d x.depth (omega (arith, ltb→lt r.depth x.depth t)) in
    below_next d r rs h ∙ ap (λ (l : List Row). r ∷ l) (take_while_split f g stricter rs)

-- ---- the search for a child of a row of depth d: the first of the rows after it, and the rest

pub children_end : (d : ℕ) (r : Row) (rs : List Row) → r.depth ≤ d → children d (r ∷ rs) ≡ []
unfolding children
children_end d r rs h = rw (below_end d r rs h)

pub children_found : (d : ℕ) (r : Row) (rs : List Row) → r.depth ≡ suc d → children d (r ∷ rs) ≡ r ∷ children d rs
unfolding children
children_found d r rs e = rw (below_next d r rs (omega arith), eq-eqb r.depth (suc d) e)

pub children_deeper : (d : ℕ) (r : Row) (rs : List Row) → suc d < r.depth → children d (r ∷ rs) ≡ children d rs
unfolding children
children_deeper d r rs h = rw (below_next d r rs (omega arith), ne_eqb r.depth (suc d) (λ e. omega arith))

-- ---- child k

-- element k of a list of values
element_value : {A : Type 0} (f : A → ℕ) (xs : List A) (k : ℕ) (x : A) → get_elem? xs k ≡ some x → get_or (map f xs) k 0 ≡ f x
element_value f [] k x e = let z : ◌≡◌ {A = ℕ} 0 1 = cc in absurd (omega arith)
element_value f (y ∷ ys) zero x e = cc
element_value f (y ∷ ys) (suc k) x e = element_value f ys k x e

pub element_missing : {A : Type 0} (xs : List A) (k : ℕ) → get_elem? xs k ≡ none → length xs ≤ k
element_missing [] k e = omega arith
element_missing (y ∷ ys) zero e = let z : ◌≡◌ {A = ℕ} 0 1 = cc in absurd (omega arith)
element_missing (y ∷ ys) (suc k) e = suc-le-suc (element_missing ys k e)

-- the search, from the first of the rows after a row of depth d: it ends; it finds a child; it goes on among its rows
pub child_end : (d : ℕ) (r : Row) (rs : List Row) (k : ℕ) → r.depth ≤ d → child_at d (r ∷ rs) k ≡ none
unfolding child_at
child_end d r rs k h = ap (λ (l : List Row). get_elem? l k) (children_end d r rs h)

pub child_found : (d : ℕ) (r : Row) (rs : List Row) → r.depth ≡ suc d → child_at d (r ∷ rs) 0 ≡ some r
unfolding child_at
child_found d r rs e = ap (λ (l : List Row). get_elem? l 0) (children_found d r rs e)

pub child_next : (d : ℕ) (r : Row) (rs : List Row) (k : ℕ) → r.depth ≡ suc d → child_at d (r ∷ rs) (suc k) ≡ child_at d rs k
unfolding child_at
child_next d r rs k e = ap (λ (l : List Row). get_elem? l (suc k)) (children_found d r rs e)

pub child_deeper : (d : ℕ) (r : Row) (rs : List Row) (k : ℕ) → suc d < r.depth → child_at d (r ∷ rs) k ≡ child_at d rs k
unfolding child_at
child_deeper d r rs k h = ap (λ (l : List Row). get_elem? l k) (children_deeper d r rs h)

-- what a prototype knows of its child k: its upvalues, or that it is missing
pub child_upvalues : (r : Row) (later : List Row) (words : List ℕ) (k : ℕ) (c : Row) → child_at r.depth later k ≡ some c → get_or (proto_of r later words).children k 0 ≡ c.upvalues
unfolding child_at proto_of
child_upvalues r later words k c e = element_value (λ (c : Row). c.upvalues) (children r.depth later) k c e

pub child_missing : (r : Row) (later : List Row) (words : List ℕ) (k : ℕ) → child_at r.depth later k ≡ none → length (proto_of r later words).children ≤ k
unfolding child_at proto_of
child_missing r later words k e = omega (arith, length-map (children r.depth later) (λ (c : Row). c.upvalues), element_missing (children r.depth later) k e)
