-- What a refused call leaves in its buffers. Assumes nothing.
use Prim.Native.Nat.{ℕ, suc, ◌*◌, ◌<◌}
use native.Mathlib.Omega.{arith}
use mathlib.Core.Path.{◌≡◌, refl, sym, ap}
use mathlib.Core.Logic.{◌≢◌}
use mathlib.Core.Bool.{Bool, true, false}
use mathlib.Core.List.{List, [], ◌∷◌}
use mathlib.Core.Option.{Option, none, some}
use lib.Dec.{ltb, lit<}
use lib.ListN.{length}
use Rattle.roles_spec.specs.Table.{Row, rows}
use Rattle.roles_spec.specs.Refusals.{Refused, refuse, refuse_if, or_else, bad_depth, bad_field, image_refusal, too_short, roles_refusal}
use Rattle.roles_spec.specs.Calls.{answer, refused, filled, roles_answer, roles_after, bindings_refusal, bindings_answer, bindings_after}

-- a refused call leaves the buffer that its refusals guard
pub refused_leaves : {A : Type 0} (o : Option Refused) (a : A) (r : Refused) (old new : List ℕ) → answer o a ≡ refused r → filled o old new ≡ old
unfolding answer filled
refused_leaves none a r old new e = let z : ◌≡◌ {A = ℕ} 0 1 = cc in absurd (omega arith)
refused_leaves (some x) a r old new e = refl

-- ---- the refusals before 8

-- a refusal, if there is one, has a number below 8
abbrev Before8 : Option Refused → Type 0
Before8 none = Unit {0}
Before8 (some r) = r.number < 8

before_8_if : (b : Bool) (number figure : ℕ) → number < 8 → Before8 (refuse_if b number figure)
unfolding refuse_if refuse
before_8_if true number figure h = h
before_8_if false number figure h = tt

before_8_else : (o q : Option Refused) → Before8 o → Before8 q → Before8 (or_else o q)
unfolding or_else
before_8_else none q h k = k
before_8_else (some r) q h k = h

before_8_depth : (least most : ℕ) (rs : List Row) → Before8 (bad_depth least most rs)
unfolding bad_depth
before_8_depth least most [] = tt
before_8_depth least most (r ∷ rs) = before_8_else _ _ (before_8_if _ 4 r.row (lit< tt)) (before_8_depth 1 (suc r.depth) rs)

before_8_field : (rs : List Row) → Before8 (bad_field rs)
unfolding bad_field
before_8_field [] = tt
before_8_field (r ∷ rs) = before_8_else _ _ (before_8_if _ 5 r.row (lit< tt)) (before_8_field rs)

roles_before_8 : (table words : List ℕ) (role_length : ℕ) → Before8 (roles_refusal table words role_length)
unfolding roles_refusal image_refusal
roles_before_8 table words role_length =
    before_8_else _ _
    (before_8_else _ _ (before_8_if _ 1 0 (lit< tt))
    (before_8_else _ _ (before_8_if _ 2 0 (lit< tt))
    (before_8_else _ _ (before_8_if _ 3 0 (lit< tt))
    (before_8_else _ _ (before_8_depth 0 0 (rows table))
    (before_8_else _ _ (before_8_field (rows table)) (before_8_if _ 6 0 (lit< tt)))))))
    (before_8_if _ 7 0 (lit< tt))

-- where a call is refused by 8, no refusal before it applies; where it is refused by another, it leaves the buffer that these guard
refused_before : {A : Type 0} (o : Option Refused) (records size room : ℕ) (a : A) (r : Refused) (old new : List ℕ) → Before8 o
    → answer (or_else o (too_short records size room)) a ≡ refused r → (r.number ≡ 8 → o ≡ none) × (r.number ≢ 8 → filled o old new ≡ old)
unfolding or_else too_short refuse_if refuse answer filled
refused_before (some x) records size room a r old new b e =
    let same : x ≡ r = cc in
    let n : x.number ≡ r.number = ap (λ (y : Refused). y.number) same in
    (λ h. absurd (omega arith), λ h. refl)
refused_before none records size room a r old new b e = go (ltb room (records * size)) e
  where
    go : (t : Bool) → answer (refuse_if t 8 records) a ≡ refused r → (r.number ≡ 8 → ◌≡◌ {A = Option Refused} none none) × (r.number ≢ 8 → filled none old new ≡ old)
    go true e =
        let same : record { number = 8; figure = records } ≡ r = cc in
        let n : 8 ≡ r.number = ap (λ (y : Refused). y.number) same in
        (λ h. refl, λ h. absurd (h (sym n)))
    go false e = let z : ◌≡◌ {A = ℕ} 0 1 = cc in absurd (omega arith)

-- "Trays stay untouched, but 8 comes with roles written"
pub roles_left : {A : Type 0} (table words old : List ℕ) (records size room : ℕ) (a : A) (r : Refused)
    → answer (or_else (roles_refusal table words (length old)) (too_short records size room)) a ≡ refused r
    → (r.number ≡ 8 → roles_refusal table words (length old) ≡ none) × (r.number ≢ 8 → roles_after table words old ≡ old)
unfolding roles_after
roles_left table words old records size room a r e =
    refused_before (roles_refusal table words (length old)) records size room a r old _ (roles_before_8 table words (length old)) e

-- ---- the roles call and the bindings call

pub roles_untouched : (table words roles : List ℕ) (r : Refused) → roles_answer table words (length roles) ≡ refused r → roles_after table words roles ≡ roles
unfolding roles_answer roles_after
roles_untouched table words roles r e = refused_leaves (roles_refusal table words (length roles)) _ r roles _ e

pub bindings_untouched : (table words roles bindings : List ℕ) (r : Refused) → bindings_answer table words (length roles) (length bindings) ≡ refused r
    → bindings_after table words (length roles) bindings ≡ bindings
unfolding bindings_answer bindings_after
bindings_untouched table words roles bindings r e = refused_leaves (bindings_refusal table words (length roles) (length bindings)) _ r bindings _ e

pub bindings_roles_left : (table words roles bindings : List ℕ) (r : Refused) → bindings_answer table words (length roles) (length bindings) ≡ refused r
    → (r.number ≡ 8 → roles_refusal table words (length roles) ≡ none) × (r.number ≢ 8 → roles_after table words roles ≡ roles)
unfolding bindings_answer bindings_refusal
bindings_roles_left table words roles bindings r e = roles_left table words roles _ _ _ _ r e
