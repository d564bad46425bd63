-- What an accepted call writes: its records fit, stand in front, and what lies past them is unchanged. Assumes nothing.
use Prim.Native.Nat.{ℕ, ◌*◌, ◌≤◌}
use native.Mathlib.Omega.{arith}
use mathlib.Core.Path.{◌≡◌, refl, sym, ◌∙◌, ap}
use mathlib.Core.List.{List, ◌++◌, flat_map}
use mathlib.Core.Option.{Option, none, some}
use lib.IntN.{ℤ}
use lib.ListN.{length, drop}
use borrow.Author.Tests.{ltb-false}
use Rattle.base.specs.Bytes.{i32_record}
use Rattle.roles_spec.specs.Table.{rows, protos}
use Rattle.roles_spec.specs.Roles.{roles, role_fields, records_of}
use Rattle.roles_spec.specs.Bindings.{binding_fields, binding_bytes, binding_records}
use Rattle.roles_spec.specs.Refusals.{Refused, too_short, roles_refusal, word_total}
use Rattle.roles_spec.specs.Calls.{answer, accepted, filled, roles_after, image_bindings, bindings_refusal, bindings_after}
use Rattle.base.proofs.ByteLaws.{length_i32_record, overwrite_front}
use Rattle.base.proofs.ListLaws.{length_flat_map}
use Rattle.roles_spec.proofs.RefusalLaws.{or_else_none, refuse_if_none, roles_kept}
use Rattle.roles_spec.proofs.RoleRecordLaws.{length_role_fields}
use Rattle.roles_spec.proofs.RoleBufferLaws.{length_all_roles}
use Rattle.roles_spec.proofs.BindingRecordLaws.{length_bindings}

-- an accepted answer has no refusal, and is the result
pub accepted_none : {A : Type 0} (o : Option Refused) (a c : A) → answer o a ≡ accepted c → o ≡ none
unfolding answer
accepted_none none a c e = refl
accepted_none (some x) a c e = let z : ◌≡◌ {A = ℕ} 0 1 = cc in absurd (omega arith)

pub accepted_result : {A : Type 0} (o : Option Refused) (a c : A) → answer o a ≡ accepted c → c ≡ a
unfolding answer
accepted_result none a c e = cc
accepted_result (some x) a c e = let z : ◌≡◌ {A = ℕ} 0 1 = cc in absurd (omega arith)

-- a buffer that no refusal guards, and into which the records fit
pub written : (o : Option Refused) (old : List ℕ) (zs : List ℤ) → o ≡ none → 4 * length zs ≤ length old → filled o old (i32_record zs) ≡ i32_record zs ++ drop (4 * length zs) old
unfolding filled
written o old zs e h =
    let size = length_i32_record zs in
    ap (λ (p : Option Refused). filled p old (i32_record zs)) e
    ∙ overwrite_front old (i32_record zs) (omega arith)
    ∙ ap (λ (n : ℕ). i32_record zs ++ drop n old) size

-- 8 does not apply: the records fit
pub fits : (records size room : ℕ) → too_short records size room ≡ none → records * size ≤ room
unfolding too_short
fits records size room e = ltb-false room (records * size) (refuse_if_none _ 8 records e)

-- ---- the role buffer: two i32 a word

pub roles_written : (table words old : List ℕ) → roles_refusal table words (length old) ≡ none
    → roles_after table words old ≡ records_of (flat_map roles (protos table words)) ++ drop (8 * word_total (rows table)) old
unfolding roles_after records_of
roles_written table words old e =
    let zs = flat_map role_fields (flat_map roles (protos table words)) in
    let kept = roles_kept table words (length old) e in
    let count : length zs ≡ 2 * word_total (rows table) =
    length_flat_map role_fields 2 length_role_fields (flat_map roles (protos table words)) ∙ ap (λ (k : ℕ). 2 * k) (length_all_roles table words kept.image) in
    let size : 4 * length zs ≡ 8 * word_total (rows table) = omega arith in
    written (roles_refusal table words (length old)) old zs e (omega (arith, kept.fits)) ∙ ap (λ (k : ℕ). i32_record zs ++ drop k old) size

-- ---- the bindings buffer: three i32 a record

pub bindings_written : (table words old : List ℕ) (role_length : ℕ) → bindings_refusal table words role_length (length old) ≡ none
    → bindings_after table words role_length old ≡ binding_records (image_bindings table words) ++ drop (binding_bytes * length (image_bindings table words)) old
unfolding bindings_after bindings_refusal binding_records
bindings_written table words old role_length e =
    let bs = image_bindings table words in
    let zs = flat_map binding_fields bs in
    let room = fits (length bs) _ (length old) (or_else_none (roles_refusal table words role_length) _ e).1 in
    let size : 4 * length zs ≡ binding_bytes * length bs = sym (length_i32_record zs) ∙ length_bindings bs in
    written (bindings_refusal table words role_length (length old)) old zs e (omega arith) ∙ ap (λ (k : ℕ). i32_record zs ++ drop k old) size
