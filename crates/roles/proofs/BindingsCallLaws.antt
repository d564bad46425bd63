-- The bindings call, once its refusals are judged. Assumes nothing.
use Rattle.std.proofs.Common.{◌≡◌, ℕ, ◌*◌, ◌/◌, ◌<◌, ◌≤◌, List, [], ◌∷◌, length, drop, replicate, sym, refl, ap, ◌∙◌, arith, le-ltb, lt-ltb}
use mathlib.Core.Option.{Option, none}
use lib.ListN.{length-replicate}
use Rattle.base.specs.Bytes.{u32s, overwrite}
use Rattle.roles_spec.specs.Table.{Row, row_bytes, rows, proto_of, child_at}
use Rattle.roles_spec.specs.Bindings.{Binding, unbound, writes, binding_total, bind_rows, bindings, binding_bytes, binding_records}
use Rattle.roles_spec.specs.Refusals.{Refused, refuse, refuse_if, or_else, roles_refusal, too_short}
use Rattle.roles_spec.specs.Calls.{answer, filled, roles_after, image_bindings, bindings_refusal, bindings_answer, bindings_after}
use Rattle.roles.specs.Terms.{refused_of, given_refusal, answer_of, field_total}
use Rattle.roles.specs.BindingSteps.{max_bindings, bound_rows}
use Rattle.roles.specs.declared.refusals.Refusal.{Refusal}
use Rattle.roles.specs.declared.refusals.Refusal.TheVariants as refusal
use Rattle.std.specs.declared.result.Result.{Result}
use Rattle.std.specs.declared.result.Result.TheVariants.{Ok, Err}
use Rattle.roles_spec.proofs.RefusedCallLaws.{refused_leaves, bindings_untouched}
use Rattle.roles_spec.proofs.BindingWriteLaws.{length_writes}
use Rattle.roles.proofs.CountLaws.{record_fields}
use Rattle.roles.proofs.RolesCallLaws.{refused_by, not_refused, refused_call as refused-roles}
use Rattle.roles.proofs.BindingFillLaws.{few_records, rows_bound}

-- ---- there is a record for each upvalue

length_bind_rows : (all rs : List Row) (words : List ℕ) (bs : List Binding) → length (bind_rows all rs words bs) ≡ length bs
unfolding bind_rows
length_bind_rows all [] words bs = refl
length_bind_rows all (r ∷ rs) words bs =
    length_bind_rows all rs (drop r.words words) _
    ∙ length_writes all (λ v. child_at r.depth rs v.child) (writes (proto_of r rs words)) bs

length_image : (table words : List ℕ) → length (image_bindings table words) ≡ binding_total (rows table)
unfolding image_bindings bindings
length_image table words = length_bind_rows (rows table) (rows table) (u32s words) _ ∙ length-replicate (binding_total (rows table)) unbound

-- ---- 1 to 7

module _ {A : Type 0} (table words role_buffer binding_buffer : List ℕ) (a : Result A Refusal) (judged : given_refusal a ≡ roles_refusal table words (length role_buffer)) where
  pub refused_call : (r : Refusal) → a ≡ Err r
      → (answer_of (Err r) ≡ bindings_answer table words (length role_buffer) (length binding_buffer))
      × ((role_buffer ≡ roles_after table words role_buffer) × (binding_buffer ≡ bindings_after table words (length role_buffer) binding_buffer))
  unfolding answer_of bindings_answer bindings_refusal answer or_else
  refused_call r e =
      let short = too_short (length (image_bindings table words)) binding_bytes (length binding_buffer) in
      let o = ap (λ (x : Option Refused). answer (or_else x short) (length (image_bindings table words))) (refused_by table words role_buffer a judged r e) in
      (o, ((refused-roles table words role_buffer a judged r e).1, sym (bindings_untouched table words role_buffer binding_buffer (refused_of r) (sym o))))

-- ---- 8, and an accepted call

-- none of 1 to 7 applies, and there are n records
pub record CallKept (table words : List ℕ) (role_length n : ℕ) : Type 0 where
  pub accepted : roles_refusal table words role_length ≡ none
  pub count : n ≡ binding_total (rows table)
  pub few : n ≤ max_bindings

pub call_kept : {A : Type 0} (table words : List ℕ) (role_length : ℕ) (a : Result A Refusal) (x : A) → given_refusal a ≡ roles_refusal table words role_length → a ≡ Ok x → (n : ℕ) → n ≡ field_total table 3
    → CallKept table words role_length n
call_kept table words role_length a x judged e n count =
    let ok = not_refused table words role_length a x judged e in
    let same = count ∙ sym (record_fields table) in
    record { accepted = ok; count = same; few = omega (arith, same, few_records table words role_length ok) }

module _ (table words : List ℕ) (role_length : ℕ) (binding_buffer : List ℕ) (n : ℕ) (kept : CallKept table words role_length n) where
  image_count : n ≡ length (image_bindings table words)
  image_count = kept.count ∙ sym (length_image table words)

  judged_by : (o : Option Refused) → too_short (length (image_bindings table words)) binding_bytes (length binding_buffer) ≡ o → bindings_refusal table words role_length (length binding_buffer) ≡ o
  unfolding bindings_refusal or_else
  judged_by o e = ap (λ (x : Option Refused). or_else x (too_short (length (image_bindings table words)) binding_bytes (length binding_buffer))) kept.accepted ∙ e

  short : length binding_buffer / binding_bytes < n → bindings_refusal table words role_length (length binding_buffer) ≡ refuse 8 n
  unfolding too_short refuse_if
  short h =
      let less : length binding_buffer < length (image_bindings table words) * binding_bytes = omega (arith, image_count) in
      judged_by (refuse 8 n) ((rw (lt-ltb _ _ less)) ∙ ap (refuse 8) (sym image_count))

  enough : n ≤ length binding_buffer / binding_bytes → bindings_refusal table words role_length (length binding_buffer) ≡ none
  unfolding too_short refuse_if
  enough h =
      let fits : length (image_bindings table words) * binding_bytes ≤ length binding_buffer = omega (arith, image_count) in
      judged_by none (rw (le-ltb _ _ fits))

  pub short_call : length binding_buffer / binding_bytes < n
      → (answer_of (Err (refusal.BufferTooShort n)) ≡ bindings_answer table words role_length (length binding_buffer)) × (binding_buffer ≡ bindings_after table words role_length binding_buffer)
  unfolding answer_of refused_of bindings_answer bindings_after answer refuse
  short_call h =
      let o = ap (λ (x : Option Refused). answer x (length (image_bindings table words))) (short h) in
      (sym o, sym (refused_leaves (bindings_refusal table words role_length (length binding_buffer)) _ (refused_of (refusal.BufferTooShort n)) binding_buffer _ o))

  -- the records that bind nothing are written first, and bound row by row
  pub accepted_call : (first new : List ℕ) → n ≤ length binding_buffer / binding_bytes → first ≡ overwrite binding_buffer 0 (binding_records (replicate n unbound))
      → new ≡ bound_rows table (u32s words) (length table / row_bytes) first
      → (answer_of (Ok n) ≡ bindings_answer table words role_length (length binding_buffer)) × (new ≡ bindings_after table words role_length binding_buffer)
  unfolding answer_of bindings_answer bindings_after answer filled image_bindings
  accepted_call first new h d e = (
    ap (λ (k : ℕ). answer none k) image_count ∙ sym (ap (λ (x : Option Refused). answer x (length (image_bindings table words))) (enough h)),
    e
        ∙ rows_bound table (u32s words) binding_buffer first (omega (arith, kept.count)) (d ∙ ap (λ (k : ℕ). overwrite binding_buffer 0 (binding_records (replicate k unbound))) kept.count)
        ∙ sym (ap (λ (x : Option Refused). filled x binding_buffer (binding_records (image_bindings table words))) (enough h)),
  )
