-- What an accepted check call says of its image and writes, and what a refused one leaves. Assumes nothing.
use Prim.Native.Nat.{ℕ, ◌*◌, ◌≤◌}
use native.Mathlib.Omega.{arith}
use mathlib.Core.Path.{◌≡◌, refl, sym, ◌∙◌, ap, subst⁻¹}
use mathlib.Core.Logic.{◌↔◌, ◌≢◌}
use mathlib.Core.List.{List, ◌++◌, flat_map}
use lib.ListN.{length, drop}
use mathlib.Core.Option.{none}
use Rattle.base.specs.Bytes.{i32_record}
use Rattle.roles_spec.specs.Table.{rows, protos}
use Rattle.roles_spec.specs.Roles.{roles, role_bytes, records_of}
use Rattle.roles_spec.specs.Refusals.{Refused, image_refusal, roles_refusal, word_total}
use Rattle.roles_spec.specs.Calls.{accepted, refused, roles_after, bindings_answer, bindings_after}
use Rattle.validator_spec.specs.Walk.{Verdict, max_diagnostics, diagnostic_fields, diagnostic_bytes}
use Rattle.validator_spec.specs.Image.{Image, image_protos, diagnostics, verdict}
use Rattle.validator_spec.specs.Check.{Checked, checked, check_refusal, check_answer, diagnostics_after}
use Rattle.validator_spec.specs.Statements.{Guarantee}
use Rattle.base.proofs.AllLaws.{all_imp, all_of}
use Rattle.roles_spec.proofs.RefusedCallLaws.{refused_leaves, roles_left, bindings_untouched, bindings_roles_left}
use Rattle.base.proofs.ListLaws.{length_flat_map}
use Rattle.roles_spec.proofs.AcceptedCallLaws.{accepted_none, accepted_result, written, fits, roles_written}
use Rattle.roles_spec.proofs.RefusalLaws.{or_else_none}
use Rattle.validator_spec.proofs.ExecutionLaws.{runs_safe}
use Rattle.validator_spec.proofs.VerdictLaws.{valid_well_formed, well_formed_valid, invalid_iff}
use Rattle.validator_spec.proofs.LimitLaws.{at_most}

-- a verdict under another name
verdict_iff : {u v w : Verdict} {X : Type 0} → u ≡ v → (v ≡ w) ↔ X → (u ≡ w) ↔ X
verdict_iff e i = (λ q. i.0 (sym e ∙ q), λ x. e ∙ i.1 x)

pub check_guaranteed : (i : Image) (role_length diagnostics_length : ℕ) (c : Checked) → check_answer i role_length diagnostics_length ≡ accepted c → Guarantee i c
unfolding check_answer check_refusal checked roles_refusal
check_guaranteed i role_length diagnostics_length c e =
    let k = accepted_result (check_refusal i role_length diagnostics_length) (checked i) c e in
    let v : c.verdict ≡ verdict i = ap (λ (x : Checked). x.verdict) k in
    let n : c.count ≡ length (diagnostics i) = ap (λ (x : Checked). x.count) k in
    let a : image_refusal i.table i.words ≡ none = (or_else_none _ _ (or_else_none _ _ (accepted_none (check_refusal i role_length diagnostics_length) (checked i) c e)).0).0 in
    record {
      verdict = v;
      count = n;
      safe = all_of runs_safe (image_protos i);
      valid = λ q. all_imp (λ p w. record { well_formed = w; runs = runs_safe p w }) (valid_well_formed i (sym v ∙ q));
      exact = λ z h. verdict_iff v (valid_well_formed i, well_formed_valid i z h);
      invalid = verdict_iff v (invalid_iff i);
      most = subst⁻¹ (λ (m : ℕ). m ≤ max_diagnostics) n (at_most i a);
    }

-- what a refused call leaves of the role buffer
abbrev pub RolesLeft : List ℕ → List ℕ → List ℕ → Refused → Type 0
RolesLeft table words old r =
    (r.number ≢ 8 → roles_after table words old ≡ old)
    × (r.number ≡ 8 → roles_after table words old ≡ records_of (flat_map roles (protos table words)) ++ drop (role_bytes * word_total (rows table)) old)

-- a refused call leaves this, whether the refusal is 8 or another
roles_of_refused : (table words old : List ℕ) (r : Refused) → (r.number ≡ 8 → roles_refusal table words (length old) ≡ none) → (r.number ≢ 8 → roles_after table words old ≡ old)
    → RolesLeft table words old r
roles_of_refused table words old r met left = (left, λ h. roles_written table words old (met h))

-- a refused bindings call or check call leaves its buffers, but 8 comes with the roles written
pub bindings_leaves : (table words role_buffer bindings : List ℕ) (r : Refused) → bindings_answer table words (length role_buffer) (length bindings) ≡ refused r
    → (bindings_after table words (length role_buffer) bindings ≡ bindings) × RolesLeft table words role_buffer r
bindings_leaves table words role_buffer bindings r e =
    let left = bindings_roles_left table words role_buffer bindings r e in
    (bindings_untouched table words role_buffer bindings r e, roles_of_refused table words role_buffer r left.0 left.1)

pub check_leaves : (i : Image) (role_buffer buffer : List ℕ) (r : Refused) → check_answer i (length role_buffer) (length buffer) ≡ refused r
    → (diagnostics_after i (length role_buffer) buffer ≡ buffer) × RolesLeft i.table i.words role_buffer r
unfolding check_answer check_refusal diagnostics_after
check_leaves i role_buffer buffer r e =
    let left = roles_left i.table i.words role_buffer _ _ _ _ r e in
    (refused_leaves (check_refusal i (length role_buffer) (length buffer)) _ r buffer _ e, roles_of_refused i.table i.words role_buffer r left.0 left.1)

-- an accepted call leaves its records in front of both buffers
pub check_written : (i : Image) (role_buffer buffer : List ℕ) (c : Checked) → check_answer i (length role_buffer) (length buffer) ≡ accepted c
    → (diagnostics_after i (length role_buffer) buffer ≡ i32_record (flat_map diagnostic_fields (diagnostics i)) ++ drop (diagnostic_bytes * length (diagnostics i)) buffer)
    × (roles_after i.table i.words role_buffer ≡ records_of (flat_map roles (image_protos i)) ++ drop (role_bytes * word_total (rows i.table)) role_buffer)
unfolding check_answer check_refusal diagnostics_after diagnostic_fields image_protos
check_written i role_buffer buffer c e =
    let ds = diagnostics i in
    let zs = flat_map diagnostic_fields ds in
    let n = accepted_none (check_refusal i (length role_buffer) (length buffer)) (checked i) c e in
    let o = or_else_none (roles_refusal i.table i.words (length role_buffer)) _ n in
    let room = fits (length ds) _ (length buffer) o.1 in
    let count : length zs ≡ 4 * length ds = length_flat_map diagnostic_fields 4 (λ d. refl) ds in
    let size : 4 * length zs ≡ 16 * length ds = omega arith in (
      written (check_refusal i (length role_buffer) (length buffer)) buffer zs n (omega arith) ∙ ap (λ (k : ℕ). i32_record zs ++ drop k buffer) size,
      roles_written i.table i.words role_buffer o.0,
    )
