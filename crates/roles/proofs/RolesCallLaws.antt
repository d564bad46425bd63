-- The roles call, once its refusals are judged. Assumes nothing.
use Rattle.std.proofs.Common.{◌≡◌, ℕ, ◌/◌, ◌≤◌, List, length, sym, ap, ◌∙◌, arith}
use mathlib.Core.Option.{Option, none, some}
use Rattle.roles_spec.specs.Table.{row_bytes, rows}
use Rattle.roles_spec.specs.Refusals.{Refused, max_rows, word_total, roles_refusal}
use Rattle.roles_spec.specs.Calls.{answer, roles_answer, roles_after}
use Rattle.roles.specs.Terms.{refused_of, given_refusal, answer_of}
use Rattle.roles.specs.declared.refusals.Refusal.{Refusal}
use Rattle.std.specs.declared.result.Result.{Result}
use Rattle.std.specs.declared.result.Result.TheVariants.{Ok, Err}
use Rattle.roles_spec.proofs.TableLaws.{length_rows}
use Rattle.roles_spec.proofs.RefusalLaws.{ImageKept, roles_kept}
use Rattle.roles_spec.proofs.RefusedCallLaws.{roles_untouched}

module _ {A : Type 0} (table words role_buffer : List ℕ) (a : Result A Refusal) (judged : given_refusal a ≡ roles_refusal table words (length role_buffer)) where
  pub refused_by : (r : Refusal) → a ≡ Err r → some (refused_of r) ≡ roles_refusal table words (length role_buffer)
  unfolding given_refusal
  refused_by r e = sym (ap given_refusal e) ∙ judged

  -- a refused call answers so and writes nothing
  pub refused_call : (r : Refusal) → a ≡ Err r → (answer_of (Err r) ≡ roles_answer table words (length role_buffer)) × (role_buffer ≡ roles_after table words role_buffer)
  unfolding answer_of roles_answer answer
  refused_call r e =
      let o = ap (λ (x : Option Refused). answer x (word_total (rows table))) (refused_by r e) in
      (o, sym (roles_untouched table words role_buffer (refused_of r) (sym o)))

pub not_refused : {A : Type 0} (table words : List ℕ) (room : ℕ) (a : Result A Refusal) (x : A) → given_refusal a ≡ roles_refusal table words room → a ≡ Ok x → roles_refusal table words room ≡ none
unfolding given_refusal
not_refused table words room a x judged e = sym judged ∙ ap given_refusal e

module _ (table words : List ℕ) (room : ℕ) (accepted : roles_refusal table words room ≡ none) where
  kept : ImageKept table words
  kept = (roles_kept table words room accepted).image

  pub few_rows : length table / row_bytes ≤ max_rows
  few_rows = omega (arith, kept.row_limit, length_rows table)

  pub few_words : length words / 4 ≤ 1048576
  few_words = omega (arith, kept.word_limit)

  -- an accepted call answers the number of words
  pub accepted_call : answer_of (Ok (length words / 4)) ≡ roles_answer table words room
  unfolding answer_of roles_answer answer
  accepted_call =
      let count : length words / 4 ≡ word_total (rows table) = omega (arith, kept.word_count) in
      ap (λ (n : ℕ). answer none n) count ∙ ap (λ (x : Option Refused). answer x (word_total (rows table))) (sym accepted)
