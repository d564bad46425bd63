-- What a call's number says to a caller that has only that: a pass is an accepted check with ValidForParser and nothing else, and no answer is lost.
-- Assumes nothing.
use Rattle.std.specs.Prelude.{◌≡◌, refl, ℕ, ◌+◌, ◌*◌, ◌/◌, ◌%◌, ◌^◌, ◌<◌, ◌↔◌, Bool, true, false, nat_eq, map}
use native.Mathlib.Omega.{arith}
use borrow.Author.Tests.{eqb-true}
use mathlib.Core.Path.{sym, ◌∙◌, ap, subst}
use Rattle.base.specs.Lists.{All}
use Rattle.base.proofs.BoolLaws.{true≢false}
use Rattle.roles_spec.specs.Refusals.{Refused}
use Rattle.roles_spec.specs.Calls.{Answer, refused, accepted}
use Rattle.validator_spec.specs.Walk.{Verdict, ValidForParser, Incomplete, Invalid}
use Rattle.validator_spec.specs.Image.{Image, image_protos}
use Rattle.validator_spec.specs.Check.{Checked}
use Rattle.validator_spec.specs.Statements.{Guarantee, Passed}
use Rattle.luad51_spec.specs.Results.{refused_result, count_result, check_result, checked_bit, verdict_number, verdict_of_number, refusal_in, figure_in, verdict_in, is_checked, is_pass, reading, answer_in, ReadAs, Reads, ReadsCheck, Guaranteed}
use Rattle.luad51_spec.specs.Examples.{examples, check_answers, check_results, count_answers, count_results}
use Rattle.luad51_spec.proofs.ResultLaws.{answer_kept}

-- the accessors read from each result of the table what stands beside it
pub examples_hold : map (λ e. reading e.result) examples ≡ map (λ e. e.expected) examples
unfolding examples reading refusal_in figure_in verdict_in is_checked is_pass
examples_hold = refl

-- the answers of the table have the results that stand there
pub results_hold : (map check_result check_answers ≡ check_results) × (map count_result count_answers ≡ count_results)
unfolding check_answers check_results count_answers count_results check_result count_result refused_result verdict_number
results_hold = (refl, refl)

-- 0 is no pass: a result that nobody set
pub no_pass_0 : is_pass 0 ≡ false
unfolding is_pass
no_pass_0 = refl

-- a result is a pass exactly where it has the bit of an accepted check, refusal 0, verdict 0 and none of bits 48 to 63
pub pass_is : (result : ℕ) → (is_pass result ≡ true) ↔ ((is_checked result ≡ true) × (refusal_in result ≡ 0) × (verdict_in result ≡ 0) × (result / 2 ^ 48 ≡ 0))
unfolding is_pass is_checked refusal_in verdict_in
pass_is result = (
  λ p.
      let upper : result / 2 ^ 32 ≡ 2 ^ 15 = eqb-true _ _ p in
      let set : result / checked_bit % 2 ≡ 1 = omega arith in
      (rw set refl, omega arith, omega arith, omega arith),
  λ (set, refusal, verdict, none).
      let bit : result / checked_bit % 2 ≡ 1 = eqb-true _ _ set in
      let upper : result / 2 ^ 32 ≡ 2 ^ 15 = omega arith in
      rw upper refl,
)

-- without the bit of an accepted check there is no pass
no_pass : (result refusal figure verdict : ℕ) → ReadAs result refusal figure verdict false → is_pass result ≡ false
no_pass result refusal figure verdict r = go (is_pass result) refl
  where
    go : (b : Bool) → is_pass result ≡ b → is_pass result ≡ false
    go true e = true≢false (sym ((pass_is result).0 e).0 ∙ r.checked_read)
    go false e = e

-- so no result of the roles call or the bindings call is a pass
pub no_pass_of_other_calls : (result : ℕ) (a : Answer ℕ) → Reads result a → is_pass result ≡ false
unfolding Reads
no_pass_of_other_calls result (refused r) h = no_pass result _ _ _ h
no_pass_of_other_calls result (accepted n) h = no_pass result _ _ _ h

-- nor is the result of a refused check
pub no_pass_of_refused : (result : ℕ) (r : Refused) → ReadsCheck result (refused r) → is_pass result ≡ false
unfolding ReadsCheck
no_pass_of_refused result r h = no_pass result _ _ _ h

valid_by_number : (v : Verdict) → (nat_eq (verdict_number v) 0 ≡ true) ↔ (v ≡ ValidForParser)
unfolding verdict_number
valid_by_number ValidForParser = (λ e. refl, λ e. refl)
valid_by_number Incomplete = (λ e. true≢false (sym e), λ e. cc)
valid_by_number Invalid = (λ e. true≢false (sym e), λ e. cc)

passed_by_number : (v : Verdict) → nat_eq (2 ^ 8 * verdict_number v + 2 ^ 15) (2 ^ 15) ≡ nat_eq (verdict_number v) 0
unfolding verdict_number
passed_by_number ValidForParser = refl
passed_by_number Incomplete = refl
passed_by_number Invalid = refl

-- whether the result of an accepted check is a pass, by the verdict's number. (Its figure has 32 bits, as the accessors read it back.)
passed_as : (result : ℕ) (c : Checked) → result ≡ check_result (accepted c) → ReadsCheck result (accepted c) → is_pass result ≡ nat_eq (verdict_number c.verdict) 0
unfolding check_result ReadsCheck is_pass figure_in
passed_as result c e h =
    let small : c.count < 2 ^ 32 = omega (arith, h.figure_read) in
    let upper : result / 2 ^ 32 ≡ 2 ^ 8 * verdict_number c.verdict + 2 ^ 15 = omega arith in
    rw upper (passed_by_number c.verdict)

-- the result of an accepted check is a pass exactly with ValidForParser
pub pass_iff_valid : (result : ℕ) (c : Checked) → result ≡ check_result (accepted c) → ReadsCheck result (accepted c) → (is_pass result ≡ true) ↔ (c.verdict ≡ ValidForParser)
pass_iff_valid result c e h = rw (passed_as result c e h) (valid_by_number c.verdict)

-- a pass says that every prototype of the image keeps the rules and that every run of it is safe
pub pass_guaranteed : (result : ℕ) (i : Image) → Guaranteed result i → is_pass result ≡ true → All Passed (image_protos i)
unfolding Guaranteed answer_in verdict_of_number
pass_guaranteed result i g p =
    let (_, none, valid, _) = (pass_is result).0 p in
    (g none).valid (ap verdict_of_number valid)

-- ---- no answer is lost

-- the four values that are read, and whether the result is a pass
read_whole : (result refusal figure verdict : ℕ) (checked passed : Bool) → ReadAs result refusal figure verdict checked → is_pass result ≡ passed
    → reading result ≡ record { refusal = refusal; figure = figure; verdict = verdict; checked = checked; passed = passed }
unfolding reading
read_whole result refusal figure verdict checked passed r p = rw (r.refusal_read, r.figure_read, r.verdict_read, r.checked_read, p) refl

-- without the bit of an accepted check it is no pass
read_unchecked : (result refusal figure verdict : ℕ) → ReadAs result refusal figure verdict false
    → reading result ≡ record { refusal = refusal; figure = figure; verdict = verdict; checked = false; passed = false }
read_unchecked result refusal figure verdict r = read_whole result _ _ _ _ _ r (no_pass result _ _ _ r)

-- the accessors read the number of records of an accepted roles call or bindings call
pub records_read : (result n : ℕ) → Reads result (accepted n) → reading result ≡ record { refusal = 0; figure = n; verdict = 0; checked = false; passed = false }
unfolding Reads
records_read result n h = read_unchecked result _ _ _ h

-- they read why such a call was refused
pub refusal_read : (result : ℕ) (r : Refused) → Reads result (refused r) → reading result ≡ record { refusal = r.number; figure = r.figure; verdict = 0; checked = false; passed = false }
unfolding Reads
refusal_read result r h = read_unchecked result _ _ _ h

-- and why a check was refused
pub check_refusal_read : (result : ℕ) (r : Refused) → ReadsCheck result (refused r) → reading result ≡ record { refusal = r.number; figure = r.figure; verdict = 0; checked = false; passed = false }
unfolding ReadsCheck
check_refusal_read result r h = read_unchecked result _ _ _ h

-- they read the number of diagnostics and the verdict of an accepted check
pub check_read : (result : ℕ) (c : Checked) → result ≡ check_result (accepted c) → ReadsCheck result (accepted c)
    → reading result ≡ record { refusal = 0; figure = c.count; verdict = verdict_number c.verdict; checked = true; passed = nat_eq (verdict_number c.verdict) 0 }
unfolding ReadsCheck
check_read result c e h = read_whole result _ _ _ _ _ h (passed_as result c e h)

-- the result of an accepted check guarantees all that its answer guarantees
pub guarantee_kept : (result : ℕ) (i : Image) (c : Checked) → ReadsCheck result (accepted c) → Guaranteed result i → Guarantee i c
unfolding ReadsCheck Guaranteed
guarantee_kept result i c r g = subst (Guarantee i) (answer_kept result c r) (g r.refusal_read)
