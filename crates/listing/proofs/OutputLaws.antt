-- The whole output: how long it is at most, and that what was printed is it. Assumes nothing.
use Prim.Native.Nat.{ℕ, ◌≤◌}
use native.Mathlib.Omega.{arith}
use mathlib.Core.Path.{◌≡◌, refl, sym, ap, ap₂, ◌∙◌}
use mathlib.Core.List.{List}
use lib.ListN.{length, take, drop}
use lib.Seq.{take_at}
use Rattle.base.proofs.ByteLaws.{length_overwrite, overwrite_front}
use Rattle.base.specs.Bytes.{overwrite}
use Rattle.roles_spec.specs.Calls.{Answer, accepted, refused}
use Rattle.validator_spec.specs.Check.{Checked, check_answer}
use Rattle.validator_spec.specs.Image.{Image, diagnostics}
use Rattle.listing_spec.specs.Listing.{Read, done, read_listing, stopped}
use Rattle.listing_spec.specs.Longest.{input_bytes}
use Rattle.listing_spec.specs.Packcheck.{answer_text, diagnostic_room, output_text, packcheck, role_room}
use Rattle.listing_spec.proofs.PrefixLaws.{long_input}
use Rattle.listing.specs.declared.printer.Printer.{Printer}
use Rattle.listing.specs.Terms.{Prints, output_bytes}
use Rattle.listing.proofs.AnswerLaws.{accepted_count}
use Rattle.listing.proofs.PrintLaws.{length_refusal, length_result, prints_length}

-- no output is longer than the buffer
pub output_fits : (o : Read Image) → length (output_text o) ≤ output_bytes
unfolding output_text answer_text
output_fits (stopped r) = omega (arith, length_refusal r)
output_fits (done i) = go (check_answer i role_room diagnostic_room) refl
  where
    go : (a : Answer Checked) → check_answer i role_room diagnostic_room ≡ a → length (answer_text (diagnostics i) a) ≤ output_bytes
    go (refused r) e = omega (arith, length_refusal r)
    go (accepted c) e =
        let few = (accepted_count i c e).0 in
        omega (arith, length_result (diagnostics i) c)

-- what was printed is the output, and so it is of every longer input
pub written : {old new : Printer} {input t : List ℕ} → old.end ≡ 0 → length old.out.now ≡ output_bytes → output_text (read_listing input) ≡ t → Prints old t new
    → (new.out.now ≡ overwrite old.out.now 0 (packcheck input)) × (new.end ≡ length (packcheck input)) × (new.end ≤ length new.out.now) × ((whole : List ℕ) → take input_bytes whole ≡ input → packcheck whole ≡ packcheck input)
unfolding packcheck
written {old} {new} {input} {t} front room e p =
    let whole : new.out.now ≡ overwrite old.out.now 0 (output_text (read_listing input)) = p.bytes ∙ ap₂ (overwrite old.out.now) front (sym e) in
    let size : new.end ≡ length (output_text (read_listing input)) = omega (arith, p.ends, ap length e) in
    let fits = output_fits (read_listing input) in
    (whole, size, omega (arith, prints_length p), λ w front. sym (long_input w) ∙ ap packcheck front)

-- a text that stands at the front of a buffer
pub front_text : (old new t : List ℕ) (end : ℕ) → new ≡ overwrite old 0 t → end ≡ length t → end ≤ length new → take end new ≡ t
front_text old new t end stands size within =
    let kept : length new ≡ length old = ap length stands ∙ length_overwrite old 0 t in
    ap (take end) (stands ∙ overwrite_front old t (omega arith)) ∙ take_at t (drop (length t) old) end (sym size)
