-- One diagnostic more is printed in each turn, and there is room for it.
use Rattle.std.proofs.Common.{◌≡◌, ℕ, ◌+◌, ◌*◌, ◌/◌, [], ◌∷◌, ◌++◌, length, ap, sym, ◌∙◌, arith, length-append, length-drop}
use Rattle.std.specs.Slice.Iter.{chunks_exact_rest, chunks_exact_size}
use mathlib.Core.List.{flat_map}
use Rattle.validator_spec.specs.Walk.{diagnostic_bytes}
use Rattle.listing_spec.specs.Packcheck.{diagnostic_text}
use Rattle.validator_spec.specs.Records.{diagnostics_in}
use Rattle.listing.proofs.PrintLaws.{diagnostic_end, diagnostics_end, prints_as, prints_diagnostics_next, prints_length, prints_none}
use Rattle.validator_spec.proofs.RecordLaws.{cut}
use Rattle.listing.proofs.printer.Printer.diagnostics.Goals as goal

pub loop-bytes-init : goal.loop-bytes-init
unfolding diagnostics_in flat_map
loop-bytes-init c =
    let begun = c.into_iter-bytes-iterator.ensures.into_iter_gives in
    let items = c.chunks_exact-bytes-items.ensures in
    (ap chunks_exact_size begun ∙ items.size, omega arith, ap chunks_exact_rest begun ∙ items.rest, prints_none _)

pub diagnostic-requires : goal.diagnostic-requires
diagnostic-requires c =
    let kept = c.loop-bytes.invariant in
    let step = c.in-Some.ensures.steps in
    let taken = cut _ _ _ _ kept.1 (sym kept.2 ∙ step.1.0) (step.1.1 ∙ kept.0) in
    omega (arith, diagnostics_end _ _ kept.3, prints_length kept.3, taken.within)

pub loop-bytes-preserved : goal.loop-bytes-preserved
loop-bytes-preserved c =
    let kept = c.loop-bytes.invariant in
    let step = c.in-Some.ensures.steps in
    let i = length c.loop-bytes.yielded in
    let more : length (c.loop-bytes.yielded ++ c.in-Some.bytes ∷ []) ≡ i + 1 = length-append c.loop-bytes.yielded (c.in-Some.bytes ∷ []) in
    let taken = cut _ _ _ _ kept.1 (sym kept.2 ∙ step.1.0) (step.1.1 ∙ kept.0) in
    let printed = prints_as (ap diagnostic_text taken.value) c.diagnostic.ensures in
    rw more (step.0 ∙ kept.0, taken.within, taken.left, prints_diagnostics_next _ i (omega (arith, diagnostics_end _ _ kept.3, diagnostic_end _ printed, taken.within)) kept.3 printed)

pub returns : goal.returns
returns c =
    let kept = c.loop-bytes.invariant in
    let i = length c.loop-bytes.yielded in
    let buffer = c.args.diagnostics.now in
    let all : i ≡ length buffer / diagnostic_bytes = omega (arith, length-drop (diagnostic_bytes * i) buffer, ap length kept.2, kept.0, kept.1, c.in-None.ensures.steps.1.0) in
    prints_as (ap (λ (n : ℕ). flat_map diagnostic_text (diagnostics_in buffer n)) all) kept.3
