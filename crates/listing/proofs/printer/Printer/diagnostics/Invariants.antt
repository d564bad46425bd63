-- After i turns the first i diagnostics are printed, and the records after these are left.
use Rattle.std.proofs.Common.{◌≡◌, ◌*◌, ◌≤◌, length, drop}
use mathlib.Core.List.{flat_map}
use Rattle.validator_spec.specs.Walk.{diagnostic_bytes}
use Rattle.listing_spec.specs.Packcheck.{diagnostic_text}
use Rattle.validator_spec.specs.Records.{diagnostics_in}
use Rattle.listing.specs.Terms.{Prints}
use Rattle.listing.proofs.printer.Printer.diagnostics.Given as goal

abbrev pub invariant-loop-bytes : goal.invariant-loop-bytes
invariant-loop-bytes l =
    (l.bytes-iterator.size ≡ diagnostic_bytes)
    × (diagnostic_bytes * length l.yielded ≤ length l.diagnostics)
    × (l.bytes-iterator.rest.now ≡ drop (diagnostic_bytes * length l.yielded) l.diagnostics)
    × Prints l.initial.self (flat_map diagnostic_text (diagnostics_in l.diagnostics (length l.yielded))) l.self
