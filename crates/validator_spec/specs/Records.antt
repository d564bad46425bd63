-- What the records of a diagnostics buffer say. Assumes nothing: these are definitions.
use Rattle.std.specs.Prelude.{ℕ, ◌+◌, ◌-◌, ◌*◌, ◌^◌, List, cond, ltb, ℤ, pos, negsuc}
use Rattle.base.specs.Bytes.{u32_from}
use Rattle.base.specs.Lists.{tabulate}
use Rattle.validator_spec.specs.Walk.{RowDiagnostic, diagnostic_bytes}

-- these 32 bits as an i32
unfoldable pub signed : ℕ → ℤ
signed bits = cond (ltb bits (2 ^ 31)) (pos bits) (negsuc (0xffff_ffff - bits))

-- record i of a diagnostics buffer
unfoldable pub diagnostic_in : List ℕ → ℕ → RowDiagnostic
diagnostic_in buffer i =
    let at = diagnostic_bytes * i in
    record {
      row = u32_from buffer at;
      diagnostic = record { pc = signed (u32_from buffer (at + 4)); code = u32_from buffer (at + 8); value = signed (u32_from buffer (at + 12)) };
    }

-- the first records of a diagnostics buffer
unfoldable pub diagnostics_in : List ℕ → ℕ → List RowDiagnostic
diagnostics_in buffer count = tabulate count (diagnostic_in buffer)
