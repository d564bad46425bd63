-- The prototype that a row of the table has: the terms of inner contracts. Assumes nothing: these are definitions.
use Rattle.std.specs.Prelude.{ℕ, List}
use Rattle.base.specs.Bytes.{u32s}
use Rattle.roles_spec.specs.Table.{Proto, proto_in}
use Rattle.validator.specs.declared.rows.RowBody.{RowBody}

-- the row's prototype with these words
abbrev pub proto_with : RowBody → List ℕ → Proto
proto_with r words = proto_in r.table.now r.body.limits.row words

-- the row's prototype with its own words
abbrev pub proto_of_row : RowBody → Proto
proto_of_row r = proto_with r (u32s r.body.code.now)
