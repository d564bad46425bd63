-- What is said of an image: its prototypes, diagnostics and verdict. Assumes nothing: these are definitions.
use Rattle.std.specs.Prelude.{ℕ, ◌+◌, List, map}
use Rattle.roles_spec.specs.Table.{Proto, protos}
use Rattle.validator_spec.specs.Diagnostics.{proto_steps}
use Rattle.validator_spec.specs.Walk.{Walk, RowDiagnostic, Verdict, walk, limit_reached, has_errors, verdict_of}

-- "a sheet, its words and the two incoming numbers", the first two as bytes
pub record Image : Type 0 where
  pub table : List ℕ
  pub words : List ℕ
  pub warnings : ℕ
  pub errors : ℕ

-- its prototypes (the document's parts), in row order
unfoldable pub image_protos : Image → List Proto
image_protos i = protos i.table i.words

-- the walk over all of its prototypes, from the numbers that came in
unfoldable pub image_walk : Image → Walk
image_walk i = walk (i.warnings + i.errors) (map proto_steps (image_protos i))

-- the diagnostics (findings) in order, as many as the limit leaves
unfoldable pub diagnostics : Image → List RowDiagnostic
diagnostics i = (image_walk i).found

-- the verdict, from the errors and the limit
unfoldable pub verdict : Image → Verdict
verdict i = verdict_of (has_errors i.errors (image_walk i)) (limit_reached (i.warnings + i.errors) (image_walk i))
