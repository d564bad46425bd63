-- What the roles call and the bindings call answer, and what they leave in the buffers lent to them (document 01, "What the counter hears").
-- Assumes nothing: these are definitions.
use Rattle.std.specs.Prelude.{ℕ, length}
use mathlib.Core.List.{List, flat_map}
use Rattle.std.proofs.Math.Option.{Option, none, some}
use Rattle.base.specs.Bytes.{u32s, overwrite}
use Rattle.roles_spec.specs.Table.{rows, protos}
use Rattle.roles_spec.specs.Roles.{roles, records_of}
use Rattle.roles_spec.specs.Bindings.{Binding, bindings, binding_bytes, binding_records}
use Rattle.roles_spec.specs.Refusals.{Refused, or_else, roles_refusal, too_short, word_total}

-- a call's answer: a refusal, or its result
pub data Answer (A : Type 0) : Type 0 where
  refused : Refused → Answer A
  accepted : A → Answer A

-- the refusal that applies, or the result
unfoldable pub answer : {A : Type 0} → Option Refused → A → Answer A
answer (some r) a = refused r
answer none a = accepted a

-- a buffer (the document's tray) after a call: as it was where the call is refused, else with the new records in front
unfoldable pub filled : Option Refused → List ℕ → List ℕ → List ℕ
filled (some r) old new = old
filled none old new = overwrite old 0 new

-- ---- the roles call: "has 1 to 7"

-- "the number of records"
unfoldable pub roles_answer : List ℕ → List ℕ → ℕ → Answer ℕ
roles_answer table words role_length = answer (roles_refusal table words role_length) (word_total (rows table))

-- the role buffer after any of the three calls: "8 comes with roles written"
unfoldable pub roles_after : List ℕ → List ℕ → List ℕ → List ℕ
roles_after table words old = filled (roles_refusal table words (length old)) old (records_of (flat_map roles (protos table words)))

-- ---- the bindings call: 1 to 8, and the role buffer as the roles call leaves it

-- all binding records of an image
unfoldable pub image_bindings : List ℕ → List ℕ → List Binding
image_bindings table words = bindings (rows table) (u32s words)

-- 8 where the records do not fit
unfoldable pub bindings_refusal : List ℕ → List ℕ → ℕ → ℕ → Option Refused
bindings_refusal table words role_length binding_length =
    or_else (roles_refusal table words role_length) (too_short (length (image_bindings table words)) binding_bytes binding_length)

-- "the number of records"
unfoldable pub bindings_answer : List ℕ → List ℕ → ℕ → ℕ → Answer ℕ
bindings_answer table words role_length binding_length =
    answer (bindings_refusal table words role_length binding_length) (length (image_bindings table words))

-- the bindings buffer after the call
unfoldable pub bindings_after : List ℕ → List ℕ → ℕ → List ℕ → List ℕ
bindings_after table words role_length bindings =
    filled (bindings_refusal table words role_length (length bindings)) bindings (binding_records (image_bindings table words))
