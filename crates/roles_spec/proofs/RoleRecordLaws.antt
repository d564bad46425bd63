-- The records of roles as bytes: their length, and several after one another. Assumes nothing.
use Prim.Native.Nat.{ℕ, ◌+◌, ◌*◌, ◌≤◌}
use native.Mathlib.Numerals.{add-one}
use native.Mathlib.Omega.{arith}
use mathlib.Core.Path.{◌≡◌, refl, sym, ◌∙◌, ap}
use mathlib.Core.List.{List, [], ◌∷◌, ◌++◌, flat_map}
use lib.ListN.{length}
use Rattle.base.specs.Lists.{tabulate}
use Rattle.base.specs.Bytes.{i32_record, u32_record, overwrite}
use Rattle.roles_spec.specs.Roles.{Role, Instruction, ClosureBinding, SetlistExtra, role_fields, role_bytes, records_of}
use Rattle.base.proofs.ListLaws.{length_flat_map, length_tabulate, tabulate_next}
use Rattle.base.proofs.ByteLaws.{length_i32_record, i32_record_next, overwrite_none}

pub length_role_fields : (r : Role) → length (role_fields r) ≡ 2
unfolding role_fields
length_role_fields Instruction = refl
length_role_fields (ClosureBinding owner index) = refl
length_role_fields (SetlistExtra owner) = refl

pub length_records : (rs : List Role) → length (records_of rs) ≡ role_bytes * length rs
unfolding records_of
length_records rs = length_i32_record (flat_map role_fields rs) ∙ omega (arith, length_flat_map role_fields 2 length_role_fields rs)

pub records_none : (old : List ℕ) (at : ℕ) → old ≡ overwrite old at (records_of [])
unfolding records_of i32_record u32_record flat_map
records_none old at = sym (overwrite_none old at)

-- a buffer with some roles, and more written after them
pub records_next : (old m new : List ℕ) (at to : ℕ) (rs ss : List Role) → to ≡ at + role_bytes * length rs → at + role_bytes * (length rs + length ss) ≤ length old
    → m ≡ overwrite old at (records_of rs) → new ≡ overwrite m to (records_of ss) → new ≡ overwrite old at (records_of (rs ++ ss))
unfolding records_of
records_next old m new at to rs ss start room e d =
    i32_record_next role_fields old m new at to rs ss (omega (arith, length_records rs)) (omega (arith, length_records rs, length_records ss)) e d

-- one binding word more
pub binding_next : (old m new : List ℕ) (pc j : ℕ) → role_bytes * (j + 1) ≤ length old → m ≡ overwrite old 0 (records_of (tabulate j (ClosureBinding pc)))
    → new ≡ overwrite m (role_bytes * j) (records_of (ClosureBinding pc j ∷ [])) → new ≡ overwrite old 0 (records_of (tabulate (j + 1) (ClosureBinding pc)))
binding_next old m new pc j room e d =
    let count = length_tabulate (ClosureBinding pc) j in
    records_next old m new 0 (role_bytes * j) (tabulate j (ClosureBinding pc)) (ClosureBinding pc j ∷ []) (omega arith) (omega arith) e d
    ∙ ap (λ (rs : List Role). overwrite old 0 (records_of rs)) (sym (ap (λ (n : ℕ). tabulate n (ClosureBinding pc)) (add-one j) ∙ tabulate_next (ClosureBinding pc) j))
