-- Laws of the diagnostics buffer once records were written to it one after another. Assumes nothing.
use Rattle.std.proofs.Common.{◌≡◌, ℕ, suc, ◌+◌, ◌*◌, ◌≤◌, List, [], ◌∷◌, ◌++◌, length, sym, refl, ap, ◌∙◌, add-zero, add-suc, suc-add, arith}
use mathlib.Core.List.{flat_map}
use Rattle.base.specs.Bytes.{u32_record, i32_record, overwrite}
use Rattle.validator_spec.specs.Walk.{RowDiagnostic, diagnostic_fields, diagnostic_bytes}
use Rattle.validator.specs.Steps.{written}
use Rattle.base.proofs.ByteLaws.{length_i32_record, length_overwrite, overwrite_none, i32_record_next}
use Rattle.base.proofs.ListLaws.{length_flat_map}

length_fields : (d : RowDiagnostic) → length (diagnostic_fields d) ≡ 4
unfolding diagnostic_fields
length_fields d = refl

-- some records and then others
pub written_append : (k : ℕ) (xs ys : List RowDiagnostic) (out : List ℕ) → written k (xs ++ ys) out ≡ written (k + length xs) ys (written k xs out)
unfolding written
written_append k [] ys out = ap (λ (n : ℕ). written n ys out) (sym (add-zero k))
written_append k (x ∷ xs) ys out =
    let next = overwrite out (diagnostic_bytes * k) (i32_record (diagnostic_fields x)) in
    written_append (suc k) xs ys next ∙ ap (λ (n : ℕ). written n ys (written (suc k) xs next)) (suc-add k (length xs) ∙ sym (add-suc k (length xs)))

-- where all of them fit, they are one write
written_from : (k : ℕ) (ds : List RowDiagnostic) (out : List ℕ) → diagnostic_bytes * (k + length ds) ≤ length out
    → written k ds out ≡ overwrite out (diagnostic_bytes * k) (i32_record (flat_map diagnostic_fields ds))
unfolding written diagnostic_fields i32_record u32_record flat_map
written_from k [] out h = sym (overwrite_none out (diagnostic_bytes * k))
written_from k (d ∷ ds) out h =
    let next = overwrite out (diagnostic_bytes * k) (i32_record (diagnostic_fields d)) in
    let one = length_i32_record (diagnostic_fields d) in
    let others = length_i32_record (flat_map diagnostic_fields ds) in
    let count = length_flat_map diagnostic_fields 4 length_fields ds in
    i32_record_next diagnostic_fields out next _ (diagnostic_bytes * k) (diagnostic_bytes * suc k) (d ∷ []) ds (omega (arith, one)) (omega (arith, one, others, count)) refl
    (written_from (suc k) ds next (omega (arith, length_overwrite out (diagnostic_bytes * k) (i32_record (diagnostic_fields d)))))

pub written_fits : (ds : List RowDiagnostic) (old : List ℕ) → diagnostic_bytes * length ds ≤ length old → written 0 ds old ≡ overwrite old 0 (i32_record (flat_map diagnostic_fields ds))
written_fits ds old h = written_from 0 ds old (omega arith)
