-- The records of bindings as bytes: one record, several after one another, and one among others. Assumes nothing.
use Prim.Native.Nat.{ℕ, suc, ◌+◌, ◌*◌, ◌≤◌, ◌<◌}
use native.Mathlib.Omega.{arith}
use mathlib.Core.Path.{◌≡◌, refl, sym, ◌∙◌, ap, ap₂}
use mathlib.Core.List.{List, [], ◌∷◌, ◌++◌, flat_map, append_assoc}
use lib.ListN.{length, get_or, take, drop, replicate, length-replicate, replicate-append-replicate, set, take-append-drop, length-set}
use lib.Seq.{length-take-le, set_split, drop-cons}
use Rattle.base.specs.Bytes.{i32_bits, i32_record, u32_record, overwrite}
use Rattle.roles_spec.specs.Bindings.{Binding, unbound, binding_fields, binding_bytes, binding_records}
use Rattle.base.proofs.ListLaws.{length_flat_map}
use Rattle.base.proofs.ByteLaws.{length_i32_record, i32_record_append, i32_record_next, overwrite_none, overwrite_front, overwrite_whole}
use Rattle.base.proofs.PartLaws.{paste_part}

-- a record by the bits of its fields
pub one_binding : (b : Binding) → binding_records (b ∷ []) ≡ u32_record (b.instack ∷ b.idx ∷ i32_bits b.pc ∷ [])
unfolding binding_records i32_record flat_map binding_fields i32_bits
one_binding b = refl

pub length_bindings : (bs : List Binding) → length (binding_records bs) ≡ binding_bytes * length bs
unfolding binding_records binding_fields
length_bindings bs = length_i32_record (flat_map binding_fields bs) ∙ omega (arith, length_flat_map binding_fields 3 (λ b. refl) bs)

bindings_append : (bs cs : List Binding) → binding_records (bs ++ cs) ≡ binding_records bs ++ binding_records cs
unfolding binding_records
bindings_append bs cs = i32_record_append binding_fields bs cs

-- ---- records of upvalues that nothing binds

pub unbound_none : (old : List ℕ) → old ≡ overwrite old 0 (binding_records (replicate 0 unbound))
unfolding binding_records i32_record u32_record flat_map
unbound_none old = sym (overwrite_none old 0)

pub unbound_next : (old m new : List ℕ) (i : ℕ) → binding_bytes * i + binding_bytes ≤ length old → m ≡ overwrite old 0 (binding_records (replicate i unbound))
    → new ≡ overwrite m (binding_bytes * i) (u32_record (0 ∷ 0 ∷ 0xffff_ffff ∷ [])) → new ≡ overwrite old 0 (binding_records (replicate (i + 1) unbound))
unfolding unbound i32_bits binding_records
unbound_next old m new i room e d =
    let us = replicate i unbound in
    let size : length (binding_records us) ≡ binding_bytes * i = length_bindings us ∙ ap (λ (n : ℕ). binding_bytes * n) (length-replicate i unbound) in
    i32_record_next binding_fields old m new 0 (binding_bytes * i) us (unbound ∷ []) (omega (arith, size)) (omega (arith, size, length_bindings (unbound ∷ []))) e
    (d ∙ ap (overwrite m (binding_bytes * i)) (sym (one_binding unbound)))
    ∙ ap (λ (bs : List Binding). overwrite old 0 (binding_records bs)) (replicate-append-replicate i 1 unbound)

-- ---- one record among others

pub record_set : (old : List ℕ) (bs : List Binding) (i : ℕ) (b : Binding) → i < length bs → binding_bytes * length bs ≤ length old
    → overwrite (overwrite old 0 (binding_records bs)) (binding_bytes * i) (binding_records (b ∷ [])) ≡ overwrite old 0 (binding_records (set bs i b))
record_set old bs i b h room =
    let before = take i bs in
    let here = get_or bs i b in
    let after = drop (suc i) bs in
    let new = binding_records (b ∷ []) in
    let rest = drop (length (binding_records bs)) old in
    let split : bs ≡ before ++ (here ∷ after) = sym (ap (λ (l : List Binding). before ++ l) (sym (drop-cons bs i b h)) ∙ take-append-drop i bs) in
    let pieces : (x : Binding) → binding_records (before ++ (x ∷ after)) ≡ binding_records before ++ (binding_records (x ∷ []) ++ binding_records after) =
    λ x. bindings_append before (x ∷ after) ∙ ap (λ (l : List ℕ). binding_records before ++ l) (bindings_append (x ∷ []) after) in
    let at : binding_bytes * i ≡ length (binding_records before) + 0 = omega (arith, length_bindings before, length-take-le i bs (omega arith)) in
    let same = overwrite_whole (binding_records (here ∷ [])) new (omega (arith, length_bindings (here ∷ []), length_bindings (b ∷ []))) in
    let size : length (binding_records (set bs i b)) ≡ length (binding_records bs) = length_bindings (set bs i b) ∙ ap (λ (n : ℕ). binding_bytes * n) (length-set bs i b) ∙ sym (length_bindings bs) in
    ap (λ (l : List ℕ). overwrite l (binding_bytes * i) new)
    (overwrite_front old (binding_records bs) (omega (arith, length_bindings bs))
    ∙ ap (λ (l : List ℕ). l ++ rest) (ap binding_records split ∙ pieces here)
    ∙ append_assoc (binding_records before) (binding_records (here ∷ []) ++ binding_records after) rest
    ∙ ap (λ (l : List ℕ). binding_records before ++ l) (append_assoc (binding_records (here ∷ [])) (binding_records after) rest))
    ∙ ap (λ (n : ℕ). overwrite (binding_records before ++ (binding_records (here ∷ []) ++ (binding_records after ++ rest))) n new) at
    ∙ sym (paste_part (binding_records before) (binding_records (here ∷ [])) (binding_records after ++ rest) 0 new (omega (arith, length_bindings (here ∷ []), length_bindings (b ∷ []))))
    ∙ ap (λ (l : List ℕ). binding_records before ++ (l ++ (binding_records after ++ rest))) same
    ∙ sym (overwrite_front old (binding_records (set bs i b)) (omega (arith, size, length_bindings bs))
    ∙ ap₂ (λ (l : List ℕ) (n : ℕ). l ++ drop n old) (ap binding_records (set_split bs i b h) ∙ pieces b) size
    ∙ append_assoc (binding_records before) (new ++ binding_records after) rest
    ∙ ap (λ (l : List ℕ). binding_records before ++ l) (append_assoc new (binding_records after) rest))
