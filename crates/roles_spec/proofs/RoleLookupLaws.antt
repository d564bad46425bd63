-- Looking up a role in a buffer that the roles were written to. Assumes nothing.
use Rattle.std.proofs.Common.{◌≡◌, ℕ, ◌+◌, ◌-◌, ◌*◌, ◌/◌, ◌^◌, ◌<◌, ◌≤◌, Bool, true, false, ltb, List, length, get_or, take, drop, sym, refl, ap, ◌∙◌, arith, length-drop, length-take, length-take-le, ltb-false, ltb-true, le-ltb, lt-ltb, ne_eqb}
use mathlib.Core.List.{flat_map}
use mathlib.Core.Option.{Option, none}
use lib.ListN.{get_or-eq_default}
use Rattle.base.specs.Bytes.{i32_bits, u32_from, overwrite}
use Rattle.roles_spec.specs.Table.{rows, Proto, protos}
use Rattle.roles_spec.specs.Roles.{Role, Instruction, ClosureBinding, SetlistExtra, roles, role_at, role_fields, role_bytes, records_of, owner_field, index_field, role_from, role_in}
use Rattle.roles_spec.specs.Refusals.{Refused, word_total, roles_refusal}
use Rattle.roles_spec.specs.Calls.{filled, roles_after}
use Rattle.base.proofs.AllLaws.{all_get_d, all_at}
use Rattle.roles_spec.proofs.RefusalLaws.{ImageKept, roles_kept}
use Rattle.base.proofs.ByteLaws.{length_overwrite}
use Rattle.base.proofs.PartLaws.{u32_from_part}
use Rattle.roles_spec.proofs.RoleBufferLaws.{RoleBelow, proto_roles_below, limited, length_protos, last_below, role_in_buffer, length_roles}

-- the two fields tell the role
fields_tell : (r : Role) → RoleBelow (2 ^ 31) r → role_from (owner_field r) (index_field r) ≡ r
unfolding role_from owner_field index_field role_fields i32_bits
fields_tell Instruction h = refl
fields_tell (ClosureBinding owner index) h = rw (ne_eqb owner 4294967295 (λ e. omega (arith, h.0)), ne_eqb index 4294967295 (λ e. omega (arith, h.1)))
fields_tell (SetlistExtra owner) h = rw (ne_eqb owner 4294967295 (λ e. omega arith))

module _ (table words : List ℕ) (kept : ImageKept table words) where
  -- a role looked up in the part of the buffer that has a prototype's records is the word's role: for every pc, past the last word too
  module _ (old : List ℕ) (i : ℕ) (p : Proto) (fits : 8 * word_total (rows table) ≤ length old) (h : i < length (rows table)) where
    abbrev q : Proto
    q = get_or (protos table words) i p

    abbrev records : List ℕ
    records = take (8 * length q.code) (drop (8 * word_total (take i (rows table))) (overwrite old 0 (records_of (flat_map roles (protos table words)))))

    looked_up_past : (pc : ℕ) → length q.code ≤ pc → role_in records pc ≡ role_at q pc
    unfolding role_in role_at
    looked_up_past pc l =
        let none : length records / 8 ≤ pc = omega (arith, length-take (8 * length q.code) (drop (8 * word_total (take i (rows table))) (overwrite old 0 (records_of (flat_map roles (protos table words)))))) in
        (rw (le-ltb pc (length records / 8) none)) ∙ sym (get_or-eq_default (roles q) Instruction (omega (arith, length_roles q)))

    looked_up_word : (pc : ℕ) → pc < length q.code → role_in records pc ≡ role_at q pc
    unfolding role_in role_at owner_field index_field
    looked_up_word pc l =
        let first = word_total (take i (rows table)) in
        let buffer = overwrite old 0 (records_of (flat_map roles (protos table words))) in
        let n = length q.code in
        let there : i < length (protos table words) = omega (arith, length_protos table words kept) in
        let last : first + (n - 1) < word_total (rows table) = last_below table words kept i p there (n - 1) (omega arith) in
        let size : length records ≡ 8 * n = length-take-le (8 * n) (drop (8 * first) buffer) (omega (arith, length-drop (8 * first) buffer, length_overwrite old 0 (records_of (flat_map roles (protos table words))))) in
        let inside : pc < length records / 8 = omega arith in
        let owner : u32_from records (8 * pc) ≡ owner_field (role_at q pc) =
        u32_from_part buffer (8 * first) (8 * n) (8 * pc) (omega arith) ∙ ap (u32_from buffer) (omega arith) ∙ role_in_buffer table words kept old i pc 0 p fits h l (omega arith) in
        let index : u32_from records (8 * pc + 4) ≡ index_field (role_at q pc) =
        u32_from_part buffer (8 * first) (8 * n) (8 * pc + 4) (omega arith) ∙ ap (u32_from buffer) (omega arith) ∙ role_in_buffer table words kept old i pc 1 p fits h l (omega arith) in
        let small : RoleBelow (2 ^ 31) (role_at q pc) = all_get_d pc Instruction tt (proto_roles_below (2 ^ 31) q (all_at i p there (limited table words kept))) in
        (rw (lt-ltb pc (length records / 8) inside, owner, index)) ∙ fields_tell (role_at q pc) small

    looked_up : (pc : ℕ) → role_in records pc ≡ role_at q pc
    looked_up pc = go (ltb pc (length q.code)) refl
      where
        go : (b : Bool) → ltb pc (length q.code) ≡ b → role_in records pc ≡ role_at q pc
        go true e = looked_up_word pc (ltb-true pc (length q.code) e)
        go false e = looked_up_past pc (ltb-false pc (length q.code) e)

-- in a buffer that an accepted call has left, a role looked up in a prototype's part of it is the word's role
pub role_looked_up : (table words old : List ℕ) (i : ℕ) (p : Proto) → roles_refusal table words (length old) ≡ none → i < length (rows table) → (pc : ℕ)
    → role_in (take (role_bytes * length (get_or (protos table words) i p).code) (drop (role_bytes * word_total (take i (rows table))) (roles_after table words old))) pc
    ≡ role_at (get_or (protos table words) i p) pc
unfolding roles_after filled
role_looked_up table words old i p e h pc =
    let k = roles_kept table words (length old) e in
    ap (λ (o : Option Refused). role_in (take (role_bytes * length (get_or (protos table words) i p).code) (drop (role_bytes * word_total (take i (rows table))) (filled o old (records_of (flat_map roles (protos table words)))))) pc) e
    ∙ looked_up table words k.image old i p k.fits h pc
