-- The records that mark an executable word and its companions in a role buffer. Assumes nothing.
use Rattle.std.proofs.Common.{◌≡◌, ℕ, zero, suc, ◌+◌, ◌-◌, ◌*◌, ◌/◌, ◌<◌, ◌≤◌, min, Bool, true, false, ltb, List, [], ◌∷◌, ◌++◌, length, take, drop, sym, refl, ap, ◌∙◌, ap₂, subst, add-zero, arith, length-drop, length-take, length-take-le, take_all, ltb-false, ltb-true}
use mathlib.Core.List.{flat_map}
use lib.Seq.{take-nil}
use Rattle.base.specs.Lists.{tabulate}
use Rattle.base.specs.Bytes.{i32_record, u32_record, overwrite}
use Rattle.roles_spec.specs.Roles.{Role, Instruction, ClosureBinding, SetlistExtra, role_fields, role_bytes, records_of, owner_field, index_field}
use Rattle.roles.specs.Terms.{owned_bindings, claimed_roles}
use Rattle.roles.specs.declared.discovery.Companions.{Companions}
use Rattle.roles.specs.declared.discovery.Companions.TheVariants.{None, Bindings, Extra}
use Rattle.base.proofs.ListLaws.{length_tabulate, take_tabulate}
use Rattle.base.proofs.PartLaws.{paste}
use Rattle.roles_spec.proofs.RoleRecordLaws.{length_records, records_none, records_next}

-- a role's record has its two fields
pub one_record : (r : Role) → records_of (r ∷ []) ≡ u32_record (owner_field r ∷ index_field r ∷ [])
unfolding records_of i32_record flat_map role_fields owner_field index_field
one_record Instruction = refl
one_record (ClosureBinding owner index) = refl
one_record (SetlistExtra owner) = refl

-- the record of the word at pc, written to the part of the buffer that it takes
pub record_pasted : (old part : List ℕ) (pc size : ℕ) (r : Role) (owner index : ℕ) → size ≡ role_bytes → role_bytes * pc + role_bytes ≤ length old → owner ≡ owner_field r → index ≡ index_field r
    → part ≡ overwrite (take size (drop (role_bytes * pc) old)) 0 (u32_record (owner ∷ index ∷ []))
    → take (role_bytes * pc) old ++ (part ++ drop size (drop (role_bytes * pc) old)) ≡ overwrite old (role_bytes * pc) (records_of (r ∷ []))
record_pasted old part pc size r owner index whole inside o i e =
    let at = role_bytes * pc in
    let fields : u32_record (owner ∷ index ∷ []) ≡ records_of (r ∷ []) = ap₂ (λ (a b : ℕ). u32_record (a ∷ b ∷ [])) o i ∙ sym (one_record r) in
    ap (λ (l : List ℕ). take at old ++ (l ++ drop size (drop at old))) (e ∙ ap (overwrite (take size (drop at old)) 0) fields)
    ∙ paste old at size 0 (records_of (r ∷ [])) (omega (arith, length_records (r ∷ []))) (omega arith)
    ∙ ap (λ (n : ℕ). overwrite old n (records_of (r ∷ []))) (add-zero at)

-- ---- the companions of an owner, as far as they exist

-- binding words, of any number
pub owned_roles : (pc n first : ℕ) → claimed_roles pc (owned_bindings n first) ≡ tabulate n (ClosureBinding pc)
unfolding claimed_roles owned_bindings
owned_roles pc zero first = refl
owned_roles pc (suc n) first = refl

-- n companions are marked, from byte `at` on
abbrev pub Marked : List ℕ → List ℕ → ℕ → ℕ → ℕ → Companions → ℕ → Type 0
Marked old new at pc room cs n =
    (n ≡ length (take room (claimed_roles pc cs))) × ((new ≡ overwrite old at (records_of (take room (claimed_roles pc cs)))) × (n ≤ room))

module _ (old new : List ℕ) (at pc room : ℕ) (cs : Companions) where
  these : (rs : List Role) (n : ℕ) → take room (claimed_roles pc cs) ≡ rs → n ≡ length rs → new ≡ overwrite old at (records_of rs) → Marked old new at pc room cs n
  these rs n e l d = (l ∙ ap length (sym e), (d ∙ ap (λ (x : List Role). overwrite old at (records_of x)) (sym e), omega (arith, ap length e, length-take room (claimed_roles pc cs))))

  pub marked_none : cs ≡ None → new ≡ old → Marked old new at pc room cs 0
  unfolding claimed_roles
  marked_none e d = these [] 0 (ap (λ (x : Companions). take room (claimed_roles pc x)) e ∙ take-nil room) refl (d ∙ records_none old at)

  -- as many binding words as there is room for
  few : (n k : ℕ) → k ≡ min room n → take room (tabulate n (ClosureBinding pc)) ≡ tabulate k (ClosureBinding pc)
  few n k e = go (ltb n room) refl
    where
      f : ℕ → Role
      f = ClosureBinding pc

      go : (b : Bool) → ltb n room ≡ b → take room (tabulate n f) ≡ tabulate k f
      go true t =
          let less = ltb-true n room t in
          let all : n ≡ k = omega arith in
          take_all room (tabulate n f) (omega (arith, length_tabulate f n)) ∙ ap (λ (m : ℕ). tabulate m f) all
      go false t =
          let more = ltb-false n room t in
          let all : room ≡ k = omega arith in
          take_tabulate f room n more ∙ ap (λ (m : ℕ). tabulate m f) all

  pub marked_bindings : (n o k : ℕ) → cs ≡ Bindings n o → k ≡ min room n → new ≡ overwrite old at (records_of (tabulate k (ClosureBinding pc))) → Marked old new at pc room cs k
  unfolding claimed_roles
  marked_bindings n o k e m d =
      these (tabulate k (ClosureBinding pc)) k (ap (λ (x : Companions). take room (claimed_roles pc x)) e ∙ few n k m) (sym (length_tabulate (ClosureBinding pc) k)) d

  pub marked_extra : (n : ℕ) → cs ≡ Extra → n ≡ length (take room (claimed_roles pc Extra)) → new ≡ overwrite old at (records_of (take room (claimed_roles pc Extra))) → Marked old new at pc room cs n
  marked_extra n e l d = these (take room (claimed_roles pc Extra)) n (ap (λ (x : Companions). take room (claimed_roles pc x)) e) l d

-- companions that are marked in the part after the owner's record are marked in the buffer of n records
pub marked_part : (old part : List ℕ) (pc n k : ℕ) (cs : Companions) (size : ℕ) → pc < n → role_bytes * n ≤ length old → size ≡ role_bytes * n - role_bytes * (pc + 1)
    → Marked (take size (drop (role_bytes * (pc + 1)) old)) part 0 pc (length (take size (drop (role_bytes * (pc + 1)) old)) / role_bytes) cs k
    → Marked old (take (role_bytes * (pc + 1)) old ++ (part ++ drop size (drop (role_bytes * (pc + 1)) old))) (role_bytes * (pc + 1)) pc (n - pc - 1) cs k
marked_part old part pc n k cs size there room e d =
    let at = role_bytes * (pc + 1) in
    let long : length (take size (drop at old)) ≡ size = length-take-le size (drop at old) (omega (arith, length-drop at old)) in
    let few : length (take size (drop at old)) / role_bytes ≡ n - pc - 1 = omega arith in
    let mine = take (n - pc - 1) (claimed_roles pc cs) in
    let these : Marked (take size (drop at old)) part 0 pc (n - pc - 1) cs k = subst (λ (r : ℕ). Marked (take size (drop at old)) part 0 pc r cs k) few d in
    let pasted : take at old ++ (part ++ drop size (drop at old)) ≡ overwrite old at (records_of mine) =
    ap (λ (l : List ℕ). take at old ++ (l ++ drop size (drop at old))) these.1.0
    ∙ paste old at size 0 (records_of mine) (omega (arith, length_records mine, length-take (n - pc - 1) (claimed_roles pc cs))) (omega (arith, length-drop at old))
    ∙ ap (λ (x : ℕ). overwrite old x (records_of mine)) (add-zero at) in
    (these.0, (pasted, these.1.1))

-- ---- an executable word, and the companions that exist among n words

unfoldable pub existing_roles : ℕ → ℕ → Companions → List Role
existing_roles n pc cs = take (n - pc - 1) (claimed_roles pc cs)

pub owner_marked : (old m new : List ℕ) (pc n k : ℕ) (cs : Companions) → pc < n → role_bytes * n ≤ length old → m ≡ overwrite old (role_bytes * pc) (records_of (Instruction ∷ []))
    → Marked m new (role_bytes * (pc + 1)) pc (n - pc - 1) cs k → (k ≡ length (existing_roles n pc cs)) × ((new ≡ overwrite old (role_bytes * pc) (records_of (Instruction ∷ existing_roles n pc cs))) × (k < n - pc))
unfolding existing_roles
owner_marked old m new pc n k cs there room e d =
    let mine = take (n - pc - 1) (claimed_roles pc cs) in
    let most : length mine ≤ n - pc - 1 = omega (arith, length-take (n - pc - 1) (claimed_roles pc cs)) in (
      d.0,
      (records_next old m new (role_bytes * pc) (role_bytes * (pc + 1)) (Instruction ∷ []) mine (omega arith) (omega arith) e d.1.0, omega (arith, d.1.1)),
    )

-- the law that the tactics use for a SETLIST's extra word
pub ruleset mark_steps = (records_none)
