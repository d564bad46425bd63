-- The pass over a prototype's words: what it has written, and what is left, after each executable word and its companions. Assumes nothing.
use Rattle.std.proofs.Common.{◌≡◌, ℕ, suc, ◌+◌, ◌-◌, ◌*◌, ◌/◌, ◌<◌, ◌≤◌, Bool, true, false, T, List, [], ◌∷◌, ◌++◌, length, get_or, take, drop, sym, refl, ap, ◌∙◌, ap₂, append-nil, add-zero, arith, length-drop, length-take, length-take-le, get_or-drop, take_all, drop-cons, drop-drop, take_at, take-add, drop_at}
use mathlib.Core.Path.{subst⁻¹}
use Rattle.base.specs.Lists.{only}
use Rattle.base.specs.Bytes.{u32s, overwrite}
use Rattle.opcodes.specs.Words.{is, CLOSURE}
use Rattle.roles_spec.specs.Table.{row_at, Proto, proto_of, proto_in}
use Rattle.roles_spec.specs.Roles.{Role, Instruction, binding_count, has_extra, claims, roles_from, roles, role_at, word_at, Executable, existing, companions, role_bytes, records_of}
use Rattle.roles.specs.Terms.{child_bindings, companions_of, claimed_roles}
use Rattle.roles.specs.declared.discovery.Companions.{Companions}
use Rattle.base.proofs.ByteLaws.{length_u32s, length_overwrite}
use Rattle.roles_spec.proofs.RoleLaws.{role_executable, executable, owned_count, past_claims, no_both}
use Rattle.roles_spec.proofs.RoleBufferLaws.{length_roles}
use Rattle.roles_spec.proofs.RoleRecordLaws.{records_none, records_next}
use Rattle.roles.proofs.MarkLaws.{owned_roles, Marked, existing_roles, marked_part, owner_marked}

-- ---- a list from index k on, by its front

module _ {A : Type 0} (l : List A) (k : ℕ) (xs ys : List A) (e : drop k l ≡ xs ++ ys) where
  pub drop_front : drop (k + length xs) l ≡ ys
  drop_front = sym (drop-drop (length xs) k l) ∙ ap (drop (length xs)) e ∙ drop_at xs ys (length xs) refl

  pub take_front : take (k + length xs) l ≡ take k l ++ xs
  take_front = take-add k (length xs) l ∙ ap (λ (t : List A). take k l ++ t) (ap (take (length xs)) e ∙ take_at xs ys (length xs) refl)

-- ---- claimed words

-- what a word claims is what the code takes its companions to be
claims_claimed : (table : List ℕ) (row pc w : ℕ) (ws : List ℕ) → claimed_roles pc (companions_of table row w) ≡ claims (proto_in table row ws) pc w
unfolding companions_of claimed_roles child_bindings claims binding_count proto_in proto_of only
claims_claimed table row pc w ws = go (is w (CLOSURE ∷ [])) (has_extra w) refl refl
  where
    go : (c x : Bool) → is w (CLOSURE ∷ []) ≡ c → has_extra w ≡ x → claimed_roles pc (companions_of table row w) ≡ claims (proto_in table row ws) pc w
    go true true c x = no_both w (subst⁻¹ T x tt) (subst⁻¹ T c tt)
    go true false c x = rw (c, x, owned_roles, append-nil)
    go false true c x = rw (c, x)
    go false false c x = rw (c, x)

-- ---- the pass

pub record RolePass (table : List ℕ) (row : ℕ) (code old out : List ℕ) (pc : ℕ) : Type 0 where
  pub within : pc ≤ length code / 4
  pub long : length out ≡ length old
  pub left : drop pc (roles (proto_in table row (u32s code))) ≡ roles_from (proto_in table row (u32s code)) pc [] (drop pc (u32s code))
  pub written : out ≡ overwrite old 0 (records_of (take pc (roles (proto_in table row (u32s code)))))

-- the executable word at pc, with k companions
pub record OwnerHere (p : Proto) (pc w k : ℕ) : Type 0 where
  pub executes : Executable p pc
  pub word : word_at p pc ≡ w
  pub count : k ≡ companions p pc

-- after it, k companions are marked
pub record OwnerStep (table : List ℕ) (row : ℕ) (code : List ℕ) (pc w k : ℕ) (cs : Companions) (out new : List ℕ) : Type 0 where
  pub owned : cs ≡ companions_of table row w
  pub size : k ≡ length (existing_roles (length code / 4) pc cs)
  pub most : k < length code / 4 - pc
  pub written : new ≡ overwrite out (role_bytes * pc) (records_of (Instruction ∷ existing_roles (length code / 4) pc cs))
  pub here : OwnerHere (proto_in table row (u32s code)) pc w k

module _ (table : List ℕ) (row : ℕ) (code : List ℕ) (stated : (row_at table row).words ≡ length code / 4) where
  abbrev p : Proto
  p = proto_in table row (u32s code)

  -- the row states as many words as there are
  pub code_of : p.code ≡ u32s code
  unfolding proto_in proto_of
  code_of = take_all (row_at table row).words (u32s code) (omega (arith, length_u32s code))

  count : length (roles p) ≡ length code / 4
  count = length_roles p ∙ ap length code_of ∙ length_u32s code

  pub pass_begins : (old : List ℕ) → RolePass table row code old old 0
  unfolding roles
  pass_begins old = record { within = omega arith; long = refl; left = ap (roles_from p 0 []) code_of; written = records_none old 0 }

  module _ (old out : List ℕ) (pc : ℕ) (v : RolePass table row code old out pc) where
    pub pass_ends : length code / 4 ≤ pc → out ≡ overwrite old 0 (records_of (roles p))
    pass_ends h = v.written ∙ ap (λ (rs : List Role). overwrite old 0 (records_of rs)) (take_all pc (roles p) (omega (arith, count)))

    -- an executable word, and the companions that exist
    module _ (there : pc < length code / 4) (room : 2 * length code ≤ length old) (w : ℕ) (word : w ≡ get_or (u32s code) pc 0) (cs : Companions) (owns : cs ≡ companions_of table row w) where
      abbrev mine : List Role
      mine = existing_roles (length code / 4) pc cs

      next_word : drop pc (u32s code) ≡ w ∷ drop (suc pc) (u32s code)
      next_word =
          drop-cons (u32s code) pc 0 (omega (arith, length_u32s code))
          ∙ ap (λ (x : ℕ). x ∷ drop (suc pc) (u32s code)) (sym word)

      -- what exists of the words that it claims
      claimed : take (length (drop (suc pc) (u32s code))) (claims p pc w) ≡ mine
      unfolding existing_roles
      claimed =
          let size : length (drop (suc pc) (u32s code)) ≡ length code / 4 - pc - 1 = omega (arith, length-drop (suc pc) (u32s code), length_u32s code) in
          ap₂ (λ (n : ℕ) (l : List Role). take n l) size (sym (ap (claimed_roles pc) owns ∙ claims_claimed table row pc w (u32s code)))

      front : drop pc (roles p) ≡ (Instruction ∷ mine) ++ roles_from p (suc pc + length mine) [] (drop (length mine) (drop (suc pc) (u32s code)))
      unfolding roles_from
      front =
          let ws = drop (suc pc) (u32s code) in
          v.left
          ∙ ap (roles_from p pc []) next_word
          ∙ ap (λ (l : List Role). Instruction ∷ l)
          (past_claims p (suc pc) (claims p pc w) ws ∙ ap (λ (l : List Role). l ++ roles_from p (suc pc + length l) [] (drop (length l) ws)) claimed)

      pub pass_next : (new : List ℕ) (k : ℕ) → OwnerStep table row code pc w k cs out new → RolePass table row code old new (pc + (1 + k))
      pass_next new k step =
          let l = step.size in
          let most = step.most in
          let rs = take pc (roles p) in
          let here : length rs ≡ pc = length-take-le pc (roles p) (omega (arith, count)) in
          let all : new ≡ overwrite old 0 (records_of (rs ++ (Instruction ∷ mine))) =
          records_next old out new 0 (role_bytes * pc) rs (Instruction ∷ mine) (omega arith) (omega arith) v.written step.written in
          let to : pc + (1 + k) ≡ pc + suc (length mine) = omega arith in
          let on : suc pc + length mine ≡ pc + suc (length mine) = omega arith in
          record {
            within = omega arith;
            long = ap length all ∙ length_overwrite old 0 _;
            left =
                subst⁻¹ (λ (n : ℕ). drop n (roles p) ≡ roles_from p n [] (drop n (u32s code))) to
                (drop_front (roles p) pc (Instruction ∷ mine) _ front
                ∙ ap (roles_from p (suc pc + length mine) []) (drop-drop (length mine) (suc pc) (u32s code))
                ∙ ap (λ (n : ℕ). roles_from p n [] (drop n (u32s code))) on);
            written = all ∙ ap (λ (l : List Role). overwrite old 0 (records_of l)) (sym (ap (λ (n : ℕ). take n (roles p)) to ∙ take_front (roles p) pc (Instruction ∷ mine) _ front));
          }

      -- the word is executable, and this many of its companions exist
      word_here : word_at p pc ≡ w
      unfolding word_at
      word_here = ap (λ (l : List ℕ). get_or l pc 0) code_of ∙ sym word

      executable_here : Executable p pc
      unfolding role_at
      executable_here =
          executable p pc (omega (arith, ap length code_of, length_u32s code))
          (role_executable (ap (λ (n : ℕ). get_or (roles p) n Instruction) (sym (add-zero pc)) ∙ sym (get_or-drop pc (roles p) 0 Instruction) ∙ ap (λ (l : List Role). get_or l 0 Instruction) front))

      owner_here : (k : ℕ) → k ≡ length mine → OwnerHere p pc w k
      unfolding companions existing
      owner_here k e =
          let ws = drop (suc pc) (u32s code) in
          record {
            executes = executable_here;
            word = word_here;
            count = omega (
              arith,
              ap length (sym claimed),
              length-take (length ws) (claims p pc w),
              length-drop (suc pc) (u32s code),
              ap length code_of,
              owned_count p pc executable_here,
              ap (λ (x : ℕ). length (claims p pc x)) word_here,
            );
          }

      -- the word was read, its role and those of its companions were marked, these in the part of the buffer after its own
      pub owner_step : (m part : List ℕ) (k size : ℕ) → m ≡ overwrite out (role_bytes * pc) (records_of (Instruction ∷ [])) → size ≡ role_bytes * (length code / 4) - role_bytes * (pc + 1)
          → Marked (take size (drop (role_bytes * (pc + 1)) m)) part 0 pc (length (take size (drop (role_bytes * (pc + 1)) m)) / role_bytes) cs k
          → OwnerStep table row code pc w k cs out (take (role_bytes * (pc + 1)) m ++ (part ++ drop size (drop (role_bytes * (pc + 1)) m)))
      owner_step m part k size first e marks =
          let n = length code / 4 in
          let long : length m ≡ length out = ap length first ∙ length_overwrite out (role_bytes * pc) _ in
          let after = marked_part m part pc n k cs size there (omega (arith, v.long)) e marks in
          let marked = owner_marked out m _ pc n k cs there (omega (arith, v.long)) first after in
          record { owned = owns; size = marked.0; most = marked.1.1; written = marked.1.0; here = owner_here k marked.0 }
