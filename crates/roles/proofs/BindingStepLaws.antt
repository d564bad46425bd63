-- The records of bindings that binding words set in a buffer: one, several, and those of an owner. Assumes nothing.
use Rattle.std.proofs.Common.{◌≡◌, ℕ, zero, suc, ◌+◌, ◌*◌, ◌%◌, ◌<◌, ◌≤◌, List, [], ◌∷◌, ◌++◌, length, get_or, take, drop, sym, refl, ap, ◌∙◌, subst, ap₂, zero-add, add-one, arith, length-drop, length-take-le}
use mathlib.Core.List.{foldl}
use Rattle.base.specs.Lists.{only}
use Rattle.base.specs.Bytes.{i32_bits, u32_record, overwrite}
use Rattle.opcodes.specs.Words.{decoded, MOVE, GETUPVAL}
use Rattle.opcodes.specs.declared.RawInstruction51.{RawInstruction51}
use Rattle.roles_spec.specs.Bindings.{Binding, binding_index, binding_of, binding_bytes, binding_records}
use Rattle.roles.specs.Terms.{owned_bindings}
use Rattle.roles.specs.BindingSteps.{set_record, bound_by, bound_from, bound_claim, Bindable}
use Rattle.roles.specs.declared.discovery.Companions.{Companions}
use Rattle.roles.specs.declared.discovery.Companions.TheVariants.{None, Bindings, Extra}
use Rattle.base.proofs.ListLaws.{foldl_next}
use Rattle.base.proofs.ByteLaws.{length_overwrite, overwrite_unfit}
use Rattle.base.proofs.PartLaws.{paste_part, by_part}
use Rattle.roles_spec.proofs.BindingRecordLaws.{one_binding, length_bindings}
use Rattle.opcodes.proofs.SplitLaws.{has_opcode, has_other}

-- ---- a binding word

module _ (i pc w : ℕ) (r : RawInstruction51) (split : r ≡ decoded w) (old : List ℕ) where
  -- its index is x
  module _ (x : ℕ) (given : x ≡ r.b % 256) (new : List ℕ) where
    index : x ≡ binding_index w
    unfolding decoded binding_index
    index = given ∙ ap (λ (y : RawInstruction51). y.b % 256) split

    pub bound_move : r.opcode_num ≡ MOVE → new ≡ overwrite old (binding_bytes * i) (u32_record (1 ∷ x ∷ pc ∷ [])) → new ≡ bound_by i pc w old
    unfolding bound_by binding_of only i32_bits
    bound_move e d = d ∙ rw (has_opcode w r split MOVE e, has_other w r split GETUPVAL (λ f. omega arith), index, one_binding)

    pub bound_getupval : (r.opcode_num ≡ MOVE → ⊥) → r.opcode_num ≡ GETUPVAL → new ≡ overwrite old (binding_bytes * i) (u32_record (0 ∷ x ∷ pc ∷ [])) → new ≡ bound_by i pc w old
    unfolding bound_by binding_of only i32_bits
    bound_getupval f e d = d ∙ rw (has_other w r split MOVE f, has_opcode w r split GETUPVAL e, index, one_binding)

  pub bound_other : (r.opcode_num ≡ MOVE → ⊥) → (r.opcode_num ≡ GETUPVAL → ⊥) → old ≡ bound_by i pc w old
  unfolding bound_by binding_of only
  bound_other f g = rw (has_other w r split MOVE f, has_other w r split GETUPVAL g)

-- ---- several of them

module _ (words : List ℕ) (pc first : ℕ) where
  pub bound_none : (old : List ℕ) → old ≡ bound_from words pc first 0 old
  unfolding bound_from
  bound_none old = refl

  bound_next : (n : ℕ) (old : List ℕ) → bound_from words pc first (suc n) old ≡ bound_by (first + n) (pc + n) (get_or words (pc + n) 0) (bound_from words pc first n old)
  unfolding bound_from
  bound_next n old = foldl_next (λ (out : List ℕ) j. bound_by (first + j) (pc + j) (get_or words (pc + j) 0) out) old n

-- as the code has it: from record 0 on
pub bound_more : (words old m new : List ℕ) (pc j w : ℕ) → w ≡ get_or words (pc + j) 0 → m ≡ bound_from words pc 0 j old → new ≡ bound_by j (pc + j) w m → new ≡ bound_from words pc 0 (j + 1) old
bound_more words old m new pc j w word e d =
    d
    ∙ ap₂ (λ (x : ℕ) (l : List ℕ). bound_by j (pc + j) x l) word e
    ∙ sym (ap (λ (n : ℕ). bound_from words pc 0 n old) (add-one j)
    ∙ bound_next words pc 0 j old
    ∙ ap (λ (n : ℕ). bound_by n (pc + j) (get_or words (pc + j) 0) (bound_from words pc 0 j old)) (zero-add j))

-- they keep the length of the buffer
length_bound_by : (i pc w : ℕ) (part : List ℕ) → length (bound_by i pc w part) ≡ length part
unfolding bound_by
length_bound_by i pc w part = go (binding_of pc w) part
  where
    go : (bs : List Binding) (l : List ℕ) → length (foldl (set_record i) l bs) ≡ length l
    go [] l = refl
    go (b ∷ bs) l = go bs (overwrite l (binding_bytes * i) (binding_records (b ∷ []))) ∙ length_overwrite l (binding_bytes * i) (binding_records (b ∷ []))

length_bound_from : (words : List ℕ) (pc n : ℕ) (part : List ℕ) → length (bound_from words pc 0 n part) ≡ length part
length_bound_from words pc zero part = ap length (sym (bound_none words pc 0 part))
length_bound_from words pc (suc n) part =
    ap length (bound_next words pc 0 n part)
    ∙ length_bound_by (0 + n) (pc + n) (get_or words (pc + n) 0) (bound_from words pc 0 n part)
    ∙ length_bound_from words pc n part

-- ---- through a part of the buffer

module _ (front rest : List ℕ) (first : ℕ) (begins : length front ≡ binding_bytes * first) where
  abbrev pasted : List ℕ → List ℕ
  pasted part = front ++ (part ++ rest)

  pasted_records : (i : ℕ) (bs : List Binding) (part : List ℕ) → binding_bytes * i + binding_bytes ≤ length part
      → pasted (foldl (set_record i) part bs)
      ≡ foldl (set_record (first + i)) (pasted part) bs
  pasted_records i [] part h = refl
  pasted_records i (b ∷ bs) part h =
      let new = binding_records (b ∷ []) in
      let to : length front + binding_bytes * i ≡ binding_bytes * (first + i) = omega arith in
      pasted_records i bs (overwrite part (binding_bytes * i) new) (omega (arith, length_overwrite part (binding_bytes * i) new))
      ∙ ap (λ (l : List ℕ). foldl (set_record (first + i)) l bs)
      (paste_part front part rest (binding_bytes * i) new (omega (arith, length_bindings (b ∷ []))) ∙ ap (λ (n : ℕ). overwrite (pasted part) n new) to)

  pasted_word : (i pc w : ℕ) (part : List ℕ) → binding_bytes * i + binding_bytes ≤ length part → pasted (bound_by i pc w part) ≡ bound_by (first + i) pc w (pasted part)
  unfolding bound_by
  pasted_word i pc w part h = pasted_records i (binding_of pc w) part h

  pasted_words : (words : List ℕ) (pc n : ℕ) (part : List ℕ) → binding_bytes * n ≤ length part → pasted (bound_from words pc 0 n part) ≡ bound_from words pc first n (pasted part)
  pasted_words words pc zero part h = ap pasted (sym (bound_none words pc 0 part)) ∙ bound_none words pc first (pasted part)
  pasted_words words pc (suc n) part h =
      let w = get_or words (pc + n) 0 in
      let so_far = bound_from words pc 0 n part in
      ap pasted (bound_next words pc 0 n part ∙ ap (λ (k : ℕ). bound_by k (pc + n) w so_far) (zero-add n))
      ∙ pasted_word n (pc + n) w so_far (omega (arith, length_bound_from words pc n part))
      ∙ ap (bound_by (first + n) (pc + n) w) (pasted_words words pc n part (omega arith))
      ∙ sym (bound_next words pc first n (pasted part))

-- the records of a child are pasted back
pub child_bound : (words old part : List ℕ) (pc first size count n : ℕ) → size ≡ binding_bytes * n → count ≤ n → binding_bytes * first + size ≤ length old
    → part ≡ bound_from words pc 0 count (take size (drop (binding_bytes * first) old))
    → take (binding_bytes * first) old ++ (part ++ drop size (drop (binding_bytes * first) old)) ≡ bound_from words pc first count old
child_bound words old part pc first size count n whole few inside e =
    let at = binding_bytes * first in
    let room : length (take size (drop at old)) ≡ size = length-take-le size (drop at old) (omega (arith, length-drop at old)) in
    ap (λ (l : List ℕ). take at old ++ (l ++ drop size (drop at old))) e
    ∙ pasted_words (take at old) (drop size (drop at old)) first (length-take-le at old (omega arith)) words pc count (take size (drop at old)) (omega arith)
    ∙ ap (bound_from words pc first count) (by_part old at size)

-- ---- in a buffer that has room for no record

records_unfit : (i : ℕ) (bs : List Binding) (old : List ℕ) → length old < binding_bytes → foldl (set_record i) old bs ≡ old
records_unfit i [] old h = refl
records_unfit i (b ∷ bs) old h =
    ap (λ (l : List ℕ). foldl (set_record i) l bs)
    (overwrite_unfit old (binding_bytes * i) (binding_records (b ∷ [])) (omega (arith, length_bindings (b ∷ []))))
    ∙ records_unfit i bs old h

words_unfit : (words : List ℕ) (pc first n : ℕ) (old : List ℕ) → length old < binding_bytes → bound_from words pc first n old ≡ old
unfolding bound_by
words_unfit words pc first zero old h = sym (bound_none words pc first old)
words_unfit words pc first (suc n) old h =
    bound_next words pc first n old
    ∙ ap (bound_by (first + n) (pc + n) (get_or words (pc + n) 0)) (words_unfit words pc first n old h)
    ∙ records_unfit (first + n) (binding_of (pc + n) (get_or words (pc + n) 0)) old h

-- ---- what an owner's companions bind

-- companions that are no bindings bind nothing
pub claim_other : (words old : List ℕ) (pc base count : ℕ) (cs : Companions) → ((n first : ℕ) → cs ≡ Bindings n first → ⊥) → old ≡ bound_claim words pc base count cs old
unfolding bound_claim
claim_other words old pc base count None f = refl
claim_other words old pc base count (Bindings n first) f = absurd (f n first refl)
claim_other words old pc base count Extra f = refl

module _ (words old new : List ℕ) (pc base count : ℕ) (cs : Companions) where
  claim_is : (x : Companions) → cs ≡ x → new ≡ bound_claim words pc base count x old → new ≡ bound_claim words pc base count cs old
  claim_is x e d = d ∙ sym (ap (λ (y : Companions). bound_claim words pc base count y old) e)

  module _ (n first : ℕ) (e : cs ≡ Bindings n first) where
    pub claim_bound : new ≡ bound_from words (pc + 1) (base + first) count old → new ≡ bound_claim words pc base count cs old
    unfolding bound_claim
    claim_bound d = claim_is (Bindings n first) e d

    pub claim_unfit : length old < binding_bytes → new ≡ old → new ≡ bound_claim words pc base count cs old
    claim_unfit h d = claim_bound (d ∙ sym (words_unfit words (pc + 1) (base + first) count old h))

-- binding words, of any number
pub owned_bound : (words old : List ℕ) (pc base count n first : ℕ) → count ≤ n → bound_claim words pc base count (owned_bindings n first) old ≡ bound_from words (pc + 1) (base + first) count old
unfolding bound_claim owned_bindings
owned_bound words old pc base count zero first h =
    let none : 0 ≡ count = omega arith in
    bound_none words (pc + 1) (base + first) old ∙ ap (λ (k : ℕ). bound_from words (pc + 1) (base + first) k old) none
owned_bound words old pc base count (suc n) first h = refl

pub owned_bindable : (base count room n first : ℕ) → count ≤ n → (binding_bytes ≤ room → binding_bytes * (base + first + n) ≤ room) → Bindable base count room (owned_bindings n first)
unfolding Bindable owned_bindings
owned_bindable base count room zero first h fits = tt
owned_bindable base count room (suc n) first h fits = (h, fits)

-- there is room for some records, and so for those of the child
pub bindable_child : (base count room : ℕ) (cs : Companions) (n first : ℕ) → cs ≡ Bindings n first → binding_bytes ≤ room → Bindable base count room cs → (count ≤ n) × (binding_bytes * (base + first + n) ≤ room)
unfolding Bindable
bindable_child base count room cs n first e some h = let b = subst (Bindable base count room) e h in (b.0, b.1 some)
