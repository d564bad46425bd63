-- The writes of bindings: they change no length, go to the records of children, and are those of executable words. Assumes nothing.
use Prim.Native.Nat.{ℕ, suc, ◌+◌, ◌≤◌, ◌<◌}
use native.Mathlib.Nat.{zero-add}
use native.Mathlib.Omega.{arith}
use mathlib.Core.Path.{◌≡◌, refl, ◌∙◌, ap}
use mathlib.Core.Bool.{false}
use mathlib.Core.List.{List, [], ◌∷◌, ◌++◌, foldl, flat_map, append-nil}
use mathlib.Core.Option.{Option, none, some}
use lib.ListN.{length, get_or, length-set}
use Rattle.base.specs.Lists.{All, up_from}
use Rattle.opcodes.specs.Words.{is, field_bx, CLOSURE}
use Rattle.roles_spec.specs.Table.{Row, Proto}
use Rattle.roles_spec.specs.Roles.{word_at, executable_at, binding_count, existing, binding_words, Executable, companions}
use Rattle.roles_spec.specs.Bindings.{Binding, Write, binding_of, write_of, writes_at, writes, set_binding}
use Rattle.base.proofs.ListLaws.{up_from_append, flat_map_append}
use Rattle.base.proofs.AllLaws.{all_flat_map, all_map, all_of, all_up_to, flat_map_none, all_up_from}
use Rattle.base.proofs.BoolLaws.{by_cond}
use Rattle.roles_spec.proofs.RoleLaws.{companion_unexecutable}

-- ---- a write changes no length

pub length_set_binding : (all : List Row) (o : Option Row) (v : Write) (bs : List Binding) → length (set_binding all o v bs) ≡ length bs
unfolding set_binding
length_set_binding all none v bs = refl
length_set_binding all (some c) v bs = length-set bs _ v.binding

pub length_writes : (all : List Row) (f : Write → Option Row) (vs : List Write) (bs : List Binding) → length (foldl (λ (bs : List Binding) (v : Write). set_binding all (f v) v bs) bs vs) ≡ length bs
length_writes all f [] bs = refl
length_writes all f (v ∷ vs) bs = length_writes all f vs (set_binding all (f v) v bs) ∙ length_set_binding all (f v) v bs

-- ---- the writes of a prototype are to the records of its children

abbrev pub Inside : Proto → Write → Type 0
Inside p v = v.upvalue < get_or p.children v.child 0

binding_words_most : (p : Proto) (pc : ℕ) → binding_words p pc ≤ get_or p.children (field_bx (word_at p pc)) 0
unfolding binding_words existing binding_count
binding_words_most p pc =
    let w = word_at p pc in
    let n = get_or p.children (field_bx w) 0 in
    let owned : binding_count p w ≤ n = by_cond (λ (k : ℕ). k ≤ n) (is w (CLOSURE ∷ [])) n 0 (λ _. omega arith) (λ _. omega arith) in
    by_cond (λ (k : ℕ). k ≤ n) (executable_at p pc) (existing p pc (binding_count p w)) 0 (λ _. omega arith) (λ _. omega arith)

pub writes_inside : (p : Proto) → All (Inside p) (writes p)
unfolding writes writes_at write_of
writes_inside p =
    all_flat_map (Inside p) (writes_at p)
    (all_of (λ pc.
    all_flat_map (Inside p) (λ j. write_of (field_bx (word_at p pc)) j (pc + 1 + j) (word_at p (pc + 1 + j)))
    (all_up_to (λ j. All (Inside p) (write_of (field_bx (word_at p pc)) j (pc + 1 + j) (word_at p (pc + 1 + j)))) (binding_words p pc) (λ j h.
    all_map (Inside p) (λ b. record { child = field_bx (word_at p pc); upvalue = j; binding = b }) (all_of (λ b. omega (arith, binding_words_most p pc)) (binding_of (pc + 1 + j) (word_at p (pc + 1 + j)))))))
    (up_from 0 (length p.code)))

-- ---- word by word

module _ (p : Proto) where
  -- companions make no writes
  none_written : (pc k : ℕ) → Executable p pc → k ≡ companions p pc → flat_map (writes_at p) (up_from (suc pc) k) ≡ []
  unfolding writes_at binding_words flat_map
  none_written pc k x e =
      flat_map_none (writes_at p) (all_up_from (suc pc) k (λ j h.
      let at : suc pc + j ≡ pc + 1 + j = omega arith in
      let no : executable_at p (suc pc + j) ≡ false = ap (executable_at p) at ∙ companion_unexecutable p pc j x (omega arith) in
      rw no))

  pub writes_next : (pc k : ℕ) → Executable p pc → k ≡ companions p pc → flat_map (writes_at p) (up_from 0 (pc + (1 + k))) ≡ flat_map (writes_at p) (up_from 0 pc) ++ writes_at p pc
  unfolding flat_map
  writes_next pc k x e =
      let one : 1 + k ≡ suc k = omega arith in
      ap (λ (n : ℕ). flat_map (writes_at p) (up_from 0 (pc + n))) one
      ∙ ap (flat_map (writes_at p)) (up_from_append 0 pc (suc k) ∙ ap (λ (n : ℕ). up_from 0 pc ++ up_from n (suc k)) (zero-add pc))
      ∙ flat_map_append (writes_at p) (up_from 0 pc) (pc ∷ up_from (suc pc) k)
      ∙ ap (λ (l : List Write). flat_map (writes_at p) (up_from 0 pc) ++ (writes_at p pc ++ l)) (none_written pc k x e)
      ∙ ap (λ (l : List Write). flat_map (writes_at p) (up_from 0 pc) ++ l) (append-nil (writes_at p pc))
