-- Reading a role's fields back from a buffer that the roles were written to. Assumes nothing.
use Prim.Native.Nat.{ℕ, zero, suc, ◌+◌, ◌*◌, ◌≤◌, ◌<◌, ◌^◌}
use native.Mathlib.Omega.{arith}
use mathlib.Core.Path.{◌≡◌, refl, sym, ◌∙◌, ap, ap₂}
use mathlib.Core.Bool.{Bool, true, false}
use mathlib.Core.List.{List, [], ◌∷◌, map, flat_map}
use lib.ListN.{length, get_or, take, drop, length-append, length-map, length-take, length-drop, get_or-map}
use lib.IntN.{ℤ, pos, negsuc}
use Rattle.base.specs.Lists.{All, all_nil, all_cons, only, up_from}
use Rattle.base.specs.Bytes.{i32_bits, i32_record, u32_record, u32_from, u32s, overwrite}
use Rattle.roles_spec.specs.Table.{Row, rows, Proto, proto_of, protos_of, protos}
use Rattle.roles_spec.specs.Roles.{Role, Instruction, ClosureBinding, SetlistExtra, binding_count, has_extra, claims, roles_from, roles, role_at, role_fields, records_of}
use Rattle.roles_spec.specs.Refusals.{word_total}
use Rattle.opcodes.specs.Words.{is, field_bx, CLOSURE}
use Rattle.base.proofs.BoolLaws.{by_cond}
use Rattle.base.proofs.AllLaws.{all_get_d, all_append, all_map, all_flat_map, all_imp}
use lib.Seq.{length-take-le, take_all, take-length}
use Rattle.base.proofs.ListLaws.{get_d_flat_map, flat_map_index, length_flat_map}
use Rattle.roles_spec.proofs.RefusalLaws.{ImageKept}
use Rattle.roles_spec.proofs.TableLaws.{children_most, length_protos_of}
use Rattle.base.proofs.ByteLaws.{length_u32s, u32_from_record}
use Rattle.roles_spec.proofs.RoleRecordLaws.{length_role_fields}

-- ---- a role for each word

length_roles_from : (p : Proto) (pc : ℕ) (claimed : List Role) (ws : List ℕ) → length (roles_from p pc claimed ws) ≡ length ws
unfolding roles_from
length_roles_from p pc claimed [] = refl
length_roles_from p pc [] (w ∷ ws) = ap suc (length_roles_from p (suc pc) (claims p pc w) ws)
length_roles_from p pc (r ∷ claimed) (w ∷ ws) = ap suc (length_roles_from p (suc pc) claimed ws)

pub length_roles : (p : Proto) → length (roles p) ≡ length p.code
unfolding roles
length_roles p = length_roles_from p 0 [] p.code

-- the number of words of the prototypes before prototype k
unfoldable pub words_before : List Proto → ℕ → ℕ
words_before ps k = length (flat_map roles (take k ps))

-- these are as many as the rows state, where there are enough words
pub words_before_total : (rs : List Row) (words : List ℕ) (k : ℕ) → word_total rs ≤ length words → words_before (protos_of rs words) k ≡ word_total (take k rs)
unfolding words_before word_total protos_of proto_of flat_map
words_before_total rs words zero h = refl
words_before_total [] words (suc k) h = refl
words_before_total (r ∷ rs) words (suc k) h =
    length-append (roles (proto_of r rs words)) _
    ∙ ap₂ (λ (a b : ℕ). a + b) (length_roles (proto_of r rs words) ∙ length-take r.words words ∙ omega arith)
    (words_before_total rs (drop r.words words) k (omega (arith, length-drop r.words words)))

-- the role of the word at pc of prototype k, counted over all words
pub role_at_index : (ps : List Proto) (k pc : ℕ) (p : Proto) → k < length ps → pc < length (get_or ps k p).code
    → get_or (flat_map roles ps) (words_before ps k + pc) Instruction ≡ role_at (get_or ps k p) pc
unfolding words_before role_at
role_at_index ps k pc p h l = get_d_flat_map roles ps k pc p Instruction h (omega (arith, length_roles (get_or ps k p)))

index_below : (ps : List Proto) (k pc : ℕ) (p : Proto) → k < length ps → pc < length (get_or ps k p).code → words_before ps k + pc < length (flat_map roles ps)
unfolding words_before
index_below ps k pc p h l = flat_map_index roles ps k pc p h (omega (arith, length_roles (get_or ps k p)))

-- ---- its record

abbrev Small : ℤ → Type 0
Small z = i32_bits z < 2 ^ 32

-- field j of record k
pub role_field : (ps : List Proto) (old : List ℕ) (k j : ℕ) → All Small (flat_map role_fields (flat_map roles ps)) → k < length (flat_map roles ps) → j < 2 → 8 * length (flat_map roles ps) ≤ length old
    → u32_from (overwrite old 0 (records_of (flat_map roles ps))) (8 * k + 4 * j) ≡ i32_bits (get_or (role_fields (get_or (flat_map roles ps) k Instruction)) j (pos 0))
unfolding records_of i32_record i32_bits
role_field ps old k j small h l fits =
    let all = flat_map roles ps in
    let zs = flat_map role_fields all in
    let count : length (map i32_bits zs) ≡ 2 * length all = length-map zs i32_bits ∙ length_flat_map role_fields 2 length_role_fields all in
    let index : 2 * k + j ≡ length (flat_map role_fields (take k all)) + j =
    omega (arith, length_flat_map role_fields 2 length_role_fields (take k all), length-take-le k all (omega arith)) in
    let there : 8 * k + 4 * j ≡ 0 + 4 * (2 * k + j) = omega arith in
    ap (λ (n : ℕ). u32_from (overwrite old 0 (u32_record (map i32_bits zs))) n) there
    ∙ u32_from_record old 0 (map i32_bits zs) (2 * k + j) (all_map (λ n. n < 2 ^ 32) i32_bits small) (omega arith) (omega arith)
    ∙ get_or-map i32_bits zs (2 * k + j) (pos 0)
    ∙ ap i32_bits (ap (λ (n : ℕ). get_or zs n (pos 0)) index ∙ get_d_flat_map role_fields all k j Instruction (pos 0) h (omega (arith, length_role_fields (get_or all k Instruction))))

-- ---- every field is an i32, and no owner and no index is -1

abbrev pub RoleBelow : ℕ → Role → Type 0
RoleBelow n Instruction = Unit {0}
RoleBelow n (ClosureBinding owner index) = (owner < n) × (index < n)
RoleBelow n (SetlistExtra owner) = owner < n

bindings_below : (n pc i k : ℕ) → pc < n → i + k ≤ n → All (RoleBelow n) (map (ClosureBinding pc) (up_from i k))
bindings_below n pc i zero h l = all_nil
bindings_below n pc i (suc k) h l = all_cons {x = ClosureBinding pc i} (h, omega arith) (bindings_below n pc (suc i) k h (omega arith))

extra_below : (n pc : ℕ) (b : Bool) → pc < n → All (RoleBelow n) (only b (SetlistExtra pc))
unfolding only
extra_below n pc true h = all_cons h all_nil
extra_below n pc false h = all_nil

binding_count_most : (n : ℕ) (p : Proto) (w : ℕ) → All (λ k. k ≤ n) p.children → binding_count p w ≤ n
unfolding binding_count
binding_count_most n p w h = by_cond (λ (k : ℕ). k ≤ n) (is w (CLOSURE ∷ [])) _ _ (λ _. all_get_d (field_bx w) 0 (omega arith) h) (λ _. omega arith)

roles_below : (n : ℕ) (p : Proto) → All (λ k. k ≤ n) p.children → (pc : ℕ) (claimed : List Role) (ws : List ℕ) → All (RoleBelow n) claimed → pc + length ws ≤ n
    → All (RoleBelow n) (roles_from p pc claimed ws)
unfolding roles_from claims
roles_below n p h pc claimed [] c l = all_nil
roles_below n p h pc [] (w ∷ ws) c l =
    let here : pc < n = omega arith in
    all_cons tt (roles_below n p h (suc pc) (claims p pc w) ws
    (all_append (bindings_below n pc 0 (binding_count p w) here (omega (arith, binding_count_most n p w h))) (extra_below n pc (has_extra w) here)) (omega arith))
roles_below n p h pc (r ∷ claimed) (w ∷ ws) (all_cons c cs) l = all_cons c (roles_below n p h (suc pc) claimed ws cs (omega arith))

-- the prototypes of an accepted image
pub record Limited (n : ℕ) (p : Proto) : Type 0 where
  pub words : length p.code ≤ n
  pub children : All (λ k. k ≤ n) p.children

pub proto_roles_below : (n : ℕ) (p : Proto) → Limited n p → All (RoleBelow n) (roles p)
unfolding roles
proto_roles_below n p h = roles_below n p h.children 0 [] p.code all_nil (omega (arith, h.words))

field_small : (r : Role) → RoleBelow (2 ^ 31) r → All Small (role_fields r)
unfolding role_fields i32_bits
field_small Instruction h = all_cons {x = negsuc 0} (omega arith) (all_cons {x = negsuc 0} (omega arith) all_nil)
field_small (ClosureBinding owner index) h = all_cons {x = pos owner} (omega (arith, h.0)) (all_cons {x = pos index} (omega (arith, h.1)) all_nil)
field_small (SetlistExtra owner) h = all_cons {x = pos owner} (omega arith) (all_cons {x = negsuc 0} (omega arith) all_nil)

pub records_small : (ps : List Proto) → All (Limited (2 ^ 31)) ps → All Small (flat_map role_fields (flat_map roles ps))
records_small ps h = all_flat_map Small role_fields (all_imp field_small (all_flat_map (RoleBelow (2 ^ 31)) roles (all_imp (proto_roles_below (2 ^ 31)) h)))

-- ---- an accepted image

words_most : (n : ℕ) (rs : List Row) (words : List ℕ) → length words ≤ n → All (λ (p : Proto). length p.code ≤ n) (protos_of rs words)
unfolding protos_of proto_of
words_most n [] words h = all_nil
words_most n (r ∷ rs) words h =
    all_cons {x = proto_of r rs words} (omega (arith, length-take r.words words)) (words_most n rs (drop r.words words) (omega (arith, length-drop r.words words)))

limited_both : (n : ℕ) {ps : List Proto} → All (λ (p : Proto). length p.code ≤ n) ps → All (λ (p : Proto). All (λ k. k ≤ n) p.children) ps → All (Limited n) ps
limited_both n all_nil all_nil = all_nil
limited_both n (all_cons h hs) (all_cons k ks) = all_cons (record { words = h; children = k }) (limited_both n hs ks)

module _ (table words : List ℕ) (kept : ImageKept table words) where
  pub limited : All (Limited (2 ^ 31)) (protos table words)
  unfolding protos
  limited =
      limited_both (2 ^ 31) (words_most (2 ^ 31) (rows table) (u32s words) (omega (arith, length_u32s words, kept.word_limit)))
      (children_most (2 ^ 31) (rows table) (u32s words) (all_imp (λ r h. omega (arith, h.upvalues)) kept.fields))

  pub length_protos : length (protos table words) ≡ length (rows table)
  unfolding protos
  length_protos = length_protos_of (rows table) (u32s words)

  enough : word_total (rows table) ≤ length (u32s words)
  enough = omega (arith, length_u32s words, kept.word_count)

  -- the words of all prototypes are those that the rows state
  pub length_all_roles : length (flat_map roles (protos table words)) ≡ word_total (rows table)
  unfolding protos words_before
  length_all_roles =
      let ps = protos_of (rows table) (u32s words) in
      ap (λ (l : List Proto). length (flat_map roles l)) (sym (take_all (length (rows table)) ps (omega (arith, length_protos_of (rows table) (u32s words)))))
      ∙ words_before_total (rows table) (u32s words) (length (rows table)) enough
      ∙ ap word_total (take-length (rows table))

  -- the word at pc of prototype i: both fields of its record, read from a buffer that the roles were written to
  pub role_in_buffer : (old : List ℕ) (i pc j : ℕ) (p : Proto) → 8 * word_total (rows table) ≤ length old → i < length (rows table) → pc < length (get_or (protos table words) i p).code → j < 2
      → u32_from (overwrite old 0 (records_of (flat_map roles (protos table words)))) (8 * (word_total (take i (rows table)) + pc) + 4 * j)
      ≡ i32_bits (get_or (role_fields (role_at (get_or (protos table words) i p) pc)) j (pos 0))
  unfolding protos
  role_in_buffer old i pc j p fits h l m =
      let ps = protos_of (rows table) (u32s words) in
      let k = words_before ps i + pc in
      let there : i < length ps = omega (arith, length_protos_of (rows table) (u32s words)) in
      let first : word_total (take i (rows table)) ≡ words_before ps i = sym (words_before_total (rows table) (u32s words) i enough) in
      ap (λ (n : ℕ). u32_from (overwrite old 0 (records_of (flat_map roles ps))) (8 * (n + pc) + 4 * j)) first
      ∙ role_field ps old k j (records_small ps limited) (index_below ps i pc p there l) m (omega (arith, length_all_roles))
      ∙ ap (λ (r : Role). i32_bits (get_or (role_fields r) j (pos 0))) (role_at_index ps i pc p there l)

  -- the last word of prototype i is one of them
  pub last_below : (i : ℕ) (p : Proto) → i < length (protos table words) → (pc : ℕ) → pc < length (get_or (protos table words) i p).code → word_total (take i (rows table)) + pc < word_total (rows table)
  unfolding protos
  last_below i p there pc l = omega (arith, words_before_total (rows table) (u32s words) i enough, index_below (protos_of (rows table) (u32s words)) i pc p there l, length_all_roles)
