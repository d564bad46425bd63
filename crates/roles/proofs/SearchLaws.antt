-- The search for a child over the rows of a table, one at a time, and where it can be resumed. Assumes nothing.
use Rattle.std.proofs.Common.{◌≡◌, ℕ, suc, ◌+◌, ◌-◌, ◌/◌, ◌%◌, ◌^◌, ◌<◌, ◌≤◌, Bool, true, false, eqb, ltb, List, [], length, get_or, drop, set, sym, refl, ap, ◌∙◌, ap₂, add-zero, zero-add, add-one, arith, length-set, get_or-set_other, get_or-set_same, ltb-false, ltb-true, eqb-true}
use mathlib.Core.Option.{Option, none, some}
use borrow.Author.Tests.{eqb-false}
use Rattle.std.specs.declared.option.Option.{Option as Maybe}
use Rattle.std.specs.declared.option.Option.TheVariants as maybe
use Rattle.roles_spec.specs.Table.{Row, row_bytes, field_at, row_at, rows, children, child_at, child_of_row, proto_in}
use Rattle.roles.specs.Terms.{records_between, child_from, found_at, in_index, RoomForChildren, Tracks, records_before, owned_bindings, child_bindings}
use Rattle.roles.specs.declared.table.Child.{Child}
use Rattle.roles.specs.declared.search.Entry.{Entry}
use Rattle.roles.specs.declared.discovery.Companions.TheVariants.{None}
use Rattle.roles_spec.proofs.TableLaws.{element_missing}
use Rattle.roles_spec.proofs.ChildLaws.{element_past_end, too_few, row_end, row_found, row_next, row_deeper, found, child_in, no_upvalues}
use Rattle.roles.proofs.CountLaws.{none_between, between_join, between_one, wrapped}

-- ---- a child as the code has it, with the place of its first binding record

-- a child in row r, whose first binding record has index n
abbrev pub child_at_row : ℕ → ℕ → Maybe Child
child_at_row n r = maybe.Some (record { first = n; row = r })

abbrev pub search : List ℕ → ℕ → ℕ → ℕ → ℕ → Maybe Child
search table at d k first = child_from table at first (child_at d (drop at (rows table)) k)

pub find_few : (table : List ℕ) (at d k first : ℕ) → length table / row_bytes - at ≤ k → maybe.None ≡ search table at d k first
unfolding child_from
find_few table at d k first h = sym (ap (child_from table at first) (too_few table at d k (omega arith)))

pub find_none : (table : List ℕ) (at d k first : ℕ) → length table / row_bytes ≤ at → maybe.None ≡ search table at d k first
find_none table at d k first h = find_few table at d k first (omega arith)

-- from a later row, where the records of the rows between are counted in
from_later : (table : List ℕ) (d i j k first next : ℕ) → i ≤ j → next ≡ (first + records_between table i j) % 2 ^ 32 → search table j d k next ≡ child_from table i first (child_at d (drop j (rows table)) k)
unfolding child_from
from_later table d i j k first next h e = go (child_at d (drop j (rows table)) k) refl
  where
    go : (o : Option Row) → child_at d (drop j (rows table)) k ≡ o → child_from table j next o ≡ child_from table i first o
    go none f = refl
    go (some c) f =
        let v = found (length table / row_bytes) table d j k c (omega arith) f in
        let join = between_join table i j c.row h v.after in
        let same : (next + records_between table j c.row) % 2 ^ 32 ≡ (first + records_between table i c.row) % 2 ^ 32 =
        ap (λ (n : ℕ). (n + records_between table j c.row) % 2 ^ 32) e
        ∙ wrapped (first + records_between table i j) (records_between table j c.row)
        ∙ ap (λ (n : ℕ). n % 2 ^ 32) (omega arith) in
        ap (λ (n : ℕ). child_at_row n c.row) same

module _ (table : List ℕ) (at d k first x : ℕ) (there : at < length table / row_bytes) (depth : x ≡ field_at table at 0) where
  here : (row_at table at).depth ≡ x
  unfolding row_at
  here = sym depth

  pub find_end : x ≤ d → maybe.None ≡ search table at d k first
  unfolding child_from
  find_end h = sym (ap (child_from table at first) (row_end table at d there k (omega (arith, here))))

  pub find_found : first < 2 ^ 32 → x ≡ suc d → k ≡ 0 → child_at_row first at ≡ search table at d k first
  unfolding child_from row_at
  find_found small h e =
      let place : first ≡ (first + records_between table at at) % 2 ^ 32 = omega (arith, none_between table at at (omega arith)) in
      ap (λ (n : ℕ). child_at_row n at) place
      ∙ sym (ap (λ (n : ℕ). search table at d n first) e ∙ ap (child_from table at first) (row_found table at d there (here ∙ h)))

  module _ (u next : ℕ) (own : u ≡ field_at table at 3) (e : next ≡ (first + u) % 2 ^ 32) where
    step : (k : ℕ) → search table (at + 1) d k next ≡ child_from table at first (child_at d (drop (suc at) (rows table)) k)
    step k =
        let one : records_between table at (at + 1) ≡ u = between_one table at there ∙ sym own in
        from_later table d at (at + 1) k first next (omega arith) (e ∙ ap (λ (n : ℕ). (first + n) % 2 ^ 32) (sym one))
        ∙ ap (λ (n : ℕ). child_from table at first (child_at d (drop n (rows table)) k)) (add-one at)

    pub find_next : x ≡ suc d → (k ≡ 0 → ⊥) → search table (at + 1) d (k - 1) next ≡ search table at d k first
    find_next h f =
        let e : k ≡ suc (k - 1) = omega arith in
        step (k - 1)
        ∙ sym (ap (λ (n : ℕ). search table at d n first) e ∙ ap (child_from table at first) (row_next table at d there (k - 1) (here ∙ h)))

    pub find_deeper : suc d < x → search table (at + 1) d k next ≡ search table at d k first
    find_deeper h = step k ∙ sym (ap (child_from table at first) (row_deeper table at d there k (omega (arith, here))))

-- ---- a child that was found is one deeper

one_deeper : (table : List ℕ) (d at k : ℕ) (c : Row) → child_at d (drop at (rows table)) k ≡ some c → (row_at table c.row).depth ≡ suc d
one_deeper table d at k c e =
    let v = found (length table / row_bytes) table d at k c (omega arith) e in
    go (ltb (row_at table c.row).depth (suc d)) (eqb (row_at table c.row).depth (suc d)) refl refl v.there
    (sym (v.resumes 0) ∙ ap (child_at d (drop at (rows table))) (add-zero k) ∙ e)
  where
    go : (less same : Bool) → ltb (row_at table c.row).depth (suc d) ≡ less → eqb (row_at table c.row).depth (suc d) ≡ same → c.row < length table / row_bytes → child_at d (drop c.row (rows table)) 0 ≡ some c → (row_at table c.row).depth ≡ suc d
    go true true l s there e = eqb-true _ _ s
    go false true l s there e = eqb-true _ _ s
    go true false l s there e =
        let gone : child_at d (drop c.row (rows table)) 0 ≡ none = row_end table c.row d there 0 (omega (arith, ltb-true (row_at table c.row).depth (suc d) l)) in
        let z : ◌≡◌ {A = ℕ} 0 1 = cc in
        absurd (omega arith)
    go false false l s there e =
        let deep : suc d < (row_at table c.row).depth = omega (arith, ltb-false (row_at table c.row).depth (suc d) l, eqb-false (row_at table c.row).depth (suc d) s) in
        let later = found (length table / row_bytes) table d (suc c.row) 0 c (omega arith) (sym (row_deeper table c.row d there 0 deep) ∙ e) in
        absurd (omega (arith, later.after))

-- ---- the first child

not_found : (table : List ℕ) (at first : ℕ) (o : Option Row) → maybe.None ≡ child_from table at first o → o ≡ none
unfolding child_from
not_found table at first none e = refl
not_found table at first (some c) e = let z : ◌≡◌ {A = ℕ} 0 1 = cc in absurd (omega arith)

-- a child is told by its row and its first record
same_child : (n r m s : ℕ) → child_at_row n r ≡ child_at_row m s → (r ≡ s) × (n ≡ m)
same_child n r m s e =
    let same : ◌≡◌ {A = Child} (record { first = n; row = r }) (record { first = m; row = s }) = cc in
    (ap (λ (c : Child). c.row) same, ap (λ (c : Child). c.first) same)

-- where there is no first child, there is no child k
pub first_missing : (table : List ℕ) (at d k first : ℕ) → maybe.None ≡ search table at d 0 first → maybe.None ≡ search table at d k first
unfolding child_from child_at
first_missing table at d k first e =
    let all = children d (drop at (rows table)) in
    sym (ap (child_from table at first) (element_past_end all k (omega (arith, element_missing all 0 (not_found table at first (child_at d (drop at (rows table)) 0) e)))))

-- the first child of the rows from `at` on stands in row r, its first binding record at index n, and the search for the others goes on after it
pub record FirstChild (table : List ℕ) (at d first r n : ℕ) : Type 0 where
  pub there : r < length table / row_bytes
  pub after : at ≤ r
  pub next : (k u m : ℕ) → u ≡ field_at table r 3 → m ≡ (n + u) % 2 ^ 32 → (k ≡ 0 → ⊥) → search table (r + 1) d (k - 1) m ≡ search table at d k first

pub first_child : (table : List ℕ) (at d first r n : ℕ) → child_at_row n r ≡ search table at d 0 first → FirstChild table at d first r n
unfolding child_from row_at
first_child table at d first r n e = go (child_at d (drop at (rows table)) 0) refl e
  where
    go : (o : Option Row) → child_at d (drop at (rows table)) 0 ≡ o → child_at_row n r ≡ child_from table at first o → FirstChild table at d first r n
    go none f e = let z : ◌≡◌ {A = ℕ} 0 1 = cc in absurd (omega arith)
    go (some c) f e =
        let same = same_child n r ((first + records_between table at c.row) % 2 ^ 32) c.row e in
        let number : c.row ≡ r = sym same.0 in
        let place : n ≡ (first + records_between table at c.row) % 2 ^ 32 = same.1 in
        let v = found (length table / row_bytes) table d at 0 c (omega arith) f in
        let deep : field_at table r 0 ≡ suc d = ap (λ (i : ℕ). field_at table i 0) (sym number) ∙ one_deeper table d at 0 c f in
        let after : at ≤ r = omega (arith, v.after) in
        record {
          there = omega (arith, v.there);
          after = after;
          next = λ k u m own sum more.
              find_next table r d k n (field_at table r 0) (omega (arith, v.there)) refl u m own sum deep more
              ∙ from_later table d at r k first n after (place ∙ ap (λ (i : ℕ). (first + records_between table at i) % 2 ^ 32) number)
              ∙ ap (child_from table at first) (ap (λ (i : ℕ). child_at d (drop i (rows table)) k) (sym number) ∙ sym (v.resumes k) ∙ ap (child_at d (drop at (rows table))) (zero-add k));
        }

-- ---- a child more in the index

module _ (index : List Entry) (n : ℕ) (e : Entry) (room : n < length index) where
  index_new : in_index (set index n e) n ≡ found_at e
  index_new = ap found_at (get_or-set_same index n e (record { row = 0; first = 0 }) room)

  index_old : (i : ℕ) → i < n → in_index (set index n e) i ≡ in_index index i
  index_old i h = ap found_at (get_or-set_other index n i e (record { row = 0; first = 0 }) (λ e. omega arith))

-- ---- the children of the prototype in a row

module _ (table : List ℕ) (parent : ℕ) where
  abbrev child_of : ℕ → Maybe Child
  child_of k = child_from table (suc parent) 0 (child_of_row table parent k)

  -- child k stands in row r, and `first` binding records stand before its own
  pub record FoundChild (k r first : ℕ) : Type 0 where
    pub there : r < length table / row_bytes
    pub later : parent < r
    pub counts : first ≡ records_between table (suc parent) r % 2 ^ 32
    pub before : first ≡ records_before table parent (child_of_row table parent k)
    pub upvalues : get_or (proto_in table parent []).children k 0 ≡ field_at table r 3
    pub resumes : (j : ℕ) → child_of_row table parent (k + 1 + j) ≡ child_at (row_at table parent).depth (drop (r + 1) (rows table)) j

  pub found_child : (k r first : ℕ) → child_at_row first r ≡ child_of k → FoundChild k r first
  unfolding child_from child_of_row row_at records_before
  found_child k r first e = go (child_of_row table parent k) refl e
    where
      go : (o : Option Row) → child_of_row table parent k ≡ o → child_at_row first r ≡ child_from table (suc parent) 0 o → FoundChild k r first
      go none f e = let z : ◌≡◌ {A = ℕ} 0 1 = cc in absurd (omega arith)
      go (some c) f e =
          let same = same_child first r ((0 + records_between table (suc parent) c.row) % 2 ^ 32) c.row e in
          let number : c.row ≡ r = sym same.0 in
          let place : first ≡ (0 + records_between table (suc parent) c.row) % 2 ^ 32 = same.1 in
          let count : first ≡ records_between table (suc parent) c.row % 2 ^ 32 = place ∙ ap (λ (n : ℕ). n % 2 ^ 32) (zero-add (records_between table (suc parent) c.row)) in
          let d = (row_at table parent).depth in
          let v = found (length table / row_bytes) table d (suc parent) k c (omega arith) f in
          record {
            there = omega (arith, v.there);
            later = omega (arith, v.after);
            counts = count ∙ ap (λ (n : ℕ). records_between table (suc parent) n % 2 ^ 32) number;
            before = count ∙ sym (ap (records_before table parent) f);
            upvalues = (child_in table parent k r c f number).upvalues;
            resumes = λ j.
                let on : k + 1 + j ≡ k + suc j = omega arith in
                let past : suc c.row ≡ r + 1 = omega arith in
                ap (child_at d (drop (suc parent) (rows table))) on
                ∙ v.resumes (suc j)
                ∙ row_next table c.row d v.there j (one_deeper table d (suc parent) k c f)
                ∙ ap (λ (n : ℕ). child_at d (drop n (rows table)) j) past;
          }

  pub missing : (k : ℕ) → maybe.None ≡ child_of k → child_of_row table parent k ≡ none
  missing k e = not_found table (suc parent) 0 (child_of_row table parent k) e

  pub missing_child : (k : ℕ) → maybe.None ≡ child_of k → None ≡ child_bindings table parent k
  unfolding child_bindings owned_bindings
  missing_child k e = sym (ap (λ (n : ℕ). owned_bindings n (records_before table parent (child_of_row table parent k))) (no_upvalues table parent k (missing k e)))

  -- ---- what is known of them

  module _ (index : List Entry) where
    -- the search begins right after the row
    pub begins : (n : ℕ) → n ≡ length table / row_bytes → RoomForChildren table index → Tracks table parent index 0 (parent + 1) 0 n
    unfolding child_of_row
    begins n e room =
        record {
          room = room;
          within = omega arith;
          few = omega arith;
          indexed = λ i h. absurd (omega arith);
          later = omega arith;
          counts = omega (arith, none_between table (suc parent) (parent + 1) (omega arith));
          resumes = λ k. rw (zero-add, add-one);
          ends = λ k h. too_few table (suc parent) (row_at table parent).depth k (omega arith);
        }

    module _ (known row first end : ℕ) (v : Tracks table parent index known row first end) where
      -- past the end
      pub past_end : (k : ℕ) → end ≤ k → maybe.None ≡ child_of k
      unfolding child_from
      past_end k h = sym (ap (child_from table (suc parent) 0) (v.ends k h))

      -- the next child is the first from that row on
      pub next_child : (d : ℕ) (c : Maybe Child) → d ≡ field_at table parent 0 → c ≡ search table row d 0 first → c ≡ child_of known
      unfolding row_at
      next_child d c e f =
          let place : first ≡ (0 + records_between table (suc parent) row) % 2 ^ 32 = v.counts ∙ ap (λ (n : ℕ). n % 2 ^ 32) (sym (zero-add (records_between table (suc parent) row))) in
          f
          ∙ ap (λ (n : ℕ). search table row n 0 first) e
          ∙ from_later table (row_at table parent).depth (suc parent) row 0 0 first v.later place
          ∙ sym (ap (child_from table (suc parent) 0) (ap (child_of_row table parent) (sym (add-zero known)) ∙ v.resumes 0))

      -- it was missing
      pub missed : maybe.None ≡ child_of known → Tracks table parent index known row first known
      unfolding child_of_row child_at
      missed e =
          let all = children (row_at table parent).depth (drop (suc parent) (rows table)) in
          record {
            room = v.room;
            within = omega arith;
            few = omega (arith, v.within, v.few);
            indexed = v.indexed;
            later = v.later;
            counts = v.counts;
            resumes = v.resumes;
            ends = λ j h. element_past_end all j (omega (arith, element_missing all known (missing known e)));
          }

      -- it was found, and is in the index
      pub met : known < end → (r n x next : ℕ) → child_at_row n r ≡ child_of known → x ≡ field_at table r 3 → next ≡ (n + x) % 2 ^ 32
          → Tracks table parent (set index known (record { row = r; first = n })) (known + 1) (r + 1) next end
      met h r n x next e own sum =
          let f = found_child known r n e in
          let new : Entry = record { row = r; first = n } in
          let room : known < length index = omega (arith, v.few, v.room) in
          record {
            room = omega (arith, v.room, length-set index known new);
            within = omega arith;
            few = v.few;
            indexed = λ i l. go room i (ltb i known) refl l;
            later = omega (arith, f.later);
            counts =
                sum
                ∙ ap₂ (λ (a b : ℕ). (a + b) % 2 ^ 32) f.counts (own ∙ sym (between_one table r f.there))
                ∙ wrapped (records_between table (suc parent) r) (records_between table r (r + 1))
                ∙ ap (λ (n : ℕ). n % 2 ^ 32) (sym (between_join table (suc parent) r (r + 1) f.later (omega arith)));
            resumes = f.resumes;
            ends = v.ends;
          }
        where
          go : known < length index → (i : ℕ) (b : Bool) → ltb i known ≡ b → i < known + 1 → in_index (set index known (record { row = r; first = n })) i ≡ child_of i
          go room i true t l = let k = ltb-true i known t in index_old index known (record { row = r; first = n }) room i k ∙ v.indexed i k
          go room i false t l =
              let same : i ≡ known = omega (arith, ltb-false i known t) in
              ap (in_index (set index known (record { row = r; first = n }))) same ∙ index_new index known (record { row = r; first = n }) room ∙ e ∙ sym (ap child_of same)
