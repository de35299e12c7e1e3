-- The numbers in rising order, and the rows that their keys lead to.
use Rattle.std.proofs.Common.{◌≡◌, ◌⊎◌, ⊎_elim, ℕ, zero, suc, ◌+◌, ◌<◌, ◌≤◌, Bool, true, false, ◌||◌, ◌==◌, List, [], ◌∷◌, ◌++◌, length, map, get_or, set, Some, None, is_some, refl, ap, sym, ◌∙◌, subst, arith, length-append, Contains}
use Rattle.std.specs.List.{IsDistinct, insert, remove}
use Rattle.std.specs.List.Sorted.{IsPartitionedBy}
use Rattle.std.proofs.Math.Nat.{eq-or-lt_of_le}
use Rattle.std.proofs.lemmas.Bool.Decides.{nat_tests}
use Rattle.std.proofs.lemmas.Bool.{eqb-true, or_parts}
use Rattle.std.proofs.lemmas.List.{get_or_default, length-map, length-set, get_or-map}
use Rattle.std.proofs.lemmas.List.Edits.{length-insert, length-remove}
use Rattle.kit_bytes.specs.Sorted.{IsInOrder}
use Rattle.kit_bytes.proofs.Lists.{all_weaker, all_map, find_first}
use Rattle.kit_bytes.proofs.Sorted.{partitioned, in_order_at, in_order_insert, in_order_remove, in_order_none}
use Rattle.proxy_history.specs.Connections.{contains}
use Rattle.proxy_history.specs.Requests.{free_from, following}
use Rattle.number_space.specs.declared.space.Row.{Row}
use Rattle.number_space.specs.Chain.{KeyAt, values}
use Rattle.number_space.specs.Table.{numbers, row_of, IsRisingListOf, StandsAt}
use Rattle.number_space.specs.Index.{Numbered, key_of, key_in, AreRising, numbers_of, is_below, IsBelowAt, IsPlaceOf, NumberAt, IsIndexOf, on_row}
use Rattle.number_space.proofs.InUse.{position_at}
use Rattle.number_space.proofs.Walks.{row_read}
use Rattle.number_space.proofs.Beside.{rising_numbers, contained_same}
use Rattle.number_space.proofs.Keyed.{key-insert_other, key-insert_same, key-push_other, key-push_same, key-remove_other, key-remove_same, key-at, key-set, key-map, key-contains, key-none, Found, found}

abbrev Ahead : Numbered → Numbered → Type 0
Ahead a b = a.number < b.number

pub halved : (number : ℕ) (index : List Numbered) → AreRising index → IsPartitionedBy (is_below number) index
halved number index rising = partitioned Ahead (is_below number) (λ a b less below. grind (arith, nat_tests, less, below)) index rising

-- above the last, and not above the first
pub place_end : (number : ℕ) (index : List Numbered) (place end : ℕ) → AreRising index → end ≡ length index → length index ≤ place + 1 → IsBelowAt number index place → IsPlaceOf number index end
place_end number index place end rising all last at = record {
  within = omega arith;
  before = λ k d low high. halved number index rising k place d (omega arith) at.within (at.below d);
  behind = λ k d low high. absurd (omega arith);
}

pub place_start : (number : ℕ) (index : List Numbered) → AreRising index → (IsBelowAt number index 0 → ⊥) → IsPlaceOf number index 0
place_start number index rising other = record {
  within = omega arith;
  before = λ k d low high. absurd (omega arith);
  behind = λ k d low high. by k d high (is_below number (get_or index k d)) refl;
}
  where
    by : (k : ℕ) (d : Numbered) → k < length index → (b : Bool) → is_below number (get_or index k d) ≡ b → b ≡ false
    by k d within true below =
        let first : is_below number (get_or index 0 d) ≡ true = halved number index rising 0 k d (omega arith) within below in
        absurd (other (record { within = omega arith; below = λ e. ap (is_below number) (get_or_default index 0 e d (omega arith)) ∙ first }))
    by k d within false below = refl

-- ---- whether a number is there ----

below_other : (number : ℕ) (entry : Numbered) → is_below number entry ≡ true → (number == entry.number) ≡ false
below_other number entry below = grind (arith, nat_tests, below)

contains_none : (number : ℕ) (index : List Numbered) → ((k : ℕ) (d : Numbered) → k < length index → (number == (get_or index k d).number) ≡ false) → contains number (numbers_of index) ≡ false
contains_none number [] other = refl
contains_none number (entry ∷ index) other = rw (other 0 entry (omega arith)) (contains_none number index (λ k d within. other (suc k) d (omega arith)))

none_contained : (number : ℕ) (index : List Numbered) (k : ℕ) (d : Numbered) → contains number (numbers_of index) ≡ false → k < length index → (number == (get_or index k d).number) ≡ false
none_contained number [] k d none within = absurd (omega arith)
none_contained number (entry ∷ index) zero d none within = (or_parts (number == entry.number) (contains number (numbers_of index)) none).0
none_contained number (entry ∷ index) (suc k) d none within = none_contained number index k d (or_parts (number == entry.number) (contains number (numbers_of index)) none).1 (omega arith)

pub there : (number : ℕ) (index : List Numbered) (place : ℕ) → NumberAt number index place → contains number (numbers_of index) ≡ true
there number [] place at = absurd (omega (arith, at.within))
there number (entry ∷ index) zero at = rw (at.named entry) refl
there number (entry ∷ index) (suc place) at = by (number == entry.number) (there number index place (record { within = omega (arith, at.within); named = at.named }))
  where
    by : (b : Bool) → contains number (numbers_of index) ≡ true → (b || contains number (numbers_of index)) ≡ true
    by true later = refl
    by false later = later

pub absent : (number : ℕ) (index : List Numbered) (place : ℕ) → AreRising index → IsPlaceOf number index place → (NumberAt number index place → ⊥) → contains number (numbers_of index) ≡ false
absent number index place rising at other = contains_none number index (λ k d within. ⊎_elim (λ (low : k < place). below_other number (get_or index k d) (at.before k d (omega arith) low)) (λ (high : place ≤ k). rest k d within high) (sides k))
  where
    sides : (k : ℕ) → (k < place) ⊎ (place ≤ k)
    sides k = grind arith

    not_there : (d : Numbered) → place < length index → (number == (get_or index place d).number) ≡ false
    not_there d within = by (number == (get_or index place d).number) refl
      where
        by : (b : Bool) → (number == (get_or index place d).number) ≡ b → b ≡ false
        by true same = absurd (other (record { within = within; named = λ e. ap (λ (n : Numbered). number == n.number) (get_or_default index place e d within) ∙ same }))
        by false same = refl

    above : (d : Numbered) (k : ℕ) → place < k → k < length index → (number == (get_or index k d).number) ≡ false
    above d k high within =
        let first : is_below number (get_or index place d) ≡ false = at.behind place d (omega arith) (omega arith) in
        let less : (get_or index place d).number < (get_or index k d).number = in_order_at Ahead index place k d rising high within in
        grind (arith, nat_tests, first, less)

    rest : (k : ℕ) (d : Numbered) → k < length index → place ≤ k → (number == (get_or index k d).number) ≡ false
    rest k d within high = ⊎_elim (λ (same : place ≡ k). ap (λ (n : ℕ). number == (get_or index n d).number) (sym same) ∙ not_there d (omega arith)) (λ (less : place < k). above d k less within) (eq-or-lt_of_le high)

-- ---- the place of the next number ----

pub next_place : (number next : ℕ) (index : List Numbered) (place : ℕ) → AreRising index → IsPlaceOf number index place → NumberAt number index place → next ≡ number + 1 → IsPlaceOf next index (place + 1)
next_place number next index place rising at is next_is = record {
  within = omega (arith, is.within);
  before = λ k d low high. ⊎_elim (λ (less : k < place). lower (get_or index k d) (at.before k d low less)) (λ (same : k ≡ place). ap (λ (n : ℕ). is_below next (get_or index n d)) same ∙ here (get_or index place d) (is.named d)) (sides k high);
  behind = λ k d low high. let less : (get_or index place d).number < (get_or index k d).number = in_order_at Ahead index place k d rising (omega arith) high in higher (get_or index place d) (get_or index k d) (is.named d) less;
}
  where
    sides : (k : ℕ) → k < place + 1 → (k < place) ⊎ (k ≡ place)
    sides k high = grind arith

    lower : (entry : Numbered) → is_below number entry ≡ true → is_below next entry ≡ true
    lower entry below = grind (arith, nat_tests, below, next_is)

    here : (entry : Numbered) → (number == entry.number) ≡ true → is_below next entry ≡ true
    here entry same = let e : number ≡ entry.number = eqb-true number entry.number same in grind (arith, nat_tests, e, next_is)

    higher : (first entry : Numbered) → (number == first.number) ≡ true → first.number < entry.number → is_below next entry ≡ false
    higher first entry same less = let e : number ≡ first.number = eqb-true number first.number same in grind (arith, nat_tests, e, next_is, less)

pub follows : (top number next : ℕ) → next ≡ following top number → number < next → next ≡ number + 1
follows top number next is less = grind (arith, nat_tests, is, less)

-- ---- rising order ----

pub rising_put : (number key : ℕ) (index : List Numbered) (place : ℕ) → AreRising index → IsPlaceOf number index place → contains number (numbers_of index) ≡ false → AreRising (insert index place (record { number = number; key = key }))
rising_put number key index place rising at none =
    in_order_insert Ahead index place (record { number = number; key = key })
    (λ k d low high. before (get_or index k d) (at.before k d low high))
    (λ k d low high. behind (get_or index k d) (at.behind k d low high) (none_contained number index k d none high)) rising
  where
    before : (entry : Numbered) → is_below number entry ≡ true → entry.number < number
    before entry below = grind (arith, nat_tests, below)

    behind : (entry : Numbered) → is_below number entry ≡ false → (number == entry.number) ≡ false → number < entry.number
    behind entry above other = grind (arith, nat_tests, above, other)

distinct_rising : (index : List Numbered) → AreRising index → IsDistinct (λ m n. m == n) (numbers_of index)
unfolding IsDistinct IsInOrder
distinct_rising [] rising = tt
distinct_rising (entry ∷ index) rising = (
  all_map (λ m. (entry.number == m) ≡ false) (λ e. e.number) index (all_weaker (Ahead entry) (λ e. (entry.number == e.number) ≡ false) (λ e less. apart entry.number e.number less) index rising.0),
  distinct_rising index rising.1,
)
  where
    apart : (m n : ℕ) → m < n → (m == n) ≡ false
    apart m n less = grind (arith, nat_tests, less)

-- ---- the same numbers, the same first free one ----

free_same : (steps top : ℕ) (used other : List ℕ) (number : ℕ) → ((n : ℕ) → contains n used ≡ contains n other) → free_from steps top used number ≡ free_from steps top other number
unfolding free_from
free_same zero top used other number same = refl
free_same (suc steps) top used other number same =
    ap (λ (b : Bool). elim b [ true ↦ free_from steps top used (following top number) | false ↦ number ]) (same number)
    ∙ ap (λ (n : ℕ). elim (contains number other) [ true ↦ n | false ↦ number ]) (free_same steps top used other (following top number) same)

module _ {T : Type 0} where
  numbers_values : (entries : List (ℕ × Row T)) → map (λ (entry : ℕ × Row T). entry.1.number) entries ≡ numbers (values entries)
  numbers_values [] = refl
  numbers_values (entry ∷ entries) = ap (λ (l : List ℕ). entry.1.number ∷ l) (numbers_values entries)

  pub index_none : (index : List Numbered) (entries : List (ℕ × Row T)) → index ≡ [] → entries ≡ [] → IsIndexOf index entries
  index_none index entries none_indexed none = record {
    rising = in_order_none Ahead index none_indexed;
    counted = ap length none_indexed ∙ sym (ap length none);
    keyed = λ number. ap (key_of number) none_indexed ∙ sym (ap (key_in number) none);
  }

  same_numbers : (index : List Numbered) (entries : List (ℕ × Row T)) → IsIndexOf index entries → (number : ℕ) → contains number (numbers_of index) ≡ contains number (numbers (values entries))
  same_numbers index entries of number =
      sym (key-contains (λ e. e.number) (λ e. e.key) number index) ∙ ap is_some (of.keyed number)
      ∙ key-contains (λ (e : ℕ × Row T). e.1.number) (λ e. e.0) number entries ∙ ap (contains number) (numbers_values entries)

  pub listed_index : (index : List Numbered) (entries : List (ℕ × Row T)) → IsIndexOf index entries → IsRisingListOf (Contains (numbers (values entries))) (numbers_of index)
  listed_index index entries of = record { rising = rising_numbers index of.rising; same = contained_same (numbers_of index) (numbers (values entries)) (same_numbers index entries of) }

  same_free : (top number : ℕ) (index : List Numbered) (entries : List (ℕ × Row T)) → IsIndexOf index entries
      → free_from (length index) top (numbers_of index) number ≡ free_from (length (values entries)) top (numbers (values entries)) number
  same_free top number index entries of =
      ap (λ (steps : ℕ). free_from steps top (numbers_of index) number) (of.counted ∙ sym (length-map entries (λ e. e.1)))
      ∙ free_same (length (values entries)) top (numbers_of index) (numbers (values entries)) number (same_numbers index entries of)

  pub free_is : (number top start : ℕ) (index : List Numbered) (entries : List (ℕ × Row T)) → IsIndexOf index entries → number ≡ free_from (length index) top (numbers_of index) start
      → number ≡ free_from (length (values entries)) top (numbers (values entries)) start
  free_is number top start index entries of is = is ∙ same_free top start index entries of

  pub index_put : (index : List Numbered) (entries : List (ℕ × Row T)) (key place : ℕ) (row : Row T) → IsIndexOf index entries → IsPlaceOf row.number index place → contains row.number (numbers (values entries)) ≡ false
      → IsIndexOf (insert index place (record { number = row.number; key = key })) (entries ++ (key, row) ∷ [])
  index_put index entries key place row of at free =
      let none : contains row.number (numbers_of index) ≡ false = same_numbers index entries of row.number ∙ free in
      let new : Numbered = record { number = row.number; key = key } in
      record {
        rising = rising_put row.number key index place of.rising at none;
        counted = omega (arith, of.counted, length-insert index place new at.within, length-append entries ((key, row) ∷ []));
        keyed = λ number. by number none (number == row.number) refl;
      }
    where
      by : (number : ℕ) → contains row.number (numbers_of index) ≡ false → (b : Bool) → (number == row.number) ≡ b
          → key_of number (insert index place (record { number = row.number; key = key })) ≡ key_in number (entries ++ (key, row) ∷ [])
      by number none true same =
          let absent_here : contains number (numbers_of index) ≡ false = ap (λ (n : ℕ). contains n (numbers_of index)) (eqb-true number row.number same) ∙ none in
          let unkeyed : key_of number index ≡ None = key-none (λ e. e.number) (λ e. e.key) number index absent_here in
          key-insert_same (λ e. e.number) (λ e. e.key) number place index (record { number = row.number; key = key }) same unkeyed
          ∙ sym (key-push_same (λ (e : ℕ × Row T). e.1.number) (λ e. e.0) number entries (key, row) same (sym (of.keyed number) ∙ unkeyed))
      by number none false other =
          key-insert_other (λ e. e.number) (λ e. e.key) number place index (record { number = row.number; key = key }) other ∙ of.keyed number
          ∙ sym (key-push_other (λ (e : ℕ × Row T). e.1.number) (λ e. e.0) number entries (key, row) other)

  -- ---- the row of a number that stands in the index ----

  pub record RowAt (number key : ℕ) (entries : List (ℕ × Row T)) : Type 0 where
    pub place : ℕ
    pub there : KeyAt key entries place
    pub stands : StandsAt number (values entries) place

  pub row_at : (index : List Numbered) (entries : List (ℕ × Row T)) (number place key : ℕ) → IsIndexOf index entries → NumberAt number index place → ((d : Numbered) → key ≡ (get_or index place d).key) → RowAt number key entries
  row_at index entries number place key of at is =
      let any : Numbered = record { number = number; key = key } in
      let keyed : key_of number index ≡ Some key =
      key-at (λ e. e.number) (λ e. e.key) number place index any at.within at.named (distinct_rising index of.rising) ∙ ap Some (sym (is any))
      in
      let where_found : Found (λ (e : ℕ × Row T). e.1.number) (λ e. e.0) number key entries = found (λ (e : ℕ × Row T). e.1.number) (λ e. e.0) number key entries (sym (of.keyed number) ∙ keyed) in
      record {
        place = where_found.at;
        there = record { within = where_found.within; named = where_found.keyed };
        stands = record { within = omega (arith, where_found.within, length-map entries (λ e. e.1)); named = stands_named entries where_found.at where_found.within where_found.has };
      }
    where
      stands_named : (entries : List (ℕ × Row T)) (i : ℕ) → i < length entries → ((d : ℕ × Row T) → (number == (get_or entries i d).1.number) ≡ true) → (d : Row T) → (number == (get_or (values entries) i d).number) ≡ true
      stands_named [] i within has d = absurd (omega arith)
      stands_named (e ∷ es) zero within has d = has e
      stands_named (e ∷ es) (suc i) within has d = stands_named es i (omega arith) has d

  pub index_remove : (index : List Numbered) (entries : List (ℕ × Row T)) (number place at : ℕ) → IsIndexOf index entries → IsDistinct (λ m n. m == n) (numbers (values entries)) → NumberAt number index place → StandsAt number (values entries) at
      → IsIndexOf (remove index place) (remove entries at)
  index_remove index entries number place at of distinct is stands =
      let within : at < length entries = omega (arith, stands.within, length-map entries (λ e. e.1)) in
      record {
        rising = in_order_remove Ahead index place of.rising;
        counted = omega (arith, of.counted, length-remove index place is.within, length-remove entries at within);
        keyed = λ n. by n within (n == number) refl;
      }
    where
      row_of_entry : (d : ℕ × Row T) → at < length entries → (number == (get_or entries at d).1.number) ≡ true
      row_of_entry d within = ap (λ (r : Row T). number == r.number) (sym (get_or-map (λ (e : ℕ × Row T). e.1) entries at d d.1 within)) ∙ stands.named d.1

      apart : IsDistinct (λ m n. m == n) (map (λ (e : ℕ × Row T). e.1.number) entries)
      apart = subst (IsDistinct (λ m n. m == n)) (sym (numbers_values entries)) distinct

      same_as : (n m k : ℕ) → (n == m) ≡ true → (m == k) ≡ true → (n == k) ≡ true
      same_as n m k a b = grind (arith, nat_tests, a, b)

      other_than : (n m k : ℕ) → (n == m) ≡ false → (m == k) ≡ true → (n == k) ≡ false
      other_than n m k a b = grind (arith, nat_tests, a, b)

      by : (n : ℕ) → at < length entries → (b : Bool) → (n == number) ≡ b → key_of n (remove index place) ≡ key_in n (remove entries at)
      by n within true same =
          key-remove_same (λ e. e.number) (λ e. e.key) n place index is.within (λ d. same_as n number (get_or index place d).number same (is.named d)) (distinct_rising index of.rising)
          ∙ sym (key-remove_same (λ (e : ℕ × Row T). e.1.number) (λ e. e.0) n at entries within (λ d. same_as n number (get_or entries at d).1.number same (row_of_entry d within)) apart)
      by n within false other =
          key-remove_other (λ e. e.number) (λ e. e.key) n place index is.within (λ d. other_than n number (get_or index place d).number other (is.named d)) ∙ of.keyed n
          ∙ sym (key-remove_other (λ (e : ℕ × Row T). e.1.number) (λ e. e.0) n at entries within (λ d. other_than n number (get_or entries at d).1.number other (row_of_entry d within)))

  pub row_is : (entries : List (ℕ × Row T)) (number key : ℕ) (row : Row T) → IsDistinct (λ m n. m == n) (numbers (values entries)) → (at : RowAt number key entries) → row ≡ (get_or entries at.place (key, row)).1 → row_of number (values entries) ≡ Some row
  row_is entries number key row distinct at is =
      find_first (λ r. number == r.number) (values entries) at.place row (sym (position_at number (values entries) at.place distinct at.stands))
      ∙ ap Some (sym (row_read entries at.place key row at.there is))

  pub row_none : (index : List Numbered) (entries : List (ℕ × Row T)) (number : ℕ) → IsIndexOf index entries → contains number (numbers_of index) ≡ false → row_of number (values entries) ≡ None
  row_none index entries number of none = not_found (values entries) (sym (same_numbers index entries of number) ∙ none)
    where
      not_found : (rows : List (Row T)) → contains number (numbers rows) ≡ false → row_of number rows ≡ None
      not_found [] none = refl
      not_found (row ∷ rows) none = let parts = or_parts (number == row.number) (contains number (numbers rows)) none in rw parts.0 (not_found rows parts.1)

  -- ---- a row that changes keeps its number and its key ----

  pub index_map : (index : List Numbered) (entries : List (ℕ × Row T)) (change : Row T → Row T) → ((r : Row T) → (change r).number ≡ r.number) → IsIndexOf index entries → IsIndexOf index (map (on_row change) entries)
  index_map index entries change keeps of = record {
    rising = of.rising;
    counted = of.counted ∙ sym (length-map entries (on_row change));
    keyed = λ number. of.keyed number ∙ sym (key-map (λ (e : ℕ × Row T). e.1.number) (λ e. e.0) (on_row change) (λ e. keeps e.1) (λ e. refl) number entries);
  }

  pub index_set : (index : List Numbered) (entries : List (ℕ × Row T)) (key place : ℕ) (row old : Row T) → KeyAt key entries place → old ≡ (get_or entries place (key, old)).1 → row.number ≡ old.number → IsIndexOf index entries → IsIndexOf index (set entries place (key, row))
  index_set index entries key place row old at is same of = record {
    rising = of.rising;
    counted = of.counted ∙ sym (length-set entries place (key, row));
    keyed = λ number. of.keyed number ∙ sym (key-set (λ (e : ℕ × Row T). e.1.number) (λ e. e.0) number place entries (key, row)
        (λ d. same ∙ ap (λ (r : Row T). r.number) is ∙ ap (λ (e : ℕ × Row T). e.1.number) (get_or_default entries place (key, old) d at.within)) (λ d. sym (at.named d)));
  }

  -- ---- the rows of the entries ----

  pub values_push : (entries : List (ℕ × Row T)) (key : ℕ) (row : Row T) → values (entries ++ (key, row) ∷ []) ≡ values entries ++ row ∷ []
  values_push [] key row = refl
  values_push (entry ∷ entries) key row = ap (λ (l : List (Row T)). entry.1 ∷ l) (values_push entries key row)

  pub values_remove : (entries : List (ℕ × Row T)) (place : ℕ) → values (remove entries place) ≡ remove (values entries) place
  values_remove [] zero = refl
  values_remove [] (suc place) = refl
  values_remove (entry ∷ entries) zero = refl
  values_remove (entry ∷ entries) (suc place) = ap (λ (l : List (Row T)). entry.1 ∷ l) (values_remove entries place)

  pub values_set : (entries : List (ℕ × Row T)) (place key : ℕ) (row : Row T) → values (set entries place (key, row)) ≡ set (values entries) place row
  values_set [] place key row = refl
  values_set (entry ∷ entries) zero key row = refl
  values_set (entry ∷ entries) (suc place) key row = ap (λ (l : List (Row T)). entry.1 ∷ l) (values_set entries place key row)

  pub values_map : (entries : List (ℕ × Row T)) (change : Row T → Row T) → values (map (on_row change) entries) ≡ map change (values entries)
  values_map [] change = refl
  values_map (entry ∷ entries) change = ap (λ (l : List (Row T)). change entry.1 ∷ l) (values_map entries change)
