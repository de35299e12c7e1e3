-- Messages are found by their groups in a list that is sorted by them.
use Rattle.std.proofs.Common.{◌≡◌, ℕ, zero, suc, ◌+◌, ◌==◌, ◌<◌, ◌≤◌, Bool, true, false, not, ◌&&◌, ◌||◌, cond, bytes_eq, List, [], ◌∷◌, map, length, take, drop, get_or, filter, Option, Some, None, find, option_and_then, option_map, refl, ap, ap₂, sym, subst, ◌∙◌, arith, Ordering, Less, Equal, Greater, is_eq, is_lt, is_le, nat_cmp, encode_utf8_all, add-zero, length-take, zero-add, ◌++◌}
use Rattle.std.specs.Prelude.{is_some}
use Rattle.std.specs.Bool.{beq}
use Rattle.std.specs.Cmp.{IsTotalOrder, IsStrictWeakOrder, bool_cmp_total, bool_eq_equiv, both_tied, eq_by_cmp_equiv, nat_cmp_total, nat_eq_equiv, on_total, then_total, unsigned_ties}
use Rattle.std.specs.Cmp.Lexicographic.{nat_list_cmp_total, nat_list_eq_equiv, options_total, slice_cmp, texts_ties}
use Rattle.std.specs.List.{AllWithin, enumerate_from, list_any}
use Rattle.std.specs.List.Sorted.{IsNonDecreasingBy, IsPartitionPoint, IsPartitionedBy, IsSortedBy, ties}
use Rattle.std.specs.Option.{option_cmp}
use Rattle.std.specs.Ordering.{bool_cmp, ordering_index, ordering_reverse}
use Rattle.std.proofs.lemmas.Bool.Decides.{nat_tests}
use Rattle.std.proofs.lemmas.List.{get_or-drop, length-drop, take_more}
use Rattle.std.proofs.lemmas.List.Elements.{filter_agree}
use Rattle.std.proofs.lemmas.List.Sorted.{IsNonDecreasingBy-drop, ranks_by, searchable_from_sorted}
use Rattle.sms_pdu.specs.declared.pdu.Pdu.{Pdu}
use Rattle.sms_pdu.specs.declared.pdu.Part.{Part}
use Rattle.sms_pdu.specs.declared.entries.Entry.{Entry}
use Rattle.sms_pdu.specs.Joining.{append_texts, has_group, part_is_at, same_group, same_message, same_parts, text_up_to, whole_text, written}
use Rattle.sms_pdu.specs.Entries.{before, begins_before, group_order, is_of, part_order, pdus_of, placed}
use Rattle.sms_pdu.proofs.Joins.{same_chars}

-- ---- the order ----

part_total : IsTotalOrder part_order
part_total = then_total (then_total (on_total (λ (part : Part). part.reference) nat_cmp_total) (on_total (λ (part : Part). part.wide) bool_cmp_total)) (on_total (λ (part : Part). part.total) nat_cmp_total)

pub group_total : IsTotalOrder group_order
group_total = then_total (on_total (λ (pdu : Pdu). pdu.part) (options_total part_total)) (on_total (λ (pdu : Pdu). encode_utf8_all pdu.address) nat_list_cmp_total)

pub before_is_order : IsStrictWeakOrder before
before_is_order = ranks_by group_total (λ (entry : Entry). entry.pdu.now)

widths_tie : (one other : Bool) → beq one other ≡ is_eq (bool_cmp one other)
widths_tie false false = refl
widths_tie false true = refl
widths_tie true false = refl
widths_tie true true = refl

messages_tie : (one other : Part) → same_message one other ≡ is_eq (part_order one other)
messages_tie one other =
    both_tied (one.reference == other.reference && beq one.wide other.wide) (one.total == other.total) _ (nat_cmp one.total other.total)
    (both_tied (one.reference == other.reference) (beq one.wide other.wide) (nat_cmp one.reference other.reference) _ (unsigned_ties one.reference other.reference) (widths_tie one.wide other.wide))
    (unsigned_ties one.total other.total)

parts_tie : (part other : Option Part) → is_some part ≡ true → same_parts part other ≡ is_eq (option_cmp part_order part other)
parts_tie None other some = absurd (cc)
parts_tie (Some part) None some = refl
parts_tie (Some part) (Some other) some = messages_tie part other

addresses_tie : (one other : List ℕ) → bytes_eq one other ≡ is_eq (slice_cmp nat_cmp (encode_utf8_all one) (encode_utf8_all other))
addresses_tie one other = sym (same_chars one other) ∙ texts_ties (encode_utf8_all one) (encode_utf8_all other)

module _ (pdu : Pdu) (some : is_some pdu.part ≡ true) where
  groups_tie : (other : Pdu) → same_group pdu other ≡ is_eq (group_order pdu other)
  groups_tie other =
      both_tied (same_parts pdu.part other.part) (bytes_eq pdu.address other.address) (option_cmp part_order pdu.part other.part) _ (parts_tie pdu.part other.part some) (addresses_tie pdu.address other.address)

  groups_tie_back : (other : Pdu) → same_group pdu other ≡ is_eq (group_order other pdu)
  groups_tie_back other = groups_tie other ∙ (eq_by_cmp_equiv group_total).symm pdu other

no_group : (pdu other : Pdu) → is_some pdu.part ≡ false → same_group pdu other ≡ false
no_group pdu other none = ap (λ (b : Bool). b && bytes_eq pdu.address other.address) (by pdu.part none)
  where
    by : (part : Option Part) → is_some part ≡ false → same_parts part other.part ≡ false
    by None none = refl
    by (Some part) none = absurd (cc)

-- ---- filters ----

module _ {X : Type 0} (test : X → Bool) where
  filter_none : ((x : X) → test x ≡ false) → (xs : List X) → filter test xs ≡ []
  filter_none none [] = refl
  filter_none none (x ∷ xs) = ap (λ (b : Bool). cond b (x ∷ filter test xs) (filter test xs)) (none x) ∙ filter_none none xs

  -- what stands before the first that passes is left out
  filter_drop : (xs : List X) (start : ℕ) → start ≤ length xs → AllWithin (λ x. test x ≡ false) xs 0 start → filter test xs ≡ filter test (drop start xs)
  filter_drop xs zero within fail = refl
  filter_drop [] (suc start) within fail = absurd (omega (arith, within))
  filter_drop (x ∷ xs) (suc start) within fail =
      ap (λ (b : Bool). cond b (x ∷ filter test xs) (filter test xs)) (fail 0 x (omega arith) (omega arith))
      ∙ filter_drop xs start (omega (arith, within)) (λ k d from to. fail (suc k) d (omega arith) (omega (arith, to)))

  -- a run of those that pass, with none behind it
  filter_take : (xs : List X) (count : ℕ) → count ≤ length xs → AllWithin (λ x. test x ≡ true) xs 0 count → AllWithin (λ x. test x ≡ false) xs count (length xs) → take count xs ≡ filter test xs
  filter_take [] zero within pass fail = refl
  filter_take [] (suc count) within pass fail = absurd (omega (arith, within))
  filter_take (x ∷ xs) zero within pass fail =
      filter_take xs zero (omega arith) (λ k d from to. absurd (omega (arith, to))) (λ k d from to. fail (suc k) d (omega arith) (omega (arith, to)))
      ∙ sym (ap (λ (b : Bool). cond b (x ∷ filter test xs) (filter test xs)) (fail 0 x (omega arith) (omega arith)))
  filter_take (x ∷ xs) (suc count) within pass fail =
      ap (λ (l : List X). x ∷ l) (filter_take xs count (omega (arith, within)) (λ k d from to. pass (suc k) d (omega arith) (omega (arith, to))) (λ k d from to. fail (suc k) d (omega (arith, from)) (omega (arith, to))))
      ∙ sym (ap (λ (b : Bool). cond b (x ∷ filter test xs) (filter test xs)) (pass 0 x (omega arith) (omega arith)))

module _ {X Y : Type 0} (f : X → Y) (test : Y → Bool) where
  map_filter : (xs : List X) → map f (filter (λ x. test (f x)) xs) ≡ filter test (map f xs)
  map_filter [] = refl
  map_filter (x ∷ xs) = by (test (f x)) (map_filter xs)
    where
      by : (b : Bool) → map f (filter (λ x. test (f x)) xs) ≡ filter test (map f xs)
          → map f (cond b (x ∷ filter (λ x. test (f x)) xs) (filter (λ x. test (f x)) xs)) ≡ cond b (f x ∷ filter test (map f xs)) (filter test (map f xs))
      by true rest = ap (λ (l : List Y). f x ∷ l) rest
      by false rest = rest

  pub find_map : (xs : List X) → find test (map f xs) ≡ option_map f (find (λ x. test (f x)) xs)
  find_map [] = refl
  find_map (x ∷ xs) = by (test (f x)) (find_map xs)
    where
      by : (b : Bool) → find test (map f xs) ≡ option_map f (find (λ x. test (f x)) xs) → cond b (Some (f x)) (find test (map f xs)) ≡ option_map f (cond b (Some x) (find (λ x. test (f x)) xs))
      by true rest = refl
      by false rest = rest

-- of those that pass a test, one that passes two is the first of all
module _ {X : Type 0} (test other : X → Bool) where
  find_filter : (xs : List X) → find (λ x. test x && other x) (filter test xs) ≡ find (λ x. test x && other x) xs
  find_filter [] = refl
  find_filter (x ∷ xs) = by (test x) refl (find_filter xs)
    where
      by : (b : Bool) → test x ≡ b → find (λ x. test x && other x) (filter test xs) ≡ find (λ x. test x && other x) xs
          → find (λ x. test x && other x) (cond b (x ∷ filter test xs) (filter test xs)) ≡ cond (b && other x) (Some x) (find (λ x. test x && other x) xs)
      by true is rest = ap (λ (b : Bool). cond (b && other x) (Some x) (find (λ x. test x && other x) (filter test xs))) is ∙ ap (cond (other x) (Some x)) rest
      by false is rest = rest

-- ---- groups in a sorted list ----

no_tie : (one other : Ordering) → other ≡ ordering_reverse one → not (is_lt one) && not (is_lt other) ≡ is_eq one
no_tie Less other is = ap (λ (o : Ordering). not true && not (is_lt o)) is
no_tie Equal other is = ap (λ (o : Ordering). not false && not (is_lt o)) is
no_tie Greater other is = ap (λ (o : Ordering). not false && not (is_lt o)) is

module _ (pdu : Pdu) (old new : List Entry) where
  -- some entry of the message
  abbrev pub entry_of : Entry
  entry_of = record { index = 0; pdu = record { ref_ptr = (0, 0); now = pdu } }

  pub keeps_group : filter (ties before entry_of) new ≡ filter (ties before entry_of) old → filter (is_of pdu) new ≡ filter (is_of pdu) old
  keeps_group same = by (is_some pdu.part) refl
    where
      by : (some : Bool) → is_some pdu.part ≡ some → filter (is_of pdu) new ≡ filter (is_of pdu) old
      by false none = filter_none (is_of pdu) (λ other. no_group pdu other.pdu.now none) new ∙ sym (filter_none (is_of pdu) (λ other. no_group pdu other.pdu.now none) old)
      by true some =
          let tie : (other : Entry) → is_of pdu other ≡ ties before entry_of other =
          λ other. groups_tie pdu some other.pdu.now ∙ sym (no_tie (group_order pdu other.pdu.now) (group_order other.pdu.now pdu) (group_total.antisymm other.pdu.now pdu))
          in
          filter_agree (is_of pdu) (ties before entry_of) tie new ∙ same ∙ sym (filter_agree (is_of pdu) (ties before entry_of) tie old)

-- none of these
pub none_of : (pdu : Pdu) (entries : List Entry) → is_some pdu.part ≡ false → [] ≡ filter (is_of pdu) entries
none_of pdu entries none = sym (filter_none (is_of pdu) (λ entry. no_group pdu entry.pdu.now none) entries)

less_down : (one other : Ordering) → ordering_index one ≤ ordering_index other → is_lt other ≡ true → is_lt one ≡ true
less_down Less other up is = refl
less_down Equal Less up is = absurd (omega (arith, up))
less_down Equal Equal up is = is
less_down Equal Greater up is = is
less_down Greater Less up is = absurd (omega (arith, up))
less_down Greater Equal up is = is
less_down Greater Greater up is = is

not_greater_down : (one other : Ordering) → ordering_index one ≤ ordering_index other → is_le other ≡ true → is_le one ≡ true
not_greater_down Less other up is = refl
not_greater_down Equal other up is = refl
not_greater_down Greater Less up is = absurd (omega (arith, up))
not_greater_down Greater Equal up is = absurd (omega (arith, up))
not_greater_down Greater Greater up is = is

unequal_less : (one : Ordering) → is_lt one ≡ true → is_eq one ≡ false
unequal_less Less is = refl
unequal_less Equal is = refl ∙ sym is
unequal_less Greater is = refl

unequal_greater : (one : Ordering) → is_le one ≡ false → is_eq one ≡ false
unequal_greater Less is = refl
unequal_greater Equal is = is
unequal_greater Greater is = refl

equal_between : (one : Ordering) → is_lt one ≡ false → is_le one ≡ true → is_eq one ≡ true
equal_between Less less more = sym less ∙ refl
equal_between Equal less more = refl
equal_between Greater less more = more

module _ (entries : List Entry) (sorted : IsSortedBy before entries) (pdu : Pdu) where
  -- how an entry stands to the message
  abbrev pub stands : Entry → Ordering
  stands entry = group_order entry.pdu.now pdu

  rises : IsNonDecreasingBy (λ entry. ordering_index (stands entry)) entries
  rises = searchable_from_sorted group_total (λ (entry : Entry). entry.pdu.now) entries pdu sorted

  pub less_first : IsPartitionedBy (λ entry. is_lt (stands entry)) entries
  less_first i j d from to = less_down (stands (get_or entries i d)) (stands (get_or entries j d)) (rises i j d from to)

  module _ (start : ℕ) (behind : List Entry) (is_behind : behind ≡ drop start entries) where
    pub not_greater_first : IsPartitionedBy (λ entry. is_le (stands entry)) behind
    not_greater_first i j d from to =
        let up : IsNonDecreasingBy (λ entry. ordering_index (stands entry)) behind = subst (IsNonDecreasingBy (λ entry. ordering_index (stands entry))) (sym is_behind) (IsNonDecreasingBy-drop (λ entry. ordering_index (stands entry)) start entries rises) in
        not_greater_down (stands (get_or behind i d)) (stands (get_or behind j d)) (up i j d from to)

    module _ (some : is_some pdu.part ≡ true) (within : start ≤ length entries) (less : IsPartitionPoint (λ entry. is_lt (stands entry) ≡ true) (λ entry. is_lt (stands entry) ≡ false) entries start) where
      not_less : (k : ℕ) (d : Entry) → k < length behind → is_lt (stands (get_or behind k d)) ≡ false
      not_less k d to =
          let long : length behind ≡ length (drop start entries) = ap length is_behind in
          let size = length-drop start entries in
          let here : get_or behind k d ≡ get_or entries (start + k) d = ap (λ (l : List Entry). get_or l k d) is_behind ∙ get_or-drop start entries k d in
          ap (λ (entry : Entry). is_lt (stands entry)) here ∙ less.1 (start + k) d (omega arith) (omega (arith, to, long, size, within))

      -- the run between both points is the group
      pub run_is : (count : ℕ) → count ≤ length behind → IsPartitionPoint (λ entry. is_le (stands entry) ≡ true) (λ entry. is_le (stands entry) ≡ false) behind count → take count behind ≡ filter (is_of pdu) entries
      run_is count few most =
          let tie : (entry : Entry) → is_of pdu entry ≡ is_eq (stands entry) = λ entry. groups_tie_back pdu some entry.pdu.now in
          filter_take (is_of pdu) behind count few
          (λ k d from to. tie (get_or behind k d) ∙ equal_between (stands (get_or behind k d)) (not_less k d (omega (arith, to, few))) (most.0 k d from to))
          (λ k d from to. tie (get_or behind k d) ∙ unequal_greater (stands (get_or behind k d)) (most.1 k d from to))
          ∙ ap (filter (is_of pdu)) is_behind
          ∙ sym (filter_drop (is_of pdu) entries start within (λ k d from to. tie (get_or entries k d) ∙ unequal_less (stands (get_or entries k d)) (less.0 k d from to)))

-- ---- what a run tells ----

module _ (test : Pdu → Bool) where
  abbrev kept_from : (from : ℕ) (list : List Pdu) → List (ℕ × Pdu)
  kept_from from list = filter (λ (one : ℕ × Pdu). test one.1) (enumerate_from from list)

  none_before : (index from : ℕ) → index ≤ from → (list : List Pdu) → begins_before index (kept_from from list) ≡ false
  none_before index from le [] = refl
  none_before index from le (pdu ∷ list) = by (test pdu) (none_before index (from + 1) (omega (arith, le)) list)
    where
      by : (b : Bool) → begins_before index (kept_from (from + 1) list) ≡ false → begins_before index (cond b ((from, pdu) ∷ kept_from (from + 1) list) (kept_from (from + 1) list)) ≡ false
      by true rest = grind (arith, nat_tests)
      by false rest = rest

  first_before : (from index last : ℕ) → from + index ≡ last → (list : List Pdu) → begins_before last (kept_from from list) ≡ list_any test (take index list)
  first_before from zero last is list = let le : last ≤ from = omega arith in none_before last from le list
  first_before from (suc index) last is [] = refl
  first_before from (suc index) last is (pdu ∷ list) = by (test pdu) (first_before (from + 1) index last (omega (arith, is)) list)
    where
      by : (b : Bool) → begins_before last (kept_from (from + 1) list) ≡ list_any test (take index list)
          → begins_before last (cond b ((from, pdu) ∷ kept_from (from + 1) list) (kept_from (from + 1) list)) ≡ b || list_any test (take index list)
      by true rest = grind (arith, nat_tests)
      by false rest = rest

  unnumbered : (from : ℕ) (list : List Pdu) → map (λ (one : ℕ × Pdu). one.1) (kept_from from list) ≡ filter test list
  unnumbered from [] = refl
  unnumbered from (pdu ∷ list) = by (test pdu) (unnumbered (from + 1) list)
    where
      by : (b : Bool) → map (λ (one : ℕ × Pdu). one.1) (kept_from (from + 1) list) ≡ filter test list
          → map (λ (one : ℕ × Pdu). one.1) (cond b ((from, pdu) ∷ kept_from (from + 1) list) (kept_from (from + 1) list)) ≡ cond b (pdu ∷ filter test list) (filter test list)
      by true rest = ap (λ (l : List Pdu). pdu ∷ l) rest
      by false rest = rest

pub numbered_more : (list : List Pdu) (index : ℕ) (pdu : Pdu) → index < length list → pdu ≡ get_or list index pdu → (entries : List (ℕ × Pdu)) → entries ≡ enumerate_from 0 (take index list)
    → entries ++ (index, pdu) ∷ [] ≡ enumerate_from 0 (take (index + 1) list)
numbered_more list index pdu within is entries held =
    ap (λ (l : List (ℕ × Pdu)). l ++ (index, pdu) ∷ []) held
    ∙ sym (ap (enumerate_from 0) (take_more list index pdu within ∙ ap (λ (one : Pdu). take index list ++ one ∷ []) (sym is)) ∙ numbered_push 0 (take index list) pdu ∙ ap (λ (n : ℕ). enumerate_from 0 (take index list) ++ (n, pdu) ∷ []) long)
  where
    numbered_push : (from : ℕ) (front : List Pdu) (last : Pdu) → enumerate_from from (front ++ last ∷ []) ≡ enumerate_from from front ++ (from + length front, last) ∷ []
    numbered_push from [] last = ap (λ (n : ℕ). (n, last) ∷ []) (sym (add-zero from))
    numbered_push from (one ∷ front) last =
        let on : from + 1 + length front ≡ from + length (one ∷ front) = omega arith in
        ap (λ (l : List (ℕ × Pdu)). (from, one) ∷ l) (numbered_push (from + 1) front last ∙ ap (λ (n : ℕ). enumerate_from (from + 1) front ++ (n, last) ∷ []) on)

    long : 0 + length (take index list) ≡ index
    long = let size = length-take index list in omega (arith, size, within)

any_agree : (test other : Pdu → Bool) → ((pdu : Pdu) → test pdu ≡ other pdu) → (list : List Pdu) → list_any test list ≡ list_any other list
any_agree test other same [] = refl
any_agree test other same (pdu ∷ list) = ap₂ (λ (a b : Bool). a || b) (same pdu) (any_agree test other same list)

either_way : (pdu other : Pdu) → same_group pdu other ≡ same_group other pdu
either_way pdu other = ap₂ (λ (a b : Bool). a && b) (parts pdu.part other.part) (nat_list_eq_equiv.symm pdu.address other.address)
  where
    parts : (one other : Option Part) → same_parts one other ≡ same_parts other one
    parts None None = refl
    parts None (Some other) = refl
    parts (Some one) None = refl
    parts (Some one) (Some other) =
        ap₂ (λ (a b : Bool). a && b) (ap₂ (λ (a b : Bool). a && b) (nat_eq_equiv.symm one.reference other.reference) (bool_eq_equiv.symm one.wide other.wide)) (nat_eq_equiv.symm one.total other.total)

pdus_placed : (entries : List Entry) → pdus_of entries ≡ map (λ (one : ℕ × Pdu). one.1) (map placed entries)
pdus_placed [] = refl
pdus_placed (entry ∷ entries) = ap (λ (l : List Pdu). entry.pdu.now ∷ l) (pdus_placed entries)

text_up_to-group : (list : List Pdu) (pdu : Pdu) (place : ℕ) → text_up_to (filter (same_group pdu) list) pdu place ≡ text_up_to list pdu place
text_up_to-group list pdu zero = refl
text_up_to-group list pdu (suc place) =
    ap₂ append_texts (text_up_to-group list pdu place) (ap (option_and_then (λ (other : Pdu). written other.body)) (find_filter (same_group pdu) (λ (other : Pdu). part_is_at (suc place) other.part) list))

module _ (list : List Pdu) (pdu : Pdu) where
  whole_text-group : whole_text (filter (same_group pdu) list) pdu ≡ whole_text list pdu
  whole_text-group = by pdu.part refl
    where
      by : (part : Option Part) → pdu.part ≡ part → whole_text (filter (same_group pdu) list) pdu ≡ whole_text list pdu
      by None is = rw is refl
      by (Some part) is = rw is (text_up_to-group list (record pdu { part = Some part }) part.total)

  module _ (entries run : List Entry) (numbered : map placed entries ≡ enumerate_from 0 list) (is_run : run ≡ filter (is_of pdu) entries) where
    run_placed : map placed run ≡ kept_from (same_group pdu) 0 list
    run_placed = ap (map placed) is_run ∙ map_filter placed (λ (one : ℕ × Pdu). same_group pdu one.1) entries ∙ ap (filter (λ (one : ℕ × Pdu). same_group pdu one.1)) numbered

    pub run_begins : (index : ℕ) → begins_before index (map placed run) ≡ has_group (take index list) pdu
    run_begins index =
        ap (begins_before index) run_placed ∙ first_before (same_group pdu) 0 index index (zero-add index) list ∙ any_agree (same_group pdu) (λ (other : Pdu). same_group other pdu) (either_way pdu) (take index list)

    pub run_text : whole_text (pdus_of run) pdu ≡ whole_text list pdu
    run_text = ap (λ (l : List Pdu). whole_text l pdu) (pdus_placed run ∙ ap (map (λ (one : ℕ × Pdu). one.1)) run_placed ∙ unnumbered (same_group pdu) 0 list) ∙ whole_text-group
