-- Pairs that are added one after another.
use Rattle.std.proofs.Common.{◌≡◌, ℕ, ◌+◌, ◌≤◌, Bool, true, false, is_none, nat_le, List, [], ◌∷◌, ◌++◌, length, take, drop, refl, ap, sym, ◌∙◌, ⊎_elim, subst, arith, Contains, Some, None}
use Rattle.std.specs.Prelude.{if◌then◌else◌}
use Rattle.std.proofs.lemmas.Bool.Decides.{nat_tests}
use Rattle.std.proofs.lemmas.List.{append-nil}
use Rattle.std.proofs.lemmas.List.Elements.{Contains-append_left, Contains-append_right, Contains-append_cases}
use Rattle.kit_bytes.specs.Subscriptions.{Pair, Subscription, normal_form, pairs_of}
use Rattle.kit_bytes.proofs.Members.{Contains-nil, Contains-filter, Contains-filter_from, Contains-filter_passes}
use Rattle.mbim_services.specs.EventLists.{IsEventAt, pairs_in}
use Rattle.subscribe_lists.proofs.Unread.{HasUnread}
use Rattle.subscriptions.specs.Lists.{IsNormal, fits, pushed}
use Rattle.subscriptions.proofs.NormalForms.{IsFree, covers_itself, normal_again, normal_from, normal_free, normal_has}
use Rattle.subscriptions.proofs.Covering.{AreCovered, covered_within, same_form, form_covers, form_joined, form_shorter, form_swapped}
use Rattle.subscribe_lists.specs.ClientLists.{services, singles}
use Rattle.mbim_services.proofs.Ranges.{single, single-in, pair-in}
use Rattle.subscribe_lists.proofs.Events.{covered_more, pair_cases, services_next, single_cases, singles_single, pairs_next}

-- some of the pairs were added to the list, and these are left
pub record Adds (pairs list left : List Pair) : Type 0 where
  pub form : normal_form (list ++ left) ≡ normal_form pairs
  pub within : (q : Pair) → Contains list q → Contains pairs q
  pub left_within : (q : Pair) → Contains left q → Contains pairs q
  -- the list knows which of the pairs stand beside all CIDs of their service
  pub alone : (q : Pair) → Contains pairs q → IsFree list q → IsFree pairs q
  pub normal : IsNormal list

-- a pair that stands for all CIDs stands beside none
all_free : (pairs : List Pair) (uuid : List ℕ) → IsFree pairs (uuid, None)
all_free pairs uuid single all = let clash : true ≡ false = single in absurd (cc)

module _ {pairs list : List Pair} (front left : List Pair) (adds : Adds pairs list (front ++ left)) where
  moved : (q : Pair) → Contains ((front ++ list) ++ left) q → Contains (list ++ (front ++ left)) q
  moved q at =
      ⊎_elim
      (λ (both : Contains (front ++ list) q).
      ⊎_elim
      (λ (new : Contains front q). Contains-append_right list (front ++ left) q (Contains-append_left front left q new))
      (λ (old : Contains list q). Contains-append_left list (front ++ left) q old)
      (Contains-append_cases front list q both))
      (λ (behind : Contains left q). Contains-append_right list (front ++ left) q (Contains-append_right front left q behind))
      (Contains-append_cases (front ++ list) left q at)

  moved_back : (q : Pair) → Contains (list ++ (front ++ left)) q → Contains ((front ++ list) ++ left) q
  moved_back q at =
      ⊎_elim
      (λ (old : Contains list q). Contains-append_left (front ++ list) left q (Contains-append_right front list q old))
      (λ (rest : Contains (front ++ left) q).
      ⊎_elim
      (λ (new : Contains front q). Contains-append_left (front ++ list) left q (Contains-append_left front list q new))
      (λ (behind : Contains left q). Contains-append_right (front ++ list) left q behind)
      (Contains-append_cases front left q rest))
      (Contains-append_cases list (front ++ left) q at)

  both_within : (q : Pair) → Contains (front ++ list) q → Contains pairs q
  both_within q at =
      ⊎_elim
      (λ (new : Contains front q). adds.left_within q (Contains-append_left front left q new))
      (λ (old : Contains list q). adds.within q old)
      (Contains-append_cases front list q at)

  pub adds_front : Adds pairs (normal_form (front ++ list)) left
  adds_front = record {
    form =
        form_joined (front ++ list) left
        ∙ same_form ((front ++ list) ++ left) (list ++ (front ++ left)) (covered_within ((front ++ list) ++ left) (list ++ (front ++ left)) moved) (covered_within (list ++ (front ++ left)) ((front ++ list) ++ left) moved_back)
        ∙ adds.form;
    within = λ q at. both_within q (normal_from (front ++ list) q at);
    left_within = λ q at. adds.left_within q (Contains-append_right front left q at);
    alone = λ q at free. adds.alone q at (λ single all. free single (normal_has (front ++ list) (q.0, None) (Contains-append_right front list (q.0, None) all) (all_free (front ++ list) q.0)));
    normal = normal_again (front ++ list);
  }

  -- the list doesn't become longer than it is at the end
  pub adds_shorter : length (normal_form (front ++ list)) ≤ length (normal_form pairs)
  adds_shorter = form_shorter (front ++ list) pairs (λ q at.
      let there : Contains pairs q = both_within q (normal_from (front ++ list) q at) in
      let free : IsFree list q = λ single all. normal_free (front ++ list) q at single (Contains-append_right front list (q.0, None) all) in
      normal_has pairs q there (adds.alone q there free))

pub adds_nothing : {pairs list : List Pair} → Adds pairs list [] → list ≡ normal_form pairs
adds_nothing {list = list} adds = sym adds.normal ∙ ap normal_form (sym (append-nil list)) ∙ adds.form

pub adds_pair : {pairs list new : List Pair} (p : Pair) {left coming : List Pair} → Adds pairs list coming → coming ≡ p ∷ left → new ≡ normal_form (p ∷ list) → Adds pairs new left
adds_pair {pairs} {list} {new} p {left} adds are new_is =
    let before : Adds pairs list (p ∷ left) = subst (λ (l : List Pair). Adds pairs list l) are adds in
    subst (λ (l : List Pair). Adds pairs l left) (sym new_is) (adds_front (p ∷ []) left before)

pub pair_shorter : {pairs list : List Pair} (p : Pair) {left coming : List Pair} → Adds pairs list coming → coming ≡ p ∷ left → length (normal_form (p ∷ list)) ≤ length (normal_form pairs)
pair_shorter {pairs} {list} p {left} adds are = adds_shorter (p ∷ []) left (subst (λ (l : List Pair). Adds pairs list l) are adds)

-- ---- all CIDs of services ----

module _ (pairs : List Pair) where
  is_all : (q : Pair) → Contains (services pairs) q → is_none q.1 ≡ true
  is_all q at = Contains-filter_passes (λ (p : Pair). is_none p.1) pairs q at

  is_there : (q : Pair) → Contains (services pairs) q → Contains pairs q
  is_there q at = Contains-filter_from (λ (p : Pair). is_none p.1) pairs q at

  service_free : (others : List Pair) (q : Pair) → Contains (services pairs) q → IsFree others q
  service_free others q at single all = let clash : true ≡ false = sym (is_all q at) ∙ single in absurd (cc)

  pub adds_no_service : Adds (services pairs) [] (services pairs)
  adds_no_service = record {
    form = refl;
    within = λ q at. absurd (Contains-nil q at);
    left_within = λ q at. at;
    alone = λ q at free. service_free (services pairs) q at;
    normal = refl;
  }

  pub services_shorter : length (normal_form (services pairs)) ≤ length (normal_form pairs)
  services_shorter = form_shorter (services pairs) pairs (λ q at.
      let service : Contains (services pairs) q = normal_from (services pairs) q at in
      normal_has pairs q (is_there q service) (service_free pairs q service))

  adds_services : Adds pairs (normal_form (services pairs)) pairs
  adds_services = record {
    form =
        form_joined (services pairs) pairs
        ∙ same_form (services pairs ++ pairs) pairs
        (covered_within (services pairs ++ pairs) pairs
        (λ q at. ⊎_elim (λ (service : Contains (services pairs) q). is_there q service) (λ (there : Contains pairs q). there) (Contains-append_cases (services pairs) pairs q at)))
        (covered_within pairs (services pairs ++ pairs) (λ q at. Contains-append_right (services pairs) pairs q at));
    within = λ q at. is_there q (normal_from (services pairs) q at);
    left_within = λ q at. at;
    alone = λ q at free single all.
        free single (normal_has (services pairs) (q.0, None) (Contains-filter (λ (p : Pair). is_none p.1) pairs (q.0, None) all refl) (all_free (services pairs) q.0));
    normal = normal_again (services pairs);
  }

  pub adds_from_services : (list : List Pair) → list ≡ normal_form (services pairs) → Adds pairs list pairs
  adds_from_services list is = subst (λ (l : List Pair). Adds pairs l pairs) (sym is) adds_services

-- those of one event more
pub adds_service : {list new : List Pair} (events : List Subscription) (place : ℕ) (uuid cids : List ℕ) → Adds (services (pairs_in events)) list (services (pairs_in (drop place events))) → IsEventAt events place uuid cids
    → new ≡ normal_form (services (pairs_of uuid cids) ++ list) → Adds (services (pairs_in events)) new (services (pairs_in (drop (place + 1) events)))
adds_service {list} {new} events place uuid cids adds there new_is =
    let left : List Pair = services (pairs_in (drop (place + 1) events)) in
    subst (λ (l : List Pair). Adds (services (pairs_in events)) l left) (sym new_is) (adds_front (services (pairs_of uuid cids)) left (subst (λ (l : List Pair). Adds (services (pairs_in events)) list l) (services_next events place uuid cids there) adds))

pub service_shorter : {list : List Pair} (events : List Subscription) (place : ℕ) (uuid cids : List ℕ) → Adds (services (pairs_in events)) list (services (pairs_in (drop place events))) → IsEventAt events place uuid cids
    → length (normal_form (services (pairs_of uuid cids) ++ list)) ≤ length (normal_form (services (pairs_in events)))
service_shorter {list} events place uuid cids adds there =
    adds_shorter (services (pairs_of uuid cids)) (services (pairs_in (drop (place + 1) events))) (subst (λ (l : List Pair). Adds (services (pairs_in events)) list l) (services_next events place uuid cids there) adds)

-- ---- single CIDs ----

pub adds_no_cid : (uuid cids : List ℕ) (list : List Pair) → IsNormal list → Adds (singles uuid cids ++ list) list (singles uuid cids)
adds_no_cid uuid cids list normal = record {
  form = form_swapped list (singles uuid cids);
  within = λ q at. Contains-append_right (singles uuid cids) list q at;
  left_within = λ q at. Contains-append_left (singles uuid cids) list q at;
  alone = λ q at free single all.
      ⊎_elim
      (λ (new : Contains (singles uuid cids) (q.0, None)). singles_single uuid cids (q.0, None) new refl)
      (λ (old : Contains list (q.0, None)). free single old)
      (Contains-append_cases (singles uuid cids) list (q.0, None) all);
  normal = normal;
}

pub adds_cid : {pairs list new : List Pair} (uuid : List ℕ) (cid : ℕ) {left cids : List ℕ} → Adds pairs list (singles uuid cids) → cids ≡ cid ∷ left → new ≡ normal_form ((uuid, Some cid) ∷ list) → Adds pairs new (singles uuid left)
adds_cid uuid cid adds are new_is = adds_pair (uuid, Some cid) adds (ap (singles uuid) are) new_is

pub cid_shorter : {pairs list : List Pair} (uuid : List ℕ) (cid : ℕ) {left cids : List ℕ} → Adds pairs list (singles uuid cids) → cids ≡ cid ∷ left → length (normal_form ((uuid, Some cid) ∷ list)) ≤ length (normal_form pairs)
cid_shorter uuid cid adds are = pair_shorter (uuid, Some cid) adds (ap (singles uuid) are)

-- ---- all pairs ----

-- of the pairs that are left, those in front are passed over where the list or others of them stand for them
module _ {pairs list : List Pair} (front part left : List Pair) (adds : Adds pairs list (front ++ left)) (within : (q : Pair) → Contains part q → Contains front q) (covered : AreCovered front (part ++ list)) where
  covered_here : AreCovered (list ++ (front ++ left)) (list ++ (part ++ left))
  covered_here q at =
      ⊎_elim
      (λ (old : Contains list q). (q, Contains-append_left list (part ++ left) q old, covers_itself q))
      (λ (coming : Contains (front ++ left) q).
      ⊎_elim
      (λ (first : Contains front q). let some = covered q first in (some.0, moved_part some.0 some.1, some.2))
      (λ (behind : Contains left q). (q, Contains-append_right list (part ++ left) q (Contains-append_right part left q behind), covers_itself q))
      (Contains-append_cases front left q coming))
      (Contains-append_cases list (front ++ left) q at)
    where
      moved_part : (r : Pair) → Contains (part ++ list) r → Contains (list ++ (part ++ left)) r
      moved_part r there =
          ⊎_elim
          (λ (new : Contains part r). Contains-append_right list (part ++ left) r (Contains-append_left part left r new))
          (λ (old : Contains list r). Contains-append_left list (part ++ left) r old)
          (Contains-append_cases part list r there)

  part_within : (q : Pair) → Contains (part ++ left) q → Contains (front ++ left) q
  part_within q at =
      ⊎_elim
      (λ (new : Contains part q). Contains-append_left front left q (within q new))
      (λ (behind : Contains left q). Contains-append_right front left q behind)
      (Contains-append_cases part left q at)

  still_here : (q : Pair) → Contains (list ++ (part ++ left)) q → Contains (list ++ (front ++ left)) q
  still_here q at =
      ⊎_elim
      (λ (old : Contains list q). Contains-append_left list (front ++ left) q old)
      (λ (coming : Contains (part ++ left) q). Contains-append_right list (front ++ left) q (part_within q coming))
      (Contains-append_cases list (part ++ left) q at)

  adds_part : Adds pairs list (part ++ left)
  adds_part = record {
    form = same_form (list ++ (part ++ left)) (list ++ (front ++ left)) (covered_within (list ++ (part ++ left)) (list ++ (front ++ left)) still_here) covered_here ∙ adds.form;
    within = adds.within;
    left_within = λ q at. adds.left_within q (part_within q at);
    alone = adds.alone;
    normal = adds.normal;
  }

-- the events in front of a place were read: the list stands for their pairs, and for each service that is subscribed to whole
pub record Reads (events : List Subscription) (place : ℕ) (list : List Pair) : Type 0 where
  pub adds : Adds (pairs_in events) list (pairs_in (drop place events))
  pub whole : AreCovered (services (pairs_in events)) list
  pub known : AreCovered (pairs_in (take place events)) list

pub reads_nothing : (events : List Subscription) (list : List Pair) → list ≡ normal_form (services (pairs_in events)) → Reads events 0 list
reads_nothing events list is = record {
  adds = adds_from_services (pairs_in events) list is;
  whole = subst (λ (l : List Pair). AreCovered (services (pairs_in events)) l) (sym is) (form_covers (services (pairs_in events)));
  known = λ q at. absurd (Contains-nil q at);
}

module _ (events : List Subscription) (place : ℕ) (uuid cids : List ℕ) {list : List Pair} (reads : Reads events place list) (unread : HasUnread events place uuid cids) where
  abbrev event : List Pair
  event = pairs_of uuid unread.all

  abbrev left : List Pair
  left = pairs_in (drop (place + 1) events)

  event_there : (q : Pair) → Contains event q → Contains (pairs_in events) q
  event_there q at = reads.adds.left_within q (subst (λ (l : List Pair). Contains l q) (sym (ap pairs_in unread.there)) (Contains-append_left event left q at))

  event_covered : AreCovered event (singles uuid cids ++ list)
  event_covered q at =
      ⊎_elim
      (λ (all : q ≡ (uuid, None)).
      let some = reads.whole q (Contains-filter (λ (p : Pair). is_none p.1) (pairs_in events) q (event_there q at) (ap (λ (p : Pair). is_none p.1) all)) in
      (some.0, Contains-append_right (singles uuid cids) list some.0 some.1, some.2))
      (λ (one : (cid : ℕ) × Contains unread.all cid × (single uuid cid ≡ q)).
      ⊎_elim
      (λ (new : Contains cids one.0). (q, Contains-append_left (singles uuid cids) list q (subst (λ (p : Pair). Contains (singles uuid cids) p) one.2 (single-in uuid cids one.0 new)), covers_itself q))
      (λ (old : Contains (pairs_in (take place events)) (single uuid one.0)).
      let some = reads.known q (subst (λ (p : Pair). Contains (pairs_in (take place events)) p) one.2 old) in
      (some.0, Contains-append_right (singles uuid cids) list some.0 some.1, some.2))
      (unread.others one.0 one.1))
      (pair_cases uuid unread.all q at)

  unread_within : (q : Pair) → Contains (singles uuid cids) q → Contains event q
  unread_within q at =
      let one = single_cases uuid cids q at in
      subst (λ (p : Pair). Contains event p) one.2 (pair-in uuid unread.all one.0 (unread.within one.0 one.1))

  adds_unread : Adds (pairs_in events) list (singles uuid cids ++ left)
  adds_unread = adds_part event (singles uuid cids) left (subst (λ (l : List Pair). Adds (pairs_in events) list l) (ap pairs_in unread.there) reads.adds) unread_within event_covered

  covered_then : (xs : List Pair) → AreCovered xs (singles uuid cids ++ list) → AreCovered xs (normal_form (singles uuid cids ++ list))
  covered_then xs covered = covered_more xs (singles uuid cids ++ list) (normal_form (singles uuid cids ++ list)) covered (form_covers (singles uuid cids ++ list))

  covered_still : (xs : List Pair) → AreCovered xs list → AreCovered xs (singles uuid cids ++ list)
  covered_still xs covered q at = let some = covered q at in (some.0, Contains-append_right (singles uuid cids) list some.0 some.1, some.2)

  front_is : pairs_in (take (place + 1) events) ≡ pairs_in (take place events) ++ event
  front_is = pairs_next events place uuid unread.all unread.there

  front_covered : AreCovered (pairs_in (take place events) ++ event) (singles uuid cids ++ list)
  front_covered q at =
      ⊎_elim
      (λ (before : Contains (pairs_in (take place events)) q). covered_still (pairs_in (take place events)) reads.known q before)
      (λ (here : Contains event q). event_covered q here)
      (Contains-append_cases (pairs_in (take place events)) event q at)

  pub reads_event : {new : List Pair} → new ≡ normal_form (singles uuid cids ++ list) → Reads events (place + 1) new
  reads_event {new} new_is = subst (λ (l : List Pair). Reads events (place + 1) l) (sym new_is) (record {
    adds = adds_front (singles uuid cids) left adds_unread;
    whole = covered_then (services (pairs_in events)) (covered_still (services (pairs_in events)) reads.whole);
    known = covered_then (pairs_in (take (place + 1) events)) (subst (λ (l : List Pair). AreCovered l (singles uuid cids ++ list)) (sym front_is) front_covered);
  })

  pub event_shorter : length (normal_form (singles uuid cids ++ list)) ≤ length (normal_form (pairs_in events))
  event_shorter = adds_shorter (singles uuid cids) left adds_unread

-- ---- short lists ----

module _ (limit : ℕ) where
  pub long_with : (xs ys : List Pair) → length (normal_form xs) ≤ length (normal_form ys) → false ≡ fits limit xs → false ≡ fits limit ys
  long_with xs ys shorter long = by (length (normal_form xs)) (length (normal_form ys)) shorter long
    where
      by : (m n : ℕ) → m ≤ n → false ≡ nat_le m limit → false ≡ nat_le n limit
      by m n shorter long = grind (arith, nat_tests, shorter, long)

  pub fits_length : (xs : List Pair) {list : List Pair} → true ≡ fits limit xs → list ≡ normal_form xs → length list ≤ limit
  fits_length xs {list} short is =
      let few : length (normal_form xs) ≤ limit = by (length (normal_form xs)) short in
      subst (λ (l : List Pair). length l ≤ limit) (sym is) few
    where
      by : (n : ℕ) → true ≡ nat_le n limit → n ≤ limit
      by n short = grind (arith, nat_tests, short)

  pub length_fits : (xs : List Pair) {list : List Pair} → length list ≤ limit → list ≡ normal_form xs → true ≡ fits limit xs
  length_fits xs {list} few is = by (length (normal_form xs)) (subst (λ (l : List Pair). length l ≤ limit) is few)
    where
      by : (n : ℕ) → n ≤ limit → true ≡ nat_le n limit
      by n few = grind (arith, nat_tests, few)

pub less_room : (xs : List Pair) → false ≡ fits 1920 xs → false ≡ fits 30 xs
less_room xs long = by (length (normal_form xs)) long
  where
    by : (n : ℕ) → false ≡ nat_le n 1920 → false ≡ nat_le n 30
    by n long = grind (arith, nat_tests, long)

pub was_pushed : (p : Pair) (list : List Pair) {new : List Pair} → true ≡ fits 1920 (p ∷ list) → new ≡ pushed 1920 p list → new ≡ normal_form (p ∷ list)
was_pushed p list fitting new_is = new_is ∙ ap (λ (b : Bool). if b then normal_form (p ∷ list) else list) (sym fitting)
