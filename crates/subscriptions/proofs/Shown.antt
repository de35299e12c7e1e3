-- The merge is of the lists of those who are there and shown.
use Rattle.std.proofs.Common.{◌≡◌, ◌↔◌, ℕ, Bool, true, false, cond, not, ◌||◌, ◌==◌, List, [], ◌∷◌, map, filter, refl, ap, sym, ◌∙◌, subst, arith, Some}
use Rattle.std.specs.List.{AllByRecursion, list_any}
use Rattle.std.proofs.lemmas.Bool.{not-true, or_right}
use Rattle.std.proofs.lemmas.Bool.Decides.{nat_tests}
use Rattle.kit_bytes.specs.Sorted.{IsInOrder}
use Rattle.kit_bytes.specs.Subscriptions.{Pair}
use Rattle.kit_bytes.specs.Indications.{wants}
use Rattle.kit_bytes.proofs.Lists.{all_from, all_passing}
use Rattle.kit_bytes.proofs.Sorted.{in_order_filter, in_order_push}
use Rattle.subscriptions.specs.Clients.{Client, is_of, client_in, newcomer, joins, leaves, changed, with_shown, with_list, is_too_long, shown_lists, merged}
use Rattle.subscriptions.specs.Calls.{Call, Joins, Leaves, Shows, Sets, clients_after, is_there, is_shown, last_list, client_of, client_if}
use Rattle.subscriptions.proofs.Wanting.{merge_wants}
use Rattle.subscriptions.proofs.Calls.{client_is}

-- ---- each connection once ----

abbrev IsOther : Client → Client → Type 0
IsOther client other = (other.conn == client.conn) ≡ false

abbrev AreOnce : List Client → Type 0
AreOnce clients = IsInOrder IsOther clients

left_apart : (conn : ℕ) (client : Client) → not (conn == client.conn) ≡ true → Unit {0} → (conn == client.conn) ≡ false
left_apart conn client stays any = not-true (conn == client.conn) stays

once_joined : (conn : ℕ) (xs : List Client) → AreOnce xs → AreOnce (joins conn xs)
once_joined conn xs once =
    in_order_push IsOther (leaves conn xs) (newcomer conn)
    (all_passing (λ client. not (is_of conn client)) (λ client. Unit {0}) (λ client. (conn == client.conn) ≡ false) (left_apart conn) xs (all_from (λ client. Unit {0}) xs (λ k d within. tt)))
    (in_order_filter IsOther (λ client. not (is_of conn client)) xs once)

module _ (conn : ℕ) (change : Client → Client) (same : (c : Client) → (change c).conn ≡ c.conn) where
  all_changed : (P : Client → Type 0) → ((c : Client) → P c → P (change c)) → (xs : List Client) → AllByRecursion P xs → AllByRecursion P (changed conn change xs)
  unfolding changed
  all_changed P keeps [] all = tt
  all_changed P keeps (x ∷ xs) all = by (is_of conn x) (all_changed P keeps xs all.1)
    where
      by : (b : Bool) → AllByRecursion P (changed conn change xs) → AllByRecursion P (cond b (change x ∷ xs) (x ∷ changed conn change xs))
      by true others = (keeps x all.0, all.1)
      by false others = (all.0, others)

  once_changed : (xs : List Client) → AreOnce xs → AreOnce (changed conn change xs)
  unfolding changed IsInOrder
  once_changed [] once = tt
  once_changed (x ∷ xs) once = by (is_of conn x) (once_changed xs once.1)
    where
      by : (b : Bool) → AreOnce (changed conn change xs) → AreOnce (cond b (change x ∷ xs) (x ∷ changed conn change xs))
      by true others = (subst (λ (n : ℕ). AllByRecursion (λ y. (y.conn == n) ≡ false) xs) (sym (same x)) once.0, once.1)
      by false others = (all_changed (λ y. (y.conn == x.conn) ≡ false) (λ y apart. ap (λ (n : ℕ). n == x.conn) (same y) ∙ apart) xs once.0, others)

once_after : (calls : List Call) → AreOnce (clients_after calls)
unfolding IsInOrder
once_after [] = tt
once_after (Joins conn ∷ past) = once_joined conn (clients_after past) (once_after past)
once_after (Leaves conn ∷ past) = in_order_filter IsOther (λ client. not (is_of conn client)) (clients_after past) (once_after past)
once_after (Shows conn shown ∷ past) = once_changed conn (with_shown shown) (λ c. refl) (clients_after past) (once_after past)
once_after (Sets conn list ∷ past) = by (is_too_long list) (once_after past)
  where
    by : (b : Bool) → AreOnce (clients_after past) → AreOnce (cond b (clients_after past) (changed conn (with_list list) (clients_after past)))
    by true once = once
    by false once = once_changed conn (with_list list) (λ c. refl) (clients_after past) once

-- ---- the shown clients that want an indication ----

module _ (q : List Pair → Bool) where
  abbrev IsFound : List Client → Type 0
  IsFound clients = (client : Client) × (client_in client.conn clients ≡ Some client) × (client.shown ≡ true) × (q client.list ≡ true)

  itself : (x : Client) (xs : List Client) → client_in x.conn (x ∷ xs) ≡ Some x
  itself x xs = let same : (x.conn == x.conn) ≡ true = grind (arith, nat_tests) in ap (λ (b : Bool). cond b (Some x) (client_in x.conn xs)) same

  found_in : (conn : ℕ) (xs : List Client) (client : Client) (P : Client → Type 0) → AllByRecursion P xs → client_in conn xs ≡ Some client → P client
  found_in conn [] client P all e = absurd (cc)
  found_in conn (x ∷ xs) client P all e = by (is_of conn x) e (λ there. found_in conn xs client P all.1 there)
    where
      by : (b : Bool) → cond b (Some x) (client_in conn xs) ≡ Some client → (client_in conn xs ≡ Some client → P client) → P client
      by true e others = let is : x ≡ client = cc in subst P is all.0
      by false e others = others e

  found_behind : (x : Client) (xs : List Client) → AreOnce (x ∷ xs) → IsFound xs → IsFound (x ∷ xs)
  unfolding IsInOrder
  found_behind x xs once found =
      let apart : (found.0.conn == x.conn) ≡ false = found_in found.0.conn xs found.0 (λ y. (y.conn == x.conn) ≡ false) once.0 found.1 in
      (found.0, ap (λ (b : Bool). cond b (Some x) (client_in found.0.conn xs)) apart ∙ found.1, found.2, found.3)

  some_found : (clients : List Client) → AreOnce clients → list_any q (shown_lists clients) ≡ true → IsFound clients
  unfolding IsInOrder
  some_found [] once e = absurd (cc)
  some_found (x ∷ xs) once e = by x.shown refl (q x.list) refl e (λ there. found_behind x xs once (some_found xs once.1 there))
    where
      by : (shown : Bool) → x.shown ≡ shown → (asks : Bool) → q x.list ≡ asks → list_any q (map (λ client. client.list) (cond shown (x ∷ filter (λ client. client.shown) xs) (filter (λ client. client.shown) xs))) ≡ true → (list_any q (shown_lists xs) ≡ true → IsFound (x ∷ xs)) → IsFound (x ∷ xs)
      by true shown true asks e others = (x, itself x xs, shown, asks)
      by true shown false asks e others = others (ap (λ (b : Bool). b || list_any q (shown_lists xs)) (sym asks) ∙ e)
      by false hidden asks is e others = others e

  found_some : (clients : List Client) (conn : ℕ) (client : Client) → client_in conn clients ≡ Some client → client.shown ≡ true → q client.list ≡ true → list_any q (shown_lists clients) ≡ true
  found_some [] conn client e shown asks = absurd (cc)
  found_some (x ∷ xs) conn client e shown asks = by (is_of conn x) e (λ there. found_some xs conn client there shown asks)
    where
      behind : (b : Bool) → list_any q (shown_lists xs) ≡ true → list_any q (map (λ c. c.list) (cond b (x ∷ filter (λ c. c.shown) xs) (filter (λ c. c.shown) xs))) ≡ true
      behind true e = or_right (q x.list) (list_any q (shown_lists xs)) e
      behind false e = e

      by : (b : Bool) → cond b (Some x) (client_in conn xs) ≡ Some client → (client_in conn xs ≡ Some client → list_any q (shown_lists xs) ≡ true) → list_any q (shown_lists (x ∷ xs)) ≡ true
      by true e others =
          let is : x ≡ client = cc in
          ap (λ (b : Bool). list_any q (map (λ c. c.list) (cond b (x ∷ filter (λ c. c.shown) xs) (filter (λ c. c.shown) xs)))) (ap (λ (c : Client). c.shown) is ∙ shown)
          ∙ ap (λ (b : Bool). b || list_any q (shown_lists xs)) (ap (λ (c : Client). q c.list) is ∙ asks)
      by false e others = behind x.shown (others e)

-- ---- what the calls say ----

there_is : (there : Bool) (conn : ℕ) (calls : List Call) (client : Client) → client_if there conn calls ≡ Some client → (there ≡ true) × (client_of conn calls ≡ client)
there_is true conn calls client e = (refl, cc)
there_is false conn calls client e = absurd (cc)

pub merged_wants : (calls : List Call) (uuid : List ℕ) (cid : ℕ)
    → (wants (merged (clients_after calls)) uuid cid ≡ true) ↔ ((conn : ℕ) × (is_there conn calls ≡ true) × (is_shown conn calls ≡ true) × (wants (last_list conn calls) uuid cid ≡ true))
merged_wants calls uuid cid = (to, from)
  where
    to : wants (merged (clients_after calls)) uuid cid ≡ true → (conn : ℕ) × (is_there conn calls ≡ true) × (is_shown conn calls ≡ true) × (wants (last_list conn calls) uuid cid ≡ true)
    to e =
        let found = some_found (λ list. wants list uuid cid) (clients_after calls) (once_after calls) (sym (merge_wants uuid cid (shown_lists (clients_after calls))) ∙ e) in
        let says = there_is (is_there found.0.conn calls) found.0.conn calls found.0 (sym (client_is found.0.conn calls) ∙ found.1) in
        (found.0.conn, says.0, ap (λ (c : Client). c.shown) says.1 ∙ found.2, ap (λ (c : Client). wants c.list uuid cid) says.1 ∙ found.3)

    from : ((conn : ℕ) × (is_there conn calls ≡ true) × (is_shown conn calls ≡ true) × (wants (last_list conn calls) uuid cid ≡ true)) → wants (merged (clients_after calls)) uuid cid ≡ true
    from some =
        merge_wants uuid cid (shown_lists (clients_after calls))
        ∙ found_some (λ list. wants list uuid cid) (clients_after calls) some.0 (client_of some.0 calls) (client_is some.0 calls ∙ ap (λ (b : Bool). client_if b some.0 calls) some.1) some.2 some.3
