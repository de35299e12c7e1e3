-- What the clients of a table subscribe to, as the table changes.
use Rattle.std.proofs.Common.{◌≡◌, ℕ, zero, suc, ◌<◌, Bool, true, false, not, cond, ◌==◌, List, [], ◌∷◌, length, map, get_or, refl, ap, sym, ◌∙◌, arith, Some, None, if◌then◌else◌}
use Rattle.std.specs.List.{AllByRecursion}
use Rattle.std.proofs.lemmas.Bool.{eqb-true}
use Rattle.std.proofs.lemmas.Bool.Decides.{nat_tests}
use Rattle.std.proofs.lemmas.Simd.{map-map}
use Rattle.kit_bytes.specs.Sorted.{IsInOrder}
use Rattle.kit_bytes.specs.Subscriptions.{Pair, merge}
use Rattle.kit_bytes.proofs.Lists.{all_at}
use Rattle.connections.specs.Table.{Connection, AreRising, connection_in, changed, changed_at, without}
use Rattle.subscriptions.specs.Clients.{Client as Subscriber, leaves, updates, merged}
use Rattle.subscriptions.specs.Clients as table
use Rattle.proxy_state.specs.Chosen.{StandsAt}
use Rattle.proxy_state.proofs.Lists.{filter_map_is}
use Rattle.mbim_state.specs.Core.{Client}
use Rattle.mbim_state.specs.Transitions.{open_ones, merged_in}
use Rattle.mbim_core.specs.Hand.{subscriber_at}

abbrev pub subscribed_in : List (Connection Client) → List Subscriber
subscribed_in present = map subscriber_at present

-- what the open ones subscribe to, together
pub merged_is : (present : List (Connection Client)) → merged (subscribed_in present) ≡ merged_in present
merged_is present =
    let list : Subscriber → List Pair = λ s. s.list in
    ap (λ (l : List Subscriber). merge (map list l)) (filter_map_is (λ (s : Subscriber). s.shown) subscriber_at present) ∙ ap merge (map-map list subscriber_at (open_ones present))

-- ---- a client ----

-- what the connection subscribes to from now on
abbrev pub followed_by : Connection Client → List Subscriber → List Subscriber
followed_by k subscribed = updates k.name k.client.opened k.client.list subscribed

first_followed : (k l : Connection Client) (others : List Subscriber) → l.name ≡ k.name → followed_by k (subscriber_at l ∷ others) ≡ subscriber_at k ∷ others
unfolding table.changed
first_followed k l others same =
    let is : (k.name == l.name) ≡ true = grind (arith, nat_tests, same) in
    rw is (ap (λ (n : ℕ). let s : Subscriber = record { conn = n; shown = k.client.opened; list = k.client.list } in s ∷ others) same)

later_followed : (k l : Connection Client) (others : List Subscriber) → (k.name == l.name) ≡ false → followed_by k (subscriber_at l ∷ others) ≡ subscriber_at l ∷ followed_by k others
unfolding table.changed
later_followed k l others isnt = rw isnt refl

some_is : (one other : Connection Client) → Some one ≡ Some other → one ≡ other
some_is one other e = cc

named_so : (c : ℕ) (ks : List (Connection Client)) (k : Connection Client) → connection_in c ks ≡ Some k → c ≡ k.name
named_so c [] k e = absurd (cc)
named_so c (m ∷ ks) k e = so (c == m.name) refl e (λ e. named_so c ks k e)
  where
    so : (b : Bool) → (c == m.name) ≡ b → cond b (Some m) (connection_in c ks) ≡ Some k → (connection_in c ks ≡ Some k → c ≡ k.name) → c ≡ k.name
    so true is e others = eqb-true c m.name is ∙ ap (λ (o : Connection Client). o.name) (some_is m k e)
    so false is e others = others e

-- a change at a place leaves how many there are
pub long_at : (f : Connection Client → Connection Client) (i : ℕ) (present : List (Connection Client)) → length (changed_at i f present) ≡ length present
long_at f i [] = refl
long_at f zero (l ∷ present) = refl
long_at f (suc i) (l ∷ present) = ap (λ (n : ℕ). suc n) (long_at f i present)

module _ (f : Connection Client → Connection Client) (names : (k : Connection Client) → (f k).name ≡ k.name) where
  -- the one of a place is changed
  pub followed_at : (i : ℕ) (present : List (Connection Client)) (k : Connection Client) → AreRising (changed_at i f present) → i < length present → StandsAt k (changed_at i f present) i
      → subscribed_in (changed_at i f present) ≡ followed_by k (subscribed_in present)
  unfolding IsInOrder
  followed_at i [] k rising within at = absurd (omega arith)
  followed_at zero (l ∷ present) k rising within at =
      let is : k ≡ f l = at in
      ap (λ (m : Connection Client). subscriber_at m ∷ subscribed_in present) (sym is) ∙ sym (first_followed k l (subscribed_in present) (sym (names l) ∙ ap (λ (m : Connection Client). m.name) (sym is)))
  followed_at (suc i) (l ∷ present) k rising within at =
      let long : length (changed_at i f present) ≡ length present = long_at f i present in
      let later : l.name < (get_or (changed_at i f present) i k).name = all_at (λ (m : Connection Client). l.name < m.name) (changed_at i f present) i k rising.0 (omega (arith, long, within)) in
      let same : (get_or (changed_at i f present) i k).name ≡ k.name = ap (λ (m : Connection Client). m.name) (sym at) in
      let isnt : (k.name == l.name) ≡ false = grind (arith, nat_tests, later, same) in
      ap (λ (ss : List Subscriber). subscriber_at l ∷ ss) (followed_at i present k rising.1 (omega (arith, within)) at) ∙ sym (later_followed k l (subscribed_in present) isnt)

  module _ (c : ℕ) where
    -- the one of a name is changed
    pub followed : (present : List (Connection Client)) (k : Connection Client) → connection_in c (changed c f present) ≡ Some k → subscribed_in (changed c f present) ≡ followed_by k (subscribed_in present)
    unfolding changed
    followed [] k found = absurd (cc)
    followed (l ∷ present) k found = by (c == l.name) refl found (λ e. followed present k e)
      where
        by : (b : Bool) → (c == l.name) ≡ b → connection_in c (cond b (f l ∷ present) (l ∷ changed c f present)) ≡ Some k
            → (connection_in c (changed c f present) ≡ Some k → subscribed_in (changed c f present) ≡ followed_by k (subscribed_in present))
            → subscribed_in (cond b (f l ∷ present) (l ∷ changed c f present)) ≡ followed_by k (subscriber_at l ∷ subscribed_in present)
        by true is e others =
            let same : c ≡ l.name = eqb-true c l.name is in
            let there : (c == (f l).name) ≡ true = ap (λ (n : ℕ). c == n) (names l) ∙ is in
            let it : f l ≡ k = some_is (f l) k (sym (ap (λ (b : Bool). cond b (Some (f l)) (connection_in c present)) there) ∙ e) in
            ap (λ (m : Connection Client). subscriber_at m ∷ subscribed_in present) it ∙ sym (first_followed k l (subscribed_in present) (sym (names l) ∙ ap (λ (m : Connection Client). m.name) it))
        by false is e others =
            let behind : connection_in c (changed c f present) ≡ Some k = sym (ap (λ (b : Bool). cond b (Some l) (connection_in c (changed c f present))) is) ∙ e in
            let named : c ≡ k.name = named_so c (changed c f present) k behind in
            let isnt : (k.name == l.name) ≡ false = ap (λ (n : ℕ). n == l.name) (sym named) ∙ is in
            ap (λ (ss : List Subscriber). subscriber_at l ∷ ss) (others behind) ∙ sym (later_followed k l (subscribed_in present) isnt)

    -- nobody has the name
    pub followed_none : (present : List (Connection Client)) → connection_in c (changed c f present) ≡ None → subscribed_in (changed c f present) ≡ subscribed_in present
    unfolding changed
    followed_none [] none = refl
    followed_none (l ∷ present) none = by (c == l.name) refl none (λ e. followed_none present e)
      where
        by : (b : Bool) → (c == l.name) ≡ b → connection_in c (cond b (f l ∷ present) (l ∷ changed c f present)) ≡ None
            → (connection_in c (changed c f present) ≡ None → subscribed_in (changed c f present) ≡ subscribed_in present)
            → subscribed_in (cond b (f l ∷ present) (l ∷ changed c f present)) ≡ subscriber_at l ∷ subscribed_in present
        by true is e others =
            let there : (c == (f l).name) ≡ true = ap (λ (n : ℕ). c == n) (names l) ∙ is in
            let clash : Some (f l) ≡ None = sym (ap (λ (b : Bool). cond b (Some (f l)) (connection_in c present)) there) ∙ e in absurd (cc)
        by false is e others = ap (λ (ss : List Subscriber). subscriber_at l ∷ ss) (others (sym (ap (λ (b : Bool). cond b (Some l) (connection_in c (changed c f present))) is) ∙ e))

-- ---- what leaves it, and one who is gone ----

module _ (c : ℕ) where
  pub same_subscribed : (f : Connection Client → Connection Client) → ((k : Connection Client) → subscriber_at (f k) ≡ subscriber_at k) → (present : List (Connection Client)) → subscribed_in (changed c f present) ≡ subscribed_in present
  unfolding changed
  same_subscribed f same [] = refl
  same_subscribed f same (l ∷ present) = by (c == l.name) (same_subscribed f same present)
    where
      by : (b : Bool) → subscribed_in (changed c f present) ≡ subscribed_in present → subscribed_in (if b then f l ∷ present else l ∷ changed c f present) ≡ subscriber_at l ∷ subscribed_in present
      by true others = ap (λ (s : Subscriber). s ∷ subscribed_in present) (same l)
      by false others = ap (λ (ss : List Subscriber). subscriber_at l ∷ ss) others

  -- who joined later has another name
  later_stay : (least : ℕ) → c ≡ least → (present : List (Connection Client)) → AllByRecursion (λ k. least < k.name) present → leaves c (subscribed_in present) ≡ subscribed_in present
  later_stay least same [] all = refl
  later_stay least same (l ∷ present) all =
      let first = all.0 in
      let isnt : (c == l.name) ≡ false = grind (arith, nat_tests, first, same) in
      ap (λ (b : Bool). cond (not b) (subscriber_at l ∷ leaves c (subscribed_in present)) (leaves c (subscribed_in present))) isnt ∙ ap (λ (ss : List Subscriber). subscriber_at l ∷ ss) (later_stay least same present all.1)

  pub left_subscribed : (present : List (Connection Client)) → AreRising present → subscribed_in (without c present) ≡ leaves c (subscribed_in present)
  unfolding without IsInOrder
  left_subscribed [] rising = refl
  left_subscribed (l ∷ present) rising = by (c == l.name) refl (left_subscribed present rising.1)
    where
      by : (b : Bool) → (c == l.name) ≡ b → subscribed_in (without c present) ≡ leaves c (subscribed_in present)
          → subscribed_in (if b then present else l ∷ without c present) ≡ cond (not b) (subscriber_at l ∷ leaves c (subscribed_in present)) (leaves c (subscribed_in present))
      by true is others = sym (later_stay l.name (eqb-true c l.name is) present rising.0)
      by false is others = ap (λ (ss : List Subscriber). subscriber_at l ∷ ss) others
