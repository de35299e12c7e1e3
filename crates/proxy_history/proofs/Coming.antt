-- Where the names of those who join rise, each is new; and which facts bring in what is new.
use Rattle.std.proofs.Common.{◌≡◌, ℕ, ◌≤◌, ◌<◌, Bool, true, false, List, [], ◌∷◌, refl, arith}
use Rattle.std.specs.List.{AllByRecursion}
use Rattle.kit_bytes.proofs.Lists.{all_weaker, all_filter, all_push}
use Rattle.proxy_history.specs.Events.{Event, Joined, ModemTook}
use Rattle.proxy_history.specs.Items.{Item, Joins, ModemTakes}
use Rattle.proxy_history.specs.Facts.{Fact, Request, NotAdmitted, Admitted, Ended, Forwarded, ListSent, ModemTaken}
use Rattle.proxy_history.specs.Connections.{present, contains}
use Rattle.proxy_history.specs.Protocol.{Protocol}
use Rattle.proxy_history.specs.History.{history}
use Rattle.proxy_history.specs.Coming.{greatest_name}
use Rattle.proxy_history.specs.Adding.{MayAdd, MayFinish, IsOrderly}
use Rattle.proxy_history.proofs.Lists.{above_absent}
use Rattle.proxy_history.proofs.Walk.{IsOf, kept_by_event}

-- ---- who is there joined ----

-- whom the fact lets in has one of these names
IsKnown : ℕ → Fact → Type 0
IsKnown greatest (Admitted c) = c ≤ greatest
IsKnown greatest _ = Unit {0}

known_join : (event : Event) (events : List Event) (d e : ℕ) → IsOf event (Joins d) → e ≡ d → e ≤ greatest_name (event ∷ events)
known_join (Joined c) events d e is same = omega arith
known_join _ events d e is same = absurd is

known_item : (event : Event) (events : List Event) (item : Item) (fact : Fact) (past : List Fact) → IsOf event item → MayAdd item fact past → IsKnown (greatest_name (event ∷ events)) fact
unfolding IsKnown
known_item event events (Joins d) (Admitted e) past is may = known_join event events d e is may
known_item event events _ (Admitted e) past is may = absurd may
known_item event events _ _ past is may = tt

known_finish : (greatest : ℕ) (fact : Fact) (past : List Fact) → MayFinish fact past → IsKnown greatest fact
unfolding IsKnown
known_finish greatest (Admitted e) past may = absurd may
known_finish greatest _ past may = tt

AreKnown : ℕ → List Fact → Type 0
AreKnown greatest past = AllByRecursion (λ c. c ≤ greatest) (present past)

known_more : (greatest : ℕ) (fact : Fact) (past : List Fact) → IsKnown greatest fact → AreKnown greatest past → AreKnown greatest (fact ∷ past)
unfolding IsKnown AreKnown present
known_more greatest (Admitted c) past known all = all_push (λ c. c ≤ greatest) (present past) c all known
known_more greatest (Ended c why) past known all = all_filter (λ c. c ≤ greatest) _ (present past) all
known_more greatest _ past known all = all

no_less : (event : Event) (events : List Event) → greatest_name events ≤ greatest_name (event ∷ events)
no_less (Joined c) events = omega arith
no_less _ events = omega arith

module _ {Known : Type 0} (p : Protocol Known) (Asks : Request → List Fact → Type 0) (O : IsOrderly p Asks) where
  pub names_are_known : (events : List Event) → AllByRecursion (λ c. c ≤ greatest_name events) (present (history p events))
  unfolding AreKnown history present
  names_are_known [] = tt
  names_are_known (event ∷ events) =
      let greatest : ℕ = greatest_name (event ∷ events) in
      kept_by_event p Asks O (AreKnown greatest) event
      (λ item of fact past follows may asked all. known_more greatest fact past (known_item event events item fact past of may) all)
      (λ fact past follows may asked all. known_more greatest fact past (known_finish greatest fact past may) all)
      events (all_weaker (λ c. c ≤ greatest_name events) (λ c. c ≤ greatest) (λ c within. let more = no_less event events in omega arith) (present (history p events)) (names_are_known events))

  -- so one of a greater name isn't there
  pub new_names : (events : List Event) (c : ℕ) → greatest_name events < c → contains c (present (history p events)) ≡ false
  new_names events c greater = above_absent (greatest_name events) c greater (present (history p events)) (names_are_known events)

-- ---- what is new ----

-- a connection is let in or refused, or the modem took bytes
abbrev pub lets_in_or_drains : Fact → Bool
lets_in_or_drains (Admitted c) = true
lets_in_or_drains (Ended c NotAdmitted) = true
lets_in_or_drains (ModemTaken count) = true
lets_in_or_drains _ = false

abbrev pub joins_or_modem_takes : Item → Bool
joins_or_modem_takes (Joins c) = true
joins_or_modem_takes (ModemTakes count) = true
joins_or_modem_takes _ = false

pub new_alone : (item : Item) (fact : Fact) (past : List Fact) → joins_or_modem_takes item ≡ false → MayAdd item fact past → lets_in_or_drains fact ≡ false
new_alone (Joins c) _ past other may = absurd (cc)
new_alone (ModemTakes count) _ past other may = absurd (cc)
new_alone _ (Admitted c) past other may = absurd may
new_alone _ (Ended c NotAdmitted) past other may = absurd may
new_alone _ (ModemTaken count) past other may = absurd may
new_alone _ _ past other may = refl

-- the event is a joining, or a taking of the modem
abbrev pub is_joining_or_modems : Event → Bool
is_joining_or_modems (Joined c) = true
is_joining_or_modems (ModemTook count) = true
is_joining_or_modems _ = false

pub other_items : (event : Event) (item : Item) → is_joining_or_modems event ≡ false → IsOf event item → joins_or_modem_takes item ≡ false
other_items (Joined c) _ other is = absurd (cc)
other_items (ModemTook count) _ other is = absurd (cc)
other_items _ (Joins c) other is = absurd is
other_items _ (ModemTakes count) other is = absurd is
other_items _ _ other is = refl

pub nothing_new_at_end : (fact : Fact) (past : List Fact) → MayFinish fact past → lets_in_or_drains fact ≡ false
nothing_new_at_end (Forwarded r) past may = refl
nothing_new_at_end (ListSent list) past may = refl
nothing_new_at_end _ past may = absurd may
