-- What is known of an MBIM proxy's history in the midst of an event, and that it stays so.
use Rattle.std.proofs.Common.{◌≡◌, ℕ, ◌+◌, ◌≤◌, nat_lt, Bool, true, false, List, [], ◌∷◌, length, refl, arith, length-append, if◌then◌else◌}
use Rattle.std.proofs.lemmas.Bool.Decides.{nat_tests}
use Rattle.std.proofs.lemmas.List.{length-drop}
use Rattle.proxy_history.specs.Events.{Event, Joined, ModemTook}
use Rattle.proxy_history.specs.Facts.{Fact, NotAdmitted, EventBegan, Admitted, Ended, Taken, Forwarded, ListSent, ModemTaken, ModemLost}
use Rattle.proxy_history.specs.Connections.{present, dropped, contains}
use Rattle.proxy_history.specs.Modem.{to_modem, modem_taken_count}
use Rattle.proxy_history.specs.Sound.{MayFollow, IsSound}
use Rattle.proxy_history.specs.Noting.{join}
use Rattle.proxy_history.specs.History as proxy
use Rattle.proxy_history.specs.Coming.{AreSound}
use Rattle.proxy_history.specs.Adding.{MayAdd, MayFinish, MayAsk, AreAsked}
use Rattle.proxy_history.specs.Items.{Item, Joins, ModemTakes}
use Rattle.proxy_history.proofs.Walk as walk
use Rattle.proxy_history.proofs.Nobody.{IsNamed, still_no_client, still_never_dropped}
use Rattle.proxy_history.proofs.Coming.{new_names, joins_or_modem_takes, is_joining_or_modems, other_items}
use Rattle.proxy_state.specs.Faithful.{IsOfConnections}
use Rattle.mbim_proxy.specs.Setup.{Setup}
use Rattle.mbim_proxy.specs.Forwarding.{wire}
use Rattle.mbim_proxy.specs.OwnList.{finish}
use Rattle.mbim_proxy.specs.History.{mbim_protocol, history}
use Rattle.mbim_proxy.proofs.Walk.{Asks, orderly}

-- who is let in wasn't there, neither it nor one that is refused is the proxy itself, and the modem takes no more than waits for it
abbrev pub IsNew : Setup → Fact → List Fact → Type 0
IsNew s (Admitted c) past = (1 ≤ c) × (contains c (present past) ≡ false)
IsNew s (Ended c NotAdmitted) past = 1 ≤ c
IsNew s (ModemTaken count) past = modem_taken_count past + count ≤ length (to_modem (wire s) past)
IsNew s _ past = Unit {0}

abbrev pub AreNew : Setup → List Fact → Type 0
AreNew s [] = Unit {0}
AreNew s (fact ∷ past) = IsNew s fact past × AreNew s past

pub record Regular (s : Setup) (past : List Fact) : Type 0 where
  pub sound : IsSound s.limits past
  pub asked : AreAsked (mbim_protocol s) (Asks s) past
  pub new : AreNew s past

module _ (s : Setup) where
  pub regular_more : (fact : Fact) (past : List Fact) → MayFollow s.limits fact past → MayAsk (mbim_protocol s) (Asks s) fact past → IsNew s fact past → Regular s past → Regular s (fact ∷ past)
  regular_more fact past follows asks new R = record { sound = (follows, R.sound); asked = (asks, R.asked); new = (new, R.new) }

  pub regular_behind : (fact : Fact) (past : List Fact) → MayFollow s.limits fact past → IsOfConnections fact past → Regular s past → Regular s (fact ∷ past)
  regular_behind EventBegan past follows of R = regular_more EventBegan past tt tt tt R
  regular_behind (Admitted c) past follows of R = regular_more (Admitted c) past follows tt of R
  regular_behind (Ended c NotAdmitted) past follows of R = regular_more (Ended c NotAdmitted) past follows tt of R
  regular_behind (Ended c why) past follows of R = regular_more (Ended c why) past follows tt tt R
  regular_behind (Taken c count) past follows of R = regular_more (Taken c count) past follows tt tt R
  regular_behind _ past follows of R = absurd of

  -- ---- what is known by that ----

  -- the modem took no more than was queued for it
  pub taken_within : (past : List Fact) → AreNew s past → modem_taken_count past ≤ length (to_modem (wire s) past)
  unfolding to_modem modem_taken_count
  taken_within [] new = omega arith
  taken_within (Forwarded r ∷ past) new = let within = taken_within past new.1 in let both = length-append (to_modem (wire s) past) (wire s r) in omega arith
  taken_within (ModemTaken count ∷ past) new = new.0
  taken_within (ModemLost ∷ past) new = omega arith
  taken_within (_ ∷ past) new = taken_within past new.1

  named : (fact : Fact) (past : List Fact) → IsNew s fact past → IsNamed fact
  named (Admitted c) past new = new.0
  named (Ended c NotAdmitted) past new = new
  named _ past new = tt

  -- no client has the name of the proxy itself
  pub proxy_is_no_client : (past : List Fact) → AreNew s past → contains 0 (present past) ≡ false
  unfolding present
  proxy_is_no_client [] new = refl
  proxy_is_no_client (fact ∷ past) new = still_no_client fact past (named fact past new.0) (proxy_is_no_client past new.1)

  -- nor was it dropped
  pub proxy_is_never_dropped : (past : List Fact) → IsSound s.limits past → AreNew s past → contains 0 (dropped past) ≡ false
  unfolding dropped
  proxy_is_never_dropped [] sound new = refl
  proxy_is_never_dropped (fact ∷ past) sound new =
      still_never_dropped s.limits fact past sound.0 (named fact past new.0) (proxy_is_no_client past new.1) (proxy_is_never_dropped past sound.1 new.1)

  -- ---- whole histories ----

  pub new_by : (item : Item) (fact : Fact) (past : List Fact) → joins_or_modem_takes item ≡ false → MayAdd item fact past → IsNew s fact past
  new_by (Joins c) _ past other may = absurd (cc)
  new_by (ModemTakes count) _ past other may = absurd (cc)
  new_by _ (Admitted c) past other may = absurd may
  new_by _ (Ended c NotAdmitted) past other may = absurd may
  new_by _ (ModemTaken count) past other may = absurd may
  new_by _ _ past other may = tt

  new_at_end : (fact : Fact) (past : List Fact) → MayFinish fact past → IsNew s fact past
  new_at_end (Forwarded r) past may = tt
  new_at_end (ListSent list) past may = tt
  new_at_end _ past may = absurd may

  regular_begun : (past : List Fact) → Regular s past → Regular s (EventBegan ∷ past)
  regular_begun past R = regular_more EventBegan past tt tt tt R

  pub regular_at_end : (past : List Fact) → Regular s past → Regular s (finish s past)
  regular_at_end past R =
      walk.kept_at_end (mbim_protocol s) (Asks s) (orderly s) (Regular s)
      (λ fact before follows may asked held. regular_more fact before follows asked (new_at_end fact before may) held) past R.sound R

  regular_event : (event : Event) (events : List Event) → is_joining_or_modems event ≡ false → Regular s (history s events) → Regular s (history s (event ∷ events))
  regular_event event events other R =
      walk.kept_by_event (mbim_protocol s) (Asks s) (orderly s) (Regular s) event
      (λ item of fact past follows may asked held. regular_more fact past follows asked (new_by item fact past (other_items event item other of) may) held)
      (λ fact past follows may asked held. regular_more fact past follows asked (new_at_end fact past may) held)
      events (regular_begun (history s events) R)

  regular_join : (past : List Fact) (c : ℕ) → 1 ≤ c → contains c (present past) ≡ false → Regular s past → Regular s (join s.limits c past)
  regular_join past c some absent R = by (nat_lt (length (present past)) s.limits.connections) refl
    where
      by : (b : Bool) → nat_lt (length (present past)) s.limits.connections ≡ b → Regular s (let after : List Fact = if b then Admitted c ∷ past else Ended c NotAdmitted ∷ past in after)
      by true room = regular_more (Admitted c) past (grind (arith, nat_tests, room)) tt (some, absent) R
      by false full = regular_more (Ended c NotAdmitted) past (grind (arith, nat_tests, full)) tt some R

  pub histories_are_regular : (events : List Event) → AreSound (mbim_protocol s) events → Regular s (history s events)
  unfolding proxy.history proxy.add_all modem_taken_count to_modem present
  histories_are_regular [] sound = record { sound = tt; asked = tt; new = tt }
  histories_are_regular (Joined c ∷ events) sound =
      regular_at_end _ (regular_join (EventBegan ∷ history s events) c (let above = sound.0 in omega arith) (new_names (mbim_protocol s) (Asks s) (orderly s) events c sound.0) (regular_begun (history s events) (histories_are_regular events sound.1)))
  histories_are_regular (ModemTook count ∷ events) sound =
      let R = histories_are_regular events sound.1 in
      let left = length-drop (modem_taken_count (history s events)) (to_modem (wire s) (history s events)) in
      let within = taken_within (history s events) R.new in
      regular_at_end _ (regular_more (ModemTaken count) (EventBegan ∷ history s events) tt tt (let some = sound.0 in omega arith) (regular_begun (history s events) R))
  histories_are_regular (event ∷ events) sound = regular_event event events refl (histories_are_regular events sound.1)
