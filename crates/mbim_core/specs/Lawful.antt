-- MBIM owes nothing of what a core needs. Lists of events and of facts have the newest first.
use Rattle.std.proofs.Common.{◌≡◌, ℕ, max, false, List, length, map, refl, ap, sym, ◌∙◌, subst, if◌then◌else◌}
use Rattle.std.proofs.lemmas.Simd.{map-map}
use Rattle.kit_bytes.specs.Subscriptions.{Pair, merge}
use Rattle.connections.specs.Table.{Connection}
use Rattle.mbim_frame.specs.Frame.{size_of}
use Rattle.mbim_services.specs.SubscribeLists.{is_same_list}
use Rattle.proxy_history.specs.Connections.{present}
use Rattle.proxy_history.specs.Events.{Event}
use Rattle.proxy_history.specs.Facts.{Fact}
use Rattle.proxy_history.specs.History.{history}
use Rattle.proxy_history.proofs.Walk.{few_wait_for_modem, requests_are_asked}
use Rattle.proxy_state.specs.Faithful.{IsFaithful}
use Rattle.proxy_state.specs.Stands.{connection_of}
use Rattle.proxy_state.proofs.Lists.{filter_map_is}
use Rattle.mbim_proxy.specs.Forwarding.{own_subscribe, wire_of}
use Rattle.mbim_proxy.specs.History.{mbim_protocol}
use Rattle.mbim_proxy.specs.Lists as lists
use Rattle.mbim_proxy.specs.Proxy as proxy
use Rattle.mbim_proxy.specs.Setup.{Setup}
use Rattle.mbim_proxy.proofs.Lawful.{proxies_are_lawful}
use Rattle.mbim_proxy.proofs.Walk.{Asks, orderly}
use Rattle.mbim_state.specs.Core.{Client, ModemSide, MbimCore, kept_of, setup_of, Stands}
use Rattle.mbim_state.specs.Transitions.{with_side, merged_in, number_of_list, mbim_handlers}
use Rattle.mbim_state.proofs.Faithful.{is_faithful}
use Rattle.mbim_state.proofs.Greatest.{keeps_greatest}
use Rattle.mbim_state.proofs.Regular.{Regular}
use Rattle.mbim_state.proofs.Steps.{has_numbers}
use Rattle.mbim_clients.specs.Client.{newcomer}
use Rattle.mbim_core.specs.Meaning.{own_bytes, lasting_of, setup_by, mbim_meaning}
use Rattle.mbim_core.specs.Kept.{heard_client, heard, lost, expired, sent}
use Rattle.proxy_core.specs.Lawful.{KeepsLasting, HasLimits, IsLawful}

-- ---- what lasts ----

lasts : (s : Setup) → KeepsLasting mbim_meaning (mbim_handlers s)
lasts s = record {
  hear_client = λ c m client outbox side. ap (λ (l : Setup × List Pair). lasting_of l.0) (heard_client s c m client outbox side);
  give_up = λ c side. refl;
  hear_modem = λ m x. ap lasting_of (heard s m x);
  lose = λ x. ap lasting_of (lost s x);
  regain = λ side. refl;
  take_modem = λ count side. refl;
  tick = λ time x. ap lasting_of (expired s (max time x.beside.time) (with_side (record x.beside { time = max time x.beside.time }) x));
  finish = λ x. ap lasting_of (sent s (merged_in x.table.present) (number_of_list s (merged_in x.table.present) x.beside) x.beside);
}

-- ---- the bytes that the proxy may ask the modem by itself ----

-- the open clients' lists, together
merged_is : (s : Setup) (rests : ℕ → List ℕ) (past : List Fact) → merged_in (map (connection_of (mbim_protocol s) (kept_of s) rests past) (present past)) ≡ lists.merged s past
unfolding connection_of
merged_is s rests past =
    let connection : ℕ → Connection Client = connection_of (mbim_protocol s) (kept_of s) rests past in
    let list : Connection Client → List Pair = λ (k : Connection Client). k.client.list in
    ap (λ (l : List (Connection Client)). merge (map list l)) (filter_map_is (λ (k : Connection Client). k.client.opened) connection (present past))
    ∙ ap merge (map-map list connection (lists.open_ones s past))

bytes_of : Setup → List Pair → List Pair → ℕ
bytes_of s list last = if is_same_list list last then 0 else length (wire_of s 0 (own_subscribe list))

own_bytes_are : (s : Setup) (past : List Event) (core : MbimCore) → setup_of core.state.beside ≡ s → Stands s past core → own_bytes core.state ≡ proxy.own_bytes s (history (mbim_protocol s) past)
unfolding bytes_of
own_bytes_are s past core same stands =
    ap (λ (t : Setup). bytes_of t (merged_in core.state.table.present) core.state.beside.last_list) same
    ∙ ap (λ (b : ModemSide). bytes_of s (merged_in core.state.table.present) b.last_list) stands.holds.beside
    ∙ ap (λ (l : List (Connection Client)). bytes_of s (merged_in l) (lists.last_list (history (mbim_protocol s) past))) stands.holds.connections
    ∙ ap (λ (l : List Pair). bytes_of s l (lists.last_list (history (mbim_protocol s) past))) (merged_is s _ (history (mbim_protocol s) past))

-- ---- all of it ----

pub is_lawful : IsLawful mbim_meaning newcomer size_of
is_lawful = record {
  begins = λ l. refl;
  lasts = λ l. lasts (setup_by l);
  greatest = λ l. keeps_greatest (setup_by l);
  framing = λ s. refl;
  waits_for_modem = λ l s messages past. refl;
  few_wait = λ s events. few_wait_for_modem (mbim_protocol s) (Asks s) (history (mbim_protocol s) events) (requests_are_asked (mbim_protocol s) (Asks s) (orderly s) events);
  lawful = proxies_are_lawful;
  opens = λ limits path. refl;
  limits = λ s l is. let Has : Setup → Type 0 = λ t. HasLimits mbim_meaning (mbim_protocol t).limits in subst Has (sym is) (record { connections = refl; outbox = refl; modem_outbox = refl });
  faithful = λ s l is.
      let Is : Setup → Type 0 = λ t. IsFaithful (mbim_protocol t) (kept_of t) (mbim_handlers (setup_by l)) (Regular t) in
      subst Is (sym is) (is_faithful (setup_by l) (has_numbers l.device l.time_limit false));
  own_bytes = λ s past core is Sd. own_bytes_are s past core (sym is) Sd;
}
