-- What the end of an event makes of a core: the proxy's own list.
use Rattle.std.proofs.Common.{◌≡◌, ℕ, Bool, not, ◌&&◌, List, map, filter, refl, ap, sym, ◌∙◌, subst, Option, Some, None, if◌then◌else◌}
use Rattle.std.proofs.lemmas.Simd.{map-map}
use Rattle.kit_bytes.specs.Subscriptions.{Pair, merge}
use Rattle.connections.specs.Table.{Connection}
use Rattle.proxy_history.specs.Facts.{Fact}
use Rattle.proxy_history.specs.Connections.{present, dropped}
use Rattle.proxy_history.specs.Requests.{last_number}
use Rattle.proxy_history.specs.Modem.{now, is_away, to_modem, modem_taken_count}
use Rattle.proxy_history.specs.View.{view}
use Rattle.proxy_state.specs.Requests.{requests_in_use}
use Rattle.proxy_state.specs.Stands.{Streams, connection_of}
use Rattle.proxy_state.proofs.Lists.{filter_map_is}
use Rattle.mbim_services.specs.SubscribeLists.{is_same_list}
use Rattle.mbim_proxy.specs.Setup.{Setup}
use Rattle.mbim_proxy.specs.Step.{known_now}
use Rattle.mbim_proxy.specs.ModemStates.{is_ready}
use Rattle.mbim_proxy.specs.ModemStates as modem
use Rattle.mbim_proxy.specs.Lists.{askers, merged, list_of, last_list}
use Rattle.mbim_proxy.specs.Forwarding.{own_subscribe}
use Rattle.mbim_proxy.specs.OwnList.{number_of_list, send_under}
use Rattle.mbim_proxy.specs.OwnList as own
use Rattle.mbim_proxy.specs.History.{mbim_protocol}
use Rattle.mbim_state.specs.Core.{Client, ModemSide, MbimState, kept_of}
use Rattle.mbim_state.specs.Transitions.{with_side, merged_in, is_free, number_at}
use Rattle.mbim_state.specs.Transitions as state
use Rattle.mbim_state.proofs.Regular.{Regular, regular_at_end, taken_within}
use Rattle.mbim_state.proofs.Numbers.{own_waits_is}
use Rattle.mbim_state.proofs.Keeping as keeping
use Rattle.mbim_state.proofs.Keeping.{keeps_side}
use Rattle.mbim_state.proofs.Hearing.{side, number_is, side_forwarded}

module _ (s : Setup) (streams : Streams) where
  abbrev Kept : List Fact → MbimState → Type 0
  Kept past x = keeping.Kept s streams past x

  abbrev side_now : List Fact → ModemSide
  side_now past = side s streams.messages past

  -- ---- what is asked for ----

  abbrev made : List Fact → ℕ → Connection Client
  made past d = connection_of (mbim_protocol s) (kept_of s) streams.rests past d

  merged_of : (past : List Fact) (names : List ℕ) → map (λ (k : Connection Client). k.client.list) (filter (λ (k : Connection Client). k.client.opened) (map (made past) names)) ≡ map (λ d. list_of s d past) (filter (λ d. (known_now s d past).opened) names)
  unfolding connection_of
  merged_of past names = ap (map (λ (k : Connection Client). k.client.list)) (filter_map_is (λ (k : Connection Client). k.client.opened) (made past) names) ∙ map-map (λ (k : Connection Client). k.client.list) (made past) (filter (λ d. (known_now s d past).opened) names)

  merged_is : (past : List Fact) (x : MbimState) → Kept past x → merged_in x.table.present ≡ merged s past
  merged_is past x K = ap merged_in K.holds.connections ∙ ap merge (merged_of past (present past))

  free_is : (past : List Fact) → Regular s past → is_free (side_now past) ≡ own.is_free s past
  free_is past R = ap (λ (b : Bool). is_ready (modem.state s.starts_away past) && not b) (own_waits_is s past R)

  number_of_list_is : (list : List Pair) (past : List Fact) → Regular s past → state.number_of_list s list (side_now past) ≡ number_of_list s list past
  number_of_list_is list past R =
      ap (λ (b : Bool). if b && not (is_same_list list (last_list past)) then number_at s (own_subscribe list) (side_now past) else None) (free_is past R)
      ∙ ap (λ (o : Option ℕ). if own.is_free s past && not (is_same_list list (last_list past)) then o else None) (number_is s streams.messages (own_subscribe list) past)

  -- ---- the list is asked for ----

  side_sent : (list : List Pair) (number : Option ℕ) (past : List Fact) → Regular s past → state.send_under s list number (side_now past) ≡ side_now (send_under s list number past)
  unfolding now is_away modem.state requests_in_use last_number askers last_list to_modem modem_taken_count
  side_sent list None past R = refl
  side_sent list (Some n) past R = ap (λ (b : ModemSide). let c : ModemSide = record b { last_list = list } in c) (side_forwarded s streams.messages past 0 (own_subscribe list) n (taken_within s past R.new))

  sent : (list : List Pair) (number : Option ℕ) (past : List Fact) (x : MbimState) → Regular s (send_under s list number past) → Kept past x → Kept (send_under s list number past) (with_side (state.send_under s list number x.beside) x)
  unfolding present dropped view
  sent list None past x regular K = K
  sent list (Some n) past x regular K =
      keeps_side s streams (send_under s list (Some n) past) past x (state.send_under s list (Some n) x.beside) (λ d. refl) refl refl (ap (state.send_under s list (Some n)) K.holds.beside ∙ side_sent list (Some n) past K.fine) regular K

  pub keeps_finished : (past : List Fact) (x : MbimState) → Kept past x → Kept (own.finish s past) (state.finish s x)
  keeps_finished past x K =
      subst (λ (list : List Pair). Kept (own.finish s past) (with_side (state.send_list s list x.beside) x)) (sym (merged_is past x K))
      (subst (λ (number : Option ℕ). Kept (own.finish s past) (with_side (state.send_under s (merged s past) number x.beside) x))
      (sym (ap (state.number_of_list s (merged s past)) K.holds.beside ∙ number_of_list_is (merged s past) past K.fine))
      (sent (merged s past) (number_of_list s (merged s past) past) past x (regular_at_end s past K.fine) K))
