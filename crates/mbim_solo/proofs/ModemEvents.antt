-- What the modem and the clock do keeps all and the client that is alone alike, event by event.
use Rattle.std.proofs.Common.{◌≡◌, ◌≢◌, ℕ, Bool, true, false, is_none, List, [], ◌∷◌, ◌++◌, map, refl, ap, sym, ◌∙◌, subst, inl, Option, Some, None}
use Rattle.std.specs.List.{AllByRecursion, list_any}
use Rattle.mbim_frame.specs.Frame.{size_of}
use Rattle.proxy_history.specs.Events.{Event, ModemPiece, ModemGone, ModemBack, Now}
use Rattle.proxy_history.specs.Streams.{is_bad, stream, modem_stream, come_back}
use Rattle.proxy_history.specs.Items.{Item, ModemSays, ModemIsLost, ModemReturns, item_if, delivered_by_piece, modem_items, is_lost_once, returns_once}
use Rattle.proxy_history.specs.Facts.{Fact, EventBegan, ModemReturned}
use Rattle.proxy_history.specs.Requests.{in_use}
use Rattle.proxy_history.specs.Modem.{now, is_away, to_modem, modem_taken_count, modem_queue}
use Rattle.proxy_history.specs.Coming.{AreSound}
use Rattle.proxy_history.specs.History.{add_all}
use Rattle.proxy_history.proofs.Folds.{item_keeps_away, away_agrees}
use Rattle.proxy_solo.specs.Part as alone_part
use Rattle.proxy_solo.specs.Solo as alone
use Rattle.mbim_proxy.specs.Setup.{Setup}
use Rattle.mbim_proxy.specs.ModemStates.{ModemState, IsAway, IsShut, IsOpening, IsReady, state}
use Rattle.mbim_proxy.specs.Forwarding.{wire}
use Rattle.mbim_proxy.specs.FromModem.{hear_modem}
use Rattle.mbim_proxy.specs.History.{mbim_protocol, history}
use Rattle.mbim_proxy.proofs.Walk.{Asks, orderly}
use Rattle.mbim_solo.specs.Solo.{mbim_alone}
use Rattle.mbim_solo.specs.Law.{IsRoomy}
use Rattle.mbim_solo.specs.Part.{part}
use Rattle.mbim_solo.proofs.Noted.{is_waiting}
use Rattle.mbim_solo.proofs.Saying.{OpenAlike}
use Rattle.mbim_solo.proofs.Spoken.{starts_quiet}
use Rattle.mbim_solo.proofs.Orders.{absent_is}
use Rattle.mbim_solo.proofs.Relation.{is_end_of, IsOrderly, IsQuietThere, modem_bytes, IsSettled, Stand, AsksAlone, Stands, Alike}
use Rattle.mbim_solo.proofs.Orderly.{item_orderly, begun_orderly, histories_are_orderly}
use Rattle.mbim_solo.proofs.Settling.{settles}
use Rattle.mbim_solo.proofs.Standing.{begun_alike}
use Rattle.mbim_solo.proofs.Heard.{CameAs, each_came}
use Rattle.mbim_solo.proofs.Speaking.{meet, added_alone, stands_like, begun_like, like_itself, alike_settled}
use Rattle.mbim_solo.proofs.Opened.{waits_not}
use Rattle.mbim_solo.proofs.ModemSaying.{away_alike, says_alike}
use Rattle.mbim_solo.proofs.Expiring.{shows_alike, fails_alike}
use Rattle.mbim_solo.proofs.Induction.{IsHeard, AlikeThen}

module _ (s : Setup) (R : IsRoomy s) (c : ℕ) (client : c ≢ 0) where
  -- ---- all that the modem says with a piece ----

  abbrev pub modem_brings : List (List ℕ) → Bool → List Item
  modem_brings messages bad = map (λ m. ModemSays m) messages ++ item_if bad ModemIsLost

  abbrev pub brought_alone : List Item → List Fact → List Event → List Event
  brought_alone items past solo = alone.meet_if (alone.fails items) (mbim_protocol s) (mbim_alone s) ModemGone (alone.hear_all (mbim_protocol s) (mbim_alone s) c items past solo)

  pub piece_alike : (messages : List (List ℕ)) (bad : Bool) (past : List Fact) (solo : List Event) (bytes : List ℕ) → Alike s c past solo bytes → is_away s.starts_away past ≡ false → AllByRecursion (CameAs s.longest_body) messages
      → Alike s c (add_all (mbim_protocol s) (modem_brings messages bad) past) (brought_alone (modem_brings messages bad) past solo) bytes
  unfolding add_all alone.hear_all
  piece_alike [] true past solo bytes A there came = fails_alike s R c client past solo bytes A there
  piece_alike [] false past solo bytes A there came = A
  piece_alike (m ∷ messages) bad past solo bytes A there came =
      piece_alike messages bad (hear_modem s m past) _ bytes (says_alike s R c client m past solo bytes A came.0 there)
      (item_keeps_away (mbim_protocol s) (Asks s) (orderly s) s.starts_away (ModemSays m) past A.orderly.sound refl ∙ there) came.1

  module _ (events solo : List Event) (A : Alike s c (history s events) solo (stream c events)) where
    abbrev begun : List Fact
    begun = EventBegan ∷ history s events

    abbrev own : List Fact
    own = EventBegan ∷ history s solo

    begun_too : Alike s c begun solo (stream c events)
    begun_too = begun_alike s c client (history s events) solo (stream c events) A

    own_orderly : IsOrderly s c own
    own_orderly = begun_orderly s c client (history s solo) (histories_are_orderly s c client solo A.may)

    there_if : (before : List ℕ) → modem_bytes s c events ≡ Some before → is_away s.starts_away begun ≡ false
    unfolding is_away
    there_if before is = away_agrees (mbim_protocol s) (Asks s) (orderly s) events ∙ ap is_none is

    -- the modem's streams are there in both or in neither
    streams_alike : is_none (modem_bytes s c solo) ≡ is_none (modem_bytes s c events)
    streams_alike = sym (away_agrees (mbim_protocol s) (Asks s) (orderly s) solo) ∙ away_alike s R c client (history s events) solo (stream c events) A ∙ away_agrees (mbim_protocol s) (Asks s) (orderly s) events

    pub modem_piece : (bytes : List ℕ) → AlikeThen s c events solo (ModemPiece bytes)
    unfolding add_all alone.hear_all stream
    modem_piece bytes = by (modem_bytes s c events) refl
      where
        by : (o : Option (List ℕ)) → modem_bytes s c events ≡ o → Alike s c (add_all (mbim_protocol s) (modem_items (mbim_protocol s) bytes o) begun) (brought_alone (modem_items (mbim_protocol s) bytes o) begun solo) (stream c events)
        by None is = begun_too
        by (Some before) is = piece_alike (delivered_by_piece (mbim_protocol s) before bytes) (is_bad size_of (before ++ bytes)) begun solo (stream c events) begun_too (there_if before is) (each_came s before bytes)

    pub now_shows : (time : ℕ) → AlikeThen s c events solo (Now time)
    unfolding add_all alone.hear_all stream
    now_shows time = shows_alike s R c client time begun solo (stream c events) begun_too

    -- ---- a loss, and a return ----

    -- an event that adds this alone
    adds_alone : (event : Event) (past facts : List Fact) → IsOrderly s c past → added_alone s c event solo ≡ facts → AreSound (mbim_protocol s) (event ∷ solo) → IsQuietThere s c (modem_bytes s c (event ∷ solo)) → stream c (event ∷ solo) ≡ stream c solo
        → modem_queue (wire s) facts ≡ [] → part c past ≡ part c facts → now past ≡ now facts → (list_any (is_end_of c) past ≡ false → Stands s c past facts) → Alike s c past (meet s c event solo) (stream c events)
    adds_alone event past facts P is sound quiet sent empty same time stands =
        let M = settles s R c client event solo sound A.rests quiet (inl (ap (modem_queue (wire s)) is ∙ empty)) in
        alike_settled s c past facts (meet s c event solo) (stream c events) P (subst (λ (l : List Fact). IsSettled s c l (history s (meet s c event solo))) is M.settled) M.may M.quiet (M.sent ∙ sent ∙ A.sent) same time stands

    -- nothing more than that it began
    begins_alone : (event : Event) → added_alone s c event solo ≡ own → AreSound (mbim_protocol s) (event ∷ solo) → IsQuietThere s c (modem_bytes s c (event ∷ solo)) → stream c (event ∷ solo) ≡ stream c solo → Alike s c begun (meet s c event solo) (stream c events)
    unfolding alone_part.part now to_modem modem_taken_count
    begins_alone event is sound quiet sent =
        adds_alone event begun own begun_too.orderly is sound quiet sent A.rests.queue A.same A.time
        (λ still. stands_like s c begun (history s solo) own (begun_like s c (history s solo) (history s solo) (like_itself s c (history s solo))) (begun_too.stands still))

    pub modem_goes : AlikeThen s c events solo ModemGone
    unfolding add_all alone.hear_all stream modem_stream
    modem_goes = by (modem_bytes s c events) (modem_bytes s c solo) refl refl streams_alike
      where
        by : (o own_o : Option (List ℕ)) → modem_bytes s c events ≡ o → modem_bytes s c solo ≡ own_o → is_none own_o ≡ is_none o
            → Alike s c (add_all (mbim_protocol s) (is_lost_once o) begun) (meet s c ModemGone (alone.hear_all (mbim_protocol s) (mbim_alone s) c (is_lost_once o) begun solo)) (stream c events)
        by None None is own_is both = begins_alone ModemGone (ap (λ (o : Option (List ℕ)). add_all (mbim_protocol s) (is_lost_once o) own) own_is) (tt, A.may) tt refl
        by None (Some before) is own_is both = absurd (let clash : false ≡ true = both in cc)
        by (Some before) own_o is own_is both = fails_alike s R c client begun solo (stream c events) begun_too (there_if before is)

    -- ---- a modem that returns ----

    returned_alike : (all alone : ModemState) → all ≡ IsAway → OpenAlike all alone → alone ≡ IsAway
    returned_alike IsAway IsAway is alike = refl
    returned_alike IsAway _ is alike = absurd alike
    returned_alike IsShut _ is alike = absurd (cc)
    returned_alike IsOpening _ is alike = absurd (cc)
    returned_alike IsReady _ is alike = absurd (cc)

    returns : modem_bytes s c events ≡ None → modem_bytes s c solo ≡ None → Alike s c (ModemReturned ∷ begun) (meet s c ModemBack solo) (stream c events)
    unfolding add_all alone_part.part now to_modem modem_taken_count stream modem_stream state in_use is_away
    returns is own_is =
        let away : state s.starts_away (history s events) ≡ IsAway = absent_is (state s.starts_away (history s events)) (sym A.orderly.order.away ∙ away_agrees (mbim_protocol s) (Asks s) (orderly s) events ∙ ap is_none is) in
        let P : IsOrderly s c (ModemReturned ∷ begun) = item_orderly s c client ModemReturns begun away begun_too.orderly in
        let none : is_waiting s c (part c (history s events)) ≡ false = waits_not s c client (history s events) A.orderly (λ opening. let clash : IsAway ≡ IsOpening = sym away ∙ opening in cc) in
        let none_then : is_waiting s c (part c (ModemReturned ∷ begun)) ≡ false = waits_not s c client (ModemReturned ∷ begun) P (λ opening. let clash : IsShut ≡ IsOpening = opening in cc) in
        adds_alone ModemBack (ModemReturned ∷ begun) (ModemReturned ∷ own) P (ap (λ (o : Option (List ℕ)). add_all (mbim_protocol s) (returns_once o) own) own_is) (tt, A.may)
        (subst (IsQuietThere s c) (sym (ap come_back own_is)) (starts_quiet s)) refl A.rests.queue (ap (λ (l : List Fact). ModemReturned ∷ l) A.same) A.time
        (λ still.
        let S : Stands s c (history s events) (history s solo) = A.stands still in
        let alike : OpenAlike (state s.starts_away (history s events)) (state s.starts_away (history s solo)) = subst (λ (b : Bool). Stand s c b (state s.starts_away (history s events)) (state s.starts_away (history s solo))) none S.states in
        let own_away : state s.starts_away (history s solo) ≡ IsAway = returned_alike (state s.starts_away (history s events)) (state s.starts_away (history s solo)) away alike in
        record {
          states = subst (λ (b : Bool). Stand s c b IsShut IsShut) (sym none_then) tt;
          asks = subst (λ (m : ModemState). AsksAlone s c m (history s events) (history s solo)) own_away S.asks;
        })

    pub modem_returns : AlikeThen s c events solo ModemBack
    unfolding add_all stream modem_stream
    modem_returns = by (modem_bytes s c events) (modem_bytes s c solo) refl refl streams_alike
      where
        by : (o own_o : Option (List ℕ)) → modem_bytes s c events ≡ o → modem_bytes s c solo ≡ own_o → is_none own_o ≡ is_none o → Alike s c (add_all (mbim_protocol s) (returns_once o) begun) (meet s c ModemBack solo) (stream c events)
        by None None is own_is both = returns is own_is
        by None (Some before) is own_is both = absurd (let clash : false ≡ true = both in cc)
        by (Some before) None is own_is both = absurd (let clash : true ≡ false = both in cc)
        by (Some before) (Some own_before) is own_is both =
            begins_alone ModemBack (ap (λ (o : Option (List ℕ)). add_all (mbim_protocol s) (returns_once o) own) own_is) (tt, A.may) (subst (IsQuietThere s c) (sym (ap come_back own_is)) (subst (IsQuietThere s c) own_is A.quiet)) refl

    -- ---- each of them ----

    pub heard_alike : (event : Event) → IsHeard event → AlikeThen s c events solo event
    heard_alike (ModemPiece bytes) is = modem_piece bytes
    heard_alike ModemGone is = modem_goes
    heard_alike ModemBack is = modem_returns
    heard_alike (Now time) is = now_shows time
    heard_alike _ is = absurd is
