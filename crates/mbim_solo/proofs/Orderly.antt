-- A history of the MBIM proxy stays orderly with each item that may come, and at the end of each event.
use Rattle.std.proofs.Common.{◌≡◌, ◌≢◌, ℕ, ◌<◌, Bool, true, false, ◌==◌, is_none, nat_lt, if◌then◌else◌, List, [], ◌∷◌, ◌++◌, length, refl, sym, ◌∙◌, subst, arith, Option, Some, None}
use Rattle.std.specs.List.{AllByRecursion}
use Rattle.std.proofs.lemmas.Bool.{eqb-true}
use Rattle.std.proofs.lemmas.Bool.Decides.{nat_tests}
use Rattle.mbim_frame.specs.Frame.{size_of}
use Rattle.proxy_history.specs.Events.{Event, Joined, Piece, Left, ModemPiece, ModemGone, ModemBack, Now, Took, ModemTook}
use Rattle.proxy_history.specs.Streams.{messages_of_piece, is_bad, stream, modem_stream}
use Rattle.proxy_history.specs.Items.{Item, Joins, Says, GoesBad, Leaves, ModemSays, ModemIsLost, ModemReturns, ClockShows, Takes, ModemTakes, returns_once, items_of}
use Rattle.proxy_history.specs.Facts.{Fact, NotAdmitted, EventBegan, Admitted, Ended}
use Rattle.proxy_history.specs.Connections.{present}
use Rattle.proxy_history.specs.Modem.{is_away}
use Rattle.proxy_history.specs.Sound.{begins_anew}
use Rattle.proxy_history.specs.Coming.{greatest_name, MayCome, AreSound}
use Rattle.proxy_history.specs.Adding.{MayAdd, AreAsked}
use Rattle.proxy_history.specs.History.{add, add_all}
use Rattle.proxy_history.proofs.Folds.{at_end, away_agrees}
use Rattle.proxy_history.proofs.Walk.{sound_items, asked_items, histories_are_sound, kept_by_items, kept_at_end}
use Rattle.proxy_solo.specs.Part as alone_part
use Rattle.proxy_solo.proofs.Reading.{AreGeneral}
use Rattle.proxy_solo.proofs.Histories.{new_name, follows, placed_fact}
use Rattle.mbim_proxy.specs.Setup.{Setup}
use Rattle.mbim_proxy.specs.ModemStates.{IsAway, state}
use Rattle.mbim_proxy.specs.OwnList.{finish}
use Rattle.mbim_proxy.specs.History.{mbim_protocol, history}
use Rattle.mbim_proxy.proofs.Walk.{Asks, orderly}
use Rattle.mbim_solo.specs.Solo.{restated}
use Rattle.mbim_solo.specs.Part.{part}
use Rattle.mbim_solo.proofs.Reading.{reads}
use Rattle.mbim_solo.proofs.Places.{IsPlacedIn, newest}
use Rattle.mbim_solo.proofs.Once.{item_once, finish_once}
use Rattle.mbim_solo.proofs.Histories.{histories_are_fit}
use Rattle.mbim_solo.proofs.Orders as orders
use Rattle.mbim_solo.proofs.Orders.{absent_is, always, item_in_order, finish_in_order, begun_in_order, clients_always, modems_always, gone_always, not_zero, histories_in_order}
use Rattle.mbim_solo.proofs.Relation.{IsOrderly}

joins : Item → Bool
joins (Joins d) = true
joins _ = false

module _ (s : Setup) (c : ℕ) (client : c ≢ 0) where
  -- a client joins of whom nothing was heard before, and a modem returns that was away
  abbrev pub MayMeet : Item → List Fact → Type 0
  MayMeet (Joins d) past = ((d == 0) ≡ false) × ((d == c) ≡ true → AreGeneral (part c past))
  MayMeet ModemReturns past = state s.starts_away past ≡ IsAway
  MayMeet _ past = Unit {0}

  -- ---- one item ----

  in_order_too : (item : Item) (past : List Fact) → MayMeet item past → orders.MayMeet s item past
  in_order_too (Joins d) past may = may.0
  in_order_too ModemReturns past may = may
  in_order_too _ past may = tt

  nobody_anew : (item : Item) → joins item ≡ false → (fact : Fact) (past : List Fact) → MayAdd item fact past → begins_anew c fact ≡ false
  unfolding joins
  nobody_anew (Joins d) other fact past may = absurd (let clash : true ≡ false = other in cc)
  nobody_anew _ other (Admitted e) past may = absurd may
  nobody_anew _ other (Ended e NotAdmitted) past may = absurd may
  nobody_anew _ other _ past may = refl

  joined_placed : (d : ℕ) (past : List Fact) → ((d == c) ≡ true → AreGeneral (part c past)) → IsPlacedIn s c past → IsPlacedIn s c (add (mbim_protocol s) (Joins d) past)
  joined_placed d past unheard P = by (nat_lt (length (present past)) s.limits.connections) refl
    where
      by : (b : Bool) → nat_lt (length (present past)) s.limits.connections ≡ b → IsPlacedIn s c (let after : List Fact = if b then Admitted d ∷ past else Ended d NotAdmitted ∷ past in after)
      by true room = record { sound = (grind (arith, nat_tests, room), P.sound); placed = (unheard, P.placed) }
      by false full = record { sound = (grind (arith, nat_tests, full), P.sound); placed = (tt, P.placed) }

  other_placed : (item : Item) (past : List Fact) → joins item ≡ false → IsPlacedIn s c past → IsPlacedIn s c (add (mbim_protocol s) item past)
  unfolding add_all
  other_placed item past other P =
      kept_by_items (mbim_protocol s) (Asks s) (orderly s) (IsPlacedIn s c) (λ item. joins item ≡ false)
      (λ item other fact before follows may asked held. placed_fact (mbim_protocol s) (Asks s) (orderly s) restated reads c client (newest s c client) fact before (nobody_anew item other fact before may) follows asked held)
      (item ∷ []) past (other, tt) P.sound P

  item_placed : (item : Item) (past : List Fact) → MayMeet item past → IsPlacedIn s c past → IsPlacedIn s c (add (mbim_protocol s) item past)
  unfolding joins
  item_placed (Joins d) past may P = joined_placed d past may.1 P
  item_placed (Says d m) past may P = other_placed (Says d m) past refl P
  item_placed (GoesBad d) past may P = other_placed (GoesBad d) past refl P
  item_placed (Leaves d) past may P = other_placed (Leaves d) past refl P
  item_placed (ModemSays m) past may P = other_placed (ModemSays m) past refl P
  item_placed ModemIsLost past may P = other_placed ModemIsLost past refl P
  item_placed ModemReturns past may P = other_placed ModemReturns past refl P
  item_placed (ClockShows time) past may P = other_placed (ClockShows time) past refl P
  item_placed (Takes d count) past may P = other_placed (Takes d count) past refl P
  item_placed (ModemTakes count) past may P = other_placed (ModemTakes count) past refl P

  pub item_orderly : (item : Item) (past : List Fact) → MayMeet item past → IsOrderly s c past → IsOrderly s c (add (mbim_protocol s) item past)
  unfolding add_all
  item_orderly item past may O = record {
    sound = sound_items (mbim_protocol s) (Asks s) (orderly s) (item ∷ []) past O.sound;
    order = item_in_order s item past (in_order_too item past may) O.sound O.order;
    fit = record {
      placed = item_placed item past may O.fit.placed;
      once = item_once s c item past O.sound O.fit.once;
      asked = asked_items (mbim_protocol s) (Asks s) (orderly s) (item ∷ []) past O.sound O.fit.asked;
    };
  }

  -- ---- several items ----

  always_may : (item : Item) (past : List Fact) → always s item ≡ true → MayMeet item past
  unfolding always
  always_may (Joins d) past e = absurd (let clash : false ≡ true = e in cc)
  always_may ModemReturns past e = absurd (let clash : false ≡ true = e in cc)
  always_may _ past e = tt

  -- what each of those that may always come keeps
  module _ (P : List Fact → Type 0) (keeps : (item : Item) (past : List Fact) → MayMeet item past → IsOrderly s c past → P past → P (add (mbim_protocol s) item past)) where
    abbrev pub Kept : List Fact → Type 0
    Kept past = IsOrderly s c past × P past

    pub items_keep : (items : List Item) (past : List Fact) → AllByRecursion (λ item. always s item ≡ true) items → Kept past → Kept (add_all (mbim_protocol s) items past)
    unfolding add_all
    items_keep [] past all K = K
    items_keep (item ∷ items) past all K =
        let may : MayMeet item past = always_may item past all.0 in
        items_keep items (add (mbim_protocol s) item past) all.1 (item_orderly item past may K.0, keeps item past may K.0 K.1)

  pub items_orderly : (items : List Item) (past : List Fact) → AllByRecursion (λ item. always s item ≡ true) items → IsOrderly s c past → IsOrderly s c (add_all (mbim_protocol s) items past)
  items_orderly items past all O = (items_keep (λ past. Unit {0}) (λ item past may O held. tt) items past all (O, tt)).0

  -- ---- the begin and the end of an event ----

  pub begun_orderly : (past : List Fact) → IsOrderly s c past → IsOrderly s c (EventBegan ∷ past)
  begun_orderly past O = record {
    sound = (tt, O.sound);
    order = begun_in_order s past O.order;
    fit = record { placed = record { sound = (tt, O.sound); placed = (tt, O.fit.placed.placed) }; once = (tt, O.fit.once); asked = (tt, O.fit.asked) };
  }

  pub finish_orderly : (past : List Fact) → IsOrderly s c past → IsOrderly s c (finish s past)
  finish_orderly past O =
      let placed : IsPlacedIn s c (finish s past) =
      kept_at_end (mbim_protocol s) (Asks s) (orderly s) (IsPlacedIn s c)
      (λ fact before follows may asked held. placed_fact (mbim_protocol s) (Asks s) (orderly s) restated reads c client (newest s c client) fact before (at_end (λ f. begins_anew c f ≡ false) (λ r. refl) (λ list. refl) fact before may) follows asked held) past O.sound O.fit.placed
      in
      record {
        sound = placed.sound;
        order = finish_in_order s past O.order;
        fit = record {
          placed = placed;
          once = finish_once s c past O.sound O.fit.once;
          asked = kept_at_end (mbim_protocol s) (Asks s) (orderly s) (AreAsked (mbim_protocol s) (Asks s)) (λ fact before follows may asked held. (asked, held)) past O.sound O.fit.asked;
        };
      }

  -- ---- every event ----

  pub histories_are_orderly : (events : List Event) → AreSound (mbim_protocol s) events → IsOrderly s c (history s events)
  histories_are_orderly events sound = record {
    sound = histories_are_sound (mbim_protocol s) (Asks s) (orderly s) events;
    order = histories_in_order s events sound;
    fit = histories_are_fit s c client events sound;
  }

  -- a client that joins is new
  pub new_is_unheard : (events : List Event) → AreSound (mbim_protocol s) events → greatest_name events < c → AreGeneral (part c (history s events))
  new_is_unheard events sound rises = (follows (mbim_protocol s) (Asks s) (orderly s) restated reads c client (newest s c client) events sound).unheard (new_name c events rises)

  -- what each item of an event keeps, up to its end
  module _ (P : List Fact → Type 0) (keeps : (item : Item) (past : List Fact) → MayMeet item past → IsOrderly s c past → P past → P (add (mbim_protocol s) item past)) (events : List Event) (sound : AreSound (mbim_protocol s) events) (held : P (EventBegan ∷ history s events)) where
    abbrev KeptBy : Event → Type 0
    KeptBy event = IsOrderly s c (add_all (mbim_protocol s) (items_of (mbim_protocol s) events event) (EventBegan ∷ history s events)) × P (add_all (mbim_protocol s) (items_of (mbim_protocol s) events event) (EventBegan ∷ history s events))

    before : IsOrderly s c (history s events)
    before = histories_are_orderly events sound

    begun : IsOrderly s c (EventBegan ∷ history s events)
    begun = begun_orderly (history s events) before

    one : (item : Item) → MayMeet item (EventBegan ∷ history s events) → IsOrderly s c (add (mbim_protocol s) item (EventBegan ∷ history s events)) × P (add (mbim_protocol s) item (EventBegan ∷ history s events))
    one item may = (item_orderly item (EventBegan ∷ history s events) may begun, keeps item (EventBegan ∷ history s events) may begun held)

    agrees : is_away s.starts_away (history s events) ≡ is_none (modem_stream size_of s.starts_away events)
    agrees = away_agrees (mbim_protocol s) (Asks s) (orderly s) events

    returns : (o : Option (List ℕ)) → is_away s.starts_away (history s events) ≡ is_none o → IsOrderly s c (add_all (mbim_protocol s) (returns_once o) (EventBegan ∷ history s events)) × P (add_all (mbim_protocol s) (returns_once o) (EventBegan ∷ history s events))
    unfolding add_all state
    returns None e = one ModemReturns (absent_is (state s.starts_away (history s events)) (sym before.order.away ∙ e))
    returns (Some bytes) e = (begun, held)

    goes : (event : Event) → AllByRecursion (λ item. always s item ≡ true) (items_of (mbim_protocol s) events event) → KeptBy event
    goes event all = items_keep P keeps (items_of (mbim_protocol s) events event) (EventBegan ∷ history s events) all (begun, held)

    pub event_keeps : (event : Event) → MayCome (mbim_protocol s) event events → KeptBy event
    unfolding add_all alone_part.part always
    event_keeps (Joined d) rises = one (Joins d) (not_zero s d (greatest_name events) rises, λ mine. new_is_unheard events sound (subst (λ (x : ℕ). greatest_name events < x) (eqb-true d c mine) rises))
    event_keeps (Piece d bytes) may = goes (Piece d bytes) (clients_always s d (messages_of_piece size_of (stream d events) bytes) (is_bad size_of (stream d events ++ bytes)))
    event_keeps (Left d) may = goes (Left d) (refl, tt)
    event_keeps (ModemPiece bytes) may = goes (ModemPiece bytes) (modems_always s bytes (modem_stream size_of s.starts_away events))
    event_keeps ModemGone may = goes ModemGone (gone_always s (modem_stream size_of s.starts_away events))
    event_keeps ModemBack may = returns (modem_stream size_of s.starts_away events) agrees
    event_keeps (Now time) may = goes (Now time) (refl, tt)
    event_keeps (Took d count) may = goes (Took d count) (refl, tt)
    event_keeps (ModemTook count) may = goes (ModemTook count) (refl, tt)

  -- an event, up to its end
  pub event_orderly : (event : Event) (events : List Event) → AreSound (mbim_protocol s) (event ∷ events) → IsOrderly s c (add_all (mbim_protocol s) (items_of (mbim_protocol s) events event) (EventBegan ∷ history s events))
  event_orderly event events sound = (event_keeps (λ past. Unit {0}) (λ item past may O held. tt) events sound.1 tt event sound.0).0
