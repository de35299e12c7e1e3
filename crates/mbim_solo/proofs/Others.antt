-- What others do, what the modem takes, and what the proxy asks at the end of an event, leave a client and itself alone alike.
use Rattle.std.proofs.Common.{◌≡◌, ◌≢◌, ℕ, ◌≤◌, Bool, true, false, ◌==◌, if◌then◌else◌, List, [], ◌∷◌, ◌++◌, refl, sym, ◌∙◌, subst}
use Rattle.std.specs.List.{AllByRecursion, list_any}
use Rattle.kit_bytes.proofs.Lists.{all_weaker}
use Rattle.mbim_frame.specs.Frame.{size_of}
use Rattle.proxy_history.specs.Events.{Event, Joined, Piece, Left, Took, ModemTook}
use Rattle.proxy_history.specs.Streams.{messages_of_piece, is_bad, stream}
use Rattle.proxy_history.specs.Items.{Item, Says, GoesBad, ClockShows, item_if, items_of}
use Rattle.proxy_history.specs.Facts.{Fact, Request, EventBegan}
use Rattle.proxy_history.specs.Requests.{pending}
use Rattle.proxy_history.specs.Modem.{now}
use Rattle.proxy_history.specs.Coming.{AreSound}
use Rattle.proxy_history.specs.History.{add_all}
use Rattle.proxy_history.proofs.Touching.{is_clock, sets_time, same_time, clock_alone}
use Rattle.proxy_history.proofs.Folds.{at_end}
use Rattle.proxy_history.proofs.Walk.{behind_messages, one_if, kept_by_items, kept_at_end}
use Rattle.proxy_solo.specs.Solo as alone
use Rattle.proxy_solo.proofs.Elsewhere.{IsElsewhere, items_elsewhere, finish_elsewhere}
use Rattle.mbim_proxy.specs.Setup.{Setup}
use Rattle.mbim_proxy.specs.ModemStates.{ModemState, IsAway, IsShut, IsOpening, IsReady, is_own_open, state}
use Rattle.mbim_proxy.specs.OwnList.{finish}
use Rattle.mbim_proxy.specs.History.{mbim_protocol, history}
use Rattle.mbim_proxy.proofs.Walk.{Asks, orderly}
use Rattle.mbim_solo.specs.Solo.{restated, mbim_alone}
use Rattle.mbim_solo.specs.Part.{part}
use Rattle.mbim_solo.specs.Openings.{WaitsToOpen, WaitFor, IsInOrder}
use Rattle.mbim_solo.proofs.Noted.{is_waiting}
use Rattle.mbim_solo.proofs.Relation.{IsOrderly, is_end_of, Stand, AsksAlone, Stands, Alike}
use Rattle.mbim_solo.proofs.Orderly.{event_orderly, finish_orderly}
use Rattle.mbim_solo.proofs.Changes.{MayBecome, opening_stays, OpensBy, Onwards, elsewhere_onwards, end_onwards, ended_before, ended_before_end}
use Rattle.mbim_solo.proofs.Standing.{passes_alone, begun_alike}

-- ---- how the client stands, while the modem opens at most ----

module _ (s : Setup) (c : ℕ) where
  stand_then : (waits : Bool) (all after own : ModemState) → MayBecome all after → Stand s c waits all own → Stand s c waits after own
  stand_then true IsOpening IsOpening own becomes stand = stand
  stand_then true IsOpening _ own becomes stand = absurd becomes
  stand_then true _ _ own becomes stand = absurd stand
  stand_then false IsAway IsAway own becomes stand = stand
  stand_then false IsShut IsShut own becomes stand = stand
  stand_then false IsShut IsOpening IsShut becomes stand = tt
  stand_then false IsShut IsOpening _ becomes stand = absurd stand
  stand_then false IsOpening IsOpening own becomes stand = stand
  stand_then false IsReady IsReady own becomes stand = stand
  stand_then false _ _ own becomes stand = absurd becomes

  -- the modem opens for all while it does alone
  opens_for_all : (waits : Bool) (all own : ModemState) → Stand s c waits all own → own ≡ IsOpening → all ≡ IsOpening
  opens_for_all true IsOpening IsOpening stand is = refl
  opens_for_all false IsAway IsAway stand is = is
  opens_for_all false IsShut IsShut stand is = is
  opens_for_all false IsOpening IsShut stand is = refl
  opens_for_all false IsReady IsShut stand is = absurd (let clash : IsShut ≡ IsOpening = is in cc)
  opens_for_all false IsReady IsReady stand is = is
  opens_for_all _ _ _ stand is = absurd stand

  -- no request that waits expires later
  abbrev EndBy : ℕ → List Request → Type 0
  EndBy time requests = AllByRecursion (λ r. r.deadline ≤ time) requests

  module _ (past after : List Fact) (onwards : Onwards s past after) (I : IsInOrder s after) where
    end_by_then : (time : ℕ) → state s.starts_away past ≡ IsOpening → EndBy time (pending past) → EndBy time (pending after)
    end_by_then time opening all =
        let still : state s.starts_away after ≡ IsOpening = opening_stays (state s.starts_away after) (subst (λ (m : ModemState). MayBecome m (state s.starts_away after)) opening onwards.becomes) in
        let waits : WaitsToOpen (pending after) = subst (λ (m : ModemState). WaitFor m (pending after)) still I.requests in
        let by : OpensBy s time (pending after) = onwards.opens_by time opening (all_weaker (λ (r : Request). r.deadline ≤ time) (λ (r : Request). is_own_open r ≡ true → r.deadline ≤ time) (λ r within opens. within) (pending past) all) in
        let one : OpensBy s time (waits.request ∷ []) = subst (OpensBy s time) waits.only by in
        subst (EndBy time) (sym waits.only) (one.0 waits.opens, tt)

    asks_then : (own : List Fact) (modem : ModemState) → (modem ≡ IsOpening → state s.starts_away past ≡ IsOpening) → AsksAlone s c modem past own → AsksAlone s c modem after own
    asks_then own IsAway opens asks = asks
    asks_then own IsShut opens asks = asks
    asks_then own IsOpening opens asks = record { request = asks.request; opens = asks.opens; only = asks.only; waits = asks.waits; later = end_by_then asks.request.deadline (opens refl) asks.later }
    asks_then own IsReady opens asks = asks

    stands_then : (own : List Fact) → part c after ≡ part c past → Stands s c past own → Stands s c after own
    stands_then own same S = record {
      states =
          subst (λ (facts : List Fact). Stand s c (is_waiting s c facts) (state s.starts_away after) (state s.starts_away own)) (sym same)
          (stand_then (is_waiting s c (part c past)) (state s.starts_away past) (state s.starts_away after) (state s.starts_away own) onwards.becomes S.states);
      asks = asks_then own (state s.starts_away own) (opens_for_all (is_waiting s c (part c past)) (state s.starts_away past) (state s.starts_away own) S.states) S.asks;
    }

    onwards_alike : (solo : List Event) (bytes : List ℕ) → IsOrderly s c after → part c after ≡ part c past → now after ≡ now past → (list_any (is_end_of c) after ≡ false → list_any (is_end_of c) past ≡ false) → Alike s c past solo bytes → Alike s c after solo bytes
    onwards_alike solo bytes O same time ended A = passes_alone s c past after solo bytes A O same time (λ still. stands_then (history s solo) same (A.stands (ended still)))

not_the_clock : (c : ℕ) (item : Item) → IsElsewhere c item → is_clock item ≡ false
not_the_clock c (ClockShows time) other = absurd other
not_the_clock c _ other = refl

module _ (s : Setup) (c : ℕ) (client : c ≢ 0) where
  -- ---- items of others ----

  pub elsewhere_alike : (items : List Item) (past : List Fact) (solo : List Event) (bytes : List ℕ) → AllByRecursion (IsElsewhere c) items → IsOrderly s c (add_all (mbim_protocol s) items past) → Alike s c past solo bytes → Alike s c (add_all (mbim_protocol s) items past) solo bytes
  elsewhere_alike items past solo bytes all O A =
      onwards_alike s c past (add_all (mbim_protocol s) items past) (elsewhere_onwards s c items past all A.orderly.sound) O.order solo bytes O (items_elsewhere c client (mbim_protocol s) (Asks s) (orderly s) restated items past all A.orderly.sound)
      (kept_by_items (mbim_protocol s) (Asks s) (orderly s) (λ after. now after ≡ now past) (IsElsewhere c)
      (λ item other fact before follows may asked is. same_time fact before (clock_alone item fact before (not_the_clock c item other) may) ∙ is) items past all A.orderly.sound refl)
      (ended_before s c items past A.orderly.sound) A

  -- ---- the end of an event ----

  pub finish_alike : (past : List Fact) (solo : List Event) (bytes : List ℕ) → Alike s c past solo bytes → Alike s c (finish s past) solo bytes
  finish_alike past solo bytes A =
      let O : IsOrderly s c (finish s past) = finish_orderly s c client past A.orderly in
      onwards_alike s c past (finish s past) (end_onwards s past A.orderly.sound) O.order solo bytes O (finish_elsewhere c client (mbim_protocol s) (Asks s) (orderly s) restated past A.orderly.sound)
      (kept_at_end (mbim_protocol s) (Asks s) (orderly s) (λ after. now after ≡ now past) (λ fact before follows may asked is. same_time fact before (at_end (λ f. sets_time f ≡ false) (λ r. refl) (λ list. refl) fact before may) ∙ is) past A.orderly.sound refl)
      (ended_before_end s c past A.orderly.sound) A

  -- ---- events of others ----

  module _ (events solo : List Event) (A : Alike s c (history s events) solo (stream c events)) where
    abbrev pub facts : Event → List Fact
    facts event = add_all (mbim_protocol s) (items_of (mbim_protocol s) events event) (EventBegan ∷ history s events)

    abbrev pub IsAlike : Event → Type 0
    IsAlike event = Alike s c (facts event) (alone.meet_event (mbim_protocol s) (mbim_alone s) c events event solo) (stream c (event ∷ events))

    of_another : (event : Event) → AreSound (mbim_protocol s) (event ∷ events) → AllByRecursion (IsElsewhere c) (items_of (mbim_protocol s) events event) → Alike s c (facts event) solo (stream c events)
    of_another event sound all =
        elsewhere_alike (items_of (mbim_protocol s) events event) (EventBegan ∷ history s events) solo (stream c events) all (event_orderly s c client event events sound) (begun_alike s c client (history s events) solo (stream c events) A)

    pub another_joined : (d : ℕ) → (d == c) ≡ false → AreSound (mbim_protocol s) (Joined d ∷ events) → IsAlike (Joined d)
    unfolding stream
    another_joined d other sound =
        subst (λ (b : Bool). Alike s c (facts (Joined d)) (alone.meet_if b (mbim_protocol s) (mbim_alone s) (Joined d) solo) (if b then [] else stream c events)) (sym other) (of_another (Joined d) sound (other, tt))

    pub another_sent : (d : ℕ) (bytes : List ℕ) → (d == c) ≡ false → AreSound (mbim_protocol s) (Piece d bytes ∷ events) → IsAlike (Piece d bytes)
    unfolding stream
    another_sent d bytes other sound =
        subst (λ (b : Bool). Alike s c (facts (Piece d bytes)) (if b then alone.meet_own (mbim_protocol s) (mbim_alone s) c events bytes solo else solo) (if b then stream c events ++ bytes else stream c events)) (sym other)
        (of_another (Piece d bytes) sound
        (behind_messages (IsElsewhere c) (λ m. Says d m) (messages_of_piece size_of (stream d events) bytes) (item_if (is_bad size_of (stream d events ++ bytes)) (GoesBad d)) (λ m. other)
        (one_if (IsElsewhere c) (is_bad size_of (stream d events ++ bytes)) (GoesBad d) other)))

    pub another_left : (d : ℕ) → (d == c) ≡ false → AreSound (mbim_protocol s) (Left d ∷ events) → IsAlike (Left d)
    unfolding stream
    another_left d other sound =
        subst (λ (b : Bool). Alike s c (facts (Left d)) (alone.meet_if b (mbim_protocol s) (mbim_alone s) (Left d) solo) (stream c events)) (sym other) (of_another (Left d) sound (other, tt))

    pub another_took : (d count : ℕ) → (d == c) ≡ false → AreSound (mbim_protocol s) (Took d count ∷ events) → IsAlike (Took d count)
    unfolding stream
    another_took d count other sound =
        subst (λ (b : Bool). Alike s c (facts (Took d count)) (alone.meet_if b (mbim_protocol s) (mbim_alone s) (Took d count) solo) (stream c events)) (sym other) (of_another (Took d count) sound (other, tt))

    pub modem_took : (count : ℕ) → AreSound (mbim_protocol s) (ModemTook count ∷ events) → IsAlike (ModemTook count)
    unfolding stream
    modem_took count sound = of_another (ModemTook count) sound (tt, tt)
