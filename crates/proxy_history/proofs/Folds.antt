-- What each event leaves as it is, in the history of an orderly protocol: folds over what its items add.
use Rattle.std.proofs.Common.{◌≡◌, ℕ, Bool, true, false, not, ◌&&◌, ◌==◌, if◌then◌else◌, List, [], ◌∷◌, ◌++◌, map, refl, ap, ◌∙◌, All, Option, Some, None, is_none, nat_lt, length}
use Rattle.std.proofs.lemmas.Bool.{eq-eqb}
use Rattle.std.specs.List.{AllByRecursion}
use Rattle.std.proofs.lemmas.List.Elements.{All-nil, All-cons}
use Rattle.kit_bytes.specs.Subscriptions.{Pair}
use Rattle.proxy_history.specs.Events.{Event, Joined, Piece, Left, ModemPiece, ModemGone, ModemBack, Now, Took, ModemTook, joins_or_takes, is_anothers, modem_takes}
use Rattle.proxy_history.specs.Streams.{messages_of_piece, is_bad, stream, modem_stream, with_piece, come_back}
use Rattle.proxy_history.specs.Items.{Item, Joins, Says, GoesBad, Leaves, ModemSays, ModemIsLost, ModemReturns, ClockShows, Takes, item_if, delivered_by_piece, modem_items, is_lost_once, returns_once, items_of}
use Rattle.proxy_history.specs.Facts.{Admitted, Ended, NotAdmitted, Taken, Fact, Request, EventBegan, Forwarded, ListSent, ModemLost}
use Rattle.proxy_history.specs.Connections.{present, is_present}
use Rattle.proxy_history.specs.Modem.{now, is_away, to_modem, modem_taken_count}
use Rattle.proxy_history.specs.View.{Taking, End, entry_if, Entry, view}
use Rattle.proxy_history.specs.Rendering.{empty, take_waiting, render, Grows}
use Rattle.proxy_history.specs.Wording.{text_behind}
use Rattle.proxy_history.specs.Noting.{join, rendering}
use Rattle.proxy_history.specs.HungUp.{is_beginning}
use Rattle.proxy_history.specs.Unanswered.{abort_all}
use Rattle.proxy_history.specs.Sound.{IsSound}
use Rattle.proxy_history.specs.Protocol.{Protocol}
use Rattle.proxy_history.specs.History.{add, add_all, history, text_for}
use Rattle.proxy_history.specs.Adding.{MayAdd, MayFinish, Soundly, IsOrderly}
use Rattle.proxy_history.specs.Orderly.{time_then}
use Rattle.proxy_history.proofs.Growing.{begins_or_takes, grows_further, fact_grows}
use Rattle.proxy_history.proofs.Adding.{extends_keeps}
use Rattle.proxy_history.proofs.Touching.{begins_no_event, sets_time, same_time, is_clock, clock_alone, moves_modem, same_away, fails_or_returns, losses_alone, takes_from_queue, fails_or_takes, takings_alone, QueueGrows, queue_same, queue_grows, enters, same_view, is_anothers_item, others_enter_nothing, item_joins_or_takes, joinings_alone}
use Rattle.proxy_history.proofs.Walk.{add_all-append, IsOf, behind_messages, one_if, stays_sound, item_adds, tick_is, sound_items, begun_is_sound, kept_by_items, kept_at_end, kept_by_event}

-- what the proxy adds at the end of an event are requests of its own
pub at_end : (Q : Fact → Type 0) → ((r : Request) → Q (Forwarded r)) → ((list : List Pair) → Q (ListSent list)) → (fact : Fact) (past : List Fact) → MayFinish fact past → Q fact
at_end Q requests lists (Forwarded r) past may = requests r
at_end Q requests lists (ListSent list) past may = lists list
at_end Q requests lists _ past may = absurd may

abbrev is_now : Event → Bool
is_now (Now time) = true
is_now _ = false

module _ {Known : Type 0} (p : Protocol Known) (Asks : Request → List Fact → Type 0) (O : IsOrderly p Asks) where
  -- ---- what an event adds ----

  -- the facts of one event, behind the fact that begins it
  pub record IsSince (before past : List Fact) : Type 0 where
    pub since : List Fact
    pub whole : past ≡ since ++ EventBegan ∷ before
    pub none : All (λ fact. is_beginning fact ≡ false) since

  one_since : (before : List Fact) (fact : Fact) (past : List Fact) → is_beginning fact ≡ false → IsSince before past → IsSince before (fact ∷ past)
  one_since before fact past other g = record {
    since = fact ∷ g.since;
    whole = ap (λ (l : List Fact). fact ∷ l) g.whole;
    none = All-cons (λ f. is_beginning f ≡ false) fact g.since other g.none;
  }

  pub events_add : (event : Event) (events : List Event) → IsSince (history p events) (history p (event ∷ events))
  events_add event events =
      let before : List Fact = history p events in
      kept_by_event p Asks O (IsSince before) event
      (λ item of fact past follows may asked. one_since before fact past (begins_no_event item fact past may))
      (λ fact past follows may asked. one_since before fact past (at_end (λ f. is_beginning f ≡ false) (λ r. refl) (λ list. refl) fact past may))
      events (record { since = []; whole = refl; none = All-nil (λ f. is_beginning f ≡ false) })

  -- ---- the bytes for a client ----

  module _ (client : ℕ) where
    -- whatever others do, the client's view stays
    others_items : (event : Event) (item : Item) → IsOf event item → is_anothers client event ≡ true → is_anothers_item client item ≡ true
    others_items (Joined c) (Joins d) is other = ap (λ (x : ℕ). not (x == client)) is ∙ other
    others_items (Piece c bytes) (Says d m) is other = ap (λ (x : ℕ). not (x == client)) is ∙ other
    others_items (Piece c bytes) (GoesBad d) is other = ap (λ (x : ℕ). not (x == client)) is ∙ other
    others_items (Left c) (Leaves d) is other = ap (λ (x : ℕ). not (x == client)) is ∙ other
    others_items (Took c count) (Takes d taken) is other = ap (λ (x : ℕ). not (x == client)) is.0 ∙ other
    others_items (Joined c) _ is other = absurd is
    others_items (Piece c bytes) _ is other = absurd is
    others_items (Left c) _ is other = absurd is
    others_items (Took c count) _ is other = absurd is
    others_items _ _ is other = absurd (cc)

    abbrev view_now : List Fact → List Entry
    view_now past = view p.wording.blank client past

    finish_keeps_view : (past : List Fact) → IsSound p.limits past → view_now (p.finish past) ≡ view_now past
    finish_keeps_view past sound =
        kept_at_end p Asks O (λ after. view_now after ≡ view_now past)
        (λ fact before follows may asked is. same_view client p.wording.blank fact before (at_end (λ f. enters client f ≡ false) (λ r. refl) (λ list. refl) fact before may) ∙ is)
        past sound refl

    pub others_change_nothing : (event : Event) (events : List Event) → is_anothers client event ≡ true → text_for p client (event ∷ events) ≡ text_for p client events
    unfolding view
    others_change_nothing event events other =
        ap (render p.limits.outbox (text_behind p.wording))
        (kept_by_event p Asks O (λ after. view_now after ≡ view_now (history p events)) event
        (λ item of fact past follows may asked is. same_view client p.wording.blank fact past (others_enter_nothing client item fact past (others_items event item of other) may) ∙ is)
        (λ fact past follows may asked is. same_view client p.wording.blank fact past (at_end (λ f. enters client f ≡ false) (λ r. refl) (λ list. refl) fact past may) ∙ is)
        events refl)

    -- its bytes only grow, but where it joins or its socket takes some
    quiet_items : (event : Event) (item : Item) → IsOf event item → joins_or_takes client event ≡ false → item_joins_or_takes client item ≡ false
    quiet_items (Joined c) (Joins d) is none = ap (λ (x : ℕ). x == client) is ∙ none
    quiet_items (Took c count) (Takes d taken) is none = ap (λ (x : ℕ). x == client) is.0 ∙ none
    quiet_items _ (Joins d) is none = absurd is
    quiet_items _ (Takes d taken) is none = absurd is
    quiet_items _ _ is none = refl

    abbrev GrowsFrom : List Fact → List Fact → Type 0
    GrowsFrom past after = Grows (rendering p.limits p.wording client past) (rendering p.limits p.wording client after)

    one_grows : (before : List Fact) (fact : Fact) (past : List Fact) → begins_or_takes client fact ≡ false → GrowsFrom before past → GrowsFrom before (fact ∷ past)
    one_grows before fact past none grown = grows_further p.limits p.wording client before past (fact ∷ past) grown (fact_grows p.limits p.wording client fact past none)

    pub bytes_grow : (event : Event) (events : List Event) → joins_or_takes client event ≡ false → Grows (text_for p client events) (text_for p client (event ∷ events))
    bytes_grow event events none =
        let before : List Fact = history p events in
        kept_by_event p Asks O (GrowsFrom before) event
        (λ item of fact past follows may asked. one_grows before fact past (joinings_alone client item fact past (quiet_items event item of none) may))
        (λ fact past follows may asked. one_grows before fact past (at_end (λ f. begins_or_takes client f ≡ false) (λ r. refl) (λ list. refl) fact past may))
        events (fact_grows p.limits p.wording client EventBegan before refl)

    -- a client that joins has none yet, and a taking takes the first of those that wait
    joined_view : (past : List Fact) → render p.limits.outbox (text_behind p.wording) (view_now (join p.limits client past)) ≡ empty
    unfolding view render
    joined_view past =
        elim (nat_lt (length (present past)) p.limits.connections) as (λ b. render p.limits.outbox (text_behind p.wording) (view_now (if b then Admitted client ∷ past else Ended client NotAdmitted ∷ past)) ≡ empty) [
          | true ↦ ap (λ (b : Bool). render p.limits.outbox (text_behind p.wording) (if b then [] else view_now past)) (eq-eqb client client refl)
          | false ↦ ap (λ (b : Bool). render p.limits.outbox (text_behind p.wording) (if b then End NotAdmitted ∷ [] else view_now past)) (eq-eqb client client refl)
        ]

    -- what stands in the view before the proxy adds its own at the end stands there after it
    ended_view : (items : List Item) (events : List Event)
        → render p.limits.outbox (text_behind p.wording) (view_now (p.finish (add_all p items (EventBegan ∷ history p events)))) ≡ render p.limits.outbox (text_behind p.wording) (view_now (add_all p items (EventBegan ∷ history p events)))
    ended_view items events = ap (render p.limits.outbox (text_behind p.wording)) (finish_keeps_view (add_all p items (EventBegan ∷ history p events)) (sound_items p Asks O items (EventBegan ∷ history p events) (begun_is_sound p Asks O events)))

    pub joining_starts_with_none : (events : List Event) → text_for p client (Joined client ∷ events) ≡ empty
    unfolding history add_all
    joining_starts_with_none events = ended_view (Joins client ∷ []) events ∙ joined_view (EventBegan ∷ history p events)

    pub taking_takes_the_first : (count : ℕ) (events : List Event) → is_present client (history p events) ≡ true → text_for p client (Took client count ∷ events) ≡ take_waiting count (text_for p client events)
    unfolding history add_all view render present
    taking_takes_the_first count events there =
        let past : List Fact = EventBegan ∷ history p events in
        ended_view (Takes client count ∷ []) events
        ∙ ap (λ (b : Bool). render p.limits.outbox (text_behind p.wording) (view_now (if b then Taken client count ∷ past else past))) there
        ∙ ap (λ (b : Bool). render p.limits.outbox (text_behind p.wording) (entry_if b (Taking count) (view_now (history p events)))) (eq-eqb client client refl)

    pub taking_of_the_absent_takes_none : (count : ℕ) (events : List Event) → is_present client (history p events) ≡ false → text_for p client (Took client count ∷ events) ≡ text_for p client events
    unfolding history add_all view present
    taking_of_the_absent_takes_none count events absent =
        let past : List Fact = EventBegan ∷ history p events in
        ended_view (Takes client count ∷ []) events
        ∙ ap (λ (b : Bool). render p.limits.outbox (text_behind p.wording) (view_now (if b then Taken client count ∷ past else past))) absent

    pub taking_takes : (count : ℕ) (events : List Event) → text_for p client (Took client count ∷ events) ≡ (if is_present client (history p events) then take_waiting count (text_for p client events) else text_for p client events)
    taking_takes count events = by (is_present client (history p events)) refl
      where
        by : (there : Bool) → is_present client (history p events) ≡ there → text_for p client (Took client count ∷ events) ≡ (if there then take_waiting count (text_for p client events) else text_for p client events)
        by true is = taking_takes_the_first count events is
        by false is = taking_of_the_absent_takes_none count events is

  -- ---- the time ----

  clockless_items : (event : Event) (item : Item) → IsOf event item → is_now event ≡ false → is_clock item ≡ false
  clockless_items (Now time) _ is none = absurd (cc)
  clockless_items _ (ClockShows time) is none = absurd is
  clockless_items _ _ is none = refl

  finish_keeps_time : (past : List Fact) → IsSound p.limits past → now (p.finish past) ≡ now past
  finish_keeps_time past sound =
      kept_at_end p Asks O (λ after. now after ≡ now past)
      (λ fact before follows may asked is. same_time fact before (at_end (λ f. sets_time f ≡ false) (λ r. refl) (λ list. refl) fact before may) ∙ is)
      past sound refl

  others_keep_time : (event : Event) (events : List Event) → is_now event ≡ false → now (history p (event ∷ events)) ≡ now (history p events)
  unfolding now
  others_keep_time event events none =
      kept_by_event p Asks O (λ after. now after ≡ now (history p events)) event
      (λ item of fact past follows may asked is. same_time fact past (clock_alone item fact past (clockless_items event item of none) may) ∙ is)
      (λ fact past follows may asked is. same_time fact past (at_end (λ f. sets_time f ≡ false) (λ r. refl) (λ list. refl) fact past may) ∙ is)
      events refl

  pub time_agrees : (event : Event) (events : List Event) → now (history p (event ∷ events)) ≡ time_then event (now (history p events))
  unfolding history add_all now
  time_agrees (Now time) events =
      let begun = begun_is_sound p Asks O events in
      finish_keeps_time (add_all p (ClockShows time ∷ []) (EventBegan ∷ history p events)) (sound_items p Asks O (ClockShows time ∷ []) (EventBegan ∷ history p events) begun)
      ∙ tick_is p Asks O time (EventBegan ∷ history p events) begun
  time_agrees event events = others_keep_time event events refl

  -- ---- whether the modem is away ----

  module _ (away : Bool) where
    abbrev Is : List Fact → Bool
    Is past = is_away away past

    away_then : Bool → Item → Bool
    away_then before ModemIsLost = true
    away_then before ModemReturns = false
    away_then before _ = before

    away_after : Bool → List Item → Bool
    away_after before [] = before
    away_after before (item ∷ items) = away_after (away_then before item) items

    -- an item that neither loses the modem nor brings it back
    pub item_keeps_away : (item : Item) (past : List Fact) → IsSound p.limits past → fails_or_returns item ≡ false → Is (add p item past) ≡ Is past
    item_keeps_away item past sound none =
        extends_keeps (Soundly p Asks (MayAdd item)) (λ after. Is after ≡ Is past) (λ fact before may is. same_away away fact before (losses_alone item fact before none may.1) ∙ is)
        past (add p item past) (item_adds p Asks O item past sound).extends refl

    item_moves : (item : Item) (past : List Fact) → IsSound p.limits past → Is (add p item past) ≡ away_then (Is past) item
    unfolding away_then is_away
    item_moves ModemIsLost past sound = refl
    item_moves ModemReturns past sound = refl
    item_moves item past sound = item_keeps_away item past sound refl

    items_move : (items : List Item) (past : List Fact) → IsSound p.limits past → Is (add_all p items past) ≡ away_after (Is past) items
    unfolding add_all away_after
    items_move [] past sound = refl
    items_move (item ∷ items) past sound =
        items_move items (add p item past) (stays_sound p Asks O (MayAdd item) past (add p item past) (item_adds p Asks O item past sound) sound)
        ∙ ap (λ (b : Bool). away_after b items) (item_moves item past sound)

    finish_keeps_away : (past : List Fact) → IsSound p.limits past → Is (p.finish past) ≡ Is past
    finish_keeps_away past sound =
        kept_at_end p Asks O (λ after. Is after ≡ Is past)
        (λ fact before follows may asked is. same_away away fact before (at_end (λ f. moves_modem f ≡ false) (λ r. refl) (λ list. refl) fact before may) ∙ is)
        past sound refl

    -- the same is said by the stream
    skipped : (before : Bool) (to_item : List ℕ → Item) (messages : List (List ℕ)) (items : List Item) → ((m : List ℕ) → away_then before (to_item m) ≡ before)
        → away_after before (map to_item messages ++ items) ≡ away_after before items
    unfolding away_after
    skipped before to_item [] items skips = refl
    skipped before to_item (m ∷ messages) items skips = ap (λ (b : Bool). away_after b (map to_item messages ++ items)) (skips m) ∙ skipped before to_item messages items skips

    piece_agrees : (piece : List ℕ) (before : Option (List ℕ)) → away_after (is_none before) (modem_items p piece before) ≡ is_none (with_piece p.size piece before)
    unfolding away_after away_then
    piece_agrees piece None = refl
    piece_agrees piece (Some before) =
        skipped false (λ m. ModemSays m) (delivered_by_piece p before piece) (item_if (is_bad p.size (before ++ piece)) ModemIsLost) (λ m. refl)
        ∙ elim (is_bad p.size (before ++ piece)) as (λ b. away_after false (item_if b ModemIsLost) ≡ is_none (if b then None else Some (before ++ piece))) [ true ↦ refl | false ↦ refl ]

    gone_agrees : (before : Option (List ℕ)) → away_after (is_none before) (is_lost_once before) ≡ true
    unfolding away_after away_then
    gone_agrees None = refl
    gone_agrees (Some before) = refl

    back_agrees : (before : Option (List ℕ)) → away_after (is_none before) (returns_once before) ≡ is_none (come_back before)
    unfolding away_after away_then
    back_agrees None = refl
    back_agrees (Some before) = refl

    client_agrees : (b bad : Bool) (c : ℕ) (messages : List (List ℕ)) → away_after b (map (λ m. Says c m) messages ++ item_if bad (GoesBad c)) ≡ b
    unfolding away_after away_then
    client_agrees b bad c messages =
        skipped b (λ m. Says c m) messages (item_if bad (GoesBad c)) (λ m. refl)
        ∙ elim bad as (λ t. away_after b (item_if t (GoesBad c)) ≡ b) [ true ↦ refl | false ↦ refl ]

  abbrev pub stream_now : List Event → Option (List ℕ)
  stream_now events = modem_stream p.size p.starts_away events

  event_agrees : (event : Event) (events : List Event) → away_after p.starts_away (is_none (stream_now events)) (items_of p events event) ≡ is_none (stream_now (event ∷ events))
  unfolding away_after away_then modem_stream
  event_agrees (Joined c) events = refl
  event_agrees (Piece c bytes) events = client_agrees p.starts_away (is_none (stream_now events)) (is_bad p.size (stream c events ++ bytes)) c (messages_of_piece p.size (stream c events) bytes)
  event_agrees (Left c) events = refl
  event_agrees (ModemPiece bytes) events = piece_agrees p.starts_away bytes (stream_now events)
  event_agrees ModemGone events = gone_agrees p.starts_away (stream_now events)
  event_agrees ModemBack events = back_agrees p.starts_away (stream_now events)
  event_agrees (Now time) events = refl
  event_agrees (Took c count) events = refl
  event_agrees (ModemTook count) events = refl

  pub away_agrees : (events : List Event) → is_away p.starts_away (history p events) ≡ is_none (stream_now events)
  unfolding history is_away modem_stream
  away_agrees [] = elim p.starts_away as (λ b. b ≡ is_none (let before : Option (List ℕ) = if b then None else Some [] in before)) [ true ↦ refl | false ↦ refl ]
  away_agrees (event ∷ events) =
      let begun = begun_is_sound p Asks O events in
      finish_keeps_away p.starts_away _ (sound_items p Asks O (items_of p events event) (EventBegan ∷ history p events) begun)
      ∙ items_move p.starts_away (items_of p events event) (EventBegan ∷ history p events) begun
      ∙ ap (λ (b : Bool). away_after p.starts_away b (items_of p events event)) (away_agrees events)
      ∙ event_agrees event events

  -- ---- the bytes for the modem ----

  NoneFails : List Item → Type 0
  NoneFails items = AllByRecursion (λ item. fails_or_takes item ≡ false) items

  none_fails : (to_item : List ℕ → Item) (messages : List (List ℕ)) (items : List Item) → ((m : List ℕ) → fails_or_takes (to_item m) ≡ false) → NoneFails items → NoneFails (map to_item messages ++ items)
  unfolding NoneFails
  none_fails to_item messages items other none = behind_messages (λ item. fails_or_takes item ≡ false) to_item messages items other none

  -- whether the stream of the modem ends
  abbrev pub is_lost : Option (List ℕ) → Option (List ℕ) → Bool
  is_lost before after = not (is_none before) && is_none after

  -- whether the history says so
  pub lost_as_its_stream : (event : Event) (events : List Event)
      → (not (is_away p.starts_away (history p events)) && is_away p.starts_away (history p (event ∷ events))) ≡ is_lost (stream_now events) (stream_now (event ∷ events))
  lost_as_its_stream event events =
      ap (λ (b : Bool). not b && is_away p.starts_away (history p (event ∷ events))) (away_agrees events)
      ∙ ap (λ (b : Bool). not (is_none (stream_now events)) && b) (away_agrees (event ∷ events))

  piece_goes_on : (piece : List ℕ) (before : Option (List ℕ)) → is_lost before (with_piece p.size piece before) ≡ false → NoneFails (modem_items p piece before)
  unfolding NoneFails
  piece_goes_on piece None going = tt
  piece_goes_on piece (Some before) going =
      elim (is_bad p.size (before ++ piece)) as (λ b. is_lost (Some before) (if b then None else Some (before ++ piece)) ≡ false → NoneFails (map (λ m. ModemSays m) (delivered_by_piece p before piece) ++ item_if b ModemIsLost)) [
        | true ↦ λ e. absurd (cc)
        | false ↦ λ e. none_fails (λ m. ModemSays m) (delivered_by_piece p before piece) [] (λ m. refl) tt
      ] going

  gone_goes_on : (before : Option (List ℕ)) → is_lost before None ≡ false → NoneFails (is_lost_once before)
  unfolding NoneFails
  gone_goes_on None going = tt
  gone_goes_on (Some before) going = absurd (cc)

  back_goes_on : (before : Option (List ℕ)) → NoneFails (returns_once before)
  unfolding NoneFails
  back_goes_on None = (refl, tt)
  back_goes_on (Some before) = tt

  goes_on : (event : Event) (events : List Event) → modem_takes event ≡ false → is_lost (stream_now events) (stream_now (event ∷ events)) ≡ false → NoneFails (items_of p events event)
  unfolding NoneFails modem_stream
  goes_on (Joined c) events none going = (refl, tt)
  goes_on (Piece c bytes) events none going =
      none_fails (λ m. Says c m) (messages_of_piece p.size (stream c events) bytes) _ (λ m. refl) (one_if (λ item. fails_or_takes item ≡ false) (is_bad p.size (stream c events ++ bytes)) (GoesBad c) refl)
  goes_on (Left c) events none going = (refl, tt)
  goes_on (ModemPiece bytes) events none going = piece_goes_on bytes (stream_now events) going
  goes_on ModemGone events none going = gone_goes_on (stream_now events) going
  goes_on ModemBack events none going = back_goes_on (stream_now events)
  goes_on (Now time) events none going = (refl, tt)
  goes_on (Took c count) events none going = (refl, tt)
  goes_on (ModemTook count) events none going = absurd (cc)

  -- where the modem takes nothing and isn't lost, the bytes for it only grow
  pub modem_bytes_grow : (event : Event) (events : List Event) → modem_takes event ≡ false → is_lost (stream_now events) (stream_now (event ∷ events)) ≡ false
      → QueueGrows p.wire (history p events) (history p (event ∷ events))
  unfolding history NoneFails to_modem modem_taken_count
  modem_bytes_grow event events none going =
      let before : List Fact = history p events in
      let begun = begun_is_sound p Asks O events in
      kept_at_end p Asks O (QueueGrows p.wire before)
      (λ fact past follows may asked. queue_grows p.wire before fact past (at_end (λ f. takes_from_queue f ≡ false) (λ r. refl) (λ list. refl) fact past may))
      _ (sound_items p Asks O (items_of p events event) (EventBegan ∷ before) begun)
      (kept_by_items p Asks O (QueueGrows p.wire before) (λ item. fails_or_takes item ≡ false) (λ item other fact past follows may asked. queue_grows p.wire before fact past (takings_alone item fact past other may))
      (items_of p events event) (EventBegan ∷ before) (goes_on event events none going) begun (queue_grows p.wire before EventBegan before refl (queue_same p.wire before)))

  -- a loss is the newest fact of the event's items
  LossIsLast : List Fact → Type 0
  LossIsLast facts = (past : List Fact) × (facts ≡ ModemLost ∷ past)

  never_both : (b : Bool) → (not b && b) ≡ true → ⊥
  never_both true e = absurd (cc)
  never_both false e = absurd (cc)

  module _ (past : List Fact) where
    piece_loses : (piece : List ℕ) (before : Option (List ℕ)) → is_lost before (with_piece p.size piece before) ≡ true → LossIsLast (add_all p (modem_items p piece before) past)
    unfolding LossIsLast add_all
    piece_loses piece None lost = absurd (cc)
    piece_loses piece (Some before) lost =
        let messages : List Item = map (λ m. ModemSays m) (delivered_by_piece p before piece) in
        elim (is_bad p.size (before ++ piece)) as (λ b. is_lost (Some before) (if b then None else Some (before ++ piece)) ≡ true → LossIsLast (add_all p (messages ++ item_if b ModemIsLost) past)) [
          | true ↦ λ e. (p.close (abort_all p.refuse p.order (add_all p messages past)), add_all-append p messages (ModemIsLost ∷ []) past)
          | false ↦ λ e. absurd (cc)
        ] lost

    gone_loses : (before : Option (List ℕ)) → is_lost before None ≡ true → LossIsLast (add_all p (is_lost_once before) past)
    unfolding LossIsLast add_all
    gone_loses None lost = absurd (cc)
    gone_loses (Some before) lost = (p.close (abort_all p.refuse p.order past), refl)

  back_keeps : (before : Option (List ℕ)) → is_lost before (come_back before) ≡ true → ⊥
  back_keeps None lost = absurd (cc)
  back_keeps (Some before) lost = absurd (cc)

  loss_is_last : (event : Event) (events : List Event) → is_lost (stream_now events) (stream_now (event ∷ events)) ≡ true → LossIsLast (add_all p (items_of p events event) (EventBegan ∷ history p events))
  unfolding LossIsLast modem_stream
  loss_is_last (ModemPiece bytes) events lost = piece_loses (EventBegan ∷ history p events) bytes (stream_now events) lost
  loss_is_last ModemGone events lost = gone_loses (EventBegan ∷ history p events) (stream_now events) lost
  loss_is_last ModemBack events lost = absurd (back_keeps (stream_now events) lost)
  loss_is_last _ events lost = absurd (never_both (is_none (stream_now events)) lost)

  pub loss_comes_last : (event : Event) (events : List Event) → is_lost (stream_now events) (stream_now (event ∷ events)) ≡ true → (past : List Fact) × (add_all p (items_of p events event) (EventBegan ∷ history p events) ≡ ModemLost ∷ past)
  unfolding LossIsLast
  loss_comes_last event events lost = loss_is_last event events lost

  -- it leaves no bytes for the modem, before the proxy asks anything at the event's end
  pub loss_leaves_none : (event : Event) (events : List Event) → is_lost (stream_now events) (stream_now (event ∷ events)) ≡ true
      → (to_modem p.wire (add_all p (items_of p events event) (EventBegan ∷ history p events)) ≡ []) × (modem_taken_count (add_all p (items_of p events event) (EventBegan ∷ history p events)) ≡ 0)
  unfolding LossIsLast to_modem modem_taken_count
  loss_leaves_none event events lost = let last = loss_is_last event events lost in (ap (to_modem p.wire) last.1, ap modem_taken_count last.1)
