-- A client that is alone meets what it meets at the same time.
use Rattle.std.proofs.Common.{◌≡◌, ℕ, max, Bool, true, false, ◌==◌, if◌then◌else◌, List, [], ◌∷◌, refl, ap, sym, ◌∙◌}
use Rattle.proxy_history.specs.Events.{Event, Joined, Piece, Left, ModemPiece, ModemGone, ModemBack, Now, Took, ModemTook}
use Rattle.proxy_history.specs.Streams.{stream}
use Rattle.proxy_history.specs.Facts.{Fact, Request, EventBegan}
use Rattle.proxy_history.specs.Items.{Item, items_of}
use Rattle.proxy_history.specs.Modem.{now}
use Rattle.proxy_history.specs.Sound.{IsSound}
use Rattle.proxy_history.specs.Protocol.{Protocol}
use Rattle.proxy_history.specs.History.{add, add_all, history}
use Rattle.proxy_history.specs.Adding.{IsOrderly}
use Rattle.proxy_history.specs.Orderly.{time_then}
use Rattle.proxy_history.proofs.Touching.{is_clock, same_time, clock_alone}
use Rattle.proxy_history.proofs.Walk.{kept_by_items}
use Rattle.proxy_history.proofs.Folds.{time_agrees}
use Rattle.proxy_solo.specs.Alone.{Alone}
use Rattle.proxy_solo.proofs.Telling.{meet_told, hear_told, parts_told}
use Rattle.proxy_solo.specs.Solo.{meet, meet_if, hear_all, meet_parts, fails, hear_event, meet_event, solo}

module _ {Known : Type 0} (p : Protocol Known) (Asks : Request → List Fact → Type 0) (O : IsOrderly p Asks) where
  -- only the clock sets the time
  pub item_keeps_time : (item : Item) (past : List Fact) → IsSound p.limits past → is_clock item ≡ false → now (add p item past) ≡ now past
  unfolding add_all
  item_keeps_time item past sound other =
      kept_by_items p Asks O (λ after. now after ≡ now past) (λ item. is_clock item ≡ false)
      (λ item other fact before follows may asked is. same_time fact before (clock_alone item fact before other may) ∙ is) (item ∷ []) past (other, tt) sound refl

  abbrev time_of : List Event → ℕ
  time_of events = now (history p events)

  module _ (a : Alone) (c : ℕ) where
    meet_time : (event : Event) (events : List Event) → time_of (meet p a event events) ≡ time_then event (time_of events)
    meet_time event events = meet_told p time_of (λ count events. time_agrees p Asks O (ModemTook count) events) (λ bytes events. time_agrees p Asks O (ModemPiece bytes) events) a c event events ∙ time_agrees p Asks O event events

    hear_time : (items : List Item) (past : List Fact) (events : List Event) → time_of (hear_all p a c items past events) ≡ time_of events
    hear_time = hear_told p time_of (λ count events. time_agrees p Asks O (ModemTook count) events) (λ bytes events. time_agrees p Asks O (ModemPiece bytes) events) a c

    parts_time : (before : List ℕ) (parts : List (List ℕ)) (past : List Fact) (events : List Event) → time_of (meet_parts p a c before parts past events) ≡ time_of events
    parts_time =
        parts_told p time_of (λ count events. time_agrees p Asks O (ModemTook count) events) (λ bytes events. time_agrees p Asks O (ModemPiece bytes) events) a c (λ bytes events. time_agrees p Asks O (Piece c bytes) events)

    own_time : (b : Bool) (before : List ℕ) (parts : List (List ℕ)) (past : List Fact) (events : List Event) → time_of (if b then meet_parts p a c before parts past events else events) ≡ time_of events
    own_time true before parts past events = parts_time before parts past events
    own_time false before parts past events = refl

    meet_if_time : (b : Bool) (event : Event) (events : List Event) → time_then event (time_of events) ≡ time_of events → time_of (meet_if b p a event events) ≡ time_of events
    meet_if_time true event events still = meet_time event events ∙ still
    meet_if_time false event events still = refl

    -- what the client meets of an event takes it to the time of that event
    event_time : (events : List Event) (event : Event) (own : List Event) → time_of (meet_event p a c events event own) ≡ time_then event (time_of own)
    event_time events (Joined d) own = meet_if_time (d == c) (Joined d) own refl
    event_time events (Piece d bytes) own = own_time (d == c) (stream c events) (a.parts (stream c events) bytes) (EventBegan ∷ history p events) own
    event_time events (Left d) own = meet_if_time (d == c) (Left d) own refl
    event_time events (Took d count) own = meet_if_time (d == c) (Took d count) own refl
    event_time events (ModemPiece bytes) own =
        meet_if_time (fails (items_of p events (ModemPiece bytes))) ModemGone (hear_event p a c events (ModemPiece bytes) own) refl
        ∙ hear_time (items_of p events (ModemPiece bytes)) (EventBegan ∷ history p events) own
    event_time events ModemGone own = meet_time ModemGone (hear_event p a c events ModemGone own) ∙ hear_time (items_of p events ModemGone) (EventBegan ∷ history p events) own
    event_time events ModemBack own = meet_time ModemBack own
    event_time events (Now time) own = meet_time (Now time) (hear_event p a c events (Now time) own) ∙ ap (max time) (hear_time (items_of p events (Now time)) (EventBegan ∷ history p events) own)
    event_time events (ModemTook count) own = refl

    pub solo_time : (events : List Event) → time_of events ≡ time_of (solo p a c events)
    unfolding solo
    solo_time [] = refl
    solo_time (event ∷ events) = time_agrees p Asks O event events ∙ ap (time_then event) (solo_time events) ∙ sym (event_time events event (solo p a c events))
