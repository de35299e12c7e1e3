-- What a client meets alone tells of the events what the modem's sayings and takings leave as it is.
use Rattle.std.proofs.Common.{◌≡◌, ℕ, zero, suc, List, [], ◌∷◌, ◌++◌, refl, ◌∙◌, Option, Some, None, length}
use Rattle.proxy_history.specs.Events.{Event, Piece, ModemPiece, ModemTook}
use Rattle.proxy_history.specs.Facts.{Fact}
use Rattle.proxy_history.specs.Items.{Item, client_items}
use Rattle.proxy_history.specs.Protocol.{Protocol}
use Rattle.proxy_history.specs.History.{add, add_all, history, modem_queue}
use Rattle.proxy_solo.specs.Alone.{Alone}
use Rattle.proxy_solo.specs.Solo.{take_all, taken, answered, meet, pieces_of, meet_pieces, meet_bytes, hear_all, meet_parts}

-- what is told of events, where neither what the modem takes nor what it says changes it
module _ {Known T : Type 0} (p : Protocol Known) (told : List Event → T) (took : (count : ℕ) (events : List Event) → told (ModemTook count ∷ events) ≡ told events) (spoke : (bytes : List ℕ) (events : List Event) → told (ModemPiece bytes ∷ events) ≡ told events) where
  take_told : (count : ℕ) (events : List Event) → told (take_all count events) ≡ told events
  take_told zero events = refl
  take_told (suc count) events = took (suc count) events

  taken_told : (events : List Event) → told (taken p events) ≡ told events
  taken_told events = take_told (length (modem_queue p events)) events

  answered_told : (o : Option (List ℕ)) (events : List Event) → told (answered p o events) ≡ told events
  answered_told None events = refl
  answered_told (Some m) events = taken_told (ModemPiece m ∷ events) ∙ spoke m events

  module _ (a : Alone) (c : ℕ) where
    pub meet_told : (event : Event) (events : List Event) → told (meet p a event events) ≡ told (event ∷ events)
    meet_told event events = answered_told (a.answers (history p (taken p (event ∷ events)))) (taken p (event ∷ events)) ∙ taken_told (event ∷ events)

    pieces_told : (pieces : List (List ℕ)) (events : List Event) → told (meet_pieces p a pieces events) ≡ told events
    unfolding meet_pieces
    pieces_told [] events = refl
    pieces_told (piece ∷ pieces) events = pieces_told pieces (meet p a (ModemPiece piece) events) ∙ meet_told (ModemPiece piece) events ∙ spoke piece events

    bytes_told : (o : Option (List ℕ)) (events : List Event) → told (meet_bytes p a o events) ≡ told events
    bytes_told None events = refl
    bytes_told (Some m) events = pieces_told (pieces_of (length m) m) events

    pub hear_told : (items : List Item) (past : List Fact) (events : List Event) → told (hear_all p a c items past events) ≡ told events
    unfolding hear_all
    hear_told [] past events = refl
    hear_told (item ∷ items) past events = hear_told items (add p item past) _ ∙ bytes_told (a.hears c item past (history p events)) events

    -- nor what the client sends
    pub parts_told : (sent : (bytes : List ℕ) (events : List Event) → told (Piece c bytes ∷ events) ≡ told events) (before : List ℕ) (parts : List (List ℕ)) (past : List Fact) (events : List Event)
        → told (meet_parts p a c before parts past events) ≡ told events
    unfolding meet_parts
    parts_told sent before [] past events = refl
    parts_told sent before (part ∷ parts) past events =
        parts_told sent (before ++ part) parts (add_all p (client_items p.size c before part) past) _
        ∙ hear_told (client_items p.size c before part) past (meet p a (Piece c part) events)
        ∙ meet_told (Piece c part) events
        ∙ sent part events
