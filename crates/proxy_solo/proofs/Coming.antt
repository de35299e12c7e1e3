-- What a client meets alone may come, one event after the other.
use Rattle.std.proofs.Common.{◌≡◌, ℕ, zero, suc, ◌≤◌, ◌<◌, Bool, true, false, ◌==◌, if◌then◌else◌, List, [], ◌∷◌, ◌++◌, refl, ap, sym, ◌∙◌, subst, arith, Option, Some, None, length, take, drop, nat_le, length-take, length-drop}
use Rattle.std.specs.List.{AllByRecursion}
use Rattle.std.proofs.lemmas.Bool.Decides.{nat_tests}
use Rattle.std.proofs.lemmas.Bool.{eqb-true}
use Rattle.proxy_history.specs.Events.{Event, Joined, Piece, Left, ModemPiece, ModemGone, ModemBack, Now, Took, ModemTook}
use Rattle.proxy_history.specs.Streams.{stream}
use Rattle.proxy_history.specs.Facts.{Fact, EventBegan}
use Rattle.proxy_history.specs.Items.{Item, client_items, items_of}
use Rattle.proxy_history.specs.Protocol.{Protocol}
use Rattle.proxy_history.specs.History.{add, add_all, history, modem_queue}
use Rattle.proxy_history.specs.Coming.{greatest_name, piece_limit, queued_for, MayCome, AreSound}
use Rattle.proxy_solo.specs.Alone.{Alone}
use Rattle.proxy_solo.proofs.Telling.{meet_told, hear_told, parts_told}
use Rattle.proxy_solo.specs.Solo.{take_all, taken, answered, meet, meet_if, pieces_of, meet_pieces, meet_bytes, hear_all, meet_parts, fails, hear_event, meet_event, solo}

-- a client's parts are no longer than its piece, and what answers the proxy itself is short
pub record IsShort (a : Alone) : Type 0 where
  pub parts : (before piece : List ℕ) → length piece ≤ piece_limit → AllByRecursion (λ part. length part ≤ piece_limit) (a.parts before piece)
  pub answers : (own : List Fact) (m : List ℕ) → a.answers own ≡ Some m → length m ≤ piece_limit

module _ {Known : Type 0} (p : Protocol Known) (a : Alone) (short : IsShort a) (c : ℕ) where
  -- ---- what may come ----

  take_sound : (events : List Event) → AreSound p events → (count : ℕ) → count ≤ length (modem_queue p events) → AreSound p (take_all count events)
  take_sound events sound zero within = sound
  take_sound events sound (suc count) within = (within, sound)

  taken_sound : (events : List Event) → AreSound p events → AreSound p (taken p events)
  taken_sound events sound = take_sound events sound (length (modem_queue p events)) (omega arith)

  answered_sound : (o : Option (List ℕ)) (events : List Event) → ((m : List ℕ) → o ≡ Some m → length m ≤ piece_limit) → AreSound p events → AreSound p (answered p o events)
  answered_sound None events few sound = sound
  answered_sound (Some m) events few sound = taken_sound (ModemPiece m ∷ events) (few m refl, sound)

  pub meet_sound : (event : Event) (events : List Event) → MayCome p event events → AreSound p events → AreSound p (meet p a event events)
  meet_sound event events may sound =
      let after : List Event = taken p (event ∷ events) in
      answered_sound (a.answers (history p after)) after (λ m is. short.answers (history p after) m is) (taken_sound (event ∷ events) (may, sound))

  meet_if_sound : (b : Bool) (event : Event) (events : List Event) → (b ≡ true → MayCome p event events) → AreSound p events → AreSound p (meet_if b p a event events)
  meet_if_sound true event events may sound = meet_sound event events (may refl) sound
  meet_if_sound false event events may sound = sound

  fewer_left : (tail : List ℕ) (count : ℕ) → nat_le (length tail) piece_limit ≡ false → length tail ≤ suc count → length (drop piece_limit tail) ≤ count
  fewer_left tail count long within = let longer : piece_limit < length tail = grind (arith, nat_tests, long) in omega (arith, longer, within, length-drop piece_limit tail)

  pieces_sound : (count : ℕ) (bytes : List ℕ) (events : List Event) → length bytes ≤ count → AreSound p events → AreSound p (meet_pieces p a (pieces_of count bytes) events)
  unfolding meet_pieces pieces_of
  pieces_sound zero bytes events within sound = meet_sound (ModemPiece bytes) events (omega (arith, within)) sound
  pieces_sound (suc count) bytes events within sound =
      let step : (b : Bool) → nat_le (length bytes) piece_limit ≡ b → AreSound p (meet_pieces p a (elim b [ true ↦ bytes ∷ [] | false ↦ take piece_limit bytes ∷ pieces_of count (drop piece_limit bytes) ]) events) =
      λ b. elim b as (λ b. nat_le (length bytes) piece_limit ≡ b → AreSound p (meet_pieces p a (elim b [ true ↦ bytes ∷ [] | false ↦ take piece_limit bytes ∷ pieces_of count (drop piece_limit bytes) ]) events)) [
        | true ↦ λ e. meet_sound (ModemPiece bytes) events (grind (arith, nat_tests, e)) sound
        | false ↦ λ e. pieces_sound count (drop piece_limit bytes) (meet p a (ModemPiece (take piece_limit bytes)) events) (fewer_left bytes count e within) (meet_sound (ModemPiece (take piece_limit bytes)) events (omega (arith, length-take piece_limit bytes)) sound)
      ]
      in step (nat_le (length bytes) piece_limit) refl

  bytes_sound : (o : Option (List ℕ)) (events : List Event) → AreSound p events → AreSound p (meet_bytes p a o events)
  bytes_sound None events sound = sound
  bytes_sound (Some m) events sound = pieces_sound (length m) m events (omega arith) sound

  hear_sound : (items : List Item) (past : List Fact) (events : List Event) → AreSound p events → AreSound p (hear_all p a c items past events)
  unfolding hear_all
  hear_sound [] past events sound = sound
  hear_sound (item ∷ items) past events sound = hear_sound items (add p item past) _ (bytes_sound (a.hears c item past (history p events)) events sound)

  parts_sound : (before : List ℕ) (parts : List (List ℕ)) (past : List Fact) (events : List Event) → AllByRecursion (λ part. length part ≤ piece_limit) parts → AreSound p events → AreSound p (meet_parts p a c before parts past events)
  unfolding meet_parts
  parts_sound before [] past events few sound = sound
  parts_sound before (part ∷ parts) past events few sound =
      parts_sound (before ++ part) parts (add_all p (client_items p.size c before part) past) _ few.1
      (hear_sound (client_items p.size c before part) past (meet p a (Piece c part) events) (meet_sound (Piece c part) events few.0 sound))

  -- ---- the names alone ----

  meet_names : (event : Event) (events : List Event) → greatest_name (meet p a event events) ≡ greatest_name (event ∷ events)
  meet_names = meet_told p greatest_name (λ count events. refl) (λ bytes events. refl) a c

  hear_names : (items : List Item) (past : List Fact) (events : List Event) → greatest_name (hear_all p a c items past events) ≡ greatest_name events
  hear_names = hear_told p greatest_name (λ count events. refl) (λ bytes events. refl) a c

  parts_names : (before : List ℕ) (parts : List (List ℕ)) (past : List Fact) (events : List Event) → greatest_name (meet_parts p a c before parts past events) ≡ greatest_name events
  parts_names = parts_told p greatest_name (λ count events. refl) (λ bytes events. refl) a c (λ bytes events. refl)

  no_less : (event : Event) (events : List Event) → greatest_name events ≤ greatest_name (event ∷ events)
  no_less (Joined d) events = omega arith
  no_less _ events = omega arith

  meet_if_names : (b : Bool) (event : Event) (events : List Event) → greatest_name (meet_if b p a event events) ≤ greatest_name (event ∷ events)
  meet_if_names true event events = omega (arith, meet_names event events)
  meet_if_names false event events = no_less event events

  own_names : (b : Bool) (before : List ℕ) (parts : List (List ℕ)) (past : List Fact) (events : List Event) → greatest_name (if b then meet_parts p a c before parts past events else events) ≤ greatest_name events
  own_names true before parts past events = omega (arith, parts_names before parts past events)
  own_names false before parts past events = omega arith

  event_names : (events : List Event) → (event : Event) (own : List Event) → greatest_name own ≤ greatest_name events → greatest_name (meet_event p a c events event own) ≤ greatest_name (event ∷ events)
  event_names events (Joined d) own less = omega (arith, less, meet_if_names (d == c) (Joined d) own)
  event_names events (Piece d bytes) own less = omega (arith, less, own_names (d == c) (stream c events) (a.parts (stream c events) bytes) (EventBegan ∷ history p events) own)
  event_names events (Left d) own less = omega (arith, less, meet_if_names (d == c) (Left d) own)
  event_names events (Took d count) own less = omega (arith, less, meet_if_names (d == c) (Took d count) own)
  event_names events (ModemPiece bytes) own less =
      omega (arith, less, meet_if_names (fails (items_of p events (ModemPiece bytes))) ModemGone (hear_event p a c events (ModemPiece bytes) own), hear_names (items_of p events (ModemPiece bytes)) (EventBegan ∷ history p events) own)
  event_names events ModemGone own less = omega (arith, less, meet_names ModemGone (hear_event p a c events ModemGone own), hear_names (items_of p events ModemGone) (EventBegan ∷ history p events) own)
  event_names events ModemBack own less = omega (arith, less, meet_names ModemBack own)
  event_names events (Now time) own less = omega (arith, less, meet_names (Now time) (hear_event p a c events (Now time) own), hear_names (items_of p events (Now time)) (EventBegan ∷ history p events) own)
  event_names events (ModemTook count) own less = less

  pub solo_names : (events : List Event) → greatest_name (solo p a c events) ≤ greatest_name events
  unfolding solo
  solo_names [] = omega arith
  solo_names (event ∷ events) = event_names events event (solo p a c events) (solo_names events)

  -- ---- every event ----

  own_sound : (b : Bool) (before : List ℕ) (parts : List (List ℕ)) (past : List Fact) (events : List Event) → AllByRecursion (λ part. length part ≤ piece_limit) parts → AreSound p events → AreSound p (if b then meet_parts p a c before parts past events else events)
  own_sound true before parts past events few sound = parts_sound before parts past events few sound
  own_sound false before parts past events few sound = sound

  -- where as many bytes wait for the client in both
  pub event_sound : (events : List Event) (event : Event) (own : List Event) → MayCome p event events → queued_for p c events ≡ queued_for p c own → greatest_name own ≤ greatest_name events → AreSound p own → AreSound p (meet_event p a c events event own)
  event_sound events (Joined d) own may queued less sound = meet_if_sound (d == c) (Joined d) own (λ is. omega (arith, may, less)) sound
  event_sound events (Piece d bytes) own may queued less sound =
      own_sound (d == c) (stream c events) (a.parts (stream c events) bytes) (EventBegan ∷ history p events) own (short.parts (stream c events) bytes may) sound
  event_sound events (Left d) own may queued less sound = meet_if_sound (d == c) (Left d) own (λ is. tt) sound
  event_sound events (Took d count) own may queued less sound =
      meet_if_sound (d == c) (Took d count) own (λ is. let same : d ≡ c = eqb-true d c is in
      subst (λ (n : ℕ). count ≤ n) (ap (λ (x : ℕ). queued_for p x events) same ∙ queued ∙ ap (λ (x : ℕ). queued_for p x own) (sym same)) may) sound
  event_sound events (ModemPiece bytes) own may queued less sound =
      meet_if_sound (fails (items_of p events (ModemPiece bytes))) ModemGone (hear_event p a c events (ModemPiece bytes) own) (λ is. tt) (hear_sound (items_of p events (ModemPiece bytes)) (EventBegan ∷ history p events) own sound)
  event_sound events ModemGone own may queued less sound = meet_sound ModemGone (hear_event p a c events ModemGone own) tt (hear_sound (items_of p events ModemGone) (EventBegan ∷ history p events) own sound)
  event_sound events ModemBack own may queued less sound = meet_sound ModemBack own tt sound
  event_sound events (Now time) own may queued less sound = meet_sound (Now time) (hear_event p a c events (Now time) own) tt (hear_sound (items_of p events (Now time)) (EventBegan ∷ history p events) own sound)
  event_sound events (ModemTook count) own may queued less sound = sound
