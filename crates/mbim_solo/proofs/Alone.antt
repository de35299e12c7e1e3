-- Where a client is alone nobody else joins, and nobody else is there.
use Rattle.std.proofs.Common.{◌≡◌, ℕ, Bool, true, false, ◌||◌, ◌==◌, if◌then◌else◌, List, [], ◌∷◌, refl, ap, sym, ◌∙◌, subst}
use Rattle.std.specs.List.{AllByRecursion}
use Rattle.kit_bytes.proofs.Lists.{all_filter, all_push}
use Rattle.proxy_history.specs.Events.{Event, Joined, Piece, Left, ModemPiece, ModemGone, ModemBack, Now, Took, ModemTook}
use Rattle.proxy_history.specs.Streams.{stream}
use Rattle.proxy_history.specs.Items.{Item, Joins, items_of}
use Rattle.proxy_history.specs.Facts.{Fact, Request, EventBegan, Admitted, Ended}
use Rattle.proxy_history.specs.Connections.{contains, present, is_present}
use Rattle.proxy_history.specs.Protocol.{Protocol}
use Rattle.proxy_history.specs.History.{history}
use Rattle.proxy_history.specs.Adding.{MayAdd, IsOrderly}
use Rattle.proxy_history.proofs.Folds.{at_end}
use Rattle.proxy_history.proofs.Walk.{IsOf, kept_by_event}
use Rattle.proxy_solo.specs.Alone.{Alone}
use Rattle.proxy_solo.specs.Solo.{meet, meet_if, meet_parts, fails, hear_event, meet_event, solo}
use Rattle.proxy_solo.proofs.Lists.{turned}
use Rattle.proxy_solo.proofs.Telling.{meet_told, hear_told, parts_told}

-- those who joined, the newest first
abbrev joiners : List Event → List ℕ
joiners [] = []
joiners (Joined d ∷ events) = d ∷ joiners events
joiners (_ ∷ events) = joiners events

abbrev AreMine : ℕ → List ℕ → Type 0
AreMine c conns = AllByRecursion (λ d. (d == c) ≡ true) conns

module _ {Known : Type 0} (p : Protocol Known) (a : Alone) (c : ℕ) where
  -- ---- who joins ----

  meet_joiners : (event : Event) (own : List Event) → joiners (meet p a event own) ≡ joiners (event ∷ own)
  meet_joiners = meet_told p joiners (λ count events. refl) (λ bytes events. refl) a c

  hear_joiners : (events : List Event) (event : Event) (own : List Event) → joiners (hear_event p a c events event own) ≡ joiners own
  hear_joiners events event own = hear_told p joiners (λ count events. refl) (λ bytes events. refl) a c (items_of p events event) (EventBegan ∷ history p events) own

  if_joiners : (b : Bool) (event : Event) (own : List Event) → joiners (event ∷ own) ≡ joiners own → joiners (meet_if b p a event own) ≡ joiners own
  if_joiners true event own none = meet_joiners event own ∙ none
  if_joiners false event own none = refl

  sent_joiners : (b : Bool) (before : List ℕ) (parts : List (List ℕ)) (past : List Fact) (own : List Event) → joiners (if b then meet_parts p a c before parts past own else own) ≡ joiners own
  sent_joiners true before parts past own = parts_told p joiners (λ count events. refl) (λ bytes events. refl) a c (λ bytes events. refl) before parts past own
  sent_joiners false before parts past own = refl

  joined_mine : (b : Bool) (d : ℕ) (own : List Event) → (d == c) ≡ b → AreMine c (joiners own) → AreMine c (joiners (meet_if b p a (Joined d) own))
  joined_mine true d own is mine = subst (AreMine c) (sym (meet_joiners (Joined d) own)) (is, mine)
  joined_mine false d own is mine = mine

  same_joiners : (events : List Event) (event : Event) (own : List Event) → ((d : ℕ) → event ≡ Joined d → ⊥) → joiners (meet_event p a c events event own) ≡ joiners own
  same_joiners events (Joined d) own other = absurd (other d refl)
  same_joiners events (Piece d bytes) own other = sent_joiners (d == c) (stream c events) (a.parts (stream c events) bytes) (EventBegan ∷ history p events) own
  same_joiners events (Left d) own other = if_joiners (d == c) (Left d) own refl
  same_joiners events (Took d count) own other = if_joiners (d == c) (Took d count) own refl
  same_joiners events (ModemPiece bytes) own other = if_joiners (fails (items_of p events (ModemPiece bytes))) ModemGone (hear_event p a c events (ModemPiece bytes) own) refl ∙ hear_joiners events (ModemPiece bytes) own
  same_joiners events ModemGone own other = meet_joiners ModemGone (hear_event p a c events ModemGone own) ∙ hear_joiners events ModemGone own
  same_joiners events ModemBack own other = meet_joiners ModemBack own
  same_joiners events (Now time) own other = meet_joiners (Now time) (hear_event p a c events (Now time) own) ∙ hear_joiners events (Now time) own
  same_joiners events (ModemTook count) own other = refl

  event_mine : (events : List Event) (event : Event) (own : List Event) → AreMine c (joiners own) → AreMine c (joiners (meet_event p a c events event own))
  event_mine events (Joined d) own mine = joined_mine (d == c) d own refl mine
  event_mine events event own mine = subst (AreMine c) (sym (same_joiners events event own (λ d is. cc))) mine

  solo_mine : (events : List Event) → AreMine c (joiners (solo p a c events))
  unfolding solo
  solo_mine [] = tt
  solo_mine (event ∷ events) = event_mine events event (solo p a c events) (solo_mine events)

  -- ---- who is there ----

  joins_mine : Event → Type 0
  joins_mine (Joined d) = (d == c) ≡ true
  joins_mine _ = Unit {0}

  admits_mine : Fact → Type 0
  admits_mine (Admitted d) = (d == c) ≡ true
  admits_mine _ = Unit {0}

  added_mine : (event : Event) → joins_mine event → (item : Item) → IsOf event item → (fact : Fact) (past : List Fact) → MayAdd item fact past → admits_mine fact
  unfolding joins_mine admits_mine
  added_mine (Joined x) mine (Joins e) of (Admitted d) past may = subst (λ (y : ℕ). (y == c) ≡ true) (sym (may ∙ of)) mine
  added_mine (Joined x) mine (Joins e) of _ past may = tt
  added_mine (Joined x) mine _ of fact past may = absurd of
  added_mine _ mine (Joins e) of fact past may = absurd of
  added_mine _ mine _ of (Admitted d) past may = absurd may
  added_mine _ mine _ of _ past may = tt

  fact_mine : (fact : Fact) (past : List Fact) → admits_mine fact → AreMine c (present past) → AreMine c (present (fact ∷ past))
  unfolding present admits_mine
  fact_mine (Admitted d) past here mine = all_push (λ (d : ℕ). (d == c) ≡ true) (present past) d mine here
  fact_mine (Ended d why) past here mine = all_filter (λ (d : ℕ). (d == c) ≡ true) _ (present past) mine
  fact_mine _ past here mine = mine

  first_mine : (event : Event) (own : List Event) → AreMine c (joiners (event ∷ own)) → joins_mine event × AreMine c (joiners own)
  unfolding joins_mine
  first_mine (Joined d) own mine = mine
  first_mine _ own mine = (tt, mine)

  module _ (Asks : Request → List Fact → Type 0) (O : IsOrderly p Asks) where
    present_mine : (own : List Event) → AreMine c (joiners own) → AreMine c (present (history p own))
    unfolding history present admits_mine
    present_mine [] mine = tt
    present_mine (event ∷ own) mine =
        let both = first_mine event own mine in
        kept_by_event p Asks O (λ past. AreMine c (present past)) event
        (λ item of fact past follows may asked held. fact_mine fact past (added_mine event both.0 item of fact past may) held)
        (λ fact past follows may asked held. fact_mine fact past (at_end admits_mine (λ r. tt) (λ list. tt) fact past may) held) own (present_mine own both.1)

    none_left : (conns : List ℕ) → AreMine c conns → contains c conns ≡ false → conns ≡ []
    none_left [] mine none = refl
    none_left (d ∷ conns) mine none = absurd (let clash : true ≡ false = sym (ap (λ (b : Bool). b || contains c conns) (turned c d ∙ mine.0)) ∙ none in cc)

    -- where the client isn't there, nobody is
    pub nobody_else : (events : List Event) → is_present c (history p (solo p a c events)) ≡ false → present (history p (solo p a c events)) ≡ []
    nobody_else events gone = none_left (present (history p (solo p a c events))) (present_mine (solo p a c events) (solo_mine events)) gone
