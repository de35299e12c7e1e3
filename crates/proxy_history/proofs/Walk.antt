-- The history of an orderly protocol: what each item adds to it, what each event does, and what all that keeps.
use Rattle.std.proofs.Common.{◌≡◌, ℕ, ◌+◌, ◌≤◌, Bool, true, false, max, List, [], ◌∷◌, ◌++◌, length, map, refl, ap, sym, ◌∙◌, subst, ⊎_elim, arith, Contains, Option, Some, None}
use Rattle.std.proofs.lemmas.List.{length-append, length-drop}
use Rattle.std.specs.List.{AllByRecursion}
use Rattle.proxy_history.specs.Events.{Event, Joined, Piece, Left, ModemPiece, ModemGone, ModemBack, Now, Took, ModemTook}
use Rattle.proxy_history.specs.Streams.{messages_of_piece, is_bad, stream, modem_stream}
use Rattle.proxy_history.specs.Items.{Item, Joins, Says, GoesBad, Leaves, ModemSays, ModemIsLost, ModemReturns, ClockShows, Takes, ModemTakes, item_if, delivered_by_piece, modem_items, is_lost_once, returns_once, items_of}
use Rattle.proxy_history.specs.Facts.{BadStream, NoRoom, Leaving, Fact, Request, EventBegan, Ended, Taken, Forwarded, Expired, Aborted, OpeningEnded, Granted, Freed, ModemLost, ModemReturned, ModemTaken, TimeIs}
use Rattle.proxy_history.specs.Connections.{present}
use Rattle.proxy_history.specs.Modem.{now, to_modem, modem_taken_count, modem_queue}
use Rattle.proxy_history.specs.Unanswered.{abort_all, tick}
use Rattle.proxy_history.specs.Sound.{MayFollow, IsSound}
use Rattle.proxy_history.specs.Protocol.{Protocol}
use Rattle.proxy_history.specs.History.{add, add_all, history}
use Rattle.proxy_history.specs.Adding.{AllFit, MayAsk, AreAsked, MayAdd, MayRefuse, MayTick, MayFinish, Soundly, AddsSoundly, IsOrderly}
use Rattle.proxy_history.proofs.Lists.{Contains-nil, Contains-cons_cases}
use Rattle.proxy_history.proofs.Adding.{extends_keeps, extends_sound, further, adds_if_present, added, adds_join, adds_weaker, adds_abort_all, adds_tick}
use Rattle.proxy_history.proofs.Touching.{sets_time, same_time}

-- ---- lists of items ----

-- items, and others behind them
pub add_all-append : {Known : Type 0} (p : Protocol Known) (items more : List Item) (past : List Fact) → add_all p (items ++ more) past ≡ add_all p more (add_all p items past)
unfolding add_all
add_all-append p [] more past = refl
add_all-append p (item ∷ items) more past = add_all-append p items more (add p item past)

-- an event's items are its own
abbrev pub IsOf : Event → Item → Type 0
IsOf (Joined c) (Joins d) = d ≡ c
IsOf (Piece c bytes) (Says d m) = d ≡ c
IsOf (Piece c bytes) (GoesBad d) = d ≡ c
IsOf (Left c) (Leaves d) = d ≡ c
IsOf (ModemPiece bytes) (ModemSays m) = Unit {0}
IsOf (ModemPiece bytes) ModemIsLost = Unit {0}
IsOf ModemGone ModemIsLost = Unit {0}
IsOf ModemBack ModemReturns = Unit {0}
IsOf (Now time) (ClockShows shown) = shown ≡ time
IsOf (Took c count) (Takes d taken) = (d ≡ c) × (taken ≡ count)
IsOf (ModemTook count) (ModemTakes taken) = taken ≡ count
IsOf _ _ = ⊥

pub each_message : (Q : Item → Type 0) (to_item : List ℕ → Item) (messages : List (List ℕ)) → ((m : List ℕ) → Q (to_item m)) → AllByRecursion Q (map to_item messages)
each_message Q to_item [] each = tt
each_message Q to_item (m ∷ messages) each = (each m, each_message Q to_item messages each)

pub behind_messages : (Q : Item → Type 0) (to_item : List ℕ → Item) (messages : List (List ℕ)) (items : List Item)
    → ((m : List ℕ) → Q (to_item m)) → AllByRecursion Q items → AllByRecursion Q (map to_item messages ++ items)
behind_messages Q to_item [] items each rest = rest
behind_messages Q to_item (m ∷ messages) items each rest = (each m, behind_messages Q to_item messages items each rest)

pub one_if : (Q : Item → Type 0) (b : Bool) (item : Item) → Q item → AllByRecursion Q (item_if b item)
one_if Q true item is = (is, tt)
one_if Q false item is = tt

pub items_are_of : {Known : Type 0} (p : Protocol Known) (event : Event) (events : List Event) → AllByRecursion (IsOf event) (items_of p events event)
items_are_of p (Joined c) events = (refl, tt)
items_are_of p (Piece c bytes) events =
    behind_messages (IsOf (Piece c bytes)) (λ m. Says c m) (messages_of_piece p.size (stream c events) bytes) _ (λ m. refl) (one_if (IsOf (Piece c bytes)) (is_bad p.size (stream c events ++ bytes)) (GoesBad c) refl)
items_are_of p (Left c) events = (refl, tt)
items_are_of p (ModemPiece bytes) events = of_modem (modem_stream p.size p.starts_away events)
  where
    of_modem : (before : Option (List ℕ)) → AllByRecursion (IsOf (ModemPiece bytes)) (modem_items p bytes before)
    of_modem None = tt
    of_modem (Some before) = behind_messages (IsOf (ModemPiece bytes)) (λ m. ModemSays m) (delivered_by_piece p before bytes) _ (λ m. tt) (one_if (IsOf (ModemPiece bytes)) (is_bad p.size (before ++ bytes)) ModemIsLost tt)
items_are_of p ModemGone events = of_loss (modem_stream p.size p.starts_away events)
  where
    of_loss : (before : Option (List ℕ)) → AllByRecursion (IsOf ModemGone) (is_lost_once before)
    of_loss None = tt
    of_loss (Some before) = (tt, tt)
items_are_of p ModemBack events = of_return (modem_stream p.size p.starts_away events)
  where
    of_return : (before : Option (List ℕ)) → AllByRecursion (IsOf ModemBack) (returns_once before)
    of_return None = (tt, tt)
    of_return (Some before) = tt
items_are_of p (Now time) events = (refl, tt)
items_are_of p (Took c count) events = ((refl, refl), tt)
items_are_of p (ModemTook count) events = (refl, tt)

-- a request that was forwarded was asked rightly
pub was_asked : {Known : Type 0} (p : Protocol Known) (Asks : Request → List Fact → Type 0) (facts : List Fact) (r : Request) → AreAsked p Asks facts → Contains facts (Forwarded r) → (past : List Fact) × Asks r past
was_asked p Asks [] r asked at = absurd (Contains-nil (Forwarded r) at)
was_asked p Asks (fact ∷ past) r asked at =
    ⊎_elim
    (λ (is : fact ≡ Forwarded r). let here : MayAsk p Asks (Forwarded r) past = subst (λ (f : Fact). MayAsk p Asks f past) is asked.0 in (past, here.1))
    (λ (before : Contains past (Forwarded r)). was_asked p Asks past r asked.1 before)
    (Contains-cons_cases (Forwarded r) fact past at)

-- so no more bytes wait for the modem than may
pub few_wait_for_modem : {Known : Type 0} (p : Protocol Known) (Asks : Request → List Fact → Type 0) (facts : List Fact) → AreAsked p Asks facts → length (modem_queue p.wire facts) ≤ p.limits.modem_outbox
unfolding to_modem modem_taken_count
few_wait_for_modem p Asks [] asked = omega arith
few_wait_for_modem p Asks (Forwarded r ∷ past) asked =
    let room = asked.0.0 in
    omega (arith, length-drop (modem_taken_count past) (to_modem p.wire past ++ p.wire r), length-drop (modem_taken_count past) (to_modem p.wire past), length-append (to_modem p.wire past) (p.wire r))
few_wait_for_modem p Asks (ModemTaken count ∷ past) asked =
    let before = few_wait_for_modem p Asks past asked.1 in omega (arith, length-drop (modem_taken_count past + count) (to_modem p.wire past), length-drop (modem_taken_count past) (to_modem p.wire past))
few_wait_for_modem p Asks (ModemLost ∷ past) asked = omega arith
few_wait_for_modem p Asks (_ ∷ past) asked = few_wait_for_modem p Asks past asked.1

-- ---- what an item adds ----

-- where the protocol asks nothing when the clock shows a time
abbrev pub MayAddStill : Item → Fact → List Fact → Type 0
MayAddStill (ClockShows time) (Forwarded r) past = ⊥
MayAddStill (ClockShows time) (Granted c service cid) past = ⊥
MayAddStill item fact past = MayAdd item fact past

module _ {Known : Type 0} (p : Protocol Known) (Asks : Request → List Fact → Type 0) (O : IsOrderly p Asks) where
  abbrev pub Sound : List Fact → Type 0
  Sound past = IsSound p.limits past

  abbrev AddsOf : (Fact → List Fact → Type 0) → List Fact → List Fact → Type 0
  AddsOf May past after = AddsSoundly p Asks May past after

  abbrev By : Item → Fact → List Fact → Type 0
  By item fact past = Soundly p Asks (MayAdd item) fact past

  follows : (May : Fact → List Fact → Type 0) (fact : Fact) (past : List Fact) → Soundly p Asks May fact past → MayFollow p.limits fact past
  follows May fact past may = may.0

  pub stays_sound : (May : Fact → List Fact → Type 0) (past after : List Fact) → AddsOf May past after → Sound past → Sound after
  stays_sound May past after adds sound = extends_sound p.limits p.wording (Soundly p Asks May) (follows May) past after adds.extends sound

  -- a refusal, where that may be added
  refuses : (May : Fact → List Fact → Type 0) (why : Fact) → ((past : List Fact) → May why past) → ((c : ℕ) (past : List Fact) → May (Ended c NoRoom) past)
      → ((status : ℕ) (receivers : List ℕ) (past : List Fact) → May (OpeningEnded status receivers) past)
      → ((c service cid : ℕ) (past : List Fact) → c ≡ 0 → May (Freed c service cid) past)
      → (r : Request) (past : List Fact) → Soundly p Asks (MayRefuse why) why past → Sound past → AddsOf May past (p.refuse why r past)
  refuses May why may ends opens frees r past is sound =
      adds_weaker p.limits p.wording (Soundly p Asks (MayRefuse why)) (Soundly p Asks May) (λ fact before is. (is.0, weaker fact before is.1, is.2)) past _ (O.refusal why r past is sound)
    where
      because : (fact : Fact) (before : List Fact) → fact ≡ why → May fact before
      because fact before is = subst (λ (f : Fact). May f before) (sym is) (may before)

      weaker : (fact : Fact) (before : List Fact) → MayRefuse why fact before → May fact before
      weaker (OpeningEnded status receivers) before is = opens status receivers before
      weaker (Ended c NoRoom) before is = ends c before
      weaker (Freed c service cid) before is = frees c service cid before is
      weaker fact before is = because fact before is

  -- what an item of these refuses when all that waits is aborted
  pub adds_aborts : (item : Item) → ((r : Request) (past : List Fact) → MayAdd item (Aborted r) past) → ((c : ℕ) (past : List Fact) → MayAdd item (Ended c NoRoom) past)
      → ((status : ℕ) (receivers : List ℕ) (past : List Fact) → MayAdd item (OpeningEnded status receivers) past)
      → ((c service cid : ℕ) (past : List Fact) → c ≡ 0 → MayAdd item (Freed c service cid) past)
      → (past : List Fact) → Sound past → AddsOf (MayAdd item) past (abort_all p.refuse p.order past)
  adds_aborts item may ends opens frees past sound =
      adds_abort_all p.limits p.wording (By item) (follows (MayAdd item)) p.refuse p.order O.order (λ r before s at. refuses (MayAdd item) (Aborted r) (may r) ends opens frees r before (at, refl, tt) s) past sound

  begins_to_tick : (time : ℕ) (past : List Fact) → Sound past → Sound (TimeIs (max time (now past)) ∷ past)
  begins_to_tick time past sound = (omega arith, sound)

  -- the clock shows the time, and requests are refused whose time is over
  adds_ticks : (May : Fact → List Fact → Type 0) (time : ℕ) → ((past : List Fact) → May (TimeIs (max time (now past))) past) → ((r : Request) (past : List Fact) → May (Expired r) past) → ((c : ℕ) (past : List Fact) → May (Ended c NoRoom) past)
      → ((status : ℕ) (receivers : List ℕ) (past : List Fact) → May (OpeningEnded status receivers) past)
      → ((c service cid : ℕ) (past : List Fact) → c ≡ 0 → May (Freed c service cid) past)
      → (past : List Fact) → Sound past → AddsOf May past (tick p.refuse p.order time past)
  adds_ticks May time shows expires ends opens frees past sound =
      let begun : List Fact = TimeIs (max time (now past)) ∷ past in
      let later : Sound begun = begins_to_tick time past sound in
      further p.limits p.wording (Soundly p Asks May) past begun _
      (added p.limits p.wording (Soundly p Asks May) (TimeIs (max time (now past))) past refl (later.0, shows past, tt))
      (adds_tick p.limits p.wording (Soundly p Asks May) (follows May) p.refuse p.order O.order (λ r before s at. refuses May (Expired r) (expires r) ends opens frees r before (at, refl, tt) s) time past later)

  ticks : (time : ℕ) (past : List Fact) → Sound past → AddsOf (MayAdd (ClockShows time)) past (tick p.refuse p.order time past)
  ticks time = adds_ticks (MayAdd (ClockShows time)) time (λ past. refl) (λ r past. tt) (λ c past. tt) (λ status receivers past. tt) (λ c service cid past own. own)

  ticks_too : (time : ℕ) (fact : Fact) (before : List Fact) → MayTick fact before → MayAdd (ClockShows time) fact before
  ticks_too time (Forwarded r) before is = is
  ticks_too time (Granted c service cid) before is = is
  ticks_too time _ before is = absurd is

  pub item_adds : (item : Item) (past : List Fact) → Sound past → AddsOf (MayAdd item) past (add p item past)
  item_adds (Joins c) past sound = adds_join p.limits p.wording (By (Joins c)) c past (λ room. (room, refl, tt)) (λ full. (full, refl, tt))
  item_adds (Says c m) past sound = adds_if_present p.limits p.wording (By (Says c m)) c past _ (λ there. O.client c m past sound there)
  item_adds (GoesBad c) past sound = adds_if_present p.limits p.wording (By (GoesBad c)) c past _ (λ there. added p.limits p.wording (By (GoesBad c)) (Ended c BadStream) past refl (there, refl, tt))
  item_adds (Leaves c) past sound = adds_if_present p.limits p.wording (By (Leaves c)) c past _ (λ there. added p.limits p.wording (By (Leaves c)) (Ended c Leaving) past refl (there, refl, tt))
  item_adds (ModemSays m) past sound = O.modem m past sound
  item_adds ModemIsLost past sound =
      let aborts = adds_aborts ModemIsLost (λ r before. tt) (λ c before. tt) (λ status receivers before. tt) (λ c service cid before own. own) past sound in
      let aborted : List Fact = abort_all p.refuse p.order past in
      let closes = O.loss aborted (stays_sound (MayAdd ModemIsLost) past aborted aborts sound) in
      further p.limits p.wording (By ModemIsLost) past aborted _ aborts
      (further p.limits p.wording (By ModemIsLost) aborted (p.close aborted) _ closes (added p.limits p.wording (By ModemIsLost) ModemLost (p.close aborted) refl (tt, tt, tt)))
  item_adds ModemReturns past sound = added p.limits p.wording (By ModemReturns) ModemReturned past refl (tt, tt, tt)
  item_adds (ClockShows time) past sound =
      let ticked : List Fact = tick p.refuse p.order time past in
      further p.limits p.wording (By (ClockShows time)) past ticked _ (ticks time past sound)
      (adds_weaker p.limits p.wording (Soundly p Asks MayTick) (By (ClockShows time)) (λ fact before is. (is.0, ticks_too time fact before is.1, is.2)) ticked _ (O.clock ticked (stays_sound (MayAdd (ClockShows time)) past ticked (ticks time past sound) sound)))
  item_adds (Takes c count) past sound = adds_if_present p.limits p.wording (By (Takes c count)) c past _ (λ there. added p.limits p.wording (By (Takes c count)) (Taken c count) past refl (there, (refl, refl), tt))
  item_adds (ModemTakes count) past sound = added p.limits p.wording (By (ModemTakes count)) (ModemTaken count) past refl (tt, refl, tt)

  -- the time that the clock shows stands
  IsntClock : Fact → List Fact → Type 0
  IsntClock fact before = sets_time fact ≡ false

  ticked_is : (time : ℕ) (past : List Fact) → Sound past → now (tick p.refuse p.order time past) ≡ max time (now past)
  unfolding now IsntClock
  ticked_is time past sound =
      extends_keeps (Soundly p Asks IsntClock) (λ after. now after ≡ max time (now past)) (λ fact before may is. same_time fact before may.1 ∙ is)
      (TimeIs (max time (now past)) ∷ past) (tick p.refuse p.order time past)
      (adds_tick p.limits p.wording (Soundly p Asks IsntClock) (follows IsntClock) p.refuse p.order O.order
      (λ r before s at. adds_weaker p.limits p.wording (Soundly p Asks (MayRefuse (Expired r))) (Soundly p Asks IsntClock) (λ fact b is. (is.0, weaker r fact b is.1, is.2)) before _ (O.refusal (Expired r) r before (at, refl, tt) s))
      time past (begins_to_tick time past sound)).extends
      refl
    where
      weaker : (r : Request) (fact : Fact) (before : List Fact) → MayRefuse (Expired r) fact before → IsntClock fact before
      weaker r (OpeningEnded status receivers) before is = refl
      weaker r (Ended c NoRoom) before is = refl
      weaker r (Freed c service cid) before is = refl
      weaker r fact before is = ap sets_time is

  pub tick_is : (time : ℕ) (past : List Fact) → Sound past → now (p.on_clock (tick p.refuse p.order time past)) ≡ max time (now past)
  unfolding now IsntClock
  tick_is time past sound =
      let ticked : List Fact = tick p.refuse p.order time past in
      extends_keeps (Soundly p Asks MayTick) (λ after. now after ≡ max time (now past)) (λ fact before may is. same_time fact before (no_clock fact before may.1) ∙ is)
      ticked (p.on_clock ticked) (O.clock ticked (stays_sound (MayAdd (ClockShows time)) past ticked (ticks time past sound) sound)).extends (ticked_is time past sound)
    where
      no_clock : (fact : Fact) (before : List Fact) → MayTick fact before → sets_time fact ≡ false
      no_clock (TimeIs shown) before is = absurd is
      no_clock _ before is = refl

  -- ---- several items, and events ----

  pub sound_items : (items : List Item) (past : List Fact) → Sound past → Sound (add_all p items past)
  unfolding add_all
  sound_items [] past sound = sound
  sound_items (item ∷ items) past sound = sound_items items (add p item past) (stays_sound (MayAdd item) past (add p item past) (item_adds item past sound) sound)

  pub histories_are_sound : (events : List Event) → Sound (history p events)
  unfolding history
  histories_are_sound [] = tt
  histories_are_sound (event ∷ events) =
      let items : Sound (add_all p (items_of p events event) (EventBegan ∷ history p events)) = sound_items (items_of p events event) (EventBegan ∷ history p events) (tt, histories_are_sound events) in
      stays_sound MayFinish _ _ (O.finish _ items) items

  pub begun_is_sound : (events : List Event) → Sound (EventBegan ∷ history p events)
  begun_is_sound events = (tt, histories_are_sound events)

  -- and each request was asked rightly
  extends_asked : (May : Fact → List Fact → Type 0) (past after : List Fact) → AddsOf May past after → AreAsked p Asks past → AreAsked p Asks after
  extends_asked May past after adds asked = extends_keeps (Soundly p Asks May) (AreAsked p Asks) (λ fact before may rest. (may.2, rest)) past after adds.extends asked

  pub asked_items : (items : List Item) (past : List Fact) → Sound past → AreAsked p Asks past → AreAsked p Asks (add_all p items past)
  unfolding add_all
  asked_items [] past sound asked = asked
  asked_items (item ∷ items) past sound asked =
      let adds = item_adds item past sound in
      asked_items items (add p item past) (stays_sound (MayAdd item) past (add p item past) adds sound) (extends_asked (MayAdd item) past (add p item past) adds asked)

  pub requests_are_asked : (events : List Event) → AreAsked p Asks (history p events)
  unfolding history
  requests_are_asked [] = tt
  requests_are_asked (event ∷ events) =
      let begun = begun_is_sound events in
      extends_asked MayFinish _ _ (O.finish _ (sound_items (items_of p events event) _ begun)) (asked_items (items_of p events event) (EventBegan ∷ history p events) begun (tt, requests_are_asked events))

  -- of a protocol that asks nothing when the clock shows a time
  item_adds_still : ((past : List Fact) → p.on_clock past ≡ past) → (item : Item) (past : List Fact) → Sound past → AddsOf (MayAddStill item) past (add p item past)
  item_adds_still still (ClockShows time) past sound =
      subst (AddsOf (MayAddStill (ClockShows time)) past) (sym (still (tick p.refuse p.order time past)))
      (adds_ticks (MayAddStill (ClockShows time)) time (λ past. refl) (λ r past. tt) (λ c past. tt) (λ status receivers past. tt) (λ c service cid past own. own) past sound)
  item_adds_still still (Joins c) past sound = item_adds (Joins c) past sound
  item_adds_still still (Says c m) past sound = item_adds (Says c m) past sound
  item_adds_still still (GoesBad c) past sound = item_adds (GoesBad c) past sound
  item_adds_still still (Leaves c) past sound = item_adds (Leaves c) past sound
  item_adds_still still (ModemSays m) past sound = item_adds (ModemSays m) past sound
  item_adds_still still ModemIsLost past sound = item_adds ModemIsLost past sound
  item_adds_still still ModemReturns past sound = item_adds ModemReturns past sound
  item_adds_still still (Takes c count) past sound = item_adds (Takes c count) past sound
  item_adds_still still (ModemTakes count) past sound = item_adds (ModemTakes count) past sound

  -- what the facts of such items keep
  module _ (P : List Fact → Type 0) where
    pub kept_by_items : (Q : Item → Type 0) → ((item : Item) → Q item → (fact : Fact) (past : List Fact) → MayFollow p.limits fact past → MayAdd item fact past → MayAsk p Asks fact past → P past → P (fact ∷ past))
        → (items : List Item) (past : List Fact) → AllByRecursion Q items → Sound past → P past → P (add_all p items past)
    unfolding add_all
    kept_by_items Q keeps [] past all sound held = held
    kept_by_items Q keeps (item ∷ items) past all sound held =
        let adds = item_adds item past sound in
        kept_by_items Q keeps items (add p item past) all.1 (stays_sound (MayAdd item) past (add p item past) adds sound)
        (extends_keeps (By item) P (λ fact before may. keeps item all.0 fact before may.0 may.1 may.2) past (add p item past) adds.extends held)

    -- what they keep where the protocol asks nothing when the clock shows a time
    pub kept_by_still_items : ((past : List Fact) → p.on_clock past ≡ past) → (Q : Item → Type 0)
        → ((item : Item) → Q item → (fact : Fact) (past : List Fact) → MayFollow p.limits fact past → MayAddStill item fact past → MayAsk p Asks fact past → P past → P (fact ∷ past))
        → (items : List Item) (past : List Fact) → AllByRecursion Q items → Sound past → P past → P (add_all p items past)
    unfolding add_all
    kept_by_still_items still Q keeps [] past all sound held = held
    kept_by_still_items still Q keeps (item ∷ items) past all sound held =
        let adds = item_adds_still still item past sound in
        kept_by_still_items still Q keeps items (add p item past) all.1 (stays_sound (MayAddStill item) past (add p item past) adds sound)
        (extends_keeps (Soundly p Asks (MayAddStill item)) P (λ fact before may. keeps item all.0 fact before may.0 may.1 may.2) past (add p item past) adds.extends held)

    pub kept_at_end : ((fact : Fact) (past : List Fact) → MayFollow p.limits fact past → MayFinish fact past → MayAsk p Asks fact past → P past → P (fact ∷ past)) → (past : List Fact) → Sound past → P past → P (p.finish past)
    kept_at_end keeps past sound held = extends_keeps (Soundly p Asks MayFinish) P (λ fact before may. keeps fact before may.0 may.1 may.2) past (p.finish past) (O.finish past sound).extends held

    -- what the facts of an event keep
    pub kept_by_event : (event : Event) → ((item : Item) → IsOf event item → (fact : Fact) (past : List Fact) → MayFollow p.limits fact past → MayAdd item fact past → MayAsk p Asks fact past → P past → P (fact ∷ past))
        → ((fact : Fact) (past : List Fact) → MayFollow p.limits fact past → MayFinish fact past → MayAsk p Asks fact past → P past → P (fact ∷ past))
        → (events : List Event) → P (EventBegan ∷ history p events) → P (history p (event ∷ events))
    unfolding history
    kept_by_event event keeps finishes events held =
        let begun = begun_is_sound events in
        kept_at_end finishes _ (sound_items (items_of p events event) _ begun) (kept_by_items (IsOf event) keeps (items_of p events event) (EventBegan ∷ history p events) (items_are_of p event events) begun held)

  -- who is there got all that was due to it
  abbrev pub Fits : List Fact → Type 0
  Fits past = AllFit p.limits p.wording past

  pub items_fit : (items : List Item) (past : List Fact) → Sound past → Fits past → Fits (add_all p items past)
  unfolding add_all
  items_fit [] past sound fit = fit
  items_fit (item ∷ items) past sound fit =
      let adds = item_adds item past sound in
      items_fit items (add p item past) (stays_sound (MayAdd item) past (add p item past) adds sound) (adds.fits fit)

  pub begun_fits : (past : List Fact) → Fits past → Fits (EventBegan ∷ past)
  begun_fits past fit = (added p.limits p.wording (λ fact before. Unit {0}) EventBegan past refl tt).fits fit

  pub all_fit : (events : List Event) → Fits (history p events)
  unfolding history present
  all_fit [] = λ c there. absurd (cc)
  all_fit (event ∷ events) =
      let begun = begun_is_sound events in
      (O.finish _ (sound_items (items_of p events event) _ begun)).fits (items_fit (items_of p events event) (EventBegan ∷ history p events) begun (begun_fits (history p events) (all_fit events)))
