-- Which questions about a history the items may answer anew, each by a table of items and facts.
use Rattle.std.proofs.Common.{◌≡◌, ℕ, Bool, true, false, not, ◌==◌, if◌then◌else◌, List, [], ◌∷◌, ◌++◌, refl, ap, sym, ◌∙◌, append_assoc, append-nil}
use Rattle.std.proofs.lemmas.Bool.{not-true}
use Rattle.proxy_history.specs.Items.{Item, Joins, Says, GoesBad, Leaves, ModemSays, ModemIsLost, ModemReturns, ClockShows, Takes, ModemTakes}
use Rattle.proxy_history.specs.Facts.{NotAdmitted, BadStream, NoRoom, Leaving, Fact, Request, EventBegan, Admitted, Ended, Judged, Taken, Forwarded, Answered, IdHeld, Expired, Aborted, Indicated, Granted, OpeningEnded, SessionsClosed, ModemLost, ModemReturned, ModemTaken, TimeIs}
use Rattle.proxy_history.specs.Connections.{contains}
use Rattle.proxy_history.specs.Modem.{now, is_away, to_modem, modem_taken_count}
use Rattle.proxy_history.specs.View.{Blank, Entry, Said, Response, Refused, Indication, OpenedWith, Shut, Taking, End, HeldId, NoAnswer, entry_if, view}
use Rattle.proxy_history.specs.HungUp.{is_beginning}
use Rattle.proxy_history.specs.Adding.{MayAdd}
use Rattle.proxy_history.proofs.Growing.{begins_or_takes}

-- no item begins an event
pub begins_no_event : (item : Item) (fact : Fact) (past : List Fact) → MayAdd item fact past → is_beginning fact ≡ false
begins_no_event (Joins c) EventBegan past may = absurd may
begins_no_event _ EventBegan past may = absurd may
begins_no_event _ _ past may = refl

-- ---- the clock ----

abbrev pub sets_time : Fact → Bool
sets_time (TimeIs time) = true
sets_time _ = false

pub same_time : (fact : Fact) (past : List Fact) → sets_time fact ≡ false → now (fact ∷ past) ≡ now past
unfolding now
same_time (TimeIs time) past none = absurd (cc)
same_time _ past none = refl

abbrev pub is_clock : Item → Bool
is_clock (ClockShows time) = true
is_clock _ = false

pub clock_alone : (item : Item) (fact : Fact) (past : List Fact) → is_clock item ≡ false → MayAdd item fact past → sets_time fact ≡ false
clock_alone (ClockShows time) _ past none may = absurd (cc)
clock_alone _ (TimeIs shown) past none may = absurd may
clock_alone _ _ past none may = refl

-- ---- whether the modem is away ----

abbrev pub moves_modem : Fact → Bool
moves_modem ModemLost = true
moves_modem ModemReturned = true
moves_modem _ = false

pub same_away : (away : Bool) (fact : Fact) (past : List Fact) → moves_modem fact ≡ false → is_away away (fact ∷ past) ≡ is_away away past
unfolding is_away
same_away away ModemLost past none = absurd (cc)
same_away away ModemReturned past none = absurd (cc)
same_away away _ past none = refl

abbrev pub fails_or_returns : Item → Bool
fails_or_returns ModemIsLost = true
fails_or_returns ModemReturns = true
fails_or_returns _ = false

pub losses_alone : (item : Item) (fact : Fact) (past : List Fact) → fails_or_returns item ≡ false → MayAdd item fact past → moves_modem fact ≡ false
losses_alone ModemIsLost _ past none may = absurd (cc)
losses_alone ModemReturns _ past none may = absurd (cc)
losses_alone _ ModemLost past none may = absurd may
losses_alone _ ModemReturned past none may = absurd may
losses_alone _ _ past none may = refl

-- ---- the bytes for the modem ----

abbrev pub takes_from_queue : Fact → Bool
takes_from_queue ModemLost = true
takes_from_queue (ModemTaken count) = true
takes_from_queue _ = false

abbrev pub fails_or_takes : Item → Bool
fails_or_takes ModemIsLost = true
fails_or_takes (ModemTakes count) = true
fails_or_takes _ = false

pub takings_alone : (item : Item) (fact : Fact) (past : List Fact) → fails_or_takes item ≡ false → MayAdd item fact past → takes_from_queue fact ≡ false
takings_alone ModemIsLost _ past none may = absurd (cc)
takings_alone (ModemTakes count) _ past none may = absurd (cc)
takings_alone _ ModemLost past none may = absurd may
takings_alone _ (ModemTaken count) past none may = absurd may
takings_alone _ _ past none may = refl

-- the bytes for the modem that there were, and perhaps more behind them; none is taken
pub record QueueGrows (wire : Request → List ℕ) (before past : List Fact) : Type 0 where
  pub more : List ℕ
  pub bytes : to_modem wire past ≡ to_modem wire before ++ more
  pub taken : modem_taken_count past ≡ modem_taken_count before

module _ (wire : Request → List ℕ) (before : List Fact) where
  pub queue_same : QueueGrows wire before before
  queue_same = record { more = []; bytes = sym (append-nil (to_modem wire before)); taken = refl }

  pub queue_grows : (fact : Fact) (past : List Fact) → takes_from_queue fact ≡ false → QueueGrows wire before past → QueueGrows wire before (fact ∷ past)
  unfolding to_modem modem_taken_count
  queue_grows ModemLost past none g = absurd (cc)
  queue_grows (ModemTaken count) past none g = absurd (cc)
  queue_grows (Forwarded r) past none g = record {
    more = g.more ++ wire r;
    bytes = ap (λ (l : List ℕ). l ++ wire r) g.bytes ∙ append_assoc (to_modem wire before) g.more (wire r);
    taken = g.taken;
  }
  queue_grows _ past none g = record { more = g.more; bytes = g.bytes; taken = g.taken }

-- ---- one client ----

module _ (client : ℕ) where
  -- the fact is in the client's view, or begins it anew
  abbrev pub enters : Fact → Bool
  enters (Admitted c) = c == client
  enters (Ended c NoRoom) = false
  enters (Ended c why) = c == client
  enters (Judged c place message verdict) = c == client
  enters (Taken c count) = c == client
  enters (Answered r message) = r.conn == client
  enters (IdHeld r) = r.conn == client
  enters (Expired r) = r.conn == client
  enters (Aborted r) = r.conn == client
  enters (Indicated message receivers) = contains client receivers
  enters (OpeningEnded status receivers) = contains client receivers
  enters (SessionsClosed receivers) = contains client receivers
  enters _ = false

  no_entry : (b : Bool) (entry : Entry) (entries : List Entry) → b ≡ false → entry_if b entry entries ≡ entries
  no_entry true entry entries none = absurd (cc)
  no_entry false entry entries none = refl

  not_anew : (b : Bool) (fresh entries : List Entry) → b ≡ false → (if b then fresh else entries) ≡ entries
  not_anew true fresh entries none = absurd (cc)
  not_anew false fresh entries none = refl

  pub same_view : (blank : Blank) (fact : Fact) (past : List Fact) → enters fact ≡ false → view blank client (fact ∷ past) ≡ view blank client past
  unfolding view
  same_view blank (Admitted c) past none = not_anew (c == client) [] (view blank client past) none
  same_view blank (Ended c NotAdmitted) past none = not_anew (c == client) (End NotAdmitted ∷ []) (view blank client past) none
  same_view blank (Ended c BadStream) past none = no_entry (c == client) (End BadStream) (view blank client past) none
  same_view blank (Ended c Leaving) past none = no_entry (c == client) (End Leaving) (view blank client past) none
  same_view blank (Judged c place message verdict) past none = no_entry (c == client) (Said message verdict) (view blank client past) none
  same_view blank (Taken c count) past none = no_entry (c == client) (Taking count) (view blank client past) none
  same_view blank (Answered r message) past none = no_entry (r.conn == client) (Response r.place (blank message)) (view blank client past) none
  same_view blank (IdHeld r) past none = no_entry (r.conn == client) (Refused r.place HeldId) (view blank client past) none
  same_view blank (Expired r) past none = no_entry (r.conn == client) (Refused r.place NoAnswer) (view blank client past) none
  same_view blank (Aborted r) past none = no_entry (r.conn == client) (Refused r.place NoAnswer) (view blank client past) none
  same_view blank (Indicated message receivers) past none = no_entry (contains client receivers) (Indication message) (view blank client past) none
  same_view blank (OpeningEnded status receivers) past none = no_entry (contains client receivers) (OpenedWith status) (view blank client past) none
  same_view blank (SessionsClosed receivers) past none = no_entry (contains client receivers) Shut (view blank client past) none
  same_view blank _ past none = refl

  -- an item of another client
  abbrev pub is_anothers_item : Item → Bool
  is_anothers_item (Joins c) = not (c == client)
  is_anothers_item (Says c m) = not (c == client)
  is_anothers_item (GoesBad c) = not (c == client)
  is_anothers_item (Leaves c) = not (c == client)
  is_anothers_item (Takes c count) = not (c == client)
  is_anothers_item _ = false

  other_is : (c d : ℕ) → d ≡ c → not (c == client) ≡ true → (d == client) ≡ false
  other_is c d same other = ap (λ (x : ℕ). x == client) same ∙ not-true (c == client) other

  pub others_enter_nothing : (item : Item) (fact : Fact) (past : List Fact) → is_anothers_item item ≡ true → MayAdd item fact past → enters fact ≡ false
  others_enter_nothing (Joins c) (Admitted d) past other may = other_is c d may other
  others_enter_nothing (Joins c) (Ended d NotAdmitted) past other may = other_is c d may other
  others_enter_nothing (Says c m) (Judged d place message verdict) past other may = other_is c d may.0 other
  others_enter_nothing (GoesBad c) (Ended d BadStream) past other may = other_is c d may other
  others_enter_nothing (Leaves c) (Ended d Leaving) past other may = other_is c d may other
  others_enter_nothing (Takes c count) (Taken d taken) past other may = other_is c d may.0 other
  others_enter_nothing (ModemSays m) _ past other may = absurd (cc)
  others_enter_nothing ModemIsLost _ past other may = absurd (cc)
  others_enter_nothing ModemReturns _ past other may = absurd (cc)
  others_enter_nothing (ClockShows time) _ past other may = absurd (cc)
  others_enter_nothing (ModemTakes count) _ past other may = absurd (cc)
  others_enter_nothing (Says c m) (Forwarded r) past other may = refl
  others_enter_nothing (Says c m) (Granted d service id) past other may = refl
  others_enter_nothing (Says c m) (Ended d NoRoom) past other may = refl
  others_enter_nothing _ _ past other may = absurd may

  -- the item is of a joining of the client, or of a taking of its socket
  abbrev pub item_joins_or_takes : Item → Bool
  item_joins_or_takes (Joins c) = c == client
  item_joins_or_takes (Takes c count) = c == client
  item_joins_or_takes _ = false

  pub joinings_alone : (item : Item) (fact : Fact) (past : List Fact) → item_joins_or_takes item ≡ false → MayAdd item fact past → begins_or_takes client fact ≡ false
  joinings_alone (Joins c) (Admitted d) past none may = ap (λ (x : ℕ). x == client) may ∙ none
  joinings_alone (Joins c) (Ended d NotAdmitted) past none may = ap (λ (x : ℕ). x == client) may ∙ none
  joinings_alone (Takes c count) (Taken d taken) past none may = ap (λ (x : ℕ). x == client) may.0 ∙ none
  joinings_alone _ (Admitted d) past none may = absurd may
  joinings_alone _ (Ended d NotAdmitted) past none may = absurd may
  joinings_alone _ (Taken d taken) past none may = absurd may
  joinings_alone _ _ past none may = refl
