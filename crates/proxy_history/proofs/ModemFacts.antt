-- The facts that the messages of the modem, its loss and the end of an event add, and what they leave of a client.
use Rattle.std.proofs.Common.{◌≡◌, ℕ, ◌+◌, Bool, true, false, not, ◌||◌, ◌==◌, nat_lt, List, [], ◌∷◌, ◌++◌, length, refl, ap, sym, ◌∙◌}
use Rattle.std.proofs.lemmas.Bool.{eqb-true, eq-eqb, or_left, or_right}
use Rattle.std.proofs.lemmas.List.Elements.{All-nil, All-cons}
use Rattle.std.specs.List.{AllByRecursion}
use Rattle.proxy_history.specs.Items.{Item, Joins, Says, GoesBad, Leaves, ModemSays, ModemIsLost, ModemReturns, ClockShows, Takes, ModemTakes}
use Rattle.proxy_history.specs.Facts.{Fact, EventBegan, Admitted, Ended, NotAdmitted, BadStream, NoRoom, Leaving, Judged, Taken, Request, Answered, IdHeld, Expired, Aborted, Indicated, OpeningEnded, SessionsClosed}
use Rattle.proxy_history.specs.Connections.{contains, present, is_present, dropped}
use Rattle.proxy_history.specs.View.{Entry, Response, Refused, Indication, OpenedWith, Shut, HeldId, NoAnswer, entry_if, view}
use Rattle.proxy_history.specs.Rendering.{Rendering, render, put, put_unless, Grows}
use Rattle.proxy_history.specs.Limits.{Limits}
use Rattle.proxy_history.specs.Wording.{Wording, text_behind}
use Rattle.proxy_history.specs.Noting.{rendering}
use Rattle.proxy_history.specs.Protocol.{Protocol}
use Rattle.proxy_history.specs.History.{add_all}
use Rattle.proxy_history.specs.Standing.{IsEndedForRoom}
use Rattle.proxy_history.specs.HungUp.{is_beginning}
use Rattle.proxy_history.specs.Sound.{IsSound}
use Rattle.proxy_history.specs.Adding.{Extends, MayAdd, IsOrderly}
use Rattle.proxy_history.proofs.Lists.{contains_filter}
use Rattle.proxy_history.proofs.Adding.{extends_none, extends_one, extends_further, extends_keeps}
use Rattle.proxy_history.proofs.Walk.{kept_by_items, kept_at_end}
use Rattle.proxy_history.proofs.Folds.{at_end}
use Rattle.proxy_history.proofs.Growing as growing
use Rattle.proxy_history.proofs.Numbers.{contains_other}

-- ---- which facts they are ----

abbrev pub is_of_modem : Fact → Bool
is_of_modem EventBegan = false
is_of_modem (Admitted c) = false
is_of_modem (Ended c NoRoom) = true
is_of_modem (Ended c why) = false
is_of_modem (Judged c place message verdict) = false
is_of_modem (Taken c count) = false
is_of_modem _ = true

abbrev pub OfModem : Fact → List Fact → Type 0
OfModem fact past = is_of_modem fact ≡ true

abbrev pub is_modems : Item → Bool
is_modems (ModemSays m) = true
is_modems ModemIsLost = true
is_modems _ = false

of_modem : (item : Item) (fact : Fact) (past : List Fact) → is_modems item ≡ true → MayAdd item fact past → OfModem fact past
of_modem (Joins c) _ past modems may = absurd (cc)
of_modem (Says c m) _ past modems may = absurd (cc)
of_modem (GoesBad c) _ past modems may = absurd (cc)
of_modem (Leaves c) _ past modems may = absurd (cc)
of_modem ModemReturns _ past modems may = absurd (cc)
of_modem (ClockShows time) _ past modems may = absurd (cc)
of_modem (Takes c count) _ past modems may = absurd (cc)
of_modem (ModemTakes count) _ past modems may = absurd (cc)
of_modem _ EventBegan past modems may = absurd may
of_modem _ (Admitted c) past modems may = absurd may
of_modem _ (Ended c NotAdmitted) past modems may = absurd may
of_modem _ (Ended c BadStream) past modems may = absurd may
of_modem _ (Ended c Leaving) past modems may = absurd may
of_modem _ (Judged c place message verdict) past modems may = absurd may
of_modem _ (Taken c count) past modems may = absurd may
of_modem _ _ past modems may = refl

-- the messages of a piece, and the loss behind a stream that went bad
module _ {Known : Type 0} (p : Protocol Known) (Asks : Request → List Fact → Type 0) (O : IsOrderly p Asks) where
  pub modem_adds : (items : List Item) (past : List Fact) → AllByRecursion (λ item. is_modems item ≡ true) items → IsSound p.limits past → Extends OfModem past (add_all p items past)
  modem_adds items past modems sound =
      kept_by_items p Asks O (Extends OfModem past) (λ item. is_modems item ≡ true)
      (λ item is fact before follows may asked more. extends_further OfModem past before (fact ∷ before) more (extends_one OfModem fact before (of_modem item fact before is may)))
      items past modems sound (extends_none OfModem past)

  -- and what the proxy itself asks behind them
  pub end_adds : (before past : List Fact) → IsSound p.limits past → Extends OfModem before past → Extends OfModem before (p.finish past)
  end_adds before past sound adds =
      kept_at_end p Asks O (Extends OfModem before)
      (λ fact last follows may asked more. extends_further OfModem before last (fact ∷ last) more (extends_one OfModem fact last (at_end (λ f. is_of_modem f ≡ true) (λ r. refl) (λ list. refl) fact last may)))
      past sound adds

-- ---- what they leave of a client ----

module _ {Known : Type 0} (limits : Limits) (wording : Wording Known) (client : ℕ) where
  begins_none : (fact : Fact) → is_of_modem fact ≡ true → growing.begins_or_takes client fact ≡ false
  begins_none (Admitted c) is = absurd (cc)
  begins_none (Ended c NotAdmitted) is = absurd (cc)
  begins_none (Taken c count) is = absurd (cc)
  begins_none _ is = refl

  -- its bytes stay, and more may come behind them
  pub all_grow : (past after : List Fact) → Extends OfModem past after → Grows (rendering limits wording client past) (rendering limits wording client after)
  all_grow past after adds =
      extends_keeps OfModem (λ now. Grows (rendering limits wording client past) (rendering limits wording client now))
      (λ fact before is grown. growing.grows_further limits wording client past before (fact ∷ before) grown (growing.fact_grows limits wording client fact before (begins_none fact is)))
      past after adds (growing.grows_same (rendering limits wording client past))

  -- what came when its queue was full wasn't written, and nothing is written behind it
  full : (bytes : List ℕ) (r : Rendering) → r.is_over ≡ true → put limits.outbox bytes r ≡ r
  full bytes r over = by_test (nat_lt limits.outbox (length r.waiting + length bytes))
    where
      by_test : (lacks : Bool) → put_unless (r.is_over || lacks) bytes r ≡ r
      by_test lacks = ap (λ (b : Bool). put_unless (b || lacks) bytes r) over ∙ ap (λ (b : Bool). let x : Rendering = record { bytes = r.bytes; waiting = r.waiting; is_over = b } in x) (sym over)

  full_entry : (b : Bool) (entry : Entry) (bytes : List ℕ) (entries : List Entry) → (render limits.outbox (text_behind wording) entries).is_over ≡ true
      → render limits.outbox (text_behind wording) (entry ∷ entries) ≡ put limits.outbox bytes (render limits.outbox (text_behind wording) entries) → render limits.outbox (text_behind wording) (entry_if b entry entries) ≡ render limits.outbox (text_behind wording) entries
  full_entry true entry bytes entries over is = is ∙ full bytes (render limits.outbox (text_behind wording) entries) over
  full_entry false entry bytes entries over is = refl

  full_fact : (fact : Fact) (past : List Fact) → is_of_modem fact ≡ true → (rendering limits wording client past).is_over ≡ true → rendering limits wording client (fact ∷ past) ≡ rendering limits wording client past
  unfolding view render
  full_fact EventBegan past is over = refl
  full_fact (Admitted c) past is over = absurd (cc)
  full_fact (Ended c NotAdmitted) past is over = absurd (cc)
  full_fact (Ended c BadStream) past is over = absurd (cc)
  full_fact (Ended c Leaving) past is over = absurd (cc)
  full_fact (Judged c place message verdict) past is over = absurd (cc)
  full_fact (Taken c count) past is over = absurd (cc)
  full_fact (Answered r m) past is over = full_entry (r.conn == client) (Response r.place (wording.blank m)) _ (view wording.blank client past) over refl
  full_fact (IdHeld r) past is over = full_entry (r.conn == client) (Refused r.place HeldId) _ (view wording.blank client past) over refl
  full_fact (Expired r) past is over = full_entry (r.conn == client) (Refused r.place NoAnswer) _ (view wording.blank client past) over refl
  full_fact (Aborted r) past is over = full_entry (r.conn == client) (Refused r.place NoAnswer) _ (view wording.blank client past) over refl
  full_fact (Indicated m receivers) past is over = full_entry (contains client receivers) (Indication m) _ (view wording.blank client past) over refl
  full_fact (OpeningEnded status receivers) past is over = full_entry (contains client receivers) (OpenedWith status) _ (view wording.blank client past) over refl
  full_fact (SessionsClosed receivers) past is over =
      elim (contains client receivers) as (λ b. render limits.outbox (text_behind wording) (entry_if b Shut (view wording.blank client past)) ≡ render limits.outbox (text_behind wording) (view wording.blank client past)) [ true ↦ refl | false ↦ refl ]
  full_fact _ past is over = refl

  pub all_full : (past after : List Fact) → Extends OfModem past after → (rendering limits wording client past).is_over ≡ true → rendering limits wording client after ≡ rendering limits wording client past
  all_full past after adds over =
      extends_keeps OfModem (λ now. rendering limits wording client now ≡ rendering limits wording client past)
      (λ fact before is same. full_fact fact before is (ap (λ (r : Rendering). r.is_over) same ∙ over) ∙ same) past after adds refl

-- who is gone stays gone
module _ (client : ℕ) where
  gone_stays : (fact : Fact) (past : List Fact) → is_of_modem fact ≡ true → is_present client past ≡ false → is_present client (fact ∷ past) ≡ false
  unfolding present
  gone_stays (Admitted c) past is gone = absurd (cc)
  gone_stays (Ended c why) past is gone = contains_filter client (λ d. not (c == d)) (present past) gone
  gone_stays _ past is gone = gone

  pub all_gone : (past after : List Fact) → Extends OfModem past after → is_present client past ≡ false → is_present client after ≡ false
  all_gone past after adds gone = extends_keeps OfModem (λ now. is_present client now ≡ false) gone_stays past after adds gone

  -- who was there and is gone was ended for want of room
  abbrev pub IsOwed : List Fact → Type 0
  IsOwed past = is_present client past ≡ false → IsEndedForRoom client past

  contains_pushed : (xs : List ℕ) (d : ℕ) → contains client (xs ++ d ∷ []) ≡ (contains client xs || client == d)
  contains_pushed [] d = elim (client == d) as (λ b. (b || false) ≡ b) [ true ↦ refl | false ↦ refl ]
  contains_pushed (x ∷ xs) d = elim (client == x) as (λ b. (b || contains client (xs ++ d ∷ [])) ≡ ((b || contains client xs) || client == d)) [ true ↦ refl | false ↦ contains_pushed xs d ]

  ended_more : (fact : Fact) (past : List Fact) → is_beginning fact ≡ false → contains client (dropped (fact ∷ past)) ≡ true → IsEndedForRoom client past → IsEndedForRoom client (fact ∷ past)
  ended_more fact past on hung_up ended = record {
    later = fact ∷ ended.later;
    earlier = ended.earlier;
    whole = ap (λ (l : List Fact). fact ∷ l) ended.whole;
    since = All-cons (λ (f : Fact). is_beginning f ≡ false) fact ended.later on ended.since;
    hung_up = hung_up;
  }

  ended_owed : (c : ℕ) (past : List Fact) → IsOwed past → IsOwed (Ended c NoRoom ∷ past)
  unfolding present dropped
  ended_owed c past owed gone =
      let step : (b : Bool) → (c == client) ≡ b → IsEndedForRoom client (Ended c NoRoom ∷ past) =
      λ b. elim b as (λ b. (c == client) ≡ b → IsEndedForRoom client (Ended c NoRoom ∷ past)) [
        | true ↦ λ e. let same : c ≡ client = eqb-true c client e in record {
          later = [];
          earlier = past;
          whole = ap (λ (x : ℕ). Ended x NoRoom ∷ past) same;
          since = All-nil (λ (f : Fact). is_beginning f ≡ false);
          hung_up = contains_pushed (dropped past) c ∙ or_right (contains client (dropped past)) (client == c) (eq-eqb client c (sym same));
        }
        | false ↦ λ e.
            let ended = owed (sym (contains_other c client (present past) e) ∙ gone) in
            ended_more (Ended c NoRoom) past refl (contains_pushed (dropped past) c ∙ or_left (contains client (dropped past)) (client == c) ended.hung_up) ended
      ]
      in step (c == client) refl

  fact_owed : (fact : Fact) (past : List Fact) → is_of_modem fact ≡ true → IsOwed past → IsOwed (fact ∷ past)
  unfolding present dropped
  fact_owed EventBegan past is owed gone = absurd (cc)
  fact_owed (Admitted c) past is owed gone = absurd (cc)
  fact_owed (Ended c NoRoom) past is owed gone = ended_owed c past owed gone
  fact_owed (Ended c why) past is owed gone = absurd (cc)
  fact_owed fact past is owed gone = let ended = owed gone in ended_more fact past refl ended.hung_up ended

  pub all_owed : (past after : List Fact) → Extends OfModem past after → IsOwed past → IsOwed after
  all_owed past after adds owed = extends_keeps OfModem IsOwed (λ fact before is held. fact_owed fact before is held) past after adds owed
