-- A client's share is its view's own: what each item keeps of it, and each event.
use Rattle.std.proofs.Common.{◌≡◌, ◌≢◌, ℕ, ◌+◌, Bool, true, false, not, ◌&&◌, ◌==◌, nat_le, nat_lt, if◌then◌else◌, List, [], ◌∷◌, ◌++◌, length, map, arith, ⊎_elim, inl, inr, refl, ap, sym, ◌∙◌, subst, Contains, Option, Some, None}
use Rattle.std.specs.List.{AllByRecursion}
use Rattle.std.proofs.lemmas.List.{length-map}
use Rattle.std.proofs.lemmas.Bool.Decides.{nat_tests}
use Rattle.std.proofs.lemmas.Bool.{eqb-true, eq-eqb, false_from_ne_true}
use Rattle.std.proofs.lemmas.List.Elements.{Contains-append_cases}
use Rattle.kit_bytes.proofs.Lists.{all_weaker}
use Rattle.mbim_frame.specs.declared.kind.MessageKind.TheVariants.{Open}
use Rattle.mbim_frame.specs.Head.{is_kind}
use Rattle.mbim_frame.specs.Fragment.{body_of}
use Rattle.mbim_frame.specs.Bodies.{uuid_of, cid_of}
use Rattle.proxy_history.specs.Events.{Event, Joined, ModemTook}
use Rattle.proxy_history.specs.Noting.{join}
use Rattle.proxy_history.specs.Coming.{AreSound}
use Rattle.proxy_history.specs.Facts.{Verdict, Own, Share, Forward, Waits, Fact, Request, EventBegan, NotAdmitted, BadStream, NoRoom, Leaving, Admitted, Ended, Judged, Taken, Forwarded, Answered, Late, Aborted, Indicated, Stray, Freed, OpeningEnded, SessionsClosed, ListSent, Reset, ModemLost, ModemReturned, ModemTaken}
use Rattle.proxy_history.specs.Decision.{Decision, Replies, Forwards}
use Rattle.proxy_history.specs.Connections.{contains, present, is_present, message_count}
use Rattle.proxy_history.specs.Requests.{in_use, pending, is_pending, of_client, has_share}
use Rattle.proxy_history.specs.Items.{Item, Joins, Says, GoesBad, Leaves, ModemSays, ModemIsLost, ModemReturns, ClockShows, Takes, ModemTakes, items_of}
use Rattle.proxy_history.specs.Unanswered.{abort_all}
use Rattle.proxy_history.specs.View.{Said, view, entry_if}
use Rattle.proxy_history.specs.Wording.{told_by}
use Rattle.proxy_history.specs.Sound.{MayFollow, IsSound}
use Rattle.proxy_history.specs.Adding.{MayAdd, MayRefuse, MayFinish, Adds, Soundly}
use Rattle.proxy_history.specs.History as proxy
use Rattle.proxy_history.proofs.Lists.{Contains-nil, Contains-cons_cases}
use Rattle.proxy_history.proofs.Adding.{extends_keeps, adds_weaker, adds_abort_all}
use Rattle.proxy_history.proofs.Sound.{each_contained, forwarded_from_in_use, waits, kept_by_note}
use Rattle.proxy_history.proofs.Counting.{counted}
use Rattle.proxy_history.proofs.Found.{found_is}
use Rattle.proxy_history.proofs.Walk as walk
use Rattle.proxy_history.proofs.Walk.{IsOf, items_are_of, each_message}
use Rattle.proxy_history.proofs.Coming.{joins_or_modem_takes, is_joining_or_modems, other_items, new_names}
use Rattle.mbim_proxy.specs.Setup.{Setup, the_space}
use Rattle.mbim_proxy.specs.Known.{Known}
use Rattle.mbim_proxy.specs.OwnReplies.{view_decides}
use Rattle.mbim_proxy.specs.Step.{blank, known_from, view_of, known_now}
use Rattle.mbim_proxy.specs.Text.{mbim_wording, note}
use Rattle.mbim_proxy.specs.ModemStates.{is_own_open}
use Rattle.mbim_proxy.specs.Lists.{receivers, waiting}
use Rattle.mbim_proxy.specs.Forwarding.{own_open, request_of}
use Rattle.mbim_proxy.specs.Clients.{command_message, shared_decision, decision_for, forward_for, judge, hear_client}
use Rattle.mbim_proxy.specs.FromModem.{Heard, IsDone, IsOpenDone, IsError, IsIndication, IsNeither, heard_as, opening_status, end_opening, is_answered_by, first_answered_by, answer_or_late, respond, hear_as, refuse, in_order, close}
use Rattle.mbim_proxy.specs.OwnList.{finish}
use Rattle.mbim_proxy.specs.History.{mbim_protocol, history}
use Rattle.mbim_proxy.proofs.Verdicts.{no_reply_is_forwarded}
use Rattle.mbim_proxy.proofs.Walk.{Asks, orderly}
use Rattle.mbim_state.proofs.Regular.{Regular, proxy_is_no_client, histories_are_regular}
use Rattle.mbim_isolation.specs.Shares.{view_has_share, decision_by_view}
use Rattle.mbim_isolation.specs.Queues.{facts_before_saying}
use Rattle.mbim_isolation.proofs.Answers.{regular_items}
use Rattle.mbim_isolation.proofs.Places.{places_of, places_more, asked_places, as_many_places}
use Rattle.mbim_isolation.proofs.Waiting.{Fitting, IsCalm, all_counted, fitting_more, ended_too, told_too, opening_ended_too, forwarded_too}
use Rattle.mbim_isolation.proofs.Emptied.{all_given_up}

module _ (s : Setup) (c : ℕ) (client : c ≢ 0) where
  abbrev Sound : List Fact → Type 0
  Sound past = IsSound s.limits past

  abbrev Fits : List Fact → Type 0
  Fits past = Fitting s c past

  abbrev Calm : Fact → List Fact → Type 0
  Calm fact past = IsCalm s c fact past

  more : (fact : Fact) (past : List Fact) → Sound past → Fits past → MayFollow s.limits fact past → Calm fact past → Fits (fact ∷ past)
  more fact past sound F follows calm = fitting_more s c past sound F client fact follows calm

  -- who has no room for it ends
  noted : (fact : Fact) (past : List Fact) → Fits (fact ∷ past) → Fits (note s fact past)
  noted fact past F = kept_by_note s.limits (mbim_wording s) Fits (λ d before there held. ended_too s c d before held) fact past F

  other_than : (d : ℕ) → d ≡ 0 → (d == c) ≡ false
  other_than d own = false_from_ne_true (d == c) (λ e. client (sym (eqb-true d c e) ∙ own))

  -- ---- the client's messages ----

  module _ (m : List ℕ) (n : ℕ) (past : List Fact) (there : is_present c past ≡ true) (F : Fits past) where
    abbrev known : Known
    known = known_now s c past

    abbrev before : List Fact
    before = Judged c (message_count c past + 1) m Forward ∷ past

    abbrev request : Request
    request = request_of s c (command_message s known m) n before

    itself : (c == c) ≡ true
    itself = eq-eqb c c refl

    counts : message_count c before ≡ message_count c past + 1
    unfolding message_count
    counts = ap (λ (b : Bool). if b then message_count c past + 1 else message_count c past) itself

    place_is : known.sent + 1 ≡ request.place
    place_is = ap (λ (k : ℕ). k + 1) (all_counted s (view_of c past) ∙ sym (counted blank c past there)) ∙ sym counts

    is_new : (q : Request) → Contains (request ∷ []) q → request ≡ q
    is_new q at = ⊎_elim (λ is. is) (λ (none : Contains [] q). absurd (Contains-nil q none)) (Contains-cons_cases q request [] at)

    -- those that waited have earlier places
    later_place : (q r : Request) → Contains (pending past) q → (q.conn == c) ≡ true → Contains (request ∷ []) r → (q.place ≡ r.place) → ⊥
    later_place q r at own new same =
        let low = F.early q at own in let high = counts in let is : request.place ≡ r.place = ap (λ (x : Request). x.place) (is_new r new) in omega arith

    forwarded : Fits (Forwarded request ∷ before)
    unfolding pending present view told_by message_count
    forwarded = record {
      early = λ q at own.
          ⊎_elim
          (λ (old : Contains (pending past) q). let low = F.early q old own in let high = counts in omega arith)
          (λ (new : Contains (request ∷ []) q). let is : request.place ≡ q.place = ap (λ (x : Request). x.place) (is_new q new) in omega arith)
          (Contains-append_cases (pending past) (request ∷ []) q at);
      apart = λ q r at_q at_r own_q own_r same.
          let eq : r.place ≡ q.place = eqb-true r.place q.place same in
          ⊎_elim
          (λ (old_q : Contains (pending past) q). ⊎_elim
          (λ (old_r : Contains (pending past) r). F.apart q r old_q old_r own_q own_r same)
          (λ (new_r : Contains (request ∷ []) r). absurd (later_place q r old_q own_q new_r (sym eq)))
          (Contains-append_cases (pending past) (request ∷ []) r at_r))
          (λ (new_q : Contains (request ∷ []) q). ⊎_elim
          (λ (old_r : Contains (pending past) r). absurd (later_place r q old_r own_r new_q eq))
          (λ (new_r : Contains (request ∷ []) r). sym (is_new q new_q) ∙ is_new r new_r)
          (Contains-append_cases (pending past) (request ∷ []) r at_r))
          (Contains-append_cases (pending past) (request ∷ []) q at_q);
      fits = λ still.
          ap (λ (b : Bool). asked_places (known_from s (entry_if b (Said m Forward) (view_of c past))).asks) itself
          ∙ ap (λ (l : List ℕ). l ++ (known.sent + 1) ∷ []) (F.fits there)
          ∙ ap (λ (k : ℕ). places_of c (pending past) ++ k ∷ []) place_is
          ∙ sym (places_more c (pending past) request (ap (λ (b : Bool). b && (the_space == the_space)) itself));
    }

  module _ (m : List ℕ) (past : List Fact) (there : is_present c past ≡ true) (sound : Sound past) (F : Fits past) where
    unsent : (verdict : Verdict) → verdict ≢ Forward → Fits (Judged c (message_count c past + 1) m verdict ∷ past)
    unsent verdict other = more (Judged c (message_count c past + 1) m verdict) past sound F there (inr other)

    -- a request to open waits for the proxy's own
    goes : (opens : Bool) (n : ℕ) → Fits (forward_for opens s (known_now s c past) c m n past)
    goes true n =
        let judged : List Fact = Judged c (message_count c past + 1) m Waits ∷ past in
        forwarded_too s c (request_of s 0 (own_open s) n judged) judged (other_than 0 refl) (unsent Waits (λ (e : Waits ≡ Forward). cc))
    goes false n = forwarded m n past there F

    judged : (decision : Decision) → decision_for s (known_now s c past) c m past ≡ decision → Fits (judge s (known_now s c past) c m decision past)
    judged (Replies verdict) is =
        noted (Judged c (message_count c past + 1) m verdict) past
        (unsent verdict (λ (e : verdict ≡ Forward). no_reply_is_forwarded s (known_now s c past) c m past (is ∙ ap (λ (v : Verdict). Replies v) e)))
    judged (Forwards n) is = goes (is_kind Open m) n

  abbrev add_item : Item → List Fact → List Fact
  add_item item past = proxy.add (mbim_protocol s) item past

  said : (m : List ℕ) (past : List Fact) → Sound past → Fits past → Fits (add_item (Says c m) past)
  said m past sound F = by (is_present c past) refl
    where
      by : (b : Bool) → is_present c past ≡ b → Fits (let after : List Fact = if b then hear_client s (known_now s c past) c m past else past in after)
      by true there = judged m past there sound F (decision_for s (known_now s c past) c m past) refl
      by false absent = F

  -- ---- facts that an item may add, of which each is calm ----

  abbrev Stands : List Fact → Type 0
  Stands past = Sound past × Fits past

  by_calm : (item : Item) → ((fact : Fact) (past : List Fact) → MayAdd item fact past → Calm fact past) → (past : List Fact) → Sound past → Fits past → Fits (add_item item past)
  by_calm item calm past sound F =
      (extends_keeps (Soundly (mbim_protocol s) (Asks s) (MayAdd item)) Stands
      (λ fact before may held. ((may.0, held.0), more fact before held.0 held.1 may.0 (calm fact before may.1)))
      past (add_item item past) (walk.item_adds (mbim_protocol s) (Asks s) (orderly s) item past sound).extends (sound, F)).1

  said_calm : (d : ℕ) (m : List ℕ) → (d == c) ≡ false → (fact : Fact) (past : List Fact) → MayAdd (Says d m) fact past → Calm fact past
  said_calm d m other (Admitted e) past may = absurd may
  said_calm d m other (Judged e place message verdict) past may = inl (ap (λ (k : ℕ). k == c) may.0 ∙ other)
  said_calm d m other (Forwarded r) past may = ⊎_elim (λ (is : r.conn ≡ d). ap (λ (k : ℕ). k == c) is ∙ other) (λ own. other_than r.conn own) may
  said_calm d m other (Late r) past may = absurd may
  said_calm d m other Reset past may = absurd may
  said_calm d m other ModemLost past may = absurd may
  said_calm d m other _ past may = tt

  clock_calm : (time : ℕ) (fact : Fact) (past : List Fact) → MayAdd (ClockShows time) fact past → Calm fact past
  clock_calm time (Admitted e) past may = absurd may
  clock_calm time (Judged e place message verdict) past may = absurd may
  clock_calm time (Forwarded r) past may = other_than r.conn may
  clock_calm time (Late r) past may = absurd may
  clock_calm time Reset past may = absurd may
  clock_calm time ModemLost past may = absurd may
  clock_calm time _ past may = tt

  finish_calm : (fact : Fact) (past : List Fact) → MayFinish fact past → Calm fact past
  finish_calm (Forwarded r) past may = other_than r.conn may
  finish_calm (ListSent list) past may = tt
  finish_calm _ past may = absurd may

  finished : (past : List Fact) → Sound past → Fits past → Fits (finish s past)
  finished past sound F =
      (walk.kept_at_end (mbim_protocol s) (Asks s) (orderly s) Stands
      (λ fact before follows may asked held. ((follows, held.0), more fact before held.0 held.1 follows (finish_calm fact before may))) past sound (sound, F)).1

  -- ---- requests that are given up ----

  abbrev Calmly : Fact → List Fact → Type 0
  Calmly fact past = MayFollow s.limits fact past × Calm fact past

  refused_calm : (r : Request) (fact : Fact) (past : List Fact) → MayRefuse (Aborted r) fact past → Calm fact past
  refused_calm r (OpeningEnded status receivers) past may = tt
  refused_calm r (Ended d NoRoom) past may = tt
  refused_calm r (Freed d service cid) past may = tt
  refused_calm r fact past may = subst (λ (f : Fact). Calm f past) (sym may) tt

  given_up_adds : (past : List Fact) → Sound past → Adds s.limits (mbim_wording s) Calmly past (abort_all (refuse s) in_order past)
  given_up_adds past sound =
      adds_abort_all s.limits (mbim_wording s) Calmly (λ fact before may. may.0) (refuse s) in_order (λ requests r at. at)
      (λ r before held at.
      adds_weaker s.limits (mbim_wording s) (Soundly (mbim_protocol s) (Asks s) (MayRefuse (Aborted r))) Calmly (λ fact b may. (may.0, refused_calm r fact b may.1)) before _
      ((orderly s).refusal (Aborted r) r before (at, refl, tt) held))
      past sound

  lost : (past : List Fact) → Sound past → Fits past → Fits (add_item ModemIsLost past)
  unfolding pending
  lost past sound F =
      let aborted : List Fact = abort_all (refuse s) in_order past in
      let held : Stands aborted = extends_keeps Calmly Stands (λ fact before may held. ((may.0, held.0), more fact before held.0 held.1 may.0 may.1)) past aborted (given_up_adds past sound).extends (sound, F) in
      more ModemLost (close aborted) (each_contained (present aborted), held.0)
      (more (SessionsClosed (present aborted)) aborted held.0 held.1 (each_contained (present aborted)) tt) tt (all_given_up s past)

  -- ---- the modem's messages ----

  opening_ended : (b : Bool) (status : ℕ) (past : List Fact) → Fits past → Fits (let after : List Fact = if b then end_opening s status past else past in after)
  opening_ended true status past F = noted (OpeningEnded status (waiting s past)) past (opening_ended_too s c status (waiting s past) past F)
  opening_ended false status past F = F

  module _ (m : List ℕ) (past : List Fact) (sound : Sound past) (F : Fits past) where
    answered_or_late : (waiting : Bool) (r : Request) → Contains (in_use past) r → is_pending r past ≡ waiting → Fits (answer_or_late s waiting r m past)
    answered_or_late true r at is =
        opening_ended (is_own_open r) (opening_status m) (note s (Answered r m) past)
        (noted (Answered r m) past (more (Answered r m) past sound F (waits s.limits past r sound (forwarded_from_in_use past r at) is) tt))
    answered_or_late false r at is = more (Late r) past sound F at is

    stray : Fits (Stray ∷ past)
    stray = more Stray past sound F tt tt

    responded : (heard : Heard) (found : Option Request) → first_answered_by heard m (in_use past) ≡ found → Fits (respond s found m past)
    responded heard None is = stray
    responded heard (Some r) is = answered_or_late (is_pending r past) r (found_is (is_answered_by heard m) (in_use past) r is).0 refl

    heard : (heard : Heard) → Fits (hear_as s heard m past)
    heard IsDone = responded IsDone (first_answered_by IsDone m (in_use past)) refl
    heard IsOpenDone = responded IsOpenDone (first_answered_by IsOpenDone m (in_use past)) refl
    heard IsError = responded IsError (first_answered_by IsError m (in_use past)) refl
    heard IsIndication =
        let all : List ℕ = receivers s (uuid_of (body_of m)) (cid_of (body_of m)) past in
        noted (Indicated (blank m) all) past (told_too s c (blank m) all past F)
    heard IsNeither = stray

  -- ---- items ----

  ended_if : (b : Bool) (fact : Fact) (past : List Fact) → (b ≡ true → Fits (fact ∷ past)) → Fits past → Fits (let after : List Fact = if b then fact ∷ past else past in after)
  ended_if true fact past ends F = ends refl
  ended_if false fact past ends F = F

  by_item : (item : Item) (past : List Fact) → joins_or_modem_takes item ≡ false → Sound past → Fits past → Fits (add_item item past)
  by_item (Joins d) past other sound F = absurd (cc)
  by_item (ModemTakes count) past other sound F = absurd (cc)
  by_item (Says d m) past other sound F = by (d == c) refl
    where
      by : (b : Bool) → (d == c) ≡ b → Fits (add_item (Says d m) past)
      by true own = subst (λ (e : ℕ). Fits (add_item (Says e m) past)) (sym (eqb-true d c own)) (said m past sound F)
      by false another = by_calm (Says d m) (said_calm d m another) past sound F
  by_item (GoesBad d) past other sound F = ended_if (is_present d past) (Ended d BadStream) past (λ there. more (Ended d BadStream) past sound F there tt) F
  by_item (Leaves d) past other sound F = ended_if (is_present d past) (Ended d Leaving) past (λ there. more (Ended d Leaving) past sound F there tt) F
  by_item (Takes d count) past other sound F = ended_if (is_present d past) (Taken d count) past (λ there. more (Taken d count) past sound F there tt) F
  by_item (ModemSays m) past other sound F = heard m past sound F (heard_as m)
  by_item ModemIsLost past other sound F = lost past sound F
  by_item ModemReturns past other sound F = more ModemReturned past sound F tt tt
  by_item (ClockShows time) past other sound F = by_calm (ClockShows time) (clock_calm time) past sound F

  pub by_items : (items : List Item) (past : List Fact) → AllByRecursion (λ item. joins_or_modem_takes item ≡ false) items → Sound past → Fits past → Fits (proxy.add_all (mbim_protocol s) items past)
  unfolding proxy.add_all
  by_items [] past others sound F = F
  by_items (item ∷ items) past others sound F =
      by_items items (add_item item past) others.1 (walk.sound_items (mbim_protocol s) (Asks s) (orderly s) (item ∷ []) past sound) (by_item item past others.0 sound F)

  -- ---- events ----

  abbrev begun : List Event → List Fact
  begun events = EventBegan ∷ history s events

  pub begins : (events : List Event) → Fits (history s events) → Fits (begun events)
  begins events F = more EventBegan (history s events) (walk.histories_are_sound (mbim_protocol s) (Asks s) (orderly s) events) F tt tt

  joined : (d : ℕ) (past : List Fact) → contains d (present past) ≡ false → Sound past → Fits past → Stands (join s.limits d past)
  joined d past new sound F = by (nat_lt (length (present past)) s.limits.connections) refl
    where
      by : (b : Bool) → nat_lt (length (present past)) s.limits.connections ≡ b → Stands (let after : List Fact = if b then Admitted d ∷ past else Ended d NotAdmitted ∷ past in after)
      by true room = ((grind (arith, nat_tests, room), sound), more (Admitted d) past sound F (grind (arith, nat_tests, room)) new)
      by false full = ((grind (arith, nat_tests, full), sound), more (Ended d NotAdmitted) past sound F (grind (arith, nat_tests, full)) tt)

  by_event : (event : Event) (events : List Event) → is_joining_or_modems event ≡ false → Fits (history s events) → Fits (history s (event ∷ events))
  unfolding proxy.history
  by_event event events other F =
      let items : List Item = items_of (mbim_protocol s) events event in
      let others : AllByRecursion (λ item. joins_or_modem_takes item ≡ false) items =
      all_weaker (IsOf event) (λ item. joins_or_modem_takes item ≡ false) (λ item of. other_items event item other of) items (items_are_of (mbim_protocol s) event events)
      in
      let sound : Sound (begun events) = walk.begun_is_sound (mbim_protocol s) (Asks s) (orderly s) events in
      finished (proxy.add_all (mbim_protocol s) items (begun events)) (walk.sound_items (mbim_protocol s) (Asks s) (orderly s) items (begun events) sound) (by_items items (begun events) others sound (begins events F))

  pub histories_fit : (events : List Event) → AreSound (mbim_protocol s) events → Fits (history s events)
  unfolding proxy.history proxy.add_all pending present view told_by
  histories_fit [] coming = record { early = λ q at own. absurd (Contains-nil q at); apart = λ q r at_q at_r own_q own_r same. absurd (Contains-nil q at_q); fits = λ there. refl }
  histories_fit (Joined d ∷ events) coming =
      let after : Stands (join s.limits d (begun events)) =
      joined d (begun events) (new_names (mbim_protocol s) (Asks s) (orderly s) events d coming.0) (walk.begun_is_sound (mbim_protocol s) (Asks s) (orderly s) events) (begins events (histories_fit events coming.1))
      in
      finished (join s.limits d (begun events)) after.0 after.1
  histories_fit (ModemTook count ∷ events) coming =
      let sound : Sound (begun events) = walk.begun_is_sound (mbim_protocol s) (Asks s) (orderly s) events in
      finished (ModemTaken count ∷ begun events) (tt, sound) (more (ModemTaken count) (begun events) sound (begins events (histories_fit events coming.1)) tt tt)
  histories_fit (event ∷ events) coming = by_event event events refl (histories_fit events coming.1)

-- ---- the laws ----

-- who is there isn't the proxy itself
is_client : (s : Setup) (c : ℕ) (past : List Fact) → Regular s past → is_present c past ≡ true → c ≢ 0
is_client s c past R there own = let clash : true ≡ false = sym there ∙ ap (λ (d : ℕ). contains d (present past)) own ∙ proxy_is_no_client s past R.new in absurd (cc)

as_many : (s : Setup) (c : ℕ) (past : List Fact) → asked_places (known_now s c past).asks ≡ places_of c (pending past) → has_share s.limits.share c the_space past ≡ view_has_share s (known_now s c past)
as_many s c past same =
    ap (nat_le s.limits.share) (sym (sym (as_many_places (known_now s c past).asks) ∙ ap length same ∙ length-map (of_client c the_space (pending past)) (λ (r : Request). r.place)))

pub shares_are_the_views_own : (s : Setup) (events : List Event) (c : ℕ) → AreSound (mbim_protocol s) events → is_present c (history s events) ≡ true
    → has_share s.limits.share c the_space (history s events) ≡ view_has_share s (known_now s c (history s events))
shares_are_the_views_own s events c coming there =
    as_many s c (history s events) ((histories_fit s c (is_client s c (history s events) (histories_are_regular s events coming) there) events coming).fits there)

-- in another order of the same tests
by_tests : (own opens share : Bool) (shared : Decision) → (if not own && not opens && share then Replies Share else if own then Replies Own else shared) ≡ (if own then Replies Own else if not opens && share then Replies Share else shared)
by_tests true opens share shared = refl
by_tests false opens share shared = refl

pub views_decide_first : (s : Setup) (events : List Event) (c : ℕ) (earlier : List (List ℕ)) (m : List ℕ) → AreSound (mbim_protocol s) events → is_present c (facts_before_saying s events c earlier) ≡ true
    → decision_for s (known_now s c (facts_before_saying s events c earlier)) c m (facts_before_saying s events c earlier)
    ≡ decision_by_view s (known_now s c (facts_before_saying s events c earlier)) (shared_decision s (known_now s c (facts_before_saying s events c earlier)) m (facts_before_saying s events c earlier)) m
views_decide_first s events c earlier m coming there =
    let past : List Fact = facts_before_saying s events c earlier in
    let known : Known = known_now s c past in
    let says : List Item = map (λ m. Says c m) earlier in
    let others : AllByRecursion (λ item. joins_or_modem_takes item ≡ false) says = each_message (λ item. joins_or_modem_takes item ≡ false) (λ m. Says c m) earlier (λ m. refl) in
    let client : c ≢ 0 = is_client s c past (regular_items s says events others coming) there in
    let F : Fitting s c past = by_items s c client says (EventBegan ∷ history s events) others (walk.begun_is_sound (mbim_protocol s) (Asks s) (orderly s) events) (begins s c client events (histories_fit s c client events coming)) in
    by_tests (view_decides s known m) (is_kind Open m) (has_share s.limits.share c the_space past) (shared_decision s known m past)
    ∙ ap (λ (b : Bool). if view_decides s known m then Replies Own else if not (is_kind Open m) && b then Replies Share else shared_decision s known m past) (as_many s c past (F.fits there))
