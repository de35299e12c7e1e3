-- A client's share is its view's own: what each item keeps of it, and each event.
use Rattle.std.proofs.Common.{◌≡◌, ◌≢◌, ℕ, ◌+◌, ◌≤◌, Bool, true, false, not, ◌&&◌, ◌==◌, nat_le, nat_lt, if◌then◌else◌, List, [], ◌∷◌, ◌++◌, length, map, arith, ⊎_elim, inl, inr, refl, ap, sym, ◌∙◌, subst, Contains, Option, Some, None}
use Rattle.std.specs.List.{AllByRecursion}
use Rattle.std.proofs.lemmas.Bool.Decides.{nat_tests}
use Rattle.std.proofs.lemmas.Bool.{eqb-true, eq-eqb, false_from_ne_true}
use Rattle.std.proofs.lemmas.List.Elements.{All-contains, Contains-append_cases}
use Rattle.std.proofs.lemmas.List.{length-map}
use Rattle.kit_bytes.proofs.Lists.{all_weaker}
use Rattle.qmux_frame.specs.declared.kind.MessageKind.{MessageKind}
use Rattle.qmux_frame.specs.declared.kind.MessageKind.TheVariants as kind
use Rattle.qmux_frame.specs.Head.{is_control, cid_of}
use Rattle.qmux_frame.specs.Kind.{framed_kind}
use Rattle.qmux_frame.specs.Control.{is_sync}
use Rattle.proxy_history.specs.Events.{Event, Joined, ModemTook}
use Rattle.proxy_history.specs.Noting.{join}
use Rattle.proxy_history.specs.Coming.{AreSound}
use Rattle.proxy_history.specs.Facts.{Verdict, Own, Share, Forward, Fact, Request, EventBegan, NotAdmitted, BadStream, NoRoom, Leaving, Admitted, Ended, Judged, Taken, Forwarded, Answered, IdHeld, Late, Aborted, Indicated, Stray, Granted, Freed, OpeningEnded, Reset, ModemLost, ModemReturned, ModemTaken}
use Rattle.proxy_history.specs.Decision.{Decision, Replies, Forwards}
use Rattle.proxy_history.specs.Connections.{contains, present, is_present, message_count}
use Rattle.proxy_history.specs.Requests.{in_use, pending, is_pending, of_client, has_share}
use Rattle.proxy_history.specs.Items.{Item, Joins, Says, GoesBad, Leaves, ModemSays, ModemIsLost, ModemReturns, ClockShows, Takes, ModemTakes}
use Rattle.proxy_history.specs.View.{Said, view, entry_if, said_count}
use Rattle.proxy_history.specs.Sound.{IsParty, MayFollow, IsSound}
use Rattle.proxy_history.specs.Adding.{MayAdd, MayRefuse, Adds, Soundly}
use Rattle.proxy_history.specs.History as proxy
use Rattle.proxy_history.proofs.Lists.{Contains-nil, Contains-cons_cases}
use Rattle.proxy_history.proofs.Adding.{extends_keeps, adds_weaker, adds_abort_all}
use Rattle.proxy_history.proofs.Sound.{forwarded_from_in_use, waits, kept_by_note}
use Rattle.proxy_history.proofs.SoundLaws.{waiting_are_parties}
use Rattle.proxy_history.proofs.Counting.{counted}
use Rattle.proxy_history.proofs.Walk as walk
use Rattle.proxy_history.proofs.Walk.{IsOf, items_are_of, each_message}
use Rattle.proxy_history.proofs.Coming.{joins_or_modem_takes, is_joining_or_modems, other_items, new_names}
use Rattle.qmi_proxy.specs.Setup.{Setup}
use Rattle.qmi_proxy.specs.Limits.{qmi_limits, connection_limit, share_limit}
use Rattle.qmi_proxy.specs.Spaces.{space_of}
use Rattle.qmi_proxy.specs.Messages.{uses_id, used_service, used_cid}
use Rattle.qmi_proxy.specs.OwnReplies.{is_open, view_decides}
use Rattle.qmi_proxy.specs.Text.{view_of, blank, note, qmi_wording}
use Rattle.qmi_proxy.specs.Clients.{shared_decision, decision_on, request_of, grant_if, judge, hear_client}
use Rattle.qmi_proxy.specs.FromModem.{IdChange, NoChange, Grants, Collides, Frees, id_change, holder_of_brought, answer, answer_to, answer_or_late, respond, first_answered_by, in_expiry_order, refuse, abort_all, lose, receivers, tell, indicate, hear_as}
use Rattle.qmi_proxy.specs.History.{qmi_protocol, add, add_all, items_of, history}
use Rattle.qmi_proxy.specs.Regular.{Regular}
use Rattle.qmi_proxy.proofs.Answered.{found_is, change_free}
use Rattle.qmi_proxy.proofs.Verdicts.{no_reply_is_forwarded}
use Rattle.qmi_proxy.proofs.Walk.{Asks, orderly, only_those}
use Rattle.qmi_proxy.proofs.Regulars.{asked_of_pending, regular_begun, regular_items, histories_are_regular}
use Rattle.qmi_isolation.specs.Shares.{waiting_places, view_has_share, decision_by_view}
use Rattle.qmi_isolation.specs.Queues.{facts_before_saying}
use Rattle.qmi_isolation.proofs.Places.{places_of, places_more}
use Rattle.qmi_isolation.proofs.Waiting.{Fitting, IsCalm, fitting_more, ended_too, granted_too, freed_too, told_too}
use Rattle.qmi_isolation.proofs.Emptied.{all_given_up}

module _ (s : Setup) (c : ℕ) (client : c ≢ 0) where
  abbrev Fits : List Fact → Type 0
  Fits past = Fitting c past

  -- who has no room for it ends
  noted : (fact : Fact) (past : List Fact) → Fits (fact ∷ past) → Fits (note s.device fact past)
  noted fact past F = kept_by_note qmi_limits (qmi_wording s.device) Fits (λ d before there held. ended_too c d before held) fact past F

  other_than : (d : ℕ) → d ≡ 0 → (d == c) ≡ false
  other_than d own = false_from_ne_true (d == c) (λ e. client (sym (eqb-true d c e) ∙ own))

  -- ---- the client's messages ----

  module _ (m : List ℕ) (n : ℕ) (past : List Fact) (there : is_present c past ≡ true) (R : Regular past) (F : Fits past) where
    abbrev before : List Fact
    before = Judged c (message_count c past + 1) m Forward ∷ past

    abbrev request : Request
    request = request_of s c m n before

    itself : (c == c) ≡ true
    itself = eq-eqb c c refl

    place_is : said_count (view_of c past) + 1 ≡ request.place
    unfolding message_count
    place_is = ap (λ (k : ℕ). k + 1) (sym (counted blank c past there)) ∙ sym (ap (λ (b : Bool). if b then message_count c past + 1 else message_count c past) itself)

    -- those that waited have earlier places
    earlier_place : (q : Request) → Contains (pending past) q → (q.conn == c) ≡ true → q.place ≤ said_count (view_of c past)
    earlier_place q at own =
        ⊎_elim
        (λ sent. subst (λ (d : ℕ). q.place ≤ said_count (view_of d past)) (eqb-true q.conn c own) sent.1)
        (λ (proxy : q.conn ≡ 0). absurd (let clash : true ≡ false = sym own ∙ other_than q.conn proxy in cc))
        (asked_of_pending past q R at)

    later_place : (q : Request) (place : ℕ) → Contains (pending past) q → (q.conn == c) ≡ true → place ≡ request.place → (q.place ≡ place) → ⊥
    later_place q place at own is same = let low = earlier_place q at own in let high = place_is in omega arith

    is_new : (q : Request) → Contains (request ∷ []) q → request ≡ q
    is_new q at = ⊎_elim (λ is. is) (λ (none : Contains [] q). absurd (Contains-nil q none)) (Contains-cons_cases q request [] at)

    forwarded : Fits (Forwarded request ∷ before)
    unfolding pending present view
    forwarded = record {
      apart = λ q r at_q at_r own_q own_r same.
          let eq : r.place ≡ q.place = grind (arith, nat_tests, same) in
          ⊎_elim
          (λ (old_q : Contains (pending past) q). ⊎_elim
          (λ (old_r : Contains (pending past) r). F.apart q r old_q old_r own_q own_r same)
          (λ (new_r : Contains (request ∷ []) r). absurd (later_place q r.place old_q own_q (ap (λ (x : Request). x.place) (sym (is_new r new_r))) (sym eq)))
          (Contains-append_cases (pending past) (request ∷ []) r at_r))
          (λ (new_q : Contains (request ∷ []) q). ⊎_elim
          (λ (old_r : Contains (pending past) r). absurd (later_place r q.place old_r own_r (ap (λ (x : Request). x.place) (sym (is_new q new_q))) eq))
          (λ (new_r : Contains (request ∷ []) r). sym (is_new q new_q) ∙ is_new r new_r)
          (Contains-append_cases (pending past) (request ∷ []) r at_r))
          (Contains-append_cases (pending past) (request ∷ []) q at_q);
      fits = λ still space.
          ap (λ (b : Bool). waiting_places space (entry_if b (Said m Forward) (view_of c past))) itself
          ∙ ap (λ (l : List ℕ). if space_of m == space then l ++ (said_count (view_of c past) + 1) ∷ [] else l) (F.fits there space)
          ∙ ap (λ (k : ℕ). if space_of m == space then places_of c space (pending past) ++ k ∷ [] else places_of c space (pending past)) place_is
          ∙ sym (places_more c space (pending past) request (space_of m == space) (ap (λ (b : Bool). b && (space_of m == space)) itself));
    }

  module _ (m : List ℕ) (past : List Fact) (there : is_present c past ≡ true) (R : Regular past) (F : Fits past) where
    grants : (b : Bool) (after : List Fact) → Fits after → Fits (grant_if b c m after)
    grants true after held = granted_too c c (used_service m) (used_cid m) after held
    grants false after held = held

    judged : (decision : Decision) → decision_on s c m past ≡ decision → Fits (judge s c m decision past)
    judged (Replies verdict) is =
        noted (Judged c (message_count c past + 1) m verdict) past
        (fitting_more c past R.sound F client (Judged c (message_count c past + 1) m verdict) there
        (inr (λ (e : verdict ≡ Forward). no_reply_is_forwarded s c m past (is ∙ ap (λ (v : Verdict). Replies v) e))))
    judged (Forwards n) is = grants (uses_id m) _ (forwarded m n past there R F)

  said : (m : List ℕ) (past : List Fact) → Regular past → Fits past → Fits (add s (Says c m) past)
  said m past R F = by (is_present c past) refl
    where
      by : (b : Bool) → is_present c past ≡ b → Fits (let after : List Fact = if b then hear_client s c m past else past in after)
      by true there = judged m past there R F (decision_on s c m past) refl
      by false absent = F

  -- ---- facts that an item may add, of which each is calm ----

  abbrev Stands : List Fact → Type 0
  Stands past = IsSound qmi_limits past × Fits past

  by_calm : (item : Item) → ((fact : Fact) (past : List Fact) → MayAdd item fact past → IsCalm c fact past) → (past : List Fact) → IsSound qmi_limits past → Fits past → Fits (add s item past)
  by_calm item calm past sound F =
      (extends_keeps (Soundly (qmi_protocol s) (Asks s) (MayAdd item)) Stands
      (λ fact before may held. ((may.0, held.0), fitting_more c before held.0 held.1 client fact may.0 (calm fact before may.1)))
      past (add s item past) (walk.item_adds (qmi_protocol s) (Asks s) (orderly s) item past sound).extends (sound, F)).1

  said_calm : (d : ℕ) (m : List ℕ) → (d == c) ≡ false → (fact : Fact) (past : List Fact) → MayAdd (Says d m) fact past → IsCalm c fact past
  said_calm d m other (Admitted e) past may = absurd may
  said_calm d m other (Judged e place message verdict) past may = inl (ap (λ (k : ℕ). k == c) may.0 ∙ other)
  said_calm d m other (Forwarded r) past may = ⊎_elim (λ (is : r.conn ≡ d). ap (λ (k : ℕ). k == c) is ∙ other) (λ own. other_than r.conn own) may
  said_calm d m other (Late r) past may = absurd may
  said_calm d m other Reset past may = absurd may
  said_calm d m other ModemLost past may = absurd may
  said_calm d m other _ past may = tt

  clock_calm : (time : ℕ) (fact : Fact) (past : List Fact) → MayAdd (ClockShows time) fact past → IsCalm c fact past
  clock_calm time (Admitted e) past may = absurd may
  clock_calm time (Judged e place message verdict) past may = absurd may
  clock_calm time (Forwarded r) past may = other_than r.conn may
  clock_calm time (Late r) past may = absurd may
  clock_calm time Reset past may = absurd may
  clock_calm time ModemLost past may = absurd may
  clock_calm time _ past may = tt

  -- ---- requests that are given up ----

  abbrev Calmly : Fact → List Fact → Type 0
  Calmly fact past = MayFollow qmi_limits fact past × IsCalm c fact past

  refused_calm : (r : Request) (fact : Fact) (past : List Fact) → MayRefuse (Aborted r) fact past → IsCalm c fact past
  refused_calm r (OpeningEnded status receivers) past may = tt
  refused_calm r (Ended d NoRoom) past may = tt
  refused_calm r (Freed d service cid) past may = tt
  refused_calm r fact past may = subst (λ (f : Fact). IsCalm c f past) (sym may) tt

  given_up_adds : (past : List Fact) → IsSound qmi_limits past → Adds qmi_limits (qmi_wording s.device) Calmly past (abort_all s.device past)
  given_up_adds past sound =
      adds_abort_all qmi_limits (qmi_wording s.device) Calmly (λ fact before may. may.0) (refuse s.device) in_expiry_order only_those
      (λ r before held at.
      adds_weaker qmi_limits (qmi_wording s.device) (Soundly (qmi_protocol s) (Asks s) (MayRefuse (Aborted r))) Calmly (λ fact b may. (may.0, refused_calm r fact b may.1)) before _
      ((orderly s).refusal (Aborted r) r before (at, refl, tt) held))
      past sound

  given_up : (past : List Fact) → IsSound qmi_limits past → Fits past → Stands (abort_all s.device past)
  given_up past sound F =
      extends_keeps Calmly Stands (λ fact before may held. ((may.0, held.0), fitting_more c before held.0 held.1 client fact may.0 may.1))
      past (abort_all s.device past) (given_up_adds past sound).extends (sound, F)

  lost : (past : List Fact) → Regular past → Fits past → Fits (lose s.device past)
  lost past R F = let held = given_up past R.sound F in fitting_more c (abort_all s.device past) held.0 held.1 client ModemLost tt (all_given_up s.device past R)

  began_anew : (past : List Fact) → Regular past → Fits past → Fits (Reset ∷ abort_all s.device past)
  began_anew past R F = let held = given_up past R.sound F in fitting_more c (abort_all s.device past) held.0 held.1 client Reset tt (all_given_up s.device past R)

  -- ---- the modem's messages ----

  module _ (m : List ℕ) (past : List Fact) (R : Regular past) (F : Fits past) where
    answered : (r : Request) → Contains (pending past) r → (change : IdChange) → id_change r.conn r.message m (holder_of_brought m past) ≡ change → Fits (answer s.device r m change past)
    unfolding pending
    answered r at NoChange is = noted (Answered r m) past (fitting_more c past R.sound F client (Answered r m) at tt)
    answered r at (Grants service id) is =
        let party : IsParty r.conn past = All-contains (λ (q : Request). IsParty q.conn past) (pending past) r (waiting_are_parties qmi_limits past R.sound) at in
        noted (Answered r m) (Granted r.conn service id ∷ past)
        (fitting_more c (Granted r.conn service id ∷ past) ((party, change_free r.conn r.message m past service id is), R.sound) (granted_too c r.conn service id past F) client (Answered r m) at tt)
    answered r at Collides is = noted (IdHeld r) past (fitting_more c past R.sound F client (IdHeld r) at tt)
    answered r at (Frees service id) is =
        noted (Answered r m) (Freed r.conn service id ∷ past)
        (fitting_more c (Freed r.conn service id ∷ past) (tt, R.sound) (freed_too c r.conn service id past F) client (Answered r m) at tt)

    answered_to : (own : Bool) (r : Request) → Contains (pending past) r → Fits (answer_to own s.device r m past)
    answered_to true r at = freed_too c 0 (used_service r.message) (used_cid r.message) (note s.device (Answered r m) past) (noted (Answered r m) past (fitting_more c past R.sound F client (Answered r m) at tt))
    answered_to false r at = answered r at (id_change r.conn r.message m (holder_of_brought m past)) refl

    answered_or_late : (waiting : Bool) (r : Request) → Contains (in_use past) r → is_pending r past ≡ waiting → Fits (answer_or_late s.device waiting r m past)
    answered_or_late true r at is = answered_to (r.conn == 0) r (waits qmi_limits past r R.sound (forwarded_from_in_use past r at) is)
    answered_or_late false r at is = fitting_more c past R.sound F client (Late r) at is

    stray : Fits (Stray ∷ past)
    stray = fitting_more c past R.sound F client Stray tt tt

    responded : (found : Option Request) → first_answered_by m (in_use past) ≡ found → Fits (respond s.device found m past)
    responded None is = stray
    responded (Some r) is = answered_or_late (is_pending r past) r (found_is m (in_use past) r is).0 refl

    told : (before : List Fact) → Fits before → Fits (tell s.device m before)
    told before held = noted (Indicated m (receivers s.device m before)) before (told_too c m (receivers s.device m before) before held)

    indicated : Fits (indicate s.device m past)
    indicated = by (is_sync m) (not (is_control m) && cid_of m == 0)
      where
        by : (sync stray_one : Bool) → Fits (let after : List Fact = if sync then tell s.device m (Reset ∷ abort_all s.device past) else if stray_one then Stray ∷ past else tell s.device m past in after)
        by true stray_one = told (Reset ∷ abort_all s.device past) (began_anew past R F)
        by false true = stray
        by false false = told past F

    heard : (heard : Option MessageKind) → Fits (hear_as heard s.device m past)
    heard (Some kind.Response) = responded (first_answered_by m (in_use past)) refl
    heard (Some kind.Indication) = indicated
    heard (Some kind.Request) = stray
    heard None = stray

  -- ---- items ----

  ended_if : (b : Bool) (fact : Fact) (past : List Fact) → (b ≡ true → Fits (fact ∷ past)) → Fits past → Fits (let after : List Fact = if b then fact ∷ past else past in after)
  ended_if true fact past ends F = ends refl
  ended_if false fact past ends F = F

  by_item : (item : Item) (past : List Fact) → joins_or_modem_takes item ≡ false → Regular past → Fits past → Fits (add s item past)
  by_item (Joins d) past other R F = absurd (cc)
  by_item (ModemTakes count) past other R F = absurd (cc)
  by_item (Says d m) past other R F = by (d == c) refl
    where
      by : (b : Bool) → (d == c) ≡ b → Fits (add s (Says d m) past)
      by true own = subst (λ (e : ℕ). Fits (add s (Says e m) past)) (sym (eqb-true d c own)) (said m past R F)
      by false another = by_calm (Says d m) (said_calm d m another) past R.sound F
  by_item (GoesBad d) past other R F = ended_if (is_present d past) (Ended d BadStream) past (λ there. fitting_more c past R.sound F client (Ended d BadStream) there tt) F
  by_item (Leaves d) past other R F = ended_if (is_present d past) (Ended d Leaving) past (λ there. fitting_more c past R.sound F client (Ended d Leaving) there tt) F
  by_item (Takes d count) past other R F = ended_if (is_present d past) (Taken d count) past (λ there. fitting_more c past R.sound F client (Taken d count) there tt) F
  by_item (ModemSays m) past other R F = heard m past R F (framed_kind m)
  by_item ModemIsLost past other R F = lost past R F
  by_item ModemReturns past other R F = fitting_more c past R.sound F client ModemReturned tt tt
  by_item (ClockShows time) past other R F = by_calm (ClockShows time) (clock_calm time) past R.sound F

  pub by_items : (items : List Item) (past : List Fact) → AllByRecursion (λ item. joins_or_modem_takes item ≡ false) items → Regular past → Fits past → Fits (add_all s items past)
  unfolding proxy.add_all
  by_items [] past others R F = F
  by_items (item ∷ items) past others R F = by_items items (add s item past) others.1 (regular_items s (item ∷ []) past (others.0, tt) R) (by_item item past others.0 R F)

  -- ---- events ----

  begun : (past : List Fact) → IsSound qmi_limits past → Fits past → Fits (EventBegan ∷ past)
  begun past sound F = fitting_more c past sound F client EventBegan tt tt

  joined : (d : ℕ) (past : List Fact) → contains d (present past) ≡ false → IsSound qmi_limits past → Fits past → Fits (join qmi_limits d past)
  joined d past new sound F = by (nat_lt (length (present past)) connection_limit) refl
    where
      by : (b : Bool) → nat_lt (length (present past)) connection_limit ≡ b → Fits (let after : List Fact = if b then Admitted d ∷ past else Ended d NotAdmitted ∷ past in after)
      by true room = fitting_more c past sound F client (Admitted d) (grind (arith, nat_tests, room)) new
      by false full = fitting_more c past sound F client (Ended d NotAdmitted) (grind (arith, nat_tests, full)) tt

  by_event : (event : Event) (events : List Event) → is_joining_or_modems event ≡ false → Regular (history s events) → Fits (history s events) → Fits (history s (event ∷ events))
  unfolding proxy.history
  by_event event events other R F =
      by_items (items_of s events event) (EventBegan ∷ history s events)
      (all_weaker (IsOf event) (λ item. joins_or_modem_takes item ≡ false) (λ item of. other_items event item other of) (items_of s events event) (items_are_of (qmi_protocol s) event events))
      (regular_begun s (history s events) R) (begun (history s events) R.sound F)

  pub histories_fit : (events : List Event) → AreSound (qmi_protocol s) events → Fits (history s events)
  unfolding proxy.history proxy.add_all pending present view
  histories_fit [] sound = record { apart = λ q r at_q at_r own_q own_r same. absurd (Contains-nil q at_q); fits = λ there space. refl }
  histories_fit (Joined d ∷ events) sound =
      let R = histories_are_regular s events sound.1 in
      joined d (EventBegan ∷ history s events) (new_names (qmi_protocol s) (Asks s) (orderly s) events d sound.0) (tt, R.sound) (begun (history s events) R.sound (histories_fit events sound.1))
  histories_fit (ModemTook count ∷ events) sound =
      let R = histories_are_regular s events sound.1 in
      fitting_more c (EventBegan ∷ history s events) (tt, R.sound) (begun (history s events) R.sound (histories_fit events sound.1)) client (ModemTaken count) tt tt
  histories_fit (event ∷ events) sound = by_event event events refl (histories_are_regular s events sound.1) (histories_fit events sound.1)

-- ---- the laws ----

-- who is there isn't the proxy itself
is_client : (c : ℕ) (past : List Fact) → Regular past → is_present c past ≡ true → c ≢ 0
is_client c past R there own = let clash : true ≡ false = sym there ∙ ap (λ (d : ℕ). contains d (present past)) own ∙ R.nobody in absurd (cc)

as_many : (c space : ℕ) (past : List Fact) → waiting_places space (view_of c past) ≡ places_of c space (pending past) → has_share share_limit c space past ≡ view_has_share space (view_of c past)
as_many c space past same = ap (nat_le share_limit) (sym (ap length same ∙ length-map (of_client c space (pending past)) (λ (r : Request). r.place)))

pub shares_are_the_views_own : (s : Setup) (events : List Event) (c space : ℕ) → AreSound (qmi_protocol s) events → is_present c (history s events) ≡ true
    → places_of c space (pending (history s events)) ≡ waiting_places space (view_of c (history s events))
shares_are_the_views_own s events c space sound there =
    sym ((histories_fit s c (is_client c (history s events) (histories_are_regular s events sound) there) events sound).fits there space)

pub views_decide_first : (s : Setup) (events : List Event) (c : ℕ) (earlier : List (List ℕ)) (m : List ℕ) → AreSound (qmi_protocol s) events → is_present c (facts_before_saying s events c earlier) ≡ true
    → decision_on s c m (facts_before_saying s events c earlier)
    ≡ decision_by_view s (view_of c (facts_before_saying s events c earlier)) (shared_decision s c m (facts_before_saying s events c earlier)) m
views_decide_first s events c earlier m sound there =
    let past : List Fact = facts_before_saying s events c earlier in
    let says : List Item = map (λ m. Says c m) earlier in
    let others : AllByRecursion (λ item. joins_or_modem_takes item ≡ false) says = each_message (λ item. joins_or_modem_takes item ≡ false) (λ m. Says c m) earlier (λ m. refl) in
    let R : Regular (EventBegan ∷ history s events) = regular_begun s (history s events) (histories_are_regular s events sound) in
    let client : c ≢ 0 = is_client c past (regular_items s says (EventBegan ∷ history s events) others R) there in
    let F : Fitting c past = by_items s c client says (EventBegan ∷ history s events) others R (begun s c client (history s events) (histories_are_regular s events sound).sound (histories_fit s c client events sound)) in
    ap (λ (b : Bool). if view_decides (is_open s.device (view_of c past)) m then Replies Own else if b then Replies Share else shared_decision s c m past) (as_many c (space_of m) past (F.fits there (space_of m)))
