-- What a client says: the same is done for all and alone, but where it asks to open a modem that is open for the others already.
use Rattle.std.proofs.Common.{◌≡◌, ◌≢◌, ◌⊎◌, inl, inr, ℕ, ◌+◌, Bool, true, false, not, ◌&&◌, ◌||◌, ◌==◌, is_some, is_none, nat_le, length, if◌then◌else◌, List, [], ◌∷◌, ◌++◌, refl, ap, sym, ◌∙◌, subst, Option, Some, None}
use Rattle.std.specs.List.{AllByRecursion, list_any}
use Rattle.std.proofs.lemmas.Bool.{and_parts}
use Rattle.kit_bytes.proofs.Lists.{all_push}
use Rattle.mbim_frame.specs.declared.kind.MessageKind.TheVariants.{Open}
use Rattle.mbim_frame.specs.declared.status.TheConstants.{SUCCESS}
use Rattle.mbim_frame.specs.Head.{is_kind, with_number}
use Rattle.mbim_frame.specs.Writing.{open_done}
use Rattle.proxy_history.specs.Items.{Says}
use Rattle.proxy_history.specs.Facts.{Fact, Request, Verdict, Own, Share, Foreign, Away, Full, Forward, Ready, Waits, NoRoom, EventBegan, Ended, Judged}
use Rattle.proxy_history.specs.Decision.{Decision, Replies, Forwards, forwards_under}
use Rattle.proxy_history.specs.Connections.{contains, present, is_present, message_count}
use Rattle.proxy_history.specs.Requests.{first_where, in_use, pending, of_client, has_share, deadline_of}
use Rattle.proxy_solo.proofs.Queries.{pending-part}
use Rattle.proxy_solo.proofs.Shares.{share_count}
use Rattle.proxy_solo.specs.Part.{sent_by}
use Rattle.mbim_solo.proofs.Reading.{reads}
use Rattle.proxy_history.specs.Modem.{now, to_modem, modem_taken_count, modem_queue}
use Rattle.proxy_history.specs.View.{Said, view, entry_if}
use Rattle.proxy_history.specs.Noting.{rendering, end_overfull}
use Rattle.proxy_history.specs.Adding.{AllFit}
use Rattle.proxy_history.proofs.Sound.{kept_by_note}
use Rattle.proxy_history.proofs.Noted.{noted_view}
use Rattle.proxy_history.proofs.Fitting.{silent_fits}
use Rattle.proxy_solo.proofs.Lists.{self}
use Rattle.proxy_solo.proofs.Noting.{known_rendering}
use Rattle.proxy_solo.proofs.Undisturbed.{AreUndisturbed}
use Rattle.mbim_proxy.specs.Setup.{Setup, the_space}
use Rattle.mbim_proxy.specs.Known.{Known}
use Rattle.mbim_proxy.specs.OwnReplies.{OwnReply, Silent, Wrong, NotOpened, Closes, Refuses, Configures, Subscribes, own_reply, view_decides}
use Rattle.mbim_proxy.specs.Step.{with_message, with_reply, blank, view_of, known_from, known_now}
use Rattle.mbim_proxy.specs.Step as step
use Rattle.mbim_proxy.specs.Text.{mbim_wording, note}
use Rattle.mbim_proxy.specs.ModemStates.{ModemState, IsAway, IsShut, IsOpening, IsReady, is_own_open, state}
use Rattle.mbim_proxy.specs.Lists.{waiting}
use Rattle.mbim_proxy.specs.Forwarding.{own_open, wire, number_for, request_of, forward}
use Rattle.mbim_proxy.specs.Clients.{command_message, opening_decision, decision_on, forward_for, judge, hear_client, decision_for, passes_share}
use Rattle.mbim_solo.specs.Solo.{restated, is_ready, finds_it_open, answer_to, hears, hears_if}
use Rattle.mbim_solo.specs.Openings.{WaitFor}
use Rattle.mbim_solo.specs.Part.{part}
use Rattle.mbim_solo.proofs.Views.{known_view, OpenOnce, known-part}
use Rattle.mbim_solo.proofs.Noted.{end_known, over, is_waiting}
use Rattle.mbim_solo.proofs.Once.{none_is, may_open_then, once_verdict}
use Rattle.mbim_solo.proofs.Hearing.{sent_alike}
use Rattle.mbim_solo.proofs.Openings.{entry_known, any_filter}
use Rattle.mbim_solo.proofs.Orders.{shared_command, open_is_ready}
use Rattle.mbim_solo.proofs.Saying as saying
use Rattle.mbim_solo.proofs.Saying.{OpenAlike, known_judge, known_forward, judged-part, judge-part}
use Rattle.mbim_solo.proofs.Numbers.{opens_under, goes_under}
use Rattle.mbim_solo.proofs.Relation.{IsOrderly, IsRoomy, is_end_of, Stand, OpensOnly, AsksAlone, Stands}
use Rattle.mbim_solo.proofs.Orderly.{item_orderly}
use Rattle.mbim_solo.proofs.Standing.{there_not_ended, waits-part, waits_as_before, KeepsModem, stands_as_before, none_expires_later, Both, Done, there_alike}
use Rattle.mbim_solo.proofs.Settling.{none_where, ForwardsOne, MayQueue}

module _ (s : Setup) (c : ℕ) (client : c ≢ 0) (m : List ℕ) where
  -- the message, judged
  abbrev pub says : Verdict → List Fact → List Fact
  says verdict past = Judged c (message_count c past + 1) m verdict ∷ past

  pub says_keeps : (verdict : Verdict) (past : List Fact) → KeepsModem s c past (says verdict past)
  unfolding state in_use pending
  says_keeps verdict past = record { modem = refl; used = refl; waiting = refl }

  abbrev decided_by : (decides : Bool) → Known → List Fact → Decision
  decided_by decides known facts = if decides then Replies Own else if is_kind Open m then opening_decision (state s.starts_away facts) (number_for s (own_open s) facts) else forwards_under (number_for s (command_message s known m) facts)

  -- ---- whether a request to open waits behind it ----

  reply_waits : (reply : OwnReply) (known : Known) → (with_reply reply known).waits ≡ known.waits
  reply_waits Silent known = refl
  reply_waits (Wrong code) known = refl
  reply_waits (NotOpened status) known = refl
  reply_waits Closes known = refl
  reply_waits (Refuses command status) known = refl
  reply_waits (Configures command) known = refl
  reply_waits (Subscribes command list) known = refl

  verdict_waits : (verdict : Verdict) (known : Known) → (verdict ≡ Waits → ⊥) → (step.step s known (Said m verdict)).waits ≡ known.waits
  verdict_waits Own known other = reply_waits (own_reply s known m) (with_message s m known)
  verdict_waits Share known other = refl
  verdict_waits Foreign known other = refl
  verdict_waits Away known other = refl
  verdict_waits Full known other = refl
  verdict_waits Forward known other = refl
  verdict_waits Ready known other = refl
  verdict_waits Waits known other = absurd (other refl)

  said_known : (verdict : Verdict) (past : List Fact) → known_now s c (says verdict past) ≡ step.step s (known_now s c past) (Said m verdict)
  unfolding view
  said_known verdict past =
      entry_known s (c == c) (Said m verdict) (view_of c past) ∙ ap (λ (b : Bool). let k : Known = if b then step.step s (known_now s c past) (Said m verdict) else known_now s c past in k) (self c)

  said_waits : (verdict : Verdict) (past : List Fact) → (verdict ≡ Waits → ⊥) → OpenOnce s c (says verdict past) → OpenOnce s c past → is_waiting s c (part c (says verdict past)) ≡ is_waiting s c (part c past)
  unfolding present
  said_waits verdict past other once_after once = waits_as_before s c client past (says verdict past) once once_after refl (ap (λ (k : Known). k.waits) (said_known verdict past) ∙ verdict_waits verdict (known_now s c past) other)

  begins_waiting : (past : List Fact) → OpenOnce s c past → is_present c past ≡ true → is_waiting s c (part c (says Waits past)) ≡ true
  unfolding present
  begins_waiting past once there =
      waits-part s c client (says Waits past) (tt, once)
      ∙ ap (λ (b : Bool). b && is_some (known_now s c (says Waits past)).waits) there
      ∙ ap (λ (k : Known). is_some k.waits) (said_known Waits past)

  -- the proxy asks the modem to open for it
  pub opens : ℕ → List Fact → List Fact
  opens n past = forward s 0 (own_open s) n (says Waits past)

  pub opening : (n : ℕ) (past : List Fact) → state s.starts_away (opens n past) ≡ IsOpening
  unfolding opens state
  opening n past = refl

  pub opens_time : (n : ℕ) (past : List Fact) → now (opens n past) ≡ now past
  unfolding opens now
  opens_time n past = refl

  pub opens_waits : (n : ℕ) (past : List Fact) → OpenOnce s c past → is_present c past ≡ true → is_waiting s c (part c (opens n past)) ≡ true
  unfolding opens view present
  opens_waits n past once there =
      waits-part s c client (opens n past) (tt, (tt, once))
      ∙ ap (λ (b : Bool). b && is_some (known_now s c (says Waits past)).waits) there
      ∙ ap (λ (k : Known). is_some k.waits) (said_known Waits past)

  -- ---- one that has no room for what is due to it ends ----

  abbrev ends : List Fact → Bool
  ends past = is_present c past && (rendering s.limits (mbim_wording s) c past).is_over

  abbrev ended_if : Bool → List Fact → List Fact
  ended_if b past = if b then Ended c NoRoom ∷ past else past

  note_is : (verdict : Verdict) (past : List Fact) → note s (Judged c (message_count c past + 1) m verdict) past ≡ ended_if (ends (says verdict past)) (says verdict past)
  unfolding end_overfull
  note_is verdict past = refl

  ends_alike : (past own : List Fact) → OpenOnce s c past → OpenOnce s c own → part c past ≡ part c own → ends past ≡ ends own
  ends_alike past own once once_own same =
      ap (λ (b : Bool). b && (rendering s.limits (mbim_wording s) c past).is_over) (there_alike s c client past own same)
      ∙ ap (λ (b : Bool). is_present c own && b) (over s c past once ∙ ap (λ (l : List Fact). (known_rendering s.limits (mbim_wording s) c l).is_over) same ∙ sym (over s c own once_own))

  open_if : (b : Bool) (past : List Fact) → list_any (is_end_of c) (ended_if b past) ≡ false → b ≡ false
  open_if true past still = absurd (let clash : true ≡ false = sym (ap (λ (b : Bool). b || list_any (is_end_of c) past) (self c)) ∙ still in cc)
  open_if false past still = refl

  -- ---- before the message ----

  module _ (past history_alone : List Fact) (B : Both s c client past (EventBegan ∷ history_alone)) (there : is_present c past ≡ true) where
    abbrev own : List Fact
    own = EventBegan ∷ history_alone

    abbrev k : Known
    k = known_now s c past

    abbrev own_k : Known
    own_k = known_now s c own

    known_same : known_now s c past ≡ known_now s c own
    known_same = sym (known-part s c past B.orderly.fit.once) ∙ ap (λ (l : List Fact). known_from s (known_view s c l)) B.same ∙ known-part s c own B.alone.fit.once

    there_own : is_present c own ≡ true
    there_own = sym (there_alike s c client past own B.same) ∙ there

    S : Stands s c past own
    S = B.stands (there_not_ended s c client past B.orderly.fit.placed there)

    -- ---- both are replied to ----

    once_said : (verdict : Verdict) (past : List Fact) → OpenOnce s c past → (verdict ≡ Ready → (known_now s c past).waits ≡ None) → OpenOnce s c (says verdict past)
    once_said verdict past once none = (once_verdict s c (message_count c past + 1) m past verdict none, once)

    replied_done : (verdict : Verdict) → (verdict ≡ Waits → ⊥) → (verdict ≡ Ready → k.waits ≡ None) → Done s c client (judge s k c m (Replies verdict) past) (judge s own_k c m (Replies verdict) own)
    unfolding now
    replied_done verdict other none =
        let none_own : verdict ≡ Ready → own_k.waits ≡ None = λ e. ap (λ (x : Known). x.waits) (sym known_same) ∙ none e in
        let once : OpenOnce s c (says verdict past) = once_said verdict past B.orderly.fit.once none in
        let once_own : OpenOnce s c (says verdict own) = once_said verdict own B.alone.fit.once none_own in
        let of_ready : Replies verdict ≡ Replies Ready → verdict ≡ Ready = λ e. cc in
        let same : part c (says verdict past) ≡ part c (says verdict own) = judged-part s c client k m verdict past ∙ ap (saying.judged s c client k m verdict) B.same ∙ sym (judged-part s c client k m verdict own) in
        let both : ends (says verdict past) ≡ ends (says verdict own) = ends_alike (says verdict past) (says verdict own) once once_own same in
        record {
          same =
              judge-part s c client k m (Replies verdict) past B.orderly.fit.once (λ e. none (of_ready e))
              ∙ ap (λ (l : List Fact). end_known s c (saying.judged s c client k m verdict l)) B.same
              ∙ sym (judge-part s c client own_k m (Replies verdict) own B.alone.fit.once (λ e. none_own (of_ready e)));
          time =
              kept_by_note s.limits (mbim_wording s) (λ after. now after ≡ now past) (λ d before there same. same) (Judged c (message_count c past + 1) m verdict) past refl
              ∙ B.time
              ∙ sym (kept_by_note s.limits (mbim_wording s) (λ after. now after ≡ now own) (λ d before there same. same) (Judged c (message_count c own + 1) m verdict) own refl);
          stands = λ still.
              let stays : ends (says verdict past) ≡ false = open_if (ends (says verdict past)) (says verdict past) (subst (λ (l : List Fact). list_any (is_end_of c) l ≡ false) (note_is verdict past) still) in
              let stays_own : ends (says verdict own) ≡ false = sym both ∙ stays in
              let after_is : judge s k c m (Replies verdict) past ≡ says verdict past = note_is verdict past ∙ ap (λ (b : Bool). ended_if b (says verdict past)) stays in
              let facts_are : judge s own_k c m (Replies verdict) own ≡ says verdict own = note_is verdict own ∙ ap (λ (b : Bool). ended_if b (says verdict own)) stays_own in
              subst (λ (l : List Fact). Stands s c l (judge s own_k c m (Replies verdict) own)) (sym after_is)
              (subst (λ (l : List Fact). Stands s c (says verdict past) l) (sym facts_are)
              (stands_as_before s c past own (says verdict past) (says verdict own) (said_waits verdict past other once B.orderly.fit.once) (says_keeps verdict past) (says_keeps verdict own) S));
        }

    replied_queue : (verdict : Verdict) → modem_queue (wire s) (judge s own_k c m (Replies verdict) own) ≡ []
    unfolding to_modem modem_taken_count
    replied_queue verdict = kept_by_note s.limits (mbim_wording s) (λ facts. modem_queue (wire s) facts ≡ []) (λ d before there none. none) (Judged c (message_count c own + 1) m verdict) own B.empty

    -- ---- both are forwarded ----

    forwarded_same : (n j : ℕ) → part c (judge s k c m (Forwards n) past) ≡ part c (judge s own_k c m (Forwards j) own)
    forwarded_same n j =
        judge-part s c client k m (Forwards n) past B.orderly.fit.once (λ e. absurd (cc))
        ∙ ap (λ (x : Known). known_judge s c client x m (now past) (Forwards n) (part c past)) known_same
        ∙ ap (λ (t : ℕ). known_judge s c client own_k m t (Forwards n) (part c past)) B.time
        ∙ ap (λ (l : List Fact). known_judge s c client own_k m (now own) (Forwards n) l) B.same
        ∙ sym (judge-part s c client own_k m (Forwards j) own B.alone.fit.once (λ e. absurd (cc)))

    forwarded_time : (opens : Bool) (known : Known) (n : ℕ) (past : List Fact) → now (forward_for opens s known c m n past) ≡ now past
    unfolding now
    forwarded_time true known n past = refl
    forwarded_time false known n past = refl

    -- a command
    command_stands : (n j : ℕ) → state s.starts_away own ≡ IsReady → Stands s c (forward_for false s k c m n past) (forward_for false s own_k c m j own)
    unfolding state in_use view present
    command_stands n j ready =
        let after : List Fact = forward_for false s k c m n past in
        let facts : List Fact = forward_for false s own_k c m j own in
        let waits : is_waiting s c (part c after) ≡ is_waiting s c (part c past) =
        waits_as_before s c client past after B.orderly.fit.once (tt, (tt, B.orderly.fit.once)) refl (ap (λ (x : Known). x.waits) (said_known Forward past) ∙ verdict_waits Forward k (λ e. cc))
        in
        let mine : AllByRecursion (λ r. (r.conn == c) ≡ true) (in_use own) = subst (λ (x : ModemState). AsksAlone s c x past own) ready S.asks in
        record {
          states = subst (λ (b : Bool). Stand s c b (state s.starts_away past) (state s.starts_away own)) (sym waits) S.states;
          asks = subst (λ (x : ModemState). AsksAlone s c x after facts) (sym ready) (all_push (λ (r : Request). (r.conn == c) ≡ true) (in_use own) (request_of s c (command_message s own_k m) j (says Forward own)) mine (self c));
        }

    command_done : (n j : ℕ) → is_kind Open m ≡ false → state s.starts_away own ≡ IsReady → Done s c client (judge s k c m (Forwards n) past) (judge s own_k c m (Forwards j) own)
    command_done n j command ready = record {
      same = forwarded_same n j;
      time = forwarded_time (is_kind Open m) k n past ∙ B.time ∙ sym (forwarded_time (is_kind Open m) own_k j own);
      stands = λ still. subst (λ (b : Bool). Stands s c (forward_for b s k c m n past) (forward_for b s own_k c m j own)) (sym command) (command_stands n j ready);
    }

    command_queue : (j : ℕ) → is_kind Open m ≡ false → ForwardsOne s c history_alone (judge s own_k c m (Forwards j) own)
    command_queue j command = record {
      request = request_of s c (command_message s own_k m) j (says Forward own);
      place = message_count c own + 1;
      message = m;
      is = ap (λ (b : Bool). forward_for b s own_k c m j own) command;
    }

    -- ---- the proxy opens the modem for the client alone ----

    after_orderly : (decision : Decision) → decision_for s k c m past ≡ decision → IsOrderly s c (judge s k c m decision past)
    after_orderly decision is =
        subst (λ (d : Decision). IsOrderly s c (judge s k c m d past)) is
        (subst (λ (b : Bool). IsOrderly s c (let after : List Fact = if b then hear_client s k c m past else past in after)) there (item_orderly s c client (Says c m) past tt B.orderly))

    pub own_opens : (j : ℕ) → is_kind Open m ≡ true → judge s own_k c m (Forwards j) own ≡ opens j own
    unfolding opens
    own_opens j of = ap (λ (b : Bool). forward_for b s own_k c m j own) of

    all_opens : (n : ℕ) → is_kind Open m ≡ true → judge s k c m (Forwards n) past ≡ opens n past
    unfolding opens
    all_opens n of = ap (λ (b : Bool). forward_for b s k c m n past) of

    abbrev pub asked : ℕ → Request
    asked j = request_of s 0 (own_open s) j (says Waits own)

    pub opens_used : (j : ℕ) → state s.starts_away own ≡ IsShut → in_use (opens j own) ≡ asked j ∷ []
    unfolding opens in_use
    opens_used j shut = ap (λ (l : List Request). l ++ asked j ∷ []) (subst (λ (x : ModemState). AsksAlone s c x past own) shut S.asks)

    pub opens_pending : (j : ℕ) → state s.starts_away own ≡ IsShut → pending (opens j own) ≡ asked j ∷ []
    unfolding opens pending
    opens_pending j shut = ap (λ (l : List Request). l ++ asked j ∷ []) (subst (λ (x : ModemState). WaitFor x (pending own)) shut B.alone.order.requests)

    opens_only : (after : List Fact) (j : ℕ) → IsOrderly s c after → now after ≡ now own → state s.starts_away own ≡ IsShut → OpensOnly s c after (opens j own)
    unfolding now
    opens_only after j orderly time shut = record {
      request = asked j;
      opens = refl;
      only = opens_used j shut;
      waits = opens_pending j shut;
      later = none_expires_later s c client after (deadline_of (now own) s.time_limit) orderly (ap (λ (t : ℕ). deadline_of t s.time_limit) time);
    }

    opens_stands : (after : List Fact) (j : ℕ) → IsOrderly s c after → now after ≡ now own → state s.starts_away own ≡ IsShut → is_waiting s c (part c after) ≡ true → state s.starts_away after ≡ IsOpening → Stands s c after (opens j own)
    opens_stands after j orderly time shut waits opening_too = record {
      states =
          subst (λ (b : Bool). Stand s c b (state s.starts_away after) (state s.starts_away (opens j own))) (sym waits)
          (subst (λ (x : ModemState). Stand s c true x (state s.starts_away (opens j own))) (sym opening_too)
          (subst (λ (x : ModemState). Stand s c true IsOpening x) (sym (opening j own)) tt));
      asks = subst (λ (x : ModemState). AsksAlone s c x after (opens j own)) (sym (opening j own)) (opens_only after j orderly time shut);
    }

    -- it does so for all as well
    both_open_done : (n j : ℕ) → decision_for s k c m past ≡ Forwards n → is_kind Open m ≡ true → state s.starts_away own ≡ IsShut → Done s c client (judge s k c m (Forwards n) past) (judge s own_k c m (Forwards j) own)
    both_open_done n j is of shut =
        let time : now (judge s k c m (Forwards n) past) ≡ now own = forwarded_time (is_kind Open m) k n past ∙ B.time in
        record {
          same = forwarded_same n j;
          time = time ∙ sym (forwarded_time (is_kind Open m) own_k j own);
          stands = λ still.
              subst (λ (l : List Fact). Stands s c (judge s k c m (Forwards n) past) l) (sym (own_opens j of))
              (opens_stands (judge s k c m (Forwards n) past) j (after_orderly (Forwards n) is) time shut
              (ap (λ (l : List Fact). is_waiting s c (part c l)) (all_opens n of) ∙ opens_waits n past B.orderly.fit.once there) (ap (λ (l : List Fact). state s.starts_away l) (all_opens n of) ∙ opening n past));
        }

    -- for all it did so before, and there is room for what is due to the client
    finds_room : end_known s c (saying.judged s c client k m Waits (part c own)) ≡ saying.judged s c client k m Waits (part c own)
    unfolding present
    finds_room =
        let l : List Fact = saying.judged s c client k m Waits (part c own) in
        let is : part c (says Waits own) ≡ l = judged-part s c client k m Waits own in
        let fits : AllFit s.limits (mbim_wording s) (says Waits own) = silent_fits s.limits (mbim_wording s) c (message_count c own + 1) m Waits own (λ entries. refl) B.fits in
        let none : (known_rendering s.limits (mbim_wording s) c l).is_over ≡ false =
        sym (ap (λ (x : List Fact). (known_rendering s.limits (mbim_wording s) c x).is_over) is) ∙ sym (over s c (says Waits own) (tt, B.alone.fit.once)) ∙ fits c there_own
        in
        ap (λ (b : Bool). ended_if (is_present c l && b) l) none ∙ elim (is_present c l) as (λ b. ended_if (b && false) l ≡ l) [ true ↦ refl | false ↦ refl ]

    pub opens_part : (j : ℕ) → is_kind Open m ≡ true → part c (judge s own_k c m (Forwards j) own) ≡ saying.judged s c client own_k m Waits (part c own)
    opens_part j of = judge-part s c client own_k m (Forwards j) own B.alone.fit.once (λ e. absurd (cc)) ∙ ap (λ (b : Bool). known_forward s c client own_k m b (now own) (part c own)) of

    waits_done : (j : ℕ) → decision_for s k c m past ≡ Replies Waits → is_kind Open m ≡ true → state s.starts_away past ≡ IsOpening → state s.starts_away own ≡ IsShut → Done s c client (judge s k c m (Replies Waits) past) (judge s own_k c m (Forwards j) own)
    unfolding now state
    waits_done j is of opens_already shut =
        let after : List Fact = judge s k c m (Replies Waits) past in
        let time : now after ≡ now own = kept_by_note s.limits (mbim_wording s) (λ later. now later ≡ now past) (λ d before there same. same) (Judged c (message_count c past + 1) m Waits) past refl ∙ B.time in
        record {
          same =
              judge-part s c client k m (Replies Waits) past B.orderly.fit.once (λ e. absurd (cc))
              ∙ ap (λ (l : List Fact). end_known s c (saying.judged s c client k m Waits l)) B.same
              ∙ finds_room
              ∙ sym (opens_part j of);
          time = time ∙ sym (forwarded_time (is_kind Open m) own_k j own);
          stands = λ still.
              let stays : ends (says Waits past) ≡ false = open_if (ends (says Waits past)) (says Waits past) (subst (λ (l : List Fact). list_any (is_end_of c) l ≡ false) (note_is Waits past) still) in
              let after_is : after ≡ says Waits past = note_is Waits past ∙ ap (λ (b : Bool). ended_if b (says Waits past)) stays in
              subst (λ (l : List Fact). Stands s c after l) (sym (own_opens j of))
              (opens_stands after j (after_orderly (Replies Waits) is) time shut
              (ap (λ (l : List Fact). is_waiting s c (part c l)) after_is ∙ begins_waiting past B.orderly.fit.once there) (ap (λ (l : List Fact). state s.starts_away l) after_is ∙ opens_already));
        }

    -- ---- what the modem says with it ----

    finds_is : finds_it_open s c (Says c m) past ≡ is_ready (decision_on s k m past)
    finds_is = ap (λ (b : Bool). b && is_present c past && is_ready (decision_on s k m past)) (self c) ∙ ap (λ (b : Bool). true && b && is_ready (decision_on s k m past)) there

    -- nothing, but where it finds the modem open
    unready : (o : List Fact) → is_ready (decision_on s k m past) ≡ false → hears s c (Says c m) past o ≡ None
    unready o other =
        ap (λ (b : Bool). hears_if (if b then Some (open_done 0 SUCCESS) else if contains c (waiting s past) then None else None) s c (Says c m) past o) (finds_is ∙ other)
        ∙ elim (contains c (waiting s past)) as (λ b. hears_if (if b then None else None) s c (Says c m) past o ≡ None) [ true ↦ refl | false ↦ refl ]

    -- and where it is open alone as well it says nothing
    none_opens : (o : List Fact) → list_any is_own_open (pending o) ≡ false → is_ready (decision_on s k m past) ≡ true → hears s c (Says c m) past o ≡ None
    none_opens o none is_so =
        ap (λ (b : Bool). hears_if (if b then Some (open_done 0 SUCCESS) else if contains c (waiting s past) then None else None) s c (Says c m) past o) (finds_is ∙ is_so)
        ∙ ap (λ (r : Option Request). answer_to r (open_done 0 SUCCESS)) (none_where is_own_open (pending o) none)

    -- where it isn't, the modem answers the proxy's request to open
    pub late_hears : (o : List Fact) (q : Request) → pending o ≡ q ∷ [] → is_own_open q ≡ true → is_ready (decision_on s k m past) ≡ true → hears s c (Says c m) past o ≡ Some (with_number q.number (open_done 0 SUCCESS))
    late_hears o q only opens_it is_so =
        ap (λ (b : Bool). hears_if (if b then Some (open_done 0 SUCCESS) else if contains c (waiting s past) then None else None) s c (Says c m) past o) (finds_is ∙ is_so)
        ∙ ap (λ (l : List Request). answer_to (first_where is_own_open l) (open_done 0 SUCCESS)) only
        ∙ ap (λ (b : Bool). answer_to (if b then Some q else None) (open_done 0 SUCCESS)) opens_it

    ready_pending : state s.starts_away own ≡ IsReady → (verdict : Verdict) → list_any is_own_open (pending (judge s own_k c m (Replies verdict) own)) ≡ false
    unfolding pending
    ready_pending ready verdict =
        kept_by_note s.limits (mbim_wording s) (λ facts. list_any is_own_open (pending facts) ≡ false) (λ d before there none. any_filter is_own_open (λ q. not (d == q.conn)) (pending before) none) (Judged c (message_count c own + 1) m verdict) own
        (subst (λ (x : ModemState). WaitFor x (pending own)) ready B.alone.order.requests)

    -- ---- what is decided ----

    module _ (known : Known) (facts : List Fact) where
      decided_own : view_decides s known m ≡ true → decision_on s known m facts ≡ Replies Own
      decided_own is = ap (λ (b : Bool). decided_by b known facts) is

      decided_opening : view_decides s known m ≡ false → is_kind Open m ≡ true → decision_on s known m facts ≡ opening_decision (state s.starts_away facts) (number_for s (own_open s) facts)
      decided_opening is of = ap (λ (b : Bool). decided_by b known facts) is ∙ ap (λ (b : Bool). if b then opening_decision (state s.starts_away facts) (number_for s (own_open s) facts) else forwards_under (number_for s (command_message s known m) facts)) of

      decided_command : view_decides s known m ≡ false → is_kind Open m ≡ false → decision_on s known m facts ≡ forwards_under (number_for s (command_message s known m) facts)
      decided_command is of = ap (λ (b : Bool). decided_by b known facts) is ∙ ap (λ (b : Bool). if b then opening_decision (state s.starts_away facts) (number_for s (own_open s) facts) else forwards_under (number_for s (command_message s known m) facts)) of

    -- ---- what comes of it ----

    -- the same
    pub record SaidAlike (after facts : List Fact) : Type 0 where
      pub done : Done s c client after facts
      pub queue : MayQueue s c history_alone facts
      pub unheard : (o : List Fact) → pending o ≡ pending facts → hears s c (Says c m) past o ≡ None

    -- or the modem is open for the others alone, and the proxy opens it for the client
    pub record OpensLate (facts : List Fact) : Type 0 where
      pub decided : decision_on s k m past ≡ Replies Ready
      pub decided_for : decision_for s k c m past ≡ Replies Ready
      pub none : k.waits ≡ None
      pub ready : state s.starts_away past ≡ IsReady
      pub shut : state s.starts_away own ≡ IsShut
      pub number : ℕ
      pub given : number_for s (own_open s) own ≡ Some number
      pub is : facts ≡ opens number own
      pub opens_it : is_kind Open m ≡ true

    abbrev pub Outcome : (after facts : List Fact) → Type 0
    Outcome after facts = SaidAlike after facts ⊎ OpensLate facts

    -- where the client's share isn't used up
    module _ (few : passes_share s k c m past ≡ false) (own_few : passes_share s own_k c m own ≡ false) where
      of_all : {decision : Decision} → decision_on s k m past ≡ decision → decision_for s k c m past ≡ decision
      of_all is = ap (λ (b : Bool). if b then Replies Share else decision_on s k m past) few ∙ is

      of_own : {decision : Decision} → decision_on s own_k m own ≡ decision → decision_for s own_k c m own ≡ decision
      of_own is = ap (λ (b : Bool). if b then Replies Share else decision_on s own_k m own) own_few ∙ is

      as_decided : (one other : Decision) → decision_on s k m past ≡ one → decision_on s own_k m own ≡ other → Done s c client (judge s k c m one past) (judge s own_k c m other own) → MayQueue s c history_alone (judge s own_k c m other own)
          → ((o : List Fact) → pending o ≡ pending (judge s own_k c m other own) → hears s c (Says c m) past o ≡ None) → Outcome (hear_client s k c m past) (hear_client s own_k c m own)
      as_decided one other is own_is done queue unheard =
          inl (subst (λ (d : Decision). SaidAlike (judge s k c m d past) (hear_client s own_k c m own)) (sym (of_all is))
          (subst (λ (d : Decision). SaidAlike (judge s k c m one past) (judge s own_k c m d own)) (sym (of_own own_is)) (record { done = done; queue = queue; unheard = unheard })))

      not_full : decision_on s k m past ≡ Replies Full → AreUndisturbed (view_of c (hear_client s k c m past)) → ⊥
      unfolding view
      not_full is fair =
          let noted : AreUndisturbed (view_of c (note s (Judged c (message_count c past + 1) m Full) past)) = subst (λ (d : Decision). AreUndisturbed (view_of c (judge s k c m d past))) (of_all is) fair in
          let told : AreUndisturbed (entry_if (c == c) (Said m Full) (view_of c past)) = subst AreUndisturbed (noted_view s.limits (mbim_wording s) c (Judged c (message_count c past + 1) m Full) past) noted in
          let first : AreUndisturbed (Said m Full ∷ view_of c past) = subst (λ (b : Bool). AreUndisturbed (entry_if b (Said m Full) (view_of c past))) (self c) told in
          let clash : true ≡ false = first.0 in cc

      module _ (roomy : IsRoomy s) (fair : AreUndisturbed (view_of c (hear_client s k c m past))) where
        own_decides : (b : Bool) → view_decides s k m ≡ b → view_decides s own_k m ≡ b
        own_decides b is = ap (λ (x : Known). view_decides s x m) (sym known_same) ∙ is

        -- ---- a request to open ----

        module _ (shared : view_decides s k m ≡ false) (of : is_kind Open m ≡ true) where
          none_waits : k.waits ≡ None
          none_waits = none_is k.waits (and_parts k.configured (is_none k.waits) (may_open_then s k m past of shared)).1

          states_alike : OpenAlike (state s.starts_away past) (state s.starts_away own)
          states_alike =
              let none : is_waiting s c (part c past) ≡ false = waits-part s c client past B.orderly.fit.once ∙ ap (λ (o : Option ℕ). is_present c past && is_some o) none_waits ∙ elim (is_present c past) as (λ b. (b && false) ≡ false) [ true ↦ refl | false ↦ refl ] in
              subst (λ (b : Bool). Stand s c b (state s.starts_away past) (state s.starts_away own)) none S.states

          for_all : (modem : ModemState) → state s.starts_away past ≡ modem → decision_on s k m past ≡ opening_decision modem (number_for s (own_open s) past)
          for_all modem is = decided_opening k past shared of ∙ ap (λ (x : ModemState). opening_decision x (number_for s (own_open s) past)) is

          alone : (modem : ModemState) → state s.starts_away own ≡ modem → decision_on s own_k m own ≡ opening_decision modem (number_for s (own_open s) own)
          alone modem is = decided_opening own_k own (own_decides false shared) of ∙ ap (λ (x : ModemState). opening_decision x (number_for s (own_open s) own)) is

          number_alone : state s.starts_away own ≡ IsShut → (n : ℕ) × (number_for s (own_open s) own ≡ Some n)
          number_alone shut = opens_under s roomy own B.empty (subst (λ (x : ModemState). AsksAlone s c x past own) shut S.asks)

          asks_alone : (n : ℕ) → state s.starts_away own ≡ IsShut → number_for s (own_open s) own ≡ Some n → decision_on s own_k m own ≡ Forwards n
          asks_alone n shut is = alone IsShut shut ∙ ap forwards_under is

          queue_opening : (n : ℕ) → MayQueue s c history_alone (judge s own_k c m (Forwards n) own)
          queue_opening n = inr (inl (ap (λ (l : List Fact). state s.starts_away l) (own_opens n of) ∙ opening n own))

          opens_both : (o : Option ℕ) → number_for s (own_open s) past ≡ o → state s.starts_away past ≡ IsShut → state s.starts_away own ≡ IsShut → Outcome (hear_client s k c m past) (hear_client s own_k c m own)
          opens_both None none shut own_shut = absurd (not_full (for_all IsShut shut ∙ ap forwards_under none) fair)
          opens_both (Some n) given shut own_shut =
              let found = number_alone own_shut in
              let is : decision_on s k m past ≡ Forwards n = for_all IsShut shut ∙ ap forwards_under given in
              as_decided (Forwards n) (Forwards found.0) is (asks_alone found.0 own_shut found.1) (both_open_done n found.0 (of_all is) of own_shut) (queue_opening found.0) (λ o e. unready o (ap is_ready is))

          opening_by : (all modem : ModemState) → state s.starts_away past ≡ all → state s.starts_away own ≡ modem → OpenAlike all modem → Outcome (hear_client s k c m past) (hear_client s own_k c m own)
          opening_by IsAway IsAway is own_is alike =
              as_decided (Replies Away) (Replies Away) (for_all IsAway is) (alone IsAway own_is) (replied_done Away (λ e. cc) (λ e. absurd (cc))) (inl (replied_queue Away)) (λ o e. unready o (ap is_ready (for_all IsAway is)))
          opening_by IsShut IsShut is own_is alike = opens_both (number_for s (own_open s) past) refl is own_is
          opening_by IsOpening IsShut is own_is alike =
              let found = number_alone own_is in
              as_decided (Replies Waits) (Forwards found.0) (for_all IsOpening is) (asks_alone found.0 own_is found.1) (waits_done found.0 (of_all (for_all IsOpening is)) of is own_is) (queue_opening found.0) (λ o e. unready o (ap is_ready (for_all IsOpening is)))
          opening_by IsReady IsShut is own_is alike =
              let found = number_alone own_is in
              inr (record {
                decided = for_all IsReady is;
                decided_for = of_all (for_all IsReady is);
                none = none_waits;
                ready = is;
                shut = own_is;
                number = found.0;
                given = found.1;
                is = ap (λ (d : Decision). judge s own_k c m d own) (of_own (asks_alone found.0 own_is found.1)) ∙ own_opens found.0 of;
                opens_it = of;
              })
          opening_by IsReady IsReady is own_is alike =
              as_decided (Replies Ready) (Replies Ready) (for_all IsReady is) (alone IsReady own_is) (replied_done Ready (λ e. cc) (λ e. none_waits)) (inl (replied_queue Ready))
              (λ o e. none_opens o (ap (list_any is_own_open) e ∙ ready_pending own_is Ready) (ap is_ready (for_all IsReady is)))
          opening_by _ _ is own_is alike = absurd alike

        -- ---- a command ----

        command_by : (o : Option ℕ) → number_for s (command_message s k m) past ≡ o → view_decides s k m ≡ false → is_kind Open m ≡ false → Outcome (hear_client s k c m past) (hear_client s own_k c m own)
        command_by None none shared of = absurd (not_full (decided_command k past shared of ∙ ap forwards_under none) fair)
        command_by (Some n) given shared of =
            let own_shared : view_decides s own_k m ≡ false = own_decides false shared in
            let ready : state s.starts_away own ≡ IsReady = open_is_ready s (state s.starts_away own) own_k (B.alone.order.clients c there_own) (shared_command s own_k m own_shared of) in
            let mine : AllByRecursion (λ r. (r.conn == c) ≡ true) (in_use own) = subst (λ (x : ModemState). AsksAlone s c x past own) ready S.asks in
            let found = goes_under s roomy c (command_message s k m) past own n B.orderly.fit.asked (sent_alike s roomy.enough c client past own B.orderly.fit B.alone.fit B.same) mine B.empty given in
            let is : decision_on s k m past ≡ Forwards n = decided_command k past shared of ∙ ap forwards_under given in
            let own_is : decision_on s own_k m own ≡ Forwards found.0 =
            decided_command own_k own own_shared of ∙ ap (λ (x : Known). forwards_under (number_for s (command_message s x m) own)) (sym known_same) ∙ ap forwards_under found.1
            in
            as_decided (Forwards n) (Forwards found.0) is own_is (command_done n found.0 of ready) (inr (inr (command_queue found.0 of))) (λ o e. unready o (ap is_ready is))

        -- ---- each message ----

        by_tests : (decides opening_it : Bool) → view_decides s k m ≡ decides → is_kind Open m ≡ opening_it → Outcome (hear_client s k c m past) (hear_client s own_k c m own)
        by_tests true opening_it is of =
            as_decided (Replies Own) (Replies Own) (decided_own k past is) (decided_own own_k own (own_decides true is)) (replied_done Own (λ e. cc) (λ e. absurd (cc))) (inl (replied_queue Own)) (λ o e. unready o (ap is_ready (decided_own k past is)))
        by_tests false true is of = opening_by is of (state s.starts_away past) (state s.starts_away own) refl refl (states_alike is of)
        by_tests false false is of = command_by (number_for s (command_message s k m) past) refl is of

    -- it is in both or in neither
    module _ (roomy : IsRoomy s) (fair : AreUndisturbed (view_of c (hear_client s k c m past))) where
      share_same : passes_share s k c m past ≡ passes_share s own_k c m own
      share_same =
          let sent : sent_by c (pending past) ≡ sent_by c (pending own) =
          sym (pending-part s.limits blank restated reads c past B.orderly.fit.placed) ∙ ap pending B.same ∙ pending-part s.limits blank restated reads c own B.alone.fit.placed
          in
          let few : has_share s.limits.share c the_space past ≡ has_share s.limits.share c the_space own =
          ap (nat_le s.limits.share) (sym (share_count c the_space (pending past)) ∙ ap (λ (l : List Request). length (of_client c the_space l)) sent ∙ share_count c the_space (pending own))
          in
          ap (λ (x : Known). not (view_decides s x m) && not (is_kind Open m) && has_share s.limits.share c the_space past) known_same
          ∙ ap (λ (b : Bool). not (view_decides s own_k m) && not (is_kind Open m) && b) few

      forwards_unready : (o : Option ℕ) → is_ready (forwards_under o) ≡ false
      forwards_unready None = refl
      forwards_unready (Some n) = refl

      passed_command : passes_share s k c m past ≡ true → (view_decides s k m ≡ false) × (is_kind Open m ≡ false)
      passed_command is =
          let parts = and_parts (not (view_decides s k m) && not (is_kind Open m)) (has_share s.limits.share c the_space past) is in
          let firsts = and_parts (not (view_decides s k m)) (not (is_kind Open m)) parts.0 in
          (was_false (view_decides s k m) firsts.0, was_false (is_kind Open m) firsts.1)
        where
          was_false : (b : Bool) → not b ≡ true → b ≡ false
          was_false true e = absurd (cc)
          was_false false e = refl

      shared_out : passes_share s k c m past ≡ true → SaidAlike (hear_client s k c m past) (hear_client s own_k c m own)
      shared_out is =
          let command = passed_command is in
          let for_all : decision_for s k c m past ≡ Replies Share = ap (λ (b : Bool). if b then Replies Share else decision_on s k m past) is in
          let alone : decision_for s own_k c m own ≡ Replies Share = ap (λ (b : Bool). if b then Replies Share else decision_on s own_k m own) (sym share_same ∙ is) in
          let ready : is_ready (decision_on s k m past) ≡ false = ap is_ready (decided_command k past command.0 command.1) ∙ forwards_unready _ in
          subst (λ (d : Decision). SaidAlike (judge s k c m d past) (hear_client s own_k c m own)) (sym for_all)
          (subst (λ (d : Decision). SaidAlike (judge s k c m (Replies Share) past) (judge s own_k c m d own)) (sym alone)
          (record { done = replied_done Share (λ e. cc) (λ e. absurd (cc)); queue = inl (replied_queue Share); unheard = λ o e. unready o ready }))

      pub said : Outcome (hear_client s k c m past) (hear_client s own_k c m own)
      said = by (passes_share s k c m past) refl
        where
          by : (b : Bool) → passes_share s k c m past ≡ b → Outcome (hear_client s k c m past) (hear_client s own_k c m own)
          by true is = inl (shared_out is)
          by false is = by_tests is (sym share_same ∙ is) roomy fair (view_decides s k m) (is_kind Open m) refl refl
