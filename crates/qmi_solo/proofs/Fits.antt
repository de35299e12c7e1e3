-- Each item keeps a history fit.
use Rattle.std.proofs.Common.{◌≡◌, ℕ, ◌+◌, ◌≤◌, Bool, true, false, not, ◌&&◌, ◌==◌, nat_lt, if◌then◌else◌, List, [], ◌∷◌, length, inl, ⊎_elim, refl, ap, sym, ◌∙◌, arith, Option, Some, None}
use Rattle.std.proofs.lemmas.Bool.{eqb-true, eq-eqb}
use Rattle.qmux_frame.specs.declared.kind.MessageKind.{MessageKind}
use Rattle.qmux_frame.specs.declared.kind.MessageKind.TheVariants as kind
use Rattle.qmux_frame.specs.Head.{is_control, cid_of}
use Rattle.qmux_frame.specs.Kind.{framed_kind}
use Rattle.qmux_frame.specs.Control.{is_sync}
use Rattle.proxy_history.specs.Items.{Item, Joins, Says, GoesBad, Leaves, ModemSays, ModemIsLost, ModemReturns, ClockShows, Takes, ModemTakes}
use Rattle.proxy_history.specs.Facts.{Fact, Request, Verdict, Forward, Admitted, Ended, NotAdmitted, Judged, Forwarded, Answered, IdHeld, Indicated, Stray, Granted, Freed, Reset}
use Rattle.proxy_history.specs.Decision.{Decision, Replies, Forwards}
use Rattle.proxy_history.specs.Connections.{present, is_present, message_count}
use Rattle.proxy_history.specs.Requests.{in_use, is_pending}
use Rattle.proxy_history.specs.ClientIds.{held, holder, is_other}
use Rattle.proxy_history.specs.Modem.{modem_queue}
use Rattle.proxy_history.proofs.Sound.{forwarded_from_in_use}
use Rattle.qmi_proxy.specs.Limits.{connection_limit}
use Rattle.qmi_proxy.specs.Setup.{Setup}
use Rattle.qmi_proxy.specs.Messages.{uses_id, used_service, used_cid}
use Rattle.qmi_proxy.specs.Text.{note, view_of}
use Rattle.qmi_proxy.specs.Clients.{holder_for, wire, decision_on, request_of, grant_if, forward, judge}
use Rattle.qmi_proxy.specs.FromModem.{IdChange, NoChange, Grants, Collides, Frees, id_change, holder_of_brought, answer, answer_to, answer_or_late, respond, first_answered_by, abort_all, receivers, tell, hear_as}
use Rattle.qmi_proxy.specs.History.{add}
use Rattle.qmi_proxy.proofs.Sound.{sound_add}
use Rattle.qmi_proxy.specs.OwnReplies.{is_open}
use Rattle.qmi_proxy.proofs.Verdicts.{can_go}
use Rattle.qmi_proxy.proofs.Answered.{found_is, change_free}
use Rattle.qmi_solo.specs.Part.{part}
use Rattle.proxy_solo.proofs.Placed.{older}
use Rattle.proxy_solo.proofs.Reading.{AreGeneral}
use Rattle.qmi_solo.proofs.Fit.{ComesFrom, Acts, MayBe, IsFit, Fit, place_within}
use Rattle.qmi_solo.proofs.Alone.{forwarded_so}
use Rattle.proxy_solo.proofs.Lists.{self}
use Rattle.qmi_solo.proofs.Actions.{fit_ends, aborts-part, loses-part}
use Rattle.qmi_solo.proofs.Releasing.{clock-part}

module _ (alone : Bool) (c : ℕ) (s : Setup) where
  abbrev FitFacts : List Fact → Type 0
  FitFacts past = IsFit alone c past

  either : (b : Bool) (past one other : List Fact) → FitFacts one → FitFacts other → FitFacts (if b then one else other)
  either true past one other x y = x
  either false past one other x y = y

  by_test : (b : Bool) (one other : List Fact) → (b ≡ true → FitFacts one) → (b ≡ false → FitFacts other) → FitFacts (if b then one else other)
  by_test true one other x y = x refl
  by_test false one other x y = y refl

  -- ---- who acts ----

  acts_own : (alone : Bool) (d : ℕ) (past : List Fact) → ComesFrom alone c d → Acts alone c d past
  acts_own true d past from = inl from
  acts_own false d past from = tt

  -- a client that asked is the client itself
  acts_later : (alone : Bool) (d : ℕ) (before past : List Fact) → (d == 0) ≡ false → Acts alone c d before → Acts alone c d past
  acts_later true d before past clients acts = ⊎_elim (λ mine. inl mine) (λ own. absurd (let clash : (d == 0) ≡ true = eq-eqb d 0 own.0 in cc)) acts
  acts_later false d before past clients acts = tt

  -- ---- messages of clients ----

  module _ (d : ℕ) (m : List ℕ) (past : List Fact) (F : Fit alone c past) (from : ComesFrom alone c d) where
    noted_fits : (place : ℕ) (verdict : Verdict) → FitFacts (note s.device (Judged d place m verdict) past)
    noted_fits place verdict = fit_ends alone c s.device (d ∷ []) (Judged d place m verdict ∷ past) (tt, F.fits)

    abbrev before : List Fact
    before = Judged d (message_count d past + 1) m Forward ∷ past

    place_is : message_count d before ≡ message_count d past + 1
    unfolding message_count
    place_is = ap (λ (b : Bool). if b then message_count d past + 1 else message_count d past) (self d)

    forwarded_fits : (n : ℕ) → FitFacts (Forwarded (request_of s d m n before) ∷ before)
    forwarded_fits n = (
      (
        acts_own alone d before from,
        refl,
        λ mine.
            let is : d ≡ c = eqb-true d c mine in
            record {
              place = ap (λ (x : ℕ). message_count x before) is;
              rises =
                  λ q at.
                  let within = place_within alone c past q F.fits (older c (Judged d (message_count d past + 1) m Forward) past q (λ e. cc) at) in
                  let same : message_count d past ≡ message_count c past = ap (λ (x : ℕ). message_count x past) is in
                  omega (arith, within, same, place_is);
            },
      ),
      (tt, F.fits),
    )

    granted_fits : (b : Bool) (facts : List Fact) → (b ≡ true → is_other d (holder (used_service m) (used_cid m) facts) ≡ false) → FitFacts facts → FitFacts (grant_if b d m facts)
    granted_fits true facts free fits = ((acts_own alone d facts from, free refl), fits)
    granted_fits false facts free fits = fits

    forward_fits : (n : ℕ) → is_other d (holder_for m past) ≡ false → FitFacts (forward s d m n before)
    unfolding held
    forward_fits n free =
        granted_fits (uses_id m) (Forwarded (request_of s d m n before) ∷ before)
        (λ e. sym (ap (λ (b : Bool). is_other d (if b then holder (used_service m) (used_cid m) past else None)) e) ∙ free) (forwarded_fits n)

    judge_fits : (decision : Decision) → ((n : ℕ) → decision ≡ Forwards n → is_other d (holder_for m past) ≡ false) → FitFacts (judge s d m decision past)
    judge_fits (Replies verdict) free = noted_fits (message_count d past + 1) verdict
    judge_fits (Forwards n) free = forward_fits n (free n refl)

    says_fits : FitFacts (judge s d m (decision_on s d m past) past)
    says_fits = judge_fits (decision_on s d m past) (λ n e. (can_go s (is_open s.device (view_of d past)) d m past n e).free)

  -- ---- messages of the modem ----

  answer_fits : (r : Request) (m : List ℕ) (change : IdChange) (past : List Fact) → FitFacts past → ((service cid : ℕ) → change ≡ Grants service cid → MayBe alone c (Granted r.conn service cid) past) → FitFacts (answer s.device r m change past)
  answer_fits r m NoChange past fits may = fit_ends alone c s.device (r.conn ∷ []) (Answered r m ∷ past) (tt, fits)
  answer_fits r m (Grants service cid) past fits may = fit_ends alone c s.device (r.conn ∷ []) (Answered r m ∷ Granted r.conn service cid ∷ past) (tt, (may service cid refl, fits))
  answer_fits r m Collides past fits may = fit_ends alone c s.device (r.conn ∷ []) (IdHeld r ∷ past) (tt, fits)
  answer_fits r m (Frees service cid) past fits may = fit_ends alone c s.device (r.conn ∷ []) (Answered r m ∷ Freed r.conn service cid ∷ past) (tt, (tt, fits))

  respond_fits : (found : Option Request) (m : List ℕ) (past : List Fact) → FitFacts past → first_answered_by m (in_use past) ≡ found → FitFacts (respond s.device found m past)
  respond_fits None m past fits is = (tt, fits)
  respond_fits (Some r) m past fits is =
      let asked = forwarded_so alone c past r fits (forwarded_from_in_use past r (found_is m (in_use past) r is).0) in
      let to : (own : Bool) → (r.conn == 0) ≡ own → FitFacts (answer_to own s.device r m past) =
      λ own. elim own as (λ own. (r.conn == 0) ≡ own → FitFacts (answer_to own s.device r m past)) [
        | true ↦ λ e. (tt, fit_ends alone c s.device (r.conn ∷ []) (Answered r m ∷ past) (tt, fits))
        | false ↦ λ e. answer_fits r m (id_change r.conn r.message m (holder_of_brought m past)) past fits
            (λ service cid f. (acts_later alone r.conn asked.0 past e asked.1.0, change_free r.conn r.message m past service cid f))
      ]
      in
      elim (is_pending r past) as (λ b. FitFacts (answer_or_late s.device b r m past)) [ true ↦ to (r.conn == 0) refl | false ↦ (tt, fits) ]

  tell_fits : (m : List ℕ) (past : List Fact) → FitFacts past → FitFacts (tell s.device m past)
  tell_fits m past fits = fit_ends alone c s.device (receivers s.device m past) (Indicated m (receivers s.device m past) ∷ past) (tt, fits)

  hear_fits : (heard : Option MessageKind) (m : List ℕ) (past : List Fact) → Fit alone c past → FitFacts (hear_as heard s.device m past)
  hear_fits (Some kind.Response) m past F = respond_fits (first_answered_by m (in_use past)) m past F.fits refl
  hear_fits (Some kind.Indication) m past F =
      either (is_sync m) past (tell s.device m (Reset ∷ abort_all s.device past)) _ (tell_fits m (Reset ∷ abort_all s.device past) (tt, (aborts-part s.device c past F).fit.fits))
      (either (not (is_control m) && cid_of m == 0) past (Stray ∷ past) (tell s.device m past) (tt, F.fits) (tell_fits m past F.fits))
  hear_fits (Some kind.Request) m past F = (tt, F.fits)
  hear_fits None m past F = (tt, F.fits)

  -- ---- every item ----

  abbrev pub MayMeet : Item → List Fact → Type 0
  MayMeet (Joins d) past = ComesFrom alone c d × ((d == c) ≡ true → AreGeneral (part c past))
  MayMeet (Says d m) past = ComesFrom alone c d
  MayMeet (ModemTakes count) past = count ≤ length (modem_queue wire past)
  MayMeet _ past = Unit {0}

  add_fits : (item : Item) (past : List Fact) → Fit alone c past → MayMeet item past → FitFacts (add s item past)
  add_fits (Joins d) past F may = either (nat_lt (length (present past)) connection_limit) past (Admitted d ∷ past) (Ended d NotAdmitted ∷ past) (may, F.fits) (may.0, F.fits)
  add_fits (Says d m) past F may = either (is_present d past) past _ past (says_fits d m past F may) F.fits
  add_fits (GoesBad d) past F may = either (is_present d past) past _ past (tt, F.fits) F.fits
  add_fits (Leaves d) past F may = either (is_present d past) past _ past (tt, F.fits) F.fits
  add_fits (ModemSays m) past F may = hear_fits (framed_kind m) m past F
  add_fits ModemIsLost past F may = (loses-part s.device c past F).fit.fits
  add_fits ModemReturns past F may = (tt, F.fits)
  add_fits (ClockShows time) past F may = (clock-part s c time past F).fit.fits
  add_fits (Takes d count) past F may = either (is_present d past) past _ past (tt, F.fits) F.fits
  add_fits (ModemTakes count) past F may = (may, F.fits)

  pub fit_add : (item : Item) (past : List Fact) → Fit alone c past → MayMeet item past → Fit alone c (add s item past)
  fit_add item past F may = record { client = F.client; sound = sound_add s item past F.sound; fits = add_fits item past F may }
