-- A client of whom nothing was heard: what anybody does leaves it so.
use Rattle.std.proofs.Common.{◌≡◌, ℕ, max, Bool, true, false, ◌&&◌, ◌==◌, if◌then◌else◌, List, [], ◌∷◌, refl, ap, sym, ◌∙◌, subst, Contains, Option, Some, None}
use Rattle.qmux_frame.specs.Kind.{framed_kind}
use Rattle.qmux_frame.specs.Control.{is_sync}
use Rattle.proxy_history.specs.Facts.{Fact, Request, Stray, Freed, Reset, ModemLost, ModemReturned}
use Rattle.proxy_history.specs.Connections.{present, is_present}
use Rattle.proxy_history.specs.Requests.{in_use, pending, is_pending}
use Rattle.proxy_history.specs.Modem.{now}
use Rattle.proxy_history.specs.Noting.{each_pending}
use Rattle.proxy_history.specs.Unanswered.{due}
use Rattle.proxy_history.proofs.Lists.{Contains-nil}
use Rattle.proxy_solo.specs.Part as alone_part
use Rattle.qmi_proxy.specs.Setup.{Setup}
use Rattle.qmi_proxy.specs.FromModem.{respond, first_answered_by, abort_all, tell, hear_as, hear_modem, lose, in_expiry_order}
use Rattle.qmi_proxy.specs.History.{add}
use Rattle.proxy_history.specs.Items.{ClockShows}
use Rattle.qmi_proxy.proofs.Answered.{found_is}
use Rattle.qmi_solo.specs.Solo.{names_nobody}
use Rattle.proxy_solo.specs.Part.{as_sent, sent_by}
use Rattle.qmi_solo.specs.Part.{part}
use Rattle.proxy_solo.proofs.Reading.{AreGeneral}
use Rattle.qmi_solo.proofs.Fit.{Fit}
use Rattle.qmi_solo.proofs.Queries.{present-part, in_use-part}
use Rattle.qmi_solo.proofs.Actions.{known_aborts, loses-part, known_ticks, refuse_known}
use Rattle.qmi_solo.proofs.Releasing.{clock-part}
use Rattle.proxy_solo.proofs.Matching.{sent_there}
use Rattle.qmi_solo.proofs.EachKind.{by_kind}
use Rattle.qmi_solo.proofs.Hearing.{known_tell, tells-part, syncs-part, answered_elsewhere}

general_present : (c : ℕ) (facts : List Fact) → AreGeneral facts → is_present c facts ≡ false
unfolding present
general_present c [] all = refl
general_present c (Reset ∷ facts) all = general_present c facts all.1
general_present c (ModemLost ∷ facts) all = general_present c facts all.1
general_present c (ModemReturned ∷ facts) all = general_present c facts all.1
general_present c (Freed d service cid ∷ facts) all = general_present c facts all.1
general_present c (_ ∷ facts) all = absurd (let clash : false ≡ true = all.0 in cc)

general_in_use : (facts : List Fact) → AreGeneral facts → in_use facts ≡ []
unfolding in_use
general_in_use [] all = refl
general_in_use (Reset ∷ facts) all = refl
general_in_use (ModemLost ∷ facts) all = refl
general_in_use (ModemReturned ∷ facts) all = general_in_use facts all.1
general_in_use (Freed d service cid ∷ facts) all = general_in_use facts all.1
general_in_use (_ ∷ facts) all = absurd (let clash : false ≡ true = all.0 in cc)

general_pending : (facts : List Fact) → AreGeneral facts → pending facts ≡ []
unfolding pending
general_pending [] all = refl
general_pending (Reset ∷ facts) all = refl
general_pending (ModemLost ∷ facts) all = refl
general_pending (ModemReturned ∷ facts) all = general_pending facts all.1
general_pending (Freed d service cid ∷ facts) all = general_pending facts all.1
general_pending (_ ∷ facts) all = absurd (let clash : false ≡ true = all.0 in cc)

skipped : (b more : Bool) (facts others : List Fact) → b ≡ false → (if b && more then facts else others) ≡ others
skipped true more facts others e = absurd (cc)
skipped false more facts others e = refl

module _ (s : Setup) (c : ℕ) where
  pub absent : (past : List Fact) → AreGeneral (part c past) → is_present c past ≡ false
  absent past general = sym (present-part c past) ∙ general_present c (part c past) general

  no_aborts : (facts : List Fact) → AreGeneral facts → known_aborts s.device c facts ≡ facts
  unfolding each_pending
  no_aborts facts general = ap (λ (l : List Request). each_pending (refuse_known s.device c false) (in_expiry_order l) facts) (general_pending facts general)

  no_ticks : (shown : ℕ) (facts : List Fact) → AreGeneral facts → AreGeneral (known_ticks s.device c shown facts)
  unfolding each_pending
  no_ticks shown facts general = subst (λ (l : List Request). AreGeneral (each_pending (refuse_known s.device c true) (in_expiry_order (due shown l)) facts)) (sym (general_pending facts general)) general

  untold : (m : List ℕ) (facts : List Fact) → AreGeneral facts → known_tell s c m facts ≡ facts
  untold m facts general = skipped (is_present c facts) _ _ facts (general_present c facts general)

  pub general_loses : (past : List Fact) → Fit false c past → AreGeneral (part c past) → AreGeneral (part c (lose s.device past))
  general_loses past F general = subst AreGeneral (sym ((loses-part s.device c past F).same ∙ ap (λ (l : List Fact). ModemLost ∷ l) (no_aborts (part c past) general))) (refl, general)

  pub general_ticks : (time : ℕ) (past : List Fact) → Fit false c past → AreGeneral (part c past) → AreGeneral (part c (add s (ClockShows time) past))
  general_ticks time past F general = subst AreGeneral (sym (clock-part s c time past F).same) (no_ticks (max time (now past)) (part c past) general)

  theirs : (past : List Fact) (r : Request) → Fit false c past → AreGeneral (part c past) → Contains (in_use past) r → (r.conn == c) ≡ false
  theirs past r F general at =
      let none : sent_by c (in_use past) ≡ [] = sym (in_use-part c past F) ∙ general_in_use (part c past) general in
      let step : (b : Bool) → (r.conn == c) ≡ b → b ≡ false =
      λ b. elim b as (λ b. (r.conn == c) ≡ b → b ≡ false) [
        | true ↦ λ e. absurd (Contains-nil (as_sent r) (subst (λ (l : List Request). Contains l (as_sent r)) none (sent_there c (in_use past) r at e)))
        | false ↦ λ e. refl
      ]
      in step (r.conn == c) refl

  pub general_heard : (m : List ℕ) (past : List Fact) → Fit false c past → AreGeneral (part c past) → AreGeneral (part c (hear_modem s.device m past))
  unfolding alone_part.part
  general_heard m past F general =
      let answers : (found : Option Request) → first_answered_by m (in_use past) ≡ found → AreGeneral (part c (respond s.device found m past)) =
      λ found. elim found as (λ found. first_answered_by m (in_use past) ≡ found → AreGeneral (part c (respond s.device found m past))) [
        | None ↦ λ is. general
        | Some r ↦ λ is. subst AreGeneral (sym (answered_elsewhere s c (is_pending r past) r m past F.client (theirs past r F general (found_is m (in_use past) r is).0))) general
      ]
      in
      let told : AreGeneral (part c (tell s.device m past)) = subst AreGeneral (sym (tells-part s c m past F.sound ∙ untold m (part c past) general)) general in
      let synced : AreGeneral (part c (tell s.device m (Reset ∷ abort_all s.device past))) =
      subst AreGeneral (sym (syncs-part s c m past F ∙ ap (λ (l : List Fact). known_tell s c m (Reset ∷ l)) (no_aborts (part c past) general) ∙ untold m (Reset ∷ part c past) (refl, general))) (refl, general)
      in
      by_kind (λ heard. AreGeneral (part c (hear_as heard s.device m past))) (answers (first_answered_by m (in_use past)) refl)
      (elim (is_sync m) as (λ b. AreGeneral (part c (if b then tell s.device m (Reset ∷ abort_all s.device past) else if names_nobody m then Stray ∷ past else tell s.device m past))) [
        | true ↦ synced
        | false ↦ elim (names_nobody m) as (λ b. AreGeneral (part c (if b then Stray ∷ past else tell s.device m past))) [ true ↦ general | false ↦ told ]
      ]) general general (framed_kind m)
