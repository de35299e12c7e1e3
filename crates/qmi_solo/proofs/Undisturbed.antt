-- A view that tells of nobody else is one of a fair history.
use Rattle.std.proofs.Common.{◌≡◌, ℕ, Bool, true, false, ◌==◌, if◌then◌else◌, List, [], ◌∷◌, refl}
use Rattle.std.specs.List.{AllByRecursion}
use Rattle.proxy_history.specs.Facts.{Fact, Verdict, Own, Share, Foreign, Away, Full, Forward, Ready, Waits, NotAdmitted, BadStream, Leaving, Admitted, Ended, Judged, Taken, Answered, IdHeld, Expired, Aborted, Indicated, OpeningEnded, SessionsClosed, Freed, Reset, ModemLost, ModemReturned}
use Rattle.proxy_history.specs.Connections.{contains}
use Rattle.proxy_history.specs.View.{Entry, Said, Response, Refused, Indication, OpenedWith, Shut, Taking, End, HeldId, NoAnswer, view, entry_if}
use Rattle.proxy_solo.specs.Part as alone_part
use Rattle.qmi_proxy.specs.Text.{blank, view_of}
use Rattle.proxy_solo.specs.Part.{concerns}
use Rattle.qmi_solo.proofs.Meets.{as_known, fact_if}
use Rattle.qmi_solo.specs.Part.{part}
use Rattle.proxy_solo.specs.Law.{tells_of_others}
use Rattle.proxy_solo.proofs.Reading.{AreGeneral}
use Rattle.qmi_solo.proofs.Fit.{IsFit}
use Rattle.qmi_solo.proofs.Fair.{refuses, AreFair}

module _ (c : ℕ) where
  abbrev pub AreUndisturbed : List Entry → Type 0
  AreUndisturbed entries = AllByRecursion (λ entry. tells_of_others entry ≡ false) entries

  fair_entry : (b : Bool) (fact : Fact) (entry : Entry) (facts : List Fact) (entries : List Entry) → (tells_of_others entry ≡ false → refuses fact ≡ false) → (AreUndisturbed entries → AreFair facts) → AreUndisturbed (entry_if b entry entries) → AreFair (fact_if b fact facts)
  fair_entry true fact entry facts entries here rest is = (here is.0, rest is.1)
  fair_entry false fact entry facts entries here rest is = rest is

  general_is_fair : (facts : List Fact) → AreGeneral facts → AreFair facts
  general_is_fair [] general = tt
  general_is_fair (Reset ∷ facts) general = (refl, general_is_fair facts general.1)
  general_is_fair (ModemLost ∷ facts) general = (refl, general_is_fair facts general.1)
  general_is_fair (ModemReturned ∷ facts) general = (refl, general_is_fair facts general.1)
  general_is_fair (Freed d service cid ∷ facts) general = (refl, general_is_fair facts general.1)
  general_is_fair (_ ∷ facts) general = absurd (let clash : false ≡ true = general.0 in cc)

  fair_verdict : (d place : ℕ) (m : List ℕ) (verdict : Verdict) → tells_of_others (Said m verdict) ≡ false → refuses (Judged d place m verdict) ≡ false
  fair_verdict d place m Own is = refl
  fair_verdict d place m Share is = refl
  fair_verdict d place m Foreign is = is
  fair_verdict d place m Away is = refl
  fair_verdict d place m Full is = is
  fair_verdict d place m Forward is = refl
  fair_verdict d place m Ready is = refl
  fair_verdict d place m Waits is = refl

  other_fact : (b : Bool) (fact : Fact) (facts : List Fact) → refuses fact ≡ false → AreFair facts → AreFair (fact_if b fact facts)
  other_fact true fact facts here rest = (here, rest)
  other_fact false fact facts here rest = rest

  pub fair_from_view : (past : List Fact) → IsFit false c past → AreUndisturbed (view_of c past) → AreFair (part c past)
  unfolding view alone_part.part
  fair_from_view [] fits is = tt
  fair_from_view (Admitted d ∷ past) fits is =
      let step : (b : Bool) → (d == c) ≡ b → AreUndisturbed (if b then [] else view_of c past) → AreFair (fact_if b (Admitted d) (part c past)) =
      λ b. elim b as (λ b. (d == c) ≡ b → AreUndisturbed (if b then [] else view_of c past) → AreFair (fact_if b (Admitted d) (part c past))) [
        | true ↦ λ e h. (refl, general_is_fair (part c past) (fits.0.1 e))
        | false ↦ λ e h. fair_from_view past fits.1 h
      ]
      in step (d == c) refl is
  fair_from_view (Ended d NotAdmitted ∷ past) fits is =
      let step : (b : Bool) → AreUndisturbed (if b then End NotAdmitted ∷ [] else view_of c past) → AreFair (fact_if b (Ended d NotAdmitted) (part c past)) =
      λ b. elim b as (λ b. AreUndisturbed (if b then End NotAdmitted ∷ [] else view_of c past) → AreFair (fact_if b (Ended d NotAdmitted) (part c past))) [
        | true ↦ λ h. absurd (let clash : true ≡ false = h.0 in cc)
        | false ↦ λ h. fair_from_view past fits.1 h
      ]
      in step (d == c) is
  fair_from_view (Ended d BadStream ∷ past) fits is = fair_entry (d == c) (Ended d BadStream) (End BadStream) (part c past) (view_of c past) (λ h. refl) (fair_from_view past fits.1) is
  fair_from_view (Ended d Leaving ∷ past) fits is = fair_entry (d == c) (Ended d Leaving) (End Leaving) (part c past) (view_of c past) (λ h. refl) (fair_from_view past fits.1) is
  fair_from_view (Judged d place m verdict ∷ past) fits is = fair_entry (d == c) (Judged d place m verdict) (Said m verdict) (part c past) (view_of c past) (fair_verdict d place m verdict) (fair_from_view past fits.1) is
  fair_from_view (Taken d count ∷ past) fits is = fair_entry (d == c) (Taken d count) (Taking count) (part c past) (view_of c past) (λ h. refl) (fair_from_view past fits.1) is
  fair_from_view (Answered r m ∷ past) fits is = fair_entry (r.conn == c) (as_known c (Answered r m)) (Response r.place (blank m)) (part c past) (view_of c past) (λ h. refl) (fair_from_view past fits.1) is
  fair_from_view (IdHeld r ∷ past) fits is = fair_entry (r.conn == c) (as_known c (IdHeld r)) (Refused r.place HeldId) (part c past) (view_of c past) (λ h. h) (fair_from_view past fits.1) is
  fair_from_view (Expired r ∷ past) fits is = fair_entry (r.conn == c) (as_known c (Expired r)) (Refused r.place NoAnswer) (part c past) (view_of c past) (λ h. refl) (fair_from_view past fits.1) is
  fair_from_view (Aborted r ∷ past) fits is = fair_entry (r.conn == c) (as_known c (Aborted r)) (Refused r.place NoAnswer) (part c past) (view_of c past) (λ h. refl) (fair_from_view past fits.1) is
  fair_from_view (Indicated m receivers ∷ past) fits is = fair_entry (contains c receivers) (as_known c (Indicated m receivers)) (Indication m) (part c past) (view_of c past) (λ h. refl) (fair_from_view past fits.1) is
  fair_from_view (OpeningEnded status receivers ∷ past) fits is = fair_entry (contains c receivers) (as_known c (OpeningEnded status receivers)) (OpenedWith status) (part c past) (view_of c past) (λ h. refl) (fair_from_view past fits.1) is
  fair_from_view (SessionsClosed receivers ∷ past) fits is = fair_entry (contains c receivers) (as_known c (SessionsClosed receivers)) Shut (part c past) (view_of c past) (λ h. refl) (fair_from_view past fits.1) is
  fair_from_view (fact ∷ past) fits is = other_fact (concerns c fact) (as_known c fact) (part c past) refl (fair_from_view past fits.1 is)
