-- The client ids that the proxy itself releases by the clock don't concern a client, and alone there are none of them while it is there.
use Rattle.std.proofs.Common.{◌≡◌, ℕ, zero, suc, max, Bool, true, false, ◌==◌, List, ◌∷◌, length, refl, ap, ◌∙◌, inr, ⊎_elim, Contains, Option, Some, None}
use Rattle.std.proofs.lemmas.List.Elements.{All-contains_itself, recursion_from_All}
use Rattle.proxy_history.specs.Facts.{Fact, Request, Forwarded, Granted}
use Rattle.proxy_history.specs.Items.{ClockShows}
use Rattle.proxy_history.specs.Requests.{in_use, last_number}
use Rattle.proxy_history.specs.ClientIds.{KeptId, held, kept, holder_in, is_other}
use Rattle.proxy_history.specs.Modem.{now, modem_queue}
use Rattle.proxy_history.proofs.Kept.{kept_are_nobodys}
use Rattle.proxy_solo.specs.Part as alone_part
use Rattle.proxy_solo.specs.Part.{as_sent}
use Rattle.qmi_proxy.specs.Setup.{Setup}
use Rattle.qmi_proxy.specs.Clients.{wire, has_room}
use Rattle.qmi_proxy.specs.Releases.{release_of, own_request, first_due, own_number, number_for_own, releases_one, releases, release_due}
use Rattle.qmi_proxy.specs.FromModem.{tick}
use Rattle.qmi_proxy.specs.History.{add}
use Rattle.qmi_proxy.proofs.Walk.{some_if, first_kept}
use Rattle.qmi_solo.specs.Part.{part}
use Rattle.qmi_solo.proofs.Meets.{fact_if}
use Rattle.qmi_solo.proofs.Fit.{Acts, Fit}
use Rattle.qmi_solo.proofs.Alone.{kept_has_gone, still_gone}
use Rattle.qmi_solo.proofs.Actions.{Done, known_ticks, ticks-part}

module _ (s : Setup) (c : ℕ) where
  acts : (alone : Bool) (past : List Fact) (k : KeptId) → Fit alone c past → Contains (kept past) k → Acts alone c 0 past
  acts true past k F at = inr (refl, kept_has_gone c past k F at)
  acts false past k F at = tt

  still_acts : (alone : Bool) (r : Request) (past : List Fact) → (0 == c) ≡ false → Acts alone c 0 past → Acts alone c 0 (Forwarded r ∷ past)
  still_acts true r past client acts = ⊎_elim (λ mine. absurd (let clash : (0 == c) ≡ true = mine in cc)) (λ own. inr (refl, still_gone c (Forwarded r) past refl own.1)) acts
  still_acts false r past client acts = tt

  module _ {alone : Bool} (k : KeptId) (n : ℕ) (past : List Fact) (F : Fit alone c past) (at : Contains (kept past) k) (free : holder_in k.service k.cid (held past) ≡ None) (numbered : number_for_own k past ≡ Some n) where
    abbrev r : Request
    r = own_request s k.service k.cid n past

    abbrev released : List Fact
    released = releases_one s k n past

    one-part : part c released ≡ part c past
    unfolding alone_part.part
    one-part = ap (λ (b : Bool). fact_if b (Granted 0 k.service k.cid) (fact_if b (Forwarded (as_sent r)) (part c past))) F.client

    one_fits : Fit alone c released
    unfolding in_use last_number held
    one_fits =
        let parts = some_if s (has_room (length (modem_queue wire past)) (release_of k.service k.cid)) (own_number past) n numbered in
        record {
          client = F.client;
          sound = ((refl, ap (is_other 0) free), (record { serial = refl; sender = refl; number = parts.1 }, F.sound));
          fits = (
            (still_acts alone r past F.client (acts alone past k F at), ap (is_other 0) free),
            ((acts alone past k F at, refl, λ mine. absurd (let other : (0 == c) ≡ false = F.client in cc)), F.fits),
          );
        }

  abbrev Left : Bool → List Fact → List Fact → Type 0
  Left alone after past = Done s.device c alone after past (λ facts. facts)

  released-part : {alone : Bool} (after count : ℕ) (past : List Fact) → Fit alone c past → Left alone (releases s after count past) past
  unfolding releases
  released-part after zero past F = record { same = refl; fit = F }
  released-part {alone} after (suc count) past F = by_id (λ next G. released-part after count next G) (first_due after (now past) (kept past)) refl
    where
      by_number : ((next : List Fact) → Fit alone c next → Left alone (releases s after count next) next) → (k : KeptId) → Contains (kept past) k → holder_in k.service k.cid (held past) ≡ None
          → (number : Option ℕ) → number_for_own k past ≡ number → Left alone (elim number [ None ↦ past | Some number ↦ releases s after count (releases_one s k number past) ]) past
      by_number rest k at free None is = record { same = refl; fit = F }
      by_number rest k at free (Some n) is =
          let later = rest (releases_one s k n past) (one_fits k n past F at free is) in
          record { same = later.same ∙ one-part k n past F at free is; fit = later.fit }

      by_id : ((next : List Fact) → Fit alone c next → Left alone (releases s after count next) next) → (found : Option KeptId) → first_due after (now past) (kept past) ≡ found
          → Left alone (elim found [ None ↦ past | Some k ↦ elim (number_for_own k past) [ None ↦ past | Some number ↦ releases s after count (releases_one s k number past) ] ]) past
      by_id rest None is = record { same = refl; fit = F }
      by_id rest (Some k) is =
          by_number rest k (first_kept s (Contains (kept past)) after (now past) (kept past) k (recursion_from_All (Contains (kept past)) (kept past) (All-contains_itself (kept past))) is)
          (first_kept s (λ k. holder_in k.service k.cid (held past) ≡ None) after (now past) (kept past) k (kept_are_nobodys past) is) (number_for_own k past) refl

  due-part : {alone : Bool} (after : Option ℕ) (past : List Fact) → Fit alone c past → Left alone (release_due s after past) past
  due-part None past F = record { same = refl; fit = F }
  due-part (Some after) past F = released-part after (length (kept past)) past F

  -- once the clock shows this time
  pub clock-part : {alone : Bool} (time : ℕ) (past : List Fact) → Fit alone c past → Done s.device c alone (add s (ClockShows time) past) past (known_ticks s.device c (max time (now past)))
  clock-part time past F =
      let ticked = ticks-part s.device c time past F in
      let released = due-part s.release (tick s.device time past) ticked.fit in
      record { same = released.same ∙ ticked.same; fit = released.fit }
