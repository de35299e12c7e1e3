-- What the messages of the modem, its loss and the clock make of a core.
use Rattle.std.proofs.Common.{◌≡◌, ℕ, ◌-◌, ◌≤◌, max, Bool, true, false, not, ◌&&◌, ◌==◌, List, [], ◌∷◌, length, drop, refl, ap, sym, ◌∙◌, subst, arith, Option, Some, None, if◌then◌else◌}
use Rattle.std.proofs.lemmas.List.{length-drop}
use Rattle.qmux_frame.specs.declared.kind.MessageKind.{MessageKind}
use Rattle.qmux_frame.specs.declared.kind.MessageKind.TheVariants as kind
use Rattle.qmux_frame.specs.Head.{is_control, cid_of}
use Rattle.qmux_frame.specs.Kind.{framed_kind}
use Rattle.qmux_frame.specs.Control.{is_sync}
use Rattle.proxy_history.specs.Facts.{Fact, Reset, ModemReturned, ModemTaken, TimeIs, ModemLost}
use Rattle.proxy_history.specs.Connections.{present, dropped}
use Rattle.proxy_history.specs.Requests.{pending, last_number}
use Rattle.proxy_history.specs.Modem.{is_away, now, to_modem, modem_taken_count}
use Rattle.proxy_history.specs.View.{view}
use Rattle.qmi_proxy.specs.Setup.{Setup}
use Rattle.qmi_proxy.specs.Clients.{wire}
use Rattle.qmi_proxy.specs.Releases.{release_due}
use Rattle.qmi_proxy.specs.FromModem.{abort_all, lose, tick, indicate, hear_as, hear_modem}
use Rattle.proxy_state.specs.Requests.{requests_in_use}
use Rattle.qmi_state.specs.Traffic.{Traffic, forgets, ids, kept_ids}
use Rattle.proxy_state.specs.Stands.{Streams}
use Rattle.qmi_state.specs.Core.{ModemSide, QmiState}
use Rattle.qmi_state.specs.Transitions as state
use Rattle.qmi_state.specs.Transitions.{with_traffic, aborts, expires, forgets_all, hears_indication, hears_as, hears_modem}
use Rattle.qmux_frame.proofs.Framed.{framed_long, responses_framed}
use Rattle.qmi_state.proofs.TrafficSteps.{traffic_reset, traffic_taken}
use Rattle.qmi_proxy.proofs.Regulars.{regular_more}
use Rattle.qmi_state.proofs.Keeping as keeping
use Rattle.qmi_state.proofs.Keeping.{traffic_is, keeps_side, keeps_quiet}
use Rattle.qmi_state.proofs.Answering.{keeps_responds, kept_stray}
use Rattle.qmi_state.proofs.Expired.{kept_expires, kept_aborts}
use Rattle.qmi_state.proofs.Indicating.{kept_indicated}
use Rattle.qmi_state.proofs.Releasing.{kept_released}

module _ (s : Setup) (streams : Streams) where
  abbrev Kept : List Fact → QmiState → Type 0
  Kept past x = keeping.Kept s streams past x

  kept_aborted : (past : List Fact) (x : QmiState) → Kept past x → Kept (abort_all s.device past) (aborts x)
  kept_aborted past x K = kept_aborts s streams past x K

  kept_reset : (past : List Fact) (x : QmiState) → Kept past x → Kept (Reset ∷ past) (forgets_all x)
  unfolding requests_in_use now is_away present dropped last_number ids kept_ids to_modem modem_taken_count view
  kept_reset past x K = keeps_quiet s streams (Reset ∷ past) past x (forgets x.beside.traffic) (λ d. refl) refl refl refl refl (ap forgets (traffic_is s streams past x K) ∙ sym (traffic_reset past)) (regular_more Reset past tt tt tt K.fine) K

  kept_either : (b : Bool) (facts others : List Fact) (x y : QmiState) → Kept facts x → Kept others y → Kept (if b then facts else others) (if b then x else y)
  kept_either true facts others x y K L = K
  kept_either false facts others x y K L = L

  kept_indication : (m : List ℕ) (past : List Fact) (x : QmiState) → Kept past x → Kept (indicate s.device m past) (hears_indication m x)
  kept_indication m past x K =
      kept_either (is_sync m) _ _ _ _
      (kept_indicated s streams m (Reset ∷ abort_all s.device past) (forgets_all (aborts x)) (kept_reset (abort_all s.device past) (aborts x) (kept_aborted past x K)))
      (kept_either (not (is_control m) && cid_of m == 0) _ _ _ _ (kept_stray s streams past x K) (kept_indicated s streams m past x K))

  pub kept_heard : (m : List ℕ) (past : List Fact) (x : QmiState) → Kept past x → Kept (hear_modem s.device m past) (hears_modem m x)
  kept_heard m past x K = by_kind (framed_kind m) refl
    where
      by_kind : (heard : Option MessageKind) → framed_kind m ≡ heard → Kept (hear_as heard s.device m past) (hears_as heard m x)
      by_kind (Some kind.Response) e = keeps_responds s streams past x m (framed_long m (responses_framed m e)) K
      by_kind (Some kind.Indication) e = kept_indication m past x K
      by_kind (Some kind.Request) e = kept_stray s streams past x K
      by_kind None e = kept_stray s streams past x K

  pub kept_lost : (past : List Fact) (x : QmiState) → Kept past x → Kept (lose s.device past) (state.lose x)
  unfolding requests_in_use now is_away present dropped last_number ids kept_ids to_modem modem_taken_count view
  kept_lost past x K =
      let A : Kept (abort_all s.device past) (aborts x) = kept_aborted past x K in
      keeps_side s streams (lose s.device past) (abort_all s.device past) (aborts x) (state.lose x).beside (λ d. refl) refl refl
      (ap (λ (b : ModemSide). let c : ModemSide = record b { traffic = record (forgets b.traffic) { waiting = [] }; away = true } in c) A.holds.beside) (regular_more ModemLost (abort_all s.device past) tt tt tt A.fine) A

  abbrev at_time : ℕ → QmiState → QmiState
  at_time time x = record x { beside = record x.beside { time = time } }

  kept_timed : (past : List Fact) (x : QmiState) (time : ℕ) → now past ≤ time → Kept past x → Kept (TimeIs time ∷ past) (at_time time x)
  unfolding requests_in_use now is_away present dropped last_number ids kept_ids to_modem modem_taken_count view
  kept_timed past x time later K =
      keeps_side s streams (TimeIs time ∷ past) past x (record x.beside { time = time }) (λ d. refl) refl refl
      (ap (λ (b : ModemSide). let c : ModemSide = record b { time = time } in c) K.holds.beside) (regular_more (TimeIs time) past later tt tt K.fine) K

  kept_shown : (past : List Fact) (x : QmiState) (time : ℕ) → Kept past x → Kept (tick s.device time past) (state.shows time x)
  unfolding pending
  kept_shown past x time K =
      let shown : ℕ = max time (now past) in
      subst (λ (n : ℕ). Kept (tick s.device time past) (expires (max time n) (at_time (max time n) x))) (sym (ap (λ (b : ModemSide). b.time) K.holds.beside))
      (kept_expires s streams true shown (TimeIs shown ∷ past) (at_time shown x) (kept_timed past x shown (omega arith) K))

  -- and then the ids are released that are due
  pub kept_ticked : (past : List Fact) (x : QmiState) (time : ℕ) → Kept past x → Kept (release_due s s.release (tick s.device time past)) (state.tick time x)
  kept_ticked past x time K =
      let shown : Kept (tick s.device time past) (state.shows time x) = kept_shown past x time K in
      let same : (state.shows time x).beside.release ≡ x.beside.release = ap (λ (b : ModemSide). b.release) shown.holds.beside ∙ sym (ap (λ (b : ModemSide). b.release) K.holds.beside) in
      subst (λ (o : Option ℕ). Kept (release_due s s.release (tick s.device time past)) (state.releases_due o (state.shows time x))) same (kept_released s streams (tick s.device time past) (state.shows time x) shown)

  pub kept_returned : (past : List Fact) (x : QmiState) → Kept past x → Kept (ModemReturned ∷ past) (record x { beside = state.regain x.beside })
  unfolding requests_in_use now is_away present dropped last_number ids kept_ids to_modem modem_taken_count view
  kept_returned past x K =
      keeps_side s streams (ModemReturned ∷ past) past x (state.regain x.beside) (λ d. refl) refl refl (ap state.regain K.holds.beside) (regular_more ModemReturned past tt tt tt K.fine) K

  pub kept_modem_taken : (past : List Fact) (x : QmiState) (count : ℕ) → count ≤ length x.beside.traffic.waiting → Kept past x → Kept (ModemTaken count ∷ past) (with_traffic (record x.beside.traffic { waiting = drop count x.beside.traffic.waiting }) x)
  unfolding requests_in_use now is_away present dropped last_number ids kept_ids to_modem modem_taken_count view
  kept_modem_taken past x count within K =
      let queue : x.beside.traffic.waiting ≡ drop (modem_taken_count past) (to_modem wire past) = ap (λ (d : Traffic). d.waiting) (traffic_is s streams past x K) in
      let left : length x.beside.traffic.waiting ≡ length (to_modem wire past) - modem_taken_count past = ap length queue ∙ length-drop (modem_taken_count past) (to_modem wire past) in
      let before : modem_taken_count past ≤ length (to_modem wire past) = K.fine.was_taken in
      keeps_quiet s streams (ModemTaken count ∷ past) past x (record x.beside.traffic { waiting = drop count x.beside.traffic.waiting }) (λ d. refl) refl refl refl refl
      (ap (λ (d : Traffic). let e : Traffic = record d { waiting = drop count d.waiting } in e) (traffic_is s streams past x K) ∙ sym (traffic_taken past count)) (regular_more (ModemTaken count) past tt tt (omega arith) K.fine) K
