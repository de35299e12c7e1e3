-- Who waits for nothing is refused nothing, and time frees no number.
use Rattle.std.proofs.Common.{◌≡◌, ◌≢◌, ℕ, max, Bool, true, false, ◌&&◌, ◌==◌, nat_le, is_some, if◌then◌else◌, List, [], ◌∷◌, refl, ap, ◌∙◌, Option}
use Rattle.std.specs.List.{AllByRecursion}
use Rattle.std.proofs.lemmas.Bool.{eqb-true, false_from_ne_true}
use Rattle.std.proofs.lemmas.List.Elements.{recursion_from_All}
use Rattle.kit_bytes.proofs.Lists.{all_filter}
use Rattle.mbim_frame.specs.declared.status.TheConstants.{FAILURE}
use Rattle.proxy_history.specs.Items.{ModemIsLost, ClockShows}
use Rattle.proxy_history.specs.Facts.{Fact, Request, Expired, Aborted, OpeningEnded, TimeIs}
use Rattle.proxy_history.specs.Connections.{contains, present, is_present}
use Rattle.proxy_history.specs.Requests.{in_use, pending}
use Rattle.proxy_history.specs.Modem.{now}
use Rattle.proxy_history.specs.Unanswered.{due, abort_all}
use Rattle.proxy_history.specs.View.{Entry, Refused, NoAnswer, OpenedWith, Shut, entry_if, view}
use Rattle.proxy_history.specs.Rendering.{render}
use Rattle.proxy_history.specs.Wording.{text_behind}
use Rattle.proxy_history.specs.History as proxy
use Rattle.proxy_history.proofs.Noted.{noted_view, noted_in_use, kept_by_each}
use Rattle.mbim_proxy.specs.Setup.{Setup}
use Rattle.mbim_proxy.specs.Step.{view_of, known_from}
use Rattle.mbim_proxy.specs.Text.{mbim_wording, note}
use Rattle.mbim_proxy.specs.ModemStates.{is_own_open}
use Rattle.mbim_proxy.specs.Lists.{waiting}
use Rattle.mbim_proxy.specs.FromModem.{end_opening, refuse, in_order}
use Rattle.mbim_proxy.specs.History.{mbim_protocol}
use Rattle.mbim_proxy.proofs.Waiting.{waits_is}
use Rattle.mbim_isolation.specs.Laws.{bytes_for, IsIdle}
use Rattle.mbim_isolation.proofs.Openings.{opened_view}

-- ---- who waits for nothing ----

module _ (s : Setup) (c : ℕ) (past : List Fact) (idle : IsIdle s c past) where
  abbrev IsSame : List Fact → Type 0
  IsSame after = view_of c after ≡ view_of c past

  and_none : (b : Bool) → (b && false) ≡ false
  and_none true = refl
  and_none false = refl

  -- it isn't among those who wait for the opening
  not_waiting : (after : List Fact) → IsSame after → contains c (waiting s after) ≡ false
  not_waiting after same =
      waits_is s c after
      ∙ ap (λ (entries : List Entry). is_present c after && is_some (known_from s entries).waits) same
      ∙ ap (λ (o : Option ℕ). is_present c after && is_some o) idle.opening
      ∙ and_none (is_present c after)

  ended_same : (b : Bool) (after : List Fact) → IsSame after → IsSame (if b then end_opening s FAILURE after else after)
  ended_same true after same = opened_view s c FAILURE after ∙ ap (λ (b : Bool). entry_if b (OpenedWith FAILURE) (view_of c after)) (not_waiting after same) ∙ same
  ended_same false after same = same

  other : (r : Request) → r.conn ≢ c → (r.conn == c) ≡ false
  other r differs = false_from_ne_true (r.conn == c) (λ e. differs (eqb-true r.conn c e))

  expired_same : (r : Request) (before : List Fact) → r.conn ≢ c → IsSame before → IsSame (refuse s (Expired r) r before)
  unfolding view
  expired_same r before differs same =
      ended_same (is_own_open r) (note s (Expired r) before)
      (noted_view s.limits (mbim_wording s) c (Expired r) before ∙ ap (λ (b : Bool). entry_if b (Refused r.place NoAnswer) (view_of c before)) (other r differs) ∙ same)

  aborted_same : (r : Request) (before : List Fact) → r.conn ≢ c → IsSame before → IsSame (refuse s (Aborted r) r before)
  unfolding view
  aborted_same r before differs same =
      ended_same (is_own_open r) (note s (Aborted r) before)
      (noted_view s.limits (mbim_wording s) c (Aborted r) before ∙ ap (λ (b : Bool). entry_if b (Refused r.place NoAnswer) (view_of c before)) (other r differs) ∙ same)

  waiting_others : AllByRecursion (λ r. r.conn ≢ c) (pending past)
  waiting_others = recursion_from_All (λ (r : Request). r.conn ≢ c) (pending past) idle.commands

  pub ticks_same : (time : ℕ) → bytes_for s c (proxy.add (mbim_protocol s) (ClockShows time) past) ≡ bytes_for s c past
  unfolding view
  ticks_same time =
      ap (render s.limits.outbox (text_behind (mbim_wording s)))
      (kept_by_each IsSame (λ r. r.conn ≢ c) (λ r before. refuse s (Expired r) r before) expired_same (due (max time (now past)) (pending past)) (TimeIs (max time (now past)) ∷ past)
      (all_filter (λ r. r.conn ≢ c) (λ r. nat_le r.deadline (max time (now past))) (pending past) waiting_others) refl)

  aborts_same : IsSame (abort_all (refuse s) in_order past)
  aborts_same = kept_by_each IsSame (λ r. r.conn ≢ c) (λ r before. refuse s (Aborted r) r before) aborted_same (pending past) past waiting_others refl

  -- a loss closes its session
  shut_same : (b : Bool) (entries : List Entry) → render s.limits.outbox (text_behind (mbim_wording s)) (entry_if b Shut entries) ≡ render s.limits.outbox (text_behind (mbim_wording s)) entries
  unfolding render
  shut_same true entries = refl
  shut_same false entries = refl

  pub lost_same : bytes_for s c (proxy.add (mbim_protocol s) ModemIsLost past) ≡ bytes_for s c past
  unfolding view
  lost_same =
      shut_same (contains c (present (abort_all (refuse s) in_order past))) (view_of c (abort_all (refuse s) in_order past))
      ∙ ap (render s.limits.outbox (text_behind (mbim_wording s))) aborts_same

-- ---- numbers ----

module _ (s : Setup) (past : List Fact) where
  abbrev IsKept : List Fact → Type 0
  IsKept after = in_use after ≡ in_use past

  expired_keeps : (r : Request) (before : List Fact) → Unit {0} → IsKept before → IsKept (refuse s (Expired r) r before)
  unfolding in_use
  expired_keeps r before any kept =
      elim (is_own_open r) as (λ b. IsKept (let after : List Fact = note s (Expired r) before in if b then end_opening s FAILURE after else after)) [
        | true ↦ noted_in_use s.limits (mbim_wording s) (OpeningEnded FAILURE (waiting s (note s (Expired r) before))) (note s (Expired r) before) ∙ noted_in_use s.limits (mbim_wording s) (Expired r) before ∙ kept
        | false ↦ noted_in_use s.limits (mbim_wording s) (Expired r) before ∙ kept
      ]

  any_of : (requests : List Request) → AllByRecursion (λ r. Unit {0}) requests
  any_of [] = tt
  any_of (r ∷ requests) = (tt, any_of requests)

  pub time_frees_no_number : (time : ℕ) → IsKept (proxy.add (mbim_protocol s) (ClockShows time) past)
  unfolding in_use
  time_frees_no_number time =
      kept_by_each IsKept (λ r. Unit {0}) (λ r before. refuse s (Expired r) r before) expired_keeps (due (max time (now past)) (pending past)) (TimeIs (max time (now past)) ∷ past) (any_of _) refl
