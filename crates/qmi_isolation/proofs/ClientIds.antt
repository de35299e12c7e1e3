-- A client id that another client holds isn't granted, and isn't used.
use Rattle.std.proofs.Common.{◌≡◌, ◌≢◌, ℕ, ◌+◌, Bool, true, false, if◌then◌else◌, List, ◌∷◌, ◌++◌, refl, ap, subst}
use Rattle.proxy_history.specs.Facts.{Verdict, Own, Share, Foreign, Forward, Fact, Judged, Granted}
use Rattle.proxy_history.specs.Decision.{Decision, Replies}
use Rattle.proxy_history.specs.Connections.{message_count}
use Rattle.proxy_history.specs.ClientIds.{holder, is_other}
use Rattle.proxy_history.specs.Events.{Event}
use Rattle.proxy_history.specs.Sound.{IsSound}
use Rattle.qmi_proxy.specs.Limits.{qmi_limits, share_limit}
use Rattle.qmi_proxy.specs.History.{history}
use Rattle.qmi_proxy.proofs.Sound.{histories_are_sound}
use Rattle.qmi_isolation.proofs.Numbers.{sound_behind}
use Rattle.proxy_history.specs.Requests.{has_share}
use Rattle.qmi_proxy.specs.Spaces.{space_of}
use Rattle.qmi_proxy.specs.Setup.{Setup}
use Rattle.qmi_proxy.specs.OwnReplies.{is_open, view_decides}
use Rattle.qmi_proxy.specs.Text.{view_of, note}
use Rattle.qmi_proxy.specs.Clients.{holder_for, shared_decision, judge, hear_client}

pub ids_are_free_when_granted : (s : Setup) (events : List Event) (later past : List Fact) (c service cid : ℕ) → history s events ≡ later ++ Granted c service cid ∷ past → is_other c (holder service cid past) ≡ false
ids_are_free_when_granted s events later past c service cid whole =
    (sound_behind later (Granted c service cid ∷ past) (subst (IsSound qmi_limits) whole (histories_are_sound s events))).0.1

module _ (s : Setup) (c : ℕ) (m : List ℕ) (past : List Fact) where
  -- it isn't forwarded where its client is judged so
  abbrev IsJudgedAlone : List Fact → Type 0
  IsJudgedAlone after = (verdict : Verdict) × (verdict ≢ Forward) × (after ≡ note s.device (Judged c (message_count c past + 1) m verdict) past)

  by_own : (own share : Bool) → shared_decision s c m past ≡ Replies Foreign → IsJudgedAlone (judge s c m (if own then Replies Own else if share then Replies Share else shared_decision s c m past) past)
  by_own true share foreign = (Own, λ e. absurd (cc), refl)
  by_own false true foreign = (Share, λ e. absurd (cc), refl)
  by_own false false foreign = (Foreign, λ e. absurd (cc), ap (λ (decision : Decision). judge s c m decision past) foreign)

  is_foreign : (b : Bool) (other : Decision) → b ≡ true → (if b then Replies Foreign else other) ≡ Replies Foreign
  is_foreign true other e = refl
  is_foreign false other e = absurd (cc)

  pub held_ids_are_not_used : is_other c (holder_for m past) ≡ true → IsJudgedAlone (hear_client s c m past)
  held_ids_are_not_used other = by_own (view_decides (is_open s.device (view_of c past)) m) (has_share share_limit c (space_of m) past) (is_foreign (is_other c (holder_for m past)) _ other)
