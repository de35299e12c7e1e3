-- What the clock and a loss make of the requests that wait.
use Rattle.std.proofs.Common.{◌≡◌, ℕ, Bool, true, false, ◌==◌, List, sym, subst}
use Rattle.proxy_history.specs.Facts.{Fact, Request}
use Rattle.proxy_history.specs.Requests.{pending, is_pending}
use Rattle.qmi_proxy.specs.Limits.{qmi_limits}
use Rattle.qmi_proxy.specs.Text.{qmi_wording, note}
use Rattle.qmi_proxy.specs.Regular.{Regular}
use Rattle.qmi_proxy.specs.Releases.{freed_if}
use Rattle.qmi_proxy.specs.FromModem.{refuse}
use Rattle.proxy_state.specs.Requests.{requests_in_use}
use Rattle.proxy_state.proofs.InUse.{pending_is, distinct_waiting}
use Rattle.proxy_state.proofs.Filters.{AreDistinct}
use Rattle.proxy_state.proofs.Expiring.{Shrinks}
use Rattle.proxy_state.proofs.Refusing.{refusal, shrinks_refused, refused_gone}
use Rattle.qmi_state.proofs.Matching.{are_different}

pub pending_distinct : (past : List Fact) → Regular past → AreDistinct (pending past)
pending_distinct past R = subst AreDistinct (sym (pending_is past)) (distinct_waiting (requests_in_use past) (are_different past R))

module _ (device : List ℕ) (flag : Bool) where
  abbrev pub act : Request → List Fact → List Fact
  act r past = refuse device (refusal flag r) r past

  shrinks_freed : (own : Bool) (r : Request) (earlier later : List Fact) → Shrinks earlier later → Shrinks earlier (freed_if own r later)
  unfolding pending
  shrinks_freed true r earlier later S = record { passes = S.passes; left = S.left }
  shrinks_freed false r earlier later S = S

  pub shrinks_act : (r : Request) (past : List Fact) → Shrinks past (act r past)
  shrinks_act r past = shrinks_freed (r.conn == 0) r past (note device (refusal flag r) past) (shrinks_refused qmi_limits (qmi_wording device) flag r past)

  gone_freed : (own : Bool) (r : Request) (past : List Fact) → is_pending r past ≡ false → is_pending r (freed_if own r past) ≡ false
  unfolding pending
  gone_freed true r past gone = gone
  gone_freed false r past gone = gone

  pub gone : (r : Request) (past : List Fact) → is_pending r (act r past) ≡ false
  gone r past = gone_freed (r.conn == 0) r (note device (refusal flag r) past) (refused_gone qmi_limits (qmi_wording device) flag r past)
