-- The summary of a rig's run for QMI. Lists of facts and of events have the newest first.
use Rattle.std.specs.Prelude.{ℕ, Bool, true, false, not, ◌&&◌, ◌==◌, List}
use Rattle.proxy_history.specs.Events.{Event}
use Rattle.proxy_history.specs.Facts.{Fact, Verdict, Own, Share, Foreign, Away, Full, Forward, Ready, Waits}
use Rattle.qmi_proxy.specs.Setup.{Setup}
use Rattle.qmi_proxy.specs.History.{qmi_protocol}
use Rattle.proxy_history.specs.Requests.{has_share}
use Rattle.qmi_proxy.specs.Limits.{share_limit}
use Rattle.qmi_proxy.specs.Spaces.{space_of}
use Rattle.qmi_proxy.specs.OwnReplies.{is_open, own_error, view_decides}
use Rattle.qmi_proxy.specs.Text.{view_of}
use Rattle.qmi_solo.specs.Solo.{qmi_alone}
use Rattle.rig_runs.specs.Counts as rig
pub use Rattle.rig_runs.specs.Counts.{count, is_forwarded, is_answered, is_expired, is_late, one_if, Summary, line, lines_of}

-- ---- refusals ----

-- a verdict whose reply tells an error; one of the client's own view goes by whether the client had opened the device
abbrev pub is_refusal : Setup → (opened : Bool) → List ℕ → Verdict → Bool
is_refusal s opened m Own = not (own_error s.device opened m == 0)
is_refusal s opened m Foreign = true
is_refusal s opened m Away = true
is_refusal s opened m Share = true
is_refusal s opened m Full = true
is_refusal s opened m Forward = false
is_refusal s opened m Ready = false
is_refusal s opened m Waits = false

abbrev pub refuses : Setup → rig.Refusal
refuses s c m verdict past = is_refusal s (is_open s.device (view_of c past)) m verdict

abbrev pub refused : Setup → List Fact → ℕ
refused s facts = rig.refused (refuses s) facts

-- the client's own view doesn't decide, and as many requests of the client wait in the message's space as may
abbrev pub passes_share : Setup → rig.Passing
passes_share s c m past = not (view_decides (is_open s.device (view_of c past)) m) && has_share share_limit c (space_of m) past

abbrev pub AreForShares : Setup → List Fact → Type 0
AreForShares s facts = rig.AreForShares (refuses s) (passes_share s) facts

-- ---- the summary ----

abbrev pub is_let_alone : Setup → List Fact → ℕ → Bool
is_let_alone s past c = rig.is_let_alone (qmi_protocol s) past c

abbrev pub gets_the_same : Setup → List Event → ℕ → Bool
gets_the_same s events c = rig.gets_the_same (qmi_protocol s) (qmi_alone s) events c

abbrev pub counted : Setup → (clients : ℕ) → List Event → List ℕ
counted s clients events = rig.counted (qmi_protocol s) clients events

abbrev pub equal : Setup → (clients : ℕ) → List Event → List ℕ
equal s clients events = rig.equal (qmi_protocol s) (qmi_alone s) clients events

abbrev pub summary : Setup → (clients turns : ℕ) → List Event → Summary
summary s clients turns events = rig.summary (qmi_protocol s) (qmi_alone s) (refuses s) clients turns events
