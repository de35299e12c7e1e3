-- The summary of a rig's run for MBIM. Lists of facts and of events have the newest first.
use Rattle.std.specs.Prelude.{ℕ, Bool, true, false, not, ◌==◌, List}
use Rattle.mbim_frame.specs.declared.status.TheConstants.{SUCCESS}
use Rattle.proxy_history.specs.Events.{Event}
use Rattle.proxy_history.specs.Facts.{Fact, Verdict, Own, Share, Foreign, Away, Full, Forward, Ready, Waits}
use Rattle.mbim_proxy.specs.Setup.{Setup}
use Rattle.mbim_proxy.specs.Known.{Known}
use Rattle.mbim_proxy.specs.Step.{known_now}
use Rattle.mbim_proxy.specs.OwnReplies.{OwnReply, Silent, Wrong, NotOpened, Closes, Refuses, Configures, Subscribes, own_reply}
use Rattle.mbim_proxy.specs.Clients as clients
use Rattle.mbim_proxy.specs.History.{mbim_protocol}
use Rattle.mbim_solo.specs.Solo.{mbim_alone}
use Rattle.rig_runs.specs.Counts as rig
use Rattle.rig_runs.specs.Counts.{Summary}

-- ---- refusals ----

-- an error, or a status other than that of success
abbrev pub tells_refusal : OwnReply → Bool
tells_refusal Silent = false
tells_refusal (Wrong code) = true
tells_refusal (NotOpened status) = not (status == SUCCESS)
tells_refusal Closes = false
tells_refusal (Refuses command status) = not (status == SUCCESS)
tells_refusal (Configures command) = false
tells_refusal (Subscribes command list) = false

-- a verdict whose reply tells so; nothing comes to a client of a verdict that MBIM hasn't
abbrev pub is_refusal : Setup → Known → List ℕ → Verdict → Bool
is_refusal s known m Own = tells_refusal (own_reply s known m)
is_refusal s known m Foreign = false
is_refusal s known m Away = true
is_refusal s known m Share = true
is_refusal s known m Full = true
is_refusal s known m Forward = false
is_refusal s known m Ready = false
is_refusal s known m Waits = false

abbrev pub refuses : Setup → rig.Refusal
refuses s c m verdict past = is_refusal s (known_now s c past) m verdict

abbrev pub refused : Setup → List Fact → ℕ
refused s facts = rig.refused (refuses s) facts

-- a command that would go to the modem, of a client of which as many wait as may
abbrev pub passes_share : Setup → rig.Passing
passes_share s c m past = clients.passes_share s (known_now s c past) c m past

abbrev pub AreForShares : Setup → List Fact → Type 0
AreForShares s facts = rig.AreForShares (refuses s) (passes_share s) facts

-- ---- the summary ----

abbrev pub counted : Setup → (clients : ℕ) → List Event → List ℕ
counted s clients events = rig.counted (mbim_protocol s) clients events

abbrev pub equal : Setup → (clients : ℕ) → List Event → List ℕ
equal s clients events = rig.equal (mbim_protocol s) (mbim_alone s) clients events

abbrev pub summary : Setup → (clients turns : ℕ) → List Event → Summary
summary s clients turns events = rig.summary (mbim_protocol s) (mbim_alone s) (refuses s) clients turns events
