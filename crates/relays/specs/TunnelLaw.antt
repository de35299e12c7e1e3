-- What a tool's command ends with and prints, at a simulated QMI modem itself and carried by a simulated MBIM modem.
use Rattle.std.specs.Prelude.{◌≡◌, Result, Ok, Err}
use Rattle.link_session.specs.declared.fault.SessionFault.{SessionFault}
use Rattle.qmi_services.specs.declared.answers.QmiEnd.{QmiEnd}
use Rattle.device_core.specs.Peer as qmi
use Rattle.tunnel_session.specs.declared.ends.TunnelEnd.{TunnelEnd}
use Rattle.tunnel_session.specs.declared.ends.TunnelEnd.TheVariants.{Qmi}
use Rattle.tunnel_session.specs.Peer.{LastWord, OfAnswer, EndsWith}
use Rattle.relays.specs.QmiLaw as relay
use Rattle.relays.specs.QmiLaw.{OfEach}
use Rattle.relays.specs.QmiRuns.{direct_run}
use Rattle.relays.specs.TunnelRuns.{tunnel_run}

-- both end with the answer to the same request, keep the same client id, and the answer is the same, byte for byte
abbrev pub Alike : qmi.LastWord → LastWord → Type 0
Alike (qmi.OfAnswer request kept message) (OfAnswer request' kept' message') = (request ≡ request') × (kept ≡ kept') × (message.bytes ≡ message'.bytes)
Alike _ _ = ⊥

-- the sessions end with the same answer
abbrev pub SessionsEndAlike : Type 0
SessionsEndAlike = OfEach (λ profile plan. Alike (direct_run profile plan).end (tunnel_run profile plan).end)

-- what a carried session ends with that ends as one at the QMI modem itself
abbrev pub as_carried : Result QmiEnd SessionFault → Result TunnelEnd SessionFault
as_carried (Ok end) = Ok (Qmi end)
as_carried (Err why) = Err why

-- the carried session ends as one at the QMI modem itself, and that one prints the same
abbrev pub PrintsTheSame : Result QmiEnd SessionFault → Result TunnelEnd SessionFault → Type 0
PrintsTheSame direct carried = (end : Result QmiEnd SessionFault) × (carried ≡ as_carried end) × relay.PrintsTheSame direct end

-- whatever the two sessions end with, it prints the same
abbrev pub ToolsPrintTheSame : Type 0
ToolsPrintTheSame =
    OfEach (λ profile plan.
    (direct : Result QmiEnd SessionFault) (carried : Result TunnelEnd SessionFault) → qmi.EndsWith direct (direct_run profile plan).end → EndsWith carried (tunnel_run profile plan).end plan → PrintsTheSame direct carried)
