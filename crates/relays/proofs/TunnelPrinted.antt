-- What a tool prints whose messages are carried by a fresh simulated modem.
use Rattle.std.proofs.Common.{◌≡◌, ℕ, Option, refl, ap}
use Rattle.std.specs.Prelude.{Result, Ok, Err}
use Rattle.qmux_frame.specs.Head.{is_framed, tlvs_in}
use Rattle.link_session.specs.declared.fault.SessionFault.{SessionFault}
use Rattle.qmi_services.specs.declared.answers.QmiAnswer.{QmiAnswer}
use Rattle.qmi_services.specs.declared.answers.QmiEnd.{QmiEnd}
use Rattle.device_core.specs.declared.plan.QmiPlan.{QmiPlan}
use Rattle.device_core.specs.Session.{end_with}
use Rattle.device_core.specs.Peer as qmi
use Rattle.tunnel_session.specs.declared.ends.TunnelEnd.{TunnelEnd}
use Rattle.tunnel_session.specs.Peer.{LastWord, OfAnswer, EndsAs, EndsWith}
use Rattle.relays.specs.QmiRuns.{direct_run}
use Rattle.relays.proofs.QmiPrinted.{words_print}
use Rattle.relays.specs.TunnelLaw.{Alike, PrintsTheSame, ToolsPrintTheSame, as_carried}
use Rattle.relays.specs.TunnelRuns.{tunnel_run}
use Rattle.relays.proofs.TunnelSessions.{sessions_end_alike}

-- what a session at the modem itself ends with by reading the answer so
abbrev pub end_as : Option (ℕ × ℕ) → Result QmiAnswer SessionFault → Result QmiEnd SessionFault
end_as kept (Ok answer) = end_with answer kept
end_as kept (Err why) = Err why

pub ends_as : (kept : Option (ℕ × ℕ)) (read : Result QmiAnswer SessionFault) → qmi.EndsAs read kept (end_as kept read)
ends_as kept (Ok answer) = refl
ends_as kept (Err why) = refl

pub ends_carried : (kept : Option (ℕ × ℕ)) (read : Result QmiAnswer SessionFault) (carried : Result TunnelEnd SessionFault) → EndsAs read kept carried → carried ≡ as_carried (end_as kept read)
ends_carried kept (Ok answer) carried ends = ends
ends_carried kept (Err why) carried ends = ends

words_same : (plan : QmiPlan) (word : qmi.LastWord) (other : LastWord) (direct : Result QmiEnd SessionFault) (carried : Result TunnelEnd SessionFault) → Alike word other → qmi.EndsWith direct word → EndsWith carried other plan → PrintsTheSame direct carried
words_same plan (qmi.OfAnswer body kept a) (OfAnswer other kept' b) direct carried (is_body, is_kept, same) ends (read, reads, ends_so) = (
  end_as kept' read,
  ends_carried kept' read carried ends_so,
  words_print (qmi.OfAnswer body kept a) (qmi.OfAnswer other kept' b) direct (end_as kept' read) (is_body, is_kept, record { framed = ap is_framed same; tlvs = ap tlvs_in same }) ends (read, reads, ends_as kept' read),
)
words_same plan word other direct carried alike ends ends' = absurd alike

pub tools_print_the_same : ToolsPrintTheSame
tools_print_the_same profile plan within sound is direct carried ends ends' = words_same plan (direct_run profile plan).end (tunnel_run profile plan).end direct carried (sessions_end_alike profile plan within sound is) ends ends'
