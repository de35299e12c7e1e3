-- A command that is run twice: what it prints is the same.
use Rattle.std.proofs.Common.{◌≡◌, ℕ, false, Option, subst, ap}
use Rattle.std.specs.Prelude.{Result, Ok, Err}
use Rattle.qmux_frame.specs.Head.{is_framed, tlvs_in}
use Rattle.link_session.specs.declared.fault.SessionFault.{SessionFault}
use Rattle.qmi_services.specs.declared.answers.QmiAnswer.{QmiAnswer}
use Rattle.qmi_services.specs.declared.answers.QmiEnd.{QmiEnd}
use Rattle.device_core.specs.declared.plan.QmiPlan.{QmiPlan}
use Rattle.device_core.specs.Peer as qmi
use Rattle.tunnel_session.specs.declared.ends.TunnelEnd.{TunnelEnd}
use Rattle.tunnel_session.specs.Peer.{LastWord, Unanswered, OfConfiguration, OfOpen, NoAnswer, OfAnswer, EndsWith}
use Rattle.modem_profile.specs.Profile.{Profile}
use Rattle.modem_profile.specs.Limits.{IsWithin}
use Rattle.relays.specs.QmiRuns.{direct_run}
use Rattle.relays.proofs.QmiPrinted.{words_print}
use Rattle.relays.specs.TunnelLaw.{Alike, as_carried}
use Rattle.relays.specs.TunnelRuns.{tunnel_run}
use Rattle.relays.proofs.TunnelPrinted.{end_as, ends_as, ends_carried}
use Rattle.relays.proofs.TunnelSessions.{sessions_end_alike}
use Rattle.printed_ends.specs.Printed.{IsByPeer}
use Rattle.printed_ends.specs.declared.printed.Printed.{Printed}
use Rattle.printed_ends.proofs.Same.{prints_alike}
use Rattle.printed_ends.specs.Qmi as direct
use Rattle.transparency.specs.QmiTwice.{AreShort, IsTold}
use Rattle.printed_ends.specs.Carried.{IsOf, Prints}

-- a session ends the same whether its plan is proxied or not, if it ends with the same word
ends_unproxied : (plan : QmiPlan) (end : Result TunnelEnd SessionFault) (word : LastWord) → EndsWith end word (record plan { proxied = false }) → EndsWith end word plan
ends_unproxied plan end (Unanswered why) ends = ends
ends_unproxied plan end (OfConfiguration before message) ends = ends
ends_unproxied plan end (OfOpen number message) ends = ends
ends_unproxied plan end (NoAnswer came) ends = ends
ends_unproxied plan end (OfAnswer request kept message) ends = ends

pub unproxied : (plan : QmiPlan) (word : LastWord) (printed : Printed) → Prints (record plan { proxied = false }) word printed → Prints plan word printed
unproxied plan word printed p = record { end = p.end; ends = ends_unproxied plan p.end word p.ends; by_peer = p.by_peer; printed_is = p.printed_is }

-- what a carried session ends with that ends as one at the modem itself is printed as that
printed_as : (end : Result QmiEnd SessionFault) (printed : Printed) → IsByPeer (as_carried end) → IsOf (as_carried end) printed → IsByPeer end × direct.IsOf end printed
printed_as (Ok end) printed by_peer is = (by_peer, is)
printed_as (Err why) printed by_peer is = (by_peer, is)

-- with the answer to a request it ends as at the modem itself
as_direct : (plan : QmiPlan) (body : _) (kept : Option (ℕ × ℕ)) (message : _) (printed : Printed) → Prints plan (OfAnswer body kept message) printed → direct.Prints (qmi.OfAnswer body kept message) printed
as_direct plan body kept message printed p =
    let read : Result QmiAnswer SessionFault = p.ends.0 in
    let is : p.end ≡ as_carried (end_as kept read) = ends_carried kept read p.end p.ends.2 in
    let so = printed_as (end_as kept read) printed (subst IsByPeer is p.by_peer) (subst (λ (e : Result TunnelEnd SessionFault). IsOf e printed) is p.printed_is) in
    record { end = end_as kept read; ends = (read, p.ends.1, ends_as kept read); by_peer = so.0; printed_is = so.1 }

words_same : (plan : QmiPlan) (word : qmi.LastWord) (other : LastWord) (printed carried : Printed) → Alike word other → direct.Prints word printed → Prints plan other carried → printed ≡ carried
words_same plan (qmi.OfAnswer body kept a) (OfAnswer other kept' b) printed carried (is_body, is_kept, same) prints prints' =
    prints_alike (λ a b same. same) (qmi.OfAnswer body kept a) (qmi.OfAnswer other kept' b) printed carried
    (λ x y. words_print (qmi.OfAnswer body kept a) (qmi.OfAnswer other kept' b) x y (is_body, is_kept, record { framed = ap is_framed same; tlvs = ap tlvs_in same }))
    prints (as_direct plan other kept' b carried prints')
words_same plan word other printed carried alike prints prints' = absurd alike

pub same_printed : (profile : Profile) (plan : QmiPlan) (printed carried : Printed) → IsWithin profile → AreShort plan → IsTold profile plan
    → direct.Prints (direct_run profile plan).end printed → Prints plan (tunnel_run profile plan).end carried → printed ≡ carried
same_printed profile plan printed carried within short told =
    words_same plan (direct_run profile plan).end (tunnel_run profile plan).end printed carried
    (sessions_end_alike profile plan within told.sound (record { command = told.command; inputs = short.inputs; device = short.device }))
