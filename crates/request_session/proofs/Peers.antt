-- Over a link to a peer a session ends as at the peer.
use Rattle.std.proofs.Common.{ℕ, ◌==◌, Option, Some, None, refl}
use Rattle.qmux_frame.specs.Frame.{size_of}
use Rattle.qmux_frame.specs.Framing.{size_of-kept}
use Rattle.qmi_requests.specs.declared.QmiRequest.{QmiRequest}
use Rattle.link_session.specs.Marks.{Placed}
use Rattle.session_script.specs.Script.{Script}
use Rattle.session_script.specs.Peer.{IsFramedBy}
use Rattle.session_script.proofs.Peers.{framed-behind, framed-if, scripts_end_as_at_peers}
use Rattle.device_core.specs.Verdict.{reads, succeeds}
use Rattle.request_session.specs.declared.plan.RequestPlan.{RequestPlan}
use Rattle.request_session.specs.declared.client.Client.{Client}
use Rattle.request_session.specs.declared.client.Access.{Access}
use Rattle.request_session.specs.declared.client.Access.TheVariants as access
use Rattle.request_session.specs.Session.{ask, ask_as, given_or_allocated, leave, on_success, reach, request, session, take_client}
use Rattle.request_session.specs.Peer.{SessionsEndAsAtPeers}

framed_success : (body : QmiRequest) (message : Placed) (next : Script Access) → IsFramedBy size_of next → IsFramedBy size_of (on_success body message next)
framed_success body message next is = framed-if size_of next _ (succeeds body message.bytes) is (framed-if size_of _ _ (reads body message.bytes) tt tt)

module _ (plan : RequestPlan) where
  framed_given : (cid : Option ℕ) (number : ℕ) → IsFramedBy size_of (given_or_allocated plan cid number)
  framed_given (Some id) number = tt
  framed_given None number = (refl, λ before message. framed_success _ message _ tt)

  framed_take : (number : ℕ) → IsFramedBy size_of (take_client plan number)
  framed_take number = framed-if size_of _ _ (plan.request.service == 0) tt (framed_given plan.cid number)

  framed_reach : IsFramedBy size_of (reach plan)
  framed_reach = framed-if size_of _ _ plan.proxied (refl, λ before message. framed_success _ message _ (framed_take 2)) (framed_take 1)

  framed_leave : (client : Client) → IsFramedBy size_of (leave plan client)
  framed_leave client = framed-if size_of _ _ (plan.request.service == 0) tt (framed-if size_of _ _ plan.keep tt (refl, λ before message. tt))

  framed_ask : (client : Client) → IsFramedBy size_of (ask plan client)
  framed_ask client = framed-behind size_of _ (λ answer. framed-behind size_of _ (λ kept. tt) (leave plan client) (framed_leave client)) (request plan client) (refl, λ before message. tt)

  framed_ask_as : (access : Access) → IsFramedBy size_of (ask_as plan access)
  framed_ask_as (access.Client client) = framed_ask client
  framed_ask_as (access.Refused error) = tt

  framed_session : IsFramedBy size_of (session plan)
  unfolding session
  framed_session = framed-behind size_of (ask_as plan) framed_ask_as (reach plan) framed_reach

pub sessions_end_as_at_peers : SessionsEndAsAtPeers
sessions_end_as_at_peers peer plan calls result performs leads ends = scripts_end_as_at_peers peer size_of (session plan) calls result size_of-kept (framed_session plan) performs leads ends
