-- A session as a function of a peer that answers.
use Rattle.std.specs.Prelude.{◌≡◌, List, [], Result}
use Rattle.link_io.specs.Calls.{Call}
use Rattle.link_session.specs.declared.fault.SessionFault.{SessionFault}
use Rattle.link_session.specs.Marks.{bytes_in}
use Rattle.link_session.specs.Peer.{Peer, LeadsTo, FinishesByPeer, said, texts_in}
use Rattle.session_script.specs.Script.{Performs}
use Rattle.session_script.specs.Peer.{played_at}
use Rattle.request_session.specs.declared.plan.RequestPlan.{RequestPlan}
use Rattle.request_session.specs.declared.ends.RequestEnd.{RequestEnd}
use Rattle.request_session.specs.Session.{session}

-- over any link to a peer, a session sends what it does at the peer, and ends so, however the link cuts the peer's bytes into pieces
abbrev pub SessionsEndAsAtPeers : Type 0
SessionsEndAsAtPeers =
    (peer : Peer) (plan : RequestPlan) (calls : List Call) (result : Result RequestEnd SessionFault)
    → Performs (session plan) calls result → LeadsTo peer [] [] calls → FinishesByPeer (said peer [] (texts_in calls)) (bytes_in calls) result
    → (result ≡ (played_at peer (session plan)).end) × (texts_in calls ≡ (played_at peer (session plan)).talk.texts)
