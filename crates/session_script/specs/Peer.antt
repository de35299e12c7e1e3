-- A script at a peer that answers: what is sent, and how it ends.
use Rattle.std.specs.Prelude.{◌≡◌, ℕ, List, [], Result, Err}
use Rattle.framing.specs.declared.framing.Size.{Size}
use Rattle.link_io.specs.Calls.{Call}
use Rattle.link_session.specs.declared.fault.SessionFault.{SessionFault}
use Rattle.link_session.specs.Marks.{Placed, bytes_in}
use Rattle.link_session.specs.Peer.{Peer, Talk, Finish, Keeps, LeadsTo, FinishesByPeer, ask_then, nothing_said, said, texts_in}
use Rattle.session_script.specs.Script.{Script, Ends, Asks, Performs}

abbrev pub played : {E : Type 0} → Peer → Script E → Talk → Finish (Result E SessionFault)
played peer (Ends end) talk = record { end = end; talk = talk }
played peer (Asks asked next) talk = ask_then peer asked talk (λ why. Err why) (λ before message talk. played peer (next before message) talk)

-- from the start of a session on
abbrev pub played_at : {E : Type 0} → Peer → Script E → Finish (Result E SessionFault)
played_at peer script = played peer script nothing_said

-- each request of a script has this framing
abbrev pub IsFramedBy : {E : Type 0} → (List ℕ → Size) → Script E → Type 0
IsFramedBy size (Ends end) = Unit {0}
IsFramedBy size (Asks asked next) = (asked.size ≡ size) × ((before : List Placed) (message : Placed) → IsFramedBy size (next before message))

-- over any link to a peer, a session by a script sends what it does at the peer, and ends so, however the link cuts the peer's bytes into pieces
abbrev pub ScriptsEndAsAtPeers : (E : Type 0) → Type 0
ScriptsEndAsAtPeers E =
    (peer : Peer) (size : List ℕ → Size) (script : Script E) (calls : List Call) (result : Result E SessionFault)
    → Keeps size → IsFramedBy size script → Performs script calls result → LeadsTo peer [] [] calls → FinishesByPeer (said peer [] (texts_in calls)) (bytes_in calls) result
    → (result ≡ (played_at peer script).end) × (texts_in calls ≡ (played_at peer script).talk.texts)
