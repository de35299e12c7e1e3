-- Over a link to a peer a session by a script ends as at the peer.
use Rattle.std.proofs.Common.{◌≡◌, if◌then◌else◌, inl, inr, ℕ, Bool, true, false, List, Result, Ok, Err, sym, subst}
use Rattle.framing.specs.declared.framing.Size.{Size}
use Rattle.link_io.specs.Calls.{Call}
use Rattle.link_session.specs.declared.fault.SessionFault.{SessionFault}
use Rattle.link_session.specs.Waiting.{Heard}
use Rattle.link_session.specs.Peer.{Peer, Talk, Keeps}
use Rattle.link_session.proofs.Peers.{AsAtPeer, AsAtPeer-no_memory, AsAtPeer-start, AsAtPeer-step, AsAtPeer-stops}
use Rattle.session_script.specs.Script.{Script, Ends, Asks, behind, Plays}
use Rattle.session_script.specs.Peer.{IsFramedBy, ScriptsEndAsAtPeers, played}

module _ {E : Type 0} (peer : Peer) (size : List ℕ → Size) (kept : Keeps size) (result : Result E SessionFault) (end : Heard) where
  as_at_peer : (script : Script E) (heard : Heard) (calls : List Call) (talk : Talk) → IsFramedBy size script → Plays script heard calls result end
      → AsAtPeer peer size (λ stop. result ≡ stop) talk heard calls result (played peer script talk)
  as_at_peer script heard calls talk framed (inl stops) = AsAtPeer-no_memory peer size stops
  as_at_peer (Ends stop) heard calls talk framed (inr (stops, same)) = AsAtPeer-stops peer size stops (λ is. is)
  as_at_peer (Asks asked next) heard calls talk framed (inr step) =
      subst (λ (s : List ℕ → Size). AsAtPeer peer s (λ stop. result ≡ stop) talk heard calls result (played peer (Asks asked next) talk)) framed.0
      (AsAtPeer-step peer (subst Keeps (sym framed.0) kept) (λ why. Err why) (λ before message talk. played peer (next before message) talk) step (λ why same. same)
      (λ before message later more talk plays.
      subst (λ (s : List ℕ → Size). AsAtPeer peer s (λ stop. result ≡ stop) talk later more result (played peer (next before message) talk)) (sym framed.0)
      (as_at_peer (next before message) later more talk (framed.1 before message) plays)))

pub scripts_end_as_at_peers : {E : Type 0} → ScriptsEndAsAtPeers E
scripts_end_as_at_peers peer size script calls result kept framed (later, plays) leads ends =
    AsAtPeer-start peer kept (as_at_peer peer size kept result later script _ calls _ framed plays) leads ends

-- ---- scripts whose requests have one framing ----

module _ (size : List ℕ → Size) where
  pub framed-behind : {A E : Type 0} (next : A → Script E) → ((end : A) → IsFramedBy size (next end)) → (script : Script A) → IsFramedBy size script → IsFramedBy size (behind next script)
  framed-behind next all (Ends (Ok end)) is = all end
  framed-behind next all (Ends (Err why)) is = tt
  framed-behind next all (Asks asked goes) is = (is.0, λ before message. framed-behind next all (goes before message) (is.1 before message))

  pub framed-if : {E : Type 0} (first second : Script E) (b : Bool) → IsFramedBy size first → IsFramedBy size second → IsFramedBy size (if b then first else second)
  framed-if first second true is other = is
  framed-if first second false is other = other
