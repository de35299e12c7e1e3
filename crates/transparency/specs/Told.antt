-- What the calls that name a peer tell of what it says.
use Rattle.std.proofs.Common.{◌≡◌, ℕ, List, ap}
use Rattle.kit_bytes.specs.declared.kind.Kind.{Kind}
use Rattle.link_io.specs.Calls.{Call}
use Rattle.link_session.specs.Peer.{Peer}
use Rattle.modem_profile.specs.Profile.{Profile}
use Rattle.proxy_history.specs.Streams.{Framing}
use Rattle.lone_client.specs.Relay.{Answering, through}
use Rattle.transparency.specs.Naming.{named_profile, named_proxy}
use Rattle.transparency.specs.Named.{profiles_named, proxies_named}
use Rattle.transparency.specs.Peers.{at_modem, cast_of}

pub at_modem_named : (size : Framing) (answering : Profile → Answering) (p q : Profile) (calls more : List Call) → named_profile p calls ≡ named_profile q more
    → (at_modem size (answering p) ≡ at_modem size (answering q)) × (calls ≡ more)
at_modem_named size answering p q calls more is = let told = profiles_named p q calls more is in (ap (λ (r : Profile). at_modem size (answering r)) told.0, told.1)

abbrev peer_of : Kind → Framing → (Profile → Answering) → Profile → List ℕ → Peer
peer_of kind size answering profile device = through (cast_of kind device size (answering profile))

pub through_named : (kind : Kind) (size : Framing) (answering : Profile → Answering) (p q : Profile) (device other : List ℕ) (calls more : List Call) → named_proxy p device calls ≡ named_proxy q other more
    → (through (cast_of kind device size (answering p)) ≡ through (cast_of kind other size (answering q))) × (calls ≡ more)
through_named kind size answering p q device other calls more is =
    let told = proxies_named p q device other calls more is in
    (λ i. peer_of kind size answering (told.0 i) (told.1 i), told.2)
