-- What answers a tool that is alone, as a peer. Lists of texts have the oldest first.
use Rattle.std.specs.Prelude.{ℕ, List, [], reverse, Option, None}
use Rattle.std.specs.List.{concat}
use Rattle.framing.specs.Cutting.{cut}
use Rattle.kit_bytes.specs.declared.kind.Kind.{Kind}
use Rattle.link_session.specs.Peer.{Peer}
use Rattle.proxy_history.specs.Events.{Event}
use Rattle.proxy_history.specs.Proxy.{Proxy}
use Rattle.proxy_history.specs.Streams.{Framing}
use Rattle.core_bench.specs.Runs.{Run, proxy_for}
use Rattle.rig_runs.specs.Rig.{time_limit}
use Rattle.lone_client.specs.Relay.{Answering, Cast, asked_by, relayed, sent_for, to_newest}
use Rattle.transparency.specs.Relaying.{IsRelayed}

-- the modem itself
abbrev pub at_modem : Framing → Answering → Peer
at_modem size modem texts = to_newest (λ text before. concat (sent_for size modem (asked_by size before) (cut size text).messages)) (reverse texts)

-- ---- through a proxy ----

-- how a core is opened for a device
abbrev pub opened : Kind → (device : List ℕ) → Run
opened kind device = record { kind = kind; limits = record { time = time_limit; release = None }; device = device; events = [] }

-- a tool behind it, and the modem behind that
abbrev pub cast_of : Kind → (device : List ℕ) → Framing → Answering → Cast
cast_of kind device size modem = record { proxy = proxy_for kind (opened kind device).limits device; modem = modem; size = size }

-- these texts were relayed on a bench, in its newest run, and a modem was asked for them
pub record HasRelayed {B M : Type 0} (keeps : Proxy → List Event → B → Type 0) (tells : B → Option (List Run)) (asks : Answering → List (List ℕ) → M → Type 0)
    (cast : Cast) (opened : Run) (texts : List (List ℕ)) (bench : B) (sim : M) : Type 0 where
  pub earlier : List Run
  pub relayed_are : IsRelayed keeps tells asks cast opened earlier (relayed cast (reverse texts)) bench sim
