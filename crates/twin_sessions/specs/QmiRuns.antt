-- The session of a plan twice: at a modem itself, and through a proxy where the tool is alone.
use Rattle.std.specs.Prelude.{◌≡◌, ℕ, true, false, List}
use Rattle.qmux_frame.specs.Head.{is_framed, tlvs_in}
use Rattle.link_session.specs.Peer.{Finish}
use Rattle.proxy_history.specs.Events.{Event}
use Rattle.device_core.specs.declared.plan.QmiPlan.{QmiPlan}
use Rattle.device_core.specs.Peer.{LastWord, OfAnswer, session_at}
use Rattle.lone_client.specs.Relay.{Cast, directly, through}
use Rattle.twin_sessions.specs.Twice.{met_in}

abbrev pub direct_run : Cast → QmiPlan → Finish LastWord
direct_run cast plan = session_at (directly cast) (record plan { proxied = false })

abbrev pub through_run : Cast → QmiPlan → Finish LastWord
through_run cast plan = session_at (through cast) (record plan { proxied = true })

-- what the proxy meets
abbrev pub met : Cast → QmiPlan → List Event
met cast plan = met_in cast (through_run cast plan)

-- a message reads as another one: with the same TLVs
pub record ReadsAs (a b : List ℕ) : Type 0 where
  pub framed : is_framed a ≡ is_framed b
  pub tlvs : tlvs_in a ≡ tlvs_in b

-- both end with the answer to the same request, keep the same client id, and the answers read alike
abbrev pub Alike : LastWord → LastWord → Type 0
Alike (OfAnswer request kept message) (OfAnswer request' kept' message') = (request ≡ request') × (kept ≡ kept') × ReadsAs message.bytes message'.bytes
Alike _ _ = ⊥
