-- What is said of two sessions of one plan, of whatever kind.
use Rattle.std.specs.Prelude.{List, reverse, Result, Ok, Err}
use Rattle.link_session.specs.declared.fault.SessionFault.{SessionFault}
use Rattle.link_session.specs.declared.fault.SessionFault.TheVariants as fault
use Rattle.link_session.specs.Peer.{Finish}
use Rattle.proxy_history.specs.Events.{Event}
use Rattle.lone_client.specs.Relay.{Cast, relayed}

-- what the proxy meets of a session that went so
abbrev pub met_in : {W : Type 0} → Cast → Finish W → List Event
met_in cast run = (relayed cast (reverse run.talk.texts)).events

-- two sessions come to the same, whose ends compare so: both end so, or an answer that doesn't read breaks both, each at its place; want of memory in one says nothing
abbrev pub ComeToTheSame : {E : Type 0} → (Same : E → E → Type 0) → Result E SessionFault → Result E SessionFault → Type 0
ComeToTheSame Same (Ok a) (Ok b) = Same a b
ComeToTheSame Same (Err fault.OutOfMemory) result = Unit {0}
ComeToTheSame Same result (Err fault.OutOfMemory) = Unit {0}
ComeToTheSame Same (Err (fault.Broken place)) (Err (fault.Broken place')) = Unit {0}
ComeToTheSame Same _ _ = ⊥
