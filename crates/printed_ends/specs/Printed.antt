-- What a tool prints where its session ended so, and its exit status.
use Rattle.std.specs.Prelude.{◌≡◌, ℕ, List, [], Option, Some, None, Result, Ok, Err}
use Rattle.link_session.specs.declared.fault.SessionFault.{SessionFault}
use Rattle.link_session.specs.declared.fault.SessionFault.TheVariants as fault
use Rattle.printed_ends.specs.declared.printed.Printed.{Printed}

-- only a session that has an end of its own prints something
abbrev pub text_of : {E : Type 0} → (text : E → List ℕ) → Result E SessionFault → List ℕ
text_of text (Ok end) = text end
text_of text (Err why) = []

-- an end that refuses is status 1
abbrev pub status_by : Option ℕ → ℕ
status_by None = 0
status_by (Some error) = 1

abbrev pub fault_status : SessionFault → ℕ
fault_status fault.LinkFault = 3
fault_status fault.LinkEnd = 4
fault_status fault.TimedOut = 5
fault_status (fault.Broken place) = 6
fault_status fault.Flooded = 7
fault_status fault.OutOfMemory = 70

abbrev pub status_of : {E : Type 0} → (refusal : E → Option ℕ) → Result E SessionFault → ℕ
status_of refusal (Ok end) = status_by (refusal end)
status_of refusal (Err why) = fault_status why

abbrev pub IsOf : {E : Type 0} → (text : E → List ℕ) → (refusal : E → Option ℕ) → Result E SessionFault → Printed → Type 0
IsOf text refusal end printed = (printed.text ≡ text_of text end) × (printed.status ≡ status_of refusal end)

-- the peer did it, by what it said or by its silence, and no want of memory
abbrev pub IsByPeers : SessionFault → Type 0
IsByPeers fault.TimedOut = Unit {0}
IsByPeers (fault.Broken place) = Unit {0}
IsByPeers fault.Flooded = Unit {0}
IsByPeers _ = ⊥

abbrev pub IsByPeer : {E : Type 0} → Result E SessionFault → Type 0
IsByPeer (Ok end) = Unit {0}
IsByPeer (Err why) = IsByPeers why

-- it is printed by a session that ends as this says
pub record Prints {E W : Type 0} (text : E → List ℕ) (refusal : E → Option ℕ) (EndsWith : Result E SessionFault → W → Type 0) (word : W) (printed : Printed) : Type 0 where
  pub end : Result E SessionFault
  pub ends : EndsWith end word
  pub by_peer : IsByPeer end
  pub printed_is : IsOf text refusal end printed
