-- What a serving promises, and why it ends. Lists of calls and of events have the newest first. `until` says when the serving ends by itself.
use Rattle.std.specs.Prelude.{◌≡◌, ◌⊎◌, ℕ, ◌≤◌, [], ◌∷◌, ◌++◌, true, Option, List}
use Rattle.std.specs.List.{AllByRecursion}
use Rattle.proxy_history.specs.Events.{Event, Now}
use Rattle.hub_io.specs.Record.{Call, ToldStop, NextFailed, Told, events}
use Rattle.hub_io.specs.declared.settings.ServeEnd.{ServeEnd}
use Rattle.hub_io.specs.declared.settings.ServeEnd.TheVariants as end
use Rattle.hub_io.specs.declared.settings.Until.{Until}
use Rattle.proxy_history.specs.Proxy.{Proxy}
use Rattle.proxy_serving.specs.Serving.{SendsWhatWaits, TakesTheFirst, AllIsDone, DoesAllBeforeEachNext, AllIsOffered, hang_ups, due_hang_ups, hanging_up, IsNoOpening, reopenings, due_reopenings, turns_in, IsNoEnd, NeverOver, IsEmptied, IsLost}

-- what was sent, taken, offered, hung up and opened again is what the definitions say, and the hub wasn't opened; all hang-ups are done, and the modem is opened no more often than it is to be
pub record Serves (p : Proxy) (calls : List Call) : Type 0 where
  pub sends : SendsWhatWaits p calls
  pub takes : TakesTheFirst p calls
  pub does_all : DoesAllBeforeEachNext p calls
  pub hangs_up : hang_ups calls ≡ due_hang_ups p calls
  pub reopens : reopenings calls ≤ due_reopenings p calls
  pub no_opening : AllByRecursion IsNoOpening calls

-- nothing has ended it either: the hub didn't, nothing that ends it by itself was found at the clock, and the hub was asked at most so often
pub record GoesOn (p : Proxy) (until : Until) (turns : ℕ) (calls : List Call) : Type 0 where
  pub serves : Serves p calls
  pub no_end : AllByRecursion IsNoEnd calls
  pub awake : NeverOver p until calls
  pub counted : turns_in calls ≤ turns

-- it went on until its last call, which was this one
pub record EndsWith (p : Proxy) (until : Until) (turns : ℕ) (last : Call) (calls : List Call) : Type 0 where
  pub earlier : List Call
  pub whole : calls ≡ last ∷ earlier
  pub goes_on : GoesOn p until turns earlier
  pub serves : Serves p calls
  pub counted : turns_in calls ≤ turns

-- it went on until the clock was told and this held of the events so far; there were hang-ups after that, and no other calls
pub record EndsAtClock (Over : List Event → Type 0) (p : Proxy) (until : Until) (turns : ℕ) (calls : List Call) : Type 0 where
  pub time : ℕ
  pub earlier : List Call
  pub hung_up : List ℕ
  pub whole : calls ≡ hanging_up hung_up ++ Told (Now time) ∷ earlier
  pub over : Over (Now time ∷ events earlier)
  pub goes_on : GoesOn p until turns earlier
  pub serves : Serves p calls
  pub counted : turns_in calls ≤ turns

-- it went on until its last call, which told an event for which there was no memory; `lacks` says at which that may be
pub record EndsEarly (lacks : Event → Type 0) (p : Proxy) (until : Until) (turns : ℕ) (calls : List Call) : Type 0 where
  pub event : Event
  pub lacking : lacks event
  pub earlier : List Call
  pub whole : calls ≡ Told event ∷ earlier
  pub goes_on : GoesOn p until turns earlier
  pub done : AllIsDone p earlier
  pub counted : turns_in calls ≤ turns

-- memory ran out before any call, or at that one
abbrev pub RanOut : (Event → Type 0) → Proxy → Until → ℕ → List Call → Type 0
RanOut lacks p until turns calls = (calls ≡ []) ⊎ EndsEarly lacks p until turns calls

-- all turns were taken, and all that waits was offered
pub record EndsSpent (p : Proxy) (until : Until) (turns : ℕ) (calls : List Call) : Type 0 where
  pub goes_on : GoesOn p until turns calls
  pub spent : turns_in calls ≡ turns
  pub offered : AllIsOffered p calls

-- why the serving ended; `lacks` says at which events memory may be lacking
abbrev pub EndsFor : (Event → Type 0) → Proxy → Until → ℕ → ServeEnd → List Call → Type 0
EndsFor lacks p until turns end.Stopped calls = EndsWith p until turns ToldStop calls
EndsFor lacks p until turns end.HubFault calls = EndsWith p until turns NextFailed calls
EndsFor lacks p until turns end.TurnsSpent calls = EndsSpent p until turns calls
EndsFor lacks p until turns end.Empty calls = EndsAtClock (IsEmptied p until) p until turns calls
EndsFor lacks p until turns end.Lost calls = EndsAtClock (IsLost p until) p until turns calls
EndsFor lacks p until turns end.OutOfMemory calls = RanOut lacks p until turns calls

-- the same of a proxy that takes memory for no event: none runs out once there was a call
abbrev pub EndsSo : Proxy → Until → ℕ → ServeEnd → List Call → Type 0
EndsSo p until turns end.OutOfMemory calls = calls ≡ []
EndsSo p until turns why calls = EndsFor (λ event. ⊥) p until turns why calls
