-- Why the serving of a proxy of several devices ends. Lists of calls and of events have the newest first. `until` says when the serving ends by itself.
use Rattle.std.specs.Prelude.{◌≡◌, ◌⊎◌, ℕ, zero, suc, ◌+◌, ◌≤◌, Bool, true, false, ◌&&◌, nat_le, if◌then◌else◌, List, [], ◌∷◌, ◌++◌, map, Option, Some, None}
use Rattle.std.specs.List.{AllByRecursion}
use Rattle.hub_io.specs.declared.settings.ServeEnd.{ServeEnd}
use Rattle.hub_io.specs.declared.settings.ServeEnd.TheVariants as end
use Rattle.hub_io.specs.declared.settings.Until.{Until}
use Rattle.proxy_serving.specs.Serving.{turns_in, IsNoEnd, is_nobody}
use Rattle.many_history.specs.Events.{ManyEvent, Now}
use Rattle.many_io.specs.Record.{ManyCall, Told, ToldStop, NextFailed, HungUp, events, calls_without_device}
use Rattle.many_serving.specs.Proxy.{ManyProxy}
use Rattle.many_serving.specs.Serving.{AllIsDone, AllIsOffered, Serves}

-- ---- it is over by itself ----

-- when the last connection went, 0 where none joined
unfoldable pub emptied_at : ManyProxy → List ManyEvent → ℕ
emptied_at p [] = 0
emptied_at p (event ∷ past) = if is_nobody (p.present past) then emptied_at p past else p.time (event ∷ past)

-- nobody has been there for so long
abbrev pub is_idle : ManyProxy → Option ℕ → List ManyEvent → Bool
is_idle p None past = false
is_idle p (Some limit) past = is_nobody (p.present past) && nat_le (emptied_at p past + limit) (p.time past)

-- the first so many devices are away
abbrev pub are_away : (ℕ → Bool) → ℕ → Bool
are_away away zero = true
are_away away (suc count) = away count && are_away away count

-- all devices are away, where their loss is to end the serving
abbrev pub is_lost : ManyProxy → Bool → List ManyEvent → Bool
is_lost p false past = false
is_lost p true past = are_away (λ d. p.is_away d past) p.devices

-- it is over since nobody has been there for long enough
abbrev pub IsEmptied : ManyProxy → Until → List ManyEvent → Type 0
IsEmptied p until past = is_idle p until.empty past ≡ true

-- it is over since all devices are lost
pub record IsLost (p : ManyProxy) (until : Until) (past : List ManyEvent) : Type 0 where
  pub awake : is_idle p until.empty past ≡ false
  pub lost : is_lost p until.lost past ≡ true

-- it isn't over for either reason
pub record IsGoingOn (p : ManyProxy) (until : Until) (past : List ManyEvent) : Type 0 where
  pub awake : is_idle p until.empty past ≡ false
  pub there : is_lost p until.lost past ≡ false

-- it wasn't whenever the clock was told
abbrev pub NeverOver : ManyProxy → Until → List ManyCall → Type 0
NeverOver p until [] = Unit {0}
NeverOver p until (Told (Now time) ∷ calls) = IsGoingOn p until (Now time ∷ events calls) × NeverOver p until calls
NeverOver p until (_ ∷ calls) = NeverOver p until calls

-- ---- why it ended ----

-- nothing has ended it: the hub didn't, nothing that ends it by itself was found at the clock, and the hub was asked at most so often
pub record GoesOn (p : ManyProxy) (until : Until) (turns : ℕ) (calls : List ManyCall) : Type 0 where
  pub serves : Serves p calls
  pub no_end : AllByRecursion IsNoEnd (calls_without_device calls)
  pub awake : NeverOver p until calls
  pub counted : turns_in (calls_without_device calls) ≤ turns

-- it went on until its last call, which was this one
pub record EndsWith (p : ManyProxy) (until : Until) (turns : ℕ) (last : ManyCall) (calls : List ManyCall) : Type 0 where
  pub earlier : List ManyCall
  pub whole : calls ≡ last ∷ earlier
  pub goes_on : GoesOn p until turns earlier
  pub serves : Serves p calls
  pub counted : turns_in (calls_without_device calls) ≤ turns

abbrev pub hanging_up : List ℕ → List ManyCall
hanging_up names = map (λ c. HungUp c) names

-- it went on until the clock was told and this held of the events so far; there were hang-ups after that, and no other calls
pub record EndsAtClock (Over : List ManyEvent → Type 0) (p : ManyProxy) (until : Until) (turns : ℕ) (calls : List ManyCall) : Type 0 where
  pub time : ℕ
  pub earlier : List ManyCall
  pub hung_up : List ℕ
  pub whole : calls ≡ hanging_up hung_up ++ Told (Now time) ∷ earlier
  pub over : Over (Now time ∷ events earlier)
  pub goes_on : GoesOn p until turns earlier
  pub serves : Serves p calls
  pub counted : turns_in (calls_without_device calls) ≤ turns

-- it went on until its last call, which told an event for which there was no memory; `lacks` says at which that may be
pub record EndsEarly (lacks : ManyEvent → Type 0) (p : ManyProxy) (until : Until) (turns : ℕ) (calls : List ManyCall) : Type 0 where
  pub event : ManyEvent
  pub lacking : lacks event
  pub earlier : List ManyCall
  pub whole : calls ≡ Told event ∷ earlier
  pub goes_on : GoesOn p until turns earlier
  pub done : AllIsDone p earlier
  pub counted : turns_in (calls_without_device calls) ≤ turns

-- memory ran out before any call, or at that one
abbrev pub RanOut : (ManyEvent → Type 0) → ManyProxy → Until → ℕ → List ManyCall → Type 0
RanOut lacks p until turns calls = (calls ≡ []) ⊎ EndsEarly lacks p until turns calls

-- all turns were taken, and all that waits was offered
pub record EndsSpent (p : ManyProxy) (until : Until) (turns : ℕ) (calls : List ManyCall) : Type 0 where
  pub goes_on : GoesOn p until turns calls
  pub spent : turns_in (calls_without_device calls) ≡ turns
  pub offered : AllIsOffered p calls

-- why the serving ended; `lacks` says at which events memory may be lacking
abbrev pub EndsFor : (ManyEvent → Type 0) → ManyProxy → Until → ℕ → ServeEnd → List ManyCall → Type 0
EndsFor lacks p until turns end.Stopped calls = EndsWith p until turns ToldStop calls
EndsFor lacks p until turns end.HubFault calls = EndsWith p until turns NextFailed calls
EndsFor lacks p until turns end.TurnsSpent calls = EndsSpent p until turns calls
EndsFor lacks p until turns end.Empty calls = EndsAtClock (IsEmptied p until) p until turns calls
EndsFor lacks p until turns end.Lost calls = EndsAtClock (IsLost p until) p until turns calls
EndsFor lacks p until turns end.OutOfMemory calls = RanOut lacks p until turns calls
