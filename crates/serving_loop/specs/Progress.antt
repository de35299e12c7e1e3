-- What is known in the midst of serving. Lists of calls and of events have the newest first.
use Rattle.std.specs.Prelude.{Bool, true, false, if◌then◌else◌, ◌≡◌, ℕ, ◌+◌, ◌<◌, ◌≤◌, ◌∷◌, ◌++◌, Result, Ok, Err, Option, Some, None, List, [], length, reverse}
use Rattle.std.specs.List.{AllByRecursion}
use Rattle.std.specs.declared.alloc.AllocError.{AllocError}
use Rattle.proxy_history.specs.Coming.{piece_limit}
use Rattle.hub_io.specs.declared.settings.ServeEnd.{ServeEnd}
use Rattle.hub_io.specs.declared.settings.ServeEnd.TheVariants as end
use Rattle.hub_io.specs.declared.settings.Until.{Until}
use Rattle.proxy_serving.specs.Serving.{is_blocked, hang_ups, IsNoOpening, turns_in, IsNoEnd}
use Rattle.many_history.specs.Events.{ManyEvent, Joined, Piece, Left, ModemPiece, ModemGone, Now}
use Rattle.many_io.specs.Record.{ManyCall, Told, ToldRoom, ToldModemRoom, ToldStop, NextFailed, events, calls_without_device}
use Rattle.many_io.specs.Events.{event_of}
use Rattle.many_serving.specs.Proxy.{ManyProxy}
use Rattle.many_serving.specs.Serving.{SendsWhatWaits, TakesTheFirst, DoesAllBeforeEachNext, AllIsOffered, IsOffered, IsModemOffered, is_modem_blocked, due_hang_ups, reopenings, due_reopenings}
use Rattle.many_serving.specs.Ends.{emptied_at, NeverOver, IsEmptied, IsLost, hanging_up, RanOut, EndsWith, EndsAtClock, EndsFor}
use Rattle.serving_loop.specs.Face.{ManyFace, greatest_after}
use Rattle.serving_loop.specs.Cores.{Stands}
use Rattle.serving_loop.specs.declared.told_event.ToldEvent.{ToldEvent}
use Rattle.serving_loop.specs.declared.told_event.ToldEvent.TheVariants as next
use Rattle.serving_loop.specs.declared.server.Server.{Server}

-- ---- what the hub tells next ----

-- the call that told it
abbrev pub call_of : ToldEvent → ManyCall
call_of (next.Event event) = Told (event_of event)
call_of (next.Room conn) = ToldRoom conn
call_of (next.ModemRoom device) = ToldModemRoom device
call_of next.Stop = ToldStop

-- an event that a hub of so many devices may tell where it recorded names up to this one so far
abbrev pub MayBeTold : (devices known : ℕ) → ManyEvent → Type 0
MayBeTold devices known (Joined c) = known < c
MayBeTold devices known (Piece c bytes) = length bytes ≤ piece_limit
MayBeTold devices known (Left c) = Unit {0}
MayBeTold devices known (ModemPiece d bytes) = (d < devices) × (length bytes ≤ piece_limit)
MayBeTold devices known (ModemGone d) = d < devices
MayBeTold devices known (Now time) = Unit {0}
MayBeTold devices known _ = ⊥

-- it may be told, and the names told so far go up to this one afterwards
abbrev pub TellsEvent : (devices before : ℕ) → ToldEvent → ℕ → Type 0
TellsEvent devices before (next.Event event) after = MayBeTold devices before (event_of event) × (after ≡ greatest_after (event_of event) before)
TellsEvent devices before _ after = after ≡ before

-- ---- what an offering comes to ----

-- from the next place on as many are there as were behind this one
abbrev pub OneIsDone : (place next : ℕ) → ManyFace → ManyFace → Type 0
OneIsDone place next old new = length new.present + (place + 1) ≡ length old.present + next

-- whose modem is away stays away
pub record StayAway (old new : ManyFace) : Type 0 where
  pub stay : (d : ℕ) → d < old.devices → old.away d ≡ true → new.away d ≡ true

-- ---- what a turn comes to ----

abbrev pub AreHangUps : List ManyCall → Type 0
AreHangUps calls = (names : List ℕ) × (calls ≡ hanging_up names)

abbrev pub IsHubFault : Result (Option ServeEnd) AllocError → Type 0
IsHubFault (Ok (Some end.HubFault)) = Unit {0}
IsHubFault _ = ⊥

-- it ends for one of these reasons
abbrev pub EndsNow : ManyProxy → Until → ℕ → ServeEnd → List ManyCall → Type 0
EndsNow p until turns end.Stopped calls = EndsWith p until turns ToldStop calls
EndsNow p until turns end.HubFault calls = EndsWith p until turns NextFailed calls
EndsNow p until turns end.Empty calls = EndsAtClock (IsEmptied p until) p until turns calls
EndsNow p until turns end.Lost calls = EndsAtClock (IsLost p until) p until turns calls
EndsNow p until turns _ calls = ⊥

-- why the serving ends; for some events memory may be lacking
abbrev pub EndsServing : (ManyEvent → Type 0) → Result ServeEnd AllocError → ManyProxy → Until → ℕ → List ManyCall → Type 0
EndsServing lacks (Ok end) p until turns calls = EndsFor lacks p until turns end calls
EndsServing lacks (Err e) p until turns calls = RanOut lacks p until turns calls

-- each modem was opened again as often as it is to be
abbrev pub IsInTime : ManyProxy → List ManyCall → Type 0
IsInTime p calls = (d : ℕ) → d < p.devices → reopenings d calls ≡ due_reopenings p d calls

module _ {C : Type 0} (keeps : ManyProxy → List ManyEvent → C → Type 0) (face : C → ManyFace) where
  -- ---- how far a serving is ----

  -- the proxy stands for the events in the record, and all is done but the hang-ups that it is still to be asked for
  pub record IsServing (p : ManyProxy) (turns : ℕ) (server : Server C) (calls : List ManyCall) : Type 0 where
    pub stands : Stands keeps face p (events calls) server.core
    pub sends : SendsWhatWaits p calls
    pub takes : TakesTheFirst p calls
    pub does_all : DoesAllBeforeEachNext p calls
    pub hangs_up : reverse (face server.core).dropped ++ hang_ups (calls_without_device calls) ≡ due_hang_ups p calls
    pub reopens : (d : ℕ) → d < p.devices → reopenings d calls ≤ due_reopenings p d calls
    pub no_opening : AllByRecursion IsNoOpening (calls_without_device calls)
    pub no_end : AllByRecursion IsNoEnd (calls_without_device calls)
    pub counted : turns_in (calls_without_device calls) ≡ turns
    pub blocked : AllByRecursion (λ c. is_blocked c (calls_without_device calls) ≡ true) server.blocked
    pub modems : AllByRecursion (λ d. is_modem_blocked d calls ≡ true) server.modems
    pub emptied : server.emptied ≡ emptied_at p (events calls)

  -- and the first so many connections were offered what waits for them
  pub record HasOffered (p : ManyProxy) (until : Until) (turns count : ℕ) (server : Server C) (calls : List ManyCall) : Type 0 where
    pub serving : IsServing p turns server calls
    pub awake : NeverOver p until calls
    pub in_time : IsInTime p calls
    pub done : List ℕ
    pub todo : List ℕ
    pub whole : p.present (events calls) ≡ done ++ todo
    pub counted : length done ≡ count
    pub offered : AllByRecursion (IsOffered p calls) done

  -- the connection stands at a place in the order of joining, before which all were offered what waits for them
  pub record IsAt (p : ManyProxy) (until : Until) (turns count c : ℕ) (server : Server C) (calls : List ManyCall) : Type 0 where
    pub serving : IsServing p turns server calls
    pub awake : NeverOver p until calls
    pub in_time : IsInTime p calls
    pub done : List ℕ
    pub later : List ℕ
    pub whole : p.present (events calls) ≡ done ++ c ∷ later
    pub counted : length done ≡ count
    pub offered : AllByRecursion (IsOffered p calls) done

  -- all clients were, and the modems of the first so many devices
  pub record OffersModems (p : ManyProxy) (until : Until) (turns count : ℕ) (server : Server C) (calls : List ManyCall) : Type 0 where
    pub serving : IsServing p turns server calls
    pub awake : NeverOver p until calls
    pub in_time : IsInTime p calls
    pub clients : AllByRecursion (IsOffered p calls) (p.present (events calls))
    pub modems : (d : ℕ) → d < count → d < p.devices → IsModemOffered p calls d

  -- and all modems
  pub record IsReady (p : ManyProxy) (until : Until) (turns : ℕ) (server : Server C) (calls : List ManyCall) : Type 0 where
    pub serving : IsServing p turns server calls
    pub awake : NeverOver p until calls
    pub in_time : IsInTime p calls
    pub offered : AllIsOffered p calls

  -- nothing has happened yet
  pub record IsOpened (p : ManyProxy) (server : Server C) : Type 0 where
    pub stands : Stands keeps face p [] server.core
    pub blocked : server.blocked ≡ []
    pub modems : server.modems ≡ []
    pub emptied : server.emptied ≡ 0

  -- ---- what an offering comes to ----

  -- the modem of this device was offered all, or is gone
  abbrev pub AfterModem : Bool → ManyProxy → Until → (turns device : ℕ) → Server C → List ManyCall → Type 0
  AfterModem true p until turns device server calls = OffersModems p until turns (device + 1) server calls
  AfterModem false p until turns device server calls = HasOffered p until turns 0 server calls

  -- all modems were, or one is gone
  abbrev pub AfterModems : Bool → ManyProxy → Until → ℕ → Server C → List ManyCall → Type 0
  AfterModems true p until turns server calls = IsReady p until turns server calls
  AfterModems false p until turns server calls = HasOffered p until turns 0 server calls

  -- ---- what a turn comes to ----

  -- the hub told this once all had been offered
  pub record HasTold (p : ManyProxy) (until : Until) (turns : ℕ) (server : Server C) (call : ManyCall) (calls : List ManyCall) : Type 0 where
    pub earlier : List ManyCall
    pub whole : calls ≡ call ∷ earlier
    pub ready : IsReady p until turns server earlier

  -- an event was met, and each of the first so many modems was opened again as often as it is to be; of the others, those that are missed weren't yet since the hub told the event
  pub record MayReopen (p : ManyProxy) (until : Until) (turns : ℕ) (misses : ℕ → Bool) (count : ℕ) (server : Server C) (calls : List ManyCall) : Type 0 where
    pub serving : IsServing p turns server calls
    pub awake : NeverOver p until calls
    pub done : (d : ℕ) → d < count → d < p.devices → reopenings d calls ≡ due_reopenings p d calls
    pub not_yet : (d : ℕ) → count ≤ d → d < p.devices → reopenings d calls ≡ 0
    pub due : (d : ℕ) → count ≤ d → d < p.devices → due_reopenings p d calls ≡ (if misses d then 1 else 0)

  -- an event was met: modems may be to be opened again, or the serving ends
  abbrev pub AfterEvent : Option ServeEnd → (ℕ → Bool) → ManyProxy → Until → ℕ → Server C → List ManyCall → Type 0
  AfterEvent None misses p until turns server calls = MayReopen p until (turns + 1) misses 0 server calls
  AfterEvent (Some end) misses p until turns server calls = EndsNow p until (turns + 1) end calls

  -- the serving goes on with the first connection, or ends for this reason, or memory ran out; turns were taken before
  abbrev pub AfterMeeting : (ManyEvent → Type 0) → Result (Option ServeEnd) AllocError → ManyProxy → Until → ℕ → Server C → List ManyCall → Type 0
  AfterMeeting lacks (Ok None) p until turns server calls = HasOffered p until (turns + 1) 0 server calls
  AfterMeeting lacks (Ok (Some end)) p until turns server calls = EndsNow p until (turns + 1) end calls
  AfterMeeting lacks (Err e) p until turns server calls = RanOut lacks p until (turns + 1) calls

  -- the same, but all was offered where it goes on
  abbrev pub AfterTurn : (ManyEvent → Type 0) → Result (Option ServeEnd) AllocError → ManyProxy → Until → ℕ → Server C → List ManyCall → Type 0
  AfterTurn lacks (Ok None) p until turns server calls = IsReady p until (turns + 1) server calls
  AfterTurn lacks (Ok (Some end)) p until turns server calls = EndsNow p until (turns + 1) end calls
  AfterTurn lacks (Err e) p until turns server calls = RanOut lacks p until (turns + 1) calls
