-- What a command that asks a modem does to its link and its children, and what it prints.
use Rattle.std.specs.Prelude.{◌≡◌, ℕ, Bool, List, [], ◌∷◌, ◌++◌, true, false, Option, Some, None, Result, Ok, Err}
use Rattle.kit_io.specs.Growth.{Grows, GrowsByFront}
use Rattle.link_io.specs.Calls.{Call, Closed}
use Rattle.child_io.specs.Calls as child
use Rattle.modem_routes.specs.Routes.{Path}
use Rattle.modem_routes.specs.Reaching.{Reaches, StartsAndStops}
use Rattle.modem_routes.specs.declared.reaching.ReachFault.{ReachFault}
use Rattle.modem_routes.specs.declared.reaching.ReachFault.TheVariants as reach
use Rattle.link_session.specs.declared.fault.SessionFault.{SessionFault}
use Rattle.link_session.specs.declared.fault.SessionFault.TheVariants as fault
use Rattle.sms_print.specs.Printed.{decoded_text}
use Rattle.sms_print.specs.declared.decoding.Decoding.{Decoding}
use Rattle.tool_runs.specs.declared.run_end.RunEnd.{RunEnd}
use Rattle.tool_runs.specs.declared.run_end.RunEnd.TheVariants as run
use Rattle.tool_runs.specs.declared.session.Refusal.{Refusal}

-- ---- the link ----

-- the calls on a link that is open over which such a session was had; it is closed then
pub record Exchange {End : Type 0} (Session : List Call → Result End SessionFault → Type 0) (calls : List Call) (result : Result End SessionFault) : Type 0 where
  pub own : List Call
  pub session : Session own result
  pub whole : calls ≡ own ++ Closed ∷ []

-- ---- what is printed ----

-- this was printed, or a front of it where the writing failed
abbrev pub PrintsText : List ℕ → Option (List ℕ) → RunEnd → Option (List ℕ) → Type 0
PrintsText text before run.Done after = Grows before text after
PrintsText text before run.WriteFault after = GrowsByFront before text after
PrintsText text before run.OutOfMemory after = Grows before [] after
PrintsText text before _ after = ⊥

-- nothing is printed of a refusal
abbrev pub Prints : Option Refusal → List ℕ → Option (List ℕ) → RunEnd → Option (List ℕ) → Type 0
Prints (Some refusal) text before ends after = (ends ≡ run.Denied refusal.function refusal.code) × Grows before [] after
Prints None text before ends after = PrintsText text before ends after

-- how a command ends whose session has no end of its own
abbrev pub end_of : SessionFault → RunEnd
end_of fault.LinkFault = run.LinkFault
end_of fault.LinkEnd = run.LinkEnd
end_of fault.TimedOut = run.TimedOut
end_of (fault.Broken place) = run.Broken place
end_of fault.Flooded = run.Flooded
end_of fault.OutOfMemory = run.OutOfMemory

-- how a command ends that didn't reach its modem
abbrev pub end_of_reaching : ReachFault → RunEnd
end_of_reaching reach.LinkFault = run.LinkFault
end_of_reaching reach.StartFault = run.StartFault
end_of_reaching reach.NoProxy = run.NoProxy

-- from how a tool's sessions end: with a refusal, or with a text
abbrev pub Says : {End : Type 0} → (End → Option Refusal) → (End → List ℕ) → Result End SessionFault → Option (List ℕ) → RunEnd → Option (List ℕ) → Type 0
Says refused printed (Ok end) before ends after = Prints (refused end) (printed end) before ends after
Says refused printed (Err why) before ends after = (ends ≡ end_of why) × Grows before [] after

-- ---- the command ----

-- a tool's sessions of a plan: which calls they make and how they end, and what that says
pub record Asked (End : Type 0) : Type 1 where
  pub Session : List Call → Result End SessionFault → Type 0
  pub refused : End → Option Refusal
  pub printed : End → List ℕ

-- what is printed of an end: its text, and what the messages say that it holds, so far as they are told
abbrev pub shown : {End : Type 0} → Decoding → (End → List ℕ) → (End → List (List ℕ)) → End → List ℕ
shown decoding printed bodies end = printed end ++ decoded_text decoding (bodies end)

-- by which session a plan has, and what its end says
abbrev pub asked_of : {Plan End : Type 0} → (Plan → List Call → Result End SessionFault → Type 0) → (End → Option Refusal) → (End → List ℕ) → Plan → Asked End
asked_of session refused printed plan = record { Session = session plan; refused = refused; printed = printed }

-- such a session was had over a link that is open, and its end was printed
pub record Visits {End : Type 0} (asked : Asked End) (before after : Option (List Call)) (out : Option (List ℕ)) (ends : RunEnd) (printed : Option (List ℕ)) : Type 0 where
  pub result : Result End SessionFault
  pub calls : List Call
  pub exchange : Exchange asked.Session calls result
  pub grows : Grows before calls after
  pub says : Says asked.refused asked.printed result out ends printed

-- the modem was reached, such a session was had with it, and its end was printed; or it wasn't reached, and nothing was printed
pub data Comes {End : Type 0} (path : Path) (asked : Asked End) (out : Option (List ℕ)) (ends : RunEnd) (printed : Option (List ℕ)) (on_link : List Call) (starts : List child.Call) : Type 0 where
  visited : (reaching calls : List Call) (result : Result End SessionFault) → Reaches path (Ok tt) reaching starts → Exchange asked.Session calls result
      → on_link ≡ reaching ++ calls → Says asked.refused asked.printed result out ends printed → Comes path asked out ends printed on_link starts
  not_reached : (why : ReachFault) → Reaches path (Err why) on_link starts → ends ≡ end_of_reaching why → Grows out [] printed → Comes path asked out ends printed on_link starts

-- how it ends where each child was stopped, or one wasn't
abbrev pub with_stops : Bool → RunEnd → RunEnd
with_stops true ends = ends
with_stops false run.Done = run.StartFault
with_stops false ends = ends

-- what is told of the outside
pub record Told : Type 0 where
  pub link : Option (List Call)
  pub spawner : Option (List child.Call)
  pub out : Option (List ℕ)
  -- how many calls were made on the link and the output together
  pub made : ℕ

-- that came, and then each child that was started was stopped, behind the last call on the link and the output; none is left but by a stop that failed
pub record AsksModem {End : Type 0} (path : Path) (asked : Asked End) (before after : Told) (result : RunEnd) : Type 0 where
  pub on_link : List Call
  pub starts : List child.Call
  pub ends : RunEnd
  pub comes : Comes path asked before.out ends after.out on_link starts
  pub link_grows : Grows before.link on_link after.link
  pub stopped : Bool
  pub children : StartsAndStops starts stopped after.made before.spawner after.spawner
  pub is : result ≡ with_stops stopped ends
