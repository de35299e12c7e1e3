-- A session as a script: what it asks, what it makes of each answer, and how it ends.
use Rattle.std.specs.Prelude.{◌≡◌, ◌⊎◌, List, ◌++◌, Result, Ok, Err}
use Rattle.link_io.specs.Calls.{Call}
use Rattle.link_session.specs.declared.fault.SessionFault.{SessionFault}
use Rattle.link_session.specs.declared.fault.SessionFault.TheVariants as fault
use Rattle.link_session.specs.Marks.{Placed}
use Rattle.link_session.specs.Waiting.{Heard, nothing_heard}
use Rattle.link_session.specs.Asking.{Asked, Step, Stops}

pub data Script (E : Type 0) : Type 0 where
  Ends : (end : Result E SessionFault) → Script E
  -- this is asked, and what follows its answer, behind the messages that came before that
  Asks : (asked : Asked) (next : List Placed → Placed → Script E) → Script E

-- a script, and another behind its end
abbrev pub behind : {A E : Type 0} → (A → Script E) → Script A → Script E
behind next (Ends (Ok end)) = next end
behind next (Ends (Err why)) = Ends (Err why)
behind next (Asks asked goes) = Asks asked (λ before message. behind next (goes before message))

-- ---- its calls ----

-- for want of memory it ends at any time
abbrev pub OrNoMemory : {E : Type 0} → List Call → Result E SessionFault → Type 0 → Type 0
OrNoMemory calls result Plays = Stops (Err fault.OutOfMemory) calls result ⊎ Plays

-- calls follow a script, and this is heard then
abbrev pub Follows : {E : Type 0} → Script E → Heard → List Call → Result E SessionFault → Heard → Type 0
Follows (Ends end) heard calls result later = Stops end calls result × (later ≡ heard)
Follows (Asks asked next) heard calls result later =
    Step asked heard calls result (λ before message now more. OrNoMemory more result (Follows (next before message) now more result later))

-- they do, or want of memory ends them before
abbrev pub Plays : {E : Type 0} → Script E → Heard → List Call → Result E SessionFault → Heard → Type 0
Plays script heard calls result later = OrNoMemory calls result (Follows script heard calls result later)

-- the calls of a session by a script from its start to its end
abbrev pub Performs : {E : Type 0} → Script E → List Call → Result E SessionFault → Type 0
Performs script calls result = (later : Heard) × Plays script nothing_heard calls result later

-- ---- the law ----

-- the calls of a script and those of another behind its end are the calls of both as one
abbrev pub ScriptsGoOn : (A E : Type 0) → Type 0
ScriptsGoOn A E =
    (script : Script A) (next : A → Script E) (heard now later : Heard) (calls more : List Call) (end : A) (result : Result E SessionFault)
    → Plays script heard calls (Ok end) now → Plays (next end) now more result later → Plays (behind next script) heard (calls ++ more) result later
