-- One request of a session: what is sent, which answer is waited for, and what follows it.
use Rattle.std.specs.Prelude.{◌≡◌, ℕ, true, false, List, [], ◌∷◌, ◌++◌, Option, Result, Ok, Err}
use Rattle.kit_io.specs.Growth.{Grows}
use Rattle.framing.specs.declared.framing.Size.{Size}
use Rattle.link_io.specs.Calls.{Call, Sent}
use Rattle.link_session.specs.declared.fault.SessionFault.{SessionFault}
use Rattle.link_session.specs.declared.fault.SessionFault.TheVariants as fault
use Rattle.link_session.specs.Marks.{Placed}
use Rattle.link_session.specs.Waiting.{Heard, Wait, Outcome, Answered, Fails, Waits}

-- a request: the framing of the stream, the bytes that are sent, and who waits for its answer
pub record Asked : Type 0 where
  pub size : List ℕ → Size
  pub text : List ℕ
  pub wait : Wait

-- it is sent, and its answer is waited for
pub data Asks (asked : Asked) (heard : Heard) (calls : List Call) (outcome : Outcome) (later : Heard) : Type 0 where
  -- there is no memory for its bytes
  unmade : calls ≡ [] → outcome ≡ Fails fault.OutOfMemory → Asks asked heard calls outcome later
  unsent : (front rest : List ℕ) → asked.text ≡ front ++ rest → calls ≡ Sent front false ∷ [] → outcome ≡ Fails fault.LinkFault → Asks asked heard calls outcome later
  sent : (takes : List Call) → calls ≡ Sent asked.text true ∷ takes → Waits asked.size asked.wait heard takes outcome later → Asks asked heard calls outcome later

-- ---- what follows ----

-- the session ends so, and nothing more is called
abbrev pub Stops : {E : Type 0} → Result E SessionFault → List Call → Result E SessionFault → Type 0
Stops end calls result = (calls ≡ []) × (result ≡ end)

abbrev pub AfterOutcome : {E : Type 0} → Outcome → List Call → Result E SessionFault → (List Placed → Placed → Type 0) → Type 0
AfterOutcome (Answered before message) calls result Then = Then before message
AfterOutcome (Fails why) calls result Then = Stops (Err why) calls result

-- a request, and what follows where it is answered
pub record Step {E : Type 0} (asked : Asked) (heard : Heard) (calls : List Call) (result : Result E SessionFault) (Then : List Placed → Placed → Heard → List Call → Type 0) : Type 0 where
  pub own : List Call
  pub more : List Call
  pub outcome : Outcome
  pub later : Heard
  pub are : calls ≡ own ++ more
  pub asks : Asks asked heard own outcome later
  pub follows : AfterOutcome outcome more result (λ before message. Then before message later more)

abbrev pub AfterReading : {A E : Type 0} → Result A SessionFault → List Call → Result E SessionFault → (A → Type 0) → Type 0
AfterReading (Ok answer) calls result Then = Then answer
AfterReading (Err why) calls result Then = Stops (Err why) calls result

-- an answer is read, and what follows where it reads
pub record ReadsThen {A E : Type 0} (Reads : Result A SessionFault → Type 0) (calls : List Call) (result : Result E SessionFault) (Then : A → Type 0) : Type 0 where
  pub read : Result A SessionFault
  pub reads : Reads read
  pub follows : AfterReading read calls result Then

-- a link's calls have grown by some like this
pub record Makes (Like : List Call → Type 0) (before after : Option (List Call)) : Type 0 where
  pub calls : List Call
  pub are : Like calls
  pub grows : Grows before calls after
