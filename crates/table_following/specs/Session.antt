-- A session for a request by tables, behind whose answer the indications for its client are shown: which calls it makes, and what is taken of its text.
use Rattle.std.specs.Prelude.{◌≡◌, ℕ, ◌==◌, Bool, true, false, List, [], ◌++◌, Option, Result, Ok, Err}
use Rattle.kit_io.specs.Growth.{Grows}
use Rattle.qmux_frame.specs.Frame.{size_of}
use Rattle.link_io.specs.Calls.{Call}
use Rattle.link_session.specs.declared.fault.SessionFault.{SessionFault}
use Rattle.link_session.specs.declared.fault.SessionFault.TheVariants as fault
use Rattle.link_session.specs.Waiting.{Heard, nothing_heard}
use Rattle.session_script.specs.Script.{Script, Plays}
use Rattle.link_following.specs.declared.end.FollowEnd.{FollowEnd}
use Rattle.link_following.specs.declared.end.FollowEnd.TheVariants.{LinkEnd, WriteFault}
use Rattle.link_following.specs.Following.{Follows}
use Rattle.request_session.specs.declared.client.Client.{Client}
use Rattle.request_session.specs.declared.client.Access.{Access}
use Rattle.request_session.specs.declared.client.Access.TheVariants as access
use Rattle.request_session.specs.declared.ends.TlvAnswer.{TlvAnswer}
use Rattle.request_session.specs.Session.{leave, reach, request}
use Rattle.table_requests.specs.Answers.{answer_text}
use Rattle.table_following.specs.Lines.{followed_lines}
use Rattle.table_following.specs.Plan.{Plan, kept_by, watched}
use Rattle.table_following.specs.declared.end.FollowedEnd.{FollowedEnd}
use Rattle.table_following.specs.declared.end.FollowedEnd.TheVariants.{Refused, Followed}

-- ---- its parts ----

-- nothing more is called or taken, and the session ends so
abbrev pub Stops : Result FollowedEnd SessionFault → List Call → List ℕ → Result FollowedEnd SessionFault → Type 0
Stops end calls taken result = (calls ≡ []) × (taken ≡ []) × (result ≡ end)

abbrev pub AfterPart : {A : Type 0} → Result A SessionFault → List Call → List ℕ → Result FollowedEnd SessionFault → (A → Type 0) → Type 0
AfterPart (Ok a) calls taken result Then = Then a
AfterPart (Err why) calls taken result Then = Stops (Err why) calls taken result

-- calls by a script, of which nothing is shown, and what follows its end
pub record PlaysThen {A : Type 0} (script : Script A) (heard : Heard) (result : Result FollowedEnd SessionFault) (calls : List Call) (taken : List ℕ) (Then : A → Heard → List Call → List ℕ → Type 0) : Type 0 where
  pub own : List Call
  pub more : List Call
  pub end : Result A SessionFault
  pub now : Heard
  pub are : calls ≡ own ++ more
  pub plays : Plays script heard own end now
  pub follows : AfterPart end more taken result (λ a. Then a now more taken)

-- ---- the answer, and what comes behind it ----

abbrev pub followed : Result FollowEnd SessionFault → Result FollowedEnd SessionFault
followed (Ok end) = Ok (Followed end)
followed (Err why) = Err why

-- a success is shown, and the indications for the client behind it
pub data Tells (plan : Plan) (client : Client) (answer : TlvAnswer) (heard : Heard) (takes : List Call) (told : Result FollowedEnd SessionFault) (now : Heard) (taken : List ℕ) : Type 0 where
  denied : (answer.outcome.status == 0) ≡ false → takes ≡ [] → now ≡ heard → taken ≡ [] → told ≡ Ok (Refused answer.outcome.error) → Tells plan client answer heard takes told now taken
  shown : (end : Result FollowEnd SessionFault) (lines : List ℕ) → (answer.outcome.status == 0) ≡ true → Follows size_of (followed_lines (watched plan client)) plan.turns heard takes end now lines
      → taken ≡ answer_text plan.request answer (kept_by plan.request.session client) ++ lines → told ≡ followed end → Tells plan client answer heard takes told now taken
  -- a front of the answer's text is taken
  unwritten : (rest : List ℕ) → (answer.outcome.status == 0) ≡ true → takes ≡ [] → now ≡ heard → answer_text plan.request answer (kept_by plan.request.session client) ≡ taken ++ rest
      → told ≡ Ok (Followed WriteFault) → Tells plan client answer heard takes told now taken
  -- there is no memory for it
  no_memory : (answer.outcome.status == 0) ≡ true → takes ≡ [] → now ≡ heard → taken ≡ [] → told ≡ Err fault.OutOfMemory → Tells plan client answer heard takes told now taken

-- ---- the client id ----

abbrev pub is_link_end : FollowedEnd → Bool
is_link_end (Followed LinkEnd) = true
is_link_end _ = false

-- over a link that has ended nothing is given back
abbrev pub LeavesBy : Bool → Plan → Client → FollowedEnd → Heard → Result FollowedEnd SessionFault → List Call → Type 0
LeavesBy true plan client told heard result calls = (calls ≡ []) × (result ≡ Ok told)
LeavesBy false plan client told heard result calls = PlaysThen (leave plan.request.session client) heard result calls [] (λ kept now more taken. Stops (Ok told) more taken result)

abbrev pub Leaves : Plan → Client → Result FollowedEnd SessionFault → Heard → Result FollowedEnd SessionFault → List Call → Type 0
Leaves plan client (Ok told) heard result calls = LeavesBy (is_link_end told) plan client told heard result calls
Leaves plan client (Err why) heard result calls = (calls ≡ []) × (result ≡ Err why)

-- ---- the session ----

-- an answer is told, and then the client id is given back
pub record TellsThen (plan : Plan) (client : Client) (answer : TlvAnswer) (heard : Heard) (result : Result FollowedEnd SessionFault) (calls : List Call) (taken : List ℕ) : Type 0 where
  pub takes : List Call
  pub more : List Call
  pub told : Result FollowedEnd SessionFault
  pub now : Heard
  pub are : calls ≡ takes ++ more
  pub tells : Tells plan client answer heard takes told now taken
  pub leaves : Leaves plan client told now result more

-- the request is sent with this client id
abbrev pub Asked : Plan → Client → Heard → Result FollowedEnd SessionFault → List Call → List ℕ → Type 0
Asked plan client heard result calls taken =
    PlaysThen (request plan.request.session client) heard result calls taken (λ answer now more taken. TellsThen plan client answer now result more taken)

abbrev pub AskedAs : Plan → Access → Heard → Result FollowedEnd SessionFault → List Call → List ℕ → Type 0
AskedAs plan (access.Client client) heard result calls taken = Asked plan client heard result calls taken
AskedAs plan (access.Refused error) heard result calls taken = Stops (Ok (Refused error)) calls taken result

-- the calls of a session from its start to its end, and what is taken of its text
abbrev pub Session : Plan → Result FollowedEnd SessionFault → List Call → List ℕ → Type 0
Session plan result calls taken = PlaysThen (reach plan.request.session) nothing_heard result calls taken (λ access now more taken. AskedAs plan access now result more taken)

-- a link's calls and what a sink took have grown by some like these
pub record GrowBy (Like : List Call → List ℕ → Type 0) (calls_before calls_after : Option (List Call)) (taken_before taken_after : Option (List ℕ)) : Type 0 where
  pub calls : List Call
  pub taken : List ℕ
  pub are : Like calls taken
  pub calls_grow : Grows calls_before calls calls_after
  pub taken_grow : Grows taken_before taken taken_after
