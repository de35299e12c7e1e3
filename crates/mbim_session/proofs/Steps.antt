-- Whether a session goes on to its command, and what its command says.
use Rattle.std.proofs.Common.{◌≡◌, ℕ, Bool, true, false, if◌then◌else◌, List, [], Option, Some, None, Result, Ok, refl, sym, ◌∙◌, ap, ap₂}
use Rattle.std.specs.Option.{unwrap_or}
use Rattle.link_io.specs.Calls.{Call}
use Rattle.framing.specs.Reading.{Reading}
use Rattle.link_session.specs.declared.fault.SessionFault.{SessionFault}
use Rattle.link_session.specs.declared.asking.Reply.{Reply}
use Rattle.link_session.specs.Marks.{Placed}
use Rattle.link_session.specs.Waiting.{Heard}
use Rattle.link_session.specs.Asking.{Asked, Makes, ReadsThen, Step}
use Rattle.link_session.specs.Hearing.{RepliesTo}
use Rattle.link_session.proofs.Steps.{Makes-map, Makes-none, Step-read}
use Rattle.mbim_frame.specs.declared.bodies.CommandHead.{CommandHead}
use Rattle.mbim_frame.specs.Bodies.{command_text}
use Rattle.mbim_requests.specs.declared.MbimRequest.{MbimRequest}
use Rattle.mbim_services.specs.Requests.{sent_by, buffer_sent}
use Rattle.mbim_session.specs.Requests.{buffer_for, command_head}
use Rattle.mbim_session.specs.Session.{UnlessRefused}

pub UnlessRefused-some : {E : Type 0} {refused : Option E} {end : E} (Then : Type 0) → refused ≡ Some end → UnlessRefused refused [] (Ok end) Then
UnlessRefused-some Then is = rw is (refl, refl)

pub UnlessRefused-none : {E : Type 0} {refused : Option E} {Then : Type 0} (calls : List Call) (result : Result E SessionFault) → refused ≡ None → Then → UnlessRefused refused calls result Then
UnlessRefused-none calls result is goes_on = rw is goes_on

-- a request is answered whose answer may refuse the session
module _
    {A E : Type 0}
    (refusal_in : A → Option E)
    {asked : Asked}
    {Reads : List Placed → Placed → Result A SessionFault → Type 0}
    {heard : Heard}
    {cutter : Reading}
    {reply : Reply A}
    {before mid : Option (List Call)}
    (replies : RepliesTo asked Reads heard (Ok reply) cutter before mid)
    (Follows : Heard → List Call → Type 0) where
  -- it does
  pub Step-refused : {end : E} → refusal_in reply.answer ≡ Some end
      → Makes (λ calls. Step asked heard calls (Ok end) (λ passed message later more. ReadsThen (Reads passed message) more (Ok end) (λ answer. UnlessRefused (refusal_in answer) more (Ok end) (Follows later more)))) before mid
  Step-refused is = Step-read replies (Makes-none mid (UnlessRefused-some _ is))

  -- it doesn't, and this follows
  pub Step-granted : {result : Result E SessionFault} {after : Option (List Call)} → refusal_in reply.answer ≡ None → Makes (λ more. Follows replies.later more) mid after
      → Makes (λ calls. Step asked heard calls result (λ passed message later more. ReadsThen (Reads passed message) more result (λ answer. UnlessRefused (refusal_in answer) more result (Follows later more)))) before after
  Step-granted {result = result} is makes = Step-read replies (Makes-map (λ more follows. UnlessRefused-none more result is follows) makes)

pub some_if : {A : Type 0} (b : Bool) {x y : A} → (if b then Some x else None) ≡ Some y → y ≡ x
some_if true is = cc
some_if false is = absurd (cc)

-- ---- the command of a request ----

pub command_text-is : (request : MbimRequest) {head : CommandHead} {buffer : List ℕ} → head.uuid ≡ (sent_by request).row.service → head.cid ≡ (sent_by request).row.cid → head.set ≡ (sent_by request).set
    → buffer_sent (sent_by request) ≡ Some buffer → command_text head buffer ≡ command_text (command_head request) (buffer_for request)
command_text-is request {head = head} {buffer = buffer} uuid cid set sent =
    let service : List ℕ = (sent_by request).row.service in
    let heads : head ≡ command_head request =
    ap (λ (l : List ℕ). record { uuid = l; cid = head.cid; set = head.set }) uuid
    ∙ ap (λ (n : ℕ). record { uuid = service; cid = n; set = head.set }) cid
    ∙ ap (λ (b : Bool). record { uuid = service; cid = (sent_by request).row.cid; set = b }) set
    in
    let buffers : buffer ≡ buffer_for request = sym (ap (λ (o : Option (List ℕ)). unwrap_or o []) sent) in
    ap₂ command_text heads buffers
