-- A session's steps, put together.
use Rattle.std.proofs.Common.{◌≡◌, ℕ, List, [], Option, Some, None, Result, Ok, Err, refl, sym, subst}
use Rattle.framing.specs.Reading.{Reading}
use Rattle.link_io.specs.Calls.{Call}
use Rattle.link_session.specs.declared.fault.SessionFault.{SessionFault}
use Rattle.link_session.specs.Asking.{Makes, ReadsThen}
use Rattle.link_session.specs.declared.asking.Reply.{Reply}
use Rattle.link_session.specs.Hearing.{RepliesTo}
use Rattle.link_session.specs.Marks.{Placed}
use Rattle.link_session.proofs.Steps.{Makes-map, Makes-none, Step-read}
use Rattle.qmi_services.specs.declared.answers.QmiAnswer.{QmiAnswer}
use Rattle.qmi_services.specs.declared.answers.QmiAnswer.TheVariants.{Success, Failure}
use Rattle.link_session.specs.Waiting.{Heard}
use Rattle.device_core.specs.Hearing.{failure_in}
use Rattle.device_core.specs.Requests.{Request, wanted_by}
use Rattle.device_core.specs.Session.{failed}
use Rattle.tunnel_session.specs.declared.carried.Carried.{Carried}
use Rattle.tunnel_session.specs.declared.carried.Carried.TheVariants as carried
use Rattle.tunnel_session.specs.declared.carried.Message.{Message}
use Rattle.tunnel_session.specs.declared.ends.TunnelEnd.{TunnelEnd}
use Rattle.tunnel_session.specs.declared.ends.TunnelEnd.TheVariants.{Qmi}
use Rattle.tunnel_session.specs.Carried.{Reads}
use Rattle.tunnel_session.specs.Requests.{carrying}
use Rattle.tunnel_session.specs.Session.{Carries, Closes, OnMessage, OnSuccess}

-- ---- an answer that is there ----

module _ {A E : Type 0} {Reads : Result A SessionFault → Type 0} where
  -- it doesn't read
  pub Makes-unread : {why : SessionFault} {Then : List Call → A → Type 0} (calls : Option (List Call)) → Reads (Err why) → Makes (λ more. ReadsThen {A = A} {E = E} Reads more (Err why) (Then more)) calls calls
  Makes-unread {why = why} calls reads = Makes-none calls (record { read = Err why; reads = reads; follows = (refl, refl) })

  -- it says this
  pub Makes-read : (answer : A) {result : Result E SessionFault} {Then : List Call → A → Type 0} {before after : Option (List Call)} → Reads (Ok answer) → Makes (λ more. Then more answer) before after
      → Makes (λ more. ReadsThen {A = A} {E = E} Reads more result (Then more)) before after
  Makes-read answer reads makes = Makes-map (λ more follows. record { read = Ok answer; reads = reads; follows = follows }) makes

-- ---- a request that is carried ----

module _ (request : Request) (number seconds : ℕ) {heard : Heard} {cutter : Reading} {reply : Reply Carried} {before mid : Option (List Call)} (Then : Result TunnelEnd SessionFault → Placed → Heard → List Call → Type 0)
    (replies : RepliesTo (carrying request number seconds) (Reads (wanted_by request) number) heard (Ok reply) cutter before mid) (result : Result TunnelEnd SessionFault) where
  -- a message answers it, and this follows
  pub Carries-goes : (message : Message) {after : Option (List Call)} → reply.answer ≡ carried.Message message
      → Makes (λ more. Then result (record { place = message.place; bytes = message.bytes }) replies.later more) mid after → Makes (λ calls. Carries request number seconds heard calls result (Then result)) before after
  Carries-goes message {after = after} is makes =
      let Follows : Carried → Type 0 = λ came. Makes (λ more. OnMessage came more result (λ message. Then result message replies.later more)) mid after in
      Step-read replies (subst Follows (sym is) makes)

  -- it is refused
  pub Carries-refused : {end : TunnelEnd} → reply.answer ≡ carried.Refused end → result ≡ Ok end → Makes (λ calls. Carries request number seconds heard calls result (Then result)) before mid
  Carries-refused is ends =
      let Follows : Carried → Type 0 = λ came. Makes (λ more. OnMessage came more result (λ message. Then result message replies.later more)) mid mid in
      Step-read replies (subst Follows (sym is) (Makes-none mid (refl, ends)))

-- ---- whether an id is allocated ----

pub OnSuccess-failure : (answer : QmiAnswer) (number seconds : ℕ) {error : ℕ} {heard : Heard} {calls : List Call} {result : Result TunnelEnd SessionFault} (Then : Type 0) → failure_in answer ≡ Some error
    → Closes (Qmi (failed error)) number seconds heard calls result → OnSuccess answer number seconds heard calls result Then
OnSuccess-failure (Failure e) number seconds {error = error} {heard = heard} {calls = calls} {result = result} Then is closes =
    let same : error ≡ e = cc in subst (λ (n : ℕ). Closes (Qmi (failed n)) number seconds heard calls result) same closes
OnSuccess-failure (Success fields) number seconds Then is closes = absurd (cc)

pub OnSuccess-none : (answer : QmiAnswer) (number seconds : ℕ) (heard : Heard) (calls : List Call) (result : Result TunnelEnd SessionFault) {Then : Type 0} → failure_in answer ≡ None → Then
    → OnSuccess answer number seconds heard calls result Then
OnSuccess-none (Success fields) number seconds heard calls result is follows = follows
OnSuccess-none (Failure e) number seconds heard calls result is follows = absurd (cc)
