-- What the calls of a session send: the messages of its plan.
use Rattle.std.proofs.Common.{◌≡◌, ℕ, ◌+◌, Bool, true, false, ◌==◌, if◌then◌else◌, List, [], ◌∷◌, Option, Some, None, Result, refl, sym, ◌∙◌}
use Rattle.link_io.specs.Calls.{Call}
use Rattle.mbim_frame.specs.Writing.{close_request}
use Rattle.mbim_services.specs.declared.answers.MbimAnswer.TheVariants.{Success, Failure}
use Rattle.link_session.specs.declared.fault.SessionFault.{SessionFault}
use Rattle.link_session.specs.Waiting.{Heard}
use Rattle.link_session.proofs.Sending as sending
use Rattle.link_session.proofs.Sending.{Sends-as, Sends-read, Sends-step, Sends-stops}
use Rattle.mbim_session.specs.declared.plan.MbimPlan.{MbimPlan}
use Rattle.mbim_session.specs.declared.plan.MbimEnd.{MbimEnd}
use Rattle.mbim_session.specs.declared.plan.MbimEnd.TheVariants.{Answer, FunctionError}
use Rattle.mbim_session.specs.Requests.{command_message, is_error}
use Rattle.mbim_session.specs.Answers.{field_of, refusal}
use Rattle.mbim_session.specs.Session.{Closes, leaving, closed, Commands, Opens, Session, no_memory, direct, proxied, UnlessRefused, refusal_in}
use Rattle.mbim_session.specs.Sending.{IsGood, messages_of, modem_messages}

-- these calls sent the messages up to some byte
abbrev pub Sends : List (List ℕ) → List Call → Result MbimEnd SessionFault → Type 0
Sends messages calls result = sending.Sends IsGood (λ n. messages) calls result

pub is_then : {A : Type 0} (x y : A) (b : Bool) → b ≡ true → x ≡ (if b then x else y)
is_then x y b is = rw is refl

pub is_else : {A : Type 0} (x y : A) (b : Bool) → b ≡ false → y ≡ (if b then x else y)
is_else x y b is = rw is refl

-- ---- what ends a session before the command is no success ----

by_field : (error zero : Bool) (field : ℕ) (end : MbimEnd) → (if error then Some (FunctionError field) else if zero then None else Some (Answer (Failure field))) ≡ Some end → IsGood end → ⊥
by_field true zero field (FunctionError code) is good = good
by_field true zero field (Answer (Failure status)) is good = good
by_field true zero field (Answer (Success shape val)) is good = absurd (cc)
by_field false true field end is good = absurd (cc)
by_field false false field (FunctionError code) is good = good
by_field false false field (Answer (Failure status)) is good = good
by_field false false field (Answer (Success shape val)) is good = absurd (cc)

refusal-bad : (number : ℕ) (message : List ℕ) (end : MbimEnd) → refusal number message ≡ Some end → IsGood end → ⊥
refusal-bad number message end is good = by_field (is_error number message) (field_of message == 0) (field_of message) end is good

refusal_in-bad : (configured end : MbimEnd) → refusal_in configured ≡ Some end → IsGood end → ⊥
refusal_in-bad configured (FunctionError code) is good = good
refusal_in-bad configured (Answer (Failure status)) is good = good
refusal_in-bad (FunctionError code) (Answer (Success shape val)) is good = absurd (cc)
refusal_in-bad (Answer (Failure status)) (Answer (Success shape val)) is good = absurd (cc)
refusal_in-bad (Answer (Success a b)) (Answer (Success shape val)) is good = absurd (cc)

refused_sends : (refused : Option MbimEnd) {calls : List Call} {result : Result MbimEnd SessionFault} {Then : Type 0} (messages : List (List ℕ)) → ((end : MbimEnd) → refused ≡ Some end → IsGood end → ⊥)
    → UnlessRefused refused calls result Then → (Then → Sends messages calls result) → Sends messages calls result
refused_sends None messages bad follows next = next follows
refused_sends (Some end) messages bad follows next = Sends-stops IsGood (λ n. messages) follows (λ good. absurd (bad end refl good))

-- ---- the messages of a plan ----

-- behind the command
abbrev pub closing_messages : MbimPlan → ℕ → List (List ℕ)
closing_messages plan number = if plan.close then close_request number ∷ [] else []

Closes-sends : (plan : MbimPlan) (number : ℕ) {end : MbimEnd} {heard : Heard} {calls : List Call} {result : Result MbimEnd SessionFault} → Closes plan number end heard calls result
    → Sends (closing_messages plan number) calls result
Closes-sends plan number (leaving is stops) = Sends-as IsGood (λ n. is_else _ _ plan.close is) (Sends-stops IsGood (λ n. []) stops (λ ends. refl))
Closes-sends plan number (closed is step) =
    Sends-as IsGood (λ n. is_then _ _ plan.close is) (Sends-step IsGood (λ n. []) step (λ before message later more stops. Sends-stops IsGood (λ n. []) stops (λ ends. refl)))

Commands-sends : (plan : MbimPlan) (number : ℕ) {heard : Heard} {calls : List Call} {result : Result MbimEnd SessionFault} → Commands plan number heard calls result
    → Sends (command_message plan.request number ∷ closing_messages plan (number + 1)) calls result
Commands-sends plan number commands =
    let messages : ℕ → List (List ℕ) = λ n. closing_messages plan (number + 1) in
    Sends-step IsGood messages commands (λ before message later more reads. Sends-read IsGood messages reads (λ end is closes. Closes-sends plan (number + 1) closes))

Opens-sends : (plan : MbimPlan) (number : ℕ) {heard : Heard} {calls : List Call} {result : Result MbimEnd SessionFault} → Opens plan number heard calls result → Sends (modem_messages plan number) calls result
Opens-sends plan number opens =
    let rest : List (List ℕ) = command_message plan.request (number + 1) ∷ closing_messages plan (number + 1 + 1) in
    Sends-step IsGood (λ n. rest) opens (λ before message later more reads.
    Sends-read IsGood (λ n. rest) reads (λ refused is follows.
    refused_sends refused rest (λ end some. refusal-bad number message.bytes end (sym is.1 ∙ some)) follows (Commands-sends plan (number + 1))))

pub Session-sends : (plan : MbimPlan) (calls : List Call) (result : Result MbimEnd SessionFault) → Session plan calls result → Sends (messages_of plan) calls result
Session-sends plan calls result (no_memory stops) = Sends-stops IsGood (λ n. messages_of plan) stops (λ ends. absurd ends)
Session-sends plan calls result (direct is opens) = Sends-as IsGood (λ n. is_else _ _ plan.proxied is) (Opens-sends plan 1 opens)
Session-sends plan calls result (proxied is step) =
    Sends-as IsGood (λ n. is_then _ _ plan.proxied is)
    (Sends-step IsGood (λ n. modem_messages plan 2) step (λ before message later more reads.
    Sends-read IsGood (λ n. modem_messages plan 2) reads (λ end reads_so follows.
    refused_sends (refusal_in end) (modem_messages plan 2) (refusal_in-bad end) follows (Opens-sends plan 2))))
