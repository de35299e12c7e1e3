-- What a session's calls send: the requests of its plan.
use Rattle.std.proofs.Common.{◌≡◌, ◌≢◌, ℕ, ◌+◌, Bool, true, false, ◌==◌, if◌then◌else◌, List, [], ◌∷◌, Option, Result, refl, sym, ◌∙◌, ap}
use Rattle.std.proofs.lemmas.Bool.{eqb-true, false_from_ne_true}
use Rattle.link_io.specs.Calls.{Call}
use Rattle.qmi_services.specs.declared.answers.QmiAnswer.{QmiAnswer}
use Rattle.qmi_services.specs.declared.answers.QmiAnswer.TheVariants.{Success, Failure}
use Rattle.qmi_services.specs.declared.answers.QmiEnd.{QmiEnd}
use Rattle.link_session.specs.declared.fault.SessionFault.{SessionFault}
use Rattle.link_session.specs.Waiting.{Heard}
use Rattle.link_session.specs.Asking.{Stops}
use Rattle.link_session.specs.Sending.{EndsWell}
use Rattle.link_session.proofs.Sending as sending
use Rattle.link_session.proofs.Sending.{Sends-as, Sends-known, Sends-read, Sends-step, Sends-stops}
use Rattle.device_core.specs.declared.plan.QmiPlan.{QmiPlan}
use Rattle.device_core.specs.Requests.{Request}
use Rattle.device_core.specs.Session.{OnSuccess, Finishes, without, keeping, releasing, Commands, Chooses, control, given, allocating, Session, no_memory, direct, proxied, service, command, release}
use Rattle.device_core.specs.Sending.{IsGood, messages_of, with_cid, with_given, modem_requests, requests_of}

-- these calls sent the messages of the requests up to some byte, where some client id is allocated
abbrev pub Sends : (ℕ → List Request) → List Call → Result QmiEnd SessionFault → Type 0
Sends requests calls result = sending.Sends IsGood (λ n. messages_of (requests n)) calls result

-- the same requests
same_requests : {requests same : ℕ → List Request} {calls : List Call} {result : Result QmiEnd SessionFault} → ((n : ℕ) → requests n ≡ same n) → Sends requests calls result → Sends same calls result
same_requests are sends = Sends-as IsGood (λ n. ap messages_of (are n)) sends

nothing_more : (requests : ℕ → List Request) {end : Result QmiEnd SessionFault} {calls : List Call} {result : Result QmiEnd SessionFault} → Stops end calls result → (EndsWell IsGood end → requests 0 ≡ [])
    → Sends requests calls result
nothing_more requests stops all = Sends-stops IsGood (λ n. messages_of (requests n)) stops (λ ends. ap messages_of (all ends))

-- a success, and what follows it
Sends-success : {calls : List Call} {result : Result QmiEnd SessionFault} {Then : Type 0} (requests : ℕ → List Request) (answer : QmiAnswer)
    → OnSuccess answer calls result Then → (Then → Sends requests calls result) → Sends requests calls result
Sends-success requests (Success fields) follows next = next follows
Sends-success requests (Failure error) follows next = nothing_more requests follows (λ ends. absurd ends)

-- ---- the requests of a plan ----

pub not_zero : (n : ℕ) → n ≢ 0 → (n == 0) ≡ false
not_zero n other = false_from_ne_true (n == 0) (λ is. other (eqb-true n 0 is))

pub is_then : {A : Type 0} (x y : A) (b : Bool) → b ≡ true → x ≡ (if b then x else y)
is_then x y b is = rw is refl

pub is_else : {A : Type 0} (x y : A) (b : Bool) → b ≡ false → y ≡ (if b then x else y)
is_else x y b is = rw is refl

-- behind a command to another service than 0 its client id is given back
abbrev pub behind_command : QmiPlan → ℕ → ℕ → List Request
behind_command plan cid number = if plan.keep then [] else release plan cid number ∷ []

module _ (plan : QmiPlan) (cid number : ℕ) {answer : QmiAnswer} {heard : Heard} {calls : List Call} {result : Result QmiEnd SessionFault} where
  Finishes-control : service plan ≡ 0 → Finishes plan cid number answer heard calls result → Sends (λ n. []) calls result
  Finishes-control is (without none stops) = nothing_more (λ n. []) stops (λ ends. refl)
  Finishes-control is (keeping other keep stops) = absurd (other is)
  Finishes-control is (releasing other keep step) = absurd (other is)

  Finishes-cid : service plan ≢ 0 → Finishes plan cid number answer heard calls result → Sends (λ n. behind_command plan cid number) calls result
  Finishes-cid other (without none stops) = absurd (other none)
  Finishes-cid other (keeping it keep stops) = same_requests (λ n. is_then _ _ plan.keep keep) (nothing_more (λ n. []) stops (λ ends. refl))
  Finishes-cid other (releasing it keep step) =
      same_requests (λ n. is_else _ _ plan.keep keep) (Sends-step IsGood (λ n. []) step (λ before message later more stops. nothing_more (λ n. []) stops (λ ends. refl)))

module _ (plan : QmiPlan) (cid number : ℕ) {heard : Heard} {calls : List Call} {result : Result QmiEnd SessionFault} (commands : Commands plan cid number heard calls result) where
  Commands-control : service plan ≡ 0 → Sends (λ n. command plan cid number ∷ []) calls result
  Commands-control is = Sends-step IsGood (λ n. []) commands (λ before message later more reads. Sends-read IsGood (λ n. []) reads (λ answer is_read finishes. Finishes-control plan cid number is finishes))

  Commands-cid : service plan ≢ 0 → Sends (λ n. with_cid plan cid number) calls result
  Commands-cid other =
      let requests : ℕ → List Request = λ n. behind_command plan cid number in
      Sends-step IsGood (λ n. messages_of (requests n)) commands (λ before message later more reads. Sends-read IsGood (λ n. messages_of (requests n)) reads (λ answer is_read finishes. Finishes-cid plan cid number other finishes))

-- the requests of a plan whose command is to another service than 0
modem_requests_are : (plan : QmiPlan) (number : ℕ) {cid : Option ℕ} → service plan ≢ 0 → plan.cid ≡ cid → (n : ℕ) → with_given cid plan n number ≡ modem_requests plan n number
modem_requests_are plan number other is n = ap (λ (c : Option ℕ). with_given c plan n number) (sym is) ∙ is_else _ _ (service plan == 0) (not_zero (service plan) other)

Chooses-sends : (plan : QmiPlan) (number : ℕ) {heard : Heard} {calls : List Call} {result : Result QmiEnd SessionFault} → Chooses plan number heard calls result
    → Sends (λ n. modem_requests plan n number) calls result
Chooses-sends plan number (control is commands) = same_requests (λ n. is_then _ _ (service plan == 0) (ap (λ (k : ℕ). k == 0) is)) (Commands-control plan 0 number commands is)
Chooses-sends plan number (given cid other is commands) = same_requests (modem_requests_are plan number other is) (Commands-cid plan cid number commands other)
Chooses-sends plan number (allocating other is step) =
    let requests : ℕ → List Request = λ n. with_cid plan n (number + 1) in
    same_requests (modem_requests_are plan number other is)
    (Sends-step IsGood (λ n. messages_of (requests n)) step (λ before message later more reads.
    Sends-read IsGood (λ n. messages_of (requests n)) reads (λ answer is_read success.
    Sends-success requests answer success (λ commands. Sends-known IsGood (λ n. messages_of (requests n)) commands.0 (Commands-cid plan commands.0 (number + 1) commands.2 other)))))

pub Session-sends : (plan : QmiPlan) (calls : List Call) (result : Result QmiEnd SessionFault) → Session plan calls result → Sends (requests_of plan) calls result
Session-sends plan calls result (no_memory stops) = nothing_more (requests_of plan) stops (λ ends. absurd ends)
Session-sends plan calls result (direct is chooses) = same_requests (λ n. is_else _ _ plan.proxied is) (Chooses-sends plan 1 chooses)
Session-sends plan calls result (proxied is step) =
    let requests : ℕ → List Request = λ n. modem_requests plan n 2 in
    same_requests (λ n. is_then _ _ plan.proxied is)
    (Sends-step IsGood (λ n. messages_of (requests n)) step (λ before message later more reads. Sends-read IsGood (λ n. messages_of (requests n)) reads (λ answer is_read success. Sends-success requests answer success (Chooses-sends plan 2))))
