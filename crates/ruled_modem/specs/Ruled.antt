-- A modem that goes by rules: what it answers, where it hangs up, what goes late and what it tells by the clock, by what it answers without them. Lists of messages have the newest first.
use Rattle.std.specs.Prelude.{ℕ, ◌+◌, Bool, false, ◌&&◌, ◌==◌, List, [], ◌∷◌, filter, find, length, Option, Some, None, option_map}
use Rattle.kit_bytes.specs.declared.Kind.{Kind}
use Rattle.modem_rules.specs.declared.kind.RequestKind.{RequestKind}
use Rattle.modem_rules.specs.declared.rules.Failure.{Failure}
use Rattle.modem_rules.specs.declared.rules.FaultRule.{FaultRule}
use Rattle.modem_rules.specs.Kinds.{is_same}
use Rattle.modem_rules.specs.Rules.{Rules}
use Rattle.sim_modem.specs.Sim.{Answering}
use Rattle.served_sim.specs.Conduct.{Conduct}
use Rattle.ruled_modem.specs.Host.{host_after}
use Rattle.ruled_modem.specs.Requests.{kind_of}
use Rattle.ruled_modem.specs.Turns.{hangs_up, late_by, meets, reaches, told_at}

-- ---- which request it is ----

abbrev pub is_kind : RequestKind → Option RequestKind → Bool
is_kind kind None = false
is_kind kind (Some other) = is_same other kind

-- how many of these messages are requests of the kind
abbrev pub count : Kind → RequestKind → List (List ℕ) → ℕ
count modem kind past = length (filter (λ message. is_kind kind (kind_of modem message)) past)

-- a fault is for the Nth request of its kind, which comes behind N - 1 others
abbrev pub is_for : Kind → (past : List (List ℕ)) → RequestKind → FaultRule → Bool
is_for modem past kind fault = is_same kind fault.kind && fault.nth == count modem kind past + 1

-- the first fault for a request of the kind behind these messages
abbrev pub fault_for : Kind → (past : List (List ℕ)) → RequestKind → List FaultRule → Option FaultRule
fault_for modem past kind faults = find (is_for modem past kind) faults

-- how that request fails
abbrev pub failure_for : Kind → (past : List (List ℕ)) → RequestKind → List FaultRule → Option Failure
failure_for modem past kind faults = option_map (λ fault. fault.failure) (fault_for modem past kind faults)

-- ---- what it answers ----

-- the messages that reach the modem itself: those that are no requests, and the requests for which there is no rule
abbrev pub reached_by : Kind → Rules → (past reached : List (List ℕ)) → (message : List ℕ) → Option RequestKind → List (List ℕ)
reached_by modem rules past reached message None = message ∷ reached
reached_by modem rules past reached message (Some kind) = reaches rules reached kind (failure_for modem past kind rules.faults) message

abbrev pub reached : Kind → Rules → List (List ℕ) → List (List ℕ)
reached modem rules [] = []
reached modem rules (message ∷ past) = reached_by modem rules past (reached modem rules past) message (kind_of modem message)

abbrev pub ruled_by : Kind → Rules → Answering → (past reached : List (List ℕ)) → (message : List ℕ) → Option RequestKind → List ℕ
ruled_by modem rules answers past reached message None = answers reached message
ruled_by modem rules answers past reached message (Some kind) = meets modem rules answers reached kind (failure_for modem past kind rules.faults) message

-- by these rules, where it has these answers without them
abbrev pub ruled : Kind → Rules → Answering → Answering
ruled modem rules answers past message = ruled_by modem rules answers past (reached modem rules past) message (kind_of modem message)

-- ---- where it hangs up, and what goes late ----

abbrev pub failure_at : Kind → Rules → (past : List (List ℕ)) → Option RequestKind → Option Failure
failure_at modem rules past None = None
failure_at modem rules past (Some kind) = failure_for modem past kind rules.faults

abbrev pub hangs_up_by : Kind → Rules → (past : List (List ℕ)) → Option RequestKind → Bool
hangs_up_by modem rules past found = hangs_up (failure_at modem rules past found)

-- how it behaves by these rules, where it has these answers without them, hangs nobody up, and has no clock
abbrev pub conduct_by : Kind → Rules → Answering → Conduct
conduct_by modem rules answers = record {
  answers = ruled modem rules answers;
  hangs_up = λ past message. hangs_up_by modem rules past (kind_of modem message);
  late = λ past message. late_by (failure_at modem rules past (kind_of modem message));
  told = λ tick past. told_at tick (host_after modem answers (reached modem rules past)) rules.indications;
}
