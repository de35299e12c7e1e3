-- What a modem that goes by rules keeps: its rules by the kind of request that they are for. Of each fault it keeps how many requests of its kind there are to come until it, this one counted too. 0 is over.
use Rattle.std.specs.Prelude.{◌≡◌, ℕ, ◌-◌, ◌==◌, not, is_some, List, [], map, filter, find, Option, Some, None, option_map, Vec, if◌then◌else◌}
use Rattle.std.specs.Global.{Global}
use Rattle.std.specs.Map.{lookup}
use Rattle.kit_bytes.specs.declared.Kind.{Kind}
use Rattle.modem_rules.specs.declared.kind.RequestKind.{RequestKind}
use Rattle.modem_rules.specs.declared.rules.AnswerRule.{AnswerRule}
use Rattle.modem_rules.specs.declared.rules.Failure.{Failure}
use Rattle.modem_rules.specs.declared.rules.FaultRule.{FaultRule}
use Rattle.modem_rules.specs.declared.rules.IndicationRule.{IndicationRule}
use Rattle.modem_rules.specs.Kinds.{is_same}
use Rattle.modem_rules.specs.Rules.{Rules}
use Rattle.sim_modem.specs.Sim.{Answering}
use Rattle.served_sim.specs.Conduct.{Conduct}
use Rattle.ruled_modem.specs.Host.{Host, host_after}
use Rattle.ruled_modem.specs.Ruled.{conduct_by, count, reached}
use Rattle.ruled_modem.specs.Turns.{behind, is_own}

-- ---- rules by the kind of request ----

abbrev pub ByKind : Type 0 → Type 0
ByKind R = List (RequestKind × Vec R Global)

abbrev pub items_in : {R : Type 0} → Option (Vec R Global) → List R
items_in None = []
items_in (Some rules) = rules.items

-- the rules for a kind
abbrev pub rules_for : {R : Type 0} → RequestKind → ByKind R → List R
rules_for kind table = items_in (lookup (is_same kind) table)

-- those of a list that are for a kind, in the list's order
abbrev pub own : {R : Type 0} → (R → Option RequestKind) → RequestKind → List R → List R
own kind_of kind rules = filter (λ rule. is_own kind (kind_of rule)) rules

-- and those that are for no kind
abbrev pub others : {R : Type 0} → (R → Option RequestKind) → List R → List R
others kind_of rules = filter (λ rule. not (is_some (kind_of rule))) rules

-- a table has the rules of a list
abbrev pub Has : {R : Type 0} → (R → Option RequestKind) → List R → ByKind R → Type 0
Has kind_of rules table = (kind : RequestKind) → rules_for kind table ≡ own kind_of kind rules

-- ---- faults that are counted down ----

abbrev pub nearer : (count : ℕ) → FaultRule → FaultRule
nearer count fault = record { kind = fault.kind; nth = fault.nth - count; failure = fault.failure }

-- the first whose turn it is
abbrev pub due : List FaultRule → Option FaultRule
due faults = find (λ fault. fault.nth == 1) faults

-- how the request fails whose turn it is
abbrev pub failing : List FaultRule → Option Failure
failing faults = option_map (λ fault. fault.failure) (due faults)

-- one request of a kind came
abbrev pub Counts : RequestKind → ByKind FaultRule → ByKind FaultRule → Type 0
Counts kind before after = (other : RequestKind) → rules_for other after ≡ (if is_same kind other then map (nearer 1) (rules_for other before) else rules_for other before)

-- a table has the faults of a list, as they are behind these messages
abbrev pub HasBehind : Kind → (past : List (List ℕ)) → List FaultRule → ByKind FaultRule → Type 0
HasBehind modem past faults table = (kind : RequestKind) → rules_for kind table ≡ map (nearer (count modem kind past)) (own (λ fault. Some fault.kind) kind faults)

-- ---- a modem ----

pub record Ruled (S : Type 0) : Type 0 where
  pub kind : Kind
  pub sim : S
  pub host : Host
  pub answers : ByKind AnswerRule
  pub faults : ByKind FaultRule
  pub indications : ByKind IndicationRule
  -- those that are sent by the clock, and how often it has ticked
  pub timed : List IndicationRule
  pub ticks : ℕ

-- by these rules, behind these messages
pub record GoesBy {S : Type 0} (rules : Rules) (past : List (List ℕ)) (r : Ruled S) : Type 0 where
  pub answers : Has (λ rule. Some rule.kind) rules.answers r.answers
  pub faults : HasBehind r.kind past rules.faults r.faults
  pub indications : Has (λ rule. behind rule.when) rules.indications r.indications
  pub timed : r.timed ≡ others (λ rule. behind rule.when) rules.indications

-- a modem that behaves so has met these messages, and so many ticks of the clock
pub record Keeps {S : Type 0} (keeps : Answering → List (List ℕ) → S → Type 0) (ticks : ℕ) (conduct : Conduct) (past : List (List ℕ)) (r : Ruled S) : Type 0 where
  pub given : Rules
  -- without rules
  pub answers : Answering
  pub same : conduct ≡ conduct_by r.kind given answers
  pub modem : keeps answers (reached r.kind given past) r.sim
  pub host : r.host ≡ host_after r.kind answers (reached r.kind given past)
  pub rules : GoesBy given past r
  pub clock : r.ticks ≡ ticks
