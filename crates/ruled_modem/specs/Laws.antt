-- Laws of modems that go by rules. Lists of messages have the newest first.
use Rattle.std.specs.Prelude.{◌≡◌, ℕ, false, List, [], ◌∷◌, filter, Some}
use Rattle.kit_bytes.specs.declared.Kind.{Kind}
use Rattle.modem_rules.specs.declared.kind.RequestKind.{RequestKind}
use Rattle.modem_rules.specs.Kinds.{is_same}
use Rattle.modem_rules.specs.Rules.{Rules}
use Rattle.sim_modem.specs.Sim.{Answering}
use Rattle.served_sim.specs.Conduct.{IsPrompt}
use Rattle.ruled_modem.specs.Requests.{kind_of}
use Rattle.ruled_modem.specs.Ruled.{conduct_by, failure_at, hangs_up_by, reached, ruled}
use Rattle.ruled_modem.specs.Turns.{behind, is_own, late_by}

abbrev pub none : Rules
none = record { answers = []; faults = []; indications = [] }

-- without rules it is the modem that it was
abbrev pub NoRulesChangeNothing : Type 0
NoRulesChangeNothing = (modem : Kind) (answers : Answering) (past : List (List ℕ)) (message : List ℕ) → ruled modem none answers past message ≡ answers past message

-- without rules it hangs nobody up
abbrev pub NoRulesHangUp : Type 0
NoRulesHangUp = (modem : Kind) (past : List (List ℕ)) (message : List ℕ) → hangs_up_by modem none past (kind_of modem message) ≡ false

-- without rules it answers at once, and tells nothing by the clock
abbrev pub NoRulesMindNoClock : Type 0
NoRulesMindNoClock = (modem : Kind) (answers : Answering) → IsPrompt (conduct_by modem none answers)

-- no rule is for requests of this kind
pub record IsFree (rules : Rules) (kind : RequestKind) : Type 0 where
  pub answers : filter (λ rule. is_same kind rule.kind) rules.answers ≡ []
  pub faults : filter (λ rule. is_same kind rule.kind) rules.faults ≡ []
  pub indications : filter (λ rule. is_own kind (behind rule.when)) rules.indications ≡ []

-- then a request is the modem's own to answer at once, reaches it, and ends no connection
pub record OthersReachTheModem : Type 0 where
  pub answered : (modem : Kind) (rules : Rules) (answers : Answering) (past : List (List ℕ)) (message : List ℕ) (kind : RequestKind) → kind_of modem message ≡ Some kind → IsFree rules kind
      → ruled modem rules answers past message ≡ answers (reached modem rules past) message
  pub reaches : (modem : Kind) (rules : Rules) (past : List (List ℕ)) (message : List ℕ) (kind : RequestKind) → kind_of modem message ≡ Some kind → IsFree rules kind
      → reached modem rules (message ∷ past) ≡ message ∷ reached modem rules past
  pub stays : (modem : Kind) (rules : Rules) (past : List (List ℕ)) (message : List ℕ) (kind : RequestKind) → kind_of modem message ≡ Some kind → IsFree rules kind
      → hangs_up_by modem rules past (kind_of modem message) ≡ false
  pub at_once : (modem : Kind) (rules : Rules) (past : List (List ℕ)) (message : List ℕ) (kind : RequestKind) → kind_of modem message ≡ Some kind → IsFree rules kind
      → late_by (failure_at modem rules past (kind_of modem message)) ≡ 0
