-- What a modem that goes by rules does at one request of a kind, which may be to fail, and at one tick of the clock.
use Rattle.std.specs.Prelude.{ℕ, ◌%◌, ◌==◌, ◌&&◌, not, Bool, false, true, List, [], ◌∷◌, ◌++◌, filter, find, Option, Some, None}
use Rattle.std.specs.List.{flat_map}
use Rattle.kit_bytes.specs.declared.Kind.{Kind}
use Rattle.modem_rules.specs.declared.kind.RequestKind.{RequestKind}
use Rattle.modem_rules.specs.declared.rules.AnswerRule.{AnswerRule}
use Rattle.modem_rules.specs.declared.rules.Failure.{Failure}
use Rattle.modem_rules.specs.declared.rules.Failure.TheVariants.{Refused, Silent, HungUp, Late}
use Rattle.modem_rules.specs.declared.rules.IndicationRule.{IndicationRule}
use Rattle.modem_rules.specs.declared.rules.When.{When}
use Rattle.modem_rules.specs.declared.rules.When.TheVariants.{After, Each}
use Rattle.modem_rules.specs.Kinds.{is_same}
use Rattle.modem_rules.specs.Rules.{Rules}
use Rattle.sim_modem.specs.Sim.{Answering}
use Rattle.ruled_modem.specs.Replies.{reply, indication}
use Rattle.ruled_modem.specs.Host.{Host, hears, host_after, longest}

-- the first answer to the kind
abbrev pub answer_to : RequestKind → List AnswerRule → Option AnswerRule
answer_to kind answers = find (λ rule. is_same kind rule.kind) answers

-- ---- indications ----

-- one behind the other, for a host
abbrev pub told_to : Host → List IndicationRule → List ℕ
told_to host rules = flat_map (λ rule. indication (longest host) rule.kind rule.«data») rules

-- of those that the host hears
abbrev pub all_told : Host → List IndicationRule → List ℕ
all_told host rules = told_to host (filter (λ rule. hears host rule.kind) rules)

-- the kind of requests behind which one is sent, if it isn't sent by the clock
abbrev pub behind : When → Option RequestKind
behind (After kind) = Some kind
behind (Each ticks) = None

abbrev pub is_own : RequestKind → Option RequestKind → Bool
is_own kind None = false
is_own kind (Some other) = is_same kind other

-- those that requests of the kind bring
abbrev pub told : Host → RequestKind → List IndicationRule → List ℕ
told host kind rules = all_told host (filter (λ rule. is_own kind (behind rule.when)) rules)

-- whether one is sent at this tick: each so many ticks
abbrev pub is_at : (tick : ℕ) → When → Bool
is_at tick (After kind) = false
is_at tick (Each ticks) = not (ticks == 0) && tick % ticks == 0

-- those that a tick brings, of those that the host hears
abbrev pub told_at : (tick : ℕ) → Host → List IndicationRule → List ℕ
told_at tick host rules = told_to host (filter (λ rule. is_at tick rule.when && hears host rule.kind) rules)

-- ---- answers ----

-- by an answer, else as the modem that the requests before reached does by itself
abbrev pub answer_by : Kind → Answering → (reached : List (List ℕ)) → (longest : ℕ) → (message : List ℕ) → Option AnswerRule → List ℕ
answer_by modem answers reached longest message (Some rule) = reply modem longest message 0 rule.«data»
answer_by modem answers reached longest message None = answers reached message

-- a request that is refused gets its error, and one that fails otherwise nothing; one that is late is answered as if it didn't fail
abbrev pub answer_text : Kind → Answering → (reached : List (List ℕ)) → (longest : ℕ) → (message : List ℕ) → Option Failure → Option AnswerRule → List ℕ
answer_text modem answers reached longest message (Some (Refused error)) rule = reply modem longest message error []
answer_text modem answers reached longest message (Some Silent) rule = []
answer_text modem answers reached longest message (Some HungUp) rule = []
answer_text modem answers reached longest message (Some (Late ticks)) rule = answer_by modem answers reached longest message rule
answer_text modem answers reached longest message None rule = answer_by modem answers reached longest message rule

-- a request that is answered by a rule doesn't reach the modem
abbrev pub passed_by : (reached : List (List ℕ)) → (message : List ℕ) → Option AnswerRule → List (List ℕ)
passed_by reached message (Some rule) = reached
passed_by reached message None = message ∷ reached

-- nor does one that fails, unless it is late
abbrev pub passed : (reached : List (List ℕ)) → (message : List ℕ) → Option Failure → Option AnswerRule → List (List ℕ)
passed reached message (Some (Refused error)) rule = reached
passed reached message (Some Silent) rule = reached
passed reached message (Some HungUp) rule = reached
passed reached message (Some (Late ticks)) rule = passed_by reached message rule
passed reached message None rule = passed_by reached message rule

-- the answer, and behind it the indications for the host as it is then
abbrev pub meets : Kind → Rules → Answering → (reached : List (List ℕ)) → RequestKind → Option Failure → (message : List ℕ) → List ℕ
meets modem rules answers reached kind failure message =
    answer_text modem answers reached (longest (host_after modem answers reached)) message failure (answer_to kind rules.answers)
    ++ told (host_after modem answers (passed reached message failure (answer_to kind rules.answers))) kind rules.indications

abbrev pub reaches : Rules → (reached : List (List ℕ)) → RequestKind → Option Failure → (message : List ℕ) → List (List ℕ)
reaches rules reached kind failure message = passed reached message failure (answer_to kind rules.answers)

-- ---- where it hangs up, and what goes late ----

-- at a request whose failure says so
abbrev pub hangs_up : Option Failure → Bool
hangs_up (Some HungUp) = true
hangs_up _ = false

-- after how many ticks what a request brings goes
abbrev pub late_by : Option Failure → ℕ
late_by (Some (Late ticks)) = ticks
late_by _ = 0
