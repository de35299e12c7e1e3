use Rattle.std.proofs.Common.{◌≡◌, ℕ, List, Option, Some, None, refl}
use Rattle.kit_bytes.specs.declared.Kind.{Kind}
use Rattle.modem_rules.specs.declared.kind.RequestKind.{RequestKind}
use Rattle.ruled_modem.specs.Requests.{kind_of}
use Rattle.ruled_modem.specs.Turns.{late_by}
use Rattle.ruled_modem.specs.Ruled.{failure_at}
use Rattle.ruled_modem.specs.Laws.{none}
use Rattle.ruled_modem.proofs.laws.no_rules_mind_no_clock.Goals as goal

never-late : (modem : Kind) (past : List (List ℕ)) (found : Option RequestKind) → late_by (failure_at modem none past found) ≡ 0
never-late modem past None = refl
never-late modem past (Some kind) = refl

pub returns : goal.returns
returns c = λ modem answers. record { at_once = λ past message. never-late modem past (kind_of modem message); silent = λ tick past. refl }
