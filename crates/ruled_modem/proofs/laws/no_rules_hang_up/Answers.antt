use Rattle.std.proofs.Common.{◌≡◌, ℕ, false, List, Option, Some, None, refl}
use Rattle.kit_bytes.specs.declared.Kind.{Kind}
use Rattle.modem_rules.specs.declared.kind.RequestKind.{RequestKind}
use Rattle.ruled_modem.specs.Requests.{kind_of}
use Rattle.ruled_modem.specs.Ruled.{hangs_up_by}
use Rattle.ruled_modem.specs.Laws.{none}
use Rattle.ruled_modem.proofs.laws.no_rules_hang_up.Goals as goal

never-by : (modem : Kind) (past : List (List ℕ)) (found : Option RequestKind) → hangs_up_by modem none past found ≡ false
never-by modem past None = refl
never-by modem past (Some kind) = refl

pub returns : goal.returns
returns c = λ modem past message. never-by modem past (kind_of modem message)
