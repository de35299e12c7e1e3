use Rattle.std.proofs.Common.{◌≡◌, ℕ, List, [], ◌∷◌, Option, Some, None, refl, ap, ◌∙◌, append-nil}
use Rattle.kit_bytes.specs.declared.Kind.{Kind}
use Rattle.modem_rules.specs.declared.kind.RequestKind.{RequestKind}
use Rattle.sim_modem.specs.Sim.{Answering}
use Rattle.ruled_modem.specs.Requests.{kind_of}
use Rattle.ruled_modem.specs.Ruled.{reached, reached_by, ruled_by}
use Rattle.ruled_modem.specs.Laws.{none}
use Rattle.ruled_modem.proofs.laws.no_rules_change_nothing.Goals as goal

module _ (modem : Kind) (past reached : List (List ℕ)) (message : List ℕ) where
  reached-by : (found : Option RequestKind) → reached_by modem none past reached message found ≡ message ∷ reached
  reached-by None = refl
  reached-by (Some kind) = refl

  said-by : (answers : Answering) (found : Option RequestKind) → ruled_by modem none answers past reached message found ≡ answers reached message
  said-by answers None = refl
  said-by answers (Some kind) = append-nil (answers reached message)

reached-all : (modem : Kind) (past : List (List ℕ)) → reached modem none past ≡ past
reached-all modem [] = refl
reached-all modem (message ∷ past) = reached-by modem past (reached modem none past) message (kind_of modem message) ∙ ap (λ (l : List (List ℕ)). message ∷ l) (reached-all modem past)

pub returns : goal.returns
returns c = λ modem answers past message.
    said-by modem past (reached modem none past) message answers (kind_of modem message) ∙ ap (λ (l : List (List ℕ)). answers l message) (reached-all modem past)
