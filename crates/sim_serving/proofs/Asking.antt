-- What is asked one after another. Lists have the newest first.
use Rattle.std.proofs.Common.{◌≡◌, List, [], ◌∷◌, ◌++◌, ap, ◌∙◌, append_assoc}
use Rattle.std.specs.Prelude.{reverse}
use Rattle.std.proofs.lemmas.Grind.{reverse_onto}
use Rattle.sim_serving.specs.Clients.{asks}

module _ {X : Type 0} where
  -- the first is asked, and then the others
  pub asks-first : (x : X) (others before : List X) → asks (x ∷ others) before ≡ asks others (x ∷ before)
  unfolding asks
  asks-first x others before = ap (λ (l : List X). l ++ before) (reverse_onto others x []) ∙ append_assoc (reverse others) (x ∷ []) before
