-- A modem meets one message after another.
use Rattle.std.proofs.Common.{◌≡◌, ℕ, List, [], ◌∷◌, refl, sym, ap, ◌∙◌}
use Rattle.sim_modem.specs.Sim.{Answering, Machine, HasMet, answers}

module _ {S : Type 0} (machine : Machine S) where
  pub met_none : (state : S) → state ≡ machine.fresh → HasMet machine (answers machine) [] state
  met_none state begins = record { answered = refl; met = begins }

  module _ (answering : Answering) (past : List (List ℕ)) (message : List ℕ) (old : S) (has : HasMet machine answering past old) where
    pub met_more : (new : S) → new ≡ machine.next old message → HasMet machine answering (message ∷ past) new
    met_more new is = record { answered = has.answered; met = is ∙ ap (λ (s : S). machine.next s message) has.met }

    pub met_answer : (sent : List ℕ) → sent ≡ machine.sends old message → sent ≡ answering past message
    met_answer sent is = is ∙ ap (λ (s : S). machine.sends s message) has.met ∙ sym (ap (λ (a : Answering). a past message) has.answered)
