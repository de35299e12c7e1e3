-- A modem that hangs nobody up. Lists of events and of requests have the newest first.
use Rattle.std.proofs.Common.{◌≡◌, ℕ, Bool, true, false, ◌||◌, if◌then◌else◌, List, [], ◌∷◌, ◌++◌, refl, ap, ◌∙◌}
use Rattle.proxy_history.specs.Events.{Event}
use Rattle.proxy_history.specs.Streams.{Framing, stream, messages_of_piece, is_bad}
use Rattle.proxy_history.specs.Connections.{contains}
use Rattle.sim_modem.specs.Sim.{Answering}
use Rattle.served_sim.specs.Conduct.{plain}
use Rattle.sim_serving.specs.Clients.{heeded, hangs_up, present, requests, messages_of, is_ended, brought}

heeds-all : (answers : Answering) (messages before : List (List ℕ)) → heeded (plain answers) messages before ≡ messages
unfolding heeded
heeds-all answers [] before = refl
heeds-all answers (message ∷ messages) before = ap (λ (l : List (List ℕ)). message ∷ l) (heeds-all answers messages (message ∷ before))

hangs-up-never : (answers : Answering) (messages before : List (List ℕ)) → hangs_up (plain answers) messages before ≡ false
unfolding hangs_up
hangs-up-never answers [] before = refl
hangs-up-never answers (message ∷ messages) before = hangs-up-never answers messages (message ∷ before)

or_false : (b : Bool) → (b || false) ≡ b
or_false true = refl
or_false false = refl

module _ (size : Framing) (answers : Answering) (c : ℕ) (piece : List ℕ) (past : List Event) where
  messages : List (List ℕ)
  messages = messages_of_piece size (stream c past) piece

  before : List (List ℕ)
  before = messages_of (requests size (plain answers) past)

  pub asked-all : brought size (plain answers) c piece past ≡ (if contains c (present size (plain answers) past) then messages_of_piece size (stream c past) piece else [])
  unfolding messages before
  asked-all = ap (λ (l : List (List ℕ)). if contains c (present size (plain answers) past) then l else []) (heeds-all answers messages before)

  pub ended-bad : is_ended size (plain answers) c piece past ≡ is_bad size (stream c past ++ piece)
  unfolding messages before
  ended-bad = ap (λ (b : Bool). is_bad size (stream c past ++ piece) || b) (hangs-up-never answers messages before) ∙ or_false (is_bad size (stream c past ++ piece))
