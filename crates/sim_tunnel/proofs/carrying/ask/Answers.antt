use Rattle.std.proofs.Common.{◌≡◌, ℕ, Bool, true, if◌then◌else◌, List, [], ◌∷◌, sym, ap, subst, ◌∙◌}
use Rattle.framing.specs.Framing.{is_message}
use Rattle.qmux_frame.specs.Frame.{size_of}
use Rattle.sim_qmi.specs.Modem.{Keeps}
use Rattle.sim_tunnel.proofs.Cutting.{unwraps}
use Rattle.sim_tunnel.proofs.carrying.ask.Goals as goal

pub returns-in_ok-ask-in-Ok-clause-said : goal.returns-in_ok-ask-in-Ok-clause-said
returns-in_ok-ask-in-Ok-clause-said c = λ answering met kept.
    let whole : is_message size_of c.args.buffer.now ≡ true = unwraps c.args.buffer.now (sym c.unwrap.ensures ∙ c.in-Ok.is) in
    c.in_ok-ask-in-Ok.ensures.answers answering met kept ∙ ap (λ (b : Bool). if b then answering met c.args.buffer.now else []) (sym whole)

pub returns-in_ok-ask-in-Ok-clause-keeps : goal.returns-in_ok-ask-in-Ok-clause-keeps
returns-in_ok-ask-in-Ok-clause-keeps c = λ answering met kept.
    let whole : is_message size_of c.args.buffer.now ≡ true = unwraps c.args.buffer.now (sym c.unwrap.ensures ∙ c.in-Ok.is) in
    subst (λ (l : List (List ℕ)). Keeps answering l c.ask.new.self) (ap (λ (b : Bool). if b then c.args.buffer.now ∷ met else met) (sym whole)) (c.in_ok-ask-in-Ok.ensures.keeps answering met kept)
