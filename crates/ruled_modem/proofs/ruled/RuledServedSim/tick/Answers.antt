use Rattle.std.proofs.Common.{ℕ, ◌+◌, List, ◌++◌, ◌∙◌, ap}
use Rattle.modem_rules.specs.declared.rules.IndicationRule.{IndicationRule}
use Rattle.ruled_modem.specs.Keeping.{Ruled}
use Rattle.ruled_modem.specs.Turns.{told_at}
use Rattle.ruled_modem.proofs.Keeping.{tells-at}
use Rattle.ruled_modem.proofs.ruled.RuledServedSim.tick.Goals as goal

pub returns-clause-tells : goal.returns-clause-tells
returns-clause-tells g c = λ ticks conduct past K.
    let n = c.in_ok-self-inside.field-0 in
    let inside = c.self.inside in
    c.in_ok-add_timed.ensures
    ∙ ap (λ (l : List ℕ). l ++ told_at n inside.host c.deref.result.now) c.new-told.ensures
    ∙ ap (λ (l : List IndicationRule). told_at n inside.host l) c.deref.ensures.value
    ∙ ap (λ (r : Ruled g.row.S.Denot). told_at n r.host r.timed) c.self.view_is
    ∙ tells-at g.S.Sim.keeps ticks conduct past c.args.self.now K n (c.in_ok-self-inside.ensures ∙ ap (λ (r : Ruled g.row.S.Denot). r.ticks + 1) c.self.view_is)
