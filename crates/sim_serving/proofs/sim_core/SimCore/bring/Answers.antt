use Rattle.std.proofs.Common.{ap, sym, ◌∙◌, subst}
use Rattle.std.specs.List.{position}
use Rattle.sim_serving.specs.Core.{Core}
use Rattle.sim_serving.proofs.Places.{is_named, brought_none, hears_good, hears_bad}
use Rattle.sim_serving.proofs.sim_core.SimCore.bring.Goals as goal

pub returns-in_default-clause-brought : goal.returns-in_default-clause-brought
returns-in_default-clause-brought g c = λ ticks conduct before kept. brought_none c.self.view_is c.args.name (c.in_default.ensures.place ∙ ap (position (is_named c.args.name)) c.deref.ensures.value) g.S.Framing.Framing.size g.S.ServedSim.keeps ticks conduct before c.args.piece.now

pub returns-then-branch-clause-brought : goal.returns-then-branch-clause-brought
returns-then-branch-clause-brought g c =
    λ ticks conduct before kept.
    let kept_now = subst (λ (core : Core g.row.S.Denot). g.S.ServedSim.keeps ticks conduct before core.sim) (sym c.self.view_is) kept in
    hears_good c.self.view_is c.args.name c.in-Some.place (c.in-Some.ensures.place ∙ ap (position (is_named c.args.name)) c.deref.ensures.value) c.index_mut-client.result.now c.index_mut-client.ensures.value g.S.Framing.Framing.size g.S.ServedSim.keeps ticks conduct before c.args.piece.now c.hear.new.sim c.hear.new.self
    (c.in_ok-hear.ensures.answers ticks conduct before kept_now) c.in_ok-hear.ensures.name (c.in_ok-hear.ensures.rest c.if-branch.true) (sym (c.in_ok-hear.ensures.goes_on ticks conduct before kept_now) ∙ c.if-branch.true)

pub returns-clause-brought : goal.returns-clause-brought
returns-clause-brought g c =
    λ ticks conduct before kept.
    let kept_now = subst (λ (core : Core g.row.S.Denot). g.S.ServedSim.keeps ticks conduct before core.sim) (sym c.self.view_is) kept in
    hears_bad c.self.view_is c.args.name c.in-Some.place (c.in-Some.ensures.place ∙ ap (position (is_named c.args.name)) c.deref.ensures.value) c.index_mut-client.result.now c.index_mut-client.ensures.value g.S.Framing.Framing.size g.S.ServedSim.keeps ticks conduct before c.args.piece.now c.hear.new.sim c.hear.new.self
    (c.in_ok-hear.ensures.answers ticks conduct before kept_now) (sym (c.in_ok-hear.ensures.goes_on ticks conduct before kept_now) ∙ c.if-branch.false) c.remove.new.self.items c.remove.ensures.items
