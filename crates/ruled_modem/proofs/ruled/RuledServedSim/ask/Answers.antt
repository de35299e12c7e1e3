use Rattle.std.proofs.Common.{ap, sym, ◌∙◌, ◌++◌, ◌∷◌, slice_get, subst}
use Rattle.ruled_modem.specs.Host.{Host, host_after, longest}
use Rattle.ruled_modem.specs.Requests.{kind_of}
use Rattle.ruled_modem.specs.Ruled.{reached}
use Rattle.ruled_modem.specs.Turns.{all_told, answer_text}
use Rattle.ruled_modem.specs.Keeping.{Keeps, Ruled, failing, rules_for}
use Rattle.ruled_modem.proofs.Keeping.{answers-request, hangs-request, keeps-request, late-other, late-request, stays-other}
use Rattle.ruled_modem.proofs.ruled.RuledServedSim.ask.Goals as goal

pub returns-clause-keeps : goal.returns-clause-keeps
returns-clause-keeps g c =
    λ ticks conduct past K.
    let some = ap (λ (r : Ruled g.row.S.Denot). kind_of r.kind c.args.message.now) (sym c.self.view_is) ∙ sym c.kind_of.ensures ∙ c.in-Some.is in
    let before = reached c.args.self.now.kind K.given past in
    subst (λ (r : Ruled g.row.S.Denot). Keeps g.S.Sim.keeps ticks conduct (c.args.message.now ∷ past) r) (sym c.in_ok-reply.ensures.rest)
    (keeps-request g.S.Sim.keeps ticks conduct past c.args.self.now c.args.message.now K c.meet.new.self.sim c.meet.new.self.host c.meet.new.self.faults c.in-Some.kind some c.in_ok-reply.ensures.counts
    (c.in_ok-reply.ensures.sim K.answers before K.modem)
    (c.in_ok-reply.ensures.host K.answers before K.modem K.host))

pub returns-clause-answers : goal.returns-clause-answers
returns-clause-answers g c =
    λ ticks conduct past K.
    let some = ap (λ (r : Ruled g.row.S.Denot). kind_of r.kind c.args.message.now) (sym c.self.view_is) ∙ sym c.kind_of.ensures ∙ c.in-Some.is in
    let r = c.args.self.now in
    let kind = c.in-Some.kind in
    let before = reached r.kind K.given past in
    let failure = failing (rules_for kind r.faults) in
    let rule = slice_get (rules_for kind r.answers) 0 in
    let told = rules_for kind r.indications in
    c.in_ok-reply.ensures.answers K.answers before K.modem
    ∙ ap (λ (host : Host). answer_text r.kind K.answers before (longest host) c.args.message.now failure rule ++ all_told c.meet.new.self.host told) K.host
    ∙ ap (λ (host : Host). answer_text r.kind K.answers before (longest (host_after r.kind K.answers before)) c.args.message.now failure rule ++ all_told host told) (c.in_ok-reply.ensures.host K.answers before K.modem K.host)
    ∙ sym (answers-request g.S.Sim.keeps ticks conduct past r c.args.message.now K kind some)

pub returns-clause-hangs_up : goal.returns-clause-hangs_up
returns-clause-hangs_up g c =
    λ ticks conduct past K.
    let some = ap (λ (r : Ruled g.row.S.Denot). kind_of r.kind c.args.message.now) (sym c.self.view_is) ∙ sym c.kind_of.ensures ∙ c.in-Some.is in
    c.in_ok-reply.ensures.hangs_up ∙ sym (hangs-request g.S.Sim.keeps ticks conduct past c.args.self.now c.args.message.now K c.in-Some.kind some)

pub returns-in_default-clause-hangs_up : goal.returns-in_default-clause-hangs_up
returns-in_default-clause-hangs_up g c =
    λ ticks conduct past K.
    let none = ap (λ (r : Ruled g.row.S.Denot). kind_of r.kind c.args.message.now) (sym c.self.view_is) ∙ sym c.kind_of.ensures ∙ c.in_default.is in
    sym (stays-other g.S.Sim.keeps ticks conduct past c.args.self.now c.args.message.now K none)

pub returns-clause-late : goal.returns-clause-late
returns-clause-late g c =
    λ ticks conduct past K.
    let some = ap (λ (r : Ruled g.row.S.Denot). kind_of r.kind c.args.message.now) (sym c.self.view_is) ∙ sym c.kind_of.ensures ∙ c.in-Some.is in
    c.in_ok-reply.ensures.late ∙ sym (late-request g.S.Sim.keeps ticks conduct past c.args.self.now c.args.message.now K c.in-Some.kind some)

pub returns-in_default-clause-late : goal.returns-in_default-clause-late
returns-in_default-clause-late g c =
    λ ticks conduct past K.
    let none = ap (λ (r : Ruled g.row.S.Denot). kind_of r.kind c.args.message.now) (sym c.self.view_is) ∙ sym c.kind_of.ensures ∙ c.in_default.is in
    sym (late-other g.S.Sim.keeps ticks conduct past c.args.self.now c.args.message.now K none)
