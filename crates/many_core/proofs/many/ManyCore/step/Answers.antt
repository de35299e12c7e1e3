use Rattle.std.proofs.Common.{◌≡◌, ◌<◌, ◌∷◌, length, ap, sym, ◌∙◌, subst}
use Rattle.many_io.specs.Events.{event_of}
use Rattle.many_core.specs.Core.{ManyCore, Stands, StandsAfter, IsBounded, MovesNobody, settled, met, step}
use Rattle.many_core.proofs.Meeting.{value, as_many_cores}
use Rattle.many_core.proofs.Shown.{hung_up, steps, stays, bounded}
use Rattle.many_core.proofs.many.ManyCore.step.Goals as goal

pub returns-then-meet-clause-stands : goal.returns-then-meet-clause-stands
returns-then-meet-clause-stands c = λ events S.
    let event = event_of c.args.event in
    let begun = ap (value c.self.inside.paths c.self.inside.limits c.self.inside.cores) c.hang_up.ensures ∙ ap (λ (v : ManyCore). hung_up v) c.self.view_is in
    let made = c.settle.ensures ∙ ap (λ (v : ManyCore). settled v) c.meet.ensures.met ∙ ap (λ (v : ManyCore). settled (met event v)) begun in
    let some : 0 < length c.args.self.now.paths = subst (λ (v : ManyCore). 0 < length v.paths) c.self.view_is c.self.invariant.some in
    subst (λ (v : ManyCore). StandsAfter (event ∷ events) v) (sym made) (steps c.args.self.now some event events c.requires S)

pub returns-then-meet-clause-bounded : goal.returns-then-meet-clause-bounded
returns-then-meet-clause-bounded c = λ events S.
    let event = event_of c.args.event in
    let begun = ap (value c.self.inside.paths c.self.inside.limits c.self.inside.cores) c.hang_up.ensures ∙ ap (λ (v : ManyCore). hung_up v) c.self.view_is in
    let made = c.settle.ensures ∙ ap (λ (v : ManyCore). settled v) c.meet.ensures.met ∙ ap (λ (v : ManyCore). settled (met event v)) begun in
    let some : 0 < length c.args.self.now.paths = subst (λ (v : ManyCore). 0 < length v.paths) c.self.view_is c.self.invariant.some in
    subst (λ (v : ManyCore). IsBounded v) (sym made) (bounded (step event c.args.self.now) (event ∷ events) (steps c.args.self.now some event events c.requires S).stands some)

pub returns-else-meet-clause-step : goal.returns-else-meet-clause-step
returns-else-meet-clause-step c = λ events S.
    let event = event_of c.args.event in
    let begun = ap (value c.self.inside.paths c.self.inside.limits c.self.inside.cores) c.hang_up.ensures ∙ ap (λ (v : ManyCore). hung_up v) c.self.view_is in
    let some : 0 < length c.args.self.now.paths = subst (λ (v : ManyCore). 0 < length v.paths) c.self.view_is c.self.invariant.some in
    let moves = subst (λ (v : ManyCore). MovesNobody event v) begun (c.meet.ensures.moved c.if-meet.false) in
    c.meet.ensures.met ∙ ap (λ (v : ManyCore). met event v) begun ∙ sym (stays c.args.self.now some event events c.requires S moves)

pub returns-else-meet-clause-stands : goal.returns-else-meet-clause-stands
returns-else-meet-clause-stands c = λ events S.
    let event = event_of c.args.event in
    let begun = ap (value c.self.inside.paths c.self.inside.limits c.self.inside.cores) c.hang_up.ensures ∙ ap (λ (v : ManyCore). hung_up v) c.self.view_is in
    let some : 0 < length c.args.self.now.paths = subst (λ (v : ManyCore). 0 < length v.paths) c.self.view_is c.self.invariant.some in
    let moves = subst (λ (v : ManyCore). MovesNobody event v) begun (c.meet.ensures.moved c.if-meet.false) in
    let made = c.meet.ensures.met ∙ ap (λ (v : ManyCore). met event v) begun ∙ sym (stays c.args.self.now some event events c.requires S moves) in
    subst (λ (v : ManyCore). StandsAfter (event ∷ events) v) (sym made) (steps c.args.self.now some event events c.requires S)

pub returns-else-meet-clause-bounded : goal.returns-else-meet-clause-bounded
returns-else-meet-clause-bounded c = λ events S.
    let event = event_of c.args.event in
    let begun = ap (value c.self.inside.paths c.self.inside.limits c.self.inside.cores) c.hang_up.ensures ∙ ap (λ (v : ManyCore). hung_up v) c.self.view_is in
    let some : 0 < length c.args.self.now.paths = subst (λ (v : ManyCore). 0 < length v.paths) c.self.view_is c.self.invariant.some in
    let moves = subst (λ (v : ManyCore). MovesNobody event v) begun (c.meet.ensures.moved c.if-meet.false) in
    let made = c.meet.ensures.met ∙ ap (λ (v : ManyCore). met event v) begun ∙ sym (stays c.args.self.now some event events c.requires S moves) in
    subst (λ (v : ManyCore). IsBounded v) (sym made) (bounded (step event c.args.self.now) (event ∷ events) (steps c.args.self.now some event events c.requires S).stands some)

pub returns-then-meet-clause-cores : goal.returns-then-meet-clause-cores
returns-then-meet-clause-cores c =
    let event = event_of c.args.event in
    let begun = ap (value c.self.inside.paths c.self.inside.limits c.self.inside.cores) c.hang_up.ensures ∙ ap (λ (v : ManyCore). hung_up v) c.self.view_is in
    ap (λ (v : ManyCore). length v.core.cores) (c.settle.ensures ∙ ap (λ (v : ManyCore). settled v) (c.meet.ensures.met ∙ ap (λ (v : ManyCore). met event v) begun)) ∙ as_many_cores (hung_up c.args.self.now) event

pub returns-then-meet-clause-greatest : goal.returns-then-meet-clause-greatest
returns-then-meet-clause-greatest c =
    let event = event_of c.args.event in
    let begun = ap (value c.self.inside.paths c.self.inside.limits c.self.inside.cores) c.hang_up.ensures ∙ ap (λ (v : ManyCore). hung_up v) c.self.view_is in
    ap (λ (v : ManyCore). v.core.greatest) (c.settle.ensures ∙ ap (λ (v : ManyCore). settled v) (c.meet.ensures.met ∙ ap (λ (v : ManyCore). met event v) begun))

pub returns-else-meet-clause-cores : goal.returns-else-meet-clause-cores
returns-else-meet-clause-cores c =
    let event = event_of c.args.event in
    let begun = ap (value c.self.inside.paths c.self.inside.limits c.self.inside.cores) c.hang_up.ensures ∙ ap (λ (v : ManyCore). hung_up v) c.self.view_is in
    ap (λ (v : ManyCore). length v.core.cores) (c.meet.ensures.met ∙ ap (λ (v : ManyCore). met event v) begun) ∙ as_many_cores (hung_up c.args.self.now) event

pub returns-else-meet-clause-greatest : goal.returns-else-meet-clause-greatest
returns-else-meet-clause-greatest c =
    let event = event_of c.args.event in
    let begun = ap (value c.self.inside.paths c.self.inside.limits c.self.inside.cores) c.hang_up.ensures ∙ ap (λ (v : ManyCore). hung_up v) c.self.view_is in
    ap (λ (v : ManyCore). v.core.greatest) (c.meet.ensures.met ∙ ap (λ (v : ManyCore). met event v) begun)
