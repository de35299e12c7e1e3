use Rattle.std.proofs.Common.{◌≡◌, ◌∙◌, rules}
use Rattle.std.proofs.lemmas.Grind.{common_steps}
use Rattle.framing.specs.Framing.{IsPartial, IsBad}
use Rattle.framing.specs.Reading.{GivesMessage}
use Rattle.framing.proofs.Standing.{StandsFor-gives, HasGiven-partial, HasGiven-bad}
use Rattle.framing.proofs.cutter.Cutter.next.Goals as goal

pub returns-in-Invalid-clause-stands : goal.returns-in-Invalid-clause-stands
returns-in-Invalid-clause-stands g c = λ stream given stands.
    let bad : IsBad g.F.Framing.size c.args.self.now.rest = search (rules, common_steps) in
    let at : c.self.inside.place ≡ c.args.self.now.place = search (rules, common_steps) in
    (stands, HasGiven-bad _ g.met.F.Framing.kept g.met.F.Framing.positive stands bad, bad, at ∙ stands.place)

pub returns-in-Known-clause-stands : goal.returns-in-Known-clause-stands
returns-in-Known-clause-stands g c =
    let gives : GivesMessage g.F.Framing.size c.args.self.now c.give.new.self c.give.result = search (rules, common_steps) in
    StandsFor-gives _ gives

pub returns-in-Known-2-clause-stands : goal.returns-in-Known-2-clause-stands
returns-in-Known-2-clause-stands g c = λ stream given stands.
    let part : IsPartial g.F.Framing.size c.args.self.now.rest = search (rules, common_steps) in
    (stands, HasGiven-partial _ g.met.F.Framing.kept g.met.F.Framing.positive stands part, part)

pub returns-in-Known-2-2-clause-stands : goal.returns-in-Known-2-2-clause-stands
returns-in-Known-2-2-clause-stands g c = λ stream given stands.
    let part : IsPartial g.F.Framing.size c.args.self.now.rest = search (rules, common_steps) in
    (stands, HasGiven-partial _ g.met.F.Framing.kept g.met.F.Framing.positive stands part, part)
