use Rattle.std.proofs.Common.{map, ap, sym, ◌∙◌}
use Rattle.many_serving.specs.Proxy.{ManyProxy}
use Rattle.many_io.specs.Record.{without_device}
use Rattle.serving_loop.specs.Face.{first_waiting}
use Rattle.serving_loop.proofs.one.AnyManyProxyCore.waiting_from.Goals as goal

pub returns-clause-place : goal.returns-clause-place
returns-clause-place g c = λ p past kept.
    c.waiting_from.ensures.place kept.proxy (map without_device past) kept.kept ∙ ap (λ (q : ManyProxy). first_waiting q past c.args.from) (sym kept.same)
