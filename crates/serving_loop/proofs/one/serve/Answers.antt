use Rattle.serving_loop.proofs.AsOne.{opened_as_one, served_as_one}
use Rattle.serving_loop.proofs.one.serve.Goals as goal

pub serve_devices-requires-clause-opened : goal.serve_devices-requires-clause-opened
serve_devices-requires-clause-opened g c = (_, opened_as_one g.C.ProxyCore.keeps g.C.ProxyCore.face c.requires.opened.0 c.args.core c.requires.opened.1)

pub returns-clause-served : goal.returns-clause-served
returns-clause-served g c = λ p kept.
    served_as_one _ _ p c.args.until c.args.turns g.C.ProxyCore.lacks_memory c.serve_devices.result
    (c.serve_devices.ensures.served _ (opened_as_one g.C.ProxyCore.keeps g.C.ProxyCore.face p c.args.core kept))
