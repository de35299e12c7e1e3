use Rattle.std.proofs.Common.{ap, ◌∙◌}
use Rattle.std.specs.Str.{encode_utf8_all}
use Rattle.sim_serving.specs.Core.{LacksMemory}
use Rattle.sim_serving.specs.Proxy.{served}
use Rattle.sim_runs.proofs.Opened.{opened_serves}
use Rattle.sim_runs.proofs.serving.serve_so_at.Goals as goal

pub returns-in-Ok-clause-serves : goal.returns-in-Ok-clause-serves
returns-in-Ok-clause-serves g c = λ conduct kept.
    opened_serves (LacksMemory g.S.ServedSim.by_clock) (g.H.Hub.calls c.args.hub.now) _ _ (served g.S.Framing.Framing.size conduct) c.args.socket.now _ c.args.turns c.serve_so.result
    (c.as_str.ensures ∙ ap encode_utf8_all c.value.ensures.same) c.in-Ok.ensures.calls (c.serve_so.ensures.served conduct kept)
