use Rattle.std.proofs.Common.{ap, ◌∙◌}
use Rattle.std.specs.Str.{encode_utf8_all}
use Rattle.sim_serving.specs.Core.{TakesMemory}
use Rattle.sim_serving.specs.Proxy.{proxy_of}
use Rattle.sim_runs.proofs.Opened.{opened_serves}
use Rattle.sim_runs.proofs.serving.serve_at.Goals as goal

pub returns-in-Ok-clause-serves : goal.returns-in-Ok-clause-serves
returns-in-Ok-clause-serves g c = λ answers kept.
    opened_serves TakesMemory (g.H.Hub.calls c.args.hub.now) _ _ (proxy_of g.S.Framing.Framing.size answers) c.args.socket.now _ c.args.turns c.serve_sim.result
    (c.as_str.ensures ∙ ap encode_utf8_all c.value.ensures.same) c.in-Ok.ensures.calls (c.serve_sim.ensures.served answers kept)
