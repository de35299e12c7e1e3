use Rattle.std.proofs.Common.{ap, sym, ◌∙◌}
use Rattle.std.specs.List.{position}
use Rattle.sim_serving.proofs.Places.{is_named, queue_is, queue_none}
use Rattle.sim_serving.proofs.sim_core.SimCore.queued.Goals as goal

pub returns-in-Some : goal.returns-in-Some
returns-in-Some g c = c.queued.ensures ∙ sym (queue_is c.self.view_is c.args.name c.in-Some.place (c.in-Some.ensures.place ∙ ap (position (is_named c.args.name)) c.deref.ensures.value) c.index-client.result.now c.index-client.ensures)

pub returns-in-None : goal.returns-in-None
returns-in-None g c = sym (queue_none c.self.view_is c.args.name (c.in-None.ensures.place ∙ ap (position (is_named c.args.name)) c.deref.ensures.value))
