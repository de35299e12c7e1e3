use Rattle.std.proofs.Common.{ap, ◌∙◌}
use Rattle.std.specs.List.{position}
use Rattle.sim_serving.proofs.Places.{is_named, left_is, left_none}
use Rattle.sim_serving.proofs.sim_core.SimCore.leave.Goals as goal

pub returns-in-Some : goal.returns-in-Some
returns-in-Some g c = left_is c.self.view_is c.args.name c.in-Some.place (c.in-Some.ensures.place ∙ ap (position (is_named c.args.name)) c.deref.ensures.value) c.remove.result c.remove.ensures.value c.remove.new.self.items c.remove.ensures.items

pub returns-in_default : goal.returns-in_default
returns-in_default g c = left_none c.self.view_is c.args.name (c.in_default.ensures.place ∙ ap (position (is_named c.args.name)) c.deref.ensures.value)
