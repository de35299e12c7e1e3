use Rattle.std.proofs.Common.{ℕ, ◌≤◌, List, length, ap, ◌∙◌, subst}
use Rattle.std.specs.List.{position}
use Rattle.sim_serving.proofs.Places.{is_named, queue_is, took_is, took_none}
use Rattle.sim_serving.proofs.sim_core.SimCore.take.Goals as goal

pub take-requires : goal.take-requires
take-requires g c =
    subst (λ (l : List ℕ). c.args.count ≤ length l) (queue_is c.self.view_is c.args.name c.in-Some.place (c.in-Some.ensures.place ∙ ap (position (is_named c.args.name)) c.deref.ensures.value) c.index_mut-client.result.now c.index_mut-client.ensures.value) c.requires

pub returns-in-Some : goal.returns-in-Some
returns-in-Some g c = took_is c.self.view_is c.args.name c.in-Some.place (c.in-Some.ensures.place ∙ ap (position (is_named c.args.name)) c.deref.ensures.value) c.index_mut-client.result.now c.index_mut-client.ensures.value c.args.count c.take.new.self c.take.ensures

pub returns-in_default : goal.returns-in_default
returns-in_default g c = took_none c.self.view_is c.args.name (c.in_default.ensures.place ∙ ap (position (is_named c.args.name)) c.deref.ensures.value) c.args.count
