use Rattle.std.proofs.Common.{map, ap, ◌∙◌}
use Rattle.std.proofs.lemmas.List.{map_push}
use Rattle.kit_bytes.specs.Subscriptions.{by_service}
use Rattle.mbim_fields.specs.View.{value_view}
use Rattle.mbim_services.specs.SubscribeLists.{subscription_value}
use Rattle.mbim_services.proofs.Runs.{is-run}
use Rattle.sim_mbim.proofs.Events.{events-more, all_events}
use Rattle.sim_mbim.proofs.lists.events_of.Goals as goal

pub loop-left-preserved : goal.loop-left-preserved
loop-left-preserved c =
    events-more (map value_view c.loop-left.events.items) (map value_view c.push.new.self.items) (map subscription_value (by_service c.args.pairs.now)) c.loop-left.left.now c.split_at.result.0.now c.split_at.result.1.now
    c.run_length.result (value_view c.in_ok-event.event) (is-run c.loop-left.left.now c.run_length.result c.run_length.ensures.some c.run_length.ensures.run) c.split_at.ensures.front c.split_at.ensures.back c.in_ok-event.ensures
    (ap (map value_view) c.in_ok-push.ensures.items ∙ map_push value_view c.loop-left.events.items c.in_ok-event.event) c.loop-left.invariant

pub returns : goal.returns
returns c = all_events (map value_view c.loop-left.events.items) (map subscription_value (by_service c.args.pairs.now)) c.loop-left.left.now c.is_empty.result c.is_empty.ensures c.loop-left-test.false c.loop-left.invariant
