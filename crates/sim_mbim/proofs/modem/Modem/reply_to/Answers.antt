use Rattle.std.proofs.Common.{Bool, List, option_map, map, if◌then◌else◌, sym, ap, ◌∙◌}
use Rattle.mbim_fields.specs.Value.{Value, list_of}
use Rattle.mbim_fields.specs.View.{shape_view, val_view}
use Rattle.mbim_services.specs.Table.{layout_for}
use Rattle.mbim_services.specs.declared.table.Way.{Way}
use Rattle.sim_mbim.specs.BasicConnect.{set_list}
use Rattle.sim_mbim.specs.Commands.{replied, outcome, way, reply_in}
use Rattle.sim_mbim.proofs.Outcomes.{reply-read}
use Rattle.sim_mbim.proofs.modem.Modem.reply_to.Goals as goal

pub returns-in_ok-reply_to_values-in-Ok : goal.returns-in_ok-reply_to_values-in-Ok
returns-in_ok-reply_to_values-in-Ok c =
    let head = c.args.head.now in
    let buffer = c.args.buffer.now in
    let m = c.args.self.now in
    ap (λ (b : Bool). if b then replied head m (set_list buffer m) else reply_in head buffer m (layout_for head.uuid head.cid (way head.set))) (sym c.is_list_set.ensures ∙ c.if-is_list_set.false)
    ∙ reply-read head buffer m (layout_for head.uuid head.cid (way head.set)) (shape_view c.in-Some.shape) (list_of (val_view c.in-Ok.asked)) _
    (ap (λ (w : Way). layout_for head.uuid head.cid w) (sym c.way.ensures) ∙ sym c.layout.ensures ∙ ap (option_map shape_view) c.in-Some.is) c.in-Ok.ensures.ok
    (ap (λ (values : List Value). replied head m (outcome head values m)) c.as_slice.ensures ∙ c.in_ok-reply_to_values-in-Ok.ensures)
