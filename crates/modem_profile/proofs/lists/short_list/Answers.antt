use Rattle.std.proofs.Common.{sym, ◌∙◌, Some, None}
use Rattle.serde_json.specs.View.{view, items_view}
use Rattle.modem_profile.proofs.Continued.{HasRead-part, HasRead-none, HasRead-all, short_list-reads}
use Rattle.modem_profile.proofs.lists.short_list.Goals as goal

pub returns-in_default-2 : goal.returns-in_default-2
returns-in_default-2 g c =
    short_list-reads g.T.Listed.read (view c.args.value.now) (items_view c.in-Some.values.now) None c.in-Some.ensures
    (HasRead-none g.T.Listed.read c.in-Some.values.now c.loop-value.value-index c.loop-value.list.items c.value-item.result c.loop-value-test.true c.value-item.is c.loop-value.invariant
    (sym c.in_ok-item.ensures ∙ c.in_default-2.is))

pub loop-value-preserved : goal.loop-value-preserved
loop-value-preserved g c =
    rw c.in_ok-push.ensures.items
    (HasRead-part g.T.Listed.read c.in-Some.values.now c.loop-value.value-index c.loop-value.list.items c.value-item.result c.loop-value-test.true c.value-item.is c.loop-value.invariant
    c.in-Some-2.item (sym c.in_ok-item.ensures ∙ c.in-Some-2.is))

pub returns : goal.returns
returns g c =
    short_list-reads g.T.Listed.read (view c.args.value.now) (items_view c.in-Some.values.now) (Some c.loop-value.list.items) c.in-Some.ensures
    (HasRead-all g.T.Listed.read c.in-Some.values.now c.loop-value.value-index c.loop-value.list.items c.loop-value-test.false c.loop-value.invariant)
