use Rattle.std.proofs.Common.{sym, ◌∙◌}
use Rattle.modem_rules.proofs.Continued.{HasRead-begin, HasRead-part, HasRead-none, HasRead-all}
use Rattle.modem_rules.proofs.lists.rules_of.Goals as goal

pub loop-value-init : goal.loop-value-init
loop-value-init g c = rw c.new-rules.ensures.items (HasRead-begin c.args.list (g.T.Rule.read c.args.kind) c.args.values.now)

pub returns-in_default : goal.returns-in_default
returns-in_default g c =
    rw c.as_slice.ensures.value
    (HasRead-none c.args.list (g.T.Rule.read c.args.kind) c.args.values.now c.loop-value.value-index c.loop-value.rules.items c.value-item.result c.loop-value-test.true c.value-item.is c.loop-value.invariant
    (sym c.in_ok-rule.ensures ∙ c.in_default.is))

pub loop-value-preserved : goal.loop-value-preserved
loop-value-preserved g c =
    rw c.in_ok-push.ensures.items
    (HasRead-part c.args.list (g.T.Rule.read c.args.kind) c.args.values.now c.loop-value.value-index c.loop-value.rules.items c.value-item.result c.loop-value-test.true c.value-item.is c.loop-value.invariant
    c.in-Some.rule (sym c.in_ok-rule.ensures ∙ c.in-Some.is))

pub returns : goal.returns
returns g c = HasRead-all c.args.list (g.T.Rule.read c.args.kind) c.args.values.now c.loop-value.value-index c.loop-value.rules.items c.loop-value-test.false c.loop-value.invariant
