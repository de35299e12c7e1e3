use Rattle.std.proofs.Common.{sym, ◌∙◌}
use Rattle.table_requests.proofs.Found.{here, behind, nowhere}
use Rattle.table_requests.proofs.forms.form_of.Goals as goal

pub loop-form-preserved : goal.loop-form-preserved
loop-form-preserved c = c.loop-form.invariant ∙ behind c.args.kind c.args.forms.now c.loop-form.form-index c.form-item.result c.loop-form-test.true c.form-item.is c.if-form-kind.false

pub returns-then-form-kind : goal.returns-then-form-kind
returns-then-form-kind c = sym (c.loop-form.invariant ∙ here c.args.kind c.args.forms.now c.loop-form.form-index c.form-item.result c.loop-form-test.true c.form-item.is c.if-form-kind.true)

pub returns : goal.returns
returns c = sym (c.loop-form.invariant ∙ nowhere c.args.kind c.args.forms.now c.loop-form.form-index c.loop-form-test.false)
