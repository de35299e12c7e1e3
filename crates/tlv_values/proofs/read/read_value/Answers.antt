use Rattle.std.proofs.Common.{sym, arith}
use Rattle.qmi_shapes.specs.View.{shape_view}
use Rattle.tlv_values.proofs.Readings.{read-back, unread}
use Rattle.tlv_values.proofs.read.read_value.Goals as goal

pub returns-in-Ok : goal.returns-in-Ok
returns-in-Ok c = sym (read-back (shape_view c.args.shape.now) _ c.args.bytes.now c.requires c.in-Ok.ensures.ok)

pub returns-in-Err-Short : goal.returns-in-Err-Short
returns-in-Err-Short c =
    let refused = rw c.in-Err-Short.field-0-is at c.in-Err-Short.ensures.err in
    sym (unread (shape_view c.args.shape.now) c.args.bytes.now (λ k. omega (arith, c.type_inv.bytes k)) refused.1)

pub returns-in-Err-Over : goal.returns-in-Err-Over
returns-in-Err-Over c =
    let refused = rw c.in-Err-Over.field-0-is at c.in-Err-Over.ensures.err in
    sym (unread (shape_view c.args.shape.now) c.args.bytes.now (λ k. omega (arith, c.type_inv.bytes k)) refused.1)
