use Rattle.std.proofs.Common.{◌≡◌, Bool, ap, ◌∙◌, arith, if◌then◌else◌}
use Rattle.std.specs.Prelude.{slice_index}
use Rattle.kit_bytes.specs.Numbers.{number_at}
use Rattle.qmux_frame.specs.declared.head.Head.{Head}
use Rattle.qmi_state.proofs.asked.read.Goals as goal

pub returns-clause-small : goal.returns-clause-small
returns-clause-small c = λ control.
    let head = c.args.head.now in
    let is : c.read.result.number ≡ slice_index head 7 =
    ap (λ (h : Head). h.number) c.read.ensures ∙ ap (λ (b : Bool). if b then slice_index head 7 else number_at head 7 2) control
    in
    let small = c.type_inv.head 7 in
    omega (arith, is, small)
