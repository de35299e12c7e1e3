use Rattle.std.proofs.Common.{ℕ, List, ◌++◌, codes, decimal}
use Rattle.dissect.specs.Lines.{hex}
use Rattle.dissect.specs.Qmi.{unframed_line}
use Rattle.dissect.proofs.Joined.{then_one}
use Rattle.dissect.proofs.qmi_message.push_unframed.Goals as goal

pub returns : goal.returns
unfolding unframed_line
returns c =
    let old : List ℕ = c.args.text.now in
    let place : List ℕ = decimal c.args.place in
    let name : List ℕ = place ++ codes " unframed: " in
    let bytes : List ℕ = hex c.args.message.now in
    then_one old (name ++ bytes) (codes "\n")
    (then_one old name bytes (then_one old place (codes " unframed: ") c.in_ok-push_decimal.ensures c.in_ok-extend_from_slice.ensures.ok) c.in_ok-push_hex.ensures)
    c.in_ok-extend_from_slice-2.ensures.ok
