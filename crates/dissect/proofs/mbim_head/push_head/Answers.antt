use Rattle.std.proofs.Common.{ℕ, List, ◌++◌, ◌∙◌, ap, Option, codes, decimal}
use Rattle.mbim_frame.specs.declared.kind.MessageKind.{MessageKind}
use Rattle.mbim_frame.specs.Kinds.{kind_numbered}
use Rattle.dissect.specs.Mbim.{head_line, kind_by}
use Rattle.dissect.proofs.Joined.{then_one, then_two}
use Rattle.dissect.proofs.mbim_head.push_head.Goals as goal

pub returns : goal.returns
unfolding head_line
returns c =
    let old : List ℕ = c.args.text.now in
    let place : List ℕ = decimal c.args.place in
    let begun : List ℕ = place ++ codes " " in
    let name : List ℕ = kind_by c.args.head.kind (kind_numbered c.args.head.kind) in
    let number : List ℕ = decimal c.args.head.number in
    let name_is = c.in_ok-push_kind.ensures ∙ ap (λ (kind : Option MessageKind). c.extend_from_slice.new.self ++ kind_by c.args.head.kind kind) c.message_kind.ensures in
    let number_is = c.in_ok-push_number.ensures ∙ ap (λ (n : ℕ). (c.push_kind.new.text ++ codes " number ") ++ decimal n) c.from.ensures in
    let to_name = then_one old begun name (then_one old place (codes " ") c.in_ok-push_decimal.ensures c.in_ok-extend_from_slice.ensures.ok) name_is in
    then_one old (((begun ++ name) ++ codes " number ") ++ number) (codes "\n") (then_two old (begun ++ name) (codes " number ") number to_name number_is) c.in_ok-extend_from_slice-2.ensures.ok
