use Rattle.std.proofs.Common.{ℕ, List, ◌++◌, ◌∙◌, ap, codes, decimal}
use Rattle.mbimcli_print.specs.Texts.{uuid_text}
use Rattle.dissect.specs.Mbim.{body_line}
use Rattle.dissect.proofs.Joined.{both, then_two}
use Rattle.dissect.proofs.mbim_body.push_body_line.Goals as goal

pub returns : goal.returns
unfolding body_line
returns c =
    let old : List ℕ = c.args.text.now in
    let uuid : List ℕ = uuid_text c.args.uuid in
    let cid : List ℕ = decimal c.args.cid in
    let named : List ℕ = codes "  " ++ uuid in
    let numbered : List ℕ = (named ++ codes " cid ") ++ cid in
    let name_is = c.in_ok-extend_from_slices.ensures.ok ∙ ap (λ (l : List ℕ). (old ++ codes "  ") ++ l) (c.as_slice.ensures ∙ c.in_ok-name.ensures) in
    let number_is = c.in_ok-push_number.ensures ∙ ap (λ (n : ℕ). (c.extend_from_slices.new.self ++ codes " cid ") ++ decimal n) c.from.ensures in
    then_two old numbered c.args.more.now (codes "\n") (then_two old named (codes " cid ") cid (both old (codes "  ") uuid name_is) number_is) c.in_ok-extend_from_slices-2.ensures.ok
