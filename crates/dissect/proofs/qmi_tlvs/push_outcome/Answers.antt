use Rattle.std.proofs.Common.{ℕ, List, ◌++◌, ◌∙◌, ap, codes, decimal}
use Rattle.kit_bytes.specs.Numbers.{number_at}
use Rattle.dissect.specs.Qmi.{outcome_line}
use Rattle.dissect.proofs.Joined.{both, then_one, then_two}
use Rattle.dissect.proofs.qmi_tlvs.push_outcome.Goals as goal

pub returns : goal.returns
unfolding outcome_line
returns c =
    let old : List ℕ = c.args.text.now in
    let value : List ℕ = c.args.value.now in
    let first : List ℕ = codes "  0x02: status " ++ decimal (number_at value 0 2) in
    let second : List ℕ = (first ++ codes ", error ") ++ decimal (number_at value 2 2) in
    let status = c.in_ok-push_number.ensures ∙ ap (λ (n : ℕ). (old ++ codes "  0x02: status ") ++ decimal n) (c.from.ensures ∙ c.u16_at.ensures) in
    let error = c.in_ok-push_number-2.ensures ∙ ap (λ (n : ℕ). (c.push_number.new.text ++ codes ", error ") ++ decimal n) (c.from-2.ensures ∙ c.u16_at-2.ensures) in
    then_one old second (codes "\n")
    (then_two old first (codes ", error ") (decimal (number_at value 2 2)) (both old (codes "  0x02: status ") (decimal (number_at value 0 2)) status) error)
    c.in_ok-extend_from_slice.ensures.ok
