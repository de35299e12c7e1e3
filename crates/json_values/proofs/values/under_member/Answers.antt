use Rattle.std.proofs.Common.{ℕ, List, ◌∙◌, subst}
use Rattle.std.proofs.lemmas.Str.{encodes_same}
use Rattle.json_values.specs.Answers.{IsUnder}
use Rattle.json_values.specs.declared.path.Step.TheVariants.{Member}
use Rattle.json_values.proofs.values.under_member.Goals as goal

pub returns-in-Ok : goal.returns-in-Ok
returns-in-Ok c =
    let same = encodes_same c.in-Ok.name c.args.name.now (c.in-Ok.ensures ∙ c.as_str.ensures) in
    subst (λ (name : List ℕ). IsUnder (Member name) c.args.fault c.under.result) same c.under.ensures
