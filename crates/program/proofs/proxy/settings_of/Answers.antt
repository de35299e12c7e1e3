use Rattle.std.proofs.Common.{List, ℕ, ap, ◌∙◌}
use Rattle.std.proofs.lemmas.Str.{encodes_same}
use Rattle.program.specs.Serving.{Asked, asked_in}
use Rattle.program.proofs.proxy.settings_of.Goals as goal

pub returns : goal.returns
returns c =
    ap (λ (device : List ℕ). let asked : Asked = record (asked_in c.args.task.now) { device = device } in asked)
    (encodes_same _ _ (c.in_ok-from_str.ensures ∙ c.as_str.ensures) ∙ c.value.ensures.same)
