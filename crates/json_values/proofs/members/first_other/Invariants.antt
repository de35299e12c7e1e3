use Rattle.std.proofs.Common.{◌≡◌, map}
use Rattle.serde_json.specs.View.{members_view}
use Rattle.json_values.specs.Given.{first_other}
use Rattle.json_values.proofs.members.first_other.Given as goal

abbrev pub invariant-loop-key : goal.invariant-loop-key
invariant-loop-key g l =
    first_other (map g.T.Named.called l.named) (members_view l.fn.members.entries) ≡ first_other (map g.T.Named.called l.named) (members_view l.key-iterator)
