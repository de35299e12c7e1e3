use Rattle.std.proofs.Common.{◌≡◌, map, drop}
use Rattle.std.specs.List.{list_any}
use Rattle.json_values.specs.Given.{is_named}
use Rattle.json_values.proofs.members.has_name.Given as goal

abbrev pub invariant-loop-one : goal.invariant-loop-one
invariant-loop-one g l =
    list_any (is_named l.key) (map g.T.Named.called l.named) ≡ list_any (is_named l.key) (map g.T.Named.called (drop l.one-index l.named))
