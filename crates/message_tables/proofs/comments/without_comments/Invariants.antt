use Rattle.std.proofs.Common.{◌≡◌, ◌++◌, length}
use Rattle.message_tables.specs.Comments.{json_text}
use Rattle.message_tables.proofs.comments.without_comments.Given as goal

abbrev pub invariant-loop-rest : goal.invariant-loop-rest
invariant-loop-rest l = l.kept.items ++ json_text l.rest ≡ json_text l.text

abbrev pub decreases-loop-rest : goal.decreases-loop-rest
decreases-loop-rest l = length l.rest
