use Rattle.std.proofs.Common.{◌≡◌, drop}
use Rattle.message_tables.specs.Comments.{without_blanks}
use Rattle.message_tables.proofs.comments.is_comment.Given as goal

abbrev pub invariant-loop-index : goal.invariant-loop-index
invariant-loop-index l = without_blanks l.line ≡ without_blanks (drop l.index l.line)
