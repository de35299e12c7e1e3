use Rattle.std.proofs.Common.{◌≡◌, ◌+◌, length, filter}
use Rattle.rig_trace.specs.Rows.{expires}
use Rattle.rig_notes.proofs.counting.expired.Given as goal

-- those of the rows that are left come to those so far
abbrev pub invariant-loop-row : goal.invariant-loop-row
invariant-loop-row l = l.now + length (filter (expires l.fn.before l.fn.after) l.rest) ≡ l.fn.expired + length (filter (expires l.fn.before l.fn.after) l.fn.rows)

abbrev pub decreases-loop-row : goal.decreases-loop-row
decreases-loop-row l = length l.rest
