use Rattle.std.proofs.Common.{◌≡◌, length}
use Rattle.rig_trace.specs.Rows.{first_with}
use Rattle.rig_notes.proofs.ledger.first_with.Given as goal

-- none of those so far has it
abbrev pub invariant-loop-row : goal.invariant-loop-row
invariant-loop-row l = first_with l.fn.key l.rest ≡ first_with l.fn.key l.fn.rows

abbrev pub decreases-loop-row : goal.decreases-loop-row
decreases-loop-row l = length l.rest
