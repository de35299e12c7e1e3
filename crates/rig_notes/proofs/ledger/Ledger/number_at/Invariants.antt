use Rattle.std.proofs.Common.{◌≡◌, length}
use Rattle.rig_trace.specs.Rows.{number_at}
use Rattle.rig_notes.proofs.ledger.Ledger.number_at.Given as goal

-- it isn't among those so far
abbrev pub invariant-loop-row : goal.invariant-loop-row
invariant-loop-row g l = number_at l.fn.conn l.fn.place l.rest ≡ number_at l.fn.conn l.fn.place l.fn.self.rows

abbrev pub decreases-loop-row : goal.decreases-loop-row
decreases-loop-row g l = length l.rest
