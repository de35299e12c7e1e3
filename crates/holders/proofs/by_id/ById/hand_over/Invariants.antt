use Rattle.std.proofs.Common.{◌≡◌, ◌==◌, filter, drop}
use Rattle.holders.specs.Rows.{all_granted}
use Rattle.holders.proofs.by_id.ById.hand_over.Given as goal

-- what is left to be handed over, handed over, is all that there was, handed over
abbrev pub invariant-loop-row : goal.invariant-loop-row
invariant-loop-row l = all_granted l.other (filter (λ g. l.number == g.conn) (drop l.row-index l.row-items)) l.to ≡ all_granted l.other (filter (λ g. l.number == g.conn) l.row-items) l.initial.to
