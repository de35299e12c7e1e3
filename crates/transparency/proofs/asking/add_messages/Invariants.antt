use Rattle.std.proofs.Common.{◌≡◌, ◌++◌, length}
use Rattle.framing.specs.Cutting.{cut}
use Rattle.transparency.proofs.asking.add_messages.Given as goal

-- the messages that are left are those that weren't added yet
abbrev pub invariant-loop-count : goal.invariant-loop-count
invariant-loop-count g l = l.messages.items ++ (cut g.F.Framing.size l.rest).messages ≡ l.initial.messages.items ++ (cut g.F.Framing.size l.initial.rest).messages

abbrev pub decreases-loop-count : goal.decreases-loop-count
decreases-loop-count g l = length l.rest
