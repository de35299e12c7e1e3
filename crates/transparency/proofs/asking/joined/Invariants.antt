use Rattle.std.proofs.Common.{◌≡◌, ◌++◌, drop}
use Rattle.std.specs.List.{concat}
use Rattle.transparency.proofs.asking.joined.Given as goal

-- the messages that are left are those that weren't added yet
abbrev pub invariant-loop-message : goal.invariant-loop-message
invariant-loop-message l = l.bytes ++ concat (drop l.message-index l.messages) ≡ concat l.messages
