use Rattle.std.proofs.Common.{◌≡◌, ◌++◌, false}
use Rattle.std.specs.Vec.Iter.{into_iter_items}
use Rattle.message_tables.specs.WellMade.{again_behind}
use Rattle.message_tables.specs.View.{messages_in}
use Rattle.message_tables.proofs.tables.Tables.from_messages.Given as goal

abbrev pub invariant-loop-message : goal.invariant-loop-message
invariant-loop-message l =
    (goal.iterator-loop-message).can_next l.message-iterator × (goal.iterator-loop-message).is_finite l.message-iterator
    × (l.tables ++ into_iter_items l.message-iterator ≡ l.fn.messages.items) × (again_behind (messages_in l.tables) (messages_in (into_iter_items l.message-iterator)) ≡ false)
