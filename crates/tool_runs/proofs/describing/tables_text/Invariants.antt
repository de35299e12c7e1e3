use Rattle.std.proofs.Common.{◌≡◌, take}
use Rattle.std.specs.List.{flat_map}
use Rattle.message_tables.specs.View.{messages_in}
use Rattle.tool_runs.specs.Describing.{message_line}
use Rattle.tool_runs.proofs.describing.tables_text.Given as goal

abbrev pub invariant-loop-index : goal.invariant-loop-index
invariant-loop-index l = l.text ≡ flat_map message_line (take l.index (messages_in l.tables))
