use Rattle.std.proofs.Common.{◌≡◌, ℕ, suc, ◌+◌, ◌++◌, ◌∙◌, List, take, ap, sym, arith}
use Rattle.std.specs.List.{flat_map}
use Rattle.message_tables.specs.View.{message_view, messages_in}
use Rattle.tool_runs.specs.Describing.{message_line}
use Rattle.tool_runs.proofs.Lines.{flat_map-take}
use Rattle.tool_runs.proofs.describing.tables_text.Goals as goal

pub loop-index-preserved : goal.loop-index-preserved
loop-index-preserved c =
    let next : suc c.loop-index.index ≡ c.loop-index.index + 1 = omega arith in
    c.in_ok-push_message.ensures
    ∙ ap (λ (l : List ℕ). l ++ message_line (message_view c.at.result.now)) c.loop-index.invariant
    ∙ sym (flat_map-take message_line (messages_in c.args.tables.now) c.loop-index.index (message_view c.at.result.now) c.at.ensures)
    ∙ ap (λ (n : ℕ). flat_map message_line (take n (messages_in c.args.tables.now))) next
