use Rattle.std.proofs.Common.{List, ℕ, ◌++◌, map, ap, ◌∙◌}
use Rattle.message_tables.specs.Messages.{MessageForm}
use Rattle.message_tables.specs.View.{messages_in}
use Rattle.watched_link.specs.Notes.{event_of}
use Rattle.link_lines.specs.Lines.{lines_of}
use Rattle.program.proofs.watching.lines_of.Goals as goal

pub returns : goal.returns
returns c = λ all is short.
    c.in_ok-push_lines.ensures all is short
    ∙ ap (λ (l : List ℕ). l ++ lines_of c.args.kind (messages_in c.in_ok-tables.tables) (map event_of all)) c.new-lines.ensures
    ∙ ap (λ (tables : List MessageForm). lines_of c.args.kind tables (map event_of all)) c.in_ok-tables.ensures.exact
