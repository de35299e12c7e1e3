-- What a tool tells of its link, where its words want that.
use Rattle.std.specs.Prelude.{◌≡◌, ◌⊎◌, ℕ, Bool, true, false, List, [], ◌++◌, map, Option, Some, None, Result, Ok, Err, codes}
use Rattle.std.specs.Str.{encode_utf8_all}
use Rattle.kit_bytes.specs.declared.kind.Kind.{Kind}
use Rattle.kit_io.specs.Record.{Noted}
use Rattle.kit_io.specs.Growth.{Grows}
use Rattle.watched_link.specs.declared.note.LinkNote.{LinkNote}
use Rattle.watched_link.specs.Notes.{event_of}
use Rattle.link_lines.specs.Directions.{AreShort}
use Rattle.link_lines.specs.Lines.{Fault, lines_of, text_of}
use Rattle.qmi_services.specs.BuiltIn.{built_in}
use Rattle.tool_words.specs.declared.command.ToolCommand.{ToolCommand}
use Rattle.tool_words.specs.declared.command.ToolCommand.TheVariants.{Qmicli, Mbimcli, Pump, Request}
use Rattle.tool_words.specs.declared.fault.UsageKind.{UsageKind}
use Rattle.program.specs.declared.status.Status.{Status}
use Rattle.program.specs.declared.status.Status.TheVariants as status
use Rattle.program.specs.Status.{line_of}

abbrev pub kind_if : Bool → Kind → Option Kind
kind_if true kind = Some kind
kind_if false kind = None

-- the kind of the messages that are told, where a command wants that
abbrev pub told_kind : ToolCommand → Option Kind
told_kind (Qmicli task) = kind_if task.link.verbose task.link.kind
told_kind (Mbimcli task) = kind_if task.link.verbose task.link.kind
told_kind (Request task) = kind_if task.link.verbose task.link.kind
told_kind _ = None

abbrev pub kind_in : Result ToolCommand UsageKind → Option Kind
kind_in (Ok command) = told_kind command
kind_in (Err why) = None

abbrev pub node_if : Bool → List ℕ → Option (List ℕ)
node_if true node = Some node
node_if false node = None

-- the node of a pump that is to tell why it failed
abbrev pub told_node : ToolCommand → Option (List ℕ)
told_node (Pump read node bridge verbose) = node_if verbose node
told_node _ = None

abbrev pub node_in : Result ToolCommand UsageKind → Option (List ℕ)
node_in (Ok command) = told_node command
node_in (Err why) = None

-- the line that says why a node failed whose pump ended so; its path is in characters
abbrev pub node_lines : Option (List ℕ) → (words : List ℕ) → Status → List ℕ
node_lines (Some node) words status.ReadFault = text_of (Fault (encode_utf8_all node) words)
node_lines (Some node) words status.WriteFault = text_of (Fault (encode_utf8_all node) words)
node_lines _ words result = []

-- the lines of what was noted, or that there was no memory for them
abbrev pub Tells : Kind → Option (List (Noted LinkNote)) → Option (List ℕ) → Option (List ℕ) → Type 0
Tells kind notes old new =
    Grows old (codes "! out of memory\n") new
    ⊎ ((text : List ℕ) × Grows old text new × ((all : List (Noted LinkNote)) → notes ≡ Some all → AreShort (map event_of all) → text ≡ lines_of kind built_in (map event_of all)))

-- a line, and before it what is told
abbrev pub Reports : Option Kind → Option (List (Noted LinkNote)) → (line : List ℕ) → Option (List ℕ) → Option (List ℕ) → Type 0
Reports None notes line old new = Grows old line new
Reports (Some kind) notes line old new = (between : Option (List ℕ)) × Tells kind notes old between × Grows between line new

-- the line of a status, so; or alone, where there was no memory to read the words
abbrev pub Reported : Option Kind → Option (List (Noted LinkNote)) → Status → Option (List ℕ) → Option (List ℕ) → Type 0
Reported kind notes result old new = Reports kind notes (line_of result) old new ⊎ ((result ≡ status.OutOfMemory) × Grows old (line_of result) new)

-- the line of a status, and before it why a node failed; or alone, where there was no memory to begin
abbrev pub SaysOfNode : Option (List ℕ) → (words : List ℕ) → Status → Option (List ℕ) → Option (List ℕ) → Type 0
SaysOfNode node words result old new =
    ((between : Option (List ℕ)) × Grows old (node_lines node words result) between × Grows between (line_of result) new)
    ⊎ ((result ≡ status.OutOfMemory) × Grows old (line_of result) new)

-- the line of a status, and before it all that is told of a link or a node; or alone, where there was no memory to begin
abbrev pub ReportedWhole : Result ToolCommand UsageKind → Option (List (Noted LinkNote)) → (words : List ℕ) → Status → Option (List ℕ) → Option (List ℕ) → Type 0
ReportedWhole asked notes words result old new =
    ((between : Option (List ℕ)) × Grows old (node_lines (node_in asked) words result) between × Reports (kind_in asked) notes (line_of result) between new)
    ⊎ ((result ≡ status.OutOfMemory) × Grows old (line_of result) new)
