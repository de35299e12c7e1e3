-- What a command that describes the messages of a file does to its files, and what it prints.
use Rattle.std.specs.Prelude.{◌≡◌, ℕ, ◌/◌, ◌%◌, Bool, List, [], ◌++◌, length, Option, Some, None, Result, Ok, Err, codes, decimal, if◌then◌else◌}
use Rattle.std.specs.List.{flat_map}
use Rattle.std.specs.Str.{encode_utf8_all}
use Rattle.kit_io.specs.Growth.{Grows, GrowsByFront}
use Rattle.file_io.specs.Calls.{Call}
use Rattle.file_io.specs.Reading.{GrowsByFile}
use Rattle.file_io.specs.declared.reading.FileFault.{FileFault}
use Rattle.file_io.specs.declared.reading.FileFault.TheVariants as file
use Rattle.message_tables.specs.declared.fault.TableFault.{TableFault}
use Rattle.message_tables.specs.declared.fault.TableFault.TheVariants as table
use Rattle.message_tables.specs.Messages.{MessageForm}
use Rattle.message_tables.specs.Tables.{tables_in}
use Rattle.named_messages.specs.Reading.{named_in}
use Rattle.named_messages.specs.declared.fault.NamedFault.{NamedFault}
use Rattle.named_messages.specs.declared.fault.NamedFault.TheVariants as named
use Rattle.named_messages.specs.Described.{message_text}
use Rattle.qmicli_print.specs.declared.shown.Shown.TheVariants.{Service}
use Rattle.qmicli_print.specs.Words.{word_of}
use Rattle.print_text.specs.Texts.{hex_pair}
use Rattle.print_text.specs.Lines.{or_ok}
use Rattle.tool_runs.specs.declared.run_end.RunEnd.{RunEnd}
use Rattle.tool_runs.specs.declared.run_end.RunEnd.TheVariants as run

-- ---- the text ----

-- nothing where there is no word
abbrev pub word_if : Option (List ℕ) → List ℕ
word_if None = []
word_if (Some word) = word

abbrev pub kind_word : Bool → List ℕ
kind_word indication = if indication then codes " indication 0x" else codes " message 0x"

-- an id in four digits
abbrev pub id_digits : ℕ → List ℕ
id_digits id = hex_pair (id / 256) ++ hex_pair (id % 256)

unfoldable pub count_text : List ℕ → ℕ → List ℕ → List ℕ
count_text front count back = front ++ decimal count ++ back

-- service, kind, id, name, and how many TLVs it has
unfoldable pub message_line : MessageForm → List ℕ
message_line m =
    word_if (word_of Service m.service) ++ kind_word m.indication ++ id_digits m.id ++ codes " " ++ encode_utf8_all m.name
    ++ count_text (codes ": ") (length m.input) (codes " in") ++ count_text (codes ", ") (length m.output) (codes " out\n")

abbrev pub tables_text : List MessageForm → List ℕ
tables_text messages = or_ok (flat_map message_line messages)

-- ---- what is printed ----

-- the descriptions are a text whose messages have these lines, or have this fault
abbrev pub PrintsTables : List ℕ → Option (List ℕ) → RunEnd → Option (List ℕ) → Type 0
PrintsTables text before run.Done after = (messages : List MessageForm) × (tables_in text ≡ Ok messages) × Grows before (tables_text messages) after
PrintsTables text before run.WriteFault after = (messages : List MessageForm) × (tables_in text ≡ Ok messages) × GrowsByFront before (tables_text messages) after
PrintsTables text before (run.TableFault (Some fault)) after = (tables_in text ≡ Err fault) × Grows before [] after
PrintsTables text before run.OutOfMemory after = Grows before [] after
PrintsTables text before _ after = ⊥

-- how a command ends whose file isn't read
abbrev pub end_of_file : FileFault → RunEnd
end_of_file file.ReadFault = run.ReadFault
end_of_file file.Long = run.TableFault None
end_of_file file.OutOfMemory = run.OutOfMemory

abbrev pub end_of_tables : TableFault → RunEnd
end_of_tables table.OutOfMemory = run.OutOfMemory
end_of_tables fault = run.TableFault (Some fault)

abbrev pub SaysTables : Result (List ℕ) FileFault → Option (List ℕ) → RunEnd → Option (List ℕ) → Type 0
SaysTables (Ok text) before ends after = PrintsTables text before ends after
SaysTables (Err why) before ends after = (ends ≡ end_of_file why) × Grows before [] after

-- the file at this path was read, and what it describes was printed
pub record Describes (path : List ℕ) (before after : Option (List Call)) (out : Option (List ℕ)) (ends : RunEnd) (printed : Option (List ℕ)) : Type 0 where
  pub read : Result (List ℕ) FileFault
  pub reads : GrowsByFile path before read after
  pub says : SaysTables read out ends printed

-- ---- the message of a name ----

-- the descriptions have one message of this name, whose lines are these, or have this fault
abbrev pub PrintsMessage : (text name : List ℕ) → Option (List ℕ) → RunEnd → Option (List ℕ) → Type 0
PrintsMessage text name before run.Done after = (message : MessageForm) × (named_in name text ≡ Ok message) × Grows before (message_text message) after
PrintsMessage text name before run.WriteFault after = (message : MessageForm) × (named_in name text ≡ Ok message) × GrowsByFront before (message_text message) after
PrintsMessage text name before (run.MessageFault fault) after = (named_in name text ≡ Err fault) × Grows before [] after
PrintsMessage text name before run.OutOfMemory after = Grows before [] after
PrintsMessage text name before _ after = ⊥

abbrev pub end_of_message : NamedFault → RunEnd
end_of_message named.OutOfMemory = run.OutOfMemory
end_of_message fault = run.MessageFault fault

abbrev pub SaysMessage : Result (List ℕ) FileFault → (name : List ℕ) → Option (List ℕ) → RunEnd → Option (List ℕ) → Type 0
SaysMessage (Ok text) name before ends after = PrintsMessage text name before ends after
SaysMessage (Err why) name before ends after = (ends ≡ end_of_file why) × Grows before [] after

-- the file at this path was read, and what its message of a name takes and gives was printed
pub record DescribesMessage (path name : List ℕ) (before after : Option (List Call)) (out : Option (List ℕ)) (ends : RunEnd) (printed : Option (List ℕ)) : Type 0 where
  pub read : Result (List ℕ) FileFault
  pub reads : GrowsByFile path before read after
  pub says : SaysMessage read name out ends printed

-- all messages of a file are described, or the one of a name, which is in characters
abbrev pub DescribesFile : (path : List ℕ) → Option (List ℕ) → Option (List Call) → Option (List Call) → Option (List ℕ) → RunEnd → Option (List ℕ) → Type 0
DescribesFile path None before after out ends printed = Describes path before after out ends printed
DescribesFile path (Some name) before after out ends printed = DescribesMessage path (encode_utf8_all name) before after out ends printed
