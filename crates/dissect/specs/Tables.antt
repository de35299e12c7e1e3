-- What dissecting a capture does to the files, and what it prints, by tables that are read before.
use Rattle.std.specs.Prelude.{◌≡◌, ℕ, List, [], Option, Some, None, Result, Ok, Err}
use Rattle.std.specs.Str.{encode_utf8_all}
use Rattle.kit_bytes.specs.declared.kind.Kind.{Kind}
use Rattle.kit_io.specs.Growth.{Grows}
use Rattle.file_io.specs.Calls.{Call}
use Rattle.file_io.specs.Reading.{GrowsByFile}
use Rattle.file_io.specs.declared.reading.FileFault.{FileFault}
use Rattle.file_io.specs.declared.reading.FileFault.TheVariants as file
use Rattle.message_tables.specs.Tables.{tables_in}
use Rattle.message_tables.specs.View.{messages_in}
use Rattle.message_tables.specs.declared.fault.TableFault.{TableFault}
use Rattle.message_tables.specs.declared.fault.TableFault.TheVariants as table
use Rattle.message_tables.specs.declared.tables.Tables.{Tables}
use Rattle.qmi_services.specs.BuiltIn.{built_in}
use Rattle.stream_lines.specs.Capture.{GrowBy, ShowsCapture}
use Rattle.stream_lines.specs.declared.end.DissectEnd.{DissectEnd}
use Rattle.stream_lines.specs.declared.end.DissectEnd.TheVariants as shown
use Rattle.dissect.specs.Stream.{lines, size_by}
use Rattle.dissect.specs.declared.capture_end.CaptureEnd.{CaptureEnd}
use Rattle.dissect.specs.declared.capture_end.CaptureEnd.TheVariants as capture

-- ---- the tables ----

-- how it ends where the file of the tables isn't read
abbrev pub end_of_file : FileFault → CaptureEnd
end_of_file file.ReadFault = capture.ReadFault
end_of_file file.Long = capture.TableFault None
end_of_file file.OutOfMemory = capture.OutOfMemory

abbrev pub end_of_tables : TableFault → CaptureEnd
end_of_tables table.OutOfMemory = capture.OutOfMemory
end_of_tables fault = capture.TableFault (Some fault)

-- a text has these tables, or this fault; want of memory comes at any text
abbrev pub HasTables : List ℕ → Result Tables CaptureEnd → Type 0
HasTables text (Ok tables) = tables_in text ≡ Ok (messages_in tables)
HasTables text (Err (capture.TableFault (Some fault))) = tables_in text ≡ Err fault
HasTables text (Err capture.OutOfMemory) = Unit {0}
HasTables text (Err _) = ⊥

abbrev pub HasRead : Result (List ℕ) FileFault → Result Tables CaptureEnd → Type 0
HasRead (Ok text) tables = HasTables text tables
HasRead (Err why) tables = tables ≡ Err (end_of_file why)

-- the file at a path was read, and has these tables
pub record TablesOfFile (path : List ℕ) (before : Option (List Call)) (tables : Result Tables CaptureEnd) (after : Option (List Call)) : Type 0 where
  pub read : Result (List ℕ) FileFault
  pub reads : GrowsByFile path before read after
  pub has : HasRead read tables

abbrev pub AreBuiltIn : Result Tables CaptureEnd → Type 0
AreBuiltIn (Ok tables) = messages_in tables ≡ built_in
AreBuiltIn (Err end) = end ≡ capture.OutOfMemory

-- where no file is named, none is touched, and the tables are those that are built in; paths are in characters
abbrev pub TablesOf : Option (List ℕ) → Option (List Call) → Result Tables CaptureEnd → Option (List Call) → Type 0
TablesOf None before tables after = AreBuiltIn tables × Grows before [] after
TablesOf (Some path) before tables after = TablesOfFile (encode_utf8_all path) before tables after

-- ---- the capture ----

-- what is told of the files and of the output
pub record Told : Type 0 where
  pub files : Option (List Call)
  pub out : Option (List ℕ)

-- the tables were found, by which the capture was then shown; or they weren't, and nothing more was done
pub data Dissects (kind : Kind) (tables : Option (List ℕ)) (turns : ℕ) (path : List ℕ) (before after : Told) (ends : CaptureEnd) : Type 0 where
  by_tables : (found : Tables) (middle : Option (List Call)) (end : DissectEnd) → TablesOf tables before.files (Ok found) middle
      → GrowBy (ShowsCapture (size_by kind) (lines kind (messages_in found)) turns (encode_utf8_all path) end) middle before.out after.files after.out
      → ends ≡ capture.Shown end → Dissects kind tables turns path before after ends
  no_tables : TablesOf tables before.files (Err ends) after.files → Grows before.out [] after.out → Dissects kind tables turns path before after ends

-- a read failed, of the tables or of the capture
abbrev pub IsReadFault : CaptureEnd → Type 0
IsReadFault capture.ReadFault = Unit {0}
IsReadFault (capture.Shown shown.ReadFault) = Unit {0}
IsReadFault _ = ⊥
