-- The lines of a captured stream, by the kind of its messages.
use Rattle.std.specs.Prelude.{ℕ, List}
use Rattle.kit_bytes.specs.declared.kind.Kind.{Kind}
use Rattle.kit_bytes.specs.declared.kind.Kind.TheVariants.{Qmi, Mbim}
use Rattle.framing.specs.declared.framing.Size.{Size}
use Rattle.qmux_frame.specs.Frame as qmux
use Rattle.mbim_frame.specs.Frame as mbim
use Rattle.message_tables.specs.Messages.{MessageForm}
use Rattle.stream_lines.specs.Lines.{Showing, lines_by}
use Rattle.dissect.specs.Qmi.{qmi_lines}
use Rattle.dissect.specs.Mbim.{mbim_lines}

-- how a kind of stream is cut into messages
abbrev pub size_by : Kind → List ℕ → Size
size_by Qmi = qmux.size_of
size_by Mbim = mbim.size_of

-- the lines that a message has behind others
abbrev pub shown_by : Kind → List MessageForm → Showing
shown_by Qmi tables = qmi_lines tables
shown_by Mbim tables = mbim_lines

-- the lines of the whole messages of a stream
abbrev pub lines : Kind → List MessageForm → List ℕ → List ℕ
lines kind tables bytes = lines_by (size_by kind) (shown_by kind tables) bytes
