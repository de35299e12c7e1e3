-- The texts of short messages.
use Rattle.std.specs.Prelude.{ℕ, List, [], ◌∷◌, ◌++◌, length, codes, decimal, Option, Some, None, Result, Ok, Err}
use Rattle.std.specs.List.{filter_map, flat_map}
use Rattle.print_text.specs.Lines.{line}
use Rattle.print_text.specs.Texts.{escaped_text, hex_pair}
use Rattle.sms_pdu.specs.declared.pdu.Pdu.{Pdu}
use Rattle.sms_pdu.specs.declared.pdu.Part.{Part}
use Rattle.sms_pdu.specs.declared.pdu.Body.{Body}
use Rattle.sms_pdu.specs.declared.pdu.Body.TheVariants.{Written, Raw}
use Rattle.sms_pdu.specs.declared.pdu.PduFault.{PduFault}
use Rattle.sms_pdu.specs.declared.pdu.PduFault.TheVariants.{Kind, Short, OutOfMemory}
use Rattle.sms_pdu.specs.declared.joined.Joined.{Joined}
use Rattle.sms_pdu.specs.Reading.{pdu}
use Rattle.sms_print.specs.declared.decoding.Decoding.{Decoding}
use Rattle.sms_print.specs.declared.decoding.Decoding.TheVariants as decoding
use Rattle.sms_pdu.specs.Joining.{joined}

abbrev pub text_line : (indent name chars : List ℕ) → List ℕ
text_line indent name chars = line indent name (escaped_text chars)

-- ---- a message that is read ----

abbrev pub time_line : (time : List ℕ) → List ℕ
time_line [] = []
time_line (char ∷ time) = text_line [] (codes "Time") (char ∷ time)

abbrev pub part_shown : Part → List ℕ
part_shown part = decimal part.place ++ codes " of " ++ decimal part.total ++ codes ", reference " ++ decimal part.reference

abbrev pub part_line : Option Part → List ℕ
part_line None = []
part_line (Some part) = line [] (codes "Part") (part_shown part)

abbrev pub body_line : Body → List ℕ
body_line (Written text) = text_line [] (codes "Text") text
body_line (Raw octets) = line [] (codes "Data") (flat_map hex_pair octets)

abbrev pub pdu_text : Pdu → List ℕ
pdu_text read = text_line [] (codes "Sender") read.address ++ time_line read.time ++ part_line read.part ++ body_line read.body

-- ---- a message, read or not ----

abbrev pub short_text : (place : ℕ) → List ℕ
short_text place = line [] (codes "PDU") (codes "short at " ++ decimal place)

-- why it isn't read; that the memory doesn't do is no answer of reading
abbrev pub fault_text : PduFault → List ℕ
fault_text Kind = line [] (codes "PDU") (codes "kind")
fault_text (Short place) = short_text place
fault_text OutOfMemory = []

abbrev pub read_text : Result Pdu PduFault → List ℕ
read_text (Ok read) = pdu_text read
read_text (Err fault) = fault_text fault

abbrev pub message_text : (bytes : List ℕ) → List ℕ
message_text bytes = read_text (pdu bytes)

-- ---- all messages ----

abbrev pub read_or_none : Result Pdu PduFault → Option Pdu
read_or_none (Ok read) = Some read
read_or_none (Err fault) = None

-- those that are read
abbrev pub read_ones : (bodies : List (List ℕ)) → List Pdu
read_ones bodies = filter_map (λ bytes. read_or_none (pdu bytes)) bodies

abbrev pub joined_lines : Joined → List ℕ
joined_lines one = text_line (codes "  ") (codes "Sender") one.address ++ text_line (codes "  ") (codes "Text") one.text

abbrev pub joined_text : List Joined → List ℕ
joined_text list = line [] (codes "Joined") (decimal (length list)) ++ flat_map joined_lines list

-- each message, and then the whole ones
abbrev pub all_text : (bodies : List (List ℕ)) → List ℕ
all_text bodies = flat_map message_text bodies ++ joined_text (joined (read_ones bodies))

-- so far as messages are told
unfoldable pub decoded_text : Decoding → (bodies : List (List ℕ)) → List ℕ
decoded_text decoding.Nothing bodies = []
decoded_text decoding.Each bodies = flat_map message_text bodies
decoded_text decoding.Joined bodies = all_text bodies

-- ---- bodies that are to be sent ----

-- in upper-case hexadecimal
abbrev pub hex_line : (body : List ℕ) → List ℕ
hex_line body = flat_map hex_pair body ++ codes "\n"

abbrev pub hex_lines : (bodies : List (List ℕ)) → List ℕ
hex_lines bodies = flat_map hex_line bodies
