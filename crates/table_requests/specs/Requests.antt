-- The TLVs of a request whose values a JSON object gives by their names.
-- Source: the member `input` in libqmi's data/qmi-service-*.json, and how its build-aux/qmi-codegen writes a request.
use Rattle.std.specs.Prelude.{ℕ, List, [], ◌∷◌, length, map, chars, nat_le, Option, Some, None, Result, Ok, Err, if◌then◌else◌}
use Rattle.std.specs.Str.{encode_utf8_all}
use Rattle.serde_json.specs.Data.{Data, Members}
use Rattle.serde_json.specs.Find.{get, as_object}
use Rattle.qmux_frame.specs.declared.writing.TheConstants.{LONGEST_TLVS}
use Rattle.tlv_codec.specs.Tlv.{Entry, tlv_text}
use Rattle.qmi_values.specs.Value.{Value}
use Rattle.tlv_values.specs.Spelling.{spelling}
use Rattle.message_tables.specs.Tables.{value_of}
use Rattle.message_tables.specs.Tlvs.{TlvForm}
use Rattle.message_tables.specs.Messages.{MessageForm}
use Rattle.named_messages.specs.Reading.{named_in}
use Rattle.named_messages.specs.declared.fault.NamedFault.{NamedFault}
use Rattle.json_values.specs.Paths.{Fitting, fitting_as, both}
use Rattle.json_values.specs.Given.{first_other, named_by, given}
use Rattle.table_requests.specs.declared.request_fault.RequestFault.{RequestFault}
use Rattle.table_requests.specs.declared.request_fault.RequestFault.TheVariants.{Tables, Json, NoTlv, Misfit, TooLong}

-- a TLV of a message, and a value of its form
pub record TlvValue : Type 0 where
  pub tlv : TlvForm
  pub value : Value

abbrev pub with_value : TlvForm → Value → List TlvValue → List TlvValue
with_value tlv value more = record { tlv = tlv; value = value } ∷ more

-- ---- values ----

abbrev pub given_first : TlvForm → Option Data → Fitting (List TlvValue) → Fitting (List TlvValue)
given_first tlv None more = more
given_first tlv (Some json) more = both (with_value tlv) (named_by tlv.name (given tlv.form) (Some json)) more

-- the TLVs whose names an object's members have, in the order of the message, each with the value that its member gives
abbrev pub tlvs_given : List TlvForm → Data → Fitting (List TlvValue)
tlvs_given [] json = Ok []
tlvs_given (tlv ∷ more) json = given_first tlv (get (encode_utf8_all tlv.name) json) (tlvs_given more json)

-- the bytes of the value that JSON gives a TLV
abbrev pub spelled_by : TlvForm → Data → Fitting (List ℕ)
spelled_by tlv json = fitting_as (spelling tlv.form) (named_by tlv.name (given tlv.form) (Some json))

-- ---- bytes ----

abbrev pub entry_of : TlvValue → Entry
entry_of one = record { kind = one.tlv.kind; value = spelling one.tlv.form one.value }

abbrev pub bytes_of : List TlvValue → List ℕ
bytes_of values = tlv_text (map entry_of values)

-- a message has room for these bytes
abbrev pub if_short : List ℕ → Result (List ℕ) RequestFault
if_short bytes = if nat_le (length bytes) LONGEST_TLVS then Ok bytes else Err TooLong

abbrev pub bytes_given : Fitting (List TlvValue) → Result (List ℕ) RequestFault
bytes_given (Ok values) = if_short (bytes_of values)
bytes_given (Err path) = Err (Misfit path)

abbrev pub names_of : List TlvForm → List (List ℕ)
names_of tlvs = map (λ tlv. tlv.name) tlvs

abbrev pub unless_other : Option (List ℕ) → Result (List ℕ) RequestFault → Result (List ℕ) RequestFault
unless_other None request = request
unless_other (Some key) request = Err (NoTlv (chars key))

abbrev pub request_by_members : List TlvForm → Option Members → Fitting (List TlvValue) → Result (List ℕ) RequestFault
request_by_members tlvs None values = Err Json
request_by_members tlvs (Some members) values = unless_other (first_other (names_of tlvs) members) (bytes_given values)

-- the TLVs that a JSON object gives to a message that takes these, or why it gives none
unfoldable pub request_of : List TlvForm → Data → Result (List ℕ) RequestFault
request_of tlvs json = request_by_members tlvs (as_object json) (tlvs_given tlvs json)

-- ---- texts ----

abbrev pub request_with : List TlvForm → Option Data → Result (List ℕ) RequestFault
request_with tlvs None = Err Json
request_with tlvs (Some json) = request_of tlvs json

-- a message of tables, and the TLVs of its request
pub record Asked : Type 0 where
  pub message : MessageForm
  pub tlvs : List ℕ

abbrev pub asked : MessageForm → Result (List ℕ) RequestFault → Result Asked RequestFault
asked message (Ok bytes) = Ok (record { message = message; tlvs = bytes })
asked message (Err fault) = Err fault

abbrev pub asked_by : Result MessageForm NamedFault → List ℕ → Result Asked RequestFault
asked_by (Err fault) text = Err (Tables fault)
asked_by (Ok message) text = asked message (request_with message.input (value_of text))

-- the request of the one message of a name in tables, with the values that a text in JSON gives
unfoldable pub request_by : List ℕ → List ℕ → List ℕ → Result Asked RequestFault
request_by tables name text = asked_by (named_in name tables) text
