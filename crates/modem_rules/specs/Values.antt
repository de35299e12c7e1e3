-- The values that rules are in JSON.
use Rattle.std.specs.Prelude.{ℕ, ◌-◌, ◌^◌, Bool, false, true, ◌&&◌, ◌==◌, nat_le, List, length, codes, Option, Some, None, is_some, if◌then◌else◌, option_and_then, option_map}
use Rattle.std.specs.Result.{result_ok}
use Rattle.hex.specs.Hex.{decode_of}
use Rattle.uuid.specs.Text.{parsed}
use Rattle.serde_json.specs.Data.{Data, Members}
use Rattle.serde_json.specs.Events.{members_len}
use Rattle.serde_json.specs.Find.{get, as_null, as_bool, as_str, as_number, as_object, as_u64}
use Rattle.kit_bytes.specs.declared.Kind.{Kind}
use Rattle.kit_bytes.specs.declared.Kind.TheVariants.{Qmi, Mbim}
use Rattle.modem_rules.specs.declared.kind.RequestKind.{RequestKind}
use Rattle.modem_rules.specs.declared.kind.RequestKind.TheVariants.{Message, Command}
use Rattle.modem_rules.specs.declared.rules.AnswerRule.{AnswerRule}
use Rattle.modem_rules.specs.declared.rules.Failure.{Failure}
use Rattle.modem_rules.specs.declared.rules.Failure.TheVariants.{Refused, Silent, HungUp, Late}
use Rattle.modem_rules.specs.declared.rules.FaultRule.{FaultRule}
use Rattle.modem_rules.specs.declared.rules.IndicationRule.{IndicationRule}
use Rattle.modem_rules.specs.declared.rules.When.{When}
use Rattle.modem_rules.specs.declared.rules.When.TheVariants.{After, Each}

-- one member after another, if each has such a value
infixl 10 ◌>>=◌
abbrev pub ◌>>=◌ : {A B : Type 0} → Option A → (A → Option B) → Option B
found >>= next = option_and_then next found

-- ---- members ----

abbrev pub count_of : Option Members → ℕ
count_of None = 0
count_of (Some members) = members_len members

-- whether it has so many members in all
unfoldable pub has_members : (count : ℕ) → Data → Bool
has_members count value = count_of (as_object value) == count

-- each member that a rule has is needed, so that where it has so many there is none of another name
abbrev pub if_members : {A : Type 0} → (count : ℕ) → Data → A → Option A
if_members count members rule = if has_members count members then Some rule else None

-- ---- numbers, which are integers ----

abbrev pub if_within : (least most number : ℕ) → Option ℕ
if_within least most number = if nat_le least number && nat_le number most then Some number else None

unfoldable pub number_within : (least most : ℕ) → Data → Option ℕ
number_within least most value = option_and_then (if_within least most) (option_and_then as_u64 (as_number value))

unfoldable pub number_in : (name : List ℕ) → (least most : ℕ) → Data → Option ℕ
number_in name least most members = option_and_then (number_within least most) (get name members)

-- ---- kinds of requests ----

-- a UUID in one of its forms of text
abbrev pub uuid_in : Data → Option (List ℕ)
uuid_in members = option_and_then parsed (option_and_then as_str (get (codes "service") members))

-- to a QMI modem the numbers of a service and of its message, to an MBIM modem the UUID of a service and the number of its command
abbrev pub kind_in : Kind → Data → Option RequestKind
kind_in Qmi members = do
  service ← number_in (codes "service") 0 0xff members
  message ← number_in (codes "message") 0 0xffff members
  Some (Message service message)
kind_in Mbim members = do
  service ← uuid_in members
  command ← number_in (codes "command") 0 0xffff_ffff members
  Some (Command service command)

-- by an object that has no other members
unfoldable pub kind_alone : Kind → Data → Option RequestKind
kind_alone kind members = do
  request ← kind_in kind members
  if_members 2 members request

-- ---- what is sent ----

abbrev pub if_short : List ℕ → Option (List ℕ)
if_short bytes = if nat_le (length bytes) 60_000 then Some bytes else None

abbrev pub bytes_of : List ℕ → Option (List ℕ)
bytes_of digits = result_ok (decode_of digits)

-- the bytes of an even number of hexadecimal digits
unfoldable pub data_in : Data → Option (List ℕ)
data_in members = option_and_then if_short (option_and_then bytes_of (option_and_then as_str (get (codes "data") members)))

-- ---- rules ----

unfoldable pub answer_rule : Kind → Data → Option AnswerRule
answer_rule kind members = do
  request ← kind_in kind members
  bytes ← data_in members
  if_members 3 members (record { kind = request; «data» = bytes })

-- an error of QMI has 16 bits, and a status of MBIM has 32
abbrev pub most_error : Kind → ℕ
most_error Qmi = 0xffff
most_error Mbim = 0xffff_ffff

-- null says that the request isn't answered
abbrev pub failure_of : Kind → Data → Option Failure
failure_of kind value = if is_some (as_null value) then Some Silent else option_map Refused (number_within 1 (most_error kind) value)

abbrev pub hang_up_if : Option Bool → Option Failure
hang_up_if (Some true) = Some HungUp
hang_up_if (Some false) = None
hang_up_if None = None

-- how many ticks of the clock a member says: at least one, and at most 32 bits
abbrev pub ticks_in : (name : List ℕ) → Data → Option ℕ
ticks_in name members = number_in name 1 0xffff_ffff members

-- true alone says that the connection ends; else the answer is late by so many ticks
abbrev pub other_failure : (hangs_up : Option Data) → (members : Data) → Option Failure
other_failure None members = option_map Late (ticks_in (codes "ticks") members)
other_failure (Some value) members = hang_up_if (as_bool value)

abbrev pub other_failure_in : Data → Option Failure
other_failure_in members = other_failure (get (codes "hangs_up") members) members

abbrev pub failure_by : Kind → (error : Option Data) → (members : Data) → Option Failure
failure_by kind None members = other_failure_in members
failure_by kind (Some value) members = failure_of kind value

-- by its error, or otherwise where it has no error
unfoldable pub failure_in : Kind → Data → Option Failure
failure_in kind members = failure_by kind (get (codes "error") members) members

unfoldable pub fault_rule : Kind → Data → Option FaultRule
fault_rule kind members = do
  request ← kind_in kind members
  nth ← number_in (codes "nth") 1 (2 ^ 64 - 1) members
  failure ← failure_in kind members
  if_members 4 members (record { kind = request; nth = nth; failure = failure })

abbrev pub when_by : Kind → (after : Option Data) → (members : Data) → Option When
when_by kind None members = option_map Each (ticks_in (codes "each") members)
when_by kind (Some request) members = option_map After (kind_alone kind request)

-- behind requests of a kind, or each so many ticks where no kind is named
unfoldable pub when_in : Kind → Data → Option When
when_in kind members = when_by kind (get (codes "after") members) members

unfoldable pub indication_rule : Kind → Data → Option IndicationRule
indication_rule kind members = do
  when ← when_in kind members
  indicated ← kind_in kind members
  bytes ← data_in members
  if_members 4 members (record { when = when; kind = indicated; «data» = bytes })
