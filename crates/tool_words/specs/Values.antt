-- The values of options.
use Rattle.std.specs.Prelude.{◌≡◌, ℕ, ◌==◌, ◌&&◌, ◌||◌, ◌-◌, ◌^◌, Bool, false, not, nat_lt, nat_le, codes, List, length, slice_index, Option, Some, None, Result, Ok, Err, if◌then◌else◌, option_and_then, option_map, unwrap_or}
use Rattle.std.specs.Char.{is_ascii_digit}
use Rattle.hex.specs.Hex.{decode_of}
use Rattle.std.specs.List.{after_first, before_first, list_all, position_or_len}
use Rattle.std.specs.Result.{result_ok}
use Rattle.std.specs.Str.{bytes_eq, chars}
use Rattle.std.specs.Str.Parse.{digits_value}
use Rattle.kit_bytes.specs.declared.Kind.{Kind}
use Rattle.kit_bytes.specs.declared.Kind.TheVariants.{Qmi, Mbim}
use Rattle.tool_words.specs.declared.fault.UsageKind.TheVariants.{Value}
use Rattle.tool_words.specs.declared.fault.WordFault.{WordFault}
use Rattle.tool_words.specs.declared.fault.WordFault.TheVariants as fault

-- values one after another, each of which has to read
infixl 10 ◌>>=◌
abbrev pub ◌>>=◌ : {A B : Type 0} → Option A → (A → Option B) → Option B
value >>= next = option_and_then next value

-- ---- numbers ----

-- digits alone, and no zero before another digit
abbrev pub is_decimal : List ℕ → Bool
is_decimal text = if length text == 0 || (not (length text == 1) && slice_index text 0 == 48) then false else list_all is_ascii_digit text

-- the number of 64 bits that the text spells
unfoldable pub number_in : List ℕ → Option ℕ
number_in text = if is_decimal text && nat_lt (digits_value 10 text) (2 ^ 64) then Some (digits_value 10 text) else None

abbrev pub if_within : ℕ → ℕ → ℕ → Option ℕ
if_within least most number = if nat_le least number && nat_le number most then Some number else None

-- the same, if it is within these limits
unfoldable pub number_within : ℕ → ℕ → List ℕ → Option ℕ
number_within least most text = option_and_then (if_within least most) (number_in text)

abbrev pub number_8_in : List ℕ → Option ℕ
number_8_in = number_within 0 (2 ^ 8 - 1)

abbrev pub number_32_in : List ℕ → Option ℕ
number_32_in = number_within 0 (2 ^ 32 - 1)

-- the number, or the default where there is no text
unfoldable pub number_or : ℕ → ℕ → ℕ → Option (List ℕ) → Option ℕ
number_or default least most (Some text) = number_within least most text
number_or default least most None = Some default

-- after how many events the program ends: 0 to 1,000,000,000,000, and as many as may be where there is no text
abbrev pub turns_in : Option (List ℕ) → Option ℕ
turns_in = number_or (10 ^ 12) 0 (10 ^ 12)

-- ---- kinds of modems ----

-- the kind of this name
unfoldable pub kind_named : List ℕ → Option Kind
kind_named name =
    if bytes_eq name (codes "qmi") then Some Qmi
    else if bytes_eq name (codes "mbim") then Some Mbim
    else None

-- the same, or the default where there is no text
unfoldable pub kind_or : Kind → Option (List ℕ) → Option Kind
kind_or default (Some text) = kind_named text
kind_or default None = Some default

-- ---- texts ----

-- the characters of a path, which has 1 to 4,096 bytes
unfoldable pub path_in : List ℕ → Option (List ℕ)
path_in text = if nat_le 1 (length text) && nat_le (length text) 4096 then Some (chars text) else None

-- the same, or that of the default where there is no text
unfoldable pub path_or : List ℕ → Option (List ℕ) → Option (List ℕ)
path_or default text = path_in (unwrap_or text default)

-- the characters of a text in a request, which has at most 1,000 bytes
unfoldable pub short_in : List ℕ → Option (List ℕ)
short_in text = if nat_le (length text) 1000 then Some (chars text) else None

-- a value that needn't be there
abbrev pub optional : {A : Type 0} → (List ℕ → Option A) → Option (List ℕ) → Option (Option A)
optional read None = Some None
optional read (Some text) = option_map (λ value. Some value) (read text)

-- the text before the first of these bytes and the one behind it, if there is one
abbrev pub split_at : ℕ → List ℕ → Option (List ℕ × List ℕ)
split_at separator text = if nat_lt (position_or_len (λ byte. byte == separator) text) (length text)
    then Some (before_first (λ byte. byte == separator) text, after_first (λ byte. byte == separator) text) else None

-- ---- options of some commands ----

-- whether an option is given, which it may be only beside a command that has it
abbrev pub flag_of : (given has : Bool) → Option Bool
flag_of given has = if given && not has then None else Some given

-- ---- bytes ----

abbrev pub if_short : List ℕ → Option (List ℕ)
if_short octets = if nat_le (length octets) 255 then Some octets else None

-- the bytes of pairs of hexadecimal digits, of either case, at most 255 of them
unfoldable pub octets_in : List ℕ → Option (List ℕ)
octets_in text = option_and_then if_short (result_ok (decode_of text))

-- ---- what a reader of values answers ----

-- the value, or where there is none the fault that says so; want of memory is free
abbrev pub Gives : {T : Type 0} → Option T → Result T WordFault → Type 0
Gives expected (Ok value) = expected ≡ Some value
Gives expected (Err (fault.Usage kind)) = (expected ≡ None) × (kind ≡ Value)
Gives expected (Err fault.OutOfMemory) = Unit {0}
