-- The values that a profile's members may have.
use Rattle.std.specs.Prelude.{ℕ, suc, ◌||◌, nat_le, ℤ, pos, negsuc, int_lt, List, [], ◌∷◌, length, codes, Option, Some, None, if◌then◌else◌, option_and_then, option_map}
use Rattle.std.specs.Result.{result_ok}
use Rattle.std.specs.Str.{chars}
use Rattle.hex.specs.Hex.{decode_of}
use Rattle.serde_json.specs.Data.{Data, Items, no_items, item}
use Rattle.serde_json.specs.Find.{get, as_str, as_number, as_array, as_u64, as_i64}
use Rattle.modem_profile.specs.declared.phonebook.PhonebookEntry.{PhonebookEntry}
use Rattle.modem_profile.specs.Limits.{is_short_ascii, is_phonebook_text}

-- ---- texts ----

-- the characters of a text
abbrev pub text_of : Data → Option (List ℕ)
text_of value = option_map chars (as_str value)

abbrev pub if_short_ascii : List ℕ → Option (List ℕ)
if_short_ascii text = if is_short_ascii text then Some text else None

-- a text of at most 100 characters, all of ASCII
unfoldable pub ascii_text : Data → Option (List ℕ)
ascii_text value = option_and_then if_short_ascii (text_of value)

-- ---- numbers, which are integers ----

abbrev pub if_code : ℕ → Option ℕ
if_code number = if nat_le number 999 then Some number else None

-- a mobile country code or mobile network code, from 0 to 999
unfoldable pub network_code : Data → Option ℕ
network_code value = option_and_then if_code (option_and_then as_u64 (as_number value))

abbrev pub if_signal : ℤ → Option ℤ
if_signal number = if int_lt number (negsuc 127) || int_lt (pos 0) number then None else Some number

-- a strength in dBm, from -128 to 0
unfoldable pub signal_strength : Data → Option ℤ
signal_strength value = option_and_then if_signal (option_and_then as_i64 (as_number value))

-- ---- lists ----

-- what each value of a list gives, if each gives something
abbrev pub each : {A : Type 0} → (Data → Option A) → Items → Option (List A)
each read no_items = Some []
each read (item value values) = option_and_then (λ first. option_map (λ more. first ∷ more) (each read values)) (read value)

abbrev pub items_length : Items → ℕ
items_length no_items = 0
items_length (item value values) = suc (items_length values)

-- the values of a list that has at most 100
abbrev pub few_values : Data → Option Items
few_values value = option_and_then (λ values. if nat_le (items_length values) 100 then Some values else None) (as_array value)

-- a list of at most 100 values
abbrev pub short_list : {A : Type 0} → (Data → Option A) → Data → Option (List A)
short_list read value = option_and_then (each read) (few_values value)

abbrev pub if_short : List ℕ → Option (List ℕ)
if_short bytes = if nat_le (length bytes) 255 then Some bytes else None

-- the bytes of a message, as an even number of hexadecimal digits, at most 510 of them
unfoldable pub pdu : Data → Option (List ℕ)
pdu value = option_and_then if_short (option_and_then (λ text. result_ok (decode_of text)) (as_str value))

unfoldable pub pdus : Data → Option (List (List ℕ))
pdus = short_list pdu

abbrev pub if_phonebook_text : List ℕ → Option (List ℕ)
if_phonebook_text text = if is_phonebook_text text then Some text else None

-- a text of at most 100 units of UTF-16
unfoldable pub phonebook_text : Data → Option (List ℕ)
phonebook_text value = option_and_then if_phonebook_text (text_of value)

abbrev pub entry_of : List ℕ → List ℕ → PhonebookEntry
entry_of number name = record { number = number; name = name }

-- an object with two such texts, `number` and `name`
unfoldable pub phonebook_entry : Data → Option PhonebookEntry
phonebook_entry value =
    option_and_then (λ number. option_map (entry_of number) (option_and_then phonebook_text (get (codes "name") value)))
    (option_and_then phonebook_text (get (codes "number") value))

unfoldable pub phonebook_entries : Data → Option (List PhonebookEntry)
phonebook_entries = short_list phonebook_entry
