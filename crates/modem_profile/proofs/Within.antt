-- What reads is within the limits.
use Rattle.std.proofs.Common.{◌≡◌, ℕ, suc, ◌≤◌, ◌||◌, Bool, true, false, nat_le, ℤ, pos, negsuc, ◌≤ℤ◌, int_lt, List, [], ◌∷◌, length, Option, Some, None, option_map, option_and_then, Result, Ok, Err, refl, leb-true, arith, true≢false, if◌then◌else◌}
use Rattle.std.specs.List.{AllByRecursion}
use Rattle.std.specs.Result.{result_ok}
use Rattle.std.proofs.lemmas.Int.{ints}
use Rattle.hex.specs.Hex.{decode_of}
use Rattle.serde_json.specs.Data.{Data, Items, no_items, item}
use Rattle.serde_json.specs.Find.{as_str, as_number, as_array, as_u64, as_i64}
use Rattle.modem_profile.specs.declared.fault.MemberName.{MemberName}
use Rattle.modem_profile.specs.declared.phonebook.PhonebookEntry.{PhonebookEntry}
use Rattle.modem_profile.specs.Limits.{IsWithin, IsShortAscii, is_short_ascii, IsPhonebookEntry, is_phonebook_text, utf16_length}
use Rattle.modem_profile.specs.Members.{value_in}
use Rattle.modem_profile.specs.declared.fault.ProfileFault.{ProfileFault}
use Rattle.modem_profile.specs.declared.fault.ProfileFault.TheVariants.{Json, Member, OutOfMemory}
use Rattle.modem_profile.specs.Answers.{Gives}
use Rattle.modem_profile.specs.Reading.{◌>>=◌, member_or, given_or, or_faulty}
use Rattle.modem_profile.specs.Values.{ascii_text, if_short_ascii, text_of, network_code, if_code, signal_strength, if_signal, each, few_values, items_length, if_short, pdu, pdus, if_phonebook_text, phonebook_text, entry_of, phonebook_entry, phonebook_entries}
use Rattle.modem_profile.specs.Profile.{default_profile}
use Rattle.modem_profile.proofs.Texts.{IsShortAscii-from_test}

-- ---- values that pass a test ----

-- what a test lets through
if_test : {A : Type 0} (a found : A) (test : Bool) → (if test then Some a else None) ≡ Some found → (test ≡ true) × (a ≡ found)
if_test a found true gives = (refl, cc)
if_test a found false gives = absurd (cc)

unless_test : {A : Type 0} (a found : A) (test : Bool) → (if test then None else Some a) ≡ Some found → (test ≡ false) × (a ≡ found)
unless_test a found true gives = absurd (cc)
unless_test a found false gives = (refl, cc)

-- a second step that gives something had something to begin with
from_step : {A B : Type 0} (P : B → Type 0) (next : A → Option B) (first : Option A) (b : B) → ((a : A) → next a ≡ Some b → P b) → option_and_then next first ≡ Some b → P b
from_step P next None b holds gives = absurd (cc)
from_step P next (Some a) b holds gives = holds a gives

pub ascii_text-short : (value : Data) (text : List ℕ) → ascii_text value ≡ Some text → IsShortAscii text
unfolding ascii_text
ascii_text-short value text gives =
    from_step IsShortAscii if_short_ascii (text_of value) text (λ found passes.
    let test = if_test found text (is_short_ascii found) passes in
    rw (← test.1) (IsShortAscii-from_test found test.0)) gives

pub network_code-limit : (value : Data) (code : ℕ) → network_code value ≡ Some code → code ≤ 999
unfolding network_code
network_code-limit value code gives =
    from_step (λ n. n ≤ 999) if_code (option_and_then as_u64 (as_number value)) code (λ found passes.
    let test = if_test found code (nat_le found 999) passes in
    rw (← test.1) (leb-true found 999 test.0)) gives

neither : (a b : Bool) → (a || b) ≡ false → (a ≡ false) × (b ≡ false)
neither true b none = absurd (true≢false none)
neither false b none = (refl, none)

not_below : (a b : ℤ) → int_lt a b ≡ false → b ≤ℤ a
not_below a b not = grind (arith, ints)

signal_from : (number strength : ℤ) → if_signal number ≡ Some strength → (negsuc 127 ≤ℤ strength) × (strength ≤ℤ pos 0)
signal_from number strength gives =
    let test = unless_test number strength (int_lt number (negsuc 127) || int_lt (pos 0) number) gives in
    let outside = neither (int_lt number (negsuc 127)) (int_lt (pos 0) number) test.0 in
    rw (← test.1) (not_below number (negsuc 127) outside.0, not_below (pos 0) number outside.1)

pub signal_strength-limits : (value : Data) (strength : ℤ) → signal_strength value ≡ Some strength → (negsuc 127 ≤ℤ strength) × (strength ≤ℤ pos 0)
unfolding signal_strength
signal_strength-limits value strength gives =
    from_step (λ z. (negsuc 127 ≤ℤ z) × (z ≤ℤ pos 0)) if_signal (option_and_then as_i64 (as_number value)) strength (λ found passes. signal_from found strength passes) gives

-- ---- lists ----

each-item : {A : Type 0} (P : A → Type 0) (list : List A) (first : Option A) (more : Option (List A))
    → ((a : A) → first ≡ Some a → P a) → ((rest : List A) → more ≡ Some rest → AllByRecursion P rest)
    → option_and_then (λ a. option_map (λ rest. a ∷ rest) more) first ≡ Some list → AllByRecursion P list
each-item P list None more holds rest gives = absurd (cc)
each-item P list (Some a) None holds rest gives = absurd (cc)
each-item P list (Some a) (Some found) holds rest gives =
    let is : a ∷ found ≡ list = cc in
    rw (← is) (holds a refl, rest found refl)

each-all : {A : Type 0} (P : A → Type 0) (read : Data → Option A) → ((value : Data) (a : A) → read value ≡ Some a → P a) → (values : Items) (list : List A) → each read values ≡ Some list → AllByRecursion P list
each-all P read holds no_items list gives =
    let is : [] ≡ list = cc in
    rw (← is) tt
each-all P read holds (item value values) list gives = each-item P list (read value) (each read values) (holds value) (each-all P read holds values) gives

each-count : {A : Type 0} (list : List A) (count : ℕ) (first : Option A) (more : Option (List A)) → ((rest : List A) → more ≡ Some rest → length rest ≡ count)
    → option_and_then (λ a. option_map (λ rest. a ∷ rest) more) first ≡ Some list → length list ≡ suc count
each-count list count None more rest gives = absurd (cc)
each-count list count (Some a) None rest gives = absurd (cc)
each-count list count (Some a) (Some found) rest gives =
    let is : a ∷ found ≡ list = cc in
    rw (← is, rest found refl) refl

each-length : {A : Type 0} (read : Data → Option A) (values : Items) (list : List A) → each read values ≡ Some list → length list ≡ items_length values
each-length read no_items list gives =
    let is : [] ≡ list = cc in
    rw (← is) refl
each-length read (item value values) list gives = each-count list (items_length values) (read value) (each read values) (each-length read values) gives

few-limit : (value : Data) (values : Items) → few_values value ≡ Some values → items_length values ≤ 100
few-limit value values gives =
    from_step (λ list. items_length list ≤ 100) (λ list. if nat_le (items_length list) 100 then Some list else None) (as_array value) values (λ found passes.
    let test = if_test found values (nat_le (items_length found) 100) passes in
    rw (← test.1) (leb-true (items_length found) 100 test.0)) gives

list_within : {A : Type 0} (P : A → Type 0) (read : Data → Option A) (few : Option Items) (list : List A)
    → ((values : Items) → few ≡ Some values → items_length values ≤ 100) → ((value : Data) (a : A) → read value ≡ Some a → P a)
    → option_and_then (each read) few ≡ Some list → AllByRecursion P list × (length list ≤ 100)
list_within P read None list limit holds gives = absurd (cc)
list_within P read (Some values) list limit holds gives = (each-all P read holds values list gives, rw (each-length read values list gives) (limit values refl))

pdu-limit : (value : Data) (bytes : List ℕ) → pdu value ≡ Some bytes → length bytes ≤ 255
unfolding pdu
pdu-limit value bytes gives =
    from_step (λ bytes. length bytes ≤ 255) if_short (option_and_then (λ text. result_ok (decode_of text)) (as_str value)) bytes (λ found passes.
    let test = if_test found bytes (nat_le (length found) 255) passes in
    rw (← test.1) (leb-true (length found) 255 test.0)) gives

pub pdus-within : (value : Data) (list : List (List ℕ)) → pdus value ≡ Some list → AllByRecursion (λ pdu. length pdu ≤ 255) list × (length list ≤ 100)
unfolding pdus
pdus-within value list gives = list_within (λ bytes. length bytes ≤ 255) pdu (few_values value) list (few-limit value) pdu-limit gives

text-limit : (value : Data) (text : List ℕ) → phonebook_text value ≡ Some text → utf16_length text ≤ 100
unfolding phonebook_text
text-limit value text gives =
    from_step (λ text. utf16_length text ≤ 100) if_phonebook_text (text_of value) text (λ found passes.
    let test = if_test found text (is_phonebook_text found) passes in
    rw (← test.1) (leb-true (utf16_length found) 100 test.0)) gives

entry_within : (number name : Option (List ℕ)) (entry : PhonebookEntry) → ((text : List ℕ) → number ≡ Some text → utf16_length text ≤ 100) → ((text : List ℕ) → name ≡ Some text → utf16_length text ≤ 100)
    → option_and_then (λ number. option_map (entry_of number) name) number ≡ Some entry → IsPhonebookEntry entry
entry_within None name entry numbers names gives = absurd (cc)
entry_within (Some number) None entry numbers names gives = absurd (cc)
entry_within (Some number) (Some name) entry numbers names gives =
    let is : entry_of number name ≡ entry = cc in
    rw (← is) (numbers number refl, names name refl)

member_limit : (member : Option Data) (text : List ℕ) → option_and_then phonebook_text member ≡ Some text → utf16_length text ≤ 100
member_limit None text gives = absurd (cc)
member_limit (Some value) text gives = text-limit value text gives

entry-limits : (value : Data) (entry : PhonebookEntry) → phonebook_entry value ≡ Some entry → IsPhonebookEntry entry
unfolding phonebook_entry
entry-limits value entry gives = entry_within _ _ entry (member_limit _) (member_limit _) gives

pub phonebook_entries-within : (value : Data) (list : List PhonebookEntry) → phonebook_entries value ≡ Some list → AllByRecursion IsPhonebookEntry list × (length list ≤ 100)
unfolding phonebook_entries
phonebook_entries-within value list gives = list_within IsPhonebookEntry phonebook_entry (few_values value) list (few-limit value) entry-limits gives

-- ---- members ----

given : {A : Type 0} (P : A → Type 0) (name : MemberName) (a : A) (found : Option A) → ((b : A) → found ≡ Some b → P b) → or_faulty name found ≡ Ok a → P a
given P name a None holds gives = absurd (cc)
given P name a (Some b) holds gives =
    let is : b ≡ a = cc in
    rw (← is) (holds b refl)

given-or : {A : Type 0} (P : A → Type 0) (name : MemberName) (read : Data → Option A) (default a : A) (value : Option Data) → P default → ((value : Data) (b : A) → read value ≡ Some b → P b)
    → given_or name read default value ≡ Ok a → P a
given-or P name read default a None defaults holds gives =
    let is : default ≡ a = cc in
    rw (← is) defaults
given-or P name read default a (Some value) defaults holds gives = given P name a (read value) (holds value) gives

-- what holds of the default and of all that reads
pub member_or-holds : {A : Type 0} (P : A → Type 0) (name : MemberName) (read : Data → Option A) (default a : A) (whole : Data) → P default → ((value : Data) (b : A) → read value ≡ Some b → P b)
    → member_or name read default whole ≡ Ok a → P a
unfolding member_or
member_or-holds P name read default a whole defaults holds gives = given-or P name read default a (value_in name whole) defaults holds gives

-- ---- the default profile ----

pub default-within : IsWithin default_profile
default-within = record {
  manufacturer = IsShortAscii-from_test default_profile.manufacturer refl;
  model = IsShortAscii-from_test default_profile.model refl;
  revision = IsShortAscii-from_test default_profile.revision refl;
  msisdn = IsShortAscii-from_test default_profile.msisdn refl;
  imei = IsShortAscii-from_test default_profile.imei refl;
  operator = IsShortAscii-from_test default_profile.operator refl;
  mcc = omega arith;
  mnc = omega arith;
  signal = (omega (arith, ints), omega (arith, ints));
  sms = tt;
  sms_count = omega arith;
  phonebook = tt;
  phonebook_count = omega arith;
}

-- ---- faults ----

-- a member's fault is that of the whole
pub fault_goes_on : {T U A B : Type 0} (seen : T → A) (also : U → B) (stated : Result A MemberName) (next : A → Result B MemberName) (fault : ProfileFault)
    → Gives seen stated (Err fault) → Gives also (stated >>= next) (Err fault)
fault_goes_on seen also stated next Json gives = gives
fault_goes_on seen also stated next (Member name) gives = rw gives refl
fault_goes_on seen also stated next OutOfMemory gives = tt

-- ---- what each member gives is within its limits ----

pub ascii-within : (name : MemberName) (default text : List ℕ) (whole : Data) → is_short_ascii default ≡ true → member_or name ascii_text default whole ≡ Ok text → IsShortAscii text
ascii-within name default text whole test gives = member_or-holds IsShortAscii name ascii_text default text whole (IsShortAscii-from_test default test) ascii_text-short gives

pub code-within : (name : MemberName) (code : ℕ) (whole : Data) → member_or name network_code 1 whole ≡ Ok code → code ≤ 999
code-within name code whole gives = member_or-holds (λ n. n ≤ 999) name network_code 1 code whole default-within.mcc network_code-limit gives

pub signal-within : (name : MemberName) (strength : ℤ) (whole : Data) → member_or name signal_strength (negsuc 69) whole ≡ Ok strength → (negsuc 127 ≤ℤ strength) × (strength ≤ℤ pos 0)
signal-within name strength whole gives =
    member_or-holds (λ z. (negsuc 127 ≤ℤ z) × (z ≤ℤ pos 0)) name signal_strength (negsuc 69) strength whole default-within.signal signal_strength-limits gives

pub pdus_in-within : (name : MemberName) (list : List (List ℕ)) (whole : Data) → member_or name pdus [] whole ≡ Ok list → AllByRecursion (λ pdu. length pdu ≤ 255) list × (length list ≤ 100)
pdus_in-within name list whole gives =
    member_or-holds (λ list. AllByRecursion (λ pdu. length pdu ≤ 255) list × (length list ≤ 100)) name pdus [] list whole (default-within.sms, default-within.sms_count) pdus-within gives

pub entries_in-within : (name : MemberName) (list : List PhonebookEntry) (whole : Data) → member_or name phonebook_entries [] whole ≡ Ok list → AllByRecursion IsPhonebookEntry list × (length list ≤ 100)
entries_in-within name list whole gives =
    member_or-holds (λ list. AllByRecursion IsPhonebookEntry list × (length list ≤ 100)) name phonebook_entries [] list whole (default-within.phonebook, default-within.phonebook_count) phonebook_entries-within gives
