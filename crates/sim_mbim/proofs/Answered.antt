-- What each command is answered with has an encoding.
use Rattle.std.specs.Prelude.{nat_lt}
use Rattle.std.proofs.Common.{◌≡◌, ℕ, zero, suc, ◌+◌, ◌*◌, ◌^◌, ◌<◌, ◌≤◌, Bool, true, false, IsTrue, if◌then◌else◌, List, [], ◌∷◌, ◌++◌, length, map, flat_map, get_or, replicate, Option, Some, IsSome, refl, ap, sym, ◌∙◌, arith, length-append, encode_utf8_all}
use Rattle.std.specs.List.{AllByRecursion}
use Rattle.std.specs.Str.{all_scalars, IsAscii}
use Rattle.std.specs.Char.Escape.{encode_utf16}
use Rattle.std.proofs.lemmas.List.{length-map}
use Rattle.std.proofs.lemmas.Str.Ascii.{IsAscii-nil}
use Rattle.std.proofs.lemmas.Str.{IsUtf8-from_ascii, scalars-chars, chars-IsAscii, encodes-IsAscii}
use Rattle.kit_bytes.specs.Numbers.{number_bytes, u16_bytes}
use Rattle.kit_bytes.specs.Utf16.{utf16_bytes}
use Rattle.kit_bytes.specs.Subscriptions.{Pair, by_service}
use Rattle.kit_bytes.proofs.Lengths.{utf16_short}
use Rattle.mbim_fields.specs.Layout as layout
use Rattle.mbim_fields.specs.Layout.{Item, structure}
use Rattle.mbim_fields.specs.Value.{Value, number, uuid_of, octets, list_of, values_of}
use Rattle.mbim_fields.specs.Canon.{canon}
use Rattle.mbim_fields.specs.View.{layout_of}
use Rattle.mbim_fields.proofs.RoundTrip.{number_bytes-length, number_in-is, octets_in-is}
use Rattle.mbim_fields.proofs.Readings.{list_of-values_of}
use Rattle.mbim_services.specs.Table as table
use Rattle.mbim_services.specs.Requests.{no_text}
use Rattle.mbim_services.specs.SubscribeLists.{IsPair, list_buffer, list_values}
use Rattle.mbim_services.proofs.Laid.{written}
use Rattle.modem_profile.specs.declared.phonebook.PhonebookEntry.{PhonebookEntry}
use Rattle.modem_profile.specs.Profile.{Profile}
use Rattle.modem_profile.specs.Limits.{IsShortAscii, IsWithin, utf16_length}
use Rattle.sim_mbim.specs.Values as values
use Rattle.sim_mbim.specs.Modem.{Modem}
use Rattle.sim_mbim.specs.BasicConnect as basic_connect
use Rattle.sim_mbim.specs.BasicConnect.{digit, two_digits, three_digits, network_digits, provider_id}
use Rattle.sim_mbim.specs.Sms as sms
use Rattle.sim_mbim.specs.Phonebook as phonebook
use Rattle.sim_mbim.specs.Laws.{HasEncoding, IsMessage, IsEntry}
use Rattle.sim_mbim.proofs.Encodings.{HasBytes, EachFits, ItemFits, FieldsFit, data_each, data_item, encodes}

-- ---- values ----

number-fits : (n : ℕ) → n < 2 ^ 32 → HasBytes layout.u32 (number n)
number-fits n small = record { bytes = number_bytes 4 n; is = number_in-is 4 n small; long = number_bytes-length 4 n }

zero-fits : HasBytes layout.u32 values.zero
zero-fits = number-fits 0 (omega arith)

-- ---- texts of a profile ----

ascii-scalars : (text : List ℕ) → IsAscii text → IsTrue (all_scalars text)
ascii-scalars text ascii = rw (chars-IsAscii text ascii) at (scalars-chars text (IsUtf8-from_ascii text ascii))

ascii-short : (text : List ℕ) → IsShortAscii text → length (utf16_bytes text) ≤ 200
ascii-short text is = omega (arith, utf16_short text, ap length (encodes-IsAscii text is.ascii), is.short)

pub device_caps : (p : Profile) → IsWithin p → HasEncoding table.device_caps (basic_connect.device_caps p)
device_caps p within =
    encodes table.device_caps.done (basic_connect.device_caps p)
    (zero-fits, (zero-fits, (zero-fits, (zero-fits, (zero-fits, (zero-fits, (zero-fits, (zero-fits, (refl, (ascii-scalars p.imei within.imei.ascii, (ascii-scalars p.revision within.revision.ascii, (ascii-scalars p.model within.model.ascii, tt))))))))))))
    (omega (arith, ascii-short p.imei within.imei, ascii-short p.revision within.revision, ascii-short p.model within.model))

pub subscriber_ready : (p : Profile) → IsWithin p → HasEncoding table.subscriber_ready (basic_connect.subscriber_ready p)
subscriber_ready p within =
    encodes table.subscriber_ready.done (basic_connect.subscriber_ready p)
    (number-fits 1 (omega arith), (refl, (refl, (zero-fits, (number-fits 1 (omega arith), ((refl, (ascii-scalars p.msisdn within.msisdn.ascii, tt)), tt))))))
    (omega (arith, ascii-short p.msisdn within.msisdn))

-- ---- the provider ----

digit-scalar : (unit n : ℕ) → digit unit n < 128
digit-scalar unit n = omega arith

ascii-more : (char : ℕ) (chars : List ℕ) → char < 128 → IsAscii chars → IsAscii (char ∷ chars)
ascii-more char chars below ascii zero = below
ascii-more char chars below ascii (suc i) = ascii i

two-ascii : (n : ℕ) (chars : List ℕ) → IsAscii chars → IsAscii (two_digits n ++ chars)
two-ascii n chars ascii = ascii-more (digit 10 n) (digit 1 n ∷ chars) (digit-scalar 10 n) (ascii-more (digit 1 n) chars (digit-scalar 1 n) ascii)

three-ascii : (n : ℕ) (chars : List ℕ) → IsAscii chars → IsAscii (three_digits n ++ chars)
three-ascii n chars ascii = ascii-more (digit 100 n) (two_digits n ++ chars) (digit-scalar 100 n) (two-ascii n chars ascii)

none-ascii : IsAscii []
none-ascii = IsAscii-nil

network-ascii : (three : Bool) (n : ℕ) → IsAscii (if three then three_digits n else two_digits n) × (length (if three then three_digits n else two_digits n) ≤ 3)
network-ascii true n = (three-ascii n [] none-ascii, omega arith)
network-ascii false n = (two-ascii n [] none-ascii, omega arith)

provider-short : (p : Profile) → IsShortAscii (provider_id p)
provider-short p =
    let network = network-ascii (nat_lt 99 p.mnc) p.mnc in
    record { ascii = three-ascii p.mcc (network_digits p.mnc) network.0; short = omega (arith, network.1) }

abbrev ProviderFits : Profile → Type 0
ProviderFits p = FieldsFit (layout_of table.provider) [] (basic_connect.provider p)

provider-fits : (p : Profile) → IsWithin p → ProviderFits p
provider-fits p within =
    (ascii-scalars (provider_id p) (provider-short p).ascii, (zero-fits, (ascii-scalars p.operator within.operator.ascii, (zero-fits, (number-fits 20 (omega arith), (zero-fits, tt))))))

pub home_provider : (p : Profile) → IsWithin p → HasEncoding table.home_provider (basic_connect.provider p)
home_provider p within =
    encodes table.home_provider.done (basic_connect.provider p) (provider-fits p within) (omega (arith, ascii-short (provider_id p) (provider-short p), ascii-short p.operator within.operator))

pub visible_providers : (p : Profile) → IsWithin p → HasEncoding table.visible_providers (basic_connect.providers p)
visible_providers p within =
    encodes table.visible_providers.done (basic_connect.providers p) (number-fits 1 (omega arith), ((refl, (provider-fits p within, tt)), tt))
    (omega (arith, ascii-short (provider_id p) (provider-short p), ascii-short p.operator within.operator))

-- ---- states ----

radio-by : (on : Bool) → IsSome (canon table.radio_state.done (number 1 ∷ number (if on then 1 else 0) ∷ []))
radio-by true = refl
radio-by false = refl

pub radio_state : (m : Modem) → HasEncoding table.radio_state (basic_connect.radio_state m)
radio_state m = radio-by m.radio

register-by : (on : Bool)
    → IsSome (canon table.register_state.done (values.zero ∷ number (if on then 3 else 1) ∷ values.zero ∷ values.zero ∷ values.zero ∷ no_text ∷ no_text ∷ no_text ∷ values.zero ∷ []))
register-by true = refl
register-by false = refl

pub register_state : (m : Modem) → HasEncoding table.register_state (basic_connect.register_state m)
register_state m = register-by m.radio

packet-by : (attached : Bool) → IsSome (canon table.packet_service.done (values.zero ∷ number (if attached then 2 else 4) ∷ values.zero ∷ values.zero ∷ values.zero ∷ []))
packet-by true = refl
packet-by false = refl

pub packet_service : (m : Modem) → HasEncoding table.packet_service (basic_connect.packet_service m)
packet_service m = packet-by m.attached

-- ---- sessions ----

uuid-fits : (bytes : List ℕ) → length bytes ≡ 16 → HasBytes layout.uuid (uuid_of bytes)
uuid-fits bytes long = record { bytes = bytes; is = octets_in-is 16 bytes long; long = long }

activation-small : (connected : Bool) → (if connected then 1 else 3) < 2 ^ 32
activation-small true = omega arith
activation-small false = omega arith

pub connect : (session : ℕ) (m : Modem) → session < 2 ^ 32 → HasEncoding table.connect (basic_connect.connection session m)
connect session m small =
    encodes table.connect.done (basic_connect.connection session m)
    (number-fits session small, (number-fits (basic_connect.activation session m) (activation-small (basic_connect.is_connected session m)), (zero-fits, (zero-fits, (uuid-fits (replicate 16 0) refl, (zero-fits, tt))))))
    (omega arith)

pub ip_configuration : (session : ℕ) → session < 2 ^ 32 → HasEncoding table.ip_configuration (basic_connect.ip_configuration session)
ip_configuration session small =
    encodes table.ip_configuration.done (basic_connect.ip_configuration session) (
      number-fits session small,
      (
        zero-fits,
        (
          zero-fits,
          (
            number-fits 1 (omega arith),
            (
              (refl, (record { bytes = 24 ∷ 0 ∷ 0 ∷ 0 ∷ 10 ∷ 0 ∷ 0 ∷ 2 ∷ []; is = refl; long = refl }, tt)),
              (
                zero-fits,
                (
                  (refl, tt),
                  (
                    record { bytes = 10 ∷ 0 ∷ 0 ∷ 1 ∷ []; is = refl; long = refl },
                    (
                      tt,
                      (number-fits 1 (omega arith), ((refl, (record { bytes = 10 ∷ 0 ∷ 0 ∷ 1 ∷ []; is = refl; long = refl }, tt)), (zero-fits, ((refl, tt), (number-fits 1500 (omega arith), (zero-fits, tt)))))),
                    ),
                  ),
                ),
              ),
            ),
          ),
        ),
      ),
    )
    (omega arith)

-- ---- lists ----

some-is : {A : Type 0} (found : Option A) (x : A) → found ≡ Some x → IsSome found
some-is found x is = rw is refl

pub subscribe_list : (list : List Pair) → AllByRecursion IsPair list → length (list_buffer list) < 2 ^ 32 → HasEncoding table.subscribe_list (list_values (by_service list))
subscribe_list list are short = some-is (canon table.subscribe_list.done (list_values (by_service list))) (list_buffer list) (written list are short)

pub exchange : (scheme : ℕ) (payload : List ℕ) → scheme < 2 ^ 32 → length payload ≤ 65536 → HasEncoding table.ussd_exchange (values.zero ∷ values.zero ∷ number scheme ∷ octets payload ∷ [])
exchange scheme payload small short =
    encodes table.ussd_exchange.done (values.zero ∷ values.zero ∷ number scheme ∷ octets payload ∷ []) (zero-fits, (zero-fits, (number-fits scheme small, (tt, tt)))) (omega (arith, short))

abbrev message_item : Item
message_item = structure (layout_of table.sms_message)

abbrev listed_messages : List (ℕ × List ℕ) → List Value
listed_messages kept = list_of (values_of (map sms.message kept))

messages-count : (kept : List (ℕ × List ℕ)) → length (listed_messages kept) ≡ length (map sms.message kept)
messages-count kept = ap length (list_of-values_of (map sms.message kept))

messages-fit : (kept : List (ℕ × List ℕ)) → AllByRecursion IsMessage kept → EachFits (ItemFits message_item) (listed_messages kept)
messages-fit [] are = tt
messages-fit (m ∷ kept) are = ((number-fits m.0 are.0.0, (zero-fits, (tt, tt))), messages-fit kept are.1)

messages-short : (kept : List (ℕ × List ℕ)) → AllByRecursion IsMessage kept → data_each (data_item message_item) (listed_messages kept) ≤ 300 * length kept
messages-short [] are = omega arith
messages-short (m ∷ kept) are = omega (arith, are.0.1, messages-short kept are.1)

pub sms_read : (kept : List (ℕ × List ℕ)) → length kept ≤ 100 → AllByRecursion IsMessage kept → HasEncoding table.sms_read (sms.list_of (map sms.message kept))
sms_read kept few are =
    encodes table.sms_read.done (sms.list_of (map sms.message kept))
    (zero-fits, (number-fits (length (map sms.message kept)) (omega (arith, few, length-map kept sms.message)), ((messages-count kept, messages-fit kept are), tt)))
    (omega (arith, few, length-map kept sms.message, messages-short kept are))

twice : (units : List ℕ) → length (flat_map u16_bytes units) ≡ 2 * length units
twice [] = refl
twice (unit ∷ units) = omega (arith, twice units)

utf16-length : (chars : List ℕ) → length (utf16_bytes chars) ≡ 2 * utf16_length chars
utf16-length chars = twice (flat_map encode_utf16 chars)

abbrev entry_item : Item
entry_item = structure (layout_of table.phonebook_entry)

abbrev listed_entries : List (ℕ × PhonebookEntry) → List Value
listed_entries kept = list_of (values_of (map phonebook.entry kept))

entries-count : (kept : List (ℕ × PhonebookEntry)) → length (listed_entries kept) ≡ length (map phonebook.entry kept)
entries-count kept = ap length (list_of-values_of (map phonebook.entry kept))

entries-fit : (kept : List (ℕ × PhonebookEntry)) → AllByRecursion IsEntry kept → EachFits (ItemFits entry_item) (listed_entries kept)
entries-fit [] are = tt
entries-fit (e ∷ kept) are = ((number-fits e.0 are.0.0, (are.0.2, (are.0.3, tt))), entries-fit kept are.1)

entries-short : (kept : List (ℕ × PhonebookEntry)) → AllByRecursion IsEntry kept → data_each (data_item entry_item) (listed_entries kept) ≤ 500 * length kept
entries-short [] are = omega arith
entries-short (e ∷ kept) are = omega (arith, are.0.1.0, are.0.1.1, utf16-length (e.1).number, utf16-length (e.1).name, entries-short kept are.1)

pub phonebook_read : (kept : List (ℕ × PhonebookEntry)) → length kept ≤ 100 → AllByRecursion IsEntry kept → HasEncoding table.phonebook_read (phonebook.list_of (map phonebook.entry kept))
phonebook_read kept few are =
    encodes table.phonebook_read.done (phonebook.list_of (map phonebook.entry kept))
    (number-fits (length (map phonebook.entry kept)) (omega (arith, few, length-map kept phonebook.entry)), ((entries-count kept, entries-fit kept are), tt))
    (omega (arith, few, length-map kept phonebook.entry, entries-short kept are))
