-- The bytes of requests spell their values.
use Rattle.std.proofs.Common.{◌≡◌, ℕ, suc, ◌%◌, ◌^◌, ◌<◌, ◌≤◌, List, [], ◌∷◌, ◌++◌, Option, Some, None, length, map, refl, sym, ◌∙◌, subst, arith, append_assoc}
use Rattle.std.proofs.lemmas.List.{append-nil, length-map}
use Rattle.std.specs.List.{slice_index}
use Rattle.std.specs.Option.{option_map}
use Rattle.std.specs.Str.{encode_utf8_all}
use Rattle.std.specs.Prelude.{IfSome}
use Rattle.kit_bytes.specs.Numbers.{u16_bytes, u32_bytes}
use Rattle.tlv_codec.specs.Tlv.{Entry}
use Rattle.qmi_shapes.specs.Form.{Form}
use Rattle.qmi_shapes.specs.View.{NamedForm}
use Rattle.qmi_values.specs.Value.{Value, number, text, list_of, values_of as as_values}
use Rattle.qmi_values.specs.Numbers.{IsUnsigned}
use Rattle.qmi_values.specs.Spelling.{Follows, EachSpells, Spells}
use Rattle.qmi_values.proofs.Spellings.{list_of-values_of}
use Rattle.tlv_values.proofs.Numbers.{number_bytes-unsigned}
use Rattle.message_tables.specs.Tlvs.{TlvForm}
use Rattle.qmi_requests.specs.declared.QmiRequest.TheVariants as request
use Rattle.qmi_services.specs.Table as table
use Rattle.qmi_services.specs.Table.{u8, list16, field, unnamed}
use Rattle.qmi_services.specs.Requests.{tlv, text_given, byte_given, point_to_point, wanted_settings}
use Rattle.qmi_services.specs.Inputs.{text_of, bytes_of, sequence_of, Gives, AllGive}
use Rattle.qmi_services.specs.Laws.{AreSpelled}

-- ---- numbers ----

byte-unsigned : (n : ℕ) → n < 2 ^ 8 → IsUnsigned 1 n (n ∷ [])
byte-unsigned n small = subst (λ (b : ℕ). IsUnsigned 1 n (b ∷ [])) (omega arith) (number_bytes-unsigned 1 n (omega arith))

u16_bytes-unsigned : (n : ℕ) → n < 2 ^ 16 → IsUnsigned 2 n (u16_bytes n)
u16_bytes-unsigned n small = subst (λ (high : ℕ). IsUnsigned 2 n (n % 256 ∷ high ∷ [])) (omega arith) (number_bytes-unsigned 2 n (omega arith))

-- ---- sequences ----

pair : (First Second : List ℕ → Type 0) (front back : List ℕ) → First front → Second back → Follows First (Follows Second (λ bytes. bytes ≡ [])) (front ++ back)
pair First Second front back before behind =
    record { front = front; back = back; whole = refl; before = before; behind = record { front = back; back = []; whole = sym (append-nil back); before = behind; behind = refl } }

-- ---- lists of bytes ----

each-byte : (bytes : List ℕ) → ((at : ℕ) → slice_index bytes at < 2 ^ 8) → EachSpells (Spells u8) (map number bytes) bytes
each-byte [] small = refl
each-byte (byte ∷ bytes) small =
    record { front = byte ∷ []; back = bytes; whole = refl; before = byte-unsigned byte (small 0); behind = each-byte bytes (λ at. small (suc at)) }

bytes-spelled : (bytes : List ℕ) → length bytes ≤ 255 → ((at : ℕ) → slice_index bytes at < 2 ^ 8) → Spells (list16 u8) (bytes_of bytes) (u16_bytes (length bytes) ++ bytes)
bytes-spelled bytes short small =
    let all : list_of (as_values (map number bytes)) ≡ map number bytes = list_of-values_of (map number bytes) in
    let count : length (map number bytes) ≡ length bytes = length-map bytes number in
    record {
      front = u16_bytes (length bytes);
      back = bytes;
      whole = refl;
      before = rw (all, count) (u16_bytes-unsigned (length bytes) (omega arith));
      behind = rw all (each-byte bytes small);
    }

-- ---- inputs ----

-- the only input, which is sent
one : (form : Form) (value : Value) (bytes : List ℕ) → Spells form value bytes → (here : List Entry) × (later : List Entry) × (tlv 0x01 bytes ≡ here ++ later)
    × ((b : List ℕ) × (here ≡ tlv 0x01 b) × Spells form value b) × (later ≡ [])
one form value bytes spelled = (tlv 0x01 bytes, [], refl, (bytes, refl, spelled), refl)

sequence : (a b : NamedForm) (v w : Value) (front back : List ℕ) → Spells a.form v front → Spells b.form w back
    → (here : List Entry) × (later : List Entry) × (tlv 0x01 (front ++ back) ≡ here ++ later)
    × ((bytes : List ℕ) × (here ≡ tlv 0x01 bytes) × Spells (table.fields (a ∷ b ∷ [])) (sequence_of (v ∷ w ∷ [])) bytes) × (later ≡ [])
sequence a b v w front back before behind =
    one (table.fields (a ∷ b ∷ [])) (sequence_of (v ∷ w ∷ [])) (front ++ back) (pair (Spells a.form v) (Spells b.form w) front back before behind)

text-spelled : (bytes : List ℕ) → Spells table.text (text bytes) bytes
text-spelled bytes = record { front = []; back = bytes; whole = refl; before = refl; behind = refl }

text-gives : (input : TlvForm) (given : Option (List ℕ)) → input.form ≡ table.text → Gives input (option_map text_of given) (text_given input.kind given)
text-gives input None is = refl
text-gives input (Some characters) is = (encode_utf8_all characters, refl, rw is (text-spelled (encode_utf8_all characters)))

byte-gives : (input : TlvForm) (given : Option ℕ) → input.form ≡ u8 → IfSome given (λ byte. byte < 2 ^ 8) → Gives input (option_map number given) (byte_given input.kind given)
byte-gives input None is small = refl
byte-gives input (Some byte) is small = (byte ∷ [], refl, rw is (byte-unsigned byte small))

start_network-spelled : (apn username password : Option (List ℕ)) (ip_type : Option ℕ) → IfSome ip_type (λ byte. byte < 2 ^ 8)
    → AllGive table.start_network.input (option_map text_of apn ∷ option_map text_of username ∷ option_map text_of password ∷ option_map number ip_type ∷ [])
    (text_given 0x14 apn ++ text_given 0x17 username ++ text_given 0x18 password ++ byte_given 0x19 ip_type)
start_network-spelled apn username password ip_type range =
    let a : List Entry = text_given 0x14 apn in
    let b : List Entry = text_given 0x17 username in
    let c : List Entry = text_given 0x18 password in
    let d : List Entry = byte_given 0x19 ip_type in (
      a,
      b ++ (c ++ d),
      append_assoc (a ++ b) c d ∙ append_assoc a b (c ++ d),
      text-gives (table.input 0x14 "APN" table.text) apn refl,
      (
        b,
        c ++ d,
        refl,
        text-gives (table.input 0x17 "user" table.text) username refl,
        (
          c,
          d,
          refl,
          text-gives (table.input 0x18 "password" table.text) password refl,
          (d, [], sym (append-nil d), byte-gives (table.input 0x19 "IP family" u8) ip_type refl range, refl),
        ),
      ),
    )

-- a request without values gives no TLV
pub spelled : AreSpelled
spelled (request.DmsSetOperatingMode mode) range = one u8 (number mode) (mode ∷ []) (byte-unsigned mode range)
spelled (request.WdsStartNetwork apn username password ip_type) range = start_network-spelled apn username password ip_type range
spelled (request.WdsStopNetwork handle) range = one table.u32 (number handle) (u32_bytes handle) (number_bytes-unsigned 4 handle (omega arith))
spelled request.WdsGetCurrentSettings range = (tlv 0x10 (u32_bytes wanted_settings), [], refl, (u32_bytes wanted_settings, refl, number_bytes-unsigned 4 wanted_settings (omega arith)), refl)
spelled (request.WmsRawSend pdu) range =
    sequence (field "format" u8) (unnamed (list16 u8)) (number point_to_point) (bytes_of pdu) (point_to_point ∷ []) (u16_bytes (length pdu) ++ pdu)
    (byte-unsigned point_to_point (omega arith)) (bytes-spelled pdu range.0 range.1)
spelled (request.WmsRawRead storage index) range =
    sequence (field "storage" u8) (field "index" table.u32) (number storage) (number index) (storage ∷ []) (u32_bytes index)
    (byte-unsigned storage range.0) (number_bytes-unsigned 4 index (omega arith))
spelled (request.WmsDelete storage index) range = (
  tlv 0x01 (storage ∷ []),
  tlv 0x10 (u32_bytes index),
  refl,
  (storage ∷ [], refl, byte-unsigned storage range.0),
  (tlv 0x10 (u32_bytes index), [], refl, (u32_bytes index, refl, number_bytes-unsigned 4 index (omega arith)), refl),
)
spelled (request.WmsListMessages storage) range = one u8 (number storage) (storage ∷ []) (byte-unsigned storage range)
spelled (request.ProxyOpen path) range = one table.text (text_of path) (encode_utf8_all path) (text-spelled (encode_utf8_all path))
spelled (request.Allocate service) range = one u8 (number service) (service ∷ []) (byte-unsigned service range)
spelled (request.Release service cid) range =
    sequence (unnamed u8) (unnamed u8) (number service) (number cid) (service ∷ []) (cid ∷ []) (byte-unsigned service range.0) (byte-unsigned cid range.1)
spelled _ range = refl
