-- The JSON of what has one size, of bytes and of texts tells them.
use Rattle.std.proofs.Common.{◌≡◌, ℕ, ◌+◌, ◌-◌, ◌≤◌, Bool, true, false, true≢false, inl, inr, List, [], length, take, drop, slice_range, codes, Option, Some, None, encode_utf8_all, refl, sym, ap, ap₂, ◌∙◌, subst, arith, if◌then◌else◌}
use Rattle.std.proofs.Math.Utf8.{scalars}
use Rattle.std.proofs.lemmas.List.{take-append-drop, length-take-le, length-drop}
use Rattle.std.specs.Result.{result_ok}
use Rattle.std.specs.Str.{IsAscii, is_utf8}
use Rattle.framing.specs.Framing.{AreBytes}
use Rattle.hex.specs.Hex.{decode_of, encode_upper}
use Rattle.hex.proofs.HexLemmas.{decode_of-encode_upper}
use Rattle.serde_json.specs.Data.{Data, null, unsigned as natural, number as numeral, string as quoted, object, Members, no_members, member, put}
use Rattle.serde_json.specs.Find.{get_member}
use Rattle.serde_json.proofs.Views.{get_member-put, get_member-put_other}
use Rattle.tlv_values.proofs.Readings.{bytes-front, bytes-back}
use Rattle.json_values.specs.Texts.{octets_in}
use Rattle.kit_bytes.specs.Numbers.{number_at}
use Rattle.mbim_fields.specs.Layout.{Fixed, u32, u64, uuid, ipv4, ipv6, prefixed_ipv4, prefixed_ipv6, size, perhaps}
use Rattle.mbim_fields.specs.Value.{Value, number, uuid_of, octets, absent, members, first, no_more}
use Rattle.mbim_fields.specs.Reading.{fixed_at, prefixed_at}
use Rattle.mbim_fields.specs.Fields.{IsAt, FormStands}
use Rattle.mbimcli_print.specs.declared.texts.Family.{Family}
use Rattle.mbimcli_print.specs.declared.texts.Family.TheVariants.{Ipv4, Ipv6}
use Rattle.mbimcli_print.specs.Texts.{uuid_text, address_text}
use Rattle.json_values.specs.Json.{hexadecimal, text_json}
use Rattle.json_values.proofs.Back.{octets_back}
use Rattle.fields_json.specs.Json.{prefixed_json, fixed_json}
use Rattle.fields_json.proofs.Chars.{chars_tell}
use Rattle.fields_json.proofs.Spelled.{same_found, ascii_bytes, uuid_ascii, uuid_tells, length_of, address_ascii, address_tells}

-- ---- parts of JSON ----

abbrev number_of : Data → ℕ
number_of (numeral (natural n)) = n
number_of _ = 0

abbrev text_of_json : Data → List ℕ
text_of_json (quoted text) = text
text_of_json _ = []

abbrev pub members_of_json : Data → Members
members_of_json (object inside) = inside
members_of_json _ = no_members

abbrev pub or_null : Option Data → Data
or_null None = null
or_null (Some json) = json

abbrev is_null : Data → Bool
is_null null = true
is_null _ = false

-- ---- texts and bytes ----

pub string_tells : (a b : List ℕ) → scalars a ≡ true → scalars b ≡ true → quoted (encode_utf8_all a) ≡ quoted (encode_utf8_all b) → a ≡ b
string_tells a b are they same = chars_tell a b are they (ap text_of_json same)

digits_back : (bytes : List ℕ) → AreBytes bytes → result_ok (decode_of (encode_upper bytes)) ≡ Some bytes
digits_back bytes are = ap (λ r. result_ok r) (decode_of-encode_upper bytes are)

pub bytes_tell : (a b : List ℕ) → AreBytes a → AreBytes b → hexadecimal a ≡ hexadecimal b → a ≡ b
bytes_tell a b are they same = same_found a b (sym (digits_back a are) ∙ ap (λ (t : List ℕ). result_ok (decode_of t)) (ap text_of_json same) ∙ digits_back b they)

texts_tell : (a b : List ℕ) → IsAscii a → IsAscii b → text_json a ≡ text_json b → a ≡ b
texts_tell a b are they same = same_found a b (sym (octets_back a (ascii_bytes a are)) ∙ ap octets_in same ∙ octets_back b (ascii_bytes b they))

text_some : (text : List ℕ) → is_null (text_json text) ≡ false
unfolding text_json
text_some text = by (is_utf8 text)
  where
    by : (b : Bool) → is_null (if b then quoted text else object (member (codes "hex") (hexadecimal text) no_members)) ≡ false
    by true = refl
    by false = refl

-- ---- parts of a structure ----

pub part_bytes : (whole : List ℕ) (from to : ℕ) → AreBytes whole → AreBytes (slice_range whole from to)
part_bytes whole from to are =
    let behind : AreBytes (drop from whole) = bytes-back (take from whole) (drop from whole) (subst AreBytes (sym (take-append-drop from whole)) are) in
    bytes-front (take (to - from) (drop from whole)) (drop (to - from) (drop from whole)) (subst AreBytes (sym (take-append-drop (to - from) (drop from whole))) behind)

part_long : (whole : List ℕ) (at count : ℕ) → at + count ≤ length whole → length (slice_range whole at (at + count)) ≡ count
part_long whole at count inside =
    let rest = length-drop at whole in
    let long = length-take-le (at + count - at) (drop at whole) (omega (arith, inside, rest)) in
    omega (arith, long)

-- ---- what has one size ----

module _ (whole other : List ℕ) (at place : ℕ) (are : AreBytes whole) (they : AreBytes other) where
  uuids_tell : at + 16 ≤ length whole → place + 16 ≤ length other → text_json (uuid_text (slice_range whole at (at + 16))) ≡ text_json (uuid_text (slice_range other place (place + 16)))
      → slice_range whole at (at + 16) ≡ slice_range other place (place + 16)
  uuids_tell inside within same =
      let a : List ℕ = slice_range whole at (at + 16) in
      let b : List ℕ = slice_range other place (place + 16) in
      uuid_tells a b (part_long whole at 16 inside) (part_long other place 16 within) (part_bytes whole at (at + 16) are) (part_bytes other place (place + 16) they)
      (texts_tell (uuid_text a) (uuid_text b) (uuid_ascii a) (uuid_ascii b) same)

  addresses_tell : (family : Family) (count : ℕ) → count ≡ length_of family → at + count ≤ length whole → place + count ≤ length other
      → text_json (address_text family (slice_range whole at (at + count))) ≡ text_json (address_text family (slice_range other place (place + count)))
      → slice_range whole at (at + count) ≡ slice_range other place (place + count)
  addresses_tell family count is inside within same =
      let a : List ℕ = slice_range whole at (at + count) in
      let b : List ℕ = slice_range other place (place + count) in
      let a_bytes : AreBytes a = part_bytes whole at (at + count) are in
      let b_bytes : AreBytes b = part_bytes other place (place + count) they in
      address_tells family a b (part_long whole at count inside ∙ is) (part_long other place count within ∙ is) a_bytes b_bytes
      (texts_tell (address_text family a) (address_text family b) (address_ascii family a a_bytes) (address_ascii family b b_bytes) same)

abbrev pair_members : Data → Data → Members
pair_members address prefix = put (codes "Address") address (put (codes "Prefix") prefix no_members)

apart : ¬ (codes "Prefix" ≡ codes "Address")
apart same = cc

pair_tells : (a b p q : Data) → object (pair_members a p) ≡ object (pair_members b q) → (a ≡ b) × (p ≡ q)
pair_tells a b p q same =
    let inside : pair_members a p ≡ pair_members b q = ap members_of_json same in
    let address : (c r : Data) → get_member (codes "Address") (pair_members c r) ≡ Some c = λ c r. get_member-put (codes "Address") c (put (codes "Prefix") r no_members) in
    let prefix : (c r : Data) → get_member (codes "Prefix") (pair_members c r) ≡ Some r =
    λ c r. get_member-put_other (codes "Prefix") (codes "Address") c (put (codes "Prefix") r no_members) apart ∙ get_member-put (codes "Prefix") r no_members in
    (ap or_null (sym (address a p) ∙ ap (λ (m : Members). get_member (codes "Address") m) inside ∙ address b q), ap or_null (sym (prefix a p) ∙ ap (λ (m : Members). get_member (codes "Prefix") m) inside ∙ prefix b q))

prefixed_tells : (family : Family) (count : ℕ) (whole other : List ℕ) (at place : ℕ) → count ≡ length_of family → AreBytes whole → AreBytes other → at + 4 + count ≤ length whole → place + 4 + count ≤ length other
    → prefixed_json family (prefixed_at whole at count) ≡ prefixed_json family (prefixed_at other place count) → prefixed_at whole at count ≡ prefixed_at other place count
prefixed_tells family count whole other at place is are they inside within same =
    let a : List ℕ = slice_range whole (at + 4) (at + 4 + count) in
    let b : List ℕ = slice_range other (place + 4) (place + 4 + count) in
    let p = pair_tells (text_json (address_text family a)) (text_json (address_text family b)) (numeral (natural (number_at whole at 4))) (numeral (natural (number_at other place 4))) same in
    ap₂ (λ (n : ℕ) (l : List ℕ). members (first (number n) (first (octets l) no_more))) (ap number_of p.1) (addresses_tell whole other (at + 4) (place + 4) are they family count is inside within p.0)

fixed_tells : (fixed : Fixed) (whole other : List ℕ) (at place : ℕ) → AreBytes whole → AreBytes other → at + size fixed ≤ length whole → place + size fixed ≤ length other
    → fixed_json fixed (fixed_at fixed whole at) ≡ fixed_json fixed (fixed_at fixed other place) → fixed_at fixed whole at ≡ fixed_at fixed other place
fixed_tells u32 whole other at place are they inside within same = ap number (ap number_of same)
fixed_tells u64 whole other at place are they inside within same = ap number (ap number_of same)
fixed_tells uuid whole other at place are they inside within same = ap uuid_of (uuids_tell whole other at place are they inside within same)
fixed_tells ipv4 whole other at place are they inside within same = ap octets (addresses_tell whole other at place are they Ipv4 4 refl inside within same)
fixed_tells ipv6 whole other at place are they inside within same = ap octets (addresses_tell whole other at place are they Ipv6 16 refl inside within same)
fixed_tells prefixed_ipv4 whole other at place are they inside within same = prefixed_tells Ipv4 4 whole other at place refl are they (omega (arith, inside)) (omega (arith, within)) same
fixed_tells prefixed_ipv6 whole other at place are they inside within same = prefixed_tells Ipv6 16 whole other at place refl are they (omega (arith, inside)) (omega (arith, within)) same

pub one_tells : (fixed : Fixed) (whole other : List ℕ) → AreBytes whole → AreBytes other → (v w : Value) (at place : ℕ) → IsAt fixed v whole at → IsAt fixed w other place → fixed_json fixed v ≡ fixed_json fixed w → v ≡ w
one_tells fixed whole other are they v w at place stands also same =
    stands.is ∙ fixed_tells fixed whole other at place are they stands.inside also.inside (sym (ap (fixed_json fixed) stands.is) ∙ same ∙ ap (fixed_json fixed) also.is) ∙ sym also.is

-- ---- what may be absent ----

present : (fixed : Fixed) (whole : List ℕ) (at : ℕ) → is_null (fixed_json fixed (fixed_at fixed whole at)) ≡ false
present u32 whole at = refl
present u64 whole at = refl
present uuid whole at = text_some (uuid_text (slice_range whole at (at + 16)))
present ipv4 whole at = text_some (address_text Ipv4 (slice_range whole at (at + 4)))
present ipv6 whole at = text_some (address_text Ipv6 (slice_range whole at (at + 16)))
present prefixed_ipv4 whole at = refl
present prefixed_ipv6 whole at = refl

absent_null : (fixed : Fixed) → is_null (fixed_json fixed absent) ≡ true
absent_null u32 = refl
absent_null u64 = refl
absent_null uuid = refl
absent_null ipv4 = refl
absent_null ipv6 = refl
absent_null prefixed_ipv4 = refl
absent_null prefixed_ipv6 = refl

not_both : (fixed : Fixed) (v w : Value) (whole : List ℕ) (at : ℕ) → v ≡ absent → IsAt fixed w whole at → ¬ (fixed_json fixed v ≡ fixed_json fixed w)
not_both fixed v w whole at none also same =
    true≢false (sym (absent_null fixed) ∙ ap (λ (x : Value). is_null (fixed_json fixed x)) (sym none) ∙ ap is_null same ∙ ap (λ (x : Value). is_null (fixed_json fixed x)) also.is ∙ present fixed whole at)

pub perhaps_tells : (fixed : Fixed) (whole other : List ℕ) → AreBytes whole → AreBytes other → (before behind : List Value) (v w : Value) (at place : ℕ)
    → FormStands (perhaps fixed) whole before v at → FormStands (perhaps fixed) other behind w place → fixed_json fixed v ≡ fixed_json fixed w → v ≡ w
perhaps_tells fixed whole other are they before behind v w at place (inl none) (inl nor) same = none.1 ∙ sym nor.1
perhaps_tells fixed whole other are they before behind v w at place (inl none) (inr also) same = absurd (not_both fixed v w other (number_at other place 4) none.1 also.1 same)
perhaps_tells fixed whole other are they before behind v w at place (inr stands) (inl nor) same = absurd (not_both fixed w v whole (number_at whole at 4) nor.1 stands.1 (sym same))
perhaps_tells fixed whole other are they before behind v w at place (inr stands) (inr also) same = one_tells fixed whole other are they v w (number_at whole at 4) (number_at other place 4) stands.1 also.1 same
