-- A request of the table is refused exactly where its input 0x01 is missing or unreadable.
use Rattle.std.proofs.Common.{◌≡◌, ℕ, zero, suc, ◌<◌, Bool, true, false, nat_le, List, [], ◌∷◌, ◌++◌, length, get_or, take, drop, Option, Some, None, refl, sym, ◌∙◌, ap, subst, arith, rules}
use Rattle.std.proofs.lemmas.Bool.{lt-ltb}
use Rattle.std.proofs.lemmas.Option.{same_Some}
use Rattle.std.specs.Prelude.{◌↔◌, ◌==◌, cond, is_some, option_map, option_and_then}
use Rattle.std.specs.List.{AllByRecursion}
use Rattle.framing.specs.Framing.{AreBytes}
use Rattle.tlv_codec.specs.Tlv.{Entry, first_value, tlv_text, tlv_value, tlvs_of}
use Rattle.tlv_codec.proofs.Texts.{text_of_read}
use Rattle.qmi_shapes.specs.Form.{Form, unsigned, sequence, Fields, no_fields, field}
use Rattle.qmi_values.specs.Numbers.{little_endian}
use Rattle.qmi_values.specs.Value.{Value, number, members, first, no_values, values_of as as_values}
use Rattle.tlv_values.specs.Reading.{Front, alone, fields_of, octets_of, reading, seen_as, value_in, value_of}
use Rattle.qmi_services.specs.Table as table
use Rattle.qmi_services.specs.Table.{Row, rows}
use Rattle.qmi_services.specs.Modem.{input_at, input_of, is_at, row_at}
use Rattle.qmi_services.proofs.Found.{find-holds}
use Rattle.sim_qmi.specs.declared.request.Request.{Request}
use Rattle.sim_qmi.specs.declared.request.Request.TheVariants.{Ctl, Wds, Dms, Wms}
use Rattle.sim_qmi.specs.declared.ctl.CtlRequest.TheVariants as ctl
use Rattle.sim_qmi.specs.declared.wds.WdsRequest.TheVariants as wds
use Rattle.sim_qmi.specs.declared.dms.DmsRequest.TheVariants as dms
use Rattle.sim_qmi.specs.declared.wms.WmsRequest.TheVariants as wms
use Rattle.sim_qmi.specs.Ctl.{release_in}
use Rattle.sim_qmi.specs.Inputs.{byte_in, word_in}
use Rattle.sim_qmi.specs.Laws.{LacksInput, OnlyTheInputIsMissed}
use Rattle.sim_qmi.specs.Requests.{main_input, index_input, request_in}
use Rattle.sim_qmi.specs.Wms.{index_in}
use Rattle.sim_qmi.proofs.Halves.{has_input, with_input, others, all_lines, each_so}

-- ---- bytes of a TLV ----

are_right : (a b : List ℕ) → AreBytes (a ++ b) → AreBytes b
are_right [] b are = are
are_right (byte ∷ a) b are = are_right a b (λ k. are (suc k))

are_left : (a b : List ℕ) → AreBytes (a ++ b) → AreBytes a
are_left [] b are = λ k. omega arith
are_left (byte ∷ a) b are = here (are_left a b (λ k. are (suc k)))
  where
    here : AreBytes a → (k : ℕ) → get_or (byte ∷ a) k 0 < 256
    here later zero = are 0
    here later (suc k) = later k

are_dropped : (n : ℕ) (bytes : List ℕ) → AreBytes bytes → AreBytes (drop n bytes)
are_dropped zero bytes are = are
are_dropped (suc n) [] are = are
are_dropped (suc n) (byte ∷ bytes) are = are_dropped n bytes (λ k. are (suc k))

value_bytes : (kind : ℕ) (entries : List Entry) (value : List ℕ) → AreBytes (tlv_text entries) → first_value kind entries ≡ Some value → AreBytes value
value_bytes kind [] value are is = absurd cc
value_bytes kind (entry ∷ entries) value are is =
    let inside : AreBytes (entry.value ++ tlv_text entries) = λ k. are (suc (suc (suc k))) in
    here (entry.kind == kind) (are_left entry.value (tlv_text entries) inside) (value_bytes kind entries value (are_right entry.value (tlv_text entries) inside)) is
  where
    here : (b : Bool) → AreBytes entry.value → (first_value kind entries ≡ Some value → AreBytes value) → cond b (Some entry.value) (first_value kind entries) ≡ Some value → AreBytes value
    here true mine later is = subst (λ (l : List ℕ). AreBytes l) (same_Some entry.value value is) mine
    here false mine later is = later is

tlv_bytes : (kind : ℕ) (tlvs value : List ℕ) → AreBytes tlvs → tlv_value kind tlvs ≡ Some value → AreBytes value
tlv_bytes kind tlvs value are is = by_entries (tlvs_of tlvs) refl is
  where
    by_entries : (found : Option (List Entry)) → tlvs_of tlvs ≡ found → option_and_then (first_value kind) found ≡ Some value → AreBytes value
    by_entries None read is = absurd cc
    by_entries (Some entries) read is = value_bytes kind entries value (subst (λ (l : List ℕ). AreBytes l) (text_of_read tlvs entries are read) are) is

-- ---- what reading gives ----

record Mapped {A B : Type 0} (f : A → B) (x : Option A) (y : B) : Type 0 where
  from : A
  was : x ≡ Some from
  is : f from ≡ y

mapped : {A B : Type 0} (f : A → B) (x : Option A) (y : B) → option_map f x ≡ Some y → Mapped f x y
mapped f None y is = absurd cc
mapped f (Some a) y is = record { from = a; was = refl; is = same_Some (f a) y is }

record Chained {A B : Type 0} (f : A → Option B) (x : Option A) (y : B) : Type 0 where
  from : A
  was : x ≡ Some from
  is : f from ≡ Some y

chained : {A B : Type 0} (f : A → Option B) (x : Option A) (y : B) → option_and_then f x ≡ Some y → Chained f x y
chained f None y is = absurd cc
chained f (Some a) y is = record { from = a; was = refl; is = is }

alone_value : (front : Front Value) (value : Value) → alone front ≡ Some value → front.value ≡ value
alone_value front value is = here (length front.left == 0) is
  where
    here : (b : Bool) → cond b (Some front.value) None ≡ Some value → front.value ≡ value
    here true is = same_Some front.value value is
    here false is = absurd cc

octets_are : (size : ℕ) (bytes : List ℕ) (front : Front (List ℕ)) → octets_of size bytes ≡ Some front → record { value = take size bytes; left = drop size bytes } ≡ front
octets_are size bytes front is = here (nat_le size (length bytes)) is
  where
    here : (b : Bool) → cond b (Some (record { value = take size bytes; left = drop size bytes })) None ≡ Some front → record { value = take size bytes; left = drop size bytes } ≡ front
    here true is = same_Some (record { value = take size bytes; left = drop size bytes }) front is
    here false is = absurd cc

-- the number in so many bytes, and the bytes behind it
abbrev front_number : ℕ → List ℕ → Front Value
front_number size bytes = record { value = number (little_endian (take size bytes)); left = drop size bytes }

unsigned_is : (size : ℕ) (bytes : List ℕ) (front : Front Value) → value_of (unsigned size) bytes ≡ Some front → front_number size bytes ≡ front
unsigned_is size bytes front is =
    let view = λ (f : Front (List ℕ)). (let made : Front Value = record { value = number (little_endian f.value); left = f.left } in made) in
    let p = mapped view (octets_of size bytes) front is in
    ap view (octets_are size bytes p.from p.was) ∙ p.is

number_read : (size : ℕ) (bytes : List ℕ) (value : Value) → reading (unsigned size) bytes ≡ Some value → number (little_endian (take size bytes)) ≡ value
number_read size bytes value is =
    let p = chained alone (value_of (unsigned size) bytes) value is in
    ap (λ (f : Front Value). f.value) (unsigned_is size bytes p.from p.was) ∙ alone_value p.from value p.is

-- two numbers, one behind the other
abbrev pair : Value → Value → Value
pair x y = members (first x (first y no_values))

pair_read : (a b : ℕ) (n m : List ℕ) (bytes : List ℕ) (value : Value) → reading (sequence (field n (unsigned a) (field m (unsigned b) no_fields))) bytes ≡ Some value
    → pair (number (little_endian (take a bytes))) (number (little_endian (take b (drop a bytes)))) ≡ value
pair_read a b n m bytes value is =
    let behind : Fields = field m (unsigned b) no_fields in
    let p = chained alone (value_of (sequence (field n (unsigned a) behind)) bytes) value is in
    let as_members = λ (f : Front (List Value)). (let made : Front Value = record { value = members (as_values f.value); left = f.left } in made) in
    let q = mapped as_members (fields_of (field n (unsigned a) behind) bytes) p.from p.was in
    let r = chained (λ (f : Front Value). seen_as (λ (values : List Value). f.value ∷ values) (fields_of behind f.left)) (value_of (unsigned a) bytes) q.from q.was in
    let with_first = λ (f : Front (List Value)). (let made : Front (List Value) = record { value = r.from.value ∷ f.value; left = f.left } in made) in
    let s = mapped with_first (fields_of behind r.from.left) q.from r.is in
    let t = chained (λ (f : Front Value). seen_as (λ (values : List Value). f.value ∷ values) (fields_of no_fields f.left)) (value_of (unsigned b) r.from.left) s.from s.was in
    let last : Front (List Value) = record { value = t.from.value ∷ []; left = t.from.left } in
    let front_first : front_number a bytes ≡ r.from = unsigned_is a bytes r.from r.was in
    let front_second : front_number b r.from.left ≡ t.from = unsigned_is b r.from.left t.from t.was in
    let one : number (little_endian (take a bytes)) ≡ r.from.value = ap (λ (f : Front Value). f.value) front_first in
    let two : number (little_endian (take b (drop a bytes))) ≡ t.from.value =
    ap (λ (f : Front Value). number (little_endian (take b f.left))) front_first ∙ ap (λ (f : Front Value). f.value) front_second in
    ap (λ (x : Value). pair x (number (little_endian (take b (drop a bytes))))) one
    ∙ ap (λ (y : Value). pair r.from.value y) two
    ∙ ap (λ (f : Front (List Value)). members (as_values (r.from.value ∷ f.value))) (same_Some last s.from t.is)
    ∙ ap (λ (f : Front (List Value)). members (as_values f.value)) s.is
    ∙ ap (λ (f : Front Value). f.value) q.is
    ∙ alone_value p.from value p.is

-- ---- numbers of one and of four bytes ----

one_byte : (bytes : List ℕ) → AreBytes bytes → little_endian (take 1 bytes) < 256
one_byte [] are = omega arith
one_byte (a ∷ bytes) are = let p : a < 256 = are 0 in omega arith

four_bytes : (bytes : List ℕ) → AreBytes bytes → little_endian (take 4 bytes) < 4294967296
four_bytes [] are = omega arith
four_bytes (a ∷ []) are = let p : a < 256 = are 0 in omega arith
four_bytes (a ∷ b ∷ []) are = let p : a < 256 = are 0 in let q : b < 256 = are 1 in omega arith
four_bytes (a ∷ b ∷ c ∷ []) are = let p : a < 256 = are 0 in let q : b < 256 = are 1 in let r : c < 256 = are 2 in omega arith
four_bytes (a ∷ b ∷ c ∷ d ∷ bytes) are = let p : a < 256 = are 0 in let q : b < 256 = are 1 in let r : c < 256 = are 2 in let s : d < 256 = are 3 in omega arith

byte_is : (n : ℕ) → n < 256 → byte_in (number n) ≡ Some n
byte_is n below = ap (λ (b : Bool). cond b (Some n) None) (lt-ltb n 256 below)

word_is : (n : ℕ) → n < 4294967296 → word_in (number n) ≡ Some n
word_is n below = ap (λ (b : Bool). cond b (Some n) None) (lt-ltb n 4294967296 below)

release_is : (a b : ℕ) → a < 256 → b < 256 → release_in (pair (number a) (number b)) ≡ Some (ctl.Release a b)
release_is a b a_below b_below =
    ap (λ (o : Option ℕ). option_and_then (λ (s : ℕ). option_map (ctl.Release s) (byte_in (number b))) o) (byte_is a a_below) ∙ ap (λ (o : Option ℕ). option_map (ctl.Release a) o) (byte_is b b_below)

-- ---- what a value reads as, where the input reads ----

-- it isn't refused
abbrev Reads : {A : Type 0} → (Value → Option A) → (kind : ℕ) → Form → Type 0
Reads {A} read kind form = (tlvs : List ℕ) (value : Value) → AreBytes tlvs → value_in kind form tlvs ≡ Some value → read value ≡ None → ⊥

isnt_none : {A : Type 0} (o : Option A) (a : A) → o ≡ Some a → o ≡ None → ⊥
isnt_none o a some none = let wrong : Some a ≡ None = sym some ∙ none in cc

byte_reads : Reads byte_in 1 table.u8
byte_reads tlvs value are is none =
    let p = chained (reading table.u8) (tlv_value 1 tlvs) value is in
    let n : ℕ = little_endian (take 1 p.from) in
    isnt_none (byte_in value) n (ap byte_in (sym (number_read 1 p.from value p.is)) ∙ byte_is n (one_byte p.from (tlv_bytes 1 tlvs p.from are p.was))) none

word_reads : Reads word_in 1 table.u32
word_reads tlvs value are is none =
    let p = chained (reading table.u32) (tlv_value 1 tlvs) value is in
    let n : ℕ = little_endian (take 4 p.from) in
    isnt_none (word_in value) n (ap word_in (sym (number_read 4 p.from value p.is)) ∙ word_is n (four_bytes p.from (tlv_bytes 1 tlvs p.from are p.was))) none

release_reads : (n m : List ℕ) → Reads release_in 1 (sequence (field n table.u8 (field m table.u8 no_fields)))
release_reads n m tlvs value are is none =
    let p = chained (reading (sequence (field n table.u8 (field m table.u8 no_fields)))) (tlv_value 1 tlvs) value is in
    let bytes : AreBytes p.from = tlv_bytes 1 tlvs p.from are p.was in
    let a : ℕ = little_endian (take 1 p.from) in
    let b : ℕ = little_endian (take 1 (drop 1 p.from)) in
    isnt_none (release_in value) (ctl.Release a b)
    (ap release_in (sym (pair_read 1 1 n m p.from value p.is)) ∙ release_is a b (one_byte p.from bytes) (one_byte (drop 1 p.from) (are_dropped 1 p.from bytes))) none

index_reads : (n m : List ℕ) → Reads index_in 1 (sequence (field n table.u8 (field m table.u32 no_fields)))
index_reads n m tlvs value are is none =
    let p = chained (reading (sequence (field n table.u8 (field m table.u32 no_fields)))) (tlv_value 1 tlvs) value is in
    let bytes : AreBytes p.from = tlv_bytes 1 tlvs p.from are p.was in
    let b : ℕ = little_endian (take 4 (drop 1 p.from)) in
    isnt_none (index_in value) b
    (ap index_in (sym (pair_read 1 4 n m p.from value p.is)) ∙ word_is b (four_bytes (drop 1 p.from) (are_dropped 1 p.from bytes))) none

-- ---- all lines ----

unmapped : {A B : Type 0} (f : A → B) (o : Option A) → option_map f o ≡ None → o ≡ None
unmapped f None is = refl
unmapped f (Some a) is = absurd cc

abbrev Refuses : Row → Type 0
Refuses row = (tlvs : List ℕ) → AreBytes tlvs → (request_in row tlvs ≡ None) ↔ LacksInput row tlvs

no_value : (x : Option Value) (found : Option Value) (R : Option Value → Option Request) → found ≡ x → ((v : Value) → found ≡ Some v → R (Some v) ≡ None → ⊥) → R x ≡ None → x ≡ None
no_value None found R same reads is = refl
no_value (Some v) found R same reads is = absurd (reads v same is)

by_input : (row : Row) (tlvs : List ℕ) (R : Option Value → Option Request) → is_some (input_at main_input row.input) ≡ true → R None ≡ None
    → ((v : Value) → input_of row main_input tlvs ≡ Some v → R (Some v) ≡ None → ⊥) → (R (input_of row main_input tlvs) ≡ None) ↔ LacksInput row tlvs
by_input row tlvs R has none reads =
    (λ is. record { has = has; missing = no_value (input_of row main_input tlvs) (input_of row main_input tlvs) R refl reads is }, λ lacks. ap R lacks.missing ∙ none)

of_input : AllByRecursion Refuses with_input
of_input = (
  λ tlvs are. by_input table.allocate tlvs (λ x. option_map Ctl (option_map ctl.Allocate (option_and_then byte_in x))) refl refl (λ v is none. byte_reads tlvs v are is (unmapped ctl.Allocate (byte_in v) (unmapped Ctl (option_map ctl.Allocate (byte_in v)) none))),
  (
    λ tlvs are. by_input table.release tlvs (λ x. option_map Ctl (option_and_then release_in x)) refl refl (λ v is none. release_reads (table.unnamed table.u8).name (table.unnamed table.u8).name tlvs v are is (unmapped Ctl (release_in v) none)),
    (
      λ tlvs are. by_input table.proxy_open tlvs (λ x. option_map Ctl (option_map (λ (path : Value). ctl.ProxyOpen) x)) refl refl (λ v is none. cc),
      (
        λ tlvs are. by_input table.set_operating_mode tlvs (λ x. option_map Dms (option_map dms.SetOperatingMode (option_and_then byte_in x))) refl refl (λ v is none. byte_reads tlvs v are is (unmapped dms.SetOperatingMode (byte_in v) (unmapped Dms (option_map dms.SetOperatingMode (byte_in v)) none))),
        (
          λ tlvs are. by_input table.stop_network tlvs (λ x. option_map Wds (option_map wds.StopNetwork (option_and_then word_in x))) refl refl (λ v is none. word_reads tlvs v are is (unmapped wds.StopNetwork (word_in v) (unmapped Wds (option_map wds.StopNetwork (word_in v)) none))),
          (
            λ tlvs are. by_input table.raw_send tlvs (λ x. option_map Wms (option_map (λ (message : Value). wms.RawSend) x)) refl refl (λ v is none. cc),
            (
              λ tlvs are. by_input table.raw_read tlvs (λ x. option_map Wms (option_map wms.RawRead (option_and_then index_in x))) refl refl (λ v is none. index_reads (table.field "storage" table.u8).name (table.field "index" table.u32).name tlvs v are is (unmapped wms.RawRead (index_in v) (unmapped Wms (option_map wms.RawRead (index_in v)) none))),
              (
                λ tlvs are. by_input table.delete tlvs (λ x. option_map Wms (option_map (λ (storage : Value). wms.Delete (option_and_then word_in (input_of table.delete index_input tlvs))) x)) refl refl (λ v is none. cc),
                (
                  λ tlvs are. by_input table.list_messages tlvs (λ x. option_map Wms (option_map (λ (storage : Value). wms.ListMessages) x)) refl refl (λ v is none. cc),
                  tt,
                ),
              ),
            ),
          ),
        ),
      ),
    ),
  ),
)

-- a request without this input always asks something
record IsAsked (row : Row) : Type 0 where
  pub none : has_input row ≡ false
  pub asked : (tlvs : List ℕ) → is_some (request_in row tlvs) ≡ true

some_isnt : {A : Type 0} (o : Option A) → is_some o ≡ true → o ≡ None → ⊥
some_isnt None is none = absurd cc
some_isnt (Some a) is none = absurd cc

never_refused : (row : Row) → IsAsked row → Refuses row
never_refused row is tlvs are = (λ none. absurd (some_isnt (request_in row tlvs) (is.asked tlvs) none), λ lacks. absurd (let wrong : false ≡ true = sym is.none ∙ lacks.has in cc))

asked_always : AllByRecursion IsAsked others
asked_always = search rules

each : AllByRecursion Refuses rows
each = all_lines Refuses of_input (each_so IsAsked Refuses others never_refused asked_always)

pub only_input : OnlyTheInputIsMissed
unfolding row_at
only_input service id row tlvs at are = find-holds Refuses (is_at service id) rows row each at tlvs are
