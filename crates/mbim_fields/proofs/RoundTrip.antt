-- The encoding of values has these values.
use Rattle.std.proofs.Common.{◌≡◌, ◌≢◌, ℕ, zero, suc, ◌+◌, ◌-◌, ◌*◌, ◌/◌, ◌%◌, ◌^◌, ◌<◌, ◌≤◌, ◌⊎◌, inl, inr, true, false, IsTrue, List, [], ◌∷◌, ◌++◌, length, take, drop, slice_range, slice_index, replicate, refl, sym, ◌∙◌, ap, subst, rules, arith, append_assoc, length-append, Option, Some, None, option_map, option_and_then}
use Rattle.std.proofs.lemmas.List.{append-nil}
use Rattle.std.proofs.Math.Seq.{take-append_seam, drop-append_seam, get_or-append_seam}
use Rattle.std.proofs.str.Laws.{order}
use Rattle.kit_bytes.specs.Numbers.{number_at}
use Rattle.mbim_fields.specs.Layout.{Fixed, u32, u64, uuid, ipv4, ipv6, prefixed_ipv4, prefixed_ipv6, size, Item, in_place, text, binary, structure, width, Form, one, each, run, perhaps, Layout, no_fields, field}
use Rattle.mbim_fields.specs.Value.{Value, number, uuid_of, octets, text_of, absent, elements, members, Values, no_more, first, list_of, as_number, as_uuid, as_octets, as_text, as_elements, as_members, count_in, room}
use Rattle.mbim_fields.specs.Reading.{fixed_at}
use Rattle.mbim_fields.specs.Fields.{IsAt, PointsAt, StandInRow, Stands, FormStands, FieldsStand, Fields}
use Rattle.kit_bytes.specs.Numbers.{number_bytes}
use Rattle.mbim_fields.specs.Canon.{number_in, octets_in, append_to, prefixed_in, fixed_bytes, run_bytes, Laid, nothing, bytes_of, add, add_data, point_at, point, lay_each, rooms, counted_list, lay_text, lay_run, lay_perhaps, lay_item, lay_form, lay_fields, canon}
use Rattle.kit_bytes.proofs.RoundTrips.{reads_written}
use Rattle.mbim_fields.proofs.Agreement.{slice-none, true_or}
use Rattle.mbim_fields.proofs.Writings.{counted_list-is, counted_list-not, lay_text-is}
use Rattle.std.specs.Str.{all_scalars}
use Rattle.kit_bytes.specs.Utf16.{utf16_bytes, is_utf16, utf16_text}

-- ---- bytes at a place ----

pub record At (whole : List ℕ) (place : ℕ) (bytes : List ℕ) : Type 0 where
  pub before : List ℕ
  pub behind : List ℕ
  pub whole_is : whole ≡ before ++ (bytes ++ behind)
  pub place_is : place ≡ length before

pub At-inside : (whole : List ℕ) (place : ℕ) (bytes : List ℕ) → At whole place bytes → place + length bytes ≤ length whole
At-inside whole place bytes at = omega (arith, at.place_is, ap length at.whole_is, length-append at.before (bytes ++ at.behind), length-append bytes at.behind)

pub At-left : (whole : List ℕ) (place : ℕ) (a b : List ℕ) → At whole place (a ++ b) → At whole place a
At-left whole place a b at =
    record { before = at.before; behind = b ++ at.behind; whole_is = at.whole_is ∙ ap (λ (l : List ℕ). at.before ++ l) (append_assoc a b at.behind); place_is = at.place_is }

pub At-right : (whole : List ℕ) (place : ℕ) (a b : List ℕ) → At whole place (a ++ b) → At whole (place + length a) b
At-right whole place a b at =
    record {
      before = at.before ++ a;
      behind = at.behind;
      whole_is = at.whole_is ∙ ap (λ (l : List ℕ). at.before ++ l) (append_assoc a b at.behind) ∙ sym (append_assoc at.before a (b ++ at.behind));
      place_is = omega (arith, at.place_is, length-append at.before a);
    }

pub At-slice : (whole : List ℕ) (place : ℕ) (bytes : List ℕ) → At whole place bytes → slice_range whole place (place + length bytes) ≡ bytes
At-slice whole place bytes at =
    let count : place + length bytes - place ≡ length bytes = omega arith in
    let dropped : drop place whole ≡ bytes ++ at.behind =
    ap (λ (n : ℕ). drop n whole) at.place_is ∙ ap (λ (l : List ℕ). drop (length at.before) l) at.whole_is ∙ drop-append_seam at.before (bytes ++ at.behind) in
    ap (λ (n : ℕ). take n (drop place whole)) count ∙ ap (λ (l : List ℕ). take (length bytes) l) dropped ∙ take-append_seam bytes at.behind

pub At-first : (whole : List ℕ) (place byte : ℕ) (bytes : List ℕ) → At whole place (byte ∷ bytes) → slice_index whole place ≡ byte
At-first whole place byte bytes at =
    ap (λ (n : ℕ). slice_index whole n) at.place_is ∙ ap (λ (l : List ℕ). slice_index l (length at.before)) at.whole_is ∙ get_or-append_seam at.before byte (bytes ++ at.behind) 0

-- ---- numbers ----

abbrev pub Below : ℕ → ℕ → Type 0
Below zero n = n ≡ 0
Below (suc count) n = Below count (n / 256)

pub At-number : (whole : List ℕ) (count place n : ℕ) → Below count n → At whole place (number_bytes count n) → number_at whole place count ≡ n
At-number whole zero place n below at = sym below
At-number whole (suc count) place n below at =
    let here = At-first whole place (n % 256) (number_bytes count (n / 256)) at in
    let more = At-number whole count (place + 1) (n / 256) below (At-right whole place (n % 256 ∷ []) (number_bytes count (n / 256)) at) in
    omega (arith, here, more)

pub number_bytes-length : (count n : ℕ) → length (number_bytes count n) ≡ count
number_bytes-length zero n = refl
number_bytes-length (suc count) n = omega (arith, number_bytes-length count (n / 256))

number_in-not : (count n : ℕ) → 2 ^ (8 * count) ≤ n → number_in count n ≡ None
number_in-not count n past = search rules

pub number_in-is : (count n : ℕ) → n < 2 ^ (8 * count) → number_in count n ≡ Some (number_bytes count n)
number_in-is count n fits = search rules

pub Some-same : {A : Type 0} (o : Option A) (a b : A) → o ≡ Some a → o ≡ Some b → a ≡ b
Some-same o a b is also = let h = sym is ∙ also in cc

pub number_in-some : (count n : ℕ) (bytes : List ℕ) → number_in count n ≡ Some bytes → (bytes ≡ number_bytes count n) × (n < 2 ^ (8 * count))
number_in-some count n bytes is = elim (order n (2 ^ (8 * count))) [
  | inl fits ↦ (Some-same _ _ _ is (number_in-is count n fits), fits)
  | inr past ↦ absurd (let h = sym (number_in-not count n past) ∙ is in cc)
]

below-4 : (n : ℕ) → n < 2 ^ 32 → Below 4 n
below-4 n fits = omega (arith, fits)

below-8 : (n : ℕ) → n < 2 ^ 64 → Below 8 n
below-8 n fits = omega (arith, fits)

-- a number of 4 bytes stands where its bytes do
pub u32-at : (whole : List ℕ) (place n : ℕ) (bytes : List ℕ) → number_in 4 n ≡ Some bytes → At whole place bytes → number_at whole place 4 ≡ n
u32-at whole place n bytes is at =
    let some = number_in-some 4 n bytes is in
    At-number whole 4 place n (below-4 n some.1) (subst (λ (l : List ℕ). At whole place l) some.0 at)

pub u64-at : (whole : List ℕ) (place n : ℕ) (bytes : List ℕ) → number_in 8 n ≡ Some bytes → At whole place bytes → number_at whole place 8 ≡ n
u64-at whole place n bytes is at =
    let some = number_in-some 8 n bytes is in
    At-number whole 8 place n (below-8 n some.1) (subst (λ (l : List ℕ). At whole place l) some.0 at)

pub number_in-length : (count n : ℕ) (bytes : List ℕ) → number_in count n ≡ Some bytes → length bytes ≡ count
number_in-length count n bytes is = ap length (number_in-some count n bytes is).0 ∙ number_bytes-length count n

-- ---- what has one size ----

number-some : (count : ℕ) (value : Value) (bytes : List ℕ) → option_and_then (number_in count) (as_number value) ≡ Some bytes → (n : ℕ) × (value ≡ number n) × (number_in count n ≡ Some bytes)
number-some count (number n) bytes is = (n, refl, is)
number-some count _ bytes is = absurd cc

octets_in-not : (count : ℕ) (bytes : List ℕ) → length bytes ≢ count → octets_in count bytes ≡ None
octets_in-not count bytes isnt = search rules

pub octets_in-is : (count : ℕ) (bytes : List ℕ) → length bytes ≡ count → octets_in count bytes ≡ Some bytes
octets_in-is count bytes is = search rules

same_or : (a b : ℕ) → (a ≡ b) ⊎ (a ≢ b)
same_or a b = elim (order a b) [
  | inl less ↦ inr (λ is. omega (arith, is, less))
  | inr from ↦ elim (order b a) [ inl more ↦ inr (λ is. omega (arith, is, more)) | inr to ↦ inl (omega (arith, from, to)) ]
]

octets-some : (count : ℕ) (value : Value) (bytes : List ℕ) → option_and_then (octets_in count) (as_octets value) ≡ Some bytes → (value ≡ octets bytes) × (length bytes ≡ count)
octets-some count (octets given) bytes is = elim (same_or (length given) count) [
  | inl same ↦ let bytes_are = Some-same _ _ _ (octets_in-is count given same) is in (ap (λ (l : List ℕ). octets l) bytes_are, ap length (sym bytes_are) ∙ same)
  | inr not ↦ absurd (let h = sym (octets_in-not count given not) ∙ is in cc)
]
octets-some count _ bytes is = absurd cc

uuid-some : (value : Value) (bytes : List ℕ) → option_and_then (octets_in 16) (as_uuid value) ≡ Some bytes → (value ≡ uuid_of bytes) × (length bytes ≡ 16)
uuid-some (uuid_of given) bytes is = elim (same_or (length given) 16) [
  | inl same ↦ let bytes_are = Some-same _ _ _ (octets_in-is 16 given same) is in (ap (λ (l : List ℕ). uuid_of l) bytes_are, ap length (sym bytes_are) ∙ same)
  | inr not ↦ absurd (let h = sym (octets_in-not 16 given not) ∙ is in cc)
]
uuid-some _ bytes is = absurd cc

and-some : {A B : Type 0} (f : A → Option B) (o : Option A) (b : B) → option_and_then f o ≡ Some b → (a : A) × (o ≡ Some a) × (f a ≡ Some b)
and-some f None b is = absurd cc
and-some f (Some a) b is = (a, refl, is)

map-some : {A B : Type 0} (f : A → B) (o : Option A) (b : B) → option_map f o ≡ Some b → (a : A) × (o ≡ Some a) × (f a ≡ b)
map-some f None b is = absurd cc
map-some f (Some a) b is = (a, refl, Some-same _ (f a) b refl is)

record Prefixed (count : ℕ) (value : Value) (bytes : List ℕ) : Type 0 where
  pub n : ℕ
  pub front : List ℕ
  pub address : List ℕ
  pub value_is : value ≡ members (first (number n) (first (octets address) no_more))
  pub front_is : number_in 4 n ≡ Some front
  pub count_is : length address ≡ count
  pub bytes_are : bytes ≡ front ++ address

prefixed-some : (count : ℕ) (value : Value) (bytes : List ℕ) → option_and_then (prefixed_in count) (as_members value) ≡ Some bytes → Prefixed count value bytes
prefixed-some count (members (first prefix (first address no_more))) bytes is =
    let p = and-some (λ front. append_to front (option_and_then (octets_in count) (as_octets address))) (option_and_then (number_in 4) (as_number prefix)) bytes is in
    let m = map-some (λ back. p.0 ++ back) (option_and_then (octets_in count) (as_octets address)) bytes p.2 in
    let n = number-some 4 prefix p.0 p.1 in
    let o = octets-some count address m.0 m.1 in
    record {
      n = n.0;
      front = p.0;
      address = m.0;
      value_is = ap (λ (v : Value). members (first v (first address no_more))) n.1 ∙ ap (λ (v : Value). members (first (number n.0) (first v no_more))) o.0;
      front_is = n.2;
      count_is = o.1;
      bytes_are = sym m.2;
    }
prefixed-some count (members no_more) bytes is = absurd cc
prefixed-some count (members (first prefix no_more)) bytes is = absurd cc
prefixed-some count (members (first prefix (first address (first more values)))) bytes is = absurd cc
prefixed-some count (number _) bytes is = absurd cc
prefixed-some count (uuid_of _) bytes is = absurd cc
prefixed-some count (octets _) bytes is = absurd cc
prefixed-some count (text_of _) bytes is = absurd cc
prefixed-some count absent bytes is = absurd cc
prefixed-some count (elements _) bytes is = absurd cc

octets-slice : (whole : List ℕ) (place count : ℕ) (bytes : List ℕ) → length bytes ≡ count → At whole place bytes → bytes ≡ slice_range whole place (place + count)
octets-slice whole place count bytes is at = sym (subst (λ (n : ℕ). slice_range whole place (place + n) ≡ bytes) is (At-slice whole place bytes at))

prefixed-length : (count : ℕ) (value : Value) (bytes : List ℕ) → Prefixed count value bytes → length bytes ≡ 4 + count
prefixed-length count value bytes p = omega (arith, ap length p.bytes_are, length-append p.front p.address, number_in-length 4 p.n p.front p.front_is, p.count_is)

prefixed-at : (count : ℕ) (value : Value) (bytes whole : List ℕ) (place : ℕ) → Prefixed count value bytes → At whole place bytes
    → value ≡ members (first (number (number_at whole place 4)) (first (octets (slice_range whole (place + 4) (place + 4 + count))) no_more))
prefixed-at count value bytes whole place p at =
    let both = subst (λ (l : List ℕ). At whole place l) p.bytes_are at in
    let n_is = u32-at whole place p.n p.front p.front_is (At-left whole place p.front p.address both) in
    let right = subst (λ (n : ℕ). At whole (place + n) p.address) (number_in-length 4 p.n p.front p.front_is) (At-right whole place p.front p.address both) in
    let address_is = octets-slice whole (place + 4) count p.address p.count_is right in
    p.value_is ∙ ap (λ (n : ℕ). members (first (number n) (first (octets p.address) no_more))) (sym n_is)
    ∙ ap (λ (l : List ℕ). members (first (number (number_at whole place 4)) (first (octets l) no_more))) address_is

pub fixed-length : (fixed : Fixed) (value : Value) (bytes : List ℕ) → fixed_bytes fixed value ≡ Some bytes → length bytes ≡ size fixed
fixed-length u32 value bytes is = let s = number-some 4 value bytes is in number_in-length 4 s.0 bytes s.2
fixed-length u64 value bytes is = let s = number-some 8 value bytes is in number_in-length 8 s.0 bytes s.2
fixed-length uuid value bytes is = (uuid-some value bytes is).1
fixed-length ipv4 value bytes is = (octets-some 4 value bytes is).1
fixed-length ipv6 value bytes is = (octets-some 16 value bytes is).1
fixed-length prefixed_ipv4 value bytes is = prefixed-length 4 value bytes (prefixed-some 4 value bytes is)
fixed-length prefixed_ipv6 value bytes is = prefixed-length 16 value bytes (prefixed-some 16 value bytes is)

fixed-value : (fixed : Fixed) (value : Value) (bytes whole : List ℕ) (place : ℕ) → fixed_bytes fixed value ≡ Some bytes → At whole place bytes → value ≡ fixed_at fixed whole place
fixed-value u32 value bytes whole place is at = let s = number-some 4 value bytes is in s.1 ∙ ap (λ (n : ℕ). number n) (sym (u32-at whole place s.0 bytes s.2 at))
fixed-value u64 value bytes whole place is at = let s = number-some 8 value bytes is in s.1 ∙ ap (λ (n : ℕ). number n) (sym (u64-at whole place s.0 bytes s.2 at))
fixed-value uuid value bytes whole place is at = let s = uuid-some value bytes is in s.0 ∙ ap (λ (l : List ℕ). uuid_of l) (octets-slice whole place 16 bytes s.1 at)
fixed-value ipv4 value bytes whole place is at = let s = octets-some 4 value bytes is in s.0 ∙ ap (λ (l : List ℕ). octets l) (octets-slice whole place 4 bytes s.1 at)
fixed-value ipv6 value bytes whole place is at = let s = octets-some 16 value bytes is in s.0 ∙ ap (λ (l : List ℕ). octets l) (octets-slice whole place 16 bytes s.1 at)
fixed-value prefixed_ipv4 value bytes whole place is at = prefixed-at 4 value bytes whole place (prefixed-some 4 value bytes is) at
fixed-value prefixed_ipv6 value bytes whole place is at = prefixed-at 16 value bytes whole place (prefixed-some 16 value bytes is) at

pub fixed-stands : (fixed : Fixed) (value : Value) (bytes whole : List ℕ) (place : ℕ) → fixed_bytes fixed value ≡ Some bytes → At whole place bytes → IsAt fixed value whole place
fixed-stands fixed value bytes whole place is at =
    record { inside = omega (arith, At-inside whole place bytes at, fixed-length fixed value bytes is); is = fixed-value fixed value bytes whole place is at }

-- ---- runs ----

pub record RunAdds (fixed : Fixed) (front all : List ℕ) (values : List Value) : Type 0 where
  pub behind : List ℕ
  pub all_is : all ≡ front ++ behind
  pub size_is : length behind ≡ length values * size fixed
  pub row : (whole : List ℕ) (place : ℕ) → At whole place behind → StandInRow (λ value there. IsAt fixed value whole there) (size fixed) values place

pub run-adds : (fixed : Fixed) (front all : List ℕ) (values : List Value) → run_bytes fixed front values ≡ Some all → RunAdds fixed front all values
run-adds fixed front all [] is = record { behind = []; all_is = sym (Some-same _ front all refl is) ∙ sym (append-nil front); size_is = omega arith; row = λ whole place at. tt }
run-adds fixed front all (value ∷ values) is =
    let a = and-some (λ bytes. run_bytes fixed (front ++ bytes) values) (fixed_bytes fixed value) all is in
    let more = run-adds fixed (front ++ a.0) all values a.2 in
    let here = fixed-length fixed value a.0 a.1 in
    record {
      behind = a.0 ++ more.behind;
      all_is = more.all_is ∙ append_assoc front a.0 more.behind;
      size_is = omega (arith, length-append a.0 more.behind, here, more.size_is);
      row = λ whole place at. (
        fixed-stands fixed value a.0 whole place a.1 (At-left whole place a.0 more.behind at),
        subst (λ (n : ℕ). StandInRow (λ v there. IsAt fixed v whole there) (size fixed) values (place + n)) here (more.row whole (place + length a.0) (At-right whole place a.0 more.behind at)),
      );
    }

-- ---- what is laid out ----

-- laying out added these bytes to the fields in place and those to the data, and wherever both stand, this holds
pub record Lays (Holds : List ℕ → Type 0) (room begin : ℕ) (laid next : Laid) : Type 0 where
  pub front : List ℕ
  pub back : List ℕ
  pub front_is : next.front ≡ laid.front ++ front
  pub back_is : next.back ≡ laid.back ++ back
  pub room_is : length front ≡ room
  pub holds : (whole : List ℕ) → At whole (length laid.front) front → At whole (begin + length laid.back) back → Holds whole

Lays-weaker : (P Q : List ℕ → Type 0) (room begin : ℕ) (laid next : Laid) → ((whole : List ℕ) → P whole → Q whole) → Lays P room begin laid next → Lays Q room begin laid next
Lays-weaker P Q room begin laid next weaker l =
    record { front = l.front; back = l.back; front_is = l.front_is; back_is = l.back_is; room_is = l.room_is; holds = λ whole in_front in_back. weaker whole (l.holds whole in_front in_back) }

-- one and then another
Lays-then : (P Q : List ℕ → Type 0) (r s begin : ℕ) (a b c : Laid) → Lays P r begin a b → Lays Q s begin b c → Lays (λ whole. P whole × Q whole) (r + s) begin a c
Lays-then P Q r s begin a b c l m =
    let front_length : length a.front + length l.front ≡ length b.front = omega (arith, ap length l.front_is, length-append a.front l.front) in
    let back_length : begin + length a.back + length l.back ≡ begin + length b.back = omega (arith, ap length l.back_is, length-append a.back l.back) in
    record {
      front = l.front ++ m.front;
      back = l.back ++ m.back;
      front_is = m.front_is ∙ ap (λ (x : List ℕ). x ++ m.front) l.front_is ∙ append_assoc a.front l.front m.front;
      back_is = m.back_is ∙ ap (λ (x : List ℕ). x ++ m.back) l.back_is ∙ append_assoc a.back l.back m.back;
      room_is = omega (arith, length-append l.front m.front, l.room_is, m.room_is);
      holds = λ whole in_front in_back. (
        l.holds whole (At-left whole (length a.front) l.front m.front in_front) (At-left whole (begin + length a.back) l.back m.back in_back),
        m.holds whole
            (subst (λ (n : ℕ). At whole n m.front) front_length (At-right whole (length a.front) l.front m.front in_front))
            (subst (λ (n : ℕ). At whole n m.back) back_length (At-right whole (begin + length a.back) l.back m.back in_back)),
      );
    }

-- bytes in place
add-lays : (begin : ℕ) (laid : Laid) (bytes : List ℕ) → Lays (λ whole. At whole (length laid.front) bytes) (length bytes) begin laid (add laid bytes)
add-lays begin laid bytes = record { front = bytes; back = []; front_is = refl; back_is = sym (append-nil laid.back); room_is = refl; holds = λ whole in_front in_back. in_front }

-- an offset at a place says where data stands, or there is no data and it is 0
pub record PointsTo (bytes whole : List ℕ) (at place : ℕ) : Type 0 where
  pub some : 0 < length bytes → (number_at whole at 4 ≡ place) × At whole place bytes
  pub none : length bytes ≡ 0 → number_at whole at 4 ≡ 0

points : (whole : List ℕ) (at place : ℕ) (bytes : List ℕ) → PointsTo bytes whole at place → number_at whole (at + 4) 4 ≡ length bytes → PointsAt (λ d. d ≡ bytes) whole at
points whole at place [] to size_is =
    record { offset = number_at whole at 4; size = 0; offset_is = refl; size_is = sym size_is; inside = inl refl; holds = slice-none whole (number_at whole at 4) 0 refl }
points whole at place (byte ∷ bytes) to size_is =
    let is = to.some (omega arith) in
    record {
      offset = place;
      size = length (byte ∷ bytes);
      offset_is = sym is.0;
      size_is = sym size_is;
      inside = inr (At-inside whole place (byte ∷ bytes) is.1);
      holds = At-slice whole place (byte ∷ bytes) is.1;
    }

point_at-lays : (begin : ℕ) (laid next : Laid) (bytes : List ℕ) → point_at begin laid bytes ≡ Some next → Lays (λ whole. PointsTo bytes whole (length laid.front) (begin + length laid.back)) 4 begin laid next
point_at-lays begin laid next [] is =
    let next_is = Some-same _ (add laid (number_bytes 4 0)) next refl is in
    subst (λ (n : Laid). Lays (λ whole. PointsTo [] whole (length laid.front) (begin + length laid.back)) 4 begin laid n) next_is
    (Lays-weaker (λ whole. At whole (length laid.front) (number_bytes 4 0)) (λ whole. PointsTo [] whole (length laid.front) (begin + length laid.back)) 4 begin laid (add laid (number_bytes 4 0))
    (λ whole at. record { some = λ some. absurd (omega (arith, some)); none = λ none. At-number whole 4 (length laid.front) 0 refl at }) (add-lays begin laid (number_bytes 4 0)))
point_at-lays begin laid next (byte ∷ bytes) is =
    let m = map-some (λ offset. add_data (add laid offset) (byte ∷ bytes)) (number_in 4 (begin + length laid.back)) next is in
    let zeros : List ℕ = replicate ((4 - length (byte ∷ bytes) % 4) % 4) 0 in
    subst (λ (n : Laid). Lays (λ whole. PointsTo (byte ∷ bytes) whole (length laid.front) (begin + length laid.back)) 4 begin laid n) m.2 (
    record {
      front = m.0;
      back = (byte ∷ bytes) ++ zeros;
      front_is = refl;
      back_is = append_assoc laid.back (byte ∷ bytes) zeros;
      room_is = number_in-length 4 (begin + length laid.back) m.0 m.1;
      holds = λ whole in_front in_back. record {
        some = λ some. (u32-at whole (length laid.front) (begin + length laid.back) m.0 m.1 in_front, At-left whole (begin + length laid.back) (byte ∷ bytes) zeros in_back);
        none = λ none. omega (arith, none);
      };
    })

point-lays : (begin : ℕ) (laid next : Laid) (bytes : List ℕ) → point begin laid bytes ≡ Some next → Lays (λ whole. PointsAt (λ d. d ≡ bytes) whole (length laid.front)) 8 begin laid next
point-lays begin laid next bytes is =
    let a = and-some (λ mid. option_map (add mid) (number_in 4 (length bytes))) (point_at begin laid bytes) next is in
    let mid = a.0 in
    let m = map-some (add mid) (number_in 4 (length bytes)) next a.2 in
    let first = point_at-lays begin laid mid bytes a.1 in
    let count = number_in-length 4 (length bytes) m.0 m.1 in
    let second = subst (λ (n : ℕ). Lays (λ whole. At whole (length mid.front) m.0) n begin mid (add mid m.0)) count (add-lays begin mid m.0) in
    let both = Lays-then (λ whole. PointsTo bytes whole (length laid.front) (begin + length laid.back)) (λ whole. At whole (length mid.front) m.0) 4 4 begin laid mid (add mid m.0) first second in
    let mid_length : length mid.front ≡ length laid.front + 4 = omega (arith, ap length first.front_is, length-append laid.front first.front, first.room_is) in
    subst (λ (n : Laid). Lays (λ whole. PointsAt (λ d. d ≡ bytes) whole (length laid.front)) 8 begin laid n) m.2
    (Lays-weaker _ (λ whole. PointsAt (λ d. d ≡ bytes) whole (length laid.front)) 8 begin laid (add mid m.0)
    (λ whole p.
    let size = u32-at whole (length laid.front + 4) (length bytes) m.0 m.1 (subst (λ (n : ℕ). At whole n m.0) mid_length p.1) in
    points whole (length laid.front) (begin + length laid.back) bytes p.0 size) both)

-- ---- items ----

abbrev LaysItem : (Laid → Value → Option Laid) → (List ℕ → Value → ℕ → Type 0) → ℕ → ℕ → Type 0
LaysItem lay Stands width begin = (laid next : Laid) (value : Value) → lay laid value ≡ Some next → Lays (λ whole. Stands whole value (length laid.front)) width begin laid next

each-lays : (lay : Laid → Value → Option Laid) (Stands : List ℕ → Value → ℕ → Type 0) (width begin : ℕ) → LaysItem lay Stands width begin → (laid next : Laid) (values : List Value) → lay_each lay laid values ≡ Some next
    → Lays (λ whole. StandInRow (Stands whole) width values (length laid.front)) (length values * width) begin laid next
each-lays lay Stands width begin lays laid next [] is =
    subst (λ (n : Laid). Lays (λ whole. Unit {0}) (0 * width) begin laid n) (Some-same _ laid next refl is)
    (record { front = []; back = []; front_is = sym (append-nil laid.front); back_is = sym (append-nil laid.back); room_is = omega arith; holds = λ whole in_front in_back. tt })
each-lays lay Stands width begin lays laid next (value ∷ values) is =
    let a = and-some (λ mid. lay_each lay mid values) (lay laid value) next is in
    let mid = a.0 in
    let one = lays laid mid value a.1 in
    let rest = each-lays lay Stands width begin lays mid next values a.2 in
    let both = Lays-then (λ whole. Stands whole value (length laid.front)) (λ whole. StandInRow (Stands whole) width values (length mid.front)) width (length values * width) begin laid mid next one rest in
    let mid_length : length mid.front ≡ length laid.front + width = omega (arith, ap length one.front_is, length-append laid.front one.front, one.room_is) in
    let count : width + length values * width ≡ length (value ∷ values) * width = omega arith in
    subst (λ (n : ℕ). Lays (λ whole. StandInRow (Stands whole) width (value ∷ values) (length laid.front)) n begin laid next) count
    (Lays-weaker _ (λ whole. StandInRow (Stands whole) width (value ∷ values) (length laid.front)) (width + length values * width) begin laid next
    (λ whole p. (p.0, subst (λ (n : ℕ). StandInRow (Stands whole) width values n) mid_length p.1)) both)

counted_list-some : (count : ℕ) (values : Values) (items : List Value) → counted_list count values ≡ Some items → (items ≡ list_of values) × (length (list_of values) ≡ count)
counted_list-some count values items is = elim (same_or (length (list_of values)) count) [
  | inl same ↦ (Some-same _ _ _ is (counted_list-is count values same), same)
  | inr not ↦ absurd (let h = sym (counted_list-not count values not) ∙ is in cc)
]

-- the elements of a list of so many
list-some : (count : ℕ) (value : Value) (items : List Value) → option_and_then (counted_list count) (as_elements value) ≡ Some items → (values : Values) × (value ≡ elements values) × (items ≡ list_of values) × (length (list_of values) ≡ count)
list-some count (elements values) items is = let s = counted_list-some count values items is in (values, refl, s.0, s.1)
list-some count _ items is = absurd cc

text-some : (value : Value) (begin : ℕ) (laid next : Laid) → option_and_then (lay_text begin laid) (as_text value) ≡ Some next → (chars : List ℕ) × (value ≡ text_of chars) × (lay_text begin laid chars ≡ Some next)
text-some (text_of chars) begin laid next is = (chars, refl, is)
text-some _ begin laid next is = absurd cc

lay_text-not : (begin : ℕ) (laid : Laid) (chars : List ℕ) → all_scalars chars ≡ false → lay_text begin laid chars ≡ None
lay_text-not begin laid chars not = search rules

lay_text-some : (begin : ℕ) (laid next : Laid) (chars : List ℕ) → lay_text begin laid chars ≡ Some next → (all_scalars chars ≡ true) × (point begin laid (utf16_bytes chars) ≡ Some next)
lay_text-some begin laid next chars is = elim (true_or (all_scalars chars)) [
  | inl are ↦ (are, sym (lay_text-is begin laid chars are) ∙ is)
  | inr not ↦ absurd (let h = sym (lay_text-not begin laid chars not) ∙ is in cc)
]

octets-of : (value : Value) (begin : ℕ) (laid next : Laid) → option_and_then (point begin laid) (as_octets value) ≡ Some next → (bytes : List ℕ) × (value ≡ octets bytes) × (point begin laid bytes ≡ Some next)
octets-of (octets bytes) begin laid next is = (bytes, refl, is)
octets-of _ begin laid next is = absurd cc

members-of : {B : Type 0} (value : Value) (f : Values → Option B) (b : B) → option_and_then f (as_members value) ≡ Some b → (values : Values) × (value ≡ members values) × (f values ≡ Some b)
members-of (members values) f b is = (values, refl, is)
members-of _ f b is = absurd cc

PointsAt-weaker : (P Q : List ℕ → Type 0) (whole : List ℕ) (at : ℕ) → ((d : List ℕ) → P d → Q d) → PointsAt P whole at → PointsAt Q whole at
PointsAt-weaker P Q whole at weaker p = record { offset = p.offset; size = p.size; offset_is = p.offset_is; size_is = p.size_is; inside = p.inside; holds = weaker _ p.holds }

-- a pair at data of which this holds
pair-lays : (Holds : List ℕ → Type 0) (begin : ℕ) (laid next : Laid) (bytes : List ℕ) → Holds bytes → point begin laid bytes ≡ Some next → Lays (λ whole. PointsAt Holds whole (length laid.front)) 8 begin laid next
pair-lays Holds begin laid next bytes holds is =
    Lays-weaker (λ whole. PointsAt (λ d. d ≡ bytes) whole (length laid.front)) (λ whole. PointsAt Holds whole (length laid.front)) 8 begin laid next
    (λ whole. PointsAt-weaker (λ d. d ≡ bytes) Holds whole (length laid.front) (λ d same. subst Holds (sym same) holds)) (point-lays begin laid next bytes is)

sizes : (fixed : Fixed) → 4 ≤ size fixed
sizes u32 = omega arith
sizes u64 = omega arith
sizes uuid = omega arith
sizes ipv4 = omega arith
sizes ipv6 = omega arith
sizes prefixed_ipv4 = omega arith
sizes prefixed_ipv6 = omega arith

run-there : (fixed : Fixed) (values : List Value) (bytes whole : List ℕ) (at place : ℕ) → RunAdds fixed [] bytes values → PointsTo bytes whole at place
    → StandInRow (λ v there. IsAt fixed v whole there) (size fixed) values (number_at whole at 4)
run-there fixed [] bytes whole at place adds to = tt
run-there fixed (value ∷ values) bytes whole at place adds to =
    let some : 0 < length bytes = omega (arith, ap length adds.all_is, adds.size_is, sizes fixed) in
    let is = to.some some in
    subst (λ (n : ℕ). StandInRow (λ v there. IsAt fixed v whole there) (size fixed) (value ∷ values) n) (sym is.0) (adds.row whole place (subst (λ (l : List ℕ). At whole place l) adds.all_is is.1))

there-lays : (fixed : Fixed) (begin : ℕ) (laid next : Laid) (value : Value) → 0 < begin → option_and_then (point_at begin laid) (fixed_bytes fixed value) ≡ Some next
    → Lays (λ whole. ((number_at whole (length laid.front) 4 ≡ 0) × (value ≡ absent)) ⊎ ((number_at whole (length laid.front) 4 ≢ 0) × IsAt fixed value whole (number_at whole (length laid.front) 4))) 4 begin laid next
there-lays fixed begin laid next value some is =
    let a = and-some (point_at begin laid) (fixed_bytes fixed value) next is in
    Lays-weaker (λ whole. PointsTo a.0 whole (length laid.front) (begin + length laid.back)) _ 4 begin laid next
    (λ whole to.
    let bytes : 0 < length a.0 = omega (arith, fixed-length fixed value a.0 a.1, sizes fixed) in
    let there = to.some bytes in
    inr (
      (λ none. omega (arith, there.0, none, some)),
      subst (λ (n : ℕ). IsAt fixed value whole n) (sym there.0) (fixed-stands fixed value a.0 whole (begin + length laid.back) a.1 there.1),
    )) (point_at-lays begin laid next a.0 a.2)

run-lays : (fixed : Fixed) (count begin : ℕ) (laid next : Laid) (value : Value) → lay_run fixed count begin laid value ≡ Some next
    → (values : Values) × (value ≡ elements values) × (length (list_of values) ≡ count)
    × Lays (λ whole. StandInRow (λ v there. IsAt fixed v whole there) (size fixed) (list_of values) (number_at whole (length laid.front) 4)) 4 begin laid next
run-lays fixed count begin laid next value is =
    let a = and-some (λ values. option_and_then (point_at begin laid) (run_bytes fixed [] values)) (option_and_then (counted_list count) (as_elements value)) next is in
    let l = list-some count value a.0 a.1 in
    let b = and-some (point_at begin laid) (run_bytes fixed [] a.0) next a.2 in
    let adds = run-adds fixed [] b.0 (list_of l.0) (subst (λ (items : List Value). run_bytes fixed [] items ≡ Some b.0) l.2 b.1) in
    let lays = point_at-lays begin laid next b.0 b.2 in (
      l.0,
      l.1,
      l.3,
      Lays-weaker (λ whole. PointsTo b.0 whole (length laid.front) (begin + length laid.back)) _ 4 begin laid next
          (λ whole to. run-there fixed (list_of l.0) b.0 whole (length laid.front) (begin + length laid.back) adds to) lays,
    )

perhaps-lays : (fixed : Fixed) (begin : ℕ) (laid next : Laid) (value : Value) → 0 < begin → lay_perhaps fixed begin laid value ≡ Some next
    → Lays (λ whole. ((number_at whole (length laid.front) 4 ≡ 0) × (value ≡ absent)) ⊎ ((number_at whole (length laid.front) 4 ≢ 0) × IsAt fixed value whole (number_at whole (length laid.front) 4))) 4 begin laid next
perhaps-lays fixed begin laid next absent some is =
    Lays-weaker (λ whole. PointsTo [] whole (length laid.front) (begin + length laid.back)) _ 4 begin laid next (λ whole to. inl (to.none refl, refl)) (point_at-lays begin laid next [] is)
perhaps-lays fixed begin laid next (number n) some is = there-lays fixed begin laid next (number n) some is
perhaps-lays fixed begin laid next (uuid_of n) some is = there-lays fixed begin laid next (uuid_of n) some is
perhaps-lays fixed begin laid next (octets n) some is = there-lays fixed begin laid next (octets n) some is
perhaps-lays fixed begin laid next (text_of n) some is = there-lays fixed begin laid next (text_of n) some is
perhaps-lays fixed begin laid next (elements n) some is = there-lays fixed begin laid next (elements n) some is
perhaps-lays fixed begin laid next (members n) some is = there-lays fixed begin laid next (members n) some is

-- ---- forms and fields ----

-- what is laid out as a whole
whole-stands : (layout : Layout) (values : List Value) (laid : Laid) → Lays (λ whole. FieldsStand layout whole [] values 0) (rooms layout [] values) (rooms layout [] values) nothing laid → FieldsStand layout (bytes_of laid) [] values 0
whole-stands layout values laid lays =
    let length_is : length lays.front ≡ length laid.front = ap length (sym lays.front_is) in
    lays.holds (bytes_of laid)
    (record { before = []; behind = laid.back; whole_is = ap (λ (f : List ℕ). f ++ laid.back) lays.front_is; place_is = refl })
    (record {
      before = laid.front;
      behind = [];
      whole_is = ap (λ (b : List ℕ). laid.front ++ b) (lays.back_is ∙ sym (append-nil lays.back));
      place_is = omega (arith, lays.room_is, length_is);
    })

mutual
  item-lays : (item : Item) (begin : ℕ) → LaysItem (lay_item item begin) (λ whole value at. Stands item whole value at) (width item) begin
  item-lays (in_place fixed) begin laid next value is =
      let m = map-some (add laid) (fixed_bytes fixed value) next is in
      subst (λ (n : Laid). Lays (λ whole. IsAt fixed value whole (length laid.front)) (size fixed) begin laid n) m.2
      (Lays-weaker (λ whole. At whole (length laid.front) m.0) (λ whole. IsAt fixed value whole (length laid.front)) (size fixed) begin laid (add laid m.0)
      (λ whole at. fixed-stands fixed value m.0 whole (length laid.front) m.1 at)
      (subst (λ (n : ℕ). Lays (λ whole. At whole (length laid.front) m.0) n begin laid (add laid m.0)) (fixed-length fixed value m.0 m.1) (add-lays begin laid m.0)))
  item-lays text begin laid next value is =
      let t = text-some value begin laid next is in
      let s = lay_text-some begin laid next t.0 t.2 in
      let back = reads_written t.0 s.0 in
      subst (λ (v : Value). Lays (λ whole. Stands text whole v (length laid.front)) 8 begin laid next) (sym t.1)
      (pair-lays (λ d. IsTrue (is_utf16 d) × (t.0 ≡ utf16_text d)) begin laid next (utf16_bytes t.0) (back.0, sym back.1) s.1)
  item-lays binary begin laid next value is =
      let o = octets-of value begin laid next is in
      subst (λ (v : Value). Lays (λ whole. Stands binary whole v (length laid.front)) 8 begin laid next) (sym o.1) (pair-lays (λ d. o.0 ≡ d) begin laid next o.0 refl o.2)
  item-lays (structure layout) begin laid next value is =
      let m = members-of value (λ values. option_and_then (λ inner. point begin laid (bytes_of inner)) (lay_fields layout (rooms layout [] (list_of values)) nothing [] (list_of values))) next is in
      let a = and-some (λ inner. point begin laid (bytes_of inner)) (lay_fields layout (rooms layout [] (list_of m.0)) nothing [] (list_of m.0)) next m.2 in
      let stand = whole-stands layout (list_of m.0) a.0 (fields-lays layout (rooms layout [] (list_of m.0)) nothing a.0 [] (list_of m.0) (omega arith) a.1) in
      subst (λ (v : Value). Lays (λ whole. Stands (structure layout) whole v (length laid.front)) 8 begin laid next) (sym m.1)
      (pair-lays (λ d. FieldsStand layout d [] (list_of m.0) 0) begin laid next (bytes_of a.0) stand a.2)

  form-lays : (form : Form) (begin : ℕ) (laid next : Laid) (before : List Value) (value : Value) → room form before ≤ begin → lay_form form begin laid before value ≡ Some next
      → Lays (λ whole. FormStands form whole before value (length laid.front)) (room form before) begin laid next
  form-lays (one item) begin laid next before value fits is = item-lays item begin laid next value is
  form-lays (each place item) begin laid next before value fits is =
      let a = and-some (λ values. lay_each (lay_item item begin) laid values) (option_and_then (counted_list (count_in before place)) (as_elements value)) next is in
      let l = list-some (count_in before place) value a.0 a.1 in
      let each_is = subst (λ (items : List Value). lay_each (lay_item item begin) laid items ≡ Some next) l.2 a.2 in
      let lays = each-lays (lay_item item begin) (λ whole v at. Stands item whole v at) (width item) begin (item-lays item begin) laid next (list_of l.0) each_is in
      subst (λ (v : Value). Lays (λ whole. FormStands (each place item) whole before v (length laid.front)) (room (each place item) before) begin laid next) (sym l.1)
      (Lays-weaker (λ whole. StandInRow (Stands item whole) (width item) (list_of l.0) (length laid.front)) _ (room (each place item) before) begin laid next (λ whole row. (l.3, row))
      (subst (λ (n : ℕ). Lays (λ whole. StandInRow (Stands item whole) (width item) (list_of l.0) (length laid.front)) (n * width item) begin laid next) l.3 lays))
  form-lays (run place fixed) begin laid next before value fits is =
      let r = run-lays fixed (count_in before place) begin laid next value is in
      subst (λ (v : Value). Lays (λ whole. FormStands (run place fixed) whole before v (length laid.front)) 4 begin laid next) (sym r.1)
      (Lays-weaker (λ whole. StandInRow (λ v there. IsAt fixed v whole there) (size fixed) (list_of r.0) (number_at whole (length laid.front) 4)) _ 4 begin laid next (λ whole row. (r.2, row)) r.3)
  form-lays (perhaps fixed) begin laid next before value fits is = perhaps-lays fixed begin laid next value (omega (arith, fits)) is

  fields-lays : (layout : Layout) (begin : ℕ) (laid next : Laid) (before values : List Value) → rooms layout before values ≤ begin → lay_fields layout begin laid before values ≡ Some next
      → Lays (λ whole. FieldsStand layout whole before values (length laid.front)) (rooms layout before values) begin laid next
  fields-lays no_fields begin laid next before [] fits is =
      subst (λ (n : Laid). Lays (λ whole. Unit {0}) 0 begin laid n) (Some-same _ laid next refl is)
      (record { front = []; back = []; front_is = sym (append-nil laid.front); back_is = sym (append-nil laid.back); room_is = refl; holds = λ whole in_front in_back. tt })
  fields-lays no_fields begin laid next before (value ∷ values) fits is = absurd cc
  fields-lays (field name form more) begin laid next before [] fits is = absurd cc
  fields-lays (field name form more) begin laid next before (value ∷ values) fits is =
      let a = and-some (λ mid. lay_fields more begin mid (before ++ value ∷ []) values) (lay_form form begin laid before value) next is in
      let mid = a.0 in
      let here = form-lays form begin laid mid before value (omega (arith, fits)) a.1 in
      let rest = fields-lays more begin mid next (before ++ value ∷ []) values (omega (arith, fits)) a.2 in
      let r = room form before in
      let s = rooms more (before ++ value ∷ []) values in
      let fitting : Lays (λ whole. (length laid.front + r ≤ length whole) × FormStands form whole before value (length laid.front)) r begin laid mid =
      record {
        front = here.front;
        back = here.back;
        front_is = here.front_is;
        back_is = here.back_is;
        room_is = here.room_is;
        holds = λ whole in_front in_back. (omega (arith, At-inside whole (length laid.front) here.front in_front, here.room_is), here.holds whole in_front in_back);
      } in
      let both = Lays-then (λ whole. (length laid.front + r ≤ length whole) × FormStands form whole before value (length laid.front)) (λ whole. FieldsStand more whole (before ++ value ∷ []) values (length mid.front)) r s begin laid mid next fitting rest in
      let mid_length : length mid.front ≡ length laid.front + r = omega (arith, ap length here.front_is, length-append laid.front here.front, here.room_is) in
      Lays-weaker _ (λ whole. FieldsStand (field name form more) whole before (value ∷ values) (length laid.front)) (r + s) begin laid next
      (λ whole p. (p.0.0, p.0.1, subst (λ (n : ℕ). FieldsStand more whole (before ++ value ∷ []) values n) mid_length p.1)) both

pub canon-stands : (layout : Layout) (values : List Value) (buffer : List ℕ) → canon layout values ≡ Some buffer → Fields layout values buffer
canon-stands layout values buffer is =
    let m = map-some bytes_of (lay_fields layout (rooms layout [] values) nothing [] values) buffer is in
    subst (λ (b : List ℕ). Fields layout values b) m.2 (whole-stands layout values m.0 (fields-lays layout (rooms layout [] values) nothing m.0 [] values (omega arith) m.1))
