-- The text of a value, by its layout and its name, with the words for numbers or without them.
use Rattle.std.specs.Prelude.{ℕ, ◌+◌, ◌==◌, ◌||◌, Bool, false, List, [], ◌∷◌, ◌++◌, encode_utf8_all, codes, if◌then◌else◌}
use Rattle.std.specs.List.{flat_map}
use Rattle.print_text.specs.Lines.{line, heading, deeper, counted_text}
use Rattle.print_text.specs.Texts.{escaped_text, worded, hex_pair}
use Rattle.print_text.specs.Words.{shown_word}
use Rattle.print_text.specs.declared.wording.Wording.{Wording}
use Rattle.print_text.specs.declared.wording.Wording.TheVariants.{NumbersAlone}
use Rattle.mbim_fields.specs.Layout.{Fixed, u32, u64, uuid, ipv4, ipv6, prefixed_ipv4, prefixed_ipv6, Item, in_place, text, binary, structure, Form, one, each, run, perhaps, Layout, no_fields, field}
use Rattle.mbim_fields.specs.Value.{Value, number, uuid_of, octets, text_of, elements, members, no_more, first, list_of}
use Rattle.mbimcli_print.specs.declared.texts.Family.{Family}
use Rattle.mbimcli_print.specs.declared.texts.Family.TheVariants.{Ipv4, Ipv6}
use Rattle.mbimcli_print.specs.Words.{word_for}
use Rattle.mbimcli_print.specs.Texts.{uuid_text, address_text}

-- In what follows a value that isn't of its form has no text; so an address that isn't there prints no line.

-- ---- what has one size ----

-- a number, with its word
abbrev pub number_text : Wording → List ℕ → List ℕ → Value → List ℕ
number_text wording indent name (number n) = line indent name (worded n (shown_word wording (word_for name n)))
number_text wording indent name value = []

abbrev pub uuid_line : List ℕ → List ℕ → Value → List ℕ
uuid_line indent name (uuid_of bytes) = line indent name (uuid_text bytes)
uuid_line indent name value = []

abbrev pub address_line : Family → List ℕ → List ℕ → Value → List ℕ
address_line family indent name (octets bytes) = line indent name (address_text family bytes)
address_line family indent name value = []

-- the length of a prefix, which has no word, and an address
abbrev pub prefixed_text : Family → List ℕ → List ℕ → Value → List ℕ
prefixed_text family indent name (members (first prefix (first address no_more))) =
    heading indent name ++ number_text NumbersAlone (deeper indent) (codes "Prefix") prefix ++ address_line family (deeper indent) (codes "Address") address
prefixed_text family indent name value = []

abbrev pub fixed_text : Wording → Fixed → List ℕ → List ℕ → Value → List ℕ
fixed_text wording u32 indent name value = number_text wording indent name value
fixed_text wording u64 indent name value = number_text wording indent name value
fixed_text wording uuid indent name value = uuid_line indent name value
fixed_text wording ipv4 indent name value = address_line Ipv4 indent name value
fixed_text wording ipv6 indent name value = address_line Ipv6 indent name value
fixed_text wording prefixed_ipv4 indent name value = prefixed_text Ipv4 indent name value
fixed_text wording prefixed_ipv6 indent name value = prefixed_text Ipv6 indent name value

-- ---- fields that count the elements of lists ----

-- a field that stands so has as many elements as the field at a place says
abbrev pub is_counted_by : ℕ → Form → Bool
is_counted_by place (each count item) = count == place
is_counted_by place (run count fixed) = count == place
is_counted_by place form = false

-- one of these fields does
abbrev pub is_count : ℕ → Layout → Bool
is_count place no_fields = false
is_count place (field name form more) = is_counted_by place form || is_count place more

-- ---- items and fields ----

abbrev mutual
  pub item_text : Wording → Item → List ℕ → List ℕ → Value → List ℕ
  item_text wording (in_place fixed) indent name value = fixed_text wording fixed indent name value
  item_text wording text indent name (text_of chars) = line indent name (escaped_text chars)
  item_text wording binary indent name (octets bytes) = line indent name (flat_map hex_pair bytes)
  item_text wording (structure layout) indent name (members values) = heading indent name ++ fields_text wording layout 0 (deeper indent) (list_of values)
  item_text wording item indent name value = []

  pub form_text : Wording → Form → List ℕ → List ℕ → Value → List ℕ
  form_text wording (one item) indent name value = item_text wording item indent name value
  form_text wording (each place item) indent name (elements values) = counted_text (item_text wording item) indent name (list_of values)
  form_text wording (run place fixed) indent name (elements values) = counted_text (fixed_text wording fixed) indent name (list_of values)
  form_text wording (perhaps fixed) indent name value = fixed_text wording fixed indent name value
  form_text wording form indent name value = []

  -- the texts of fields from a place on, each with its name, but for those that count the elements of a list
  pub fields_text : Wording → Layout → ℕ → List ℕ → List Value → List ℕ
  fields_text wording (field name form more) place indent (value ∷ values) =
      (if is_count place more then [] else form_text wording form indent (encode_utf8_all name) value) ++ fields_text wording more (place + 1) indent values
  fields_text wording _ place indent values = []
