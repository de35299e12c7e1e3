-- What the fields of a structure have as values.
use Rattle.std.specs.Prelude.{ℕ, ◌*◌, List, [], ◌∷◌, get_or, Option, Some, None}
use Rattle.mbim_fields.specs.Layout.{width, Form, one, each, run, perhaps}

mutual
  pub data Value : Type 0 where
    number : ℕ → Value
    -- the bytes of a UUID, in the order in which they are written
    uuid_of : List ℕ → Value
    -- the bytes of an address, or those that a pair points at
    octets : List ℕ → Value
    -- the characters of a text
    text_of : List ℕ → Value
    -- what an offset of 0 stands for
    absent : Value
    -- the elements of a list
    elements : Values → Value
    -- the values of the fields of a structure, or the length of a prefix and an address
    members : Values → Value

  pub data Values : Type 0 where
    no_more : Values
    first : Value → Values → Values

abbrev pub list_of : Values → List Value
list_of no_more = []
list_of (first value more) = value ∷ list_of more

abbrev pub values_of : List Value → Values
values_of [] = no_more
values_of (value ∷ more) = first value (values_of more)

-- ---- what a value is, if it is of a kind ----

abbrev pub as_number : Value → Option ℕ
as_number (number n) = Some n
as_number _ = None

abbrev pub as_uuid : Value → Option (List ℕ)
as_uuid (uuid_of bytes) = Some bytes
as_uuid _ = None

abbrev pub as_octets : Value → Option (List ℕ)
as_octets (octets bytes) = Some bytes
as_octets _ = None

abbrev pub as_text : Value → Option (List ℕ)
as_text (text_of chars) = Some chars
as_text _ = None

abbrev pub as_elements : Value → Option Values
as_elements (elements values) = Some values
as_elements _ = None

abbrev pub as_members : Value → Option Values
as_members (members values) = Some values
as_members _ = None

-- ---- what the values of the fields before a field say of it ----

-- how many elements a list has whose count this is: what is no number counts as 0
abbrev pub count_of : Value → ℕ
count_of (number n) = n
count_of _ = 0

-- how many elements a list has, by the field at a place
abbrev pub count_in : List Value → ℕ → ℕ
count_in before place = count_of (get_or before place absent)

-- how many bytes a form takes in place
abbrev pub room : Form → List Value → ℕ
room (one item) before = width item
room (each place item) before = count_in before place * width item
room (run place fixed) before = 4
room (perhaps fixed) before = 4
