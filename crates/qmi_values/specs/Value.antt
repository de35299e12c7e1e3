-- What a message's bytes stand for.
use Rattle.std.specs.Prelude.{ℕ, ℤ, List, [], ◌∷◌, Option, Some, None}

mutual
  pub data Value : Type 0 where
    number : ℕ → Value
    integer : ℤ → Value
    text : List ℕ → Value
    elements : Values → Value
    members : Values → Value

  pub data Values : Type 0 where
    no_values : Values
    first : Value → Values → Values

abbrev pub list_of : Values → List Value
list_of no_values = []
list_of (first value more) = value ∷ list_of more

abbrev pub values_of : List Value → Values
values_of [] = no_values
values_of (value ∷ more) = first value (values_of more)

-- ---- what a value is, if it is of a kind ----

abbrev pub number_in : Value → Option ℕ
number_in (number n) = Some n
number_in _ = None

abbrev pub integer_in : Value → Option ℤ
integer_in (integer z) = Some z
integer_in _ = None

abbrev pub text_in : Value → Option (List ℕ)
text_in (text octets) = Some octets
text_in _ = None

abbrev pub elements_in : Value → Option Values
elements_in (elements values) = Some values
elements_in _ = None

abbrev pub members_in : Value → Option Values
members_in (members values) = Some values
members_in _ = None
