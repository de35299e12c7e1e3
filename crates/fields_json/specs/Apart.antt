-- Which layouts have names that an object's members keep apart.
use Rattle.std.specs.Prelude.{ℕ, Bool, true, not, ◌&&◌, List, bytes_eq, encode_utf8_all}
use Rattle.mbim_fields.specs.Layout.{Item, structure, Form, one, each, Layout, no_fields, field}
use Rattle.json_values.specs.Json.{word_key}

-- no field has this name, or a word of this name
abbrev pub is_apart : List ℕ → Layout → Bool
is_apart key no_fields = true
is_apart key (field name form more) = not (bytes_eq key (encode_utf8_all name)) && (not (bytes_eq key (word_key (encode_utf8_all name))) && is_apart key more)

abbrev mutual
  pub has_items_apart : Item → Bool
  has_items_apart (structure layout) = are_named_apart layout
  has_items_apart _ = true

  pub has_names_apart : Form → Bool
  has_names_apart (one item) = has_items_apart item
  has_names_apart (each place item) = has_items_apart item
  has_names_apart _ = true

  -- in each structure no two fields have one name, and none has the name of the word of one behind it
  pub are_named_apart : Layout → Bool
  are_named_apart no_fields = true
  are_named_apart (field name form more) = is_apart (encode_utf8_all name) more && (has_names_apart form && are_named_apart more)
