-- JSON values without the members that words are.
use Rattle.std.specs.Prelude.{List, ℕ, Option, Some, None, option_map, encode_utf8_all}
use Rattle.serde_json.specs.Data.{Data, array as listed, object, Items, no_items, item, Members, no_members, put}
use Rattle.serde_json.specs.Find.{get}
use Rattle.qmi_shapes.specs.Form.{Form, array, sequence, Fields, no_fields, field}

abbrev pub each_item : (Data → Data) → Items → Items
each_item change no_items = no_items
each_item change (item json more) = item (change json) (each_item change more)

-- the elements of an array so changed
abbrev pub in_array : (Data → Data) → Data → Data
in_array change (listed items) = listed (each_item change items)
in_array change json = json

abbrev pub put_found : List ℕ → Option Data → Members → Members
put_found key None so_far = so_far
put_found key (Some json) so_far = put key json so_far

abbrev mutual
  -- of each object the members alone whose names are those of its form's fields
  pub without_words : Form → Data → Data
  without_words (array prefix element) json = in_array (without_words element) json
  without_words (sequence fields) json = object (fields_alone fields json no_members)
  without_words _ json = json

  pub fields_alone : Fields → Data → Members → Members
  fields_alone no_fields json so_far = so_far
  fields_alone (field name form more) json so_far =
      fields_alone more json (put_found (encode_utf8_all name) (option_map (without_words form) (get (encode_utf8_all name) json)) so_far)
