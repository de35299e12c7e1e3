-- What layouts and values in memory stand for.
use Rattle.std.specs.Prelude.{ℕ, List, [], ◌∷◌, chars}
use Rattle.mbim_fields.specs.Layout as layout
use Rattle.mbim_fields.specs.Layout.{u32, u64, uuid, ipv4, ipv6, prefixed_ipv4, prefixed_ipv6, in_place, text, binary, structure, one, each, run, perhaps, Layout, no_fields, field}
use Rattle.mbim_fields.specs.Value.{Value, number, uuid_of, octets, text_of, absent, elements, members, Values, values_of}
use Rattle.mbim_fields.specs.declared.layout.Fixed.{Fixed}
use Rattle.mbim_fields.specs.declared.layout.Fixed.TheVariants.{U32, U64, Uuid, Ipv4, Ipv6, PrefixedIpv4, PrefixedIpv6}
use Rattle.mbim_fields.specs.declared.layout.Item.{Item, Item-F, fold-Item}
use Rattle.mbim_fields.specs.declared.layout.Form.{Form, Form-F, fold-Form}
use Rattle.mbim_fields.specs.declared.layout.Form.TheOpen.{One, Each, Run, Perhaps, InPlace, Text, Binary, Structure}
use Rattle.mbim_fields.specs.declared.layout.Field.{Field, Field-F, fold-Field}
use Rattle.mbim_fields.specs.declared.layout.FieldShape.{FieldShape, FieldShape-F, fold-FieldShape}
use Rattle.mbim_fields.specs.declared.value.FieldValue.{FieldValue, FieldValue-F, fold-FieldValue}
use Rattle.mbim_fields.specs.declared.value.FieldValue.TheOpen as value
use Rattle.mbim_fields.specs.declared.value.FieldVal.{FieldVal, FieldVal-F, fold-FieldVal}

-- ---- layouts ----

pub record NamedForm : Type 0 where
  pub name : List ℕ
  pub form : layout.Form

abbrev pub layout_of : List NamedForm → Layout
layout_of [] = no_fields
layout_of (named ∷ more) = field named.name named.form (layout_of more)

abbrev pub fixed_view : Fixed → layout.Fixed
fixed_view U32 = u32
fixed_view U64 = u64
fixed_view Uuid = uuid
fixed_view Ipv4 = ipv4
fixed_view Ipv6 = ipv6
fixed_view PrefixedIpv4 = prefixed_ipv4
fixed_view PrefixedIpv6 = prefixed_ipv6

abbrev pub item_step : Item-F layout.Form layout.Item NamedForm Layout → layout.Item
item_step (InPlace fixed) = in_place (fixed_view fixed)
item_step Text = text
item_step Binary = binary
item_step (Structure shape) = structure shape

abbrev pub form_step : Form-F layout.Form layout.Item NamedForm Layout → layout.Form
form_step (One item) = one item
form_step (Each place item) = each place item
form_step (Run place fixed) = run place (fixed_view fixed)
form_step (Perhaps fixed) = perhaps (fixed_view fixed)

abbrev pub field_step : Field-F layout.Form layout.Item NamedForm Layout → NamedForm
field_step f = record { name = chars f.0.now; form = f.1 }

abbrev pub shape_step : FieldShape-F layout.Form layout.Item NamedForm Layout → Layout
shape_step s = layout_of s.0.now

abbrev pub item_view : Item → layout.Item
item_view = fold-Item layout.Form layout.Item NamedForm Layout form_step item_step field_step shape_step

abbrev pub form_view : Form → layout.Form
form_view = fold-Form layout.Form layout.Item NamedForm Layout form_step item_step field_step shape_step

abbrev pub field_view : Field → NamedForm
field_view = fold-Field layout.Form layout.Item NamedForm Layout form_step item_step field_step shape_step

abbrev pub shape_view : FieldShape → Layout
shape_view = fold-FieldShape layout.Form layout.Item NamedForm Layout form_step item_step field_step shape_step

-- ---- values ----

abbrev pub value_step : FieldValue-F Value Values → Value
value_step (value.Number n) = number n
value_step (value.Uuid bytes) = uuid_of bytes
value_step (value.Octets bytes) = octets bytes
value_step (value.Text chars) = text_of chars
value_step value.Absent = absent
value_step (value.List vals) = elements vals
value_step (value.Members vals) = members vals

abbrev pub val_step : FieldVal-F Value Values → Values
val_step v = values_of v.values.items

abbrev pub value_view : FieldValue → Value
value_view = fold-FieldValue Value Values value_step val_step

abbrev pub val_view : FieldVal → Values
val_view = fold-FieldVal Value Values value_step val_step
