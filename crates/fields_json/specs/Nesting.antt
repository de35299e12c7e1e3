-- How deep the JSON of values nests at most.
use Rattle.std.specs.Prelude.{ℕ, suc, max}
use Rattle.mbim_fields.specs.Layout.{Fixed, prefixed_ipv4, prefixed_ipv6, Item, in_place, text, binary, structure, Form, one, each, run, perhaps, Layout, no_fields, field}

-- a prefix and its address are an object; a text that isn't UTF-8 would be one
abbrev pub fixed_nesting : Fixed → ℕ
fixed_nesting prefixed_ipv4 = 2
fixed_nesting prefixed_ipv6 = 2
fixed_nesting _ = 1

abbrev mutual
  pub item_nesting : Item → ℕ
  item_nesting (in_place fixed) = fixed_nesting fixed
  item_nesting text = 1
  item_nesting binary = 1
  item_nesting (structure layout) = suc (nesting layout)

  pub form_nesting : Form → ℕ
  form_nesting (one item) = item_nesting item
  form_nesting (each place item) = suc (item_nesting item)
  form_nesting (run place fixed) = suc (fixed_nesting fixed)
  form_nesting (perhaps fixed) = fixed_nesting fixed

  -- the most that a field of these has
  pub nesting : Layout → ℕ
  nesting no_fields = 0
  nesting (field name form more) = max (form_nesting form) (nesting more)
