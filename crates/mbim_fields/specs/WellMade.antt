-- Which layouts are well made: each list is counted by a number of 4 bytes that stands before it in its structure.
use Rattle.std.specs.Prelude.{ℕ, Bool, true, false, ◌&&◌, List, [], ◌∷◌, ◌++◌, get_or}
use Rattle.mbim_fields.specs.Layout.{u32, Item, in_place, structure, Form, one, each, run, perhaps, Layout, no_fields, field}

abbrev pub is_count : Form → Bool
is_count (one (in_place u32)) = true
is_count _ = false

-- the form at a place is a count
abbrev pub has_count : List Form → ℕ → Bool
has_count before place = is_count (get_or before place (perhaps u32))

abbrev mutual
  pub is_good_item : Item → Bool
  is_good_item (structure layout) = are_good_fields layout []
  is_good_item _ = true

  -- behind fields of these forms
  pub is_good_form : Form → List Form → Bool
  is_good_form (one item) before = is_good_item item
  is_good_form (each place item) before = has_count before place && is_good_item item
  is_good_form (run place fixed) before = has_count before place
  is_good_form (perhaps fixed) before = true

  pub are_good_fields : Layout → List Form → Bool
  are_good_fields no_fields before = true
  are_good_fields (field name form more) before = is_good_form form before && are_good_fields more (before ++ form ∷ [])

abbrev pub is_well_made : Layout → Bool
is_well_made layout = are_good_fields layout []
