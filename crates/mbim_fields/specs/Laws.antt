-- Laws of the fields of buffers.
use Rattle.std.specs.Prelude.{◌≡◌, ◌↔◌, ◌<◌, ℕ, List, All, Some, Ok}
use Rattle.mbim_fields.specs.Layout.{Layout}
use Rattle.mbim_fields.specs.Value.{Value, values_of}
use Rattle.mbim_fields.specs.Reading.{read}
use Rattle.mbim_fields.specs.Fields.{Fields}
use Rattle.mbim_fields.specs.Canon.{canon}
use Rattle.mbim_fields.specs.Footprint.{footprint, values_footprint}

-- the values that a buffer has are those that are read, and no others
abbrev pub HasWhatIsRead : Type 0
HasWhatIsRead = (layout : Layout) (values : List Value) (buffer : List ℕ) → Fields layout values buffer ↔ (read layout buffer ≡ Ok values)

-- a buffer has at most one list of values
abbrev pub HasOneReading : Type 0
HasOneReading = (layout : Layout) (v w : List Value) (buffer : List ℕ) → Fields layout v buffer → Fields layout w buffer → v ≡ w

-- the encoding of values has these values
abbrev pub EncodingHasThem : Type 0
EncodingHasThem = (layout : Layout) (values : List Value) (buffer : List ℕ) → canon layout values ≡ Some buffer → Fields layout values buffer

-- what is read of a buffer counts as the values that it has
abbrev pub CountsAsItsValues : Type 0
CountsAsItsValues =
    (layout : Layout) (values : List Value) (buffer : List ℕ) → All (λ byte. byte < 256) buffer → Fields layout values buffer → footprint layout buffer ≡ values_footprint (values_of values)
