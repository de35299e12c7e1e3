-- The path of the device that a configuration of the proxy names.
use Rattle.std.specs.Prelude.{◌≡◌, ℕ, List, [], ◌∷◌}
use Rattle.kit_bytes.specs.Utf16.{utf16_bytes}
use Rattle.mbim_fields.specs.Value.{number, text_of}
use Rattle.mbim_fields.specs.View.{layout_of}
use Rattle.mbim_fields.specs.Fields.{Fields}
use Rattle.mbim_services.specs.Table.{configuration}

-- a buffer is a configuration whose path has these bytes in UTF-16
pub record HasPath (buffer path : List ℕ) : Type 0 where
  pub chars : List ℕ
  -- in seconds
  pub timeout : ℕ
  pub fields : Fields (layout_of configuration) (text_of chars ∷ number timeout ∷ []) buffer
  pub spelled : utf16_bytes chars ≡ path
