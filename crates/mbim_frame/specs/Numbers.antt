-- Numbers of four bytes, the lowest byte first.
use Rattle.std.specs.Prelude.{ℕ, List}
use Rattle.kit_bytes.specs.Numbers.{number_at}
pub use Rattle.kit_bytes.specs.Numbers.{u32_bytes}

abbrev pub u32_at : List ℕ → ℕ → ℕ
u32_at bytes at = number_at bytes at 4
