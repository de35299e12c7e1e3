-- What the program prints where its version is asked for.
use Rattle.std.specs.Prelude.{ℕ, List, Option}
use Rattle.kit_io.specs.Growth.{Grows, GrowsByFront}
use Rattle.version.specs.Line.{version_line}
use Rattle.program.specs.declared.status.Status.{Status}
use Rattle.program.specs.declared.status.Status.TheVariants as status

-- the line of its version, or a front of it where the writing failed
abbrev pub TellsVersion : Option (List ℕ) → Status → Option (List ℕ) → Type 0
TellsVersion before status.Done after = Grows before version_line after
TellsVersion before status.WriteFault after = GrowsByFront before version_line after
TellsVersion before _ after = ⊥
