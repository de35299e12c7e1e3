-- The line that tells which version of the program this is.
use Rattle.std.specs.Prelude.{ℕ, List, ◌++◌, codes}
use Rattle.version.specs.declared.line.TheConstants.{VERSION}

-- its name, and its version
unfoldable pub version_line : List ℕ
version_line = codes "modemkit " ++ VERSION.now ++ codes "\n"
