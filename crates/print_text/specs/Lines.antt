-- Lines of printed texts.
use Rattle.std.specs.Prelude.{ℕ, ◌+◌, ◌*◌, List, [], ◌∷◌, ◌++◌, length, replicate, codes, decimal}

-- two spaces for each level
abbrev pub spaces : ℕ → List ℕ
spaces level = replicate (2 * level) 32

-- two spaces more
unfoldable pub deeper : List ℕ → List ℕ
deeper indent = indent ++ codes "  "

-- what stands before a line's text
unfoldable pub front : List ℕ → List ℕ → List ℕ
front indent name = indent ++ name ++ codes ": "

-- a line with a name and a text
unfoldable pub line : List ℕ → List ℕ → List ℕ → List ℕ
line indent name shown = front indent name ++ shown ++ codes "\n"

-- a line with a name alone
unfoldable pub heading : List ℕ → List ℕ → List ℕ
heading indent name = indent ++ name ++ codes ":\n"

-- the texts of elements, which are named by their places
abbrev pub each_text : {V : Type 0} → (List ℕ → V → List ℕ) → ℕ → List V → List ℕ
each_text shown place [] = []
each_text shown place (value ∷ values) = shown (decimal place) value ++ each_text shown (place + 1) values

-- how many elements there are, and then those, one level deeper
abbrev pub counted_text : {V : Type 0} → (List ℕ → List ℕ → V → List ℕ) → List ℕ → List ℕ → List V → List ℕ
counted_text shown indent name values = line indent name (decimal (length values)) ++ each_text (shown (deeper indent)) 1 values

-- what is printed where a text is empty
abbrev pub or_ok : List ℕ → List ℕ
or_ok [] = codes "ok\n"
or_ok (byte ∷ text) = byte ∷ text
