-- A path to a part of a JSON value as a JSON Pointer, in a line for people.
-- Source: RFC 6901, sections 3 and 4.
use Rattle.std.specs.Prelude.{ℕ, ◌==◌, List, ◌∷◌, [], ◌++◌, codes, decimal, if◌then◌else◌}
use Rattle.std.specs.List.{flat_map}
use Rattle.print_text.specs.Texts.{escaped_text}
use Rattle.json_values.specs.declared.path.Step.{Step}
use Rattle.json_values.specs.declared.path.Step.TheVariants.{Member, Element}

-- ~ is ~0, and / is ~1
abbrev pub reference_byte : ℕ → List ℕ
reference_byte byte = if byte == 126 then codes "~0" else if byte == 47 then codes "~1" else byte ∷ []

-- the characters of a name are escaped as in other lines
abbrev pub member_text : List ℕ → List ℕ
member_text name = codes "/" ++ flat_map reference_byte (escaped_text name)

abbrev pub step_text : Step → List ℕ
step_text (Member name) = member_text name
step_text (Element place) = codes "/" ++ decimal place

abbrev pub pointer_text : List Step → List ℕ
pointer_text path = flat_map step_text path
