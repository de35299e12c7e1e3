-- What is there once, where it may be there any number of times.
use Rattle.std.specs.Prelude.{List, [], ◌∷◌, Option, Some, None, Result, Ok, Err}
use Rattle.std.specs.List.{filter}
use Rattle.clap.specs.Walk.{Row}
use Rattle.tool_words.specs.Given.{is_given}
use Rattle.tool_words.specs.Spelling.{Spelling}
use Rattle.tool_words.specs.declared.fault.UsageKind.{UsageKind}
use Rattle.tool_words.specs.declared.fault.UsageKind.TheVariants as kind
use Rattle.tool_words.specs.declared.sole.Sole.{Sole}
use Rattle.tool_words.specs.declared.sole.Sole.TheVariants as there

-- what there is in a list
abbrev pub sole : {O : Type 0} → List O → Sole O
sole [] = there.Nothing
sole (one ∷ []) = there.One one
sole (one ∷ another ∷ more) = there.Many

-- the same, after one more
abbrev pub sole_and : {O : Type 0} → Sole O → O → Sole O
sole_and there.Nothing one = there.One one
sole_and _ one = there.Many

-- the same, after one more, if there is one
abbrev pub and_if : {O : Type 0} → Sole O → Option O → Sole O
and_if so_far (Some one) = sole_and so_far one
and_if so_far None = so_far

-- the same of what these are seen as
abbrev pub map_sole : {A B : Type 0} → (A → B) → Sole A → Sole B
map_sole view there.Nothing = there.Nothing
map_sole view (there.One one) = there.One (view one)
map_sole view there.Many = there.Many

-- at most one may be there
abbrev pub at_most_one : {O : Type 0} → Sole O → Option (Option O)
at_most_one there.Nothing = Some None
at_most_one (there.One one) = Some (Some one)
at_most_one there.Many = None

-- exactly one command has to be given
abbrev pub one_command : {O : Type 0} → Sole O → Result O UsageKind
one_command there.Nothing = Err kind.NoCommand
one_command (there.One command) = Ok command
one_command there.Many = Err kind.ManyCommands

-- those of the options that the words give
abbrev pub those_given : {O : Type 0} → (O → Spelling) → List Row → List O → List O
those_given spelling rows options = filter (is_given spelling rows) options

-- the one command that they give
abbrev pub command_given : {O : Type 0} → (O → Spelling) → List Row → List O → Result O UsageKind
command_given spelling rows commands = one_command (sole (those_given spelling rows commands))
