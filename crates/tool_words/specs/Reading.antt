-- How the words of a tool are read: as the crate clap reads them for a command that has these options.
use Rattle.std.specs.Prelude.{◌≡◌, Bool, true, false, List, [], ◌∷◌, Some, Result, Ok, Err, fold, if◌then◌else◌}
use Rattle.clap.specs.Faults.{fault_of}
use Rattle.clap.specs.Kinds.{Kinds}
use Rattle.clap.specs.Matches.{found_of}
use Rattle.clap.specs.Simple.{App, matches_of, new_app, new_rule, on_top, with_rule}
use Rattle.clap.specs.Walk.{Rule, Text, rows_of}
use Rattle.clap.specs.declared.builder.action.ArgAction.TheVariants.{Append, Set, SetTrue}
use Rattle.clap.specs.declared.parser.matches.ArgMatches.{ArgMatches}
use Rattle.tool_words.specs.Spelling.{Spelling}
use Rattle.tool_words.specs.declared.fault.UsageKind.TheVariants.{Words}
use Rattle.tool_words.specs.declared.fault.WordFault.{WordFault}
use Rattle.tool_words.specs.declared.fault.WordFault.TheVariants as fault

-- an option, which may be given once, by its name or its letter
abbrev pub option_rule : Spelling → Rule
option_rule s = record (new_rule s.name) {
  long = Some s.name;
  short = s.letter;
  action = Some (if s.takes_value then Set else SetTrue);
}

-- a tool that has no option, and so no flag for help
abbrev pub without_options : Text → App
without_options tool = on_top (λ shape. record shape { disable_help_flag = true }) (new_app tool)

-- the tool with these options besides
abbrev pub with_options : {O : Type 0} → (O → Spelling) → App → List O → App
with_options spelling = fold (λ app option. with_rule app (option_rule (spelling option)))

-- a word that is no option, which may be given once
abbrev pub word_rule : Text → Rule
word_rule name = record (new_rule name) { action = Some Set }

-- the tool with such a word besides
abbrev pub with_word : Text → App → App
with_word name app = with_rule app (word_rule name)

-- words that are no options, of which there may be any number
abbrev pub words_rule : Text → Rule
words_rule name = record (new_rule name) { action = Some Append }

-- the tool with such words besides
abbrev pub with_words : Text → App → App
with_words name app = with_rule app (words_rule name)

abbrev pub is_fault : Kinds → Bool
is_fault [] = false
is_fault (kind ∷ others) = true

-- the words don't read as options of the tool
abbrev pub is_refused : App → List Text → Bool
is_refused app words = is_fault (fault_of app words)

-- words that read are matches, whose rows say which options were given and with which values; others are refused
abbrev pub Reads : App → List Text → Result ArgMatches WordFault → Type 0
Reads app words (Ok matches) = (is_refused app words ≡ false) × (rows_of (found_of matches) ≡ matches_of app words)
Reads app words (Err (fault.Usage kind)) = (is_refused app words ≡ true) × (kind ≡ Words)
Reads app words (Err fault.OutOfMemory) = Unit {0}
