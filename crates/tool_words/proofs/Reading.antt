-- From what clap answers to what the words ask for.
use Rattle.std.proofs.Common.{◌≡◌, ◌∙◌, true, false, List, [], ◌∷◌, ap, sym, refl, subst, cond, Result, Ok, Err}
use Rattle.clap.specs.Faults.{fault_of, is_simple_and_free}
use Rattle.clap.specs.Kinds.{IsAmong, Kinds}
use Rattle.clap.specs.Matches.{found_of}
use Rattle.clap.specs.Simple.{App, is_simple, matches_of}
use Rattle.clap.specs.Walk.{Row, Text, rows_of}
use Rattle.clap.specs.declared.error.kind.ErrorKind.{ErrorKind}
use Rattle.clap.specs.declared.parser.matches.ArgMatches.{ArgMatches}
use Rattle.clap.proofs.WalkLemmas.{both}
use Rattle.tool_words.specs.Answers.{Answers, read_by}
use Rattle.tool_words.specs.Reading.{Reads, is_fault, is_refused}
use Rattle.tool_words.specs.declared.command.ToolCommand.{ToolCommand}
use Rattle.tool_words.specs.declared.fault.UsageKind.{UsageKind}
use Rattle.tool_words.specs.declared.fault.UsageKind.TheVariants.{Words}
use Rattle.tool_words.specs.declared.fault.WordFault.{WordFault}
use Rattle.tool_words.specs.declared.fault.WordFault.TheVariants as fault

pub simple : (app : App) → is_simple_and_free app ≡ true → is_simple app ≡ true
simple app both_hold = (both _ _ both_hold).0

pub not_refused : (app : App) (words : List Text) → fault_of app words ≡ [] → is_refused app words ≡ false
not_refused app words none = ap is_fault none

is_fault-among : (kinds : Kinds) (kind : ErrorKind) → IsAmong kind kinds → is_fault kinds ≡ true
is_fault-among [] kind among = absurd among
is_fault-among (first ∷ others) kind among = refl

pub refused : (app : App) (words : List Text) (kind : ErrorKind) → IsAmong kind (fault_of app words) → is_refused app words ≡ true
refused app words kind among = is_fault-among (fault_of app words) kind among

module _ (app known : App) (same : app ≡ known) (asked : List Row → Result ToolCommand UsageKind) (words : List Text) where
  -- what clap refuses is refused
  pub refused_by : (why : WordFault) → Reads app words (Err why) → Answers (read_by known asked words) (Err why)
  refused_by fault.OutOfMemory reads = tt
  refused_by (fault.Usage kind) reads =
      ap (λ b. cond b (Err Words) (asked (matches_of known words))) (sym (ap (λ a. is_refused a words) same) ∙ reads.0) ∙ ap Err (sym reads.1)

  -- of what it takes, the rows say what is asked for
  pub taken_by : (matches : ArgMatches) (answer : Result ToolCommand WordFault) → Reads app words (Ok matches) → Answers (asked (rows_of (found_of matches))) answer
      → Answers (read_by known asked words) answer
  taken_by matches answer reads answers = subst (λ expected. Answers expected answer) (sym is) answers
    where
      is : read_by known asked words ≡ asked (rows_of (found_of matches))
      is = ap (λ b. cond b (Err Words) (asked (matches_of known words))) (sym (ap (λ a. is_refused a words) same) ∙ reads.0)
          ∙ ap asked (sym (reads.1 ∙ ap (λ a. matches_of a words) same))
