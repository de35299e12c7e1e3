-- What is printed of the commands of a tool that have no value, each run twice.
use Rattle.std.specs.Prelude.{◌≡◌, ℕ, List, Option, None, codes, filter_map, option_map}
use Rattle.kit_bytes.specs.declared.Kind.{Kind}
use Rattle.kit_bytes.specs.declared.Kind.TheVariants.{Qmi, Mbim}
use Rattle.core_bench.specs.Runs.{Run}
use Rattle.printed_ends.specs.declared.printed.Printed.{Printed}
use Rattle.tool_words.specs.Commands.{CommandLine}
use Rattle.tool_words.specs.MbimCommands.{mbim_commands, mbim_line}
use Rattle.tool_words.specs.QmiCommands.{qmi_commands, qmi_line}
use Rattle.transparency.specs.Lines.{AreLines, AreRun, Named, line_of}
use Rattle.transparency.specs.Mbim.{mbim_trial}
use Rattle.transparency.specs.Qmi.{qmi_trial}
use Rattle.transparency.specs.Trial.{Trial}

-- the request that a command gives without a value, and its option, if it gives one
abbrev pub plain_request : {C R : Type 0} → (C → CommandLine R) → C → Option (Named R)
plain_request line command = option_map (λ asked. record { option = (line command).spelling.name; asked = asked }) ((line command).request None)

unfoldable pub plain_requests : {C R : Type 0} → (C → CommandLine R) → List C → List (Named R)
plain_requests line commands = filter_map (plain_request line) commands

-- the request prints this at a simulated modem itself and in each of the other ways, and the line says so, with its status
pub record IsEqualLine {R : Type 0} (trial : Trial R) (named : Named R) (line : List ℕ) : Type 0 where
  pub printed : Printed
  pub prints_direct : trial.PrintsDirect named.asked printed
  pub prints_elsewhere : trial.PrintsElsewhere named.asked printed
  pub line_is : line ≡ line_of named.option (codes "equal") printed.status

-- such are the lines of the requests, and each was run
pub record ShowsEqual {R : Type 0} (trial : Trial R) (requests : List (Named R)) (lines : List ℕ) (old new : Option (List Run)) : Type 0 where
  pub lines_are : AreLines (IsEqualLine trial) requests lines
  pub ran : AreRun trial requests old new

-- the commands of the tool of a kind
abbrev pub ShownOf : Kind → (lines : List ℕ) → (old new : Option (List Run)) → Type 0
ShownOf Qmi = ShowsEqual qmi_trial (plain_requests qmi_line qmi_commands)
ShownOf Mbim = ShowsEqual mbim_trial (plain_requests mbim_line mbim_commands)
