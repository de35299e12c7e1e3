-- The lines of requests that are commands of a tool: each prints the same.
use Rattle.std.proofs.Common.{◌≡◌, ℕ, Bool, true, false, ◌&&◌, List, [], ◌∷◌, Option, codes, refl, sym, ◌∙◌, ap, subst}
use Rattle.std.proofs.lemmas.Bool.{and_parts}
use Rattle.core_bench.specs.Runs.{Run}
use Rattle.printed_ends.specs.declared.printed.Printed.{Printed}
use Rattle.mbim_requests.specs.declared.MbimRequest.{MbimRequest}
use Rattle.mbim_requests.specs.declared.MbimRequest.TheVariants.{ProxyConfiguration}
use Rattle.qmi_requests.specs.declared.QmiRequest.{QmiRequest}
use Rattle.qmi_requests.specs.declared.QmiRequest.TheVariants.{ProxyOpen, Allocate, Release}
use Rattle.tool_words.specs.Commands.{CommandLine}
use Rattle.tool_words.specs.declared.mbim_commands.MbimCommand.{MbimCommand}
use Rattle.tool_words.specs.declared.qmi_commands.QmiCommand.{QmiCommand}
use Rattle.tool_words.specs.MbimCommands.{mbim_commands, mbim_line}
use Rattle.tool_words.specs.QmiCommands.{qmi_commands, qmi_line}
use Rattle.transparency.specs.Lines.{AreLines, Compares, IsLine, Named, Shown, different, equal, line_of}
use Rattle.transparency.specs.Mbim.{mbim_trial}
use Rattle.transparency.specs.Qmi.{qmi_trial}
use Rattle.transparency.specs.Tools.{IsEqualLine, ShowsEqual, plain_requests}
use Rattle.transparency.specs.Trial.{Trial}

word_is : {direct through : Printed} {word : List ℕ} → Compares direct through word → direct ≡ through → word ≡ codes "equal"
word_is (equal _ is) same = is
word_is (different differ is) same = absurd (differ same)

line_is_equal : {R : Type 0} (trial : Trial R) (named : Named R) (line : List ℕ) → trial.IsCommand named.asked → IsLine trial named line → IsEqualLine trial named line
line_is_equal trial named line command is = record {
  printed = is.direct;
  prints_direct = is.prints_direct;
  prints_elsewhere = subst (trial.PrintsElsewhere named.asked) (sym (is.same command)) (is.prints_elsewhere (is.same command));
  line_is = is.line_is ∙ ap (λ (word : List ℕ). line_of named.option word is.direct.status) (word_is is.compares (is.same command));
}

abbrev AreCommands : {R : Type 0} → Trial R → List (Named R) → Type 0
AreCommands trial [] = Unit {0}
AreCommands trial (named ∷ requests) = trial.IsCommand named.asked × AreCommands trial requests

lines_are_equal : {R : Type 0} (trial : Trial R) (requests : List (Named R)) (lines : List ℕ) → AreCommands trial requests → AreLines (IsLine trial) requests lines → AreLines (IsEqualLine trial) requests lines
lines_are_equal trial [] lines commands are = are
lines_are_equal trial (named ∷ requests) lines commands are = record {
  line = are.line;
  more = are.more;
  first = line_is_equal trial named are.line commands.0 are.first;
  rest = lines_are_equal trial requests are.more commands.1 are.rest;
  lines_are = are.lines_are;
}

-- the requests are those of some commands, all of which are commands of the tool
shows_equal : {C R : Type 0} (trial : Trial R) (line : C → CommandLine R) (commands : List C) → AreCommands trial (plain_requests line commands) → (given : List C) (requests : List (Named R)) (lines : List ℕ) (old new : Option (List Run))
    → given ≡ commands → requests ≡ plain_requests line given → Shown trial requests lines old new → ShowsEqual trial (plain_requests line commands) lines old new
shows_equal trial line commands are given requests lines old new same made shown =
    let shown : Shown trial (plain_requests line commands) lines old new = subst (λ (l : List (Named _)). Shown trial l lines old new) (made ∙ ap (plain_requests line) same) shown in
    record { lines_are = lines_are_equal trial (plain_requests line commands) lines are shown.lines_are; ran = shown.ran }

-- ---- the two tools ----

-- all requests pass a test, which commands pass alone
abbrev all_pass : {R : Type 0} → (R → Bool) → List (Named R) → Bool
all_pass test [] = true
all_pass test (named ∷ requests) = test named.asked && all_pass test requests

are_commands : {R : Type 0} (trial : Trial R) (test : R → Bool) → ((asked : R) → test asked ≡ true → trial.IsCommand asked) → (requests : List (Named R)) → all_pass test requests ≡ true → AreCommands trial requests
are_commands trial test passes [] all = tt
are_commands trial test passes (named ∷ requests) all =
    let parts = and_parts (test named.asked) (all_pass test requests) all in (passes named.asked parts.0, are_commands trial test passes requests parts.1)

abbrev is_qmi_command : QmiRequest → Bool
is_qmi_command (ProxyOpen path) = false
is_qmi_command (Allocate service) = false
is_qmi_command (Release service cid) = false
is_qmi_command _ = true

qmi_passes : (asked : QmiRequest) → is_qmi_command asked ≡ true → qmi_trial.IsCommand asked
qmi_passes (ProxyOpen path) passes = absurd (cc)
qmi_passes (Allocate service) passes = absurd (cc)
qmi_passes (Release service cid) passes = absurd (cc)
qmi_passes _ passes = tt

are_qmi_commands : AreCommands qmi_trial (plain_requests qmi_line qmi_commands)
unfolding plain_requests qmi_commands
are_qmi_commands = are_commands qmi_trial is_qmi_command qmi_passes (plain_requests qmi_line qmi_commands) refl

abbrev is_mbim_command : MbimRequest → Bool
is_mbim_command (ProxyConfiguration path) = false
is_mbim_command _ = true

mbim_passes : (asked : MbimRequest) → is_mbim_command asked ≡ true → mbim_trial.IsCommand asked
mbim_passes (ProxyConfiguration path) passes = absurd (cc)
mbim_passes _ passes = tt

are_mbim_commands : AreCommands mbim_trial (plain_requests mbim_line mbim_commands)
unfolding plain_requests mbim_commands
are_mbim_commands = are_commands mbim_trial is_mbim_command mbim_passes (plain_requests mbim_line mbim_commands) refl

pub qmi_shows_equal : (given : List QmiCommand) (requests : List (Named QmiRequest)) (lines : List ℕ) (old new : Option (List Run))
    → given ≡ qmi_commands → requests ≡ plain_requests qmi_line given → Shown qmi_trial requests lines old new → ShowsEqual qmi_trial (plain_requests qmi_line qmi_commands) lines old new
qmi_shows_equal = shows_equal qmi_trial qmi_line qmi_commands are_qmi_commands

pub mbim_shows_equal : (given : List MbimCommand) (requests : List (Named MbimRequest)) (lines : List ℕ) (old new : Option (List Run))
    → given ≡ mbim_commands → requests ≡ plain_requests mbim_line given → Shown mbim_trial requests lines old new → ShowsEqual mbim_trial (plain_requests mbim_line mbim_commands) lines old new
mbim_shows_equal = shows_equal mbim_trial mbim_line mbim_commands are_mbim_commands
