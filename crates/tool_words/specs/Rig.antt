-- The words of a rig: many clients before a proxy's core, and then each of them alone; or a tool alone, at a modem itself and through a proxy.
use Rattle.std.specs.Prelude.{ℕ, ◌≤◌, ◌-◌, ◌^◌, IsTrue, List, [], ◌∷◌, Option, Some, Result, codes, if◌then◌else◌}
use Rattle.clap.specs.Simple.{App}
use Rattle.clap.specs.Walk.{Row}
use Rattle.kit_bytes.specs.declared.Kind.TheVariants.{Qmi}
use Rattle.sms_pdu.specs.Parts.{can_be_sent}
use Rattle.tool_words.specs.Answers.{or_value}
use Rattle.tool_words.specs.Given.{is_given, value_given}
use Rattle.tool_words.specs.Reading.{with_options, without_options}
use Rattle.tool_words.specs.Spelling.{Spelling, flag, valued}
use Rattle.tool_words.specs.Values.{◌>>=◌, kind_or, number_or}
use Rattle.tool_words.specs.declared.command.ToolCommand.{ToolCommand}
use Rattle.tool_words.specs.declared.command.ToolCommand.TheVariants.{Dissect, PduSubmit, Rig, Transparency}
use Rattle.tool_words.specs.declared.fault.UsageKind.{UsageKind}
use Rattle.tool_words.specs.declared.rig.RigOption.{RigOption}
use Rattle.tool_words.specs.declared.rig.RigOption.TheVariants as option

-- ---- the options ----

-- --kind qmi or --kind mbim, --clients N, --messages N, --number N, --transparent
abbrev pub rig_spelling : RigOption → Spelling
rig_spelling option.Kind = valued (codes "kind")
rig_spelling option.Clients = valued (codes "clients")
rig_spelling option.Messages = valued (codes "messages")
rig_spelling option.Number = valued (codes "number")
rig_spelling option.Transparent = flag (codes "transparent")

unfoldable pub rig_options : List RigOption
rig_options = option.Kind ∷ option.Clients ∷ option.Messages ∷ option.Number ∷ option.Transparent ∷ []

unfoldable pub rig_app : App
rig_app = with_options rig_spelling (without_options (codes "rig")) rig_options

-- ---- their values ----

-- 1 to 64 clients, and 4 where there is no text
abbrev pub clients_in : Option (List ℕ) → Option ℕ
clients_in = number_or 4 1 64

-- 0 to 100,000 messages, and 100 where there is no text
abbrev pub messages_in : Option (List ℕ) → Option ℕ
messages_in = number_or 100 0 100000

-- a number of 64 bits, and 0 where there is no text
abbrev pub rig_number_in : Option (List ℕ) → Option ℕ
rig_number_in = number_or 0 0 (2 ^ 64 - 1)

-- the rig that these values describe, if each of them reads
unfoldable pub rig_values : List Row → Option ToolCommand
rig_values rows = do
  kind ← kind_or Qmi (value_given rig_spelling rows option.Kind)
  clients ← clients_in (value_given rig_spelling rows option.Clients)
  messages ← messages_in (value_given rig_spelling rows option.Messages)
  number ← rig_number_in (value_given rig_spelling rows option.Number)
  Some (Rig kind clients messages number)

-- a tool of this kind that is alone
unfoldable pub transparency_values : List Row → Option ToolCommand
transparency_values rows = do
  kind ← kind_or Qmi (value_given rig_spelling rows option.Kind)
  Some (Transparency kind)

-- ---- what the words ask for ----

-- each value must read; beside transparency only the kind is looked at
unfoldable pub rig_asked : List Row → Result ToolCommand UsageKind
rig_asked rows = if is_given rig_spelling rows option.Transparent then or_value (transparency_values rows) else or_value (rig_values rows)

-- ---- what is known of it ----

-- so many clients and messages may be asked for
pub record AreWithinLimits (clients messages : ℕ) : Type 0 where
  pub some_client : 1 ≤ clients
  pub clients_fit : clients ≤ 64
  pub messages_fit : messages ≤ 100000

-- a rig is within its limits, messages are made of the text that is to be sent, and a capture is read a bounded number of times
abbrev pub IsWithinLimits : ToolCommand → Type 0
IsWithinLimits (PduSubmit number text reference) = IsTrue (can_be_sent number text)
IsWithinLimits (Rig kind clients messages number) = AreWithinLimits clients messages
IsWithinLimits (Dissect kind tables turns capture) = turns ≤ 1000000000000
IsWithinLimits _ = Unit {0}
