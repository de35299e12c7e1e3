-- The words of a pump, which are no options.
use Rattle.std.specs.Prelude.{ℕ, Bool, true, false, List, [], ◌∷◌, Option, Some, None, Result, Err, codes, if◌then◌else◌}
use Rattle.std.specs.Str.{bytes_eq}
use Rattle.clap.specs.Walk.{Text}
use Rattle.tool_words.specs.Answers.{or_value}
use Rattle.tool_words.specs.Values.{◌>>=◌, path_in}
use Rattle.tool_words.specs.declared.command.ToolCommand.{ToolCommand}
use Rattle.tool_words.specs.declared.command.ToolCommand.TheVariants.{Pump}
use Rattle.tool_words.specs.declared.fault.UsageKind.{UsageKind}
use Rattle.tool_words.specs.declared.fault.UsageKind.TheVariants as usage

-- whether the word names the pump that reads a node, where it names one
unfoldable pub reads_named : List ℕ → Option Bool
reads_named word =
    if bytes_eq word (codes "read") then Some true
    else if bytes_eq word (codes "write") then Some false
    else None

-- the pump between these paths, if each of them reads
unfoldable pub pump_values : (read : Bool) → (node bridge : List ℕ) → (verbose : Bool) → Option ToolCommand
pump_values read node bridge verbose = do
  node_path ← path_in node
  bridge_path ← path_in bridge
  Some (Pump read node_path bridge_path verbose)

abbrev pub pump_if_named : Option Bool → (node bridge : List ℕ) → (verbose : Bool) → Result ToolCommand UsageKind
pump_if_named (Some read) node bridge verbose = or_value (pump_values read node bridge verbose)
pump_if_named None node bridge verbose = Err usage.Words

-- whether the word behind a pump's others has it tell why its node failed
unfoldable pub is_verbose : List ℕ → Bool
is_verbose word = bytes_eq word (codes "-v")

-- pump read NODE BRIDGE, or pump write NODE BRIDGE, and -v behind that where it is to tell why its node failed
unfoldable pub pump_asked : List Text → Result ToolCommand UsageKind
pump_asked (name ∷ way ∷ node ∷ bridge ∷ []) = pump_if_named (reads_named way) node bridge false
pump_asked (name ∷ way ∷ node ∷ bridge ∷ more ∷ []) = if is_verbose more then pump_if_named (reads_named way) node bridge true else Err usage.Words
pump_asked _ = Err usage.Words
