use Rattle.std.proofs.Common.{◌≡◌, take}
use Rattle.clap.specs.Words.{app_of}
use Rattle.tool_words.specs.Reading.{with_options}
use Rattle.tool_words.proofs.reader.add_options.Given as goal

abbrev pub invariant-loop-option : goal.invariant-loop-option
invariant-loop-option g l = app_of l.command ≡ with_options g.O.ToolOption.spelling (app_of l.fn.command) (take l.option-index l.options)
