use Rattle.std.proofs.Common.{◌≡◌, take}
use Rattle.clap.specs.Words.{found_of, rows_of}
use Rattle.tool_words.specs.Sole.{sole, those_given}
use Rattle.tool_words.proofs.given.sole_given.Given as goal

abbrev pub invariant-loop-command : goal.invariant-loop-command
invariant-loop-command g l = l.sole ≡ sole (those_given g.O.ToolOption.spelling (rows_of (found_of l.matches)) (take l.command-index l.commands))
