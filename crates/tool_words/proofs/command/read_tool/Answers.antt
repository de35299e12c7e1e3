use Rattle.std.proofs.Common.{◌∙◌, ap}
use Rattle.std.proofs.lemmas.Result.{err_from_is_err_and}
use Rattle.clap.specs.Faults.{is_simple_and_free}
use Rattle.clap.specs.Simple.{app_of}
use Rattle.tool_words.specs.Command.{tool_app, tool_asked}
use Rattle.tool_words.proofs.Reading.{refused_by, taken_by}
use Rattle.tool_words.proofs.Simple.{tool_app-is_simple}
use Rattle.tool_words.proofs.command.read_tool.Goals as goal

pub read_words-requires : goal.read_words-requires
read_words-requires c = ap is_simple_and_free c.in_ok-reader.ensures ∙ tool_app-is_simple c.args.tool

pub returns-in_err-matches : goal.returns-in_err-matches
returns-in_err-matches c =
    let p = err_from_is_err_and c.from_residual-in_err-matches.result c.from_residual-in_err-matches.ensures.1 in
    rw (p.1, p.2) (refused_by (app_of c.in_ok-reader.field-0) (tool_app c.args.tool) c.in_ok-reader.ensures (tool_asked c.args.tool) _ _ c.in_err-matches.ensures)

pub returns : goal.returns
returns c = taken_by (app_of c.in_ok-reader.field-0) (tool_app c.args.tool) c.in_ok-reader.ensures (tool_asked c.args.tool) _ c.in_ok-matches.matches c.asked.result c.in_ok-matches.ensures c.asked.ensures
