use Rattle.std.proofs.Common.{◌∙◌, ap, ap₂}
use Rattle.clap.specs.Simple.{app_of, with_rule}
use Rattle.tool_words.specs.Reading.{option_rule}
use Rattle.tool_words.proofs.Building.{options_more}
use Rattle.tool_words.proofs.reader.add_options.Goals as goal

pub loop-option-preserved : goal.loop-option-preserved
loop-option-preserved g c =
    let spelling = g.O.ToolOption.spelling in
    let o = c.option-item.result in
    c.in_ok-command.ensures.shape c.option_arg-arg.ensures.own
    ∙ ap₂ with_rule c.loop-option.invariant (c.option_arg-arg.ensures.rule ∙ ap option_rule c.spelling-spelling.ensures)
    ∙ options_more spelling (app_of c.args.command) c.args.options.now c.loop-option.option-index o c.loop-option-test.true c.option-item.is
