use Rattle.std.proofs.Common.{◌∙◌, ap, ap₂}
use Rattle.tool_words.specs.Link.{link_spelling}
use Rattle.tool_words.specs.Reading.{with_options}
use Rattle.tool_words.proofs.modem_tools.modem_tool.Goals as goal

pub returns : goal.returns
returns g c =
    c.in_ok-tool-3.ensures
    ∙ ap (λ app. with_options g.C.ToolOption.spelling app c.args.commands.now)
    (c.in_ok-tool-2.ensures
    ∙ ap (λ app. with_options g.S.ToolOption.spelling app c.args.settings.now)
    (c.in_ok-tool.ensures ∙ ap₂ (with_options link_spelling) c.without_options.ensures c.link_options.ensures))
