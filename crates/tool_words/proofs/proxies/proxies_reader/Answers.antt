use Rattle.std.proofs.Common.{◌∙◌, ap, ap₂, codes}
use Rattle.tool_words.specs.Proxies.{proxies_app}
use Rattle.tool_words.specs.Proxy.{proxy_spelling}
use Rattle.tool_words.specs.Reading.{with_options, with_words}
use Rattle.tool_words.proofs.proxies.proxies_reader.Goals as goal

pub returns : goal.returns
unfolding proxies_app
returns c = c.in_ok-command.ensures ∙ ap (with_words (codes "devices")) (c.in_ok-reader.ensures ∙ ap₂ (with_options proxy_spelling) c.without_options.ensures c.options.ensures)
