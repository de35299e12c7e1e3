use Rattle.tool_words.specs.Proxy.{proxy_app}
use Rattle.tool_words.proofs.proxy.proxy_reader.Goals as goal

pub returns : goal.returns
unfolding proxy_app
returns c = rw (c.in_ok-reader.ensures, c.without_options.ensures, c.proxy_name-name.ensures, c.options.ensures, c.own_options.ensures) at c.add_options-2.ensures
