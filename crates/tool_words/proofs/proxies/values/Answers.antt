use Rattle.std.proofs.Common.{refl}
use Rattle.tool_words.specs.Proxies.{proxies_values}
use Rattle.tool_words.proofs.proxies.values.Goals as goal

pub returns : goal.returns
unfolding proxies_values
returns c = rw (c.in_ok-settings.ensures, c.in_ok-devices.ensures) refl
