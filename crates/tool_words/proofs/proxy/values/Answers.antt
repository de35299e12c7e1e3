use Rattle.std.proofs.Common.{refl}
use Rattle.tool_words.specs.Proxy.{proxy_values}
use Rattle.tool_words.proofs.proxy.values.Goals as goal

pub returns : goal.returns
unfolding proxy_values
returns c = rw (c.in_ok-settings.ensures, ← c.value_given.ensures, c.in_ok-device.ensures, ← c.is_given-exit_when_lost.ensures) refl
