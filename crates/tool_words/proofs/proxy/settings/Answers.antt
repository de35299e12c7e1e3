use Rattle.std.proofs.Common.{refl}
use Rattle.tool_words.specs.Proxy.{settings_in}
use Rattle.tool_words.proofs.proxy.settings.Goals as goal

pub returns : goal.returns
unfolding settings_in
returns c =
    rw (
      ← c.value_given-seconds.ensures,
      c.in_ok-seconds.ensures.value,
      ← c.value_given-time.ensures,
      c.in_ok-time.ensures.value,
      ← c.value_given.ensures,
      c.in_ok-release.ensures,
      ← c.value_given-2.ensures,
      c.in_ok-turns.ensures,
      ← c.proxy_socket.ensures,
      ← c.value_given-socket.ensures,
      c.in_ok-socket.ensures,
      ← c.bridge_socket.ensures,
      ← c.value_given-bridge.ensures,
      c.in_ok-bridge.ensures,
      ← c.is_given-stays.ensures,
      ← c.empty_time.ensures,
    ) refl
