use Rattle.std.proofs.Common.{refl}
use Rattle.tool_words.specs.Link.{link_in}
use Rattle.tool_words.proofs.link.link_given.Goals as goal

pub returns : goal.returns
unfolding link_in
returns c =
    rw (
      ← c.is_given-proxied.ensures,
      ← c.proxy_socket.ensures,
      ← c.value_given-socket.ensures,
      c.in_ok-socket.ensures,
      ← c.bridge_socket.ensures,
      ← c.value_given-bridge.ensures,
      c.in_ok-bridge.ensures,
      ← c.value_given.ensures,
      c.in_ok-timeout.ensures,
      ← c.is_given-verbose.ensures,
    ) refl
