use Rattle.std.proofs.Common.{◌≡◌, ◌++◌, drop, map}
use Rattle.link_session.specs.Peer.{texts_in}
use Rattle.peer_link.specs.Made.{call_of}
use Rattle.peer_link.proofs.link.PeerLink.texts.Given as goal

-- the texts that are left are those that weren't added yet
abbrev pub invariant-loop-made : goal.invariant-loop-made
invariant-loop-made g l = l.texts.items ++ texts_in (map call_of (drop l.made-index l.self-inside.made.items)) ≡ texts_in (map call_of l.self-inside.made.items)
