-- What a link that was opened has of where it leads.
use Rattle.std.specs.Prelude.{Option, IsSome}
use Rattle.link_io.specs.declared.link.Target.{Target}
use Rattle.link_io.specs.declared.link.Target.TheVariants.{Socket, Bridge}

-- streams are there to a socket, or whoever comes is met at a bridge
abbrev pub IsReached : {Streams Bridge : Type 0} → Target → Option Streams → Option Bridge → Type 0
IsReached (Socket path) streams bridge = IsSome streams
IsReached (Bridge path) streams bridge = IsSome bridge
