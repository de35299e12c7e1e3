-- The events as the code has them, as values.
use Rattle.proxy_history.specs.Events as history
use Rattle.hub_io.specs.declared.event.Event.{Event}
use Rattle.hub_io.specs.declared.event.Event.TheVariants.{Joined, Piece, Left, ModemPiece, ModemGone, ModemBack, Now, Took, ModemTook}

abbrev pub event_of : Event → history.Event
event_of (Joined conn) = history.Joined conn
event_of (Piece conn bytes) = history.Piece conn bytes.now
event_of (Left conn) = history.Left conn
event_of (ModemPiece bytes) = history.ModemPiece bytes.now
event_of ModemGone = history.ModemGone
event_of ModemBack = history.ModemBack
event_of (Now time) = history.Now time
event_of (Took conn count) = history.Took conn count
event_of (ModemTook count) = history.ModemTook count
