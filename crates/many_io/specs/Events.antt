-- The events as the code has them, as values.
use Rattle.many_history.specs.Events as history
use Rattle.many_io.specs.declared.event.ManyEvent.{ManyEvent}
use Rattle.many_io.specs.declared.event.ManyEvent.TheVariants.{Joined, Piece, Left, Took, ModemPiece, ModemGone, ModemBack, ModemTook, Now}

abbrev pub event_of : ManyEvent → history.ManyEvent
event_of (Joined conn) = history.Joined conn
event_of (Piece conn bytes) = history.Piece conn bytes.now
event_of (Left conn) = history.Left conn
event_of (Took conn count) = history.Took conn count
event_of (ModemPiece device bytes) = history.ModemPiece device bytes.now
event_of (ModemGone device) = history.ModemGone device
event_of (ModemBack device) = history.ModemBack device
event_of (ModemTook device count) = history.ModemTook device count
event_of (Now time) = history.Now time
