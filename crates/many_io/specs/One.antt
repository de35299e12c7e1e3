-- A hub of one device as one of several: its modem is that of device 0.
use Rattle.std.specs.Prelude.{List, [], ◌∷◌, Option, Some, None}
use Rattle.link_io.specs.Target.{Address}
use Rattle.proxy_history.specs.Events.{Event}
use Rattle.proxy_history.specs.Events as one
use Rattle.hub_io.specs.Record.{Call}
use Rattle.hub_io.specs.Record as one_call
use Rattle.many_history.specs.Events.{ManyEvent, Joined, Piece, Left, Took, ModemPiece, ModemGone, ModemBack, ModemTook, Now}
use Rattle.many_io.specs.Record.{ManyCall, Told, ToldRoom, ToldModemRoom, ToldStop, NextFailed, Sent, SendFailed, SentModem, SendModemFailed, Opened, Paired, Reopened, ReopenFailed, HungUp}

abbrev pub of_device_0 : Event → ManyEvent
of_device_0 (one.Joined c) = Joined c
of_device_0 (one.Piece c bytes) = Piece c bytes
of_device_0 (one.Left c) = Left c
of_device_0 (one.Took c count) = Took c count
of_device_0 (one.ModemPiece bytes) = ModemPiece 0 bytes
of_device_0 one.ModemGone = ModemGone 0
of_device_0 one.ModemBack = ModemBack 0
of_device_0 (one.ModemTook count) = ModemTook 0 count
of_device_0 (one.Now time) = Now time

abbrev pub devices_of : Option Address → List Address
devices_of None = []
devices_of (Some device) = device ∷ []

abbrev pub call_of : Call → ManyCall
call_of (one_call.Told event) = Told (of_device_0 event)
call_of (one_call.ToldRoom c) = ToldRoom c
call_of one_call.ToldModemRoom = ToldModemRoom 0
call_of one_call.ToldStop = ToldStop
call_of one_call.NextFailed = NextFailed
call_of (one_call.Sent c bytes taken) = Sent c bytes taken
call_of (one_call.SendFailed c bytes) = SendFailed c bytes
call_of (one_call.SentModem bytes taken) = SentModem 0 bytes taken
call_of (one_call.SendModemFailed bytes) = SendModemFailed 0 bytes
call_of (one_call.Opened socket device ok) = Opened socket (devices_of device) ok
call_of (one_call.Paired ok) = Paired ok
call_of one_call.Reopened = Reopened 0
call_of one_call.ReopenFailed = ReopenFailed 0
call_of (one_call.HungUp c) = HungUp c
