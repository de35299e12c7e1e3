-- The notes of a hub in memory, as calls.
use Rattle.std.specs.Prelude.{ℕ, List, [], ◌∷◌, fold, Option, Some, None}
use Rattle.std.specs.Option.{option_map}
use Rattle.kit_io.specs.Record.{Noted}
use Rattle.link_io.specs.Target.{Address, AtSocket, AtBridge}
use Rattle.hub_io.specs.Record.{Call, Opened, Paired, NextFailed, Sent, SendFailed, SentModem, SendModemFailed, Reopened, ReopenFailed, HungUp}
use Rattle.hub_io.specs.Hub.{event_call}
use Rattle.hub_io.specs.declared.hub.HubEvent.{HubEvent}
use Rattle.hub_io.specs.declared.hub.HubEvent.TheVariants.{Piece, ModemPiece}
use Rattle.hub_io.specs.declared.memory.HubCall.{HubCall}
use Rattle.hub_io.specs.declared.memory.HubCall.TheVariants as made

-- how many bytes an event brings
abbrev pub size_of : HubEvent → ℕ
size_of (Piece conn size) = size
size_of (ModemPiece size) = size
size_of _ = 0

-- the call that a note stands for; the address of a device belongs to the opening before it
abbrev pub call_as : HubCall → List ℕ → Option Call
call_as (made.Opened ok) bytes = Some (Opened bytes None ok)
call_as made.ToSocket bytes = None
call_as made.ToBridge bytes = None
call_as (made.Paired ok) bytes = Some (Paired ok)
call_as (made.Told event) bytes = Some (event_call event bytes)
call_as made.NextFailed bytes = Some NextFailed
call_as (made.Sent conn taken) bytes = Some (Sent conn bytes taken)
call_as (made.SendFailed conn) bytes = Some (SendFailed conn bytes)
call_as (made.SentModem taken) bytes = Some (SentModem bytes taken)
call_as made.SendModemFailed bytes = Some (SendModemFailed bytes)
call_as made.Reopened bytes = Some Reopened
call_as made.ReopenFailed bytes = Some ReopenFailed
call_as (made.HungUp conn) bytes = Some (HungUp conn)

-- the newest call, an opening, was one of this device
abbrev pub with_device : Address → List Call → List Call
with_device address (Opened socket device ok ∷ calls) = Opened socket (Some address) ok ∷ calls
with_device address calls = calls

abbrev pub device_as : HubCall → List ℕ → Address
device_as made.ToBridge bytes = AtBridge bytes
device_as _ bytes = AtSocket bytes

abbrev pub calls_after : List Call → Option Call → Address → List Call
calls_after calls (Some call) address = call ∷ calls
calls_after calls None address = with_device address calls

abbrev pub with_note : List Call → Noted HubCall → List Call
with_note calls note = calls_after calls (call_as note.kind note.bytes) (device_as note.kind note.bytes)

-- the calls that a log's notes stand for, the newest first
abbrev pub calls_of : Option (List (Noted HubCall)) → Option (List Call)
calls_of told = option_map (fold with_note []) told
