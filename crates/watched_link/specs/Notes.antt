-- What a watched link notes, and the calls that are noted.
use Rattle.std.specs.Prelude.{ℕ, List, [], ◌∷◌, map, Option}
use Rattle.std.specs.Option.{option_map}
use Rattle.kit_io.specs.Record.{Noted}
use Rattle.link_io.specs.Calls.{Call}
use Rattle.link_io.specs.Made.{call_as}
use Rattle.watched_link.specs.declared.note.LinkNote.{LinkNote}
use Rattle.watched_link.specs.declared.note.LinkNote.TheVariants as note

pub data Event : Type 0 where
  -- a call, with its answer
  Called : (call : Call) → Event
  -- what the system said of the call before it, which failed
  Said : (words : List ℕ) → Event

abbrev pub event_as : LinkNote → List ℕ → Event
event_as (note.Called made) bytes = Called (call_as made bytes)
event_as note.Said bytes = Said bytes

abbrev pub event_of : Noted LinkNote → Event
event_of noted = event_as noted.kind noted.bytes

-- the calls of some events
abbrev pub calls_in : List Event → List Call
calls_in [] = []
calls_in (Called call ∷ events) = call ∷ calls_in events
calls_in (Said words ∷ events) = calls_in events

-- what is recorded of the events
abbrev pub events_recorded : Option (List (Noted LinkNote)) → Option (List Event)
events_recorded recorded = option_map (map event_of) recorded

-- and of the calls
abbrev pub calls_recorded : Option (List (Noted LinkNote)) → Option (List Call)
calls_recorded recorded = option_map calls_in (events_recorded recorded)
