-- What is kept of a request that was forwarded: as much of its message as its answer needs.
use Rattle.std.specs.Prelude.{ℕ, Bool, true, false, List, if◌then◌else◌}
use Rattle.mbim_frame.specs.declared.kind.MessageKind.TheVariants as kind
use Rattle.mbim_frame.specs.Head.{is_kind, number_of}
use Rattle.mbim_frame.specs.Fragment.{body_of}
use Rattle.mbim_frame.specs.Bodies.{uuid_of, cid_of}
use Rattle.mbim_proxy.specs.Known.{Ask}
pub use Rattle.mbim_state.specs.declared.asked.Asked.{Asked}
pub use Rattle.mbim_state.specs.declared.asked.CommandName.{CommandName}
use Rattle.mbim_state.specs.declared.asked.Asked.TheVariants.{Open, Command}

abbrev pub name_of : (message : List ℕ) → CommandName
name_of m = record { number = number_of m; uuid = uuid_of (body_of m); cid = cid_of (body_of m) }

unfoldable pub asked_of : (message : List ℕ) → Asked
asked_of m = if is_kind kind.Open m then Open else Command (name_of m)

abbrev pub is_opening : Asked → Bool
is_opening Open = true
is_opening (Command name) = false

-- what the client's own view tells of the command
abbrev pub ask_by : CommandName → Ask
ask_by name = record { place = 0; number = name.number; uuid = name.uuid; cid = name.cid }
