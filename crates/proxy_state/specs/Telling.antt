-- Bytes for clients that depend on what is kept of each: a client gets them and is changed, or is dropped where they find no room.
use Rattle.std.specs.Prelude.{ℕ, Bool, true, false, List, [], ◌∷◌, ◌++◌, Option, Some, None}
use Rattle.outbox.specs.Queue.{has_room}
use Rattle.connections.specs.Table.{Connection, connection_in, changed, drops}
use Rattle.proxy_state.specs.State.{State}

module _ {T S : Type 0} (give_up : ℕ → S → S) (text : T → List ℕ) (change : T → T) where
  abbrev pub told : Connection T → Connection T
  told k = record k { client = change k.client; outbox = record k.outbox { bytes = k.outbox.bytes ++ text k.client } }

  abbrev pub tell_if : Bool → ℕ → Connection T → State T S → State T S
  tell_if true c k x = record x { table = record x.table { present = changed c told x.table.present } }
  tell_if false c k x = record { table = drops c k.outbox x.table; beside = give_up c x.beside }

  abbrev pub tell_to : Option (Connection T) → ℕ → State T S → State T S
  tell_to None c x = x
  tell_to (Some k) c x = tell_if (has_room (text k.client) k.outbox) c k x

  abbrev pub tell : ℕ → State T S → State T S
  tell c x = tell_to (connection_in c x.table.present) c x

  -- one after the other
  unfoldable pub tell_each : List ℕ → State T S → State T S
  tell_each [] x = x
  tell_each (c ∷ cs) x = tell_each cs (tell c x)
