-- What each event makes of a core. `size` is the protocol's framing.
use Rattle.std.specs.Prelude.{ℕ, Bool, true, false, List, [], ◌∷◌, ◌++◌, is_none, if◌then◌else◌}
use Rattle.framing.specs.Cutting.{Cutting, cut}
use Rattle.proxy_history.specs.Events.{Event, Joined, Piece, Left, ModemPiece, ModemGone, ModemBack, Now, Took, ModemTook}
use Rattle.proxy_history.specs.Streams.{Framing, is_invalid}
use Rattle.connections.specs.Table.{Table, connection_in}
use Rattle.connections.specs.Table as tables
use Rattle.connections.specs.Hearing as hearing
use Rattle.proxy_state.specs.State.{State, Core, Handlers}

-- the client's socket took the first so many bytes
abbrev pub take : {T S : Type 0} → ℕ → ℕ → State T S → State T S
take c count x = record x { table = tables.client_takes c count x.table }

-- ---- the end of a connection; `give_up` says what that changes beside the connections ----

abbrev pub given_up_unless : {S : Type 0} → (give_up : ℕ → S → S) → Bool → ℕ → S → S
given_up_unless give_up true c beside = beside
given_up_unless give_up false c beside = give_up c beside

-- it goes by itself
abbrev pub leave : {T S : Type 0} → (give_up : ℕ → S → S) → ℕ → State T S → State T S
leave give_up c x = record {
  table = tables.leaves c x.table;
  beside = given_up_unless give_up (is_none (connection_in c x.table.present)) c x.beside;
}

-- ---- what a core does ----

module _ {T S : Type 0} (h : Handlers T S) where
  abbrev pub join : ℕ → State T S → State T S
  join c x = record x { table = tables.joins c h.fresh x.table }

  module _ (size : Framing) where
    -- a piece of a client's stream
    abbrev pub bring : ℕ → List ℕ → State T S → State T S
    bring c piece x =
        let brought = hearing.brings size h.hear_client c piece x.table x.beside in
        record {
          table = brought.table;
          beside = given_up_unless h.give_up brought.goes_on c brought.beside;
        }

    -- ---- the modem's stream ----

    unfoldable pub hear_all : List (List ℕ) → State T S → State T S
    hear_all [] x = x
    hear_all (m ∷ messages) x = hear_all messages (h.hear_modem m x)

    -- the modem is away from here on
    abbrev pub lose : State T S → Core T S
    lose x = record { state = h.lose x; rest = [] }

    abbrev pub lose_if : Bool → List ℕ → State T S → Core T S
    lose_if true rest x = lose x
    lose_if false rest x = record { state = x; rest = rest }

    -- where its stream goes bad behind the messages, it is lost
    abbrev pub hear_cut : Cutting → State T S → Core T S
    hear_cut f x = lose_if (is_invalid (size f.rest)) f.rest (hear_all f.messages x)

    abbrev pub is_away : Core T S → Bool
    is_away core = h.away core.state.beside

    -- what a modem sends that is away doesn't count
    abbrev pub bring_modem : List ℕ → Core T S → Core T S
    bring_modem piece core = if is_away core then core else hear_cut (cut size (core.rest ++ piece)) core.state

    abbrev pub lose_modem : Core T S → Core T S
    lose_modem core = if is_away core then core else lose core.state

    abbrev pub regain_modem : Core T S → Core T S
    regain_modem core = if is_away core then record core { state = record core.state { beside = h.regain core.state.beside } } else core

    -- ---- each event ----

    abbrev pub meet : Event → Core T S → Core T S
    meet (Joined c) core = record core { state = join c core.state }
    meet (Piece c bytes) core = record core { state = bring c bytes core.state }
    meet (Left c) core = record core { state = leave h.give_up c core.state }
    meet (ModemPiece bytes) core = bring_modem bytes core
    meet ModemGone core = lose_modem core
    meet ModemBack core = regain_modem core
    meet (Now time) core = record core { state = h.tick time core.state }
    meet (Took c count) core = record core { state = take c count core.state }
    meet (ModemTook count) core = record core { state = record core.state { beside = h.take_modem count core.state.beside } }

    abbrev pub finished : Core T S → Core T S
    finished core = record core { state = h.finish core.state }

    abbrev pub step : Event → Core T S → Core T S
    step event core = finished (meet event core)
