-- What lasts is as it was behind each event.
use Rattle.std.proofs.Common.{◌≡◌, ℕ, Bool, true, false, List, [], ◌∷◌, ◌++◌, refl, ◌∙◌, Option, Some, None, is_none, if◌then◌else◌}
use Rattle.framing.specs.Cutting.{Cutting, cut}
use Rattle.outbox.specs.Queue.{Queue}
use Rattle.connections.specs.Table.{Connection, Table, connection_in}
use Rattle.connections.specs.Hearing.{Hearing, hears_all, brings_if, brings_to, hearing_of, goes_on}
use Rattle.proxy_history.specs.Events.{Event, Joined, Piece, Left, ModemPiece, ModemGone, ModemBack, Now, Took, ModemTook}
use Rattle.proxy_history.specs.Streams.{Framing, is_invalid}
use Rattle.proxy_state.specs.State.{State, Core, Handlers}
use Rattle.proxy_state.specs.Step.{given_up_unless, hear_all, hear_cut, lose_if, meet, step}
use Rattle.proxy_core.specs.Meaning.{Meaning}
use Rattle.proxy_core.specs.Lawful.{KeepsLasting}

module _ {T S P : Type 0} (d : Meaning T S P) (h : Handlers T S) (K : KeepsLasting d h) (size : Framing) where
  -- ---- a client ----

  heard_clients : (c : ℕ) (messages : List (List ℕ)) (client : T) (outbox : Queue) (beside : S) → d.lasting (hears_all h.hear_client c messages client outbox beside).beside ≡ d.lasting beside
  unfolding hears_all
  heard_clients c [] client outbox beside = refl
  heard_clients c (m ∷ messages) client outbox beside =
      let one : Hearing T S = h.hear_client c m client outbox beside in by one (K.hear_client c m client outbox beside) one.has_room (heard_clients c messages one.client one.outbox one.beside)
    where
      by : (one : Hearing T S) → d.lasting one.beside ≡ d.lasting beside → (room : Bool) → d.lasting (hears_all h.hear_client c messages one.client one.outbox one.beside).beside ≡ d.lasting one.beside
          → (let both : Hearing T S = elim room [ true ↦ hears_all h.hear_client c messages one.client one.outbox one.beside | false ↦ one ] in d.lasting both.beside ≡ d.lasting beside)
      by one first true rest = rest ∙ first
      by one first false rest = first

  given_up : (unless : Bool) (c : ℕ) (beside : S) → d.lasting (given_up_unless h.give_up unless c beside) ≡ d.lasting beside
  given_up true c beside = refl
  given_up false c beside = K.give_up c beside

  pub brought : (o : Option (Connection T)) (c : ℕ) (piece : List ℕ) (t : Table T) (beside : S) → d.lasting (brings_to size h.hear_client o c piece t beside).beside ≡ d.lasting beside
  brought None c piece t beside = refl
  brought (Some k) c piece t beside =
      let heard : Hearing T S = hearing_of size h.hear_client piece k beside in
      by heard (goes_on size heard piece k) (heard_clients k.name (cut size (k.rest ++ piece)).messages k.client k.outbox beside)
    where
      by : (heard : Hearing T S) (b : Bool) → d.lasting heard.beside ≡ d.lasting beside → d.lasting (brings_if size b c heard piece t).beside ≡ d.lasting beside
      by heard true kept = kept
      by heard false kept = kept

  -- ---- the modem ----

  pub heard_all : (messages : List (List ℕ)) (x : State T S) → d.lasting (hear_all h size messages x).beside ≡ d.lasting x.beside
  unfolding hear_all
  heard_all [] x = refl
  heard_all (m ∷ messages) x = heard_all messages (h.hear_modem m x) ∙ K.hear_modem m x

  cut_heard : (f : Cutting) (x : State T S) → d.lasting (hear_cut h size f x).state.beside ≡ d.lasting x.beside
  cut_heard f x = by (is_invalid (size f.rest))
    where
      by : (b : Bool) → d.lasting (lose_if h size b f.rest (hear_all h size f.messages x)).state.beside ≡ d.lasting x.beside
      by true = K.lose (hear_all h size f.messages x) ∙ heard_all f.messages x
      by false = heard_all f.messages x

  -- ---- each event ----

  either : (b : Bool) (core one other : Core T S) → d.lasting one.state.beside ≡ d.lasting core.state.beside → d.lasting other.state.beside ≡ d.lasting core.state.beside → d.lasting (if b then one else other).state.beside ≡ d.lasting core.state.beside
  either true core one other e f = e
  either false core one other e f = f

  pub met : (event : Event) (core : Core T S) → d.lasting (meet h size event core).state.beside ≡ d.lasting core.state.beside
  met (Joined c) core = refl
  met (Piece c piece) core = given_up _ c _ ∙ brought (connection_in c core.state.table.present) c piece core.state.table core.state.beside
  met (Left c) core = given_up (is_none (connection_in c core.state.table.present)) c core.state.beside
  met (ModemPiece piece) core = either (h.away core.state.beside) core core _ refl (cut_heard (cut size (core.rest ++ piece)) core.state)
  met ModemGone core = either (h.away core.state.beside) core core _ refl (K.lose core.state)
  met ModemBack core = either (h.away core.state.beside) core _ core (K.regain core.state.beside) refl
  met (Now time) core = K.tick time core.state
  met (Took c count) core = refl
  met (ModemTook count) core = K.take_modem count core.state.beside

  pub stepped : (event : Event) (core : Core T S) → d.lasting (step h size event core).state.beside ≡ d.lasting core.state.beside
  stepped event core = K.finish (meet h size event core).state ∙ met event core
