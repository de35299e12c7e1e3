-- What each event makes of the greatest name of a connection.
use Rattle.std.proofs.Common.{◌≡◌, ℕ, Bool, true, false, nat_lt, List, [], ◌∷◌, ◌++◌, length, refl, ap, sym, ◌∙◌, Option, Some, None, if◌then◌else◌}
use Rattle.framing.specs.Cutting.{Cutting, cut}
use Rattle.outbox.specs.Queue.{has_room}
use Rattle.connections.specs.Table.{Connection, Table, connection_in}
use Rattle.connections.specs.Table as tables
use Rattle.connections.specs.Hearing.{Hearing, brings_if, brings_to, hearing_of, goes_on}
use Rattle.proxy_history.specs.Events.{Event, Joined, Piece, ModemPiece, ModemGone, ModemBack, Now, greatest_after}
use Rattle.proxy_history.specs.Streams.{Framing, is_invalid}
use Rattle.proxy_state.specs.State.{State, Core, Handlers}
use Rattle.proxy_state.specs.Step.{hear_all, hear_cut, lose_if, meet, step}
use Rattle.proxy_state.specs.Telling as telling

abbrev pub IsAsBefore : {T S : Type 0} → State T S → State T S → Type 0
IsAsBefore x after = after.table.greatest ≡ x.table.greatest

-- ---- bytes for clients ----

module _ {T S : Type 0} (give_up : ℕ → S → S) (text : T → List ℕ) (change : T → T) where
  pub told : (c : ℕ) (x : State T S) → IsAsBefore x (telling.tell give_up text change c x)
  told c x = by (connection_in c x.table.present)
    where
      by_room : (k : Connection T) (b : Bool) → IsAsBefore x (telling.tell_if give_up text change b c k x)
      by_room k true = refl
      by_room k false = refl

      by : (o : Option (Connection T)) → IsAsBefore x (telling.tell_to give_up text change o c x)
      by None = refl
      by (Some k) = by_room k (has_room (text k.client) k.outbox)

  pub told_each : (cs : List ℕ) (x : State T S) → IsAsBefore x (telling.tell_each give_up text change cs x)
  unfolding telling.tell_each
  told_each [] x = refl
  told_each (c ∷ cs) x = told_each cs (telling.tell give_up text change c x) ∙ told c x

-- ---- each event ----

module _ {T S : Type 0} (h : Handlers T S) (size : Framing) where
  -- what the handlers owe for that
  pub record KeepsGreatest : Type 0 where
    pub hear_modem : (m : List ℕ) (x : State T S) → IsAsBefore x (h.hear_modem m x)
    pub lose : (x : State T S) → IsAsBefore x (h.lose x)
    pub tick : (time : ℕ) (x : State T S) → IsAsBefore x (h.tick time x)
    pub finish : (x : State T S) → IsAsBefore x (h.finish x)

  module _ (K : KeepsGreatest) where
    heard_all : (messages : List (List ℕ)) (x : State T S) → IsAsBefore x (hear_all h size messages x)
    unfolding hear_all
    heard_all [] x = refl
    heard_all (m ∷ messages) x = heard_all messages (h.hear_modem m x) ∙ K.hear_modem m x

    joined : (b : Bool) (c : ℕ) (client : T) (t : Table T) → (tables.joins_if b c client t).greatest ≡ c
    joined true c client t = refl
    joined false c client t = refl

    brought : (o : Option (Connection T)) (c : ℕ) (piece : List ℕ) (t : Table T) (beside : S) → (brings_to size h.hear_client o c piece t beside).table.greatest ≡ t.greatest
    brought None c piece t beside = refl
    brought (Some k) c piece t beside =
        let heard : Hearing T S = hearing_of size h.hear_client piece k beside in
        by heard (goes_on size heard piece k)
      where
        by : (heard : Hearing T S) (b : Bool) → (brings_if size b c heard piece t).table.greatest ≡ t.greatest
        by heard true = refl
        by heard false = refl

    either : (b : Bool) (n : ℕ) (one other : Core T S) → one.state.table.greatest ≡ n → other.state.table.greatest ≡ n → (if b then one else other).state.table.greatest ≡ n
    either true n one other e f = e
    either false n one other e f = f

    cut_heard : (f : Cutting) (x : State T S) → (hear_cut h size f x).state.table.greatest ≡ x.table.greatest
    cut_heard f x = by (is_invalid (size f.rest))
      where
        by : (b : Bool) → (lose_if h size b f.rest (hear_all h size f.messages x)).state.table.greatest ≡ x.table.greatest
        by true = K.lose (hear_all h size f.messages x) ∙ heard_all f.messages x
        by false = heard_all f.messages x

    met : (event : Event) (core : Core T S) → (meet h size event core).state.table.greatest ≡ greatest_after event core.state.table.greatest
    met (Joined c) core = joined (nat_lt (length core.state.table.present) core.state.table.limit) c h.fresh core.state.table
    met (Piece c piece) core = brought (connection_in c core.state.table.present) c piece core.state.table core.state.beside
    met (ModemPiece piece) core = either (h.away core.state.beside) core.state.table.greatest core _ refl (cut_heard (cut size (core.rest ++ piece)) core.state)
    met ModemGone core = either (h.away core.state.beside) core.state.table.greatest core _ refl (K.lose core.state)
    met ModemBack core = either (h.away core.state.beside) core.state.table.greatest _ core refl refl
    met (Now time) core = K.tick time core.state
    met _ core = refl

    -- an event and a core that are known by equations
    pub greatest_as : (event known : Event) (old new : Core T S) → event ≡ known → new ≡ step h size known old → new.state.table.greatest ≡ greatest_after event old.state.table.greatest
    greatest_as event known old new same is =
        ap (λ (v : Core T S). v.state.table.greatest) (is ∙ ap (λ (e : Event). step h size e old) (sym same)) ∙ K.finish (meet h size event old).state ∙ met event old
