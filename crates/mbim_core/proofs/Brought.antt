-- A client's messages are heard by what stays the same over the life of a core, whether it is read once or at each of them.
use Rattle.std.proofs.Common.{◌≡◌, ℕ, Bool, true, false, List, [], ◌∷◌, refl, ap, ◌∙◌, Option, Some, None}
use Rattle.kit_bytes.specs.Subscriptions.{Pair}
use Rattle.outbox.specs.Queue.{Queue}
use Rattle.connections.specs.Table.{Connection, Table, connection_in}
use Rattle.connections.specs.Hearing.{Hearing, Hearer, hears_all, cut_of, goes_on, Brought, brings_if, brings_to, brings}
use Rattle.mbim_frame.specs.Frame.{size_of}
use Rattle.proxy_state.specs.Step.{given_up_unless}
use Rattle.proxy_state.specs.Step as proxy
use Rattle.mbim_proxy.specs.Setup.{Setup}
use Rattle.mbim_state.specs.Core.{Client, ModemSide, MbimState, setup_of}
use Rattle.mbim_state.specs.Transitions.{give_up, hear_client, mbim_handlers}
use Rattle.mbim_core.specs.State.{state_of}
use Rattle.mbim_core.specs.Kept.{heard_client}
use Rattle.mbim_core.specs.Kept as kept

-- it is read at each message
abbrev pub hears : Hearer Client ModemSide
hears c m client outbox side = hear_client (setup_of side) c m client outbox side

-- the messages behind one, where all that was due with it found room
abbrev behind : Hearer Client ModemSide → (c : ℕ) → (messages : List (List ℕ)) → Hearing Client ModemSide → (room : Bool) → Hearing Client ModemSide
behind h c messages one room = elim room [ true ↦ hears_all h c messages one.client one.outbox one.beside | false ↦ one ]

behind_same : (s : Setup) (c : ℕ) (messages : List (List ℕ)) (one : Hearing Client ModemSide) (room : Bool) → hears_all hears c messages one.client one.outbox one.beside ≡ hears_all (hear_client s) c messages one.client one.outbox one.beside
    → behind hears c messages one room ≡ behind (hear_client s) c messages one room
behind_same s c messages one true rest = rest
behind_same s c messages one false rest = refl

heard_all : (s : Setup) (c : ℕ) (messages : List (List ℕ)) (client : Client) (outbox : Queue) (side : ModemSide) → setup_of side ≡ s → hears_all hears c messages client outbox side ≡ hears_all (hear_client s) c messages client outbox side
unfolding hears_all
heard_all s c [] client outbox side same = refl
heard_all s c (m ∷ messages) client outbox side same =
    let one : Hearing Client ModemSide = hear_client s c m client outbox side in
    ap (λ (t : Setup). behind hears c messages (hear_client t c m client outbox side) (hear_client t c m client outbox side).has_room) same
    ∙ behind_same s c messages one one.has_room (heard_all s c messages one.client one.outbox one.beside (ap (λ (l : Setup × List Pair). l.0) (heard_client s c m client outbox side) ∙ same))

brought_to : (o : Option (Connection Client)) (c : ℕ) (piece : List ℕ) (t : Table Client) (side : ModemSide) → brings_to size_of hears o c piece t side ≡ brings_to size_of (hear_client (setup_of side)) o c piece t side
brought_to None c piece t side = refl
brought_to (Some k) c piece t side =
    ap (λ (h : Hearing Client ModemSide). brings_if size_of (goes_on size_of h piece k) c h piece t) (heard_all (setup_of side) k.name (cut_of size_of piece k).messages k.client k.outbox side refl)

module _ (c : ℕ) (piece : List ℕ) (x : MbimState) where
  abbrev brought : Brought Client ModemSide
  brought = brings size_of hears c piece x.table x.beside

  pub brought_is : (table : Table Client) (side : ModemSide) (stays : Bool) → table ≡ brought.table → side ≡ brought.beside → stays ≡ brought.goes_on
      → state_of table (given_up_unless give_up stays c side) ≡ proxy.bring (mbim_handlers (setup_of x.beside)) size_of c piece x
  brought_is table side stays table_is side_is stays_is =
      ap (λ (t : Table Client). state_of t (given_up_unless give_up stays c side)) table_is
      ∙ ap (λ (b : ModemSide). state_of brought.table (given_up_unless give_up stays c b)) side_is
      ∙ ap (λ (b : Bool). state_of brought.table (given_up_unless give_up b c brought.beside)) stays_is
      ∙ ap (λ (b : Brought Client ModemSide). state_of b.table (given_up_unless give_up b.goes_on c b.beside)) (brought_to (connection_in c x.table.present) c piece x.table x.beside)

  pub brought_list : brought.beside.last_list ≡ x.beside.last_list
  brought_list =
      let one : Option (Connection Client) = connection_in c x.table.present in
      ap (λ (b : Brought Client ModemSide). b.beside.last_list) (brought_to one c piece x.table x.beside) ∙ ap (λ (l : Setup × List Pair). l.1) (kept.brought (setup_of x.beside) one c piece x.table x.beside)
