-- What tells the clients, against the table of their connections and what stands beside it.
use Rattle.std.specs.Prelude.{◌≡◌, ℕ, Bool, true, false, [], map, if◌then◌else◌}
use Rattle.subscriptions.specs.Clients.{Client as Subscriber, joins, leaves, updates, merged}
use Rattle.connections.specs.Table.{Connection, Table}
use Rattle.mbim_state.specs.Core.{Client, ModemSide}
use Rattle.mbim_core.specs.Meaning.{AtHand}
use Rattle.mbim_core.specs.declared.teller.Teller.{Teller}

abbrev pub hand_of : Teller → AtHand
hand_of teller = record { subscribed = teller.subscriptions; asked = teller.asked }

-- nobody is there, and nothing was asked for
abbrev pub nobody_at_hand : AtHand
nobody_at_hand = record { subscribed = []; asked = false }

abbrev pub joined : ℕ → AtHand → AtHand
joined name hand = record hand { subscribed = joins name hand.subscribed }

abbrev pub left : ℕ → AtHand → AtHand
left name hand = record { subscribed = leaves name hand.subscribed; asked = false }

abbrev pub left_unless : (stays : Bool) → ℕ → AtHand → AtHand
left_unless stays name hand = if stays then hand else left name hand

-- what the client of a connection subscribes to, and whether it is open, is as it stands there
pub record Follows (k : Connection Client) (old new : AtHand) : Type 0 where
  pub subscribed : new.subscribed ≡ updates k.name k.client.opened k.client.list old.subscribed
  pub asked : new.asked ≡ true → (old.asked ≡ true) × (new.subscribed ≡ old.subscribed)

abbrev pub subscriber_at : Connection Client → Subscriber
subscriber_at k = record { conn = k.name; shown = k.client.opened; list = k.client.list }

-- it is of this table and of what stands beside it
pub record IsOf (table : Table Client) (side : ModemSide) (hand : AtHand) : Type 0 where
  pub limit : table.limit ≡ 64
  pub subscribed : hand.subscribed ≡ map subscriber_at table.present
  pub asked : hand.asked ≡ true → merged hand.subscribed ≡ side.last_list
