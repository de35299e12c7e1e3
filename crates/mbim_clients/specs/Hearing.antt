-- A client's outbox keeps its capacity, whatever is heard of it.
use Rattle.std.specs.Prelude.{◌≡◌, ℕ, Bool, true, false, List, refl}
use Rattle.outbox.specs.Queue.{Queue, has_room, queues_if}
use Rattle.proxy_history.specs.Decision.{Decision, Replies, Forwards}
use Rattle.proxy_history.specs.View.{Said}
use Rattle.mbim_frame.specs.declared.kind.MessageKind.TheVariants.{Open}
use Rattle.mbim_frame.specs.Head.{is_kind}
use Rattle.mbim_proxy.specs.Setup.{Setup}
use Rattle.mbim_state.specs.Core.{Client, ModemSide, setup_of}
use Rattle.mbim_state.specs.Transitions.{text, asks_modem, decision_for, act_on, hear_client}

queued_capacity : (bytes : List ℕ) (outbox : Queue) (b : Bool) → (queues_if b bytes outbox).capacity ≡ outbox.capacity
queued_capacity bytes outbox true = refl
queued_capacity bytes outbox false = refl

asking_capacity : (opens : Bool) (s : Setup) (name : ℕ) (m : List ℕ) (number : ℕ) (client : Client) (outbox : Queue) (side : ModemSide) → (asks_modem opens s name m number client outbox side).outbox.capacity ≡ outbox.capacity
asking_capacity true s name m number client outbox side = refl
asking_capacity false s name m number client outbox side = refl

act_on-capacity : (s : Setup) (name : ℕ) (m : List ℕ) (decision : Decision) (client : Client) (outbox : Queue) (side : ModemSide) → (act_on s name m decision client outbox side).outbox.capacity ≡ outbox.capacity
act_on-capacity s name m (Replies verdict) client outbox side = queued_capacity (text s (Said m verdict) client) outbox (has_room (text s (Said m verdict) client) outbox)
act_on-capacity s name m (Forwards number) client outbox side = asking_capacity (is_kind Open m) s name m number client outbox side

pub hear_client-capacity : (name : ℕ) (m : List ℕ) (client : Client) (outbox : Queue) (side : ModemSide) → (hear_client (setup_of side) name m client outbox side).outbox.capacity ≡ outbox.capacity
hear_client-capacity name m client outbox side = act_on-capacity (setup_of side) name m (decision_for (setup_of side) name client m side) client outbox side
