-- A client's outbox keeps its capacity, whatever is heard of it.
use Rattle.std.specs.Prelude.{◌≡◌, ℕ, Bool, true, false, List, refl}
use Rattle.outbox.specs.Queue.{Queue, has_room, queues_if}
use Rattle.proxy_history.specs.Decision.{Decision, Replies, Forwards}
use Rattle.qmi_state.specs.declared.client.Client.{Client}
use Rattle.qmi_state.specs.Core.{ModemSide}
use Rattle.qmi_state.specs.Transitions.{reply_as, decision_of, act_on, hear_client}

queued_capacity : (bytes : List ℕ) (outbox : Queue) (b : Bool) → (queues_if b bytes outbox).capacity ≡ outbox.capacity
queued_capacity bytes outbox true = refl
queued_capacity bytes outbox false = refl

act_on-capacity : (name : ℕ) (m : List ℕ) (decision : Decision) (client : Client) (outbox : Queue) (side : ModemSide) → (act_on name m decision client outbox side).outbox.capacity ≡ outbox.capacity
act_on-capacity name m (Replies verdict) client outbox side = queued_capacity (reply_as side.device client.opened m verdict) outbox (has_room (reply_as side.device client.opened m verdict) outbox)
act_on-capacity name m (Forwards number) client outbox side = refl

pub hear_client-capacity : (name : ℕ) (m : List ℕ) (client : Client) (outbox : Queue) (side : ModemSide) → (hear_client name m client outbox side).outbox.capacity ≡ outbox.capacity
hear_client-capacity name m client outbox side = act_on-capacity name m (decision_of side.away name m client.opened side.traffic) client outbox side
