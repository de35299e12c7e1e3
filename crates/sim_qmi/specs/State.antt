-- What a simulated QMI modem keeps from one request to the next.
use Rattle.std.specs.Prelude.{◌≡◌, ◌<◌, ℕ, Bool, false, not, ◌&&◌, ◌==◌, nat_le, nat_lt, true, length, List, [], ◌∷◌, ◌++◌, map, filter, find, slice_get, slice_set, Option, Some, None, option_and_then}
use Rattle.std.specs.List.{list_any, list_all, range_with_len}
use Rattle.modem_profile.specs.Profile.{Profile}
use Rattle.sim_qmi.specs.declared.client_id.ClientId.{ClientId}

pub record State : Type 0 where
  -- the client ids that are given
  pub clients : List ClientId
  -- the operating mode
  pub mode : ℕ
  -- the packet data handle that was given last, 0 before the first
  pub handle : ℕ
  pub connected : Bool
  -- the stored messages by their index, None where one was deleted
  pub messages : List (Option (List ℕ))
  -- the number of the message that was sent last, 0 before the first
  pub sent : ℕ

-- a modem of a profile, before any request
abbrev pub fresh : Profile → State
fresh profile = record { clients = []; mode = 0; handle = 0; connected = false; messages = map Some profile.sms; sent = 0 }

-- ---- client ids ----

abbrev pub is_client : (service id : ℕ) → ClientId → Bool
is_client service id client = client.service == service && client.id == id

-- whether this id of a service is given
abbrev pub is_given : List ClientId → (service id : ℕ) → Bool
is_given clients service id = list_any (is_client service id) clients

-- whether any id of a service is given
abbrev pub is_any_given : List ClientId → (service : ℕ) → Bool
is_any_given clients service = list_any (λ client. client.service == service) clients

-- the ids that are given: 0 is service 0's, and 255 is everybody's
unfoldable pub client_ids : List ℕ
client_ids = range_with_len 1 254

-- the least id of a service that isn't given
abbrev pub free_id : List ClientId → (service : ℕ) → Option ℕ
free_id clients service = find (λ id. not (is_given clients service id)) client_ids

abbrev pub with_client : State → (service id : ℕ) → State
with_client state service id = record state { clients = state.clients ++ record { service = service; id = id } ∷ [] }

abbrev pub without_client : State → (service id : ℕ) → State
without_client state service id = record state { clients = filter (λ client. not (is_client service id client)) state.clients }

-- ---- messages ----

-- the message that is stored with this index
abbrev pub message_at : State → (index : ℕ) → Option (List ℕ)
message_at state index = option_and_then (λ message. message) (slice_get state.messages index)

-- the others keep their indexes
abbrev pub without_message : State → (index : ℕ) → State
without_message state index = record state { messages = slice_set state.messages index None }

-- ---- what is always so ----

-- at most 255 bytes
abbrev pub is_stored : Option (List ℕ) → Bool
is_stored None = true
is_stored (Some message) = nat_le (length message) 255 && list_all (λ byte. nat_lt byte 256) message

-- at most 100 places, each with such a message or none
abbrev pub are_stored : List (Option (List ℕ)) → Bool
are_stored messages = nat_le (length messages) 100 && list_all is_stored messages

pub record IsSound (state : State) : Type 0 where
  pub mode : state.mode < 256
  pub stored : are_stored state.messages ≡ true
