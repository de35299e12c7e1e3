-- What a modem sends that is asked messages one after another. Lists of messages that were asked have the newest first.
use Rattle.std.specs.Prelude.{◌≡◌, ℕ, List}
use Rattle.proxy_history.specs.Streams.{Framing}
use Rattle.lone_client.specs.Relay.{Answering, asked_then, sent_for}

-- behind what it was asked it was asked these messages too, and sent those for them
pub record Hears {M : Type 0} (keeps : Answering → List (List ℕ) → M → Type 0) (size : Framing) (modem : Answering) (asked messages sent : List (List ℕ)) (sim : M) : Type 0 where
  pub kept : keeps modem (asked_then asked messages) sim
  pub are : sent ≡ sent_for size modem asked messages
