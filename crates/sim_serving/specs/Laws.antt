-- Laws of serving a simulated modem. Lists of events and of requests have the newest first.
use Rattle.std.specs.Prelude.{◌≡◌, ◌≤◌, ℕ, ◌==◌, if◌then◌else◌, List, [], ◌∷◌, ◌++◌, filter, length}
use Rattle.proxy_history.specs.Events.{Event}
use Rattle.proxy_history.specs.Connections.{contains}
use Rattle.proxy_history.specs.Streams.{Framing, stream, messages_of_piece, is_bad}
use Rattle.proxy_history.specs.Proxy.{IsLawful}
use Rattle.sim_modem.specs.Sim.{Answering}
use Rattle.served_sim.specs.Conduct.{Conduct, IsPrompt, plain}
use Rattle.sim_serving.specs.Clients.{Request, present, requests, messages_of, is_ended, brought, joins, text}
use Rattle.sim_serving.specs.Proxy.{served}

-- its clients can be served over a hub
abbrev pub SimulatedModemsAreLawful : Type 0
SimulatedModemsAreLawful = (size : Framing) (conduct : Conduct) → IsLawful (served size conduct)

-- the answers to the connection's own among these requests, each behind all requests that came before it
unfoldable pub own_answers : Answering → ℕ → List Request → List ℕ
own_answers answers c [] = []
own_answers answers c (r ∷ before) = if r.conn == c then own_answers answers c before ++ answers (messages_of before) r.message else own_answers answers c before

-- no two connections had the name
abbrev pub JoinsOnce : ℕ → List Event → Type 0
JoinsOnce c past = length (filter (joins c) past) ≤ 1

-- of a modem that answers at once and tells nothing by the clock, whose name is no other's gets the answers to its own requests, in their order, and no others
abbrev pub GetsItsOwnAnswers : Type 0
GetsItsOwnAnswers = (size : Framing) (conduct : Conduct) → IsPrompt conduct → (c : ℕ) (past : List Event) → JoinsOnce c past → text size conduct c past ≡ own_answers conduct.answers c (requests size conduct past)

-- a modem that hangs nobody up is asked all that comes whole of a connection that is there, and only a bad stream ends one
pub record PlainModemsHangNobodyUp : Type 0 where
  pub asked : (size : Framing) (answers : Answering) (c : ℕ) (piece : List ℕ) (past : List Event)
      → brought size (plain answers) c piece past ≡ (if contains c (present size (plain answers) past) then messages_of_piece size (stream c past) piece else [])
  pub ended : (size : Framing) (answers : Answering) (c : ℕ) (piece : List ℕ) (past : List Event) → is_ended size (plain answers) c piece past ≡ is_bad size (stream c past ++ piece)
