-- The proxy of a protocol as whoever serves it sees it, and that it can be served where the protocol is orderly.
-- Lists of events and of facts have the newest first. `Known` is what a client's own view tells of it.
use Rattle.std.specs.Prelude.{◌≡◌, ℕ, ◌+◌, ◌≤◌, List, ◌∷◌, length}
use Rattle.proxy_history.specs.Facts.{Fact, EventBegan, ModemTaken}
use Rattle.proxy_history.specs.Connections.{present, dropped}
use Rattle.proxy_history.specs.Modem as modem
use Rattle.proxy_history.specs.Sound.{IsSound}
use Rattle.proxy_history.specs.Protocol.{Protocol}
use Rattle.proxy_history.specs.History.{history, text_for, modem_queue}
use Rattle.proxy_history.specs.Adding.{IsOrderly}
use Rattle.proxy_history.specs.Orderly.{Anything}
use Rattle.proxy_history.specs.Proxy.{Proxy, IsLawful}

-- how many bytes wait for the modem, and how many more the proxy may ask by itself while the modem only takes: `own` says that
abbrev pub backlog : {Known : Type 0} → Protocol Known → (own : List Fact → ℕ) → List Fact → ℕ
backlog p own past = length (modem.modem_queue p.wire past) + own past

-- what the protocol's definitions say of its events
abbrev pub proxy_of : {Known : Type 0} → Protocol Known → (own : List Fact → ℕ) → Proxy
proxy_of p own = record {
  text = λ c past. (text_for p c past).bytes;
  waiting = λ c past. (text_for p c past).waiting;
  waiting_for_modem = λ past. modem_queue p past;
  modem_backlog = λ past. backlog p own (history p past);
  is_away = λ past. modem.is_away p.starts_away (history p past);
  present = λ past. present (history p past);
  dropped = λ past. dropped (history p past);
  time = λ past. modem.now (history p past);
}

-- by itself the proxy asks for no more bytes than `own` says: neither the beginning of an event nor the modem's taking changes that, and what the proxy asks at an event's end was counted before
pub record AsksUpTo {Known : Type 0} (p : Protocol Known) (own : List Fact → ℕ) : Type 0 where
  pub begun : (past : List Fact) → own (EventBegan ∷ past) ≡ own past
  pub taken : (count : ℕ) (past : List Fact) → own (ModemTaken count ∷ past) ≡ own past
  pub asked : (past : List Fact) → IsSound p.limits past → backlog p own (p.finish past) ≤ backlog p own past

-- the proxy of an orderly protocol keeps the rules, where there is an end to what it asks by itself
abbrev pub OrderlyProxiesAreLawful : Type 0 → Type 0
OrderlyProxiesAreLawful Known = (p : Protocol Known) → IsOrderly p Anything → (own : List Fact → ℕ) → AsksUpTo p own → IsLawful (proxy_of p own)
