-- What the definitions of a proxy of several devices say of the events that it met. Lists of events have the newest first.
use Rattle.std.specs.Prelude.{ℕ, Bool, List}
use Rattle.proxy_history.specs.Facts.{Fact}
use Rattle.proxy_history.specs.Modem as modem
use Rattle.proxy_history.specs.History.{history}
use Rattle.proxy_history.specs.Lawful.{backlog}
use Rattle.many_history.specs.Events.{ManyEvent}
use Rattle.many_history.specs.Devices.{Devices}
use Rattle.many_history.specs.Many.{conns_of, many, own}
use Rattle.many_history.specs.Queues.{text_for, modem_queue}

pub record ManyProxy : Type 0 where
  -- how many devices there are
  pub devices : ℕ
  -- all bytes for a client since it joined, and those that wait for it
  pub text : ℕ → List ManyEvent → List ℕ
  pub waiting : ℕ → List ManyEvent → List ℕ
  -- of each device's modem: the bytes that wait for it, how many those are with those that its proxy may ask by itself while it only takes, and whether it is away
  pub waiting_for_modem : ℕ → List ManyEvent → List ℕ
  pub modem_backlog : ℕ → List ManyEvent → ℕ
  pub is_away : ℕ → List ManyEvent → Bool
  -- the connections that are there, in order of joining, and those that the last event ended but for those that went by themselves
  pub present : List ManyEvent → List ℕ
  pub dropped : List ManyEvent → List ℕ
  -- the clock, in milliseconds
  pub time : List ManyEvent → ℕ

-- each client gets what its own device's proxy would give it; `own_bytes` says how many bytes the proxy of a device may ask by itself
abbrev pub many_proxy_of : {Known : Type 0} → Devices Known → (own_bytes : ℕ → List Fact → ℕ) → ManyProxy
many_proxy_of s own_bytes = record {
  devices = s.count;
  text = λ c events. (text_for s c events).bytes;
  waiting = λ c events. (text_for s c events).waiting;
  waiting_for_modem = λ d events. modem_queue s d events;
  modem_backlog = λ d events. backlog (s.protocol d) (own_bytes d) (history (s.protocol d) (own s d events));
  is_away = λ d events. modem.is_away (s.protocol d).starts_away (history (s.protocol d) (own s d events));
  present = λ events. conns_of (many s events).seats;
  dropped = λ events. conns_of (many s events).dropped;
  time = λ events. modem.now (history (s.protocol 0) (own s 0 events));
}
