-- What each request of an MBIM proxy is when it is forwarded. Lists of facts and views have the newest first.
use Rattle.std.specs.Prelude.{◌≡◌, ◌⊎◌, ℕ, true, List, ◌∷◌}
use Rattle.proxy_history.specs.Events.{Event}
use Rattle.proxy_history.specs.Facts.{Fact, Request, Judged, Forward}
use Rattle.proxy_history.specs.Connections.{is_present}
use Rattle.proxy_history.specs.Requests.{deadline_of}
use Rattle.proxy_history.specs.Modem.{now}
use Rattle.proxy_history.specs.View.{said_count}
use Rattle.proxy_history.specs.Adding.{AreAsked}
use Rattle.mbim_proxy.specs.Setup.{Setup, the_space}
use Rattle.mbim_proxy.specs.Step.{view_of, known_now}
use Rattle.mbim_proxy.specs.ModemStates.{state, is_shut}
use Rattle.mbim_proxy.specs.Lists.{merged}
use Rattle.mbim_proxy.specs.Forwarding.{own_open, own_subscribe}
use Rattle.mbim_proxy.specs.Clients.{command_message}
use Rattle.mbim_proxy.specs.OwnList.{is_free}
use Rattle.mbim_proxy.specs.History.{mbim_protocol, history}

-- it carries the command that its sender's newest message completes, which was judged just before; so no message is forwarded twice
pub record CarriesItsCommand (s : Setup) (r : Request) (past : List Fact) : Type 0 where
  pub sender : is_present r.conn past ≡ true
  pub message : List ℕ
  pub before : List Fact
  pub judged : past ≡ Judged r.conn r.place message Forward ∷ before
  pub place : r.place ≡ said_count (view_of r.conn past)
  pub command : r.message ≡ command_message s (known_now s r.conn before) message

-- the proxy itself opens a modem that is shut
pub record OpensTheModem (s : Setup) (r : Request) (past : List Fact) : Type 0 where
  pub own : r.conn ≡ 0
  pub shut : is_shut (state s.starts_away past) ≡ true
  pub message : r.message ≡ own_open s

-- the proxy itself asks an open modem for the list of all open clients together, while no request of its own waits
pub record SubscribesForAll (s : Setup) (r : Request) (past : List Fact) : Type 0 where
  pub own : r.conn ≡ 0
  pub free : is_free s past ≡ true
  pub message : r.message ≡ own_subscribe (merged s past)

pub record IsAsked (s : Setup) (r : Request) (past : List Fact) : Type 0 where
  pub space : r.space ≡ the_space
  pub deadline : r.deadline ≡ deadline_of (now past) s.time_limit
  pub carries : CarriesItsCommand s r past ⊎ (OpensTheModem s r past ⊎ SubscribesForAll s r past)

-- so was each request, and its bytes found room in the modem's outbox
abbrev pub RequestsAreAsked : Type 0
RequestsAreAsked = (s : Setup) (events : List Event) → AreAsked (mbim_protocol s) (IsAsked s) (history s events)
