-- Serving a simulated modem, as serving a proxy: the modem is never away, nothing waits for it, and time doesn't matter. Lists of events have the newest first.
use Rattle.std.specs.Prelude.{[], false}
use Rattle.proxy_history.specs.Streams.{Framing}
use Rattle.proxy_history.specs.Proxy.{Proxy}
use Rattle.sim_modem.specs.Sim.{Answering}
use Rattle.served_sim.specs.Conduct.{Conduct, plain}
use Rattle.sim_serving.specs.Clients.{present, dropped, text, waiting}

-- one that behaves so
abbrev pub served : Framing → Conduct → Proxy
served size conduct = record {
  text = λ c past. text size conduct c past;
  waiting = λ c past. waiting size conduct c past;
  waiting_for_modem = λ past. [];
  modem_backlog = λ past. 0;
  is_away = λ past. false;
  present = λ past. present size conduct past;
  dropped = λ past. dropped size conduct past;
  time = λ past. 0;
}

-- one that answers so, and hangs nobody up
abbrev pub proxy_of : Framing → Answering → Proxy
proxy_of size answers = served size (plain answers)
