-- A proxy of one device as one of several: its modem is that of device 0. Lists of calls and of events have the newest first.
use Rattle.std.specs.Prelude.{ℕ, Bool, true, ◌≡◌, List, map}
use Rattle.proxy_history.specs.Events.{Event}
use Rattle.proxy_history.specs.Proxy.{Proxy}
use Rattle.proxy_history.specs.Proxy as one_proxy
use Rattle.hub_io.specs.Record.{Call}
use Rattle.hub_io.specs.declared.settings.ServeEnd.{ServeEnd}
use Rattle.hub_io.specs.declared.settings.Until.{Until}
use Rattle.proxy_serving.specs.Ends as one_end
use Rattle.many_io.specs.Record.{without_device}
use Rattle.many_io.specs.One.{call_of}
use Rattle.many_serving.specs.Proxy.{ManyProxy}
use Rattle.many_serving.specs.Lawful.{IsLawful}
use Rattle.many_serving.specs.Serving.{Serves}
use Rattle.many_serving.specs.Ends.{EndsFor}

-- a proxy of one device
abbrev pub only_of : Proxy → ManyProxy
only_of p = record {
  devices = 1;
  text = λ c events. p.text c (map without_device events);
  waiting = λ c events. p.waiting c (map without_device events);
  waiting_for_modem = λ d events. p.waiting_for_modem (map without_device events);
  modem_backlog = λ d events. p.modem_backlog (map without_device events);
  is_away = λ d events. p.is_away (map without_device events);
  present = λ events. p.present (map without_device events);
  dropped = λ events. p.dropped (map without_device events);
  time = λ events. p.time (map without_device events);
}

-- where it keeps the rules, it keeps those of several
abbrev pub LawfulAsOneOfSeveral : Type 0
LawfulAsOneOfSeveral = (p : Proxy) → one_proxy.IsLawful p → IsLawful (only_of p)

-- serving it as one of several is serving it
abbrev pub ServedAsOneOfSeveral : Type 0
ServedAsOneOfSeveral = (p : Proxy) (calls : List Call) → Serves (only_of p) (map call_of calls) → one_end.Serves p calls

-- and it ends for the reasons for which that ends; `lacks` says at which events memory may be lacking
abbrev pub EndsAsOneOfSeveral : Type 0
EndsAsOneOfSeveral = (p : Proxy) (until : Until) (turns : ℕ) (lacks : Event → Bool) (why : ServeEnd) (calls : List Call)
    → EndsFor (λ event. lacks (without_device event) ≡ true) (only_of p) until turns why (map call_of calls) → one_end.EndsFor (λ event. lacks event ≡ true) p until turns why calls
