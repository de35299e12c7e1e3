-- A core of a proxy of one device as one of several: its modem is that of device 0. Lists of events have the newest first.
use Rattle.std.specs.Prelude.{◌≡◌, ◌≤◌, List, map}
use Rattle.proxy_history.specs.Events.{Event}
use Rattle.proxy_history.specs.Proxy.{Proxy}
use Rattle.proxy_serving.specs.Face.{Face}
use Rattle.many_history.specs.Events.{ManyEvent}
use Rattle.many_history.specs.Coming.{NamesRise, greatest_conn}
use Rattle.many_io.specs.Record.{without_device}
use Rattle.many_serving.specs.Proxy.{ManyProxy}
use Rattle.many_serving.specs.One.{only_of}
use Rattle.serving_loop.specs.Face.{ManyFace}

abbrev pub only_face : Face → ManyFace
only_face face = record {
  devices = 1;
  present = face.present;
  queue = face.queue;
  modem_queue = λ d. face.modem_queue;
  modem_backlog = λ d. face.modem_backlog;
  dropped = face.dropped;
  away = λ d. face.away;
  time = face.time;
  greatest = face.greatest;
}

-- it keeps what a proxy of one device has to keep, which `keeps` says, of events whose names rise, and shows no lesser name than the greatest
pub record KeepsAsOne {C : Type 0} (keeps : Proxy → List Event → C → Type 0) (face : C → Face) (p : ManyProxy) (past : List ManyEvent) (core : C) : Type 0 where
  pub proxy : Proxy
  pub same : p ≡ only_of proxy
  pub kept : keeps proxy (map without_device past) core
  pub rise : NamesRise past
  pub known : greatest_conn past ≤ (face core).greatest
