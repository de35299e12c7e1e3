-- A core of a proxy of one device shows what one of several has to. Lists of events have the newest first.
use Rattle.std.proofs.Common.{List, map, refl, sym, subst}
use Rattle.proxy_history.specs.Events.{Event}
use Rattle.proxy_history.specs.Proxy.{Proxy}
use Rattle.proxy_serving.specs.Face.{Face}
use Rattle.proxy_serving.specs.Cores as one
use Rattle.many_history.specs.Events.{ManyEvent}
use Rattle.many_io.specs.Record.{without_device}
use Rattle.many_serving.specs.Proxy.{ManyProxy}
use Rattle.many_serving.proofs.Lawful.{only_lawful}
use Rattle.serving_loop.specs.Cores.{Shows}
use Rattle.serving_loop.specs.One.{only_face, KeepsAsOne}

module _ {C : Type 0} (keeps : Proxy → List Event → C → Type 0) (face : C → Face) (shows : (p : Proxy) (past : List Event) (core : C) → keeps p past core → one.Shows p past (face core)) where
  pub shows_as_one : (p : ManyProxy) (past : List ManyEvent) (core : C) → KeepsAsOne keeps face p past core → Shows p past (only_face (face core))
  shows_as_one p past core kept =
      let is = shows kept.proxy (map without_device past) core kept.kept in
      subst (λ (q : ManyProxy). Shows q past (only_face (face core))) (sym kept.same)
      (record {
        lawful = only_lawful kept.proxy is.lawful;
        rise = kept.rise;
        devices = refl;
        present = is.present;
        queue = is.queue;
        modem_queue = λ d within. is.modem_queue;
        modem_backlog = λ d within. is.modem_backlog;
        dropped = is.dropped;
        away = λ d within. is.away;
        time = is.time;
        distinct = is.distinct;
      })
