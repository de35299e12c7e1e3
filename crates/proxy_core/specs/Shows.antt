-- A core of a proxy shows what the proxy's definitions say. Lists of events have the newest first.
use Rattle.std.proofs.Common.{◌≡◌, List, length, arith, sym, ap, ◌∙◌, subst}
use Rattle.proxy_history.specs.Events.{Event}
use Rattle.proxy_history.specs.History.{history, modem_queue}
use Rattle.proxy_history.specs.Proxy.{Proxy}
use Rattle.proxy_history.specs.Streams.{Framing}
use Rattle.proxy_serving.specs.Cores.{Shows}
use Rattle.proxy_state.specs.State.{Core}
use Rattle.proxy_state.specs.Stands.{streams_of}
use Rattle.proxy_state.proofs.Waiting.{waiting_there, names_are, none_left}
use Rattle.proxy_core.specs.Meaning.{Meaning}
use Rattle.proxy_core.specs.Core.{handlers_in, lasting_in, Stands}
use Rattle.proxy_core.specs.Lawful.{IsLawful, proxy_by}
use Rattle.proxy_core.specs.Face.{face_of, Keeps}

module _ {T S P : Type 0} (d : Meaning T S P) (fresh : T) (size : Framing) (L : IsLawful d fresh size) where
  -- the bytes that wait for the modem
  pub modem_waiting_is : (s : d.Setup) (events : List Event) (core : Core T S) → Stands d s events core → (handlers_in d core).modem_queue core.state.beside ≡ modem_queue (d.protocol s) events
  modem_waiting_is s events core Sd = ap (handlers_in d core).modem_queue Sd.holds.beside ∙ L.waits_for_modem (lasting_in d core) s (streams_of (d.protocol s) events).messages (history (d.protocol s) events)

  shows_setup : (s : d.Setup) (past : List Event) (core : Core T S) → d.serves s (lasting_in d core) → Stands d s past core → Shows (proxy_by d s) past (face_of d core)
  shows_setup s past core serves Sd =
      let queue = modem_waiting_is s past core Sd in
      let follows = (L.faithful s (lasting_in d core) serves).connections in
      record {
        lawful = L.lawful s;
        present = names_are (d.protocol s) (d.kept s) past core Sd;
        queue = waiting_there (d.protocol s) (d.kept s) past core Sd;
        modem_queue = queue;
        modem_backlog = omega (arith, ap length queue, L.own_bytes s past core serves Sd);
        dropped = none_left (d.protocol s) (d.kept s) past core Sd;
        away = ap (handlers_in d core).away Sd.holds.beside ∙ follows.away (streams_of (d.protocol s) past).messages (history (d.protocol s) past);
        time = ap (handlers_in d core).time Sd.holds.beside ∙ follows.time (streams_of (d.protocol s) past).messages (history (d.protocol s) past);
        distinct = Sd.holds.names.distinct;
      }

  pub shows_of : (p : Proxy) (past : List Event) (core : Core T S) → Keeps d p past core → Shows p past (face_of d core)
  shows_of p past core kept =
      let Showing : Proxy → Type 0 = λ q. Shows q past (face_of d core) in subst Showing (sym kept.same) (shows_setup kept.setup past core kept.serves kept.stands)
