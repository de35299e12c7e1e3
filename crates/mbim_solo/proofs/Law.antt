-- What a client gets beside others, it gets alone.
use Rattle.std.proofs.Common.{◌≡◌, ◌≢◌, ℕ, List, ap, sym, ◌∙◌, arith}
use Rattle.proxy_history.specs.Events.{Event}
use Rattle.proxy_history.specs.Streams.{stream}
use Rattle.proxy_history.specs.Facts.{Fact}
use Rattle.proxy_history.specs.Requests.{in_use, pending}
use Rattle.proxy_history.specs.ClientIds.{held}
use Rattle.proxy_history.specs.Modem.{is_away}
use Rattle.proxy_history.specs.Rendering.{render}
use Rattle.proxy_history.specs.Wording.{text_behind}
use Rattle.proxy_history.specs.Noting.{rendering}
use Rattle.proxy_solo.proofs.Queries.{away-part, in_use-part, pending-part, held-part}
use Rattle.mbim_proxy.specs.Setup.{Setup}
use Rattle.mbim_proxy.specs.Step.{blank, known_from, known_now}
use Rattle.mbim_proxy.specs.Text.{mbim_wording}
use Rattle.mbim_proxy.specs.History.{history}
use Rattle.mbim_solo.specs.Solo.{restated, solo}
use Rattle.mbim_solo.specs.Part.{part}
use Rattle.mbim_solo.specs.Law.{IsRoomy, ServedProxiesAreRoomy, IsLetAlone, GetsTheSameAlone, AloneIsSound, HistoriesAreSame}
use Rattle.mbim_solo.proofs.Reading.{reads}
use Rattle.mbim_solo.proofs.Views.{known_view, text-part, known-part}
use Rattle.mbim_solo.proofs.Relation.{IsOrderly, Alike}
use Rattle.mbim_solo.proofs.Orderly.{histories_are_orderly}
use Rattle.mbim_solo.proofs.Standing.{there_alike}
use Rattle.mbim_solo.proofs.ModemEvents.{heard_alike}
use Rattle.mbim_solo.proofs.Induction.{alike}

pub served_proxies_are_roomy : ServedProxiesAreRoomy
served_proxies_are_roomy device time_limit starts_away = record { some = omega arith; enough = λ space. omega arith; top = omega arith; body = omega arith; short = omega arith; room = omega arith }

-- ---- histories with one part of the client ----

module _ (s : Setup) (c : ℕ) (past own : List Fact) (O : IsOrderly s c past) (G : IsOrderly s c own) (same : part c past ≡ part c own) where
  bytes_same : rendering s.limits (mbim_wording s) c past ≡ rendering s.limits (mbim_wording s) c own
  bytes_same =
      sym (text-part s c past O.fit.once)
      ∙ ap (λ (facts : List Fact). render s.limits.outbox (text_behind (mbim_wording s)) (known_view s c facts)) same
      ∙ text-part s c own G.fit.once

  known_same : known_now s c past ≡ known_now s c own
  known_same = sym (known-part s c past O.fit.once) ∙ ap (λ (facts : List Fact). known_from s (known_view s c facts)) same ∙ known-part s c own G.fit.once

-- ---- where all and the client alone are alike ----

beside_and_alone : (s : Setup) (c : ℕ) (events : List Event) → IsRoomy s → c ≢ 0 → IsLetAlone s c events → Alike s c (history s events) (solo s c events) (stream c events)
beside_and_alone s c events roomy client L = alike s roomy c client (λ event is events own A sound fair. heard_alike s roomy c client events own A event is) events L

pub gets_the_same_alone : GetsTheSameAlone
gets_the_same_alone s c events roomy client L =
    let A = beside_and_alone s c events roomy client L in
    sym (bytes_same s c (history s events) (history s (solo s c events)) A.orderly (histories_are_orderly s c client (solo s c events) A.may) A.same)

pub alone_is_sound : AloneIsSound
alone_is_sound s c events roomy client L = (beside_and_alone s c events roomy client L).may

pub histories_are_same : HistoriesAreSame
histories_are_same s c events roomy client L =
    let past : List Fact = history s events in
    let own : List Fact = history s (solo s c events) in
    let A = beside_and_alone s c events roomy client L in
    let O : IsOrderly s c past = A.orderly in
    let G : IsOrderly s c own = histories_are_orderly s c client (solo s c events) A.may in
    record {
      facts = A.same;
      bytes = bytes_same s c past own O G A.same;
      known = known_same s c past own O G A.same;
      there = there_alike s c client past own A.same;
      requests = sym (in_use-part s.limits blank restated reads c past O.fit.placed) ∙ ap in_use A.same ∙ in_use-part s.limits blank restated reads c own G.fit.placed;
      waiting = sym (pending-part s.limits blank restated reads c past O.fit.placed) ∙ ap pending A.same ∙ pending-part s.limits blank restated reads c own G.fit.placed;
      ids = sym (held-part s.limits blank restated reads c past O.sound) ∙ ap held A.same ∙ held-part s.limits blank restated reads c own G.sound;
      time = A.time;
      away = sym (away-part s.limits blank restated reads c s.starts_away past) ∙ ap (is_away s.starts_away) A.same ∙ away-part s.limits blank restated reads c s.starts_away own;
      queue = A.rests.queue;
    }
