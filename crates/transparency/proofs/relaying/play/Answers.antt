use Rattle.std.proofs.Common.{ℕ, ◌≤◌, List, [], ◌∷◌, length, take, reverse, refl, sym, ap, ◌∙◌, subst, rules}
use Rattle.std.proofs.lemmas.List.{take_all}
use Rattle.kit_bytes.specs.declared.kind.Kind.{Kind}
use Rattle.core_bench.specs.Runs.{Run, proxy_for}
use Rattle.proxy_history.specs.Events.{Joined}
use Rattle.rig_stage.specs.Running.{Runs}
use Rattle.lone_client.specs.Relay.{Cast, Stage, ask, begun, relayed}
use Rattle.transparency.specs.Peers.{cast_of, opened}
use Rattle.transparency.specs.Relaying.{IsRelayed}
use Rattle.transparency.proofs.OnBench.{take_next}
use Rattle.transparency.proofs.Texts.{relayed_newest}
use Rattle.transparency.proofs.relaying.play.Goals as goal

pub loop-text-init : goal.loop-text-init
unfolding relayed
loop-text-init g c = record { ready = c.in_ok-begin.ensures.ready; goes_on = λ opened earlier it. it }

pub loop-text-preserved : goal.loop-text-preserved
loop-text-preserved g c =
    let i = c.loop-text.invariant in
    let texts : List (List ℕ) = c.args.texts.now in
    let place : ℕ = c.loop-text.text-index in
    let one : List ℕ = c.text-item.result in
    let next = take_next texts place one c.loop-text-test.true c.text-item.is in
    let cast : Cast = cast_of g.S.Simulated.kind c.args.device.now g.S.Framing.Framing.size (g.S.Simulated.answering c.args.profile.now) in
    record {
      ready = c.relay.ensures.ready;
      goes_on = λ opened earlier it.
          let At : Stage → Type 0 = λ stage. IsRelayed g.B.Bench.keeps g.B.Bench.runs g.S.Sim.keeps cast opened earlier stage c.relay.new.bench c.relay.new.sim in
          subst At
          (ap (λ (t : List ℕ). ask cast t (relayed cast (reverse (take place texts)))) c.as_slice.ensures ∙ relayed_newest cast (take place texts) one ∙ ap (λ (l : List (List ℕ)). relayed cast (reverse l)) (sym next))
          (c.in_ok-_reply.ensures.relays.stands cast opened earlier (relayed cast (reverse (take place texts))) refl (i.goes_on opened earlier it));
    }

pub returns : goal.returns
returns g c = record {
  runs = λ earlier told.
      let texts : List (List ℕ) = c.args.texts.now in
      let place : ℕ = c.loop-text.text-index in
      let all : length texts ≤ place = search rules in
      let device : List ℕ = c.args.device.now in
      let cast : Cast = cast_of g.S.Simulated.kind device g.S.Framing.Framing.size (g.S.Simulated.answering c.args.profile.now) in
      let start : Run = opened g.S.Simulated.kind device in
      let Begun : Kind → Type 0 = λ kind. Runs g.B.Bench.keeps g.B.Bench.runs (proxy_for kind (opened kind device).limits device) (opened kind device) earlier (Joined 1 ∷ []) c.begin.new.bench in
      let begins : IsRelayed g.B.Bench.keeps g.B.Bench.runs g.S.Sim.keeps cast start earlier begun c.begin.new.bench c.in_ok-sim.sim =
      record { runs = subst Begun c.kind.ensures (c.in_ok-begin.ensures.runs earlier told); kept = c.in_ok-sim.ensures } in
      let Played : List (List ℕ) → Type 0 = λ played. Runs g.B.Bench.keeps g.B.Bench.runs cast.proxy start earlier (relayed cast (reverse played)).events c.loop-text.bench in
      subst Played (take_all place texts all) (c.loop-text.invariant.goes_on start earlier begins).runs;
}
