use Rattle.std.proofs.Common.{◌≡◌, ℕ, List, [], ◌∷◌, sym, subst, rules}
use Rattle.kit_bytes.specs.declared.kind.Kind.{Kind}
use Rattle.proxy_history.specs.Events.{Joined}
use Rattle.core_bench.specs.Runs.{proxy_for}
use Rattle.modem_profile.specs.Profile.{Profile}
use Rattle.rig_stage.specs.Running.{Runs}
use Rattle.lone_client.specs.Relay.{relayed}
use Rattle.transparency.specs.Peers.{opened}
use Rattle.transparency.proofs.OnBench.{told_of}
use Rattle.transparency.proofs.proxy.ProxyPeer.open.Goals as goal

pub returns-clause-met : goal.returns-clause-met
unfolding relayed
returns-clause-met g c =
    let told = told_of (g.B.Bench.runs c.args.bench) in
    let device : c.in_ok-device.device ≡ c.args.device.now = search rules in
    let At : Kind → List ℕ → Type 0 = λ kind path. Runs g.B.Bench.keeps g.B.Bench.runs (proxy_for kind (opened kind path).limits path) (opened kind path) told.0 (Joined 1 ∷ []) c.begin.new.bench in
    record {
      earlier = told.0;
      relayed_are = record {
        runs = subst (λ kind. At kind c.in_ok-device.device) c.kind.ensures (subst (At c.kind.result) (sym device) (c.in_ok-begin.ensures.runs told.0 told.1));
        kept = subst (λ (p : Profile). g.S.Sim.keeps (g.S.Simulated.answering p) [] c.in_ok-sim.sim) (sym c.in_ok-profile.ensures.same) c.in_ok-sim.ensures;
      };
    }
