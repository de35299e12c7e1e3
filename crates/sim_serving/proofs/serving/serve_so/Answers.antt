use Rattle.std.proofs.Common.{◌≡◌, ℕ, ◌≤◌, true, false, List, Option, Some, None, refl, sym, subst, arith}
use Rattle.hub_io.specs.Record.{Call, Since}
use Rattle.hub_io.specs.declared.settings.ServeEnd.{ServeEnd}
use Rattle.hub_io.specs.declared.settings.ServeEnd.TheVariants as end
use Rattle.proxy_history.specs.Proxy.{Proxy}
use Rattle.proxy_serving.specs.Ends.{EndsFor, EndsAtClock}
use Rattle.proxy_serving.specs.Serving.{never, IsEmptied}
use Rattle.sim_serving.specs.Proxy.{served}
use Rattle.sim_serving.specs.Core.{Core, LacksMemory}
use Rattle.sim_serving.proofs.Steps.{stands_opened}
use Rattle.sim_serving.proofs.serving.serve_so.Goals as goal

-- with no limit it isn't that nobody was there for so long
never_empty : (clock : Type 0) (start now : Option (List Call)) (p : Proxy) (turns : ℕ) (why : ServeEnd) → Since start now (EndsFor (LacksMemory clock) p never turns why) → Since start now (λ calls. why ≡ end.Empty → ⊥)
never_empty clock start None p turns why since = tt
never_empty clock None (Some now) p turns why since = absurd since
never_empty clock (Some start) (Some now) p turns why since = (since.0, since.1, λ empty. isnt (subst (λ (w : ServeEnd). EndsFor (LacksMemory clock) p never turns w since.0) empty since.2))
  where
    isnt : EndsAtClock (IsEmptied p never) p never turns since.0 → ⊥
    isnt ends = let wrong : false ≡ true = ends.over in cc

pub serve-requires-clause-opened : goal.serve-requires-clause-opened
serve-requires-clause-opened g c =
    (served g.S.Framing.Framing.size c.requires.0, record { conduct = c.requires.0; same = refl; stands = stands_opened g.S.Framing.Framing.size g.S.ServedSim.keeps c.requires.0 c.args.sim c.open.result c.open.ensures c.requires.1 })

pub serve-requires-clause-greatest : goal.serve-requires-clause-greatest
serve-requires-clause-greatest g c = subst (λ (core : Core g.row.S.Denot). core.greatest ≤ g.H.Hub.greatest c.args.hub.now) (sym c.open.ensures) (omega arith)

pub returns-clause-served : goal.returns-clause-served
returns-clause-served g c =
    λ conduct kept. c.serve.ensures.served (served g.S.Framing.Framing.size conduct) (record { conduct = conduct; same = refl; stands = stands_opened g.S.Framing.Framing.size g.S.ServedSim.keeps conduct c.args.sim c.open.result c.open.ensures kept })

pub returns-clause-never_empty : goal.returns-clause-never_empty
returns-clause-never_empty g c = never_empty g.S.ServedSim.by_clock _ _ (served g.S.Framing.Framing.size c.requires.0) c.args.turns c.serve.result (returns-clause-served g c c.requires.0 c.requires.1)
