-- A hub was opened, and a modem's clients were served over it. The hub's calls have the newest first.
use Rattle.std.proofs.Common.{◌≡◌, ℕ, List, [], ◌∷◌, ◌++◌, true, Option, None, subst, refl, ap}
use Rattle.std.specs.Str.{encode_utf8_all}
use Rattle.hub_io.specs.Record.{Call, Opened, Records, Since}
use Rattle.hub_io.specs.declared.settings.ServeEnd.{ServeEnd}
use Rattle.hub_io.proofs.Record.{since-starts, since-grows, since-joins}
use Rattle.proxy_history.specs.Events.{Event}
use Rattle.proxy_history.specs.Proxy.{Proxy}
use Rattle.proxy_serving.specs.Ends.{EndsFor}
use Rattle.proxy_serving.specs.Serving.{never}
use Rattle.sim_runs.specs.declared.sim_end.SimEnd.TheVariants as sim
use Rattle.sim_runs.specs.Simulating.{Serves, opening}

pub opened_serves : (lacks : Event → Type 0) (before opened after : Option (List Call)) (modem : Proxy) (socket path : List ℕ) (turns : ℕ) (why : ServeEnd) → path ≡ encode_utf8_all socket
    → Records before (Opened path None true) opened → Since opened after (EndsFor lacks modem never turns why) → Since before after (Serves lacks modem socket turns (sim.Served why))
opened_serves lacks before opened after modem socket path turns why is opens ends =
    let Opens : List ℕ → Type 0 = λ path. Records before (Opened path None true) opened in
    let Open : List Call → Type 0 = λ calls. calls ≡ opening socket true ∷ [] in
    let Ends : List Call → Type 0 = EndsFor lacks modem never turns why in
    since-joins _ _ _ Open Ends (Serves lacks modem socket turns (sim.Served why))
    (λ earlier later opened ends. record { served = later; whole = ap (λ (l : List Call). later ++ l) opened; ends = ends })
    (since-grows before _ _ _ (λ calls. calls ≡ []) Open (λ calls none. ap (λ (l : List Call). opening socket true ∷ l) none)
    (since-starts before (λ calls. calls ≡ []) refl) (subst Opens is opens))
    ends
