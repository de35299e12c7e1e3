use Rattle.std.proofs.Common.{◌≡◌, ◌++◌, List, map, refl, ap, Err, Ok}
use Rattle.std.specs.Str.{encode_utf8_all}
use Rattle.hub_io.proofs.Record.{since-joins}
use Rattle.many_io.specs.Record.{ManyCall}
use Rattle.many_served.specs.Ends.{EndsSo}
use Rattle.many_served.specs.Face.{many_proxy}
use Rattle.many_runs.specs.Running.{EndsServing, asked_by, served, not_opened}
use Rattle.many_runs.proofs.running.run_kept.Goals as goal

-- the devices were opened, and their clients were served
pub returns-in-Ok-clause-serves : goal.returns-in-Ok-clause-serves
returns-in-Ok-clause-serves g c =
    let asked = asked_by c.args.settings.now in
    let opened = c.in-Ok.ensures.opens in
    let opening = opened.are.on_hub in
    let Ends : List ManyCall → Type 0 = EndsSo (many_proxy (map encode_utf8_all asked.devices) asked.time asked.release) asked.until asked.turns c.serve_many.result in
    record {
      starts = opened.starts;
      are = served opening c.serve_many.result opened.are.are
          (since-joins _ _ _ (λ calls. calls ≡ opening) Ends (EndsServing asked opening c.serve_many.result)
          (λ earlier later are ends. record { served = later; whole = ap (λ (l : List ManyCall). later ++ l) are; ends = ends }) opened.are.grows c.serve_many.ensures.served)
          refl;
      grows = opened.grows;
      stands = opened.stands;
    }

-- they weren't opened
pub returns-in-Err-clause-serves : goal.returns-in-Err-clause-serves
returns-in-Err-clause-serves g c =
    let opened = c.in-Err.ensures.opens in
    record { starts = opened.starts; are = not_opened c.in-Err.why opened.are refl; grows = opened.grows; stands = opened.stands }
