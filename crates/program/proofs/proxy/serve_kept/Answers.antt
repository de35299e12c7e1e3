use Rattle.std.proofs.Common.{◌≡◌, ◌++◌, List, ℕ, Ok, Err, subst, ap, ◌∙◌}
use Rattle.std.specs.Str.{encode_utf8_all}
use Rattle.hub_io.specs.Record.{Call}
use Rattle.hub_io.proofs.Record.{since-joins}
use Rattle.proxy_serving.specs.Ends.{EndsSo}
use Rattle.modem_routes.specs.Routes.{place_in}
use Rattle.program.specs.Serving.{EndsServing, Opens, OpensHub, asked_with, not_opened, proxy_for, served}
use Rattle.program.proofs.proxy.serve_kept.Goals as goal

-- the device was opened, and its clients were served
pub returns-in-Ok-clause-serves : goal.returns-in-Ok-clause-serves
returns-in-Ok-clause-serves g c =
    let asked = asked_with c.args.task.now.socket.now c.args.task.now.settings.now in
    let socket : c.as_str.result.now ≡ encode_utf8_all c.args.task.now.socket.now = c.as_str.ensures ∙ ap encode_utf8_all c.value.ensures.same in
    let opened = c.in-Ok.ensures.opens in
    let opening = opened.are.on_hub in
    let Ends : List Call → Type 0 = EndsSo (proxy_for c.args.task.now.kind asked.device asked.time asked.release) asked.until asked.turns c.serve_opened.result in
    record {
      starts = opened.starts;
      are = served opening c.serve_opened.result (subst (λ (path : List ℕ). Opens path (place_in c.args.device.now) (Ok tt) opening opened.starts) socket opened.are.are)
          (since-joins _ _ _ (λ calls. calls ≡ opening) Ends (EndsServing c.args.task.now.kind asked opening c.serve_opened.result)
          (λ earlier later are ends. record { served = later; whole = ap (λ (l : List Call). later ++ l) are; ends = ends }) opened.are.grows c.serve_opened.ensures.served)
          c.from.ensures;
      grows = opened.grows;
      stands = opened.stands;
    }

-- it wasn't opened
pub returns-in-Err-clause-serves : goal.returns-in-Err-clause-serves
returns-in-Err-clause-serves g c =
    let socket : c.as_str.result.now ≡ encode_utf8_all c.args.task.now.socket.now = c.as_str.ensures ∙ ap encode_utf8_all c.value.ensures.same in
    let opened = c.in-Err.ensures.opens in
    record {
      starts = opened.starts;
      are = not_opened c.in-Err.fault (subst (λ (path : List ℕ). OpensHub path (place_in c.args.device.now) (g.H.Hub.calls c.args.hub.now) (g.H.Hub.calls c.open_device.new.hub) (Err c.in-Err.fault) opened.starts) socket opened.are) c.from-in-Err.ensures;
      grows = opened.grows;
      stands = opened.stands;
    }
