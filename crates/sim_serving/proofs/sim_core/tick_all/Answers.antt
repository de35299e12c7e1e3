use Rattle.std.proofs.Common.{◌≡◌, ◌∙◌, ap, sym, length, set, get_or, List, arith}
use Rattle.served_sim.proofs.Counting.{changed_to, changed_to-none, changed_to-next, changed_to-length, changed_to-all, written}
use Rattle.sim_serving.specs.Core.{Client}
use Rattle.sim_serving.specs.Hearing.{ticks_on}
use Rattle.sim_serving.proofs.sim_core.tick_all.Goals as goal

pub loop-client-init : goal.loop-client-init
loop-client-init g c = c.deref_mut-client-items.ensures.value ∙ changed_to-none (ticks_on c.args.told.now) c.args.clients.now.items

pub loop-client-preserved : goal.loop-client-preserved
loop-client-preserved g c =
    let change = ticks_on c.args.told.now in
    let items = c.args.clients.now.items in
    let i = c.loop-client.client-index in
    let x = c.client-item.result in
    let long = changed_to-length change i items in
    ap (λ (l : List Client). set l i c.tick.new.self) c.loop-client.invariant
    ∙ ap (λ (k : Client). set (changed_to change i items) i k) (c.in_ok-tick.ensures ∙ ap change (sym c.client-item.is))
    ∙ changed_to-next change i items x (omega (arith, c.loop-client-test.true, ap (λ (l : List Client). length l) c.loop-client.invariant, long))
    (c.client-item.is ∙ ap (λ (l : List Client). get_or l i x) c.loop-client.invariant)

pub returns : goal.returns
returns g c =
    let change = ticks_on c.args.told.now in
    let items = c.args.clients.now.items in
    let i = c.loop-client.client-index in
    let long : length c.loop-client.client-items ≡ length items = ap (λ (l : List Client). length l) c.loop-client.invariant ∙ changed_to-length change i items in
    let room = ap (λ (l : List Client). length l) c.deref_mut-client-items.ensures.value in
    written c.loop-client.client-items items c.args.clients.now.len long (omega (arith, long, room, c.deref_mut-client-items.ensures.len))
    ∙ c.loop-client.invariant ∙ changed_to-all change i items (omega (arith, long, c.loop-client-test.false))
