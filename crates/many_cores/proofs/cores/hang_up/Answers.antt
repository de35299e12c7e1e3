use Rattle.std.proofs.Common.{◌≡◌, ◌<◌, true, List, [], ◌∷◌, length, drop, ap, sym, ◌∙◌, subst, rules, arith, is_some}
use Rattle.connections.specs.Table.{Dropped, first_dropped}
use Rattle.proxy_solo.specs.Cores.{hung_up}
use Rattle.qmi_state.specs.Core.{QmiCore}
use Rattle.many_cores.proofs.cores.hang_up.Goals as goal

fewer : (dropped : List Dropped) → is_some (first_dropped dropped) ≡ true → length (drop 1 dropped) < length dropped
fewer [] is = absurd (cc)
fewer (d ∷ dropped) is = omega arith

all_asked : (core : QmiCore) → core.state.table.dropped ≡ [] → core ≡ hung_up core
all_asked core none = ap (λ (l : List Dropped). let k : QmiCore = record core { state = record core.state { table = record core.state.table { dropped = l } } } in k) none

pub loop-preserved : goal.loop-preserved
loop-preserved c = ap hung_up c.next_dropped.ensures.next.asked ∙ c.loop.invariant

pub loop-smaller : goal.loop-smaller
loop-smaller c =
    let some : is_some (first_dropped c.loop.core.state.table.dropped) ≡ true = ap is_some (sym c.next_dropped.ensures.next.first) ∙ sym c.is_some.ensures ∙ c.loop-test.true in
    subst (λ (l : List Dropped). length l < length c.loop.core.state.table.dropped) (sym (ap (λ (k : QmiCore). k.state.table.dropped) c.next_dropped.ensures.next.asked)) (fewer c.loop.core.state.table.dropped some)

pub returns : goal.returns
returns c = all_asked c.next_dropped.new.self (c.next_dropped.ensures.hung_up (search rules)) ∙ ap hung_up c.next_dropped.ensures.next.asked ∙ c.loop.invariant
