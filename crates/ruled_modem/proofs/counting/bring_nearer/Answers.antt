use Rattle.std.proofs.Common.{◌≡◌, ◌∙◌, ap, sym, length, set, get_or, List, arith}
use Rattle.modem_rules.specs.declared.rules.FaultRule.{FaultRule}
use Rattle.ruled_modem.specs.Keeping.{nearer}
use Rattle.served_sim.proofs.Counting.{changed_to, changed_to-none, changed_to-next, changed_to-length, changed_to-all, written}
use Rattle.ruled_modem.proofs.counting.bring_nearer.Goals as goal

pub loop-fault-init : goal.loop-fault-init
loop-fault-init c = c.deref_mut-fault-items.ensures.value ∙ changed_to-none (nearer 1) c.args.faults.now.items

pub loop-fault-preserved : goal.loop-fault-preserved
loop-fault-preserved c =
    let items = c.args.faults.now.items in
    let i = c.loop-fault.fault-index in
    let x = c.fault-item.result in
    let long = changed_to-length (nearer 1) i items in
    ap (λ (l : List FaultRule). set l i c.nearer.result) c.loop-fault.invariant
    ∙ ap (λ (r : FaultRule). set (changed_to (nearer 1) i items) i r) (c.nearer.ensures ∙ ap (nearer 1) (sym c.fault-item.is))
    ∙ changed_to-next (nearer 1) i items x (omega (arith, c.loop-fault-test.true, ap (λ (l : List FaultRule). length l) c.loop-fault.invariant, long))
    (c.fault-item.is ∙ ap (λ (l : List FaultRule). get_or l i x) c.loop-fault.invariant)

pub returns : goal.returns
returns c =
    let items = c.args.faults.now.items in
    let i = c.loop-fault.fault-index in
    let long : length c.loop-fault.fault-items ≡ length items = ap (λ (l : List FaultRule). length l) c.loop-fault.invariant ∙ changed_to-length (nearer 1) i items in
    let room = ap (λ (l : List FaultRule). length l) c.deref_mut-fault-items.ensures.value in
    written c.loop-fault.fault-items items c.args.faults.now.len long (omega (arith, long, room, c.deref_mut-fault-items.ensures.len))
    ∙ c.loop-fault.invariant ∙ changed_to-all (nearer 1) i items (omega (arith, long, c.loop-fault-test.false))
