use Rattle.std.proofs.Common.{◌≡◌, Some, option_map, option_and_then, length, refl, sym, ap, ◌∙◌}
use Rattle.kit_bytes.specs.Subscriptions.{normal_form}
use Rattle.sim_mbim.specs.BasicConnect.{if_few}
use Rattle.sim_mbim.proofs.Events.{taken_is, not_taken}
use Rattle.sim_mbim.proofs.lists.read_list.Goals as goal

pub returns-in_default : goal.returns-in_default
returns-in_default c = ap (λ list. option_map normal_form (option_and_then if_few list)) c.in_default.ensures

pub returns-then-len-eq-LONGEST_LIST : goal.returns-then-len-eq-LONGEST_LIST
returns-then-len-eq-LONGEST_LIST c =
    let full : length c.events.pairs.items ≡ 1920 = search in
    sym (ap (option_map normal_form) (not_taken c.args.buffer.now _ c.events.pairs.items c.events.events _ _ (sym c.in-Some.ensures) c.events.invariant.all c.in-Some-next.ensures.some full))

pub returns : goal.returns
returns c =
    ap Some c.normalize.ensures.items
    ∙ sym (ap (option_map normal_form) (taken_is c.args.buffer.now _ c.events.pairs.items c.events.events (sym c.in-Some.ensures) c.events.invariant.all (c.in_default-next.ensures.none refl).0 c.events.invariant.few))
