use Rattle.std.proofs.Common.{rules}
use Rattle.std.proofs.lemmas.List.Sorted.{answers_always}
use Rattle.sms_pdu.specs.Entries.{before}
use Rattle.sms_pdu.proofs.Groups.{before_is_order, entry_of, keeps_group}
use Rattle.sms_pdu.proofs.entries.sort_by_group.Goals as goal

pub returns-clause-sorted : goal.returns-clause-sorted
returns-clause-sorted c = c.in_ok-sort_by.ensures.sorted before before_is_order (answers_always _ _ _ (λ f a r g h. search rules))

pub returns-clause-kept : goal.returns-clause-kept
returns-clause-kept c = λ pdu. (
    let old = c.args.entries.now.items in
    let new = c.sort_by.new.self.items in
    keeps_group pdu old new (c.sort_by.ensures.stable before before_is_order (answers_always _ _ _ (λ f a r g h. search rules)) (entry_of pdu old new))
    )
