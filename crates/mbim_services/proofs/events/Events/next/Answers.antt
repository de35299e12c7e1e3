use Rattle.std.proofs.Common.{◌≡◌, ◌<◌, ◌≤◌, [], length, refl, arith}
use Rattle.mbim_services.specs.EventLists.{cids_in}
use Rattle.mbim_services.specs.SubscribeLists.{numbers_of}
use Rattle.kit_bytes.specs.Subscriptions.{pairs_of}
use Rattle.mbim_services.proofs.References.{references_none, pairs-taken, pairs-missing}
use Rattle.mbim_services.proofs.events.Events.next.Goals as goal

pub invariant_of-self : goal.invariant_of-self
invariant_of-self c = c.self.invariant

pub returns-in-Some-clause-some : goal.returns-in-Some-clause-some
returns-in-Some-clause-some c = rw (← c.self.view_is, c.in-Some.ensures.some) refl

pub returns-then-self-lt8-clause-none : goal.returns-then-self-lt8-clause-none
returns-then-self-lt8-clause-none c =
    let none : numbers_of c.self.inside.cids.now ≡ [] = c.in_default.ensures.none refl in
    let short : length c.self.inside.references.now < 8 = omega arith in
    let empty : c.args.self.now ≡ [] = rw (← c.self.view_is, none, references_none c.self.inside.buffer.now c.self.inside.references.now short) refl in
    λ _. (empty, empty)

pub returns-in_err-range-clause-none : goal.returns-in_err-range-clause-none
returns-in_err-range-clause-none c =
    let long : 8 ≤ length c.self.inside.references.now = omega arith in
    λ _. absurd (pairs-missing c.self.inside.buffer.now c.self.inside.references.now long c.in_err-range.ensures.pairs c.self.invariant)

pub returns-in_default-first_number-clause-some : goal.returns-in_default-first_number-clause-some
returns-in_default-first_number-clause-some c =
    let none : numbers_of c.self.inside.cids.now ≡ [] = c.in_default.ensures.none refl in
    let long : 8 ≤ length c.self.inside.references.now = omega arith in
    let taken =
    pairs-taken c.self.inside.buffer.now c.self.inside.references.now (pairs_of c.in_ok-range.range.uuid (cids_in c.self.inside.buffer.now c.in_ok-range.range)) long c.in_ok-range.ensures.pairs c.self.invariant in
    rw (← c.self.view_is, none, taken.1, c.in_default-first_number.ensures.none refl) refl

pub invariant_of-self-in_default-first_number : goal.invariant_of-self-in_default-first_number
invariant_of-self-in_default-first_number c =
    let long : 8 ≤ length c.self.inside.references.now = omega arith in
    (pairs-taken c.self.inside.buffer.now c.self.inside.references.now _ long c.in_ok-range.ensures.pairs c.self.invariant).0

pub returns-clause-some : goal.returns-clause-some
returns-clause-some c =
    let none : numbers_of c.self.inside.cids.now ≡ [] = c.in_default.ensures.none refl in
    let long : 8 ≤ length c.self.inside.references.now = omega arith in
    let taken =
    pairs-taken c.self.inside.buffer.now c.self.inside.references.now (pairs_of c.in_ok-range.range.uuid (cids_in c.self.inside.buffer.now c.in_ok-range.range)) long c.in_ok-range.ensures.pairs c.self.invariant in
    rw (← c.self.view_is, none, taken.1, c.in-Some-first_number.ensures.some) refl

pub invariant_of-self-2 : goal.invariant_of-self-2
invariant_of-self-2 c =
    let long : 8 ≤ length c.self.inside.references.now = omega arith in
    (pairs-taken c.self.inside.buffer.now c.self.inside.references.now _ long c.in_ok-range.ensures.pairs c.self.invariant).0
