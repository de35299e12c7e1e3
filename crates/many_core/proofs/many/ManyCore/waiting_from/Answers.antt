use Rattle.std.proofs.Common.{◌≡◌, ℕ, ◌<◌, length, sym, ap, ◌∙◌, subst, arith}
use Rattle.many_seats.proofs.Names.{first_of}
use Rattle.many_core.specs.Core.{ManyCore, has_waiting}
use Rattle.many_core.proofs.Inside.{PlacesFit}
use Rattle.many_core.proofs.Waits.{NoneOfFirst, NoneUpTo, first_here, nobody_first, still_first, of_one_more, of_all}
use Rattle.many_core.proofs.many.ManyCore.waiting_from.Goals as goal

pub loop-device-preserved : goal.loop-device-preserved
loop-device-preserved c =
    let x = c.args.self.now in
    let l = c.loop-device in
    let next = c.first_waiting_at-first in
    let cores : length x.core.cores ≡ c.count.result = sym (c.count.ensures ∙ ap (λ (v : ManyCore). length v.core.cores) c.self.view_is) in
    record {
      devices = omega (arith, c.loop-device-test.true, cores);
      behind = next.ensures.within.0;
      within = omega (arith, next.ensures.within.1, l.invariant.within);
      found = still_first x.core.cores x.core.seats c.args.from l.first next.result next.ensures.within.1 next.ensures.found l.invariant.found;
      none = of_one_more x.core.cores x.core.seats c.args.from l.device l.first next.result next.ensures.within.1 l.invariant.none next.ensures.others;
    }

pub returns-then-first-present-clause-place : goal.returns-then-first-present-clause-place
returns-then-first-present-clause-place c =
    let x = c.args.self.now in
    let l = c.loop-device in
    let within : l.first < length x.core.seats = omega (arith, c.if-first-present.true, c.present.ensures, ap (λ (v : ManyCore). length v.core.seats) c.self.view_is) in
    let all : l.device ≡ length x.core.cores = omega (arith, c.loop-device-test.false, c.count.ensures, ap (λ (v : ManyCore). length v.core.cores) c.self.view_is, l.invariant.devices) in
    let fit : PlacesFit (length x.core.cores) x.core.seats =
    subst (λ (v : ManyCore). PlacesFit (length v.core.cores) v.core.seats) c.self.view_is (subst (λ (n : ℕ). PlacesFit n c.self.inside.seats.seats) (sym c.self.invariant.count) c.self.invariant.places)
    in
    let none : NoneUpTo (has_waiting x.core.cores) x.core.seats c.args.from l.first =
    of_all x.core.cores x.core.seats c.args.from l.first l.invariant.within fit (subst (λ (n : ℕ). NoneOfFirst x.core.cores x.core.seats c.args.from n l.first) all l.invariant.none)
    in
    let found = first_of x.core.seats l.first within in
    first_here (has_waiting x.core.cores) x.core.seats c.args.from l.first found.0 l.invariant.behind within none found.1 (l.invariant.found within found.0 found.1)

pub returns-else-first-present-clause-place : goal.returns-else-first-present-clause-place
returns-else-first-present-clause-place c =
    let x = c.args.self.now in
    let l = c.loop-device in
    let all : l.device ≡ length x.core.cores = omega (arith, c.loop-device-test.false, c.count.ensures, ap (λ (v : ManyCore). length v.core.cores) c.self.view_is, l.invariant.devices) in
    let fit : PlacesFit (length x.core.cores) x.core.seats =
    subst (λ (v : ManyCore). PlacesFit (length v.core.cores) v.core.seats) c.self.view_is (subst (λ (n : ℕ). PlacesFit n c.self.inside.seats.seats) (sym c.self.invariant.count) c.self.invariant.places)
    in
    let none : NoneUpTo (has_waiting x.core.cores) x.core.seats c.args.from l.first =
    of_all x.core.cores x.core.seats c.args.from l.first l.invariant.within fit (subst (λ (n : ℕ). NoneOfFirst x.core.cores x.core.seats c.args.from n l.first) all l.invariant.none)
    in
    nobody_first (has_waiting x.core.cores) x.core.seats c.args.from l.first c.requires (omega (arith, c.if-first-present.false, c.present.ensures, ap (λ (v : ManyCore). length v.core.seats) c.self.view_is)) none

pub returns-then-has_waiting_at-clause-place : goal.returns-then-has_waiting_at-clause-place
returns-then-has_waiting_at-clause-place c =
    let x = c.args.self.now in
    let within : c.args.from < length x.core.seats = c.has_waiting_at.ensures.within c.if-has_waiting_at.true in
    let found = first_of x.core.seats c.args.from within in
    first_here (has_waiting x.core.cores) x.core.seats c.args.from c.args.from found.0 (omega arith) within (λ k seat low high at. absurd (omega (arith, low, high))) found.1 (c.has_waiting_at.ensures.waits c.if-has_waiting_at.true found.0 found.1)
