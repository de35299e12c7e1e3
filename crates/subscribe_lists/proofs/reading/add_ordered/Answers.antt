use Rattle.std.proofs.Common.{◌++◌, ◌+◌, sym, ◌∙◌, ◌≡◌, ap, subst, List, ℕ, true}
use Rattle.kit_bytes.specs.Subscriptions.{Pair, Subscription, normal_form}
use Rattle.mbim_services.specs.EventLists.{pairs_in}
use Rattle.mbim_services.specs.SubscribeLists.{numbers_of}
use Rattle.subscriptions.specs.Lists.{fits}
use Rattle.subscribe_lists.specs.declared.sweep.Stretch.{Stretch}
use Rattle.subscribe_lists.specs.ClientLists.{singles}
use Rattle.subscribe_lists.specs.Structures.{cids_in, events_at}
use Rattle.subscribe_lists.proofs.Adding.{reads_nothing, reads_event, event_shorter, long_with, fits_length}
use Rattle.subscribe_lists.proofs.Sweeping.{IsRead, is_left, nothing_read, still_read, now_read}
use Rattle.subscribe_lists.proofs.reading.add_ordered.Goals.{then-is_further, else-is_further}
use Rattle.subscribe_lists.proofs.reading.add_ordered.Goals as goal

pub loop-place-init : goal.loop-place-init
loop-place-init c = record {
  reads = reads_nothing (events_at c.args.buffer.now c.args.order.now) c.args.into.now c.requires.services;
  few = c.requires.few;
  read = nothing_read c.args.buffer.now (events_at c.args.buffer.now c.args.order.now) c.nil.result;
}

pub cids_at-requires : goal.cids_at-requires
cids_at-requires c =
    let is = is_left c.args.buffer.now c.args.order.now c.loop-place.place (0, 0) c.stretch_at-stretch.result c.loop-place.furthest c.without-left.result c.loop-place-test.true c.requires.whole
    c.stretch_at-stretch.ensures.uuid c.stretch_at-stretch.ensures.start c.stretch_at-stretch.ensures.end c.loop-place.invariant.read c.without-left.ensures in
    is.left_whole

pub add_cids-requires : goal.add_cids-requires
add_cids-requires c = record { normal = c.loop-place.invariant.reads.adds.normal; few = c.loop-place.invariant.few }

pub returns-then-not-add_cids-clause-few : goal.returns-then-not-add_cids-clause-few
returns-then-not-add_cids-clause-few c =
    let is = is_left c.args.buffer.now c.args.order.now c.loop-place.place (0, 0) c.stretch_at-stretch.result c.loop-place.furthest c.without-left.result c.loop-place-test.true c.requires.whole
    c.stretch_at-stretch.ensures.uuid c.stretch_at-stretch.ensures.start c.stretch_at-stretch.ensures.end c.loop-place.invariant.read c.without-left.ensures in
    let events : List Subscription = events_at c.args.buffer.now c.args.order.now in
    let left : List ℕ = cids_in c.args.buffer.now c.without-left.result in
    let long = sym c.if-not-add_cids.true ∙ c.add_cids.ensures.few ∙ ap (λ (l : List ℕ). fits 30 (singles c.without-left.result.uuid (numbers_of l) ++ c.loop-place.into)) c.cids_at.ensures in
    long_with 30 (singles c.without-left.result.uuid left ++ c.loop-place.into) (pairs_in events) (event_shorter events c.loop-place.place c.without-left.result.uuid left c.loop-place.invariant.reads is.unread) long

pub loop-place-preserved : goal.loop-place-preserved
loop-place-preserved c =
    let is = is_left c.args.buffer.now c.args.order.now c.loop-place.place (0, 0) c.stretch_at-stretch.result c.loop-place.furthest c.without-left.result c.loop-place-test.true c.requires.whole
    c.stretch_at-stretch.ensures.uuid c.stretch_at-stretch.ensures.start c.stretch_at-stretch.ensures.end c.loop-place.invariant.read c.without-left.ensures in
    let events : List Subscription = events_at c.args.buffer.now c.args.order.now in
    let left : List ℕ = cids_in c.args.buffer.now c.without-left.result in
    let coming : List Pair = singles c.without-left.result.uuid left ++ c.loop-place.into in
    let few : true ≡ fits 30 coming = sym c.if-not-add_cids.false ∙ c.add_cids.ensures.few ∙ ap (λ (l : List ℕ). fits 30 (singles c.without-left.result.uuid (numbers_of l) ++ c.loop-place.into)) c.cids_at.ensures in
    let new : c.add_cids.new.into ≡ normal_form coming = c.add_cids.ensures.list c.if-not-add_cids.false ∙ ap (λ (l : List ℕ). normal_form (singles c.without-left.result.uuid (numbers_of l) ++ c.loop-place.into)) c.cids_at.ensures in
    let read : IsRead c.args.buffer.now events (c.loop-place.place + 1) c.if-is_further.furthest = elim c.if-is_further.branch [
      | then-is_further w ↦ subst (λ (s : Stretch). IsRead c.args.buffer.now events (c.loop-place.place + 1) s) (sym w.furthest-is) (now_read c.args.buffer.now events c.loop-place.place c.stretch_at-stretch.result is.there is.whole)
      | else-is_further w ↦ subst (λ (s : Stretch). IsRead c.args.buffer.now events (c.loop-place.place + 1) s) (sym w.furthest-is) (still_read c.args.buffer.now events c.loop-place.place c.stretch_at-stretch.result is.there c.loop-place.furthest c.loop-place.invariant.read)
    ] in
    record {
      reads = reads_event events c.loop-place.place c.without-left.result.uuid left c.loop-place.invariant.reads is.unread new;
      few = fits_length 30 coming few new;
      read = read;
    }
