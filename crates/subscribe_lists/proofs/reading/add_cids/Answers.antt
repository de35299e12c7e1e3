use Rattle.std.proofs.Common.{◌≡◌, ℕ, ◌∷◌, ◌++◌, length, drop, sym, ◌∙◌, ap, arith, Some}
use Rattle.std.proofs.lemmas.Slice.{between_to_end}
use Rattle.kit_bytes.specs.Subscriptions.{Pair}
use Rattle.mbim_services.specs.SubscribeLists.{numbers_of}
use Rattle.subscribe_lists.specs.ClientLists.{singles}
use Rattle.subscribe_lists.proofs.Orders.{number_first}
use Rattle.subscribe_lists.proofs.Adding.{adds_no_cid, adds_cid, cid_shorter, long_with, fits_length}
use Rattle.subscribe_lists.proofs.reading.add_cids.Goals as goal

pub loop-left-init : goal.loop-left-init
loop-left-init c = record { adds = adds_no_cid c.args.uuid (numbers_of c.args.bytes.now) c.args.into.now c.requires.normal; few = c.requires.few }

pub returns-then-not-add_cid-clause-few : goal.returns-then-not-add_cid-clause-few
returns-then-not-add_cid-clause-few c =
    let p : Pair = (c.args.uuid, Some c.u32_at.result) in
    let first : numbers_of c.loop-left.left.now ≡ c.u32_at.result ∷ numbers_of (drop 4 c.loop-left.left.now) = number_first c.loop-left.left.now c.loop-left-test.true ∙ ap (λ (n : ℕ). n ∷ numbers_of (drop 4 c.loop-left.left.now)) (sym c.u32_at.ensures) in
    long_with 30 (p ∷ c.loop-left.into) (singles c.args.uuid (numbers_of c.args.bytes.now) ++ c.args.into.now) (cid_shorter c.args.uuid c.u32_at.result c.loop-left.invariant.adds first) (sym c.if-not-add_cid.true ∙ c.add_cid.ensures.few)

pub loop-left-preserved : goal.loop-left-preserved
loop-left-preserved c =
    let p : Pair = (c.args.uuid, Some c.u32_at.result) in
    let first : numbers_of c.loop-left.left.now ≡ c.u32_at.result ∷ numbers_of (drop 4 c.loop-left.left.now) = number_first c.loop-left.left.now c.loop-left-test.true ∙ ap (λ (n : ℕ). n ∷ numbers_of (drop 4 c.loop-left.left.now)) (sym c.u32_at.ensures) in
    let new = c.add_cid.ensures.list c.if-not-add_cid.false in
    let behind = between_to_end c.loop-left.left.now 4 (length c.loop-left.left.now) (omega arith) in
    record {
      adds = rw (behind) (adds_cid c.args.uuid c.u32_at.result c.loop-left.invariant.adds first new);
      few = fits_length 30 (p ∷ c.loop-left.into) (sym c.if-not-add_cid.false ∙ c.add_cid.ensures.few) new;
    }
