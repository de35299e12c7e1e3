use Rattle.std.proofs.Common.{◌≡◌, ◌≤◌, ◌<◌, ◌∷◌, true, false, not, filter, length, sym, ◌∙◌, subst, arith, List}
use Rattle.kit_bytes.specs.Subscriptions.{Pair}
use Rattle.subscriptions.specs.Lists.{IsNormal, covers, fits, pushed}
use Rattle.subscriptions.proofs.NormalForms.{normal_again}
use Rattle.subscriptions.proofs.Pushing.{covered_is, room_is, covered_fits, covered_stays, full_fits, full_stays, room_left, room_length, room_fits, room_pushed}
use Rattle.subscriptions.proofs.pair_list.PairList.push.Goals as goal

pub returns-then-is_covered-clause-fits : goal.returns-then-is_covered-clause-fits
returns-then-is_covered-clause-fits c =
    subst (λ (l : List Pair). true ≡ fits 1920 ((c.args.uuid, c.args.cid) ∷ l)) c.self.view_is (sym (covered_fits 1920 c.self.inside.pairs.items (c.args.uuid, c.args.cid) c.self.invariant.normal c.self.invariant.few (covered_is (c.args.uuid, c.args.cid) c.deref.ensures.value c.is_covered.ensures c.if-is_covered.true)))

pub returns-then-is_covered-clause-pushed : goal.returns-then-is_covered-clause-pushed
returns-then-is_covered-clause-pushed c =
    subst (λ (l : List Pair). l ≡ pushed 1920 (c.args.uuid, c.args.cid) l) c.self.view_is (sym (covered_stays 1920 c.self.inside.pairs.items (c.args.uuid, c.args.cid) c.self.invariant.normal c.self.invariant.few (covered_is (c.args.uuid, c.args.cid) c.deref.ensures.value c.is_covered.ensures c.if-is_covered.true)))

pub returns-then-not-has_room-clause-fits : goal.returns-then-not-has_room-clause-fits
returns-then-not-has_room-clause-fits c =
    subst (λ (l : List Pair). false ≡ fits 1920 ((c.args.uuid, c.args.cid) ∷ l)) c.self.view_is (sym (full_fits 1920 c.self.inside.pairs.items (c.args.uuid, c.args.cid) c.self.invariant.normal c.self.invariant.few (covered_is (c.args.uuid, c.args.cid) c.deref.ensures.value c.is_covered.ensures c.if-is_covered.false) (room_is 1920 (c.args.uuid, c.args.cid) c.deref-2.ensures.value c.has_room.ensures c.if-not-has_room.true)))

pub returns-then-not-has_room-clause-pushed : goal.returns-then-not-has_room-clause-pushed
returns-then-not-has_room-clause-pushed c =
    subst (λ (l : List Pair). l ≡ pushed 1920 (c.args.uuid, c.args.cid) l) c.self.view_is (sym (full_stays 1920 c.self.inside.pairs.items (c.args.uuid, c.args.cid) c.self.invariant.normal c.self.invariant.few (covered_is (c.args.uuid, c.args.cid) c.deref.ensures.value c.is_covered.ensures c.if-is_covered.false) (room_is 1920 (c.args.uuid, c.args.cid) c.deref-2.ensures.value c.has_room.ensures c.if-not-has_room.true)))

pub add-requires-clause-room : goal.add-requires-clause-room
add-requires-clause-room c =
    let left : length (filter (λ q. not (covers (c.args.uuid, c.args.cid) q)) c.self.inside.pairs.items) < 1920 = room_left 1920 c.self.inside.pairs.items (c.args.uuid, c.args.cid) c.self.invariant.normal c.self.invariant.few (covered_is (c.args.uuid, c.args.cid) c.deref.ensures.value c.is_covered.ensures c.if-is_covered.false) (room_is 1920 (c.args.uuid, c.args.cid) c.deref-2.ensures.value c.has_room.ensures c.if-not-has_room.false) in
    omega (arith, left, c.self.invariant.room)

pub invariant_of-self : goal.invariant_of-self
invariant_of-self c =
    record {
      normal = subst IsNormal (sym c.add.ensures.items) (normal_again ((c.args.uuid, c.args.cid) ∷ c.self.inside.pairs.items));
      few = subst (λ (l : List Pair). length l ≤ 1920) (sym c.add.ensures.items) (room_length 1920 c.self.inside.pairs.items (c.args.uuid, c.args.cid) c.self.invariant.normal c.self.invariant.few (covered_is (c.args.uuid, c.args.cid) c.deref.ensures.value c.is_covered.ensures c.if-is_covered.false) (room_is 1920 (c.args.uuid, c.args.cid) c.deref-2.ensures.value c.has_room.ensures c.if-not-has_room.false));
      room = omega (arith, c.self.invariant.room, c.add.ensures.capacity);
    }

pub returns-clause-fits : goal.returns-clause-fits
returns-clause-fits c =
    subst (λ (l : List Pair). true ≡ fits 1920 ((c.args.uuid, c.args.cid) ∷ l)) c.self.view_is (sym (room_fits 1920 c.self.inside.pairs.items (c.args.uuid, c.args.cid) c.self.invariant.normal c.self.invariant.few (covered_is (c.args.uuid, c.args.cid) c.deref.ensures.value c.is_covered.ensures c.if-is_covered.false) (room_is 1920 (c.args.uuid, c.args.cid) c.deref-2.ensures.value c.has_room.ensures c.if-not-has_room.false)))

pub returns-clause-pushed : goal.returns-clause-pushed
returns-clause-pushed c =
    subst (λ (l : List Pair). c.add.new.pairs.items ≡ pushed 1920 (c.args.uuid, c.args.cid) l) c.self.view_is (c.add.ensures.items ∙ sym (room_pushed 1920 c.self.inside.pairs.items (c.args.uuid, c.args.cid) c.self.invariant.normal c.self.invariant.few (covered_is (c.args.uuid, c.args.cid) c.deref.ensures.value c.is_covered.ensures c.if-is_covered.false) (room_is 1920 (c.args.uuid, c.args.cid) c.deref-2.ensures.value c.has_room.ensures c.if-not-has_room.false)))
