use Rattle.std.proofs.Common.{◌≡◌, ◌<◌, ◌≤◌, false, Some, None, length, set, ap, sym, ◌∙◌, arith, subst}
use Rattle.std.specs.List.{position}
use Rattle.std.proofs.lemmas.Bool.Decides.{nat_tests}
use Rattle.subscriptions.specs.Clients.{is_of, is_too_long, with_list, sets, gathered}
use Rattle.subscriptions.proofs.Clients.{changed_place, changed_none, sets_short}
use Rattle.subscriptions.proofs.Recounting.{AreCounted, counted_few, one_changed, position_within, share_there, shown_few}
use Rattle.subscriptions.proofs.subscriptions.Subscriptions.set.Goals as goal

pub set-requires-clause-there : goal.set-requires-clause-there
set-requires-clause-there c =
    let place : Some c.in-Some.place ≡ position (is_of c.args.conn) c.self.inside.clients.items = sym c.in-Some.is ∙ c.find.ensures ∙ ap (position (is_of c.args.conn)) c.deref.ensures.value in
    let within : c.in-Some.place < length c.self.inside.clients.items = position_within (is_of c.args.conn) c.self.inside.clients.items c.in-Some.place place in
    share_there c.self.inside.clients.items c.in-Some.place c.index_mut-client.result.now c.self.inside.counts c.index_mut-client.ensures.value c.self.invariant.counted within

pub set-requires-clause-few : goal.set-requires-clause-few
set-requires-clause-few c = shown_few c.self.inside.clients.items c.self.inside.counts c.self.invariant.counted c.self.invariant.few c.self.invariant.short

pub write-requires : goal.write-requires
write-requires c =
    let place : Some c.in-Some.place ≡ position (is_of c.args.conn) c.self.inside.clients.items = sym c.in-Some.is ∙ c.find.ensures ∙ ap (position (is_of c.args.conn)) c.deref.ensures.value in
    let table : AreCounted (set c.self.inside.clients.items c.in-Some.place c.set.new.self) c.set.new.counts =
    one_changed (is_of c.args.conn) c.self.inside.clients.items c.in-Some.place c.index_mut-client.result.now c.set.new.self c.self.inside.counts c.set.new.counts c.index_mut-client.ensures.value place
    (record { few = c.self.invariant.few; short = c.self.invariant.short; counted = c.self.invariant.counted }) c.set.ensures.counts
    (subst (λ client. length client.list ≤ 30) (sym c.set.ensures.client) (omega (arith, c.len.ensures.count, c.if-len-gt-LONGEST_CLIENT_LIST.false))) in
    counted_few (set c.self.inside.clients.items c.in-Some.place c.set.new.self) c.set.new.counts table

pub invariant_of-self : goal.invariant_of-self
invariant_of-self c =
    let place : Some c.in-Some.place ≡ position (is_of c.args.conn) c.self.inside.clients.items = sym c.in-Some.is ∙ c.find.ensures ∙ ap (position (is_of c.args.conn)) c.deref.ensures.value in
    let table : AreCounted (set c.self.inside.clients.items c.in-Some.place c.set.new.self) c.set.new.counts =
    one_changed (is_of c.args.conn) c.self.inside.clients.items c.in-Some.place c.index_mut-client.result.now c.set.new.self c.self.inside.counts c.set.new.counts c.index_mut-client.ensures.value place
    (record { few = c.self.invariant.few; short = c.self.invariant.short; counted = c.self.invariant.counted }) c.set.ensures.counts
    (subst (λ client. length client.list ≤ 30) (sym c.set.ensures.client) (omega (arith, c.len.ensures.count, c.if-len-gt-LONGEST_CLIENT_LIST.false))) in
    record {
      few = table.few;
      room = c.self.invariant.room;
      short = table.short;
      counted = table.counted;
      merged = c.write.ensures (gathered (set c.self.inside.clients.items c.in-Some.place c.set.new.self)) table.counted.counted;
    }

pub returns-in-Some-clause-set : goal.returns-in-Some-clause-set
returns-in-Some-clause-set c =
    let short : is_too_long c.args.list.now ≡ false = grind (arith, nat_tests, c.len.ensures.count, c.if-len-gt-LONGEST_CLIENT_LIST.false) in
    let place : Some c.in-Some.place ≡ position (is_of c.args.conn) c.self.inside.clients.items = sym c.in-Some.is ∙ c.find.ensures ∙ ap (position (is_of c.args.conn)) c.deref.ensures.value in
    changed_place c.args.conn (with_list c.args.list.now) c.self.inside.clients.items c.in-Some.place c.index_mut-client.result.now c.set.new.self place c.index_mut-client.ensures.value c.set.ensures.client
    ∙ sets_short c.args.conn c.args.list.now c.self.inside.clients.items short ∙ ap (sets c.args.conn c.args.list.now) c.self.view_is

pub returns-in_default-clause-set : goal.returns-in_default-clause-set
returns-in_default-clause-set c =
    let short : is_too_long c.args.list.now ≡ false = grind (arith, nat_tests, c.len.ensures.count, c.if-len-gt-LONGEST_CLIENT_LIST.false) in
    let nowhere : None ≡ position (is_of c.args.conn) c.args.self.now = c.in_default.ensures ∙ ap (position (is_of c.args.conn)) (c.deref.ensures.value ∙ c.self.view_is) in
    sym (changed_none c.args.conn (with_list c.args.list.now) c.args.self.now nowhere) ∙ sets_short c.args.conn c.args.list.now c.args.self.now short
