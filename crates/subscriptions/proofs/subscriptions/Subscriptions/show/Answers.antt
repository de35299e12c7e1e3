use Rattle.std.proofs.Common.{◌≡◌, ◌<◌, ◌≤◌, Some, None, length, set, ap, sym, ◌∙◌, subst}
use Rattle.std.specs.List.{position}
use Rattle.kit_bytes.proofs.Lists.{all_at}
use Rattle.subscriptions.specs.Clients.{is_of, with_shown, shows, gathered}
use Rattle.subscriptions.proofs.Clients.{changed_place, changed_none}
use Rattle.subscriptions.proofs.Recounting.{AreCounted, counted_few, one_changed, position_within, share_fits, share_there}
use Rattle.subscriptions.proofs.subscriptions.Subscriptions.show.Goals as goal

pub show-requires-clause-there : goal.show-requires-clause-there
show-requires-clause-there c =
    let place : Some c.in-Some.place ≡ position (is_of c.args.conn) c.self.inside.clients.items = sym c.in-Some.is ∙ c.find.ensures ∙ ap (position (is_of c.args.conn)) c.deref.ensures.value in
    let within : c.in-Some.place < length c.self.inside.clients.items = position_within (is_of c.args.conn) c.self.inside.clients.items c.in-Some.place place in
    share_there c.self.inside.clients.items c.in-Some.place c.index_mut-client.result.now c.self.inside.counts c.index_mut-client.ensures.value c.self.invariant.counted within

pub show-requires-clause-few : goal.show-requires-clause-few
show-requires-clause-few c =
    let place : Some c.in-Some.place ≡ position (is_of c.args.conn) c.self.inside.clients.items = sym c.in-Some.is ∙ c.find.ensures ∙ ap (position (is_of c.args.conn)) c.deref.ensures.value in
    let within : c.in-Some.place < length c.self.inside.clients.items = position_within (is_of c.args.conn) c.self.inside.clients.items c.in-Some.place place in
    share_fits c.self.inside.clients.items c.in-Some.place c.index_mut-client.result.now c.self.inside.counts c.index_mut-client.ensures.value c.self.invariant.counted (with_shown c.args.shown c.index_mut-client.result.now) within c.self.invariant.few c.self.invariant.short (subst (λ client. length client.list ≤ 30) (sym c.index_mut-client.ensures.value) (all_at (λ client. length client.list ≤ 30) c.self.inside.clients.items c.in-Some.place c.index_mut-client.result.now c.self.invariant.short within))

pub write-requires : goal.write-requires
write-requires c =
    let place : Some c.in-Some.place ≡ position (is_of c.args.conn) c.self.inside.clients.items = sym c.in-Some.is ∙ c.find.ensures ∙ ap (position (is_of c.args.conn)) c.deref.ensures.value in
    let within : c.in-Some.place < length c.self.inside.clients.items = position_within (is_of c.args.conn) c.self.inside.clients.items c.in-Some.place place in
    let table : AreCounted (set c.self.inside.clients.items c.in-Some.place c.show.new.self) c.show.new.counts =
    one_changed (is_of c.args.conn) c.self.inside.clients.items c.in-Some.place c.index_mut-client.result.now c.show.new.self c.self.inside.counts c.show.new.counts c.index_mut-client.ensures.value place
    (record { few = c.self.invariant.few; short = c.self.invariant.short; counted = c.self.invariant.counted }) c.show.ensures.counts
    (subst (λ client. length client.list ≤ 30) (sym c.show.ensures.client) (subst (λ client. length client.list ≤ 30) (sym c.index_mut-client.ensures.value) (all_at (λ client. length client.list ≤ 30) c.self.inside.clients.items c.in-Some.place c.index_mut-client.result.now c.self.invariant.short within))) in
    counted_few (set c.self.inside.clients.items c.in-Some.place c.show.new.self) c.show.new.counts table

pub invariant_of-self : goal.invariant_of-self
invariant_of-self c =
    let place : Some c.in-Some.place ≡ position (is_of c.args.conn) c.self.inside.clients.items = sym c.in-Some.is ∙ c.find.ensures ∙ ap (position (is_of c.args.conn)) c.deref.ensures.value in
    let within : c.in-Some.place < length c.self.inside.clients.items = position_within (is_of c.args.conn) c.self.inside.clients.items c.in-Some.place place in
    let table : AreCounted (set c.self.inside.clients.items c.in-Some.place c.show.new.self) c.show.new.counts =
    one_changed (is_of c.args.conn) c.self.inside.clients.items c.in-Some.place c.index_mut-client.result.now c.show.new.self c.self.inside.counts c.show.new.counts c.index_mut-client.ensures.value place
    (record { few = c.self.invariant.few; short = c.self.invariant.short; counted = c.self.invariant.counted }) c.show.ensures.counts
    (subst (λ client. length client.list ≤ 30) (sym c.show.ensures.client) (subst (λ client. length client.list ≤ 30) (sym c.index_mut-client.ensures.value) (all_at (λ client. length client.list ≤ 30) c.self.inside.clients.items c.in-Some.place c.index_mut-client.result.now c.self.invariant.short within))) in
    record {
      few = table.few;
      room = c.self.invariant.room;
      short = table.short;
      counted = table.counted;
      merged = c.write.ensures (gathered (set c.self.inside.clients.items c.in-Some.place c.show.new.self)) table.counted.counted;
    }

pub returns-in-Some : goal.returns-in-Some
returns-in-Some c =
    let place : Some c.in-Some.place ≡ position (is_of c.args.conn) c.self.inside.clients.items = sym c.in-Some.is ∙ c.find.ensures ∙ ap (position (is_of c.args.conn)) c.deref.ensures.value in
    changed_place c.args.conn (with_shown c.args.shown) c.self.inside.clients.items c.in-Some.place c.index_mut-client.result.now c.show.new.self place c.index_mut-client.ensures.value c.show.ensures.client
    ∙ ap (shows c.args.conn c.args.shown) c.self.view_is

pub returns-in_default : goal.returns-in_default
returns-in_default c =
    let nowhere : None ≡ position (is_of c.args.conn) c.args.self.now = c.in_default.ensures ∙ ap (position (is_of c.args.conn)) (c.deref.ensures.value ∙ c.self.view_is) in
    sym (changed_none c.args.conn (with_shown c.args.shown) c.args.self.now nowhere)
