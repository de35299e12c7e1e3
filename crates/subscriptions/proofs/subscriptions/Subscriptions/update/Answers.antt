use Rattle.std.proofs.Common.{List, ◌≡◌, ◌<◌, ◌≤◌, refl, Some, None, length, get_or, set, ap, sym, ◌∙◌, subst}
use Rattle.std.specs.List.{AllByRecursion, position}
use Rattle.std.proofs.lemmas.List.{set-get_or, get_or-set_same}
use Rattle.kit_bytes.specs.Subscriptions.{normal_form}
use Rattle.subscriptions.specs.Clients.{Client, is_of, with_both, updates, gathered}
use Rattle.subscriptions.specs.declared.counts.Counted.{Counted}
use Rattle.subscriptions.specs.Counts.{CountShown}
use Rattle.subscriptions.proofs.Clients.{changed_place, changed_none}
use Rattle.subscriptions.proofs.Recounting.{AreCounted, counted_few, one_changed, position_within, share_there, shown_few}
use Rattle.subscriptions.proofs.subscriptions.Subscriptions.update.Goals as goal

pub update-requires-clause-there : goal.update-requires-clause-there
update-requires-clause-there c =
    let place : Some c.in-Some.place ≡ position (is_of c.args.conn) c.self.inside.clients.items = sym c.in-Some.is ∙ c.find.ensures ∙ ap (position (is_of c.args.conn)) c.deref.ensures.value in
    let within : c.in-Some.place < length c.self.inside.clients.items = position_within (is_of c.args.conn) c.self.inside.clients.items c.in-Some.place place in
    share_there c.self.inside.clients.items c.in-Some.place c.index_mut-client.result.now c.self.inside.counts c.index_mut-client.ensures.value c.self.invariant.counted within

pub update-requires-clause-few : goal.update-requires-clause-few
update-requires-clause-few c = shown_few c.self.inside.clients.items c.self.inside.counts c.self.invariant.counted c.self.invariant.few c.self.invariant.short

pub write-requires : goal.write-requires
write-requires c =
    let place : Some c.in-Some.place ≡ position (is_of c.args.conn) c.self.inside.clients.items = sym c.in-Some.is ∙ c.find.ensures ∙ ap (position (is_of c.args.conn)) c.deref.ensures.value in
    let table : AreCounted (set c.self.inside.clients.items c.in-Some.place c.update.new.self) c.update.new.counts =
    one_changed (is_of c.args.conn) c.self.inside.clients.items c.in-Some.place c.index_mut-client.result.now c.update.new.self c.self.inside.counts c.update.new.counts c.index_mut-client.ensures.value place
    (record { few = c.self.invariant.few; short = c.self.invariant.short; counted = c.self.invariant.counted }) c.update.ensures.counts
    (subst (λ client. length client.list ≤ 30) (sym c.update.ensures.client) c.update.ensures.short) in
    counted_few (set c.self.inside.clients.items c.in-Some.place c.update.new.self) c.update.new.counts table

pub invariant_of-self : goal.invariant_of-self
invariant_of-self c =
    let clients : List Client = c.self.inside.clients.items in
    let same = c.update.ensures.same c.if-not-update.true in
    let unchanged : set clients c.in-Some.place c.update.new.self ≡ clients = ap (set clients c.in-Some.place) (same.0 ∙ c.index_mut-client.ensures.value) ∙ set-get_or clients c.in-Some.place c.index_mut-client.result.now in
    record {
      few = subst (λ (l : List Client). length l ≤ 64) (sym unchanged) c.self.invariant.few;
      room = c.self.invariant.room;
      short = subst (λ (l : List Client). AllByRecursion (λ client. length client.list ≤ 30) l) (sym unchanged) c.self.invariant.short;
      counted = subst (λ (l : List Client). CountShown l c.update.new.counts) (sym unchanged) (subst (λ (counts : List Counted). CountShown clients counts) (sym same.1) c.self.invariant.counted);
      merged = c.self.invariant.merged ∙ ap (λ (l : List Client). normal_form (gathered l)) (sym unchanged);
    }

pub invariant_of-self-2 : goal.invariant_of-self-2
invariant_of-self-2 c =
    let place : Some c.in-Some.place ≡ position (is_of c.args.conn) c.self.inside.clients.items = sym c.in-Some.is ∙ c.find.ensures ∙ ap (position (is_of c.args.conn)) c.deref.ensures.value in
    let table : AreCounted (set c.self.inside.clients.items c.in-Some.place c.update.new.self) c.update.new.counts =
    one_changed (is_of c.args.conn) c.self.inside.clients.items c.in-Some.place c.index_mut-client.result.now c.update.new.self c.self.inside.counts c.update.new.counts c.index_mut-client.ensures.value place
    (record { few = c.self.invariant.few; short = c.self.invariant.short; counted = c.self.invariant.counted }) c.update.ensures.counts
    (subst (λ client. length client.list ≤ 30) (sym c.update.ensures.client) c.update.ensures.short) in
    record {
      few = table.few;
      room = c.self.invariant.room;
      short = table.short;
      counted = table.counted;
      merged = c.write.ensures (gathered (set c.self.inside.clients.items c.in-Some.place c.update.new.self)) table.counted.counted;
    }

pub returns-then-not-update-clause-updated : goal.returns-then-not-update-clause-updated
returns-then-not-update-clause-updated c =
    let place : Some c.in-Some.place ≡ position (is_of c.args.conn) c.self.inside.clients.items = sym c.in-Some.is ∙ c.find.ensures ∙ ap (position (is_of c.args.conn)) c.deref.ensures.value in
    changed_place c.args.conn (with_both c.args.shown c.args.list.now) c.self.inside.clients.items c.in-Some.place c.index_mut-client.result.now c.update.new.self place c.index_mut-client.ensures.value c.update.ensures.client
    ∙ ap (updates c.args.conn c.args.shown c.args.list.now) c.self.view_is

pub returns-clause-updated : goal.returns-clause-updated
returns-clause-updated c =
    let place : Some c.in-Some.place ≡ position (is_of c.args.conn) c.self.inside.clients.items = sym c.in-Some.is ∙ c.find.ensures ∙ ap (position (is_of c.args.conn)) c.deref.ensures.value in
    changed_place c.args.conn (with_both c.args.shown c.args.list.now) c.self.inside.clients.items c.in-Some.place c.index_mut-client.result.now c.update.new.self place c.index_mut-client.ensures.value c.update.ensures.client
    ∙ ap (updates c.args.conn c.args.shown c.args.list.now) c.self.view_is

pub returns-in_default : goal.returns-in_default
returns-in_default c =
    let nowhere : None ≡ position (is_of c.args.conn) c.args.self.now = c.in_default.ensures ∙ ap (position (is_of c.args.conn)) (c.deref.ensures.value ∙ c.self.view_is) in
    record { updated = sym (changed_none c.args.conn (with_both c.args.shown c.args.list.now) c.args.self.now nowhere); same = λ is. refl; other = λ is. absurd (cc) }

pub returns-clause-other : goal.returns-clause-other
returns-clause-other c = λ is same.
    let clients : List Client = c.self.inside.clients.items in
    let place : Some c.in-Some.place ≡ position (is_of c.args.conn) clients = sym c.in-Some.is ∙ c.find.ensures ∙ ap (position (is_of c.args.conn)) c.deref.ensures.value in
    let within : c.in-Some.place < length clients = position_within (is_of c.args.conn) clients c.in-Some.place place in
    let there : get_or (set clients c.in-Some.place c.update.new.self) c.in-Some.place c.index_mut-client.result.now ≡ c.update.new.self = get_or-set_same clients c.in-Some.place c.update.new.self c.index_mut-client.result.now within in
    c.update.ensures.other c.if-not-update.false (sym there ∙ ap (λ (l : List Client). get_or l c.in-Some.place c.index_mut-client.result.now) (same ∙ sym c.self.view_is) ∙ sym c.index_mut-client.ensures.value)
