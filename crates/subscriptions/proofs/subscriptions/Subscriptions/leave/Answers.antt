use Rattle.std.proofs.Common.{◌≡◌, ◌≤◌, not, length, ap, sym, ◌∙◌, subst, arith, List, rules}
use Rattle.std.specs.List.{AllByRecursion}
use Rattle.std.proofs.lemmas.Fn.{filter_same}
use Rattle.kit_bytes.proofs.Lists.{all_filter}
use Rattle.subscriptions.specs.Clients.{Client, is_of, leaves, gathered}
use Rattle.subscriptions.specs.Counts.{CountShown}
use Rattle.subscriptions.proofs.NormalForms.{filter_shorter}
use Rattle.subscriptions.proofs.Recounting.{shown_few}
use Rattle.subscriptions.proofs.subscriptions.Subscriptions.leave.Goals as goal

pub write-requires : goal.write-requires
write-requires c =
    let clients : List Client = c.self.inside.clients.items in
    let fewer = filter_shorter (λ client. not (is_of c.args.conn client)) clients in
    shown_few (leaves c.args.conn clients) c.uncount.new.counts (subst (λ (l : List Client). CountShown (leaves c.args.conn l) c.uncount.new.counts) c.deref.ensures.value c.uncount.ensures)
    (omega (arith, fewer, c.self.invariant.few))
    (all_filter (λ client. length client.list ≤ 30) (λ client. not (is_of c.args.conn client)) clients c.self.invariant.short)

pub invariant_of-self : goal.invariant_of-self
invariant_of-self c =
    let left : c.retain.new.self.items ≡ leaves c.args.conn c.self.inside.clients.items = filter_same _ _ _ (λ x b f' k. search rules) _ _ c.retain.ensures.filtered in
    let counted : CountShown c.retain.new.self.items c.uncount.new.counts =
    subst (λ (l : List Client). CountShown l c.uncount.new.counts) (sym left) (subst (λ (l : List Client). CountShown (leaves c.args.conn l) c.uncount.new.counts) c.deref.ensures.value c.uncount.ensures)
    in
    record {
      few =
          subst (λ (l : List Client). length l ≤ 64) (sym left) (let fewer = filter_shorter (λ client. not (is_of c.args.conn client)) c.self.inside.clients.items in omega (arith, fewer, c.self.invariant.few));
      room = omega (arith, c.self.invariant.room, c.retain.ensures.capacity);
      short =
          subst (λ (l : List Client). AllByRecursion (λ client. length client.list ≤ 30) l) (sym left)
          (all_filter (λ client. length client.list ≤ 30) (λ client. not (is_of c.args.conn client)) c.self.inside.clients.items c.self.invariant.short);
      counted = counted;
      merged = c.write.ensures (gathered c.retain.new.self.items) counted.counted;
    }

pub returns : goal.returns
returns c = filter_same _ _ _ (λ x b f' k. search rules) _ _ c.retain.ensures.filtered ∙ ap (leaves c.args.conn) c.self.view_is
