use Rattle.std.proofs.Common.{◌≡◌, ◌≤◌, ◌∷◌, ◌++◌, [], not, length, refl, ap, sym, ◌∙◌, subst, arith, List}
use Rattle.std.specs.List.{AllByRecursion}
use Rattle.kit_bytes.specs.Subscriptions.{normal_form}
use Rattle.kit_bytes.proofs.Lists.{all_push}
use Rattle.subscriptions.specs.Clients.{Client, is_of, newcomer, gathered}
use Rattle.subscriptions.specs.Counts.{CountShown}
use Rattle.subscriptions.proofs.NormalForms.{filter_shorter}
use Rattle.subscriptions.proofs.Recounting.{joined_gathered, joined_counted}
use Rattle.subscriptions.proofs.subscriptions.Subscriptions.joined.Goals as goal

pub push_reserved-requires : goal.push_reserved-requires
push_reserved-requires c =
    let fewer : length c.self.inside.clients.items ≤ length c.args.self.now = subst (λ (l : List Client). length l ≤ length c.args.self.now) (sym (c.self.view_is ∙ c.leave.ensures)) (filter_shorter (λ client. not (is_of c.args.conn client)) c.args.self.now) in
    omega (arith, fewer, c.requires, c.self.invariant.room)

pub invariant_of-self : goal.invariant_of-self
invariant_of-self c =
    let fewer : length c.self.inside.clients.items ≤ length c.args.self.now = subst (λ (l : List Client). length l ≤ length c.args.self.now) (sym (c.self.view_is ∙ c.leave.ensures)) (filter_shorter (λ client. not (is_of c.args.conn client)) c.args.self.now) in
    let more : c.push_reserved.new.self.items ≡ c.self.inside.clients.items ++ newcomer c.args.conn ∷ [] = c.push_reserved.ensures.items ∙ ap (λ client. c.self.inside.clients.items ++ client ∷ []) c.new.ensures in
    record {
      few = omega (arith, fewer, c.requires, c.push_reserved.ensures.len);
      room = omega (arith, c.self.invariant.room, c.push_reserved.ensures.capacity);
      short = subst (λ (l : List Client). AllByRecursion (λ client. length client.list ≤ 30) l) (sym more) (all_push (λ client. length client.list ≤ 30) c.self.inside.clients.items (newcomer c.args.conn) c.self.invariant.short (omega arith));
      counted = subst (λ (l : List Client). CountShown l c.self.inside.counts) (sym more) (joined_counted c.self.inside.clients.items (newcomer c.args.conn) c.self.inside.counts refl c.self.invariant.counted);
      merged = c.self.invariant.merged ∙ ap normal_form (sym (ap gathered more ∙ joined_gathered c.self.inside.clients.items (newcomer c.args.conn) refl));
    }
