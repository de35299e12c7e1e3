use Rattle.std.proofs.Common.{ap, ◌∙◌, length, arith, List, ℕ}
use Rattle.std.specs.List.{insert}
use Rattle.number_space.specs.Index.{Indexed, beside}
use Rattle.number_space.proofs.Beside.{length_beside, insert_beside}
use Rattle.number_space.proofs.by_number.Index.put.Goals as goal

pub put-requires-clause-place : goal.put-requires-clause-place
put-requires-clause-place c = omega (arith, c.requires.place, length_beside c.self.inside.numbers.items c.self.inside.keys.items c.self.invariant, ap (λ (i : Indexed). length i.entries) c.self.view_is)

pub put-requires-clause-room : goal.put-requires-clause-room
put-requires-clause-room c = omega (arith, c.requires.room, length_beside c.self.inside.numbers.items c.self.inside.keys.items c.self.invariant, ap (λ (i : Indexed). length i.entries) c.self.view_is, ap (λ (i : Indexed). i.capacity) c.self.view_is)

pub put_at-requires-clause-place : goal.put_at-requires-clause-place
put_at-requires-clause-place c = omega (arith, c.requires.place, c.self.invariant, length_beside c.self.inside.numbers.items c.self.inside.keys.items c.self.invariant, ap (λ (i : Indexed). length i.entries) c.self.view_is)

pub put_at-requires-clause-room : goal.put_at-requires-clause-room
put_at-requires-clause-room c = omega (arith, c.requires.room, c.self.invariant, length_beside c.self.inside.numbers.items c.self.inside.keys.items c.self.invariant, ap (λ (i : Indexed). length i.entries) c.self.view_is, ap (λ (i : Indexed). i.capacity) c.self.view_is)

pub returns-clause-entries : goal.returns-clause-entries
returns-clause-entries c =
    ap (λ (l : List ℕ). beside l c.put_at.new.queue.items) c.put.ensures.items
    ∙ ap (beside (insert c.self.inside.numbers.items c.args.place c.args.number)) c.put_at.ensures.items
    ∙ insert_beside c.self.inside.numbers.items c.self.inside.keys.items c.args.place c.args.number c.args.key c.self.invariant
    ∙ ap (λ (i : Indexed). insert i.entries c.args.place (record { number = c.args.number; key = c.args.key })) c.self.view_is
