use Rattle.std.proofs.Common.{◌≡◌, false, ap, sym, ◌∙◌, subst, refl, arith, option_map, get_or, set, List, [], is_some}
use Rattle.std.proofs.lemmas.List.Quantifiers.{position-Some}
use Rattle.kit_bytes.proofs.Lists.{find_none}
use Rattle.number_space.specs.declared.space.Row.{Row}
use Rattle.number_space.specs.Chain.{values}
use Rattle.number_space.specs.Index.{IsFirstDue}
use Rattle.number_space.specs.Table.{Table, first_due, is_due, expires, IsSound, NoneIsDueBefore}
use Rattle.number_space.proofs.InUse.{none_due}
use Rattle.number_space.proofs.Tables.{with_rows, expires_none, expires_at, due_at, sound_expires, none_due_expires}
use Rattle.number_space.proofs.Index.{index_set, values_set}
use Rattle.number_space.proofs.Walks.{row_read}
use Rattle.number_space.proofs.Waiting.{counted_settled}
use Rattle.number_space.proofs.space.Space.expire.Goals as goal

pub returns-then-now-self-clause-due : goal.returns-then-now-self-clause-due
returns-then-now-self-clause-due g c =
    ap (option_map (λ r. (r.conn, r.note)))
    (sym (none_due c.args.now c.self.inside.earliest (values c.self.inside.rows.entries) c.if-now-self.true c.self.invariant.none_due) ∙ ap (λ (t : Table g.row.T.Denot). first_due c.args.now t.rows) c.self.view_is)

pub returns-then-now-self-clause-table : goal.returns-then-now-self-clause-table
returns-then-now-self-clause-table g c =
    subst (λ (t : Table g.row.T.Denot). t ≡ expires c.args.now t) c.self.view_is
    (expires_none c.args.now _ (none_due c.args.now c.self.inside.earliest (values c.self.inside.rows.entries) c.if-now-self.true c.self.invariant.none_due))

pub returns-then-now-self-clause-stands : goal.returns-then-now-self-clause-stands
returns-then-now-self-clause-stands g c = λ limit top calls stands. returns-then-now-self-clause-table g c ∙ ap (expires c.args.now) stands

pub returns-in_default-clause-due : goal.returns-in_default-clause-due
returns-in_default-clause-due g c =
    ap (option_map (λ r. (r.conn, r.note)))
    (sym (find_none (is_due c.args.now) (values c.self.inside.rows.entries) (c.first_due.ensures.none (ap is_some c.in_default.is))) ∙ ap (λ (t : Table g.row.T.Denot). first_due c.args.now t.rows) c.self.view_is)

pub returns-in_default-clause-table : goal.returns-in_default-clause-table
returns-in_default-clause-table g c = expires_none c.args.now _ (find_none (is_due c.args.now) (values c.self.inside.rows.entries) (c.first_due.ensures.none (ap is_some c.in_default.is))) ∙ ap (expires c.args.now) c.self.view_is

pub returns-in_default-clause-stands : goal.returns-in_default-clause-stands
returns-in_default-clause-stands g c = λ limit top calls stands. returns-in_default-clause-table g c ∙ ap (expires c.args.now) stands

pub at-requires : goal.at-requires
at-requires g c =
    let due : IsFirstDue c.args.now c.self.inside.rows.entries c.in-Some.key = rw c.in-Some.is at c.first_due.ensures.due in
    record { place = due.place; there = due.there }

pub set-requires : goal.set-requires
set-requires g c =
    let due : IsFirstDue c.args.now c.self.inside.rows.entries c.in-Some.key = rw c.in-Some.is at c.first_due.ensures.due in
    record { place = due.place; there = due.there }

pub invariant_of-self-2 : goal.invariant_of-self-2
invariant_of-self-2 g c =
    let due : IsFirstDue c.args.now c.self.inside.rows.entries c.in-Some.key = rw c.in-Some.is at c.first_due.ensures.due in
    let read : c.at.result.0 ≡ get_or (values c.self.inside.rows.entries) due.place c.at.result.0 = row_read c.self.inside.rows.entries due.place c.in-Some.key c.at.result.0 due.there (c.at.ensures.value due.place (c.in-Some.key, c.at.result.0) due.there) in
    let kept : set (values c.self.inside.rows.entries) due.place (record c.at.result.0 { pending = false }) ≡ values c.set.new.self.entries = sym (ap values (c.set.ensures.entries due.place due.there) ∙ values_set c.self.inside.rows.entries due.place c.in-Some.key (record c.at.result.0 { pending = false })) in
    record {
      sound = subst (λ (l : List (Row g.row.T.Denot)). IsSound (with_rows (record { rows = l; last = c.self.inside.last; limit = c.self.inside.limit; top = c.self.inside.top }) l)) kept (sound_expires c.args.now due.place _ c.at.result.0 c.self.invariant.sound due.due read);
      room = omega (arith, c.self.invariant.room, c.set.ensures.capacity);
      index_room = c.self.invariant.index_room;
      indexed =
          rw (c.set.ensures.entries due.place due.there)
          (index_set c.self.inside.index.entries c.self.inside.rows.entries c.in-Some.key due.place (record c.at.result.0 { pending = false }) c.at.result.0 due.there (c.at.ensures.value due.place (c.in-Some.key, c.at.result.0) due.there) refl c.self.invariant.indexed);
      none_due = subst (λ (l : List (Row g.row.T.Denot)). NoneIsDueBefore c.self.inside.earliest l) kept (none_due_expires c.args.now due.place c.self.inside.earliest _ c.at.result.0 c.self.invariant.sound due.due read c.self.invariant.none_due);
      counted = counted_settled c.self.inside.counts c.ended.new.self (values c.self.inside.rows.entries) (values c.set.new.self.entries) due.place c.at.result.0 (position-Some (is_due c.args.now) (values c.self.inside.rows.entries) due.place c.at.result.0 due.due).0 read (sym kept) c.ended.ensures.here c.ended.ensures.others c.self.invariant.counted;
    }

pub returns-clause-due : goal.returns-clause-due
returns-clause-due g c =
    let due : IsFirstDue c.args.now c.self.inside.rows.entries c.in-Some.key = rw c.in-Some.is at c.first_due.ensures.due in
    let read : c.at.result.0 ≡ get_or (values c.self.inside.rows.entries) due.place c.at.result.0 = row_read c.self.inside.rows.entries due.place c.in-Some.key c.at.result.0 due.there (c.at.ensures.value due.place (c.in-Some.key, c.at.result.0) due.there) in
    ap (option_map (λ r. (r.conn, r.note)))
    (sym (due_at c.args.now due.place (values c.self.inside.rows.entries) c.at.result.0 due.due read) ∙ ap (λ (t : Table g.row.T.Denot). first_due c.args.now t.rows) c.self.view_is)

pub returns-clause-table : goal.returns-clause-table
returns-clause-table g c =
    let due : IsFirstDue c.args.now c.self.inside.rows.entries c.in-Some.key = rw c.in-Some.is at c.first_due.ensures.due in
    let read : c.at.result.0 ≡ get_or (values c.self.inside.rows.entries) due.place c.at.result.0 = row_read c.self.inside.rows.entries due.place c.in-Some.key c.at.result.0 due.there (c.at.ensures.value due.place (c.in-Some.key, c.at.result.0) due.there) in
    let kept : set (values c.self.inside.rows.entries) due.place (record c.at.result.0 { pending = false }) ≡ values c.set.new.self.entries = sym (ap values (c.set.ensures.entries due.place due.there) ∙ values_set c.self.inside.rows.entries due.place c.in-Some.key (record c.at.result.0 { pending = false })) in
    let table : Table g.row.T.Denot = record { rows = []; last = c.self.inside.last; limit = c.self.inside.limit; top = c.self.inside.top } in
    ap (with_rows table) (sym kept) ∙ expires_at c.args.now due.place _ c.at.result.0 c.self.invariant.sound due.due read ∙ ap (expires c.args.now) c.self.view_is

pub returns-clause-stands : goal.returns-clause-stands
returns-clause-stands g c = λ limit top calls stands. returns-clause-table g c ∙ ap (expires c.args.now) stands
