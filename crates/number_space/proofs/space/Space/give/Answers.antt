use Rattle.std.proofs.Common.{◌≡◌, ◌<◌, ◌∙◌, ℕ, true, ap, sym, arith, subst, length, refl}
use Rattle.std.proofs.lemmas.List.{length-map}
use Rattle.proxy_history.specs.Requests.{following, free_from}
use Rattle.proxy_history.specs.Laws.{IsFirstFree}
use Rattle.number_space.specs.Chain.{values}
use Rattle.number_space.specs.Table.{Table, numbers, next_number, gives, pending_of}
use Rattle.number_space.proofs.InUse.{none_due_push}
use Rattle.number_space.proofs.Tables.{given_is_first_free, next_given, gives_is, sound_push}
use Rattle.number_space.proofs.Index.{free_is, index_put, values_push}
use Rattle.number_space.proofs.Waiting.{counted_push, waiting_few}
use Rattle.number_space.proofs.space.Space.give.Goals as goal

pub push-key-requires : goal.push-key-requires
push-key-requires g c = omega (arith, c.self.invariant.room)

pub put-requires-clause-place : goal.put-requires-clause-place
put-requires-clause-place g c = c.next_free-number.ensures.place.within

pub put-requires-clause-room : goal.put-requires-clause-room
put-requires-clause-room g c = omega (arith, c.self.invariant.indexed.counted, c.self.invariant.index_room)

pub overflow_add-waits : goal.overflow_add-waits
overflow_add-waits g c =
    let waits : c.pending-waits.result ≡ pending_of c.args.conn (record { rows = values c.self.inside.rows.entries; last = c.self.inside.last; limit = c.self.inside.limit; top = c.self.inside.top }) =
    c.pending-waits.ensures ∙ ap (λ (t : Table g.row.T.Denot). pending_of c.args.conn t) (sym c.self.view_is)
    in omega (arith, waits, waiting_few c.args.conn (values c.self.inside.rows.entries), length-map c.self.inside.rows.entries (λ e. e.1))

pub returns-clause-number : goal.returns-clause-number
returns-clause-number g c =
    next_given _ c.next_free-number.result.0 (omega (arith, length-map c.self.inside.rows.entries (λ e. e.1)))
    (free_is c.next_free-number.result.0 c.self.inside.top (following c.self.inside.top c.self.inside.last) c.self.inside.index.entries c.self.inside.rows.entries c.self.invariant.indexed c.next_free-number.ensures.number)
    ∙ ap next_number c.self.view_is

pub returns-clause-table : goal.returns-clause-table
returns-clause-table g c =
    gives_is _ c.next_free-number.result.0 c.args.conn c.args.note c.args.deadline (values c.push-key.new.self.entries)
    (next_given _ c.next_free-number.result.0 (omega (arith, length-map c.self.inside.rows.entries (λ e. e.1)))
    (free_is c.next_free-number.result.0 c.self.inside.top (following c.self.inside.top c.self.inside.last) c.self.inside.index.entries c.self.inside.rows.entries c.self.invariant.indexed c.next_free-number.ensures.number))
    (ap values c.push-key.ensures.entries ∙ values_push c.self.inside.rows.entries c.push-key.result (record { number = c.next_free-number.result.0; conn = c.args.conn; note = c.args.note; deadline = c.args.deadline; pending = true }))
    ∙ ap (gives c.args.conn c.args.note c.args.deadline) c.self.view_is

pub returns-clause-first_free : goal.returns-clause-first_free
returns-clause-first_free g c =
    let few : length (values c.self.inside.rows.entries) < c.self.inside.limit = omega (arith, length-map c.self.inside.rows.entries (λ e. e.1)) in
    let given : c.next_free-number.result.0 ≡ free_from (length (values c.self.inside.rows.entries)) c.self.inside.top (numbers (values c.self.inside.rows.entries)) (following c.self.inside.top c.self.inside.last) =
    free_is c.next_free-number.result.0 c.self.inside.top (following c.self.inside.top c.self.inside.last) c.self.inside.index.entries c.self.inside.rows.entries c.self.invariant.indexed c.next_free-number.ensures.number
    in
    let here : IsFirstFree c.self.inside.top (following c.self.inside.top c.self.inside.last) (numbers (values c.self.inside.rows.entries)) c.next_free-number.result.0 =
    subst (λ (n : ℕ). IsFirstFree c.self.inside.top (following c.self.inside.top c.self.inside.last) (numbers (values c.self.inside.rows.entries)) n) (sym given) (given_is_first_free _ c.self.invariant.sound few)
    in subst (λ (t : Table g.row.T.Denot). IsFirstFree t.top (following t.top t.last) (numbers t.rows) c.next_free-number.result.0) c.self.view_is here

pub returns-clause-sound : goal.returns-clause-sound
returns-clause-sound g c =
    let free : IsFirstFree c.self.inside.top (following c.self.inside.top c.self.inside.last) (numbers (values c.self.inside.rows.entries)) c.next_free-number.result.0 =
    subst (λ (t : Table g.row.T.Denot). IsFirstFree t.top (following t.top t.last) (numbers t.rows) c.next_free-number.result.0) (sym c.self.view_is) (returns-clause-first_free g c)
    in sound_push _ (record { number = c.next_free-number.result.0; conn = c.args.conn; note = c.args.note; deadline = c.args.deadline; pending = true }) (values c.push-key.new.self.entries) c.self.invariant.sound (omega (arith, length-map c.self.inside.rows.entries (λ e. e.1))) free.to_top free.unused
    (ap values c.push-key.ensures.entries ∙ values_push c.self.inside.rows.entries c.push-key.result (record { number = c.next_free-number.result.0; conn = c.args.conn; note = c.args.note; deadline = c.args.deadline; pending = true }))

pub invariant_of-self : goal.invariant_of-self
invariant_of-self g c =
    let free : IsFirstFree c.self.inside.top (following c.self.inside.top c.self.inside.last) (numbers (values c.self.inside.rows.entries)) c.next_free-number.result.0 =
    subst (λ (t : Table g.row.T.Denot). IsFirstFree t.top (following t.top t.last) (numbers t.rows) c.next_free-number.result.0) (sym c.self.view_is) (returns-clause-first_free g c)
    in
    record {
      sound = returns-clause-sound g c;
      room = omega (arith, c.self.invariant.room, c.push-key.ensures.capacity);
      index_room = omega (arith, c.self.invariant.index_room, c.put.ensures.capacity);
      indexed = rw (c.put.ensures.entries, c.push-key.ensures.entries) (index_put c.self.inside.index.entries c.self.inside.rows.entries c.push-key.result c.next_free-number.result.1 (record { number = c.next_free-number.result.0; conn = c.args.conn; note = c.args.note; deadline = c.args.deadline; pending = true }) c.self.invariant.indexed c.next_free-number.ensures.place free.unused);
      none_due =
          rw (c.min-self-inside.ensures, c.push-key.ensures.entries, values_push)
          (none_due_push c.self.inside.earliest (values c.self.inside.rows.entries) (record { number = c.next_free-number.result.0; conn = c.args.conn; note = c.args.note; deadline = c.args.deadline; pending = true }) c.self.invariant.none_due);
      counted =
          rw (c.push-key.ensures.entries, values_push)
          (counted_push c.self.inside.counts c.set.new.self (values c.self.inside.rows.entries) (record { number = c.next_free-number.result.0; conn = c.args.conn; note = c.args.note; deadline = c.args.deadline; pending = true }) c.pending-waits.result refl
          (c.pending-waits.ensures ∙ ap (λ (t : Table g.row.T.Denot). pending_of c.args.conn t) (sym c.self.view_is)) c.set.ensures.here c.set.ensures.others c.self.invariant.counted);
    }

pub returns-clause-stands : goal.returns-clause-stands
returns-clause-stands g c = λ limit top calls stands. returns-clause-table g c ∙ ap (gives c.args.conn c.args.note c.args.deadline) stands
