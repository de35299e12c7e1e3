-- What telling clients leaves as it was.
use Rattle.std.proofs.Common.{◌≡◌, ℕ, ◌≤◌, ◌==◌, Bool, true, false, List, [], ◌∷◌, length, refl, ap, ◌∙◌, arith, Option, Some, None}
use Rattle.std.proofs.lemmas.List.{length-map}
use Rattle.outbox.specs.Queue.{has_room}
use Rattle.connections.specs.Table.{Connection, connection_in}
use Rattle.number_space.specs.declared.space.Row.{Row}
use Rattle.number_space.specs.Table.{settled_where}
use Rattle.number_space.proofs.Due.{waiting_count, count_settled}
use Rattle.proxy_history.specs.View.{OpenedWith}
use Rattle.proxy_state.specs.Telling as telling
use Rattle.mbim_proxy.specs.Setup.{Setup}
use Rattle.mbim_state.specs.declared.asked.Asked.{Asked}
use Rattle.mbim_state.specs.Core.{Client, Numbers, ModemSide, MbimState, setup_of}
use Rattle.mbim_state.specs.Transitions.{with_side, give_up, after, text, opening_ended, waiting_of, ends_opening}

abbrev pub rows_at : MbimState → List (Row Asked)
rows_at x = x.beside.numbers.rows

-- beside the clients only those who asked to open the modem and the numbers change, and of the numbers only who waits for them: no more than before
pub record Leaves (x after : MbimState) : Type 0 where
  pub beside : after.beside ≡ record x.beside { numbers = after.beside.numbers; askers = after.beside.askers }
  pub numbers : after.beside.numbers ≡ record x.beside.numbers { rows = rows_at after }
  pub count : waiting_count (rows_at after) ≤ waiting_count (rows_at x)
  pub long : length (rows_at after) ≡ length (rows_at x)

pub leaves_same : (x : MbimState) → Leaves x x
leaves_same x = record { beside = refl; numbers = refl; count = omega arith; long = refl }

pub leaves_both : (x y z : MbimState) → Leaves x y → Leaves y z → Leaves x z
leaves_both x y z L M = record {
  beside = M.beside ∙ ap (λ (side : ModemSide). let after : ModemSide = record side { numbers = z.beside.numbers; askers = z.beside.askers } in after) L.beside;
  numbers = M.numbers ∙ ap (λ (numbers : Numbers). let after : Numbers = record numbers { rows = rows_at z } in after) L.numbers;
  count = (let one = L.count in let other = M.count in omega arith);
  long = M.long ∙ L.long;
}

-- ---- bytes for clients ----

module _ (text : Client → List ℕ) (change : Client → Client) where
  pub told_leaves : (c : ℕ) (x : MbimState) → Leaves x (telling.tell give_up text change c x)
  told_leaves c x = by (connection_in c x.table.present)
    where
      by_room : (k : Connection Client) (b : Bool) → Leaves x (telling.tell_if give_up text change b c k x)
      by_room k true = record { beside = refl; numbers = refl; count = omega arith; long = refl }
      by_room k false = record {
        beside = refl;
        numbers = refl;
        count = count_settled (λ (row : Row Asked). c == row.conn) (rows_at x);
        long = length-map (rows_at x) (settled_where (λ (row : Row Asked). c == row.conn));
      }

      by : (o : Option (Connection Client)) → Leaves x (telling.tell_to give_up text change o c x)
      by None = leaves_same x
      by (Some k) = by_room k (has_room (text k.client) k.outbox)

  pub told_each_leaves : (cs : List ℕ) (x : MbimState) → Leaves x (telling.tell_each give_up text change cs x)
  unfolding telling.tell_each
  told_each_leaves [] x = leaves_same x
  told_each_leaves (c ∷ cs) x = leaves_both x (telling.tell give_up text change c x) _ (told_leaves c x) (told_each_leaves cs (telling.tell give_up text change c x))

-- ---- the end of an opening ----

-- the requests stay as they are, but for those of whom it drops
pub record KeepsRequests (x later : MbimState) : Type 0 where
  pub setup : setup_of later.beside ≡ setup_of x.beside
  pub count : waiting_count (rows_at later) ≤ waiting_count (rows_at x)
  pub long : length (rows_at later) ≡ length (rows_at x)

pub leaves_keeps : (x later : MbimState) → Leaves x later → KeepsRequests x later
leaves_keeps x later L = record { setup = ap setup_of L.beside; count = L.count; long = L.long }

pub ended_keeps : (s : Setup) (status : ℕ) (x : MbimState) → KeepsRequests x (ends_opening s status x)
ended_keeps s status x =
    let opened : MbimState = with_side (opening_ended status x.beside) x in
    let L = told_each_leaves (text s (OpenedWith status)) (after s (OpenedWith status)) (waiting_of x.table.present x.beside.askers) opened in
    record { setup = ap setup_of L.beside; count = L.count; long = L.long }
