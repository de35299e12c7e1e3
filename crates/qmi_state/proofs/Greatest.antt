-- What each event makes of the greatest name of a connection.
use Rattle.std.proofs.Common.{◌≡◌, ℕ, zero, suc, Bool, true, false, not, ◌&&◌, ◌==◌, max, List, refl, ◌∙◌, Option, Some, None, if◌then◌else◌}
use Rattle.number_space.specs.Table.{first_due}
use Rattle.qmux_frame.specs.Frame.{size_of}
use Rattle.qmux_frame.specs.declared.kind.MessageKind.{MessageKind}
use Rattle.qmux_frame.specs.declared.kind.MessageKind.TheVariants as kind
use Rattle.qmux_frame.specs.Head.{is_control, cid_of, service_of, number_of}
use Rattle.qmux_frame.specs.Control.{is_sync}
use Rattle.qmux_frame.specs.Kind.{framed_kind}
use Rattle.proxy_history.specs.Events.{Event, greatest_after}
use Rattle.proxy_history.specs.ClientIds.{KeptId, holder_in}
use Rattle.proxy_state.proofs.Greatest.{IsAsBefore, KeepsGreatest}
use Rattle.proxy_state.proofs.Greatest as greatest
use Rattle.qmux_frame.specs.Reply.{result_reply}
use Rattle.qmi_proxy.specs.Errors.{aborted}
use Rattle.qmi_proxy.specs.Releases as release
use Rattle.qmi_proxy.specs.FromModem.{IdChange, NoChange, Grants, Collides, Frees}
use Rattle.qmi_state.specs.Traffic.{Row, of_control, with_numbers, row_numbered, frees, silences, grants_id, frees_id, number_for_own}
use Rattle.qmi_state.specs.Core.{QmiState, QmiCore}
use Rattle.qmi_state.specs.Transitions.{give_up, tell, tell_all, refuses_sender, refuses, expires_in, expires_space, expires, aborts, with_traffic, change_by, holder_brought, answers, answers_sender, answers_if, fits, responds_if, responds_to, opened_ones, holders_of, tells_holder, indicates, forgets_all, hears_indication, hears_as, hears_modem, releases_one, releases_in, releases_due, shows, tick, qmi_handlers, step}

either : (b : Bool) (x one other : QmiState) → IsAsBefore x one → IsAsBefore x other → IsAsBefore x (if b then one else other)
either true x one other e f = e
either false x one other e f = f

-- ---- bytes for clients ----

told : (c : ℕ) (bytes : List ℕ) (x : QmiState) → IsAsBefore x (tell c bytes x)
told c bytes x = greatest.told give_up (λ client. bytes) (λ client. client) c x

told_all : (bytes : List ℕ) (cs : List ℕ) (x : QmiState) → IsAsBefore x (tell_all bytes cs x)
told_all bytes cs x = greatest.told_each give_up (λ client. bytes) (λ client. client) cs x

-- ---- requests that get no answer ----

refused : (own : Bool) (row : Row) (x : QmiState) → IsAsBefore x (refuses_sender own row x)
refused true row x = refl
refused false row x = told row.conn (result_reply row.note.head aborted) x

expired_in : (count : ℕ) (control : Bool) (time : ℕ) (x : QmiState) → IsAsBefore x (expires_in count control time x)
unfolding expires_in
expired_in zero control time x = refl
expired_in (suc count) control time x = by (λ y. expired_in count control time y) (first_due time (of_control control x.beside.traffic).rows)
  where
    by : ((y : QmiState) → IsAsBefore y (expires_in count control time y)) → (o : Option Row) → IsAsBefore x (elim o [ None ↦ x | Some row ↦ expires_in count control time (refuses control row x) ])
    by later None = refl
    by later (Some row) = later (refuses control row x) ∙ refused (row.conn == 0) row (with_traffic (with_numbers control (silences row.number (of_control control x.beside.traffic)) x.beside.traffic) x)

expired : (time : ℕ) (x : QmiState) → IsAsBefore x (expires time x)
expired time x = expired_in _ false time (expires_space true time x) ∙ expired_in _ true time x

-- ---- a message of the modem ----

answered : (row : Row) (m : List ℕ) (change : IdChange) (x : QmiState) → IsAsBefore x (answers row m change x)
answered row m NoChange x = told row.conn _ x
answered row m (Grants service cid) x = told row.conn _ (with_traffic (grants_id row.conn service cid x.beside.traffic) x)
answered row m Collides x = told row.conn _ x
answered row m (Frees service cid) x = told row.conn _ (with_traffic (frees_id row.conn service cid x.beside.traffic) x)

answered_to : (own : Bool) (row : Row) (m : List ℕ) (x : QmiState) → IsAsBefore x (answers_sender own row m x)
answered_to true row m x = refl
answered_to false row m x = answered row m (change_by row.conn row.note m (holder_brought m x.beside.traffic)) x

answered_if : (b : Bool) (row : Row) (m : List ℕ) (x : QmiState) → IsAsBefore x (answers_if b row m x)
answered_if true row m x = answered_to (row.conn == 0) row m x
answered_if false row m x = refl

responded_if : (b : Bool) (row : Row) (m : List ℕ) (x : QmiState) → IsAsBefore x (responds_if b row m x)
responded_if true row m x = answered_if row.pending row m (with_traffic (with_numbers (is_control m) (frees row.number (of_control (is_control m) x.beside.traffic)) x.beside.traffic) x)
responded_if false row m x = refl

responded : (o : Option Row) (m : List ℕ) (x : QmiState) → IsAsBefore x (responds_to o m x)
responded None m x = refl
responded (Some row) m x = responded_if (fits m row) row m x

told_holder : (o : Option ℕ) (m : List ℕ) (x : QmiState) → IsAsBefore x (tells_holder o m x)
told_holder None m x = refl
told_holder (Some c) m x = told c m x

indicated : (m : List ℕ) (x : QmiState) → IsAsBefore x (indicates m x)
indicated m x =
    either (is_control m) x _ _ (told_all m (opened_ones x.table.present) x)
    (either (cid_of m == 255) x _ _ (told_all m (holders_of (service_of m) x.beside.traffic.held x.table.present) x) (told_holder (holder_in (service_of m) (cid_of m) x.beside.traffic.held) m x))

indication : (m : List ℕ) (x : QmiState) → IsAsBefore x (hears_indication m x)
indication m x =
    either (is_sync m) x _ _ (indicated m (forgets_all (aborts x)) ∙ expired _ x)
    (either (not (is_control m) && cid_of m == 0) x _ _ refl (indicated m x))

heard : (m : List ℕ) (x : QmiState) → IsAsBefore x (hears_modem m x)
heard m x = by (framed_kind m)
  where
    by : (o : Option MessageKind) → IsAsBefore x (hears_as o m x)
    by (Some kind.Response) = responded (row_numbered (number_of m) (of_control (is_control m) x.beside.traffic).rows) m x
    by (Some kind.Indication) = indication m x
    by (Some kind.Request) = refl
    by None = refl

-- ---- the clock ----

released_in : (after count : ℕ) (x : QmiState) → IsAsBefore x (releases_in after count x)
unfolding releases_in
released_in after zero x = refl
released_in after (suc count) x = by (λ y. released_in after count y) (release.first_due after x.beside.time x.beside.traffic.kept)
  where
    by_number : ((y : QmiState) → IsAsBefore y (releases_in after count y)) → (k : KeptId) (number : Option ℕ) → IsAsBefore x (elim number [ None ↦ x | Some number ↦ releases_in after count (releases_one k number x) ])
    by_number later k None = refl
    by_number later k (Some number) = later (releases_one k number x)

    by : ((y : QmiState) → IsAsBefore y (releases_in after count y)) → (o : Option KeptId)
        → IsAsBefore x (elim o [ None ↦ x | Some k ↦ elim (number_for_own k x.beside.traffic) [ None ↦ x | Some number ↦ releases_in after count (releases_one k number x) ] ])
    by later None = refl
    by later (Some k) = by_number later k (number_for_own k x.beside.traffic)

released_due : (after : Option ℕ) (x : QmiState) → IsAsBefore x (releases_due after x)
released_due None x = refl
released_due (Some after) x = released_in after _ x

ticked : (time : ℕ) (x : QmiState) → IsAsBefore x (tick time x)
ticked time x = released_due x.beside.release (shows time x) ∙ expired (max time x.beside.time) (record x { beside = record x.beside { time = max time x.beside.time } })

-- ---- each handler ----

pub keeps_greatest : KeepsGreatest qmi_handlers size_of
keeps_greatest = record {
  hear_modem = heard;
  lose = λ x. expired _ x;
  tick = ticked;
  finish = λ x. refl;
}

-- an event and a core that are known by equations
pub greatest_as : (event known : Event) (old new : QmiCore) → event ≡ known → new ≡ step known old → new.state.table.greatest ≡ greatest_after event old.state.table.greatest
greatest_as event known old new same is = greatest.greatest_as qmi_handlers size_of keeps_greatest event known old new same is
