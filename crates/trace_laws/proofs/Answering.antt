-- What an answer of the modem takes out of the requests in use, and what a ledger then mirrors. A list of facts has the newest first.
use Rattle.std.proofs.Common.{◌≡◌, ℕ, ◌≤◌, Bool, true, false, not, ◌&&◌, ◌==◌, if◌then◌else◌, List, [], ◌∷◌, length, map, refl, ap, sym, ◌∙◌, subst, Option, Some, None, option_map}
use Rattle.kit_bytes.proofs.Lists.{all_filter}
use Rattle.qmux_frame.specs.Head.{service_of, cid_of, number_of}
use Rattle.proxy_history.specs.Facts.{Fact, Request, Why, Ended, Answered, IdHeld, Granted, Freed}
use Rattle.proxy_history.specs.Connections.{message_count}
use Rattle.proxy_history.specs.Requests.{in_use, forward_count, without_request, is_pending}
use Rattle.proxy_history.specs.Modem.{now}
use Rattle.proxy_history.proofs.Sound.{kept_by_note}
use Rattle.proxy_solo.proofs.Lists.{turned}
use Rattle.qmi_proxy.specs.Setup.{Setup}
use Rattle.qmi_proxy.specs.Limits.{qmi_limits}
use Rattle.qmi_proxy.specs.Clients.{wire}
use Rattle.qmi_proxy.specs.Text.{qmi_wording, note}
use Rattle.qmi_proxy.specs.FromModem.{IdChange, NoChange, Grants, Collides, Frees, is_answered_by, first_answered_by, id_change, holder_of_brought, answer, answer_to, answer_or_late, respond}
use Rattle.qmi_proxy.specs.Releases.{freed_if}
use Rattle.qmi_solo.proofs.Numbering.{Same, renumbered}
use Rattle.rig_trace.specs.declared.rows.Row.{Row}
use Rattle.rig_trace.specs.Rows.{Ledger, is_same_key, first_with, without_row, has_answered}
use Rattle.rig_trace.specs.Qmi.{key_of}
use Rattle.trace_laws.specs.Laws.{row_of}
use Rattle.trace_laws.proofs.Saying.{AreLong, Mirrored}

-- ---- rows ----

abbrev all_three : (service cid number : ℕ) → (m : List ℕ) → Bool
all_three service cid number m = service == service_of m && (cid == cid_of m) && (number == number_of m)

-- an answer has the key of the requests that it may answer
same_key : (m : List ℕ) (r : Request) → 12 ≤ length r.message → is_same_key (key_of m) (row_of r).key ≡ is_answered_by m r
same_key m r long =
    let same : Same r.number r.message (wire r) = renumbered r.number r.message long in
    ap (λ (b : Bool). b && (cid_of m == cid_of (wire r)) && (number_of m == number_of (wire r))) (turned (service_of m) (service_of (wire r)))
    ∙ ap (λ (b : Bool). service_of (wire r) == service_of m && b && (number_of m == number_of (wire r))) (turned (cid_of m) (cid_of (wire r)))
    ∙ ap (λ (b : Bool). service_of (wire r) == service_of m && (cid_of (wire r) == cid_of m) && b) (turned (number_of m) (number_of (wire r)))
    ∙ ap (λ (n : ℕ). all_three n (cid_of (wire r)) (number_of (wire r)) m) same.service
    ∙ ap (λ (n : ℕ). all_three (service_of r.message) n (number_of (wire r)) m) same.cid
    ∙ ap (λ (n : ℕ). all_three (service_of r.message) (cid_of r.message) n m) same.number

pub first_row : (m : List ℕ) (requests : List Request) → AreLong requests → first_with (key_of m) (map row_of requests) ≡ option_map row_of (first_answered_by m requests)
first_row m [] long = refl
first_row m (r ∷ requests) long =
    ap (λ (b : Bool). if b then Some (row_of r) else first_with (key_of m) (map row_of requests)) (same_key m r long.0)
    ∙ elim (is_answered_by m r) as (λ b. (if b then Some (row_of r) else first_with (key_of m) (map row_of requests)) ≡ option_map row_of (if b then Some r else first_answered_by m requests)) [
      | true ↦ refl
      | false ↦ first_row m requests long.1
    ]

without_is : (r : Request) (requests : List Request) → without_row (row_of r) (map row_of requests) ≡ map row_of (without_request r requests)
without_is r [] = refl
without_is r (q ∷ requests) =
    let others : List Row = without_row (row_of r) (map row_of requests) in
    elim (not (r.serial == q.serial)) as (λ b. (if b then row_of q ∷ others else others) ≡ map row_of (if b then q ∷ without_request r requests else without_request r requests)) [
      | true ↦ ap (λ (rows : List Row). row_of q ∷ rows) (without_is r requests)
      | false ↦ without_is r requests
    ]

-- ---- facts ----

-- what a ledger says that holds these requests and these counts
pub record Has (all : List Request) (number shown : ℕ) (of_client : ℕ → ℕ) (past : List Fact) : Type 0 where
  pub in_use : in_use past ≡ all
  pub count : forward_count past ≡ number
  pub time : now past ≡ shown
  pub said : (c : ℕ) → message_count c past ≡ of_client c

module _ (requests : List Request) (count time : ℕ) (said : ℕ → ℕ) where
  ended_has : (c : ℕ) (why : Why) (past : List Fact) → Has requests count time said past → Has requests count time said (Ended c why ∷ past)
  unfolding in_use forward_count now message_count
  ended_has c why past H = record { in_use = H.in_use; count = H.count; time = H.time; said = H.said }

  pub noted_has : (s : Setup) (fact : Fact) (past : List Fact) → Has requests count time said (fact ∷ past) → Has requests count time said (note s.device fact past)
  noted_has s fact past H = kept_by_note qmi_limits (qmi_wording s.device) (Has requests count time said) (λ c before there H. ended_has c _ before H) fact past H

  -- a client id that the proxy itself holds no more changes nothing of that
  pub freed_has : (own : Bool) (r : Request) (past : List Fact) → Has requests count time said past → Has requests count time said (freed_if own r past)
  unfolding in_use forward_count now message_count
  freed_has true r past H = record { in_use = H.in_use; count = H.count; time = H.time; said = H.said }
  freed_has false r past H = H

module _ (s : Setup) (m : List ℕ) (past : List Fact) where
  abbrev counts : ℕ → ℕ
  counts c = message_count c past

  module _ (r : Request) where
    abbrev IsTakenOut : List Fact → Type 0
    IsTakenOut after = Has (without_request r (in_use past)) (forward_count past) (now past) counts after

    answered : (change : IdChange) → IsTakenOut (answer s.device r m change past)
    unfolding in_use forward_count now message_count
    answered NoChange = noted_has _ _ _ _ s (Answered r m) past (record { in_use = refl; count = refl; time = refl; said = λ c. refl })
    answered (Grants service cid) = noted_has _ _ _ _ s (Answered r m) (Granted r.conn service cid ∷ past) (record { in_use = refl; count = refl; time = refl; said = λ c. refl })
    answered Collides = noted_has _ _ _ _ s (IdHeld r) past (record { in_use = refl; count = refl; time = refl; said = λ c. refl })
    answered (Frees service cid) = noted_has _ _ _ _ s (Answered r m) (Freed r.conn service cid ∷ past) (record { in_use = refl; count = refl; time = refl; said = λ c. refl })

    answered_to : (own : Bool) → IsTakenOut (answer_to own s.device r m past)
    unfolding in_use forward_count now message_count
    answered_to true = freed_has _ _ _ _ true r (note s.device (Answered r m) past) (noted_has _ _ _ _ s (Answered r m) past (record { in_use = refl; count = refl; time = refl; said = λ c. refl }))
    answered_to false = answered (id_change r.conn r.message m (holder_of_brought m past))

    pub taken_out : (waits : Bool) → IsTakenOut (answer_or_late s.device waits r m past)
    unfolding in_use forward_count now message_count
    taken_out true = answered_to (r.conn == 0)
    taken_out false = record { in_use = refl; count = refl; time = refl; said = λ c. refl }

  -- the row that an answer finds
  pub row_found : (ledger : Ledger) → Mirrored past ledger → first_with (key_of m) ledger.rows ≡ option_map row_of (first_answered_by m (in_use past))
  row_found ledger all = ap (first_with (key_of m)) all.mirrors.rows ∙ first_row m (in_use past) all.long

  -- a ledger behind the answer
  answered_mirrored : (found : Option Request) (ledger : Ledger) → Mirrored past ledger → Mirrored (respond s.device found m past) (has_answered (option_map row_of found) ledger)
  unfolding in_use forward_count now message_count
  answered_mirrored None ledger all = record {
    mirrors = record { rows = all.mirrors.rows; asked = all.mirrors.asked; time = all.mirrors.time; names_are = all.mirrors.names_are; said = all.mirrors.said };
    long = all.long;
  }
  answered_mirrored (Some r) ledger all =
      let T = taken_out r (is_pending r past) in
      record {
        mirrors = record {
          rows = ap (without_row (row_of r)) all.mirrors.rows ∙ without_is r (in_use past) ∙ ap (map row_of) (sym T.in_use);
          asked = all.mirrors.asked ∙ sym T.count;
          time = all.mirrors.time ∙ sym T.time;
          names_are = all.mirrors.names_are;
          said = λ c below. all.mirrors.said c below ∙ sym (T.said c);
        };
        long = subst AreLong (sym T.in_use) (all_filter (λ (q : Request). 12 ≤ length q.message) (λ (q : Request). not (r.serial == q.serial)) (in_use past) all.long);
      }

  pub answer_mirrored : (ledger : Ledger) → Mirrored past ledger → Mirrored (respond s.device (first_answered_by m (in_use past)) m past) (has_answered (first_with (key_of m) ledger.rows) ledger)
  answer_mirrored ledger all =
      subst (λ (o : Option Row). Mirrored (respond s.device (first_answered_by m (in_use past)) m past) (has_answered o ledger)) (sym (row_found ledger all))
      (answered_mirrored (first_answered_by m (in_use past)) ledger all)
