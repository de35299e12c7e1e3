-- Which request in use a message of the modem answers.
use Rattle.std.proofs.Common.{◌≡◌, ℕ, Bool, true, false, ◌&&◌, ◌==◌, if◌then◌else◌, List, refl, ap, sym, ◌∙◌, Contains, Some}
use Rattle.std.proofs.lemmas.Bool.{eqb-true, eq-eqb, and_parts}
use Rattle.qmux_frame.specs.Head.{service_of, cid_of, number_of}
use Rattle.proxy_history.specs.Facts.{Fact, Request}
use Rattle.proxy_history.specs.Requests.{in_use}
use Rattle.proxy_history.proofs.Found as found
use Rattle.proxy_history.proofs.Given as given
use Rattle.qmi_proxy.specs.Spaces.{control_space, service_space, space_of}
use Rattle.qmi_proxy.specs.FromModem.{is_answered_by, first_answered_by, IdChange, NoChange, Grants, Frees, brings_id, granted_unless, id_change, holder_of_brought}
use Rattle.proxy_history.specs.ClientIds.{holder, is_other}
use Rattle.qmux_frame.specs.Control.{is_release}
use Rattle.qmi_proxy.specs.Messages.{is_success, used_service, used_cid, byte_of, value_of}
use Rattle.qmi_proxy.proofs.Apart.{IsSoundQmi, apart_in_use}

-- two requests in use that a message answers are one, where each stands in the space of its message
pub one_is_answered : (past : List Fact) (m : List ℕ) (q r : Request) → IsSoundQmi past → ((p : Request) → Contains (in_use past) p → p.space ≡ space_of p.message)
    → Contains (in_use past) q → Contains (in_use past) r → is_answered_by m q ≡ true → is_answered_by m r ≡ true → q ≡ r
one_is_answered past m q r sound placed at_q at_r answers_q answers_r =
    let parts_q = and_parts (service_of q.message == service_of m && (cid_of q.message == cid_of m)) (q.number == number_of m) answers_q in
    let parts_r = and_parts (service_of r.message == service_of m && (cid_of r.message == cid_of m)) (r.number == number_of m) answers_r in
    let service_q : service_of q.message ≡ service_of m = eqb-true _ _ (and_parts (service_of q.message == service_of m) (cid_of q.message == cid_of m) parts_q.0).0 in
    let service_r : service_of r.message ≡ service_of m = eqb-true _ _ (and_parts (service_of r.message == service_of m) (cid_of r.message == cid_of m) parts_r.0).0 in
    let space_as : (p : Request) → p.space ≡ space_of p.message → service_of p.message ≡ service_of m → p.space ≡ space_of m =
    λ p here same. here ∙ ap (λ (n : ℕ). if n == 0 then control_space else service_space) same in
    let space : r.space ≡ q.space = space_as r (placed r at_r) service_r ∙ sym (space_as q (placed q at_q) service_q) in
    let number : r.number ≡ q.number = eqb-true r.number (number_of m) parts_r.1 ∙ sym (eqb-true q.number (number_of m) parts_q.1) in
    (apart_in_use past q r sound at_q at_r).number (eq-eqb r.space q.space space) (eq-eqb r.number q.number number)

-- the first request that is answered is the one that is
pub first_is : (m : List ℕ) (list : List Request) (r : Request) → ((q : Request) → Contains list q → is_answered_by m q ≡ true → q ≡ r) → Contains list r → is_answered_by m r ≡ true → first_answered_by m list ≡ Some r
first_is m list r one at answers = given.first_is (is_answered_by m) list r one at answers

-- a request that is found is one of them, and is answered
pub found_is : (m : List ℕ) (list : List Request) (r : Request) → first_answered_by m list ≡ Some r → Contains list r × (is_answered_by m r ≡ true)
found_is m list r e = found.found_is (is_answered_by m) list r e

-- ---- the client id that an answer brings ----

-- it is granted where nobody else holds it
granted_free : (collides : Bool) (brought_service brought_cid service cid : ℕ) → granted_unless collides brought_service brought_cid ≡ Grants service cid → (collides ≡ false) × (brought_service ≡ service) × (brought_cid ≡ cid)
granted_free true a b service cid e = absurd (cc)
granted_free false a b service cid e = (refl, cc, cc)

pub change_free : (d : ℕ) (request m : List ℕ) (past : List Fact) (service cid : ℕ) → id_change d request m (holder_of_brought m past) ≡ Grants service cid → is_other d (holder service cid past) ≡ false
change_free d request m past service cid =
    let brought : IdChange = granted_unless (is_other d (holder_of_brought m past)) (byte_of 0 (value_of 0x01 m)) (byte_of 1 (value_of 0x01 m)) in
    let other : IdChange = if is_release request && is_success m then Frees (used_service request) (used_cid request) else NoChange in
    let step : (b : Bool) → (if b then brought else other) ≡ Grants service cid → is_other d (holder service cid past) ≡ false =
    λ b. elim b as (λ b. (if b then brought else other) ≡ Grants service cid → is_other d (holder service cid past) ≡ false) [
      | true ↦ λ e.
          let parts = granted_free (is_other d (holder_of_brought m past)) (byte_of 0 (value_of 0x01 m)) (byte_of 1 (value_of 0x01 m)) service cid e in
          sym (ap (λ (n : ℕ). is_other d (holder n (byte_of 1 (value_of 0x01 m)) past)) parts.1 ∙ ap (λ (n : ℕ). is_other d (holder service n past)) parts.2) ∙ parts.0
      | false ↦ λ e. absurd (elim (is_release request && is_success m) as (λ t. (if t then Frees (used_service request) (used_cid request) else NoChange) ≡ Grants service cid → ⊥) [ true ↦ λ e. cc | false ↦ λ e. cc ] e)
    ]
    in step (brings_id request m)
