-- The request that an answer belongs to is found where the client is alone.
use Rattle.std.proofs.Common.{◌≡◌, ℕ, ◌≤◌, Bool, true, ◌&&◌, ◌==◌, List, length, ap, sym, ◌∙◌, Some}
use Rattle.std.proofs.lemmas.Bool.{eq-eqb, and_parts}
use Rattle.qmux_frame.specs.Head.{service_of, cid_of, number_of}
use Rattle.qmux_frame.specs.Reply.{with_number}
use Rattle.proxy_history.specs.Facts.{Fact, Request}
use Rattle.proxy_history.specs.Requests.{in_use}
use Rattle.proxy_history.proofs.Sound.{forwarded_from_in_use}
use Rattle.qmi_proxy.specs.FromModem.{is_answered_by, first_answered_by}
use Rattle.qmi_proxy.proofs.Answered.{one_is_answered, first_is}
use Rattle.proxy_solo.specs.Answers.{number_at}
use Rattle.proxy_solo.proofs.Matching.{Twin}
use Rattle.proxy_solo.proofs.Matching as matching
use Rattle.qmi_solo.proofs.Fit.{Fit, same_place}
use Rattle.qmi_solo.proofs.Alone.{placed}
use Rattle.qmi_solo.proofs.Numbering.{renumbered}

-- ---- it is found by its place ----

pub twin_number : (c : ℕ) (own : List Fact) (r : Request) → Fit true c own → (T : Twin c own r) → number_at c r.place (in_use own) ≡ Some T.request.number
twin_number c own r G T =
    matching.twin_number c own r T
    (λ x at mine e. same_place true c own x T.request G.fits (forwarded_from_in_use own x at, mine) (forwarded_from_in_use own T.request T.at, T.mine) e)

-- ---- it is found by its number ----

-- the answer with the number that the twin has is found to be the twin's
pub twin_answered : (c : ℕ) (own : List Fact) (m : List ℕ) (r : Request) → 12 ≤ length m → Fit true c own → (T : Twin c own r) → is_answered_by m r ≡ true
    → first_answered_by (with_number T.request.number m) (in_use own) ≡ Some T.request
twin_answered c own m r long G T answers =
    let later : List ℕ = with_number T.request.number m in
    let alike = renumbered T.request.number m long in
    let parts = and_parts (service_of r.message == service_of m && (cid_of r.message == cid_of m)) (r.number == number_of m) answers in
    let message : T.request.message ≡ r.message = ap (λ (y : Request). y.message) T.same in
    let head : (service_of T.request.message == service_of later && (cid_of T.request.message == cid_of later)) ≡ true =
    ap (λ (l : List ℕ). service_of l == service_of later && (cid_of l == cid_of later)) message
    ∙ ap (λ (n : ℕ). service_of r.message == n && (cid_of r.message == cid_of later)) alike.service
    ∙ ap (λ (n : ℕ). service_of r.message == service_of m && (cid_of r.message == n)) alike.cid
    ∙ parts.0
    in
    let number : (T.request.number == number_of later) ≡ true = eq-eqb T.request.number (number_of later) (sym alike.number) in
    let is : is_answered_by later T.request ≡ true = ap (λ (b : Bool). b && (T.request.number == number_of later)) head ∙ number in
    first_is later (in_use own) T.request (λ q at e. one_is_answered own later q T.request G.sound (λ p at_p. placed true c own p G.fits (forwarded_from_in_use own p at_p)) at T.at e is) T.at is
