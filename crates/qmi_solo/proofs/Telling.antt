-- What an answer or an indication does to a history is done to a client's part of it, or leaves it as it is.
use Rattle.std.proofs.Common.{◌≡◌, ℕ, Bool, true, false, ◌&&◌, ◌==◌, if◌then◌else◌, List, [], ◌∷◌, filter, refl, ap, sym, ◌∙◌}
use Rattle.qmux_frame.specs.Head.{is_control, cid_of, service_of}
use Rattle.proxy_history.specs.Facts.{Fact, Request, Answered, IdHeld, Late, Indicated, Granted, Freed}
use Rattle.proxy_history.specs.Connections.{contains, present, is_present}
use Rattle.proxy_history.specs.ClientIds.{held, holder_in, is_holder, holds_some}
use Rattle.proxy_solo.specs.Part as alone_part
use Rattle.proxy_history.specs.Sound.{IsSound}
use Rattle.qmi_proxy.specs.Limits.{qmi_limits}
use Rattle.qmi_proxy.specs.OwnReplies.{is_open}
use Rattle.qmi_proxy.specs.Text.{blank, view_of}
use Rattle.qmi_proxy.specs.FromModem.{IdChange, NoChange, Grants, Collides, Frees, answer, open_ones, receivers, tell}
use Rattle.proxy_solo.specs.Part.{as_sent}
use Rattle.qmi_solo.proofs.Meets.{fact_if}
use Rattle.qmi_solo.specs.Part.{part}
use Rattle.proxy_solo.proofs.Lists.{contains-filter}
use Rattle.proxy_solo.proofs.Grants.{held_once, holder_by, some_by}
use Rattle.qmi_solo.proofs.Queries.{known_view, view-part, present-part, held-part}
use Rattle.proxy_solo.proofs.Noting.{only}
use Rattle.qmi_solo.proofs.Actions.{end_known, noted}

module _ (device : List ℕ) (c : ℕ) where
  -- ---- answers ----

  abbrev pub known_answer : Request → List ℕ → IdChange → List Fact → List Fact
  known_answer r m NoChange facts = end_known device c (Answered r m ∷ facts)
  known_answer r m (Grants service cid) facts = end_known device c (Answered r m ∷ Granted r.conn service cid ∷ facts)
  known_answer r m Collides facts = end_known device c (IdHeld r ∷ facts)
  known_answer r m (Frees service cid) facts = end_known device c (Answered r m ∷ Freed r.conn service cid ∷ facts)

  pub answer-part : (r : Request) (m : List ℕ) (change : IdChange) (past : List Fact) → part c (answer device r m change past) ≡ (if r.conn == c then known_answer (as_sent r) (blank m) change (part c past) else part c past)
  unfolding alone_part.part
  answer-part r m NoChange past = noted device c (Answered r m) past (only c r.conn)
  answer-part r m (Grants service cid) past =
      noted device c (Answered r m) (Granted r.conn service cid ∷ past) (only c r.conn)
      ∙ elim (r.conn == c) as (λ b. (if b then end_known device c (Answered (as_sent r) (blank m) ∷ fact_if b (Granted r.conn service cid) (part c past)) else fact_if b (Granted r.conn service cid) (part c past)) ≡ (if b then known_answer (as_sent r) (blank m) (Grants service cid) (part c past) else part c past)) [ true ↦ refl | false ↦ refl ]
  answer-part r m Collides past = noted device c (IdHeld r) past (only c r.conn)
  answer-part r m (Frees service cid) past =
      noted device c (Answered r m) (Freed r.conn service cid ∷ past) (only c r.conn)
      ∙ elim (r.conn == c) as (λ b. (if b then end_known device c (Answered (as_sent r) (blank m) ∷ fact_if b (Freed r.conn service cid) (part c past)) else fact_if b (Freed r.conn service cid) (part c past)) ≡ (if b then known_answer (as_sent r) (blank m) (Frees service cid) (part c past) else part c past)) [ true ↦ refl | false ↦ refl ]

  pub late-part : (r : Request) (past : List Fact) → part c (Late r ∷ past) ≡ (if r.conn == c then Late (as_sent r) ∷ part c past else part c past)
  unfolding alone_part.part
  late-part r past = elim (r.conn == c) as (λ b. fact_if b (Late (as_sent r)) (part c past) ≡ (if b then Late (as_sent r) ∷ part c past else part c past)) [ true ↦ refl | false ↦ refl ]

  -- ---- indications ----

  pub tell-part : (m : List ℕ) (past : List Fact) → part c (tell device m past) ≡ (if contains c (receivers device m past) then end_known device c (Indicated m (c ∷ []) ∷ part c past) else part c past)
  tell-part m past = noted device c (Indicated m (receivers device m past)) past refl

  abbrev pub known_told : List ℕ → List Fact → Bool
  known_told m facts =
      is_present c facts && (if is_control m then is_open device (known_view c facts)
      else if cid_of m == 255 then holds_some c (service_of m) (held facts)
      else is_holder c (holder_in (service_of m) (cid_of m) (held facts)))

  pub told-part : (m : List ℕ) (past : List Fact) → IsSound qmi_limits past → contains c (receivers device m past) ≡ known_told m (part c past)
  told-part m past sound =
      choose (is_control m) (cid_of m == 255)
      ∙ ap (λ (b : Bool). b && (if is_control m then is_open device (view_of c past) else if cid_of m == 255 then holds_some c (service_of m) (held past) else is_holder c (holder_in (service_of m) (cid_of m) (held past)))) (sym (present-part c past))
      ∙ ap (λ (b : Bool). is_present c (part c past) && b)
      (three (is_control m) (cid_of m == 255)
      (ap (is_open device) (sym (view-part c past)))
      (some_by c (service_of m) (held past) ∙ ap (holds_some c (service_of m)) (sym (held-part c past sound)))
      (holder_by c (service_of m) (cid_of m) (held past) (held_once past) ∙ ap (λ l. is_holder c (holder_in (service_of m) (cid_of m) l)) (sym (held-part c past sound))))
    where
      choose : (a b : Bool) → contains c (if a then open_ones device past else if b then filter (λ c. holds_some c (service_of m) (held past)) (present past) else filter (λ c. is_holder c (holder_in (service_of m) (cid_of m) (held past))) (present past))
          ≡ (is_present c past && (if a then is_open device (view_of c past) else if b then holds_some c (service_of m) (held past) else is_holder c (holder_in (service_of m) (cid_of m) (held past))))
      choose true b = contains-filter c (λ c. is_open device (view_of c past)) (present past)
      choose false true = contains-filter c (λ c. holds_some c (service_of m) (held past)) (present past)
      choose false false = contains-filter c (λ c. is_holder c (holder_in (service_of m) (cid_of m) (held past))) (present past)

      three : (a b : Bool) {x x' y y' z z' : Bool} → x ≡ x' → y ≡ y' → z ≡ z' → (if a then x else if b then y else z) ≡ (if a then x' else if b then y' else z')
      three true b p q r = p
      three false true p q r = q
      three false false p q r = r
