-- Who gets an indication.
use Rattle.std.proofs.Common.{◌≡◌, ℕ, ◌≤◌, Bool, true, false, ◌&&◌, ◌==◌, nat_le, if◌then◌else◌, List, length, refl, ap, ◌∙◌, arith}
use Rattle.std.proofs.lemmas.Bool.{and_parts}
use Rattle.std.proofs.lemmas.Bool.Decides.{nat_tests}
use Rattle.std.proofs.lemmas.List.{length-drop}
use Rattle.kit_bytes.specs.Indications.{wants}
use Rattle.mbim_frame.specs.declared.kind.MessageKind.TheVariants.{CommandDone, OpenDone, FunctionError, IndicateStatus}
use Rattle.mbim_frame.specs.Kinds.{kind_number}
use Rattle.mbim_frame.specs.Head.{is_kind}
use Rattle.mbim_frame.specs.Fragment.{body_of}
use Rattle.mbim_frame.specs.Bodies.{is_done, is_indication, uuid_of, cid_of}
use Rattle.proxy_history.specs.Facts.{Fact, Indicated}
use Rattle.proxy_history.specs.Connections.{contains, present}
use Rattle.proxy_history.specs.View.{Indication, entry_if, view}
use Rattle.proxy_history.specs.Rendering.{render, put}
use Rattle.proxy_history.specs.Wording.{text_behind}
use Rattle.proxy_history.proofs.Lists.{contains_kept}
use Rattle.proxy_history.proofs.Noted.{noted_view}
use Rattle.mbim_proxy.specs.Setup.{Setup}
use Rattle.mbim_proxy.specs.Step.{blank, view_of, known_now}
use Rattle.mbim_proxy.specs.Text.{in_fragments, mbim_wording}
use Rattle.mbim_proxy.specs.Lists.{open_ones, list_of, receivers}
use Rattle.mbim_proxy.specs.FromModem.{Heard, IsDone, IsOpenDone, IsError, IsIndication, IsNeither, heard_if, heard_as, hear_as, hear_modem}
use Rattle.mbim_state.proofs.Texts.{same_body}
use Rattle.mbim_isolation.specs.Laws.{bytes_for, is_told}

-- an indication has a whole head
indicated_by : (done opened error indicated whole short : Bool) (body : List ℕ) → (if done then heard_if whole IsDone else if opened then heard_if short IsOpenDone else if error then heard_if short IsError else if indicated then heard_if (is_indication body) IsIndication else IsNeither) ≡ IsIndication
    → is_indication body ≡ true
indicated_by true opened error indicated true short body is = absurd (cc)
indicated_by true opened error indicated false short body is = absurd (cc)
indicated_by false true error indicated whole true body is = absurd (cc)
indicated_by false true error indicated whole false body is = absurd (cc)
indicated_by false false true indicated whole true body is = absurd (cc)
indicated_by false false true indicated whole false body is = absurd (cc)
indicated_by false false false true whole short body is = elim (is_indication body) as (λ b. heard_if b IsIndication ≡ IsIndication → b ≡ true) [ true ↦ λ e. refl | false ↦ λ e. absurd (cc) ] is
indicated_by false false false false whole short body is = absurd (cc)

long : (m : List ℕ) → heard_as m ≡ IsIndication → 12 ≤ length m
long m is =
    let whole : is_indication (body_of m) ≡ true = indicated_by (is_kind CommandDone m) (is_kind OpenDone m) (is_kind FunctionError m) (is_kind IndicateStatus m) (is_done (body_of m)) (length m == 16) (body_of m) is in
    let at_least : nat_le 24 (length (body_of m)) ≡ true = (and_parts (nat_le 24 (length (body_of m))) _ whole).0 in
    let least : 24 ≤ length (body_of m) = grind (arith, nat_tests, at_least) in
    omega (arith, least, length-drop 20 m)

module _ (s : Setup) (m : List ℕ) (past : List Fact) (c : ℕ) (is : heard_as m ≡ IsIndication) where
  abbrev uuid : List ℕ
  uuid = uuid_of (body_of m)

  abbrev cid : ℕ
  cid = cid_of (body_of m)

  told : contains c (receivers s uuid cid past) ≡ is_told s c m past
  told =
      contains_kept c (λ (d : ℕ). wants (list_of s d past) uuid cid) (open_ones s past)
      ∙ ap (λ (b : Bool). b && wants (list_of s c past) uuid cid) (contains_kept c (λ (d : ℕ). (known_now s d past).opened) (present past))

  abbrev bytes : List ℕ → List ℕ
  bytes body = in_fragments (known_now s c past) (kind_number IndicateStatus) 0 body

  pub indications_reach_their_receivers : bytes_for s c (hear_modem s m past) ≡ (if is_told s c m past then put s.limits.outbox (bytes (body_of m)) (bytes_for s c past) else bytes_for s c past)
  unfolding view render
  indications_reach_their_receivers =
      ap (λ (heard : Heard). bytes_for s c (hear_as s heard m past)) is
      ∙ ap (render s.limits.outbox (text_behind (mbim_wording s))) (noted_view s.limits (mbim_wording s) c (Indicated (blank m) (receivers s uuid cid past)) past)
      ∙ ap (λ (b : Bool). render s.limits.outbox (text_behind (mbim_wording s)) (entry_if b (Indication (blank m)) (view_of c past))) told
      ∙ elim (is_told s c m past) as (λ b. render s.limits.outbox (text_behind (mbim_wording s)) (entry_if b (Indication (blank m)) (view_of c past)) ≡ (if b then put s.limits.outbox (bytes (body_of m)) (bytes_for s c past) else bytes_for s c past)) [
        | true ↦ ap (λ (body : List ℕ). put s.limits.outbox (bytes body) (bytes_for s c past)) (same_body m (long m is))
        | false ↦ refl
      ]
