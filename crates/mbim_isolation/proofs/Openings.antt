-- Who is answered when the modem answers the proxy's own request to open.
use Rattle.std.proofs.Common.{◌≡◌, ◌≢◌, ℕ, Bool, true, false, ◌&&◌, ◌==◌, is_some, if◌then◌else◌, List, refl, ap, sym, ◌∙◌, ⊎_elim, Contains}
use Rattle.std.proofs.lemmas.Bool.{true≢false}
use Rattle.mbim_frame.specs.Writing.{open_done}
use Rattle.proxy_history.specs.Events.{Event}
use Rattle.proxy_history.specs.Facts.{Fact, Request, Answered, OpeningEnded}
use Rattle.proxy_history.specs.Connections.{contains, is_present}
use Rattle.proxy_history.specs.Requests.{pending}
use Rattle.proxy_history.specs.View.{Entry, OpenedWith, entry_if, view}
use Rattle.proxy_history.specs.Rendering.{render, put}
use Rattle.proxy_history.specs.Wording.{text_behind}
use Rattle.proxy_history.specs.Coming.{AreSound}
use Rattle.proxy_history.proofs.Noted.{noted_view, answered_present}
use Rattle.mbim_proxy.specs.Setup.{Setup}
use Rattle.mbim_proxy.specs.Known.{waiting_number}
use Rattle.mbim_proxy.specs.Step.{view_of, known_from, known_now}
use Rattle.mbim_proxy.specs.Text.{mbim_wording, note}
use Rattle.mbim_proxy.specs.ModemStates.{is_own_open}
use Rattle.mbim_proxy.specs.Lists.{waiting}
use Rattle.mbim_proxy.specs.FromModem.{heard_as, is_answered_by, opening_status, end_opening, hear_modem}
use Rattle.mbim_proxy.specs.History.{mbim_protocol}
use Rattle.mbim_proxy.proofs.Waiting.{waits_is}
use Rattle.mbim_state.specs.Core.{HasNumbers}
use Rattle.mbim_state.proofs.Commands.{IsCommandOf, command_of}
use Rattle.mbim_isolation.specs.Laws.{bytes_for, facts_before, is_reply}
use Rattle.mbim_isolation.proofs.Answers.{regular_before, others_same, replied, other_is}

-- what the end of an opening adds to a view
pub opened_view : (s : Setup) (c status : ℕ) (past : List Fact) → view_of c (end_opening s status past) ≡ entry_if (contains c (waiting s past)) (OpenedWith status) (view_of c past)
unfolding view
opened_view s c status past = noted_view s.limits (mbim_wording s) c (OpeningEnded status (waiting s past)) past

-- what one who waits gets
abbrev pub opening_bytes : Setup → ℕ → (status : ℕ) → List Fact → List ℕ
opening_bytes s c status past = open_done (waiting_number (known_now s c past).waits) status

module _ (s : Setup) (within : HasNumbers s) (events : List Event) (earlier : List (List ℕ)) (coming : AreSound (mbim_protocol s) events) (m : List ℕ) (reply : is_reply (heard_as m) ≡ true)
    (r : Request) (at : Contains (pending (facts_before s events earlier)) r) (answers : is_answered_by (heard_as m) m r ≡ true) (opens : is_own_open r ≡ true) (c : ℕ) (client : c ≢ 0) where
  abbrev past : List Fact
  past = facts_before s events earlier

  abbrev answered : List Fact
  answered = note s (Answered r m) past

  own : r.conn ≡ 0
  own = ⊎_elim (λ (is : r.conn ≡ 0). is) (λ (is : IsCommandOf s past r). absurd (true≢false (sym opens ∙ is.command))) (command_of s past r (regular_before s events earlier coming) at)

  other : (r.conn == c) ≡ false
  other = ap (λ (d : ℕ). d == c) own ∙ other_is c 0 client

  same : view_of c answered ≡ view_of c past
  same = others_same s r m past c other

  same_waiting : contains c (waiting s answered) ≡ contains c (waiting s past)
  same_waiting =
      waits_is s c answered
      ∙ ap (λ (b : Bool). b && is_some (known_now s c answered).waits) (answered_present s.limits (mbim_wording s) c r m past other)
      ∙ ap (λ (entries : List Entry). is_present c past && is_some (known_from s entries).waits) same
      ∙ sym (waits_is s c past)

  heard : hear_modem s m past ≡ end_opening s (opening_status m) answered
  heard = replied s within events earlier coming m reply r at answers ∙ ap (λ (b : Bool). if b then end_opening s (opening_status m) answered else answered) opens

  seen : view_of c (hear_modem s m past) ≡ entry_if (contains c (waiting s past)) (OpenedWith (opening_status m)) (view_of c past)
  seen =
      ap (λ (facts : List Fact). view_of c facts) heard
      ∙ opened_view s c (opening_status m) answered
      ∙ ap (λ (b : Bool). entry_if b (OpenedWith (opening_status m)) (view_of c answered)) same_waiting
      ∙ ap (λ (entries : List Entry). entry_if (contains c (waiting s past)) (OpenedWith (opening_status m)) entries) same

  pub openings_answer_the_waiting : bytes_for s c (hear_modem s m past) ≡ (if contains c (waiting s past) then put s.limits.outbox (opening_bytes s c (opening_status m) past) (bytes_for s c past) else bytes_for s c past)
  unfolding render
  openings_answer_the_waiting =
      ap (render s.limits.outbox (text_behind (mbim_wording s))) seen
      ∙ elim (contains c (waiting s past)) as (λ b. render s.limits.outbox (text_behind (mbim_wording s)) (entry_if b (OpenedWith (opening_status m)) (view_of c past)) ≡ (if b then put s.limits.outbox (opening_bytes s c (opening_status m) past) (bytes_for s c past) else bytes_for s c past)) [ true ↦ refl | false ↦ refl ]
