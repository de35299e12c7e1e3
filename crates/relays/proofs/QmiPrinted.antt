-- What a tool ends with and prints, at a fresh simulated modem itself and through a proxy.
use Rattle.std.proofs.Common.{◌≡◌, ◌⊎◌, inl, inr, ℕ, Bool, true, false, List, [], ◌++◌, Option, Some, None, refl, ap, sym, ◌∙◌, subst}
use Rattle.qmux_frame.specs.Head.{tlvs_in}
use Rattle.qmi_requests.specs.declared.QmiRequest.{QmiRequest}
use Rattle.qmi_services.specs.Requests.{row_of}
use Rattle.device_core.specs.Peer.{LastWord, OfAnswer, EndsAs, EndsWith}
use Rattle.device_core.specs.Session.{Reads, end_with}
use Rattle.device_core.specs.Hearing.{failure_in}
use Rattle.std.specs.Prelude.{Result, Ok, Err}
use Rattle.std.specs.List.{flat_map}
use Rattle.link_session.specs.declared.fault.SessionFault.{SessionFault}
use Rattle.link_session.specs.declared.fault.SessionFault.TheVariants as fault
use Rattle.link_session.specs.Marks.{Placed}
use Rattle.qmux_frame.specs.Head.{is_framed}
use Rattle.qmi_services.specs.declared.answers.QmiAnswer.{QmiAnswer}
use Rattle.qmi_services.specs.declared.answers.QmiAnswer.TheVariants.{Success, Failure}
use Rattle.qmi_services.specs.declared.answers.QmiEnd.{QmiEnd}
use Rattle.qmi_services.specs.Answers.{Reading, unread, failure, success, fields_view}
use Rattle.qmi_services.specs.Answers.{Answers as Answers_of, Reads as Reads_tlvs}
use Rattle.qmi_services.specs.Table.{Output}
use Rattle.qmi_services.proofs.Lines.{outputs-well_made}
use Rattle.qmi_services.proofs.OneWay.{one_way}
use Rattle.print_text.specs.Lines.{or_ok}
use Rattle.qmicli_print.specs.Answer.{field_text, kept_text, end_text}
use Rattle.twin_sessions.specs.QmiRuns.{ReadsAs, Alike}
use Rattle.twin_sessions.proofs.QmiSessions as twin
use Rattle.relays.specs.QmiRuns.{setup_of, direct_run, through_run}
use Rattle.relays.specs.QmiLaw.{PrintsTheSame, SessionsEndAlike, RelaysMayCome, ToolsPrintTheSame}
use Rattle.relays.proofs.QmiServed.{modem, is_served}

pub sessions_end_alike : SessionsEndAlike
sessions_end_alike profile plan within sound is = twin.sessions_end_alike (setup_of plan) (modem profile) plan refl refl (is_served profile plan within sound is)

pub relays_may_come : RelaysMayCome
relays_may_come profile plan within sound is = twin.sessions_may_come (setup_of plan) (modem profile) plan refl refl (is_served profile plan within sound is)

-- ---- what is printed ----

abbrev reading_of : QmiAnswer → Reading
reading_of (Success fields) = success (fields_view fields)
reading_of (Failure error) = failure error

text_by : Reading → Option (ℕ × ℕ) → List ℕ
text_by unread kept = []
text_by (failure error) kept = []
text_by (success fields) kept = or_ok (flat_map field_text fields) ++ kept_text kept

error_by : Reading → Option ℕ
error_by unread = None
error_by (failure error) = Some error
error_by (success fields) = None

text_is : (answer : QmiAnswer) (kept : Option (ℕ × ℕ)) → end_text (record { answer = answer; kept = kept }) ≡ text_by (reading_of answer) kept
unfolding text_by
text_is (Success fields) kept = refl
text_is (Failure error) kept = refl

error_is : (answer : QmiAnswer) → failure_in answer ≡ error_by (reading_of answer)
unfolding error_by
error_is (Success fields) = refl
error_is (Failure error) = refl

reads_so : (outputs : List Output) (tlvs : List ℕ) (answer : QmiAnswer) → Answers_of outputs tlvs (Ok answer) → Reads_tlvs outputs tlvs (reading_of answer)
reads_so outputs tlvs (Success fields) is = is
reads_so outputs tlvs (Failure error) is = is

never_unread : (answer : QmiAnswer) → reading_of answer ≡ unread → ⊥
never_unread (Success fields) is = absurd (cc)
never_unread (Failure error) is = absurd (cc)

module _ (body : QmiRequest) (a b : Placed) (same : ReadsAs a.bytes b.bytes) where
  abbrev outputs : List Output
  outputs = (row_of body).output

  -- both of the same bytes
  one : (x y : Reading) → Reads_tlvs outputs (tlvs_in a.bytes) x → Reads_tlvs outputs (tlvs_in b.bytes) y → x ≡ y
  one x y is_x is_y = one_way outputs (tlvs_in a.bytes) x y (outputs-well_made body) is_x (subst (λ (l : List ℕ). Reads_tlvs outputs l y) (sym same.tlvs) is_y)

  -- an answer that reads, and one that doesn't
  never : (answer : QmiAnswer) (framed : Bool) → is_framed a.bytes ≡ true → Reads_tlvs outputs (tlvs_in a.bytes) (reading_of answer) → (is_framed a.bytes ≡ false) ⊎ Reads_tlvs outputs (tlvs_in a.bytes) unread → ⊥
  never answer framed is reads (inl isnt) = let both : true ≡ false = sym is ∙ isnt in absurd (cc)
  never answer framed is reads (inr other) = never_unread answer (one_way outputs (tlvs_in a.bytes) (reading_of answer) unread (outputs-well_made body) reads other)

  moved : (is_framed b.bytes ≡ false) ⊎ Reads_tlvs outputs (tlvs_in b.bytes) unread → (is_framed a.bytes ≡ false) ⊎ Reads_tlvs outputs (tlvs_in a.bytes) unread
  moved (inl isnt) = inl (same.framed ∙ isnt)
  moved (inr other) = inr (subst (λ (l : List ℕ). Reads_tlvs outputs l unread) (sym same.tlvs) other)

  same_by : (kept : Option (ℕ × ℕ)) (x y : Result QmiAnswer SessionFault) (direct through : Result QmiEnd SessionFault) → Reads body a x → Reads body b y → EndsAs x kept direct → EndsAs y kept through → PrintsTheSame direct through
  same_by kept (Ok p) (Ok q) direct through reads_p reads_q ends_p ends_q =
      let same_reading : reading_of p ≡ reading_of q = one (reading_of p) (reading_of q) (reads_so outputs (tlvs_in a.bytes) p reads_p.1) (reads_so outputs (tlvs_in b.bytes) q reads_q.1) in
      subst (λ (r : Result QmiEnd SessionFault). PrintsTheSame direct r) (sym ends_q) (subst (λ (r : Result QmiEnd SessionFault). PrintsTheSame r (end_with q kept)) (sym ends_p)
      (text_is p kept ∙ ap (λ (x : Reading). text_by x kept) same_reading ∙ sym (text_is q kept), error_is p ∙ ap error_by same_reading ∙ sym (error_is q)))
  same_by kept (Ok p) (Err (fault.Broken place)) direct through reads_p reads_q ends_p ends_q = absurd (never p true reads_p.0 (reads_so outputs (tlvs_in a.bytes) p reads_p.1) (moved reads_q.1))
  same_by kept (Err (fault.Broken place)) (Ok q) direct through reads_p reads_q ends_p ends_q =
      absurd (never q true (same.framed ∙ reads_q.0) (subst (λ (l : List ℕ). Reads_tlvs outputs l (reading_of q)) (sym same.tlvs) (reads_so outputs (tlvs_in b.bytes) q reads_q.1)) reads_p.1)
  same_by kept (Err (fault.Broken place)) (Err (fault.Broken place')) direct through reads_p reads_q ends_p ends_q =
      subst (λ (r : Result QmiEnd SessionFault). PrintsTheSame direct r) (sym ends_q) (subst (λ (r : Result QmiEnd SessionFault). PrintsTheSame r (Err (fault.Broken place'))) (sym ends_p) tt)
  same_by kept (Err fault.OutOfMemory) y direct through reads_p reads_q ends_p ends_q = subst (λ (r : Result QmiEnd SessionFault). PrintsTheSame r through) (sym ends_p) tt
  same_by kept x (Err fault.OutOfMemory) direct through reads_p reads_q ends_p ends_q = subst (λ (r : Result QmiEnd SessionFault). PrintsTheSame direct r) (sym ends_q) (any_memory direct)
    where
      any_memory : (r : Result QmiEnd SessionFault) → PrintsTheSame r (Err fault.OutOfMemory)
      any_memory (Ok end) = tt
      any_memory (Err fault.OutOfMemory) = tt
      any_memory (Err why) = tt
  same_by kept (Ok p) (Err why) direct through reads_p reads_q ends_p ends_q = absurd reads_q
  same_by kept (Err (fault.Broken place)) (Err why) direct through reads_p reads_q ends_p ends_q = absurd reads_q
  same_by kept (Err why) y direct through reads_p reads_q ends_p ends_q = absurd reads_p

pub words_print : (w v : LastWord) (direct through : Result QmiEnd SessionFault) → Alike w v → EndsWith direct w → EndsWith through v → PrintsTheSame direct through
words_print (OfAnswer body kept a) (OfAnswer other kept' b) direct through (is_body, is_kept, same) (x, reads_x, ends_x) (y, reads_y, ends_y) =
    same_by body a b same kept x y direct through reads_x (subst (λ (r : QmiRequest). Reads r b y) (sym is_body) reads_y) ends_x (subst (λ (k : Option (ℕ × ℕ)). EndsAs y k through) (sym is_kept) ends_y)
words_print w v direct through alike ends ends' = absurd alike

pub tools_print_the_same : ToolsPrintTheSame
tools_print_the_same profile plan within sound is direct through ends ends' = words_print (direct_run profile plan).end (through_run profile plan).end direct through (sessions_end_alike profile plan within sound is) ends ends'
