-- What a client hears of the modem, it hears alone as well.
use Rattle.std.proofs.Common.{◌≡◌, ◌≢◌, ℕ, ◌≤◌, Bool, true, false, not, ◌&&◌, ◌||◌, ◌==◌, if◌then◌else◌, List, [], ◌∷◌, length, arith, refl, ap, sym, ◌∙◌, subst, Contains, Option, Some, None, option_and_then}
use Rattle.std.proofs.lemmas.Bool.{eqb-true}
use Rattle.std.proofs.lemmas.Bool.Decides.{nat_tests}
use Rattle.std.proofs.lemmas.List.Elements.{All-contains}
use Rattle.tlv_codec.specs.Outcome.{outcome_of}
use Rattle.tlv_codec.specs.Outcome as outcome
use Rattle.framing.specs.Framing.{IsMessage}
use Rattle.framing.specs.declared.framing.Size.TheVariants.{Known}
use Rattle.qmux_frame.specs.Frame.{size_of}
use Rattle.qmux_frame.specs.declared.kind.MessageKind.{MessageKind}
use Rattle.qmux_frame.specs.declared.kind.MessageKind.TheVariants as kind
use Rattle.qmux_frame.specs.Kind.{framed_kind}
use Rattle.qmux_frame.specs.Control.{is_allocate, is_release, is_sync}
use Rattle.qmux_frame.specs.Reply.{with_number}
use Rattle.proxy_history.specs.Facts.{Fact, Request, Answered, IdHeld, Late, Indicated, Stray, Granted, Freed, Reset}
use Rattle.proxy_history.specs.Connections.{contains, present, is_present}
use Rattle.proxy_history.specs.Requests.{in_use, pending, is_pending}
use Rattle.proxy_history.specs.ClientIds.{held, is_other}
use Rattle.proxy_history.proofs.Sound.{forwarded_from_in_use, waits}
use Rattle.proxy_history.proofs.SoundLaws.{waiting_are_parties}
use Rattle.proxy_solo.specs.Part as alone_part
use Rattle.proxy_history.specs.Sound.{IsSound, IsParty}
use Rattle.qmi_proxy.specs.Limits.{qmi_limits}
use Rattle.qmi_proxy.specs.Setup.{Setup}
use Rattle.qmi_proxy.specs.Messages.{value_of, has_length, byte_of, used_service, used_cid, is_success}
use Rattle.qmi_proxy.specs.Text.{blank, note}
use Rattle.qmi_proxy.specs.FromModem.{IdChange, NoChange, Grants, Collides, Frees, granted_unless, id_change, brings_id, holder_of_brought, answer_to, answer_or_late, respond, first_answered_by, abort_all, receivers, tell, indicate, hear_as, hear_modem}
use Rattle.qmux_frame.proofs.Framed.{framed_long, responses_framed}
use Rattle.qmi_proxy.proofs.Answered.{found_is}
use Rattle.proxy_solo.specs.Answers.{number_at, numbered, answer_alone}
use Rattle.qmi_solo.specs.Solo.{names_nobody, heard_alone}
use Rattle.proxy_solo.specs.Part.{as_sent, sent_by}
use Rattle.qmi_solo.specs.Part.{part}
use Rattle.qmi_solo.proofs.Fit.{Fit}
use Rattle.qmi_solo.proofs.Queries.{in_use-part, is_pending-part}
use Rattle.proxy_solo.proofs.Noting.{only}
use Rattle.qmi_solo.proofs.Actions.{end_known, noted, freed_same, known_aborts, aborts-part}
use Rattle.qmi_solo.proofs.Telling.{known_answer, answer-part, late-part, known_told, told-part, tell-part}
use Rattle.qmi_solo.proofs.Alone.{held_mine, nobody_else}
use Rattle.qmi_solo.proofs.Fair.{AreFair, fair_end, fair_each}
use Rattle.qmi_solo.proofs.EachKind.{by_kind}
use Rattle.qmi_solo.proofs.Numbering.{renumbered}
use Rattle.proxy_solo.proofs.Matching.{Twin, twin_of}
use Rattle.qmi_solo.proofs.Matching.{twin_number, twin_answered}

-- ---- what an answer does to the client ids ----

-- the value of a Result TLV says success
abbrev says_success : Option (List ℕ) → Bool
says_success value = outcome.is_success (option_and_then outcome_of value)

abbrev change_of : List ℕ → Option (List ℕ) → Option (List ℕ) → Bool → IdChange
change_of request id result other =
    if is_allocate request && says_success result && has_length 2 id && not (byte_of 0 id == 0) && not (byte_of 1 id == 0) && not (byte_of 1 id == 255) then granted_unless other (byte_of 0 id) (byte_of 1 id)
    else if is_release request && says_success result then Frees (used_service request) (used_cid request)
    else NoChange

unless_other : (brings other : Bool) (service cid : ℕ) (else_change : IdChange) → (if brings then granted_unless other service cid else else_change) ≢ Collides
    → (if brings then granted_unless other service cid else else_change) ≡ (if brings then granted_unless false service cid else else_change)
unless_other true true service cid else_change differs = absurd (differs refl)
unless_other true false service cid else_change differs = refl
unless_other false other service cid else_change differs = refl

module _ (s : Setup) (c : ℕ) where
  fair_answer : (r : Request) (m : List ℕ) (change : IdChange) (facts : List Fact) → AreFair (known_answer s.device c r m change facts) → (change ≢ Collides) × AreFair facts
  fair_answer r m NoChange facts fair = ((λ e. cc), (fair_end s.device c (Answered r m ∷ facts) fair).1)
  fair_answer r m (Grants service cid) facts fair = ((λ e. cc), (fair_end s.device c (Answered r m ∷ Granted r.conn service cid ∷ facts) fair).1.1)
  fair_answer r m Collides facts fair = absurd (let clash : true ≡ false = (fair_end s.device c (IdHeld r ∷ facts) fair).0 in cc)
  fair_answer r m (Frees service cid) facts fair = ((λ e. cc), (fair_end s.device c (Answered r m ∷ Freed r.conn service cid ∷ facts) fair).1.1)

  known_late : Bool → Request → List ℕ → IdChange → List Fact → List Fact
  known_late true r m after facts = known_answer s.device c r m after facts
  known_late false r m after facts = Late r ∷ facts

  -- the client isn't the proxy itself
  clients : (0 == c) ≡ false → (r : Request) → (r.conn == c) ≡ true → (r.conn == 0) ≡ false
  clients client r mine = grind (arith, nat_tests, client, mine)

  answered-part : (waiting : Bool) (r : Request) (m : List ℕ) (past : List Fact) → (0 == c) ≡ false → (r.conn == c) ≡ true
      → part c (answer_or_late s.device waiting r m past) ≡ known_late waiting (as_sent r) (blank m) (id_change r.conn r.message m (holder_of_brought m past)) (part c past)
  unfolding known_late
  answered-part true r m past client mine =
      ap (λ (own : Bool). part c (answer_to own s.device r m past)) (clients client r mine)
      ∙ answer-part s.device c r m (id_change r.conn r.message m (holder_of_brought m past)) past
      ∙ ap (λ (t : Bool). if t then known_answer s.device c (as_sent r) (blank m) (id_change r.conn r.message m (holder_of_brought m past)) (part c past) else part c past) mine
  answered-part false r m past client mine = late-part s.device c r past ∙ ap (λ (t : Bool). if t then Late (as_sent r) ∷ part c past else part c past) mine

  to_elsewhere : (own : Bool) (r : Request) (m : List ℕ) (past : List Fact) → (0 == c) ≡ false → (r.conn == c) ≡ false → part c (answer_to own s.device r m past) ≡ part c past
  to_elsewhere true r m past client theirs =
      freed_same s.device c client (used_service r.message) (used_cid r.message) (note s.device (Answered r m) past)
      ∙ noted s.device c (Answered r m) past (only c r.conn)
      ∙ ap (λ (t : Bool). if t then end_known s.device c (Answered (as_sent r) (blank m) ∷ part c past) else part c past) theirs
  to_elsewhere false r m past client theirs =
      answer-part s.device c r m (id_change r.conn r.message m (holder_of_brought m past)) past
      ∙ ap (λ (t : Bool). if t then known_answer s.device c (as_sent r) (blank m) (id_change r.conn r.message m (holder_of_brought m past)) (part c past) else part c past) theirs

  pub answered_elsewhere : (waiting : Bool) (r : Request) (m : List ℕ) (past : List Fact) → (0 == c) ≡ false → (r.conn == c) ≡ false → part c (answer_or_late s.device waiting r m past) ≡ part c past
  answered_elsewhere true r m past client theirs = to_elsewhere (r.conn == 0) r m past client theirs
  answered_elsewhere false r m past client theirs = late-part s.device c r past ∙ ap (λ (t : Bool). if t then Late (as_sent r) ∷ part c past else part c past) theirs

  fair_late : (waiting : Bool) (r : Request) (m : List ℕ) (change : IdChange) (facts : List Fact) → AreFair (known_late waiting r m change facts) → AreFair facts
  unfolding known_late
  fair_late true r m after facts fair = (fair_answer r m after facts fair).1
  fair_late false r m after facts fair = fair.1

  same_late : (waiting : Bool) (r : Request) (m : List ℕ) (one other : IdChange) (facts : List Fact) → (waiting ≡ true → one ≢ Collides → one ≡ other) → AreFair (known_late waiting r m one facts) → known_late waiting r m one facts ≡ known_late waiting r m other facts
  unfolding known_late
  same_late true r m one other facts same fair = ap (λ (change : IdChange). known_answer s.device c r m change facts) (same refl (fair_answer r m one facts fair).0)
  same_late false r m one other facts same fair = refl

  -- a Sync, and what else is told
  abbrev pub known_tell : List ℕ → List Fact → List Fact
  known_tell m facts = if known_told s.device c m facts then end_known s.device c (Indicated m (c ∷ []) ∷ facts) else facts

  pub tells-part : (m : List ℕ) (past : List Fact) → IsSound qmi_limits past → part c (tell s.device m past) ≡ known_tell m (part c past)
  tells-part m past sound = tell-part s.device c m past ∙ ap (λ (b : Bool). if b then end_known s.device c (Indicated m (c ∷ []) ∷ part c past) else part c past) (told-part s.device c m past sound)

  fair_tell : (m : List ℕ) (facts : List Fact) → AreFair (known_tell m facts) → AreFair facts
  fair_tell m facts fair = elim (known_told s.device c m facts) as (λ b. AreFair (if b then end_known s.device c (Indicated m (c ∷ []) ∷ facts) else facts) → AreFair facts) [ true ↦ λ f. (fair_end s.device c (Indicated m (c ∷ []) ∷ facts) f).1 | false ↦ λ f. f ] fair

  abbrev pub known_sync : List ℕ → List Fact → List Fact
  known_sync m facts = known_tell m (Reset ∷ known_aborts s.device c facts)

  pub syncs-part : {alone : Bool} (m : List ℕ) (past : List Fact) → Fit alone c past → part c (tell s.device m (Reset ∷ abort_all s.device past)) ≡ known_sync m (part c past)
  unfolding alone_part.part
  syncs-part m past F =
      let all = aborts-part s.device c past F in
      tells-part m (Reset ∷ abort_all s.device past) (tt, all.fit.sound) ∙ ap (λ (l : List Fact). known_tell m (Reset ∷ l)) all.same

  fair_sync : (m : List ℕ) (facts : List Fact) → AreFair (known_sync m facts) → AreFair facts
  fair_sync m facts fair = fair_each s.device c false _ facts (fair_tell m (Reset ∷ known_aborts s.device c facts) fair).1

  -- ---- a history of all, and one of the client alone ----

  module _ (past own : List Fact) (F : Fit false c past) (G : Fit true c own) (alike : part c past ≡ part c own) where
    sent_alike : sent_by c (in_use past) ≡ sent_by c (in_use own)
    sent_alike = sym (in_use-part c past F) ∙ ap in_use alike ∙ in_use-part c own G

    module _ (m : List ℕ) (r : Request) (long : 12 ≤ length m) (at : Contains (in_use past) r) (mine : (r.conn == c) ≡ true) (T : Twin c own r) where
      abbrev q : Request
      q = T.request

      abbrev later : List ℕ
      later = with_number q.number m

      waiting_alike : is_pending r past ≡ is_pending q own
      waiting_alike =
          is_pending-part c past r F (forwarded_from_in_use past r at) mine
          ∙ ap (is_pending (as_sent r)) alike
          ∙ ap (λ (x : Request). is_pending x (part c own)) (sym T.same)
          ∙ sym (is_pending-part c own q G (forwarded_from_in_use own q T.at) T.mine)

      -- who waits is there
      still_there : is_pending r past ≡ true → is_present c own ≡ true
      still_there is =
          let waiting : Contains (pending own) q = waits qmi_limits own q G.sound (forwarded_from_in_use own q T.at) (sym waiting_alike ∙ is) in
          let party : IsParty q.conn own = All-contains (λ (x : Request). IsParty x.conn own) (pending own) q (waiting_are_parties qmi_limits own G.sound) waiting in
          ap (λ (n : ℕ). contains n (present own)) (sym (eqb-true q.conn c T.mine)) ∙ (sym (ap (λ (b : Bool). b || contains q.conn (present own)) (clients G.client q T.mine)) ∙ party)

      change_alike : is_present c own ≡ true → id_change r.conn r.message m (holder_of_brought m past) ≢ Collides → id_change r.conn r.message m (holder_of_brought m past) ≡ id_change q.conn q.message later (holder_of_brought later own)
      change_alike there differs =
          let as_before = renumbered q.number m long in
          let nobody : is_other q.conn (holder_of_brought later own) ≡ false =
          subst (λ (x : ℕ). is_other x (holder_of_brought later own) ≡ false) (sym (eqb-true q.conn c T.mine)) (nobody_else c (byte_of 0 (value_of 0x01 later)) (byte_of 1 (value_of 0x01 later)) (held own) (held_mine c own G there))
          in
          unless_other (brings_id r.message m) (is_other r.conn (holder_of_brought m past)) (byte_of 0 (value_of 0x01 m)) (byte_of 1 (value_of 0x01 m)) (if is_release r.message && is_success m then Frees (used_service r.message) (used_cid r.message) else NoChange) differs
          ∙ ap (λ (v : Option (List ℕ)). change_of r.message v (value_of 0x02 m) false) (sym (as_before.value 0x01))
          ∙ ap (λ (v : Option (List ℕ)). change_of r.message (value_of 0x01 later) v false) (sym (as_before.value 0x02))
          ∙ ap (λ (l : List ℕ). change_of l (value_of 0x01 later) (value_of 0x02 later) false) (ap (λ (x : Request). x.message) (sym T.same))
          ∙ ap (λ (b : Bool). change_of q.message (value_of 0x01 later) (value_of 0x02 later) b) (sym nobody)

      answered_alike : AreFair (part c (answer_or_late s.device (is_pending r past) r m past)) → part c (answer_or_late s.device (is_pending r past) r m past) ≡ part c (answer_or_late s.device (is_pending q own) q later own)
      answered_alike fair =
          let change : IdChange = id_change r.conn r.message m (holder_of_brought m past) in
          let change_own : IdChange = id_change q.conn q.message later (holder_of_brought later own) in
          let here = answered-part (is_pending r past) r m past F.client mine in
          let there = answered-part (is_pending q own) q later own G.client T.mine in
          here
          ∙ same_late (is_pending r past) (as_sent r) (blank m) change change_own (part c past) (λ waits. change_alike (still_there waits)) (subst AreFair here fair)
          ∙ ap (λ (b : Bool). known_late b (as_sent r) (blank m) change_own (part c past)) waiting_alike
          ∙ ap (λ (x : Request). known_late (is_pending q own) x (blank m) change_own (part c past)) (sym T.same)
          ∙ ap (λ (l : List ℕ). known_late (is_pending q own) (as_sent q) l change_own (part c past)) (sym (renumbered q.number m long).blank)
          ∙ ap (known_late (is_pending q own) (as_sent q) (blank later) change_own) alike
          ∙ sym there

    -- what it hears alone comes to the same
    abbrev pub HeardAlike : List ℕ → Option (List ℕ) → Type 0
    HeardAlike m None = part c (hear_modem s.device m past) ≡ part c past
    HeardAlike m (Some x) = IsMessage size_of x × (part c (hear_modem s.device m past) ≡ part c (hear_modem s.device x own))

    message_too : (n : ℕ) (m : List ℕ) → 12 ≤ length m → IsMessage size_of m → IsMessage size_of (with_number n m)
    message_too n m long is = let same = renumbered n m long in same.size ∙ is ∙ ap (λ (k : ℕ). Known k) (sym same.long)

    response_alike : (m : List ℕ) → IsMessage size_of m → framed_kind m ≡ Some kind.Response → (found : Option Request) → first_answered_by m (in_use past) ≡ found
        → AreFair (part c (respond s.device found m past)) → part c (hear_modem s.device m past) ≡ part c (respond s.device found m past) → HeardAlike m (answer_alone with_number c found m (in_use own))
    unfolding alone_part.part
    response_alike m message is_answer None is fair heard = heard
    response_alike m message is_answer (Some r) is fair heard =
        let found = found_is m (in_use past) r is in
        let at = found.0 in
        let long = framed_long m (responses_framed m is_answer) in
        let step : (b : Bool) → (r.conn == c) ≡ b → HeardAlike m (if b then numbered with_number (number_at c r.place (in_use own)) m else None) =
        λ b. elim b as (λ b. (r.conn == c) ≡ b → HeardAlike m (if b then numbered with_number (number_at c r.place (in_use own)) m else None)) [
          | true ↦ λ mine.
              let T = twin_of c past own r sent_alike at mine in
              let later : List ℕ = with_number T.request.number m in
              let kind_later : framed_kind later ≡ Some kind.Response = (renumbered T.request.number m long).kind ∙ is_answer in
              let there : hear_modem s.device later own ≡ answer_or_late s.device (is_pending T.request own) T.request later own =
              ap (λ (h : Option MessageKind). hear_as h s.device later own) kind_later
              ∙ ap (λ (o : Option Request). respond s.device o later own) (twin_answered c own m r long G T found.1)
              in
              subst (λ (o : Option ℕ). HeardAlike m (numbered with_number o m)) (sym (twin_number c own r G T))
              (message_too T.request.number m long message, heard ∙ answered_alike m r long at mine T fair ∙ ap (part c) (sym there))
          | false ↦ λ theirs. heard ∙ answered_elsewhere (is_pending r past) r m past F.client theirs
        ]
        in step (r.conn == c) refl

    indication_alike : (m : List ℕ) → IsMessage size_of m → framed_kind m ≡ Some kind.Indication → HeardAlike m (heard_alone (Some kind.Indication) s c m past own)
    unfolding alone_part.part
    indication_alike m message is_indication =
        let heard : (facts : List Fact) → hear_modem s.device m facts ≡ indicate s.device m facts = λ facts. ap (λ (h : Option MessageKind). hear_as h s.device m facts) is_indication in
        let same_told : contains c (receivers s.device m past) ≡ known_told s.device c m (part c past) = told-part s.device c m past F.sound in
        let two : (sync nobody told : Bool) → is_sync m ≡ sync → names_nobody m ≡ nobody → contains c (receivers s.device m past) ≡ told → HeardAlike m (if sync || (not nobody && told) then Some m else None) =
        λ sync nobody told. elim sync as (λ sync. is_sync m ≡ sync → names_nobody m ≡ nobody → contains c (receivers s.device m past) ≡ told → HeardAlike m (if sync || (not nobody && told) then Some m else None)) [
          | true ↦ λ is e f.
              let done : (facts : List Fact) → hear_modem s.device m facts ≡ tell s.device m (Reset ∷ abort_all s.device facts) =
              λ facts. heard facts ∙ ap (λ (b : Bool). if b then tell s.device m (Reset ∷ abort_all s.device facts) else if names_nobody m then Stray ∷ facts else tell s.device m facts) is
              in
              (message, ap (part c) (done past) ∙ syncs-part m past F ∙ ap (known_sync m) alike ∙ sym (syncs-part m own G) ∙ ap (part c) (sym (done own)))
          | false ↦ λ is. elim nobody as (λ nobody. names_nobody m ≡ nobody → contains c (receivers s.device m past) ≡ told → HeardAlike m (if not nobody && told then Some m else None)) [
            | true ↦ λ e f. ap (part c) (heard past ∙ ap (λ (b : Bool). if b then tell s.device m (Reset ∷ abort_all s.device past) else if names_nobody m then Stray ∷ past else tell s.device m past) is ∙ ap (λ (b : Bool). if b then Stray ∷ past else tell s.device m past) e)
            | false ↦ λ e.
                let done : (facts : List Fact) → hear_modem s.device m facts ≡ tell s.device m facts =
                λ facts. heard facts ∙ ap (λ (b : Bool). if b then tell s.device m (Reset ∷ abort_all s.device facts) else if names_nobody m then Stray ∷ facts else tell s.device m facts) is ∙ ap (λ (b : Bool). if b then Stray ∷ facts else tell s.device m facts) e
                in
                elim told as (λ told. contains c (receivers s.device m past) ≡ told → HeardAlike m (if told then Some m else None)) [
                  | true ↦ λ f. (message, ap (part c) (done past) ∙ tells-part m past F.sound ∙ ap (known_tell m) alike ∙ sym (tells-part m own G.sound) ∙ ap (part c) (sym (done own)))
                  | false ↦ λ f. ap (part c) (done past) ∙ tell-part s.device c m past ∙ ap (λ (b : Bool). if b then end_known s.device c (Indicated m (c ∷ []) ∷ part c past) else part c past) f
                ]
          ]
        ]
        in two (is_sync m) (names_nobody m) (contains c (receivers s.device m past)) refl refl refl

    pub heard_alike : (m : List ℕ) → IsMessage size_of m → AreFair (part c (hear_modem s.device m past)) → HeardAlike m (heard_alone (framed_kind m) s c m past own)
    unfolding alone_part.part
    heard_alike m message fair =
        by_kind (λ h. framed_kind m ≡ h → HeardAlike m (heard_alone h s c m past own))
        (λ is.
        let heard : hear_modem s.device m past ≡ respond s.device (first_answered_by m (in_use past)) m past = ap (λ (h : Option MessageKind). hear_as h s.device m past) is in
        response_alike m message is (first_answered_by m (in_use past)) refl (subst (λ (l : List Fact). AreFair (part c l)) heard fair) (ap (part c) heard))
        (λ is. indication_alike m message is) (λ is. ap (λ (h : Option MessageKind). part c (hear_as h s.device m past)) is) (λ is. ap (λ (h : Option MessageKind). part c (hear_as h s.device m past)) is) (framed_kind m) refl

  -- ---- what was fair behind a message was so before it ----

  pub fair_heard : (m : List ℕ) (past : List Fact) → Fit false c past → AreFair (part c (hear_modem s.device m past)) → AreFair (part c past)
  unfolding alone_part.part
  fair_heard m past F fair =
      let Was : Option MessageKind → Type 0 = λ (h : Option MessageKind). AreFair (part c (hear_as h s.device m past)) → AreFair (part c past) in
      let answers : (found : Option Request) → AreFair (part c (respond s.device found m past)) → AreFair (part c past) =
      λ found. elim found as (λ found. AreFair (part c (respond s.device found m past)) → AreFair (part c past)) [
        | None ↦ λ f. f
        | Some r ↦
            let step : (b : Bool) → (r.conn == c) ≡ b → AreFair (part c (answer_or_late s.device (is_pending r past) r m past)) → AreFair (part c past) =
            λ b. elim b as (λ b. (r.conn == c) ≡ b → AreFair (part c (answer_or_late s.device (is_pending r past) r m past)) → AreFair (part c past)) [
              | true ↦ λ mine f. fair_late (is_pending r past) (as_sent r) (blank m) (id_change r.conn r.message m (holder_of_brought m past)) (part c past) (subst AreFair (answered-part (is_pending r past) r m past F.client mine) f)
              | false ↦ λ theirs f. subst AreFair (answered_elsewhere (is_pending r past) r m past F.client theirs) f
            ]
            in step (r.conn == c) refl
      ]
      in
      let told : AreFair (part c (tell s.device m past)) → AreFair (part c past) = λ f. fair_tell m (part c past) (subst AreFair (tells-part m past F.sound) f) in
      let synced : AreFair (part c (tell s.device m (Reset ∷ abort_all s.device past))) → AreFair (part c past) = λ f. fair_sync m (part c past) (subst AreFair (syncs-part m past F) f) in
      by_kind Was (answers (first_answered_by m (in_use past)))
      (elim (is_sync m) as (λ b. AreFair (part c (if b then tell s.device m (Reset ∷ abort_all s.device past) else if names_nobody m then Stray ∷ past else tell s.device m past)) → AreFair (part c past)) [
        | true ↦ synced
        | false ↦ elim (names_nobody m) as (λ b. AreFair (part c (if b then Stray ∷ past else tell s.device m past)) → AreFair (part c past)) [ true ↦ λ f. f | false ↦ told ]
      ]) (λ f. f) (λ f. f) (framed_kind m) fair
