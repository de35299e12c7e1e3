-- The items of one event: what others do, what the client does, and what the modem says.
use Rattle.std.proofs.Common.{◌≡◌, ℕ, ◌≤◌, Bool, true, false, ◌==◌, nat_lt, if◌then◌else◌, List, [], ◌∷◌, ◌++◌, length, map, refl, ap, sym, ◌∙◌, subst, Option, Some, None}
use Rattle.proxy_history.specs.History as proxy
use Rattle.proxy_history.specs.Items.{Joins, Says, GoesBad, Leaves, Takes, item_if}
use Rattle.proxy_history.specs.Facts.{Fact, Admitted, Ended, NotAdmitted, BadStream, Leaving, Taken}
use Rattle.proxy_history.specs.Connections.{present, is_present}
use Rattle.proxy_history.specs.Sound.{IsSound}
use Rattle.proxy_history.specs.Requests.{in_use}
use Rattle.proxy_history.specs.Modem.{now, modem_queue}
use Rattle.proxy_solo.specs.Part as alone_part
use Rattle.qmi_proxy.specs.Limits.{connection_limit, qmi_limits}
use Rattle.qmi_proxy.specs.Setup.{Setup}
use Rattle.qmux_frame.specs.Reply.{with_number}
use Rattle.qmux_frame.specs.declared.kind.MessageKind.{MessageKind}
use Rattle.qmux_frame.specs.declared.kind.MessageKind.TheVariants as kind
use Rattle.qmi_proxy.specs.Clients.{wire, decision_on, hear_client}
use Rattle.qmi_proxy.specs.FromModem.{first_answered_by}
use Rattle.qmi_proxy.specs.History.{qmi_protocol, add, add_all}
use Rattle.qmi_proxy.proofs.Walk.{Asks, orderly}
use Rattle.proxy_solo.proofs.Time.{item_keeps_time}
use Rattle.proxy_solo.specs.Answers.{answer_alone}
use Rattle.qmi_solo.specs.Solo.{heard_alone}
use Rattle.qmi_solo.proofs.Meets.{fact_if}
use Rattle.qmi_solo.specs.Part.{part}
use Rattle.qmi_solo.proofs.Fit.{ComesFrom, Fit}
use Rattle.qmi_solo.proofs.Queries.{present-part}
use Rattle.proxy_solo.proofs.Lists.{self}
use Rattle.qmi_solo.proofs.Fair.{AreFair}
use Rattle.qmi_solo.proofs.Fits.{fit_add}
use Rattle.qmi_solo.proofs.Saying.{says_elsewhere, fair_said, says_alike, SaidAlike}
use Rattle.qmi_solo.proofs.Room.{room_kept}

said_time : (s : Setup) (c : ℕ) (m : List ℕ) (past : List Fact) → IsSound qmi_limits past → now (add s (Says c m) past) ≡ now past
said_time s c m past sound = item_keeps_time (qmi_protocol s) (Asks s) (orderly s) (Says c m) past sound refl

module _ (s : Setup) (c : ℕ) where
  either : (b : Bool) (one other past : List Fact) → part c one ≡ part c past → part c other ≡ part c past → part c (if b then one else other) ≡ part c past
  either true one other past x y = x
  either false one other past x y = y

  -- ---- what others do ----

  module _ (d : ℕ) (other : (d == c) ≡ false) where
    skipped : (fact : Fact) (past : List Fact) → part c (fact ∷ past) ≡ fact_if (d == c) fact (part c past) → part c (fact ∷ past) ≡ part c past
    skipped fact past is = is ∙ ap (λ (b : Bool). fact_if b fact (part c past)) other

    pub joins_elsewhere : (past : List Fact) → part c (add s (Joins d) past) ≡ part c past
    unfolding alone_part.part
    joins_elsewhere past = either (nat_lt (length (present past)) connection_limit) (Admitted d ∷ past) (Ended d NotAdmitted ∷ past) past (skipped (Admitted d) past refl) (skipped (Ended d NotAdmitted) past refl)

    pub leaves_elsewhere : (past : List Fact) → part c (add s (Leaves d) past) ≡ part c past
    unfolding alone_part.part
    leaves_elsewhere past = either (is_present d past) (Ended d Leaving ∷ past) past past (skipped (Ended d Leaving) past refl) refl

    pub takes_elsewhere : (count : ℕ) (past : List Fact) → part c (add s (Takes d count) past) ≡ part c past
    unfolding alone_part.part
    takes_elsewhere count past = either (is_present d past) (Taken d count ∷ past) past past (skipped (Taken d count) past refl) refl

    goes_bad_elsewhere : (past : List Fact) → part c (add s (GoesBad d) past) ≡ part c past
    unfolding alone_part.part
    goes_bad_elsewhere past = either (is_present d past) (Ended d BadStream ∷ past) past past (skipped (Ended d BadStream) past refl) refl

    pub piece_elsewhere : (messages : List (List ℕ)) (bad : Bool) (past : List Fact) → part c (add_all s (map (λ m. Says d m) messages ++ item_if bad (GoesBad d)) past) ≡ part c past
    unfolding proxy.add_all
    piece_elsewhere [] true past = goes_bad_elsewhere past
    piece_elsewhere [] false past = refl
    piece_elsewhere (m ∷ messages) bad past =
        piece_elsewhere messages bad (add s (Says d m) past)
        ∙ either (is_present d past) (hear_client s d m past) past past (says_elsewhere s c d other m (decision_on s d m past) past) refl

  -- the messages of a client keep a history of all fit
  pub piece_fits : (alone : Bool) (d : ℕ) → ComesFrom alone c d → (messages : List (List ℕ)) (bad : Bool) (past : List Fact) → Fit alone c past → Fit alone c (add_all s (map (λ m. Says d m) messages ++ item_if bad (GoesBad d)) past)
  unfolding proxy.add_all
  piece_fits alone d from [] true past F = fit_add alone c s (GoesBad d) past F tt
  piece_fits alone d from [] false past F = F
  piece_fits alone d from (m ∷ messages) bad past F = piece_fits alone d from messages bad (add s (Says d m) past) (fit_add alone c s (Says d m) past F from)

  -- ---- what the client does ----

  pub record Pair (past own : List Fact) : Type 0 where
    pub same : part c past ≡ part c own
    pub fit : Fit false c past
    pub alone : Fit true c own
    pub time : now past ≡ now own
    pub room : length (modem_queue wire own) ≤ length (modem_queue wire past)

  there_alike : (past own : List Fact) → part c past ≡ part c own → is_present c past ≡ is_present c own
  there_alike past own same = sym (present-part c past) ∙ ap (is_present c) same ∙ present-part c own

  -- the same is done in both where the client is there
  pub both : (b b' : Bool) (past own after after_own : List Fact) → b ≡ b' → part c past ≡ part c own → part c after ≡ part c after_own → part c (if b then after else past) ≡ part c (if b' then after_own else own)
  both true true past own after after_own e x y = y
  both true false past own after after_own e x y = absurd (cc)
  both false true past own after after_own e x y = absurd (cc)
  both false false past own after after_own e x y = x

  fact_both : (fact : Fact) (past own : List Fact) → part c (fact ∷ past) ≡ fact_if (c == c) fact (part c past) → part c (fact ∷ own) ≡ fact_if (c == c) fact (part c own) → part c past ≡ part c own → part c (fact ∷ past) ≡ part c (fact ∷ own)
  fact_both fact past own one two same = one ∙ ap (fact_if (c == c) fact) same ∙ sym two

  pub leaves_both : (past own : List Fact) → part c past ≡ part c own → part c (add s (Leaves c) past) ≡ part c (add s (Leaves c) own)
  unfolding alone_part.part
  leaves_both past own same = both (is_present c past) (is_present c own) past own (Ended c Leaving ∷ past) (Ended c Leaving ∷ own) (there_alike past own same) same (fact_both (Ended c Leaving) past own refl refl same)

  pub takes_both : (count : ℕ) (past own : List Fact) → part c past ≡ part c own → part c (add s (Takes c count) past) ≡ part c (add s (Takes c count) own)
  unfolding alone_part.part
  takes_both count past own same = both (is_present c past) (is_present c own) past own (Taken c count ∷ past) (Taken c count ∷ own) (there_alike past own same) same (fact_both (Taken c count) past own refl refl same)

  goes_bad_both : (past own : List Fact) → part c past ≡ part c own → part c (add s (GoesBad c) past) ≡ part c (add s (GoesBad c) own)
  unfolding alone_part.part
  goes_bad_both past own same = both (is_present c past) (is_present c own) past own (Ended c BadStream ∷ past) (Ended c BadStream ∷ own) (there_alike past own same) same (fact_both (Ended c BadStream) past own refl refl same)

  fair_says : (m : List ℕ) (past : List Fact) → AreFair (part c (add s (Says c m) past)) → AreFair (part c past)
  fair_says m past fair = elim (is_present c past) as (λ b. AreFair (part c (if b then hear_client s c m past else past)) → AreFair (part c past)) [ true ↦ fair_said s c m past | false ↦ λ f. f ] fair

  fair_goes_bad : (past : List Fact) → AreFair (part c (add s (GoesBad c) past)) → AreFair (part c past)
  unfolding alone_part.part
  fair_goes_bad past fair =
      elim (is_present c past) as (λ b. AreFair (part c (if b then Ended c BadStream ∷ past else past)) → AreFair (part c past)) [
        | true ↦ λ f. elim (c == c) as (λ b. AreFair (fact_if b (Ended c BadStream) (part c past)) → AreFair (part c past)) [ true ↦ λ g. g.1 | false ↦ λ g. g ] f
        | false ↦ λ f. f
      ] fair

  pub fair_piece : (messages : List (List ℕ)) (bad : Bool) (past : List Fact) → AreFair (part c (add_all s (map (λ m. Says c m) messages ++ item_if bad (GoesBad c)) past)) → AreFair (part c past)
  unfolding proxy.add_all
  fair_piece [] true past fair = fair_goes_bad past fair
  fair_piece [] false past fair = fair
  fair_piece (m ∷ messages) bad past fair = fair_says m past (fair_piece messages bad (add s (Says c m) past) fair)

  says_pair : (m : List ℕ) (past own : List Fact) → Pair past own → AreFair (part c (add s (Says c m) past)) → Pair (add s (Says c m) past) (add s (Says c m) own)
  says_pair m past own P fair = record {
    same = same_by (is_present c past) (is_present c own) (there_alike past own P.same) refl;
    fit = fit_add false c s (Says c m) past P.fit tt;
    alone = fit_add true c s (Says c m) own P.alone (self c);
    time = said_time s c m past P.fit.sound ∙ P.time ∙ sym (said_time s c m own P.alone.sound);
    room = room_by (is_present c past) (is_present c own) (there_alike past own P.same) refl;
  }
    where
      fair_if : (b : Bool) → is_present c past ≡ b → AreFair (part c (if b then hear_client s c m past else past))
      fair_if b is = subst (λ (t : Bool). AreFair (part c (if t then hear_client s c m past else past))) is fair

      own_there : is_present c past ≡ true → is_present c own ≡ true
      own_there is = sym (there_alike past own P.same) ∙ is

      said : (is : is_present c past ≡ true) → SaidAlike s c m past own P.fit P.alone P.same P.time P.room (own_there is)
      said is = says_alike s c m past own P.fit P.alone P.same P.time P.room (own_there is) (fair_if true is)

      same_by : (b b' : Bool) → b ≡ b' → is_present c past ≡ b → part c (if b then hear_client s c m past else past) ≡ part c (if b' then hear_client s c m own else own)
      same_by true true e is = (said is).part_same
      same_by true false e is = absurd (cc)
      same_by false true e is = absurd (cc)
      same_by false false e is = P.same

      room_by : (b b' : Bool) → b ≡ b' → is_present c past ≡ b → length (modem_queue wire (if b' then hear_client s c m own else own)) ≤ length (modem_queue wire (if b then hear_client s c m past else past))
      room_by true true e is =
          room_kept s c m (decision_on s c m past) (decision_on s c m own) past own P.fit.fits P.alone.fits (said is).decision_same_too P.room
      room_by true false e is = absurd (cc)
      room_by false true e is = absurd (cc)
      room_by false false e is = P.room

  pub piece_both : (messages : List (List ℕ)) (bad : Bool) (past own : List Fact) → Pair past own → AreFair (part c (add_all s (map (λ m. Says c m) messages ++ item_if bad (GoesBad c)) past))
      → part c (add_all s (map (λ m. Says c m) messages ++ item_if bad (GoesBad c)) past) ≡ part c (add_all s (map (λ m. Says c m) messages ++ item_if bad (GoesBad c)) own)
  unfolding proxy.add_all
  piece_both [] true past own P fair = goes_bad_both past own P.same
  piece_both [] false past own P fair = P.same
  piece_both (m ∷ messages) bad past own P fair =
      piece_both messages bad (add s (Says c m) past) (add s (Says c m) own) (says_pair m past own P (fair_piece messages bad (add s (Says c m) past) fair)) fair

  -- ---- what the modem says ----

  pub heard_by : (heard : Option MessageKind) (m : List ℕ) (past one two : List Fact) → in_use one ≡ in_use two → heard_alone heard s c m past one ≡ heard_alone heard s c m past two
  heard_by (Some kind.Response) m past one two same = ap (answer_alone with_number c (first_answered_by m (in_use past)) m) same
  heard_by (Some kind.Indication) m past one two same = refl
  heard_by (Some kind.Request) m past one two same = refl
  heard_by None m past one two same = refl
