-- The client's own pieces: alone it sends them message by message, and the modem answers its request to open where it is open for the others already.
use Rattle.std.proofs.Common.{◌≡◌, ◌≢◌, inl, inr, ℕ, ◌+◌, ◌^◌, ◌≤◌, ◌<◌, Bool, true, false, ◌&&◌, ◌==◌, is_none, if◌then◌else◌, List, [], ◌∷◌, ◌++◌, length, refl, ap, sym, ◌∙◌, subst, ⊎_elim, arith, append_assoc, append-nil, Option, Some, None}
use Rattle.std.specs.List.{AllByRecursion, concat}
use Rattle.std.proofs.lemmas.List.Elements.{All-append, All-from_recursion, recursion_from_All}
use Rattle.mbim_frame.specs.declared.status.TheConstants.{SUCCESS}
use Rattle.mbim_frame.specs.Frame.{size_of}
use Rattle.mbim_frame.specs.Head.{with_number}
use Rattle.mbim_frame.specs.Writing.{open_done}
use Rattle.proxy_history.specs.Events.{Event, Piece}
use Rattle.proxy_history.specs.Streams.{stream, modem_stream, messages_of_piece, is_bad}
use Rattle.proxy_history.specs.Items.{Item, Says, GoesBad, ModemSays, item_if, client_items, items_of}
use Rattle.proxy_history.specs.Facts.{Fact, Request, Waits, Ready, EventBegan, Judged, OpeningEnded}
use Rattle.proxy_history.specs.Decision.{Decision, Replies}
use Rattle.proxy_history.specs.Connections.{contains, is_present, message_count}
use Rattle.proxy_history.specs.Requests.{pending}
use Rattle.proxy_history.specs.Modem.{now, modem_queue}
use Rattle.proxy_history.specs.Sound.{IsSound}
use Rattle.proxy_history.specs.Coming.{piece_limit}
use Rattle.proxy_history.specs.History.{add, add_all}
use Rattle.proxy_history.proofs.Folds.{away_agrees}
use Rattle.proxy_history.proofs.Walk.{add_all-append, behind_messages, one_if, sound_items}
use Rattle.proxy_solo.specs.Solo as alone
use Rattle.proxy_solo.proofs.Lists.{self}
use Rattle.proxy_solo.proofs.Time.{item_keeps_time}
use Rattle.proxy_solo.proofs.Undisturbed.{AreUndisturbed, joins, before_items}
use Rattle.mbim_proxy.specs.Setup.{Setup}
use Rattle.mbim_proxy.specs.Step.{view_of, known_now}
use Rattle.mbim_proxy.specs.ModemStates.{IsReady, state}
use Rattle.mbim_proxy.specs.Lists.{waiting}
use Rattle.mbim_proxy.specs.Forwarding.{own_open, wire}
use Rattle.mbim_proxy.specs.Clients.{decision_on, judge, hear_client}
use Rattle.mbim_proxy.specs.FromModem.{opening_status, hear_modem}
use Rattle.mbim_proxy.specs.History.{mbim_protocol, history}
use Rattle.mbim_proxy.proofs.Walk.{Asks, orderly}
use Rattle.mbim_solo.specs.Solo.{parts, hears, hears_if, is_ready, mbim_alone}
use Rattle.mbim_solo.specs.Law.{brought}
use Rattle.mbim_solo.specs.Openings.{is_absent}
use Rattle.mbim_solo.specs.Part.{part}
use Rattle.mbim_solo.proofs.Parts.{IsOneAtMost, EachBringsOne, each_brings_one, parts_are_the_piece}
use Rattle.mbim_solo.proofs.Relation.{IsOrderly, IsRoomy, IsQuietThere, modem_bytes, IsSettled, Alike}
use Rattle.mbim_solo.proofs.Noted.{end_known}
use Rattle.mbim_solo.proofs.Orders.{note_state}
use Rattle.mbim_solo.proofs.Endings.{opens_with}
use Rattle.mbim_solo.proofs.Saying.{judged, judge-part}
use Rattle.mbim_solo.proofs.Numbers.{number_within}
use Rattle.mbim_solo.proofs.Orderly.{item_orderly, histories_are_orderly}
use Rattle.mbim_solo.proofs.Speaking.{Spoke, speaks, alike_settled}
use Rattle.mbim_solo.proofs.Opened.{IsSaidAs, short_is_said, then_is, EndsAlone, opened_alone, both_opened}
use Rattle.mbim_solo.proofs.Short.{mbim_is_short}
use Rattle.mbim_solo.proofs.Settling.{facts, MayQueue, MetAlone, settles}
use Rattle.mbim_solo.proofs.Standing.{Both, Done, begun_alike, both_begin, both_do_nothing, there_alike}
use Rattle.mbim_solo.proofs.OwnEvents.{meets, met_alike, goes_bad_done, goes_bad_queue}
use Rattle.mbim_solo.proofs.OwnMessages.{says_keeps, opens, opening, opens_time, opens_waits, asked, opens_used, opens_pending, own_opens, opens_part, late_hears, SaidAlike, OpensLate, said}

module _ (s : Setup) (roomy : IsRoomy s) (c : ℕ) (client : c ≢ 0) where
  abbrev hear_all : List Item → List Fact → List Event → List Event
  hear_all items past solo = alone.hear_all (mbim_protocol s) (mbim_alone s) c items past solo

  abbrev meet_bytes : Option (List ℕ) → List Event → List Event
  meet_bytes o solo = alone.meet_bytes (mbim_protocol s) (mbim_alone s) o solo

  -- ---- one part ----

  module _ (piece before : List ℕ) (past : List Fact) (solo : List Event) (A : Alike s c past solo before) (short : length piece ≤ piece_limit) where
    abbrev own : List Fact
    own = EventBegan ∷ history s solo

    abbrev met : List Event
    met = meets s c client (Piece c piece) solo

    B : Both s c client past own
    B = both_begin s c client past solo before A

    facts_are : (items : List Item) → client_items size_of c before piece ≡ items → facts s roomy c client (Piece c piece) solo ≡ add_all (mbim_protocol s) items own
    facts_are items is = ap (λ (l : List ℕ). add_all (mbim_protocol s) (client_items size_of c l piece) own) A.sent ∙ ap (λ (l : List Item). add_all (mbim_protocol s) l own) is

    met_so : (items : List Item) → client_items size_of c before piece ≡ items → MayQueue s c (history s solo) (add_all (mbim_protocol s) items own) → MetAlone s roomy c client (Piece c piece) solo
    unfolding modem_stream
    met_so items is queue = settles s roomy c client (Piece c piece) solo (short, A.may) A.rests A.quiet (subst (MayQueue s c (history s solo)) (sym (facts_are items is)) queue)

    sent_so : stream c (Piece c piece ∷ solo) ≡ before ++ piece
    unfolding stream
    sent_so = ap (λ (b : Bool). if b then stream c solo ++ piece else stream c solo) (self c) ∙ ap (λ (l : List ℕ). l ++ piece) A.sent

    alike_so : (items : List Item) (after : List Fact) → client_items size_of c before piece ≡ items → MetAlone s roomy c client (Piece c piece) solo → IsOrderly s c after → Done s c client after (add_all (mbim_protocol s) items own) → Alike s c after met (before ++ piece)
    alike_so items after is M O D = met_alike s c client roomy (Piece c piece) solo after (before ++ piece) M O (subst (Done s c client after) (sym (facts_are items is)) D) sent_so

    -- it brings nothing
    none_alike : client_items size_of c before piece ≡ [] → Alike s c past met (before ++ piece)
    unfolding add_all
    none_alike is = alike_so [] past is (met_so [] is (inl B.empty)) B.orderly (both_do_nothing s c client past own B)

    -- the modem says nothing with it
    hears_none : (item : Item) (later : List Fact) → hears s c item past (history s met) ≡ None → Alike s c later met (before ++ piece) → Alike s c later (hear_all (item ∷ []) past met) (before ++ piece)
    unfolding alone.hear_all
    hears_none item later none alike = subst (λ (o : Option (List ℕ)). Alike s c later (meet_bytes o met) (before ++ piece)) (sym none) alike

    -- that the stream went bad
    goes_bad_unheard : (o : List Fact) → hears s c (GoesBad c) past o ≡ None
    goes_bad_unheard o = elim (contains c (waiting s past)) as (λ b. hears_if (if b then None else None) s c (GoesBad c) past o ≡ None) [ true ↦ refl | false ↦ refl ]

    goes_bad_alike : client_items size_of c before piece ≡ GoesBad c ∷ [] → Alike s c (add (mbim_protocol s) (GoesBad c) past) (hear_all (GoesBad c ∷ []) past met) (before ++ piece)
    unfolding add_all
    goes_bad_alike is =
        let after : List Fact = add (mbim_protocol s) (GoesBad c) past in
        hears_none (GoesBad c) after (goes_bad_unheard (history s met))
        (alike_so (GoesBad c ∷ []) after is (met_so (GoesBad c ∷ []) is (inl (goes_bad_queue s c client own B.empty))) (item_orderly s c client (GoesBad c) past tt B.orderly) (goes_bad_done s c client past own B))

    -- ---- a message ----

    module _ (m : List ℕ) (is : client_items size_of c before piece ≡ Says c m ∷ []) where
      abbrev after : List Fact
      after = hear_client s (known_now s c past) c m past

      abbrev heard : List Event
      heard = hear_all (Says c m ∷ []) past met

      -- of one that is there no more
      gone_unheard : is_present c past ≡ false → (o : List Fact) → hears s c (Says c m) past o ≡ None
      gone_unheard gone o =
          ap (λ (b : Bool). hears_if (if c == c && b && is_ready (decision_on s (known_now s c past) m past) then Some (open_done 0 SUCCESS) else if contains c (waiting s past) then None else None) s c (Says c m) past o) gone
          ∙ elim (c == c) as (λ b. hears_if (if b && false && is_ready (decision_on s (known_now s c past) m past) then Some (open_done 0 SUCCESS) else if contains c (waiting s past) then None else None) s c (Says c m) past o ≡ None) [ true ↦ none_either | false ↦ none_either ]
        where
          none_either : hears_if (if contains c (waiting s past) then None else None) s c (Says c m) past o ≡ None
          none_either = elim (contains c (waiting s past)) as (λ b. hears_if (if b then None else None) s c (Says c m) past o ≡ None) [ true ↦ refl | false ↦ refl ]

      gone_alike : is_present c past ≡ false → Alike s c past heard (before ++ piece)
      unfolding add_all
      gone_alike gone =
          let own_gone : is_present c own ≡ false = sym (there_alike s c client past own B.same) ∙ gone in
          let nothing : add_all (mbim_protocol s) (Says c m ∷ []) own ≡ own = ap (λ (b : Bool). let l : List Fact = if b then hear_client s (known_now s c own) c m own else own in l) own_gone in
          hears_none (Says c m) past (gone_unheard gone (history s met))
          (alike_so (Says c m ∷ []) past is (met_so (Says c m ∷ []) is (inl (ap (modem_queue (wire s)) nothing ∙ B.empty))) B.orderly (subst (Done s c client past) (sym nothing) (both_do_nothing s c client past own B)))

      module _ (there : is_present c past ≡ true) (orderly_after : IsOrderly s c after) where
        abbrev alone_after : List Fact
        alone_after = hear_client s (known_now s c own) c m own

        judged_alone : add_all (mbim_protocol s) (Says c m ∷ []) own ≡ alone_after
        unfolding add_all
        judged_alone = ap (λ (b : Bool). let l : List Fact = if b then alone_after else own in l) (sym (there_alike s c client past own B.same) ∙ there)

        -- what it says was done alike
        done_alike : SaidAlike s c client m past (history s solo) B there after alone_after → Alike s c after heard (before ++ piece)
        done_alike S =
            let M = met_so (Says c m ∷ []) is (subst (MayQueue s c (history s solo)) (sym judged_alone) S.queue) in
            hears_none (Says c m) after (S.unheard (history s met) (M.settled.pending ∙ ap pending (facts_are (Says c m ∷ []) is ∙ judged_alone)))
            (alike_so (Says c m ∷ []) after is M orderly_after (subst (Done s c client after) (sym judged_alone) S.done))

        -- ---- the modem is open for the others already ----

        module _ (L : OpensLate s c client m past (history s solo) B there alone_after) where
          abbrev opened : List Fact
          opened = opens s c client m L.number own

          abbrev q : Request
          q = asked s c client m past (history s solo) B there L.number

          abbrev answer : List ℕ
          answer = with_number L.number (open_done 0 SUCCESS)

          late_is : facts s roomy c client (Piece c piece) solo ≡ opened
          late_is = facts_are (Says c m ∷ []) is ∙ judged_alone ∙ L.is

          M : MetAlone s roomy c client (Piece c piece) solo
          M = met_so (Says c m ∷ []) is (inr (inl (ap (state s.starts_away) (judged_alone ∙ L.is) ∙ opening s c client m L.number own)))

          T : IsSettled s c opened (history s met)
          T = subst (λ (l : List Fact). IsSettled s c l (history s met)) late_is M.settled

          below : L.number < 2 ^ 32
          below = let within = number_within s roomy (own_open s) own L.number L.given in omega (arith, within, roomy.top)

          answers : IsSaidAs s L.number (open_done 0 SUCCESS) answer
          answers = short_is_said s L.number (open_done 0 SUCCESS) below refl refl

          hears_it : hears s c (Says c m) past (history s met) ≡ Some answer
          hears_it = late_hears s c client m past (history s solo) B there (history s met) q (T.pending ∙ opens_pending s c client m past (history s solo) B there L.number L.shut) refl (ap is_ready L.decided)

          is_there : is_none (modem_bytes s c met) ≡ false
          is_there =
              sym (away_agrees (mbim_protocol s) (Asks s) (orderly s) met) ∙ (histories_are_orderly s c client met M.may).order.away
              ∙ ap is_absent (T.state ∙ opening s c client m L.number own)

          spoke : (stream_is : Option (List ℕ)) → modem_bytes s c met ≡ stream_is → is_none stream_is ≡ false → IsQuietThere s c stream_is → Spoke s c met answer (meet_bytes (Some answer) met)
          spoke None e some quiet = absurd (let clash : true ≡ false = some in cc)
          spoke (Some start) e some quiet = speaks s c roomy client met start answer answer quiet answers.one M.may T.rests e

          P : Spoke s c met answer (meet_bytes (Some answer) met)
          P = spoke (modem_bytes s c met) refl is_there M.quiet

          abbrev told : List Fact
          told = hear_modem s answer P.before

          E : EndsAlone s c client P.before (opening_status answer) told
          E =
              opened_alone s c client q P.before P.orderly (P.like.state ∙ T.state ∙ opening s c client m L.number own)
              (P.like.in_use ∙ T.in_use ∙ opens_used s c client m past (history s solo) B there L.number L.shut)
              (P.like.pending ∙ T.pending ∙ opens_pending s c client m past (history s solo) B there L.number L.shut) refl
              answer answers.same.heard answers.same.number_is

          after_is : after ≡ judge s (known_now s c past) c m (Replies Ready) past
          after_is = ap (λ (d : Decision). judge s (known_now s c past) c m d past) L.decided_for

          -- the part of the client, once it waits
          waiting_part : part c P.before ≡ part c opened
          waiting_part = P.like.same ∙ T.same

          waits_part : part c opened ≡ judged s c client (known_now s c own) m Waits (part c own)
          waits_part = ap (part c) (sym (own_opens s c client m past (history s solo) B there L.number L.opens_it)) ∙ opens_part s c client m past (history s solo) B there L.number L.opens_it

          told_same : part c after ≡ part c told
          told_same =
              ap (part c) after_is
              ∙ judge-part s c client (known_now s c past) m (Replies Ready) past B.orderly.fit.once (λ e. L.none)
              ∙ ap (λ (l : List Fact). end_known s c (judged s c client (known_now s c past) m Ready l)) B.same
              ∙ ap (λ (l : List Fact). end_known s c (OpeningEnded SUCCESS (c ∷ []) ∷ l)) (sym waits_part)
              ∙ ap (λ (b : Bool). if b then end_known s c (OpeningEnded SUCCESS (c ∷ []) ∷ part c opened) else part c opened) (sym (opens_waits s c client m L.number own B.alone.fit.once (sym (there_alike s c client past own B.same) ∙ there)))
              ∙ ap (opens_with s c client SUCCESS) (sym waiting_part)
              ∙ ap (λ (status : ℕ). opens_with s c client status (part c P.before)) (sym answers.status)
              ∙ sym E.same

          told_time : now after ≡ now told
          told_time =
              ap (λ (b : Bool). now (let l : List Fact = if b then after else past in l)) (sym there)
              ∙ item_keeps_time (mbim_protocol s) (Asks s) (orderly s) (Says c m) past B.orderly.sound refl
              ∙ B.time
              ∙ sym (item_keeps_time (mbim_protocol s) (Asks s) (orderly s) (ModemSays answer) P.before P.orderly.sound refl ∙ P.like.time ∙ T.time ∙ opens_time s c client m L.number own)

          ready_then : state s.starts_away told ≡ IsReady
          ready_then = E.state ∙ ap (λ (status : ℕ). then_is s c client status) answers.status

          ready_for_all : state s.starts_away after ≡ IsReady
          ready_for_all = ap (state s.starts_away) after_is ∙ note_state s IsReady (Judged c (message_count c past + 1) m Ready) past ((says_keeps s c client m Ready past).modem ∙ L.ready)

          late_alike : Alike s c after heard (before ++ piece)
          unfolding alone.hear_all
          late_alike =
              subst (λ (o : Option (List ℕ)). Alike s c after (meet_bytes o met) (before ++ piece)) (sym hears_it)
              (alike_settled s c after told (meet_bytes (Some answer) met) (before ++ piece) orderly_after P.settled P.may P.quiet (P.sent ∙ M.sent ∙ sent_so) told_same told_time
              (λ still. both_opened s c client SUCCESS after told orderly_after ready_for_all ready_then E.in_use))

        said_alike : AreUndisturbed (view_of c after) → Alike s c after heard (before ++ piece)
        said_alike fair = ⊎_elim done_alike late_alike (said s c client m past (history s solo) B there roomy fair)

      abbrev said_if : Bool → List Fact
      said_if b = if b then after else past

      says_alike : AreUndisturbed (view_of c (add (mbim_protocol s) (Says c m) past)) → Alike s c (add (mbim_protocol s) (Says c m) past) heard (before ++ piece)
      says_alike fair = by (is_present c past) refl fair (item_orderly s c client (Says c m) past tt B.orderly)
        where
          by : (b : Bool) → is_present c past ≡ b → AreUndisturbed (view_of c (said_if b)) → IsOrderly s c (said_if b) → Alike s c (said_if b) heard (before ++ piece)
          by true there fair orderly_after = said_alike there orderly_after fair
          by false gone fair orderly_after = gone_alike gone

    -- ---- whatever it brings ----

    by_items : (items : List Item) → client_items size_of c before piece ≡ items → IsOneAtMost c items → AreUndisturbed (view_of c (add_all (mbim_protocol s) items past)) → Alike s c (add_all (mbim_protocol s) items past) (hear_all items past met) (before ++ piece)
    unfolding add_all alone.hear_all
    by_items [] is one fair = none_alike is
    by_items (Says d m ∷ []) is one fair =
        let said_by_it : client_items size_of c before piece ≡ Says c m ∷ [] = is ∙ ap (λ (x : ℕ). Says x m ∷ []) one in
        subst (λ (x : ℕ). Alike s c (add_all (mbim_protocol s) (Says x m ∷ []) past) (hear_all (Says x m ∷ []) past met) (before ++ piece)) (sym one)
        (says_alike m said_by_it (subst (λ (x : ℕ). AreUndisturbed (view_of c (add_all (mbim_protocol s) (Says x m ∷ []) past))) one fair))
    by_items (GoesBad d ∷ []) is one fair =
        subst (λ (x : ℕ). Alike s c (add_all (mbim_protocol s) (GoesBad x ∷ []) past) (hear_all (GoesBad x ∷ []) past met) (before ++ piece)) (sym one)
        (goes_bad_alike (is ∙ ap (λ (x : ℕ). GoesBad x ∷ []) one))
    by_items _ is one fair = absurd one

  -- ---- all parts ----

  clients_only : (before : List ℕ) (pieces : List (List ℕ)) → AllByRecursion (λ item. joins c item ≡ false) (brought size_of c before pieces)
  unfolding brought
  clients_only before [] = tt
  clients_only before (piece ∷ pieces) =
      let P : Item → Type 0 = λ (item : Item). joins c item ≡ false in
      let items : List Item = client_items size_of c before piece in
      let later : List Item = brought size_of c (before ++ piece) pieces in
      let here : AllByRecursion P items =
      behind_messages P (λ m. Says c m) (messages_of_piece size_of before piece) (item_if (is_bad size_of (before ++ piece)) (GoesBad c)) (λ m. refl) (one_if P (is_bad size_of (before ++ piece)) (GoesBad c) refl)
      in
      recursion_from_All P (items ++ later) (All-append P items later (All-from_recursion P items here) (All-from_recursion P later (clients_only (before ++ piece) pieces)))

  parts_alike : (pieces : List (List ℕ)) (before bytes : List ℕ) (past : List Fact) (solo : List Event) → before ++ concat pieces ≡ bytes → AllByRecursion (λ piece. length piece ≤ piece_limit) pieces → EachBringsOne c before pieces
      → Alike s c past solo before → AreUndisturbed (view_of c (add_all (mbim_protocol s) (brought size_of c before pieces) past))
      → Alike s c (add_all (mbim_protocol s) (brought size_of c before pieces) past) (alone.meet_parts (mbim_protocol s) (mbim_alone s) c before pieces past solo) bytes
  unfolding brought alone.meet_parts add_all
  parts_alike [] before bytes past solo whole short one A fair = subst (Alike s c past solo) (sym (append-nil before) ∙ whole) A
  parts_alike (piece ∷ pieces) before bytes past solo whole short one A fair =
      let items : List Item = client_items size_of c before piece in
      let later : List Item = brought size_of c (before ++ piece) pieces in
      let here : List Fact = add_all (mbim_protocol s) items past in
      let split : add_all (mbim_protocol s) (items ++ later) past ≡ add_all (mbim_protocol s) later here = add_all-append (mbim_protocol s) items later past in
      let fair_later : AreUndisturbed (view_of c (add_all (mbim_protocol s) later here)) = subst (λ (l : List Fact). AreUndisturbed (view_of c l)) split fair in
      let sound : IsSound s.limits here = sound_items (mbim_protocol s) (Asks s) (orderly s) items past A.orderly.sound in
      let fair_here : AreUndisturbed (view_of c here) = before_items (mbim_protocol s) (Asks s) (orderly s) c later here (clients_only (before ++ piece) pieces) sound fair_later in
      subst (λ (l : List Fact). Alike s c l (alone.meet_parts (mbim_protocol s) (mbim_alone s) c (before ++ piece) pieces here (hear_all items past (meets s c client (Piece c piece) solo))) bytes) (sym split)
      (parts_alike pieces (before ++ piece) bytes here (hear_all items past (meets s c client (Piece c piece) solo)) (append_assoc before piece (concat pieces) ∙ whole) short.1 one.1
      (by_items piece before past solo A short.0 items refl one.0 fair_here) fair_later)

  pub piece_alike : (bytes : List ℕ) (events solo : List Event) → length bytes ≤ piece_limit → Alike s c (history s events) solo (stream c events)
      → AreUndisturbed (view_of c (add_all (mbim_protocol s) (items_of (mbim_protocol s) events (Piece c bytes)) (EventBegan ∷ history s events)))
      → Alike s c (add_all (mbim_protocol s) (items_of (mbim_protocol s) events (Piece c bytes)) (EventBegan ∷ history s events)) (alone.meet_own (mbim_protocol s) (mbim_alone s) c events bytes solo) (stream c (Piece c bytes ∷ events))
  unfolding stream
  piece_alike bytes events solo short A fair =
      let before : List ℕ = stream c events in
      let so = parts_are_the_piece c before bytes in
      let after : List Item → List Fact = λ (items : List Item). add_all (mbim_protocol s) items (EventBegan ∷ history s events) in
      subst (λ (items : List Item). Alike s c (after items) (alone.meet_own (mbim_protocol s) (mbim_alone s) c events bytes solo) (if c == c then before ++ bytes else before)) so.items
      (subst (λ (b : Bool). Alike s c (after (brought size_of c before (parts before bytes))) (alone.meet_own (mbim_protocol s) (mbim_alone s) c events bytes solo) (if b then before ++ bytes else before)) (sym (self c))
      (parts_alike (parts before bytes) before (before ++ bytes) (EventBegan ∷ history s events) solo (ap (λ (l : List ℕ). before ++ l) so.bytes) ((mbim_is_short s).parts before bytes short) (each_brings_one c before bytes)
      (begun_alike s c client (history s events) solo before A) (subst (λ (items : List Item). AreUndisturbed (view_of c (after items))) (sym so.items) fair)))
