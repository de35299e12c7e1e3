-- Event by event: the history of all, and that of the client alone.
use Rattle.std.proofs.Common.{◌≡◌, ℕ, zero, suc, ◌≤◌, Bool, true, false, ◌==◌, max, nat_lt, if◌then◌else◌, List, [], ◌∷◌, ◌++◌, length, drop, map, refl, ap, sym, ◌∙◌, subst, arith, Option, Some, None, is_none}
use Rattle.std.specs.List.{AllByRecursion}
use Rattle.std.proofs.lemmas.Bool.{eqb-true}
use Rattle.framing.specs.Framing.{IsMessage}
use Rattle.framing.specs.Cutting.{cut, cut_from}
use Rattle.framing.proofs.Cuts.{cut-each}
use Rattle.qmux_frame.specs.Frame.{size_of}
use Rattle.proxy_history.specs.History as proxy
use Rattle.proxy_history.specs.Events.{Event, Joined, Piece, Left, ModemPiece, ModemGone, ModemBack, Now, Took, ModemTook}
use Rattle.proxy_history.specs.Streams.{stream, modem_stream, messages_of_piece, is_bad, come_back}
use Rattle.proxy_history.specs.Items.{Joins, Says, GoesBad, Leaves, ModemReturns, ClockShows, Takes, item_if, client_items, modem_items, is_lost_once, returns_once}
use Rattle.proxy_history.specs.Facts.{Fact, Admitted, Ended, NotAdmitted, ModemReturned}
use Rattle.proxy_history.specs.Connections.{present}
use Rattle.proxy_history.specs.Modem.{now, is_away, to_modem, modem_taken_count, modem_queue}
use Rattle.proxy_solo.specs.Part as alone_part
use Rattle.proxy_solo.specs.Solo as alone
use Rattle.qmi_proxy.specs.Limits.{connection_limit}
use Rattle.qmi_proxy.specs.Setup.{Setup}
use Rattle.qmi_proxy.specs.Clients.{wire}
use Rattle.qmi_proxy.specs.History.{add, add_all, items_of, history, qmi_protocol}
use Rattle.qmi_proxy.proofs.Away.{away_agrees}
use Rattle.proxy_state.specs.Stands.{rest_in}
use Rattle.qmi_solo.proofs.Meets.{meet, meet_if, meet_items, meet_event, fact_if, meets_whole, hears_no_loss}
use Rattle.qmi_solo.specs.Solo.{qmi_alone}
use Rattle.qmi_solo.specs.Part.{part}
use Rattle.proxy_solo.proofs.Reading.{AreGeneral}
use Rattle.qmi_solo.proofs.Fit.{Fit}
use Rattle.proxy_solo.proofs.Lists.{self}
use Rattle.qmi_solo.proofs.Actions.{known_ticks}
use Rattle.qmi_solo.proofs.Releasing.{clock-part}
use Rattle.qmi_solo.proofs.Alone.{present_mine, none_there}
use Rattle.qmi_solo.proofs.Fair.{AreFair}
use Rattle.qmi_solo.proofs.Fits.{fit_add}
use Rattle.qmi_solo.proofs.Meeting.{Alike, met}
use Rattle.qmi_solo.proofs.Items.{joins_elsewhere, leaves_elsewhere, takes_elsewhere, piece_elsewhere, piece_fits, leaves_both, takes_both, piece_both}
use Rattle.qmi_solo.proofs.General.{absent}
use Rattle.qmi_solo.proofs.Modem.{away_alike, fails_alike, piece_alike}
use Rattle.qmi_solo.proofs.Events.{begun, begun_fit, bytes_of, own_or_other}

module _ (s : Setup) (c : ℕ) where
  AlikeAt : List Event → List Event → Type 0
  AlikeAt events solo = Alike s c (history s events) solo (stream c events)

  -- an event of another
  elsewhere : (event : Event) (events solo : List Event) → part c (history s (event ∷ events)) ≡ part c (history s events) → Fit false c (history s (event ∷ events)) → stream c (event ∷ events) ≡ stream c events
      → AlikeAt events solo → AlikeAt (event ∷ events) solo
  unfolding AlikeAt
  elsewhere event events solo same F sent A = record { same = same ∙ A.same; fit = F; alone = A.alone; sent = A.sent ∙ sym sent; whole = A.whole; empty = A.empty }

  joined_alike : (events solo : List Event) → Fit false c (history s (Joined c ∷ events)) → AreGeneral (part c (history s events)) → AreFair (part c (history s (Joined c ∷ events))) → AlikeAt events solo → AlikeAt (Joined c ∷ events) (meet s (Joined c) solo)
  unfolding AlikeAt proxy.history proxy.add_all alone_part.part stream modem_stream present
  joined_alike events solo F general fair A =
      let own : List Fact = begun s c solo in
      let G : Fit true c own = begun_fit s c true (history s solo) A.alone in
      let own_general : AreGeneral (part c own) = subst AreGeneral A.same general in
      let nobody : present own ≡ [] = none_there c (present own) (present_mine c own G.fits) (absent s c own own_general) in
      let room : nat_lt (length (present own)) connection_limit ≡ true = ap (λ (l : List ℕ). nat_lt (length l) connection_limit) nobody in
      let there : (b : Bool) → AreFair (part c (if b then Admitted c ∷ begun s c events else Ended c NotAdmitted ∷ begun s c events)) → part c (if b then Admitted c ∷ begun s c events else Ended c NotAdmitted ∷ begun s c events) ≡ Admitted c ∷ part c (begun s c events) =
      λ b. elim b as (λ b. AreFair (part c (if b then Admitted c ∷ begun s c events else Ended c NotAdmitted ∷ begun s c events)) → part c (if b then Admitted c ∷ begun s c events else Ended c NotAdmitted ∷ begun s c events) ≡ Admitted c ∷ part c (begun s c events)) [
        | true ↦ λ f. ap (λ (t : Bool). fact_if t (Admitted c) (part c (begun s c events))) (self c)
        | false ↦ λ f. absurd (let bad : AreFair (Ended c NotAdmitted ∷ part c (begun s c events)) = subst (λ (t : Bool). AreFair (fact_if t (Ended c NotAdmitted) (part c (begun s c events)))) (self c) f in let clash : true ≡ false = bad.0 in cc)
      ]
      in
      let here : part c (add s (Joins c) own) ≡ Admitted c ∷ part c own = ap (λ (b : Bool). part c (if b then Admitted c ∷ own else Ended c NotAdmitted ∷ own)) room ∙ ap (λ (t : Bool). fact_if t (Admitted c) (part c own)) (self c) in
      met s c (Joined c) (history s (Joined c ∷ events)) solo (stream c (Joined c ∷ events))
      (there (nat_lt (length (present (begun s c events))) connection_limit) fair ∙ ap (λ (l : List Fact). Admitted c ∷ l) A.same ∙ sym here) F
      (fit_add true c s (Joins c) own G (self c, λ e. own_general))
      (ap (λ (l : List ℕ). if c == c then [] else l) A.sent) A.whole

  piece_own : (bytes : List ℕ) (events solo : List Event) → now (history s events) ≡ now (history s solo) → Fit false c (history s (Piece c bytes ∷ events)) → AreFair (part c (history s (Piece c bytes ∷ events))) → AlikeAt events solo → AlikeAt (Piece c bytes ∷ events) (meet s (Piece c bytes) solo)
  unfolding AlikeAt proxy.history proxy.add_all alone_part.part stream modem_stream to_modem modem_taken_count now
  piece_own bytes events solo time F fair A =
      let own : List Fact = begun s c solo in
      let G : Fit true c own = begun_fit s c true (history s solo) A.alone in
      let messages : List (List ℕ) = messages_of_piece size_of (stream c events) bytes in
      let bad : Bool = is_bad size_of (stream c events ++ bytes) in
      let is : history s (Piece c bytes ∷ solo) ≡ add_all s (map (λ m. Says c m) messages ++ item_if bad (GoesBad c)) own = ap (λ (l : List ℕ). add_all s (client_items size_of c l bytes) own) A.sent in
      met s c (Piece c bytes) (history s (Piece c bytes ∷ events)) solo (stream c (Piece c bytes ∷ events))
      (piece_both s c messages bad (begun s c events) own (record { same = A.same; fit = begun_fit s c false (history s events) A.fit; alone = G; time = time; room = subst (λ (n : ℕ). n ≤ length (modem_queue wire (history s events))) (sym A.empty) (omega arith) }) fair ∙ ap (part c) (sym is)) F
      (subst (Fit true c) (sym is) (piece_fits s c true c (self c) messages bad own G))
      (ap (λ (l : List ℕ). if c == c then l ++ bytes else l) A.sent) A.whole

  leaves_own : (events solo : List Event) → Fit false c (history s (Left c ∷ events)) → AlikeAt events solo → AlikeAt (Left c ∷ events) (meet s (Left c) solo)
  unfolding AlikeAt proxy.history proxy.add_all alone_part.part stream modem_stream
  leaves_own events solo F A =
      let G : Fit true c (begun s c solo) = begun_fit s c true (history s solo) A.alone in
      met s c (Left c) (history s (Left c ∷ events)) solo (stream c (Left c ∷ events)) (leaves_both s c (begun s c events) (begun s c solo) A.same) F (fit_add true c s (Leaves c) (begun s c solo) G tt) A.sent A.whole

  takes_own : (count : ℕ) (events solo : List Event) → Fit false c (history s (Took c count ∷ events)) → AlikeAt events solo → AlikeAt (Took c count ∷ events) (meet s (Took c count) solo)
  unfolding AlikeAt proxy.history proxy.add_all alone_part.part stream modem_stream
  takes_own count events solo F A =
      let G : Fit true c (begun s c solo) = begun_fit s c true (history s solo) A.alone in
      met s c (Took c count) (history s (Took c count ∷ events)) solo (stream c (Took c count ∷ events)) (takes_both s c count (begun s c events) (begun s c solo) A.same) F (fit_add true c s (Takes c count) (begun s c solo) G tt) A.sent A.whole

  ticks_alike : (time : ℕ) (events solo : List Event) → now (history s events) ≡ now (history s solo) → Fit false c (history s (Now time ∷ events)) → AlikeAt events solo → AlikeAt (Now time ∷ events) (meet s (Now time) solo)
  unfolding AlikeAt proxy.history proxy.add_all alone_part.part stream modem_stream now
  ticks_alike time events solo times F A =
      let G : Fit true c (begun s c solo) = begun_fit s c true (history s solo) A.alone in
      met s c (Now time) (history s (Now time ∷ events)) solo (stream c (Now time ∷ events))
      ((clock-part s c time (begun s c events) (begun_fit s c false (history s events) A.fit)).same ∙ ap (known_ticks s.device c (max time (now (history s events)))) A.same ∙ ap (λ (t : ℕ). known_ticks s.device c (max time t) (part c (history s solo))) times ∙ sym (clock-part s c time (begun s c solo) G).same) F
      (fit_add true c s (ClockShows time) (begun s c solo) G tt) A.sent A.whole

  -- the modem's streams are there in both or in neither
  streams_alike : (events solo : List Event) → AlikeAt events solo → is_none (bytes_of s c solo) ≡ is_none (bytes_of s c events)
  unfolding AlikeAt
  streams_alike events solo A = away_alike s c (history s events) solo (stream c events) A ∙ away_agrees s events

  begun_alike : (events solo : List Event) → AlikeAt events solo → Alike s c (begun s c events) solo (stream c events)
  unfolding AlikeAt alone_part.part
  begun_alike events solo A = record { same = A.same; fit = begun_fit s c false (history s events) A.fit; alone = A.alone; sent = A.sent; whole = A.whole; empty = A.empty }

  there_if : (events : List Event) (before : List ℕ) → bytes_of s c events ≡ Some before → is_away s.starts_away (begun s c events) ≡ false
  unfolding is_away
  there_if events before is = away_agrees s events ∙ ap is_none is

  goes_alike : (events solo : List Event) → Fit false c (history s (ModemGone ∷ events)) → AlikeAt events solo → AlikeAt (ModemGone ∷ events) (meet s ModemGone solo)
  unfolding AlikeAt proxy.history proxy.add_all alone_part.part stream modem_stream is_away
  goes_alike events solo F A =
      let agree = streams_alike events solo A in
      let both_none : (o o' : Option (List ℕ)) → bytes_of s c events ≡ o → bytes_of s c solo ≡ o' → is_none o' ≡ is_none o → Alike s c (add_all s (is_lost_once o) (begun s c events)) (meet s ModemGone solo) (stream c events) =
      λ o o'. elim o as (λ o. bytes_of s c events ≡ o → bytes_of s c solo ≡ o' → is_none o' ≡ is_none o → Alike s c (add_all s (is_lost_once o) (begun s c events)) (meet s ModemGone solo) (stream c events)) [
        | None ↦ elim o' as (λ o'. bytes_of s c events ≡ None → bytes_of s c solo ≡ o' → is_none o' ≡ true → Alike s c (begun s c events) (meet s ModemGone solo) (stream c events)) [
          | None ↦ λ is is' e.
              let nothing : history s (ModemGone ∷ solo) ≡ begun s c solo = ap (λ (o : Option (List ℕ)). add_all s (is_lost_once o) (begun s c solo)) is' in
              met s c ModemGone (begun s c events) solo (stream c events) (A.same ∙ ap (part c) (sym nothing)) (begun_fit s c false (history s events) A.fit)
              (subst (Fit true c) (sym nothing) (begun_fit s c true (history s solo) A.alone)) A.sent refl
          | Some before ↦ λ is is' e. absurd (let clash : false ≡ true = e in cc)
        ]
        | Some before ↦ λ is is' e. fails_alike s c (begun s c events) solo (stream c events) (begun_alike events solo A) (there_if events before is)
      ]
      in both_none (bytes_of s c events) (bytes_of s c solo) refl refl agree

  returns_alike : (events solo : List Event) → Fit false c (history s (ModemBack ∷ events)) → AlikeAt events solo → AlikeAt (ModemBack ∷ events) (meet s ModemBack solo)
  unfolding AlikeAt proxy.history proxy.add_all alone_part.part stream modem_stream cut_from
  returns_alike events solo F A =
      let own : List Fact = begun s c solo in
      let G : Fit true c own = begun_fit s c true (history s solo) A.alone in
      let agree = streams_alike events solo A in
      let both_too : (o o' : Option (List ℕ)) → bytes_of s c events ≡ o → bytes_of s c solo ≡ o' → is_none o' ≡ is_none o → Fit false c (add_all s (returns_once o) (begun s c events)) → Alike s c (add_all s (returns_once o) (begun s c events)) (meet s ModemBack solo) (stream c events) =
      λ o o'. elim o as (λ o. bytes_of s c events ≡ o → bytes_of s c solo ≡ o' → is_none o' ≡ is_none o → Fit false c (add_all s (returns_once o) (begun s c events)) → Alike s c (add_all s (returns_once o) (begun s c events)) (meet s ModemBack solo) (stream c events)) [
        | None ↦ elim o' as (λ o'. bytes_of s c events ≡ None → bytes_of s c solo ≡ o' → is_none o' ≡ true → Fit false c (ModemReturned ∷ begun s c events) → Alike s c (ModemReturned ∷ begun s c events) (meet s ModemBack solo) (stream c events)) [
          | None ↦ λ is is' e F.
              let back : history s (ModemBack ∷ solo) ≡ ModemReturned ∷ own = ap (λ (o : Option (List ℕ)). add_all s (returns_once o) own) is' in
              met s c ModemBack (ModemReturned ∷ begun s c events) solo (stream c events) (ap (λ (l : List Fact). ModemReturned ∷ l) A.same ∙ ap (part c) (sym back)) F
              (subst (Fit true c) (sym back) (fit_add true c s ModemReturns own G tt)) A.sent (ap (λ (o : Option (List ℕ)). rest_in size_of (come_back o)) is')
          | Some before ↦ λ is is' e F. absurd (let clash : false ≡ true = e in cc)
        ]
        | Some before ↦ elim o' as (λ o'. bytes_of s c events ≡ Some before → bytes_of s c solo ≡ o' → is_none o' ≡ false → Fit false c (begun s c events) → Alike s c (begun s c events) (meet s ModemBack solo) (stream c events)) [
          | None ↦ λ is is' e F. absurd (let clash : true ≡ false = e in cc)
          | Some own_before ↦ λ is is' e F.
              let nothing : history s (ModemBack ∷ solo) ≡ own = ap (λ (o : Option (List ℕ)). add_all s (returns_once o) own) is' in
              met s c ModemBack (begun s c events) solo (stream c events) (A.same ∙ ap (part c) (sym nothing)) F (subst (Fit true c) (sym nothing) G) A.sent
              (ap (λ (o : Option (List ℕ)). rest_in size_of (come_back o)) is' ∙ ap (rest_in size_of) (sym is') ∙ A.whole)
        ]
      ]
      in both_too (bytes_of s c events) (bytes_of s c solo) refl refl agree F

  each_dropped : (count : ℕ) (messages : List (List ℕ)) → AllByRecursion (IsMessage size_of) messages → AllByRecursion (IsMessage size_of) (drop count messages)
  each_dropped zero messages all = all
  each_dropped (suc count) [] all = tt
  each_dropped (suc count) (m ∷ messages) all = each_dropped count messages all.1

  modem_piece : (bytes : List ℕ) (events solo : List Event) → Fit false c (history s (ModemPiece bytes ∷ events)) → AreFair (part c (history s (ModemPiece bytes ∷ events))) → AlikeAt events solo
      → AlikeAt (ModemPiece bytes ∷ events) (meet_items s c (items_of s events (ModemPiece bytes)) (begun s c events) solo)
  unfolding AlikeAt proxy.history proxy.add_all alone_part.part stream modem_stream alone.hear_all is_away
  modem_piece bytes events solo F fair A =
      let step : (o : Option (List ℕ)) → bytes_of s c events ≡ o → AreFair (part c (add_all s (modem_items (qmi_protocol s) bytes o) (begun s c events))) → Alike s c (add_all s (modem_items (qmi_protocol s) bytes o) (begun s c events)) (meet_items s c (modem_items (qmi_protocol s) bytes o) (begun s c events) solo) (stream c events) =
      λ o. elim o as (λ o. bytes_of s c events ≡ o → AreFair (part c (add_all s (modem_items (qmi_protocol s) bytes o) (begun s c events))) → Alike s c (add_all s (modem_items (qmi_protocol s) bytes o) (begun s c events)) (meet_items s c (modem_items (qmi_protocol s) bytes o) (begun s c events) solo) (stream c events)) [
        | None ↦ λ is fair. begun_alike events solo A
        | Some before ↦ λ is fair.
            piece_alike s c (messages_of_piece size_of before bytes) (is_bad size_of (before ++ bytes)) (begun s c events) solo (stream c events) (begun_alike events solo A) (there_if events before is)
            (each_dropped (length (cut size_of before).messages) (cut size_of (before ++ bytes)).messages (cut-each size_of (before ++ bytes))) fair
      ]
      in step (bytes_of s c events) refl fair

  pub alike_event : (event : Event) (events solo : List Event) → now (history s events) ≡ now (history s solo) → Fit false c (history s (event ∷ events)) → (event ≡ Joined c → AreGeneral (part c (history s events))) → AreFair (part c (history s (event ∷ events)))
      → Alike s c (history s events) solo (stream c events) → Alike s c (history s (event ∷ events)) (meet_event s c events event solo) (stream c (event ∷ events))
  unfolding AlikeAt proxy.history proxy.add_all alone_part.part alone.hear_all stream to_modem modem_taken_count now
  alike_event (Joined d) events solo times F new fair A =
      own_or_other s c d (λ b. Alike s c (history s (Joined d ∷ events)) (meet_if b s (Joined d) solo) (stream c (Joined d ∷ events)))
      (λ e. let is : d ≡ c = eqb-true d c e in
      subst (λ (x : ℕ). Alike s c (history s (Joined x ∷ events)) (meet s (Joined x) solo) (stream c (Joined x ∷ events))) (sym is)
      (joined_alike events solo (subst (λ (x : ℕ). Fit false c (history s (Joined x ∷ events))) is F) (new (ap (λ (x : ℕ). Joined x) is)) (subst (λ (x : ℕ). AreFair (part c (history s (Joined x ∷ events)))) is fair) A))
      (λ e. elsewhere (Joined d) events solo (joins_elsewhere s c d e (begun s c events)) F (ap (λ (b : Bool). if b then [] else stream c events) e) A)
  alike_event (Piece d bytes) events solo times F new fair A =
      own_or_other s c d (λ b. Alike s c (history s (Piece d bytes ∷ events)) (if b then alone.meet_own (qmi_protocol s) (qmi_alone s) c events bytes solo else solo) (stream c (Piece d bytes ∷ events)))
      (λ e. let is : d ≡ c = eqb-true d c e in
      subst (λ (x : ℕ). Alike s c (history s (Piece x bytes ∷ events)) (alone.meet_own (qmi_protocol s) (qmi_alone s) c events bytes solo) (stream c (Piece x bytes ∷ events))) (sym is)
      (subst (λ (l : List Event). Alike s c (history s (Piece c bytes ∷ events)) l (stream c (Piece c bytes ∷ events))) (sym (meets_whole s c events bytes solo))
      (piece_own bytes events solo times (subst (λ (x : ℕ). Fit false c (history s (Piece x bytes ∷ events))) is F) (subst (λ (x : ℕ). AreFair (part c (history s (Piece x bytes ∷ events)))) is fair) A)))
      (λ e. elsewhere (Piece d bytes) events solo (piece_elsewhere s c d e (messages_of_piece size_of (stream d events) bytes) (is_bad size_of (stream d events ++ bytes)) (begun s c events)) F (ap (λ (b : Bool). if b then stream c events ++ bytes else stream c events) e) A)
  alike_event (Left d) events solo times F new fair A =
      own_or_other s c d (λ b. Alike s c (history s (Left d ∷ events)) (meet_if b s (Left d) solo) (stream c (Left d ∷ events)))
      (λ e. let is : d ≡ c = eqb-true d c e in
      subst (λ (x : ℕ). Alike s c (history s (Left x ∷ events)) (meet s (Left x) solo) (stream c (Left x ∷ events))) (sym is)
      (leaves_own events solo (subst (λ (x : ℕ). Fit false c (history s (Left x ∷ events))) is F) A))
      (λ e. elsewhere (Left d) events solo (leaves_elsewhere s c d e (begun s c events)) F refl A)
  alike_event (ModemPiece bytes) events solo times F new fair A = modem_piece bytes events solo F fair A
  alike_event ModemGone events solo times F new fair A =
      subst (λ (l : List Event). Alike s c (history s (ModemGone ∷ events)) (meet s ModemGone l) (stream c (ModemGone ∷ events))) (sym (hears_no_loss s c events solo)) (goes_alike events solo F A)
  alike_event ModemBack events solo times F new fair A = returns_alike events solo F A
  alike_event (Now time) events solo times F new fair A = ticks_alike time events solo times F A
  alike_event (Took d count) events solo times F new fair A =
      own_or_other s c d (λ b. Alike s c (history s (Took d count ∷ events)) (meet_if b s (Took d count) solo) (stream c (Took d count ∷ events)))
      (λ e. let is : d ≡ c = eqb-true d c e in
      subst (λ (x : ℕ). Alike s c (history s (Took x count ∷ events)) (meet s (Took x count) solo) (stream c (Took x count ∷ events))) (sym is)
      (takes_own count events solo (subst (λ (x : ℕ). Fit false c (history s (Took x count ∷ events))) is F) A))
      (λ e. elsewhere (Took d count) events solo (takes_elsewhere s c d e count (begun s c events)) F refl A)
  alike_event (ModemTook count) events solo times F new fair A = elsewhere (ModemTook count) events solo refl F refl A
