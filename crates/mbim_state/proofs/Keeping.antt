-- What a core of the MBIM proxy keeps in the midst of an event goes on from fact to fact.
use Rattle.std.proofs.Common.{◌≡◌, ℕ, ◌-◌, ◌≤◌, List, ◌∷◌, length, drop, refl, ap, sym, ◌∙◌, arith}
use Rattle.std.proofs.lemmas.List.{length-drop, drop-drop}
use Rattle.proxy_history.specs.Facts.{Fact, NotAdmitted, ModemReturned, ModemTaken}
use Rattle.proxy_history.specs.Connections.{present, dropped, without}
use Rattle.proxy_history.specs.Requests.{last_number}
use Rattle.proxy_history.specs.Modem.{now, is_away, to_modem, modem_taken_count}
use Rattle.proxy_history.specs.View.{view}
use Rattle.proxy_state.specs.Requests.{requests_in_use}
use Rattle.proxy_state.specs.Stands.{Streams, client_state_of}
use Rattle.proxy_state.specs.Faithful.{Keeps, FollowsConnections}
use Rattle.proxy_state.proofs.Keeping as keeping
use Rattle.mbim_proxy.specs.Setup.{Setup}
use Rattle.mbim_proxy.specs.ModemStates.{state}
use Rattle.mbim_proxy.specs.Lists.{askers, last_list}
use Rattle.mbim_proxy.specs.Forwarding.{wire}
use Rattle.mbim_proxy.specs.History.{mbim_protocol}
use Rattle.mbim_state.specs.Core.{Numbers, ModemSide, MbimState, side_of, kept_of}
use Rattle.mbim_state.specs.Transitions.{mbim_handlers, regain, take_modem}
use Rattle.mbim_state.proofs.Regular.{Regular, regular_more, regular_behind, taken_within}
use Rattle.mbim_state.proofs.Askers.{asked_by_stranger}
use Rattle.mbim_state.proofs.Numbers.{numbers_of_stranger, numbers_ended}

module _ (s : Setup) where
  -- the same but for the numbers in use
  abbrev pub side_with : (messages : List (List ℕ)) → List Fact → Numbers → ModemSide
  side_with messages past numbers = record (side_of s messages past) { numbers = numbers }

  -- and for one who asked for nothing any more
  abbrev side_left : (messages : List (List ℕ)) → List Fact → (conn : ℕ) → Numbers → ModemSide
  side_left messages past c numbers = record (side_with messages past numbers) { askers = without c (askers past) }

  -- ---- facts of connections ----

  pub follows_connections : FollowsConnections (mbim_protocol s) (kept_of s) (mbim_handlers s) (Regular s)
  unfolding now is_away state requests_in_use last_number askers last_list to_modem modem_taken_count
  follows_connections = record {
    fine_more = regular_behind s;
    fresh = refl;
    taken_bytes = λ known count. refl;
    time = λ messages past. refl;
    away = λ messages past. refl;
    modem_queue = λ messages past. refl;
    begun = λ past messages. refl;
    admitted = λ c past messages. refl;
    was_taken = λ c count past messages. refl;
    refused =
        λ c past some absent R messages.
        ap (side_left messages past c) (numbers_of_stranger s past c NotAdmitted some absent R.sound)
        ∙ ap (λ (l : List ℕ). let side : ModemSide = record (side_of s messages past) { askers = l } in side) (asked_by_stranger s.limits past c absent R.sound);
    ended = λ c why messages past. ap (side_left messages past c) (sym (numbers_ended s past c why));
  }

module _ (s : Setup) (streams : Streams) where
  abbrev pub Kept : List Fact → MbimState → Type 0
  Kept past x = Keeps (mbim_protocol s) (kept_of s) (Regular s) streams past x

  -- only what is kept beside the connections changes
  pub keeps_side : (later past : List Fact) (x : MbimState) (side : ModemSide) → ((d : ℕ) → client_state_of (mbim_protocol s) (kept_of s) later d ≡ client_state_of (mbim_protocol s) (kept_of s) past d)
      → present later ≡ present past → dropped later ≡ dropped past → side ≡ side_of s streams.messages later → Regular s later → Kept past x → Kept later (record x { beside = side })
  keeps_side later past x side same same_present same_dropped is regular K =
      keeping.keeps_quiet (mbim_protocol s) (kept_of s) (Regular s) streams later past same same_present x side same_dropped is regular K

  -- ---- the modem comes back, and takes bytes ----

  pub kept_returned : (past : List Fact) (x : MbimState) → Kept past x → Kept (ModemReturned ∷ past) (record x { beside = regain x.beside })
  unfolding now is_away state requests_in_use last_number askers last_list to_modem modem_taken_count present dropped view
  kept_returned past x K = keeps_side (ModemReturned ∷ past) past x (regain x.beside) (λ d. refl) refl refl (ap regain K.holds.beside) (regular_more s ModemReturned past tt tt tt K.fine) K

  pub kept_modem_taken : (past : List Fact) (x : MbimState) (count : ℕ) → count ≤ length x.beside.outbox.bytes → Kept past x → Kept (ModemTaken count ∷ past) (record x { beside = take_modem count x.beside })
  unfolding now is_away state requests_in_use last_number askers last_list to_modem modem_taken_count present dropped view
  kept_modem_taken past x count within K =
      let queue : x.beside.outbox.bytes ≡ drop (modem_taken_count past) (to_modem (wire s) past) = ap (λ (b : ModemSide). b.outbox.bytes) K.holds.beside in
      let left : length x.beside.outbox.bytes ≡ length (to_modem (wire s) past) - modem_taken_count past = ap length queue ∙ length-drop (modem_taken_count past) (to_modem (wire s) past) in
      let before : modem_taken_count past ≤ length (to_modem (wire s) past) = taken_within s past K.fine.new in
      keeps_side (ModemTaken count ∷ past) past x (take_modem count x.beside) (λ d. refl) refl refl
      (ap (take_modem count) K.holds.beside
      ∙ ap (λ (l : List ℕ). let side : ModemSide = record (side_of s streams.messages past) { outbox = record { bytes = l; capacity = s.limits.modem_outbox } } in side) (drop-drop count (modem_taken_count past) (to_modem (wire s) past)))
      (regular_more s (ModemTaken count) past tt tt (omega arith) K.fine) K
