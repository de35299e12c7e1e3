-- What the end of an opening, and an indication, make of a core: several clients are told.
use Rattle.std.proofs.Common.{◌≡◌, ℕ, Bool, ◌==◌, ◌&&◌, true, false, List, [], ◌∷◌, map, filter, is_some, refl, ap, sym, ◌∙◌, subst, if◌then◌else◌}
use Rattle.std.specs.List.{IsDistinct}
use Rattle.std.proofs.lemmas.List.Elements.{All-from_recursion, recursion_from_All}
use Rattle.kit_bytes.specs.Indications.{wants}
use Rattle.kit_bytes.proofs.Lists.{all_filter, all_weaker}
use Rattle.connections.specs.Table.{Connection, connection_in}
use Rattle.mbim_frame.specs.Fragment.{body_of}
use Rattle.mbim_frame.specs.Bodies.{uuid_of, cid_of}
use Rattle.proxy_history.specs.Facts.{Fact, Indicated, OpeningEnded}
use Rattle.proxy_history.specs.Connections.{present, is_present, dropped, contains}
use Rattle.proxy_history.specs.Requests.{last_number}
use Rattle.proxy_history.specs.Modem.{now, is_away, to_modem, modem_taken_count}
use Rattle.proxy_history.specs.Sound.{IsPresent}
use Rattle.proxy_history.specs.View.{Entry, Indication, OpenedWith, view, entry_if}
use Rattle.proxy_history.specs.Rendering.{render}
use Rattle.proxy_history.specs.Wording.{told_by}
use Rattle.proxy_history.specs.Noting.{end_overfull}
use Rattle.proxy_state.specs.Requests.{requests_in_use}
use Rattle.proxy_state.specs.Stands.{Streams, connection_of}
use Rattle.proxy_state.specs.Chosen.{names_in}
use Rattle.proxy_state.proofs.Lists.{filter_map_is}
use Rattle.proxy_state.proofs.Filters.{filter_agree}
use Rattle.proxy_state.proofs.Keeping.{found_there, found_absent}
use Rattle.proxy_state.proofs.Names.{distinct_filter}
use Rattle.proxy_state.proofs.Telling.{AreThere, chosen_there, told_each}
use Rattle.mbim_proxy.specs.Setup.{Setup}
use Rattle.mbim_proxy.specs.Step.{blank, view_of, known_now}
use Rattle.mbim_proxy.specs.ModemStates.{state}
use Rattle.mbim_proxy.specs.Lists.{askers, last_list, list_of, open_ones, receivers, waiting}
use Rattle.mbim_proxy.specs.Text.{mbim_wording}
use Rattle.mbim_proxy.specs.FromModem as history
use Rattle.mbim_proxy.specs.History.{mbim_protocol}
use Rattle.mbim_proxy.proofs.Waiting.{waiting_are_present}
use Rattle.mbim_state.specs.Core.{Client, ModemSide, MbimState, side_of, kept_of}
use Rattle.mbim_state.specs.Transitions.{with_side, after, text, tell_each, opening_ended, is_waiting, waiting_of, ends_opening, receivers_in, indicate, mbim_handlers}
use Rattle.mbim_state.proofs.Regular.{Regular, regular_more}
use Rattle.mbim_state.proofs.Askers.{askers_once, askers_there}
use Rattle.mbim_state.proofs.ClientStates.{client_state_of, with_entry, client_state_from}
use Rattle.mbim_state.proofs.Keeping as keeping
use Rattle.mbim_state.proofs.Keeping.{follows_connections}

module _ (s : Setup) where
  indicated_is : (past : List Fact) (m : List ℕ) (cs : List ℕ) (d : ℕ) → client_state_of s (Indicated m cs ∷ past) d ≡ (if contains d cs then with_entry s (Indication m) (client_state_of s past d) else client_state_of s past d)
  unfolding view render told_by
  indicated_is past m cs d = elim (contains d cs) as (λ b. client_state_from s (entry_if b (Indication m) (view_of d past)) ≡ (if b then with_entry s (Indication m) (client_state_of s past d) else client_state_of s past d)) [ true ↦ refl | false ↦ refl ]

  opened_is : (past : List Fact) (status : ℕ) (cs : List ℕ) (d : ℕ) → client_state_of s (OpeningEnded status cs ∷ past) d ≡ (if contains d cs then with_entry s (OpenedWith status) (client_state_of s past d) else client_state_of s past d)
  unfolding view render told_by
  opened_is past status cs d = elim (contains d cs) as (λ b. client_state_from s (entry_if b (OpenedWith status) (view_of d past)) ≡ (if b then with_entry s (OpenedWith status) (client_state_of s past d) else client_state_of s past d)) [ true ↦ refl | false ↦ refl ]

module _ (s : Setup) (streams : Streams) where
  abbrev Kept : List Fact → MbimState → Type 0
  Kept past x = keeping.Kept s streams past x

  abbrev made : List Fact → ℕ → Connection Client
  made past d = connection_of (mbim_protocol s) (kept_of s) streams.rests past d

  names_made : (past : List Fact) (names : List ℕ) → names_in (map (made past) names) ≡ names
  unfolding connection_of
  names_made past [] = refl
  names_made past (d ∷ names) = ap (λ (l : List ℕ). d ∷ l) (names_made past names)

  abbrev AreDistinct : List ℕ → Type 0
  AreDistinct names = IsDistinct (λ c d. c == d) names

  -- a fact tells some of those who are there, each once
  module _ (past : List Fact) (x : MbimState) (side : ModemSide) (fact : Fact) (entry : Entry) (cs : List ℕ) (there : AreThere (present past) cs) (once : AreDistinct cs)
      (to : (d : ℕ) → client_state_of s (fact ∷ past) d ≡ (if contains d cs then with_entry s entry (client_state_of s past d) else client_state_of s past d))
      (same_present : present (fact ∷ past) ≡ present past) (same_dropped : dropped (fact ∷ past) ≡ dropped past)
      (is : side ≡ side_of s streams.messages (fact ∷ past)) (regular : Regular s (fact ∷ past)) (K : Kept past x) where
    told : Kept (end_overfull s.limits (mbim_wording s) cs (fact ∷ past)) (tell_each s entry cs (with_side side x))
    told =
        told_each (mbim_protocol s) (kept_of s) (mbim_handlers s) (Regular s) (follows_connections s) streams (text s entry) (after s entry) (fact ∷ past) past x side
        same_present same_dropped is regular K cs there once to

  -- ---- the opening ends ----

  module _ (past : List Fact) (x : MbimState) (K : Kept past x) where
    waits_is : (c : ℕ) → is_waiting (connection_in c x.table.present) ≡ (is_present c past && is_some (known_now s c past).waits)
    unfolding connection_of
    waits_is c = by (is_present c past) refl
      where
        by : (b : Bool) → is_present c past ≡ b → is_waiting (connection_in c x.table.present) ≡ (b && is_some (known_now s c past).waits)
        by true there = ap is_waiting (found_there (mbim_protocol s) (kept_of s) streams past x c K.holds there)
        by false absent = ap is_waiting (found_absent (mbim_protocol s) (kept_of s) streams past x c K.holds absent)

    waiting_is : waiting_of x.table.present x.beside.askers ≡ waiting s past
    waiting_is =
        ap (λ (side : ModemSide). waiting_of x.table.present side.askers) K.holds.beside
        ∙ filter_agree (λ c. is_waiting (connection_in c x.table.present)) (λ c. is_present c past && is_some (known_now s c past).waits) (askers past)
        (all_weaker (λ c. contains c (present past) ≡ true) (λ c. is_waiting (connection_in c x.table.present) ≡ (is_present c past && is_some (known_now s c past).waits)) (λ c there. waits_is c)
        (askers past) (askers_there s.limits past K.fine.sound))

    -- each that waits is told
    pub kept_opened : (status : ℕ) → Kept (history.end_opening s status past) (ends_opening s status x)
    unfolding present dropped now is_away state requests_in_use last_number askers last_list to_modem modem_taken_count
    kept_opened status =
        let cs : List ℕ = waiting s past in
        subst (λ (names : List ℕ). Kept (history.end_opening s status past) (tell_each s (OpenedWith status) names (with_side (opening_ended status x.beside) x))) (sym waiting_is)
        (told past x (opening_ended status x.beside) (OpeningEnded status cs) (OpenedWith status) cs (recursion_from_All (λ c. is_present c past ≡ true) cs (waiting_are_present s past))
        (distinct_filter (λ c. is_present c past && is_some (known_now s c past).waits) (askers past) (askers_once past))
        (opened_is s past status cs) refl refl (ap (opening_ended status) K.holds.beside) (regular_more s (OpeningEnded status cs) past (waiting_are_present s past) tt tt K.fine) K)

  -- ---- an indication ----

  receivers_made : (past : List Fact) (uuid : List ℕ) (cid : ℕ) → receivers_in uuid cid (map (made past) (present past)) ≡ receivers s uuid cid past
  unfolding connection_of
  receivers_made past uuid cid =
      ap (λ (l : List (Connection Client)). names_in (filter (λ (k : Connection Client). wants k.client.list uuid cid) l)) (filter_map_is (λ (k : Connection Client). k.client.opened) (made past) (present past))
      ∙ ap names_in (filter_map_is (λ (k : Connection Client). wants k.client.list uuid cid) (made past) (open_ones s past))
      ∙ names_made past (receivers s uuid cid past)

  module _ (past : List Fact) (uuid : List ℕ) (cid : ℕ) where
    receivers_there : AreThere (present past) (receivers s uuid cid past)
    receivers_there = all_filter (λ c. contains c (present past) ≡ true) (λ c. wants (list_of s c past) uuid cid) (open_ones s past) (chosen_there (λ c. (known_now s c past).opened) (present past))

    receivers_once : AreDistinct (present past) → AreDistinct (receivers s uuid cid past)
    receivers_once distinct = distinct_filter (λ c. wants (list_of s c past) uuid cid) (open_ones s past) (distinct_filter (λ c. (known_now s c past).opened) (present past) distinct)

  -- those who want it are told
  pub kept_indicated : (m : List ℕ) (past : List Fact) (x : MbimState) → Kept past x → Kept (history.indicate s m past) (indicate s m x)
  unfolding present dropped now is_away state requests_in_use last_number askers last_list to_modem modem_taken_count
  kept_indicated m past x K =
      let uuid : List ℕ = uuid_of (body_of m) in
      let cid : ℕ = cid_of (body_of m) in
      let cs : List ℕ = receivers s uuid cid past in
      subst (λ (names : List ℕ). Kept (history.indicate s m past) (tell_each s (Indication (blank m)) names x)) (sym (ap (receivers_in uuid cid) K.holds.connections ∙ receivers_made past uuid cid))
      (told past x x.beside (Indicated (blank m) cs) (Indication (blank m)) cs (receivers_there past uuid cid) (receivers_once past uuid cid K.holds.names.distinct)
      (indicated_is s past (blank m) cs) refl refl K.holds.beside
      (regular_more s (Indicated (blank m) cs) past (All-from_recursion (λ c. IsPresent c past) cs (receivers_there past uuid cid)) tt tt K.fine) K)
