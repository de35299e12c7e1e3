-- What the modem's stream, its loss and the clock make of a core.
use Rattle.std.proofs.Common.{◌≡◌, ℕ, ◌≤◌, max, Bool, true, false, List, [], ◌∷◌, ◌++◌, length, map, drop, refl, ap, sym, ◌∙◌, subst, arith, append-nil, if◌then◌else◌}
use Rattle.std.proofs.Math.Seq.{drop-append_seam}
use Rattle.std.proofs.lemmas.List.Elements.{recursion_from_All}
use Rattle.std.proofs.lemmas.Simd.{map-map}
use Rattle.kit_bytes.proofs.Lists.{all_weaker}
use Rattle.connections.specs.Table.{Connection}
use Rattle.connections.specs.Table as connections
use Rattle.proxy_history.specs.Facts.{Fact, SessionsClosed, ModemLost, TimeIs}
use Rattle.proxy_history.specs.Connections.{present, dropped, contains}
use Rattle.proxy_history.specs.Requests.{pending, last_number}
use Rattle.proxy_history.specs.Modem.{now, is_away, to_modem, modem_taken_count}
use Rattle.proxy_history.specs.Items.{ModemSays}
use Rattle.proxy_history.specs.View.{Shut, view, entry_if}
use Rattle.proxy_history.specs.Rendering.{render}
use Rattle.proxy_history.specs.Wording.{told_by}
use Rattle.proxy_history.specs.Unanswered as unanswered
use Rattle.proxy_history.specs.History.{add_all}
use Rattle.proxy_history.proofs.Sound.{each_contained}
use Rattle.proxy_state.specs.State.{DroppedClient}
use Rattle.proxy_state.specs.Requests.{requests_in_use}
use Rattle.proxy_state.specs.Stands.{Streams, connection_as, connection_of, dropped_client_of}
use Rattle.proxy_state.specs.Faithful.{delivered_by}
use Rattle.proxy_state.proofs.Lists.{map_agrees}
use Rattle.proxy_state.proofs.Keeping as proxy
use Rattle.mbim_proxy.specs.Setup.{Setup}
use Rattle.mbim_proxy.specs.Step.{view_of}
use Rattle.mbim_proxy.specs.Delivering.{Begun, none_begun, heard_with, begun_after, heard_from, begun_from, deliver}
use Rattle.mbim_proxy.specs.ModemStates.{state}
use Rattle.mbim_proxy.specs.Lists.{askers, last_list}
use Rattle.mbim_proxy.specs.FromModem as history
use Rattle.mbim_proxy.specs.History.{mbim_protocol}
use Rattle.mbim_proxy.proofs.Delivered.{heard_goes_on}
use Rattle.mbim_state.specs.Core.{Client, ModemSide, MbimState, side_of, kept_of, HasNumbers}
use Rattle.mbim_state.specs.Transitions.{with_side, after, hear_each, hear_modem, abort, lost, shut_all, lose, tick, expire}
use Rattle.mbim_state.proofs.Regular.{Regular, regular_more}
use Rattle.mbim_state.proofs.ClientStates.{ClientState, client_state_of, client_state_from}
use Rattle.mbim_state.proofs.Answering.{kept_heard}
use Rattle.mbim_state.proofs.Expiring.{kept_expires, kept_aborts}
use Rattle.mbim_state.proofs.Keeping as keeping
use Rattle.mbim_state.proofs.Keeping.{keeps_side}

-- ---- messages in fragments ----

begun_goes_on : (longest : ℕ) (begun : Begun) (messages : List (List ℕ)) (m : List ℕ) → begun_from longest begun (messages ++ m ∷ []) ≡ begun_after longest (begun_from longest begun messages) m
unfolding begun_from
begun_goes_on longest begun [] m = refl
begun_goes_on longest begun (n ∷ messages) m = begun_goes_on longest (begun_after longest begun n) messages m

heard_last : (longest : ℕ) (messages : List (List ℕ)) (m : List ℕ) → deliver longest (messages ++ m ∷ []) ≡ deliver longest messages ++ heard_with longest (begun_from longest none_begun messages) m
unfolding heard_from
heard_last longest messages m = heard_goes_on longest none_begun messages (m ∷ []) ∙ ap (λ (l : List (List ℕ)). deliver longest messages ++ l) (append-nil (heard_with longest (begun_from longest none_begun messages) m))

module _ (s : Setup) where
  delivered_is : (messages : List (List ℕ)) (m : List ℕ) → delivered_by (mbim_protocol s) messages m ≡ heard_with s.longest_body (begun_from s.longest_body none_begun messages) m
  delivered_is messages m = ap (drop (length (deliver s.longest_body messages))) (heard_last s.longest_body messages m) ∙ drop-append_seam (deliver s.longest_body messages) _

  pub delivers : (messages : List (List ℕ)) (m : List ℕ) → deliver s.longest_body (messages ++ m ∷ []) ≡ deliver s.longest_body messages ++ delivered_by (mbim_protocol s) messages m
  delivers messages m = heard_last s.longest_body messages m ∙ ap (λ (l : List (List ℕ)). deliver s.longest_body messages ++ l) (sym (delivered_is messages m))

  -- ---- a session that is closed ----

  abbrev shut_client_state : ClientState → ClientState
  shut_client_state a = record a { client = after s Shut a.client }

  abbrev shut_if : Bool → ClientState → ClientState
  shut_if b a = if b then shut_client_state a else a

  shut_is : (past : List Fact) (cs : List ℕ) (d : ℕ) → client_state_of s (SessionsClosed cs ∷ past) d ≡ shut_if (contains d cs) (client_state_of s past d)
  unfolding view render told_by
  shut_is past cs d = elim (contains d cs) as (λ b. client_state_from s (entry_if b Shut (view_of d past)) ≡ shut_if b (client_state_of s past d)) [ true ↦ refl | false ↦ refl ]

module _ (s : Setup) (within : HasNumbers s) (streams : Streams) where
  abbrev Kept : List Fact → MbimState → Type 0
  Kept past x = keeping.Kept s streams past x

  abbrev KeptWith : List (List ℕ) → List Fact → MbimState → Type 0
  KeptWith messages past x = keeping.Kept s (record streams { messages = messages }) past x

  -- ---- a loss ----

  abbrev made : List Fact → ℕ → Connection Client
  made past d = connection_of (mbim_protocol s) (kept_of s) streams.rests past d

  module _ (past : List Fact) (d : ℕ) (there : Bool) (is : contains d (present past) ≡ there) where
    shut_now : client_state_of s (history.close past) d ≡ shut_if s there (client_state_of s past d)
    shut_now = shut_is s past (present past) d ∙ ap (λ (b : Bool). shut_if s b (client_state_of s past d)) is

  abbrev shut : Connection Client → Connection Client
  shut k = connections.with_client (after s Shut k.client) k

  shut_there : (past : List Fact) (d : ℕ) → contains d (present past) ≡ true → shut (made past d) ≡ made (history.close past) d
  unfolding connection_of
  shut_there past d at = ap (connection_as s.limits.outbox (streams.rests d) d) (sym (shut_now past d true at))

  shut_absent : (past : List Fact) (d : ℕ) → contains d (present past) ≡ false → dropped_client_of (mbim_protocol s) past d ≡ dropped_client_of (mbim_protocol s) (history.close past) d
  shut_absent past d none = ap (λ (a : ClientState). let l : DroppedClient = record { name = d; waiting = a.waiting } in l) (sym (shut_now past d false none))

  -- no client is open any more
  kept_shut : (past : List Fact) (x : MbimState) → Kept past x → Kept (history.close past) (record x { table = record x.table { present = shut_all s x.table.present } })
  unfolding present dropped now is_away state requests_in_use last_number askers last_list to_modem modem_taken_count
  kept_shut past x K = record {
    holds = record {
      connections =
          ap (shut_all s) K.holds.connections ∙ map-map shut (made past) (present past)
          ∙ map_agrees (λ d. shut (made past d)) (made (history.close past)) (present past)
          (all_weaker (λ d. contains d (present past) ≡ true) (λ d. shut (made past d) ≡ made (history.close past) d) (shut_there past) (present past)
          (recursion_from_All (λ d. contains d (present past) ≡ true) (present past) (each_contained (present past))));
      beside = K.holds.beside;
      greatest = K.holds.greatest;
      limit = K.holds.limit;
      room = K.holds.room;
      names = K.holds.names;
    };
    dropped_clients =
        K.dropped_clients
        ∙ map_agrees (dropped_client_of (mbim_protocol s) past) (dropped_client_of (mbim_protocol s) (history.close past)) (dropped past)
        (all_weaker (λ d. contains d (present past) ≡ false) (λ d. dropped_client_of (mbim_protocol s) past d ≡ dropped_client_of (mbim_protocol s) (history.close past) d) (shut_absent past) (dropped past) K.apart);
    apart = K.apart;
    fits = λ d at. ap (λ (a : ClientState). a.is_over) (shut_now past d true at) ∙ K.fits d at;
    fine = regular_more s (SessionsClosed (present past)) past (each_contained (present past)) tt tt K.fine;
  }

  -- of other messages of the modem's stream only what they leave open tells
  with_messages : (messages : List (List ℕ)) (past : List Fact) (x : MbimState) (side : ModemSide) → side ≡ side_of s messages past → Kept past x → KeptWith messages past (with_side side x)
  with_messages messages past x side is K = proxy.with_messages (mbim_protocol s) (kept_of s) (Regular s) streams messages past x side is K

  -- the modem knows of no request any more, and of its stream nothing is left
  kept_gone : (past : List Fact) (x : MbimState) → Kept past x → KeptWith [] (ModemLost ∷ past) (with_side (lost x.beside) x)
  unfolding present dropped now is_away state requests_in_use last_number askers last_list to_modem modem_taken_count view begun_from
  kept_gone past x K =
      let silent : ModemSide = record x.beside { begun = none_begun } in
      keeps_side s (record streams { messages = [] }) (ModemLost ∷ past) past (with_side silent x) (lost x.beside) (λ d. refl) refl refl (ap lost K.holds.beside) (regular_more s ModemLost past tt tt tt K.fine)
      (with_messages [] past x silent (ap (λ (b : ModemSide). let c : ModemSide = record b { begun = none_begun } in c) K.holds.beside) K)

  pub kept_lost : (past : List Fact) (x : MbimState) → Kept past x → KeptWith [] (unanswered.lose (history.refuse s) history.in_order history.close past) (lose s x)
  kept_lost past x K =
      let aborted : List Fact = unanswered.abort_all (history.refuse s) history.in_order past in
      let left : MbimState = abort s x in
      kept_gone (history.close aborted) (record left { table = record left.table { present = shut_all s left.table.present } }) (kept_shut aborted left (kept_aborts s within streams past x K))

  -- ---- the clock ----

  abbrev at_time : ℕ → MbimState → MbimState
  at_time time x = with_side (record x.beside { time = time }) x

  kept_timed : (past : List Fact) (x : MbimState) (time : ℕ) → now past ≤ time → Kept past x → Kept (TimeIs time ∷ past) (at_time time x)
  unfolding present dropped now is_away state requests_in_use last_number askers last_list to_modem modem_taken_count view
  kept_timed past x time later K =
      keeps_side s streams (TimeIs time ∷ past) past x (record x.beside { time = time }) (λ d. refl) refl refl
      (ap (λ (b : ModemSide). let c : ModemSide = record b { time = time } in c) K.holds.beside) (regular_more s (TimeIs time) past later tt tt K.fine) K

  pub kept_ticked : (time : ℕ) (past : List Fact) (x : MbimState) → Kept past x → Kept (unanswered.tick (history.refuse s) history.in_order time past) (tick s time x)
  unfolding pending
  kept_ticked time past x K =
      let shown : ℕ = max time (now past) in
      subst (λ (n : ℕ). Kept (unanswered.tick (history.refuse s) history.in_order time past) (expire s (max time n) (at_time (max time n) x))) (sym (ap (λ (b : ModemSide). b.time) K.holds.beside))
      (kept_expires s within streams true shown (TimeIs shown ∷ past) (at_time shown x) (kept_timed past x shown (omega arith) K))

-- ---- a message of the modem's stream ----

module _ (s : Setup) (within : HasNumbers s) where
  kept_each : (streams : Streams) (messages : List (List ℕ)) (past : List Fact) (x : MbimState) → keeping.Kept s streams past x
      → keeping.Kept s streams (add_all (mbim_protocol s) (map (λ l. ModemSays l) messages) past) (hear_each s messages x)
  unfolding add_all hear_each
  kept_each streams [] past x K = K
  kept_each streams (m ∷ messages) past x K = kept_each streams messages _ _ (kept_heard s within streams m past x K)

  -- it may complete one that came in fragments
  pub kept_message : (m : List ℕ) (streams : Streams) (past : List Fact) (x : MbimState) → keeping.Kept s streams past x
      → keeping.Kept s (record streams { messages = streams.messages ++ m ∷ [] }) (add_all (mbim_protocol s) (map (λ l. ModemSays l) (delivered_by (mbim_protocol s) streams.messages m)) past) (hear_modem s m x)
  kept_message m streams past x K =
      let longer : Streams = record streams { messages = streams.messages ++ m ∷ [] } in
      let side : ModemSide = record x.beside { begun = begun_after s.longest_body x.beside.begun m } in
      let heard : heard_with s.longest_body x.beside.begun m ≡ delivered_by (mbim_protocol s) streams.messages m =
      ap (λ (b : ModemSide). heard_with s.longest_body b.begun m) K.holds.beside ∙ sym (delivered_is s streams.messages m)
      in
      subst (λ (messages : List (List ℕ)). keeping.Kept s longer (add_all (mbim_protocol s) (map (λ l. ModemSays l) messages) past) (hear_modem s m x)) heard
      (kept_each longer (heard_with s.longest_body x.beside.begun m) past (with_side side x)
      (with_messages s within streams (streams.messages ++ m ∷ []) past x side
      (ap (λ (b : ModemSide). let c : ModemSide = record b { begun = begun_after s.longest_body b.begun m } in c) K.holds.beside
      ∙ ap (λ (begun : Begun). let c : ModemSide = record (side_of s streams.messages past) { begun = begun } in c) (sym (begun_goes_on s.longest_body none_begun streams.messages m))) K))
