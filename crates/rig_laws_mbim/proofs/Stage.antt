-- What holds of a rig's stage between two actions, and how each action keeps it. Lists of events have the newest first.
use Rattle.std.proofs.Common.{◌≡◌, ℕ, zero, suc, ◌+◌, ◌^◌, ◌<◌, ◌≤◌, Bool, true, false, List, [], ◌∷◌, ◌++◌, length, take, drop, reverse, fold, nat_le, refl, ap, sym, ◌∙◌, arith, subst, append-nil, length-append}
use Rattle.std.specs.List.{range_with_len}
use Rattle.std.proofs.lemmas.Bool.Decides.{nat_tests}
use Rattle.framing.specs.Framing.{IsMessage}
use Rattle.framing.specs.Cutting.{cut, cut_from}
use Rattle.mbim_frame.specs.Frame.{size_of}
use Rattle.mbim_frame.specs.Framing.{size_of-kept, size_of-positive}
use Rattle.mbim_frame.specs.Head.{number_of}
use Rattle.proxy_history.specs.Events.{Event, Joined, Piece, ModemPiece, Now}
use Rattle.proxy_history.specs.Coming.{piece_limit}
use Rattle.proxy_history.specs.Facts.{Request}
use Rattle.proxy_history.specs.Modem.{modem_queue}
use Rattle.proxy_solo.specs.Solo as alone
use Rattle.proxy_solo.specs.Solo.{pieces_of}
use Rattle.proxy_history.proofs.Pieces.{ends_message}
use Rattle.sim_modem.specs.Sim.{state_after}
use Rattle.modem_profile.specs.Profile.{default_profile}
use Rattle.sim_mbim.specs.Answers.{State, machine}
use Rattle.mbim_proxy.specs.ModemStates.{ModemState, IsAway, IsShut, IsReady, is_own_open}
use Rattle.mbim_proxy.specs.Forwarding.{wire}
use Rattle.mbim_proxy.specs.Proxy.{proxy_of}
use Rattle.mbim_proxy.specs.History.{history}
use Rattle.rig_runs.specs.Stage.{Stage, clients_take, modem_takes, ask_all, meet, arrive}
use Rattle.rig_runs.specs.Rig.{join, say, pass}
use Rattle.rig_runs.specs.Mbim.{setup, cast}
use Rattle.rig_runs.specs.MbimExamples.{configuration, open_2}
use Rattle.rig_laws_mbim.proofs.Messages.{query, cid_for, query_is, query_number_is, answer, answer_is, opened_modem, own_open_under, opened, modem_is_opened, open_number_is}
use Rattle.rig_laws_mbim.proofs.Calm.{Progress, shut, opening, ready, one_more_configured, queue_is}
use Rattle.rig_laws_mbim.proofs.Hears.{Suits}
use Rattle.rig_laws.proofs.Pairs.{Pairs, Found, as_many, one_more, find}
use Rattle.rig_laws_mbim.proofs.Pairs.{all_are_commands}
use Rattle.rig_laws_mbim.proofs.Events.{Going, AllAreServed, HasOpened, HasAsked, joins, configures, finds_open, opens_modem, fills_share, is_refused, asks, answers, opens, goes_on}
use Rattle.rig_laws_mbim.proofs.Taking.{AreServed, clients_are_served, modem_is_served}

pub one_message : (x : List ℕ) → IsMessage size_of x → (cut size_of x).messages ≡ x ∷ []
unfolding cut_from
one_message x is = (ends_message size_of size_of-kept size_of-positive refl [] x [] x refl refl is).messages

-- a short message comes whole
pub one_piece : (count : ℕ) (x : List ℕ) → length x ≤ 200 → pieces_of count x ≡ x ∷ []
unfolding alone.pieces_of
one_piece zero x short = refl
one_piece (suc count) x short =
    let test : nat_le (length x) piece_limit ≡ true = grind (arith, nat_tests) in
    ap (λ (b : Bool). elim b [ true ↦ x ∷ [] | false ↦ take piece_limit x ∷ pieces_of count (drop piece_limit x) ]) test

-- a modem that was asked nothing, or that was opened
abbrev pub WasAsked : ModemState → List (List ℕ) → Type 0
WasAsked IsReady asked = state_after (machine default_profile) asked ≡ opened_modem
WasAsked _ asked = asked ≡ []

module _ (clients : ℕ) where
  -- the messages that are held answer the requests in use, and nothing waits for anybody
  pub record Stands (w : Progress) (stage : Stage) : Type 0 where
    pub requests : List Request
    pub going : Going w requests [] stage.events
    pub served : AllAreServed stage.events
    pub pairs : Pairs Suits stage.held requests
    pub asked : WasAsked w.modem stage.asked

  abbrev after : List Event → List Event
  after events = clients_take (proxy_of setup) (range_with_len 1 clients) events

  -- ---- an event that asks the modem nothing, and one that asks it something ----

  -- so many messages are held then
  pub record HasMet (w : Progress) (count : ℕ) (stage : Stage) : Type 0 where
    pub stands : Stands w stage
    pub held : length stage.held ≡ count

  meets_quietly : (w : Progress) (requests : List Request) (event : Event) (stage : Stage) → w.joined ≤ clients → Going w requests [] (event ∷ stage.events) → Pairs Suits stage.held requests → WasAsked w.modem stage.asked
      → HasMet w (length stage.held) (meet (cast clients) event stage)
  unfolding cut_from ask_all
  meets_quietly w requests event stage within going pairs asked =
      let all = clients_are_served w requests [] clients (event ∷ stage.events) within going in
      let done = modem_is_served w requests [] (after (event ∷ stage.events)) all in
      let settled : Stage = record { events = modem_takes (proxy_of setup) (after (event ∷ stage.events)); asked = stage.asked; held = stage.held } in
      let is : meet (cast clients) event stage ≡ settled = ap (λ (q : List ℕ). ask_all (cast clients) (cut size_of q).messages settled) (queue_is all.going.calm) in
      subst (HasMet w (length stage.held)) (sym is)
      (record { stands = record { requests = requests; going = done.going; served = done.served; pairs = pairs; asked = asked }; held = refl })

  -- what the stage is behind an event that asks the modem one thing
  pub record HasMetAsking (w : Progress) (requests : List Request) (r : Request) (reply : List ℕ) (before stage : Stage) : Type 0 where
    pub going : Going w (requests ++ r ∷ []) [] stage.events
    pub served : AllAreServed stage.events
    pub held : stage.held ≡ before.held ++ reply ∷ []
    pub asked : stage.asked ≡ wire setup r ∷ before.asked

  meets_asking : (w : Progress) (requests : List Request) (r : Request) (event : Event) (stage : Stage) (reply : List ℕ) → w.joined ≤ clients → Going w (requests ++ r ∷ []) (wire setup r) (event ∷ stage.events)
      → IsMessage size_of (wire setup r) → (machine default_profile).sends (state_after (machine default_profile) stage.asked) (wire setup r) ≡ reply → IsMessage size_of reply
      → HasMetAsking w requests r reply stage (meet (cast clients) event stage)
  unfolding ask_all
  meets_asking w requests r event stage reply within going is_message replies is_reply =
      let all = clients_are_served w (requests ++ r ∷ []) (wire setup r) clients (event ∷ stage.events) within going in
      let done = modem_is_served w (requests ++ r ∷ []) (wire setup r) (after (event ∷ stage.events)) all in
      let settled : Stage = record { events = modem_takes (proxy_of setup) (after (event ∷ stage.events)); asked = stage.asked; held = stage.held } in
      let answered : Stage = record { events = settled.events; asked = wire setup r ∷ stage.asked; held = stage.held ++ reply ∷ [] } in
      let is : meet (cast clients) event stage ≡ answered =
      ap (λ (q : List ℕ). ask_all (cast clients) (cut size_of q).messages settled) (queue_is all.going.calm)
      ∙ ap (λ (messages : List (List ℕ)). ask_all (cast clients) messages settled) (one_message (wire setup r) is_message)
      ∙ ap (λ (said : List ℕ). let end : Stage = record { events = settled.events; asked = wire setup r ∷ stage.asked; held = stage.held ++ (cut size_of said).messages } in end) replies
      ∙ ap (λ (messages : List (List ℕ)). let end : Stage = record { events = settled.events; asked = wire setup r ∷ stage.asked; held = stage.held ++ messages } in end) (one_message reply is_reply) in
      subst (HasMetAsking w requests r reply stage) (sym is) (record { going = done.going; served = done.served; held = refl; asked = refl })

  -- ---- clients join and open the device ----

  pub joins_stage : (joined : ℕ) (stage : Stage) → Stands (shut joined 0) stage → joined < clients → clients ≤ 64 → HasMet (shut (joined + 1) 0) (length stage.held) (join (cast clients) stage (joined + 1))
  joins_stage joined stage stands more within =
      meets_quietly (shut (joined + 1) 0) stands.requests (Joined (joined + 1)) stage (omega (arith, more)) (joins stands.going (omega (arith, more, within))) stands.pairs stands.asked

  pub configures_stage : (w : Progress) (stage : Stage) → Stands w stage → w.configured < w.joined → w.joined ≤ clients → HasMet (one_more_configured w) (length stage.held) (say (cast clients) (w.configured + 1) stage configuration)
  configures_stage w stage stands more within =
      meets_quietly (one_more_configured w) stands.requests (Piece (w.configured + 1) configuration) stage within (configures stands.going stands.served more) stands.pairs stands.asked

  pub finds_open_stage : (joined configured opened : ℕ) (stage : Stage) → Stands (ready joined configured opened) stage → opened < configured → configured ≤ joined → joined ≤ clients
      → HasMet (ready joined configured (opened + 1)) (length stage.held) (say (cast clients) (opened + 1) stage open_2)
  finds_open_stage joined configured opened stage stands more order within =
      meets_quietly (ready joined configured (opened + 1)) stands.requests (Piece (opened + 1) open_2) stage within (finds_open stands.going stands.served more order) stands.pairs stands.asked

  -- ---- the first has the modem opened ----

  -- its answer is held
  pub record IsOpening (joined : ℕ) (stage : Stage) : Type 0 where
    pub r : Request
    pub own : r.conn ≡ 0
    pub opens : r.number < 2 ^ 32
    pub is_open : is_own_open r ≡ true
    pub going : Going (opening joined) (r ∷ []) [] stage.events
    pub served : AllAreServed stage.events
    pub held : stage.held ≡ opened r.number ∷ []
    pub asked : state_after (machine default_profile) stage.asked ≡ opened_modem

  none_in_use : (held : List (List ℕ)) (requests : List Request) → held ≡ [] → Pairs Suits held requests → requests ≡ []
  none_in_use [] [] none pairs = refl
  none_in_use [] (r ∷ requests) none pairs = absurd pairs
  none_in_use (m ∷ held) requests none pairs = absurd (let clash : length (m ∷ held) ≡ 0 = ap length none in omega (arith, clash))

  pub opens_stage : (joined : ℕ) (stage : Stage) → Stands (shut joined 1) stage → stage.held ≡ [] → 1 ≤ joined → joined ≤ clients → IsOpening joined (say (cast clients) 1 stage open_2)
  opens_stage joined stage stands none some within =
      let going : Going (shut joined 1) [] [] stage.events = subst (λ (l : List Request). Going (shut joined 1) l [] stage.events) (none_in_use stage.held stands.requests none stands.pairs) stands.going in
      let asked : HasOpened joined (Piece 1 open_2 ∷ stage.events) = opens_modem going some in
      let r : Request = asked.r in
      let is = modem_is_opened r.number in
      let before : state_after (machine default_profile) stage.asked ≡ (machine default_profile).fresh = ap (state_after (machine default_profile)) stands.asked in
      let replies : (machine default_profile).sends (state_after (machine default_profile) stage.asked) (wire setup r) ≡ opened r.number =
      ap (λ (s : State). (machine default_profile).sends s (wire setup r)) before
      ∙ ap ((machine default_profile).sends (machine default_profile).fresh) asked.wire_is
      ∙ is.said
      ∙ ap opened (open_number_is r.number asked.below) in
      let met = meets_asking (opening joined) [] r (Piece 1 open_2) stage (opened r.number) within asked.going (subst (IsMessage size_of) (sym asked.wire_is) is.is_request) replies is.is_message in
      record {
        r = r;
        own = asked.own;
        opens = asked.below;
        is_open = asked.opens;
        going = met.going;
        served = met.served;
        held = met.held ∙ ap (λ (l : List (List ℕ)). l ++ opened r.number ∷ []) none;
        asked =
            ap (state_after (machine default_profile)) met.asked
            ∙ ap (λ (s : State). (machine default_profile).next s (wire setup r)) before
            ∙ ap ((machine default_profile).next (machine default_profile).fresh) asked.wire_is
            ∙ is.opens;
      }

  -- and arrives
  pub opening_ends : (joined : ℕ) (stage : Stage) (is : IsOpening joined stage) → 1 ≤ joined → joined ≤ clients → HasMet (ready joined 1 1) 0 (arrive (cast clients) (opened is.r.number) (record stage { held = [] }))
  opening_ends joined stage is some within =
      let without : Stage = record { events = stage.events; asked = stage.asked; held = [] } in
      let m : List ℕ = opened is.r.number in
      subst (λ (pieces : List (List ℕ)). HasMet (ready joined 1 1) 0 (fold (λ (st : Stage) piece. meet (cast clients) (ModemPiece piece) st) without pieces)) (sym (one_piece (length m) m (modem_is_opened is.r.number).short))
      (meets_quietly (ready joined 1 1) [] (ModemPiece m) without within (opens is.r is.opens is.own is.is_open some is.going is.served) tt is.asked)

  -- ---- a client asks ----

  -- where as many of the client's commands wait as may, the modem is asked nothing
  pub refuses_stage : (joined configured opened c choice own : ℕ) (stage : Stage) → Stands (ready joined configured opened) stage → 1 ≤ c → c ≤ opened → opened ≤ joined → joined ≤ clients → length stage.held ≤ 199
      → fills_share c stage.events ≡ true → HasMet (ready joined configured opened) (length stage.held) (say (cast clients) c stage (query (cid_for choice) own))
  refuses_stage joined configured opened c choice own stage stands low high order within few full =
      let same = as_many Suits stage.held stands.requests stands.pairs in
      meets_quietly (ready joined configured opened) stands.requests (Piece c (query (cid_for choice) own)) stage within (is_refused c choice own stands.going stands.served low high order (omega (arith, same, few)) full) stands.pairs stands.asked

  pub asks_stage : (joined configured opened c choice own : ℕ) (stage : Stage) → Stands (ready joined configured opened) stage → 1 ≤ c → c ≤ opened → opened ≤ joined → joined ≤ clients → length stage.held ≤ 199
      → fills_share c stage.events ≡ false → HasMet (ready joined configured opened) (length stage.held + 1) (say (cast clients) c stage (query (cid_for choice) own))
  asks_stage joined configured opened c choice own stage stands low high order within few free =
      let same = as_many Suits stage.held stands.requests stands.pairs in
      let asked : HasAsked joined configured opened choice stands.requests (Piece c (query (cid_for choice) own) ∷ stage.events) = asks c choice own stands.going low high order (omega (arith, same, few)) free in
      let r : Request = asked.r in
      let q = query_is choice in
      let a = answer_is choice in
      let reply : List ℕ = answer (cid_for choice) r.number in
      let replies : (machine default_profile).sends (state_after (machine default_profile) stage.asked) (wire setup r) ≡ reply =
      ap (λ (s : State). (machine default_profile).sends s (wire setup r)) stands.asked
      ∙ ap ((machine default_profile).sends opened_modem) asked.wire_is
      ∙ a.said r.number
      ∙ ap (answer (cid_for choice)) (query_number_is (cid_for choice) r.number asked.number) in
      let met = meets_asking (ready joined configured opened) stands.requests r (Piece c (query (cid_for choice) own)) stage reply within asked.going (subst (IsMessage size_of) (sym asked.wire_is) (q.is_message r.number)) replies (a.is_message r.number) in
      let suits : Suits reply r = record { choice = choice; below = asked.number; is = refl; command = asked.command } in
      let then_state : state_after (machine default_profile) (say (cast clients) c stage (query (cid_for choice) own)).asked ≡ opened_modem =
      ap (state_after (machine default_profile)) met.asked
      ∙ ap (λ (s : State). (machine default_profile).next s (wire setup r)) stands.asked
      ∙ ap ((machine default_profile).next opened_modem) asked.wire_is
      ∙ a.stays r.number in
      record {
        stands = record {
          requests = stands.requests ++ r ∷ [];
          going = met.going;
          served = met.served;
          pairs = subst (λ (l : List (List ℕ)). Pairs Suits l (stands.requests ++ r ∷ [])) (sym met.held) (one_more Suits stage.held stands.requests reply r stands.pairs suits);
          asked = then_state;
        };
        held = ap length met.held ∙ length-append stage.held (reply ∷ []);
      }

  -- ---- a message that is held arrives ----

  pub arrives : (joined configured opened : ℕ) (front : List (List ℕ)) (m : List ℕ) (back : List (List ℕ)) (stage : Stage) → Stands (ready joined configured opened) stage → joined ≤ clients → stage.held ≡ front ++ m ∷ back
      → HasMet (ready joined configured opened) (length (front ++ back)) (arrive (cast clients) m (record stage { held = front ++ back }))
  arrives joined configured opened front m back stage stands within held =
      let w : Progress = ready joined configured opened in
      let found : Found Suits front m back stands.requests = find Suits front m back stands.requests (subst (λ (l : List (List ℕ)). Pairs Suits l stands.requests) held stands.pairs) in
      let without : Stage = record { events = stage.events; asked = stage.asked; held = front ++ back } in
      let going : Going w (found.before ++ found.behind) [] (ModemPiece m ∷ stage.events) =
      answers m found.before found.r found.behind found.suits (subst (λ (l : List Request). Going w l [] stage.events) found.whole stands.going) stands.served in
      let short : length m ≤ 200 = subst (λ (x : List ℕ). length x ≤ 200) (sym found.suits.is) ((answer_is found.suits.choice).short found.r.number) in
      subst (λ (pieces : List (List ℕ)). HasMet w (length (front ++ back)) (fold (λ (st : Stage) piece. meet (cast clients) (ModemPiece piece) st) without pieces)) (sym (one_piece (length m) m short))
      (meets_quietly w (found.before ++ found.behind) (ModemPiece m) without within going found.others stands.asked)

  -- ---- the time goes on ----

  pub passes : (joined configured opened time : ℕ) (stage : Stage) → Stands (ready joined configured opened) stage → joined ≤ clients → length stage.held ≤ 200 → HasMet (ready joined configured opened) (length stage.held) (pass (cast clients) time stage)
  passes joined configured opened time stage stands within few =
      let same = as_many Suits stage.held stands.requests stands.pairs in
      meets_quietly (ready joined configured opened) stands.requests (Now ((cast clients).proxy.time stage.events + time)) stage within
      (goes_on ((cast clients).proxy.time stage.events + time) stands.going stands.served (omega (arith, same, few)) (all_are_commands stage.held stands.requests stands.pairs)) stands.pairs stands.asked
