-- What holds of a rig's stage between two actions, and how each action keeps it. Lists of events have the newest first.
use Rattle.std.proofs.Common.{◌≡◌, ℕ, zero, suc, ◌+◌, ◌<◌, ◌≤◌, Bool, true, false, List, [], ◌∷◌, ◌++◌, length, take, drop, fold, nat_le, refl, ap, sym, ◌∙◌, arith, subst}
use Rattle.std.specs.List.{range_with_len}
use Rattle.std.proofs.lemmas.Bool.Decides.{nat_tests}
use Rattle.framing.specs.Framing.{IsMessage}
use Rattle.framing.specs.Cutting.{cut, cut_from}
use Rattle.qmux_frame.specs.Frame.{size_of}
use Rattle.qmux_frame.specs.Framing.{size_of-kept, size_of-positive}
use Rattle.qmux_frame.specs.Reply.{with_number}
use Rattle.proxy_history.specs.Events.{Event, Joined, Piece, ModemPiece, Now}
use Rattle.proxy_history.specs.Coming.{piece_limit}
use Rattle.proxy_history.specs.Facts.{Request}
use Rattle.proxy_solo.specs.Solo as alone
use Rattle.proxy_solo.specs.Solo.{pieces_of}
use Rattle.proxy_history.proofs.Pieces.{ends_message}
use Rattle.sim_modem.specs.Sim.{Answering}
use Rattle.qmi_proxy.specs.Setup.{Setup}
use Rattle.qmi_proxy.specs.Limits.{connection_limit, share_limit}
use Rattle.qmi_proxy.specs.Spaces.{space_of, top_of}
use Rattle.qmi_proxy.specs.Messages.{is_malformed, opens}
use Rattle.qmi_proxy.specs.Clients.{wire}
use Rattle.qmi_proxy.specs.Proxy.{proxy_of}
use Rattle.rig_runs.specs.Stage.{Cast, Stage, clients_take, modem_takes, ask_all, meet, arrive}
use Rattle.rig_runs.specs.Rig.{join, say, pass}
use Rattle.rig_laws.proofs.Calm.{queue_is}
use Rattle.rig_laws.proofs.Says.{IsRequestOf}
use Rattle.rig_laws.proofs.Hears.{Suits}
use Rattle.rig_laws.proofs.Pairs.{Pairs, Found, as_many, one_more, find}
use Rattle.rig_laws.proofs.Events.{Going, AllAreServed, HasAsked, joins, opens_device, fills_share, few_fill_none, is_refused, asks, answers, goes_on}
use Rattle.rig_laws.proofs.Taking.{clients_are_served, modem_is_served}

pub one_message : (x : List ℕ) → IsMessage size_of x → (cut size_of x).messages ≡ x ∷ []
unfolding cut_from
one_message x is = (ends_message size_of size_of-kept size_of-positive refl [] x [] x refl refl is).messages

-- a short message comes whole
pub one_piece : (count : ℕ) (x : List ℕ) → length x ≤ piece_limit → pieces_of count x ≡ x ∷ []
unfolding alone.pieces_of
one_piece zero x short = refl
one_piece (suc count) x short =
    let test : nat_le (length x) piece_limit ≡ true = grind (arith, nat_tests) in
    ap (λ (b : Bool). elim b [ true ↦ x ∷ [] | false ↦ take piece_limit x ∷ pieces_of count (drop piece_limit x) ]) test

module _ (s : Setup) (there : s.starts_away ≡ false) (clients : ℕ) (modem : Answering) where
  abbrev pub cast : Cast
  cast = record { clients = range_with_len 1 clients; proxy = proxy_of s; modem = modem; size = size_of }

  -- the messages that are held answer the requests in use, and nothing waits for anybody
  pub record Stands (joined opened : ℕ) (stage : Stage) : Type 0 where
    pub requests : List Request
    pub going : Going s joined opened requests [] stage.events
    pub served : AllAreServed s stage.events
    pub pairs : Pairs Suits stage.held requests

  abbrev after : List Event → List Event
  after events = clients_take (proxy_of s) (range_with_len 1 clients) events

  -- ---- an event that asks the modem nothing, and one that asks it something ----

  pub record HasMet (joined opened : ℕ) (held : List (List ℕ)) (asked : List (List ℕ)) (stage : Stage) : Type 0 where
    pub stands : Stands joined opened stage
    pub held_is : stage.held ≡ held
    pub asked_is : stage.asked ≡ asked

  meets_quietly : (joined opened : ℕ) (requests : List Request) (event : Event) (stage : Stage) → joined ≤ clients → Going s joined opened requests [] (event ∷ stage.events) → Pairs Suits stage.held requests
      → HasMet joined opened stage.held stage.asked (meet cast event stage)
  unfolding cut_from ask_all
  meets_quietly joined opened requests event stage within going pairs =
      let all = clients_are_served s joined opened requests [] clients (event ∷ stage.events) within going in
      let done = modem_is_served s joined opened requests [] (after (event ∷ stage.events)) all in
      let settled : Stage = record { events = modem_takes (proxy_of s) (after (event ∷ stage.events)); asked = stage.asked; held = stage.held } in
      let is : meet cast event stage ≡ settled = ap (λ (q : List ℕ). ask_all cast (cut size_of q).messages settled) (queue_is s all.going.calm) in
      subst (HasMet joined opened stage.held stage.asked) (sym is)
      (record { stands = record { requests = requests; going = done.going; served = done.served; pairs = pairs }; held_is = refl; asked_is = refl })

  meets_asking : (joined opened : ℕ) (requests : List Request) (r : Request) (event : Event) (stage : Stage) (reply : List ℕ) → joined ≤ clients → Going s joined opened (requests ++ r ∷ []) (wire r) (event ∷ stage.events) → Pairs Suits stage.held requests
      → IsMessage size_of (wire r) → (cut size_of (modem stage.asked (wire r))).messages ≡ reply ∷ [] → Suits reply r
      → HasMet joined opened (stage.held ++ reply ∷ []) (wire r ∷ stage.asked) (meet cast event stage)
  unfolding ask_all
  meets_asking joined opened requests r event stage reply within going pairs is_message replies suits =
      let all = clients_are_served s joined opened (requests ++ r ∷ []) (wire r) clients (event ∷ stage.events) within going in
      let done = modem_is_served s joined opened (requests ++ r ∷ []) (wire r) (after (event ∷ stage.events)) all in
      let settled : Stage = record { events = modem_takes (proxy_of s) (after (event ∷ stage.events)); asked = stage.asked; held = stage.held } in
      let answered : Stage = record { events = settled.events; asked = wire r ∷ stage.asked; held = stage.held ++ reply ∷ [] } in
      let is : meet cast event stage ≡ answered =
      ap (λ (q : List ℕ). ask_all cast (cut size_of q).messages settled) (queue_is s all.going.calm)
      ∙ ap (λ (messages : List (List ℕ)). ask_all cast messages settled) (one_message (wire r) is_message)
      ∙ ap (λ (messages : List (List ℕ)). let end : Stage = record { events = settled.events; asked = wire r ∷ stage.asked; held = stage.held ++ messages } in end) replies in
      subst (HasMet joined opened (stage.held ++ reply ∷ []) (wire r ∷ stage.asked)) (sym is)
      (record { stands = record { requests = requests ++ r ∷ []; going = done.going; served = done.served; pairs = one_more Suits stage.held requests reply r pairs suits }; held_is = refl; asked_is = refl })

  -- ---- clients join and open the device ----

  pub joins_stage : (joined : ℕ) (stage : Stage) → Stands joined 0 stage → joined < clients → clients ≤ connection_limit → HasMet (joined + 1) 0 stage.held stage.asked (join cast stage (joined + 1))
  joins_stage joined stage stands more within =
      meets_quietly (joined + 1) 0 stands.requests (Joined (joined + 1)) stage (omega (arith, more)) (joins s stands.going (omega (arith, more, within))) stands.pairs

  pub opens_stage : (joined opened : ℕ) (m : List ℕ) (stage : Stage) → Stands joined opened stage → opened < joined → joined ≤ clients → IsMessage size_of m → length m ≤ piece_limit → is_malformed m ≡ false → opens s.device m ≡ true
      → HasMet joined (opened + 1) stage.held stage.asked (say cast (opened + 1) stage m)
  opens_stage joined opened m stage stands more within is short fine opening =
      meets_quietly joined (opened + 1) stands.requests (Piece (opened + 1) m) stage within (opens_device s m stands.going stands.served more is short fine opening) stands.pairs

  -- ---- a client asks ----

  -- the modem answers the message under this number by one message
  pub record RepliesWell (asked : List (List ℕ)) (c : ℕ) (m : List ℕ) (number : ℕ) : Type 0 where
    pub is_message : IsMessage size_of (with_number number m)
    pub reply : List ℕ
    pub messages : (cut size_of (modem asked (with_number number m))).messages ≡ reply ∷ []
    pub suits : (r : Request) → r.conn ≡ c → r.message ≡ m → r.number ≡ number → Suits reply r

  pub record HasSaid (joined opened : ℕ) (m : List ℕ) (before : Stage) (stage : Stage) : Type 0 where
    pub number : ℕ
    pub reply : List ℕ
    pub met : HasMet joined opened (before.held ++ reply ∷ []) (with_number number m ∷ before.asked) stage

  -- where as many of the client's requests wait as may, the modem is asked nothing
  pub refuses_stage : (joined opened c : ℕ) (m : List ℕ) (stage : Stage) → Stands joined opened stage → 1 ≤ c → c ≤ opened → opened ≤ joined → joined ≤ clients → IsRequestOf c m → fills_share s c m stage.events ≡ true
      → HasMet joined opened stage.held stage.asked (say cast c stage m)
  refuses_stage joined opened c m stage stands low high order within is full =
      meets_quietly joined opened stands.requests (Piece c m) stage within (is_refused s c m stands.going stands.served low high order is full) stands.pairs

  -- so few wait in all that none are as many
  pub few_held : (joined opened c : ℕ) (m : List ℕ) (stage : Stage) → Stands joined opened stage → length stage.held < share_limit → fills_share s c m stage.events ≡ false
  few_held joined opened c m stage stands few = few_fill_none s c m stands.going (let same = as_many Suits stage.held stands.requests stands.pairs in omega (arith, same, few))

  pub asks_stage : (joined opened c : ℕ) (m : List ℕ) (stage : Stage) → Stands joined opened stage → 1 ≤ c → c ≤ opened → opened ≤ joined → joined ≤ clients → length stage.held ≤ 199 → IsRequestOf c m → fills_share s c m stage.events ≡ false
      → ((number : ℕ) → number ≤ top_of (space_of m) → RepliesWell stage.asked c m number) → HasSaid joined opened m stage (say cast c stage m)
  asks_stage joined opened c m stage stands low high order within few is free replies =
      let asked : HasAsked s joined opened stands.requests c m (Piece c m ∷ stage.events) =
      asks s c m there stands.going low high order (let same = as_many Suits stage.held stands.requests stands.pairs in omega (arith, same, few)) is free in
      let well : RepliesWell stage.asked c m asked.r.number = replies asked.r.number asked.number in
      let sent : wire asked.r ≡ with_number asked.r.number m = ap (λ (l : List ℕ). with_number asked.r.number l) asked.message in
      let met : HasMet joined opened (stage.held ++ well.reply ∷ []) (wire asked.r ∷ stage.asked) (say cast c stage m) =
      meets_asking joined opened stands.requests asked.r (Piece c m) stage well.reply within asked.going stands.pairs
      (subst (IsMessage size_of) (sym sent) well.is_message)
      (subst (λ (w : List ℕ). (cut size_of (modem stage.asked w)).messages ≡ well.reply ∷ []) (sym sent) well.messages)
      (well.suits asked.r asked.conn asked.message refl) in
      record { number = asked.r.number; reply = well.reply; met = subst (λ (w : List ℕ). HasMet joined opened (stage.held ++ well.reply ∷ []) (w ∷ stage.asked) (say cast c stage m)) sent met }

  -- ---- a message that is held arrives ----

  pub arrives : (joined opened : ℕ) (front : List (List ℕ)) (m : List ℕ) (back : List (List ℕ)) (stage : Stage) → Stands joined opened stage → joined ≤ clients → stage.held ≡ front ++ m ∷ back
      → HasMet joined opened (front ++ back) stage.asked (arrive cast m (record stage { held = front ++ back }))
  arrives joined opened front m back stage stands within held =
      let found : Found Suits front m back stands.requests = find Suits front m back stands.requests (subst (λ (l : List (List ℕ)). Pairs Suits l stands.requests) held stands.pairs) in
      let without : Stage = record { events = stage.events; asked = stage.asked; held = front ++ back } in
      let going : Going s joined opened (found.before ++ found.behind) [] (ModemPiece m ∷ stage.events) =
      answers s m found.before found.r found.behind found.suits (subst (λ (l : List Request). Going s joined opened l [] stage.events) found.whole stands.going) stands.served in
      subst (λ (pieces : List (List ℕ)). HasMet joined opened (front ++ back) stage.asked (fold (λ (st : Stage) piece. meet cast (ModemPiece piece) st) without pieces)) (sym (one_piece (length m) m found.suits.short))
      (meets_quietly joined opened (found.before ++ found.behind) (ModemPiece m) without within going found.others)

  -- ---- the time goes on ----

  pub passes : (joined opened time : ℕ) (stage : Stage) → Stands joined opened stage → joined ≤ clients → length stage.held ≤ 200 → HasMet joined opened stage.held stage.asked (pass cast time stage)
  passes joined opened time stage stands within few =
      meets_quietly joined opened stands.requests (Now (cast.proxy.time stage.events + time)) stage within
      (goes_on s (cast.proxy.time stage.events + time) stands.going stands.served (let same = as_many Suits stage.held stands.requests stands.pairs in omega (arith, same, few))) stands.pairs
