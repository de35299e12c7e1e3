-- What a message of a client makes of a core.
use Rattle.std.proofs.Common.{◌≡◌, ℕ, ◌+◌, ◌≤◌, nat_lt, nat_le, not, ◌&&◌, Bool, true, false, ◌||◌, ◌==◌, List, [], ◌∷◌, ◌++◌, length, refl, ap, sym, ◌∙◌, subst, arith, append-nil, Option, None, if◌then◌else◌}
use Rattle.std.proofs.lemmas.Bool.Decides.{nat_tests}
use Rattle.std.proofs.lemmas.List.{drop-append-le}
use Rattle.connections.specs.Table.{Connection, Table}
use Rattle.mbim_frame.specs.declared.kind.MessageKind.TheVariants as kind
use Rattle.mbim_frame.specs.Head.{is_kind}
use Rattle.proxy_history.specs.Items.{Says}
use Rattle.proxy_history.specs.Facts.{Fact, Judged, Forwarded, Verdict, Own, Share, Forward, Waits}
use Rattle.proxy_history.specs.Decision.{Decision, Replies, Forwards, forwards_under}
use Rattle.proxy_history.specs.Connections.{present, dropped, contains, message_count}
use Rattle.proxy_history.specs.Requests.{last_number}
use Rattle.proxy_history.specs.Modem.{now, is_away, to_modem, modem_taken_count}
use Rattle.proxy_history.specs.Sound.{IsSound}
use Rattle.proxy_history.specs.View.{Said, view}
use Rattle.proxy_history.specs.Noting.{end_overfull}
use Rattle.proxy_history.specs.Wording.{text_behind}
use Rattle.proxy_history.specs.Adding.{MayAdd, Soundly}
use Rattle.proxy_history.proofs.Rendering.{waiting_within}
use Rattle.proxy_history.proofs.Adding.{extends_keeps}
use Rattle.proxy_state.specs.Requests.{requests_in_use}
use Rattle.proxy_state.proofs.Shares.{share_counted}
use Rattle.mbim_state.specs.Asked.{asked_of}
use Rattle.proxy_state.specs.Stands.{Streams, connection_as, connection_of}
use Rattle.proxy_state.specs.Faithful.{settled_if, settled}
use Rattle.proxy_state.proofs.Keeping.{keeps_changed}
use Rattle.proxy_state.proofs.Replying as replying
use Rattle.mbim_proxy.specs.Setup.{Setup, the_space}
use Rattle.mbim_proxy.specs.Known.{Known}
use Rattle.mbim_proxy.specs.OwnReplies.{view_decides}
use Rattle.mbim_proxy.specs.Step.{view_of, known_now}
use Rattle.mbim_proxy.specs.Text.{mbim_wording, note}
use Rattle.mbim_proxy.specs.ModemStates.{IsOpening, state}
use Rattle.mbim_proxy.specs.Lists.{askers, last_list}
use Rattle.mbim_proxy.specs.Forwarding.{wire, wire_of, own_open, request_of, has_room, number_for, forward}
use Rattle.mbim_proxy.specs.Clients.{command_message, opening_decision, decision_on, forward_for, judge}
use Rattle.mbim_proxy.specs.Clients as clients
use Rattle.mbim_proxy.specs.History.{mbim_protocol}
use Rattle.mbim_proxy.proofs.Walk.{Asks, orderly}
use Rattle.mbim_state.specs.Core.{Client, client_of, Numbers, ModemSide, MbimState, side_of, kept_of}
use Rattle.mbim_state.specs.Transitions.{number_at, asked_with, forwards, opens, decision_of, decision_for, after, text, replies, asks_modem, act_on, hear_client, mbim_handlers}
use Rattle.mbim_state.proofs.Regular.{Regular, regular_more, new_by, taken_within}
use Rattle.mbim_state.proofs.Askers.{asked_is}
use Rattle.mbim_state.proofs.ClientStates.{ClientState, client_state_of, put_to, judged_own, judged_other}
use Rattle.mbim_state.proofs.Numbers.{numbers_forwarded, next_is}
use Rattle.mbim_state.proofs.Keeping as keeping
use Rattle.mbim_state.proofs.Keeping.{follows_connections}

-- ---- what is decided ----

module _ (s : Setup) (messages : List (List ℕ)) where
  abbrev pub side : List Fact → ModemSide
  side past = side_of s messages past

  pub number_is : (m : List ℕ) (past : List Fact) → number_at s m (side past) ≡ number_for s m past
  number_is m past = ap (λ (o : Option ℕ). if has_room s m past then o else None) (next_is s past)

  decision_is : (known : Known) (m : List ℕ) (past : List Fact) → decision_of s (client_of known) m (side past) ≡ decision_on s known m past
  decision_is known m past =
      ap (λ (o : Option ℕ). if view_decides s known m then Replies Own else if is_kind kind.Open m then opening_decision (state s.starts_away past) o else forwards_under (number_at s (command_message s known m) (side past))) (number_is (own_open s) past)
      ∙ ap (λ (o : Option ℕ). if view_decides s known m then Replies Own else if is_kind kind.Open m then opening_decision (state s.starts_away past) (number_for s (own_open s) past) else forwards_under o) (number_is (command_message s known m) past)

  decision_for_is : (known : Known) (c : ℕ) (m : List ℕ) (past : List Fact) → decision_for s c (client_of known) m (side past) ≡ clients.decision_for s known c m past
  decision_for_is known c m past =
      let passes : ℕ → Bool = λ count. not (view_decides s known m) && not (is_kind kind.Open m) && nat_le s.limits.share count in
      ap (λ (n : ℕ). if passes n then Replies Share else decision_of s (client_of known) m (side past)) (share_counted asked_of c the_space past)
      ∙ ap (λ (d : Decision). if clients.passes_share s known c m past then Replies Share else d) (decision_is known m past)

  -- ---- what is kept beside the connections ----

  side_judged : (past : List Fact) (c place : ℕ) (m : List ℕ) (verdict : Verdict) → IsSound s.limits past → contains c (present past) ≡ true
      → (let after : ModemSide = record (side past) { askers = asked_with s c verdict (askers past) } in after) ≡ side (Judged c place m verdict ∷ past)
  unfolding now is_away state requests_in_use last_number last_list to_modem modem_taken_count
  side_judged past c place m verdict sound there = ap (λ (l : List ℕ). let after : ModemSide = record (side past) { askers = l } in after) (asked_is s past c place m verdict sound there)

  -- a request goes to the modem
  pub side_forwarded : (past : List Fact) (c : ℕ) (m : List ℕ) (n : ℕ) → modem_taken_count past ≤ length (to_modem (wire s) past)
      → record (forwards s c m n (side past)) { modem = if is_kind kind.Open m then IsOpening else state s.starts_away past } ≡ side (Forwarded (request_of s c m n past) ∷ past)
  unfolding now is_away state askers last_list to_modem modem_taken_count
  side_forwarded past c m n within =
      ap (λ (l : List ℕ). let b : ModemSide = record (forwards s c m n (side past)) { modem = if is_kind kind.Open m then IsOpening else state s.starts_away past; outbox = record { bytes = l; capacity = s.limits.modem_outbox } } in b)
      (sym (drop-append-le (modem_taken_count past) (to_modem (wire s) past) (wire_of s n m) within))
      ∙ ap (λ (numbers : Numbers). let b : ModemSide = record (side (Forwarded (request_of s c m n past) ∷ past)) { numbers = numbers } in b) (sym (numbers_forwarded s past (request_of s c m n past) refl))

module _ (s : Setup) (streams : Streams) where
  abbrev Kept : List Fact → MbimState → Type 0
  Kept past x = keeping.Kept s streams past x

  abbrev side_now : List Fact → ModemSide
  side_now past = side s streams.messages past

  module _ (c : ℕ) (m : List ℕ) (past : List Fact) (table : Table Client) (there : contains c (present past) ≡ true) (K : Kept past (record { table = table; beside = side s streams.messages past })) where
    abbrev x : MbimState
    x = record { table = table; beside = side_now past }

    abbrev known : Known
    known = known_now s c past

    abbrev one : Connection Client
    one = connection_of (mbim_protocol s) (kept_of s) streams.rests past c

    abbrev was : ClientState
    was = client_state_of s past c

    abbrev judged : Verdict → List Fact
    judged verdict = Judged c (message_count c past + 1) m verdict ∷ past

    abbrev side_after : Verdict → ModemSide
    side_after verdict = record (side_now past) { askers = asked_with s c verdict (askers past) }

    judged_side : (verdict : Verdict) → side_after verdict ≡ side_now (judged verdict)
    judged_side verdict = side_judged s streams.messages past c (message_count c past + 1) m verdict K.fine.sound there

    others : (verdict : Verdict) (d : ℕ) → (c == d) ≡ false → client_state_of s (judged verdict) d ≡ client_state_of s past d
    others verdict d differs = judged_other s past c (message_count c past + 1) d m verdict differs

    regular_heard : Regular s (clients.hear_client s known c m past)
    regular_heard =
        extends_keeps (Soundly (mbim_protocol s) (Asks s) (MayAdd (Says c m))) (Regular s) (λ fact before may. regular_more s fact before may.0 may.2 (new_by s (Says c m) fact before refl may.1))
        past (clients.hear_client s known c m past) ((orderly s).client c m past K.fine.sound there).extends K.fine

    -- ---- what is replied to ----

    replied : (verdict : Verdict) → Kept (note s (Judged c (message_count c past + 1) m verdict) past) (settled (mbim_handlers s) c (replies s c m verdict one.client one.outbox (side_now past)) x)
    unfolding present dropped connection_of end_overfull
    replied verdict =
        replying.keeps_replied (mbim_protocol s) (kept_of s) (mbim_handlers s) (Regular s) (follows_connections s) streams (judged verdict) past x c (text s (Said m verdict) was.client) (λ found. after s (Said m verdict) was.client) (side_after verdict)
        (judged_own s past c (message_count c past + 1) m verdict) (others verdict) refl refl (judged_side verdict)
        (regular_more s (Judged c (message_count c past + 1) m verdict) past there tt tt K.fine) there K

    -- ---- what is forwarded ----

    -- no bytes come for the client
    still : put_to s [] was ≡ was
    still =
        let few : length was.waiting ≤ s.limits.outbox = waiting_within s.limits.outbox (text_behind (mbim_wording s)) (view_of c past) in
        let room : nat_lt s.limits.outbox (length was.waiting + 0) ≡ false = grind (arith, nat_tests, few) in
        ap (λ (b : Bool). let a : ClientState = record { client = was.client; waiting = if was.is_over || b then was.waiting else was.waiting ++ []; is_over = was.is_over || b } in a) room
        ∙ elim was.is_over as (λ b. (let a : ClientState = record { client = was.client; waiting = if b || false then was.waiting else was.waiting ++ []; is_over = b || false } in a) ≡ record { client = was.client; waiting = was.waiting; is_over = b }) [
          | true ↦ refl
          | false ↦ ap (λ (l : List ℕ). let a : ClientState = record { client = was.client; waiting = l; is_over = false } in a) (append-nil was.waiting)
        ]

    module _ (verdict : Verdict) (silent : text s (Said m verdict) was.client ≡ []) (sent : List ℕ) (sender n : ℕ) where
      abbrev facts : List Fact
      facts = forward s sender sent n (judged verdict)

      own : client_state_of s facts c ≡ record was { client = after s (Said m verdict) was.client }
      unfolding view
      own =
          judged_own s past c (message_count c past + 1) m verdict
          ∙ ap (λ (bytes : List ℕ). let a : ClientState = record (put_to s bytes was) { client = after s (Said m verdict) was.client } in a) silent
          ∙ ap (λ (a : ClientState). let b : ClientState = record a { client = after s (Said m verdict) was.client } in b) still

      other : (d : ℕ) → (c == d) ≡ false → client_state_of s facts d ≡ client_state_of s past d
      unfolding view
      other d differs = others verdict d differs

      sent_on : (beside : ModemSide) → beside ≡ side_now facts → Regular s facts → Kept facts (settled_if (mbim_handlers s) true c (record { client = after s (Said m verdict) one.client; outbox = one.outbox; beside = beside; has_room = true }) x)
      unfolding present dropped connection_of
      sent_on beside is regular =
          keeps_changed (mbim_protocol s) (kept_of s) (Regular s) streams facts past x c (λ l. record l { client = after s (Said m verdict) one.client; outbox = one.outbox }) beside
          (ap (connection_as s.limits.outbox (streams.rests c) c) own) (ap (λ (a : ClientState). a.is_over) own ∙ K.fits c there) other refl refl is regular there K

    within_judged : (verdict : Verdict) → modem_taken_count (judged verdict) ≤ length (to_modem (wire s) (judged verdict))
    unfolding modem_taken_count to_modem
    within_judged verdict = taken_within s past K.fine.new

    forwarded : (n : ℕ) (opens_it : Bool) → Regular s (forward_for opens_it s known c m n past) → Kept (forward_for opens_it s known c m n past) (settled (mbim_handlers s) c (asks_modem opens_it s c m n one.client one.outbox (side_now past)) x)
    unfolding connection_of
    forwarded n true regular =
        sent_on Waits refl (own_open s) 0 n (opens s n (side_after Waits))
        (ap (opens s n) (judged_side Waits) ∙ side_forwarded s streams.messages (judged Waits) 0 (own_open s) n (within_judged Waits)) regular
    forwarded n false regular =
        sent_on Forward refl (command_message s known m) c n (forwards s c (command_message s known m) n (side_now past))
        (ap (forwards s c (command_message s known m) n) (judged_side Forward) ∙ side_forwarded s streams.messages (judged Forward) c (command_message s known m) n (within_judged Forward)) regular

    -- ---- whatever is decided ----

    decided : (decision : Decision) → Regular s (judge s known c m decision past) → Kept (judge s known c m decision past) (settled (mbim_handlers s) c (act_on s c m decision one.client one.outbox (side_now past)) x)
    decided (Replies verdict) regular = replied verdict
    decided (Forwards n) regular = forwarded n (is_kind kind.Open m) regular

    heard_here : Kept (clients.hear_client s known c m past) (settled (mbim_handlers s) c (hear_client s c m one.client one.outbox (side_now past)) x)
    unfolding connection_of
    heard_here =
        subst (λ (decision : Decision). Kept (clients.hear_client s known c m past) (settled (mbim_handlers s) c (act_on s c m decision one.client one.outbox (side_now past)) x)) (sym (decision_for_is s streams.messages known c m past)) (decided (clients.decision_for s known c m past) regular_heard)

  -- whatever a client says
  pub keeps_heard : (c : ℕ) (m : List ℕ) (past : List Fact) (x : MbimState) → contains c (present past) ≡ true → Kept past x
      → (let l : Connection Client = connection_of (mbim_protocol s) (kept_of s) streams.rests past c in Kept (clients.hear_client s (known_now s c past) c m past) (settled (mbim_handlers s) c (hear_client s c m l.client l.outbox x.beside) x))
  keeps_heard c m past x there K =
      let l : Connection Client = connection_of (mbim_protocol s) (kept_of s) streams.rests past c in
      subst (λ (b : ModemSide). let y : MbimState = record { table = x.table; beside = b } in Kept (clients.hear_client s (known_now s c past) c m past) (settled (mbim_handlers s) c (hear_client s c m l.client l.outbox b) y)) (sym K.holds.beside)
      (heard_here c m past x.table there (subst (λ (b : ModemSide). Kept past (record { table = x.table; beside = b })) K.holds.beside K))
