-- One exchange of a client that is alone behind a proxy. Lists of events and of facts have the newest first.
use Rattle.std.proofs.Common.{◌≡◌, inl, inr, ℕ, ◌+◌, ◌<◌, ◌≤◌, Bool, true, false, not, ◌&&◌, ◌||◌, ◌==◌, nat_le, nat_lt, if◌then◌else◌, List, [], ◌∷◌, ◌++◌, length, map, Option, Some, None, refl, ap, sym, ◌∙◌, arith, subst, le_of_eq, slice_index, lit≤}
use Rattle.std.proofs.lemmas.Bool.{eq-eqb}
use Rattle.std.proofs.lemmas.Bool.Decides.{nat_tests}
use Rattle.framing.specs.Framing.{IsMessage}
use Rattle.framing.specs.Cutting.{cut, cut_from}
use Rattle.qmux_frame.specs.Frame.{size_of}
use Rattle.qmux_frame.specs.Framing.{size_of-kept, size_of-positive}
use Rattle.qmux_frame.specs.Head.{service_of, cid_of, number_of, is_control}
use Rattle.qmux_frame.specs.declared.kind.MessageKind.TheVariants as kind
use Rattle.qmux_frame.specs.Kind.{framed_kind}
use Rattle.qmux_frame.specs.Control.{is_release}
use Rattle.qmux_frame.specs.Reply.{with_number, result_reply, result_tlv}
use Rattle.qmux_frame.proofs.Framed.{framed_long, responses_framed, number_last, numbered_length}
use Rattle.proxy_history.specs.Events.{Event, Joined, Piece, ModemPiece, Took, ModemTook}
use Rattle.proxy_history.specs.Coming.{piece_limit, greatest_name}
use Rattle.proxy_history.specs.Coming as coming
use Rattle.proxy_history.specs.Streams.{stream, modem_stream, with_piece, is_bad}
use Rattle.proxy_history.specs.Items.{Says, GoesBad, ModemSays, ModemIsLost, item_if, modem_items}
use Rattle.proxy_history.specs.Facts.{Fact, Request, EventBegan, Own, Share, Foreign, Away, Full, Forward, Judged, Forwarded, Answered, Granted, Freed, Taken}
use Rattle.proxy_history.specs.Decision.{Decision, Replies, Forwards, forwards_under}
use Rattle.proxy_history.specs.Connections.{present, is_present, contains, message_count}
use Rattle.proxy_history.specs.Requests.{in_use, pending, without_request, has_request, has_share, of_client, is_pending, last_number, of_space, numbers_of, number_after, following, free_from}
use Rattle.proxy_history.specs.ClientIds.{holder, is_other}
use Rattle.proxy_history.specs.Modem.{is_away, modem_queue, to_modem, modem_taken_count}
use Rattle.proxy_history.specs.View.{view, said_at}
use Rattle.proxy_history.specs.Rendering.{render}
use Rattle.proxy_history.specs.Wording.{told_by}
use Rattle.proxy_history.specs.History as proxy
use Rattle.qmi_proxy.specs.Setup.{Setup}
use Rattle.qmi_proxy.specs.Limits.{share_limit}
use Rattle.qmi_proxy.specs.Spaces.{space_of, limit_of, top_of, control_space}
use Rattle.qmi_proxy.specs.Messages.{uses_id, used_service, used_cid, is_success, byte_of, value_of}
use Rattle.qmi_proxy.specs.OwnReplies.{own_error, view_decides, is_opening}
use Rattle.qmi_proxy.specs.Text.{view_of, blank, note}
use Rattle.qmi_proxy.specs.Clients.{wire, decision_as, decision_on, has_room, holder_for, number_for, request_of, grant_if, judge, hear_client, shared_decision}
use Rattle.qmi_proxy.specs.FromModem.{NoChange, Grants, Frees, granted_unless, id_change, brings_id, holder_of_brought, is_answered_by, first_answered_by, answer, answer_or_late, respond, hear_as, hear_modem}
use Rattle.qmi_proxy.specs.History.{qmi_protocol, add_all, history, text_for}
use Rattle.qmi_proxy.specs.Regular.{Regular, IsAsked}
use Rattle.qmi_proxy.proofs.Regulars.{histories_are_regular}
use Rattle.std.specs.List.{AllByRecursion}
use Rattle.lone_client.specs.Relay.{Answering, Cast, Stage, sent_for, asked_then, taking, said, hear_each, heard, waiting, reply, ask}
use Rattle.lone_client.specs.QmiLaw.{cast_of}
use Rattle.proxy_history.proofs.Pieces.{ends_message}
use Rattle.lone_client.proofs.QmiCalm.{Calm, queue_is, id_is_free, is_there, began, granted, freed, modem_taken_all, was_taken, judged, judged_own, forwarded, answered, noted}

-- nothing refuses a message that no other client and no full queue is in the way of
decided : (own share foreign away room : Bool) (number : Option ℕ) → own ≡ false → share ≡ false → foreign ≡ false → away ≡ false → room ≡ true
    → (if own then Replies Own else if share then Replies Share else if foreign then Replies Foreign else if away then Replies Away else if not room then Replies Full else forwards_under number) ≡ forwards_under number
decided true share foreign away room number a b c d e = absurd (cc)
decided false true foreign away room number a b c d e = absurd (cc)
decided false false true away room number a b c d e = absurd (cc)
decided false false false true room number a b c d e = absurd (cc)
decided false false false false false number a b c d e = absurd (cc)
decided false false false false true number a b c d e = refl

taking_some : (event : ℕ → Event) (queue : List ℕ) (events : List Event) → 0 < length queue → taking event queue events ≡ event (length queue) ∷ events
taking_some event [] events some = absurd (omega arith)
taking_some event (byte ∷ queue) events some = refl

reply_is_some : (m : List ℕ) (error : ℕ) → (0 < length (result_reply m error)) × (length (result_reply m error) ≤ 20)
reply_is_some m error = (
  elim (is_control m) as (λ b. 0 < length (by b)) [ true ↦ omega arith | false ↦ omega arith ],
  elim (is_control m) as (λ b. length (by b) ≤ 20) [ true ↦ lit≤ tt | false ↦ lit≤ tt ],
)
  where
    by : Bool → List ℕ
    by b =
        if b
        then 0x01 ∷ 0x12 ∷ 0x00 ∷ 0x80 ∷ service_of m ∷ cid_of m ∷ 0x01 ∷ slice_index m 7 ∷ slice_index m 8 ∷ slice_index m 9 ∷ 0x07 ∷ 0x00 ∷ result_tlv error
        else 0x01 ∷ 0x13 ∷ 0x00 ∷ 0x80 ∷ service_of m ∷ cid_of m ∷ 0x02 ∷ slice_index m 7 ∷ slice_index m 8 ∷ slice_index m 9 ∷ slice_index m 10 ∷ 0x07 ∷ 0x00 ∷ result_tlv error

pub one_message : (x : List ℕ) → IsMessage size_of x → (cut size_of x).messages ≡ x ∷ []
unfolding cut_from
one_message x is = (ends_message size_of size_of-kept size_of-positive refl [] x [] x refl refl is).messages

module _ (s : Setup) (near : s.starts_away ≡ false) where
  -- between two exchanges
  pub record Stands (opened : Bool) (last : ℕ → ℕ) (events : List Event) : Type 0 where
    pub sound : coming.AreSound (qmi_protocol s) events
    pub names : greatest_name events ≡ 1
    pub whole : (cut size_of (stream 1 events)).rest ≡ []
    pub said : List ℕ
    pub said_is : modem_stream size_of s.starts_away events ≡ Some said
    pub said_whole : (cut size_of said).rest ≡ []
    pub calm : Calm s opened [] last [] [] (history s events)

  -- ---- the client says a message ----

  module _ {opened : Bool} {last : ℕ → ℕ} {events : List Event} (m : List ℕ) (stands : Stands opened last events) (is : IsMessage size_of m) (short : length m ≤ piece_limit) where
    abbrev past : List Fact
    past = EventBegan ∷ history s events

    before : Calm s opened [] last [] [] past
    before = began s stands.calm

    there : is_present 1 past ≡ true
    there = ap (contains 1) before.there

    piece_history : history s (Piece 1 m ∷ events) ≡ hear_client s 1 m past
    unfolding proxy.history proxy.add_all present
    piece_history =
        let ends = ends_message size_of size_of-kept size_of-positive refl (stream 1 events) m [] m stands.whole refl is in
        ap (λ (l : List (List ℕ)). add_all s (map (λ m. Says 1 m) l ++ item_if (is_bad size_of (stream 1 events ++ m)) (GoesBad 1)) past) ends.messages
        ∙ ap (λ (b : Bool). add_all s (map (λ m. Says 1 m) (m ∷ []) ++ item_if b (GoesBad 1)) past) ends.good
        ∙ ap (λ (b : Bool). if b then hear_client s 1 m past else past) there

    piece_whole : (cut size_of (stream 1 (Piece 1 m ∷ events))).rest ≡ []
    unfolding stream
    piece_whole = (ends_message size_of size_of-kept size_of-positive refl (stream 1 events) m [] m stands.whole refl is).rest

    -- ---- its own view decides ----

    abbrev own_reply : List ℕ
    own_reply = result_reply m (own_error s.device opened m)

    judged_then : Calm s (is_opening s.device m Own || opened) [] last [] own_reply (Judged 1 (message_count 1 past + 1) m Own ∷ past)
    judged_then = judged_own s before (message_count 1 past + 1) m (omega (arith, (reply_is_some m (own_error s.device opened m)).1))

    own_decision : view_decides opened m ≡ true → hear_client s 1 m past ≡ Judged 1 (message_count 1 past + 1) m Own ∷ past
    own_decision decides =
        ap (λ (o : Bool). judge s 1 m (decision_as s o 1 m past) past) before.open_is
        ∙ ap (λ (b : Bool). judge s 1 m (if b then Replies Own else if has_share share_limit 1 (space_of m) past then Replies Share else shared_decision s 1 m past) past) decides
        ∙ noted s (Judged 1 (message_count 1 past + 1) m Own) past refl judged_then.written.fits

    module _ (decides : view_decides opened m ≡ true) where
      abbrev own_events : List Event
      own_events = Piece 1 m ∷ events

      own_calm : Calm s (is_opening s.device m Own || opened) [] last [] own_reply (history s own_events)
      own_calm = subst (Calm s (is_opening s.device m Own || opened) [] last [] own_reply) (sym (piece_history ∙ own_decision decides)) judged_then

      there_own : is_present 1 (EventBegan ∷ history s own_events) ≡ true
      unfolding present
      there_own = ap (contains 1) own_calm.there

      own_done_calm : Calm s (is_opening s.device m Own || opened) [] last [] [] (history s (Took 1 (length own_reply) ∷ own_events))
      unfolding proxy.history proxy.add_all
      own_done_calm = subst (λ (b : Bool). Calm s (is_opening s.device m Own || opened) [] last [] [] (if b then Taken 1 (length own_reply) ∷ EventBegan ∷ history s own_events else EventBegan ∷ history s own_events)) (sym there_own) (was_taken s (began s own_calm))

      own_done : Stands (is_opening s.device m Own || opened) last (Took 1 (length own_reply) ∷ own_events)
      unfolding stream modem_stream
      own_done = record {
        sound = (le_of_eq (sym (ap (λ (b : Bool). if b then length (text_for s 1 own_events).waiting else 0) (ap (contains 1) own_calm.there) ∙ ap length own_calm.written.are)), (short, stands.sound));
        names = stands.names;
        whole = piece_whole;
        said = stands.said;
        said_is = stands.said_is;
        said_whole = stands.said_whole;
        calm = own_done_calm;
      }

    -- ---- it goes to the modem ----

    module _ (shared : view_decides true m ≡ false) (open_is : opened ≡ true) where
      free_by : (b : Bool) → is_other 1 (if b then holder (used_service m) (used_cid m) past else None) ≡ false
      free_by true = id_is_free s (used_service m) (used_cid m) past before.own
      free_by false = refl

      -- each request is answered before the next one is said
      none_waits : has_share share_limit 1 (space_of m) past ≡ false
      none_waits = ap (λ (l : List Request). nat_le share_limit (length (of_client 1 (space_of m) l))) before.waits

      finds_room : has_room (length (modem_queue wire past)) m ≡ true
      finds_room = ap (λ (l : List ℕ). has_room (length l) m) (queue_is s before) ∙ small (length m) short
        where
          small : (n : ℕ) → n ≤ piece_limit → nat_le (0 + n) 1048576 ≡ true
          small n short = grind (arith, nat_tests)

      abbrev pub number_given : ℕ
      number_given = following (top_of (space_of m)) (last (space_of m))

      some_may : (space : ℕ) → nat_lt 0 (limit_of space) ≡ true
      some_may space = elim (space == control_space) as (λ b. nat_lt 0 (if b then 255 else 1024) ≡ true) [ true ↦ refl | false ↦ refl ]

      number_is : number_for m past ≡ Some number_given
      unfolding free_from
      number_is =
          ap (λ (l : List Request). number_after (limit_of (space_of m)) (top_of (space_of m)) (last_number (space_of m) past) (numbers_of (of_space (space_of m) l))) before.uses
          ∙ ap (λ (n : ℕ). number_after (limit_of (space_of m)) (top_of (space_of m)) n []) (before.last_is (space_of m))
          ∙ ap (λ (b : Bool). if b then Some number_given else None) (some_may (space_of m))

      decision_is : decision_on s 1 m past ≡ Forwards number_given
      decision_is =
          ap (λ (o : Bool). decision_as s o 1 m past) (before.open_is ∙ open_is)
          ∙ decided (view_decides true m) (has_share share_limit 1 (space_of m) past) (is_other 1 (holder_for m past)) (is_away s.starts_away past) (has_room (length (modem_queue wire past)) m) (number_for m past) shared none_waits (free_by (uses_id m)) (is_there s near past before.own) finds_room
          ∙ ap forwards_under number_is

      abbrev asks : List Fact
      asks = Judged 1 (message_count 1 past + 1) m Forward ∷ past

      abbrev pub request : Request
      request = request_of s 1 m number_given asks

      abbrev pub sent : List ℕ
      sent = with_number number_given m

      abbrev pub last_then : ℕ → ℕ
      last_then space = if space_of m == space then number_given else last space

      granted_if : (b : Bool) {requests : List Request} {queue : List ℕ} {facts : List Fact} → Calm s true requests last_then queue [] facts → Calm s true requests last_then queue [] (grant_if b 1 m facts)
      granted_if true calm = granted s calm (used_service m) (used_cid m)
      granted_if false calm = calm

      abbrev said_events : List Event
      said_events = Piece 1 m ∷ events

      said_calm : Calm s true (request ∷ []) last_then sent [] (history s said_events)
      said_calm =
          let open_before : Calm s true [] last [] [] past = subst (λ (b : Bool). Calm s b [] last [] [] past) open_is before in
          let here : history s said_events ≡ judge s 1 m (Forwards number_given) past = piece_history ∙ ap (λ (d : Decision). judge s 1 m d past) decision_is in
          let calm : Calm s true (request ∷ []) last_then sent [] (Forwarded request ∷ asks) = forwarded s (judged s open_before (message_count 1 past + 1) m (omega arith)) request in
          subst (Calm s true (request ∷ []) last_then sent []) (sym here) (granted_if (uses_id m) calm)

      -- ---- the modem takes it ----

      abbrev taken_events : List Event
      taken_events = ModemTook (length sent) ∷ said_events

      taken_calm : Calm s true (request ∷ []) last_then [] [] (history s taken_events)
      unfolding proxy.history proxy.add_all
      taken_calm = modem_taken_all s (began s said_calm) (length sent) refl

      taken_sound : coming.AreSound (qmi_protocol s) taken_events
      taken_sound = (le_of_eq (sym (ap length (queue_is s said_calm))), (short, stands.sound))

      sent_is : said_at request.place (view_of 1 (history s taken_events)) ≡ m
      sent_is =
          let regular : Regular (history s taken_events) = histories_are_regular s taken_events taken_sound in
          let each : AllByRecursion (IsAsked (history s taken_events)) (request ∷ []) = subst (λ (l : List Request). AllByRecursion (IsAsked (history s taken_events)) l) taken_calm.waits regular.asked in
          sent_by each.0
        where
          sent_by : IsAsked (history s taken_events) request → said_at request.place (view_of 1 (history s taken_events)) ≡ m
          sent_by (inl sent) = sent.2
          sent_by (inr none) = absurd (cc)

      -- ---- and answers it ----

      module _ (x : List ℕ) (x_is : IsMessage size_of x) (x_short : length x ≤ piece_limit) (response : framed_kind x ≡ Some kind.Response) (answers : is_answered_by x request ≡ true) where
        abbrev heard_events : List Event
        heard_events = ModemPiece x ∷ taken_events

        abbrev then_past : List Fact
        then_past = EventBegan ∷ history s taken_events

        then_calm : Calm s true (request ∷ []) last_then [] [] then_past
        then_calm = began s taken_calm

        said_stream : modem_stream size_of s.starts_away taken_events ≡ Some stands.said
        unfolding modem_stream
        said_stream = stands.said_is

        modem_history : history s heard_events ≡ hear_modem s.device x then_past
        unfolding proxy.history proxy.add_all
        modem_history =
            let ends = ends_message size_of size_of-kept size_of-positive refl stands.said x [] x stands.said_whole refl x_is in
            ap (λ (o : Option (List ℕ)). add_all s (modem_items (qmi_protocol s) x o) then_past) said_stream
            ∙ ap (λ (l : List (List ℕ)). add_all s (map (λ m. ModemSays m) l ++ item_if (is_bad size_of (stands.said ++ x)) ModemIsLost) then_past) ends.messages
            ∙ ap (λ (b : Bool). add_all s (map (λ m. ModemSays m) (x ∷ []) ++ item_if b ModemIsLost) then_past) ends.good

        found : first_answered_by x (in_use then_past) ≡ Some request
        found = ap (first_answered_by x) then_calm.uses ∙ ap (λ (b : Bool). if b then Some request else None) answers

        pends : is_pending request then_past ≡ true
        pends = ap (has_request request) then_calm.waits ∙ ap (λ (b : Bool). b || false) (eq-eqb request.serial request.serial refl)

        abbrev pub answer_bytes : List ℕ
        answer_bytes = with_number (number_of m) x

        long : 12 ≤ length x
        long = framed_long x (responses_framed x response)

        text_length : (number : ℕ) → length (with_number number (blank x)) ≡ length x
        text_length number = let same : length (blank x) ≡ length x = numbered_length 0 x long in numbered_length number (blank x) (omega (arith, same, long)) ∙ same

        abbrev Answered_so : List Fact → Type 0
        Answered_so after = Calm s true [] last_then [] answer_bytes after

        -- where the ids have changed so
        by_change : (facts : List Fact) → Calm s true (request ∷ []) last_then [] [] facts → said_at request.place (view_of 1 facts) ≡ m → note s.device (Answered request x) facts ≡ Answered request x ∷ facts × Answered_so (Answered request x ∷ facts)
        by_change facts calm sent_here =
            let written : with_number (number_of (said_at request.place (view_of 1 facts))) (blank x) ≡ answer_bytes = ap (λ (l : List ℕ). with_number (number_of l) (blank x)) sent_here ∙ number_last (number_of m) x long in
            let after : Calm s true (without_request request (request ∷ [])) last_then [] ([] ++ with_number (number_of (said_at request.place (view_of 1 facts))) (blank x)) (Answered request x ∷ facts) =
            answered s calm request x refl (omega (arith, text_length (number_of (said_at request.place (view_of 1 facts))), x_short)) in
            let none : without_request request (request ∷ []) ≡ [] = ap (λ (b : Bool). if not b then request ∷ [] else []) (eq-eqb request.serial request.serial refl) in (
              noted s (Answered request x) facts refl after.written.fits,
              subst (λ (w : List ℕ). Calm s true [] last_then [] w (Answered request x ∷ facts)) written (subst (λ (l : List Request). Calm s true l last_then [] (with_number (number_of (said_at request.place (view_of 1 facts))) (blank x)) (Answered request x ∷ facts)) none after),
            )

        sent_here : said_at request.place (view_of 1 then_past) ≡ m
        unfolding view
        sent_here = sent_is

        freed_here : (service cid : ℕ) → Answered_so (answer s.device request x (Frees service cid) then_past)
        unfolding view
        freed_here service cid = let by = by_change (Freed 1 service cid ∷ then_past) (freed s then_calm service cid) sent_is in subst Answered_so (sym by.0) by.1

        granted_here : (service cid : ℕ) → Answered_so (answer s.device request x (Grants service cid) then_past)
        unfolding view
        granted_here service cid = let by = by_change (Granted 1 service cid ∷ then_past) (granted s then_calm service cid) sent_is in subst Answered_so (sym by.0) by.1

        kept_here : Answered_so (answer s.device request x NoChange then_past)
        kept_here = let by = by_change then_past then_calm sent_here in subst Answered_so (sym by.0) by.1

        changed : Answered_so (answer s.device request x (id_change 1 request.message x (holder_of_brought x then_past)) then_past)
        changed =
            elim (brings_id request.message x) as (λ b. Answered_so (answer s.device request x (if b then granted_unless (is_other 1 (holder_of_brought x then_past)) (byte_of 0 (value_of 0x01 x)) (byte_of 1 (value_of 0x01 x)) else if is_release request.message && is_success x then Frees (used_service request.message) (used_cid request.message) else NoChange) then_past)) [
              | true ↦ subst (λ (o : Bool). Answered_so (answer s.device request x (granted_unless o (byte_of 0 (value_of 0x01 x)) (byte_of 1 (value_of 0x01 x))) then_past)) (sym (id_is_free s (byte_of 0 (value_of 0x01 x)) (byte_of 1 (value_of 0x01 x)) then_past then_calm.own))
                  (granted_here (byte_of 0 (value_of 0x01 x)) (byte_of 1 (value_of 0x01 x)))
              | false ↦ elim (is_release request.message && is_success x) as (λ b. Answered_so (answer s.device request x (if b then Frees (used_service request.message) (used_cid request.message) else NoChange) then_past)) [
                | true ↦ freed_here (used_service request.message) (used_cid request.message)
                | false ↦ kept_here
              ]
            ]

        heard_calm : Answered_so (history s heard_events)
        heard_calm =
            let here : history s heard_events ≡ answer s.device request x (id_change 1 request.message x (holder_of_brought x then_past)) then_past =
            modem_history
            ∙ ap (λ answered. hear_as answered s.device x then_past) response
            ∙ ap (λ (o : Option Request). respond s.device o x then_past) found
            ∙ ap (λ (b : Bool). answer_or_late s.device b request x then_past) pends
            in
            subst Answered_so (sym here) changed

        -- ---- and the client takes it ----

        abbrev done_events : List Event
        done_events = Took 1 (length answer_bytes) ∷ heard_events

        there_then : is_present 1 (EventBegan ∷ history s heard_events) ≡ true
        unfolding present
        there_then = ap (contains 1) heard_calm.there

        done_calm : Calm s true [] last_then [] [] (history s done_events)
        unfolding proxy.history proxy.add_all
        done_calm = subst (λ (b : Bool). Calm s true [] last_then [] [] (if b then Taken 1 (length answer_bytes) ∷ EventBegan ∷ history s heard_events else EventBegan ∷ history s heard_events)) (sym there_then) (was_taken s (began s heard_calm))

        forward_done : Stands true last_then done_events
        unfolding stream modem_stream
        forward_done =
            let ends = ends_message size_of size_of-kept size_of-positive refl stands.said x [] x stands.said_whole refl x_is in
            record {
              sound = (le_of_eq (sym (ap (λ (b : Bool). if b then length (text_for s 1 heard_events).waiting else 0) (ap (contains 1) heard_calm.there) ∙ ap length heard_calm.written.are)), (x_short, taken_sound));
              names = stands.names;
              whole = piece_whole;
              said = stands.said ++ x;
              said_is = ap (with_piece size_of x) stands.said_is ∙ ap (λ (b : Bool). if b then None else Some (stands.said ++ x)) ends.good;
              said_whole = ends.rest;
              calm = done_calm;
            }

  -- ---- before any text ----

  pub begins : Stands false (λ space. 0) (Joined 1 ∷ [])
  unfolding proxy.history proxy.add_all present in_use pending view to_modem modem_taken_count last_number render told_by stream modem_stream cut_from
  begins = record {
    sound = (omega arith, tt);
    names = refl;
    whole = refl;
    said = [];
    said_is = ap (λ (b : Bool). if b then None else Some []) near;
    said_whole = refl;
    calm = record {
      there = refl;
      own = (tt, (tt, tt));
      open_is = refl;
      uses = refl;
      waits = refl;
      last_is = λ space. refl;
      taken = [];
      to_it = refl;
      count = refl;
      written = record { are = refl; fits = refl };
    };
  }

  -- ---- the same on a stage ----

  module _ (modem : Answering) where
    abbrev pub cast : Cast
    cast = cast_of s modem

    -- the client asks this and takes that, and the modem was asked these then
    pub record Exchanged (stage : Stage) (m x : List ℕ) (opened : Bool) (last : ℕ → ℕ) (asked : List (List ℕ)) : Type 0 where
      pub reply_is : reply cast m stage ≡ x
      pub stands : Stands opened last (ask cast m stage).events
      pub asked_is : (ask cast m stage).asked ≡ asked

    module _ (stage : Stage) (m : List ℕ) where
      abbrev queue : List ℕ
      queue = modem_queue wire (history s (said m stage))

      -- what is heard where these bytes wait for the modem, and these messages are among them
      abbrev heard_by : List ℕ → List (List ℕ) → List Event
      heard_by q messages = hear_each (sent_for size_of modem stage.asked messages) (taking (λ count. ModemTook count) q (said m stage))

      exchanged : (x : List ℕ) (messages : List (List ℕ)) (events : List Event) (opened : Bool) (last : ℕ → ℕ) → 0 < length x → (cut size_of queue).messages ≡ messages → heard_by queue messages ≡ events → waiting cast events ≡ x
          → Stands opened last (Took 1 (length x) ∷ events) → Exchanged stage m x opened last (asked_then stage.asked messages)
      exchanged x messages events opened last some cut_is heard_is waits stands =
          let is : heard cast m stage ≡ events = ap (heard_by queue) cut_is ∙ heard_is in
          let reply_is : reply cast m stage ≡ x = ap (waiting cast) is ∙ waits in
          let after : (ask cast m stage).events ≡ Took 1 (length x) ∷ events = ap (λ (l : List ℕ). taking (λ count. Took 1 count) l (heard cast m stage)) reply_is ∙ taking_some (λ count. Took 1 count) x (heard cast m stage) some ∙ ap (λ (l : List Event). Took 1 (length x) ∷ l) is in
          record {
            reply_is = reply_is;
            stands = subst (Stands opened last) (sym after) stands;
            asked_is = ap (asked_then stage.asked) cut_is;
          }

      waits_there : {opened : Bool} {last : ℕ → ℕ} {requests : List Request} {q w : List ℕ} (events : List Event) → Calm s opened requests last q w (history s events) → waiting cast events ≡ w
      waits_there events calm = ap (λ (b : Bool). if b then (text_for s 1 events).waiting else []) (ap (contains 1) calm.there) ∙ calm.written.are

      module _ {opened : Bool} {last : ℕ → ℕ} (stands : Stands opened last stage.events) (is : IsMessage size_of m) (short : length m ≤ piece_limit) where
        pub own_exchange : view_decides opened m ≡ true → Exchanged stage m (result_reply m (own_error s.device opened m)) (is_opening s.device m Own || opened) last stage.asked
        unfolding cut_from sent_for hear_each asked_then
        own_exchange decides =
            let calm = own_calm m stands is short decides in
            let none : queue ≡ [] = queue_is s calm in
            exchanged (result_reply m (own_error s.device opened m)) [] (said m stage) (is_opening s.device m Own || opened) last (reply_is_some m (own_error s.device opened m)).0 (ap (λ (q : List ℕ). (cut size_of q).messages) none)
            (ap (λ (q : List ℕ). heard_by q []) none) (waits_there (said m stage) calm) (own_done m stands is short decides)

        pub forward_exchange : view_decides true m ≡ false → opened ≡ true → (x : List ℕ)
            → let n : ℕ = following (top_of (space_of m)) (last (space_of m)) in
            IsMessage size_of (with_number n m) → 0 < length (with_number n m) → (cut size_of (modem stage.asked (with_number n m))).messages ≡ x ∷ []
            → IsMessage size_of x → length x ≤ piece_limit → framed_kind x ≡ Some kind.Response → (service_of m == service_of x && (cid_of m == cid_of x) && (n == number_of x)) ≡ true
            → Exchanged stage m (with_number (number_of m) x) true (λ space. if space_of m == space then n else last space) (with_number n m ∷ stage.asked)
        unfolding sent_for hear_each asked_then
        forward_exchange shared open_is x sent_is some replies x_is x_short response answers =
            let n : ℕ = following (top_of (space_of m)) (last (space_of m)) in
            let sent : List ℕ = with_number n m in
            let calm = said_calm m stands is short shared open_is in
            let waits : queue ≡ sent = queue_is s calm in
            let heard_is : heard_by queue (sent ∷ []) ≡ ModemPiece x ∷ ModemTook (length sent) ∷ said m stage =
            ap (λ (l : List (List ℕ)). hear_each (l ++ []) (taking (λ count. ModemTook count) queue (said m stage))) replies
            ∙ ap (λ (l : List ℕ). ModemPiece x ∷ taking (λ count. ModemTook count) l (said m stage)) waits
            ∙ ap (λ (l : List Event). ModemPiece x ∷ l) (taking_some (λ count. ModemTook count) sent (said m stage) some)
            in
            let heard_calm = heard_calm m stands is short shared open_is x x_is x_short response answers in
            let more : 0 < length (with_number (number_of m) x) = omega (arith, numbered_length (number_of m) x (framed_long x (responses_framed x response)), framed_long x (responses_framed x response)) in
            exchanged (with_number (number_of m) x) (sent ∷ []) (ModemPiece x ∷ ModemTook (length sent) ∷ said m stage) true (λ space. if space_of m == space then n else last space) more
            (ap (λ (q : List ℕ). (cut size_of q).messages) waits ∙ one_message sent sent_is) heard_is (waits_there (ModemPiece x ∷ ModemTook (length sent) ∷ said m stage) heard_calm)
            (forward_done m stands is short shared open_is x x_is x_short response answers)
