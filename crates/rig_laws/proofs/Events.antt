-- What holds of a rig's events at every moment, and how each event keeps it. Lists of events and of facts have the newest first.
use Rattle.std.proofs.Common.{◌≡◌, ℕ, ◌+◌, ◌*◌, ◌<◌, ◌≤◌, max, Bool, true, false, ◌==◌, nat_lt, nat_le, ⊎_elim, if◌then◌else◌, List, [], ◌∷◌, ◌++◌, length, map, Option, Some, None, refl, ap, sym, ◌∙◌, arith, subst, Contains}
use Rattle.std.specs.List.{AllByRecursion}
use Rattle.std.proofs.lemmas.List.Elements.{All-contains, All-weaker, All-contains_itself, All-from_recursion, recursion_from_All}
use Rattle.std.proofs.lemmas.Bool.{lt-ltb}
use Rattle.framing.specs.Framing.{IsMessage}
use Rattle.framing.specs.Cutting.{cut, cut_from}
use Rattle.qmux_frame.specs.Frame.{size_of}
use Rattle.qmux_frame.specs.Framing.{size_of-kept, size_of-positive}
use Rattle.proxy_history.specs.Events.{Event, Joined, Piece, ModemPiece, Now, Took, ModemTook}
use Rattle.proxy_history.specs.Coming.{piece_limit, greatest_name, queued_for}
use Rattle.proxy_history.specs.Streams.{stream, modem_stream, with_piece, messages_of_piece, is_bad}
use Rattle.proxy_history.specs.Items.{Says, GoesBad, ModemSays, ModemIsLost, item_if, modem_items}
use Rattle.proxy_history.specs.Facts.{Fact, Request, EventBegan, Own, NotAdmitted, Ended, Admitted, Judged, Taken, TimeIs}
use Rattle.proxy_history.specs.Connections.{present, is_present, contains, message_count}
use Rattle.proxy_history.specs.Requests.{in_use, pending, has_share}
use Rattle.proxy_history.specs.Modem.{now, modem_queue}
use Rattle.proxy_history.specs.View.{view}
use Rattle.proxy_history.specs.Unanswered.{due}
use Rattle.proxy_history.specs.History as proxy
use Rattle.proxy_history.proofs.Walk.{was_asked}
use Rattle.proxy_history.proofs.Sound.{forwarded_from_in_use, in_use_from_pending}
use Rattle.proxy_history.proofs.Lists.{Contains-filter_from}
use Rattle.proxy_history.proofs.Pieces.{ends_message}
use Rattle.qmi_proxy.specs.Setup.{Setup}
use Rattle.qmi_proxy.specs.Limits.{connection_limit, share_limit, outbox_limit}
use Rattle.qmi_proxy.specs.Spaces.{space_of, top_of}
use Rattle.qmi_proxy.specs.Messages.{is_malformed, opens}
use Rattle.qmi_proxy.specs.Clients.{wire, hear_client}
use Rattle.qmi_proxy.specs.FromModem.{hear_modem, in_expiry_order}
use Rattle.qmi_proxy.specs.History.{qmi_protocol, add_all, history, text_for}
use Rattle.qmi_proxy.proofs.Walk.{only_those, Asks}
use Rattle.qmi_proxy.proofs.Sound.{begun_is_sound, requests_are_asked}
use Rattle.qmi_proxy.proofs.Room.{nobody_there_is_over}
use Rattle.qmi_solo.specs.Law.{AreSound}
use Rattle.rig_laws.proofs.Lists.{in_range, length-range}
use Rattle.rig_laws.proofs.Few.{few_expire, few_wait}
use Rattle.rig_laws.proofs.Plain.{ArePlain, AtEach, IsHarmlessNow}
use Rattle.rig_laws.proofs.Harmless.{none_released}
use Rattle.rig_laws.proofs.Calm.{IsClients, Calm, queue_is, taken_within, begun, timed, was_taken, modem_taken_all, admitted, judged_opening}
use Rattle.rig_laws.proofs.Room.{AllHaveRoom, fewer, all_expire}
use Rattle.rig_laws.proofs.Says.{IsRequestOf, IsForwarded, opening_is_answered, request_is_refused, request_is_forwarded}
use Rattle.rig_laws.proofs.Hears.{Suits, answer_is_heard}

module _ (s : Setup) where
  pub record Going (joined opened : ℕ) (requests : List Request) (queue : List ℕ) (events : List Event) : Type 0 where
    pub sound : AreSound s events
    pub names : greatest_name events ≡ joined
    pub few : joined ≤ connection_limit
    pub plain : ArePlain s events
    pub moments : AtEach (IsHarmlessNow s) events
    -- each stream ends with a whole message
    pub whole : (c : ℕ) → (cut size_of (stream c events)).rest ≡ []
    pub said : List ℕ
    pub said_is : modem_stream size_of s.starts_away events ≡ Some said
    pub said_whole : (cut size_of said).rest ≡ []
    pub calm : Calm s joined opened requests queue (history s events)

  harmless_now : {joined opened : ℕ} {requests : List Request} {queue : List ℕ} {events : List Event} → Calm s joined opened requests queue (history s events) → IsHarmlessNow s events
  harmless_now calm = record { harmless = calm.harmless; within = taken_within s calm }

  -- nothing waits for a client that is there
  abbrev pub IsServed : ℕ → List Event → Type 0
  IsServed c events = is_present c (history s events) ≡ true → (text_for s c events).waiting ≡ []

  abbrev pub AllAreServed : List Event → Type 0
  AllAreServed events = (c : ℕ) → IsServed c events

  all_have_room : (events : List Event) → AllAreServed events → AllHaveRoom s outbox_limit (EventBegan ∷ history s events)
  unfolding view present
  all_have_room events served c there =
      let none : length (text_for s c events).waiting ≡ 0 = ap length (served c there) in
      record { fits = nobody_there_is_over s events c there; room = omega (arith, none) }

  is_there : {joined opened : ℕ} {requests : List Request} {queue : List ℕ} {past : List Fact} (c : ℕ) → Calm s joined opened requests queue past → 1 ≤ c → c ≤ joined → is_present c past ≡ true
  is_there {joined} c calm low high = ap (contains c) calm.there ∙ in_range joined 1 c low (omega (arith, high))

  -- ---- takings ----

  pub taken : {joined opened : ℕ} {requests : List Request} {queue : List ℕ} {events : List Event} (c count : ℕ) → Going joined opened requests queue events → count ≤ queued_for (qmi_protocol s) c events
      → Going joined opened requests queue (Took c count ∷ events)
  unfolding proxy.history proxy.add_all stream modem_stream
  taken {joined} {opened} {requests} {queue} {events} c count going within =
      let began : Calm s joined opened requests queue (EventBegan ∷ history s events) = begun s going.calm in
      let calm : Calm s joined opened requests queue (history s (Took c count ∷ events)) =
      elim (is_present c (EventBegan ∷ history s events)) as (λ b. Calm s joined opened requests queue (if b then Taken c count ∷ EventBegan ∷ history s events else EventBegan ∷ history s events)) [ true ↦ was_taken s began c count | false ↦ began ] in
      record {
        sound = (within, going.sound);
        names = going.names;
        few = going.few;
        plain = (tt, going.plain);
        moments = (harmless_now calm, going.moments);
        whole = going.whole;
        said = going.said;
        said_is = going.said_is;
        said_whole = going.said_whole;
        calm = calm;
      }

  pub modem_taken : {joined opened : ℕ} {requests : List Request} {queue : List ℕ} {events : List Event} (count : ℕ) → Going joined opened requests queue events → count ≡ length queue
      → Going joined opened requests [] (ModemTook count ∷ events)
  unfolding proxy.history proxy.add_all stream modem_stream
  modem_taken {joined} {opened} {requests} {queue} {events} count going is =
      let calm : Calm s joined opened requests [] (history s (ModemTook count ∷ events)) = modem_taken_all s (begun s going.calm) count is in
      record {
        sound = (let waits : length (modem_queue wire (history s events)) ≡ length queue = ap length (queue_is s going.calm) in omega (arith, waits, is), going.sound);
        names = going.names;
        few = going.few;
        plain = (tt, going.plain);
        moments = (harmless_now calm, going.moments);
        whole = going.whole;
        said = going.said;
        said_is = going.said_is;
        said_whole = going.said_whole;
        calm = calm;
      }

  -- ---- a client joins ----

  joined_whole : (b : Bool) (bytes : List ℕ) → (cut size_of bytes).rest ≡ [] → (cut size_of (if b then [] else bytes)).rest ≡ []
  unfolding cut_from
  joined_whole true bytes whole = refl
  joined_whole false bytes whole = whole

  pub joins : {joined : ℕ} {requests : List Request} {queue : List ℕ} {events : List Event} → Going joined 0 requests queue events → joined < connection_limit → Going (joined + 1) 0 requests queue (Joined (joined + 1) ∷ events)
  unfolding proxy.history proxy.add_all stream modem_stream
  joins {joined} {requests} {queue} {events} going few =
      let began : Calm s joined 0 requests queue (EventBegan ∷ history s events) = begun s going.calm in
      let count : length (present (EventBegan ∷ history s events)) ≡ joined = ap length began.there ∙ length-range joined 1 in
      let test : nat_lt (length (present (EventBegan ∷ history s events))) connection_limit ≡ true = lt-ltb _ _ (omega (arith, count, few)) in
      let calm : Calm s (joined + 1) 0 requests queue (history s (Joined (joined + 1) ∷ events)) =
      subst (λ (b : Bool). Calm s (joined + 1) 0 requests queue (if b then Admitted (joined + 1) ∷ EventBegan ∷ history s events else Ended (joined + 1) NotAdmitted ∷ EventBegan ∷ history s events)) (sym test) (admitted s began) in
      record {
        sound = (omega (arith, going.names), going.sound);
        names = omega (arith, going.names);
        few = omega (arith, few);
        plain = (going.calm.quiet refl (joined + 1), going.plain);
        moments = (harmless_now calm, going.moments);
        whole = λ c. joined_whole (joined + 1 == c) (stream c events) (going.whole c);
        said = going.said;
        said_is = going.said_is;
        said_whole = going.said_whole;
        calm = calm;
      }

  -- ---- a client says a message ----

  module _ (events : List Event) (c : ℕ) (m : List ℕ) (whole : (d : ℕ) → (cut size_of (stream d events)).rest ≡ []) (is : IsMessage size_of m) where
    piece_history : is_present c (history s events) ≡ true → history s (Piece c m ∷ events) ≡ hear_client s c m (EventBegan ∷ history s events)
    unfolding proxy.history proxy.add_all present
    piece_history there =
        let ends = ends_message size_of size_of-kept size_of-positive refl (stream c events) m [] m (whole c) refl is in
        let began : List Fact = EventBegan ∷ history s events in
        ap (λ (l : List (List ℕ)). add_all s (map (λ m. Says c m) l ++ item_if (is_bad size_of (stream c events ++ m)) (GoesBad c)) began) ends.messages
        ∙ ap (λ (b : Bool). add_all s (map (λ m. Says c m) (m ∷ []) ++ item_if b (GoesBad c)) began) ends.good
        ∙ ap (λ (b : Bool). if b then hear_client s c m began else began) there

    piece_whole : (d : ℕ) → (cut size_of (stream d (Piece c m ∷ events))).rest ≡ []
    unfolding stream
    piece_whole d =
        elim (c == d) as (λ b. (cut size_of (if b then stream d events ++ m else stream d events)).rest ≡ []) [
          | true ↦ (ends_message size_of size_of-kept size_of-positive refl (stream d events) m [] m (whole d) refl is).rest
          | false ↦ whole d
        ]

  said_piece : {joined opened opened' : ℕ} {requests requests' : List Request} {queue queue' : List ℕ} {events : List Event} (c : ℕ) (m : List ℕ) → Going joined opened requests queue events
      → 1 ≤ c → c ≤ joined → IsMessage size_of m → length m ≤ piece_limit → Calm s joined opened' requests' queue' (history s (Piece c m ∷ events)) → Going joined opened' requests' queue' (Piece c m ∷ events)
  unfolding modem_stream
  said_piece {events = events} c m going low high is short calm = record {
    sound = (short, going.sound);
    names = going.names;
    few = going.few;
    plain = (record { low = low; high = omega (arith, high, going.few); whole = is; short = short; there = is_there c going.calm low high }, going.plain);
    moments = (harmless_now calm, going.moments);
    whole = piece_whole events c m going.whole is;
    said = going.said;
    said_is = going.said_is;
    said_whole = going.said_whole;
    calm = calm;
  }

  pub opens_device : {joined opened : ℕ} {requests : List Request} {queue : List ℕ} {events : List Event} (m : List ℕ) → Going joined opened requests queue events → AllAreServed events → opened < joined
      → IsMessage size_of m → length m ≤ piece_limit → is_malformed m ≡ false → opens s.device m ≡ true → Going joined (opened + 1) requests queue (Piece (opened + 1) m ∷ events)
  opens_device {joined} {opened} {requests} {queue} {events} m going served more is short fine opening =
      let began : List Fact = EventBegan ∷ history s events in
      let here : history s (Piece (opened + 1) m ∷ events) ≡ Judged (opened + 1) (message_count (opened + 1) began + 1) m Own ∷ began =
      piece_history events (opened + 1) m going.whole is (is_there (opened + 1) going.calm (omega arith) (omega (arith, more)))
      ∙ opening_is_answered s (opened + 1) m began (fewer s 20 outbox_limit began (omega arith) (all_have_room events served)) opening in
      said_piece (opened + 1) m going (omega arith) (omega (arith, more)) is short
      (subst (Calm s joined (opened + 1) requests queue) (sym here) (judged_opening s (begun s going.calm) (message_count (opened + 1) began + 1) m fine opening))

  pub record HasAsked (joined opened : ℕ) (requests : List Request) (c : ℕ) (m : List ℕ) (events : List Event) : Type 0 where
    pub r : Request
    pub conn : r.conn ≡ c
    pub message : r.message ≡ m
    pub number : r.number ≤ top_of (space_of m)
    pub going : Going joined opened (requests ++ r ∷ []) (wire r) events

  -- as many of the client's requests wait as may
  abbrev pub fills_share : (c : ℕ) → (m : List ℕ) → List Event → Bool
  fills_share c m events = has_share share_limit c (space_of m) (EventBegan ∷ history s events)

  -- where fewer are in use at all it isn't so
  pub few_fill_none : {joined opened : ℕ} {requests : List Request} {queue : List ℕ} {events : List Event} (c : ℕ) (m : List ℕ) → Going joined opened requests queue events → length requests < share_limit → fills_share c m events ≡ false
  few_fill_none {events = events} c m going few =
      let same = ap length (begun s going.calm).uses in few_wait share_limit c (space_of m) (EventBegan ∷ history s events) (omega (arith, same, few))

  -- a message that is refused asks the modem nothing
  pub is_refused : {joined opened : ℕ} {requests : List Request} {events : List Event} (c : ℕ) (m : List ℕ) → Going joined opened requests [] events → AllAreServed events → 1 ≤ c → c ≤ opened → opened ≤ joined
      → IsRequestOf c m → fills_share c m events ≡ true → Going joined opened requests [] (Piece c m ∷ events)
  is_refused {joined} {opened} {requests} {events} c m going served low high order is full =
      let began : List Fact = EventBegan ∷ history s events in
      let here : history s (Piece c m ∷ events) ≡ hear_client s c m began = piece_history events c m going.whole is.is_message (is_there c going.calm low (omega (arith, high, order))) in
      let refused : Calm s joined opened requests [] (hear_client s c m began) =
      request_is_refused s c m joined opened requests began (begun s going.calm) low high is full (fewer s 20 outbox_limit began (omega arith) (all_have_room events served)) in
      said_piece c m going low (omega (arith, high, order)) is.is_message is.short (subst (Calm s joined opened requests []) (sym here) refused)

  pub asks : {joined opened : ℕ} {requests : List Request} {events : List Event} (c : ℕ) (m : List ℕ) → s.starts_away ≡ false → Going joined opened requests [] events → 1 ≤ c → c ≤ opened → opened ≤ joined → length requests ≤ 200
      → IsRequestOf c m → fills_share c m events ≡ false → HasAsked joined opened requests c m (Piece c m ∷ events)
  asks {joined} {opened} {requests} {events} c m there going low high order few is free =
      let began : List Fact = EventBegan ∷ history s events in
      let here : history s (Piece c m ∷ events) ≡ hear_client s c m began = piece_history events c m going.whole is.is_message (is_there c going.calm low (omega (arith, high, order))) in
      let added : IsForwarded s c m joined opened requests (hear_client s c m began) = request_is_forwarded s c m joined opened requests began (begun s going.calm) low high is there (begun_is_sound s events) few free in
      record {
        r = added.r;
        conn = added.conn;
        message = added.message;
        number = added.number;
        going = said_piece c m going low (omega (arith, high, order)) is.is_message is.short (subst (Calm s joined opened (requests ++ added.r ∷ []) (wire added.r)) (sym here) added.calm);
      }

  -- ---- the modem answers ----

  modem_history : (events : List Event) (before m : List ℕ) → modem_stream size_of s.starts_away events ≡ Some before → messages_of_piece size_of before m ≡ m ∷ [] → is_bad size_of (before ++ m) ≡ false
      → history s (ModemPiece m ∷ events) ≡ hear_modem s.device m (EventBegan ∷ history s events)
  unfolding proxy.history proxy.add_all
  modem_history events before m stream_is messages_are good =
      let began : List Fact = EventBegan ∷ history s events in
      ap (λ (o : Option (List ℕ)). add_all s (modem_items (qmi_protocol s) m o) began) stream_is
      ∙ ap (λ (l : List (List ℕ)). add_all s (map (λ m. ModemSays m) l ++ item_if (is_bad size_of (before ++ m)) ModemIsLost) began) messages_are
      ∙ ap (λ (b : Bool). add_all s (map (λ m. ModemSays m) (m ∷ []) ++ item_if b ModemIsLost) began) good

  -- each request in use is of its message's space
  pub placed : (events : List Event) (r : Request) → Contains (in_use (EventBegan ∷ history s events)) r → r.space ≡ space_of r.message
  unfolding in_use
  placed events r at =
      let asked = was_asked (qmi_protocol s) (Asks s) (history s events) r (requests_are_asked s events) (forwarded_from_in_use (history s events) r at) in
      ⊎_elim (λ newest. newest.space) (λ own. own.space) asked.1

  pub answers : {joined opened : ℕ} {events : List Event} (m : List ℕ) (before : List Request) (r : Request) (behind : List Request) → Suits m r → Going joined opened (before ++ r ∷ behind) [] events → AllAreServed events
      → Going joined opened (before ++ behind) [] (ModemPiece m ∷ events)
  unfolding stream modem_stream
  answers {joined} {opened} {events} m before r behind suits going served =
      let ends = ends_message size_of size_of-kept size_of-positive refl going.said m [] m going.said_whole refl suits.is_message in
      let began : List Fact = EventBegan ∷ history s events in
      let room : AllHaveRoom s piece_limit began = fewer s piece_limit outbox_limit began (omega arith) (all_have_room events served) in
      let heard : Calm s joined opened (before ++ behind) [] (hear_modem s.device m began) =
      answer_is_heard s m r suits joined opened before behind began (begun_is_sound s events) (placed events) (begun s going.calm) room in
      let calm : Calm s joined opened (before ++ behind) [] (history s (ModemPiece m ∷ events)) =
      subst (Calm s joined opened (before ++ behind) []) (sym (modem_history events going.said m going.said_is ends.messages ends.good)) heard in
      record {
        sound = (suits.short, going.sound);
        names = going.names;
        few = going.few;
        plain = (record { whole = suits.is_message; short = suits.short; kind = suits.response }, going.plain);
        moments = (harmless_now calm, going.moments);
        whole = going.whole;
        said = going.said ++ m;
        said_is = ap (with_piece size_of m) going.said_is ∙ ap (λ (b : Bool). if b then None else Some (going.said ++ m)) ends.good;
        said_whole = ends.rest;
        calm = calm;
      }

  -- ---- the time goes on ----

  room_then : (count time : ℕ) (past : List Fact) → AllHaveRoom s count past → AllHaveRoom s count (TimeIs time ∷ past)
  unfolding view present
  room_then count time past has = has

  pub goes_on : {joined opened : ℕ} {requests : List Request} {queue : List ℕ} {events : List Event} (time : ℕ) → Going joined opened requests queue events → AllAreServed events → length requests ≤ 200
      → Going joined opened requests queue (Now time ∷ events)
  unfolding proxy.history proxy.add_all stream modem_stream
  goes_on {joined} {opened} {requests} {queue} {events} time going served few =
      let began : List Fact = EventBegan ∷ history s events in
      let shown : ℕ = max time (now began) in
      let due_ones : List Request = in_expiry_order (due shown (pending began)) in
      let calm : Calm s joined opened requests queue began = begun s going.calm in
      let count : length due_ones ≤ 400 = let used : length (in_use began) ≡ length requests = ap length calm.uses in omega (arith, few_expire shown began, used, few) in
      let room : AllHaveRoom s (20 * length due_ones) began = fewer s (20 * length due_ones) outbox_limit began (omega (arith, count)) (all_have_room events served) in
      let clients : AllByRecursion IsClients due_ones =
      recursion_from_All IsClients due_ones
      (All-weaker (Contains due_ones) IsClients
      (λ r at. All-contains IsClients requests r (All-from_recursion IsClients requests calm.clients)
      (subst (λ (l : List Request). Contains l r) calm.uses (in_use_from_pending began r (Contains-filter_from (λ r. nat_le r.deadline shown) (pending began) r (only_those (due shown (pending began)) r at))))) due_ones (All-contains_itself due_ones))
      in
      let expired = all_expire s due_ones (TimeIs shown ∷ began) clients (timed s calm shown) (room_then (20 * length due_ones) shown began room) in
      let after : Calm s joined opened requests queue (history s (Now time ∷ events)) = subst (Calm s joined opened requests queue) (sym (none_released s s.release _ expired.harmless)) expired in
      record {
        sound = (tt, going.sound);
        names = going.names;
        few = going.few;
        plain = (tt, going.plain);
        moments = (harmless_now after, going.moments);
        whole = going.whole;
        said = going.said;
        said_is = going.said_is;
        said_whole = going.said_whole;
        calm = after;
      }
