-- What an MBIM proxy with one client meets, event by event. Lists of events have the newest first.
use Rattle.std.proofs.Common.{◌≡◌, ℕ, ◌<◌, ◌≤◌, Bool, true, false, if◌then◌else◌, List, [], ◌∷◌, ◌++◌, length, map, Option, Some, None, refl, ap, ap₂, sym, ◌∙◌, arith, subst, le_of_eq, append_assoc, append-nil, length-append}
use Rattle.std.specs.List.{AllByRecursion, concat}
use Rattle.framing.specs.Framing.{is_invalid}
use Rattle.framing.specs.Cutting.{Cutting, cut_from}
use Rattle.mbim_frame.specs.Frame.{size_of, mbim_cut}
use Rattle.proxy_history.specs.Events.{Event, Piece, ModemPiece, Took, ModemTook}
use Rattle.proxy_history.specs.Coming.{piece_limit}
use Rattle.proxy_history.specs.Coming as coming
use Rattle.proxy_history.specs.Streams.{stream, modem_stream, is_bad}
use Rattle.proxy_history.specs.Items.{Item, Says, GoesBad, ModemSays, ModemIsLost, item_if, modem_items}
use Rattle.proxy_history.specs.Facts.{Fact, EventBegan, Taken}
use Rattle.proxy_history.specs.Connections.{is_present, contains}
use Rattle.proxy_history.specs.History as proxy
use Rattle.proxy_history.proofs.Streams.{goes_on_from_rest}
use Rattle.mbim_proxy.specs.Setup.{Setup}
use Rattle.mbim_proxy.specs.Delivering.{heard_from}
use Rattle.mbim_proxy.specs.Delivered.{AreHeardAs, AreUnheard}
use Rattle.mbim_proxy.specs.History.{mbim_protocol, history, text_for}
use Rattle.mbim_proxy.specs.OwnList.{finish}
use Rattle.mbim_solo.proofs.Spoken.{IsQuiet, SaysOne, goes_on_unheard, ends_heard}
use Rattle.lone_client.specs.Relay.{Answering, Cast, Stage, sent_for, asked_then, taking, said, hear_each, heard, waiting, reply, ask}
use Rattle.lone_client.specs.MbimLaw as law
use Rattle.lone_client.proofs.MbimCalm.{Scene, s, Calm, queue_is, began, was_taken, modem_taken_all}
use Rattle.lone_client.proofs.Saying.{wants_list, finish_rests, add_says}
use Rattle.lone_client.proofs.Hearing.{Hears}

-- a part of a message that may come as a piece
pub record IsPart (p : List ℕ) : Type 0 where
  pub some : 0 < length p
  pub short : length p ≤ piece_limit

pub hear_each-append : (a b : List (List ℕ)) (events : List Event) → hear_each (a ++ b) events ≡ hear_each b (hear_each a events)
unfolding hear_each
hear_each-append [] b events = refl
hear_each-append (m ∷ a) b events = hear_each-append a b (ModemPiece m ∷ events)

pub nothing_is_unheard : AreUnheard 65536 []
unfolding heard_from cut_from
nothing_is_unheard = record { heard = refl; good = refl }

module _ (device : List ℕ) (time_limit : ℕ) where
  abbrev t : Setup
  t = s device time_limit

  abbrev At : Scene → List Fact → Type 0
  At x past = Calm device time_limit x past

  -- of a message of the modem these bytes have come, no other is open, the proxy asks for no list, and all stands so
  pub record Stands (front : List ℕ) (x : Scene) (events : List Event) : Type 0 where
    pub sound : coming.AreSound (mbim_protocol t) events
    pub whole : (mbim_cut (stream 1 events)).rest ≡ []
    pub heard : List ℕ
    pub heard_is : modem_stream size_of false events ≡ Some (heard ++ front)
    pub quiet : IsQuiet t heard
    pub unheard : AreUnheard 65536 front
    pub rests : wants_list x ≡ false
    pub calm : At x (history t events)

  module _ {front : List ℕ} {x : Scene} {events : List Event} (stands : Stands front x events) where
    abbrev past : List Fact
    past = EventBegan ∷ history t events

    before : At x past
    before = began device time_limit stands.calm

    -- ---- takings ----

    modem_taken : Stands front (record x { queue = [] }) (ModemTook (length x.queue) ∷ events)
    unfolding proxy.history proxy.add_all stream modem_stream
    modem_taken =
        let after = modem_taken_all device time_limit before (length x.queue) refl in
        record {
          sound = (le_of_eq (sym (ap length (queue_is device time_limit stands.calm))), stands.sound);
          whole = stands.whole;
          heard = stands.heard;
          heard_is = stands.heard_is;
          quiet = stands.quiet;
          unheard = stands.unheard;
          rests = stands.rests;
          calm = subst (At (record x { queue = [] })) (sym (finish_rests device time_limit after stands.rests)) after;
        }

    there : is_present 1 past ≡ true
    there = ap (contains 1) before.there

    client_taken : Stands front (record x { waiting = [] }) (Took 1 (length x.waiting) ∷ events)
    unfolding proxy.history proxy.add_all stream modem_stream
    client_taken =
        let after = was_taken device time_limit before in
        record {
          sound = (le_of_eq (sym (ap (λ (b : Bool). if b then length (text_for t 1 events).waiting else 0) (ap (contains 1) stands.calm.there) ∙ ap length stands.calm.written.are)), stands.sound);
          whole = stands.whole;
          heard = stands.heard;
          heard_is = stands.heard_is;
          quiet = stands.quiet;
          unheard = stands.unheard;
          rests = stands.rests;
          calm = subst (At (record x { waiting = [] })) (sym (ap (λ (b : Bool). finish t (if b then Taken 1 (length x.waiting) ∷ past else past)) there ∙ finish_rests device time_limit after stands.rests)) after;
        }

    -- ---- the client says something ----

    module _ (text : List ℕ) (messages : List (List ℕ)) (cut_is : mbim_cut text ≡ record { messages = messages; rest = [] }) where
      behind_is : mbim_cut ((mbim_cut (stream 1 events)).rest ++ text) ≡ record { messages = messages; rest = [] }
      behind_is = ap (λ (l : List ℕ). mbim_cut (l ++ text)) stands.whole ∙ cut_is

      pub said_history : history t (Piece 1 text ∷ events) ≡ finish t (add_says device time_limit messages past)
      unfolding proxy.history
      said_history =
          let goes = goes_on_from_rest size_of (stream 1 events) text in
          ap₂ (λ (l : List (List ℕ)) (b : Bool). finish t (proxy.add_all (mbim_protocol t) (map (λ m. Says 1 m) l ++ item_if b (GoesBad 1)) past))
          (goes.messages ∙ ap (λ (c : Cutting). c.messages) behind_is)
          (goes.bad ∙ ap (λ (c : Cutting). is_invalid (size_of c.rest)) behind_is)
          ∙ ap (λ (items : List Item). finish t (proxy.add_all (mbim_protocol t) items past)) (append-nil (map (λ m. Says 1 m) messages))

      pub says_so : (after : Scene) (facts : List Fact) → length text ≤ piece_limit → finish t (add_says device time_limit messages past) ≡ facts → At after facts → wants_list after ≡ false → Stands front after (Piece 1 text ∷ events)
      unfolding stream modem_stream
      says_so after facts short is calm rests = record {
        sound = (short, stands.sound);
        whole = (goes_on_from_rest size_of (stream 1 events) text).rest ∙ ap (λ (c : Cutting). c.rest) behind_is;
        heard = stands.heard;
        heard_is = stands.heard_is;
        quiet = stands.quiet;
        unheard = stands.unheard;
        rests = rests;
        calm = subst (At after) (sym (said_history ∙ is)) calm;
      }

    -- ---- the modem says something ----

    module _ (piece : List ℕ) (short : length piece ≤ piece_limit) where
      modem_history : history t (ModemPiece piece ∷ events) ≡ finish t (proxy.add_all (mbim_protocol t) (modem_items (mbim_protocol t) piece (Some (stands.heard ++ front))) past)
      unfolding proxy.history
      modem_history = ap (λ (o : Option (List ℕ)). finish t (proxy.add_all (mbim_protocol t) (modem_items (mbim_protocol t) piece o) past)) stands.heard_is

      stream_is : is_bad size_of ((stands.heard ++ front) ++ piece) ≡ false → modem_stream size_of false (ModemPiece piece ∷ events) ≡ Some ((stands.heard ++ front) ++ piece)
      unfolding modem_stream
      stream_is good =
          ap (λ (o : Option (List ℕ)). with_piece_of o) stands.heard_is
          ∙ ap (λ (b : Bool). if b then None else Some ((stands.heard ++ front) ++ piece)) good
        where
          with_piece_of : Option (List ℕ) → Option (List ℕ)
          with_piece_of None = None
          with_piece_of (Some before) = if is_bad size_of (before ++ piece) then None else Some (before ++ piece)

      -- a piece behind which its message goes on
      goes_on : AreUnheard 65536 (front ++ piece) → Stands (front ++ piece) x (ModemPiece piece ∷ events)
      unfolding stream proxy.add_all
      goes_on still =
          let on = goes_on_unheard t stands.heard stands.quiet front piece stands.unheard still in
          let nothing : modem_items (mbim_protocol t) piece (Some (stands.heard ++ front)) ≡ [] = ap₂ (λ (l : List (List ℕ)) (b : Bool). map (λ m. ModemSays m) l ++ item_if b ModemIsLost) on.unheard on.good in
          record {
            sound = (short, stands.sound);
            whole = stands.whole;
            heard = stands.heard;
            heard_is = stream_is on.good ∙ ap Some (append_assoc stands.heard front piece);
            quiet = stands.quiet;
            unheard = still;
            rests = stands.rests;
            calm = subst (At x) (sym (modem_history ∙ ap (λ (items : List Item). finish t (proxy.add_all (mbim_protocol t) items past)) nothing ∙ finish_rests device time_limit before stands.rests)) before;
          }

      -- the piece that ends it
      ends : (whole : List ℕ) (after : Scene) → (mbim_cut (front ++ piece)).rest ≡ [] → AreHeardAs 65536 (mbim_cut (front ++ piece)).messages whole → Hears device time_limit whole past after → wants_list after ≡ false → Stands [] after (ModemPiece piece ∷ events)
      unfolding stream proxy.add_all
      ends whole after rest are hears rests =
          let one = ends_heard t stands.heard stands.quiet front piece whole stands.unheard rest are in
          let items_are : modem_items (mbim_protocol t) piece (Some (stands.heard ++ front)) ≡ ModemSays whole ∷ [] = ap₂ (λ (l : List (List ℕ)) (b : Bool). map (λ m. ModemSays m) l ++ item_if b ModemIsLost) one.heard one.good in
          record {
            sound = (short, stands.sound);
            whole = stands.whole;
            heard = (stands.heard ++ front) ++ piece;
            heard_is = stream_is one.good ∙ ap Some (sym (append-nil ((stands.heard ++ front) ++ piece)));
            quiet = one.quiet;
            unheard = nothing_is_unheard;
            rests = rests;
            calm = subst (At after) (sym (modem_history ∙ ap (λ (items : List Item). finish t (proxy.add_all (mbim_protocol t) items past)) items_are ∙ ap (finish t) hears.is ∙ finish_rests device time_limit hears.calm rests)) hears.calm;
          }

  -- ---- a message of the modem in several pieces ----

  module _ (bytes whole : List ℕ) (one : SaysOne t bytes whole) (x after : Scene) (hears : (past : List Fact) → At x past → Hears device time_limit whole past after) (rests : wants_list after ≡ false) where
    pub comes : (p : List ℕ) (ps : List (List ℕ)) (front : List ℕ) (events : List Event) → Stands front x events → front ++ concat (p ∷ ps) ≡ bytes → AllByRecursion IsPart (p ∷ ps) → Stands [] after (hear_each (p ∷ ps) events)
    unfolding hear_each
    comes p [] front events stands is parts =
        let all : front ++ p ≡ bytes = ap (λ (l : List ℕ). front ++ l) (sym (append-nil p)) ∙ is in
        ends stands p parts.0.short whole after
        (subst (λ (l : List ℕ). (mbim_cut l).rest ≡ []) (sym all) one.rest)
        (subst (λ (l : List ℕ). AreHeardAs 65536 (mbim_cut l).messages whole) (sym all) one.heard)
        (hears (EventBegan ∷ history t events) (began device time_limit stands.calm)) rests
    comes p (q ∷ ps) front events stands is parts =
        let all : (front ++ p) ++ concat (q ∷ ps) ≡ bytes = append_assoc front p (concat (q ∷ ps)) ∙ is in
        let more : 0 < length (concat (q ∷ ps)) = omega (arith, parts.1.0.some, length-append q (concat ps)) in
        comes q ps (front ++ p) (ModemPiece p ∷ events) (goes_on stands p parts.0.short (one.unheard (front ++ p) (concat (q ∷ ps)) all more)) all parts.1

  -- ---- on a stage ----

  module _ (modem : Answering) where
    abbrev cast : Cast
    cast = law.cast device time_limit modem

    -- the client says this and takes that, and the modem was asked these then
    pub record Exchanged (stage : Stage) (text answer : List ℕ) (after : Scene) (asked : List (List ℕ)) : Type 0 where
      pub reply_is : reply cast text stage ≡ answer
      pub stands : Stands [] (record after { waiting = [] }) (ask cast text stage).events
      pub asked_is : (ask cast text stage).asked ≡ asked

    fetched_all : {x : Scene} {events : List Event} (queue : List ℕ) → x.queue ≡ queue → Stands [] x events → Stands [] (record x { queue = [] }) (taking (λ count. ModemTook count) queue events)
    fetched_all {x} {events} [] is stands = subst (λ (l : List ℕ). Stands [] (record x { queue = l }) events) is stands
    fetched_all {x} {events} (byte ∷ queue) is stands = subst (λ (n : ℕ). Stands [] (record x { queue = [] }) (ModemTook n ∷ events)) (ap length is) (modem_taken stands)

    taken_all : {x : Scene} {events : List Event} (bytes : List ℕ) → x.waiting ≡ bytes → Stands [] x events → Stands [] (record x { waiting = [] }) (taking (λ count. Took 1 count) bytes events)
    taken_all {x} {events} [] is stands = subst (λ (l : List ℕ). Stands [] (record x { waiting = l }) events) is stands
    taken_all {x} {events} (byte ∷ bytes) is stands = subst (λ (n : ℕ). Stands [] (record x { waiting = [] }) (Took 1 n ∷ events)) (ap length is) (client_taken stands)

    pub exchanged : (stage : Stage) (text : List ℕ) (x after : Scene) (messages : List (List ℕ)) → Stands [] x (said text stage) → sent_for size_of modem stage.asked (mbim_cut x.queue).messages ≡ messages
        → ((events : List Event) → Stands [] (record x { queue = [] }) events → Stands [] after (hear_each messages events)) → Exchanged stage text after.waiting after (asked_then stage.asked (mbim_cut x.queue).messages)
    exchanged stage text x after messages stands says hears =
        let queue_now : cast.proxy.waiting_for_modem (said text stage) ≡ x.queue = queue_is device time_limit stands.calm in
        let events : List Event = hear_each messages (taking (λ count. ModemTook count) x.queue (said text stage)) in
        let heard_is : heard cast text stage ≡ events =
        ap (λ (q : List ℕ). hear_each (sent_for size_of modem stage.asked (mbim_cut q).messages) (taking (λ count. ModemTook count) q (said text stage))) queue_now
        ∙ ap (λ (l : List (List ℕ)). hear_each l (taking (λ count. ModemTook count) x.queue (said text stage))) says
        in
        let then_stands : Stands [] after events = hears (taking (λ count. ModemTook count) x.queue (said text stage)) (fetched_all x.queue refl stands) in
        let waits : waiting cast events ≡ after.waiting = ap (λ (b : Bool). if b then (text_for t 1 events).waiting else []) (ap (contains 1) then_stands.calm.there) ∙ then_stands.calm.written.are in
        let reply_is : reply cast text stage ≡ after.waiting = ap (waiting cast) heard_is ∙ waits in
        let then_events : (ask cast text stage).events ≡ taking (λ count. Took 1 count) after.waiting events = ap₂ (λ (w : List ℕ) (l : List Event). taking (λ count. Took 1 count) w l) reply_is heard_is in
        record {
          reply_is = reply_is;
          stands = subst (Stands [] (record after { waiting = [] })) (sym then_events) (taken_all after.waiting refl then_stands);
          asked_is = ap (λ (q : List ℕ). asked_then stage.asked (mbim_cut q).messages) queue_now;
        }
