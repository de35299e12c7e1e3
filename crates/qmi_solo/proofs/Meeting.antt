-- What the client meets alone, event by event.
use Rattle.std.proofs.Common.{◌≡◌, ℕ, zero, suc, ◌+◌, ◌<◌, Bool, true, false, nat_le, if◌then◌else◌, List, [], ◌∷◌, ◌++◌, length, take, drop, map, refl, ap, sym, ◌∙◌, subst, arith, Option, Some, None, length-drop, take-append-drop, append_assoc}
use Rattle.std.proofs.lemmas.Bool.Decides.{nat_tests}
use Rattle.framing.specs.Framing.{IsMessage}
use Rattle.framing.specs.Cutting.{cut}
use Rattle.qmux_frame.specs.Frame.{size_of}
use Rattle.proxy_history.specs.History as proxy
use Rattle.proxy_history.specs.Events.{Event, ModemPiece}
use Rattle.proxy_history.specs.Streams.{stream, modem_stream, with_piece, messages_of_piece, is_bad}
use Rattle.proxy_history.specs.Items.{ModemSays, ModemIsLost, item_if, modem_items}
use Rattle.proxy_history.specs.Facts.{Fact, EventBegan}
use Rattle.proxy_history.specs.Requests.{in_use}
use Rattle.proxy_history.specs.Modem.{to_modem, modem_taken_count, modem_queue}
use Rattle.proxy_solo.specs.Part as alone_part
use Rattle.proxy_solo.specs.Solo as alone
use Rattle.qmux_frame.specs.Framing.{size_of-kept, size_of-positive}
use Rattle.proxy_history.proofs.Pieces as pieces
use Rattle.qmi_proxy.specs.Setup.{Setup}
use Rattle.qmi_proxy.specs.Clients.{wire}
use Rattle.qmi_proxy.specs.FromModem.{hear_modem}
use Rattle.qmi_proxy.specs.History.{add_all, history, qmi_protocol}
use Rattle.proxy_state.specs.Stands.{rest_in}
use Rattle.proxy_solo.specs.Solo.{take_all, piece_limit, pieces_of}
use Rattle.qmi_solo.proofs.Meets.{meet, meet_pieces}
use Rattle.qmi_solo.specs.Part.{part}
use Rattle.qmi_solo.proofs.Fit.{Fit}
use Rattle.qmi_solo.proofs.Fits.{fit_add}

module _ (s : Setup) (c : ℕ) where
  abbrev pub modem_bytes : List Event → Option (List ℕ)
  modem_bytes solo = modem_stream size_of s.starts_away solo

  -- the client's part is the same in a history of all and where it is alone
  pub record Alike (past : List Fact) (solo : List Event) (bytes : List ℕ) : Type 0 where
    pub same : part c past ≡ part c (history s solo)
    pub fit : Fit false c past
    pub alone : Fit true c (history s solo)
    pub sent : stream c solo ≡ bytes
    pub whole : rest_in size_of (modem_bytes solo) ≡ []
    pub empty : length (modem_queue wire (history s solo)) ≡ 0

  begun_fit : {alone : Bool} (past : List Fact) → Fit alone c past → Fit alone c (EventBegan ∷ past)
  begun_fit past F = record { client = F.client; sound = (tt, F.sound); fits = (tt, F.fits) }

  -- the modem takes all that waits
  takes_all : (past : List Fact) (solo : List Event) (bytes : List ℕ) → part c past ≡ part c (history s solo) → Fit false c past → Fit true c (history s solo) → stream c solo ≡ bytes → rest_in size_of (modem_bytes solo) ≡ []
      → (count : ℕ) → length (modem_queue wire (history s solo)) ≡ count → Alike past (take_all count solo) bytes
  unfolding proxy.history proxy.add_all alone_part.part stream modem_stream to_modem modem_taken_count
  takes_all past solo bytes same F G sent whole zero is = record { same = same; fit = F; alone = G; sent = sent; whole = whole; empty = is }
  takes_all past solo bytes same F G sent whole (suc count) is = record {
    same = same;
    fit = F;
    alone = record { client = G.client; sound = (tt, (tt, G.sound)); fits = (omega (arith, is), (tt, G.fits)) };
    sent = sent;
    whole = whole;
    empty = omega (arith, is, length-drop (modem_taken_count (history s solo)) (to_modem wire (history s solo)), length-drop (modem_taken_count (history s solo) + suc count) (to_modem wire (history s solo)));
  }

  pub met : (event : Event) (past : List Fact) (solo : List Event) (bytes : List ℕ) → part c past ≡ part c (history s (event ∷ solo)) → Fit false c past → Fit true c (history s (event ∷ solo))
      → stream c (event ∷ solo) ≡ bytes → rest_in size_of (modem_bytes (event ∷ solo)) ≡ [] → Alike past (meet s event solo) bytes
  met event past solo bytes same F G sent whole = takes_all past (event ∷ solo) bytes same F G sent whole (length (modem_queue wire (history s (event ∷ solo)))) refl

  -- ---- a message in pieces ----

  -- a piece of the modem and what it comes to
  piece_history : (solo : List Event) (before piece : List ℕ) (messages : List (List ℕ)) → modem_bytes solo ≡ Some before → messages_of_piece size_of before piece ≡ messages → is_bad size_of (before ++ piece) ≡ false
      → history s (ModemPiece piece ∷ solo) ≡ add_all s (map (λ m. ModemSays m) messages ++ []) (EventBegan ∷ history s solo)
  unfolding proxy.history
  piece_history solo before piece messages stream_is messages_are good =
      ap (λ (o : Option (List ℕ)). add_all s (modem_items (qmi_protocol s) piece o) (EventBegan ∷ history s solo)) stream_is
      ∙ ap (λ (l : List (List ℕ)). add_all s (map (λ m. ModemSays m) l ++ item_if (is_bad size_of (before ++ piece)) ModemIsLost) (EventBegan ∷ history s solo)) messages_are
      ∙ ap (λ (b : Bool). add_all s (map (λ m. ModemSays m) messages ++ item_if b ModemIsLost) (EventBegan ∷ history s solo)) good

  piece_stream : (solo : List Event) (before piece : List ℕ) → modem_bytes solo ≡ Some before → is_bad size_of (before ++ piece) ≡ false → modem_bytes (ModemPiece piece ∷ solo) ≡ Some (before ++ piece)
  unfolding modem_stream
  piece_stream solo before piece stream_is good = ap (with_piece size_of piece) stream_is ∙ ap (λ (b : Bool). if b then None else Some (before ++ piece)) good

  -- the client's history before a message, some pieces of which came
  record Begun (first : List Fact) (solo : List Event) (bytes front : List ℕ) : Type 0 where
    same : part c (history s solo) ≡ part c first
    requests : in_use (history s solo) ≡ in_use first
    alone : Fit true c (history s solo)
    sent : stream c solo ≡ bytes
    before : List ℕ
    stream_is : modem_bytes solo ≡ Some before
    rest : (cut size_of before).rest ≡ front
    empty : length (modem_queue wire (history s solo)) ≡ 0

  -- what the message comes to, wherever it is whole
  abbrev Comes : List Fact → List Fact → List ℕ → Type 0
  Comes first after x = (own : List Fact) → Fit true c own → part c own ≡ part c first → in_use own ≡ in_use first → part c after ≡ part c (hear_modem s.device x own)

  last_piece : (first after : List Fact) (x : List ℕ) (solo : List Event) (bytes front piece : List ℕ) → Comes first after x → Fit false c after → IsMessage size_of x → Begun first solo bytes front → front ++ piece ≡ x
      → Alike after (meet s (ModemPiece piece) solo) bytes
  unfolding proxy.add_all alone_part.part in_use stream
  last_piece first after x solo bytes front piece comes F message B whole =
      let ends = pieces.ends_message size_of size_of-kept size_of-positive refl B.before piece front x B.rest whole message in
      let own : List Fact = EventBegan ∷ history s solo in
      let is : history s (ModemPiece piece ∷ solo) ≡ hear_modem s.device x own = piece_history solo B.before piece (x ∷ []) B.stream_is ends.messages ends.good in
      let G : Fit true c own = begun_fit (history s solo) B.alone in
      met (ModemPiece piece) after solo bytes
      (comes own G B.same B.requests ∙ ap (part c) (sym is)) F (subst (Fit true c) (sym is) (fit_add true c s (ModemSays x) own G tt)) B.sent
      (ap (rest_in size_of) (piece_stream solo B.before piece B.stream_is ends.good) ∙ ends.rest)

  none_waits : (solo : List Event) (event : Event) → length (modem_queue wire (history s (event ∷ solo))) ≡ 0 → meet s event solo ≡ event ∷ solo
  none_waits solo event none = ap (λ (n : ℕ). take_all n (event ∷ solo)) none

  first_piece : (first : List Fact) (x : List ℕ) (solo : List Event) (bytes front piece later : List ℕ) → IsMessage size_of x → Begun first solo bytes front → (front ++ piece) ++ later ≡ x → 0 < length later
      → Begun first (meet s (ModemPiece piece) solo) bytes (front ++ piece)
  unfolding proxy.add_all alone_part.part in_use stream to_modem modem_taken_count
  first_piece first x solo bytes front piece later message B whole some =
      let goes = pieces.goes_on size_of size_of-kept size_of-positive refl B.before piece front later B.rest (subst (IsMessage size_of) (sym whole) message) some in
      let is : history s (ModemPiece piece ∷ solo) ≡ EventBegan ∷ history s solo = piece_history solo B.before piece [] B.stream_is goes.messages goes.good in
      let none : length (modem_queue wire (history s (ModemPiece piece ∷ solo))) ≡ 0 = ap (λ (l : List Fact). length (modem_queue wire l)) is ∙ B.empty in
      subst (λ (l : List Event). Begun first l bytes (front ++ piece)) (sym (none_waits solo (ModemPiece piece) none)) (record {
        same = ap (part c) is ∙ B.same;
        requests = ap in_use is ∙ B.requests;
        alone = subst (Fit true c) (sym is) (begun_fit (history s solo) B.alone);
        sent = B.sent;
        before = B.before ++ piece;
        stream_is = piece_stream solo B.before piece B.stream_is goes.good;
        rest = goes.rest;
        empty = none;
      })

  some_later : (tail : List ℕ) → nat_le (length tail) piece_limit ≡ false → 0 < length (drop piece_limit tail)
  some_later tail long = let longer : piece_limit < length tail = grind (arith, nat_tests, long) in omega (arith, longer, length-drop piece_limit tail)

  in_pieces : (first after : List Fact) (x : List ℕ) (bytes : List ℕ) → Comes first after x → Fit false c after → IsMessage size_of x
      → (count : ℕ) (solo : List Event) (front tail : List ℕ) → Begun first solo bytes front → front ++ tail ≡ x → Alike after (meet_pieces s (pieces_of count tail) solo) bytes
  unfolding alone.meet_pieces alone.pieces_of
  in_pieces first after x bytes comes F message zero solo front tail B whole = last_piece first after x solo bytes front tail comes F message B whole
  in_pieces first after x bytes comes F message (suc count) solo front tail B whole =
      let step : (b : Bool) → nat_le (length tail) piece_limit ≡ b → Alike after (meet_pieces s (elim b [ true ↦ tail ∷ [] | false ↦ take piece_limit tail ∷ pieces_of count (drop piece_limit tail) ]) solo) bytes =
      λ b. elim b as (λ b. nat_le (length tail) piece_limit ≡ b → Alike after (meet_pieces s (elim b [ true ↦ tail ∷ [] | false ↦ take piece_limit tail ∷ pieces_of count (drop piece_limit tail) ]) solo) bytes) [
        | true ↦ λ e. last_piece first after x solo bytes front tail comes F message B whole
        | false ↦ λ e.
            let whole_too : (front ++ take piece_limit tail) ++ drop piece_limit tail ≡ x = append_assoc front (take piece_limit tail) (drop piece_limit tail) ∙ ap (λ (l : List ℕ). front ++ l) (take-append-drop piece_limit tail) ∙ whole in
            in_pieces first after x bytes comes F message count (meet s (ModemPiece (take piece_limit tail)) solo) (front ++ take piece_limit tail) (drop piece_limit tail)
            (first_piece first x solo bytes front (take piece_limit tail) (drop piece_limit tail) message B whole_too (some_later tail e)) whole_too
      ]
      in step (nat_le (length tail) piece_limit) refl

  -- a whole message
  pub whole_message : (past after : List Fact) (solo : List Event) (bytes x before : List ℕ) → Alike past solo bytes → modem_bytes solo ≡ Some before → Comes (history s solo) after x → Fit false c after → IsMessage size_of x
      → Alike after (meet_pieces s (pieces_of (length x) x) solo) bytes
  whole_message past after solo bytes x before A is comes F message =
      in_pieces (history s solo) after x bytes comes F message (length x) solo [] x
      (record { same = refl; requests = refl; alone = A.alone; sent = A.sent; before = before; stream_is = is; rest = ap (rest_in size_of) (sym is) ∙ A.whole; empty = A.empty }) refl
