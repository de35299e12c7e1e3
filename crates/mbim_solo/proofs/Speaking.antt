-- A message that the modem says to a client alone, in pieces of its own: nothing follows of its pieces but the last, with which it is heard.
use Rattle.std.proofs.Common.{◌≡◌, ◌≢◌, ℕ, zero, suc, ◌<◌, ◌≤◌, nat_le, Bool, true, false, if◌then◌else◌, List, [], ◌∷◌, ◌++◌, length, take, drop, map, refl, ap, ap₂, sym, ◌∙◌, subst, inl, arith, Option, Some, None, append_assoc, append-nil, take-append-drop, length-take, length-drop}
use Rattle.std.specs.List.{list_any}
use Rattle.std.proofs.lemmas.Bool.Decides.{nat_tests}
use Rattle.mbim_frame.specs.Frame.{size_of, mbim_cut}
use Rattle.proxy_history.specs.History as proxy
use Rattle.proxy_history.specs.Events.{Event, ModemPiece}
use Rattle.proxy_history.specs.Streams.{stream, modem_stream, with_piece, is_bad}
use Rattle.proxy_history.specs.Items.{ModemSays, ModemIsLost, item_if, delivered_by_piece, modem_items, items_of}
use Rattle.proxy_history.specs.Facts.{Fact, Request, EventBegan}
use Rattle.proxy_history.specs.Connections.{present}
use Rattle.proxy_history.specs.Requests.{in_use, pending, last_number}
use Rattle.proxy_history.specs.Modem.{now, to_modem, modem_taken_count, modem_queue}
use Rattle.proxy_history.specs.View.{view}
use Rattle.proxy_history.specs.Coming.{AreSound}
use Rattle.proxy_history.specs.History.{add_all}
use Rattle.proxy_solo.specs.Part as alone_part
use Rattle.proxy_solo.specs.Solo as alone
use Rattle.proxy_solo.specs.Solo.{pieces_of, piece_limit}
use Rattle.mbim_proxy.specs.Setup.{Setup}
use Rattle.mbim_proxy.specs.Delivered.{AreHeardAs, AreUnheard}
use Rattle.mbim_proxy.specs.ModemStates.{state}
use Rattle.mbim_proxy.specs.Lists.{merged, last_list}
use Rattle.mbim_proxy.specs.Forwarding.{wire}
use Rattle.mbim_proxy.specs.FromModem.{hear_modem}
use Rattle.mbim_proxy.specs.OwnList.{send_under, finish}
use Rattle.mbim_proxy.specs.History.{mbim_protocol, history}
use Rattle.mbim_solo.specs.Solo.{answer_to, list_taken, mbim_alone}
use Rattle.mbim_solo.specs.Part.{part}
use Rattle.mbim_solo.proofs.Spoken.{IsQuiet, SaysOne, goes_on_unheard, ends_heard, empty_is_unheard}
use Rattle.mbim_solo.proofs.Relation.{IsRoomy, is_own_list, is_end_of, IsOrderly, Rests, IsQuietThere, modem_bytes, IsSettled, Stands, Alike}
use Rattle.mbim_solo.proofs.Orderly.{begun_orderly, histories_are_orderly}
use Rattle.mbim_solo.proofs.Settling.{none_where, settles}
use Rattle.mbim_solo.proofs.Standing.{keeps_itself, stands_as_before}
use Rattle.mbim_solo.proofs.Changes.{still_empty}

module _ (s : Setup) (c : ℕ) where
  abbrev pub meet : Event → List Event → List Event
  meet event solo = alone.meet (mbim_protocol s) (mbim_alone s) event solo

  -- what an event adds alone before its end
  abbrev pub added_alone : Event → List Event → List Fact
  added_alone event solo = add_all (mbim_protocol s) (items_of (mbim_protocol s) solo event) (EventBegan ∷ history s solo)

  -- the same for the client, with the same requests, at the same time
  pub record IsLike (one other : List Fact) : Type 0 where
    pub same : part c one ≡ part c other
    pub in_use : in_use one ≡ in_use other
    pub pending : pending one ≡ pending other
    pub time : now one ≡ now other
    pub state : state s.starts_away one ≡ state s.starts_away other

  pub like_itself : (past : List Fact) → IsLike past past
  like_itself past = record { same = refl; in_use = refl; pending = refl; time = refl; state = refl }

  pub begun_like : (past other : List Fact) → IsLike past other → IsLike (EventBegan ∷ past) other
  unfolding alone_part.part in_use pending now state
  begun_like past other L = record { same = L.same; in_use = L.in_use; pending = L.pending; time = L.time; state = L.state }

  -- ---- an event of which nothing follows ----

  begun_none : (own : List Fact) → Rests s c own → finish s (EventBegan ∷ own) ≡ EventBegan ∷ own
  unfolding state pending present view last_list in_use last_number to_modem modem_taken_count
  begun_none own rests = ap (λ (o : Option ℕ). send_under s (merged s own) o (EventBegan ∷ own)) rests.settled

  pub rests_begun : (own : List Fact) → Rests s c own → Rests s c (EventBegan ∷ own)
  unfolding state pending present view last_list in_use last_number to_modem modem_taken_count
  rests_begun own rests = record { queue = rests.queue; list = rests.list; settled = rests.settled }

  nothing_follows : (event : Event) (solo : List Event) → Rests s c (history s solo) → history s (event ∷ solo) ≡ EventBegan ∷ history s solo → meet event solo ≡ event ∷ solo
  nothing_follows event solo rests is =
      let begun : Rests s c (EventBegan ∷ history s solo) = rests_begun (history s solo) rests in
      let empty : alone.taken (mbim_protocol s) (event ∷ solo) ≡ event ∷ solo = ap (λ (n : ℕ). alone.take_all n (event ∷ solo)) (ap (λ (l : List Fact). length (modem_queue (wire s) l)) is ∙ ap (λ (l : List ℕ). length l) begun.queue) in
      let listed : list_any is_own_list (pending (history s (event ∷ solo))) ≡ false = ap (λ (l : List Fact). list_any is_own_list (pending l)) is ∙ begun.list in
      ap (alone.settled (mbim_protocol s) (mbim_alone s)) empty
      ∙ ap (λ (o : Option Request). alone.answered (mbim_protocol s) (answer_to o list_taken) (event ∷ solo)) (none_where is_own_list (pending (history s (event ∷ solo))) listed)

  -- ---- a message in pieces ----

  -- some pieces of it came, and nothing followed; the modem said these bytes in all
  record Speaking (first solo : List Event) (bytes : List ℕ) : Type 0 where
    like : IsLike (history s solo) (history s first)
    rests : Rests s c (history s solo)
    may : AreSound (mbim_protocol s) solo
    sent : stream c solo ≡ stream c first
    stream_is : modem_bytes s c solo ≡ Some bytes

  -- it came whole, and was heard behind facts that are like those before it
  pub record Spoke (first : List Event) (whole : List ℕ) (solo : List Event) : Type 0 where
    pub before : List Fact
    pub like : IsLike before (history s first)
    pub orderly : IsOrderly s c before
    pub settled : IsSettled s c (hear_modem s whole before) (history s solo)
    pub may : AreSound (mbim_protocol s) solo
    pub sent : stream c solo ≡ stream c first
    pub quiet : IsQuietThere s c (modem_bytes s c solo)

  module _ (R : IsRoomy s) (client : c ≢ 0) (first : List Event) (start bytes whole : List ℕ) (Q : IsQuiet s start) (one : SaysOne s bytes whole) where
    piece_adds : (solo : List Event) (before piece : List ℕ) → modem_bytes s c solo ≡ Some before → (messages : List (List ℕ)) → delivered_by_piece (mbim_protocol s) before piece ≡ messages → is_bad size_of (before ++ piece) ≡ false
        → added_alone (ModemPiece piece) solo ≡ add_all (mbim_protocol s) (map (λ m. ModemSays m) messages ++ []) (EventBegan ∷ history s solo)
    piece_adds solo before piece stream_is messages messages_are good =
        ap (λ (o : Option (List ℕ)). add_all (mbim_protocol s) (modem_items (mbim_protocol s) piece o) (EventBegan ∷ history s solo)) stream_is
        ∙ ap₂ (λ (l : List (List ℕ)) (b : Bool). add_all (mbim_protocol s) (map (λ m. ModemSays m) l ++ item_if b ModemIsLost) (EventBegan ∷ history s solo)) messages_are good

    piece_stream : (solo : List Event) (before piece : List ℕ) → modem_bytes s c solo ≡ Some before → is_bad size_of (before ++ piece) ≡ false → modem_bytes s c (ModemPiece piece ∷ solo) ≡ Some (before ++ piece)
    unfolding modem_stream
    piece_stream solo before piece stream_is good = ap (with_piece size_of piece) stream_is ∙ ap (λ (b : Bool). let o : Option (List ℕ) = if b then None else Some (before ++ piece) in o) good

    -- a piece behind which it goes on
    passes : (solo : List Event) (front piece later : List ℕ) → Speaking first solo (start ++ front) → AreUnheard s.longest_body front → (front ++ piece) ++ later ≡ bytes → 0 < length later → length piece ≤ piece_limit
        → Speaking first (meet (ModemPiece piece) solo) (start ++ (front ++ piece))
    unfolding proxy.history add_all stream
    passes solo front piece later S none goes some few =
        let G = goes_on_unheard s start Q front piece none (one.unheard (front ++ piece) later goes some) in
        let added : added_alone (ModemPiece piece) solo ≡ EventBegan ∷ history s solo = piece_adds solo (start ++ front) piece S.stream_is [] G.unheard G.good in
        let is : history s (ModemPiece piece ∷ solo) ≡ EventBegan ∷ history s solo = ap (finish s) added ∙ begun_none (history s solo) S.rests in
        subst (λ (l : List Event). Speaking first l (start ++ (front ++ piece))) (sym (nothing_follows (ModemPiece piece) solo S.rests is)) (record {
          like = subst (λ (l : List Fact). IsLike l (history s first)) (sym is) (begun_like (history s solo) (history s first) S.like);
          rests = subst (Rests s c) (sym is) (rests_begun (history s solo) S.rests);
          may = (few, S.may);
          sent = S.sent;
          stream_is = piece_stream solo (start ++ front) piece S.stream_is G.good ∙ ap (λ (l : List ℕ). Some l) (append_assoc start front piece);
        })

    -- the piece that ends it
    ends : (solo : List Event) (front piece : List ℕ) → Speaking first solo (start ++ front) → AreUnheard s.longest_body front → front ++ piece ≡ bytes → length piece ≤ piece_limit → Spoke first whole (meet (ModemPiece piece) solo)
    unfolding add_all stream in_use to_modem modem_taken_count
    ends solo front piece S none is few =
        let E = ends_heard s start Q front piece whole none (ap (λ (l : List ℕ). (mbim_cut l).rest) is ∙ one.rest) (subst (λ (l : List ℕ). AreHeardAs s.longest_body (mbim_cut l).messages whole) (sym is) one.heard) in
        let own : List Fact = EventBegan ∷ history s solo in
        let added : added_alone (ModemPiece piece) solo ≡ hear_modem s whole own = piece_adds solo (start ++ front) piece S.stream_is (whole ∷ []) E.heard E.good in
        let orderly_own : IsOrderly s c own = begun_orderly s c client (history s solo) (histories_are_orderly s c client solo S.may) in
        let empty : modem_queue (wire s) (added_alone (ModemPiece piece) solo) ≡ [] = ap (modem_queue (wire s)) added ∙ still_empty s (ModemSays whole ∷ []) own ((refl, refl), tt) orderly_own.sound S.rests.queue in
        let quiet : IsQuietThere s c (modem_bytes s c (ModemPiece piece ∷ solo)) = subst (IsQuietThere s c) (sym (piece_stream solo (start ++ front) piece S.stream_is E.good)) E.quiet in
        let M = settles s R c client (ModemPiece piece) solo (few, S.may) S.rests quiet (inl empty) in
        record {
          before = own;
          like = begun_like (history s solo) (history s first) S.like;
          orderly = orderly_own;
          settled = subst (λ (l : List Fact). IsSettled s c l (history s (meet (ModemPiece piece) solo))) added M.settled;
          may = M.may;
          sent = M.sent ∙ S.sent;
          quiet = M.quiet;
        }

    says : (count : ℕ) (solo : List Event) (front later : List ℕ) → Speaking first solo (start ++ front) → AreUnheard s.longest_body front → front ++ later ≡ bytes → length later ≤ count
        → Spoke first whole (alone.meet_pieces (mbim_protocol s) (mbim_alone s) (pieces_of count later) solo)
    unfolding alone.meet_pieces pieces_of
    says zero solo front later S none is few = ends solo front later S none is (omega (arith, few))
    says (suc count) solo front later S none is few =
        let piece : List ℕ = take piece_limit later in
        let rest : List ℕ = drop piece_limit later in
        let Goal : Bool → Type 0 = λ (b : Bool). Spoke first whole (alone.meet_pieces (mbim_protocol s) (mbim_alone s) (elim b [ true ↦ later ∷ [] | false ↦ piece ∷ pieces_of count rest ]) solo) in
        let step : (b : Bool) → nat_le (length later) piece_limit ≡ b → Goal b =
        λ b. elim b as (λ b. nat_le (length later) piece_limit ≡ b → Goal b) [
          | true ↦ λ e. ends solo front later S none is (grind (arith, nat_tests, e))
          | false ↦ λ e.
              let long : piece_limit < length later = grind (arith, nat_tests, e) in
              let some : 0 < length rest = omega (arith, long, length-drop piece_limit later) in
              let goes : (front ++ piece) ++ rest ≡ bytes = append_assoc front piece rest ∙ ap (λ (l : List ℕ). front ++ l) (take-append-drop piece_limit later) ∙ is in
              says count (meet (ModemPiece piece) solo) (front ++ piece) rest
              (passes solo front piece rest S none goes some (omega (arith, length-take piece_limit later))) (one.unheard (front ++ piece) rest goes some) goes (omega (arith, few, long, length-drop piece_limit later))
        ]
        in step (nat_le (length later) piece_limit) refl

    pub speaks : AreSound (mbim_protocol s) first → Rests s c (history s first) → modem_bytes s c first ≡ Some start → Spoke first whole (alone.meet_bytes (mbim_protocol s) (mbim_alone s) (Some bytes) first)
    speaks may rests stream_is =
        says (length bytes) first [] bytes
        (record { like = like_itself (history s first); rests = rests; may = may; sent = refl; stream_is = stream_is ∙ ap (λ (l : List ℕ). Some l) (sym (append-nil start)) })
        (empty_is_unheard s start bytes whole Q one) refl (omega arith)

  -- ---- what stands behind a settled event ----

  pub stands_like : (past own at : List Fact) → IsLike at own → Stands s c past own → Stands s c past at
  stands_like past own at L S = stands_as_before s c past own past at refl (keeps_itself s c past) (record { modem = L.state; used = L.in_use; waiting = L.pending }) S

  pub stands_settled : (past facts own : List Fact) → IsSettled s c facts own → Stands s c past facts → Stands s c past own
  stands_settled past facts own T S = stands_like past facts own (record { same = T.same; in_use = T.in_use; pending = T.pending; time = T.time; state = T.state }) S

  -- all and the client alone are alike where all that is added is alike
  pub alike_settled : (past facts : List Fact) (solo : List Event) (bytes : List ℕ) → IsOrderly s c past → IsSettled s c facts (history s solo) → AreSound (mbim_protocol s) solo → IsQuietThere s c (modem_bytes s c solo) → stream c solo ≡ bytes
      → part c past ≡ part c facts → now past ≡ now facts → (list_any (is_end_of c) past ≡ false → Stands s c past facts) → Alike s c past solo bytes
  alike_settled past facts solo bytes O T may quiet sent same time stands = record {
    orderly = O;
    may = may;
    rests = T.rests;
    quiet = quiet;
    same = same ∙ sym T.same;
    time = time ∙ sym T.time;
    sent = sent;
    stands = λ none. stands_settled past facts (history s solo) T (stands none);
  }
