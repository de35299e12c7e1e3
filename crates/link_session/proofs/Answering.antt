-- A link that brings what a peer says, and then nothing, is enough for a request.
use Rattle.std.proofs.Common.{◌≡◌, ◌⊎◌, inl, inr, ℕ, ◌+◌, ◌<◌, zero, suc, true, List, [], ◌∷◌, ◌++◌, map, replicate, All, Some, refl, sym, ◌∙◌, ap, subst, arith, count_by, append_assoc}
use Rattle.std.proofs.lemmas.List.{append-nil}
use Rattle.std.proofs.lemmas.List.Elements.{All-nil, All-cons, All-append, All-head, All-tail, All-weaker}
use Rattle.std.specs.List.{concat}
use Rattle.framing.specs.declared.framing.Size.{Size}
use Rattle.link_io.specs.Calls.{Call, Sent, Took, WasQuiet}
use Rattle.link_session.specs.Marks.{Mark, Quiet, IsTake, piece_marks, take_marks, bytes_in}
use Rattle.link_session.specs.Waiting.{Heard, Wait, Outcome, AreUndecided, Waits, decision, is_quiet, marks_with}
use Rattle.link_session.specs.Asking.{Asked, Asks, sent}
use Rattle.link_session.specs.Peer.{Peer, LeadsTo, said, texts_in, Ending, Talk, ask, reply_to, IsUpTo, EndsByPeer, Keeps, AsksWithin, PeersCanBeAsked}
use Rattle.link_session.proofs.Takes.{bytes_in-append}
use Rattle.link_session.proofs.Streams.{IsOfBytes, piece_marks-of_bytes}
use Rattle.link_session.proofs.Deciding.{count_by-append, decide, decided_by_peer, decided_by_quiet}
use Rattle.link_session.proofs.Peers.{All-front, takes_send_nothing, mark_is, marks_with-append, waits_as}

-- ---- the takes that a wait needs ----

module _ (size : List ℕ → Size) (wait : Wait) (heard : Heard) where
  -- a wait that goes on behind some takes, and ends with as many of these as it needs
  record WaitsWithin (earlier takes : List Call) : Type 0 where
    pub needed : List Call
    pub unneeded : List Call
    pub outcome : Outcome
    pub later : Heard
    pub are : takes ≡ needed ++ unneeded
    pub waits : Waits size wait heard (earlier ++ needed) outcome later

  within : (earlier takes : List Call) → All IsTake earlier → All IsTake takes → AreUndecided wait (marks_with size heard earlier)
      → AreUndecided wait (marks_with size heard (earlier ++ takes)) ⊎ WaitsWithin earlier takes
  within earlier [] each_earlier each undecided = inl (rw (append-nil earlier) undecided)
  within earlier (call ∷ takes) each_earlier each undecided =
      let front : List Call = earlier ++ call ∷ [] in
      let each_front : All IsTake front = All-append IsTake earlier (call ∷ []) each_earlier (All-cons IsTake call [] (All-head IsTake call takes each) (All-nil IsTake)) in
      let joined : front ++ takes ≡ earlier ++ call ∷ takes = append_assoc earlier (call ∷ []) takes in
      elim (decide wait (marks_with size heard earlier) (take_marks size (heard.taken ++ bytes_in earlier) (call ∷ [])) undecided) [
        | inl more ↦
            elim (within front takes each_front (All-tail IsTake call takes each) (subst (AreUndecided wait) (sym (marks_with-append size heard earlier (call ∷ []))) more)) [
              | inl all ↦ inl (subst (λ (l : List Call). AreUndecided wait (marks_with size heard l)) joined all)
              | inr it ↦
                  inr (record {
                    needed = call ∷ it.needed;
                    unneeded = it.unneeded;
                    outcome = it.outcome;
                    later = it.later;
                    are = ap (λ (l : List Call). call ∷ l) it.are;
                    waits = subst (λ (l : List Call). Waits size wait heard l it.outcome it.later) (append_assoc earlier (call ∷ []) it.needed) it.waits;
                  })
            ]
        | inr it ↦
            inr (record {
              needed = call ∷ [];
              unneeded = takes;
              outcome = it.outcome;
              later = record { taken = heard.taken ++ bytes_in front; left = it.left };
              are = refl;
              waits = record {
                before = marks_with size heard earlier ++ it.more;
                mark = it.mark;
                brings = record {
                  each = each_front;
                  marks =
                      marks_with-append size heard earlier (call ∷ [])
                      ∙ ap (λ (l : List Mark). marks_with size heard earlier ++ l) it.are
                      ∙ sym (append_assoc (marks_with size heard earlier) it.more (it.mark ∷ it.left))
                      ∙ sym (append_assoc (marks_with size heard earlier ++ it.more) (it.mark ∷ []) it.left);
                  taken = refl;
                };
                undecided = it.undecided;
                decided_is = it.is;
                needed = inr (earlier, call, it.more, refl, refl);
              };
            })
      ]

  -- from the start on
  from_start : (takes : List Call) → All IsTake takes → AreUndecided wait (marks_with size heard takes) ⊎ WaitsWithin [] takes
  unfolding take_marks bytes_in
  from_start takes each = elim (decide wait [] heard.left (record { each = tt; quiets = omega arith; messages = omega arith })) [
    | inl none ↦ within [] takes (All-nil IsTake) each (subst (AreUndecided wait) (sym (append-nil heard.left)) none)
    | inr it ↦
        inr (record {
          needed = [];
          unneeded = takes;
          outcome = it.outcome;
          later = record { taken = heard.taken; left = it.left };
          are = refl;
          waits = record {
            before = it.more;
            mark = it.mark;
            brings = record { each = All-nil IsTake; marks = append-nil heard.left ∙ it.are ∙ sym (append_assoc it.more (it.mark ∷ []) it.left); taken = sym (append-nil heard.taken) };
            undecided = it.undecided;
            decided_is = it.is;
            needed = inl refl;
          };
        })
  ]

-- ---- pieces, and then quiet takes ----

nil_front : {A : Type 0} (front back : List A) → front ++ back ≡ [] → front ≡ []
nil_front [] back none = refl
nil_front (x ∷ front) back none = absurd (cc)

piece_takes : List (List ℕ) → List Call
piece_takes pieces = map (λ piece. Took piece) pieces

pieces_are_takes : (pieces : List (List ℕ)) → All IsTake (piece_takes pieces)
unfolding piece_takes
pieces_are_takes [] = All-nil IsTake
pieces_are_takes (piece ∷ pieces) = All-cons IsTake (Took piece) (piece_takes pieces) tt (pieces_are_takes pieces)

pieces-bytes : (pieces : List (List ℕ)) → bytes_in (piece_takes pieces) ≡ concat pieces
unfolding piece_takes bytes_in
pieces-bytes [] = refl
pieces-bytes (piece ∷ pieces) = ap (λ (l : List ℕ). piece ++ l) (pieces-bytes pieces)

quiet_takes : ℕ → List Call
quiet_takes count = replicate count WasQuiet

quiets_are_takes : (count : ℕ) → All IsTake (quiet_takes count)
unfolding quiet_takes
quiets_are_takes zero = All-nil IsTake
quiets_are_takes (suc count) = All-cons IsTake WasQuiet (quiet_takes count) tt (quiets_are_takes count)

quiets-bytes : (count : ℕ) → bytes_in (quiet_takes count) ≡ []
unfolding quiet_takes bytes_in
quiets-bytes zero = refl
quiets-bytes (suc count) = quiets-bytes count

-- a mark of bytes or of a quiet take
abbrev pub IsOfTalk : Mark → Type 0
IsOfTalk mark = IsOfBytes mark ⊎ (mark ≡ Quiet)

module _ (size : List ℕ → Size) where
  pieces-marks : (stream : List ℕ) (pieces : List (List ℕ)) → All IsOfBytes (take_marks size stream (piece_takes pieces))
  unfolding piece_takes take_marks
  pieces-marks stream [] = All-nil IsOfBytes
  pieces-marks stream (piece ∷ pieces) =
      All-append IsOfBytes (piece_marks size stream piece) (take_marks size (stream ++ piece) (piece_takes pieces)) (piece_marks-of_bytes size stream piece) (pieces-marks (stream ++ piece) pieces)

  quiets-marks : (stream : List ℕ) (count : ℕ) → All IsOfTalk (take_marks size stream (quiet_takes count))
  unfolding quiet_takes take_marks
  quiets-marks stream zero = All-nil IsOfTalk
  quiets-marks stream (suc count) = All-cons IsOfTalk Quiet (take_marks size stream (quiet_takes count)) (inr refl) (quiets-marks stream count)

  quiets-count : (stream : List ℕ) (count : ℕ) → count_by is_quiet (take_marks size stream (quiet_takes count)) ≡ count
  unfolding quiet_takes take_marks
  quiets-count stream zero = refl
  quiets-count stream (suc count) = grind (arith, quiets-count stream count, count_by-append is_quiet (Quiet ∷ []) (take_marks size stream (quiet_takes count)))

-- what a mark decides where all that the peer says was taken
decided_at_end : (wait : Wait) (before : List Mark) (mark : Mark) (reply : List ℕ) (outcome : Outcome) → IsOfTalk mark → decision wait before mark ≡ Some outcome → EndsByPeer reply reply outcome
decided_at_end wait before mark reply outcome (inl is) decides = decided_by_peer wait before mark reply reply outcome is decides
decided_at_end wait before mark reply outcome (inr quiet) decides =
    subst (EndsByPeer reply reply) (decided_by_quiet wait before outcome (subst (λ (m : Mark). decision wait before m ≡ Some outcome) quiet decides)) refl

module _ (peer : Peer) (asked : Asked) (talk : Talk) (late : List ℕ) (heard : Heard) (kept : Keeps asked.size) (upto : IsUpTo asked.size late heard talk.heard) where
  reply : List ℕ
  reply = reply_to peer asked talk

  -- a wait that ends so makes the request end as at the peer
  asks_within : (takes : List Call) {own : List Call} {outcome : Outcome} {later : Heard} (unneeded : List Call) → takes ≡ own ++ unneeded → bytes_in takes ≡ late ++ reply
      → Waits asked.size asked.wait heard own outcome later → EndsByPeer (late ++ reply) (bytes_in own) outcome → AsksWithin asked heard takes (ask peer asked talk).outcome
  unfolding ask reply
  asks_within takes {own = own} {outcome = outcome} {later = later} unneeded are all waits ends =
      let come : late ++ reply ≡ bytes_in own ++ bytes_in unneeded = sym all ∙ ap bytes_in are ∙ bytes_in-append own unneeded in
      let ended = waits_as asked.size kept upto reply (bytes_in unneeded) come waits ends in
      let outcome_is : outcome ≡ (ask peer asked talk).outcome = sym (ap (λ (e : Ending). e.outcome) ended.ends) in
      record {
        own = own;
        unneeded = unneeded;
        later = later;
        are = are;
        asks = subst (λ (o : Outcome). Asks asked heard (Sent asked.text true ∷ own) o later) outcome_is (sent own refl waits);
      }

  module _ (pieces : List (List ℕ)) (count : ℕ) (all : concat pieces ≡ late ++ reply) where
    all_takes : List Call
    all_takes = piece_takes pieces ++ quiet_takes count

    all_taken : bytes_in all_takes ≡ late ++ reply
    unfolding all_takes
    all_taken =
        bytes_in-append (piece_takes pieces) (quiet_takes count)
        ∙ ap (λ (l : List ℕ). bytes_in (piece_takes pieces) ++ l) (quiets-bytes count)
        ∙ append-nil (bytes_in (piece_takes pieces))
        ∙ pieces-bytes pieces
        ∙ all

    of_pieces : All IsOfBytes (marks_with asked.size heard (piece_takes pieces))
    of_pieces = All-append IsOfBytes heard.left (take_marks asked.size heard.taken (piece_takes pieces)) upto.each (pieces-marks asked.size heard.taken pieces)

    -- it ends within the pieces
    asks_in_pieces : WaitsWithin asked.size asked.wait heard [] (piece_takes pieces) → AsksWithin asked heard all_takes (ask peer asked talk).outcome
    unfolding all_takes
    asks_in_pieces it =
        let of_bytes = mark_is asked.size upto.each it.waits IsOfBytes it.unneeded (subst (λ (l : List Call). All IsOfBytes (marks_with asked.size heard l)) it.are of_pieces) in
        asks_within all_takes (it.unneeded ++ quiet_takes count) (ap (λ (l : List Call). l ++ quiet_takes count) it.are ∙ append_assoc it.needed it.unneeded (quiet_takes count)) all_taken it.waits
        (decided_by_peer asked.wait it.waits.before it.waits.mark (late ++ reply) (bytes_in it.needed) it.outcome of_bytes it.waits.decided_is)

    -- it ends behind them
    asks_in_silence : WaitsWithin asked.size asked.wait heard (piece_takes pieces) (quiet_takes count) → AsksWithin asked heard all_takes (ask peer asked talk).outcome
    unfolding all_takes
    asks_in_silence it =
        let own : List Call = piece_takes pieces ++ it.needed in
        let are : all_takes ≡ own ++ it.unneeded = ap (λ (l : List Call). piece_takes pieces ++ l) it.are ∙ sym (append_assoc (piece_takes pieces) it.needed it.unneeded) in
        let talks : All IsOfTalk (marks_with asked.size heard all_takes) =
        subst (All IsOfTalk) (sym (marks_with-append asked.size heard (piece_takes pieces) (quiet_takes count)))
        (All-append IsOfTalk (marks_with asked.size heard (piece_takes pieces)) _
        (All-weaker IsOfBytes IsOfTalk (λ mark is. inl is) (marks_with asked.size heard (piece_takes pieces)) of_pieces)
        (quiets-marks asked.size (heard.taken ++ bytes_in (piece_takes pieces)) count)) in
        let of_talk = mark_is asked.size upto.each it.waits IsOfTalk it.unneeded (subst (λ (l : List Call). All IsOfTalk (marks_with asked.size heard l)) are talks) in
        let nothing : bytes_in it.needed ≡ [] = nil_front (bytes_in it.needed) (bytes_in it.unneeded) (sym (bytes_in-append it.needed it.unneeded) ∙ ap bytes_in (sym it.are) ∙ quiets-bytes count) in
        let taken : late ++ reply ≡ bytes_in own =
        sym (bytes_in-append (piece_takes pieces) it.needed
        ∙ ap (λ (l : List ℕ). bytes_in (piece_takes pieces) ++ l) nothing
        ∙ append-nil (bytes_in (piece_takes pieces))
        ∙ pieces-bytes pieces
        ∙ all) in
        asks_within all_takes it.unneeded are all_taken it.waits
        (subst (λ (l : List ℕ). EndsByPeer (late ++ reply) l it.outcome) taken
        (decided_at_end asked.wait it.waits.before it.waits.mark (late ++ reply) it.outcome of_talk it.waits.decided_is))

    asks_at_peer : asked.wait.patience < count → AsksWithin asked heard all_takes (ask peer asked talk).outcome
    unfolding all_takes
    asks_at_peer enough = elim (from_start asked.size asked.wait heard (piece_takes pieces) (pieces_are_takes pieces)) [
      | inr it ↦ asks_in_pieces it
      | inl none ↦
          elim (within asked.size asked.wait heard (piece_takes pieces) (quiet_takes count) (pieces_are_takes pieces) (quiets_are_takes count) none) [
            | inr it ↦ asks_in_silence it
            | inl never ↦
                let stream : List ℕ = heard.taken ++ bytes_in (piece_takes pieces) in
                absurd (omega (
                  arith,
                  never.quiets,
                  enough,
                  ap (count_by is_quiet) (marks_with-append asked.size heard (piece_takes pieces) (quiet_takes count)),
                  count_by-append is_quiet (marks_with asked.size heard (piece_takes pieces)) (take_marks asked.size stream (quiet_takes count)),
                  quiets-count asked.size stream count,
                ))
          ]
    ]

-- such a link is one to the peer
takes_lead : (peer : Peer) (before : List (List ℕ)) (text late : List ℕ) (takes : List Call) → All IsTake takes → bytes_in takes ≡ late ++ peer (before ++ text ∷ []) → LeadsTo peer before late (Sent text true ∷ takes)
unfolding said texts_in bytes_in
takes_lead peer before text late takes each all =
    let reply : List ℕ = peer (before ++ text ∷ []) in
    let at : (front more : List Call) → Sent text true ∷ takes ≡ front ++ more → (rest : List ℕ) × (late ++ said peer before (texts_in front) ≡ bytes_in front ++ rest) =
    λ front more. elim front as (λ front. Sent text true ∷ takes ≡ front ++ more → (rest : List ℕ) × (late ++ said peer before (texts_in front) ≡ bytes_in front ++ rest)) [
      | [] ↦ λ is. (late, append-nil late)
      | call ∷ front ↦ λ is.
          let first : Sent text true ≡ call = cc in
          let rest : takes ≡ front ++ more = cc in
          let none : texts_in front ≡ [] = takes_send_nothing front (All-front IsTake front more (subst (All IsTake) rest each)) in
          subst (λ (c : Call). (rest : List ℕ) × (late ++ said peer before (texts_in (c ∷ front)) ≡ bytes_in (c ∷ front) ++ rest)) first (
            bytes_in more,
            ap (λ (l : List (List ℕ)). late ++ (reply ++ said peer (before ++ text ∷ []) l)) none
                ∙ ap (λ (l : List ℕ). late ++ l) (append-nil reply)
                ∙ sym all
                ∙ ap bytes_in rest
                ∙ bytes_in-append front more,
          )
    ]
    in record { comes = at }

pub peers_can_be_asked : PeersCanBeAsked
unfolding reply all_takes piece_takes quiet_takes
peers_can_be_asked peer asked talk late heard pieces kept upto all =
    let count : ℕ = asked.wait.patience + 1 in
    let takes : List Call = piece_takes pieces ++ quiet_takes count in (
      takes_lead peer talk.texts asked.text late takes (All-append IsTake (piece_takes pieces) (quiet_takes count) (pieces_are_takes pieces) (quiets_are_takes count))
          (all_taken peer asked talk late heard kept upto pieces count all),
      asks_at_peer peer asked talk late heard kept upto pieces count all (omega arith),
    )
