-- What is known of the stream that goes to a node, as its pieces come.
use Rattle.std.proofs.Common.{◌≡◌, inl, inr, ℕ, ◌+◌, ◌-◌, ◌<◌, ◌≤◌, true, false, List, [], ◌∷◌, ◌++◌, length, take, drop, drop-drop, slice_range, Option, Result, Ok, Err, OnOk, ⊎_elim, true≢false, refl, sym, ◌∙◌, ap, subst, arith, append_assoc, length-append, length-drop, take-append-drop}
use Rattle.std.proofs.lemmas.List.{length-take-le, drop_at, take_at, take-take, drop-take}
use Rattle.std.proofs.lemmas.Slice.{between_to_end}
use Rattle.kit_bytes.specs.declared.span.Span.{Span}
use Rattle.framing.specs.Framing.{IsMessage, IsPartial, IsBad}
use Rattle.framing.specs.Cutting.{cut}
use Rattle.framing.specs.Reading.{Reading, GivesMessage}
use Rattle.kit_io.specs.Growth.{Grows}
use Rattle.kit_io.proofs.Growth.{Grows-none, Grows-append}
use Rattle.file_io.specs.Calls as file
use Rattle.node_frame.specs.Frame.{size_of}
use Rattle.pump.specs.declared.stream.Stream.{Stream}
use Rattle.pump.specs.Writes.{some, writes_from, writes_behind}
use Rattle.pump.specs.Stream.{AwaitsMore, IsReady, StandsFor, HasBegun, PassesMessage, PassesNone}
use Rattle.pump.specs.Writing.{AllWritten, WritesAll}
use Rattle.pump.proofs.Ends.{HoldsNone, begun_is_shorter, writes_from-message, writes_from-none, rest-append, rest-message, rest-none, bad-more}
use Rattle.pump.proofs.Passing.{AllWritten-none, AllWritten-append, WritesAll-behind, WritesAll-fails, some_is}

-- ---- a stream that begins ----

pub StandsFor-none : (stream : Stream) → stream.is_framed ≡ true → stream.cutter.rest ≡ [] → StandsFor stream []
StandsFor-none stream framed none = record { framed = λ is. rest-none [] (inl tt) ∙ sym none; bad = λ is. absurd (true≢false (sym framed ∙ is)) }

-- ---- a message is passed over ----

module _ {stream : Stream} {cutter : Reading} {span : Span} (begun : HasBegun stream) (gives : GivesMessage size_of stream.cutter cutter span) where
  pub count_is : span.end - span.start ≡ gives.count
  count_is = omega (arith, gives.gives.start, gives.gives.end, ap length gives.gives.handed, length-append stream.cutter.handed (take gives.count stream.cutter.rest), length-take-le gives.count stream.cutter.rest gives.gives.within)

  pub message_is_longer : stream.begun < span.end - span.start
  message_is_longer = omega (arith, count_is, begun_is_shorter stream.cutter.rest stream.begun gives.count begun.within gives.gives.within begun.partial gives.message)

  pub passes_message : PassesMessage stream (span.end - span.start - stream.begun) (record { cutter = cutter; begun = 0; is_framed = stream.is_framed })
  passes_message =
      let whole : gives.count ≡ stream.begun + (span.end - span.start - stream.begun) = omega (arith, count_is, message_is_longer) in
      record {
        some = omega (arith, message_is_longer);
        within = omega (arith, whole, gives.gives.within);
        message = subst (λ (n : ℕ). IsMessage size_of (take n stream.cutter.rest)) whole gives.message;
        rest = gives.gives.rest ∙ ap (λ (n : ℕ). drop n stream.cutter.rest) whole;
        begun = refl;
        framed = refl;
      }

-- ---- a piece is written message by message ----

-- all that stands in the piece before this place is written, and the stream goes on there
pub record HasCut (start : Stream) (piece : List ℕ) (at : ℕ) (stream : Stream) (old now : Option (List file.Call)) : Type 0 where
  pub done : List (List ℕ)
  pub calls : List file.Call
  pub framed : stream.is_framed ≡ true
  pub within : at ≤ length piece
  pub few : stream.begun < 65556
  pub begun : HasBegun stream
  pub behind : drop stream.begun stream.cutter.rest ≡ drop at piece
  pub rest : (cut size_of (start.cutter.rest ++ piece)).rest ≡ (cut size_of stream.cutter.rest).rest
  pub writes : writes_from start.cutter.rest [] piece ≡ done ++ writes_from (take stream.begun stream.cutter.rest) [] (drop at piece)
  pub all : AllWritten done calls
  pub grows : Grows old calls now

-- the piece is pushed
pub HasCut-none : (start stream : Stream) (piece : List ℕ) (old : Option (List file.Call)) → start.is_framed ≡ true → AwaitsMore start
    → stream.is_framed ≡ start.is_framed → stream.begun ≡ start.begun → stream.cutter.rest ≡ start.cutter.rest ++ piece → HasCut start piece 0 stream old old
HasCut-none start stream piece old framed awaits same_framed same_begun pushed =
    let count : length start.cutter.rest ≡ stream.begun = sym (same_begun ∙ awaits.begun) in
    let front : take stream.begun stream.cutter.rest ≡ start.cutter.rest = ap (take stream.begun) pushed ∙ take_at start.cutter.rest piece stream.begun count in
    record {
      done = [];
      calls = [];
      framed = same_framed ∙ framed;
      within = omega arith;
      few = omega (arith, count, awaits.short);
      begun = record {
        within = omega (arith, count, ap length pushed, length-append start.cutter.rest piece);
        partial = subst (IsPartial size_of) (sym front) awaits.partial;
      };
      behind = ap (drop stream.begun) pushed ∙ drop_at start.cutter.rest piece stream.begun count;
      rest = ap (λ (l : List ℕ). (cut size_of l).rest) (sym pushed);
      writes = ap (λ (l : List ℕ). writes_from l [] piece) (sym front);
      all = AllWritten-none;
      grows = Grows-none old;
    }

module _ {start stream : Stream} {piece : List ℕ} {at : ℕ} {old now : Option (List file.Call)} (so_far : HasCut start piece at stream old now) where
  abbrev begun_bytes : List ℕ
  begun_bytes = take stream.begun stream.cutter.rest

  left_of_piece : length stream.cutter.rest ≡ stream.begun + (length piece - at)
  left_of_piece = omega (arith, ap length so_far.behind, length-drop stream.begun stream.cutter.rest, length-drop at piece, so_far.begun.within)

  module _ {count : ℕ} {new : Stream} (passes : PassesMessage stream count new) where
    abbrev tail : List ℕ
    tail = take count (drop at piece)

    -- the message ends within the piece
    pub end_within : at + count ≤ length piece
    end_within = omega (arith, left_of_piece, passes.within, passes.some, so_far.within)

    tail_is : slice_range piece at (at + count) ≡ tail
    tail_is = ap (λ (n : ℕ). take n (drop at piece)) (let n : at + count - at ≡ count = omega arith in n)

    tail_long : 0 < length tail
    tail_long = omega (arith, length-take-le count (drop at piece) (omega (arith, length-drop at piece, end_within)), passes.some)

    message_is : take (stream.begun + count) stream.cutter.rest ≡ begun_bytes ++ tail
    message_is =
        let message : List ℕ = take (stream.begun + count) stream.cutter.rest in
        let less : stream.begun ≤ stream.begun + count = omega arith in
        sym (take-append-drop stream.begun message)
        ∙ ap (λ (l : List ℕ). l ++ drop stream.begun message) (take-take stream.begun (stream.begun + count) stream.cutter.rest less)
        ∙ ap (λ (l : List ℕ). begun_bytes ++ l) (drop-take stream.begun count stream.cutter.rest ∙ ap (take count) so_far.behind)

    writes_tail : writes_from start.cutter.rest [] piece ≡ so_far.done ++ tail ∷ writes_from [] [] (drop (at + count) piece)
    writes_tail =
        so_far.writes
        ∙ ap (λ (l : List ℕ). so_far.done ++ writes_from begun_bytes [] l) (sym (take-append-drop count (drop at piece)))
        ∙ ap (λ (l : List (List ℕ)). so_far.done ++ l) (writes_from-message begun_bytes [] tail (drop count (drop at piece)) (subst (IsMessage size_of) message_is passes.message) tail_long)
        ∙ ap (λ (l : List ℕ). so_far.done ++ tail ∷ writes_from [] [] l) (drop-drop count at piece)

    write_is : some (slice_range piece at (at + count)) ≡ tail ∷ []
    write_is = ap some tail_is ∙ some_is tail tail_long

    -- one message more
    pub HasCut-more : {T E : Type 0} {t : T} {later : Option (List file.Call)} → WritesAll {T = T} {E = E} (some (slice_range piece at (at + count))) now (Ok t) later → HasCut start piece (at + count) new old later
    HasCut-more writing =
        let none : take new.begun new.cutter.rest ≡ [] = ap (λ (n : ℕ). take n new.cutter.rest) passes.begun in
        let split : stream.cutter.rest ≡ take (stream.begun + count) stream.cutter.rest ++ drop (stream.begun + count) stream.cutter.rest = sym (take-append-drop (stream.begun + count) stream.cutter.rest) in
        record {
          done = so_far.done ++ tail ∷ [];
          calls = so_far.calls ++ writing.calls;
          framed = passes.framed ∙ so_far.framed;
          within = end_within;
          few = omega (arith, passes.begun);
          begun = record { within = omega (arith, passes.begun); partial = subst (IsPartial size_of) (sym none) tt };
          behind =
              ap (λ (n : ℕ). drop n new.cutter.rest) passes.begun
              ∙ passes.rest
              ∙ sym (drop-drop count stream.begun stream.cutter.rest)
              ∙ ap (drop count) so_far.behind
              ∙ drop-drop count at piece;
          rest =
              so_far.rest
              ∙ ap (λ (l : List ℕ). (cut size_of l).rest) split
              ∙ rest-message (take (stream.begun + count) stream.cutter.rest) (drop (stream.begun + count) stream.cutter.rest) passes.message
              ∙ ap (λ (l : List ℕ). (cut size_of l).rest) (sym passes.rest);
          writes =
              writes_tail
              ∙ sym (append_assoc so_far.done (tail ∷ []) (writes_from [] [] (drop (at + count) piece)))
              ∙ ap (λ (l : List ℕ). (so_far.done ++ tail ∷ []) ++ writes_from l [] (drop (at + count) piece)) (sym none);
          all = subst (λ (l : List (List ℕ)). AllWritten (so_far.done ++ l) (so_far.calls ++ writing.calls)) write_is (AllWritten-append so_far.all writing.are);
          grows = Grows-append so_far.grows writing.grows;
        }

    -- its writing failed
    pub HasCut-fails : {T E U F : Type 0} {e : E} (f : F) {later : Option (List file.Call)} → WritesAll {T = T} {E = E} (some (slice_range piece at (at + count))) now (Err e) later
        → WritesAll {T = U} {E = F} (writes_from start.cutter.rest [] piece) old (Err f) later
    HasCut-fails {T = T} {E = E} {U = U} {F = F} {e = e} f {later = later} writing =
        let more : List (List ℕ) = writes_from [] [] (drop (at + count) piece) in
        let whole : (so_far.done ++ some (slice_range piece at (at + count))) ++ more ≡ writes_from start.cutter.rest [] piece =
        ap (λ (l : List (List ℕ)). (so_far.done ++ l) ++ more) write_is ∙ append_assoc so_far.done (tail ∷ []) more ∙ sym writes_tail in
        subst (λ (l : List (List ℕ)). WritesAll {T = U} {E = F} l old (Err f) later) whole (WritesAll-fails f more (WritesAll-behind so_far.all so_far.grows writing))

  module _ {new : Stream} (passes : PassesNone stream new) where
    holds : HoldsNone stream.cutter.rest
    holds = ⊎_elim (λ some. inl some.0) (λ bad. inr bad.0) passes.none

    -- what is left is written
    pub HasCut-last : {T E : Type 0} (result : Result T E) {later : Option (List file.Call)} → WritesAll (some (slice_range piece at (length piece))) now result later → WritesAll (writes_from start.cutter.rest [] piece) old result later
    HasCut-last result {later = later} writing =
        let joined : stream.cutter.rest ≡ begun_bytes ++ drop at piece =
        sym (take-append-drop stream.begun stream.cutter.rest) ∙ ap (λ (l : List ℕ). begun_bytes ++ l) so_far.behind in
        let whole : so_far.done ++ some (slice_range piece at (length piece)) ≡ writes_from start.cutter.rest [] piece =
        ap (λ (l : List ℕ). so_far.done ++ some l) (between_to_end piece at (length piece) (omega arith))
        ∙ ap (λ (l : List (List ℕ)). so_far.done ++ l) (sym (writes_from-none begun_bytes [] (drop at piece) (subst HoldsNone joined holds)))
        ∙ sym so_far.writes in
        subst (λ (l : List (List ℕ)). WritesAll l old result later) whole (WritesAll-behind so_far.all so_far.grows writing)

    -- the stream is ready for the next piece
    pub HasCut-ready : (last : Stream) → last.is_framed ≡ new.is_framed → last.begun ≡ new.begun + (length piece - at) → last.cutter.rest ≡ new.cutter.rest → IsReady last
    HasCut-ready last same_framed begun same_rest framed = ⊎_elim
        (λ (some : IsPartial size_of stream.cutter.rest × (length stream.cutter.rest < 65556) × (new.is_framed ≡ stream.is_framed)).
        let rest : stream.cutter.rest ≡ last.cutter.rest = sym (same_rest ∙ passes.rest) in
        record {
          partial = subst (IsPartial size_of) rest some.0;
          short = omega (arith, ap length rest, some.1);
          begun = omega (arith, begun, passes.begun, left_of_piece, ap length rest);
        })
        (λ (bad : IsBad size_of stream.cutter.rest × (new.is_framed ≡ false)). absurd (true≢false (sym framed ∙ same_framed ∙ bad.1)))
        passes.none

    -- and stands for all that has come
    pub HasCut-stands : (last : Stream) (before : List ℕ) → last.is_framed ≡ new.is_framed → last.cutter.rest ≡ new.cutter.rest → (cut size_of before).rest ≡ start.cutter.rest → StandsFor last (before ++ piece)
    HasCut-stands last before same_framed same_rest stands =
        let left : (cut size_of (before ++ piece)).rest ≡ stream.cutter.rest =
        rest-append before piece ∙ ap (λ (l : List ℕ). (cut size_of (l ++ piece)).rest) stands ∙ so_far.rest ∙ rest-none stream.cutter.rest holds in
        record {
          framed = λ is. left ∙ sym (same_rest ∙ passes.rest);
          bad = λ is. ⊎_elim
              (λ (some : IsPartial size_of stream.cutter.rest × (length stream.cutter.rest < 65556) × (new.is_framed ≡ stream.is_framed)). absurd (true≢false (sym (same_framed ∙ some.2 ∙ so_far.framed) ∙ is)))
              (λ (bad : IsBad size_of stream.cutter.rest × (new.is_framed ≡ false)). subst (IsBad size_of) (sym left) bad.0)
              passes.none;
        }

-- ---- a stream that is bad ----

module _ (stream : Stream) (unframed : stream.is_framed ≡ false) (before piece : List ℕ) (stands : StandsFor stream before) where
  bad_more : IsBad size_of ((cut size_of before).rest ++ piece)
  bad_more = bad-more (cut size_of before).rest piece (stands.bad unframed)

  -- a piece is one write
  pub bad_writes : {T E : Type 0} {result : Result T E} {old new : Option (List file.Call)} → WritesAll (some piece) old result new → WritesAll (writes_behind before piece) old result new
  bad_writes {result = result} {old = old} {new = new} writing =
      subst (λ (l : List (List ℕ)). WritesAll l old result new) (sym (writes_from-none (cut size_of before).rest [] piece (inr bad_more))) writing

  pub bad_stands : StandsFor stream (before ++ piece)
  bad_stands = record {
    framed = λ is. absurd (true≢false (sym is ∙ unframed));
    bad = λ is. subst (IsBad size_of) (sym (rest-append before piece ∙ rest-none ((cut size_of before).rest ++ piece) (inr bad_more))) bad_more;
  }

-- ---- a stream that is framed ----

pub writes_framed : {T E : Type 0} {start : Stream} {before : List ℕ} (piece : List ℕ) (result : Result T E) {old new : Option (List file.Call)} → StandsFor start before → start.is_framed ≡ true
    → WritesAll (writes_from start.cutter.rest [] piece) old result new → WritesAll (writes_behind before piece) old result new
writes_framed piece result {old = old} {new = new} stands framed writing =
    subst (λ (l : List ℕ). WritesAll (writes_from l [] piece) old result new) (sym (stands.framed framed)) writing

pub OnOk-any : {T E P : Type 0} (result : Result T E) → P → OnOk result P
OnOk-any (Ok t) p = p
OnOk-any (Err e) p = tt
