-- What a direction of a link stands for goes on from piece to piece.
use Rattle.std.proofs.Common.{◌≡◌, ℕ, ◌+◌, ◌^◌, ◌<◌, Bool, true, false, not, List, [], ◌∷◌, ◌++◌, length, Some, append_assoc, length-append, refl, ap, sym, ◌∙◌, subst, arith}
use Rattle.std.proofs.lemmas.List.{append-nil}
use Rattle.framing.specs.declared.framing.Size.{Size}
use Rattle.framing.specs.Framing.{IsKept, IsBad, is_invalid}
use Rattle.framing.specs.Cutting.{Cutting, cut, behind}
use Rattle.framing.specs.Reading.{Reading}
use Rattle.framing.proofs.Cuts.{cut-append, cut-bad}
use Rattle.kit_io.specs.Growth.{Grows}
use Rattle.stream_lines.specs.Lines.{Showing, lines_behind, lines_by, place_behind}
use Rattle.stream_lines.specs.Pieces.{Stands, ShowsAll}
use Rattle.stream_lines.proofs.Pieces.{piece_goes_on, piece_goes_bad}
use Rattle.link_lines.specs.Directions.{StandsFor}
use Rattle.link_lines.specs.Lines.{added}
use Rattle.link_lines.proofs.Directions.{added_of, added_more, added_none}

-- what is known grows
grown : {old more new : List ℕ} → new ≡ old ++ more → Grows (Some old) more (Some new)
grown {old = old} {new = new} is = record { recorded = λ all known. (old, refl, (let same : all ≡ new = cc in same ∙ is)) }

grown_by : {old more new : List ℕ} → Grows (Some old) more (Some new) → new ≡ old ++ more
grown_by {old = old} {more = more} {new = new} grows =
    let was = grows.recorded new refl in
    let same : was.0 ≡ old = cc in
    was.2 ∙ ap (λ (l : List ℕ). l ++ more) same

-- what a direction has told with a piece, and what it stands for behind that
abbrev pub Told : {S : Type 0} → (List ℕ → Size) → (Showing → List (List ℕ) → S → Type 0) → Showing → (before piece old new : List ℕ) → Bool → Reading → S → ℕ → Type 0
Told size shows shown before piece old new good cutter state place = (new ≡ old ++ added size shown before piece) × StandsFor size shows shown (before ++ piece) good cutter state place

module _ {S : Type 0} (size : List ℕ → Size) (shows : Showing → List (List ℕ) → S → Type 0) (shown : Showing) where
  -- its whole messages are shown
  module _ (before piece : List ℕ) {cutter : Reading} {first : S} {at : ℕ} (stands : Stands size shows shown before cutter first at)
      (pushed : List ℕ) (pushed_is : pushed ≡ cutter.rest ++ piece) (short : length before + length piece < 2 ^ 64) {state : S} {place : ℕ} {none lines slice : List ℕ} (none_is : none ≡ []) (slice_is : slice ≡ lines)
      (does : (shown : Showing) (before : List (List ℕ)) → shows shown before first → at ≡ place_behind before → place_behind before + length pushed < 2 ^ 64 → ShowsAll shows shown before (cut size pushed).messages state place none lines)
      (old new : List ℕ) (is : new ≡ old ++ slice) where
    goes_on : (cutter' : Reading) → cutter'.rest ≡ (cut size pushed).rest → Told size shows shown before piece old new true cutter' state place
    goes_on cutter' rest =
        let on = piece_goes_on size shows shown before piece stands pushed pushed_is short none_is slice_is does {taken = Some old} {taken' = Some new} {T = ℕ} 0 cutter' rest (grown is) in
        (grown_by on.adding.0 ∙ ap (λ (l : List ℕ). old ++ l) (sym (added_of size shown before piece on.adds)), on.adding.1)

    goes_bad : (cutter' : Reading) → false ≡ not (is_invalid (size (cut size pushed).rest)) → Told size shows shown before piece old new false cutter' state place
    goes_bad cutter' bad =
        let on = piece_goes_bad size shows shown before piece stands pushed pushed_is short none_is slice_is does {taken = Some old} {taken' = Some new} {T = ℕ} cutter' bad (grown is) in
        (grown_by on.adding.0 ∙ ap (λ (l : List ℕ). old ++ l) (sym (added_of size shown before piece on.adds)), on.adding.1)

    pub goes : (good : Bool) (cutter' : Reading) → cutter'.rest ≡ (cut size pushed).rest → good ≡ not (is_invalid (size (cut size pushed).rest)) → Told size shows shown before piece old new good cutter' state place
    goes true cutter' rest good = goes_on cutter' rest
    goes false cutter' rest bad = goes_bad cutter' bad

  -- behind a rest that no message begins with nothing is shown
  module _ (kept : (front more : List ℕ) → IsKept (size front) (size (front ++ more))) (before piece : List ℕ) where
    module _ (bad : IsBad size (cut size before).rest) where
      still : IsBad size ((cut size before).rest ++ piece)
      still = subst (λ (s : Size). IsKept s (size ((cut size before).rest ++ piece))) bad (kept (cut size before).rest piece)

      cut_still : cut size (before ++ piece) ≡ behind (cut size before).messages (record { messages = []; rest = (cut size before).rest ++ piece })
      cut_still = cut-append size before piece ∙ ap (behind (cut size before).messages) (cut-bad size kept ((cut size before).rest ++ piece) still)

      none_more : lines_by size shown (before ++ piece) ≡ lines_by size shown before ++ []
      none_more = ap (λ (c : Cutting). lines_behind shown [] c.messages) cut_still ∙ ap (lines_behind shown []) (append-nil (cut size before).messages) ∙ sym (append-nil (lines_by size shown before))

      stays : (lines : List ℕ) (cutter : Reading) (state : S) (place : ℕ) → Told size shows shown before piece lines lines false cutter state place
      stays lines cutter state place = (
        sym (ap (λ (l : List ℕ). lines ++ l) (added_of size shown before piece (record { added = []; whole = none_more })) ∙ append-nil lines),
        subst (IsBad size) (sym (ap (λ (c : Cutting). c.rest) cut_still)) still,
      )

    pub stays_as : (good : Bool) → good ≡ false → (lines : List ℕ) (cutter : Reading) (state : S) (place : ℕ) → StandsFor size shows shown before good cutter state place → Told size shows shown before piece lines lines good cutter state place
    stays_as true is lines cutter state place stands = absurd (cc)
    stays_as false is lines cutter state place bad = stays bad lines cutter state place

  -- a direction whose next message may begin
  pub stands_good : (before : List ℕ) (good : Bool) → good ≡ true → {cutter : Reading} {state : S} {place : ℕ} → StandsFor size shows shown before good cutter state place → Stands size shows shown before cutter state place
  stands_good before true is stands = stands
  stands_good before false is stands = absurd (cc)

pub none_left : (list : List ℕ) → length list ≡ 0 → list ≡ []
none_left [] none = refl
none_left (byte ∷ list) none = absurd (omega (arith, none))

-- of a list, so many bytes were told, and these are left
pub record HasTold {S : Type 0} (size : List ℕ → Size) (shows : Showing → List (List ℕ) → S → Type 0) (shown : Showing) (before bytes rest old new : List ℕ) (good : Bool) (cutter : Reading) (state : S) (place : ℕ) : Type 0 where
  pub done : List ℕ
  pub whole : done ++ rest ≡ bytes
  pub told : Told size shows shown before done old new good cutter state place

module _ {S : Type 0} (size : List ℕ → Size) (shows : Showing → List (List ℕ) → S → Type 0) (shown : Showing) (before bytes old : List ℕ) where
  pub told_none : {good : Bool} {cutter : Reading} {state : S} {place : ℕ} → StandsFor size shows shown before good cutter state place → HasTold size shows shown before bytes bytes old old good cutter state place
  told_none {good = good} {cutter = cutter} {state = state} {place = place} stands = record {
    done = [];
    whole = refl;
    told = (
      sym (ap (λ (l : List ℕ). old ++ l) (added_none size shown before) ∙ append-nil old),
      subst (λ (l : List ℕ). StandsFor size shows shown l good cutter state place) (sym (append-nil before)) stands,
    );
  }

  module _ {rest lines : List ℕ} {good : Bool} {cutter : Reading} {state : S} {place : ℕ} (so_far : HasTold size shows shown before bytes rest old lines good cutter state place) where
    pub told_short : (piece others : List ℕ) → rest ≡ piece ++ others → length before + length bytes < 2 ^ 64 → length (before ++ so_far.done) + length piece < 2 ^ 64
    told_short piece others parts short = omega (arith, short, sym (ap length so_far.whole), length-append so_far.done rest, ap length parts, length-append piece others, length-append before so_far.done)

    pub told_more : (piece others new : List ℕ) {good' : Bool} {cutter' : Reading} {state' : S} {place' : ℕ} → rest ≡ piece ++ others → Told size shows shown (before ++ so_far.done) piece lines new good' cutter' state' place'
        → HasTold size shows shown before bytes others old new good' cutter' state' place'
    told_more piece others new {good' = good'} {cutter' = cutter'} {state' = state'} {place' = place'} parts more = record {
      done = so_far.done ++ piece;
      whole = append_assoc so_far.done piece others ∙ sym (ap (λ (l : List ℕ). so_far.done ++ l) parts) ∙ so_far.whole;
      told = (
        more.0
            ∙ ap (λ (l : List ℕ). l ++ added size shown (before ++ so_far.done) piece) so_far.told.0
            ∙ append_assoc old (added size shown before so_far.done) (added size shown (before ++ so_far.done) piece)
            ∙ ap (λ (l : List ℕ). old ++ l) (sym (added_more size shown before so_far.done piece)),
        subst (λ (l : List ℕ). StandsFor size shows shown l good' cutter' state' place') (append_assoc before so_far.done piece) more.1,
      );
    }

    pub told_all : rest ≡ [] → Told size shows shown before bytes old lines good cutter state place
    told_all none = subst (λ (l : List ℕ). Told size shows shown before l old lines good cutter state place) (sym (append-nil so_far.done) ∙ sym (ap (λ (l : List ℕ). so_far.done ++ l) none) ∙ so_far.whole) so_far.told
