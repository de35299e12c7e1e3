-- How the reads of a capture go on and end.
use Rattle.std.proofs.Common.{◌≡◌, ℕ, ◌+◌, ◌<◌, List, [], ◌∷◌, ◌++◌, length, map, All, Option, Ok, Err, append_assoc, length-append, refl, ap, sym, ◌∙◌, subst, rules, arith}
use Rattle.std.proofs.lemmas.List.{append-nil, map_push}
use Rattle.std.proofs.lemmas.List.Elements.{All-push}
use Rattle.std.specs.List.{concat}
use Rattle.kit_bytes.proofs.Lists.{concat-push}
use Rattle.kit_io.specs.Growth.{Grows}
use Rattle.kit_io.proofs.Growth.{Grows-none, Grows-append}
use Rattle.file_io.specs.Calls.{Call, Gave}
use Rattle.framing.specs.declared.framing.Size.{Size}
use Rattle.framing.specs.Framing.{IsPartial}
use Rattle.framing.specs.Cutting.{cut_from}
use Rattle.framing.specs.Reading.{Reading}
use Rattle.stream_lines.specs.Lines.{Showing, lines_by}
use Rattle.stream_lines.specs.Pieces.{Stands, ShowsPiece}
use Rattle.stream_lines.specs.Capture.{Ends, went_bad, write_failed, no_memory, ShowsReads, GrowBy, end_by, end_of}
use Rattle.stream_lines.specs.declared.end.DissectEnd.{DissectEnd}
use Rattle.stream_lines.specs.declared.end.DissectEnd.TheVariants.{Done, Broken, ReadFault, WriteFault, TurnsSpent, OutOfMemory}

-- so many pieces were read, which have so many bytes, and were shown
pub record HasShown {S : Type 0} (size : List ℕ → Size) (shows : Showing → List (List ℕ) → S → Type 0) (shown : Showing) (count came : ℕ) (calls_old : Option (List Call)) (taken_old : Option (List ℕ)) (cutter : Reading) (state : S) (place : ℕ) (calls_now : Option (List Call)) (taken_now : Option (List ℕ)) : Type 0 where
  pub pieces : List (List ℕ)
  pub each : All (λ piece. 0 < length piece) pieces
  pub counted : length pieces ≡ count
  pub came_is : came ≡ length (concat pieces)
  pub stands : Stands size shows shown (concat pieces) cutter state place
  pub given : Grows calls_old (map Gave pieces) calls_now
  pub taken : Grows taken_old (lines_by size shown (concat pieces)) taken_now

lines-none : (size : List ℕ → Size) (shown : Showing) → lines_by size shown [] ≡ []
unfolding cut_from
lines-none size shown = refl

-- a stream of which nothing has come
pub Stands-none : {S : Type 0} (size : List ℕ → Size) (shows : Showing → List (List ℕ) → S → Type 0) (shown : Showing) (cutter : Reading) (state : S) → cutter.rest ≡ [] → shows shown [] state → Stands size shows shown [] cutter state 0
unfolding cut_from
Stands-none size shows shown cutter state none kept = record { rest = none; kept = kept; placed = refl }

module _ {S : Type 0} (size : List ℕ → Size) (shows : Showing → List (List ℕ) → S → Type 0) (shown : Showing) where
  pub HasShown-none : (calls : Option (List Call)) (taken : Option (List ℕ)) (cutter : Reading) (state : S) (place : ℕ) → Stands size shows shown [] cutter state place
      → HasShown size shows shown 0 0 calls taken cutter state place calls taken
  HasShown-none calls taken cutter state place stands = record {
    pieces = [];
    each = search rules;
    counted = refl;
    came_is = refl;
    stands = stands;
    given = Grows-none calls;
    taken = rw (lines-none size shown) (Grows-none taken);
  }

  module _ {count came : ℕ} {calls_old calls_now : Option (List Call)} {taken_old taken_now : Option (List ℕ)} {cutter : Reading} {state : S} {place : ℕ} (so_far : HasShown size shows shown count came calls_old taken_old cutter state place calls_now taken_now) where
    abbrev bytes : List ℕ
    bytes = concat so_far.pieces

    -- one piece more
    pub HasShown-more : {T : Type 0} (piece : List ℕ) (done : T) {cutter' : Reading} {state' : S} {place' : ℕ} {calls_new : Option (List Call)} {taken_new : Option (List ℕ)} → 0 < length piece → Grows calls_now (Gave piece ∷ []) calls_new
        → ShowsPiece {T = T} size shows shown bytes piece taken_now (Ok done) cutter' state' place' taken_new → HasShown size shows shown (count + 1) (came + length piece) calls_old taken_old cutter' state' place' calls_new taken_new
    HasShown-more piece done {cutter' = cutter'} {state' = state'} {place' = place'} {taken_new = taken_new} some gives shows_piece =
        let more : concat (so_far.pieces ++ piece ∷ []) ≡ bytes ++ piece = concat-push so_far.pieces piece in
        let lines : lines_by size shown (concat (so_far.pieces ++ piece ∷ [])) ≡ lines_by size shown bytes ++ shows_piece.adds.added = ap (lines_by size shown) more ∙ shows_piece.adds.whole in
        record {
          pieces = so_far.pieces ++ piece ∷ [];
          each = All-push (λ (l : List ℕ). 0 < length l) so_far.pieces piece so_far.each some;
          counted = omega (arith, length-append so_far.pieces (piece ∷ []), so_far.counted);
          came_is = omega (arith, so_far.came_is, ap length more, length-append bytes piece);
          stands = subst (λ (l : List ℕ). Stands size shows shown l cutter' state' place') (sym more) shows_piece.adding.1;
          given = rw (map_push Gave so_far.pieces piece) (Grows-append so_far.given gives);
          taken = subst (λ (l : List ℕ). Grows taken_old l taken_new) (sym lines) (Grows-append so_far.taken shows_piece.adding.0);
        }

    -- it ends, and nothing more is taken
    pub HasShown-ends : (turns : ℕ) (end : DissectEnd) (last : List Call) {calls_new : Option (List Call)} → IsPartial size cutter.rest → Ends size (lines_by size shown) turns count bytes end last (lines_by size shown bytes)
        → Grows calls_now last calls_new → GrowBy (ShowsReads size (lines_by size shown) turns end) calls_old taken_old calls_new taken_now
    HasShown-ends turns end last part ends grows = record {
      calls = map Gave so_far.pieces ++ last;
      taken = lines_by size shown bytes;
      holds = record { pieces = so_far.pieces; last = last; each = so_far.each; partial = subst (IsPartial size) so_far.stands.rest part; ends = rw so_far.counted ends; are = refl };
      calls_grow = Grows-append so_far.given grows;
      taken_grow = so_far.taken;
    }

    -- what is known where nothing more comes
    pub end_is : (end : DissectEnd) → end ≡ end_by came place → end ≡ end_of size bytes
    end_is end is = is ∙ ap (λ (n : ℕ). end_by n place) so_far.came_is ∙ ap (λ (n : ℕ). end_by (length bytes) n) so_far.stands.placed

    ends_with : (turns : ℕ) (end : DissectEnd) (piece taken : List ℕ) {calls_new : Option (List Call)} {taken_new : Option (List ℕ)} → IsPartial size cutter.rest → Ends size (lines_by size shown) turns count bytes end (Gave piece ∷ []) (lines_by size shown bytes ++ taken)
        → Grows calls_now (Gave piece ∷ []) calls_new → Grows taken_now taken taken_new → GrowBy (ShowsReads size (lines_by size shown) turns end) calls_old taken_old calls_new taken_new
    ends_with turns end piece taken part ends gives takes = record {
      calls = map Gave so_far.pieces ++ Gave piece ∷ [];
      taken = lines_by size shown bytes ++ taken;
      holds = record { pieces = so_far.pieces; last = Gave piece ∷ []; each = so_far.each; partial = subst (IsPartial size) so_far.stands.rest part; ends = rw so_far.counted ends; are = refl };
      calls_grow = Grows-append so_far.given gives;
      taken_grow = Grows-append so_far.taken takes;
    }

    -- it ends with the last piece
    pub HasShown-last : {T : Type 0} (turns : ℕ) (end : DissectEnd) (piece : List ℕ) {cutter' : Reading} {state' : S} {place' : ℕ} {calls_new : Option (List Call)} {taken_new : Option (List ℕ)} → IsPartial size cutter.rest → count < turns → 0 < length piece
        → Grows calls_now (Gave piece ∷ []) calls_new → ShowsPiece {T = T} size shows shown bytes piece taken_now (Err end) cutter' state' place' taken_new → GrowBy (ShowsReads size (lines_by size shown) turns end) calls_old taken_old calls_new taken_new
    HasShown-last turns (Broken at) piece part less some gives it =
        ends_with turns (Broken at) piece it.adds.added part (went_bad piece less some refl it.adding.1 (ap Broken it.adding.2) (sym it.adds.whole)) gives it.adding.0
    HasShown-last turns WriteFault piece part less some gives it =
        let front = it.adding.1 in
        ends_with turns WriteFault piece front.front part
        (write_failed piece less some refl refl (record {
          rest = it.adding.0;
          whole = it.adds.whole ∙ ap (λ (l : List ℕ). lines_by size shown bytes ++ l) front.whole ∙ sym (append_assoc (lines_by size shown bytes) front.front it.adding.0);
          more = front.front;
          holds = refl;
        }))
        gives front.grows
    HasShown-last turns OutOfMemory piece part less some gives it =
        ends_with turns OutOfMemory piece [] part
        (no_memory piece less some refl refl (record {
          rest = it.adds.added;
          whole = it.adds.whole ∙ ap (λ (l : List ℕ). l ++ it.adds.added) (sym (append-nil (lines_by size shown bytes)));
          more = [];
          holds = refl;
        }))
        gives it.adding
    HasShown-last turns Done piece part less some gives it = absurd it.adding
    HasShown-last turns ReadFault piece part less some gives it = absurd it.adding
    HasShown-last turns TurnsSpent piece part less some gives it = absurd it.adding
