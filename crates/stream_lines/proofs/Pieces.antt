-- What a stream stands for goes on from piece to piece.
use Rattle.std.proofs.Common.{◌≡◌, ℕ, ◌+◌, ◌^◌, ◌<◌, false, not, List, [], ◌++◌, length, Option, Ok, Err, length-append, refl, ap, sym, ◌∙◌, subst, arith}
use Rattle.std.specs.List.{concat}
use Rattle.framing.specs.declared.framing.Size.{Size}
use Rattle.framing.specs.declared.framing.Size.TheVariants.{Unknown, Known, Invalid}
use Rattle.framing.specs.Framing.{IsShort, IsBad, is_invalid}
use Rattle.framing.specs.Cutting.{Cutting, cut, behind}
use Rattle.framing.specs.Reading.{Reading}
use Rattle.kit_io.specs.Growth.{Grows, GrowsByFront}
use Rattle.kit_io.proofs.Growth.{Grows-none}
use Rattle.framing.proofs.Cuts.{cut-append, cut-whole}
use Rattle.stream_lines.specs.Lines.{Showing, lines_behind, lines_by, place_behind, rest_place}
use Rattle.stream_lines.specs.Pieces.{Stands, ShowsAll, Adds, ShowsPiece}
use Rattle.stream_lines.specs.declared.end.DissectEnd.TheVariants.{Broken, WriteFault, OutOfMemory}
use Rattle.stream_lines.proofs.Showing.{lines-append}

pub partial_is : (size : Size) (count : ℕ) → IsShort size count → is_invalid size ≡ false
partial_is Unknown count short = refl
partial_is (Known length) count short = refl
partial_is Invalid count short = absurd short

pub bad_is : (size : Size) → false ≡ not (is_invalid size) → size ≡ Invalid
bad_is Unknown is = absurd (cc)
bad_is (Known length) is = absurd (cc)
bad_is Invalid is = refl

module _ (size : List ℕ → Size) (bytes piece rest : List ℕ) (rest_is : rest ≡ (cut size bytes).rest) where
  more_is : cut size (bytes ++ piece) ≡ behind (cut size bytes).messages (cut size (rest ++ piece))
  more_is = cut-append size bytes piece ∙ ap (λ (l : List ℕ). behind (cut size bytes).messages (cut size (l ++ piece))) (sym rest_is)

  pub rest_more : (cut size (bytes ++ piece)).rest ≡ (cut size (rest ++ piece)).rest
  rest_more = ap (λ (c : Cutting). c.rest) more_is

  messages_more : (cut size (bytes ++ piece)).messages ≡ (cut size bytes).messages ++ (cut size (rest ++ piece)).messages
  messages_more = ap (λ (c : Cutting). c.messages) more_is

  -- the place of what is left, and how long that is with the piece
  pub room_is : rest_place size bytes + length (rest ++ piece) ≡ length bytes + length piece
  room_is =
      omega (arith, length-append rest piece, ap length rest_is, sym (ap length (cut-whole size bytes)), length-append (concat (cut size bytes).messages) (cut size bytes).rest)

  module _ (shown : Showing) where
    pub adds_more : Adds (lines_by size shown) bytes piece
    adds_more = record {
      added = lines_behind shown (cut size bytes).messages (cut size (rest ++ piece)).messages;
      whole = ap (lines_behind shown []) messages_more ∙ lines-append shown [] (cut size bytes).messages (cut size (rest ++ piece)).messages;
    }

    module _ {S : Type 0} (shows : Showing → List (List ℕ) → S → Type 0) (state : S) (place : ℕ) (old new : List ℕ) (all : ShowsAll shows shown (cut size bytes).messages (cut size (rest ++ piece)).messages state place old new) where
      pub place_more : place ≡ rest_place size (bytes ++ piece)
      place_more = all.placed ∙ sym (ap place_behind messages_more)

      pub stands_more : (cutter : Reading) → cutter.rest ≡ (cut size (rest ++ piece)).rest → Stands size shows shown (bytes ++ piece) cutter state place
      stands_more cutter is =
          let Kept : List (List ℕ) → Type 0 = λ l. shows shown l state in
          record { rest = is ∙ sym rest_more; kept = subst Kept (sym messages_more) all.kept; placed = place_more }

-- a stream that stands for these bytes, with a piece behind what it has left
module _ {S : Type 0} (size : List ℕ → Size) (shows : Showing → List (List ℕ) → S → Type 0) (shown : Showing) (bytes piece : List ℕ) {cutter : Reading} {first : S} {at : ℕ} (stands : Stands size shows shown bytes cutter first at) where
  abbrev adds : Adds (lines_by size shown) bytes piece
  adds = adds_more size bytes piece cutter.rest stands.rest shown

  -- nothing more is taken
  pub piece_lacks : {T : Type 0} (taken : Option (List ℕ)) (cutter' : Reading) (state : S) (place : ℕ) → ShowsPiece {T = T} size shows shown bytes piece taken (Err OutOfMemory) cutter' state place taken
  piece_lacks {T = T} taken cutter' state place = record { adds = adds; adding = Grows-none taken }

  module _ (pushed : List ℕ) (pushed_is : pushed ≡ cutter.rest ++ piece) (short : length bytes + length piece < 2 ^ 64) {state : S} {place : ℕ} {old lines slice : List ℕ} (none : old ≡ []) (slice_is : slice ≡ lines)
      (does : (shown : Showing) (before : List (List ℕ)) → shows shown before first → at ≡ place_behind before → place_behind before + length pushed < 2 ^ 64 → ShowsAll shows shown before (cut size pushed).messages state place old lines) where
    all_shown : ShowsAll shows shown (cut size bytes).messages (cut size (cutter.rest ++ piece)).messages state place old lines
    all_shown =
        let bound : place_behind (cut size bytes).messages + length pushed < 2 ^ 64 = omega (arith, short, room_is size bytes piece cutter.rest stands.rest, ap length pushed_is) in
        subst (λ (l : List ℕ). ShowsAll shows shown (cut size bytes).messages (cut size l).messages state place old lines) pushed_is (does shown (cut size bytes).messages stands.kept stands.placed bound)

    slice_added : slice ≡ adds.added
    unfolding adds_more
    slice_added = slice_is ∙ all_shown.said ∙ ap (λ (l : List ℕ). l ++ adds.added) none

    module _ {taken taken' : Option (List ℕ)} where
      pub piece_fails : {T : Type 0} (cutter' : Reading) → GrowsByFront taken slice taken' → ShowsPiece {T = T} size shows shown bytes piece taken (Err WriteFault) cutter' state place taken'
      piece_fails cutter' grows = record { adds = adds; adding = subst (λ (l : List ℕ). GrowsByFront taken l taken') slice_added grows }

      pub piece_goes_on : {T : Type 0} (done : T) (cutter' : Reading) → cutter'.rest ≡ (cut size pushed).rest → Grows taken slice taken' → ShowsPiece size shows shown bytes piece taken (Ok done) cutter' state place taken'
      piece_goes_on done cutter' rest grows = record {
        adds = adds;
        adding = (
          subst (λ (l : List ℕ). Grows taken l taken') slice_added grows,
          stands_more size bytes piece cutter.rest stands.rest shown shows state place old lines all_shown cutter' (rest ∙ ap (λ (l : List ℕ). (cut size l).rest) pushed_is),
        );
      }

      pub piece_goes_bad : {T : Type 0} (cutter' : Reading) → false ≡ not (is_invalid (size (cut size pushed).rest)) → Grows taken slice taken' → ShowsPiece {T = T} size shows shown bytes piece taken (Err (Broken place)) cutter' state place taken'
      piece_goes_bad cutter' bad grows =
          let rest : (cut size pushed).rest ≡ (cut size (bytes ++ piece)).rest = ap (λ (l : List ℕ). (cut size l).rest) pushed_is ∙ sym (rest_more size bytes piece cutter.rest stands.rest) in
          record {
            adds = adds;
            adding = (
              subst (λ (l : List ℕ). Grows taken l taken') slice_added grows,
              subst (IsBad size) rest (bad_is (size (cut size pushed).rest) bad),
              place_more size bytes piece cutter.rest stands.rest shown shows state place old lines all_shown,
            );
          }
