-- A log's notes stay what they are while bytes are added behind theirs.
use Rattle.std.proofs.Common.{◌≡◌, ℕ, ◌+◌, ◌-◌, ◌≤◌, Bool, true, false, List, [], ◌∷◌, ◌++◌, All, length, map, drop, take, slice_range, Some, None, refl, ◌∙◌, ap, arith, length-drop, if◌then◌else◌}
use Rattle.std.proofs.Math.Seq.{drop-append_seam}
use Rattle.std.proofs.lemmas.List.{map_push, take-append-le, drop-append-le}
use Rattle.std.proofs.lemmas.Slice.{between_to_end}
use Rattle.std.specs.List.{AllByRecursion}
use Rattle.std.proofs.lemmas.List.Elements.{recursion_from_All}
use Rattle.kit_io.specs.Record.{Noted, Notes}
use Rattle.kit_io.specs.Log.{noted, StandsWithin}
use Rattle.kit_io.specs.declared.log.Note.{Note}

slice_range-append : (bytes more : List ℕ) (start end : ℕ) → start ≤ end → end ≤ length bytes → slice_range (bytes ++ more) start end ≡ slice_range bytes start end
slice_range-append bytes more start end ordered within =
    ap (λ (l : List ℕ). take (end - start) l) (drop-append-le start bytes more (omega arith))
    ∙ take-append-le (end - start) (drop start bytes) more (omega (arith, length-drop start bytes))

module _ {K : Type 0} where
  noted-append : (bytes more : List ℕ) (note : Note K) → StandsWithin (length bytes) note → noted (bytes ++ more) note ≡ noted bytes note
  noted-append bytes more note within = ap (λ (l : List ℕ). record { kind = note.kind; bytes = l }) (slice_range-append bytes more note.bytes.start note.bytes.end within.ordered within.within)

  map-noted-append : (bytes more : List ℕ) (notes : List (Note K)) → AllByRecursion (StandsWithin (length bytes)) notes → map (noted (bytes ++ more)) notes ≡ map (noted bytes) notes
  map-noted-append bytes more [] all = refl
  map-noted-append bytes more (note ∷ notes) all = let first = noted-append bytes more note all.0 in let others = map-noted-append bytes more notes all.1 in cc

  noted-last : (bytes more : List ℕ) (kind : K) (start end : ℕ) → start ≡ length bytes → end ≡ length (bytes ++ more)
      → noted (bytes ++ more) (record { kind = kind; bytes = record { start = start; end = end } }) ≡ record { kind = kind; bytes = more }
  noted-last bytes more kind start end starts ends =
      ap (λ (l : List ℕ). record { kind = kind; bytes = l })
      (between_to_end (bytes ++ more) start end (omega (arith, ends)) ∙ ap (λ i. drop i (bytes ++ more)) starts ∙ drop-append_seam bytes more)

  -- one note more
  pub map-noted-push : (bytes more : List ℕ) (notes : List (Note K)) (kind : K) (start end : ℕ) → All (StandsWithin (length bytes)) notes → start ≡ length bytes → end ≡ length (bytes ++ more)
      → map (noted (bytes ++ more)) (notes ++ record { kind = kind; bytes = record { start = start; end = end } } ∷ []) ≡ map (noted bytes) notes ++ record { kind = kind; bytes = more } ∷ []
  map-noted-push bytes more notes kind start end all starts ends =
      let last : Note K = record { kind = kind; bytes = record { start = start; end = end } } in
      map_push (noted (bytes ++ more)) notes last
      ∙ ap (λ (l : List (Noted K)). l ++ noted (bytes ++ more) last ∷ []) (map-noted-append bytes more notes (recursion_from_All (StandsWithin (length bytes)) notes all))
      ∙ ap (λ (n : Noted K). map (noted bytes) notes ++ n ∷ []) (noted-last bytes more kind start end starts ends)

  -- a note that fits is told where the others are
  pub Notes-pushed : (tells : Bool) (bytes more : List ℕ) (notes : List (Note K)) (kind : K) (start end room bytes_room room' bytes_room' : ℕ)
      → All (StandsWithin (length bytes)) notes → start ≡ length bytes → end ≡ length (bytes ++ more) → room ≤ room' + 1 → bytes_room ≤ bytes_room' + length more
      → Notes (record { recorded = (if tells then Some (map (noted bytes) notes) else None); room = room; bytes_room = bytes_room })
      (record { kind = kind; bytes = more })
      (record {
        recorded = (if tells then Some (map (noted (bytes ++ more)) (notes ++ record { kind = kind; bytes = record { start = start; end = end } } ∷ [])) else None);
        room = room';
        bytes_room = bytes_room';
      })
  Notes-pushed true bytes more notes kind start end room bytes_room room' bytes_room' all starts ends fewer fewer_bytes =
      let now_is = map-noted-push bytes more notes kind start end all starts ends in
      record {
        grows = record { recorded = λ recorded is. (map (noted bytes) notes, refl, (cc)) };
        fits = λ before is some enough. (cc);
        room = fewer;
        bytes_room = fewer_bytes;
      }
  Notes-pushed false bytes more notes kind start end room bytes_room room' bytes_room' all starts ends fewer fewer_bytes = record {
    grows = record { recorded = λ recorded is. absurd (cc) };
    fits = λ before is some enough. absurd (cc);
    room = fewer;
    bytes_room = fewer_bytes;
  }
