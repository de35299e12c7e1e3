-- How the reads of a file go on and end.
use Rattle.std.proofs.Common.{◌≡◌, ℕ, ◌<◌, ◌≤◌, ◌+◌, List, [], ◌∷◌, ◌++◌, length, take, map, All, Option, Result, refl, ◌∙◌, ap, rules, arith}
use Rattle.std.proofs.lemmas.Grind.{common_steps}
use Rattle.std.proofs.lemmas.List.{map_push}
use Rattle.std.proofs.lemmas.List.Elements.{All-push}
use Rattle.std.specs.List.{concat}
use Rattle.kit_bytes.proofs.Lists.{concat-push}
use Rattle.kit_io.specs.Growth.{Grows}
use Rattle.kit_io.proofs.Growth.{Grows-none, Grows-append}
use Rattle.file_io.specs.declared.reading.FileFault.{FileFault}
use Rattle.file_io.specs.Calls.{Call, Gave}
use Rattle.file_io.specs.Reading.{longest_file, Decides, GrowsByReads}

-- pieces were read that make these bytes
pub record HasRead (before now : Option (List Call)) (bytes : List ℕ) : Type 0 where
  pub pieces : List (List ℕ)
  pub each : All (λ piece. 0 < length piece) pieces
  pub whole : concat pieces ≡ bytes
  pub grows : Grows before (map Gave pieces) now

pub HasRead-none : (before : Option (List Call)) → HasRead before before []
HasRead-none before = record { pieces = []; each = search rules; whole = refl; grows = Grows-none before }

module _ {before now : Option (List Call)} {bytes : List ℕ} (so_far : HasRead before now bytes) where
  -- one piece more
  pub HasRead-more : (piece : List ℕ) {after : Option (List Call)} → 0 < length piece → Grows now (Gave piece ∷ []) after → HasRead before after (bytes ++ piece)
  HasRead-more piece some grows = record {
    pieces = so_far.pieces ++ piece ∷ [];
    each = All-push (λ (l : List ℕ). 0 < length l) so_far.pieces piece so_far.each some;
    whole = concat-push so_far.pieces piece ∙ ap (λ (l : List ℕ). l ++ piece) so_far.whole;
    grows = rw (map_push Gave so_far.pieces piece) (Grows-append so_far.grows grows);
  }

  -- the read that decides
  pub GrowsByReads-last : (last : Call) (result : Result (List ℕ) FileFault) {after : Option (List Call)} → length bytes ≤ longest_file → Decides bytes last result → Grows now (last ∷ []) after → GrowsByReads before result after
  GrowsByReads-last last result short decided grows = record {
    calls = map Gave so_far.pieces ++ last ∷ [];
    reads = record { pieces = so_far.pieces; last = last; are = refl; each = so_far.each; short = rw so_far.whole short; decided = rw so_far.whole decided };
    grows = Grows-append so_far.grows grows;
  }

-- how many bytes there are with those of one read more
pub length-read : (bytes buffer : List ℕ) (count : ℕ) → count ≤ length buffer → length (bytes ++ take count buffer) ≡ length bytes + count
length-read bytes buffer count within = grind (arith, common_steps)
