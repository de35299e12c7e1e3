-- How the reads of a node go on and end.
use Rattle.std.proofs.Common.{◌≡◌, ℕ, ◌+◌, ◌<◌, ◌≤◌, take, List, [], ◌∷◌, ◌++◌, length, map, All, Option, refl, rules, arith, length-append}
use Rattle.std.proofs.lemmas.List.{map_push, length-take-le}
use Rattle.std.proofs.lemmas.List.Elements.{All-push}
use Rattle.kit_io.specs.Growth.{Grows}
use Rattle.kit_io.proofs.Growth.{Grows-none, Grows-append}
use Rattle.link_io.specs.Calls as link
use Rattle.file_io.specs.Calls as file
use Rattle.pump.specs.declared.ending.PumpEnd.{PumpEnd}
use Rattle.pump.specs.Beginning.{GrowBy}
use Rattle.pump.specs.Reading.{all_sent, EndsReading, SendsReads}

-- some bytes at the front of a buffer
pub some_taken : (buffer : List ℕ) (count : ℕ) → 0 < count → count ≤ length buffer → 0 < length (take count buffer)
some_taken buffer count some within = omega (arith, length-take-le count buffer within)

-- so many pieces were read and sent
pub record HasSent (count : ℕ) (link_old : Option (List link.Call)) (files_old : Option (List file.Call)) (link_now : Option (List link.Call)) (files_now : Option (List file.Call)) : Type 0 where
  pub pieces : List (List ℕ)
  pub each : All (λ piece. 0 < length piece) pieces
  pub counted : length pieces ≡ count
  pub sent : Grows link_old (map all_sent pieces) link_now
  pub given : Grows files_old (map file.Gave pieces) files_now

pub HasSent-none : (link_old : Option (List link.Call)) (files_old : Option (List file.Call)) → HasSent 0 link_old files_old link_old files_old
HasSent-none link_old files_old = record { pieces = []; each = search rules; counted = refl; sent = Grows-none link_old; given = Grows-none files_old }

module _ {count : ℕ} {link_old link_now : Option (List link.Call)} {files_old files_now : Option (List file.Call)} (so_far : HasSent count link_old files_old link_now files_now) where
  -- one piece more
  pub HasSent-more : (piece : List ℕ) {link_new : Option (List link.Call)} {files_new : Option (List file.Call)} → 0 < length piece
      → Grows files_now (file.Gave piece ∷ []) files_new → Grows link_now (all_sent piece ∷ []) link_new → HasSent (count + 1) link_old files_old link_new files_new
  HasSent-more piece some gives sends = record {
    pieces = so_far.pieces ++ piece ∷ [];
    each = All-push (λ (l : List ℕ). 0 < length l) so_far.pieces piece so_far.each some;
    counted = omega (arith, length-append so_far.pieces (piece ∷ []), so_far.counted);
    sent = rw (map_push all_sent so_far.pieces piece) (Grows-append so_far.sent sends);
    given = rw (map_push file.Gave so_far.pieces piece) (Grows-append so_far.given gives);
  }

  -- how it ends
  pub HasSent-ends : (turns : ℕ) (end : PumpEnd) (sends : List link.Call) (reads : List file.Call) {link_new : Option (List link.Call)} {files_new : Option (List file.Call)} → EndsReading turns count end sends reads
      → Grows files_now reads files_new → Grows link_now sends link_new → GrowBy (SendsReads turns end) link_old files_old link_new files_new
  HasSent-ends turns end sends reads ends gives sent = record {
    on_link = map all_sent so_far.pieces ++ sends;
    on_files = map file.Gave so_far.pieces ++ reads;
    are = record { pieces = so_far.pieces; sends = sends; reads = reads; each = so_far.each; ends = rw so_far.counted ends; sent = refl; given = refl };
    link_grows = Grows-append so_far.sent sent;
    files_grow = Grows-append so_far.given gives;
  }
