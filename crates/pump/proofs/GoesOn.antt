-- The bytes that came, and those that went on.
use Rattle.std.proofs.Common.{◌≡◌, ℕ, List, [], ◌∷◌, ◌++◌, length, map, filter_map, Result, Err, refl, sym, ◌∙◌, ap, arith, append_assoc, length-append, subst, codes}
use Rattle.std.proofs.lemmas.List.{append-nil, same_from_push}
use Rattle.std.proofs.lemmas.List.Elements.{filter_map-append, recursion_from_All}
use Rattle.std.proofs.lemmas.List.Folds.{concat-append}
use Rattle.std.specs.List.{concat, AllByRecursion}
use Rattle.kit_bytes.proofs.Lists.{concat-push}
use Rattle.link_io.specs.Target.{Address}
use Rattle.link_io.specs.Calls as link
use Rattle.file_io.specs.Calls as file
use Rattle.file_io.specs.declared.files.Side.{Side}
use Rattle.pump.specs.declared.ending.PumpEnd.{PumpEnd}
use Rattle.pump.specs.declared.ending.PumpEnd.TheVariants.{Ended, LinkFault, ReadFault}
use Rattle.pump.specs.Beginning.{Begins, no_bridge, no_node, no_letter, begun, not_begun, went_on}
use Rattle.pump.specs.Reading.{all_sent, EndsReading, SendsReads}
use Rattle.pump.specs.Reading as reading
use Rattle.pump.specs.Writing.{all_parts, AllWritten, FrontWritten, IsPassed, bytes_of, taken, EndsWriting, WritesTakes}
use Rattle.pump.specs.Writing as writing
use Rattle.pump.specs.Laws.{piece_read, piece_taken, sent, written, GoesOn, WhatWasReadIsSent, WhatWasTakenIsWritten}
use Rattle.pump.proofs.Ends.{concat-writes_behind, concat-writes_of}

-- ---- how much went on ----

module _ (first : List ℕ) (end : PumpEnd) where
  all_of : (came : List (List ℕ)) → GoesOn first came end (first ++ concat came)
  all_of came = record {
    front = ([], sym (append-nil (first ++ concat came)));
    all_but_last = λ earlier last are.
        (last, ap (λ (l : List (List ℕ)). first ++ concat l) are ∙ ap (λ (l : List ℕ). first ++ l) (concat-push earlier last) ∙ sym (append_assoc first (concat earlier) last));
    whole = λ ended. refl;
  }

  -- of the last piece a front
  all_but : (came : List (List ℕ)) (piece front rest : List ℕ) → piece ≡ front ++ rest → (end ≡ Ended → ⊥) → GoesOn first (came ++ piece ∷ []) end ((first ++ concat came) ++ front)
  all_but came piece front rest whole goes = record {
    front = (
      rest,
      ap (λ (l : List ℕ). first ++ l) (concat-push came piece)
          ∙ sym (append_assoc first (concat came) piece)
          ∙ ap (λ (l : List ℕ). (first ++ concat came) ++ l) whole
          ∙ sym (append_assoc (first ++ concat came) front rest),
    );
    all_but_last = λ earlier last are. (front, ap (λ (l : List (List ℕ)). (first ++ concat l) ++ front) (same_from_push came earlier piece last are).0);
    whole = λ ended. absurd (goes ended);
  }

  none_came : (front rest : List ℕ) → first ≡ front ++ rest → (end ≡ Ended → ⊥) → GoesOn first [] end front
  none_came front rest whole goes = record {
    front = (rest, append-nil first ∙ whole);
    all_but_last = λ earlier last are. absurd (omega (arith, length-append earlier (last ∷ []), ap length are));
    whole = λ ended. absurd (goes ended);
  }

-- ---- a pump that could not begin ----

not_ended : (result : Result (Unit {0}) PumpEnd) (end fault : PumpEnd) → result ≡ Err end → result ≡ Err fault → (fault ≡ Ended → ⊥) → end ≡ Ended → ⊥
not_ended result end fault gives is other ended = other (cc)

-- it sent a front of the letter
letter_only : {bridge : Address} {node : List ℕ} {side : Side} (letter : List ℕ) (end : PumpEnd) {on_link : List link.Call} {on_files : List file.Call} → Begins bridge node side letter (Err end) on_link on_files → GoesOn letter [] end (sent on_link)
letter_only letter end (no_bridge is l f) = rw l (none_came letter end [] letter refl (not_ended (Err end) end LinkFault refl is (λ e. (cc))))
letter_only letter end (no_node is l f) = rw l (none_came letter end [] letter refl (not_ended (Err end) end ReadFault refl is (λ e. (cc))))
letter_only letter end (no_letter front rest whole is l f) = rw (l, append-nil front) (none_came letter end front rest whole (not_ended (Err end) end LinkFault refl is (λ e. (cc))))
letter_only letter end (begun is l f) = absurd (cc)

-- nothing was read, written or taken
nothing_read : {bridge : Address} {node : List ℕ} {side : Side} {letter : List ℕ} {end : PumpEnd} {on_link : List link.Call} {on_files : List file.Call} → Begins bridge node side letter (Err end) on_link on_files → filter_map piece_read on_files ≡ []
nothing_read (no_bridge is l f) = ap (filter_map piece_read) f
nothing_read (no_node is l f) = ap (filter_map piece_read) f
nothing_read (no_letter front rest whole is l f) = ap (filter_map piece_read) f
nothing_read (begun is l f) = absurd (cc)

-- ---- a pump that reads ----

sent_all : (pieces : List (List ℕ)) (more : List link.Call) → sent (map all_sent pieces ++ more) ≡ concat pieces ++ sent more
sent_all [] more = refl
sent_all (piece ∷ pieces) more = ap (λ (l : List ℕ). piece ++ l) (sent_all pieces more) ∙ sym (append_assoc piece (concat pieces) (sent more))

read_all : (pieces : List (List ℕ)) (more : List file.Call) → filter_map piece_read (map file.Gave pieces ++ more) ≡ pieces ++ filter_map piece_read more
read_all [] more = refl
read_all (piece ∷ pieces) more = ap (λ (l : List (List ℕ)). piece ∷ l) (read_all pieces more)

sends_reads : (letter : List ℕ) (end : PumpEnd) (turns count : ℕ) (pieces : List (List ℕ)) {sends : List link.Call} {reads : List file.Call} → EndsReading turns count end sends reads
    → GoesOn letter (pieces ++ filter_map piece_read reads) end ((letter ++ concat pieces) ++ sent sends)
sends_reads letter end turns count pieces (reading.found_end is few s r) =
    rw (s, r) (subst (λ (l : List ℕ). GoesOn letter (pieces ++ [] ∷ []) end l) (ap (λ (l : List ℕ). letter ++ l) (concat-push pieces []) ∙ sym (append_assoc letter (concat pieces) [])) (all_of letter end (pieces ++ [] ∷ [])))
sends_reads letter end turns count pieces (reading.read_failed is few s r) = rw (s, r, append-nil pieces, append-nil (letter ++ concat pieces)) (all_of letter end pieces)
sends_reads letter end turns count pieces (reading.send_failed piece front rest is few some whole s r) = rw (s, r, append-nil front) (all_but letter end pieces piece front rest whole (λ ended. (cc)))
sends_reads letter end turns count pieces (reading.turns_spent is all s r) = rw (s, r, append-nil pieces, append-nil (letter ++ concat pieces)) (all_of letter end pieces)

pub read_is_sent : WhatWasReadIsSent
read_is_sent bridge node turns end on_link on_files (not_begun begins) = rw (nothing_read begins) (letter_only (codes "r") end begins)
read_is_sent bridge node turns end on_link on_files (went_on first_link more_link first_files more_files (begun is bl bf) goes l f) =
    let pieces = goes.pieces in
    let on_link_is : sent on_link ≡ (codes "r" ++ concat pieces) ++ sent goes.sends =
    ap sent (l ∙ ap (λ (x : List link.Call). x ++ more_link) bl)
    ∙ ap (λ (x : List link.Call). codes "r" ++ sent x) goes.sent
    ∙ ap (λ (x : List ℕ). codes "r" ++ x) (sent_all pieces goes.sends)
    ∙ sym (append_assoc (codes "r") (concat pieces) (sent goes.sends)) in
    let on_files_are : filter_map piece_read on_files ≡ pieces ++ filter_map piece_read goes.reads =
    ap (filter_map piece_read) (f ∙ ap (λ (x : List file.Call). x ++ more_files) bf)
    ∙ ap (filter_map piece_read) goes.given
    ∙ read_all pieces goes.reads in
    rw (on_link_is, on_files_are) (sends_reads (codes "r") end turns (length pieces) pieces goes.ends)
read_is_sent bridge node turns end on_link on_files (went_on first_link more_link first_files more_files (no_bridge is bl bf) goes l f) = absurd (cc)
read_is_sent bridge node turns end on_link on_files (went_on first_link more_link first_files more_files (no_node is bl bf) goes l f) = absurd (cc)
read_is_sent bridge node turns end on_link on_files (went_on first_link more_link first_files more_files (no_letter front rest whole is bl bf) goes l f) = absurd (cc)

-- ---- a pump that writes ----

nothing_taken : {bridge : Address} {node : List ℕ} {side : Side} {letter : List ℕ} {end : PumpEnd} {on_link : List link.Call} {on_files : List file.Call} → Begins bridge node side letter (Err end) on_link on_files → filter_map piece_taken on_link ≡ []
nothing_taken (no_bridge is l f) = ap (filter_map piece_taken) l
nothing_taken (no_node is l f) = ap (filter_map piece_taken) l
nothing_taken (no_letter front rest whole is l f) = ap (filter_map piece_taken) l
nothing_taken (begun is l f) = absurd (cc)

nothing_written : {bridge : Address} {node : List ℕ} {side : Side} {letter : List ℕ} (end : PumpEnd) {on_link : List link.Call} {on_files : List file.Call} → Begins bridge node side letter (Err end) on_link on_files → (written on_files ≡ []) × (end ≡ Ended → ⊥)
nothing_written end (no_bridge is l f) = (ap written f, not_ended (Err end) end LinkFault refl is (λ e. (cc)))
nothing_written end (no_node is l f) = (ap written f, not_ended (Err end) end ReadFault refl is (λ e. (cc)))
nothing_written end (no_letter front rest whole is l f) = (ap written f, not_ended (Err end) end LinkFault refl is (λ e. (cc)))
nothing_written end (begun is l f) = absurd (cc)

written_all : (parts : List (List ℕ)) (more : List file.Call) → written (map file.Took parts ++ more) ≡ concat parts ++ written more
written_all [] more = refl
written_all (part ∷ parts) more = ap (λ (l : List ℕ). part ++ l) (written_all parts more) ∙ sym (append_assoc part (concat parts) (written more))

concat_taken : (takes : List link.Call) → AllByRecursion IsPassed takes → concat (filter_map piece_taken takes) ≡ taken takes
concat_taken [] each = refl
concat_taken (link.Took bytes ∷ takes) each = ap (λ (l : List ℕ). bytes ++ l) (concat_taken takes each.1)
concat_taken (link.WasQuiet ∷ takes) each = concat_taken takes each.1
concat_taken (link.Opened address ok ∷ takes) each = absurd each.0
concat_taken (link.Paired ok ∷ takes) each = absurd each.0
concat_taken (link.Sent bytes ok ∷ takes) each = absurd each.0
concat_taken (link.WasEnd ∷ takes) each = absurd each.0
concat_taken (link.TakeFailed ∷ takes) each = absurd each.0
concat_taken (link.Closed ∷ takes) each = absurd each.0

none_sent : (takes more : List link.Call) → AllByRecursion IsPassed takes → sent more ≡ [] → sent (takes ++ more) ≡ []
none_sent [] more each none = none
none_sent (link.Took bytes ∷ takes) more each none = none_sent takes more each.1 none
none_sent (link.WasQuiet ∷ takes) more each none = none_sent takes more each.1 none
none_sent (link.Opened address ok ∷ takes) more each none = absurd each.0
none_sent (link.Paired ok ∷ takes) more each none = absurd each.0
none_sent (link.Sent bytes ok ∷ takes) more each none = absurd each.0
none_sent (link.WasEnd ∷ takes) more each none = absurd each.0
none_sent (link.TakeFailed ∷ takes) more each none = absurd each.0
none_sent (link.Closed ∷ takes) more each none = absurd each.0

last_sends_none : {turns count : ℕ} {before : List ℕ} {end : PumpEnd} {takes : List link.Call} {wrote : List file.Call} → EndsWriting turns count before end takes wrote → sent takes ≡ []
last_sends_none (writing.found_end is few t w) = ap sent t
last_sends_none (writing.take_failed is few t w) = ap sent t
last_sends_none (writing.write_failed piece is few some t front) = ap sent t
last_sends_none (writing.turns_spent is all t w) = ap sent t

-- the parts of writes, and the writes
concat-parts : (writes : List (List (List ℕ))) → concat (all_parts writes) ≡ concat (map concat writes)
concat-parts [] = refl
concat-parts (write ∷ writes) = concat-append write (all_parts writes) ∙ ap (λ (l : List ℕ). concat write ++ l) (concat-parts writes)

written-all : {writes : List (List ℕ)} {calls : List file.Call} (more : List file.Call) → AllWritten writes calls → written (calls ++ more) ≡ concat writes ++ written more
written-all more all =
    ap (λ (l : List file.Call). written (l ++ more)) all.are
    ∙ written_all (all_parts all.parts) more
    ∙ ap (λ (l : List ℕ). l ++ written more) (concat-parts all.parts ∙ ap concat all.whole)

-- a front of the writes is a front of their bytes
written-front : {writes : List (List ℕ)} {calls : List file.Call} → FrontWritten writes calls → (rest : List ℕ) × (concat writes ≡ written calls ++ rest)
written-front {writes = writes} {calls = calls} it =
    let whole : List ℕ = concat (map concat it.parts) in
    let wrote : written calls ≡ whole ++ concat it.front =
    ap written it.are
    ∙ written_all (all_parts it.parts ++ it.front) (file.WriteFailed ∷ [])
    ∙ append-nil (concat (all_parts it.parts ++ it.front))
    ∙ concat-append (all_parts it.parts) it.front
    ∙ ap (λ (l : List ℕ). l ++ concat it.front) (concat-parts it.parts) in (
      it.rest ++ concat it.later,
      ap concat (sym it.whole)
          ∙ concat-append (map concat it.parts) ((concat it.front ++ it.rest) ∷ it.later)
          ∙ ap (λ (l : List ℕ). whole ++ l) (append_assoc (concat it.front) it.rest (concat it.later))
          ∙ sym (append_assoc whole (concat it.front) (it.rest ++ concat it.later))
          ∙ ap (λ (l : List ℕ). l ++ (it.rest ++ concat it.later)) (sym wrote),
    )

writes_takes : (end : PumpEnd) (turns count : ℕ) (before : List ℕ) (came : List (List ℕ)) {takes : List link.Call} {wrote : List file.Call} → EndsWriting turns count before end takes wrote
    → GoesOn [] (came ++ filter_map piece_taken takes) end (concat came ++ written wrote)
writes_takes end turns count before came (writing.found_end is few t w) = rw (t, w, append-nil came, append-nil (concat came)) (all_of [] end came)
writes_takes end turns count before came (writing.take_failed is few t w) = rw (t, w, append-nil came, append-nil (concat came)) (all_of [] end came)
writes_takes end turns count before came {wrote = wrote} (writing.write_failed piece is few some t front) =
    let behind = written-front front in
    rw t (all_but [] end came piece (written wrote) behind.0 (sym (concat-writes_behind before piece) ∙ behind.1) (λ ended. (cc)))
writes_takes end turns count before came (writing.turns_spent is all t w) = rw (t, w, append-nil came, append-nil (concat came)) (all_of [] end came)

pub taken_is_written : WhatWasTakenIsWritten
taken_is_written bridge node turns end on_link on_files (not_begun begins) =
    let none = nothing_written end begins in
    record { letter = letter_only (codes "w") end begins; written = rw (nothing_taken begins, none.0) (none_came [] end [] [] refl none.1) }
taken_is_written bridge node turns end on_link on_files (went_on first_link more_link first_files more_files (begun is bl bf) goes l f) =
    let each = recursion_from_All IsPassed goes.takes goes.each in
    let came = filter_map piece_taken goes.takes in
    let letter_is : sent on_link ≡ codes "w" ++ [] =
    ap sent (l ∙ ap (λ (x : List link.Call). x ++ more_link) bl)
    ∙ ap (λ (x : List link.Call). codes "w" ++ sent x) goes.took
    ∙ ap (λ (x : List ℕ). codes "w" ++ x) (none_sent goes.takes goes.last_takes each (last_sends_none goes.ends)) in
    let came_is : filter_map piece_taken on_link ≡ came ++ filter_map piece_taken goes.last_takes =
    ap (filter_map piece_taken) (l ∙ ap (λ (x : List link.Call). x ++ more_link) bl)
    ∙ ap (filter_map piece_taken) goes.took
    ∙ filter_map-append piece_taken goes.takes goes.last_takes in
    let written_is : written on_files ≡ concat came ++ written goes.last_writes =
    ap written (f ∙ ap (λ (x : List file.Call). x ++ more_files) bf)
    ∙ ap written goes.written
    ∙ written-all goes.last_writes goes.all
    ∙ ap (λ (x : List ℕ). x ++ written goes.last_writes) (concat-writes_of [] (map bytes_of goes.takes) ∙ sym (concat_taken goes.takes each)) in
    record { letter = rw letter_is (all_of (codes "w") end []); written = rw (came_is, written_is) (writes_takes end turns (length goes.takes) (taken goes.takes) came goes.ends) }
taken_is_written bridge node turns end on_link on_files (went_on first_link more_link first_files more_files (no_bridge is bl bf) goes l f) = absurd (cc)
taken_is_written bridge node turns end on_link on_files (went_on first_link more_link first_files more_files (no_node is bl bf) goes l f) = absurd (cc)
taken_is_written bridge node turns end on_link on_files (went_on first_link more_link first_files more_files (no_letter front rest whole is bl bf) goes l f) = absurd (cc)
