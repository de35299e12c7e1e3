-- The lines that the events of one direction add are, together, those of its stream.
use Rattle.std.proofs.Common.{◌≡◌, ℕ, Bool, true, false, List, [], ◌∷◌, ◌++◌, length, drop, append_assoc, refl, ap, sym, ◌∙◌}
use Rattle.std.proofs.Math.Seq.{drop-append_seam}
use Rattle.std.proofs.lemmas.List.{append-nil}
use Rattle.kit_bytes.specs.declared.kind.Kind.{Kind}
use Rattle.framing.specs.declared.framing.Size.{Size}
use Rattle.framing.specs.Cutting.{cut, cut_from}
use Rattle.message_tables.specs.Messages.{MessageForm}
use Rattle.stream_lines.specs.Lines.{Showing, lines_by}
use Rattle.stream_lines.specs.Pieces.{Adds}
use Rattle.stream_lines.proofs.Pieces.{adds_more}
use Rattle.link_io.specs.Target.{Address}
use Rattle.link_io.specs.Calls.{Opened, Paired, Sent, Took, WasQuiet, WasEnd, TakeFailed, Closed}
use Rattle.watched_link.specs.Notes.{Event, Called, Said}
use Rattle.dissect.specs.Stream.{shown_by, size_by}
use Rattle.link_lines.specs.Lines.{added, parts_from, path_of}
use Rattle.link_lines.specs.Laws.{sent_in, taken_in, OpensNone, went, came, IsDissected}

module _ (size : List ℕ → Size) (shown : Showing) where
  -- whatever a stream adds with a piece behind it is that
  pub added_of : (before piece : List ℕ) (more : Adds (lines_by size shown) before piece) → added size shown before piece ≡ more.added
  added_of before piece more = ap (drop (length (lines_by size shown before))) more.whole ∙ drop-append_seam (lines_by size shown before) more.added

  -- the lines of a stream, and those that it has more with a piece behind it
  pub added_is : (before piece : List ℕ) → lines_by size shown before ++ added size shown before piece ≡ lines_by size shown (before ++ piece)
  added_is before piece =
      let more : Adds (lines_by size shown) before piece = adds_more size before piece (cut size before).rest refl shown in
      ap (λ (l : List ℕ). lines_by size shown before ++ l) (added_of before piece more) ∙ sym more.whole

  -- those of two pieces, one after another
  pub added_more : (before piece more : List ℕ) → added size shown before (piece ++ more) ≡ added size shown before piece ++ added size shown (before ++ piece) more
  added_more before piece more = added_of before (piece ++ more) (record {
    added = added size shown before piece ++ added size shown (before ++ piece) more;
    whole =
        ap (lines_by size shown) (sym (append_assoc before piece more))
        ∙ sym (added_is (before ++ piece) more)
        ∙ ap (λ (l : List ℕ). l ++ added size shown (before ++ piece) more) (sym (added_is before piece))
        ∙ append_assoc (lines_by size shown before) (added size shown before piece) (added size shown (before ++ piece) more);
  })

  -- those of no bytes
  pub added_none : (before : List ℕ) → added size shown before [] ≡ []
  added_none before = added_of before [] (record { added = []; whole = ap (lines_by size shown) (append-nil before) ∙ sym (append-nil (lines_by size shown before)) })

  -- a piece, and what follows it
  pub piece_is : (before piece more all : List ℕ) → lines_by size shown (before ++ piece) ++ more ≡ lines_by size shown ((before ++ piece) ++ all)
      → lines_by size shown before ++ (added size shown before piece ++ more) ≡ lines_by size shown (before ++ (piece ++ all))
  piece_is before piece more all later =
      sym (append_assoc (lines_by size shown before) (added size shown before piece) more)
      ∙ ap (λ (l : List ℕ). l ++ more) (added_is before piece)
      ∙ later
      ∙ ap (lines_by size shown) (append_assoc before piece all)

  none_is : (before : List ℕ) → lines_by size shown before ++ [] ≡ lines_by size shown (before ++ [])
  none_is before = append-nil (lines_by size shown before) ∙ ap (lines_by size shown) (sym (append-nil before))

  sent_is : (path sent taken : List ℕ) (events : List Event) → OpensNone events → lines_by size shown sent ++ went (parts_from size shown path sent taken events) ≡ lines_by size shown (sent ++ sent_in events)
  sent_is path sent taken [] none = none_is sent
  sent_is path sent taken (Called (Opened address ok) ∷ events) none = absurd none
  sent_is path sent taken (Called (Paired ok) ∷ events) none = sent_is path sent taken events none
  sent_is path sent taken (Called (Sent bytes true) ∷ events) none = piece_is sent bytes (went (parts_from size shown path (sent ++ bytes) taken events)) (sent_in events) (sent_is path (sent ++ bytes) taken events none)
  sent_is path sent taken (Called (Sent bytes false) ∷ events) none = sent_is path sent taken events none
  sent_is path sent taken (Called (Took bytes) ∷ events) none = sent_is path sent (taken ++ bytes) events none
  sent_is path sent taken (Called WasQuiet ∷ events) none = sent_is path sent taken events none
  sent_is path sent taken (Called WasEnd ∷ events) none = sent_is path sent taken events none
  sent_is path sent taken (Called TakeFailed ∷ events) none = sent_is path sent taken events none
  sent_is path sent taken (Called Closed ∷ events) none = sent_is path sent taken events none
  sent_is path sent taken (Said words ∷ events) none = sent_is path sent taken events none

  taken_is : (path sent taken : List ℕ) (events : List Event) → OpensNone events → lines_by size shown taken ++ came (parts_from size shown path sent taken events) ≡ lines_by size shown (taken ++ taken_in events)
  taken_is path sent taken [] none = none_is taken
  taken_is path sent taken (Called (Opened address ok) ∷ events) none = absurd none
  taken_is path sent taken (Called (Paired ok) ∷ events) none = taken_is path sent taken events none
  taken_is path sent taken (Called (Sent bytes true) ∷ events) none = taken_is path (sent ++ bytes) taken events none
  taken_is path sent taken (Called (Sent bytes false) ∷ events) none = taken_is path sent taken events none
  taken_is path sent taken (Called (Took bytes) ∷ events) none = piece_is taken bytes (came (parts_from size shown path sent (taken ++ bytes) events)) (taken_in events) (taken_is path sent (taken ++ bytes) events none)
  taken_is path sent taken (Called WasQuiet ∷ events) none = taken_is path sent taken events none
  taken_is path sent taken (Called WasEnd ∷ events) none = taken_is path sent taken events none
  taken_is path sent taken (Called TakeFailed ∷ events) none = taken_is path sent taken events none
  taken_is path sent taken (Called Closed ∷ events) none = taken_is path sent taken events none
  taken_is path sent taken (Said words ∷ events) none = taken_is path sent taken events none

-- of a link that is opened once
pub each_direction : (kind : Kind) (tables : List MessageForm) (address : Address) (ok : Bool) (events : List Event) → OpensNone events → IsDissected kind tables address ok events
unfolding cut_from
each_direction kind tables address ok events none = record {
  sent = sent_is (size_by kind) (shown_by kind tables) (path_of address) [] [] events none;
  taken = taken_is (size_by kind) (shown_by kind tables) (path_of address) [] [] events none;
}
