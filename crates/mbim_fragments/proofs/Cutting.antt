-- In a stream, pieces are the messages that they were written as.
use Rattle.std.proofs.Common.{ℕ, ◌-◌, ◌<◌, [], length, All, sym, ◌∙◌, ap, subst, inl, arith}
use Rattle.std.proofs.lemmas.List.{append-nil}
use Rattle.std.proofs.lemmas.List.FromFn.{length-map-range_with_len, get_or-map-range_with_len}
use Rattle.framing.specs.Framing.{IsMessage}
use Rattle.framing.proofs.Standing.{cut-only}
use Rattle.mbim_frame.specs.Frame.{size_of, mbim_cut}
use Rattle.mbim_frame.specs.Framing.{size_of-kept, size_of-positive}
use Rattle.mbim_fragments.specs.Splitting.{part_count, piece_at, pieces, split}
use Rattle.mbim_fragments.specs.Laws.{PiecesAreCut}
use Rattle.mbim_fragments.proofs.Pieces.{piece_reads}

pub pieces_are_cut : PiecesAreCut
pieces_are_cut kind number max body kind_fits number_fits least most short =
    let size = max - 20 in
    let total = part_count size (length body) in
    let piece = piece_at kind number size body in
    let all : All (IsMessage size_of) (pieces kind number max body) = λ place other within.
    let inside : place < total = subst (λ (n : ℕ). place < n) (length-map-range_with_len piece 0 total) within in
    subst (IsMessage size_of) (sym (get_or-map-range_with_len piece 0 total place place other inside (omega arith)))
    (piece_reads kind number size body kind_fits number_fits (omega (arith, least)) (omega (arith, most)) short place inside).whole
    in
    ap mbim_cut (sym (append-nil (split kind number max body))) ∙ cut-only size_of size_of-kept size_of-positive (pieces kind number max body) [] all (inl tt)
