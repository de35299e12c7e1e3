-- What a piece brings depends on the piece and on what the stream left before it.
use Rattle.std.proofs.Common.{ℕ, List, length, drop, ap, ◌∙◌}
use Rattle.std.proofs.Math.Seq.{drop-append_seam}
use Rattle.framing.specs.declared.framing.Size.{Size}
use Rattle.framing.specs.Cutting.{Cutting, cut}
use Rattle.framing.proofs.Cuts.{cut-append}
use Rattle.proxy_history.specs.Streams.{is_invalid}
use Rattle.proxy_history.specs.Laws.{GoesOnFromRest, cut_behind}

pub goes_on_from_rest : (size : List ℕ → Size) (before piece : List ℕ) → GoesOnFromRest size before piece
goes_on_from_rest size before piece =
    let whole = cut-append size before piece in
    record {
      messages = ap (λ (c : Cutting). drop (length (cut size before).messages) c.messages) whole ∙ drop-append_seam (cut size before).messages (cut_behind size before piece).messages;
      rest = ap (λ (c : Cutting). c.rest) whole;
      bad = ap (λ (c : Cutting). is_invalid (size c.rest)) whole;
    }
