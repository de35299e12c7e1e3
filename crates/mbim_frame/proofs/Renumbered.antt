-- A message with another number is the same in all else.
use Rattle.std.proofs.Common.{◌≡◌, ℕ, ◌+◌, ◌≤◌, List, ◌++◌, length, take, drop, refl, sym, ◌∙◌, ap, arith, append_assoc, length-append, length-drop, get_or-take, length-take}
use Rattle.std.proofs.lemmas.List.{get_or_append_left, length-take-le, drop_at, drop-drop}
use Rattle.mbim_frame.specs.Numbers.{u32_at, u32_bytes}
use Rattle.mbim_frame.specs.Frame.{size_of}
use Rattle.mbim_frame.specs.Head.{kind_of, number_of, tail_of, with_number}
use Rattle.mbim_frame.specs.Laws.{RenumberedIsTheSame}
use Rattle.mbim_frame.proofs.Numbers.{u32_at-bytes, u32_at-behind}

-- what stands before the number stays
front_stays : (message rest : List ℕ) (at : ℕ) → at + 4 ≤ 8 → 8 ≤ length message → u32_at (take 8 message ++ rest) at ≡ u32_at message at
front_stays message rest at within long = grind (arith, get_or_append_left, get_or-take, length-take)

size-same : (bytes message : List ℕ) → length bytes ≡ length message → u32_at bytes 4 ≡ u32_at message 4 → size_of bytes ≡ size_of message
size-same bytes message long same = rw (long, same) refl

pub renumbered_is_the_same : RenumberedIsTheSame
renumbered_is_the_same number message fits long =
    let front = take 8 message in
    let behind = u32_bytes number ++ drop 12 message in
    let split : with_number number message ≡ front ++ behind = append_assoc front (u32_bytes number) (drop 12 message) in
    let front_long : length front ≡ 8 = length-take-le 8 message (omega (arith, long)) in
    let same_length : length (front ++ behind) ≡ length message = length-append front behind ∙ omega (arith, long, front_long, length-drop 12 message) in
    record {
      number_is = ap number_of split ∙ u32_at-behind front behind 8 0 front_long ∙ u32_at-bytes number (drop 12 message) fits;
      kind = ap kind_of split ∙ front_stays message behind 0 (omega arith) (omega (arith, long));
      size = ap size_of split ∙ size-same (front ++ behind) message same_length (front_stays message behind 4 (omega arith) (omega (arith, long)));
      behind = ap tail_of split ∙ sym (drop-drop 4 8 (front ++ behind)) ∙ ap (drop 4) (drop_at front behind 8 front_long);
    }
