-- A request takes as many bytes to the modem whatever number it gets.
use Rattle.std.proofs.Common.{◌≡◌, ℕ, ◌+◌, ◌≤◌, true, false, if◌then◌else◌, List, [], ◌∷◌, length, map, refl, ap, sym, ◌∙◌, arith, length-append}
use Rattle.std.proofs.lemmas.Bool.Decides.{nat_tests}
use Rattle.std.specs.List.{concat, range_with_len}
use Rattle.mbim_frame.specs.declared.kind.MessageKind.TheVariants.{Open, Command}
use Rattle.mbim_frame.specs.Kinds.{kind_number}
use Rattle.mbim_frame.specs.Head.{is_kind, with_number}
use Rattle.mbim_frame.specs.Fragment.{body_of}
use Rattle.mbim_fragments.specs.Splitting.{part_size, part_count, piece_at, split}
use Rattle.proxy_history.specs.Facts.{Fact}
use Rattle.proxy_history.specs.Modem.{modem_queue}
use Rattle.mbim_proxy.specs.Setup.{Setup}
use Rattle.mbim_proxy.specs.Forwarding.{wire, wire_of, has_room}

numbered_length : (n k : ℕ) (m : List ℕ) → length (with_number n m) ≡ length (with_number k m)
numbered_length n k m = grind (arith, length-append)

module _ (kind n k size : ℕ) (body : List ℕ) where
  pieces_length : (places : List ℕ) → length (concat (map (piece_at kind n size body) places)) ≡ length (concat (map (piece_at kind k size body) places))
  pieces_length [] = refl
  pieces_length (place ∷ places) =
      length-append (piece_at kind n size body place) (concat (map (piece_at kind n size body) places))
      ∙ ap (λ (count : ℕ). length (piece_at kind k size body place) + count) (pieces_length places)
      ∙ sym (length-append (piece_at kind k size body place) (concat (map (piece_at kind k size body) places)))

split_length : (kind n k longest : ℕ) (body : List ℕ) → length (split kind n longest body) ≡ length (split kind k longest body)
split_length kind n k longest body = pieces_length kind n k (part_size longest) body (range_with_len 0 (part_count (part_size longest) (length body)))

pub wire_length : (s : Setup) (n k : ℕ) (m : List ℕ) → length (wire_of s n m) ≡ length (wire_of s k m)
wire_length s n k m =
    elim (is_kind Open m) as (λ b. length (if b then with_number n m else split (kind_number Command) n s.longest_fragment (body_of m)) ≡ length (if b then with_number k m else split (kind_number Command) k s.longest_fragment (body_of m))) [
      | true ↦ numbered_length n k m
      | false ↦ split_length (kind_number Command) n k s.longest_fragment (body_of m)
    ]

-- where it finds room, it does so with each number
pub finds_room : (s : Setup) (n : ℕ) (m : List ℕ) (past : List Fact) → has_room s m past ≡ true → length (modem_queue (wire s) past) + length (wire_of s n m) ≤ s.limits.modem_outbox
finds_room s n m past room = let same = wire_length s n 0 m in grind (arith, nat_tests, room, same)
