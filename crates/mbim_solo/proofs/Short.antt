-- What a client meets alone comes in short pieces.
use Rattle.std.proofs.Common.{◌≡◌, ℕ, ◌≤◌, List, [], ◌∷◌, length, refl, sym, subst, arith, Option, Some, None, length-append}
use Rattle.std.specs.List.{AllByRecursion, concat}
use Rattle.mbim_frame.specs.Head.{with_number}
use Rattle.proxy_history.specs.Coming.{piece_limit}
use Rattle.proxy_history.specs.Facts.{Request}
use Rattle.proxy_solo.proofs.Coming.{IsShort}
use Rattle.mbim_proxy.specs.Setup.{Setup}
use Rattle.mbim_solo.specs.Solo.{parts, list_taken, answer_to, own_list_in, mbim_alone}
use Rattle.mbim_solo.proofs.Parts.{parts_are_the_piece}

each_is_short : (limit : ℕ) (parts : List (List ℕ)) → length (concat parts) ≤ limit → AllByRecursion (λ part. length part ≤ limit) parts
each_is_short limit [] within = tt
each_is_short limit (part ∷ parts) within =
    let both : length (concat (part ∷ parts)) ≡ _ = length-append part (concat parts) in
    (omega (arith, within, both), each_is_short limit parts (omega (arith, within, both)))

answer_is_short : (o : Option Request) (m : List ℕ) → answer_to o list_taken ≡ Some m → length m ≤ piece_limit
answer_is_short None m is = absurd (cc)
answer_is_short (Some r) m is =
    let same : with_number r.number list_taken ≡ m = cc in
    let long : length (with_number r.number list_taken) ≡ 48 = refl in
    subst (λ (l : List ℕ). length l ≤ piece_limit) same (omega (arith, long))

pub mbim_is_short : (s : Setup) → IsShort (mbim_alone s)
mbim_is_short s = record {
  parts = λ before piece few. each_is_short piece_limit (parts before piece) (subst (λ (l : List ℕ). length l ≤ piece_limit) (sym (parts_are_the_piece 0 before piece).bytes) few);
  answers = λ own m is. answer_is_short (own_list_in own) m is;
}
