-- What a core makes of a client that arrives.
use Rattle.std.proofs.Common.{◌≡◌, ℕ, zero, suc, ◌<◌, ◌≤◌, min, List, [], ◌∷◌, length, take, drop, refl, ap, sym, ◌∙◌, arith}
use Rattle.std.proofs.lemmas.List.{length-drop, take_min, drop_min}
use Rattle.proxy_history.specs.Events.{Event}
use Rattle.proxy_history.specs.Events as one
use Rattle.proxy_history.specs.Coming.{piece_limit}
use Rattle.proxy_solo.specs.Cores.{core_after}
use Rattle.qmi_state.specs.Core.{QmiCore}
use Rattle.many_history.specs.Many.{pieces_up_to, in_pieces, says, arrival}
use Rattle.many_cores.specs.Cores.{after, met, said}

says_said : (core : QmiCore) (name : ℕ) (pieces : List (List ℕ)) (events : List Event) → after (says name pieces events) core ≡ said name pieces (after events core)
unfolding core_after says said
says_said core name [] events = refl
says_said core name (piece ∷ pieces) events = says_said core name pieces (one.Piece name piece ∷ events)

pub arrived : (core : QmiCore) (name : ℕ) (before piece : List ℕ) → met (one.Piece name piece) (said name (in_pieces before) (met (one.Joined name) core)) ≡ after (arrival name before piece) core
unfolding core_after
arrived core name before piece = ap (met (one.Piece name piece)) (sym (says_said core name (in_pieces before) (one.Joined name ∷ [])))

-- ---- bytes in pieces ----

pieces_same : (count other : ℕ) (bytes : List ℕ) → length bytes ≤ count → length bytes ≤ other → pieces_up_to count bytes ≡ pieces_up_to other bytes
unfolding pieces_up_to
pieces_same zero zero bytes few less = refl
pieces_same zero (suc other) [] few less = refl
pieces_same zero (suc other) (byte ∷ bytes) few less = absurd (omega (arith, few))
pieces_same (suc count) zero [] few less = refl
pieces_same (suc count) zero (byte ∷ bytes) few less = absurd (omega (arith, less))
pieces_same (suc count) (suc other) [] few less = refl
pieces_same (suc count) (suc other) (byte ∷ bytes) few less =
    let rest : List ℕ = drop piece_limit (byte ∷ bytes) in
    let shorter : length rest ≤ length bytes = omega (arith, length-drop piece_limit (byte ∷ bytes)) in
    ap (λ (l : List (List ℕ)). take piece_limit (byte ∷ bytes) ∷ l) (pieces_same count other rest (omega (arith, few, shorter)) (omega (arith, less, shorter)))

pub first_piece : (bytes : List ℕ) → 0 < length bytes → in_pieces bytes ≡ take piece_limit bytes ∷ in_pieces (drop piece_limit bytes)
unfolding pieces_up_to
first_piece [] some = absurd (omega (arith, some))
first_piece (byte ∷ bytes) some =
    let rest : List ℕ = drop piece_limit (byte ∷ bytes) in
    let shorter : length rest ≤ length bytes = omega (arith, length-drop piece_limit (byte ∷ bytes)) in
    ap (λ (l : List (List ℕ)). take piece_limit (byte ∷ bytes) ∷ l) (pieces_same (length bytes) (length rest) rest shorter (omega arith))

-- ---- what is said so far ----

pub none_said : (core : QmiCore) (name : ℕ) (rest : List ℕ) → length rest ≡ 0 → said name (in_pieces rest) core ≡ core
unfolding said pieces_up_to
none_said core name [] none = refl
none_said core name (byte ∷ rest) none = absurd (omega (arith, none))

-- one more piece is said
pub one_said : (core new : QmiCore) (name count : ℕ) (rest piece others : List ℕ) → 0 < length rest → count ≡ min piece_limit (length rest) → piece ≡ take count rest → others ≡ drop count rest
    → new ≡ met (one.Piece name piece) core → said name (in_pieces others) new ≡ said name (in_pieces rest) core
unfolding said
one_said core new name count rest piece others some is front back made =
    let whole : piece ≡ take piece_limit rest = front ∙ ap (λ (n : ℕ). take n rest) is ∙ take_min piece_limit rest in
    let left : others ≡ drop piece_limit rest = back ∙ ap (λ (n : ℕ). drop n rest) is ∙ drop_min piece_limit rest in
    ap (λ (l : List ℕ). said name (in_pieces l) new) left
    ∙ ap (said name (in_pieces (drop piece_limit rest))) (made ∙ ap (λ (l : List ℕ). met (one.Piece name l) core) whole)
    ∙ sym (ap (λ (l : List (List ℕ)). said name l core) (first_piece rest some))
