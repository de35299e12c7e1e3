-- A pair that is pushed: whether it fits, and what the list is then.
use Rattle.std.proofs.Common.{◌≡◌, ℕ, suc, ◌<◌, ◌≤◌, Bool, true, false, cond, not, ◌||◌, nat_lt, nat_le, List, ◌∷◌, length, filter, refl, ap, sym, ◌∙◌, arith}
use Rattle.std.specs.List.{list_any}
use Rattle.std.proofs.lemmas.Bool.{or_parts}
use Rattle.std.proofs.lemmas.Bool.Decides.{nat_tests}
use Rattle.kit_bytes.specs.Subscriptions.{Pair, normal_form}
use Rattle.subscriptions.specs.Lists.{IsNormal, covers, fits, pushed}
use Rattle.subscriptions.proofs.NormalForms.{push_covered, push_length, filter_all, filter_shorter, filter_less}

-- what a test of the same list answers
pub covered_is : {list seen : List Pair} (p : Pair) {answer b : Bool} → seen ≡ list → answer ≡ list_any (λ q. covers q p) seen → answer ≡ b → list_any (λ q. covers q p) list ≡ b
covered_is p same told is = ap (λ (l : List Pair). list_any (λ q. covers q p) l) (sym same) ∙ sym told ∙ is

pub room_is : {list seen : List Pair} (limit : ℕ) (p : Pair) {answer b : Bool} → seen ≡ list → answer ≡ (nat_lt (length seen) limit || list_any (λ q. covers p q) seen) → answer ≡ b → (nat_lt (length list) limit || list_any (λ q. covers p q) list) ≡ b
room_is limit p same told is = ap (λ (l : List Pair). nat_lt (length l) limit || list_any (λ q. covers p q) l) (sym same) ∙ sym told ∙ is

module _ (limit : ℕ) (list : List Pair) (p : Pair) (normal : IsNormal list) (few : length list ≤ limit) where
  if_fits : (b : Bool) → fits limit (p ∷ list) ≡ b → pushed limit p list ≡ cond b (normal_form (p ∷ list)) list
  if_fits b e = ap (λ (t : Bool). cond t (normal_form (p ∷ list)) list) e

  below : (n : ℕ) → n ≤ limit → nat_le n limit ≡ true
  below n le = grind (arith, nat_tests, le)

  above : (n : ℕ) → limit < n → nat_le n limit ≡ false
  above n lt = grind (arith, nat_tests, lt)

  -- ---- a pair that is there, or stands beside all CIDs of its service ----

  module _ (covered : list_any (λ q. covers q p) list ≡ true) where
    pub covered_fits : fits limit (p ∷ list) ≡ true
    covered_fits = ap (λ (l : List Pair). nat_le (length l) limit) (push_covered list p normal covered) ∙ below (length list) few

    pub covered_stays : pushed limit p list ≡ list
    covered_stays = if_fits true covered_fits ∙ push_covered list p normal covered

  -- ---- a new one ----

  module _ (new : list_any (λ q. covers q p) list ≡ false) where
    pub full_fits : (nat_lt (length list) limit || list_any (λ q. covers p q) list) ≡ false → fits limit (p ∷ list) ≡ false
    full_fits full =
        let parts = or_parts (nat_lt (length list) limit) (list_any (λ q. covers p q) list) full in
        let all : limit ≤ length list = grind (arith, nat_tests, parts.0) in
        let kept : length (filter (λ q. not (covers p q)) list) ≡ length list = ap (λ (l : List Pair). length l) (filter_all (λ q. covers p q) list parts.1) in
        let longer : length (normal_form (p ∷ list)) ≡ suc (length (filter (λ q. not (covers p q)) list)) = push_length list p normal new in
        above (length (normal_form (p ∷ list))) (omega (arith, all, kept, longer))

    pub full_stays : (nat_lt (length list) limit || list_any (λ q. covers p q) list) ≡ false → pushed limit p list ≡ list
    full_stays full = if_fits false (full_fits full)

    pub room_left : (nat_lt (length list) limit || list_any (λ q. covers p q) list) ≡ true → length (filter (λ q. not (covers p q)) list) < limit
    room_left room = by (nat_lt (length list) limit) refl room
      where
        by : (b : Bool) → nat_lt (length list) limit ≡ b → (b || list_any (λ q. covers p q) list) ≡ true → length (filter (λ q. not (covers p q)) list) < limit
        by true short some = let less : length list < limit = grind (arith, nat_tests, short) in let shorter = filter_shorter (λ q. not (covers p q)) list in omega (arith, less, shorter)
        by false long some = let less = filter_less (λ q. covers p q) list some in omega (arith, less, few)

    pub room_length : (nat_lt (length list) limit || list_any (λ q. covers p q) list) ≡ true → length (normal_form (p ∷ list)) ≤ limit
    room_length room =
        let left = room_left room in
        let longer : length (normal_form (p ∷ list)) ≡ suc (length (filter (λ q. not (covers p q)) list)) = push_length list p normal new in
        omega (arith, left, longer)

    pub room_fits : (nat_lt (length list) limit || list_any (λ q. covers p q) list) ≡ true → fits limit (p ∷ list) ≡ true
    room_fits room = below (length (normal_form (p ∷ list))) (room_length room)

    pub room_pushed : (nat_lt (length list) limit || list_any (λ q. covers p q) list) ≡ true → pushed limit p list ≡ normal_form (p ∷ list)
    room_pushed room = if_fits true (room_fits room)
