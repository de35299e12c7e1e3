-- The parts of one message are joined, in any order.
use Rattle.std.proofs.Common.{◌≡◌, ℕ, zero, suc, ◌+◌, ◌==◌, ◌<◌, ◌≤◌, Bool, true, false, not, ◌&&◌, cond, List, [], ◌∷◌, ◌++◌, length, take, get_or, filter, refl, ap, ap₂, sym, ◌∙◌, arith, Option, Some, find, option_and_then, option_map, append_assoc}
use Rattle.std.specs.List.{AllByRecursion, Contains, cons_option, filter_map}
use Rattle.std.specs.List.Sorted.{IsPermutation}
use Rattle.std.proofs.lemmas.Bool.Decides.{nat_tests}
use Rattle.std.proofs.lemmas.List.{append-nil, take_all, take_more}
use Rattle.std.proofs.lemmas.List.Sorted.{Contains-permutation, IsPermutation-sym, length_permutation}
use Rattle.std.proofs.lemmas.Slice.Eq.{bytes_eq-Decides}
use Rattle.sms_pdu.specs.declared.pdu.Pdu.{Pdu}
use Rattle.sms_pdu.specs.declared.pdu.Part.{Part}
use Rattle.sms_pdu.specs.declared.pdu.Body.TheVariants.{Written}
use Rattle.sms_pdu.specs.declared.joined.Joined.{Joined}
use Rattle.sms_pdu.specs.Joining.{append_texts, firsts, is_at, joined, part_is_at, same_group, text_at, text_up_to, whole, written}

-- ---- lists ----

module _ {X : Type 0} where
  pub Contains-here : (x : X) (xs : List X) → Contains (x ∷ xs) x
  Contains-here x xs = (0, omega arith, refl)

  pub Contains-behind : (y : X) (xs : List X) (x : X) → Contains xs x → Contains (y ∷ xs) x
  Contains-behind y xs x at = (suc at.0, omega (arith, at.1), at.2)

  found : (p : X → Bool) (xs : List X) (x : X) → Contains xs x → p x ≡ true → ((y : X) → Contains xs y → p y ≡ true → y ≡ x) → find p xs ≡ Some x
  found p [] x at passes alone = absurd (omega (arith, at.1))
  found p (y ∷ xs) x at passes alone = by (p y) refl at (λ there. found p xs x there passes (λ z there. alone z (Contains-behind y xs z there)))
    where
      by : (b : Bool) → p y ≡ b → Contains (y ∷ xs) x → (Contains xs x → find p xs ≡ Some x) → cond b (Some y) (find p xs) ≡ Some x
      by true here at more = ap Some (alone y (Contains-here y xs) here)
      by false here (zero, within, is) more = let same : p y ≡ p x = ap p is in absurd (cc)
      by false here (suc k, within, is) more = more (k, omega (arith, within), is)

  each : (P : X → Type 0) (xs : List X) → ((x : X) → Contains xs x → P x) → AllByRecursion P xs
  each P [] all = tt
  each P (x ∷ xs) all = (all x (Contains-here x xs), each P xs (λ y at. all y (Contains-behind x xs y at)))

  kept : (P : X → Type 0) (p : X → Bool) (xs : List X) → AllByRecursion P xs → AllByRecursion P (filter p xs)
  kept P p [] all = tt
  kept P p (x ∷ xs) all = by (p x) (kept P p xs all.1)
    where
      by : (b : Bool) → AllByRecursion P (filter p xs) → AllByRecursion P (cond b (x ∷ filter p xs) (filter p xs))
      by true rest = (all.0, rest)
      by false rest = rest

  none_kept : (p : X → Bool) (xs : List X) → AllByRecursion (λ x. p x ≡ true) xs → filter (λ x. not (p x)) xs ≡ []
  none_kept p [] all = refl
  none_kept p (x ∷ xs) all = ap (λ (b : Bool). cond (not b) (x ∷ filter (λ y. not (p y)) xs) (filter (λ y. not (p y)) xs)) all.0 ∙ none_kept p xs all.1

-- pieces, one behind the other
abbrev pub all_of : List (List ℕ) → List ℕ
all_of [] = []
all_of (piece ∷ pieces) = piece ++ all_of pieces

all_of-push : (pieces : List (List ℕ)) (piece : List ℕ) → all_of (pieces ++ piece ∷ []) ≡ all_of pieces ++ piece
all_of-push [] piece = append-nil piece
all_of-push (one ∷ pieces) piece = ap (λ (l : List ℕ). one ++ l) (all_of-push pieces piece) ∙ sym (append_assoc one (all_of pieces) piece)

-- ---- the first of each group ----

firsts_are : (P : Pdu → Type 0) (list : List Pdu) → AllByRecursion P list → AllByRecursion P (firsts list)
firsts_are P [] all = tt
firsts_are P (pdu ∷ list) all = (all.0, kept P (λ other. not (same_group pdu other)) (firsts list) (firsts_are P list all.1))

one_group : (pdu : Pdu) (list : List Pdu) → AllByRecursion (λ other. same_group pdu other ≡ true) list → firsts (pdu ∷ list) ≡ pdu ∷ []
one_group pdu list all = ap (λ (l : List Pdu). pdu ∷ l) (none_kept (same_group pdu) (firsts list) (firsts_are (λ other. same_group pdu other ≡ true) list all))

-- ---- messages as they are read ----

same_number : (n : ℕ) → (n == n) ≡ true
same_number n = grind (arith, nat_tests)

module _ (number : List ℕ) (reference total : ℕ) where
  abbrev pub part_at : (place : ℕ) → Part
  part_at place = record { reference = reference; wide = false; total = total; place = place }

  -- where there are several
  abbrev pub read_part : (place : ℕ) (piece : List ℕ) → Pdu
  read_part place piece = record { deliver = false; address = number; time = []; part = Some (part_at place); body = Written piece }

  abbrev pub read_parts : (place : ℕ) (pieces : List (List ℕ)) → List Pdu
  read_parts place [] = []
  read_parts place (piece ∷ pieces) = read_part place piece ∷ read_parts (place + 1) pieces

  same : (place other : ℕ) (piece text : List ℕ) → same_group (read_part place piece) (read_part other text) ≡ true
  same place other piece text =
      rw ((bytes_eq-Decides number number).1 refl, same_number reference, same_number total) refl

  -- one of these parts
  record IsRead (pieces : List (List ℕ)) (from : ℕ) (pdu : Pdu) : Type 0 where
    index : ℕ
    within : index < length pieces
    is : pdu ≡ read_part (from + index) (get_or pieces index [])

  are_read : (place : ℕ) (pieces : List (List ℕ)) (pdu : Pdu) → Contains (read_parts place pieces) pdu → IsRead pieces place pdu
  are_read place [] pdu at = absurd (omega (arith, at.1))
  are_read place (piece ∷ pieces) pdu (zero, within, is) = let on : place + 0 ≡ place = omega arith in record { index = 0; within = omega arith; is = sym is ∙ ap (λ (n : ℕ). read_part n piece) (sym on) }
  are_read place (piece ∷ pieces) pdu (suc k, within, is) =
      let more = are_read (place + 1) pieces pdu (k, omega (arith, within), is) in
      let on : place + 1 + more.index ≡ place + suc more.index = omega arith in
      record { index = suc more.index; within = omega (arith, more.within); is = more.is ∙ ap (λ (n : ℕ). read_part n (get_or pieces more.index [])) on }

  read_at : (place : ℕ) (pieces : List (List ℕ)) (index : ℕ) → index < length pieces → Contains (read_parts place pieces) (read_part (place + index) (get_or pieces index []))
  read_at place [] index within = absurd (omega (arith, within))
  read_at place (piece ∷ pieces) zero within = let on : place + 0 ≡ place = omega arith in rw on (Contains-here (read_part place piece) (read_parts (place + 1) pieces))
  read_at place (piece ∷ pieces) (suc index) within =
      let on : place + suc index ≡ place + 1 + index = omega arith in
      rw on (Contains-behind (read_part place piece) (read_parts (place + 1) pieces) (read_part (place + 1 + index) (get_or pieces index [])) (read_at (place + 1) pieces index (omega (arith, within))))

  module _ (pieces : List (List ℕ)) (all : length pieces ≡ total) (order : List Pdu) (moved : IsPermutation (read_parts 1 pieces) order) where
    ordered : (pdu : Pdu) → Contains order pdu → IsRead pieces 1 pdu
    ordered pdu at = are_read 1 pieces pdu (Contains-permutation order (read_parts 1 pieces) pdu (IsPermutation-sym (read_parts 1 pieces) order moved) at)

    module _ (head : Pdu) (member : IsRead pieces 1 head) where
      in_group : (pdu : Pdu) → IsRead pieces 1 pdu → same_group head pdu ≡ true
      in_group pdu read = ap₂ same_group member.is read.is ∙ same (1 + member.index) (1 + read.index) (get_or pieces member.index []) (get_or pieces read.index [])

      at_place : (place : ℕ) (pdu : Pdu) (read : IsRead pieces 1 pdu) → is_at head place pdu ≡ (1 + read.index == place)
      at_place place pdu read =
          ap₂ (λ (same_one : Bool) (one : Pdu). same_one && part_is_at place one.part) (in_group pdu read) read.is

      text_is : (index : ℕ) → index < length pieces → text_at order head (suc index) ≡ Some (get_or pieces index [])
      text_is index within =
          let here : 1 + index ≡ suc index = omega arith in
          let passes : is_at head (suc index) (read_part (1 + index) (get_or pieces index [])) ≡ true =
          at_place (suc index) (read_part (1 + index) (get_or pieces index [])) (record { index = index; within = within; is = refl }) ∙ ap (λ (n : ℕ). n == suc index) here ∙ same_number (suc index)
          in
          let alone : (pdu : Pdu) → Contains order pdu → is_at head (suc index) pdu ≡ true → pdu ≡ read_part (1 + index) (get_or pieces index []) =
          λ pdu at is. (
          let read = ordered pdu at in
          let test : (1 + read.index == suc index) ≡ true = sym (at_place (suc index) pdu read) ∙ is in
          let equal : 1 + read.index ≡ suc index = grind (arith, nat_tests, test) in
          let index_is : read.index ≡ index = omega (arith, equal) in
          read.is ∙ ap (λ (n : ℕ). read_part (1 + n) (get_or pieces n [])) index_is
          )
          in
          ap (option_and_then (λ (other : Pdu). written other.body)) (
          found (is_at head (suc index)) order (read_part (1 + index) (get_or pieces index [])) (Contains-permutation (read_parts 1 pieces) order (read_part (1 + index) (get_or pieces index [])) moved (read_at 1 pieces index within)) passes alone
          )

      texts_are : (count : ℕ) → count ≤ length pieces → text_up_to order head count ≡ Some (all_of (take count pieces))
      texts_are zero within = refl
      texts_are (suc count) within =
          let more : take (suc count) pieces ≡ take count pieces ++ get_or pieces count [] ∷ [] = let on : count + 1 ≡ suc count = omega arith in ap (λ (n : ℕ). take n pieces) (sym on) ∙ take_more pieces count [] (omega (arith, within)) in
          ap₂ append_texts (texts_are count (omega (arith, within))) (text_is count (omega (arith, within)))
          ∙ ap Some (sym (ap all_of more ∙ all_of-push (take count pieces) (get_or pieces count [])))

      whole_is : whole order head ≡ Some (record { address = number; text = all_of pieces })
      whole_is =
          let told : text_up_to order head total ≡ Some (all_of pieces) = texts_are total (omega (arith, all)) ∙ ap (λ (l : List (List ℕ)). Some (all_of l)) (take_all total pieces (omega (arith, all))) in
          ap (whole order) member.is
          ∙ ap (option_map (λ (text : List ℕ). record { address = number; text = text })) (ap (λ (one : Pdu). text_up_to order one total) (sym member.is) ∙ told)

  pub parts_are_joined : (pieces : List (List ℕ)) → length pieces ≡ total → 1 ≤ total → (order : List Pdu) → IsPermutation (read_parts 1 pieces) order
      → joined order ≡ record { address = number; text = all_of pieces } ∷ []
  parts_are_joined [] all some order moved = absurd (omega (arith, all, some))
  parts_are_joined (piece ∷ pieces) all some [] moved = let none = length_permutation (read_parts 1 (piece ∷ pieces)) [] moved in absurd (omega (arith, none))
  parts_are_joined (piece ∷ pieces) all some (head ∷ tail) moved =
      let member = ordered (piece ∷ pieces) all (head ∷ tail) moved head (Contains-here head tail) in
      let group = each (λ other. same_group head other ≡ true) tail (λ pdu at. in_group (piece ∷ pieces) all (head ∷ tail) moved head member pdu (ordered (piece ∷ pieces) all (head ∷ tail) moved pdu (Contains-behind head tail pdu at))) in
      ap (filter_map (whole (head ∷ tail))) (one_group head tail group) ∙ ap (λ (one : Option Joined). cons_option one []) (whole_is (piece ∷ pieces) all (head ∷ tail) moved head member)

-- ---- one message alone ----

pub only_order : (pdu : Pdu) (order : List Pdu) → IsPermutation (pdu ∷ []) order → order ≡ pdu ∷ []
only_order pdu [] moved = let none = length_permutation (pdu ∷ []) [] moved in absurd (omega (arith, none))
only_order pdu (one ∷ []) moved = by (Contains-permutation (pdu ∷ []) (one ∷ []) pdu moved (Contains-here pdu []))
  where
    by : Contains (one ∷ []) pdu → one ∷ [] ≡ pdu ∷ []
    by (zero, within, is) = ap (λ (p : Pdu). p ∷ []) is
    by (suc k, within, is) = absurd (omega (arith, within))
only_order pdu (one ∷ other ∷ order) moved = let more = length_permutation (pdu ∷ []) (one ∷ other ∷ order) moved in absurd (omega (arith, more))
