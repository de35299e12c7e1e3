-- A text comes back from its messages.
use Rattle.std.proofs.Common.{◌≡◌, ℕ, ◌+◌, ◌<◌, ◌≤◌, nat_lt, Bool, true, false, ◌&&◌, cond, IsTrue, List, [], ◌∷◌, ◌++◌, length, map, refl, ap, ap₂, sym, subst, ◌∙◌, arith, Option, Some, None, Result, Ok, append_assoc}
use Rattle.std.specs.Prelude.{is_none}
use Rattle.std.specs.List.{AllByRecursion, list_all}
use Rattle.std.specs.Str.{all_scalars, encode_utf8_all, IsUtf8}
use Rattle.std.proofs.lemmas.Str.{encodes_same}
use lib.Utf8.{scalar}
use Rattle.std.proofs.lemmas.Bool.Decides.{nat_tests}
use Rattle.std.proofs.lemmas.List.{append-nil}
use Rattle.gsm_text.specs.Alphabet.{first_outside, has_codes}
use Rattle.sms_pdu.specs.declared.pdu.Pdu.{Pdu}
use Rattle.sms_pdu.specs.declared.pdu.Body.TheVariants.{Written}
use Rattle.sms_pdu.specs.declared.pdu.PduFault.{PduFault}
use Rattle.sms_pdu.specs.Reading.{pdu}
use Rattle.sms_pdu.specs.Parts.{digits_of, fits, front, is_coded, is_digit, is_number, messages, messages_from, most_of, parts, pieces, pieces_from}
use Rattle.sms_pdu.specs.Joining.{joined}
use Rattle.sms_pdu.specs.Laws.{ComeBack, TextComesBack}
use Rattle.sms_pdu.proofs.Coming.{IsSendable, alone_is_read, among_are_read}
use Rattle.sms_pdu.proofs.Pieces.{coded_is}
use Rattle.sms_pdu.proofs.Sending.{some_pieces}
use Rattle.sms_pdu.proofs.Telling.{both_true}
use Rattle.sms_pdu.proofs.Unity.{all_of, only_order, parts_are_joined, read_parts}

-- ---- pieces ----

pub pieces_are_all : (coded : Bool) (most : ℕ) (begun text : List ℕ) → all_of (pieces_from coded most begun text) ≡ begun ++ text
pieces_are_all coded most begun [] = refl
pieces_are_all coded most begun (char ∷ text) = by (fits coded most (begun ++ char ∷ [])) (pieces_are_all coded most (begun ++ char ∷ []) text) (pieces_are_all coded most (char ∷ []) text)
  where
    by : (b : Bool) → all_of (pieces_from coded most (begun ++ char ∷ []) text) ≡ (begun ++ char ∷ []) ++ text → all_of (pieces_from coded most (char ∷ []) text) ≡ char ∷ text
        → all_of (cond b (pieces_from coded most (begun ++ char ∷ []) text) (begun ∷ pieces_from coded most (char ∷ []) text)) ≡ begun ++ char ∷ text
    by true more next = more ∙ append_assoc begun (char ∷ []) text
    by false more next = ap (λ (l : List ℕ). begun ++ l) next

-- what holds of each character of a text holds in its pieces
module _ (test : ℕ → Bool) where
  list_all-push : (begun : List ℕ) (char : ℕ) → list_all test begun ≡ true → test char ≡ true → list_all test (begun ++ char ∷ []) ≡ true
  list_all-push [] char all is = ap (λ (b : Bool). b && true) is
  list_all-push (one ∷ begun) char all is = let parts_of = both_true _ _ all in ap₂ (λ (a b : Bool). a && b) parts_of.0 (list_all-push begun char parts_of.1 is)

  pub pieces_pass : (coded : Bool) (most : ℕ) (begun text : List ℕ) → list_all test begun ≡ true → list_all test text ≡ true → AllByRecursion (λ piece. list_all test piece ≡ true) (pieces_from coded most begun text)
  pieces_pass coded most begun [] before all = (before, tt)
  pieces_pass coded most begun (char ∷ text) before all =
      let here = both_true _ _ all in
      by (fits coded most (begun ++ char ∷ [])) (pieces_pass coded most (begun ++ char ∷ []) text (list_all-push begun char before here.0) here.1) (pieces_pass coded most (char ∷ []) text (ap (λ (b : Bool). b && true) here.0) here.1)
    where
      by : (b : Bool) → AllByRecursion (λ piece. list_all test piece ≡ true) (pieces_from coded most (begun ++ char ∷ []) text) → AllByRecursion (λ piece. list_all test piece ≡ true) (pieces_from coded most (char ∷ []) text)
          → AllByRecursion (λ piece. list_all test piece ≡ true) (cond b (pieces_from coded most (begun ++ char ∷ []) text) (begun ∷ pieces_from coded most (char ∷ []) text))
      by true more next = more
      by false more next = (before, next)

scalars_are : (text : List ℕ) → list_all scalar text ≡ all_scalars text
scalars_are [] = refl
scalars_are (char ∷ text) = ap (λ (b : Bool). scalar char && b) (scalars_are text)

each_weaker : {X : Type 0} (P Q : X → Type 0) → ((x : X) → P x → Q x) → (xs : List X) → AllByRecursion P xs → AllByRecursion Q xs
each_weaker P Q weaker [] all = tt
each_weaker P Q weaker (x ∷ xs) all = (weaker x all.0, each_weaker P Q weaker xs all.1)

none_outside : (piece : List ℕ) → list_all has_codes piece ≡ true → first_outside piece ≡ None
none_outside piece all = by (first_outside piece) (sym (coded_is piece) ∙ all)
  where
    by : (place : Option ℕ) → is_none place ≡ true → place ≡ None
    by None is = refl
    by (Some place) is = absurd (cc)

all_sendable : (coded : Bool) (most : ℕ) (text : List ℕ) → is_coded text ≡ coded → IsTrue (all_scalars text) → AllByRecursion (IsSendable coded) (pieces coded most text)
all_sendable true most text is scalars = each_weaker (λ piece. list_all has_codes piece ≡ true) (IsSendable true) none_outside (pieces true most text) (pieces_pass has_codes true most [] text refl (coded_is text ∙ is))
all_sendable false most text is scalars =
    each_weaker (λ piece. list_all scalar piece ≡ true) (IsSendable false) (λ piece all. sym (scalars_are piece) ∙ all) (pieces false most text) (pieces_pass scalar false most [] text refl (scalars_are text ∙ scalars))

-- ---- all messages ----

module _ (number : List ℕ) (digits : list_all is_digit (digits_of number) ≡ true) (reference : ℕ) (small : reference < 256) (coded : Bool) where
  -- the messages of these pieces come back as this text
  abbrev pub Return : (text : List ℕ) (list : List (List ℕ)) → Type 0
  Return text list = ComeBack number text (messages_from (front number coded (length list)) coded reference (length list) 1 list)

  all_read : (total : ℕ) → nat_lt 1 total ≡ true → total < 256 → (place : ℕ) (list : List (List ℕ)) → 1 ≤ place → place + length list ≤ total + 1 → AllByRecursion (IsSendable coded) list
      → map pdu (messages_from (front number coded total) coded reference total place list) ≡ map (λ one. Ok one) (read_parts number reference total place list)
  all_read total several few place [] from to all = refl
  all_read total several few place (piece ∷ list) from to all =
      ap₂ (λ (r : Result Pdu PduFault) (rs : List (Result Pdu PduFault)). r ∷ rs) (among_are_read number digits reference total several (small, few) place from (omega (arith, to)) coded piece all.0)
      (all_read total several few (place + 1) list (omega arith) (omega (arith, to)) all.1)

  pub they_return : (list : List (List ℕ)) → 1 ≤ length list → length list ≤ 255 → AllByRecursion (IsSendable coded) list → Return (all_of list) list
  they_return [] some few all = absurd (omega (arith, some))
  they_return (piece ∷ []) some few all =
      let alone : Pdu = record { deliver = false; address = number; time = []; part = None; body = Written piece } in (
        alone ∷ [],
        ap (λ (r : Result Pdu PduFault). r ∷ []) (alone_is_read number digits reference 1 refl coded 1 piece all.0),
        λ order moved. ap joined (only_order alone order moved) ∙ ap (λ (text : List ℕ). record { address = number; text = text } ∷ []) (sym (append-nil piece)),
      )
  they_return (piece ∷ next ∷ list) some few all =
      let several : nat_lt 1 (length (piece ∷ next ∷ list)) ≡ true = grind (arith, nat_tests) in (
        read_parts number reference (length (piece ∷ next ∷ list)) 1 (piece ∷ next ∷ list),
        all_read (length (piece ∷ next ∷ list)) several (omega (arith, few)) 1 (piece ∷ next ∷ list) (omega arith) (omega arith) all,
        parts_are_joined number reference (length (piece ∷ next ∷ list)) (piece ∷ next ∷ list) refl (omega arith),
      )

pub text_comes_back : TextComesBack
text_comes_back number text reference is scalars few small =
    let digits = (both_true _ _ (both_true _ _ is).0).0 in
    let all = pieces_are_all (is_coded text) (most_of (is_coded text) text) [] text in
    subst (λ (t : List ℕ). Return number digits reference small (is_coded text) t (parts text)) all
    (they_return number digits reference small (is_coded text) (parts text) (some_pieces (is_coded text) (most_of (is_coded text) text) [] text) few (all_sendable (is_coded text) (most_of (is_coded text) text) text refl scalars))

-- the same of messages that were made
pub these_come_back : (number text : List ℕ) (reference : ℕ) (pdus : List (List ℕ)) → IsTrue (is_number number) → IsTrue (all_scalars text) → length (parts text) ≤ 255 → reference < 256
    → pdus ≡ messages number text reference → ComeBack number text pdus
these_come_back number text reference pdus is scalars few small made = subst (ComeBack number text) (sym made) (text_comes_back number text reference is scalars few small)

-- what UTF-8 spells are characters
pub spelled : (text bytes : List ℕ) → IsUtf8 bytes → bytes ≡ encode_utf8_all text → IsTrue (all_scalars text)
spelled text bytes utf8 is = let same : utf8.0 ≡ text = encodes_same utf8.0 text (utf8.1.1 ∙ is) in ap all_scalars (sym same) ∙ utf8.1.0
