-- Messages that are joined, one by one.
use Rattle.std.proofs.Common.{◌≡◌, ℕ, zero, suc, ◌+◌, ◌-◌, ◌<◌, ◌≤◌, Bool, true, false, not, ◌||◌, cond, bytes_eq, List, [], ◌∷◌, ◌++◌, length, take, get_or, filter, Option, Some, None, find, option_and_then, refl, ap, ap₂, sym, ◌∙◌, arith, encode_utf8_all}
use Rattle.std.specs.List.{filter_map}
use Rattle.std.proofs.lemmas.List.{append-nil, take_more}
use Rattle.std.proofs.lemmas.List.Elements.{filter-append, filter_map-append}
use Rattle.std.proofs.lemmas.Slice.Eq.{bytes_eq-Decides}
use Rattle.std.proofs.lemmas.Str.{encodes-append, encodes_same}
use Rattle.sms_pdu.specs.declared.pdu.Pdu.{Pdu}
use Rattle.sms_pdu.specs.declared.joined.Joined.{Joined}
use Rattle.sms_pdu.specs.Joining.{append_texts, firsts, has_group, is_at, same_group, text_at, text_up_to, whole, whole_text, written}

-- ---- texts ----

pub same_chars : (a b : List ℕ) → bytes_eq (encode_utf8_all a) (encode_utf8_all b) ≡ bytes_eq a b
same_chars a b = by (bytes_eq (encode_utf8_all a) (encode_utf8_all b)) (bytes_eq a b) refl refl
  where
    by : (x y : Bool) → bytes_eq (encode_utf8_all a) (encode_utf8_all b) ≡ x → bytes_eq a b ≡ y → x ≡ y
    by true true x y = refl
    by false false x y = refl
    by true false x y = let same = (bytes_eq-Decides a b).1 (encodes_same a b ((bytes_eq-Decides (encode_utf8_all a) (encode_utf8_all b)).0 x)) in absurd (cc)
    by false true x y = let same = (bytes_eq-Decides (encode_utf8_all a) (encode_utf8_all b)).1 (ap encode_utf8_all ((bytes_eq-Decides a b).0 y)) in absurd (cc)

-- ---- the first of each group ----

firsts-push : (list : List Pdu) (pdu : Pdu) → firsts (list ++ pdu ∷ []) ≡ firsts list ++ cond (has_group list pdu) [] (pdu ∷ [])
firsts-push [] pdu = refl
firsts-push (one ∷ list) pdu =
    ap (λ (l : List Pdu). one ∷ l) (
    ap (filter (λ other. not (same_group one other))) (firsts-push list pdu)
    ∙ filter-append (λ other. not (same_group one other)) (firsts list) (cond (has_group list pdu) [] (pdu ∷ []))
    ∙ ap (λ (l : List Pdu). filter (λ other. not (same_group one other)) (firsts list) ++ l) (by (same_group one pdu) (has_group list pdu) refl)
    )
  where
    by : (same known : Bool) → same_group one pdu ≡ same → filter (λ other. not (same_group one other)) (cond known [] (pdu ∷ [])) ≡ cond (same || known) [] (pdu ∷ [])
    by true true is = refl
    by false true is = refl
    by true false is = rw is refl
    by false false is = rw is refl

module _ (list : List Pdu) (index : ℕ) (pdu : Pdu) (within : index < length list) (is : pdu ≡ get_or list index pdu) where
  more : firsts (take (index + 1) list) ≡ firsts (take index list) ++ cond (has_group (take index list) pdu) [] (pdu ∷ [])
  more = ap firsts (take_more list index pdu within ∙ ap (λ (one : Pdu). take index list ++ one ∷ []) (sym is)) ∙ firsts-push (take index list) pdu

  -- what has been joined
  pub joined-known : has_group (take index list) pdu ≡ true → (joined : List Joined) → joined ≡ filter_map (whole list) (firsts (take index list)) → joined ≡ filter_map (whole list) (firsts (take (index + 1) list))
  joined-known known joined held =
      let same : firsts (take (index + 1) list) ≡ firsts (take index list) = more ∙ ap (λ (b : Bool). firsts (take index list) ++ cond b [] (pdu ∷ [])) known ∙ append-nil (firsts (take index list)) in
      held ∙ ap (filter_map (whole list)) (sym same)

  pushed : has_group (take index list) pdu ≡ false → filter_map (whole list) (firsts (take (index + 1) list)) ≡ filter_map (whole list) (firsts (take index list)) ++ filter_map (whole list) (pdu ∷ [])
  pushed new = ap (filter_map (whole list)) (more ∙ ap (λ (b : Bool). firsts (take index list) ++ cond b [] (pdu ∷ [])) new) ∙ filter_map-append (whole list) (firsts (take index list)) (pdu ∷ [])

  pub joined-none : has_group (take index list) pdu ≡ false → whole list pdu ≡ None → (joined : List Joined) → joined ≡ filter_map (whole list) (firsts (take index list))
      → joined ≡ filter_map (whole list) (firsts (take (index + 1) list))
  joined-none new none joined held = held ∙ sym (pushed new ∙ rw none (append-nil (filter_map (whole list) (firsts (take index list)))))

  pub joined-some : has_group (take index list) pdu ≡ false → (message : Joined) → whole list pdu ≡ Some message → (joined : List Joined) → joined ≡ filter_map (whole list) (firsts (take index list))
      → joined ++ message ∷ [] ≡ filter_map (whole list) (firsts (take (index + 1) list))
  joined-some new message some joined held = ap (λ (l : List Joined). l ++ message ∷ []) held ∙ sym (pushed new ∙ rw some refl)

-- ---- the text of a group ----

pub text_up_to-none : (list : List Pdu) (pdu : Pdu) (place behind last : ℕ) → place + behind ≡ last → text_up_to list pdu place ≡ None → text_up_to list pdu last ≡ None
text_up_to-none list pdu place zero last is none = let same : last ≡ place = omega arith in ap (text_up_to list pdu) same ∙ none
text_up_to-none list pdu place (suc behind) zero is none = absurd (omega arith)
text_up_to-none list pdu place (suc behind) (suc last) is none =
    ap (λ (before : Option (List ℕ)). append_texts before (text_at list pdu (suc last))) (text_up_to-none list pdu place behind last (omega arith) none)

-- the places up to one have texts, which are written
pub record HasTextUpTo (list : List Pdu) (pdu : Pdu) (place : ℕ) (bytes : List ℕ) : Type 0 where
  pub chars : List ℕ
  pub told : text_up_to list pdu place ≡ Some chars
  pub is_written : bytes ≡ encode_utf8_all chars

pub HasTextUpTo-none : (list : List Pdu) (pdu : Pdu) (bytes : List ℕ) → bytes ≡ [] → HasTextUpTo list pdu 0 bytes
HasTextUpTo-none list pdu bytes is = record { chars = []; told = refl; is_written = is }

module _ (list : List Pdu) (pdu : Pdu) (place : ℕ) (bytes : List ℕ) (has : HasTextUpTo list pdu place bytes) where
  next : text_up_to list pdu (place + 1) ≡ append_texts (text_up_to list pdu place) (text_at list pdu (place + 1))
  next = let on : place + 1 ≡ suc place = omega arith in rw on refl

  pub HasTextUpTo-more : (more now : List ℕ) → text_at list pdu (place + 1) ≡ Some more → now ≡ bytes ++ encode_utf8_all more → HasTextUpTo list pdu (place + 1) now
  HasTextUpTo-more more now told written = record {
    chars = has.chars ++ more;
    told = next ∙ ap₂ append_texts has.told told;
    is_written = written ∙ ap (λ (l : List ℕ). l ++ encode_utf8_all more) has.is_written ∙ sym (encodes-append has.chars more);
  }

  pub no_text : (last : ℕ) → place + 1 ≤ last → text_at list pdu (place + 1) ≡ None → text_up_to list pdu last ≡ None
  no_text last within none = text_up_to-none list pdu (place + 1) (last - (place + 1)) last (omega arith) (next ∙ ap₂ append_texts has.told none)

  pub whole_group : (last : ℕ) (text : List ℕ) → place ≡ last → encode_utf8_all text ≡ bytes → Some text ≡ text_up_to list pdu last
  whole_group last text end is = ap Some (encodes_same text has.chars (is ∙ has.is_written)) ∙ sym has.told ∙ ap (text_up_to list pdu) end

pub told_at : (list : List Pdu) (pdu : Pdu) (place : ℕ) (found : Option Pdu) → found ≡ find (is_at pdu place) list → option_and_then (λ other. written other.body) found ≡ text_at list pdu place
told_at list pdu place found is = ap (option_and_then (λ (other : Pdu). written other.body)) is

pub whole-some : (list : List Pdu) (pdu : Pdu) (text address : List ℕ) → whole_text list pdu ≡ Some text → address ≡ pdu.address → whole list pdu ≡ Some (record { address = address; text = text })
whole-some list pdu text address told is = rw (told, is) refl

pub whole-none : (list : List Pdu) (pdu : Pdu) → whole_text list pdu ≡ None → whole list pdu ≡ None
whole-none list pdu told = rw told refl

-- a message whose text is found is added
pub joined-more : (list : List Pdu) (index : ℕ) (pdu : Pdu) → index < length list → pdu ≡ get_or list index pdu → has_group (take index list) pdu ≡ false
    → (text address : List ℕ) → whole_text list pdu ≡ Some text → address ≡ pdu.address → (before now : List Joined) → before ≡ filter_map (whole list) (firsts (take index list))
    → now ≡ before ++ record { address = address; text = text } ∷ [] → now ≡ filter_map (whole list) (firsts (take (index + 1) list))
joined-more list index pdu within is new text address told same before now held pushed = pushed ∙ joined-some list index pdu within is new (record { address = address; text = text }) (whole-some list pdu text address told same) before held
