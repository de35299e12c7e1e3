-- What is printed grows message by message.
use Rattle.std.proofs.Common.{◌≡◌, ℕ, ◌+◌, ◌<◌, List, [], ◌∷◌, ◌++◌, length, take, get_or, Option, Some, None, sym, ap, ◌∙◌, append_assoc, append-nil, flat_map}
use Rattle.std.specs.List.{cons_option}
use Rattle.std.proofs.lemmas.Grind.{flat_map-append}
use Rattle.std.proofs.lemmas.List.{take_more}
use Rattle.std.proofs.lemmas.List.Elements.{filter_map-append}
use Rattle.sms_pdu.specs.declared.pdu.Pdu.{Pdu}
use Rattle.sms_pdu.specs.Reading.{pdu}
use Rattle.sms_print.specs.Printed.{message_text, read_ones, read_or_none}

module _ (bodies : List (List ℕ)) (index : ℕ) (body : List ℕ) (within : index < length bodies) (is : body ≡ get_or bodies index body) where
  one_more : take (index + 1) bodies ≡ take index bodies ++ body ∷ []
  one_more = take_more bodies index body within ∙ ap (λ (b : List ℕ). take index bodies ++ b ∷ []) (sym is)

  pub text_more : (before now next : List ℕ) → now ≡ before ++ flat_map message_text (take index bodies) → next ≡ now ++ message_text body → next ≡ before ++ flat_map message_text (take (index + 1) bodies)
  text_more before now next held added =
      added ∙ ap (λ (l : List ℕ). l ++ message_text body) held ∙ append_assoc before (flat_map message_text (take index bodies)) (message_text body)
      ∙ ap (λ (l : List ℕ). before ++ l) (
      sym (ap (flat_map message_text) one_more ∙ flat_map-append message_text (take index bodies) (body ∷ []) ∙ ap (λ (l : List ℕ). flat_map message_text (take index bodies) ++ l) (append-nil (message_text body)))
      )

  ones_more : (read : Option Pdu) → read ≡ read_or_none (pdu body) → read_ones (take (index + 1) bodies) ≡ read_ones (take index bodies) ++ cons_option read []
  ones_more read told =
      ap read_ones one_more ∙ filter_map-append (λ (bytes : List ℕ). read_or_none (pdu bytes)) (take index bodies) (body ∷ [])
      ∙ ap (λ (one : Option Pdu). read_ones (take index bodies) ++ cons_option one []) (sym told)

  pub read_more : (read : Pdu) → Some read ≡ read_or_none (pdu body) → (before now : List Pdu) → before ≡ read_ones (take index bodies) → now ≡ before ++ read ∷ [] → now ≡ read_ones (take (index + 1) bodies)
  read_more read told before now held pushed = pushed ∙ ap (λ (l : List Pdu). l ++ read ∷ []) held ∙ sym (ones_more (Some read) told)

  pub none_more : None ≡ read_or_none (pdu body) → (before : List Pdu) → before ≡ read_ones (take index bodies) → before ≡ read_ones (take (index + 1) bodies)
  none_more told before held = held ∙ sym (ones_more None told ∙ append-nil (read_ones (take index bodies)))
