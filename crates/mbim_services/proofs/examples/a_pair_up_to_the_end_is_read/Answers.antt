use Rattle.std.proofs.Common.{◌≡◌, ℕ, List, [], ◌∷◌, Some, Ok, refl, ◌∙◌, ap}
use Rattle.kit_bytes.proofs.RoundTrips.{reads_written}
use Rattle.mbim_fields.specs.Value.{Value, number, text_of}
use Rattle.mbim_fields.specs.Reading.{Read, and_then, text_in}
use Rattle.mbim_fields.proofs.Agreement.{text_in-is}
use Rattle.mbim_services.specs.Table.{layout_for}
use Rattle.mbim_services.proofs.examples.a_pair_up_to_the_end_is_read.Goals as goal

text_is : text_in (65 ∷ 0 ∷ []) 16 ≡ Ok (text_of (65 ∷ []))
text_is = let back = reads_written (65 ∷ []) refl in text_in-is (65 ∷ 0 ∷ []) 16 back.0 ∙ ap (λ (chars : List ℕ). Ok (text_of chars)) back.1

pub returns : goal.returns
unfolding layout_for
returns c = ap (λ (r : Read Value). Some (and_then r (λ value. Ok (number 0 ∷ number 0 ∷ number 0 ∷ number 0 ∷ value ∷ [])))) text_is
