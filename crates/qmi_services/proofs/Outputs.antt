-- The TLVs of outputs, one after another.
use Rattle.std.proofs.Common.{◌≡◌, ℕ, zero, suc, ◌+◌, ◌<◌, List, [], ◌∷◌, ◌++◌, Option, length, get_or, take, map, refl, sym, ◌∙◌, ap, subst, arith, append_assoc}
use Rattle.std.proofs.lemmas.List.{append-nil, map_more, length-map, length-take-le}
use Rattle.std.specs.Prelude.{IfSome}
use Rattle.tlv_codec.specs.Tlv.{Entry, entry_text, tlv_text}
use Rattle.qmi_values.specs.Value.{Value}
use Rattle.tlv_values.specs.Spelling.{FitsTlv}
use Rattle.qmi_services.specs.Table.{Output}
use Rattle.qmi_services.specs.Modem.{FitOutputs, output_tlv, output_tlvs}

-- ---- outputs and their values ----

as_many : (outputs : List Output) (values : List (Option Value)) → FitOutputs outputs values → length outputs ≡ length values
as_many [] [] fit = refl
as_many [] (value ∷ values) fit = absurd fit
as_many (output ∷ outputs) [] fit = absurd fit
as_many (output ∷ outputs) (value ∷ values) fit = ap suc (as_many outputs values fit.1)

pub FitOutputs-length : {A B : Type 0} (view : A → Output) (see : B → Option Value) (outputs : List A) (values : List B) → FitOutputs (map view outputs) (map see values) → length outputs ≡ length values
FitOutputs-length view see outputs values fit = sym (length-map outputs view) ∙ as_many (map view outputs) (map see values) fit ∙ length-map values see

pub FitOutputs-at : {A B : Type 0} (view : A → Output) (see : B → Option Value) (outputs : List A) (values : List B) (i : ℕ) (output : A) (value : B) → FitOutputs (map view outputs) (map see values)
    → i < length outputs → output ≡ get_or outputs i output → value ≡ get_or values i value → IfSome (see value) (FitsTlv (view output).tlv.form)
FitOutputs-at view see [] values i output value fit within output_is value_is = absurd (omega arith)
FitOutputs-at view see (first ∷ outputs) [] i output value fit within output_is value_is = absurd fit
FitOutputs-at {A} {B} view see (first ∷ outputs) (given ∷ values) zero output value fit within output_is value_is =
    subst (λ (v : B). IfSome (see v) (FitsTlv (view output).tlv.form)) (sym value_is) (subst (λ (o : A). IfSome (see given) (FitsTlv (view o).tlv.form)) (sym output_is) fit.0)
FitOutputs-at view see (first ∷ outputs) (given ∷ values) (suc i) output value fit within output_is value_is = FitOutputs-at view see outputs values i output value fit.1 (omega arith) output_is value_is

-- ---- their TLVs ----

tlv_text-append : (a b : List Entry) → tlv_text (a ++ b) ≡ tlv_text a ++ tlv_text b
tlv_text-append [] b = refl
tlv_text-append (entry ∷ a) b = ap (λ (l : List ℕ). entry_text entry ++ l) (tlv_text-append a b) ∙ sym (append_assoc (entry_text entry) (tlv_text a) (tlv_text b))

output_tlvs-push : (outputs : List Output) (values : List (Option Value)) (output : Output) (value : Option Value) → length outputs ≡ length values
    → output_tlvs (outputs ++ output ∷ []) (values ++ value ∷ []) ≡ output_tlvs outputs values ++ output_tlv output value
output_tlvs-push [] [] output value size = append-nil (output_tlv output value)
output_tlvs-push [] (given ∷ values) output value size = absurd (omega arith)
output_tlvs-push (first ∷ outputs) [] output value size = absurd (omega arith)
output_tlvs-push (first ∷ outputs) (given ∷ values) output value size =
    ap (λ (l : List Entry). output_tlv first given ++ l) (output_tlvs-push outputs values output value (omega arith))
    ∙ sym (append_assoc (output_tlv first given) (output_tlvs outputs values) (output_tlv output value))

pub output_tlvs-more : {A B : Type 0} (view : A → Output) (see : B → Option Value) (outputs : List A) (values : List B) (i : ℕ) (output : A) (value : B) (old mid new : List ℕ) → i < length outputs
    → i < length values → output ≡ get_or outputs i output → value ≡ get_or values i value → mid ≡ old ++ tlv_text (output_tlvs (map view (take i outputs)) (map see (take i values)))
    → new ≡ mid ++ tlv_text (output_tlv (view output) (see value)) → new ≡ old ++ tlv_text (output_tlvs (map view (take (i + 1) outputs)) (map see (take (i + 1) values)))
output_tlvs-more {A} {B} view see outputs values i output value old mid new in_outputs in_values output_is value_is so_far added =
    let firsts : List Output = map view (take i outputs) in
    let given : List (Option Value) = map see (take i values) in
    let size : length firsts ≡ length given =
    length-map (take i outputs) view ∙ length-take-le i outputs (omega arith) ∙ sym (length-map (take i values) see ∙ length-take-le i values (omega arith)) in
    let more_outputs : map view (take (i + 1) outputs) ≡ firsts ++ view output ∷ [] = map_more view outputs i output in_outputs ∙ ap (λ (o : A). firsts ++ view o ∷ []) (sym output_is) in
    let more_values : map see (take (i + 1) values) ≡ given ++ see value ∷ [] = map_more see values i value in_values ∙ ap (λ (v : B). given ++ see v ∷ []) (sym value_is) in
    let all : output_tlvs (map view (take (i + 1) outputs)) (map see (take (i + 1) values)) ≡ output_tlvs firsts given ++ output_tlv (view output) (see value) =
    ap (λ (os : List Output). output_tlvs os (map see (take (i + 1) values))) more_outputs
    ∙ ap (λ (vs : List (Option Value)). output_tlvs (firsts ++ view output ∷ []) vs) more_values
    ∙ output_tlvs-push firsts given (view output) (see value) size in
    added
    ∙ ap (λ (l : List ℕ). l ++ tlv_text (output_tlv (view output) (see value))) so_far
    ∙ append_assoc old (tlv_text (output_tlvs firsts given)) (tlv_text (output_tlv (view output) (see value)))
    ∙ ap (λ (l : List ℕ). old ++ l) (sym (ap tlv_text all ∙ tlv_text-append (output_tlvs firsts given) (output_tlv (view output) (see value))))
