-- The TLVs of an answer read in one way alone.
use Rattle.std.proofs.Common.{◌≡◌, ℕ, inl, inr, true, false, List, [], ◌∷◌, ◌++◌, Option, Some, None, refl, sym, ◌∙◌, ap}
use Rattle.tlv_codec.specs.declared.outcome.Outcome.{Outcome}
use Rattle.tlv_codec.specs.Tlv.{tlv_value}
use Rattle.tlv_codec.specs.Outcome.{outcome_in}
use Rattle.qmi_values.specs.Value.{Value}
use Rattle.qmi_values.proofs.Spellings.{one_value}
use Rattle.qmi_shapes.specs.WellMade.{IsWellMade}
use Rattle.qmi_services.specs.Table.{Output}
use Rattle.qmi_services.specs.Laws.{ReadOneWay}
use Rattle.qmi_services.specs.Answers.{IsSuccess, IsFailure, FieldValue, named, Says, AllSay, IsUnread, AnyUnread, AreWellMade, unread, failure, success, Reads}

says_once : (output : Output) (bytes : Option (List ℕ)) (a b : List FieldValue) → IsWellMade output.tlv.form → Says output bytes a → Says output bytes b → a ≡ b
says_once output None a b made (missing_a, in_a) (missing_b, in_b) = in_a ∙ sym in_b
says_once output (Some bytes) a b made (v, in_a, spelled_a) (w, in_b, spelled_b) =
    let same : v ≡ w = one_value output.tlv.form v w bytes made spelled_a spelled_b in
    in_a ∙ ap (λ (value : Value). named output value ∷ []) same ∙ sym in_b

all_once : (outputs : List Output) (tlvs : List ℕ) (a b : List FieldValue) → AreWellMade outputs → AllSay outputs tlvs a → AllSay outputs tlvs b → a ≡ b
all_once [] tlvs a b made in_a in_b = in_a ∙ sym in_b
all_once (output ∷ outputs) tlvs a b made (here_a, later_a, whole_a, say_a, rest_a) (here_b, later_b, whole_b, say_b, rest_b) =
    let here : here_a ≡ here_b = says_once output (tlv_value output.tlv.kind tlvs) here_a here_b made.0 say_a say_b in
    let later : later_a ≡ later_b = all_once outputs tlvs later_a later_b made.1 rest_a rest_b in
    whole_a ∙ ap (λ (l : List FieldValue). l ++ later_a) here ∙ ap (λ (l : List FieldValue). here_b ++ l) later ∙ sym whole_b

says_and_unread : (output : Output) (bytes : Option (List ℕ)) (fields : List FieldValue) → Says output bytes fields → IsUnread output bytes → ⊥
says_and_unread output None fields (missing, is) needed = let both : false ≡ true = sym missing ∙ needed in absurd (cc)
says_and_unread output (Some bytes) fields (value, is, spelled) nothing = nothing value spelled

say_and_unread : (outputs : List Output) (tlvs : List ℕ) (fields : List FieldValue) → AllSay outputs tlvs fields → AnyUnread outputs tlvs → ⊥
say_and_unread [] tlvs fields say none = none
say_and_unread (output ∷ outputs) tlvs fields (here, later, whole, says, rest) (inl first) = says_and_unread output (tlv_value output.tlv.kind tlvs) here says first
say_and_unread (output ∷ outputs) tlvs fields (here, later, whole, says, rest) (inr any) = say_and_unread outputs tlvs later rest any

abbrev status_of : Option Outcome → ℕ
status_of None = 0
status_of (Some outcome) = outcome.status

abbrev error_of : Option Outcome → ℕ
error_of None = 0
error_of (Some outcome) = outcome.error

there_and_not : (outcome : Option Outcome) (o : Outcome) → outcome ≡ None → outcome ≡ Some o → ⊥
there_and_not outcome o none some = let both : None ≡ Some o = sym none ∙ some in absurd (cc)

good_and_failed : (tlvs : List ℕ) (error : ℕ) → IsSuccess tlvs → IsFailure tlvs error → ⊥
good_and_failed tlvs error (e, good) (status, bad, is) = bad (sym (ap status_of is) ∙ ap status_of good)

unread_and_failed : (outputs : List Output) (tlvs : List ℕ) (error : ℕ) → Reads outputs tlvs unread → Reads outputs tlvs (failure error) → ⊥
unread_and_failed outputs tlvs error (inl none) (status, bad, is) = there_and_not (outcome_in tlvs) (record { status = status; error = error }) none is
unread_and_failed outputs tlvs error (inr (good, any)) failed = good_and_failed tlvs error good failed

unread_and_good : (outputs : List Output) (tlvs : List ℕ) (fields : List FieldValue) → Reads outputs tlvs unread → Reads outputs tlvs (success fields) → ⊥
unread_and_good outputs tlvs fields (inl none) ((e, is), say) = there_and_not (outcome_in tlvs) (record { status = 0; error = e }) none is
unread_and_good outputs tlvs fields (inr (good, any)) (is, say) = say_and_unread outputs tlvs fields say any

one_error : (tlvs : List ℕ) (d e : ℕ) → IsFailure tlvs d → IsFailure tlvs e → d ≡ e
one_error tlvs d e (s, bad, in_d) (t, worse, in_e) = sym (ap error_of in_d) ∙ ap error_of in_e

pub one_way : ReadOneWay
one_way outputs tlvs unread unread made a b = refl
one_way outputs tlvs unread (failure e) made a b = absurd (unread_and_failed outputs tlvs e a b)
one_way outputs tlvs unread (success g) made a b = absurd (unread_and_good outputs tlvs g a b)
one_way outputs tlvs (failure d) unread made a b = absurd (unread_and_failed outputs tlvs d b a)
one_way outputs tlvs (failure d) (failure e) made a b = ap failure (one_error tlvs d e a b)
one_way outputs tlvs (failure d) (success g) made a b = absurd (good_and_failed tlvs d b.0 a)
one_way outputs tlvs (success f) unread made a b = absurd (unread_and_good outputs tlvs f b a)
one_way outputs tlvs (success f) (failure e) made a b = absurd (good_and_failed tlvs e a.0 b)
one_way outputs tlvs (success f) (success g) made a b = ap success (all_once outputs tlvs f g made a.1 b.1)
