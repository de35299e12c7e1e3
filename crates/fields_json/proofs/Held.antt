-- What an object's members hold of the fields that were put.
use Rattle.std.proofs.Common.{◌≡◌, ℕ, ◌+◌, ◌&&◌, not, Bool, true, false, true≢false, List, [], ◌∷◌, Option, Some, codes, encode_utf8_all, bytes_eq, refl, sym, ap, ◌∙◌, subst, if◌then◌else◌}
use Rattle.std.proofs.lemmas.Bool.{and_parts}
use Rattle.std.proofs.lemmas.Slice.Eq.{bytes_eq-Decides}
use Rattle.serde_json.specs.Data.{Data, string as quoted, Members, no_members, put}
use Rattle.serde_json.specs.Find.{get_member}
use Rattle.serde_json.proofs.Views.{get_member-put, get_member-put_other}
use Rattle.mbim_fields.specs.Layout.{Layout, no_fields, field}
use Rattle.mbim_fields.specs.Value.{Value}
use Rattle.mbimcli_print.specs.Printed.{is_count}
use Rattle.json_values.specs.Json.{word_key, with_word}
use Rattle.json_values.proofs.JsonMembers.{longer, with_word-other}
use Rattle.fields_json.specs.Json.{form_json, word_of, with_field, with_fields}
use Rattle.fields_json.specs.Answers.{success_members}
use Rattle.fields_json.specs.Apart.{is_apart, has_names_apart, are_named_apart}
use Rattle.fields_json.proofs.Parts.{or_null}

not_same : (a b : List ℕ) → not (bytes_eq a b) ≡ true → ¬ (a ≡ b)
not_same a b isnt same = true≢false (sym (sym (ap not ((bytes_eq-Decides a b).1 same)) ∙ isnt))

-- ---- other names ----

skipped-other : (b : Bool) (q key : List ℕ) (word : Option (List ℕ)) (json : Data) (so_far : Members) → ¬ (q ≡ key) → ¬ (q ≡ word_key key)
    → get_member q (if b then so_far else with_word key word (put key json so_far)) ≡ get_member q so_far
skipped-other true q key word json so_far apart unlike = refl
skipped-other false q key word json so_far apart unlike = with_word-other q key word (put key json so_far) unlike ∙ get_member-put_other q key json so_far apart

with_fields-other : (layout : Layout) (place : ℕ) (values : List Value) (so_far : Members) (q : List ℕ) → is_apart q layout ≡ true → get_member q (with_fields layout place values so_far) ≡ get_member q so_far
with_fields-other no_fields place values so_far q apart = refl
with_fields-other (field name form more) place [] so_far q apart = refl
with_fields-other (field name form more) place (value ∷ values) so_far q apart =
    let key : List ℕ = encode_utf8_all name in
    let here : Members = if is_count place more then so_far else with_field key form value so_far in
    let p = and_parts (not (bytes_eq q key)) (not (bytes_eq q (word_key key)) && is_apart q more) apart in
    let r = and_parts (not (bytes_eq q (word_key key))) (is_apart q more) p.1 in
    with_fields-other more (place + 1) values here q r.1 ∙ skipped-other (is_count place more) q key (word_of key value) (form_json form value) so_far (not_same q key p.0) (not_same q (word_key key) r.0)

-- ---- own names ----

own : (b : Bool) (key : List ℕ) (word : Option (List ℕ)) (json : Data) (so_far : Members) → b ≡ false → get_member key (if b then so_far else with_word key word (put key json so_far)) ≡ Some json
own true key word json so_far isnt = absurd (true≢false isnt)
own false key word json so_far isnt = with_word-other key key word (put key json so_far) (longer key) ∙ get_member-put key json so_far

-- each field's value stands under its name, but for those that count
abbrev HeldIn : Layout → ℕ → List Value → Members → Type 0
HeldIn (field name form more) place (value ∷ values) held =
    (is_count place more ≡ false → get_member (encode_utf8_all name) held ≡ Some (form_json form value)) × HeldIn more (place + 1) values held
HeldIn _ place values held = Unit {0}

fields_held : (layout : Layout) (place : ℕ) (values : List Value) (so_far : Members) → are_named_apart layout ≡ true → HeldIn layout place values (with_fields layout place values so_far)
fields_held no_fields place values so_far apart = tt
fields_held (field name form more) place [] so_far apart = tt
fields_held (field name form more) place (value ∷ values) so_far apart =
    let key : List ℕ = encode_utf8_all name in
    let here : Members = if is_count place more then so_far else with_field key form value so_far in
    let p = and_parts (is_apart key more) (has_names_apart form && are_named_apart more) apart in
    let r = and_parts (has_names_apart form) (are_named_apart more) p.1 in
    ((λ isnt. with_fields-other more (place + 1) values here key p.0 ∙ own (is_count place more) key (word_of key value) (form_json form value) so_far isnt), fields_held more (place + 1) values here r.1)

-- also beside the result
ended_held : (layout : Layout) (place : ℕ) (values : List Value) (held : Members) → is_apart (codes "result") layout ≡ true → HeldIn layout place values held
    → HeldIn layout place values (put (codes "result") (quoted (codes "ok")) held)
ended_held no_fields place values held apart all = tt
ended_held (field name form more) place [] held apart all = tt
ended_held (field name form more) place (value ∷ values) held apart all =
    let key : List ℕ = encode_utf8_all name in
    let p = and_parts (not (bytes_eq (codes "result") key)) (not (bytes_eq (codes "result") (word_key key)) && is_apart (codes "result") more) apart in
    let r = and_parts (not (bytes_eq (codes "result") (word_key key))) (is_apart (codes "result") more) p.1 in
    ((λ isnt. get_member-put_other key (codes "result") (quoted (codes "ok")) held (λ same. not_same (codes "result") key p.0 (sym same)) ∙ all.0 isnt), ended_held more (place + 1) values held r.1 all.1)

-- ---- two lists of values ----

-- the JSON of each field that doesn't count is the same
abbrev pub SameJson : Layout → ℕ → List Value → List Value → Type 0
SameJson (field name form more) place (v ∷ vs) (w ∷ ws) = (is_count place more ≡ false → form_json form v ≡ form_json form w) × SameJson more (place + 1) vs ws
SameJson _ place vs ws = Unit {0}

same_held : (layout : Layout) (place : ℕ) (vs ws : List Value) (held : Members) → HeldIn layout place vs held → HeldIn layout place ws held → SameJson layout place vs ws
same_held no_fields place vs ws held one other = tt
same_held (field name form more) place [] ws held one other = tt
same_held (field name form more) place (v ∷ vs) [] held one other = tt
same_held (field name form more) place (v ∷ vs) (w ∷ ws) held one other = ((λ isnt. ap or_null (sym (one.0 isnt) ∙ other.0 isnt)), same_held more (place + 1) vs ws held one.1 other.1)

pub fields_same : (layout : Layout) (place : ℕ) (vs ws : List Value) → are_named_apart layout ≡ true → with_fields layout place vs no_members ≡ with_fields layout place ws no_members → SameJson layout place vs ws
fields_same layout place vs ws apart same =
    same_held layout place vs ws (with_fields layout place vs no_members) (fields_held layout place vs no_members apart)
    (subst (λ (m : Members). HeldIn layout place ws m) (sym same) (fields_held layout place ws no_members apart))

pub success_same : (layout : Layout) (vs ws : List Value) → are_named_apart layout ≡ true → is_apart (codes "result") layout ≡ true → success_members layout vs ≡ success_members layout ws → SameJson layout 0 vs ws
success_same layout vs ws apart result same =
    same_held layout 0 vs ws (success_members layout vs) (ended_held layout 0 vs (with_fields layout 0 vs no_members) result (fields_held layout 0 vs no_members apart))
    (subst (λ (m : Members). HeldIn layout 0 ws m) (sym same) (ended_held layout 0 ws (with_fields layout 0 ws no_members) result (fields_held layout 0 ws no_members apart)))
