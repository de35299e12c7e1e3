-- What shapes stand for, and which of them are well made.
use Rattle.std.proofs.Common.{◌≡◌, ℕ, List, [], ◌∷◌, ◌++◌, sym, ◌∙◌, rules, Box, Global}
use Rattle.qmi_shapes.specs.Form.{unsigned, signed, string, array, sequence}
use Rattle.qmi_shapes.specs.View.{NamedForm, fields_of, shape_view, field_view, fields_view}
use Rattle.qmi_shapes.specs.WellMade.{IsPart, AreParts}
use Rattle.qmi_shapes.specs.declared.shape.Prefix.{Prefix}
use Rattle.qmi_shapes.specs.declared.shape.Shape.{Shape, U, I, Str, List as ListOf, List', Seq, the_lemmas}
use Rattle.qmi_shapes.specs.declared.shape.ShapeField.{ShapeField, out-ShapeField}
use Rattle.qmi_shapes.specs.declared.shape.ShapeFields.{ShapeFields}

pub view-U : (bytes : ℕ) → shape_view (U bytes) ≡ unsigned bytes
view-U bytes = search (rules, the_lemmas)

pub view-I : (bytes : ℕ) → shape_view (I bytes) ≡ signed bytes
view-I bytes = search (rules, the_lemmas)

pub view-Str : (prefix : Prefix) → shape_view (Str prefix) ≡ string prefix
view-Str prefix = search (rules, the_lemmas)

pub view-List : (prefix : Prefix) (element : Box Shape Global) → shape_view (ListOf prefix element) ≡ array prefix (shape_view element.value)
view-List prefix element = search (rules, the_lemmas)

pub view-Seq : (fields : ShapeFields) → shape_view (Seq fields) ≡ sequence (fields_view fields)
view-Seq fields = search (rules, the_lemmas)

pub view-field : (f : ShapeField) → field_view f ≡ record { name = (out-ShapeField f).name; form = shape_view (out-ShapeField f).shape }
view-field f = search (rules, the_lemmas)

pub view-form : (f : ShapeField) → (field_view f).form ≡ shape_view f.shape
view-form f = search (rules, the_lemmas)

pub ruleset shape_views = (view-U, view-I, view-Str, view-List, view-Seq, view-field)

pub AreParts-push : (named : List NamedForm) (last : NamedForm) → AreParts (fields_of named) → IsPart last.form → AreParts (fields_of (named ++ last ∷ []))
AreParts-push [] last all is = (is, tt)
AreParts-push (first ∷ named) last all is = (all.0, AreParts-push named last all.1 is)

-- a shape stands for a text only if it is one
pub view-string : (s : Shape) (prefix : Prefix) → shape_view s ≡ string prefix → s ≡ Str prefix
view-string (U n) prefix is = absurd (let h = sym (view-U n) ∙ is in cc)
view-string (I n) prefix is = absurd (let h = sym (view-I n) ∙ is in cc)
view-string (Str p) prefix is = let h = sym (view-Str p) ∙ is in cc
view-string (List' p pointer element) prefix is =
    absurd (let h = sym (view-List p (record { ptr = pointer.ptr; alloc = pointer.alloc; value = element })) ∙ is in cc)
view-string (Seq fields) prefix is = absurd (let h = sym (view-Seq fields) ∙ is in cc)
