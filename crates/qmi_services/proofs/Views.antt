-- What formats stand for.
use Rattle.std.proofs.Common.{◌≡◌, ℕ, List, map, chars, rules, Bor}
use Rattle.qmi_services.specs.Table.{u8, u16, u32, i8, text, text8, list8, list16, list32, fields}
use Rattle.qmi_services.specs.View.{format_view, field_format_view}
use Rattle.qmi_services.specs.declared.table.Format.{Format, U8, U16, U32, I8, Text, Text8, List8, List16, List32, Sequence, the_lemmas}
use Rattle.qmi_services.specs.declared.table.FieldFormat.{FieldFormat, roll-FieldFormat}

pub view-U8 : format_view U8 ≡ u8
view-U8 = search (rules, the_lemmas)

pub view-U16 : format_view U16 ≡ u16
view-U16 = search (rules, the_lemmas)

pub view-U32 : format_view U32 ≡ u32
view-U32 = search (rules, the_lemmas)

pub view-I8 : format_view I8 ≡ i8
view-I8 = search (rules, the_lemmas)

pub view-Text : format_view Text ≡ text
view-Text = search (rules, the_lemmas)

pub view-Text8 : format_view Text8 ≡ text8
view-Text8 = search (rules, the_lemmas)

pub view-List8 : (element : Bor Format) → format_view (List8 element) ≡ list8 (format_view element.now)
view-List8 element = search (rules, the_lemmas)

pub view-List16 : (element : Bor Format) → format_view (List16 element) ≡ list16 (format_view element.now)
view-List16 element = search (rules, the_lemmas)

pub view-List32 : (element : Bor Format) → format_view (List32 element) ≡ list32 (format_view element.now)
view-List32 element = search (rules, the_lemmas)

pub view-Sequence : (parts : Bor (List FieldFormat)) → format_view (Sequence parts) ≡ fields (map field_format_view parts.now)
view-Sequence parts = search (rules, the_lemmas)

pub view-field : (name : Bor (List ℕ)) (format : Format) → field_format_view (roll-FieldFormat (name, format)) ≡ record { name = chars name.now; form = format_view format }
view-field name format = search (rules, the_lemmas)

pub ruleset format_views = (view-U8, view-U16, view-U32, view-I8, view-Text, view-Text8, view-List8, view-List16, view-List32, view-Sequence, view-field)
