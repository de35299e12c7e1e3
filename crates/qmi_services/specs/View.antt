-- What the table of the code stands for.
use Rattle.std.specs.Prelude.{map, chars, true, false}
use Rattle.qmi_shapes.specs.Form.{Form}
use Rattle.qmi_shapes.specs.View.{NamedForm}
use Rattle.message_tables.specs.Tlvs.{TlvForm}
use Rattle.qmi_services.specs.declared.table.Format.{Format, Format-F, fold-Format}
use Rattle.qmi_services.specs.declared.table.Format.TheOpen.{U8, U16, U32, I8, Text, Text8, List8, List16, List32, Sequence}
use Rattle.qmi_services.specs.declared.table.FieldFormat.{FieldFormat, FieldFormat-F, fold-FieldFormat}
use Rattle.qmi_services.specs.declared.table.TlvFormat.{TlvFormat}
use Rattle.qmi_services.specs.declared.table.Output as declared
use Rattle.qmi_services.specs.declared.table.Output.TheVariants.{Needed, Optional}
use Rattle.qmi_services.specs.declared.table.Row as declared_row
use Rattle.qmi_services.specs.Table.{Output, Row, u8, u16, u32, i8, text, text8, list8, list16, list32, fields}

-- ---- one level, with what is inside already seen as what it stands for ----

abbrev pub format_step : Format-F Form NamedForm → Form
format_step U8 = u8
format_step U16 = u16
format_step U32 = u32
format_step I8 = i8
format_step Text = text
format_step Text8 = text8
format_step (List8 element) = list8 element.now
format_step (List16 element) = list16 element.now
format_step (List32 element) = list32 element.now
format_step (Sequence parts) = fields parts.now

abbrev pub field_step : FieldFormat-F Form NamedForm → NamedForm
field_step f = record { name = chars f.0.now; form = f.1 }

-- ---- all levels ----

abbrev pub format_view : Format → Form
format_view = fold-Format Form NamedForm format_step field_step

abbrev pub field_format_view : FieldFormat → NamedForm
field_format_view = fold-FieldFormat Form NamedForm format_step field_step

abbrev pub tlv_view : TlvFormat → TlvForm
tlv_view tlv = record { kind = tlv.0; name = chars tlv.1.now; form = format_view tlv.2 }

abbrev pub output_view : declared.Output → Output
output_view (Needed tlv) = record { needed = true; tlv = tlv_view tlv }
output_view (Optional tlv) = record { needed = false; tlv = tlv_view tlv }

abbrev pub row_view : declared_row.Row → Row
row_view row = record {
  service = row.service;
  id = row.id;
  name = chars row.name.now;
  input = map tlv_view row.input.now;
  output = map output_view row.output.now;
  indicated = row.indicated;
}
