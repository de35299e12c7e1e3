-- What the tables stand for, without the memory that they take.
use Rattle.std.specs.Prelude.{List, option_map, map}
use Rattle.indexmap.specs.IndexMap.{get_by_text}
use Rattle.qmi_shapes.specs.View.{shape_view}
use Rattle.message_tables.specs.declared.tlv.TlvShape.{TlvShape}
use Rattle.message_tables.specs.declared.tlv.TlvShapes.{TlvShapes}
use Rattle.message_tables.specs.declared.message.Message.{Message}
use Rattle.message_tables.specs.declared.definitions.Definition as declared
use Rattle.message_tables.specs.declared.definitions.Definitions.{Definitions}
use Rattle.message_tables.specs.Definitions.{Definition, Names}
use Rattle.message_tables.specs.Tlvs.{TlvForm}
use Rattle.message_tables.specs.Messages.{MessageForm}

abbrev pub tlv_view : TlvShape → TlvForm
tlv_view tlv = record { kind = tlv.kind; name = tlv.name; form = shape_view tlv.shape }

abbrev pub tlvs_view : TlvShapes → List TlvForm
tlvs_view list = map tlv_view list.tlvs.items

abbrev pub message_view : Message → MessageForm
message_view message = record {
  name = message.name;
  service = message.service;
  id = message.id;
  indication = message.indication;
  input = tlvs_view message.input;
  output = tlvs_view message.output;
}

-- the messages of tables, in their order
abbrev pub messages_in : List Message → List MessageForm
messages_in tables = map message_view tables

abbrev pub definition_view : declared.Definition → Definition
definition_view definition = record { name = definition.name; id = definition.id; form = shape_view definition.shape }

-- what each name stands for
unfoldable pub names_in : Definitions → Names
names_in definitions name = option_map definition_view (get_by_text definitions.named name)
