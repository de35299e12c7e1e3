-- What the reader's state stands for.
use Rattle.std.specs.Prelude.{◌≡◌, Result, Ok, Err}
use Rattle.message_tables.specs.declared.fault.ObjectFault.{ObjectFault}
use Rattle.message_tables.specs.declared.fault.ObjectFault.TheVariants.{Member, Format, Twice, Deep, OutOfMemory}
use Rattle.message_tables.specs.declared.fault.TableFault.{TableFault}
use Rattle.message_tables.specs.declared.fault.TableFault.TheVariants as table_fault
use Rattle.message_tables.specs.declared.objects.Described as declared
use Rattle.message_tables.specs.Definitions.{named_by}
use Rattle.message_tables.specs.Objects.{Described}
use Rattle.message_tables.specs.View.{messages_in, names_in}

-- its definitions and messages are these
pub record StandsFor (state : declared.Described) (described : Described) : Type 0 where
  pub names : names_in state.definitions ≡ named_by described.definitions
  pub messages : messages_in state.tables ≡ described.messages

-- it goes on to stand for what is described, or the fault is the stated one
abbrev pub GoesOn : declared.Described → Result (Unit {0}) ObjectFault → Result Described ObjectFault → Type 0
GoesOn state (Ok done) described = (next : Described) × (described ≡ Ok next) × StandsFor state next
GoesOn state (Err (Member name)) described = described ≡ Err (Member name)
GoesOn state (Err Format) described = described ≡ Err Format
GoesOn state (Err Twice) described = described ≡ Err Twice
GoesOn state (Err Deep) described = described ≡ Err Deep
GoesOn state (Err OutOfMemory) described = Unit {0}

-- the state stands for what all objects describe, or the fault is the stated one
abbrev pub Describes : Result declared.Described TableFault → Result Described TableFault → Type 0
Describes (Ok state) described = (all : Described) × (described ≡ Ok all) × StandsFor state all
Describes (Err table_fault.Json) described = ⊥
Describes (Err (table_fault.Member object name)) described = described ≡ Err (table_fault.Member object name)
Describes (Err (table_fault.Format object)) described = described ≡ Err (table_fault.Format object)
Describes (Err (table_fault.Twice object)) described = described ≡ Err (table_fault.Twice object)
Describes (Err (table_fault.Deep object)) described = described ≡ Err (table_fault.Deep object)
Describes (Err table_fault.OutOfMemory) described = Unit {0}
