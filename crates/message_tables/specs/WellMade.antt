-- What holds of all tables that are read.
use Rattle.std.specs.Prelude.{◌≡◌, ◌≤◌, ◌||◌, false, List, [], ◌∷◌, ◌++◌, Bool}
use Rattle.std.specs.List.{AllByRecursion}
use Rattle.qmi_shapes.specs.WellMade.{IsWellMade}
use Rattle.message_tables.specs.Tlvs.{TlvForm, has_twice, nesting}
use Rattle.message_tables.specs.Messages.{MessageForm, is_among}

-- a TLV's form is well made, and no more than 16 formats stand inside each other in it
pub record IsSoundTlv (tlv : TlvForm) : Type 0 where
  pub well_made : IsWellMade tlv.form
  pub nests_well : nesting tlv.form ≤ 16

-- so are the TLVs of a message, and no id stands twice in a list of them
pub record IsSoundMessage (message : MessageForm) : Type 0 where
  pub input : AllByRecursion IsSoundTlv message.input
  pub output : AllByRecursion IsSoundTlv message.output
  pub input_once : has_twice message.input ≡ false
  pub output_once : has_twice message.output ≡ false

-- one of these has the service, the id and the kind of one before it
abbrev pub again_behind : List MessageForm → List MessageForm → Bool
again_behind earlier [] = false
again_behind earlier (message ∷ more) = is_among message earlier || again_behind (earlier ++ message ∷ []) more

-- each message is sound, and none has the service, the id and the kind of another
pub record AreSound (messages : List MessageForm) : Type 0 where
  pub each : AllByRecursion IsSoundMessage messages
  pub once : again_behind [] messages ≡ false
