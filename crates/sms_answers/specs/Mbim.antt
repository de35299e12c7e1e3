-- The short messages in an answer of an MBIM modem.
-- Source: the USB-IF MBIM specification 1.0, MBIM_SMS_READ_INFO and MBIM_SMS_PDU_RECORD.
use Rattle.std.specs.Prelude.{ℕ, List, [], ◌∷◌, Option, Some, None}
use Rattle.std.specs.List.{flat_map}
use Rattle.mbim_fields.specs.Value.{Value, Values, list_of, as_elements, as_members, as_octets}
use Rattle.mbim_fields.specs.View.{val_view}
use Rattle.mbim_services.specs.declared.answers.MbimAnswer.{MbimAnswer}
use Rattle.mbim_services.specs.declared.answers.MbimAnswer.TheVariants.{Success, Failure}

abbrev pub octets_body : (octets : Option (List ℕ)) → List (List ℕ)
octets_body (Some octets) = octets ∷ []
octets_body None = []

-- a message is an index, a status and a body
abbrev pub body_in : List Value → List (List ℕ)
body_in (index ∷ status ∷ body ∷ []) = octets_body (as_octets body)
body_in _ = []

abbrev pub members_body : Option Values → List (List ℕ)
members_body (Some members) = body_in (list_of members)
members_body None = []

abbrev pub body_of : Value → List (List ℕ)
body_of message = members_body (as_members message)

abbrev pub bodies_of : Option Values → List (List ℕ)
bodies_of (Some messages) = flat_map body_of (list_of messages)
bodies_of None = []

-- an answer to SMS Read is a format, a count and messages
abbrev pub bodies_in : List Value → List (List ℕ)
bodies_in (format ∷ count ∷ messages ∷ []) = bodies_of (as_elements messages)
bodies_in _ = []

-- those of the messages that an answer holds
unfoldable pub mbim_bodies : MbimAnswer → List (List ℕ)
mbim_bodies (Success shape val) = bodies_in (list_of (val_view val))
mbim_bodies (Failure status) = []
