-- The short messages in an answer of a QMI modem.
-- Source: libqmi's data/qmi-service-wms.json, the output of Raw Read, and its QmiWmsMessageFormat, where 6 is GSM_WCDMA_POINT_TO_POINT.
use Rattle.std.specs.Prelude.{ℕ, ◌%◌, ◌==◌, Bool, false, List, [], ◌∷◌, Option, Some, None, if◌then◌else◌}
use Rattle.std.specs.List.{flat_map}
use Rattle.qmi_values.specs.Value.{Value, Values, number, list_of, number_in, elements_in, members_in}
use Rattle.qmi_services.specs.Answers.{FieldValue, fields_view}
use Rattle.qmi_services.specs.declared.answers.QmiAnswer.{QmiAnswer}
use Rattle.qmi_services.specs.declared.answers.QmiAnswer.TheVariants.{Success, Failure}
use Rattle.qmi_services.specs.declared.answers.QmiEnd.{QmiEnd}

-- the octets of a list are its numbers
abbrev pub octet_of : Value → List ℕ
octet_of (number n) = n % 256 ∷ []
octet_of _ = []

abbrev pub octets_body : (octets : Option Values) → List (List ℕ)
octets_body (Some octets) = flat_map octet_of (list_of octets) ∷ []
octets_body None = []

-- only this format is a PDU of 3GPP
abbrev pub is_pdu : (format : Option ℕ) → Bool
is_pdu (Some format) = format == 6
is_pdu None = false

-- a message is a tag, a format and octets
abbrev pub body_in : List Value → List (List ℕ)
body_in (tag ∷ format ∷ octets ∷ []) = if is_pdu (number_in format) then octets_body (elements_in octets) else []
body_in _ = []

abbrev pub members_body : Option Values → List (List ℕ)
members_body (Some values) = body_in (list_of values)
members_body None = []

abbrev pub field_body : FieldValue → List (List ℕ)
field_body field = members_body (members_in field.value)

abbrev pub bodies_in : QmiAnswer → List (List ℕ)
bodies_in (Success fields) = flat_map field_body (fields_view fields)
bodies_in (Failure error) = []

-- those of the messages that an end holds
unfoldable pub qmi_bodies : QmiEnd → List (List ℕ)
qmi_bodies end = bodies_in end.answer
