-- Requests of two messages of libqmi's descriptions, and what is refused.
-- Source: `Verify PIN` in libqmi's data/qmi-service-uim.json, and `Register Indications` in data/qmi-service-nas.json.
use Rattle.std.specs.Prelude.{◌≡◌, ℕ, List, [], ◌∷◌, codes, Ok, Err}
use Rattle.serde_json.specs.Data.{unsigned as natural, number as numeral, string as quoted, object, Members, no_members, member}
use Rattle.qmi_shapes.specs.declared.shape.Prefix.TheVariants.{Counted}
use Rattle.qmi_shapes.specs.Form.{unsigned, string, array, sequence, no_fields, field}
use Rattle.message_tables.specs.Tlvs.{TlvForm, tlv_with}
use Rattle.json_values.specs.declared.path.Step.TheVariants.{Member}
use Rattle.table_requests.specs.declared.request_fault.RequestFault.TheVariants.{Json, NoTlv, Misfit}
use Rattle.table_requests.specs.Requests.{request_of}

-- ---- a PIN ----

abbrev pub verify_pin : List TlvForm
verify_pin =
    tlv_with (codes "Session") (sequence (field (codes "Session Type") (unsigned 1) (field (codes "Application Identifier") (array (Counted 1) (unsigned 1)) no_fields))) 0x01
    ∷ tlv_with (codes "Info") (sequence (field (codes "PIN ID") (unsigned 1) (field (codes "PIN Value") (string (Counted 1)) no_fields))) 0x02
    ∷ tlv_with (codes "Response In Indication Token") (unsigned 4) 0x12 ∷ []

-- "NAME": {"PIN ID": ID, "PIN Value": "1234"}
abbrev pub pin_member : List ℕ → ℕ → Members → Members
pin_member name id = member name (object (member (codes "PIN ID") (numeral (natural id)) (member (codes "PIN Value") (quoted (codes "1234")) no_members)))

-- {"Info": {..}}
abbrev pub GivesPin : Type 0
GivesPin = request_of verify_pin (object (pin_member (codes "Info") 1 no_members)) ≡ Ok (0x02 ∷ 0x06 ∷ 0x00 ∷ 0x01 ∷ 0x04 ∷ 0x31 ∷ 0x32 ∷ 0x33 ∷ 0x34 ∷ [])

-- an id of 256, which has no byte
abbrev pub RefusesWideId : Type 0
RefusesWideId = request_of verify_pin (object (pin_member (codes "Info") 256 no_members)) ≡ Err (Misfit (Member (codes "Info") ∷ Member (codes "PIN ID") ∷ []))

-- {"Infos": {..}}
abbrev pub RefusesOtherName : Type 0
RefusesOtherName = request_of verify_pin (object (pin_member (codes "Infos") 1 no_members)) ≡ Err (NoTlv (codes "Infos"))

abbrev pub RefusesNumber : Type 0
RefusesNumber = request_of verify_pin (numeral (natural 1)) ≡ Err Json

-- ---- indications ----

-- a TLV that switches something on or off
abbrev pub switch : List ℕ → ℕ → TlvForm
switch name kind = tlv_with name (unsigned 1) kind

abbrev pub register_indications : List TlvForm
register_indications =
    switch (codes "System Selection Preference") 0x10 ∷ switch (codes "DDTM Events") 0x12 ∷ switch (codes "Serving System Events") 0x13 ∷ switch (codes "Dual Standby Preference") 0x14
    ∷ switch (codes "Subscription Info") 0x15 ∷ switch (codes "Network Time") 0x17 ∷ switch (codes "System Info") 0x18 ∷ switch (codes "Signal Info") 0x19
    ∷ switch (codes "Error Rate") 0x1a ∷ switch (codes "HDR New UATI Assigned") 0x1b ∷ switch (codes "HDR Session Closed") 0x1c ∷ switch (codes "Managed Roaming") 0x1d
    ∷ switch (codes "Current PLMN Name") 0x1e ∷ switch (codes "eMBMS Status") 0x1f ∷ switch (codes "RF Band Information") 0x20
    ∷ tlv_with (codes "Network Reject Information")
    (sequence (field (codes "Enable Network Reject Indications") (unsigned 1) (field (codes "Supress System Info Indications") (unsigned 1) no_fields))) 0x21 ∷ []

-- {"Signal Info": 1, "Serving System Events": 0}: in the order of the message
abbrev pub GivesRegistration : Type 0
GivesRegistration =
    request_of register_indications
    (object (member (codes "Signal Info") (numeral (natural 1)) (member (codes "Serving System Events") (numeral (natural 0)) no_members)))
    ≡ Ok (0x13 ∷ 0x01 ∷ 0x00 ∷ 0x00 ∷ 0x19 ∷ 0x01 ∷ 0x00 ∷ 0x01 ∷ [])
