-- The services that a client subscribes to from the start, by the bytes of their UUIDs.
-- Source: the USB-IF MBIM specification 1.0, section 10.
use Rattle.std.specs.Prelude.{ℕ, List, [], ◌∷◌, None}
use Rattle.kit_bytes.specs.declared.services.TheConstants.{BASIC_CONNECT, SMS, USSD, PHONEBOOK, STK}
use Rattle.kit_bytes.specs.Subscriptions.{Pair}

-- all CIDs of five of the specification's services, and none of AUTH and DSS
abbrev pub starting_list : List Pair
starting_list = (PHONEBOOK, None) ∷ (SMS, None) ∷ (BASIC_CONNECT, None) ∷ (STK, None) ∷ (USSD, None) ∷ []
