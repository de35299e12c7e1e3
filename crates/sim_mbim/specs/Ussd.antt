-- What the modem answers to the one command of the service USSD.
-- Source: the USB-IF MBIM specification 1.0, section 10.7.
use Rattle.std.specs.Prelude.{ℕ, ◌==◌, ◌&&◌, nat_le, List, [], ◌∷◌, Option, Some, None, if◌then◌else◌}
use Rattle.mbim_fields.specs.Value.{Value, number, octets}
use Rattle.mbim_services.specs.Table as table
use Rattle.sim_mbim.specs.Values.{number_at, octets_at, zero}

-- MBIM_USSD_ACTION: MBIMUSSDInitiate is 0, MBIMUSSDContinue 1 and MBIMUSSDCancel 2
abbrev pub last_action : ℕ
last_action = 2

-- the coding and the payload come back
abbrev pub exchange : (action scheme : ℕ) → (payload : List ℕ) → Option (List Value)
exchange action scheme payload = if nat_le action last_action then Some (zero ∷ zero ∷ number scheme ∷ octets payload ∷ []) else None

-- a set, which changes nothing
abbrev pub answer_to_set : (cid : ℕ) → List Value → Option (List Value)
answer_to_set cid asked = if cid == table.ussd_exchange.cid then exchange (number_at asked 0) (number_at asked 1) (octets_at asked 2) else None
