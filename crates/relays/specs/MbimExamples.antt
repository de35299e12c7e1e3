-- What a proxy meets where one MBIM tool asks alone, byte for byte. A story is told in its order; lists of events have the newest first.
-- Source of the bytes: the USB-IF MBIM specification 1.0, sections 9.3 and 9.4, by hand.
use Rattle.std.specs.Prelude.{◌≡◌, Bool, true, false, List, [], ◌∷◌, ◌++◌, reverse, codes}
use Rattle.kit_bytes.specs.Hex.{hex}
use Rattle.modem_profile.specs.Profile.{default_profile}
use Rattle.modem_profile.specs.Limits.{IsWithin}
use Rattle.proxy_history.specs.Events.{Event, Joined, Piece, ModemPiece, Took, ModemTook}
use Rattle.mbim_requests.specs.declared.MbimRequest.{MbimRequest}
use Rattle.mbim_requests.specs.declared.MbimRequest.TheVariants as request
use Rattle.mbim_session.specs.declared.plan.MbimPlan.{MbimPlan}
use Rattle.relays.specs.MbimRuns.{relay}
use Rattle.relays.specs.MbimLaw.{IsPlan}

abbrev pub plan_of : (close : Bool) → MbimRequest → MbimPlan
plan_of close asked = record { device = codes "rig"; proxied = false; close = close; timeout = 30; request = asked }

-- the tool names the device, which the proxy answers by itself; it opens it under number 2, and the proxy opens the modem under number 1
abbrev pub opens : List Event
opens =
    Joined 1
    ∷ Piece 1 (hex (codes "03 00 00 00 44 00 00 00 01 00 00 00 01 00 00 00 00 00 00 00 83 8C F7 FB 8D 0D 4D 7F 87 1E D7 1D BE FB B3 9B 01 00 00 00 01 00 00 00 14 00 00 00 0C 00 00 00 06 00 00 00 1E 00 00 00 72 00 69 00 67 00 00 00")) ∷ Took 1 48
    ∷ Piece 1 (hex (codes "01 00 00 00 10 00 00 00 02 00 00 00 00 10 00 00")) ∷ ModemTook 16
    ∷ ModemPiece (hex (codes "01 00 00 80 10 00 00 00 01 00 00 00 00 00 00 00")) ∷ Took 1 16 ∷ []

-- it closes, and the proxy asks the modem for no indications any more before the tool takes its answer
abbrev pub closes : List Event
closes =
    Piece 1 (hex (codes "02 00 00 00 0C 00 00 00 04 00 00 00")) ∷ ModemTook 52
    ∷ ModemPiece (hex (codes "03 00 00 80 34 00 00 00 03 00 00 00 01 00 00 00 00 00 00 00 A2 89 CC 33 BC BB 8B 4F B6 B0 13 3E C2 AA E6 DF 13 00 00 00 00 00 00 00 04 00 00 00 00 00 00 00")) ∷ Took 1 16 ∷ []

-- the radio is asked for under number 3, which the proxy makes 2
abbrev pub radio : List Event
radio =
    reverse (opens
    ++ Piece 1 (hex (codes "03 00 00 00 30 00 00 00 03 00 00 00 01 00 00 00 00 00 00 00 A2 89 CC 33 BC BB 8B 4F B6 B0 13 3E C2 AA E6 DF 03 00 00 00 00 00 00 00 00 00 00 00")) ∷ ModemTook 48
    ∷ ModemPiece (hex (codes "03 00 00 80 38 00 00 00 02 00 00 00 01 00 00 00 00 00 00 00 A2 89 CC 33 BC BB 8B 4F B6 B0 13 3E C2 AA E6 DF 03 00 00 00 00 00 00 00 08 00 00 00 01 00 00 00 01 00 00 00")) ∷ Took 1 56
    ∷ closes)

-- the radio is switched off: the modem tells so behind its answer, and the tool takes both at once
abbrev pub radio_off : List Event
radio_off =
    reverse (opens
    ++ Piece 1 (hex (codes "03 00 00 00 34 00 00 00 03 00 00 00 01 00 00 00 00 00 00 00 A2 89 CC 33 BC BB 8B 4F B6 B0 13 3E C2 AA E6 DF 03 00 00 00 01 00 00 00 04 00 00 00 00 00 00 00")) ∷ ModemTook 52
    ∷ ModemPiece (hex (codes "03 00 00 80 38 00 00 00 02 00 00 00 01 00 00 00 00 00 00 00 A2 89 CC 33 BC BB 8B 4F B6 B0 13 3E C2 AA E6 DF 03 00 00 00 00 00 00 00 08 00 00 00 01 00 00 00 00 00 00 00"))
    ∷ ModemPiece (hex (codes "07 00 00 80 34 00 00 00 00 00 00 00 01 00 00 00 00 00 00 00 A2 89 CC 33 BC BB 8B 4F B6 B0 13 3E C2 AA E6 DF 03 00 00 00 08 00 00 00 01 00 00 00 00 00 00 00")) ∷ Took 1 108
    ∷ closes)

-- there is no message under index 99, and the tool leaves the modem open
abbrev pub no_message : List Event
no_message =
    reverse (opens
    ++ Piece 1 (hex (codes "03 00 00 00 3C 00 00 00 03 00 00 00 01 00 00 00 00 00 00 00 53 3F BE EB 14 FE 44 67 9F 90 33 A2 23 E5 6C 3F 02 00 00 00 00 00 00 00 0C 00 00 00 00 00 00 00 01 00 00 00 63 00 00 00")) ∷ ModemTook 60
    ∷ ModemPiece (hex (codes "03 00 00 80 30 00 00 00 02 00 00 00 01 00 00 00 00 00 00 00 53 3F BE EB 14 FE 44 67 9F 90 33 A2 23 E5 6C 3F 02 00 00 00 15 00 00 00 00 00 00 00")) ∷ Took 1 48 ∷ [])

pub record Relays : Type 0 where
  pub radio_is_asked : relay default_profile (plan_of true request.QueryRadioState) ≡ radio
  pub radio_is_switched : relay default_profile (plan_of true (request.SetRadioState false)) ≡ radio_off
  pub message_is_asked : relay default_profile (plan_of false (request.SmsRead 99)) ≡ no_message

-- a plan and a profile of which the laws speak
pub record PremisesAreMet : Type 0 where
  pub plan : IsPlan (plan_of true request.QueryRadioState)
  pub profile : IsWithin default_profile
