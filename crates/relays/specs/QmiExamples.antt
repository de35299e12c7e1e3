-- What a proxy meets where one tool asks alone, byte for byte. A story is told in its order; lists of events have the newest first.
-- Source of the bytes: a model in another language, which was written from the rules alone.
use Rattle.std.specs.Prelude.{◌≡◌, ℕ, false, List, [], ◌∷◌, ◌++◌, reverse, codes, Option, Some, None}
use Rattle.kit_bytes.specs.Hex.{hex}
use Rattle.modem_profile.specs.Profile.{default_profile}
use Rattle.proxy_history.specs.Events.{Event, Joined, Piece, ModemPiece, Took, ModemTook}
use Rattle.qmi_requests.specs.declared.QmiRequest.{QmiRequest}
use Rattle.qmi_requests.specs.declared.QmiRequest.TheVariants as request
use Rattle.device_core.specs.declared.plan.QmiPlan.{QmiPlan}
use Rattle.modem_profile.specs.Limits.{IsWithin}
use Rattle.sim_qmi.specs.State.{IsSound, fresh}
use Rattle.relays.specs.QmiRuns.{relay}
use Rattle.relays.specs.QmiLaw.{IsPlan}

abbrev pub plan_of : Option ℕ → QmiRequest → QmiPlan
plan_of cid asked = record { device = codes "rig"; proxied = false; cid = cid; keep = false; timeout = 30; request = asked }

abbrev pub opens : List Event
opens = Joined 1 ∷ Piece 1 (hex (codes "01 11 00 00 00 00 00 01 00 FF 06 00 01 03 00 72 69 67")) ∷ Took 1 19 ∷ []

abbrev pub model : List Event
model =
    reverse (opens
    ++ Piece 1 (hex (codes "01 0F 00 00 00 00 00 02 22 00 04 00 01 01 00 02")) ∷ ModemTook 16
    ∷ ModemPiece (hex (codes "01 17 00 80 00 00 01 01 22 00 0C 00 02 04 00 00 00 00 00 01 02 00 02 01")) ∷ Took 1 24
    ∷ Piece 1 (hex (codes "01 0C 00 00 02 01 00 01 00 22 00 00 00")) ∷ ModemTook 13
    ∷ ModemPiece (hex (codes "01 1B 00 80 02 01 02 01 00 22 00 0F 00 02 04 00 00 00 00 00 01 05 00 53 69 6D 2D 31")) ∷ Took 1 28
    ∷ Piece 1 (hex (codes "01 10 00 00 00 00 00 03 23 00 05 00 01 02 00 02 01")) ∷ ModemTook 17
    ∷ ModemPiece (hex (codes "01 17 00 80 00 00 01 02 23 00 0C 00 02 04 00 00 00 00 00 01 02 00 02 01")) ∷ Took 1 24 ∷ [])

-- a client id that is nobody's: nothing goes to the modem
abbrev pub refused : List Event
refused =
    reverse (opens
    ++ Piece 1 (hex (codes "01 0C 00 00 02 FF 00 01 00 22 00 00 00")) ∷ Took 1 20
    ∷ Piece 1 (hex (codes "01 10 00 00 00 00 00 02 23 00 05 00 01 02 00 02 FF")) ∷ Took 1 19 ∷ [])

pub record Relays : Type 0 where
  pub model_is_asked : relay default_profile (plan_of None request.DmsGetModel) ≡ model
  pub id_is_refused : relay default_profile (plan_of (Some 255) request.DmsGetModel) ≡ refused

-- a plan and a profile of which the laws speak
pub record PremisesAreMet : Type 0 where
  pub plan : IsPlan (plan_of None request.DmsGetModel)
  pub profile : IsWithin default_profile
  pub sound : IsSound (fresh default_profile)
