-- What a tool and a modem that carries its messages say, byte for byte. Lists of texts have the oldest first.
-- Source of the bytes: the USB-IF MBIM specification 1.0, sections 9.3 and 9.4, and the QMI messages of libqmi's data/qmi-service-ctl.json and qmi-service-dms.json, by hand.
use Rattle.std.specs.Prelude.{◌≡◌, ℕ, List, [], ◌∷◌, ◌++◌, codes, Option, None}
use Rattle.std.specs.List.{concat}
use Rattle.kit_bytes.specs.Hex.{hex}
use Rattle.link_session.specs.Peer.{Talk}
use Rattle.modem_profile.specs.Profile.{default_profile}
use Rattle.qmi_requests.specs.declared.QmiRequest.{QmiRequest}
use Rattle.qmi_requests.specs.declared.QmiRequest.TheVariants as request
use Rattle.relays.specs.QmiExamples.{plan_of}
use Rattle.relays.specs.TunnelRuns.{tunnel_run}

-- from a command's heads on, the QMI service and its CID
abbrev pub set_head : List ℕ
set_head = hex (codes "01 00 00 00 00 00 00 00 D1 A3 0B C2 F9 7A 6E 43 BF 65 C7 E2 4F B0 F0 D3 01 00 00 00")

-- OPEN, number 1, and what answers it
abbrev pub open_1 : List ℕ
open_1 = hex (codes "01 00 00 00 10 00 00 00 01 00 00 00 00 10 00 00")

abbrev pub opened_1 : List ℕ
opened_1 = hex (codes "01 00 00 80 10 00 00 00 01 00 00 00 00 00 00 00")

abbrev pub talk_of : Option ℕ → QmiRequest → Talk
talk_of cid asked = (tunnel_run default_profile (plan_of cid asked)).talk

-- these texts were sent, and these came
pub record Says (talk : Talk) (sent came : List (List ℕ)) : Type 0 where
  pub sent_are : talk.texts ≡ sent
  pub came_are : talk.heard.taken ≡ concat came

-- the versions of the services, which need no client id
abbrev pub Versions : Type 0
Versions =
    Says (talk_of None request.GetServiceVersionInfo)
    (open_1
    ∷ hex (codes "03 00 00 00 3C 00 00 00 02 00 00 00 01 00 00 00 00 00 00 00 D1 A3 0B C2 F9 7A 6E 43 BF 65 C7 E2 4F B0 F0 D3 01 00 00 00 01 00 00 00 0C 00 00 00 01 0B 00 00 00 00 00 01 21 00 00 00")
    ∷ hex (codes "02 00 00 00 0C 00 00 00 03 00 00 00") ∷ [])
    (opened_1
    ∷ hex (codes "03 00 00 80 60 00 00 00 02 00 00 00 01 00 00 00 00 00 00 00 D1 A3 0B C2 F9 7A 6E 43 BF 65 C7 E2 4F B0 F0 D3 01 00 00 00 00 00 00 00 30 00 00 00 01 2F 00 80 00 00 01 01 21 00 24 00 02 04 00 00 00 00 00 01 1A 00 05 00 01 00 00 00 01 01 00 00 00 02 01 00 00 00 03 01 00 00 00 05 01 00 00 00")
    ∷ hex (codes "02 00 00 80 10 00 00 00 03 00 00 00 00 00 00 00") ∷ [])

-- a model: a client id is allocated, and given back
abbrev pub Model : Type 0
Model =
    Says (talk_of None request.DmsGetModel)
    (open_1
    ∷ (hex (codes "03 00 00 00 40 00 00 00 02 00 00 00") ++ set_head ++ hex (codes "01 00 00 00 10 00 00 00 01 0F 00 00 00 00 00 01 22 00 04 00 01 01 00 02"))
    ∷ (hex (codes "03 00 00 00 3D 00 00 00 03 00 00 00") ++ set_head ++ hex (codes "01 00 00 00 0D 00 00 00 01 0C 00 00 02 01 00 01 00 22 00 00 00"))
    ∷ (hex (codes "03 00 00 00 41 00 00 00 04 00 00 00") ++ set_head ++ hex (codes "01 00 00 00 11 00 00 00 01 10 00 00 00 00 00 02 23 00 05 00 01 02 00 02 01"))
    ∷ hex (codes "02 00 00 00 0C 00 00 00 05 00 00 00") ∷ [])
    (opened_1
    ∷ (hex (codes "03 00 00 80 48 00 00 00 02 00 00 00") ++ set_head ++ hex (codes "00 00 00 00 18 00 00 00 01 17 00 80 00 00 01 01 22 00 0C 00 02 04 00 00 00 00 00 01 02 00 02 01"))
    ∷ (hex (codes "03 00 00 80 4C 00 00 00 03 00 00 00") ++ set_head ++ hex (codes "00 00 00 00 1C 00 00 00 01 1B 00 80 02 01 02 01 00 22 00 0F 00 02 04 00 00 00 00 00 01 05 00 53 69 6D 2D 31"))
    ∷ (hex (codes "03 00 00 80 48 00 00 00 04 00 00 00") ++ set_head ++ hex (codes "00 00 00 00 18 00 00 00 01 17 00 80 00 00 01 02 23 00 0C 00 02 04 00 00 00 00 00 01 02 00 02 01"))
    ∷ hex (codes "02 00 00 80 10 00 00 00 05 00 00 00 00 00 00 00") ∷ [])

pub record Sessions : Type 0 where
  pub versions : Versions
  pub model : Model
