-- Examples of indications, and of a modem that begins anew.
use Rattle.std.specs.Prelude.{◌≡◌, ℕ, List, [], ◌∷◌, ◌++◌, reverse, codes}
use Rattle.kit_bytes.specs.Hex.{hex}
use Rattle.proxy_history.specs.Events.{Event, Joined, Piece, ModemPiece}
use Rattle.proxy_history.specs.Requests.{in_use}
use Rattle.proxy_history.specs.ClientIds.{held}
use Rattle.proxy_history.specs.Modem.{modem_queue}
use Rattle.qmi_proxy.specs.Clients.{wire}
use Rattle.proxy_examples.specs.Story.{open_device, opened, get_version, version_aborted, get_model, sync, dms_indication, both_open, bytes_for, history}
use Rattle.proxy_examples.specs.Answers.{model_aborted}

-- NAS Get Serving System of client id 5
abbrev pub get_serving : List ℕ
get_serving = hex (codes "01 0C 00 00 03 05 00 01 00 24 00 00 00")

-- client 1 holds an id of DMS, client 2 one of NAS: an indication of DMS to everybody is for client 1
abbrev pub indicates_to_a_service : List Event
indicates_to_a_service = both_open (Piece 1 get_model ∷ Piece 2 get_serving ∷ ModemPiece dms_indication ∷ [])

pub record IndicationIsOfItsService : Type 0 where
  pub first : bytes_for 1 indicates_to_a_service ≡ opened ++ dms_indication
  pub second : bytes_for 2 indicates_to_a_service ≡ opened

-- client 2 hasn't opened the device, and isn't told of a Sync
abbrev pub syncs_before_opening : List Event
syncs_before_opening = reverse (Joined 1 ∷ Piece 1 open_device ∷ Joined 2 ∷ ModemPiece sync ∷ [])

pub record TheOpenAreTold : Type 0 where
  pub first : bytes_for 1 syncs_before_opening ≡ opened ++ sync
  pub second : bytes_for 2 syncs_before_opening ≡ []

-- a Sync while requests of both number spaces wait: that of service 0 is refused first; no number and no id is left, and what waits for the modem stays
abbrev pub syncs_both : List Event
syncs_both = both_open (Piece 1 get_model ∷ Piece 1 get_version ∷ ModemPiece sync ∷ [])

pub record SyncBeginsAnew : Type 0 where
  pub first : bytes_for 1 syncs_both ≡ opened ++ version_aborted ++ model_aborted ++ sync
  pub in_use : in_use (history syncs_both) ≡ []
  pub held : held (history syncs_both) ≡ []
  pub waiting : modem_queue wire (history syncs_both) ≡ get_model ++ get_version
