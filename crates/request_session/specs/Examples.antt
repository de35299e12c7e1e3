-- Worked examples, byte for byte.
use Rattle.std.specs.Prelude.{◌≡◌, ℕ, true, false, List, [], ◌∷◌, ◌++◌, codes, Option, Some, None, Result, Ok, Err}
use Rattle.kit_bytes.specs.Hex.{hex}
use Rattle.link_session.specs.declared.fault.SessionFault.{SessionFault}
use Rattle.link_session.specs.declared.fault.SessionFault.TheVariants.{Broken, TimedOut}
use Rattle.link_session.specs.Peer.{Peer}
use Rattle.session_script.specs.Peer.{played_at}
use Rattle.request_session.specs.declared.plan.RequestPlan.{RequestPlan}
use Rattle.request_session.specs.declared.request.TlvRequest.{TlvRequest}
use Rattle.request_session.specs.declared.ends.RequestEnd.{RequestEnd}
use Rattle.request_session.specs.declared.ends.RequestEnd.TheVariants.{NotSent, Answered}
use Rattle.request_session.specs.Session.{session}

-- ---- what is asked ----

-- Get Signal Info of NAS
abbrev pub get_signal_info : TlvRequest
get_signal_info = record { service = 3; message = 0x004F; tlvs = [] }

abbrev pub plan_of : TlvRequest → RequestPlan
plan_of request = record { device = codes "/dev/cdc-wdm0"; proxied = false; cid = None; keep = false; timeout = 10; request = request }

-- Get Version Info of CTL
abbrev pub get_version_info : TlvRequest
get_version_info = record { service = 0; message = 0x0021; tlvs = [] }

abbrev pub proxied_plan : RequestPlan
proxied_plan = record { device = codes "/dev/cdc-wdm0"; proxied = true; cid = None; keep = false; timeout = 10; request = get_signal_info }

abbrev pub keeping_plan : RequestPlan
keeping_plan = record { device = codes "/dev/cdc-wdm0"; proxied = false; cid = Some 7; keep = true; timeout = 10; request = get_signal_info }

-- ---- what is sent, and what is answered ----

abbrev pub allocate_client : List ℕ
allocate_client = hex (codes "01 0F 00 00 00 00 00 01 22 00 04 00 01 01 00 03")

-- the client id 5
abbrev pub allocation : List ℕ
allocation = hex (codes "01 17 00 80 00 00 01 01 22 00 0C 00 02 04 00 00 00 00 00 01 02 00 03 05")

abbrev pub signal_asked : List ℕ
signal_asked = hex (codes "01 0C 00 00 03 05 00 01 00 4F 00 00 00")

-- LTE: RSSI -60 dBm, RSRQ -11 dB, RSRP -90 dBm, SNR 12.0 dB
abbrev pub signal_tlvs : List ℕ
signal_tlvs = hex (codes "02 04 00 00 00 00 00 14 06 00 C4 F5 A6 FF 78 00")

abbrev pub signal_told : List ℕ
signal_told = hex (codes "01 1C 00 80 03 05 02 01 00 4F 00 10 00") ++ signal_tlvs

-- an indication for each client, and an answer to another message
abbrev pub something_else : List ℕ
something_else = hex (codes "01 0C 00 80 03 FF 04 00 00 51 00 00 00") ++ hex (codes "01 13 00 80 03 05 02 01 00 4E 00 07 00 02 04 00 00 00 00 00")

-- the error 74, Information Unavailable
abbrev pub signal_unknown : List ℕ
signal_unknown = hex (codes "01 13 00 80 03 05 02 01 00 4F 00 07 00 02 04 00 01 00 4A 00")

abbrev pub release_client : List ℕ
release_client = hex (codes "01 10 00 00 00 00 00 02 23 00 05 00 01 02 00 03 05")

abbrev pub released : List ℕ
released = hex (codes "01 17 00 80 00 00 01 02 23 00 0C 00 02 04 00 00 00 00 00 01 02 00 03 05")

-- answers that a peer has for texts, one after another
abbrev pub answers_with : List (List ℕ) → Peer
answers_with [] texts = []
answers_with (answer ∷ answers) [] = []
answers_with (answer ∷ answers) (text ∷ []) = answer
answers_with (answer ∷ answers) (text ∷ other ∷ texts) = answers_with answers (other ∷ texts)

abbrev pub end_at : List (List ℕ) → RequestPlan → Result RequestEnd SessionFault
end_at answers plan = (played_at (answers_with answers) (session plan)).end

abbrev pub sent_at : List (List ℕ) → RequestPlan → List (List ℕ)
sent_at answers plan = (played_at (answers_with answers) (session plan)).talk.texts

abbrev pub told : (status error : ℕ) → (tlvs : List ℕ) → Option (ℕ × ℕ) → Result RequestEnd SessionFault
told status error tlvs kept = Ok (Answered (record { outcome = record { status = status; error = error }; tlvs = tlvs }) kept)

-- ---- sessions ----

pub record SignalInfoIsAsked : Type 0 where
  pub sent : sent_at (allocation ∷ (something_else ++ signal_told) ∷ released ∷ []) (plan_of get_signal_info) ≡ allocate_client ∷ signal_asked ∷ release_client ∷ []
  pub ends : end_at (allocation ∷ (something_else ++ signal_told) ∷ released ∷ []) (plan_of get_signal_info) ≡ told 0 0 signal_tlvs None
  -- a failure is an answer as well, and the client id is given back
  pub failure_sent : sent_at (allocation ∷ signal_unknown ∷ released ∷ []) (plan_of get_signal_info) ≡ allocate_client ∷ signal_asked ∷ release_client ∷ []
  pub failure : end_at (allocation ∷ signal_unknown ∷ released ∷ []) (plan_of get_signal_info) ≡ told 1 74 (hex (codes "02 04 00 01 00 4A 00")) None

-- the answer to Get Signal Info with these TLVs, told to be so many bytes
abbrev pub signal_with : (count tlvs : List ℕ) → List ℕ
signal_with count tlvs = hex (codes "01 13 00 80 03 05 02 01 00 4F 00") ++ count ++ tlvs

pub record OthersAreTold : Type 0 where
  -- with a client id that is given and kept
  pub kept_sent : sent_at (hex (codes "01 13 00 80 03 07 02 01 00 4F 00 07 00 02 04 00 00 00 00 00") ∷ []) keeping_plan ≡ hex (codes "01 0C 00 00 03 07 00 01 00 4F 00 00 00") ∷ []
  pub kept : end_at (hex (codes "01 13 00 80 03 07 02 01 00 4F 00 07 00 02 04 00 00 00 00 00") ∷ []) keeping_plan ≡ told 0 0 (hex (codes "02 04 00 00 00 00 00")) (Some (3, 7))
  -- service 0 has no client ids
  pub control_sent : sent_at (hex (codes "01 12 00 80 00 00 01 01 21 00 07 00 02 04 00 00 00 00 00") ∷ []) (plan_of get_version_info) ≡ hex (codes "01 0B 00 00 00 00 00 01 21 00 00 00") ∷ []
  pub control : end_at (hex (codes "01 12 00 80 00 00 01 01 21 00 07 00 02 04 00 00 00 00 00") ∷ []) (plan_of get_version_info) ≡ told 0 0 (hex (codes "02 04 00 00 00 00 00")) None
  -- the modem refuses a client id with error 5, Client Ids Exhausted
  pub refused_sent : sent_at (hex (codes "01 12 00 80 00 00 01 01 22 00 07 00 02 04 00 01 00 05 00") ∷ []) (plan_of get_signal_info) ≡ allocate_client ∷ []
  pub refused : end_at (hex (codes "01 12 00 80 00 00 01 01 22 00 07 00 02 04 00 01 00 05 00") ∷ []) (plan_of get_signal_info) ≡ Ok (NotSent 5)
  -- the proxy refuses the device with error 3, Internal
  pub unopened_sent : sent_at (hex (codes "01 12 00 80 00 00 01 01 00 FF 07 00 02 04 00 01 00 03 00") ∷ []) proxied_plan ≡ hex (codes "01 1B 00 00 00 00 00 01 00 FF 10 00 01 0D 00 2F 64 65 76 2F 63 64 63 2D 77 64 6D 30") ∷ []
  pub unopened : end_at (hex (codes "01 12 00 80 00 00 01 01 00 FF 07 00 02 04 00 01 00 03 00") ∷ []) proxied_plan ≡ Ok (NotSent 3)
  -- TLVs of another length than is told, one that is longer than the message, and none with a result
  pub unframed : end_at (allocation ∷ signal_with (hex (codes "06 00")) (hex (codes "02 04 00 00 00 00 00")) ∷ []) (plan_of get_signal_info) ≡ Err (Broken 24)
  pub long_tlv : end_at (allocation ∷ signal_with (hex (codes "07 00")) (hex (codes "02 05 00 00 00 00 00")) ∷ []) (plan_of get_signal_info) ≡ Err (Broken 24)
  pub no_result : end_at (allocation ∷ signal_with (hex (codes "07 00")) (hex (codes "14 04 00 00 00 00 00")) ∷ []) (plan_of get_signal_info) ≡ Err (Broken 24)
  -- no answer at all
  pub silence : end_at (allocation ∷ []) (plan_of get_signal_info) ≡ Err TimedOut
