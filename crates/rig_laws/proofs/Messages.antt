-- The messages that the rig's clients say.
use Rattle.std.proofs.Common.{◌≡◌, ℕ, ◌≤◌, Bool, true, false, ◌==◌, if◌then◌else◌, List, [], ◌∷◌, length, Some, refl, lit≤}
use Rattle.std.specs.Char.{encode_utf8}
use Rattle.std.proofs.lemmas.Bool.{or_from}
use Rattle.framing.specs.Framing.{IsMessage}
use Rattle.framing.specs.Cutting.{cut_from}
use Rattle.tlv_codec.specs.Tlv.{tlv_text}
use Rattle.qmux_frame.specs.declared.kind.MessageKind.TheVariants as kind
use Rattle.qmux_frame.specs.declared.writing.NewMessage.{NewMessage}
use Rattle.qmux_frame.specs.declared.writing.Sender.TheVariants.{Host}
use Rattle.qmux_frame.specs.Frame.{size_of}
use Rattle.qmux_frame.specs.Head.{head_of, service_of, cid_of}
use Rattle.qmux_frame.specs.Kind.{framed_kind}
use Rattle.qmux_frame.specs.Control.{is_allocate, is_release}
use Rattle.qmux_frame.specs.Reply.{with_number}
use Rattle.qmux_frame.specs.Writing.{head_text, message_text}
use Rattle.qmux_frame.proofs.Written.{written_is_read}
use Rattle.proxy_history.specs.Coming.{piece_limit}
use Rattle.qmi_requests.specs.declared.QmiRequest.TheVariants.{ProxyOpen, Allocate, NasGetSignalStrength, NasNetworkScan, NasGetServingSystem, NasGetHomeNetwork}
use Rattle.qmi_services.specs.Table as table
use Rattle.qmi_services.specs.Table.{Row}
use Rattle.qmi_services.specs.Requests.{tlv}
use Rattle.device_core.specs.Requests.{message_of}
use Rattle.qmi_proxy.specs.Messages.{is_malformed, opens}
use Rattle.rig_runs.specs.Qmi.{device, says, asks_for}
use Rattle.rig_laws.proofs.Says.{IsRequestOf}

-- ---- Proxy Open of the device ----

abbrev pub open_device : List ℕ
open_device = says (ProxyOpen device) 0 1

pub record OpensDevice : Type 0 where
  pub is_message : IsMessage size_of open_device
  pub short : length open_device ≤ piece_limit
  pub fine : is_malformed open_device ≡ false
  pub opening : opens device open_device ≡ true

pub device_is_opened : OpensDevice
unfolding message_of head_text cut_from encode_utf8
device_is_opened = record { is_message = refl; short = lit≤ tt; fine = refl; opening = refl }

-- ---- Allocate for NAS ----

abbrev pub allocate_head : ℕ → NewMessage
allocate_head number = record { sender = Host; service = 0; cid = 0; flags = 0; number = number; message = 0x0022 }

abbrev pub allocate_message : ℕ → List ℕ
allocate_message number = message_text (allocate_head number) (tlv_text (tlv 0x01 (3 ∷ [])))

pub said_allocate : (number : ℕ) → says (Allocate table.nas) 0 number ≡ allocate_message number
unfolding message_of
said_allocate number = refl

pub allocate_is_request : (c : ℕ) → IsRequestOf c (allocate_message 2)
unfolding head_text cut_from
allocate_is_request c = record { is_message = refl; short = lit≤ tt; is_shared = refl; own_id = λ none. absurd (let clash : false ≡ true = none in cc) }

pub record IsAllocate (number : ℕ) : Type 0 where
  pub renumbered : with_number number (allocate_message 2) ≡ allocate_message number
  pub kind_is : framed_kind (allocate_message number) ≡ Some kind.Request
  pub head : head_of (allocate_message number) ≡ record { service = 0; cid = 0; flags = 0; number = number; message = 0x0022; framed = true }

pub allocate_is : (number : ℕ) → IsAllocate number
unfolding head_text
allocate_is number = record { renumbered = refl; kind_is = refl; head = (written_is_read (allocate_head number) (tlv_text (tlv 0x01 (3 ∷ [])))).head }

-- ---- requests of NAS ----

abbrev pub nas_head : (id cid number : ℕ) → NewMessage
nas_head id cid number = record { sender = Host; service = 3; cid = cid; flags = 0; number = number; message = id }

abbrev pub nas_message : (id cid number : ℕ) → List ℕ
nas_message id cid number = message_text (nas_head id cid number) []

-- what is asked
pub data NasKind : Type 0 where
  signal_strength : NasKind
  network_scan : NasKind
  serving_system : NasKind
  home_network : NasKind

-- its line of the table
abbrev pub row_of : NasKind → Row
row_of signal_strength = table.get_signal_strength
row_of network_scan = table.network_scan
row_of serving_system = table.get_serving_system
row_of home_network = table.get_home_network

-- by this choice
abbrev pub kind_for : ℕ → NasKind
kind_for choice = if choice == 0 then signal_strength else if choice == 1 then network_scan else if choice == 2 then serving_system else home_network

said_by : (cid number : ℕ) (a b c : Bool) → says (if a then NasGetSignalStrength else if b then NasNetworkScan else if c then NasGetServingSystem else NasGetHomeNetwork) cid number
    ≡ nas_message (row_of (if a then signal_strength else if b then network_scan else if c then serving_system else home_network)).id cid number
unfolding message_of
said_by cid number true b c = refl
said_by cid number false true c = refl
said_by cid number false false true = refl
said_by cid number false false false = refl

pub said_nas : (choice cid number : ℕ) → says (asks_for choice) cid number ≡ nas_message (row_of (kind_for choice)).id cid number
said_nas choice cid number = said_by cid number (choice == 0) (choice == 1) (choice == 2)

module _ (id cid number : ℕ) where
  pub nas_is_request : (cid == 0) ≡ false → (cid == 255) ≡ false → IsRequestOf cid (nas_message id cid number)
  unfolding head_text
  nas_is_request low high = record {
    is_message = (written_is_read (nas_head id cid number) []).whole;
    short = lit≤ tt;
    is_shared = or_from (cid == 0) (cid == 255) low high;
    own_id = λ uses. refl;
  }

  pub record IsNas : Type 0 where
    pub renumbered : (other : ℕ) → with_number other (nas_message id cid number) ≡ nas_message id cid other
    pub kind_is : framed_kind (nas_message id cid number) ≡ Some kind.Request
    pub head : head_of (nas_message id cid number) ≡ record { service = 3; cid = cid; flags = 0; number = number; message = id; framed = true }
    pub service : service_of (nas_message id cid number) ≡ 3
    pub client_is : cid_of (nas_message id cid number) ≡ cid
    pub no_allocate : is_allocate (nas_message id cid number) ≡ false
    pub no_release : is_release (nas_message id cid number) ≡ false

  pub nas_is : IsNas
  unfolding head_text
  nas_is = record {
    renumbered = λ other. refl;
    kind_is = refl;
    head = (written_is_read (nas_head id cid number) []).head;
    service = refl;
    client_is = refl;
    no_allocate = refl;
    no_release = refl;
  }
