-- Words of the state beside those of `qmi_state`.
use Rattle.std.specs.Prelude.{◌≡◌, ℕ, Bool, true, false, List, Option, Some, None}
use Rattle.connections.specs.Table.{Connection}
use Rattle.proxy_history.specs.ClientIds.{KeptId, holds_some, is_other}
use Rattle.proxy_state.specs.Chosen as proxy
use Rattle.qmi_state.specs.declared.client.Client.{Client}
use Rattle.qmi_state.specs.Core.{ModemSide, QmiState}
use Rattle.qmi_state.specs.Transitions.{give_up, tell, with_traffic, change_by, holder_brought, releases_one}
use Rattle.qmi_state.specs.Traffic.{Traffic, grants_id, frees_id, number_for_own, asks_release}
use Rattle.qmux_frame.specs.Head.{number_of}
use Rattle.qmux_frame.specs.Reply.{result_reply, with_number}
use Rattle.qmi_proxy.specs.Errors.{aborted, client_ids_exhausted}
use Rattle.qmi_proxy.specs.Releases.{first_due}
use Rattle.qmi_proxy.specs.Messages.{value_of, byte_of}
use Rattle.qmi_proxy.specs.FromModem.{IdChange, NoChange, Grants, Collides, Frees, granted_unless}
use Rattle.qmi_state.specs.declared.asked.Asked.{Asked}

-- ---- an indication ----

-- whom it is for: those that are open, or those that hold an id of the service
abbrev pub is_chosen : Option ℕ → ModemSide → Connection Client → Bool
is_chosen None side k = k.client.opened
is_chosen (Some service) side k = holds_some k.name service side.traffic.held

-- those from this place on that are chosen are told
abbrev pub tell_from : Option ℕ → List ℕ → ℕ → QmiState → QmiState
tell_from audience bytes i x = proxy.tell_from give_up (λ client. bytes) (λ client. client) (is_chosen audience) i x

-- ---- an answer, from the sender and from what is kept of the request ----

abbrev pub answers_to : ℕ → Asked → List ℕ → IdChange → QmiState → QmiState
answers_to conn note m NoChange x = tell conn (with_number (number_of note.head) m) x
answers_to conn note m (Grants service cid) x = tell conn (with_number (number_of note.head) m) (with_traffic (grants_id conn service cid x.beside.traffic) x)
answers_to conn note m Collides x = tell conn (result_reply note.head client_ids_exhausted) x
answers_to conn note m (Frees service cid) x = tell conn (with_number (number_of note.head) m) (with_traffic (frees_id conn service cid x.beside.traffic) x)

abbrev pub answers_noted : ℕ → Asked → List ℕ → QmiState → QmiState
answers_noted conn note m x = answers_to conn note m (change_by conn note m (holder_brought m x.beside.traffic)) x

-- nobody holds the id that the proxy itself was to release
abbrev pub frees_noted : Asked → QmiState → QmiState
frees_noted note x = with_traffic (frees_id 0 note.service note.cid x.beside.traffic) x

-- the first argument says whether the proxy itself asked
abbrev pub answers_from : Bool → ℕ → Asked → List ℕ → QmiState → QmiState
answers_from true conn note m x = frees_noted note x
answers_from false conn note m x = answers_noted conn note m x

-- the answer to an Allocate that brings an id
abbrev pub allocates : ℕ → Asked → List ℕ → QmiState → QmiState
allocates conn note m x =
    answers_to conn note m (granted_unless (is_other conn (holder_brought m x.beside.traffic)) (byte_of 0 (value_of 0x01 m)) (byte_of 1 (value_of 0x01 m))) x

-- ---- no answer ----

abbrev pub refuses_from : Bool → ℕ → Asked → QmiState → QmiState
refuses_from true conn note x = frees_noted note x
refuses_from false conn note x = tell conn (result_reply note.head aborted) x

-- ---- client ids ----

-- the connection holds the id, unless another one does
abbrev pub grants_unless : Bool → ℕ → ℕ → ℕ → Traffic → Traffic
grants_unless true conn service cid traffic = traffic
grants_unless false conn service cid traffic = grants_id conn service cid traffic

-- an id that is kept, since whichever time
abbrev pub id_of : ℕ → ℕ → KeptId
id_of service cid = record { service = service; cid = cid; since = 0 }

-- the proxy itself asks the modem to release the id, where there is a number for that
abbrev pub asks_under : Option ℕ → ℕ → KeptId → Traffic → Traffic
asks_under None deadline k traffic = traffic
asks_under (Some number) deadline k traffic = asks_release deadline k number traffic

-- the first id that is due was released
pub record HasReleased (after : ℕ) (old new : QmiState) : Type 0 where
  pub k : KeptId
  pub number : ℕ
  pub first : first_due after old.beside.time old.beside.traffic.kept ≡ Some k
  pub under : number_for_own k old.beside.traffic ≡ Some number
  pub released : new ≡ releases_one k number old

-- or none is due, or there is no number for it, and nothing changed
pub record ReleasesNone (after : ℕ) (old new : QmiState) : Type 0 where
  pub same : new ≡ old
  pub none : (k : KeptId) → first_due after old.beside.time old.beside.traffic.kept ≡ Some k → number_for_own k old.beside.traffic ≡ None

abbrev pub NextReleased : (after : ℕ) → (old new : QmiState) → Bool → Type 0
NextReleased after old new true = HasReleased after old new
NextReleased after old new false = ReleasesNone after old new
