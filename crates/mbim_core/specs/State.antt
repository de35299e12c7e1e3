-- Words of the state beside those of `mbim_state`.
use Rattle.std.specs.Prelude.{◌≡◌, ℕ, Bool, true, ◌&&◌, List, Option, Some, None}
use Rattle.kit_bytes.specs.Indications.{wants}
use Rattle.connections.specs.Table.{Connection, Table}
use Rattle.mbim_frame.specs.declared.bodies.IndicationHead.{IndicationHead}
use Rattle.mbim_frame.specs.declared.kind.MessageKind.TheVariants.{CommandDone, IndicateStatus}
use Rattle.mbim_frame.specs.Fragment.{body_of}
use Rattle.mbim_frame.specs.Head.{kind_of, number_of}
use Rattle.mbim_frame.specs.Kinds.{kind_number}
use Rattle.mbim_fragments.specs.Splitting.{split}
use Rattle.proxy_history.specs.View.{OpenedWith}
use Rattle.proxy_state.specs.Chosen.{tell_from}
use Rattle.mbim_proxy.specs.FromModem.{Heard}
use Rattle.mbim_proxy.specs.Setup.{Setup}
use Rattle.mbim_proxy.specs.Step.{blank}
use Rattle.mbim_state.specs.declared.asked.Asked.{Asked}
use Rattle.mbim_state.specs.Core.{Client, ModemSide, MbimState}
use Rattle.mbim_state.specs.Transitions.{give_up, tell, is_for, answer, respond}

abbrev pub state_of : Table Client → ModemSide → MbimState
state_of table side = record { table = table; beside = side }

-- ---- an answer ----

-- somebody waits for it
pub record IsSettled (heard : Heard) (number : ℕ) (old new : MbimState) (name : ℕ) (asked : Asked) : Type 0 where
  pub fits : is_for heard asked ≡ true
  pub answered : (s : Setup) (m : List ℕ) → number_of m ≡ number → respond s heard m old ≡ answer s asked name m new

abbrev pub Settles : Heard → ℕ → MbimState → MbimState → Option (ℕ × Asked) → Type 0
Settles heard number old new None = (s : Setup) (m : List ℕ) → number_of m ≡ number → new ≡ respond s heard m old
Settles heard number old new (Some (name, asked)) = IsSettled heard number old new name asked

-- a message of the kind that has this body
pub record IsDoneWith (body m : List ℕ) : Type 0 where
  pub kind : kind_of m ≡ kind_number CommandDone
  pub carries : body_of m ≡ body

pub record IsIndicationWith (body m : List ℕ) : Type 0 where
  pub carries : body_of m ≡ body
  pub blank_body : body_of (blank m) ≡ body

-- ---- who is told ----

-- a client that waits for the opening is told how it ended
abbrev pub tells_opened : Setup → (status : ℕ) → (conn : ℕ) → MbimState → MbimState
tells_opened s status c x = tell s (OpenedWith status) c x

-- ---- from place to place ----

-- the client is open and wants the indication with this head
abbrev pub is_receiver : IndicationHead → Client → Bool
is_receiver head client = client.opened && wants client.list head.uuid head.cid

abbrev pub wants_in : IndicationHead → ModemSide → Connection Client → Bool
wants_in head side k = is_receiver head k.client

-- those from this place on that are open and want the indication get it
abbrev pub indicated_from : IndicationHead → (body : List ℕ) → ℕ → MbimState → MbimState
indicated_from head body i x = tell_from give_up (λ client. split (kind_number IndicateStatus) 0 client.fragment body) (λ client. client) (wants_in head) i x
