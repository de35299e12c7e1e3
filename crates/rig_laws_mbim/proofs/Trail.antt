-- The moments of a rig: what each event comes behind, and what it leaves. Lists of events have the newest first.
use Rattle.std.proofs.Common.{◌≡◌, ℕ, ◌+◌, ◌^◌, ◌<◌, ◌≤◌, ◌⊎◌, true, false, List, [], ◌∷◌, length, Some, Contains}
use Rattle.framing.specs.Cutting.{cut}
use Rattle.mbim_frame.specs.Frame.{size_of}
use Rattle.proxy_history.specs.Streams.{stream, modem_stream}
use Rattle.proxy_history.specs.Events.{Event, Joined, Piece, ModemPiece, Now, Took, ModemTook}
use Rattle.proxy_history.specs.Facts.{Request}
use Rattle.mbim_proxy.specs.ModemStates.{is_own_open}
use Rattle.mbim_proxy.specs.History.{history}
use Rattle.mbim_solo.proofs.Spoken.{IsQuiet}
use Rattle.rig_runs.specs.Mbim.{setup}
use Rattle.rig_runs.specs.MbimExamples.{configuration, open_2}
use Rattle.rig_laws_mbim.proofs.Messages.{query, cid_for, own_open_under, opened}
use Rattle.rig_laws_mbim.proofs.Calm.{Calm, Progress, shut, opening, ready}
use Rattle.rig_laws_mbim.proofs.Hears.{Suits}

-- ---- moments ----

pub record Standing : Type 0 where
  pub progress : Progress
  pub requests : List Request
  pub queue : List ℕ

abbrev pub standing : Progress → List Request → List ℕ → Standing
standing w requests queue = record { progress = w; requests = requests; queue = queue }

-- each stream ends with a whole message, and no fragment of the modem is due
pub record AreWhole (events : List Event) : Type 0 where
  pub whole : (c : ℕ) → (cut size_of (stream c events)).rest ≡ []
  pub said : List ℕ
  pub said_is : modem_stream size_of false events ≡ Some said
  pub quiet : IsQuiet setup said

pub record IsAt (now : Standing) (events : List Event) : Type 0 where
  pub calm : Calm now.progress now.requests now.queue (history setup events)
  pub streams : AreWhole events

-- ---- from one moment to the next ----

-- the first client has the modem opened
pub record HasItOpened (d : ℕ) (m : List ℕ) (before after : Standing) : Type 0 where
  pub joined : ℕ
  pub r : Request
  pub is : d ≡ 1
  pub message : m ≡ open_2
  pub was : before.progress ≡ shut joined 1
  pub becomes : after.progress ≡ opening joined
  pub queue : before.queue ≡ []
  pub asked : after.queue ≡ own_open_under r.number

-- a client finds it open
pub record FindsItOpen (d : ℕ) (m : List ℕ) (before after : Standing) : Type 0 where
  pub joined : ℕ
  pub configured : ℕ
  pub opened : ℕ
  pub is : d ≡ opened + 1
  pub message : m ≡ open_2
  pub was : before.progress ≡ ready joined configured opened
  pub becomes : after.progress ≡ ready joined configured (opened + 1)
  pub queue : after.queue ≡ before.queue
  pub named : opened < configured
  pub there : configured ≤ joined

-- a client that is open asks the modem
pub record AsksModem (d : ℕ) (m : List ℕ) (before : Standing) : Type 0 where
  pub joined : ℕ
  pub configured : ℕ
  pub opened : ℕ
  pub choice : ℕ
  pub number : ℕ
  pub message : m ≡ query (cid_for choice) number
  pub was : before.progress ≡ ready joined configured opened
  pub low : 1 ≤ d
  pub high : d ≤ opened
  pub there : opened ≤ joined
  pub queue : before.queue ≡ []
  pub few : length before.requests ≤ 200

abbrev pub IsSaidAt : ℕ → List ℕ → (before after : Standing) → Type 0
IsSaidAt d m before after = (m ≡ configuration) ⊎ (HasItOpened d m before after ⊎ (FindsItOpen d m before after ⊎ AsksModem d m before))

-- the modem answers a query
pub record AnswersQuery (m : List ℕ) (before : Standing) : Type 0 where
  pub joined : ℕ
  pub configured : ℕ
  pub opened : ℕ
  pub r : Request
  pub suits : Suits m r
  pub used : Contains before.requests r
  pub was : before.progress ≡ ready joined configured opened

-- or it tells that it is open
pub record TellsOpened (m : List ℕ) (before after : Standing) : Type 0 where
  pub joined : ℕ
  pub r : Request
  pub below : r.number < 2 ^ 32
  pub own : r.conn ≡ 0
  pub opens : is_own_open r ≡ true
  pub message : m ≡ opened r.number
  pub used : before.requests ≡ r ∷ []
  pub was : before.progress ≡ opening joined
  pub becomes : after.progress ≡ ready joined 1 1

-- the time goes on while the modem is open
pub record GoesOn (before after : Standing) : Type 0 where
  pub joined : ℕ
  pub configured : ℕ
  pub opened : ℕ
  pub was : before.progress ≡ ready joined configured opened
  pub becomes : after.progress ≡ ready joined configured opened

abbrev pub IsStep : Event → (before after : Standing) → Type 0
IsStep (Joined d) before after = Unit {0}
IsStep (Piece d m) before after = IsSaidAt d m before after
IsStep (ModemPiece m) before after = AnswersQuery m before ⊎ TellsOpened m before after
IsStep (Now time) before after = GoesOn before after
IsStep (Took d count) before after = Unit {0}
IsStep (ModemTook count) before after = Unit {0}
IsStep _ before after = ⊥

-- ---- all moments ----

-- no client that is open closes
abbrev pub Follows : Event → (before after : Standing) → Type 0
Follows event before after = IsStep event before after × (before.progress.opened ≤ after.progress.opened)

abbrev pub Trail : Standing → List Event → Type 0
Trail now [] = IsAt now []
Trail now (event ∷ events) = IsAt now (event ∷ events) × ((before : Standing) × (Follows event before now × Trail before events))

pub at_now : (now : Standing) (events : List Event) → Trail now events → IsAt now events
at_now now [] trail = trail
at_now now (event ∷ events) trail = trail.0
