-- The events of a rig are plain: each client says what a rig's clients say, nobody leaves, and the modem stays. Lists of events and of facts have the newest first.
use Rattle.std.proofs.Common.{◌≡◌, ℕ, ◌<◌, ◌≤◌, ◌⊎◌, true, List, [], ◌∷◌, inl, inr, arith}
use Rattle.proxy_history.specs.Events.{Event, Joined, Piece, Left, ModemPiece, ModemGone, ModemBack, Now, Took, ModemTook}
use Rattle.proxy_history.specs.Facts.{Fact}
use Rattle.proxy_history.specs.Connections.{is_present, message_count}
use Rattle.mbim_proxy.specs.History.{history}
use Rattle.rig_runs.specs.Mbim.{setup}
use Rattle.rig_runs.specs.MbimExamples.{configuration, open_2}
use Rattle.rig_laws_mbim.proofs.Messages.{query, cid_for}
use Rattle.rig_laws_mbim.proofs.Adding.{IsNamed, HasSaid, naming, finding, having_opened, querying, passing, Adds, AreMoments}
use Rattle.rig_trace.specs.Rows.{names}

-- the query of this choice with this number
pub record IsQuery (m : List ℕ) : Type 0 where
  pub choice : ℕ
  pub number : ℕ
  pub is : m ≡ query (cid_for choice) number

-- a client that is there names the device by its first message, asks to open it by its second, and then queries
pub record IsSaid (c : ℕ) (m : List ℕ) (past : List Fact) : Type 0 where
  pub named : c < names
  pub there : is_present c past ≡ true
  pub message : ((m ≡ configuration) × (message_count c past ≡ 0)) ⊎ (((m ≡ open_2) × (message_count c past ≡ 1)) ⊎ (IsQuery m × (2 ≤ message_count c past)))

-- an event behind this history
abbrev pub IsPlain : Event → List Fact → Type 0
IsPlain (Joined c) past = message_count c past ≡ 0
IsPlain (Piece c m) past = IsSaid c m past
IsPlain (ModemPiece m) past = Unit {0}
IsPlain (Now time) past = Unit {0}
IsPlain (Took c count) past = Unit {0}
IsPlain (ModemTook count) past = Unit {0}
IsPlain _ past = ⊥

abbrev pub ArePlain : List Event → Type 0
ArePlain [] = Unit {0}
ArePlain (event ∷ events) = IsPlain event (history setup events) × ArePlain events

said : (c : ℕ) (m : List ℕ) (past after : List Fact) → IsNamed c past → HasSaid c m past after → IsSaid c m past
said c m past after one (naming is) = record { named = (let few = one.few in omega (arith, few)); there = one.there; message = inl (is.is, is.count) }
said c m past after one (finding is) = record { named = (let few = one.few in omega (arith, few)); there = one.there; message = inr (inl (is.is, is.count)) }
said c m past after one (having_opened is) = record { named = (let few = one.few in omega (arith, few)); there = one.there; message = inr (inl (is.is, is.count)) }
said c m past after one (querying is) = record { named = (let few = one.few in omega (arith, few)); there = one.there; message = inr (inr (record { choice = is.choice; number = is.number; is = is.is }, is.count)) }
said c m past after one (passing is) = record { named = (let few = one.few in omega (arith, few)); there = one.there; message = inr (inr (record { choice = is.choice; number = is.number; is = is.is }, is.count)) }

plain_event : (event : Event) (past after : List Fact) → Adds event past after → IsPlain event past
plain_event (Joined c) past after adds = adds.count
plain_event (Piece c m) past after adds = said c m past after adds.0 adds.1
plain_event (ModemPiece m) past after adds = tt
plain_event (Now time) past after adds = tt
plain_event (Took c count) past after adds = tt
plain_event (ModemTook count) past after adds = tt
plain_event (Left c) past after adds = absurd adds
plain_event ModemGone past after adds = absurd adds
plain_event ModemBack past after adds = absurd adds

pub are_plain : (events : List Event) → AreMoments events → ArePlain events
are_plain [] moments = tt
are_plain (event ∷ events) moments = (plain_event event (history setup events) (history setup (event ∷ events)) moments.0.adds, are_plain events moments.1)
