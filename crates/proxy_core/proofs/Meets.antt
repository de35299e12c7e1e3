-- A core of a proxy, as whoever serves its clients meets it. Lists of events have the newest first.
use Rattle.std.proofs.Common.{◌≡◌, ℕ, ◌+◌, List, [], ◌∷◌, map, refl, sym, ◌∙◌, ap, subst}
use Rattle.std.specs.Option.{option_map}
use Rattle.connections.specs.Table.{Dropped, first_waiting as first_of}
use Rattle.proxy_history.specs.Events.{Event, Joined, Piece, Left, ModemPiece, ModemGone, ModemBack, Now, Took, ModemTook}
use Rattle.proxy_history.specs.Proxy.{Proxy}
use Rattle.proxy_history.specs.Streams.{Framing}
use Rattle.hub_io.specs.declared.settings.Limits.{Limits}
use Rattle.proxy_serving.specs.Face.{CanMeet, MayCome, first_waiting}
use Rattle.proxy_state.specs.State.{Core}
use Rattle.proxy_state.specs.Stands.{MayMeet}
use Rattle.proxy_state.proofs.Waiting.{first_is, all_named}
use Rattle.proxy_core.specs.Meaning.{Meaning}
use Rattle.proxy_core.specs.Core.{handlers_in, lasting_in, Stands, StandsAfter, CanStep, opened_core}
use Rattle.proxy_core.specs.Lawful.{IsLawful, proxy_by}
use Rattle.proxy_core.specs.Face.{face_of, Keeps}

no_dropped_clients : (dropped_clients : List Dropped) → map (λ (l : Dropped). l.name) dropped_clients ≡ [] → dropped_clients ≡ []
no_dropped_clients [] is = refl
no_dropped_clients (l ∷ others) is = absurd (cc)

module _ {T S P : Type 0} (d : Meaning T S P) where
  -- ---- the events that may come ----

  may_come : (event : Event) (core : Core T S) → MayCome event (face_of d core) → MayMeet (handlers_in d core) event core
  may_come (Joined c) core may = may
  may_come (Piece c bytes) core may = may
  may_come (Left c) core may = tt
  may_come (ModemPiece bytes) core may = may
  may_come ModemGone core may = tt
  may_come ModemBack core may = tt
  may_come (Now time) core may = tt
  may_come (Took c count) core may = may
  may_come (ModemTook count) core may = may

  pub can_step : (event : Event) (core : Core T S) → CanMeet event (face_of d core) → CanStep d event core
  can_step event core can = record { hung_up = no_dropped_clients core.state.table.dropped can.hung_up; may_come = may_come event core can.may_come }

  -- ---- what it keeps ----

  module _ (event : Event) (old new : Core T S) (p : Proxy) (past : List Event) (kept : Keeps d p past old) (after : StandsAfter d kept.setup (event ∷ past) new) where
    pub keeps_on : lasting_in d new ≡ lasting_in d old → Keeps d p (event ∷ past) new
    keeps_on lasts = record { setup = kept.setup; serves = subst (d.serves kept.setup) (sym lasts) kept.serves; same = kept.same; stands = after.stands }

    -- just after an event, the dropped names are all that it dropped
    pub all_dropped : map (λ (l : Dropped). l.name) new.state.table.dropped ≡ p.dropped (event ∷ past)
    all_dropped = all_named (d.protocol kept.setup) (d.kept kept.setup) (event ∷ past) new after ∙ ap (λ (q : Proxy). q.dropped (event ∷ past)) (sym kept.same)

  pub asked_keeps : (old new : Core T S) (p : Proxy) (past : List Event) → ((s : d.Setup) (events : List Event) → Stands d s events old → Stands d s events new) → lasting_in d new ≡ lasting_in d old → Keeps d p past old → Keeps d p past new
  asked_keeps old new p past stands lasts kept = record { setup = kept.setup; serves = subst (d.serves kept.setup) (sym lasts) kept.serves; same = kept.same; stands = stands kept.setup past kept.stands }

  -- ---- for whom bytes wait ----

  pub waiting_is : (p : Proxy) (past : List Event) (core : Core T S) → Keeps d p past core → (from : ℕ) → first_of from core.state.table.present ≡ first_waiting p past from
  waiting_is p past core kept from =
      let First : Proxy → Type 0 = λ q. first_of from core.state.table.present ≡ first_waiting q past from in
      subst First (sym kept.same) (ap (option_map (λ at. from + at)) (first_is (d.protocol kept.setup) (d.kept kept.setup) past core kept.stands from))

-- ---- the opening ----

pub opened_keeps : {T S P : Type 0} (d : Meaning T S P) (fresh : T) (size : Framing) (L : IsLawful d fresh size) (limits : Limits) (path : List ℕ) (core : Core T S) → core ≡ opened_core d (d.opening limits path) → Stands d (d.opening limits path) [] core → Keeps d (proxy_by d (d.opening limits path)) [] core
opened_keeps {T} {S} d fresh size L limits path core is Sd = record { setup = d.opening limits path; serves = subst (λ (v : Core T S). d.serves (d.opening limits path) (lasting_in d v)) (sym is) (L.opens limits path); same = refl; stands = Sd }
