-- What a client meets of a rig's trace is what it meets alone. Lists of events and of facts have the newest first.
use Rattle.std.proofs.Common.{◌≡◌, ◌≢◌, ℕ, ◌<◌, ◌≤◌, ◌⊎◌, ⊎_elim, Bool, true, false, ◌==◌, List, [], ◌∷◌, fold, None, refl, ap, sym, ◌∙◌, subst, arith, Contains}
use Rattle.std.proofs.lemmas.Bool.{eqb-true}
use Rattle.std.proofs.lemmas.List.Sums.{fold-append}
use Rattle.std.proofs.lemmas.List.Elements.{All-from_recursion}
use Rattle.proxy_history.specs.Events.{Event, Joined, Piece, Left, ModemPiece, ModemGone, ModemBack, Now, Took, ModemTook}
use Rattle.proxy_history.specs.Streams.{stream}
use Rattle.proxy_history.specs.Coming.{AreSound}
use Rattle.proxy_history.specs.Facts.{Fact, Request, EventBegan}
use Rattle.proxy_history.specs.Modem.{now}
use Rattle.proxy_history.specs.View.{Entry, view}
use Rattle.proxy_history.specs.History as proxy
use Rattle.proxy_solo.specs.Law.{tells_of_others}
use Rattle.proxy_solo.specs.Solo as alone
use Rattle.mbim_proxy.specs.Step.{view_of, known_now}
use Rattle.mbim_proxy.specs.ModemStates.{IsShut, IsReady, state}
use Rattle.mbim_proxy.specs.Proxy.{proxy_of}
use Rattle.mbim_proxy.specs.History.{mbim_protocol, history}
use Rattle.mbim_solo.specs.Law.{IsLetAlone}
use Rattle.mbim_solo.specs.Solo.{solo}
use Rattle.mbim_solo.proofs.Relation.{Alike}
use Rattle.mbim_solo.proofs.ModemEvents.{heard_alike}
use Rattle.mbim_solo.proofs.Induction.{alike}
use Rattle.rig_runs.specs.Mbim.{setup}
use Rattle.rig_runs.specs.MbimExamples.{configuration, open_2}
use Rattle.rig_laws_mbim.proofs.Messages.{answer, cid_for, opened}
use Rattle.rig_laws_mbim.proofs.Harmless.{AreHarmless, undisturbed}
use Rattle.rig_laws_mbim.proofs.Calm.{Progress}
use Rattle.rig_laws_mbim.proofs.Adding.{AreMoments}
use Rattle.rig_laws_mbim.proofs.Trail.{Standing, HasItOpened, FindsItOpen, AsksModem, AnswersQuery, TellsOpened, IsSaidAt, IsStep, Trail}
use Rattle.rig_trace.specs.Rows.{names}
use Rattle.rig_trace.specs.Trace.{trace_of}
use Rattle.rig_trace.specs.Mbim.{mbim_reading}
use Rattle.rig_trace.specs.Alone.{meet_met, met_alone}
use Rattle.rig_trace.proofs.Chain.{AreSame, same_both}
use Rattle.trace_laws_mbim.proofs.Plain.{IsSaid, IsPlain, are_plain}
use Rattle.trace_laws_mbim.proofs.Mirroring.{Reflects, reflects}
use Rattle.trace_laws_mbim.proofs.Lone.{ledger}
use Rattle.trace_laws_mbim.proofs.Asking.{room}
use Rattle.trace_laws_mbim.proofs.Passing.{nothing_yet}
use Rattle.trace_laws_mbim.proofs.Along.{Along, Next, mets, Step, shut_too, ready_or_shut}
use Rattle.trace_laws_mbim.proofs.Joins.{JoinFirst, met_nothing}
use Rattle.trace_laws_mbim.proofs.StepsPassing.{other_joined, other_took, other_said, modem_took, joined, took_bytes, time_passed}
use Rattle.trace_laws_mbim.proofs.StepsSaid.{names_device, queries, has_opened, finds_open}
use Rattle.trace_laws_mbim.proofs.StepsHeard.{opened_for_another, opened_for_it, answer_for_another, answer_for_it}

module _ (c : ℕ) (client : c ≢ 0) (low : 1 ≤ c) (named : c < names) where
  -- ---- one event ----

  module _ (before after : Standing) (events : List Event) (L : Along c before events (solo setup c events)) where
    abbrev own : List Event
    own = solo setup c events

    abbrev past : List Fact
    past = EventBegan ∷ history setup events

    abbrev Goes : Event → Type 0
    Goes event = Step c client low before events own L after event

    abbrev StepOf : Event → Type 0
    StepOf event = Next c before after event events own → Goes event

    -- an event of this connection, which is the client or another
    by_whom : (d : ℕ) (event : ℕ → Event) → ((d == c) ≡ false → StepOf (event d)) → (d ≡ c → StepOf (event c)) → StepOf (event d)
    by_whom d event other mine =
        let step : (b : Bool) → (d == c) ≡ b → StepOf (event d) =
        λ b. elim b as (λ b. (d == c) ≡ b → StepOf (event d)) [
          | true ↦ λ e. subst (λ (x : ℕ). StepOf (event x)) (sym (eqb-true d c e)) (mine (eqb-true d c e))
          | false ↦ λ e. other e
        ]
        in step (d == c) refl

    joins : (d : ℕ) → JoinFirst (Joined d ∷ events) → StepOf (Joined d)
    joins d first =
        by_whom d (λ x. Joined x) (other_joined c client low before after events own L d)
        (λ is N. joined c client low before after events own L (met_nothing c client events first.0 N.sound.1 N.sound.0) N)

    -- ---- a message of the client ----

    module _ (m : List ℕ) (said : IsSaid c m (history setup events)) where
      first_opens : HasItOpened c m before after → StepOf (Piece c m)
      unfolding view
      first_opens has =
          let opens : HasItOpened c open_2 before after = subst (λ (x : List ℕ). HasItOpened c x before after) has.message has in
          let said_so : IsSaid c open_2 (history setup events) = subst (λ (x : List ℕ). IsSaid c x (history setup events)) has.message said in
          let configured : (known_now setup c past).configured ≡ true = (L.at.calm.knows c).configured low (subst (λ (w : Progress). c ≤ w.configured) (sym has.was) (let one = has.is in omega (arith, one))) in
          let waits : (known_now setup c past).waits ≡ None = (L.at.calm.knows c).waits ∙ ap (λ (w : Progress). w.waiting c) has.was in
          let shut : state false (history setup own) ≡ IsShut = shut_too c client low before events own L (L.at.calm.state_is ∙ ap (λ (w : Progress). w.modem) has.was) in
          subst (λ (x : List ℕ). StepOf (Piece c x)) (sym has.message) (has_opened c client low named before after events own L said.there said_so configured waits shut opens)

      later_opens : FindsItOpen c m before after → Reflects (history setup events) (ledger events) → StepOf (Piece c m)
      unfolding view
      later_opens finds mirrors =
          let opens : FindsItOpen c open_2 before after = subst (λ (x : List ℕ). FindsItOpen c x before after) finds.message finds in
          let said_so : IsSaid c open_2 (history setup events) = subst (λ (x : List ℕ). IsSaid c x (history setup events)) finds.message said in
          let configured : (known_now setup c past).configured ≡ true =
          (L.at.calm.knows c).configured low (subst (λ (w : Progress). c ≤ w.configured) (sym finds.was) (let last = finds.is in let less = finds.named in omega (arith, last, less))) in
          let waits : (known_now setup c past).waits ≡ None = (L.at.calm.knows c).waits ∙ ap (λ (w : Progress). w.waiting c) finds.was in
          let ready : state false (history setup events) ≡ IsReady = L.at.calm.state_is ∙ ap (λ (w : Progress). w.modem) finds.was in
          let shut : state false (history setup own) ≡ IsShut =
          ⊎_elim
          (λ (is : state false (history setup own) ≡ IsShut). is)
          (λ (is : state false (history setup own) ≡ IsReady). absurd (let high = subst (λ (w : Progress). c ≤ w.opened) finds.was (L.opened is) in let last = finds.is in omega (arith, high, last)))
          (ready_or_shut c client low before events own L ready) in
          subst (λ (x : List ℕ). StepOf (Piece c x)) (sym finds.message) (finds_open c client low named before after events own L said.there said_so configured waits shut opens mirrors.mirrors)

      says : IsSaidAt c m before after → Reflects (history setup events) (ledger events) → StepOf (Piece c m)
      says step mirrors =
          ⊎_elim
          (λ (is : m ≡ configuration). subst (λ (x : List ℕ). StepOf (Piece c x)) (sym is) (names_device c client low named before after events own L said.there))
          (λ (other : HasItOpened c m before after ⊎ (FindsItOpen c m before after ⊎ AsksModem c m before)). ⊎_elim
          (λ (has : HasItOpened c m before after). first_opens has)
          (λ (more : FindsItOpen c m before after ⊎ AsksModem c m before). ⊎_elim
          (λ (finds : FindsItOpen c m before after). later_opens finds mirrors)
          (λ (asks : AsksModem c m before). queries c client low named before after events own L said.there m asks)
          more)
          other)
          step

    one_says : (d : ℕ) (m : List ℕ) → IsSaid d m (history setup events) → IsSaidAt d m before after → Reflects (history setup events) (ledger events) → StepOf (Piece d m)
    one_says d m said step mirrors =
        by_whom d (λ x. Piece x m) (other_said c client low before after events own L d m)
        (λ is. says m (subst (λ (x : ℕ). IsSaid x m (history setup events)) is said) (subst (λ (x : ℕ). IsSaidAt x m before after) is step) mirrors)

    -- ---- a message of the modem ----

    joined_some : {m : List ℕ} → TellsOpened m before after → Next c before after (ModemPiece m) events own → 1 ≤ before.progress.joined
    joined_some tells N =
        let order = N.at.calm.order in
        let opened_one : after.progress.opened ≡ 1 = ap (λ (w : Progress). w.opened) tells.becomes in
        let as_many : after.progress.joined ≡ before.progress.joined = ap (λ (w : Progress). w.joined) tells.becomes ∙ sym (ap (λ (w : Progress). w.joined) tells.was) in
        omega (arith, order, opened_one, as_many)

    modem_says : (m : List ℕ) → AnswersQuery m before ⊎ TellsOpened m before after → Reflects (history setup events) (ledger events) → StepOf (ModemPiece m)
    modem_says m step mirrors =
        ⊎_elim
        (λ (answers : AnswersQuery m before).
        let r : Request = answers.r in
        let s = answers.suits in
        let ready : state false (history setup events) ≡ IsReady = L.at.calm.state_is ∙ ap (λ (w : Progress). w.modem) answers.was in
        let at = subst (λ (requests : List Request). Contains requests r) (sym L.at.calm.uses) answers.used in
        subst (λ (x : List ℕ). StepOf (ModemPiece x)) (sym s.is)
        (let by : (b : Bool) → (r.conn == c) ≡ b → StepOf (ModemPiece (answer (cid_for s.choice) r.number)) =
        λ b. elim b as (λ b. (r.conn == c) ≡ b → StepOf (ModemPiece (answer (cid_for s.choice) r.number))) [
          | true ↦ λ mine. answer_for_it c client low before after events own L mirrors.mirrors mirrors.asked r s.choice s.below s.command at ready mine
          | false ↦ λ other. answer_for_another c client low before after events own L mirrors.mirrors mirrors.asked r s.choice s.below s.command at ready other
        ]
        in by (r.conn == c) refl))
        (λ (tells : TellsOpened m before after).
        let r : Request = tells.r in
        subst (λ (x : List ℕ). StepOf (ModemPiece x)) (sym tells.message)
        (let by : (b : Bool) → (1 == c) ≡ b → StepOf (ModemPiece (opened r.number)) =
        λ b. elim b as (λ b. (1 == c) ≡ b → StepOf (ModemPiece (opened r.number))) [
          | true ↦ λ mine N.
              let some : 1 ≤ before.progress.joined = joined_some (subst (λ (x : List ℕ). TellsOpened x before after) tells.message tells) N in
              let high : c ≤ after.progress.opened = subst (λ (w : Progress). c ≤ w.opened) (sym tells.becomes) (let one = eqb-true 1 c mine in omega (arith, one)) in
              opened_for_it c client low before after events own L mirrors.mirrors mirrors.asked r tells.joined tells.below tells.opens tells.used tells.was mine some high N
          | false ↦ λ other. opened_for_another c client low before after events own L mirrors.mirrors mirrors.asked r tells.joined tells.below tells.opens tells.used tells.was other
        ]
        in by (1 == c) refl))
        step

    -- ---- every event ----

    pub steps : (event : Event) → IsPlain event (history setup events) → IsStep event before after → Reflects (history setup events) (ledger events) → JoinFirst (event ∷ events) → StepOf event
    steps (Joined d) plain step mirrors first = joins d first
    steps (Piece d m) plain step mirrors first = one_says d m plain step mirrors
    steps (ModemPiece m) plain step mirrors first = modem_says m step mirrors
    steps (Now time) plain step mirrors first = time_passed c client low before after events own L time step
    steps (Took d count) plain step mirrors first = by_whom d (λ x. Took x count) (other_took c client low before after events own L d count) (λ is. took_bytes c client low before after events own L count)
    steps (ModemTook count) plain step mirrors first = modem_took c client low before after events own L count
    steps (Left d) plain step mirrors first = absurd step
    steps ModemGone plain step mirrors first = absurd step
    steps ModemBack plain step mirrors first = absurd step

  -- ---- all events ----

  is_let : (events : List Event) → AreSound (mbim_protocol setup) events → AreHarmless (history setup events) → IsLetAlone setup c events
  is_let events sound harmless = record {
    sound = sound;
    undisturbed = All-from_recursion (λ (entry : Entry). tells_of_others entry ≡ false) (view_of c (history setup events)) (undisturbed c (history setup events) harmless);
  }

  alike_at : (events : List Event) → AreSound (mbim_protocol setup) events → AreHarmless (history setup events) → Alike setup c (history setup events) (solo setup c events) (stream c events)
  alike_at events sound harmless = alike setup room c client (λ event is events own A sound fair. heard_alike setup room c client events own A event is) events (is_let events sound harmless)

  earlier : (event : Event) (events : List Event) → JoinFirst (event ∷ events) → JoinFirst events
  earlier (Joined d) events first = first.1
  earlier _ events first = first

  shut_at_first : (now : Standing) → state false (history setup []) ≡ IsReady → c ≤ now.progress.opened
  unfolding proxy.history state
  shut_at_first now e = absurd (let clash : IsShut ≡ IsReady = e in cc)

  -- the client alone beside all, and its part of the trace
  pub record Follows (now : Standing) (events : List Event) : Type 0 where
    pub along : Along c now events (solo setup c events)
    pub met : met_alone mbim_reading (proxy_of setup) c (trace_of mbim_reading (proxy_of setup) events) ≡ solo setup c events
    pub same : AreSame mbim_reading (proxy_of setup) c [] (trace_of mbim_reading (proxy_of setup) events)

  pub follows : (events : List Event) (now : Standing) → Trail now events → AreSound (mbim_protocol setup) events → AreMoments events → JoinFirst events → Follows now events
  unfolding alone.solo trace_of proxy.history
  follows [] now trail sound moments first = record {
    along = record { at = trail; alike = alike_at [] tt trail.calm.harmless; lone = nothing_yet c; opened = shut_at_first now };
    met = refl;
    same = tt;
  }
  follows (event ∷ events) now trail sound moments first =
      let before : Standing = trail.1.0 in
      let was : Follows before events = follows events before trail.1.1.1 sound.1 moments.1 (earlier event events first) in
      let N : Next c before now event events (solo setup c events) = record { at = trail.0; alike = alike_at (event ∷ events) sound trail.0.calm.harmless; sound = sound; rises = trail.1.1.0.1 } in
      let S : Step c client low before events (solo setup c events) was.along now event = steps before now events was.along event (are_plain (event ∷ events) moments).0 trail.1.1.0.0 (reflects events moments.1) first N in
      record {
        along = record { at = trail.0; alike = N.alike; lone = S.lone; opened = S.opened };
        met =
            fold-append (meet_met mbim_reading (proxy_of setup) c) [] (trace_of mbim_reading (proxy_of setup) events) (mets c client low before events (solo setup c events) was.along event)
            ∙ ap (λ (own : List Event). fold (meet_met mbim_reading (proxy_of setup) c) own (mets c client low before events (solo setup c events) was.along event)) was.met
            ∙ S.met;
        same =
            same_both mbim_reading (proxy_of setup) c [] (trace_of mbim_reading (proxy_of setup) events) (mets c client low before events (solo setup c events) was.along event) was.same
            (subst (λ (own : List Event). AreSame mbim_reading (proxy_of setup) c own (mets c client low before events (solo setup c events) was.along event)) (sym was.met) S.same);
      }
