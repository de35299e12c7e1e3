-- Each client of a rig meets its part of the trace alone, and takes the same bytes. Lists of events and of facts have the newest first.
use Rattle.std.proofs.Common.{◌≡◌, ◌≢◌, ℕ, ◌<◌, ◌≤◌, max, Bool, true, false, ◌==◌, if◌then◌else◌, List, [], ◌∷◌, length, refl, ap, ◌∙◌, subst, arith}
use Rattle.std.proofs.lemmas.Bool.{eqb-true}
use Rattle.std.proofs.lemmas.Bool.Decides.{nat_tests}
use Rattle.proxy_history.specs.Events.{Event, Joined, Piece, Left, ModemPiece, ModemGone, ModemBack, Now, Took, ModemTook}
use Rattle.proxy_history.specs.Coming.{greatest_name, queued_for}
use Rattle.proxy_history.specs.Connections.{present, is_present}
use Rattle.proxy_history.specs.History as proxy
use Rattle.proxy_solo.specs.Solo as alone
use Rattle.qmi_proxy.specs.Setup.{Setup}
use Rattle.qmi_proxy.specs.Proxy.{proxy_of}
use Rattle.qmi_proxy.specs.History.{qmi_protocol, history, text_for}
use Rattle.qmi_solo.specs.Law.{AreSound}
use Rattle.qmi_solo.specs.Solo.{solo}
use Rattle.qmi_solo.proofs.Law.{histories_are_same}
use Rattle.qmi_solo.proofs.Meets.{meet_if}
use Rattle.rig_runs.specs.Qmi.{setup, script, qmi_rig}
use Rattle.rig_runs.specs.Qmi as rig
use Rattle.rig_laws.proofs.Plain.{ArePlain}
use Rattle.rig_laws.proofs.Law.{events_may_come, rigs_are_plain, each_is_let_alone, nothing_waits}
use Rattle.rig_trace.specs.Qmi.{qmi_reading}
use Rattle.rig_trace.specs.Laws.{MeetsItsPart, TakesTheSame}
use Rattle.trace_laws.specs.Laws.{EachMeetsItsPart, EachTakesTheSame}
use Rattle.trace_laws.proofs.Alone.{AllLetAlone, is_let_alone, AllJoinFirst, meets_its_part, takes_the_same}
use Rattle.trace_laws.proofs.Joining.{AreQuiet, AllJoinEarly, all_join_early}

module _ (s : Setup) (c : ℕ) (client : c ≢ 0) where
  -- ---- before it joins it meets nothing ----

  nobody : is_present c (history s []) ≡ false
  unfolding proxy.history present
  nobody = refl

  takes_nothing : (count waiting : ℕ) (there : Bool) → there ≡ false → 1 ≤ count → count ≤ (if there then waiting else 0) → ⊥
  takes_nothing count waiting true isnt some within = absurd (cc)
  takes_nothing count waiting false isnt some within = absurd (omega (arith, some, within))

  another : (d : ℕ) (events : List Event) → max d (greatest_name events) < c → (d == c) ≡ false
  another d events before = grind (arith, nat_tests, before)

  met_nothing : (events : List Event) → AreQuiet events → AreSound s events → AllLetAlone s c events → greatest_name events < c → solo s c events ≡ []
  unfolding alone.solo
  met_nothing [] quiet sound others before = refl
  met_nothing (Joined d ∷ events) quiet sound others before =
      ap (λ (b : Bool). meet_if b s (Joined d) (solo s c events)) (another d events before) ∙ met_nothing events quiet sound.1 others.1 (omega (arith, before))
  met_nothing (Took d count ∷ events) quiet sound others before =
      let none : solo s c events ≡ [] = met_nothing events quiet.1 sound.1 others.1 before in
      let absent : is_present c (history s events) ≡ false =
      (histories_are_same s c events client (is_let_alone s c events others.1)).same.there ∙ ap (λ (own : List Event). is_present c (history s own)) none ∙ nobody in
      let step : (b : Bool) → (d == c) ≡ b → meet_if b s (Took d count) (solo s c events) ≡ [] =
      λ b. elim b as (λ b. (d == c) ≡ b → meet_if b s (Took d count) (solo s c events) ≡ []) [
        | true ↦ λ is.
            let within : count ≤ queued_for (qmi_protocol s) c events = subst (λ (n : ℕ). count ≤ queued_for (qmi_protocol s) n events) (eqb-true d c is) sound.0 in
            absurd (takes_nothing count (length (text_for s c events).waiting) (is_present c (history s events)) absent quiet.0 within)
        | false ↦ λ isnt. none
      ]
      in step (d == c) refl
  met_nothing (ModemTook count ∷ events) quiet sound others before = met_nothing events quiet sound.1 others.1 before
  met_nothing (Piece d m ∷ events) quiet sound others before = absurd quiet
  met_nothing (Left d ∷ events) quiet sound others before = absurd quiet
  met_nothing (ModemPiece m ∷ events) quiet sound others before = absurd quiet
  met_nothing (ModemGone ∷ events) quiet sound others before = absurd quiet
  met_nothing (ModemBack ∷ events) quiet sound others before = absurd quiet
  met_nothing (Now time ∷ events) quiet sound others before = absurd quiet

  pub all_join_first : (events : List Event) → AllJoinEarly events → AreSound s events → AllLetAlone s c events → AllJoinFirst s c events
  all_join_first [] early sound others = tt
  all_join_first (Joined d ∷ events) early sound others =
      ((λ same. met_nothing events early.0 sound.1 others.1 (subst (λ (n : ℕ). greatest_name events < n) same sound.0)), all_join_first events early.1 sound.1 others.1)
  all_join_first (Took d count ∷ events) early sound others = (tt, all_join_first events early sound.1 others.1)
  all_join_first (ModemTook count ∷ events) early sound others = (tt, all_join_first events early sound.1 others.1)
  all_join_first (Piece d m ∷ events) early sound others = (tt, all_join_first events early sound.1 others.1)
  all_join_first (Left d ∷ events) early sound others = (tt, all_join_first events early sound.1 others.1)
  all_join_first (ModemPiece m ∷ events) early sound others = (tt, all_join_first events early sound.1 others.1)
  all_join_first (ModemGone ∷ events) early sound others = (tt, all_join_first events early sound.1 others.1)
  all_join_first (ModemBack ∷ events) early sound others = (tt, all_join_first events early sound.1 others.1)
  all_join_first (Now time ∷ events) early sound others = (tt, all_join_first events early sound.1 others.1)

-- ---- rigs ----

module _ (clients turns number : ℕ) (some : 1 ≤ clients) (within : clients ≤ 64) (c : ℕ) (low : 1 ≤ c) where
  client : c ≢ 0
  client e = absurd (omega (arith, low, e))

  abbrev events : List Event
  events = qmi_rig clients turns number

  plain : ArePlain setup events
  plain = rigs_are_plain clients turns number some within

  sound : AreSound setup events
  sound = events_may_come clients turns number some within

  others : AllLetAlone setup c events
  others = each_is_let_alone clients turns number some within c

  first : AllJoinFirst setup c events
  first = all_join_first setup c client events (all_join_early (rig.cast clients) script turns number) sound others

  its_part : MeetsItsPart qmi_reading (proxy_of setup) (solo setup) c events
  its_part = meets_its_part setup refl refl refl c client events plain others first

  the_same : c ≤ clients → TakesTheSame qmi_reading (proxy_of setup) c events
  the_same high = takes_the_same setup refl refl refl c client events plain others first (nothing_waits clients turns number some within c low high)

pub each_meets_its_part : EachMeetsItsPart
each_meets_its_part clients turns number some within c low high = its_part clients turns number some within c low

pub each_takes_the_same : EachTakesTheSame
each_takes_the_same clients turns number some within c low high = the_same clients turns number some within c low high
