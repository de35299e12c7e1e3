-- The modems are offered what waits for them, and opened again. Lists of calls and of events have the newest first.
use Rattle.std.proofs.Common.{◌≡◌, inl, inr, ℕ, ◌+◌, ◌<◌, ◌≤◌, ◌==◌, Bool, true, false, if◌then◌else◌, List, [], ◌∷◌, length, refl, sym, ◌∙◌, ap, subst, arith}
use Rattle.std.specs.List.{AllByRecursion}
use Rattle.std.proofs.lemmas.Bool.{cond-true, cond-false, eqb-true}
use Rattle.std.proofs.lemmas.Bool.Decides.{nat_tests}
use Rattle.kit_bytes.proofs.Lists.{all_weaker}
use Rattle.outbox.specs.Fronts.{IsFrontOf}
use Rattle.proxy_history.specs.Connections.{contains, without}
use Rattle.hub_io.specs.declared.settings.Until.{Until}
use Rattle.proxy_serving.specs.Serving.{IsFront}
use Rattle.many_history.specs.Events.{ManyEvent, ModemTook, ModemGone, ModemBack}
use Rattle.many_io.specs.Record.{ManyCall, SentModem, SendModemFailed, Reopened, ReopenFailed, events}
use Rattle.many_serving.specs.Proxy.{ManyProxy}
use Rattle.many_serving.specs.Serving.{IsOffered, IsModemOffered, is_modem_blocked, reopenings, due_reopenings}
use Rattle.serving_loop.specs.Server.{emptied_after, remembering}
use Rattle.serving_loop.specs.Progress.{HasOffered, OffersModems, IsReady, MayReopen}
use Rattle.serving_loop.specs.Face.{ManyFace}
use Rattle.serving_loop.specs.Cores.{StandsAfter}
use Rattle.serving_loop.specs.declared.server.Server.{Server}
use Rattle.serving_loop.proofs.Faces.{emptied_is}
use Rattle.serving_loop.proofs.Offering.{is_among, modem_blocked-sent_none}
use Rattle.serving_loop.proofs.Offers.{events-sent_modem, events-sent_modem_none, offered-sent_modem, offered-sent_modem_none, modem_offered-sent, modem_offered-sent_none}
use Rattle.serving_loop.proofs.Going.{serving-modem_sent_none, serving-modem_sent, serving-modem_failed, serving-reopened, serving-reopen_failed}
use Rattle.serving_loop.proofs.Places.{lent_front, none_offered}

-- ---- one device after another ----

-- what holds of the devices before this one and of it holds of one more
one_more_device : (P : ℕ → Type 0) (device devices : ℕ) → ((d : ℕ) → d < device → d < devices → P d) → (device < devices → P device) → (d : ℕ) → d < device + 1 → d < devices → P d
one_more_device P device devices before here d within ours =
    let step : (b : Bool) → (device == d) ≡ b → P d =
    λ b. elim b as (λ b. (device == d) ≡ b → P d) [
      | true ↦ λ same. let is = eqb-true device d same in subst P is (here (omega (arith, is, ours)))
      | false ↦ λ other. before d (grind (arith, nat_tests)) ours
    ]
    in step (device == d) refl

differs_before : (device d : ℕ) → d < device → (device == d) ≡ false
differs_before device d before = grind (arith, nat_tests)

pub differs_behind : (device d : ℕ) → device + 1 ≤ d → (device == d) ≡ false
differs_behind device d behind = grind (arith, nat_tests)

module _ {C : Type 0} {keeps : ManyProxy → List ManyEvent → C → Type 0} {face : C → ManyFace} {p : ManyProxy} {until : Until} {turns device : ℕ} {server : Server C} {calls : List ManyCall} (all : OffersModems keeps face p until turns device server calls) (within : device < (face server.core).devices) where
  ours : device < p.devices
  ours = omega (arith, within, all.serving.stands.shows.devices)

  queue : (face server.core).modem_queue device ≡ p.waiting_for_modem device (events calls)
  queue = all.serving.stands.shows.modem_queue device ours

  front_of_queue : (bytes : List ℕ) → 0 < length bytes → IsFrontOf bytes ((face server.core).modem_queue device) → IsFront bytes (p.waiting_for_modem device (events calls))
  front_of_queue bytes waits lent = let P : List ℕ → Type 0 = IsFront bytes in subst P queue (lent_front waits lent)

  -- this one was offered all too
  offered_here : IsModemOffered p calls device → OffersModems keeps face p until turns (device + 1) server calls
  offered_here is = record { serving = all.serving; awake = all.awake; in_time = all.in_time; clients = all.clients; modems = one_more_device (IsModemOffered p calls) device p.devices all.modems (λ here. is) }

  pub modem-blocked : contains device server.modems ≡ true → OffersModems keeps face p until turns (device + 1) server calls
  modem-blocked among = offered_here (inr (inr (is_among (λ d. is_modem_blocked d calls ≡ true) device server.modems all.serving.modems among)))

  pub modem-away : (face server.core).away device ≡ true → OffersModems keeps face p until turns (device + 1) server calls
  modem-away is = offered_here (inl (sym (all.serving.stands.shows.away device ours) ∙ is))

  pub modem-empty : (face server.core).modem_queue device ≡ [] → OffersModems keeps face p until turns (device + 1) server calls
  modem-empty none = offered_here (inr (inl (sym queue ∙ none)))

  pub modem-sent_none : (bytes : List ℕ) (now : Server C) → 0 < length bytes → IsFrontOf bytes ((face server.core).modem_queue device) → now.core ≡ server.core → now.blocked ≡ server.blocked → now.modems ≡ remembering device server.modems → now.emptied ≡ server.emptied
      → OffersModems keeps face p until turns (device + 1) now (SentModem device bytes 0 ∷ calls)
  unfolding reopenings due_reopenings
  modem-sent_none bytes now waits lent core blocked modems emptied =
      let rules = all.serving.stands.shows.lawful in
      let Offered : List ManyEvent → Type 0 = λ l. AllByRecursion (IsOffered p (SentModem device bytes 0 ∷ calls)) (p.present l) in
      record {
        serving = serving-modem_sent_none all.serving device bytes now (front_of_queue bytes waits lent) core blocked modems emptied;
        awake = all.awake;
        in_time = all.in_time;
        clients = subst Offered (sym (events-sent_modem_none device bytes calls))
            (all_weaker _ _ (λ c is. offered-sent_modem_none rules device ours bytes calls c is) (p.present (events calls)) all.clients);
        modems = one_more_device (IsModemOffered p (SentModem device bytes 0 ∷ calls)) device p.devices
            (λ d before there. modem_offered-sent_none rules device ours bytes calls d (all.modems d before there))
            (λ here. inr (inr (modem_blocked-sent_none device bytes calls)));
      }

  pub modem-sent : (bytes : List ℕ) (taken : ℕ) (now : Server C) → (taken == 0) ≡ false → 0 < length bytes → IsFrontOf bytes ((face server.core).modem_queue device) → (face server.core).dropped ≡ [] → contains device server.modems ≡ false
      → StandsAfter keeps face p (ModemTook device taken ∷ events calls) now.core → now.blocked ≡ server.blocked → now.modems ≡ server.modems → now.emptied ≡ emptied_after (face server.core) server.emptied (face now.core)
      → OffersModems keeps face p until turns device now (SentModem device bytes taken ∷ calls)
  unfolding reopenings due_reopenings
  modem-sent bytes taken now some waits lent none free after blocked modems emptied =
      let rules = all.serving.stands.shows.lawful in
      let Offered : List ManyEvent → Type 0 = λ l. AllByRecursion (IsOffered p (SentModem device bytes taken ∷ calls)) (p.present l) in
      record {
        serving =
            serving-modem_sent all.serving device bytes taken now some (front_of_queue bytes waits lent) none (after.stands.shows.dropped (rules.modem_took_dropped device taken (events calls) ours)) after.stands blocked free modems
            (emptied ∙ emptied_is (ModemTook device taken) server.emptied all.serving.stands after.stands all.serving.emptied);
        awake = all.awake;
        in_time = all.in_time;
        clients = subst Offered (sym (events-sent_modem device bytes taken calls some))
            (subst (AllByRecursion (IsOffered p (SentModem device bytes taken ∷ calls))) (sym (rules.modem_took_present device taken (events calls) ours))
            (all_weaker _ _ (λ c is. offered-sent_modem rules device ours bytes calls c taken some is) (p.present (events calls)) all.clients));
        modems = λ d before there. modem_offered-sent rules device ours bytes calls d taken there some (differs_before device d before) (all.modems d before there);
      }

  pub modem-failed : (bytes : List ℕ) (now : Server C) → 0 < length bytes → IsFrontOf bytes ((face server.core).modem_queue device) → (face server.core).dropped ≡ []
      → StandsAfter keeps face p (ModemGone device ∷ events calls) now.core → now.blocked ≡ server.blocked → now.modems ≡ server.modems → now.emptied ≡ emptied_after (face server.core) server.emptied (face now.core)
      → HasOffered keeps face p until turns 0 now (SendModemFailed device bytes ∷ calls)
  unfolding reopenings due_reopenings
  modem-failed bytes now waits lent none after blocked modems emptied =
      none_offered
      (serving-modem_failed all.serving device bytes now (front_of_queue bytes waits lent) none after.all_dropped after.stands blocked modems
      (emptied ∙ emptied_is (ModemGone device) server.emptied all.serving.stands after.stands all.serving.emptied))
      all.awake all.in_time

-- all modems were offered all
module _ {C : Type 0} {keeps : ManyProxy → List ManyEvent → C → Type 0} {face : C → ManyFace} {p : ManyProxy} {until : Until} {turns device : ℕ} {server : Server C} {calls : List ManyCall} where
  pub modems-ready : OffersModems keeps face p until turns device server calls → (face server.core).devices ≡ device → IsReady keeps face p until turns server calls
  modems-ready all is = record {
    serving = all.serving;
    awake = all.awake;
    in_time = all.in_time;
    offered = record { clients = all.clients; modems = λ d within. all.modems d (omega (arith, within, is, all.serving.stands.shows.devices)) within };
  }

-- ---- the clock was told ----

reopenings-once : (d e : ℕ) (calls : List ManyCall) → (d == e) ≡ true → reopenings e (Reopened d ∷ calls) ≡ reopenings e calls + 1
unfolding reopenings
reopenings-once d e calls same = cond-true _ _ _ same

reopenings-other : (d e : ℕ) (calls : List ManyCall) → (d == e) ≡ false → reopenings e (Reopened d ∷ calls) ≡ reopenings e calls
unfolding reopenings
reopenings-other d e calls other = cond-false _ _ _ other

failures-once : (d e : ℕ) (calls : List ManyCall) → (d == e) ≡ true → reopenings e (ReopenFailed d ∷ calls) ≡ reopenings e calls + 1
unfolding reopenings
failures-once d e calls same = cond-true _ _ _ same

failures-other : (d e : ℕ) (calls : List ManyCall) → (d == e) ≡ false → reopenings e (ReopenFailed d ∷ calls) ≡ reopenings e calls
unfolding reopenings
failures-other d e calls other = cond-false _ _ _ other

due-reopened : (p : ManyProxy) (d e : ℕ) (calls : List ManyCall) → due_reopenings p e (Reopened d ∷ calls) ≡ due_reopenings p e calls
unfolding due_reopenings
due-reopened p d e calls = refl

due-reopen_failed : (p : ManyProxy) (d e : ℕ) (calls : List ManyCall) → due_reopenings p e (ReopenFailed d ∷ calls) ≡ due_reopenings p e calls
unfolding due_reopenings
due-reopen_failed p d e calls = refl

same_name : (d : ℕ) → (d == d) ≡ true
same_name d = grind (arith, nat_tests)

-- no modem is missed
pub none_missed : {C : Type 0} {keeps : ManyProxy → List ManyEvent → C → Type 0} {face : C → ManyFace} {p : ManyProxy} {until : Until} {turns : ℕ} {server : Server C} {calls : List ManyCall} → MayReopen keeps face p until turns (λ d. false) 0 server calls → HasOffered keeps face p until turns 0 server calls
none_missed may = none_offered may.serving may.awake (λ d within. may.not_yet d (omega arith) within ∙ sym (may.due d (omega arith) within))

module _ {C : Type 0} {keeps : ManyProxy → List ManyEvent → C → Type 0} {face : C → ManyFace} {p : ManyProxy} {until : Until} {turns : ℕ} {misses : ℕ → Bool} {server : Server C} {calls : List ManyCall} where
  -- no modem is left that is missed
  pub reopened_all : {device : ℕ} → MayReopen keeps face p until turns misses device server calls → (face server.core).devices ≡ device → HasOffered keeps face p until turns 0 server calls
  reopened_all may is = none_offered may.serving may.awake (λ d within. may.done d (omega (arith, within, is, may.serving.stands.shows.devices)) within)

  module _ {device : ℕ} (may : MayReopen keeps face p until turns misses device server calls) (within : device < (face server.core).devices) where
    device_ours : device < p.devices
    device_ours = omega (arith, within, may.serving.stands.shows.devices)

    not_yet : reopenings device calls ≡ 0
    not_yet = may.not_yet device (omega arith) device_ours

    due_by : (b : Bool) → misses device ≡ b → due_reopenings p device calls ≡ (if b then 1 else 0)
    due_by b is = may.due device (omega arith) device_ours ∙ ap (λ (b : Bool). if b then 1 else 0) is

    now_due : misses device ≡ true → reopenings device calls + 1 ≡ due_reopenings p device calls
    now_due is = let due : due_reopenings p device calls ≡ 1 = due_by true is in omega (arith, not_yet, due)

    -- it isn't missed
    pub not_missed : misses device ≡ false → MayReopen keeps face p until turns misses (device + 1) server calls
    not_missed is = record {
      serving = may.serving;
      awake = may.awake;
      done = one_more_device (λ d. reopenings d calls ≡ due_reopenings p d calls) device p.devices may.done (λ here. not_yet ∙ sym (due_by false is));
      not_yet = λ d behind. may.not_yet d (omega (arith, behind));
      due = λ d behind. may.due d (omega (arith, behind));
    }

    -- it is, and others are as before
    pub reopened : (now : Server C) (still : ℕ → Bool) → misses device ≡ true → ((d : ℕ) → device + 1 ≤ d → d < p.devices → still d ≡ misses d) → (face server.core).dropped ≡ [] → StandsAfter keeps face p (ModemBack device ∷ events calls) now.core → now.blocked ≡ server.blocked → now.modems ≡ without device server.modems
        → now.emptied ≡ emptied_after (face server.core) server.emptied (face now.core) → MayReopen keeps face p until turns still (device + 1) now (Reopened device ∷ calls)
    reopened now still is others none after blocked modems emptied = record {
      serving = serving-reopened may.serving device now not_yet (due_by true is) none after.all_dropped after.stands blocked modems (emptied ∙ emptied_is (ModemBack device) server.emptied may.serving.stands after.stands may.serving.emptied);
      awake = may.awake;
      done = one_more_device (λ d. reopenings d (Reopened device ∷ calls) ≡ due_reopenings p d (Reopened device ∷ calls)) device p.devices
          (λ d before there. reopenings-other device d calls (differs_before device d before) ∙ may.done d before there ∙ sym (due-reopened p device d calls))
          (λ here. reopenings-once device device calls (same_name device) ∙ now_due is ∙ sym (due-reopened p device device calls));
      not_yet = λ d behind there. reopenings-other device d calls (differs_behind device d behind) ∙ may.not_yet d (omega (arith, behind)) there;
      due = λ d behind there. due-reopened p device d calls ∙ may.due d (omega (arith, behind)) there ∙ ap (λ (b : Bool). if b then 1 else 0) (sym (others d behind there));
    }

    -- it is, and couldn't be opened
    pub reopen_failed : misses device ≡ true → MayReopen keeps face p until turns misses (device + 1) server (ReopenFailed device ∷ calls)
    reopen_failed is = record {
      serving = serving-reopen_failed may.serving device not_yet (due_by true is);
      awake = may.awake;
      done = one_more_device (λ d. reopenings d (ReopenFailed device ∷ calls) ≡ due_reopenings p d (ReopenFailed device ∷ calls)) device p.devices
          (λ d before there. failures-other device d calls (differs_before device d before) ∙ may.done d before there ∙ sym (due-reopen_failed p device d calls))
          (λ here. failures-once device device calls (same_name device) ∙ now_due is ∙ sym (due-reopen_failed p device device calls));
      not_yet = λ d behind there. failures-other device d calls (differs_behind device d behind) ∙ may.not_yet d (omega (arith, behind)) there;
      due = λ d behind there. due-reopen_failed p device d calls ∙ may.due d (omega (arith, behind)) there;
    }
