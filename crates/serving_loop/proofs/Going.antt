-- How serving goes on from call to call. Lists of calls and of events have the newest first.
use Rattle.std.proofs.Common.{◌≡◌, ℕ, ◌+◌, ◌<◌, ◌≤◌, Bool, true, false, ◌==◌, if◌then◌else◌, List, [], ◌∷◌, ◌++◌, reverse, length, refl, sym, ◌∙◌, ap, subst, append_assoc, arith}
use Rattle.std.proofs.lemmas.Bool.{eqb-true}
use Rattle.std.proofs.lemmas.List.{reverse-append}
use Rattle.kit_bytes.proofs.Lists.{all_weaker}
use Rattle.proxy_history.specs.Connections.{contains, without}
use Rattle.hub_io.specs.declared.settings.Until.{Until}
use Rattle.proxy_serving.specs.Serving.{IsFront, taken_by, is_blocked, hang_ups, turns_in}
use Rattle.many_history.specs.Events.{ManyEvent, Took, Left, ModemTook, ModemGone, ModemBack}
use Rattle.many_io.specs.Record.{ManyCall, Told, ToldRoom, ToldModemRoom, ToldStop, NextFailed, Sent, SendFailed, HungUp, SentModem, SendModemFailed, Reopened, ReopenFailed, events, calls_without_device}
use Rattle.many_serving.specs.Proxy.{ManyProxy}
use Rattle.many_serving.specs.Serving.{Serves, AllIsOffered, AllIsDone, due_hang_ups, is_modem_blocked, reopenings, due_reopenings}
use Rattle.many_serving.specs.Ends.{GoesOn, NeverOver, emptied_at}
use Rattle.serving_loop.specs.Server.{remembering}
use Rattle.serving_loop.specs.Progress.{IsServing, IsInTime, MayBeTold}
use Rattle.serving_loop.specs.Face.{ManyFace}
use Rattle.serving_loop.specs.Cores.{Stands}
use Rattle.serving_loop.specs.declared.server.Server.{Server}
use Rattle.serving_loop.proofs.Offering.{AreBlocked, AreModemsBlocked, differs_from_all, blocked-sent_none, blocked-sent_none_on, blocked_but, blocked_others, all_remembered, all_without, modem_blocked-sent_none, modem_blocked-sent_none_on, modem_blocked-room_other, modem_blocked-reopened_other, modems_blocked_others}
use Rattle.serving_loop.proofs.Takings.{takes-sent_none, takes-sent, takes-failed, takes-told, takes-by}
use Rattle.serving_loop.proofs.Offers.{events-sent, events-sent_none, events-hung_up, events-sent_modem}

-- ---- what is known, call by call ----

module _ {C : Type 0} {keeps : ManyProxy → List ManyEvent → C → Type 0} {face : C → ManyFace} {p : ManyProxy} {turns : ℕ} {server : Server C} {calls : List ManyCall} (going : IsServing keeps face p turns server calls) where
  stands_for : (core : C) (past later : List ManyEvent) → later ≡ past → Stands keeps face p past core → Stands keeps face p later core
  stands_for core past later is stands = let P : List ManyEvent → Type 0 = λ l. Stands keeps face p l core in subst P (sym is) stands

  -- all that was due to be hung up was
  none_due : (face server.core).dropped ≡ [] → hang_ups (calls_without_device calls) ≡ due_hang_ups p calls
  none_due before = ap (λ (l : List ℕ). reverse l ++ hang_ups (calls_without_device calls)) (sym before) ∙ going.hangs_up

  -- the core is as it was: it stands for the same events, and as many are still to be hung up
  same_stands : (now : Server C) → now.core ≡ server.core → Stands keeps face p (events calls) now.core
  same_stands now core = subst (Stands keeps face p (events calls)) (sym core) going.stands

  same_due : (now : Server C) → now.core ≡ server.core → reverse (face now.core).dropped ++ hang_ups (calls_without_device calls) ≡ due_hang_ups p calls
  same_due now core = ap (λ (k : C). reverse (face k).dropped ++ hang_ups (calls_without_device calls)) core ∙ going.hangs_up

  -- the core dropped these, and all that it dropped before were hung up
  due_behind : (now : Server C) (dropped : List ℕ) → (face server.core).dropped ≡ [] → (face now.core).dropped ≡ dropped → reverse (face now.core).dropped ++ hang_ups (calls_without_device calls) ≡ reverse dropped ++ due_hang_ups p calls
  due_behind now dropped before after = ap (λ (l : List ℕ). reverse l ++ hang_ups (calls_without_device calls)) after ∙ ap (λ (l : List ℕ). reverse dropped ++ l) (none_due before)

  -- all was done before the hub is asked for what comes next
  pub all_done : IsInTime p calls → AllIsOffered p calls → (face server.core).dropped ≡ [] → AllIsDone p calls
  all_done in_time offered none = record { offered = offered; hung_up = none_due none; reopened = in_time }

  -- the next dropped connection is hung up
  pub serving-hung_up : (c : ℕ) (now : Server C) → (face server.core).dropped ≡ c ∷ (face now.core).dropped → Stands keeps face p (events calls) now.core → AreBlocked (calls_without_device calls) now.blocked → now.modems ≡ server.modems → now.emptied ≡ server.emptied
      → IsServing keeps face p turns now (HungUp c ∷ calls)
  unfolding hang_ups due_hang_ups is_blocked turns_in taken_by events is_modem_blocked reopenings due_reopenings
  serving-hung_up c now left stands blocked modem emptied = record {
    stands = stands_for now.core (events calls) (events (HungUp c ∷ calls)) (events-hung_up c calls) stands;
    sends = going.sends;
    takes = going.takes;
    does_all = going.does_all;
    hangs_up =
        sym (append_assoc (reverse (face now.core).dropped) (c ∷ []) (hang_ups (calls_without_device calls)))
        ∙ ap (λ (l : List ℕ). l ++ hang_ups (calls_without_device calls)) (sym (reverse-append (c ∷ []) (face now.core).dropped) ∙ ap reverse (sym left))
        ∙ going.hangs_up;
    reopens = going.reopens;
    no_opening = (tt, going.no_opening);
    no_end = (tt, going.no_end);
    counted = going.counted;
    blocked = blocked;
    modems = subst (AreModemsBlocked (HungUp c ∷ calls)) (sym modem) going.modems;
    emptied = emptied ∙ going.emptied ∙ ap (emptied_at p) (sym (events-hung_up c calls));
  }

  -- a sending took nothing
  pub serving-sent_none : (c : ℕ) (bytes : List ℕ) (now : Server C) → IsFront bytes (p.waiting c (events calls)) → now.core ≡ server.core → now.blocked ≡ remembering c server.blocked → now.modems ≡ server.modems → now.emptied ≡ server.emptied
      → IsServing keeps face p turns now (Sent c bytes 0 ∷ calls)
  unfolding hang_ups due_hang_ups turns_in is_modem_blocked reopenings due_reopenings
  serving-sent_none c bytes now front core blocked modem emptied = record {
    stands = stands_for now.core (events calls) (events (Sent c bytes 0 ∷ calls)) (events-sent_none c bytes calls) (same_stands now core);
    sends = (front, going.sends);
    takes = takes-sent_none p c bytes calls going.takes;
    does_all = going.does_all;
    hangs_up = same_due now core;
    reopens = going.reopens;
    no_opening = (tt, going.no_opening);
    no_end = (tt, going.no_end);
    counted = going.counted;
    blocked = all_remembered (λ d. is_blocked d (calls_without_device (Sent c bytes 0 ∷ calls)) ≡ true) c server.blocked now.blocked blocked (blocked-sent_none c bytes (calls_without_device calls))
        (all_weaker _ _ (λ d is. blocked-sent_none_on c d bytes (calls_without_device calls) is) server.blocked going.blocked);
    modems = subst (AreModemsBlocked (Sent c bytes 0 ∷ calls)) (sym modem) going.modems;
    emptied = emptied ∙ going.emptied ∙ ap (emptied_at p) (sym (events-sent_none c bytes calls));
  }

  -- a sending took bytes
  pub serving-sent : (c : ℕ) (bytes : List ℕ) (taken : ℕ) (now : Server C) → (taken == 0) ≡ false → taken ≤ length bytes → contains c (p.present (events calls)) ≡ true → IsFront bytes (p.waiting c (events calls)) → contains c server.blocked ≡ false → (face server.core).dropped ≡ [] → (face now.core).dropped ≡ []
      → Stands keeps face p (Took c taken ∷ events calls) now.core → now.blocked ≡ server.blocked → now.modems ≡ server.modems → now.emptied ≡ emptied_at p (Took c taken ∷ events calls)
      → IsServing keeps face p turns now (Sent c bytes taken ∷ calls)
  unfolding hang_ups due_hang_ups turns_in is_modem_blocked reopenings due_reopenings
  serving-sent c bytes taken now some within there front free before after stands blocked modem emptied = record {
    stands = stands_for now.core (Took c taken ∷ events calls) (events (Sent c bytes taken ∷ calls)) (events-sent c bytes taken calls some) stands;
    sends = (front, going.sends);
    takes = takes-sent going.stands.shows.lawful c bytes taken calls (events-sent c bytes taken calls some) stands.shows.rise there front within going.takes;
    does_all = going.does_all;
    hangs_up = due_behind now [] before after;
    reopens = going.reopens;
    no_opening = (tt, going.no_opening);
    no_end = (tt, going.no_end);
    counted = going.counted;
    blocked = subst (AreBlocked (calls_without_device (Sent c bytes taken ∷ calls))) (sym blocked) (blocked_others c bytes taken (calls_without_device calls) server.blocked (differs_from_all c server.blocked free) going.blocked);
    modems = subst (AreModemsBlocked (Sent c bytes taken ∷ calls)) (sym modem) going.modems;
    emptied = emptied ∙ ap (emptied_at p) (sym (events-sent c bytes taken calls some));
  }

  -- a sending failed, and its connection was hung up
  pub serving-failed : (c : ℕ) (bytes : List ℕ) (now : Server C) → IsFront bytes (p.waiting c (events calls)) → (face server.core).dropped ≡ [] → (face now.core).dropped ≡ []
      → Stands keeps face p (Left c ∷ events calls) now.core → AreBlocked (calls_without_device calls) now.blocked → now.modems ≡ server.modems → now.emptied ≡ emptied_at p (Left c ∷ events calls)
      → IsServing keeps face p turns now (HungUp c ∷ SendFailed c bytes ∷ calls)
  unfolding hang_ups due_hang_ups is_blocked events turns_in taken_by is_modem_blocked reopenings due_reopenings
  serving-failed c bytes now front before after stands blocked modem emptied = record {
    stands = stands;
    sends = (front, going.sends);
    takes = takes-failed going.stands.shows.lawful c bytes calls stands.shows.rise going.takes;
    does_all = going.does_all;
    hangs_up = ap (λ (l : List ℕ). reverse l ++ c ∷ hang_ups (calls_without_device calls)) after ∙ ap (λ (l : List ℕ). c ∷ l) (none_due before);
    reopens = going.reopens;
    no_opening = (tt, (tt, going.no_opening));
    no_end = (tt, (tt, going.no_end));
    counted = going.counted;
    blocked = blocked;
    modems = subst (AreModemsBlocked (HungUp c ∷ SendFailed c bytes ∷ calls)) (sym modem) going.modems;
    emptied = emptied;
  }

  -- the hub told an event, once all was offered
  pub serving-told : (devices known : ℕ) (event : ManyEvent) (now : Server C) → MayBeTold devices known event → IsInTime p calls → AllIsOffered p calls → (face server.core).dropped ≡ [] → (face now.core).dropped ≡ p.dropped (event ∷ events calls)
      → Stands keeps face p (event ∷ events calls) now.core → now.blocked ≡ server.blocked → now.modems ≡ server.modems → now.emptied ≡ emptied_at p (event ∷ events calls)
      → IsServing keeps face p (turns + 1) now (Told event ∷ calls)
  unfolding hang_ups due_hang_ups is_blocked events turns_in is_modem_blocked reopenings due_reopenings
  serving-told devices known event now may in_time offered before after stands blocked modem emptied = record {
    stands = stands;
    sends = going.sends;
    takes = takes-told going.stands.shows.lawful devices known event calls may stands.shows.rise going.takes;
    does_all = (all_done in_time offered before, going.does_all);
    hangs_up = due_behind now (p.dropped (event ∷ events calls)) before after;
    reopens = λ d within. omega arith;
    no_opening = (tt, going.no_opening);
    no_end = (tt, going.no_end);
    counted = ap (λ (n : ℕ). n + 1) going.counted;
    blocked = subst (AreBlocked (calls_without_device (Told event ∷ calls))) (sym blocked) going.blocked;
    modems = subst (AreModemsBlocked (Told event ∷ calls)) (sym modem) going.modems;
    emptied = emptied;
  }

  -- the hub told that a client's socket takes bytes again
  pub serving-room : (c : ℕ) (now : Server C) → IsInTime p calls → AllIsOffered p calls → (face server.core).dropped ≡ [] → now.core ≡ server.core → now.blocked ≡ without c server.blocked → now.modems ≡ server.modems → now.emptied ≡ server.emptied
      → IsServing keeps face p (turns + 1) now (ToldRoom c ∷ calls)
  unfolding hang_ups due_hang_ups events turns_in taken_by is_modem_blocked reopenings due_reopenings
  serving-room c now in_time offered before core blocked modem emptied = record {
    stands = same_stands now core;
    sends = going.sends;
    takes = going.takes;
    does_all = (all_done in_time offered before, going.does_all);
    hangs_up = same_due now core;
    reopens = λ d within. omega arith;
    no_opening = (tt, going.no_opening);
    no_end = (tt, going.no_end);
    counted = ap (λ (n : ℕ). n + 1) going.counted;
    blocked = subst (AreBlocked (calls_without_device (ToldRoom c ∷ calls))) (sym blocked) (blocked_but c (calls_without_device calls) server.blocked going.blocked);
    modems = subst (AreModemsBlocked (ToldRoom c ∷ calls)) (sym modem) going.modems;
    emptied = emptied ∙ going.emptied;
  }

  -- or that the modem of a device does
  pub serving-modem_room : (d : ℕ) (now : Server C) → IsInTime p calls → AllIsOffered p calls → (face server.core).dropped ≡ [] → now.core ≡ server.core → now.blocked ≡ server.blocked → now.modems ≡ without d server.modems → now.emptied ≡ server.emptied
      → IsServing keeps face p (turns + 1) now (ToldModemRoom d ∷ calls)
  unfolding hang_ups due_hang_ups is_blocked events turns_in taken_by reopenings due_reopenings
  serving-modem_room d now in_time offered before core blocked modems emptied = record {
    stands = same_stands now core;
    sends = going.sends;
    takes = going.takes;
    does_all = (all_done in_time offered before, going.does_all);
    hangs_up = same_due now core;
    reopens = λ e within. omega arith;
    no_opening = (tt, going.no_opening);
    no_end = (tt, going.no_end);
    counted = ap (λ (n : ℕ). n + 1) going.counted;
    blocked = subst (AreBlocked (calls_without_device (ToldModemRoom d ∷ calls))) (sym blocked) going.blocked;
    modems = subst (AreModemsBlocked (ToldModemRoom d ∷ calls)) (sym modems) (all_without _ _ d server.modems (λ e other is. modem_blocked-room_other d e calls other ∙ is) going.modems);
    emptied = emptied ∙ going.emptied;
  }

  -- ---- the modem of a device ----

  -- a sending to it took nothing
  pub serving-modem_sent_none : (d : ℕ) (bytes : List ℕ) (now : Server C) → IsFront bytes (p.waiting_for_modem d (events calls)) → now.core ≡ server.core → now.blocked ≡ server.blocked → now.modems ≡ remembering d server.modems → now.emptied ≡ server.emptied
      → IsServing keeps face p turns now (SentModem d bytes 0 ∷ calls)
  unfolding hang_ups due_hang_ups is_blocked events turns_in taken_by reopenings due_reopenings
  serving-modem_sent_none d bytes now front core blocked modems emptied = record {
    stands = same_stands now core;
    sends = (front, going.sends);
    takes = going.takes;
    does_all = going.does_all;
    hangs_up = same_due now core;
    reopens = going.reopens;
    no_opening = (tt, going.no_opening);
    no_end = (tt, going.no_end);
    counted = going.counted;
    blocked = subst (AreBlocked (calls_without_device (SentModem d bytes 0 ∷ calls))) (sym blocked) going.blocked;
    modems = all_remembered (λ e. is_modem_blocked e (SentModem d bytes 0 ∷ calls) ≡ true) d server.modems now.modems modems (modem_blocked-sent_none d bytes calls)
        (all_weaker _ _ (λ e is. modem_blocked-sent_none_on d e bytes calls is) server.modems going.modems);
    emptied = emptied ∙ going.emptied;
  }

  -- it took bytes
  pub serving-modem_sent : (d : ℕ) (bytes : List ℕ) (taken : ℕ) (now : Server C) → (taken == 0) ≡ false → IsFront bytes (p.waiting_for_modem d (events calls)) → (face server.core).dropped ≡ [] → (face now.core).dropped ≡ []
      → Stands keeps face p (ModemTook d taken ∷ events calls) now.core → now.blocked ≡ server.blocked → contains d server.modems ≡ false → now.modems ≡ server.modems → now.emptied ≡ emptied_at p (ModemTook d taken ∷ events calls)
      → IsServing keeps face p turns now (SentModem d bytes taken ∷ calls)
  unfolding hang_ups due_hang_ups is_blocked turns_in taken_by reopenings due_reopenings
  serving-modem_sent d bytes taken now some front before after stands blocked free modems emptied = record {
    stands = stands_for now.core (ModemTook d taken ∷ events calls) (events (SentModem d bytes taken ∷ calls)) (events-sent_modem d bytes taken calls some) stands;
    sends = (front, going.sends);
    takes = takes-by going.stands.shows.lawful (ModemTook d taken) calls (SentModem d bytes taken ∷ calls) (events-sent_modem d bytes taken calls some) stands.shows.rise (λ c. tt) (λ c. refl) going.takes;
    does_all = going.does_all;
    hangs_up = due_behind now [] before after;
    reopens = going.reopens;
    no_opening = (tt, going.no_opening);
    no_end = (tt, going.no_end);
    counted = going.counted;
    blocked = subst (AreBlocked (calls_without_device (SentModem d bytes taken ∷ calls))) (sym blocked) going.blocked;
    modems = subst (AreModemsBlocked (SentModem d bytes taken ∷ calls)) (sym modems) (modems_blocked_others d bytes taken calls server.modems (differs_from_all d server.modems free) going.modems);
    emptied = emptied ∙ ap (emptied_at p) (sym (events-sent_modem d bytes taken calls some));
  }

  -- it failed, so the modem is gone
  pub serving-modem_failed : (d : ℕ) (bytes : List ℕ) (now : Server C) → IsFront bytes (p.waiting_for_modem d (events calls)) → (face server.core).dropped ≡ [] → (face now.core).dropped ≡ p.dropped (ModemGone d ∷ events calls)
      → Stands keeps face p (ModemGone d ∷ events calls) now.core → now.blocked ≡ server.blocked → now.modems ≡ server.modems → now.emptied ≡ emptied_at p (ModemGone d ∷ events calls)
      → IsServing keeps face p turns now (SendModemFailed d bytes ∷ calls)
  unfolding hang_ups due_hang_ups is_blocked is_modem_blocked events turns_in taken_by reopenings due_reopenings
  serving-modem_failed d bytes now front before after stands blocked modems emptied = record {
    stands = stands;
    sends = (front, going.sends);
    takes = takes-by going.stands.shows.lawful (ModemGone d) calls (SendModemFailed d bytes ∷ calls) refl stands.shows.rise (λ c. tt) (λ c. refl) going.takes;
    does_all = going.does_all;
    hangs_up = due_behind now (p.dropped (ModemGone d ∷ events calls)) before after;
    reopens = going.reopens;
    no_opening = (tt, going.no_opening);
    no_end = (tt, going.no_end);
    counted = going.counted;
    blocked = subst (AreBlocked (calls_without_device (SendModemFailed d bytes ∷ calls))) (sym blocked) going.blocked;
    modems = subst (AreModemsBlocked (SendModemFailed d bytes ∷ calls)) (sym modems) going.modems;
    emptied = emptied;
  }

  -- the modem of a device that was to be opened again, and wasn't yet, is, or couldn't be
  once : (d e : ℕ) → reopenings d calls ≡ 0 → due_reopenings p d calls ≡ 1 → e < p.devices → (if d == e then reopenings e calls + 1 else reopenings e calls) ≤ due_reopenings p e calls
  once d e not_yet due within =
      let Once : Bool → Type 0 = λ b. (if b then reopenings e calls + 1 else reopenings e calls) ≤ due_reopenings p e calls in
      let step : (b : Bool) → (d == e) ≡ b → Once b =
      λ b. elim b as (λ b. (d == e) ≡ b → Once b) [
        | true ↦ λ same.
            let none : reopenings e calls ≡ 0 = subst (λ (n : ℕ). reopenings n calls ≡ 0) (eqb-true d e same) not_yet in
            let one : due_reopenings p e calls ≡ 1 = subst (λ (n : ℕ). due_reopenings p n calls ≡ 1) (eqb-true d e same) due in
            omega (arith, none, one)
        | false ↦ λ other. going.reopens e within
      ]
      in step (d == e) refl

  pub serving-reopened : (d : ℕ) (now : Server C) → reopenings d calls ≡ 0 → due_reopenings p d calls ≡ 1 → (face server.core).dropped ≡ [] → (face now.core).dropped ≡ p.dropped (ModemBack d ∷ events calls)
      → Stands keeps face p (ModemBack d ∷ events calls) now.core → now.blocked ≡ server.blocked → now.modems ≡ without d server.modems → now.emptied ≡ emptied_at p (ModemBack d ∷ events calls)
      → IsServing keeps face p turns now (Reopened d ∷ calls)
  unfolding hang_ups due_hang_ups is_blocked events turns_in taken_by reopenings due_reopenings
  serving-reopened d now not_yet due before after stands blocked modems emptied = record {
    stands = stands;
    sends = going.sends;
    takes = takes-by going.stands.shows.lawful (ModemBack d) calls (Reopened d ∷ calls) refl stands.shows.rise (λ c. tt) (λ c. refl) going.takes;
    does_all = going.does_all;
    hangs_up = due_behind now (p.dropped (ModemBack d ∷ events calls)) before after;
    reopens = λ e within. once d e not_yet due within;
    no_opening = (tt, going.no_opening);
    no_end = (tt, going.no_end);
    counted = going.counted;
    blocked = subst (AreBlocked (calls_without_device (Reopened d ∷ calls))) (sym blocked) going.blocked;
    modems = subst (AreModemsBlocked (Reopened d ∷ calls)) (sym modems) (all_without _ _ d server.modems (λ e other is. modem_blocked-reopened_other d e calls other ∙ is) going.modems);
    emptied = emptied;
  }

  pub serving-reopen_failed : (d : ℕ) → reopenings d calls ≡ 0 → due_reopenings p d calls ≡ 1 → IsServing keeps face p turns server (ReopenFailed d ∷ calls)
  unfolding hang_ups due_hang_ups is_blocked events turns_in taken_by is_modem_blocked reopenings due_reopenings
  serving-reopen_failed d not_yet due = record {
    stands = going.stands;
    sends = going.sends;
    takes = going.takes;
    does_all = going.does_all;
    hangs_up = going.hangs_up;
    reopens = λ e within. once d e not_yet due within;
    no_opening = (tt, going.no_opening);
    no_end = (tt, going.no_end);
    counted = going.counted;
    blocked = going.blocked;
    modems = going.modems;
    emptied = going.emptied;
  }

  -- once all hang-ups are done
  pub serves : (face server.core).dropped ≡ [] → Serves p calls
  serves none = record { sends = going.sends; takes = going.takes; does_all = going.does_all; hangs_up = none_due none; reopens = going.reopens; no_opening = going.no_opening }

  pub goes_on : {until : Until} → (face server.core).dropped ≡ [] → NeverOver p until calls → GoesOn p until turns calls
  goes_on none awake = record { serves = serves none; no_end = going.no_end; awake = awake; counted = omega (arith, going.counted) }

  -- the last call was to stop, or failed
  pub serves-stop : IsInTime p calls → AllIsOffered p calls → (face server.core).dropped ≡ [] → Serves p (ToldStop ∷ calls)
  unfolding hang_ups due_hang_ups taken_by events reopenings due_reopenings
  serves-stop in_time offered none = record { sends = going.sends; takes = going.takes; does_all = (all_done in_time offered none, going.does_all); hangs_up = none_due none; reopens = going.reopens; no_opening = (tt, going.no_opening) }

  pub serves-failed : IsInTime p calls → AllIsOffered p calls → (face server.core).dropped ≡ [] → Serves p (NextFailed ∷ calls)
  unfolding hang_ups due_hang_ups taken_by events reopenings due_reopenings
  serves-failed in_time offered none = record { sends = going.sends; takes = going.takes; does_all = (all_done in_time offered none, going.does_all); hangs_up = none_due none; reopens = going.reopens; no_opening = (tt, going.no_opening) }
