-- A proxy of one device is served where it is served as the only one of several.
use Rattle.std.proofs.Common.{◌≡◌, ℕ, zero, suc, ◌+◌, ◌≤◌, List, [], ◌∷◌, ◌++◌, map, reverse, refl, ap, sym, ◌∙◌, subst, arith, inl, inr, ⊎_elim, if◌then◌else◌, Option, Some, None}
use Rattle.std.specs.List.{AllByRecursion}
use Rattle.link_io.specs.Target.{Address}
use Rattle.kit_bytes.proofs.Lists.{all_weaker}
use Rattle.proxy_history.specs.Events.{Event}
use Rattle.proxy_history.specs.Events as one
use Rattle.proxy_history.specs.Proxy.{Proxy}
use Rattle.hub_io.specs.Record.{Call, Told, ToldRoom, ToldModemRoom, ToldStop, NextFailed, Sent, SendFailed, SentModem, SendModemFailed, Opened, Paired, Reopened, ReopenFailed, HungUp}
use Rattle.hub_io.specs.Record as one_call
use Rattle.proxy_serving.specs.Serving as one_serving
use Rattle.proxy_serving.specs.Ends as one_end
use Rattle.many_io.specs.Record.{without_device, call_without_device, calls_without_device, first_of, ManyCall, events}
use Rattle.many_serving.specs.Proxy.{ManyProxy}
use Rattle.many_serving.specs.Serving as several
use Rattle.many_io.specs.One.{devices_of, of_device_0, call_of}
use Rattle.many_serving.specs.One.{only_of}

without_device_is : (event : Event) → without_device (of_device_0 event) ≡ event
without_device_is (one.Joined c) = refl
without_device_is (one.Piece c bytes) = refl
without_device_is (one.Left c) = refl
without_device_is (one.Took c count) = refl
without_device_is (one.ModemPiece bytes) = refl
without_device_is one.ModemGone = refl
without_device_is one.ModemBack = refl
without_device_is (one.ModemTook count) = refl
without_device_is (one.Now time) = refl

abbrev pub all : List Call → List ManyCall
all calls = map call_of calls

device_is : (device : Option Address) → first_of (devices_of device) ≡ device
device_is None = refl
device_is (Some device) = refl

call_is : (call : Call) → call_without_device (call_of call) ≡ call
call_is (Told event) = ap (λ (e : Event). Told e) (without_device_is event)
call_is (ToldRoom c) = refl
call_is ToldModemRoom = refl
call_is ToldStop = refl
call_is NextFailed = refl
call_is (Sent c bytes taken) = refl
call_is (SendFailed c bytes) = refl
call_is (SentModem bytes taken) = refl
call_is (SendModemFailed bytes) = refl
call_is (Opened socket device ok) = ap (λ (d : Option Address). Opened socket d ok) (device_is device)
call_is (Paired ok) = refl
call_is Reopened = refl
call_is ReopenFailed = refl
call_is (HungUp c) = refl

pub calls_are : (calls : List Call) → calls_without_device (all calls) ≡ calls
calls_are [] = refl
calls_are (call ∷ calls) = ap (λ (k : Call). k ∷ calls_without_device (all calls)) (call_is call) ∙ ap (λ (l : List Call). call ∷ l) (calls_are calls)

abbrev pub met : List Call → List Event
met calls = map without_device (events (all calls))

pub met_is : (calls : List Call) → met calls ≡ one_call.events calls
unfolding events one_call.events
met_is [] = refl
met_is (Told event ∷ calls) = ap (λ (e : Event). e ∷ met calls) (without_device_is event) ∙ ap (λ (l : List Event). event ∷ l) (met_is calls)
met_is (Sent c bytes zero ∷ calls) = met_is calls
met_is (Sent c bytes (suc taken) ∷ calls) = ap (λ (l : List Event). one.Took c (suc taken) ∷ l) (met_is calls)
met_is (SendFailed c bytes ∷ calls) = ap (λ (l : List Event). one.Left c ∷ l) (met_is calls)
met_is (SentModem bytes zero ∷ calls) = met_is calls
met_is (SentModem bytes (suc taken) ∷ calls) = ap (λ (l : List Event). one.ModemTook (suc taken) ∷ l) (met_is calls)
met_is (SendModemFailed bytes ∷ calls) = ap (λ (l : List Event). one.ModemGone ∷ l) (met_is calls)
met_is (Reopened ∷ calls) = ap (λ (l : List Event). one.ModemBack ∷ l) (met_is calls)
met_is (ToldRoom c ∷ calls) = met_is calls
met_is (ToldModemRoom ∷ calls) = met_is calls
met_is (ToldStop ∷ calls) = met_is calls
met_is (NextFailed ∷ calls) = met_is calls
met_is (Opened socket device ok ∷ calls) = met_is calls
met_is (Paired ok ∷ calls) = met_is calls
met_is (ReopenFailed ∷ calls) = met_is calls
met_is (HungUp c ∷ calls) = met_is calls

module _ (p : Proxy) where
  abbrev pub q : ManyProxy
  q = only_of p

  -- ---- bytes ----

  front : (bytes : List ℕ) (waiting : List Event → List ℕ) (calls : List Call) → one_serving.IsFront bytes (waiting (met calls)) → one_serving.IsFront bytes (waiting (one_call.events calls))
  front bytes waiting calls is = subst (λ (l : List Event). one_serving.IsFront bytes (waiting l)) (met_is calls) is

  sends : (calls : List Call) → several.SendsWhatWaits q (all calls) → one_serving.SendsWhatWaits p calls
  sends [] is = tt
  sends (Sent c bytes taken ∷ calls) is = (front bytes (p.waiting c) calls is.0, sends calls is.1)
  sends (SendFailed c bytes ∷ calls) is = (front bytes (p.waiting c) calls is.0, sends calls is.1)
  sends (SentModem bytes taken ∷ calls) is = (front bytes p.waiting_for_modem calls is.0, sends calls is.1)
  sends (SendModemFailed bytes ∷ calls) is = (front bytes p.waiting_for_modem calls is.0, sends calls is.1)
  sends (Told event ∷ calls) is = sends calls is
  sends (ToldRoom c ∷ calls) is = sends calls is
  sends (ToldModemRoom ∷ calls) is = sends calls is
  sends (ToldStop ∷ calls) is = sends calls is
  sends (NextFailed ∷ calls) is = sends calls is
  sends (Opened socket device ok ∷ calls) is = sends calls is
  sends (Paired ok ∷ calls) is = sends calls is
  sends (Reopened ∷ calls) is = sends calls is
  sends (ReopenFailed ∷ calls) is = sends calls is
  sends (HungUp c ∷ calls) is = sends calls is

  takes : (calls : List Call) → several.TakesTheFirst q (all calls) → one_serving.TakesTheFirst p calls
  takes calls is c =
      ap (p.text c) (sym (met_is calls)) ∙ is c ∙ ap (λ (l : List ℕ). l ++ p.waiting c (met calls)) (ap (one_serving.taken_by c) (calls_are calls)) ∙ ap (λ (l : List Event). one_serving.taken_by c calls ++ p.waiting c l) (met_is calls)

  -- ---- offering ----

  modem_blocked_same : (calls : List Call) → several.is_modem_blocked 0 (all calls) ≡ one_serving.is_modem_blocked calls
  unfolding several.is_modem_blocked one_serving.is_modem_blocked
  modem_blocked_same [] = refl
  modem_blocked_same (SentModem bytes zero ∷ calls) = refl
  modem_blocked_same (SentModem bytes (suc taken) ∷ calls) = refl
  modem_blocked_same (ToldModemRoom ∷ calls) = refl
  modem_blocked_same (Reopened ∷ calls) = refl
  modem_blocked_same (Told event ∷ calls) = modem_blocked_same calls
  modem_blocked_same (ToldRoom c ∷ calls) = modem_blocked_same calls
  modem_blocked_same (ToldStop ∷ calls) = modem_blocked_same calls
  modem_blocked_same (NextFailed ∷ calls) = modem_blocked_same calls
  modem_blocked_same (Sent c bytes taken ∷ calls) = modem_blocked_same calls
  modem_blocked_same (SendFailed c bytes ∷ calls) = modem_blocked_same calls
  modem_blocked_same (SendModemFailed bytes ∷ calls) = modem_blocked_same calls
  modem_blocked_same (Opened socket device ok ∷ calls) = modem_blocked_same calls
  modem_blocked_same (Paired ok ∷ calls) = modem_blocked_same calls
  modem_blocked_same (ReopenFailed ∷ calls) = modem_blocked_same calls
  modem_blocked_same (HungUp c ∷ calls) = modem_blocked_same calls

  offered : (calls : List Call) (c : ℕ) → several.IsOffered q (all calls) c → one_serving.IsOffered p calls c
  offered calls c is = ⊎_elim (λ none. inl (ap (p.waiting c) (sym (met_is calls)) ∙ none)) (λ blocked. inr (sym (ap (one_serving.is_blocked c) (calls_are calls)) ∙ blocked)) is

  modem_offered : (calls : List Call) → several.IsModemOffered q (all calls) 0 → one_serving.IsModemOffered p calls
  modem_offered calls is =
      ⊎_elim (λ away. inl (ap p.is_away (sym (met_is calls)) ∙ away))
      (λ rest. inr (⊎_elim (λ none. inl (ap p.waiting_for_modem (sym (met_is calls)) ∙ none)) (λ blocked. inr (sym (modem_blocked_same calls) ∙ blocked)) rest)) is

  pub all_offered : (calls : List Call) → several.AllIsOffered q (all calls) → one_serving.AllIsOffered p calls
  all_offered calls is = record {
    clients = subst (λ (l : List Event). AllByRecursion (one_serving.IsOffered p calls) (p.present l)) (met_is calls) (all_weaker _ _ (offered calls) (p.present (met calls)) is.clients);
    modem = modem_offered calls (is.modems 0 (omega arith));
  }

  -- ---- hanging up, and opening again ----

  dropped_same : (event : Event) (calls : List Call) → reverse (p.dropped (without_device (of_device_0 event) ∷ met calls)) ≡ reverse (p.dropped (event ∷ one_call.events calls))
  dropped_same event calls = ap (λ (e : Event). reverse (p.dropped (e ∷ met calls))) (without_device_is event) ∙ ap (λ (l : List Event). reverse (p.dropped (event ∷ l))) (met_is calls)

  with_dropped : (event : Event) (calls : List Call) (due due_one : List ℕ) → due ≡ due_one → reverse (p.dropped (without_device (of_device_0 event) ∷ met calls)) ++ due ≡ reverse (p.dropped (event ∷ one_call.events calls)) ++ due_one
  with_dropped event calls due due_one same = ap (λ (l : List ℕ). l ++ due) (dropped_same event calls) ∙ ap (λ (l : List ℕ). reverse (p.dropped (event ∷ one_call.events calls)) ++ l) same

  due_same : (calls : List Call) → several.due_hang_ups q (all calls) ≡ one_serving.due_hang_ups p calls
  unfolding several.due_hang_ups one_serving.due_hang_ups
  due_same [] = refl
  due_same (Told event ∷ calls) = with_dropped event calls _ _ (due_same calls)
  due_same (SendFailed c bytes ∷ calls) = ap (λ (l : List ℕ). c ∷ l) (due_same calls)
  due_same (SendModemFailed bytes ∷ calls) = with_dropped one.ModemGone calls _ _ (due_same calls)
  due_same (Reopened ∷ calls) = with_dropped one.ModemBack calls _ _ (due_same calls)
  due_same (ToldRoom c ∷ calls) = due_same calls
  due_same (ToldModemRoom ∷ calls) = due_same calls
  due_same (ToldStop ∷ calls) = due_same calls
  due_same (NextFailed ∷ calls) = due_same calls
  due_same (Sent c bytes taken ∷ calls) = due_same calls
  due_same (SentModem bytes taken ∷ calls) = due_same calls
  due_same (Opened socket device ok ∷ calls) = due_same calls
  due_same (Paired ok ∷ calls) = due_same calls
  due_same (ReopenFailed ∷ calls) = due_same calls
  due_same (HungUp c ∷ calls) = due_same calls

  reopenings_same : (calls : List Call) → several.reopenings 0 (all calls) ≡ one_serving.reopenings calls
  unfolding several.reopenings one_serving.reopenings
  reopenings_same [] = refl
  reopenings_same (Reopened ∷ calls) = ap (λ (n : ℕ). n + 1) (reopenings_same calls)
  reopenings_same (ReopenFailed ∷ calls) = ap (λ (n : ℕ). n + 1) (reopenings_same calls)
  reopenings_same (Told event ∷ calls) = refl
  reopenings_same (ToldRoom c ∷ calls) = refl
  reopenings_same (ToldModemRoom ∷ calls) = refl
  reopenings_same (ToldStop ∷ calls) = reopenings_same calls
  reopenings_same (NextFailed ∷ calls) = reopenings_same calls
  reopenings_same (Sent c bytes taken ∷ calls) = reopenings_same calls
  reopenings_same (SendFailed c bytes ∷ calls) = reopenings_same calls
  reopenings_same (SentModem bytes taken ∷ calls) = reopenings_same calls
  reopenings_same (SendModemFailed bytes ∷ calls) = reopenings_same calls
  reopenings_same (Opened socket device ok ∷ calls) = reopenings_same calls
  reopenings_same (Paired ok ∷ calls) = reopenings_same calls
  reopenings_same (HungUp c ∷ calls) = reopenings_same calls

  due_reopenings_same : (calls : List Call) → several.due_reopenings q 0 (all calls) ≡ one_serving.due_reopenings p calls
  unfolding several.due_reopenings one_serving.due_reopenings
  due_reopenings_same [] = refl
  due_reopenings_same (Told (one.Now time) ∷ calls) = ap (λ (l : List Event). if p.is_away (one.Now time ∷ l) then 1 else 0) (met_is calls)
  due_reopenings_same (Told (one.Joined d) ∷ calls) = refl
  due_reopenings_same (Told (one.Piece d bytes) ∷ calls) = refl
  due_reopenings_same (Told (one.Left d) ∷ calls) = refl
  due_reopenings_same (Told (one.Took d count) ∷ calls) = refl
  due_reopenings_same (Told (one.ModemPiece bytes) ∷ calls) = refl
  due_reopenings_same (Told one.ModemGone ∷ calls) = refl
  due_reopenings_same (Told one.ModemBack ∷ calls) = refl
  due_reopenings_same (Told (one.ModemTook count) ∷ calls) = refl
  due_reopenings_same (ToldRoom c ∷ calls) = refl
  due_reopenings_same (ToldModemRoom ∷ calls) = refl
  due_reopenings_same (ToldStop ∷ calls) = due_reopenings_same calls
  due_reopenings_same (NextFailed ∷ calls) = due_reopenings_same calls
  due_reopenings_same (Sent c bytes taken ∷ calls) = due_reopenings_same calls
  due_reopenings_same (SendFailed c bytes ∷ calls) = due_reopenings_same calls
  due_reopenings_same (SentModem bytes taken ∷ calls) = due_reopenings_same calls
  due_reopenings_same (SendModemFailed bytes ∷ calls) = due_reopenings_same calls
  due_reopenings_same (Opened socket device ok ∷ calls) = due_reopenings_same calls
  due_reopenings_same (Paired ok ∷ calls) = due_reopenings_same calls
  due_reopenings_same (Reopened ∷ calls) = due_reopenings_same calls
  due_reopenings_same (ReopenFailed ∷ calls) = due_reopenings_same calls
  due_reopenings_same (HungUp c ∷ calls) = due_reopenings_same calls

  -- ---- all that is done ----

  pub done : (calls : List Call) → several.AllIsDone q (all calls) → one_serving.AllIsDone p calls
  done calls is = record {
    offered = all_offered calls is.offered;
    hung_up = sym (ap one_serving.hang_ups (calls_are calls)) ∙ is.hung_up ∙ due_same calls;
    reopened = sym (reopenings_same calls) ∙ is.reopened 0 (omega arith) ∙ due_reopenings_same calls;
  }

  does_all : (calls : List Call) → several.DoesAllBeforeEachNext q (all calls) → one_serving.DoesAllBeforeEachNext p calls
  does_all [] is = tt
  does_all (Told event ∷ calls) is = (done calls is.0, does_all calls is.1)
  does_all (ToldRoom c ∷ calls) is = (done calls is.0, does_all calls is.1)
  does_all (ToldModemRoom ∷ calls) is = (done calls is.0, does_all calls is.1)
  does_all (ToldStop ∷ calls) is = (done calls is.0, does_all calls is.1)
  does_all (NextFailed ∷ calls) is = (done calls is.0, does_all calls is.1)
  does_all (Sent c bytes taken ∷ calls) is = does_all calls is
  does_all (SendFailed c bytes ∷ calls) is = does_all calls is
  does_all (SentModem bytes taken ∷ calls) is = does_all calls is
  does_all (SendModemFailed bytes ∷ calls) is = does_all calls is
  does_all (Opened socket device ok ∷ calls) is = does_all calls is
  does_all (Paired ok ∷ calls) is = does_all calls is
  does_all (Reopened ∷ calls) is = does_all calls is
  does_all (ReopenFailed ∷ calls) is = does_all calls is
  does_all (HungUp c ∷ calls) is = does_all calls is

  pub served : (calls : List Call) → several.Serves q (all calls) → one_end.Serves p calls
  served calls is = record {
    sends = sends calls is.sends;
    takes = takes calls is.takes;
    does_all = does_all calls is.does_all;
    hangs_up = sym (ap one_serving.hang_ups (calls_are calls)) ∙ is.hangs_up ∙ due_same calls;
    reopens = subst (λ (n : ℕ). n ≤ one_serving.due_reopenings p calls) (reopenings_same calls) (subst (λ (n : ℕ). several.reopenings 0 (all calls) ≤ n) (due_reopenings_same calls) (is.reopens 0 (omega arith)));
    no_opening = subst (AllByRecursion one_serving.IsNoOpening) (calls_are calls) is.no_opening;
  }
