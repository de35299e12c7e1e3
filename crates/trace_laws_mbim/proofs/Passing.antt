-- What else a client meets that is alone: it joins, its socket takes bytes, and the time goes on. Lists of events and of facts have the newest first.
use Rattle.std.proofs.Common.{◌≡◌, ℕ, zero, suc, max, inl, inr, Bool, true, false, if◌then◌else◌, List, [], ◌∷◌, length, drop, map, replicate, slice_index_or, refl, ap, ap₂, sym, ◌∙◌, subst, arith}
use Rattle.proxy_history.specs.Events.{Event, Joined, Took, Now}
use Rattle.proxy_history.specs.Items.{ClockShows}
use Rattle.proxy_history.specs.Facts.{Fact, EventBegan, Taken}
use Rattle.proxy_history.specs.Connections.{present, is_present, message_count}
use Rattle.proxy_history.specs.Requests.{in_use, forward_count}
use Rattle.proxy_history.specs.Modem.{now, to_modem, modem_taken_count, modem_queue}
use Rattle.proxy_history.specs.Sound.{IsSound}
use Rattle.proxy_history.specs.History as proxy
use Rattle.proxy_history.specs.History.{add, add_all}
use Rattle.proxy_history.proofs.Walk.{begun_is_sound, tick_is}
use Rattle.proxy_solo.proofs.Lists.{self}
use Rattle.mbim_proxy.specs.ModemStates.{IsShut, IsReady, state}
use Rattle.mbim_proxy.specs.Lists.{last_list}
use Rattle.mbim_proxy.specs.Forwarding.{wire}
use Rattle.mbim_proxy.specs.History.{mbim_protocol, history}
use Rattle.mbim_proxy.proofs.Walk.{Asks, orderly}
use Rattle.rig_runs.specs.Mbim.{setup}
use Rattle.rig_trace.specs.Rows.{ledger_of}
use Rattle.trace_laws_mbim.specs.Laws.{row_of}
use Rattle.trace_laws_mbim.proofs.Rows.{AllAsked}
use Rattle.trace_laws_mbim.proofs.Kept.{SameCounts, alone_kept, list_kept, same_counts, clock_uses}
use Rattle.trace_laws_mbim.proofs.Lone.{facts_of, ledger, Holds, Lone}
use Rattle.trace_laws_mbim.proofs.Asking.{Brings}

-- ---- it joins ----

abbrev zeros : ℕ → List ℕ
zeros count = replicate count 0

none_said : (count c : ℕ) → slice_index_or (zeros count) c zero ≡ zero
none_said zero c = refl
none_said (suc count) zero = refl
none_said (suc count) (suc c) = none_said count c

pub nothing_yet : (c : ℕ) → Lone c []
unfolding proxy.history present in_use forward_count message_count now to_modem modem_taken_count state last_list ledger_of
nothing_yet c = record {
  there = inl refl;
  list = λ e. absurd (let no : IsShut ≡ IsReady = e in cc);
  plain = tt;
  taken = omega arith;
  mirrors = record { rows = refl; asked = refl; time = refl; names_are = refl; said = none_said 65 c };
}

pub joins : (c : ℕ) → Brings c [] (Joined c)
unfolding proxy.history add_all present in_use forward_count message_count now to_modem modem_taken_count state last_list ledger_of
joins c = record {
  added = record {
    there = inr refl;
    list = λ e. absurd (let no : IsShut ≡ IsReady = e in cc);
    plain = tt;
    taken = omega arith;
    mirrors = record { rows = refl; asked = refl; time = refl; names_are = refl; said = none_said 65 c ∙ sym (ap (λ (b : Bool). if b then 0 else 0) (self c)) };
  };
  queues = inl refl;
}

pub joined_shut : (c : ℕ) → state false (facts_of (Joined c) []) ≡ IsShut
unfolding proxy.history add_all present state
joined_shut c = refl

module _ (c : ℕ) (own : List Event) (lone : Lone c own) (empty : modem_queue (wire setup) (history setup own) ≡ []) where
  abbrev past : List Fact
  past = EventBegan ∷ history setup own

  -- ---- its socket takes bytes ----

  took_holds : (count : ℕ) (b : Bool) → Holds c (ledger own) (if b then Taken c count ∷ past else past)
  unfolding present in_use forward_count message_count now to_modem modem_taken_count state last_list
  took_holds count true = record {
    there = lone.there;
    list = lone.list;
    plain = lone.plain;
    taken = lone.taken;
    mirrors = record { rows = lone.mirrors.rows; asked = lone.mirrors.asked; time = lone.mirrors.time; names_are = lone.mirrors.names_are; said = lone.mirrors.said };
  }
  took_holds count false = record {
    there = lone.there;
    list = lone.list;
    plain = lone.plain;
    taken = lone.taken;
    mirrors = record { rows = lone.mirrors.rows; asked = lone.mirrors.asked; time = lone.mirrors.time; names_are = lone.mirrors.names_are; said = lone.mirrors.said };
  }

  took_queue : (count : ℕ) (b : Bool) → modem_queue (wire setup) (if b then Taken c count ∷ past else past) ≡ []
  unfolding to_modem modem_taken_count
  took_queue count true = empty
  took_queue count false = empty

  pub took : (count : ℕ) → Brings c own (Took c count)
  unfolding add_all
  took count = record { added = took_holds count (is_present c past); queues = inl (took_queue count (is_present c past)) }

  took_modem : (count : ℕ) (b : Bool) → state false (if b then Taken c count ∷ past else past) ≡ state false (history setup own)
  unfolding state
  took_modem count true = refl
  took_modem count false = refl

  pub took_still : (count : ℕ) → state false (facts_of (Took c count) own) ≡ state false (history setup own)
  unfolding add_all
  took_still count = took_modem count (is_present c past)

  -- ---- the time goes on ----

  module _ (time : ℕ) where
    abbrev after : List Fact
    after = add (mbim_protocol setup) (ClockShows time) past

    sound : IsSound setup.limits past
    sound = begun_is_sound (mbim_protocol setup) (Asks setup) (orderly setup) own

    counts : SameCounts c past after
    counts = same_counts (ClockShows time) past sound c refl

    uses : in_use after ≡ in_use (history setup own)
    unfolding in_use
    uses = clock_uses time past sound

    shown : now after ≡ max time (now (history setup own))
    unfolding now
    shown = tick_is (mbim_protocol setup) (Asks setup) (orderly setup) time past sound

    none_queued : modem_queue (wire setup) after ≡ []
    unfolding to_modem modem_taken_count
    none_queued = ap₂ drop counts.taken counts.to_it ∙ empty

    pub passes : Brings c own (Now time)
    unfolding add_all present state last_list forward_count message_count to_modem modem_taken_count
    passes = record {
      added = record {
        there = alone_kept (ClockShows time) past sound c refl lone.there;
        list = list_kept (ClockShows time) past sound lone.list;
        plain = subst AllAsked (sym uses) lone.plain;
        taken = let within = lone.taken in omega (arith, within, counts.taken, ap length counts.to_it);
        mirrors = record {
          rows = lone.mirrors.rows ∙ ap (map (row_of c)) (sym uses);
          asked = lone.mirrors.asked ∙ sym counts.forwarded;
          time = ap (max time) lone.mirrors.time ∙ sym shown;
          names_are = lone.mirrors.names_are;
          said = lone.mirrors.said ∙ sym counts.said;
        };
      };
      queues = inl none_queued;
    }
