-- A modem that takes at once all that waits for it: the client that is alone knows nothing of it.
use Rattle.std.proofs.Common.{◌≡◌, ℕ, zero, suc, ◌+◌, ◌≤◌, List, [], ◌∷◌, length, refl, ap, sym, ◌∙◌, subst, arith, None, length-drop}
use Rattle.proxy_history.specs.Events.{Event, ModemTook}
use Rattle.proxy_history.specs.Streams.{modem_stream}
use Rattle.proxy_history.specs.Facts.{Fact, EventBegan, ModemTaken}
use Rattle.proxy_history.specs.Connections.{present}
use Rattle.proxy_history.specs.Requests.{in_use, pending}
use Rattle.proxy_history.specs.Modem.{now, is_away}
use Rattle.proxy_history.specs.Modem as modem
use Rattle.proxy_history.specs.Coming.{AreSound}
use Rattle.proxy_history.specs.View.{view}
use Rattle.proxy_history.specs.History as proxy
use Rattle.proxy_solo.specs.Part as alone_part
use Rattle.proxy_solo.specs.Solo.{take_all}
use Rattle.proxy_solo.specs.Solo as alone
use Rattle.mbim_proxy.specs.Setup.{Setup}
use Rattle.mbim_proxy.specs.ModemStates.{state}
use Rattle.mbim_proxy.specs.Lists.{merged, last_list}
use Rattle.mbim_proxy.specs.Forwarding.{wire}
use Rattle.mbim_proxy.specs.OwnList.{number_of_list, finish}
use Rattle.mbim_proxy.specs.History.{mbim_protocol, history, modem_queue}
use Rattle.mbim_solo.specs.Part.{part}
use Rattle.mbim_solo.proofs.Relation.{modem_bytes}
use Rattle.mbim_solo.proofs.Wanting.{finish_none}

empty_of : (bytes : List ℕ) → length bytes ≡ 0 → bytes ≡ []
empty_of [] e = refl
empty_of (byte ∷ bytes) e = absurd (omega (arith, e))

-- the modem took so many bytes
abbrev pub was_taken : ℕ → List Fact → List Fact
was_taken count facts = ModemTaken count ∷ EventBegan ∷ facts

pub taken_queue : (s : Setup) (facts : List Fact) (count : ℕ) → length (modem.modem_queue (wire s) facts) ≡ count → modem.modem_queue (wire s) (was_taken count facts) ≡ []
unfolding modem.to_modem modem.modem_taken_count
taken_queue s facts count is =
    empty_of (modem.modem_queue (wire s) (was_taken count facts)) (omega (arith, is, length-drop (modem.modem_taken_count facts) (modem.to_modem (wire s) facts), length-drop (modem.modem_taken_count facts + count) (modem.to_modem (wire s) facts)))

module _ (s : Setup) (c : ℕ) where
  -- behind these facts the modem took all that waited, and nothing else came
  pub record HasTaken (facts own : List Fact) : Type 0 where
    pub same : part c own ≡ part c facts
    pub in_use : in_use own ≡ in_use facts
    pub pending : pending own ≡ pending facts
    pub time : now own ≡ now facts
    pub state : state s.starts_away own ≡ state s.starts_away facts
    pub lists : merged s own ≡ merged s facts
    pub last : last_list own ≡ last_list facts
    pub queue : modem.modem_queue (wire s) own ≡ []
    pub none : number_of_list s (merged s own) own ≡ None

  abbrev taken : List Event → List Event
  taken solo = alone.taken (mbim_protocol s) solo

  module _ (solo : List Event) (facts : List Fact) (is : history s solo ≡ facts) (none : number_of_list s (merged s facts) facts ≡ None)
      (still : (count : ℕ) → length (modem.modem_queue (wire s) facts) ≡ suc count → number_of_list s (merged s (was_taken (suc count) facts)) (was_taken (suc count) facts) ≡ None) where
    drains : (count : ℕ) → length (modem.modem_queue (wire s) facts) ≡ count → HasTaken facts (history s (take_all count solo))
    unfolding proxy.history proxy.add_all alone_part.part in_use pending now state last_list present view
    drains zero waits =
        subst (HasTaken facts) (sym is) (record { same = refl; in_use = refl; pending = refl; time = refl; state = refl; lists = refl; last = refl; queue = empty_of (modem.modem_queue (wire s) facts) waits; none = none })
    drains (suc count) waits =
        let goes : history s (ModemTook (suc count) ∷ solo) ≡ was_taken (suc count) facts =
        ap (λ (l : List Fact). finish s (was_taken (suc count) l)) is ∙ finish_none s (was_taken (suc count) facts) (still count waits)
        in
        subst (HasTaken facts) (sym goes) (record { same = refl; in_use = refl; pending = refl; time = refl; state = refl; lists = refl; last = refl; queue = taken_queue s facts (suc count) waits; none = still count waits })

    pub takes : HasTaken facts (history s (taken solo))
    takes = subst (λ (l : List Fact). HasTaken facts (history s (take_all (length (modem.modem_queue (wire s) l)) solo))) (sym is) (drains (length (modem.modem_queue (wire s) facts)) refl)

  -- it may come
  take_sound : (count : ℕ) (solo : List Event) → count ≤ length (modem_queue s solo) → AreSound (mbim_protocol s) solo → AreSound (mbim_protocol s) (take_all count solo)
  take_sound zero solo within sound = sound
  take_sound (suc count) solo within sound = (within, sound)

  pub taken_sound : (solo : List Event) → AreSound (mbim_protocol s) solo → AreSound (mbim_protocol s) (taken solo)
  taken_sound solo sound = take_sound (length (modem_queue s solo)) solo (omega arith) sound

  -- the modem says nothing with it
  take_quiet : (count : ℕ) (solo : List Event) → modem_bytes s c (take_all count solo) ≡ modem_bytes s c solo
  unfolding modem_stream
  take_quiet zero solo = refl
  take_quiet (suc count) solo = refl

  pub taken_quiet : (solo : List Event) → modem_bytes s c (taken solo) ≡ modem_bytes s c solo
  taken_quiet solo = take_quiet (length (modem_queue s solo)) solo
