-- What was offered stays offered while others are served. Lists of calls and of events have the newest first.
use Rattle.std.proofs.Common.{◌≡◌, ◌<◌, ℕ, zero, suc, true, false, ◌==◌, List, [], ◌∷◌, ◌++◌, refl, ◌∙◌, ap, arith, inl, inr, ⊎_elim}
use Rattle.std.proofs.lemmas.Bool.Decides.{nat_tests}
use Rattle.std.specs.List.{AllByRecursion, IsDistinct}
use Rattle.proxy_history.specs.Connections.{without}
use Rattle.proxy_serving.specs.Serving.{is_blocked}
use Rattle.many_history.specs.Events.{ManyEvent, Took, Left, ModemTook}
use Rattle.many_io.specs.Record.{ManyCall, Sent, SendFailed, HungUp, SentModem, events, calls_without_device}
use Rattle.many_serving.specs.Proxy.{ManyProxy}
use Rattle.many_serving.specs.Lawful.{IsLawful}
use Rattle.many_serving.specs.Serving.{IsOffered, IsModemOffered}
use Rattle.serving_loop.proofs.Offering.{blocked-sent_other, modem_blocked-sent_other, modem_blocked-sent_none_on, offered_as}

-- ---- the events of a record ----

pub events-sent : (c : ℕ) (bytes : List ℕ) (taken : ℕ) (calls : List ManyCall) → (taken == 0) ≡ false → events (Sent c bytes taken ∷ calls) ≡ Took c taken ∷ events calls
unfolding events
events-sent c bytes zero calls some = absurd (cc)
events-sent c bytes (suc taken) calls some = refl

pub events-sent_none : (c : ℕ) (bytes : List ℕ) (calls : List ManyCall) → events (Sent c bytes 0 ∷ calls) ≡ events calls
unfolding events
events-sent_none c bytes calls = refl

pub events-sent_modem : (d : ℕ) (bytes : List ℕ) (taken : ℕ) (calls : List ManyCall) → (taken == 0) ≡ false → events (SentModem d bytes taken ∷ calls) ≡ ModemTook d taken ∷ events calls
unfolding events
events-sent_modem d bytes zero calls some = absurd (cc)
events-sent_modem d bytes (suc taken) calls some = refl

pub events-sent_modem_none : (d : ℕ) (bytes : List ℕ) (calls : List ManyCall) → events (SentModem d bytes 0 ∷ calls) ≡ events calls
unfolding events
events-sent_modem_none d bytes calls = refl

pub events-send_failed : (c : ℕ) (bytes : List ℕ) (calls : List ManyCall) → events (SendFailed c bytes ∷ calls) ≡ Left c ∷ events calls
unfolding events
events-send_failed c bytes calls = refl

pub events-hung_up : (c : ℕ) (calls : List ManyCall) → events (HungUp c ∷ calls) ≡ events calls
unfolding events
events-hung_up c calls = refl

-- ---- what was offered ----

module _ {p : ManyProxy} (lawful : IsLawful p) where
  pub offered-sent_none : (c d : ℕ) (bytes : List ℕ) (calls : List ManyCall) → (c == d) ≡ false → IsOffered p calls d → IsOffered p (Sent c bytes 0 ∷ calls) d
  offered-sent_none c d bytes calls other = offered_as p d calls (Sent c bytes 0 ∷ calls)
      (ap (λ (l : List ManyEvent). p.waiting d l) (events-sent_none c bytes calls)) (blocked-sent_other c d bytes 0 (calls_without_device calls) other)

  pub offered-sent : (c d : ℕ) (bytes : List ℕ) (taken : ℕ) (calls : List ManyCall) → (taken == 0) ≡ false → (c == d) ≡ false → IsOffered p calls d → IsOffered p (Sent c bytes taken ∷ calls) d
  offered-sent c d bytes taken calls some other = offered_as p d calls (Sent c bytes taken ∷ calls)
      (ap (λ (l : List ManyEvent). p.waiting d l) (events-sent c bytes taken calls some) ∙ lawful.took_other c taken d (events calls) other) (blocked-sent_other c d bytes taken (calls_without_device calls) other)

  pub offered-send_failed : (c d : ℕ) (bytes : List ℕ) (calls : List ManyCall) → (c == d) ≡ false → IsOffered p calls d → IsOffered p (SendFailed c bytes ∷ calls) d
  unfolding is_blocked
  offered-send_failed c d bytes calls other = offered_as p d calls (SendFailed c bytes ∷ calls)
      (ap (λ (l : List ManyEvent). p.waiting d l) (events-send_failed c bytes calls) ∙ lawful.left_other c d (events calls) other) refl

  pub offered-hung_up : (c d : ℕ) (calls : List ManyCall) → IsOffered p calls d → IsOffered p (HungUp c ∷ calls) d
  unfolding is_blocked
  offered-hung_up c d calls = offered_as p d calls (HungUp c ∷ calls) (ap (λ (l : List ManyEvent). p.waiting d l) (events-hung_up c calls)) refl

  -- the modem of a device took bytes
  module _ (d : ℕ) (within : d < p.devices) (bytes : List ℕ) (calls : List ManyCall) where
    pub offered-sent_modem : (c taken : ℕ) → (taken == 0) ≡ false → IsOffered p calls c → IsOffered p (SentModem d bytes taken ∷ calls) c
    unfolding is_blocked
    offered-sent_modem c taken some = offered_as p c calls (SentModem d bytes taken ∷ calls)
        (ap (λ (l : List ManyEvent). p.waiting c l) (events-sent_modem d bytes taken calls some) ∙ lawful.modem_took_other d taken c (events calls) within) refl

    pub offered-sent_modem_none : (c : ℕ) → IsOffered p calls c → IsOffered p (SentModem d bytes 0 ∷ calls) c
    unfolding is_blocked events
    offered-sent_modem_none c is = offered_as p c calls (SentModem d bytes 0 ∷ calls) refl refl is

    -- what was offered to another modem
    pub modem_offered-sent : (e taken : ℕ) → e < p.devices → (taken == 0) ≡ false → (d == e) ≡ false → IsModemOffered p calls e → IsModemOffered p (SentModem d bytes taken ∷ calls) e
    modem_offered-sent e taken also some other is =
        let met = events-sent_modem d bytes taken calls some in
        let away = ap (p.is_away e) met ∙ lawful.other_away d e (ModemTook d taken) (events calls) refl within also other in
        let waiting = ap (p.waiting_for_modem e) met ∙ lawful.took_other_modem d taken e (events calls) within also other in
        ⊎_elim (λ gone. inl (away ∙ gone))
        (λ rest. inr (⊎_elim (λ none. inl (waiting ∙ none)) (λ blocked. inr (modem_blocked-sent_other d e bytes taken calls other ∙ blocked)) rest)) is

    pub modem_offered-sent_none : (e : ℕ) → IsModemOffered p calls e → IsModemOffered p (SentModem d bytes 0 ∷ calls) e
    modem_offered-sent_none e is =
        let met = events-sent_modem_none d bytes calls in
        ⊎_elim (λ gone. inl (ap (p.is_away e) met ∙ gone))
        (λ rest. inr (⊎_elim (λ none. inl (ap (p.waiting_for_modem e) met ∙ none)) (λ blocked. inr (modem_blocked-sent_none_on d e bytes calls blocked)) rest)) is

-- ---- a place in the order of joining ----

AllByRecursion-middle : (P : ℕ → Type 0) (done : List ℕ) (c : ℕ) (later : List ℕ) → AllByRecursion P (done ++ c ∷ later) → P c
AllByRecursion-middle P [] c later all = all.0
AllByRecursion-middle P (d ∷ done) c later all = AllByRecursion-middle P done c later all.1

turned : (c d : ℕ) → (d == c) ≡ false → (c == d) ≡ false
turned c d other = grind (arith, nat_tests)

-- with distinct names, no earlier one is this
pub earlier_differ : (done : List ℕ) (c : ℕ) (later : List ℕ) → IsDistinct (λ x y. x == y) (done ++ c ∷ later) → AllByRecursion (λ d. (c == d) ≡ false) done
unfolding IsDistinct
earlier_differ [] c later distinct = tt
earlier_differ (d ∷ done) c later distinct = (turned c d (AllByRecursion-middle (λ y. (d == y) ≡ false) done c later distinct.0), earlier_differ done c later distinct.1)

without-others : (c : ℕ) (names : List ℕ) → AllByRecursion (λ d. (c == d) ≡ false) names → without c names ≡ names
without-others c [] all = refl
without-others c (d ∷ names) all = rw (all.0, without-others c names all.1) refl

pub without-at : (done : List ℕ) (c : ℕ) (later : List ℕ) → IsDistinct (λ x y. x == y) (done ++ c ∷ later) → without c (done ++ c ∷ later) ≡ done ++ later
unfolding IsDistinct
without-at [] c later distinct = let same : (c == c) ≡ true = grind (arith, nat_tests) in rw (same, without-others c later distinct.0) refl
without-at (d ∷ done) c later distinct =
    let other : (c == d) ≡ false = turned c d (AllByRecursion-middle (λ y. (d == y) ≡ false) done c later distinct.0) in rw (other, without-at done c later distinct.1) refl
