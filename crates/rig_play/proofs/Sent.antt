-- What each client has sent. Lists of events have the newest first.
use Rattle.std.proofs.Common.{◌≡◌, ◌≢◌, ℕ, zero, suc, ◌+◌, ◌<◌, ◌≤◌, Bool, true, false, ◌==◌, if◌then◌else◌, List, [], ◌∷◌, fold, length, reverse, refl, ap, ◌∙◌, arith, subst, inl, inr, eq-eqb, ne_eqb}
use Rattle.std.specs.List.{range_with_len}
use Rattle.std.proofs.lemmas.Bool.{cases_lt}
use Rattle.proxy_history.specs.Events.{Event, Joined, Piece, Took, ModemTook}
use Rattle.proxy_history.specs.Proxy.{Proxy}
use Rattle.hub_io.specs.Record.{taking}
use Rattle.framing.specs.Cutting.{cut}
use Rattle.proxy_solo.specs.Solo.{pieces_of}
use Rattle.rig_runs.specs.Stage.{Cast, Stage, queued_for, clients_take, modem_takes, meet, hear, arrive_first, arrive_last, longest_arrives, shortest_arrives, arrive_each, all_arrive}
use Rattle.rig_runs.specs.Rig.{Script, sent, join, say, ask, open_device, pass}
use Rattle.rig_stage.proofs.Acting.{asked_events}

module _ (c : ℕ) where
  taking_sends_none : (event : ℕ → Event) (count : ℕ) (events : List Event) → ((n : ℕ) → sent c (event n ∷ events) ≡ sent c events) → sent c (taking event count events) ≡ sent c events
  taking_sends_none event zero events none = refl
  taking_sends_none event (suc count) events none = none (suc count)

  clients_send_none : (p : Proxy) (clients : List ℕ) (events : List Event) → sent c (clients_take p clients events) ≡ sent c events
  unfolding clients_take
  clients_send_none p [] events = refl
  clients_send_none p (d ∷ clients) events =
      clients_send_none p clients (taking (λ count. Took d count) (queued_for p d events) events) ∙ taking_sends_none (λ count. Took d count) (queued_for p d events) events (λ n. refl)

  module _ (cast : Cast) where
    -- of what an event brings only the event itself may be sent by the client
    pub met_sent : (event : Event) (stage : Stage) → sent c (meet cast event stage).events ≡ sent c (event ∷ stage.events)
    met_sent event stage =
        let events : List Event = clients_take cast.proxy cast.clients (event ∷ stage.events) in
        ap (sent c) (asked_events cast (cut cast.size (cast.proxy.waiting_for_modem events)).messages (record stage { events = modem_takes cast.proxy events }))
        ∙ taking_sends_none (λ count. ModemTook count) (length (cast.proxy.waiting_for_modem events)) events (λ n. refl) ∙ clients_send_none cast.proxy cast.clients (event ∷ stage.events)

    heard_sent : (pieces : List (List ℕ)) (stage : Stage) → sent c (fold (hear cast) stage pieces).events ≡ sent c stage.events
    heard_sent [] stage = refl
    heard_sent (piece ∷ pieces) stage = heard_sent pieces (hear cast stage piece) ∙ met_sent _ stage

    first_sent : (held : List (List ℕ)) (stage : Stage) → sent c (arrive_first cast held stage).events ≡ sent c stage.events
    first_sent [] stage = refl
    first_sent (m ∷ held) stage = heard_sent (pieces_of (length m) m) (record stage { held = held })

    last_sent : (held : List (List ℕ)) (stage : Stage) → sent c (arrive_last cast held stage).events ≡ sent c stage.events
    last_sent [] stage = refl
    last_sent (m ∷ held) stage = heard_sent (pieces_of (length m) m) (record stage { held = reverse held })

    pub longest_sent : (stage : Stage) → sent c (longest_arrives cast stage).events ≡ sent c stage.events
    longest_sent stage = first_sent stage.held stage

    pub shortest_sent : (stage : Stage) → sent c (shortest_arrives cast stage).events ≡ sent c stage.events
    shortest_sent stage = last_sent (reverse stage.held) stage

    each_sent : (messages : List (List ℕ)) (stage : Stage) → sent c (arrive_each cast messages stage).events ≡ sent c stage.events
    unfolding arrive_each
    each_sent [] stage = refl
    each_sent (m ∷ messages) stage = each_sent messages (longest_arrives cast stage) ∙ longest_sent stage

    pub all_sent : (stage : Stage) → sent c (all_arrive cast stage).events ≡ sent c stage.events
    all_sent stage = each_sent stage.held stage

    pub passed_sent : (time : ℕ) (stage : Stage) → sent c (pass cast time stage).events ≡ sent c stage.events
    passed_sent time stage = met_sent _ stage

    joined_sent : (clients : List ℕ) (stage : Stage) → sent c (fold (join cast) stage clients).events ≡ sent c stage.events
    joined_sent [] stage = refl
    joined_sent (d ∷ clients) stage = joined_sent clients (join cast stage d) ∙ met_sent (Joined d) stage

    -- ---- what the client says ----

    piece_counts : (d : ℕ) (b : Bool) (bytes : List ℕ) (events : List Event) → (d == c) ≡ b → sent c (Piece d bytes ∷ events) ≡ (if b then sent c events + 1 else sent c events)
    piece_counts d true bytes events is = rw is (omega arith)
    piece_counts d false bytes events is = rw is refl

    pub says_one : (message : List ℕ) (stage : Stage) → sent c (say cast c stage message).events ≡ sent c stage.events + 1
    says_one message stage = met_sent (Piece c message) stage ∙ piece_counts c true message stage.events (eq-eqb c c refl)

    pub others_say_none : (d : ℕ) (message : List ℕ) (stage : Stage) → d ≢ c → sent c (say cast d stage message).events ≡ sent c stage.events
    others_say_none d message stage other = met_sent (Piece d message) stage ∙ piece_counts d false message stage.events (ne_eqb d c other)

    module _ (script : Script) (opens_first opens_second : List ℕ) (two : (d : ℕ) → script.opening d ≡ opens_first ∷ opens_second ∷ []) where
      opens_two : (stage : Stage) → sent c (open_device cast script stage c).events ≡ sent c stage.events + 2
      opens_two stage =
          let asked : Stage = ask cast c stage opens_first in
          ap (λ messages. sent c (fold (ask cast c) stage messages).events) (two c)
          ∙ all_sent (say cast c asked opens_second) ∙ says_one opens_second asked ∙ ap (λ n. n + 1) (all_sent (say cast c stage opens_first) ∙ says_one opens_first stage)
          ∙ omega arith

      others_open : (d : ℕ) (stage : Stage) → d ≢ c → sent c (open_device cast script stage d).events ≡ sent c stage.events
      others_open d stage other =
          let asked : Stage = ask cast d stage opens_first in
          ap (λ messages. sent c (fold (ask cast d) stage messages).events) (two d)
          ∙ all_sent (say cast d asked opens_second) ∙ others_say_none d opens_second asked other ∙ all_sent (say cast d stage opens_first) ∙ others_say_none d opens_first stage other

      later_open : (from count : ℕ) (stage : Stage) → c < from → sent c (fold (open_device cast script) stage (range_with_len from count)).events ≡ sent c stage.events
      later_open from zero stage before = refl
      later_open from (suc count) stage before = later_open (from + 1) count (open_device cast script stage from) (omega (arith, before)) ∙ others_open from stage (omega (arith, before))

      opens_once : (from count : ℕ) (stage : Stage) → from ≤ c → c < from + count → sent c (fold (open_device cast script) stage (range_with_len from count)).events ≡ sent c stage.events + 2
      opens_once from zero stage least most = absurd (omega (arith, least, most))
      opens_once from (suc count) stage least most =
          let opened : Stage = open_device cast script stage from in
          elim (cases_lt from c) [
            | inl before ↦ opens_once (from + 1) count opened (omega (arith, before)) (omega (arith, most)) ∙ ap (λ n. n + 2) (others_open from stage (omega (arith, before)))
            | inr reached ↦
                let same : c ≡ from = omega (arith, least, reached) in
                later_open (from + 1) count opened (omega (arith, same)) ∙ subst (λ d. sent c (open_device cast script stage d).events ≡ sent c stage.events + 2) same (opens_two stage)
          ]

      -- once all have opened the device, each has sent two messages
      pub opened_by_two : (count : ℕ) (stage : Stage) → 1 ≤ c → c ≤ count
          → sent c (fold (open_device cast script) (fold (join cast) stage (range_with_len 1 count)) (range_with_len 1 count)).events ≡ sent c stage.events + 2
      opened_by_two count stage least most = opens_once 1 count (fold (join cast) stage (range_with_len 1 count)) least (omega (arith, most)) ∙ ap (λ n. n + 2) (joined_sent (range_with_len 1 count) stage)
