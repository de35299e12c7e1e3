-- In a rig all clients join before anything else is met. Lists of events have the newest first.
use Rattle.std.proofs.Common.{◌≡◌, ◌≢◌, ℕ, zero, suc, ◌+◌, ◌<◌, Bool, true, false, ◌==◌, nat_lt, if◌then◌else◌, List, [], ◌∷◌, length, reverse, fold, refl, ap, sym, ◌∙◌, arith}
use Rattle.std.specs.List.{range_with_len}
use Rattle.std.proofs.lemmas.Bool.{eqb-true}
use Rattle.std.proofs.lemmas.Bool.Decides.{nat_tests}
use Rattle.hub_io.specs.Record.{taking}
use Rattle.proxy_history.specs.Events.{Event, Joined, Piece, ModemPiece, Now, Took, ModemTook}
use Rattle.proxy_history.specs.Connections.{is_present}
use Rattle.proxy_history.specs.Coming.{AreSound, greatest_name}
use Rattle.proxy_solo.specs.Solo as alone
use Rattle.proxy_solo.specs.Solo.{pieces_of}
use Rattle.proxy_solo.proofs.Histories.{absent}
use Rattle.mbim_proxy.specs.Proxy.{proxy_of}
use Rattle.mbim_proxy.specs.History.{mbim_protocol, history}
use Rattle.mbim_proxy.proofs.Walk.{Asks, orderly}
use Rattle.mbim_solo.specs.Solo.{restated, mbim_alone, solo}
use Rattle.mbim_solo.proofs.Reading.{reads}
use Rattle.mbim_solo.proofs.Orderly.{new_is_unheard}
use Rattle.rig_runs.specs.Draws.{Turn, turns_after}
use Rattle.rig_runs.specs.Stage.{Stage, empty, queued_for, clients_take, ask_all, meet, hear, arrive, arrive_first, arrive_last, longest_arrives, shortest_arrives, arrive_each, all_arrive}
use Rattle.rig_runs.specs.Rig.{join, say, ask, open_device, pass, play, ended, next_number, most_held, tick, last_tick}
use Rattle.rig_runs.specs.Mbim.{setup, cast, script, mbim_rig}

-- who joined took bytes at most
abbrev pub OnlyJoin : List Event → Type 0
OnlyJoin [] = Unit {0}
OnlyJoin (Joined d ∷ events) = OnlyJoin events
OnlyJoin (Took d count ∷ events) = (is_present d (history setup events) ≡ true) × OnlyJoin events
OnlyJoin (ModemTook count ∷ events) = OnlyJoin events
OnlyJoin _ = ⊥

abbrev pub JoinFirst : List Event → Type 0
JoinFirst [] = Unit {0}
JoinFirst (Joined d ∷ events) = OnlyJoin events × JoinFirst events
JoinFirst (_ ∷ events) = JoinFirst events

-- ---- who joins then met nothing before ----

module _ (c : ℕ) (client : c ≢ 0) where
  gone : (events : List Event) → AreSound (mbim_protocol setup) events → greatest_name events < c → is_present c (history setup events) ≡ false
  gone events sound rises = absent (mbim_protocol setup) (Asks setup) (orderly setup) restated reads c client (history setup events) (new_is_unheard setup c client events sound rises)

  other_than : (d : ℕ) → d < c → (d == c) ≡ false
  other_than d less = grind (arith, nat_tests, less)

  takes_none : (b : Bool) (d count : ℕ) (events own : List Event) → (d == c) ≡ b → is_present d (history setup events) ≡ true → is_present c (history setup events) ≡ false → alone.meet_if b (mbim_protocol setup) (mbim_alone setup) (Took d count) own ≡ own
  takes_none true d count events own is there gone = absurd (let clash : true ≡ false = sym there ∙ ap (λ (x : ℕ). is_present x (history setup events)) (eqb-true d c is) ∙ gone in cc)
  takes_none false d count events own is there gone = refl

  pub met_nothing : (events : List Event) → OnlyJoin events → AreSound (mbim_protocol setup) events → greatest_name events < c → solo setup c events ≡ []
  unfolding alone.solo
  met_nothing [] only sound rises = refl
  met_nothing (Joined d ∷ events) only sound rises =
      ap (λ (b : Bool). alone.meet_if b (mbim_protocol setup) (mbim_alone setup) (Joined d) (solo setup c events)) (other_than d (omega (arith, rises))) ∙ met_nothing events only sound.1 (omega (arith, rises))
  met_nothing (Took d count ∷ events) only sound rises =
      takes_none (d == c) d count events (solo setup c events) refl only.0 (gone events sound.1 rises) ∙ met_nothing events only.1 sound.1 rises
  met_nothing (ModemTook count ∷ events) only sound rises = met_nothing events only sound.1 rises
  met_nothing _ only sound rises = absurd only

-- ---- along a rig ----

-- what is kept by each event but a joining
module _ (P : List Event → Type 0) (took : (d count : ℕ) (events : List Event) → is_present d (history setup events) ≡ true → P events → P (Took d count ∷ events)) (modem_took : (count : ℕ) (events : List Event) → P events → P (ModemTook count ∷ events)) where
  one_takes : (d : ℕ) (there : Bool) (waits : ℕ) (events : List Event) → is_present d (history setup events) ≡ there → P events → P (taking (λ count. Took d count) (if there then waits else 0) events)
  one_takes d true zero events is held = held
  one_takes d true (suc count) events is held = took d (suc count) events is held
  one_takes d false waits events is held = held

  all_take : (clients : List ℕ) (events : List Event) → P events → P (clients_take (proxy_of setup) clients events)
  unfolding clients_take
  all_take [] events held = held
  all_take (d ∷ clients) events held =
      all_take clients (taking (λ count. Took d count) (queued_for (proxy_of setup) d events) events) (one_takes d (is_present d (history setup events)) (length ((proxy_of setup).waiting d events)) events refl held)

  modem_takes_all : (count : ℕ) (events : List Event) → P events → P (taking (λ n. ModemTook n) count events)
  modem_takes_all zero events held = held
  modem_takes_all (suc count) events held = modem_took (suc count) events held

  module _ (clients : ℕ) where
    asked_events : (messages : List (List ℕ)) (stage : Stage) → P stage.events → P (ask_all (cast clients) messages stage).events
    unfolding ask_all
    asked_events [] stage held = held
    asked_events (m ∷ messages) stage held = asked_events messages _ held

    pub after_meeting : (event : Event) (stage : Stage) → P (event ∷ stage.events) → P (meet (cast clients) event stage).events
    after_meeting event stage held =
        asked_events _ _ (modem_takes_all (length ((proxy_of setup).waiting_for_modem (clients_take (proxy_of setup) (range_with_len 1 clients) (event ∷ stage.events)))) (clients_take (proxy_of setup) (range_with_len 1 clients) (event ∷ stage.events))
        (all_take (range_with_len 1 clients) (event ∷ stage.events) held))

    module _ (said : (d : ℕ) (m : List ℕ) (events : List Event) → P events → P (Piece d m ∷ events)) (heard : (m : List ℕ) (events : List Event) → P events → P (ModemPiece m ∷ events)) (passed : (time : ℕ) (events : List Event) → P events → P (Now time ∷ events)) where
      abbrev Holds : Stage → Type 0
      Holds stage = P stage.events

      pieces_heard : (pieces : List (List ℕ)) (stage : Stage) → Holds stage → Holds (fold (hear (cast clients)) stage pieces)
      pieces_heard [] stage held = held
      pieces_heard (piece ∷ pieces) stage held = pieces_heard pieces (hear (cast clients) stage piece) (after_meeting (ModemPiece piece) stage (heard piece stage.events held))

      arrives : (m : List ℕ) (stage : Stage) → Holds stage → Holds (arrive (cast clients) m stage)
      arrives m stage held = pieces_heard (pieces_of (length m) m) stage held

      first_arrives : (messages : List (List ℕ)) (stage : Stage) → Holds stage → Holds (arrive_first (cast clients) messages stage)
      first_arrives [] stage held = held
      first_arrives (m ∷ messages) stage held = arrives m (record stage { held = messages }) held

      last_arrives : (messages : List (List ℕ)) (stage : Stage) → Holds stage → Holds (arrive_last (cast clients) messages stage)
      last_arrives [] stage held = held
      last_arrives (m ∷ messages) stage held = arrives m (record stage { held = reverse messages }) held

      each_arrives : (messages : List (List ℕ)) (stage : Stage) → Holds stage → Holds (arrive_each (cast clients) messages stage)
      unfolding arrive_each
      each_arrives [] stage held = held
      each_arrives (m ∷ messages) stage held = each_arrives messages (longest_arrives (cast clients) stage) (first_arrives stage.held stage held)

      says : (d : ℕ) (stage : Stage) (m : List ℕ) → Holds stage → Holds (say (cast clients) d stage m)
      says d stage m held = after_meeting (Piece d m) stage (said d m stage.events held)

      asks : (d : ℕ) (stage : Stage) (m : List ℕ) → Holds stage → Holds (ask (cast clients) d stage m)
      asks d stage m held = each_arrives (say (cast clients) d stage m).held (say (cast clients) d stage m) (says d stage m held)

      opens : (messages : List (List ℕ)) (d : ℕ) (stage : Stage) → Holds stage → Holds (fold (ask (cast clients) d) stage messages)
      opens [] d stage held = held
      opens (m ∷ messages) d stage held = opens messages d (ask (cast clients) d stage m) (asks d stage m held)

      all_open : (names : List ℕ) (stage : Stage) → Holds stage → Holds (fold (open_device (cast clients) script) stage names)
      all_open [] stage held = held
      all_open (d ∷ names) stage held = all_open names (open_device (cast clients) script stage d) (opens (script.opening d) d stage held)

      passes : (time : ℕ) (stage : Stage) → Holds stage → Holds (pass (cast clients) time stage)
      passes time stage held = after_meeting (Now ((proxy_of setup).time stage.events + time)) stage (passed ((proxy_of setup).time stage.events + time) stage.events held)

      plays : (stage : Stage) (turn : Turn) → Holds stage → Holds (play (cast clients) script stage turn)
      plays stage turn held = by (nat_lt turn.choice 4) (nat_lt turn.choice 6) (turn.choice == 6) (nat_lt (length stage.held) most_held)
        where
          by : (a b d room : Bool)
              → Holds (let stage_then : Stage = if a then (if room then say (cast clients) turn.client stage (script.request turn.client turn.choice (next_number script turn.client stage.events)) else longest_arrives (cast clients) stage) else if b then longest_arrives (cast clients) stage else if d then shortest_arrives (cast clients) stage else pass (cast clients) tick stage in stage_then)
          by true b d true = says turn.client stage (script.request turn.client turn.choice (next_number script turn.client stage.events)) held
          by true b d false = first_arrives stage.held stage held
          by false true d room = first_arrives stage.held stage held
          by false false true room = last_arrives (reverse stage.held) stage held
          by false false false room = passes tick stage held

      all_play : (turns : List Turn) (stage : Stage) → Holds stage → Holds (fold (play (cast clients) script) stage turns)
      all_play [] stage held = held
      all_play (turn ∷ turns) stage held = all_play turns (play (cast clients) script stage turn) (plays stage turn held)

      pub to_the_end : (names : List ℕ) (turns : List Turn) (stage : Stage) → Holds stage → Holds (ended (cast clients) (fold (play (cast clients) script) (fold (open_device (cast clients) script) stage names) turns))
      to_the_end names turns stage held =
          let last : Stage = fold (play (cast clients) script) (fold (open_device (cast clients) script) stage names) turns in
          passes last_tick (all_arrive (cast clients) last) (each_arrives last.held last (all_play turns (fold (open_device (cast clients) script) stage names) (all_open names stage held)))

-- ---- the two properties ----

abbrev Both : List Event → Type 0
Both events = OnlyJoin events × JoinFirst events

joins_all : (clients : ℕ) (names : List ℕ) (stage : Stage) → Both stage.events → Both (fold (join (cast clients)) stage names).events
joins_all clients [] stage both = both
joins_all clients (d ∷ names) stage both =
    joins_all clients names (join (cast clients) stage d)
    (after_meeting Both (λ e count events there held. ((there, held.0), held.1)) (λ count events held. (held.0, held.1)) clients (Joined d) stage (both.0, both))

pub rigs_join_first : (clients turns number : ℕ) → JoinFirst (mbim_rig clients turns number)
rigs_join_first clients turns number =
    to_the_end JoinFirst (λ d count events there held. held) (λ count events held. held) clients (λ d m events held. held) (λ m events held. held) (λ time events held. held)
    (range_with_len 1 clients) (turns_after (length (range_with_len 1 clients)) turns number) (fold (join (cast clients)) empty (range_with_len 1 clients)) (joins_all clients (range_with_len 1 clients) empty (tt, tt)).1
