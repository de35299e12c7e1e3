-- Messages that are held arrive. Lists of runs, of events and of requests have the newest first.
use Rattle.std.proofs.Common.{◌≡◌, ℕ, zero, suc, ◌+◌, ◌<◌, ◌≤◌, List, [], ◌∷◌, ◌++◌, fold, length, take, drop, get_or, reverse, Option, refl, sym, ap, ◌∙◌, subst, arith, length-drop, drop-cons, add-one}
use Rattle.std.proofs.lemmas.Bool.{le-leb, lt-leb}
use Rattle.std.proofs.lemmas.List.{reverse-append, reverse-reverse}
use Rattle.proxy_history.specs.Events.{Event}
use Rattle.proxy_history.specs.Proxy.{Proxy}
use Rattle.proxy_history.specs.Streams.{Framing}
use Rattle.proxy_solo.specs.Solo.{pieces_of}
use Rattle.sim_modem.specs.Sim.{Answering}
use Rattle.core_bench.specs.Runs.{Run}
use Rattle.rig_runs.specs.Stage.{Cast, Stage, hear, arrive, arrive_first, arrive_last, longest_arrives, shortest_arrives, arrive_each}
use Rattle.rig_stage.specs.Running.{IsCutShort}
use Rattle.rig_stage.specs.Stage.{World, Plays, Acts, Stops}
use Rattle.rig_stage.proofs.Stopping.{short_of_more, hear_more, each_more}

-- ---- in pieces ----

pub last_piece : (count : ℕ) (bytes : List ℕ) → length bytes ≤ 16384 → pieces_of count bytes ≡ bytes ∷ []
unfolding pieces_of
last_piece zero bytes short = refl
last_piece (suc count) bytes short = rw (le-leb (length bytes) 16384 short, pieces_of) refl

pub first_piece : (count : ℕ) (bytes : List ℕ) → 16384 < length bytes → pieces_of (suc count) bytes ≡ take 16384 bytes ∷ pieces_of count (drop 16384 bytes)
unfolding pieces_of
first_piece count bytes long = rw (lt-leb (length bytes) 16384 long, pieces_of) refl

-- ---- all that are held ----

pub drop_first : (held : List (List ℕ)) (place : ℕ) → place < length held → drop place held ≡ get_or held place [] ∷ drop (place + 1) held
drop_first held place within = rw (add-one, drop-cons held place []) refl

-- what is left of a message that arrives is still to be heard
pub record IsHearing {B M : Type 0} (keeps : Proxy → List Event → B → Type 0) (tells : B → Option (List Run)) (asks : Answering → List (List ℕ) → M → Type 0) (size : Framing)
    (cast : Cast) (opened : Run) (earlier : List Run) (all : Stage) (left : List ℕ) (world : World M) (bench : B) : Type 0 where
  pub now : Stage
  pub plays : Plays keeps tells asks size cast opened earlier now world bench
  pub count : ℕ
  pub enough : length left ≤ count
  pub rest : fold (hear cast) now (pieces_of count left) ≡ all

-- of all messages that were held those that are left are still to arrive
pub record IsArriving {B M : Type 0} (keeps : Proxy → List Event → B → Type 0) (tells : B → Option (List Run)) (asks : Answering → List (List ℕ) → M → Type 0) (size : Framing)
    (cast : Cast) (opened : Run) (earlier : List Run) (all : Stage) (left : List (List ℕ)) (world : World M) (bench : B) : Type 0 where
  pub now : Stage
  pub plays : Plays keeps tells asks size cast opened earlier now world bench
  pub rest : arrive_each cast left now ≡ all

module _ {B M : Type 0} {keeps : Proxy → List Event → B → Type 0} {tells : B → Option (List Run)} {asks : Answering → List (List ℕ) → M → Type 0} {size : Framing} where
  pub hearing_one : (cast : Cast) (opened : Run) (earlier : List Run) (all : Stage) (left : List ℕ) {old new : World M} {before after : B} → 16384 < length left
      → Acts keeps tells asks size (λ cast stage. hear cast stage (take 16384 left)) old before new after
      → IsHearing keeps tells asks size cast opened earlier all left old before → IsHearing keeps tells asks size cast opened earlier all (drop 16384 left) new after
  hearing_one cast opened earlier all left {new = new} {after = after} long acts it =
      let Goes : ℕ → Type 0 = λ count. length left ≤ count → fold (hear cast) it.now (pieces_of count left) ≡ all → IsHearing keeps tells asks size cast opened earlier all (drop 16384 left) new after in
      let step : (count : ℕ) → Goes count = elim [
        | zero ↦ λ enough rest. absurd (omega (arith, long, enough))
        | suc count ↦ λ enough rest. record {
          now = hear cast it.now (take 16384 left);
          plays = acts.plays cast opened earlier it.now it.plays;
          count = count;
          enough = rw (length-drop 16384 left) (omega (arith, long, enough));
          rest = sym (ap (λ pieces. fold (hear cast) it.now pieces) (first_piece count left long)) ∙ rest;
        }
      ] in step it.count it.enough it.rest

  pub hearing_last : (cast : Cast) (opened : Run) (earlier : List Run) (all : Stage) (left : List ℕ) {old new : World M} {before after : B} → length left ≤ 16384
      → Acts keeps tells asks size (λ cast stage. hear cast stage left) old before new after
      → IsHearing keeps tells asks size cast opened earlier all left old before → Plays keeps tells asks size cast opened earlier all new after
  hearing_last cast opened earlier all left {new = new} {after = after} short acts it =
      subst (λ now. Plays keeps tells asks size cast opened earlier now new after) (sym (ap (λ pieces. fold (hear cast) it.now pieces) (last_piece it.count left short)) ∙ it.rest) (acts.plays cast opened earlier it.now it.plays)

  -- ---- all that are held ----

  pub arriving_one : (cast : Cast) (opened : Run) (earlier : List Run) (all : Stage) (left : List (List ℕ)) (m : List ℕ) (later : List (List ℕ)) {old new : World M} {before after : B} → left ≡ m ∷ later
      → Acts keeps tells asks size longest_arrives old before new after → IsArriving keeps tells asks size cast opened earlier all left old before → IsArriving keeps tells asks size cast opened earlier all later new after
  unfolding arrive_each
  arriving_one cast opened earlier all left m later first acts it = record {
    now = longest_arrives cast it.now;
    plays = acts.plays cast opened earlier it.now it.plays;
    rest = sym (ap (λ messages. arrive_each cast messages it.now) first) ∙ it.rest;
  }

  pub arriving_done : (cast : Cast) (opened : Run) (earlier : List Run) (all : Stage) (left : List (List ℕ)) (world : World M) (bench : B) → left ≡ [] → IsArriving keeps tells asks size cast opened earlier all left world bench
      → Plays keeps tells asks size cast opened earlier all world bench
  unfolding arrive_each
  arriving_done cast opened earlier all left world bench none it =
      subst (λ now. Plays keeps tells asks size cast opened earlier now world bench) (sym (ap (λ messages. arrive_each cast messages it.now) none) ∙ it.rest) it.plays

  -- one of them doesn't arrive as a whole
  pub arriving_stops : (cast : Cast) (opened : Run) (earlier : List Run) (all : Stage) (left : List (List ℕ)) (m : List ℕ) (later : List (List ℕ)) {old : World M} {before after : B} → left ≡ m ∷ later
      → Stops keeps tells asks size longest_arrives old before after → IsArriving keeps tells asks size cast opened earlier all left old before → IsCutShort opened earlier all.events (tells after)
  unfolding arrive_each
  arriving_stops cast opened earlier all left m later {after = after} first stops it =
      subst (λ stage. IsCutShort opened earlier stage.events (tells after)) (sym (ap (λ messages. arrive_each cast messages it.now) first) ∙ it.rest)
      (short_of_more (each_more cast later (longest_arrives cast it.now)) (stops.cut_short cast opened earlier it.now it.plays))

  -- ---- one that is held ----

  without : (cast : Cast) (opened : Run) (earlier : List Run) (stage : Stage) (rest : List (List ℕ)) {old mid : World M} {before : B} → mid ≡ record old { held = rest }
      → Plays keeps tells asks size cast opened earlier stage old before → Plays keeps tells asks size cast opened earlier (record stage { held = rest }) mid before
  without cast opened earlier stage rest {before = before} is it =
      subst (λ world. Plays keeps tells asks size cast opened earlier (record stage { held = rest }) world before) (sym is)
      (record { runs = it.runs; holds = record { framing = it.holds.framing; kept = it.holds.kept; held = refl }; clients = it.clients; keeps_time = it.keeps_time; time = it.time })

  pub longest_one : (message said : List ℕ) (rest : List (List ℕ)) {old mid new : World M} {before after : B} → old.held ≡ message ∷ rest → mid ≡ record old { held = rest } → said ≡ message
      → Acts keeps tells asks size (λ cast stage. arrive cast said stage) mid before new after → Acts keeps tells asks size longest_arrives old before new after
  longest_one message said rest {new = new} {after = after} first is same acts = record {
    plays = λ cast opened earlier stage it.
        let left : Stage = record stage { held = rest } in
        let found : arrive cast said left ≡ longest_arrives cast stage = ap (λ m. arrive cast m left) same ∙ sym (ap (λ held. arrive_first cast held stage) (sym it.holds.held ∙ first)) in
        subst (λ now. Plays keeps tells asks size cast opened earlier now new after) found (acts.plays cast opened earlier left (without cast opened earlier stage rest is it));
  }

  pub shortest_one : (message said : List ℕ) (rest : List (List ℕ)) {old mid new : World M} {before after : B} → old.held ≡ rest ++ message ∷ [] → mid ≡ record old { held = rest } → said ≡ message
      → Acts keeps tells asks size (λ cast stage. arrive cast said stage) mid before new after → Acts keeps tells asks size shortest_arrives old before new after
  shortest_one message said rest {new = new} {after = after} last is same acts = record {
    plays = λ cast opened earlier stage it.
        let left : Stage = record stage { held = rest } in
        let turned : reverse stage.held ≡ message ∷ reverse rest = ap reverse (sym it.holds.held ∙ last) ∙ reverse-append rest (message ∷ []) in
        let found : arrive cast said left ≡ shortest_arrives cast stage =
        ap (λ m. arrive cast m left) same ∙ ap (λ held. arrive cast message (record stage { held = held })) (sym (reverse-reverse rest)) ∙ sym (ap (λ held. arrive_last cast held stage) turned) in
        subst (λ now. Plays keeps tells asks size cast opened earlier now new after) found (acts.plays cast opened earlier left (without cast opened earlier stage rest is it));
  }

  pub longest_stops : (message said : List ℕ) (rest : List (List ℕ)) {old mid : World M} {before after : B} → old.held ≡ message ∷ rest → mid ≡ record old { held = rest } → said ≡ message
      → Stops keeps tells asks size (λ cast stage. arrive cast said stage) mid before after → Stops keeps tells asks size longest_arrives old before after
  longest_stops message said rest {after = after} first is same stops = record {
    cut_short = λ cast opened earlier stage it.
        let left : Stage = record stage { held = rest } in
        let found : arrive cast said left ≡ longest_arrives cast stage = ap (λ m. arrive cast m left) same ∙ sym (ap (λ held. arrive_first cast held stage) (sym it.holds.held ∙ first)) in
        subst (λ now. IsCutShort opened earlier now.events (tells after)) found (stops.cut_short cast opened earlier left (without cast opened earlier stage rest is it));
  }

  pub shortest_stops : (message said : List ℕ) (rest : List (List ℕ)) {old mid : World M} {before after : B} → old.held ≡ rest ++ message ∷ [] → mid ≡ record old { held = rest } → said ≡ message
      → Stops keeps tells asks size (λ cast stage. arrive cast said stage) mid before after → Stops keeps tells asks size shortest_arrives old before after
  shortest_stops message said rest {after = after} last is same stops = record {
    cut_short = λ cast opened earlier stage it.
        let left : Stage = record stage { held = rest } in
        let turned : reverse stage.held ≡ message ∷ reverse rest = ap reverse (sym it.holds.held ∙ last) ∙ reverse-append rest (message ∷ []) in
        let found : arrive cast said left ≡ shortest_arrives cast stage =
        ap (λ m. arrive cast m left) same ∙ ap (λ held. arrive cast message (record stage { held = held })) (sym (reverse-reverse rest)) ∙ sym (ap (λ held. arrive_last cast held stage) turned) in
        subst (λ now. IsCutShort opened earlier now.events (tells after)) found (stops.cut_short cast opened earlier left (without cast opened earlier stage rest is it));
  }

  -- ---- in pieces ----

  pub hearing_piece : (cast : Cast) (opened : Run) (earlier : List Run) (all : Stage) (left piece later : List ℕ) {old new : World M} {before after : B} → piece ≡ take 16384 left → later ≡ drop 16384 left → 16384 < length left
      → Acts keeps tells asks size (λ cast stage. hear cast stage piece) old before new after
      → IsHearing keeps tells asks size cast opened earlier all left old before → IsHearing keeps tells asks size cast opened earlier all later new after
  hearing_piece cast opened earlier all left piece later {old = old} {new = new} {before = before} {after = after} front back long acts it =
      subst (λ rest. IsHearing keeps tells asks size cast opened earlier all rest new after) (sym back)
      (hearing_one cast opened earlier all left long (subst (λ said. Acts keeps tells asks size (λ cast stage. hear cast stage said) old before new after) front acts) it)

  -- a piece isn't heard as a whole
  pub hearing_stops : (cast : Cast) (opened : Run) (earlier : List Run) (all : Stage) (left piece : List ℕ) {old : World M} {before after : B} → piece ≡ take 16384 left → 16384 < length left
      → Stops keeps tells asks size (λ cast stage. hear cast stage piece) old before after → IsHearing keeps tells asks size cast opened earlier all left old before → IsCutShort opened earlier all.events (tells after)
  hearing_stops cast opened earlier all left piece {old = old} {before = before} {after = after} front long stops it =
      let short : IsCutShort opened earlier (hear cast it.now (take 16384 left)).events (tells after) =
      subst (λ said. IsCutShort opened earlier (hear cast it.now said).events (tells after)) front (stops.cut_short cast opened earlier it.now it.plays) in
      let Goes : ℕ → Type 0 = λ count. length left ≤ count → fold (hear cast) it.now (pieces_of count left) ≡ all → IsCutShort opened earlier all.events (tells after) in
      let step : (count : ℕ) → Goes count = elim [
        | zero ↦ λ enough rest. absurd (omega (arith, long, enough))
        | suc count ↦ λ enough rest.
            subst (λ stage. IsCutShort opened earlier stage.events (tells after)) (sym (ap (λ pieces. fold (hear cast) it.now pieces) (first_piece count left long)) ∙ rest)
            (short_of_more (hear_more cast (pieces_of count (drop 16384 left)) (hear cast it.now (take 16384 left))) short)
      ] in step it.count it.enough it.rest

  pub hearing_last_stops : (cast : Cast) (opened : Run) (earlier : List Run) (all : Stage) (left : List ℕ) {old : World M} {before after : B} → length left ≤ 16384
      → Stops keeps tells asks size (λ cast stage. hear cast stage left) old before after
      → IsHearing keeps tells asks size cast opened earlier all left old before → IsCutShort opened earlier all.events (tells after)
  hearing_last_stops cast opened earlier all left {after = after} short stops it =
      subst (λ now. IsCutShort opened earlier now.events (tells after)) (sym (ap (λ pieces. fold (hear cast) it.now pieces) (last_piece it.count left short)) ∙ it.rest) (stops.cut_short cast opened earlier it.now it.plays)
