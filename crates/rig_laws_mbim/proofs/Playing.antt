-- What holds of every rig: its setup, its turns and its end. Lists of events have the newest first.
use Rattle.std.proofs.Common.{◌≡◌, ℕ, zero, suc, ◌+◌, ◌-◌, ◌*◌, ◌/◌, ◌%◌, ◌^◌, ◌<◌, ◌≤◌, Bool, true, false, ◌==◌, nat_lt, if◌then◌else◌, List, [], ◌∷◌, ◌++◌, length, fold, refl, ap, sym, ◌∙◌, arith, subst, mod-lt}
use Rattle.std.specs.List.{range_with_len, AllByRecursion}
use Rattle.std.proofs.lemmas.Bool.Decides.{nat_tests}
use Rattle.framing.specs.Cutting.{cut_from}
use Rattle.proxy_history.specs.Events.{Event}
use Rattle.proxy_history.specs.Connections.{present}
use Rattle.proxy_history.specs.History as proxy
use Rattle.proxy_history.specs.View.{view}
use Rattle.proxy_history.specs.Rendering.{render}
use Rattle.proxy_history.specs.Streams.{stream, modem_stream}
use Rattle.mbim_proxy.specs.History.{history}
use Rattle.mbim_session.specs.Requests.{command_message}
use Rattle.mbim_solo.proofs.Spoken.{starts_quiet}
use Rattle.rig_runs.specs.Draws.{Turn, drawn, next, turn_after, turns_after}
use Rattle.rig_runs.specs.Stage.{Stage, empty, arrive_each, all_arrive, longest_arrives, shortest_arrives, arrive_first, arrive}
use Rattle.rig_runs.specs.Rig.{Script, join, say, ask, open_device, ready, pass, request_or_arrive, play, played, ended, rig, next_number, most_held, tick, last_tick}
use Rattle.rig_runs.specs.Mbim.{setup, cast, script, asks_for, mbim_rig}
use Rattle.rig_runs.specs.MbimExamples.{configuration, open_2}
use Rattle.rig_laws.proofs.Lists.{length-range, is_empty}
use Rattle.rig_laws_mbim.proofs.Messages.{query, cid_for, said_configuration, said_query, opening_is}
use Rattle.rig_laws_mbim.proofs.Harmless.{AreHarmless}
use Rattle.rig_laws_mbim.proofs.Calm.{Progress, shut, nobody_yet}
use Rattle.rig_laws_mbim.proofs.Calm as calm
use Rattle.rig_laws_mbim.proofs.Events.{Going, fills_share}
use Rattle.rig_laws_mbim.proofs.Stage.{Stands, HasMet, joins_stage, configures_stage, finds_open_stage, opens_stage, opening_ends, refuses_stage, asks_stage, passes}
use Rattle.rig_laws_mbim.proofs.Arriving.{IsFewer, others, longest_is_heard, shortest_is_heard, all_are_heard}

-- ---- who is drawn ----

drawn_below : (below x : ℕ) → 0 < below → drawn below x < below
drawn_below below x some = mod-lt (x / 2 ^ 33) some

abbrev pub IsOneOf : ℕ → Turn → Type 0
IsOneOf clients turn = (1 ≤ turn.client) × (turn.client ≤ clients)

pub turns_are_of_clients : (clients count x : ℕ) → 1 ≤ clients → AllByRecursion (IsOneOf clients) (turns_after clients count x)
unfolding turns_after
turns_are_of_clients clients zero x some = tt
turns_are_of_clients clients (suc count) x some =
    let less = drawn_below clients (next x) (omega (arith, some)) in
    ((omega arith, omega (arith, less)), turns_are_of_clients clients count (next (next x)) some)

module _ (clients : ℕ) (some : 1 ≤ clients) (within : clients ≤ 64) where
  -- ---- all join ----

  abbrev Standing : Progress → Stage → Type 0
  Standing w stage = Stands clients w stage

  nothing_stands : Standing (shut 0 0) empty
  unfolding proxy.history present cut_from stream modem_stream view render
  nothing_stands = record {
    requests = [];
    going = record {
      sound = tt;
      names = refl;
      whole = λ c. refl;
      said = [];
      said_is = refl;
      quiet = starts_quiet setup;
      calm = nobody_yet;
      few = omega arith;
      moments = tt;
      trail = record { calm = nobody_yet; streams = record { whole = λ c. refl; said = []; said_is = refl; quiet = starts_quiet setup } };
    };
    served = λ c there. refl;
    pairs = tt;
    asked = refl;
  }

  -- so many more join
  join_all : (n joined : ℕ) (stage : Stage) → joined + n ≤ clients → Standing (shut joined 0) stage → stage.held ≡ [] → HasMet clients (shut (joined + n) 0) 0 (fold (join (cast clients)) stage (range_with_len (joined + 1) n))
  join_all zero joined stage less stands none = record { stands = subst (λ (n : ℕ). Standing (shut n 0) stage) (let same : joined ≡ joined + 0 = omega arith in same) stands; held = ap length none }
  join_all (suc n) joined stage less stands none =
      let one = joins_stage clients joined stage stands (omega (arith, less)) within in
      let after : Stage = join (cast clients) stage (joined + 1) in
      let empty_then : after.held ≡ [] = is_empty after.held (one.held ∙ ap length none) in
      let rest = join_all n (joined + 1) after (omega (arith, less)) one.stands empty_then in
      subst (λ (m : ℕ). HasMet clients (shut m 0) 0 (fold (join (cast clients)) after (range_with_len (joined + 1 + 1) n))) (let same : joined + 1 + n ≡ joined + suc n = omega arith in same) rest

  -- ---- each opens the device ----

  -- what a client says first, and then
  opens_by : (stage : Stage) (c : ℕ) → open_device (cast clients) script stage c ≡ ask (cast clients) c (ask (cast clients) c stage configuration) open_2
  opens_by stage c = ap (λ (m : List ℕ). ask (cast clients) c (ask (cast clients) c stage m) open_2) said_configuration

  -- where nothing is held, nothing arrives
  nothing_arrives : (stage : Stage) → stage.held ≡ [] → all_arrive (cast clients) stage ≡ stage
  unfolding arrive_each
  nothing_arrives stage none = ap (λ (held : List (List ℕ)). arrive_each (cast clients) held stage) none

  one_arrives : (stage : Stage) (m : List ℕ) → stage.held ≡ m ∷ [] → all_arrive (cast clients) stage ≡ arrive (cast clients) m (record stage { held = [] })
  unfolding arrive_each
  one_arrives stage m is =
      ap (λ (held : List (List ℕ)). arrive_each (cast clients) held stage) is
      ∙ ap (λ (held : List (List ℕ)). arrive_first (cast clients) held stage) is

  -- so many of them opened the device
  pub record HasOpened (opened : ℕ) (stage : Stage) : Type 0 where
    pub stands : Standing (calm.ready clients opened opened) stage
    pub none : stage.held ≡ []

  configures_first : (w : Progress) (stage : Stage) → Standing w stage → stage.held ≡ [] → w.configured < w.joined → w.joined ≤ clients → HasMet clients (calm.one_more_configured w) 0 (ask (cast clients) (w.configured + 1) stage configuration)
  configures_first w stage stands none more order =
      let met = configures_stage clients w stage stands more order in
      let said : Stage = say (cast clients) (w.configured + 1) stage configuration in
      let count : length said.held ≡ 0 = met.held ∙ ap length none in
      subst (HasMet clients (calm.one_more_configured w) 0) (sym (nothing_arrives said (is_empty said.held count))) (record { stands = met.stands; held = count })

  first_opens : (stage : Stage) → Standing (shut clients 0) stage → stage.held ≡ [] → HasOpened 1 (open_device (cast clients) script stage 1)
  first_opens stage stands none =
      let one = configures_first (shut clients 0) stage stands none (omega (arith, some)) (omega arith) in
      let named : Stage = ask (cast clients) 1 stage configuration in
      let is = opens_stage clients clients named one.stands (is_empty named.held one.held) some (omega arith) in
      let said : Stage = say (cast clients) 1 named open_2 in
      let end = opening_ends clients clients said is some (omega arith) in
      let opened : HasMet clients (calm.ready clients 1 1) 0 (ask (cast clients) 1 named open_2) = subst (HasMet clients (calm.ready clients 1 1) 0) (sym (one_arrives said _ is.held)) end in
      subst (HasOpened 1) (sym (opens_by stage 1)) (record { stands = opened.stands; none = is_empty _ opened.held })

  next_opens : (opened : ℕ) (stage : Stage) → HasOpened opened stage → opened < clients → HasOpened (opened + 1) (open_device (cast clients) script stage (opened + 1))
  next_opens opened stage has more =
      let one = configures_first (calm.ready clients opened opened) stage has.stands has.none more (omega arith) in
      let named : Stage = ask (cast clients) (opened + 1) stage configuration in
      let none : named.held ≡ [] = is_empty named.held one.held in
      let two = finds_open_stage clients clients (opened + 1) opened named one.stands (omega arith) (omega (arith, more)) (omega arith) in
      let said : Stage = say (cast clients) (opened + 1) named open_2 in
      let count : length said.held ≡ 0 = two.held ∙ ap length none in
      let empty_then : said.held ≡ [] = is_empty said.held count in
      subst (HasOpened (opened + 1)) (sym (opens_by stage (opened + 1) ∙ nothing_arrives said empty_then)) (record { stands = two.stands; none = empty_then })

  rest_open : (n opened : ℕ) (stage : Stage) → opened + n ≡ clients → HasOpened opened stage → HasOpened clients (fold (open_device (cast clients) script) stage (range_with_len (opened + 1) n))
  rest_open zero opened stage all has = subst (λ (m : ℕ). HasOpened m stage) (let same : opened ≡ clients = omega (arith, all) in same) has
  rest_open (suc n) opened stage all has = rest_open n (opened + 1) (open_device (cast clients) script stage (opened + 1)) (omega (arith, all)) (next_opens opened stage has (omega (arith, all)))

  all_open : (n : ℕ) (stage : Stage) → suc n ≡ clients → Standing (shut clients 0) stage → stage.held ≡ [] → HasOpened clients (fold (open_device (cast clients) script) stage (range_with_len 1 (suc n)))
  all_open n stage all stands none = rest_open n 1 (open_device (cast clients) script stage 1) (omega (arith, all)) (first_opens stage stands none)

  pub all_are_ready : HasOpened clients (ready (cast clients) script)
  all_are_ready = by clients refl
    where
      by : (n : ℕ) → clients ≡ n → HasOpened clients (fold (open_device (cast clients) script) (fold (join (cast clients)) empty (range_with_len 1 n)) (range_with_len 1 n))
      by zero e = absurd (omega (arith, some, e))
      by (suc n) e =
          let joined = join_all (suc n) 0 empty (omega (arith, e)) nothing_stands refl in
          let stage : Stage = fold (join (cast clients)) empty (range_with_len 1 (suc n)) in
          let stands : Standing (shut clients 0) stage = subst (λ (m : ℕ). Standing (shut m 0) stage) (let same : 0 + suc n ≡ clients = omega (arith, e) in same) joined.stands in
          all_open n stage (sym e) stands (is_empty stage.held joined.held)

  -- ---- the turns ----

  abbrev w : Progress
  w = calm.ready clients clients clients

  -- few messages are held
  pub record IsPlaying (stage : Stage) : Type 0 where
    pub stands : Standing w stage
    pub few : length stage.held ≤ 200

  as_many_less : (stage after : Stage) (count : ℕ) → HasMet clients w count after → count ≤ 200 → IsPlaying after
  as_many_less stage after count met few = record { stands = met.stands; few = omega (arith, met.held, few) }

  others_less : (held : List (List ℕ)) → length (others held) ≤ length held
  others_less [] = omega arith
  others_less (m ∷ held) = omega arith

  longest : (stage : Stage) → IsPlaying stage → IsPlaying (longest_arrives (cast clients) stage)
  longest stage playing =
      let met = longest_is_heard clients clients clients clients (omega arith) stage playing.stands in
      as_many_less stage (longest_arrives (cast clients) stage) (length (others stage.held)) met (let less = others_less stage.held in let few = playing.few in omega (arith, less, few))

  shortest : (stage : Stage) → IsPlaying stage → IsPlaying (shortest_arrives (cast clients) stage)
  shortest stage playing =
      let met = shortest_is_heard clients clients clients clients (omega arith) stage playing.stands in
      record { stands = met.stands; few = (let less = met.fewer in let few = playing.few in omega (arith, less, few)) }

  passing : (time : ℕ) (stage : Stage) → IsPlaying stage → IsPlaying (pass (cast clients) time stage)
  passing time stage playing = as_many_less stage (pass (cast clients) time stage) (length stage.held) (passes clients clients clients clients time stage playing.stands (omega arith) playing.few) playing.few

  requests : (turn : Turn) (stage : Stage) → IsOneOf clients turn → IsPlaying stage → IsPlaying (request_or_arrive (cast clients) script turn stage)
  requests turn stage one playing = by (nat_lt (length stage.held) most_held) refl
    where
      own : ℕ
      own = next_number script turn.client stage.events

      asked : (full : Bool) → fills_share turn.client stage.events ≡ full → length stage.held ≤ 199 → IsPlaying (say (cast clients) turn.client stage (query (cid_for turn.choice) own))
      asked true full less =
          as_many_less stage _ (length stage.held) (refuses_stage clients clients clients clients turn.client turn.choice own stage playing.stands one.0 one.1 (omega arith) (omega arith) less full) (omega (arith, less))
      asked false free less =
          as_many_less stage _ (length stage.held + 1) (asks_stage clients clients clients clients turn.client turn.choice own stage playing.stands one.0 one.1 (omega arith) (omega arith) less free) (omega (arith, less))

      by : (b : Bool) → nat_lt (length stage.held) most_held ≡ b → IsPlaying (if b then say (cast clients) turn.client stage (command_message (asks_for turn.choice) own) else longest_arrives (cast clients) stage)
      by true e =
          let less : length stage.held ≤ 199 = grind (arith, nat_tests, e) in
          subst (λ (m : List ℕ). IsPlaying (say (cast clients) turn.client stage m)) (sym (said_query turn.choice own)) (asked (fills_share turn.client stage.events) refl less)
      by false e = longest stage playing

  pub plays : (stage : Stage) (turn : Turn) → IsOneOf clients turn → IsPlaying stage → IsPlaying (play (cast clients) script stage turn)
  plays stage turn one playing = by (nat_lt turn.choice 4) (nat_lt turn.choice 6) (turn.choice == 6)
    where
      by : (a b c : Bool) → IsPlaying (if a then request_or_arrive (cast clients) script turn stage else if b then longest_arrives (cast clients) stage else if c then shortest_arrives (cast clients) stage else pass (cast clients) tick stage)
      by true b c = requests turn stage one playing
      by false true c = longest stage playing
      by false false true = shortest stage playing
      by false false false = passing tick stage playing

  pub all_play : (turns : List Turn) (stage : Stage) → AllByRecursion (IsOneOf clients) turns → IsPlaying stage → IsPlaying (fold (play (cast clients) script) stage turns)
  all_play [] stage all playing = playing
  all_play (turn ∷ turns) stage all playing = all_play turns (play (cast clients) script stage turn) all.1 (plays stage turn all.0 playing)

  -- ---- the whole ----

  ends : (stage : Stage) → IsPlaying stage → Standing w (ended (cast clients) stage)
  ends stage playing =
      let all = all_are_heard clients clients clients clients (omega arith) stage playing.stands in
      (passes clients clients clients clients last_tick (all_arrive (cast clients) stage) all.stands (omega arith) (let none = all.held in omega (arith, none))).stands

  pub ready_is_playing : IsPlaying (ready (cast clients) script)
  ready_is_playing =
      let has = all_are_ready in
      record { stands = has.stands; few = (let none : length (ready (cast clients) script).held ≡ 0 = ap length has.none in omega (arith, none)) }

  pub turns_of_rig : (turns number : ℕ) → AllByRecursion (IsOneOf clients) (turns_after (length (range_with_len 1 clients)) turns number)
  turns_of_rig turns number =
      let count : length (range_with_len 1 clients) ≡ clients = length-range clients 1 in
      subst (λ (n : ℕ). AllByRecursion (IsOneOf clients) (turns_after n turns number)) (sym count) (turns_are_of_clients clients turns number some)

  pub played_is_playing : (turns number : ℕ) → IsPlaying (played (cast clients) script turns number)
  played_is_playing turns number = all_play (turns_after (length (range_with_len 1 clients)) turns number) (ready (cast clients) script) (turns_of_rig turns number) ready_is_playing

  pub rig_stands : (turns number : ℕ) → Standing w (ended (cast clients) (played (cast clients) script turns number))
  rig_stands turns number = ends (played (cast clients) script turns number) (played_is_playing turns number)
