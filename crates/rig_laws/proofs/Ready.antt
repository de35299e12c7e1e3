-- The setup of the rig: all clients join, and each opens the device and gets the client id of its own number.
use Rattle.std.proofs.Common.{◌≡◌, ℕ, zero, suc, ◌+◌, ◌<◌, ◌≤◌, true, false, List, [], length, fold, refl, ap, sym, ◌∙◌, arith, subst}
use Rattle.std.specs.List.{range_with_len}
use Rattle.framing.specs.Cutting.{cut_from}
use Rattle.qmux_frame.specs.Writing.{head_text}
use Rattle.proxy_history.specs.Streams.{stream, modem_stream}
use Rattle.proxy_history.specs.Connections.{present, message_count}
use Rattle.proxy_history.specs.Requests.{in_use}
use Rattle.proxy_history.specs.Modem.{to_modem, modem_taken_count}
use Rattle.proxy_history.specs.History as proxy
use Rattle.qmi_proxy.specs.Spaces.{space_of, top_of}
use Rattle.sim_modem.specs.Sim.{Answering, answers}
use Rattle.sim_qmi.specs.Modem.{machine}
use Rattle.modem_profile.specs.Profile.{default_profile}
use Rattle.rig_runs.specs.Qmi.{setup, script, says}
use Rattle.rig_runs.specs.Qmi as rig
use Rattle.rig_runs.specs.Stage.{Stage, empty, all_arrive}
use Rattle.rig_runs.specs.Rig.{join, say, ask, open_device, ready}
use Rattle.rig_laws.proofs.Events.{Going}
use Rattle.rig_laws.proofs.Stage.{Stands, HasMet, HasSaid, joins_stage, opens_stage, few_held, asks_stage}
use Rattle.rig_laws.proofs.Arriving.{all_are_heard}
use Rattle.rig_laws.proofs.Messages as messages
use Rattle.rig_laws.proofs.Messages.{OpensDevice, device_is_opened, allocate_message, allocate_is_request, said_allocate}
use Rattle.rig_laws.proofs.Replies.{AreGiven, none_are_given, one_more_is_given, id_is_given}

allocate_top : top_of (space_of (allocate_message 2)) ≡ 255
unfolding head_text
allocate_top = refl

nothing_yet : Going setup 0 0 [] [] []
unfolding proxy.history present in_use message_count to_modem modem_taken_count stream modem_stream cut_from
nothing_yet = record {
  sound = tt;
  names = refl;
  few = omega arith;
  plain = tt;
  moments = record { harmless = tt; within = omega arith };
  whole = λ c. refl;
  said = [];
  said_is = refl;
  said_whole = refl;
  calm = record { there = refl; harmless = tt; open_ones = λ c low high. absurd (omega arith); uses = refl; clients = tt; quiet = λ none c. refl; taken = []; to_it = refl; count = refl };
}

module _ (clients : ℕ) (within : clients ≤ 64) where
  abbrev pub modem : Answering
  modem = answers (machine default_profile)

  abbrev pub Standing : ℕ → ℕ → Stage → Type 0
  Standing joined opened stage = Stands setup refl clients modem joined opened stage

  -- between two clients of the setup nothing is held
  pub record IsReady (joined opened : ℕ) (stage : Stage) : Type 0 where
    pub stands : Standing joined opened stage
    pub none : stage.held ≡ []
    pub given : AreGiven opened stage.asked

  begins : IsReady 0 0 empty
  unfolding proxy.history present
  begins = record { stands = record { requests = []; going = nothing_yet; served = λ c there. absurd (let clash : false ≡ true = there in cc); pairs = tt }; none = refl; given = none_are_given }

  -- ---- they join ----

  joins_too : (joined : ℕ) (stage : Stage) → IsReady joined 0 stage → joined < clients → IsReady (joined + 1) 0 (join (rig.cast clients) stage (joined + 1))
  joins_too joined stage ready more =
      let met = joins_stage setup refl clients modem joined stage ready.stands more within in
      record { stands = met.stands; none = met.held_is ∙ ready.none; given = subst (AreGiven 0) (sym met.asked_is) ready.given }

  all_join : (count joined : ℕ) (stage : Stage) → IsReady joined 0 stage → joined + count ≤ clients → IsReady (joined + count) 0 (fold (join (rig.cast clients)) stage (range_with_len (joined + 1) count))
  all_join zero joined stage ready few = subst (λ (n : ℕ). IsReady n 0 stage) (let same : joined ≡ joined + 0 = omega arith in same) ready
  all_join (suc count) joined stage ready few =
      subst (λ (n : ℕ). IsReady n 0 (fold (join (rig.cast clients)) stage (range_with_len (joined + 1) (suc count)))) (let same : joined + 1 + count ≡ joined + suc count = omega arith in same)
      (all_join count (joined + 1) (join (rig.cast clients) stage (joined + 1)) (joins_too joined stage ready (omega (arith, few))) (omega (arith, few)))

  -- ---- they open the device ----

  -- what a client said is answered at once
  settles : (joined opened : ℕ) (held asked : List (List ℕ)) (stage : Stage) → joined ≤ clients → HasMet setup refl clients modem joined opened held asked stage
      → HasMet setup refl clients modem joined opened [] asked (all_arrive (rig.cast clients) stage)
  settles joined opened held asked stage few met =
      subst (λ (l : List (List ℕ)). HasMet setup refl clients modem joined opened [] l (all_arrive (rig.cast clients) stage)) met.asked_is (all_are_heard setup refl clients modem joined opened few stage met.stands)

  opens_first : (opened : ℕ) (stage : Stage) → IsReady clients opened stage → opened < clients
      → HasMet setup refl clients modem clients (opened + 1) [] stage.asked (ask (rig.cast clients) (opened + 1) stage messages.open_device)
  opens_first opened stage ready more =
      let is : OpensDevice = device_is_opened in
      settles clients (opened + 1) stage.held stage.asked (say (rig.cast clients) (opened + 1) stage messages.open_device) (omega arith)
      (opens_stage setup refl clients modem clients opened messages.open_device stage ready.stands more (omega arith) is.is_message is.short is.fine is.opening)

  allocates : (opened : ℕ) (stage : Stage) → Standing clients (opened + 1) stage → stage.held ≡ [] → AreGiven opened stage.asked → opened < clients
      → IsReady clients (opened + 1) (ask (rig.cast clients) (opened + 1) stage (allocate_message 2))
  allocates opened stage stands none given more =
      let said : HasSaid setup refl clients modem clients (opened + 1) (allocate_message 2) stage (say (rig.cast clients) (opened + 1) stage (allocate_message 2)) =
      asks_stage setup refl clients modem clients (opened + 1) (opened + 1) (allocate_message 2) stage stands (omega arith) (omega arith) (omega (arith, more)) (omega arith)
      (let empty : length stage.held ≡ 0 = ap length none in omega (arith, empty)) (allocate_is_request (opened + 1))
      (few_held setup refl clients modem clients (opened + 1) (opened + 1) (allocate_message 2) stage stands (let empty : length stage.held ≡ 0 = ap length none in omega (arith, empty)))
      (λ number low. id_is_given setup refl clients stage.asked opened number given (omega (arith, more, within)) (omega (arith, low, allocate_top))) in
      let met = settles clients (opened + 1) _ _ (say (rig.cast clients) (opened + 1) stage (allocate_message 2)) (omega arith) said.met in
      record { stands = met.stands; none = met.held_is; given = subst (AreGiven (opened + 1)) (sym met.asked_is) (one_more_is_given opened said.number stage.asked given (omega (arith, more, within))) }

  opens_too : (opened : ℕ) (stage : Stage) → IsReady clients opened stage → opened < clients → IsReady clients (opened + 1) (open_device (rig.cast clients) script stage (opened + 1))
  opens_too opened stage ready more =
      let first = opens_first opened stage ready more in
      let open_stage : Stage = ask (rig.cast clients) (opened + 1) stage messages.open_device in
      subst (λ (m : List ℕ). IsReady clients (opened + 1) (ask (rig.cast clients) (opened + 1) open_stage m)) (sym (said_allocate 2))
      (allocates opened open_stage first.stands first.held_is (subst (AreGiven opened) (sym first.asked_is) ready.given) more)

  all_open : (count opened : ℕ) (stage : Stage) → IsReady clients opened stage → opened + count ≤ clients → IsReady clients (opened + count) (fold (open_device (rig.cast clients) script) stage (range_with_len (opened + 1) count))
  all_open zero opened stage ready few = subst (λ (n : ℕ). IsReady clients n stage) (let same : opened ≡ opened + 0 = omega arith in same) ready
  all_open (suc count) opened stage ready few =
      subst (λ (n : ℕ). IsReady clients n (fold (open_device (rig.cast clients) script) stage (range_with_len (opened + 1) (suc count)))) (let same : opened + 1 + count ≡ opened + suc count = omega arith in same)
      (all_open count (opened + 1) (open_device (rig.cast clients) script stage (opened + 1)) (opens_too opened stage ready (omega (arith, few))) (omega (arith, few)))

  -- ---- all of it ----

  pub is_ready : IsReady clients clients (ready (rig.cast clients) script)
  is_ready =
      let joined : Stage = fold (join (rig.cast clients)) empty (range_with_len 1 clients) in
      let all : IsReady (0 + clients) 0 joined = all_join clients 0 empty begins (omega arith) in
      let there : IsReady clients 0 joined = subst (λ (n : ℕ). IsReady n 0 joined) (let same : 0 + clients ≡ clients = omega arith in same) all in
      let opened : IsReady clients (0 + clients) (ready (rig.cast clients) script) = all_open clients 0 joined there (omega arith) in
      subst (λ (n : ℕ). IsReady clients n (ready (rig.cast clients) script)) (let same : 0 + clients ≡ clients = omega arith in same) opened
