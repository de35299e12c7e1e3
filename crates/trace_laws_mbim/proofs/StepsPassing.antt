-- What a client meets alone of the events of others, of its joining and its takings, and of the time. Lists of events and of facts have the newest first.
use Rattle.std.proofs.Common.{◌≡◌, ◌≢◌, ℕ, ◌+◌, ◌≤◌, max, ⊎_elim, Bool, true, false, ◌==◌, if◌then◌else◌, List, [], ◌∷◌, length, take, fold, Option, Some, None, refl, ap, sym, ◌∙◌, subst, arith, length-take}
use Rattle.std.proofs.lemmas.Bool.{eq-eqb}
use Rattle.proxy_history.specs.Events.{Event, Joined, Piece, Now, Took, ModemTook}
use Rattle.proxy_history.specs.Streams.{stream, modem_stream}
use Rattle.proxy_history.specs.Coming.{queued_for}
use Rattle.proxy_history.specs.Items.{ClockShows}
use Rattle.proxy_history.specs.Facts.{Fact, Request, EventBegan, Expired, TimeIs}
use Rattle.proxy_history.specs.History.{add_all}
use Rattle.proxy_history.specs.Modem.{now}
use Rattle.proxy_history.specs.Noting.{each_pending}
use Rattle.proxy_history.specs.Requests.{pending}
use Rattle.proxy_history.specs.Unanswered.{due}
use Rattle.proxy_history.specs.Connections.{contains, is_present}
use Rattle.proxy_history.specs.Rendering.{Rendering}
use Rattle.proxy_solo.specs.Solo as alone
use Rattle.proxy_solo.proofs.Lists.{self}
use Rattle.mbim_proxy.specs.FromModem.{refuse, in_order}
use Rattle.mbim_proxy.specs.ModemStates.{ModemState, IsShut, IsOpening, IsReady, state}
use Rattle.mbim_proxy.specs.Lists.{waiting}
use Rattle.mbim_proxy.specs.Proxy.{proxy_of}
use Rattle.mbim_proxy.specs.History.{mbim_protocol, history, text_for}
use Rattle.mbim_solo.specs.Solo.{hears_if, ends_opening, mbim_alone}
use Rattle.mbim_solo.specs.Openings.{WaitFor}
use Rattle.mbim_solo.specs.Part.{part}
use Rattle.mbim_solo.proofs.Relation.{Rests}
use Rattle.mbim_solo.proofs.Noted.{waiting-part}
use Rattle.mbim_solo.proofs.Orderly.{begun_orderly}
use Rattle.mbim_solo.proofs.Opened.{waits_not}
use Rattle.mbim_solo.proofs.Standing.{queued_alike}
use Rattle.rig_runs.specs.Mbim.{setup}
use Rattle.rig_laws_mbim.proofs.Calm.{Progress}
use Rattle.rig_laws_mbim.proofs.Trail.{Standing, GoesOn}
use Rattle.rig_trace.specs.Rows.{said_by, asked_by}
use Rattle.rig_trace.specs.Trace.{heard_if_unasked}
use Rattle.rig_trace.specs.Mbim.{mbim_reading, opened_at_once}
use Rattle.rig_trace.specs.Alone.{meets, meet_met, hears, own_number}
use Rattle.rig_trace.proofs.Chain.{AreSame}
use Rattle.rig_trace.proofs.Numbers.{within_if}
use Rattle.trace_laws_mbim.proofs.Content.{shut_content}
use Rattle.trace_laws_mbim.proofs.Lone.{facts_of, ledger}
use Rattle.trace_laws_mbim.proofs.Passing.{joins, joined_shut, took, took_still, passes}
use Rattle.trace_laws_mbim.proofs.Meets.{Meets, meets_by, meets_beside}
use Rattle.trace_laws_mbim.proofs.Telling.{meet, meet_event, meet_bytes}
use Rattle.trace_laws_mbim.proofs.Along.{Along, Next, Step, stays, meets_one, text_alike, orderly_alone, ready_or_shut}

no_other : (d c : ℕ) → (d == c) ≡ false → d ≡ c → ⊥
no_other d c other is = let clash : true ≡ false = sym (eq-eqb d c is) ∙ other in cc

module _ (c : ℕ) (client : c ≢ 0) (low : 1 ≤ c) (before after : Standing) (events own : List Event) (L : Along c before events own) where
  abbrev StepOf : Event → Type 0
  StepOf event = Next c before after event events own → Step c client low before events own L after event

  -- ---- the events of others ----

  pub other_joined : (d : ℕ) → (d == c) ≡ false → StepOf (Joined d)
  other_joined d other N =
      stays c client low before events own L after (Joined d) N
      (ap (λ (b : Bool). alone.meet_if b (mbim_protocol setup) (mbim_alone setup) (Joined d) own) other)
      (ap (λ (b : Bool). if b then meets (proxy_of setup) (Joined c) own else own) other)
      ((λ is. absurd (no_other d c other is)), tt)

  pub other_took : (d count : ℕ) → (d == c) ≡ false → StepOf (Took d count)
  other_took d count other N =
      stays c client low before events own L after (Took d count) N
      (ap (λ (b : Bool). alone.meet_if b (mbim_protocol setup) (mbim_alone setup) (Took d count) own) other)
      (ap (λ (b : Bool). if b then meets (proxy_of setup) (Took c (length (take count ((proxy_of setup).waiting d events)))) own else own) other)
      ((λ is. absurd (no_other d c other is)), tt)

  abbrev trace_of_heard : (d place : ℕ) → (asked : List ℕ) → Option (List ℕ) → List Event
  trace_of_heard d place asked o = fold (meet_met mbim_reading (proxy_of setup) c) own (heard_if_unasked asked d place o)

  skips_heard : (d place : ℕ) → (d == c) ≡ false → (asked : List ℕ) (o : Option (List ℕ)) → trace_of_heard d place asked o ≡ own
  skips_heard d place other [] None = refl
  skips_heard d place other [] (Some x) = ap (λ (b : Bool). if b then hears mbim_reading (proxy_of setup) (own_number mbim_reading (proxy_of setup) c place own) x own else own) other
  skips_heard d place other (byte ∷ asked) o = refl

  same_heard : (d place : ℕ) → (d == c) ≡ false → (asked : List ℕ) (o : Option (List ℕ)) → AreSame mbim_reading (proxy_of setup) c own (heard_if_unasked asked d place o)
  same_heard d place other [] None = tt
  same_heard d place other [] (Some x) = ((λ is. absurd (no_other d c other is)), tt)
  same_heard d place other (byte ∷ asked) o = tt

  pub other_said : (d : ℕ) (m : List ℕ) → (d == c) ≡ false → StepOf (Piece d m)
  other_said d m other N =
      let asked : List ℕ = asked_by (proxy_of setup) (Piece d m) events in
      let place : ℕ = said_by d (ledger events) + 1 in
      let o : Option (List ℕ) = opened_at_once m in
      stays c client low before events own L after (Piece d m) N
      (ap (λ (b : Bool). if b then alone.meet_own (mbim_protocol setup) (mbim_alone setup) c events m own else own) other)
      (ap (λ (b : Bool). fold (meet_met mbim_reading (proxy_of setup) c) (if b then meets (proxy_of setup) (Piece c m) own else own) (heard_if_unasked asked d place o)) other ∙ skips_heard d place other asked o) (
        (λ is. absurd (no_other d c other is)),
        subst (λ (b : Bool). AreSame mbim_reading (proxy_of setup) c (if b then meets (proxy_of setup) (Piece c m) own else own) (heard_if_unasked asked d place o)) (sym other) (same_heard d place other asked o),
      )

  pub modem_took : (count : ℕ) → StepOf (ModemTook count)
  modem_took count N = stays c client low before events own L after (ModemTook count) N refl refl tt

  -- ---- the client joins ----

  abbrev JoinsAlone : List Event → Type 0
  JoinsAlone first = Meets c client (Joined c) first

  pub joined : own ≡ [] → StepOf (Joined c)
  joined none N =
      let rests : Rests setup c (history setup []) = subst (λ (l : List Event). Rests setup c (history setup l)) none L.alike.rests in
      let M : JoinsAlone [] = meets_by c client (Joined c) [] (omega (arith, low), tt) rests (joins c) (shut_content (facts_of (Joined c) []) (λ e. let no : IsShut ≡ IsReady = sym (joined_shut c) ∙ e in cc)) in
      meets_one c client low before events own L after (Joined c) N own (Joined c)
      (ap (λ (b : Bool). alone.meet_if b (mbim_protocol setup) (mbim_alone setup) (Joined c) own) (self c))
      (subst JoinsAlone (sym none) M)
      (λ e. absurd (let no : IsShut ≡ IsReady = sym (joined_shut c) ∙ ap (λ (l : List Event). state false (facts_of (Joined c) l)) (sym none) ∙ e in cc))
      (ap (λ (b : Bool). if b then meets (proxy_of setup) (Joined c) own else own) (self c))
      ((λ is. none), tt)

  -- ---- it takes bytes ----

  pub took_bytes : (count : ℕ) → StepOf (Took c count)
  unfolding modem_stream
  took_bytes count N =
      let waits : List ℕ = (text_for setup c events).waiting in
      let few : count ≤ queued_for (mbim_protocol setup) c events = N.sound.0 in
      let less : count ≤ length waits = within_if (is_present c (history setup events)) count (length waits) few in
      let taken : length (take count waits) ≡ count = let short = length-take count waits in omega (arith, short, less) in
      let is : meet_event c events (Took c count) own ≡ meet (Took c count) own = ap (λ (b : Bool). alone.meet_if b (mbim_protocol setup) (mbim_alone setup) (Took c count) own) (self c) in
      let M : Meets c client (Took c count) own =
      meets_beside c client (Took c count) own (subst (λ (n : ℕ). count ≤ n) (queued_alike setup c client events own (stream c events) L.alike) few, L.alike.may) L.alike.rests (took c own L.lone L.alike.rests.queue count) L.alike.quiet low after (history setup (Took c count ∷ events)) N.at.calm N.alike.orderly
      (N.alike.same ∙ ap (λ (l : List Event). part c (history setup l)) is)
      (λ e. let high = L.opened (sym (took_still c own L.lone L.alike.rests.queue count) ∙ e) in let rises = N.rises in omega (arith, high, rises)) in
      meets_one c client low before events own L after (Took c count) N own (Took c count) is M
      (λ e. let high = L.opened (sym (took_still c own L.lone L.alike.rests.queue count) ∙ e) in let rises = N.rises in omega (arith, high, rises))
      (ap (λ (b : Bool). if b then meets (proxy_of setup) (Took c (length (take count waits))) own else own) (self c) ∙ ap (λ (n : ℕ). meets (proxy_of setup) (Took c n) own) taken)
      ((λ is. ap (λ (r : Rendering). take (length (take count waits)) r.waiting) (sym (text_alike c client low before events own L)) ∙ ap (λ (n : ℕ). take n waits) taken), tt)

  -- ---- the time goes on ----

  open_now : GoesOn before after → state false (history setup events) ≡ IsReady
  open_now goes = L.at.calm.state_is ∙ ap (λ (w : Progress). w.modem) goes.was

  waits_none : GoesOn before after → contains c (waiting setup (EventBegan ∷ history setup events)) ≡ false
  unfolding state
  waits_none goes =
      let O = begun_orderly setup c client (history setup events) L.alike.orderly in
      waiting-part setup c (EventBegan ∷ history setup events) O.fit.once
      ∙ waits_not setup c client (EventBegan ∷ history setup events) O (λ e. let no : IsReady ≡ IsOpening = sym (open_now goes) ∙ e in cc)

  abbrev facts_before : List Fact
  facts_before = EventBegan ∷ history setup own

  -- a modem that is shut stays so
  shut_stays : (time : ℕ) → state false (history setup own) ≡ IsShut → state false (facts_of (Now time) own) ≡ IsShut
  unfolding add_all pending state each_pending now
  shut_stays time is =
      let none : pending (history setup own) ≡ [] = subst (λ (m : ModemState). WaitFor m (pending (history setup own))) is (orderly_alone c client low before events own L).order.requests in
      ap (λ (l : List Request). state false (each_pending (λ r earlier. refuse setup (Expired r) r earlier) (in_order (due (max time (now (history setup own))) l)) (TimeIs (max time (now (history setup own))) ∷ facts_before))) none ∙ is

  opened_then : (time : ℕ) → GoesOn before after → Next c before after (Now time) events own → state false (facts_of (Now time) own) ≡ IsReady → c ≤ after.progress.opened
  opened_then time goes N e =
      ⊎_elim
      (λ (shut : state false (history setup own) ≡ IsShut). absurd (let no : IsShut ≡ IsReady = sym (shut_stays time shut) ∙ e in cc))
      (λ (ready : state false (history setup own) ≡ IsReady). let high = L.opened ready in let rises = N.rises in omega (arith, high, rises))
      (ready_or_shut c client low before events own L (open_now goes))

  pub time_passed : (time : ℕ) → GoesOn before after → StepOf (Now time)
  unfolding modem_stream alone.hear_all
  time_passed time goes N =
      let is : meet_event c events (Now time) own ≡ meet (Now time) own =
      ap (λ (b : Bool). meet (Now time) (meet_bytes (hears_if (let o : Option (List ℕ) = if b then ends_opening (ClockShows time) (EventBegan ∷ history setup events) else None in o) setup c (ClockShows time) (EventBegan ∷ history setup events) (history setup own)) own)) (waits_none goes) in
      let M : Meets c client (Now time) own =
      meets_beside c client (Now time) own (tt, L.alike.may) L.alike.rests (passes c own L.lone L.alike.rests.queue time) L.alike.quiet low after (history setup (Now time ∷ events)) N.at.calm N.alike.orderly
      (N.alike.same ∙ ap (λ (l : List Event). part c (history setup l)) is) (λ e. opened_then time goes N e) in
      meets_one c client low before events own L after (Now time) N own (Now time) is M (λ e. opened_then time goes N e) refl (tt, tt)
