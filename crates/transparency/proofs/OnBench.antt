-- A text is relayed on a bench. Lists of events have the newest first.
use Rattle.std.proofs.Common.{◌≡◌, ℕ, ◌+◌, ◌<◌, Bool, true, false, if◌then◌else◌, List, [], ◌∷◌, ◌++◌, length, take, get_or, Option, Some, None, refl, sym, ap, ◌∙◌, subst}
use Rattle.std.proofs.lemmas.List.{take_more}
use Rattle.framing.specs.Cutting.{cut}
use Rattle.hub_io.specs.Record as hub
use Rattle.proxy_history.specs.Events.{Event, Piece, ModemPiece, Took, ModemTook}
use Rattle.proxy_history.specs.Connections.{contains}
use Rattle.proxy_history.specs.Proxy.{Proxy}
use Rattle.proxy_history.specs.Streams.{Framing}
use Rattle.proxy_serving.specs.Face.{Face}
use Rattle.proxy_serving.specs.Cores.{Shows}
use Rattle.core_bench.specs.Runs.{Run, AddsRun}
use Rattle.rig_runs.specs.Stage.{modem_takes, queued_for}
use Rattle.rig_stage.specs.Running.{AreRecorded, Runs, Moves}
use Rattle.lone_client.specs.Relay.{Answering, Cast, Stage, ask, asked_then, fetched, hear_each, heard, reply, requests_in, said, sent_for, taking, waiting}
use Rattle.transparency.specs.Asking.{Hears}
use Rattle.transparency.specs.Relaying.{IsRelayed, Relays}

-- a core was opened on a bench
pub told_opened : (run : Run) (earlier : List Run) (old new : Option (List Run)) → AddsRun old run new → AreRecorded old earlier → AreRecorded new (run ∷ earlier)
told_opened run earlier old None adds told = tt
told_opened run earlier None (Some new) adds told = absurd adds
told_opened run earlier (Some old) (Some new) adds told = adds ∙ ap (λ runs. run ∷ runs) told

-- what a bench tells, if it tells anything
pub told_of : (told : Option (List Run)) → (earlier : List Run) × AreRecorded told earlier
told_of None = ([], tt)
told_of (Some runs) = (runs, refl)

-- the first so many of a list, and the next one
pub take_next : {X : Type 0} (list : List X) (at : ℕ) (x : X) → at < length list → x ≡ get_or list at x → take (at + 1) list ≡ take at list ++ x ∷ []
take_next list at x within is = take_more list at x within ∙ ap (λ y. take at list ++ y ∷ []) (sym is)

-- takings by a queue are those by its length
taking_is : (event : ℕ → Event) (queue : List ℕ) (events : List Event) → hub.taking event (length queue) events ≡ taking event queue events
taking_is event [] events = refl
taking_is event (byte ∷ queue) events = refl

waiting_is : (cast : Cast) (events : List Event) → queued_for cast.proxy 1 events ≡ length (waiting cast events)
waiting_is cast events =
    let step : (b : Bool) → (if b then length (cast.proxy.waiting 1 events) else 0) ≡ length (if b then cast.proxy.waiting 1 events else []) = elim [ true ↦ refl | false ↦ refl ] in
    step (contains 1 (cast.proxy.present events))

-- what a face shows for the client
shown_is : (cast : Cast) (events : List Event) (face : Face) → Shows cast.proxy events face → (contains 1 face.present ≡ false → face.queue 1 ≡ []) → face.queue 1 ≡ waiting cast events
shown_is cast events face shows nobody =
    let step : (b : Bool) → contains 1 (cast.proxy.present events) ≡ b → face.queue 1 ≡ (if b then cast.proxy.waiting 1 events else []) = elim [
      | true ↦ λ is. shows.queue 1 is
      | false ↦ λ is. nobody (ap (contains 1) shows.present ∙ is)
    ] in step (contains 1 (cast.proxy.present events)) refl

pub hear_none : (events : List Event) → events ≡ hear_each [] events
unfolding hear_each
hear_none events = refl

pub hear_more : (messages : List (List ℕ)) (m : List ℕ) (events : List Event) → ModemPiece m ∷ hear_each messages events ≡ hear_each (messages ++ m ∷ []) events
unfolding hear_each
hear_more [] m events = refl
hear_more (n ∷ messages) m events = hear_more messages m (ModemPiece n ∷ events)

module _ {B M : Type 0} {keeps : Proxy → List Event → B → Type 0} {tells : B → Option (List Run)} {asks : Answering → List (List ℕ) → M → Type 0} {size : Framing}
    (text : List ℕ) {b0 b1 b2 b3 b4 : B} {old new : M} (face : B → Face) (queue : List ℕ) (messages : List (List ℕ)) (shown : List ℕ)
    (shows : (p : Proxy) (past : List Event) (bench : B) → keeps p past bench → Shows p past (face bench))
    (met : Moves keeps tells (λ p past. Piece 1 text ∷ past) b0 b1)
    (queue_is : queue ≡ (face b1).modem_queue)
    (hears : (modem : Answering) (asked : List (List ℕ)) → asks modem asked old → Hears asks size modem asked (cut size queue).messages messages new)
    (took : Moves keeps tells modem_takes b1 b2)
    (arrived : Moves keeps tells (λ p past. hear_each messages past) b2 b3)
    (shown_are : shown ≡ (face b3).queue 1)
    (nobody : contains 1 (face b3).present ≡ false → (face b3).queue 1 ≡ [])
    (taken : Moves keeps tells (λ p past. hub.taking (λ count. Took 1 count) (queued_for p 1 past) past) b3 b4) where
  module _ (cast : Cast) (opened : Run) (earlier : List Run) (stage : Stage) (sized : cast.size ≡ size) (it : IsRelayed keeps tells asks cast opened earlier stage b0 old) where
    said_runs : Runs keeps tells cast.proxy opened earlier (said text stage) b1
    said_runs = met.runs cast.proxy opened earlier stage.events it.runs

    queue_waits : queue ≡ cast.proxy.waiting_for_modem (said text stage)
    queue_waits = queue_is ∙ (shows cast.proxy (said text stage) b1 said_runs.kept).modem_queue

    messages_are : (cut size queue).messages ≡ requests_in cast (said text stage)
    messages_are = ap (λ (s : Framing). (cut s queue).messages) (sym sized) ∙ ap (λ (q : List ℕ). (cut cast.size q).messages) queue_waits

    hears_it : Hears asks size cast.modem stage.asked (cut size queue).messages messages new
    hears_it = hears cast.modem stage.asked it.kept

    sent_are : messages ≡ sent_for cast.size cast.modem stage.asked (requests_in cast (said text stage))
    sent_are =
        hears_it.are
        ∙ ap (λ (s : Framing). sent_for s cast.modem stage.asked (cut size queue).messages) (sym sized)
        ∙ ap (sent_for cast.size cast.modem stage.asked) messages_are

    fetched_runs : Runs keeps tells cast.proxy opened earlier (fetched cast (said text stage)) b2
    fetched_runs =
        subst (λ (events : List Event). Runs keeps tells cast.proxy opened earlier events b2) (taking_is (λ count. ModemTook count) (cast.proxy.waiting_for_modem (said text stage)) (said text stage))
        (took.runs cast.proxy opened earlier (said text stage) said_runs)

    heard_runs : Runs keeps tells cast.proxy opened earlier (heard cast text stage) b3
    heard_runs =
        subst (λ (l : List (List ℕ)). Runs keeps tells cast.proxy opened earlier (hear_each l (fetched cast (said text stage))) b3) sent_are
        (arrived.runs cast.proxy opened earlier (fetched cast (said text stage)) fetched_runs)

    pub reply_is : shown ≡ reply cast text stage
    reply_is = shown_are ∙ shown_is cast (heard cast text stage) (face b3) (shows cast.proxy (heard cast text stage) b3 heard_runs.kept) nobody

    asked_runs : Runs keeps tells cast.proxy opened earlier (ask cast text stage).events b4
    asked_runs =
        subst (λ (events : List Event). Runs keeps tells cast.proxy opened earlier events b4)
        (ap (λ (n : ℕ). hub.taking (λ count. Took 1 count) n (heard cast text stage)) (waiting_is cast (heard cast text stage)) ∙ taking_is (λ count. Took 1 count) (waiting cast (heard cast text stage)) (heard cast text stage))
        (taken.runs cast.proxy opened earlier (heard cast text stage) heard_runs)

    pub stage_is : IsRelayed keeps tells asks cast opened earlier (ask cast text stage) b4 new
    stage_is = record {
      runs = asked_runs;
      kept = subst (λ (l : List (List ℕ)). asks cast.modem (asked_then stage.asked l) new) messages_are hears_it.kept;
    }

  pub relays : Relays keeps tells asks size text b0 b4 old new shown
  relays = record { stands = stage_is; replies = reply_is }
