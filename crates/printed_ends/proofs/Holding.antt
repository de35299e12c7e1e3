-- A session over a link to whoever answers each text at once.
use Rattle.std.specs.Prelude.{Result, Ok, Err, is_some}
use Rattle.std.proofs.Common.{◌≡◌, ℕ, true, List, [], ◌++◌, Option, Some, None, refl, sym, ◌∙◌, ap, subst}
use Rattle.std.specs.Option.{option_map}
use Rattle.link_io.specs.Calls.{Call}
use Rattle.link_session.specs.declared.fault.SessionFault.{SessionFault}
use Rattle.link_session.specs.declared.fault.SessionFault.TheVariants as fault
use Rattle.link_session.specs.Asking.{Makes}
use Rattle.link_session.specs.Marks.{bytes_in}
use Rattle.link_session.specs.Peer.{Finish, FinishesByPeer, LeadsTo, Peer, said, texts_in}
use Rattle.peer_link.specs.Linked.{Linked}
use Rattle.printed_ends.specs.Held.{IsHeld, IsTold}
use Rattle.printed_ends.specs.Printed.{IsByPeer, IsOf, Prints, status_of}
use Rattle.printed_ends.specs.declared.held.Held.{Held}

by_peer : {E : Type 0} (all taken : List ℕ) (end : Result E SessionFault) → IsByPeer end → (end ≡ Err fault.TimedOut → taken ≡ all) → FinishesByPeer all taken end
by_peer all taken (Ok end) is silent = tt
by_peer all taken (Err (fault.Broken place)) is silent = tt
by_peer all taken (Err fault.Flooded) is silent = tt
by_peer all taken (Err fault.TimedOut) is silent = silent refl
by_peer all taken (Err why) is silent = absurd is

pub some_of : (told : Option (List Call)) → is_some told ≡ true → (all : List Call) × (told ≡ Some all)
some_of (Some all) is = (all, refl)
some_of None is = absurd (cc)

-- a plan's session, which ends over any link to a peer as it ends at that peer
module _ {E W : Type 0} (session : List Call → Result E SessionFault → Type 0) (session_at : Peer → Finish W) (EndsWith : Result E SessionFault → W → Type 0)
    (ends_as_at_peers :
    (peer : Peer) (calls : List Call) (end : Result E SessionFault) → session calls end → LeadsTo peer [] [] calls → FinishesByPeer (said peer [] (texts_in calls)) (bytes_in calls) end
    → EndsWith end (session_at peer).end × (texts_in calls ≡ (session_at peer).talk.texts)) where
  -- what answers, and is named by calls
  module _ {A : Type 0} (peer : A → Peer) (named : A → List Call → List Call) (behind : (a : A) (calls more : List Call) → named a (calls ++ more) ≡ named a calls ++ more)
      (naming : (a b : A) (calls more : List Call) → named a calls ≡ named b more → (peer a ≡ peer b) × (calls ≡ more)) where
    ends_as : {end : Result E SessionFault} (first last : Linked A) (all : List Call) → first.recorded ≡ Some [] → last.recorded ≡ Some all
        → Makes (λ calls. session calls end) (option_map (named first.answerer) first.recorded) (option_map (named last.answerer) last.recorded) → LeadsTo (peer last.answerer) [] [] all → IsByPeer end
        → (end ≡ Err fault.TimedOut → said (peer last.answerer) [] (texts_in all) ≡ bytes_in all) → EndsWith end (session_at (peer first.answerer)).end × (texts_in all ≡ (session_at (peer first.answerer)).talk.texts)
    ends_as {end} first last all begins told makes leads is silent =
        let grown = makes.grows.recorded (named last.answerer all) (ap (option_map (named last.answerer)) told) in
        let same : Some (named first.answerer []) ≡ Some grown.0 = sym (ap (option_map (named first.answerer)) begins) ∙ grown.1 in
        let before : named first.answerer [] ≡ grown.0 = cc in
        let are : named last.answerer all ≡ named first.answerer makes.calls = grown.2 ∙ ap (λ (l : List Call). l ++ makes.calls) (sym before) ∙ sym (behind first.answerer [] makes.calls) in
        let it = naming last.answerer first.answerer all makes.calls are in
        let there : LeadsTo (peer first.answerer) [] [] makes.calls = subst (λ (p : Peer). LeadsTo p [] [] makes.calls) it.0 (subst (LeadsTo (peer last.answerer) [] []) it.1 leads) in
        let taken : end ≡ Err fault.TimedOut → bytes_in makes.calls ≡ said (peer first.answerer) [] (texts_in makes.calls) =
        λ e. sym (subst (λ (l : List Call). said (peer first.answerer) [] (texts_in l) ≡ bytes_in l) it.1 (subst (λ (p : Peer). said p [] (texts_in all) ≡ bytes_in all) it.0 (silent e))) in
        let ended = ends_as_at_peers (peer first.answerer) makes.calls end makes.are there (by_peer _ _ end is taken) in
        (ended.0, ap texts_in it.1 ∙ ended.1)

    pub is_held : (text : E → List ℕ) (refusal : E → Option ℕ) {end : Result E SessionFault} {held : Held} (first last : Linked A) → first.recorded ≡ Some []
        → Makes (λ calls. session calls end) (option_map (named first.answerer) first.recorded) (option_map (named last.answerer) last.recorded) → IsTold peer last held → IsByPeer end → IsOf text refusal end held.printed
        → IsHeld (Prints text refusal EndsWith) (session_at (peer first.answerer)) held
    is_held text refusal {end} first last begins makes told is of =
        let it = ends_as first last told.calls begins told.told makes told.leads is (λ e. told.silent (of.1 ∙ ap (status_of refusal) e)) in
        record { prints = record { end = end; ends = it.0; by_peer = is; printed_is = of }; texts_are = told.texts_are ∙ it.1 }
