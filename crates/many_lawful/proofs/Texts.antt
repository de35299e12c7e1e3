-- The bytes for a client at one device, behind several events. Lists of events have the newest first.
use Rattle.std.proofs.Common.{◌≡◌, ℕ, ◌+◌, Bool, true, false, List, [], ◌∷◌, ◌++◌, refl, ap, sym, ◌∙◌, append_assoc, append-nil}
use Rattle.std.specs.List.{AllByRecursion}
use Rattle.proxy_history.specs.Events.{Event, Joined, Piece}
use Rattle.proxy_history.specs.Rendering.{Rendering, empty}
use Rattle.proxy_history.specs.Protocol.{Protocol}
use Rattle.proxy_history.specs.Facts.{Fact, Request}
use Rattle.proxy_history.specs.History.{history, text_for}
use Rattle.proxy_history.specs.Connections.{dropped, is_present, contains}
use Rattle.proxy_history.specs.Proxy.{IsLawful, LeavesBytesOf}
use Rattle.proxy_history.specs.Lawful.{proxy_of}
use Rattle.proxy_history.specs.Adding.{IsOrderly}
use Rattle.many_history.specs.Many.{in_pieces, says, arrival}
use Rattle.many_dropped.proofs.One.{leaves, dropped_or_there}

-- the bytes stay, more may come behind them, and what came waits
pub record Grows (old new : Rendering) : Type 0 where
  pub more : List ℕ
  pub text : new.bytes ≡ old.bytes ++ more
  pub waiting : new.waiting ≡ old.waiting ++ more

pub grows_not : (r : Rendering) → Grows r r
grows_not r = record { more = []; text = sym (append-nil r.bytes); waiting = sym (append-nil r.waiting) }

grows_then : (first mid last : Rendering) → Grows first mid → Grows mid last → Grows first last
grows_then first mid last one two = record {
  more = one.more ++ two.more;
  text = two.text ∙ ap (λ (l : List ℕ). l ++ two.more) one.text ∙ append_assoc first.bytes one.more two.more;
  waiting = two.waiting ∙ ap (λ (l : List ℕ). l ++ two.more) one.waiting ∙ append_assoc first.waiting one.more two.more;
}

-- all of what came first waits
pub grows_all : (new : Rendering) → new.bytes ≡ new.waiting → Grows empty new
grows_all new same = record { more = new.bytes; text = refl; waiting = sym same }

abbrev pub LeaveBytesOf : ℕ → List Event → Type 0
LeaveBytesOf name events = AllByRecursion (λ event. LeavesBytesOf name event) events

module _ {Known : Type 0} (p : Protocol Known) (own_bytes : List Fact → ℕ) (rules : IsLawful (proxy_of p own_bytes)) (name : ℕ) where
  grows_by : (event : Event) (events : List Event) → LeavesBytesOf name event → Grows (text_for p name events) (text_for p name (event ∷ events))
  grows_by event events leaves = let more = rules.grown name event events leaves in record { more = more.more; text = more.text; waiting = more.waiting }

  pub grows_by_all : (part events : List Event) → LeaveBytesOf name part → Grows (text_for p name events) (text_for p name (part ++ events))
  grows_by_all [] events leaves = grows_not (text_for p name events)
  grows_by_all (event ∷ part) events leaves = grows_then (text_for p name events) (text_for p name (part ++ events)) (text_for p name (event ∷ (part ++ events))) (grows_by_all part events leaves.1) (grows_by event (part ++ events) leaves.0)

  -- ---- a client that arrives ----

  -- all bytes for it wait
  abbrev AllWait : List Event → Type 0
  AllWait events = (text_for p name events).bytes ≡ (text_for p name events).waiting

  wait_too : (piece : List ℕ) (events : List Event) → AllWait events → AllWait (Piece name piece ∷ events)
  wait_too piece events all = let more = rules.grown name (Piece name piece) events tt in more.text ∙ ap (λ (l : List ℕ). l ++ more.more) all ∙ sym more.waiting

  wait_saying : (pieces : List (List ℕ)) (said events : List Event) → AllWait (said ++ events) → AllWait (says name pieces said ++ events)
  unfolding says
  wait_saying [] said events all = all
  wait_saying (piece ∷ pieces) said events all = wait_saying pieces (Piece name piece ∷ said) events (wait_too piece (said ++ events) all)

  pub wait_arriving : (before piece : List ℕ) (events : List Event) → AllWait (arrival name before piece ++ events)
  wait_arriving before piece events =
      wait_too piece (says name (in_pieces before) (Joined name ∷ []) ++ events) (wait_saying (in_pieces before) (Joined name ∷ []) events (rules.joined name events))

-- an event by which nobody is dropped, and the client doesn't leave, leaves it there
pub stays_by : {Known : Type 0} (p : Protocol Known) (Asks : Request → List Fact → Type 0) (O : IsOrderly p Asks) (name : ℕ) (event : Event) (events : List Event) → leaves name event ≡ false → dropped (history p (event ∷ events)) ≡ []
    → is_present name (history p events) ≡ true → is_present name (history p (event ∷ events)) ≡ true
stays_by p Asks O name event events other none is = by (is_present name (history p (event ∷ events))) refl
  where
    by : (b : Bool) → is_present name (history p (event ∷ events)) ≡ b → b ≡ true
    by true there = refl
    by false gone = absurd (let clash : false ≡ true = sym (ap (contains name) none) ∙ dropped_or_there p Asks O name event events other is gone in cc)
