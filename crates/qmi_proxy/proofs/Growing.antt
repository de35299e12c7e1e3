-- The bytes for a client of a QMI proxy only grow, but where it joins or its socket takes some of them.
use Rattle.std.proofs.Common.{◌≡◌, ℕ, true, false, List, ◌∷◌}
use Rattle.proxy_history.specs.Events.{Event, Joined, Took, joins_or_takes}
use Rattle.proxy_history.specs.Connections.{is_present}
use Rattle.proxy_history.specs.Rendering.{empty, take_waiting, Grows}
use Rattle.proxy_history.proofs.Folds as folds
use Rattle.qmi_proxy.specs.Setup.{Setup}
use Rattle.qmi_proxy.specs.History.{qmi_protocol, history, text_for}
use Rattle.qmi_proxy.proofs.Walk.{Asks, orderly}

module _ (s : Setup) (client : ℕ) where
  pub bytes_grow : (event : Event) (events : List Event) → joins_or_takes client event ≡ false → Grows (text_for s client events) (text_for s client (event ∷ events))
  bytes_grow event events none = folds.bytes_grow (qmi_protocol s) (Asks s) (orderly s) client event events none

  pub joining_starts_with_none : (events : List Event) → text_for s client (Joined client ∷ events) ≡ empty
  joining_starts_with_none events = folds.joining_starts_with_none (qmi_protocol s) (Asks s) (orderly s) client events

  pub taking_takes_the_first : (count : ℕ) (events : List Event) → is_present client (history s events) ≡ true → text_for s client (Took client count ∷ events) ≡ take_waiting count (text_for s client events)
  taking_takes_the_first count events there = folds.taking_takes_the_first (qmi_protocol s) (Asks s) (orderly s) client count events there

  pub taking_of_the_absent_takes_none : (count : ℕ) (events : List Event) → is_present client (history s events) ≡ false → text_for s client (Took client count ∷ events) ≡ text_for s client events
  taking_of_the_absent_takes_none count events absent = folds.taking_of_the_absent_takes_none (qmi_protocol s) (Asks s) (orderly s) client count events absent
