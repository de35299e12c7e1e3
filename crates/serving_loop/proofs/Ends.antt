-- A serving that ends within some turns ends within more of them.
use Rattle.std.proofs.Common.{ℕ, ◌≤◌, List, inl, inr, arith}
use Rattle.hub_io.specs.declared.settings.Until.{Until}
use Rattle.many_history.specs.Events.{ManyEvent}
use Rattle.many_io.specs.Record.{ManyCall}
use Rattle.many_serving.specs.Proxy.{ManyProxy}
use Rattle.many_serving.specs.Ends.{GoesOn, EndsWith, EndsAtClock, RanOut}

module _ {p : ManyProxy} {until : Until} {calls : List ManyCall} (turns more : ℕ) (within : turns ≤ more) where
  pub goes_on_further : GoesOn p until turns calls → GoesOn p until more calls
  goes_on_further on = record { serves = on.serves; no_end = on.no_end; awake = on.awake; counted = omega (arith, on.counted) }

module _ {p : ManyProxy} {until : Until} {calls : List ManyCall} (turns more : ℕ) (within : turns ≤ more) where
  pub ends_with_further : {last : ManyCall} → EndsWith p until turns last calls → EndsWith p until more last calls
  ends_with_further ends = record { earlier = ends.earlier; whole = ends.whole; goes_on = goes_on_further turns more within ends.goes_on; serves = ends.serves; counted = omega (arith, ends.counted) }

  pub ends_at_clock_further : {Over : List ManyEvent → Type 0} → EndsAtClock Over p until turns calls → EndsAtClock Over p until more calls
  ends_at_clock_further ends = record {
    time = ends.time;
    earlier = ends.earlier;
    hung_up = ends.hung_up;
    whole = ends.whole;
    over = ends.over;
    goes_on = goes_on_further turns more within ends.goes_on;
    serves = ends.serves;
    counted = omega (arith, ends.counted);
  }

  pub ran_out_further : {lacks : ManyEvent → Type 0} → RanOut lacks p until turns calls → RanOut lacks p until more calls
  ran_out_further (inl none) = inl none
  ran_out_further (inr early) = inr (record {
    event = early.event;
    lacking = early.lacking;
    earlier = early.earlier;
    whole = early.whole;
    goes_on = goes_on_further turns more within early.goes_on;
    done = early.done;
    counted = omega (arith, early.counted);
  })
