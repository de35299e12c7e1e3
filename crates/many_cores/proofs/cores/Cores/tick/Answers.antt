use Rattle.std.proofs.Common.{◌≡◌, ℕ, ◌+◌, ◌<◌, ◌≤◌, Bool, false, true, ◌||◌, ◌==◌, nat_lt, List, length, slice_get, refl, ap, sym, ◌∙◌, subst, arith, add-one}
use Rattle.std.proofs.lemmas.Bool.Decides.{nat_tests}
use Rattle.proxy_history.specs.Events.{Now}
use Rattle.qmi_state.specs.Core.{QmiCore}
use Rattle.many_cores.specs.Cores.{met, at_place, HasNoFewer}
use Rattle.many_cores.proofs.Places.{changed_to, changed_next, changed_length, changed_all, unchanged_at, some_at, at_got, at_place_set, is_within}
use Rattle.many_cores.proofs.cores.Cores.tick.Goals as goal

neither : (a b : Bool) → (a || b) ≡ false → (a ≡ false) × (b ≡ false)
neither true b none = absurd (cc)
neither false b none = (refl, none)

no_fewer : (before after : ℕ) (fell : Bool) → fell ≡ nat_lt after before → fell ≡ false → before ≤ after
no_fewer before after fell is none = (let test : nat_lt after before ≡ false = sym is ∙ none in grind (arith, nat_tests, test))

-- those in front of a place, and the one at it
none_of : (P : ℕ → Type 0) (d : ℕ) → ((e : ℕ) → e < d → P e) → P d → (e : ℕ) → e < d + 1 → P e
none_of P d earlier here e less = by (e == d) refl
  where
    at : e ≡ d → P e
    at same = subst P (sym same) here

    by : (b : Bool) → (e == d) ≡ b → P e
    by true is = at (grind (arith, nat_tests, is))
    by false is = earlier e (let before : e < d = grind (arith, nat_tests, is, less) in before)

pub loop-device-init : goal.loop-device-init
loop-device-init c = record { within = omega arith; changed = refl; fewer = λ none d less. absurd (omega (arith, less)) }

pub loop-device-preserved : goal.loop-device-preserved
loop-device-preserved c =
    let xs : List QmiCore = c.args.self.now in
    let now : List QmiCore = c.loop-device.self in
    let its = Now c.args.time in
    let d = c.loop-device.device in
    let long : length now ≡ length xs = ap (λ (l : List QmiCore). length l) c.loop-device.invariant.changed ∙ changed_length (met its) d xs in
    let within : d < length now = omega (arith, c.loop-device-test.true, c.count.ensures) in
    let core = some_at now d within in
    record {
      within = omega (arith, within, long);
      changed =
          c.meet-fewer.ensures.met core.0 core.1 ∙ at_place_set (met its) now d core.0 within core.1 ∙ ap (at_place d (met its)) c.loop-device.invariant.changed ∙ changed_next (met its) d xs
          ∙ ap (λ (n : ℕ). changed_to (met its) n xs) (sym (add-one d));
      fewer = λ none.
          let both = neither c.loop-device.fewer c.meet-fewer.result none in
          none_of (λ e. HasNoFewer e its xs) d (c.loop-device.invariant.fewer both.0)
          (λ k got.
          let is = at_got now d k (ap (λ (l : List QmiCore). slice_get l d) c.loop-device.invariant.changed ∙ unchanged_at (met its) d xs ∙ got) in
          no_fewer (length k.state.table.present) (length (met its k).state.table.present) c.meet-fewer.result (c.meet-fewer.ensures.fewer k is) both.1);
    }

pub loop-device-smaller : goal.loop-device-smaller
loop-device-smaller c =
    let xs : List QmiCore = c.args.self.now in
    let d = c.loop-device.device in
    let long : length c.loop-device.self ≡ length xs = ap (λ (l : List QmiCore). length l) c.loop-device.invariant.changed ∙ changed_length (met (Now c.args.time)) d xs in
    omega (arith, c.loop-device-test.true, c.count.ensures, long)

pub returns : goal.returns
returns c =
    let xs : List QmiCore = c.args.self.now in
    let d = c.loop-device.device in
    let its = Now c.args.time in
    let long : length c.loop-device.self ≡ length xs = ap (λ (l : List QmiCore). length l) c.loop-device.invariant.changed ∙ changed_length (met its) d xs in
    let all : length xs ≤ d = omega (arith, c.loop-device-test.false, c.count.ensures, long) in
    record {
      met = c.loop-device.invariant.changed ∙ changed_all (met its) d xs all;
      fewer = λ none device core got. c.loop-device.invariant.fewer none device (omega (arith, is_within xs device core got, all)) core got;
    }
