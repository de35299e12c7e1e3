-- The record of a hub of one device, as one of several keeps it.
use Rattle.std.proofs.Common.{◌≡◌, ℕ, ◌<◌, ◌≤◌, List, [], ◌∷◌, map, length, slice_get, Option, Some, None, Result, Ok, Err, refl, ap, subst, ◌∙◌, arith}
use Rattle.std.specs.Option.{option_map, option_copied}
use Rattle.link_io.specs.Target.{address_of}
use Rattle.link_io.specs.declared.link.Target.{Target}
use Rattle.hub_io.specs.Record.{Call, Records}
use Rattle.hub_io.specs.Hub as one
use Rattle.many_io.specs.Record.{ManyCall}
use Rattle.many_io.specs.Hub as many
use Rattle.many_io.specs.One.{call_of, devices_of}

-- a call that is recorded of the one is recorded of the other
pub records_as : (old new : Option (List Call)) (call : Call) (mapped : ManyCall) → call_of call ≡ mapped → Records old call new → Records (option_map (map call_of) old) mapped (option_map (map call_of) new)
records_as old None call mapped is records = tt
records_as None (Some new) call mapped is records = absurd records
records_as (Some old) (Some new) call mapped is records = ap (map call_of) records ∙ ap (λ (c : ManyCall). c ∷ map call_of old) is

pub opened_is : {T E : Type 0} (result : Result T E) (socket : List ℕ) (device : Option Target) (targets : List Target) → device ≡ slice_get targets 0 → length targets ≤ 1
    → call_of (one.opened_call result socket device) ≡ many.opened_call result socket targets
opened_is (Ok t) socket None [] is within = refl
opened_is (Err e) socket None [] is within = refl
opened_is (Ok t) socket (Some x) [] is within = absurd (cc)
opened_is (Err e) socket (Some x) [] is within = absurd (cc)
opened_is {T = T} {E = E} (Ok t) socket device (x ∷ []) is within = ap (λ (d : Option Target). call_of (one.opened_call {T = T} {E = E} (Ok t) socket d)) is
opened_is {T = T} {E = E} (Err e) socket device (x ∷ []) is within = ap (λ (d : Option Target). call_of (one.opened_call {T = T} {E = E} (Err e) socket d)) is
opened_is result socket device (x ∷ y ∷ targets) is within = absurd (omega (arith, within))

-- the only device is the first
first : (device : ℕ) → device < 1 → 0 ≡ device
first device within = omega (arith, within)

pub sent_is : {E : Type 0} (result : Result ℕ E) (conn : ℕ) (bytes : List ℕ) → call_of (one.send_call result conn bytes) ≡ many.send_call result conn bytes
sent_is (Ok taken) conn bytes = refl
sent_is (Err e) conn bytes = refl

pub sent_modem_is : {E : Type 0} (result : Result ℕ E) (device : ℕ) (bytes : List ℕ) → device < 1 → call_of (one.send_modem_call result bytes) ≡ many.send_modem_call result device bytes
sent_modem_is result device bytes within = subst (λ (d : ℕ). call_of (one.send_modem_call result bytes) ≡ many.send_modem_call result d bytes) (first device within) (at_first result)
  where
    at_first : {E : Type 0} (result : Result ℕ E) → call_of (one.send_modem_call result bytes) ≡ many.send_modem_call result 0 bytes
    at_first (Ok taken) = refl
    at_first (Err e) = refl

pub reopened_is : {T E : Type 0} (result : Result T E) (device : ℕ) → device < 1 → call_of (one.reopen_call result) ≡ many.reopen_call result device
reopened_is result device within = subst (λ (d : ℕ). call_of (one.reopen_call result) ≡ many.reopen_call result d) (first device within) (at_first result)
  where
    at_first : {T E : Type 0} (result : Result T E) → call_of (one.reopen_call result) ≡ many.reopen_call result 0
    at_first (Ok t) = refl
    at_first (Err e) = refl
