-- The events of a record, and what was recorded since some time.
use Rattle.std.proofs.Common.{◌≡◌, ℕ, zero, suc, List, [], ◌∷◌, ◌++◌, refl, ap, sym, ◌∙◌, Option, Some, None, append_assoc}
use Rattle.proxy_history.specs.Events.{Event, Left, ModemGone, ModemBack, Took, ModemTook}
use Rattle.hub_io.specs.Record.{Call, Told, Sent, SendFailed, SentModem, SendModemFailed, Reopened, taking, events, Since, Records}

taking-append : (event : ℕ → Event) (count : ℕ) (xs ys : List Event) → taking event count (xs ++ ys) ≡ taking event count xs ++ ys
taking-append event zero xs ys = refl
taking-append event (suc count) xs ys = refl

pub events-append : (later earlier : List Call) → events (later ++ earlier) ≡ events later ++ events earlier
unfolding events
events-append [] earlier = refl
events-append (Told event ∷ later) earlier = ap (λ (l : List Event). event ∷ l) (events-append later earlier)
events-append (Sent c bytes taken ∷ later) earlier = ap (taking (λ count. Took c count) taken) (events-append later earlier) ∙ taking-append (λ count. Took c count) taken (events later) (events earlier)
events-append (SendFailed c bytes ∷ later) earlier = ap (λ (l : List Event). Left c ∷ l) (events-append later earlier)
events-append (SentModem bytes taken ∷ later) earlier = ap (taking (λ count. ModemTook count) taken) (events-append later earlier) ∙ taking-append (λ count. ModemTook count) taken (events later) (events earlier)
events-append (SendModemFailed bytes ∷ later) earlier = ap (λ (l : List Event). ModemGone ∷ l) (events-append later earlier)
events-append (Reopened ∷ later) earlier = ap (λ (l : List Event). ModemBack ∷ l) (events-append later earlier)
events-append (_ ∷ later) earlier = events-append later earlier

-- `Since` goes from call to call: it starts with no call, grows by one, and joins what was recorded in two spans
pub since-starts : {A : Type 0} (now : Option (List A)) (P : List A → Type 0) → P [] → Since now now P
since-starts None P p = tt
since-starts (Some calls) P p = ([], refl, p)

pub since-grows : {A : Type 0} (start before now : Option (List A)) (call : A) (P Q : List A → Type 0)
    → ((calls : List A) → P calls → Q (call ∷ calls)) → Since start before P → Records before call now → Since start now Q
since-grows start before None call P Q more since records = tt
since-grows start None (Some now) call P Q more since records = absurd records
since-grows None (Some before) (Some now) call P Q more since records = absurd since
since-grows (Some start) (Some before) (Some now) call P Q more since records = (call ∷ since.0, records ∙ ap (λ l. call ∷ l) since.1, more since.0 since.2)

pub since-joins : {A : Type 0} (start before now : Option (List A)) (P Q R : List A → Type 0)
    → ((earlier later : List A) → P earlier → Q later → R (later ++ earlier)) → Since start before P → Since before now Q → Since start now R
since-joins start before None P Q R join first then_rest = tt
since-joins start None (Some now) P Q R join first then_rest = absurd then_rest
since-joins None (Some before) (Some now) P Q R join first then_rest = absurd first
since-joins (Some start) (Some before) (Some now) P Q R join first then_rest =
    (then_rest.0 ++ first.0, then_rest.1 ∙ ap (λ l. then_rest.0 ++ l) first.1 ∙ sym (append_assoc then_rest.0 first.0 start), join first.0 then_rest.0 first.2 then_rest.2)
