-- Whether bytes wait for somebody, and who is the first from a place on.
use Rattle.std.proofs.Common.{◌≡◌, ℕ, zero, suc, ◌+◌, ◌-◌, ◌<◌, ◌≤◌, Bool, true, false, not, nat_lt, ◌==◌, List, [], ◌∷◌, ◌++◌, length, drop, get_or, slice_get, position, refl, ap, sym, ◌∙◌, subst, arith, Option, Some, None, is_some}
use Rattle.std.proofs.lemmas.Bool.Decides.{nat_tests}
use Rattle.std.specs.Option.{option_map}
use Rattle.kit_bytes.proofs.Sorted.{position_is, position_none}
use Rattle.connections.specs.Table.{Connection, waiting_or}
use Rattle.outbox.specs.Fronts.{IsFrontOf}
use Rattle.qmi_state.specs.Core.{QmiCore}
use Rattle.qmi_state.specs.Transitions.{qmi_handlers}
use Rattle.many_history.specs.Many.{Place, Undecided, At, Seat}
use Rattle.many_state.specs.Core.{queue_at, queue_under}
use Rattle.many_seats.specs.Seats.{IsSeat, IsPlaceOf}
use Rattle.many_core.specs.Core.{is_at, has_waiting}
use Rattle.many_core.proofs.Inside.{PlacesFit, fits_at}

abbrev pub wait : List ℕ → Bool
wait bytes = nat_lt 0 (length bytes)

-- a part of what waits tells whether something waits
pub waits_as : (front bytes : List ℕ) → IsFrontOf front bytes → (b : Bool) → b ≡ (length front == 0) → not b ≡ wait bytes
waits_as [] bytes all b is = ap not is ∙ sym (ap wait (all.some refl))
waits_as (byte ∷ front) bytes all b is =
    let other : (length (byte ∷ front) == 0) ≡ false = grind (arith, nat_tests) in
    let some : wait ((byte ∷ front) ++ all.rest) ≡ true = grind (arith, nat_tests) in
    ap not (is ∙ other) ∙ sym some ∙ sym (ap wait all.whole)

-- nothing is a front of no bytes
pub no_bytes_wait : (bytes : List ℕ) → bytes ≡ [] → IsFrontOf [] bytes
no_bytes_wait bytes none = record { rest = bytes; whole = refl; some = λ same. none }

-- for whoever is there nothing waits that waits for those who were dropped
pub there_waits : {T : Type 0} (others : List ℕ) (o : Option (Connection T)) → is_some o ≡ true → waiting_or others o ≡ waiting_or [] o
there_waits others None is = absurd (cc)
there_waits others (Some k) is = refl

pub nobody_waits : {T : Type 0} (o : Option (Connection T)) → is_some o ≡ false → waiting_or [] o ≡ []
nobody_waits None is = refl
nobody_waits (Some k) is = absurd (cc)

-- ---- a list from a place on ----

at_drop : {X : Type 0} (xs : List X) (from k : ℕ) (d : X) → get_or (drop from xs) k d ≡ get_or xs (from + k) d
at_drop xs zero k d = (let same : k ≡ 0 + k = omega arith in ap (λ (n : ℕ). get_or xs n d) same)
at_drop [] (suc from) k d = refl
at_drop (x ∷ xs) (suc from) k d = (let same : suc (from + k) ≡ suc from + k = omega arith in at_drop xs from k d ∙ ap (λ (n : ℕ). get_or (x ∷ xs) n d) same)

drop_length : {X : Type 0} (xs : List X) (from : ℕ) → from ≤ length xs → length (drop from xs) + from ≡ length xs
drop_length xs zero within = omega arith
drop_length [] (suc from) within = absurd (omega (arith, within))
drop_length (x ∷ xs) (suc from) within = omega (arith, drop_length xs from (omega (arith, within)))

-- ---- device by device ----

module _ (cores : List QmiCore) (seats : List Seat) (from : ℕ) where
  -- of those from the first place up to the second who are at one of the first devices, nobody has anything waiting
  abbrev pub NoneOfFirst : ℕ → ℕ → Type 0
  NoneOfFirst devices place = (k : ℕ) (seat : Seat) → from ≤ k → k < place → IsSeat seat seats k → (d : ℕ) → d < devices → is_at d seat.place ≡ true → has_waiting cores seat ≡ false

  pub of_one_more : (device place earlier : ℕ) → earlier ≤ place → NoneOfFirst device place → ((k : ℕ) (seat : Seat) → from ≤ k → k < earlier → IsSeat seat seats k → is_at device seat.place ≡ true → has_waiting cores seat ≡ false) → NoneOfFirst (device + 1) earlier
  of_one_more device place earlier less none here k seat low high at d within is = by (d == device) refl
    where
      by : (b : Bool) → (d == device) ≡ b → has_waiting cores seat ≡ false
      by true same = here k seat low high at (let this : d ≡ device = grind (arith, nat_tests, same) in subst (λ (n : ℕ). is_at n seat.place ≡ true) this is)
      by false other = none k seat low (omega (arith, high, less)) at d (let before : d < device = grind (arith, nat_tests, other, within) in before) is

  -- the first so far has something waiting, or there is none
  pub still_first : (place earlier : ℕ) → earlier ≤ place → (earlier < place → (seat : Seat) → IsSeat seat seats earlier → has_waiting cores seat ≡ true) → (place < length seats → (seat : Seat) → IsSeat seat seats place → has_waiting cores seat ≡ true)
      → earlier < length seats → (seat : Seat) → IsSeat seat seats earlier → has_waiting cores seat ≡ true
  still_first place earlier less new old within seat at = by (earlier == place) refl
    where
      by : (b : Bool) → (earlier == place) ≡ b → has_waiting cores seat ≡ true
      by true is =
          let same : earlier ≡ place = grind (arith, nat_tests, is) in
          old (omega (arith, same, within)) seat (subst (λ (n : ℕ). IsSeat seat seats n) same at)
      by false is = new (let before : earlier < place = grind (arith, nat_tests, is, less) in before) seat at

  of_place : (place : Place) → IsPlaceOf (length cores) place → ((d : ℕ) → d < length cores → is_at d place ≡ true → nat_lt 0 (length (queue_at qmi_handlers cores (Some place))) ≡ false) → nat_lt 0 (length (queue_at qmi_handlers cores (Some place))) ≡ false
  of_place (Undecided bytes) fits none = refl
  of_place (At d name) fits none = none d fits (grind (arith, nat_tests))

  -- whoever is at none has nothing waiting
  pub of_all : (place : ℕ) → place ≤ length seats → PlacesFit (length cores) seats → NoneOfFirst (length cores) place → (k : ℕ) (seat : Seat) → from ≤ k → k < place → IsSeat seat seats k → has_waiting cores seat ≡ false
  of_all place within fit none k seat low high at = of_place seat.place (fits_at (length cores) seats k seat (omega (arith, high, within)) at fit) (λ d less is. none k seat low high at d less is)

-- nobody has anything waiting at a device where nothing waits under any name
pub silent_at : (cores : List QmiCore) (d : ℕ) (core : QmiCore) → slice_get cores d ≡ Some core → ((name : ℕ) → queue_under qmi_handlers name (Some core) ≡ []) → (seat : Seat) → is_at d seat.place ≡ true → has_waiting cores seat ≡ false
silent_at cores d core got silent seat is = by seat.place is
  where
    by : (place : Place) → is_at d place ≡ true → nat_lt 0 (length (queue_at qmi_handlers cores (Some place))) ≡ false
    by (Undecided bytes) is = absurd (cc)
    by (At e name) is =
        let same : e ≡ d = grind (arith, nat_tests, is) in
        ap (λ (n : ℕ). wait (queue_under qmi_handlers name (slice_get cores n))) same ∙ ap (λ (o : Option QmiCore). wait (queue_under qmi_handlers name o)) got ∙ ap wait (silent name)

-- ---- the first ----

module _ (f : Seat → Bool) (seats : List Seat) (from : ℕ) where
  -- none of those from the first place up to the second passes
  abbrev pub NoneUpTo : ℕ → Type 0
  NoneUpTo place = (k : ℕ) (seat : Seat) → from ≤ k → k < place → IsSeat seat seats k → f seat ≡ false

  passes_not : (place k : ℕ) (d : Seat) → NoneUpTo place → from + k < place → place ≤ length seats → f (get_or seats (from + k) d) ≡ false
  passes_not place k d none less within = none (from + k) (get_or seats (from + k) d) (omega arith) less (same_at seats (from + k) d (omega (arith, less, within)))
    where
      same_at : (xs : List Seat) (i : ℕ) (d : Seat) → i < length xs → get_or xs i d ≡ get_or xs i (get_or xs i d)
      same_at [] i d less = absurd (omega (arith, less))
      same_at (x ∷ xs) zero d less = refl
      same_at (x ∷ xs) (suc i) d less = same_at xs i d (omega (arith, less))

  pub first_here : (place : ℕ) (seat : Seat) → from ≤ place → place < length seats → NoneUpTo place → IsSeat seat seats place → f seat ≡ true → Some place ≡ option_map (λ at. from + at) (position f (drop from seats))
  first_here place seat behind within none at is =
      let ahead : ℕ = place - from in
      let sum : from + ahead ≡ place = omega (arith, behind) in
      let here : f (get_or (drop from seats) ahead seat) ≡ true = ap f (at_drop seats from ahead seat ∙ ap (λ (n : ℕ). get_or seats n seat) sum ∙ sym at) ∙ is in
      let found : position f (drop from seats) ≡ Some ahead =
      position_is f (drop from seats) ahead seat (λ k less. ap f (at_drop seats from k seat) ∙ passes_not place k seat none (omega (arith, less, behind)) (omega (arith, within))) (omega (arith, within, behind, drop_length seats from (omega (arith, behind, within)))) here
      in
      sym (ap (λ (o : Option ℕ). option_map (λ at. from + at) o) found ∙ ap (λ (n : ℕ). Some n) sum)

  pub nobody_first : (place : ℕ) → from ≤ length seats → length seats ≤ place → NoneUpTo place → None ≡ option_map (λ at. from + at) (position f (drop from seats))
  nobody_first place behind all none =
      sym
      (ap (λ (o : Option ℕ). option_map (λ at. from + at) o)
      (position_none f (drop from seats) (λ k d less. ap f (at_drop seats from k d) ∙ passes_not (length seats) k d (λ n seat low high at. none n seat low (omega (arith, high, all)) at) (omega (arith, less, drop_length seats from behind)) (omega arith))))

  pub one_further : (place : ℕ) → NoneUpTo place → ((seat : Seat) → IsSeat seat seats place → f seat ≡ false) → NoneUpTo (place + 1)
  one_further place none here k seat low high at = by (k == place) refl
    where
      by : (b : Bool) → (k == place) ≡ b → f seat ≡ false
      by true same = here seat (let is : k ≡ place = grind (arith, nat_tests, same) in subst (λ (n : ℕ). IsSeat seat seats n) is at)
      by false other = none k seat low (let before : k < place = grind (arith, nat_tests, other, high) in before) at
