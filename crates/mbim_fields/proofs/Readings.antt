-- Reading items and fields, one after another.
use Rattle.std.proofs.Common.{◌≡◌, ℕ, zero, suc, ◌+◌, ◌*◌, ◌<◌, ◌≤◌, List, [], ◌∷◌, ◌++◌, length, refl, sym, ◌∙◌, ap, rules, arith, append_assoc, Ok, Err}
use Rattle.mbim_fields.specs.Layout.{Fixed, size, Form, Layout, no_fields, field}
use Rattle.mbim_fields.specs.Value.{Value, Values, no_more, first, list_of, values_of, room}
use Rattle.mbim_fields.specs.Reading.{Read, and_then, fixed_at, run_at, read_each, read_form, read_fields}
use Rattle.mbim_fields.specs.Footprint.{behind, each_footprint, form_footprint, fields_footprint}
use Rattle.mbim_fields.specs.Decoding.{Ends}
use Rattle.mbim_fields.specs.declared.fault.FieldFault.{FieldFault}
use Rattle.mbim_fields.specs.declared.fault.FieldFault.TheVariants.{OutOfRange, Lone, TooLarge, OutOfMemory}

pub list_of-values_of : (values : List Value) → list_of (values_of values) ≡ values
list_of-values_of [] = refl
list_of-values_of (value ∷ more) = ap (λ (l : List Value). value ∷ l) (list_of-values_of more)

pub values_of-list_of : (values : Values) → values_of (list_of values) ≡ values
values_of-list_of no_more = refl
values_of-list_of (first value more) = ap (λ (v : Values). first value v) (values_of-list_of more)

-- some are left
pub IsMore : (k count left : ℕ) → k < count → k + left ≡ count → (less : ℕ) × (left ≡ suc less)
IsMore k count zero below is = absurd (omega (arith, is))
IsMore k count (suc left) below is = (left, refl)

pub IsNoMore : (k count left : ℕ) → count ≤ k → k + left ≡ count → left ≡ 0
IsNoMore k count left past is = omega (arith, is)

-- ---- a run: some are read, and so many are left from a place on ----

pub record RunSoFar (fixed : Fixed) (count : ℕ) (whole : List ℕ) (at : ℕ) (done : List Value) (place k : ℕ) : Type 0 where
  pub left : ℕ
  pub count_is : k + left ≡ count
  pub fits : place + left * size fixed ≤ length whole
  pub same : done ++ run_at fixed left whole place ≡ run_at fixed count whole at

pub RunSoFar-next : (fixed : Fixed) (count : ℕ) (whole : List ℕ) (at : ℕ) (done : List Value) (place k : ℕ) (value : Value) → RunSoFar fixed count whole at done place k → k < count → value ≡ fixed_at fixed whole place
    → RunSoFar fixed count whole at (done ++ value ∷ []) (place + size fixed) (k + 1)
RunSoFar-next fixed count whole at done place k value so less value_is =
    let more = IsMore k count so.left less so.count_is in
    let left = more.0 in
    let fits = rw more.1 at so.fits in
    let same = rw more.1 at so.same in
    record {
      left = left;
      count_is = omega (arith, so.count_is, more.1);
      fits = omega (arith, fits);
      same = append_assoc done (value ∷ []) (run_at fixed left whole (place + size fixed)) ∙ ap (λ (v : Value). done ++ v ∷ run_at fixed left whole (place + size fixed)) value_is ∙ same;
    }

-- ---- items: some are read, and so many are left from a place on; and what those that were read count as was taken from what was left at first ----

pub record EachSoFar (read : ℕ → Read Value) (item : ℕ → ℕ) (width count at limit : ℕ) (done : List Value) (place k before now : ℕ) : Type 0 where
  pub left : ℕ
  pub count_is : k + left ≡ count
  pub fits : place + left * width ≤ limit
  pub same : read_each read width left place done ≡ read_each read width count at []
  pub taken : now + each_footprint read item width count at ≡ before + each_footprint read item width left place

pub EachSoFar-next : (read : ℕ → Read Value) (item : ℕ → ℕ) (width count at limit : ℕ) (done : List Value) (place k before now later : ℕ) (value : Value) → EachSoFar read item width count at limit done place k before now → k < count
    → read place ≡ Ok value → later + item place ≡ now → EachSoFar read item width count at limit (done ++ value ∷ []) (place + width) (k + 1) before later
EachSoFar-next read item width count at limit done place k before now later value so less is takes =
    let more = IsMore k count so.left less so.count_is in
    let left = more.0 in
    let fits = rw more.1 at so.fits in
    let same : and_then (read place) (λ v. read_each read width left (place + width) (done ++ v ∷ [])) ≡ read_each read width count at [] = rw more.1 at so.same in
    let taken : now + each_footprint read item width count at ≡ before + (item place + behind (read place) (λ v. each_footprint read item width left (place + width))) = rw more.1 at so.taken in
    let rest = rw is at taken in
    record {
      left = left;
      count_is = omega (arith, so.count_is, more.1);
      fits = omega (arith, fits);
      same = rw is at same;
      taken = omega (arith, takes, rest);
    }

-- one of them has a fault, or counts as more than is left
pub EachSoFar-ends : (read : ℕ → Read Value) (item : ℕ → ℕ) (width count at limit : ℕ) (done : List Value) (place k before now : ℕ) (fault : FieldFault) → EachSoFar read item width count at limit done place k before now → k < count
    → Ends (read place) (item place) now fault → Ends (read_each read width count at []) (each_footprint read item width count at) before fault
EachSoFar-ends read item width count at limit done place k before now fault so less =
    let more = IsMore k count so.left less so.count_is in
    let same : and_then (read place) (λ v. read_each read width more.0 (place + width) (done ++ v ∷ [])) ≡ read_each read width count at [] = rw more.1 at so.same in
    let taken : now + each_footprint read item width count at ≡ before + (item place + behind (read place) (λ v. each_footprint read item width more.0 (place + width))) = rw more.1 at so.taken in
    elim fault as (λ fault. Ends (read place) (item place) now fault → Ends (read_each read width count at []) (each_footprint read item width count at) before fault) [
      | OutOfRange lost ↦ λ is. let rest = rw is.0 at taken in (sym (rw is.0 at same), omega (arith, is.1, rest))
      | Lone lost ↦ λ is. let rest = rw is.0 at taken in (sym (rw is.0 at same), omega (arith, is.1, rest))
      | TooLarge ↦ λ is. omega (arith, is, taken)
      | OutOfMemory ↦ λ is. tt
    ]

pub EachSoFar-all : (read : ℕ → Read Value) (item : ℕ → ℕ) (width count at limit : ℕ) (done : List Value) (place k before now : ℕ) → EachSoFar read item width count at limit done place k before now → count ≤ k
    → (read_each read width count at [] ≡ Ok done) × (now + each_footprint read item width count at ≡ before)
EachSoFar-all read item width count at limit done place k before now so all =
    let none = IsNoMore k count so.left all so.count_is in
    let taken = rw none at so.taken in
    (sym (rw none at so.same), omega (arith, taken))

-- ---- a list: its own bytes are taken before those of its items ----

pub list_left : (now taken before footprint : ℕ) → now + footprint ≡ taken → taken + 32 ≡ before → now + (32 + footprint) ≡ before
list_left now taken before footprint items list = omega (arith, items, list)

pub list_ends : {A B : Type 0} (read : Read A) (next : A → Read B) (footprint taken before : ℕ) (fault : FieldFault) → taken + 32 ≡ before → Ends read footprint taken fault → Ends (and_then read next) (32 + footprint) before fault
list_ends read next footprint taken before (OutOfRange lost) list is = (ap (λ r. and_then r next) is.0, omega (arith, list, is.1))
list_ends read next footprint taken before (Lone lost) list is = (ap (λ r. and_then r next) is.0, omega (arith, list, is.1))
list_ends read next footprint taken before TooLarge list is = omega (arith, list, is)
list_ends read next footprint taken before OutOfMemory list is = tt

-- ---- fields: the next one, and those behind it ----

read_next : (name : List ℕ) (form : Form) (more : Layout) (whole : List ℕ) (base : ℕ) (done : List Value) (at : ℕ) (value : Value) → at + room form done ≤ length whole → read_form form whole base at done ≡ Ok value
    → read_fields more whole base (at + room form done) (done ++ value ∷ []) ≡ read_fields (field name form more) whole base at done
read_next name form more whole base done at value fits is = search rules

read_fault : (name : List ℕ) (form : Form) (more : Layout) (whole : List ℕ) (base : ℕ) (done : List Value) (at : ℕ) (fault : FieldFault) → at + room form done ≤ length whole → read_form form whole base at done ≡ Err fault
    → read_fields (field name form more) whole base at done ≡ Err fault
read_fault name form more whole base done at fault fits is = search rules

pub counted_next : (name : List ℕ) (form : Form) (more : Layout) (whole : List ℕ) (base : ℕ) (done : List Value) (at : ℕ) (value : Value) → at + room form done ≤ length whole → read_form form whole base at done ≡ Ok value
    → fields_footprint (field name form more) whole base at done ≡ form_footprint form whole base at done + fields_footprint more whole base (at + room form done) (done ++ value ∷ [])
counted_next name form more whole base done at value fits is = search rules

counted_fault : (name : List ℕ) (form : Form) (more : Layout) (whole : List ℕ) (base : ℕ) (done : List Value) (at : ℕ) (fault : FieldFault) → at + room form done ≤ length whole → read_form form whole base at done ≡ Err fault
    → fields_footprint (field name form more) whole base at done ≡ form_footprint form whole base at done
counted_fault name form more whole base done at fault fits is = search rules

counted_least : (name : List ℕ) (form : Form) (more : Layout) (whole : List ℕ) (base : ℕ) (done : List Value) (at : ℕ) → at + room form done ≤ length whole
    → form_footprint form whole base at done ≤ fields_footprint (field name form more) whole base at done
counted_least name form more whole base done at fits =
    let is : fields_footprint (field name form more) whole base at done
    ≡ form_footprint form whole base at done + behind (read_form form whole base at done) (λ value. fields_footprint more whole base (at + room form done) (done ++ value ∷ [])) =
    search rules in
    omega (arith, is)

-- ---- fields: some are read, and the rest is read from a place on; and what those that were read count as was taken from what was left at first ----

pub record FieldsSoFar (all rest : Layout) (whole : List ℕ) (base : ℕ) (done : List Value) (at before now : ℕ) : Type 0 where
  pub fits : at ≤ length whole
  pub same : read_fields rest whole base at done ≡ read_fields all whole base 0 []
  pub taken : now + fields_footprint all whole base 0 [] ≡ before + fields_footprint rest whole base at done

pub FieldsSoFar-next : (all : Layout) (name : List ℕ) (form : Form) (more : Layout) (whole : List ℕ) (base : ℕ) (done : List Value) (at before now later : ℕ) (value : Value) → FieldsSoFar all (field name form more) whole base done at before now
    → at + room form done ≤ length whole → read_form form whole base at done ≡ Ok value → later + form_footprint form whole base at done ≡ now
    → FieldsSoFar all more whole base (done ++ value ∷ []) (at + room form done) before later
FieldsSoFar-next all name form more whole base done at before now later value so fits is takes =
    let same = read_next name form more whole base done at value fits is ∙ so.same in
    let taken : now + fields_footprint all whole base 0 [] ≡ before + (form_footprint form whole base at done + fields_footprint more whole base (at + room form done) (done ++ value ∷ [])) =
    so.taken ∙ ap (λ (n : ℕ). before + n) (counted_next name form more whole base done at value fits is) in
    record { fits = fits; same = same; taken = omega (arith, takes, taken) }

-- the next one has a fault, or counts as more than is left
pub FieldsSoFar-ends : (all : Layout) (name : List ℕ) (form : Form) (more : Layout) (whole : List ℕ) (base : ℕ) (done : List Value) (at before now : ℕ) (fault : FieldFault) → FieldsSoFar all (field name form more) whole base done at before now
    → at + room form done ≤ length whole → Ends (read_form form whole base at done) (form_footprint form whole base at done) now fault
    → Ends (read_fields all whole base 0 []) (fields_footprint all whole base 0 []) before fault
FieldsSoFar-ends all name form more whole base done at before now fault so fits =
    let more_is = λ (f : FieldFault) (is : read_form form whole base at done ≡ Err f). counted_fault name form more whole base done at f fits is in
    let least = counted_least name form more whole base done at fits in
    elim fault as (λ fault. Ends (read_form form whole base at done) (form_footprint form whole base at done) now fault → Ends (read_fields all whole base 0 []) (fields_footprint all whole base 0 []) before fault) [
      | OutOfRange lost ↦ λ is. (sym so.same ∙ read_fault name form more whole base done at (OutOfRange lost) fits is.0, omega (arith, so.taken, more_is (OutOfRange lost) is.0, is.1))
      | Lone lost ↦ λ is. (sym so.same ∙ read_fault name form more whole base done at (Lone lost) fits is.0, omega (arith, so.taken, more_is (Lone lost) is.0, is.1))
      | TooLarge ↦ λ is. omega (arith, so.taken, least, is)
      | OutOfMemory ↦ λ is. tt
    ]

pub FieldsSoFar-all : (all : Layout) (whole : List ℕ) (base : ℕ) (done : List Value) (at before now : ℕ) → FieldsSoFar all no_fields whole base done at before now
    → (read_fields all whole base 0 [] ≡ Ok done) × (now + fields_footprint all whole base 0 [] ≡ before)
FieldsSoFar-all all whole base done at before now so =
    let taken : now + fields_footprint all whole base 0 [] ≡ before + 0 = so.taken in
    (sym so.same, omega (arith, taken))
