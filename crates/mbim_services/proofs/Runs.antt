-- Parts put one after another, and the runs of a list.
use Rattle.std.proofs.Common.{◌≡◌, ◌≢◌, ℕ, suc, ◌+◌, ◌*◌, ◌<◌, ◌≤◌, inl, inr, Bool, true, false, not, List, [], ◌∷◌, ◌++◌, length, take, drop, get_or, flat_map, bytes_eq, Option, Some, None, refl, sym, ◌∙◌, ap, ap₂, subst, arith, append_assoc, length-append}
use Rattle.std.specs.List.{prefix_len}
use Rattle.std.proofs.lemmas.List.{append-nil, take-append-drop, length-take-le, length-drop, drop-drop, drop_more, drop_all}
use Rattle.std.proofs.Math.Seq.{take-append_seam, drop-append_seam}
use Rattle.std.proofs.lemmas.Slice.Eq.{bytes_eq-Decides}
use Rattle.std.proofs.lemmas.Grind.{flat_map-append}
use Rattle.kit_bytes.specs.Subscriptions.{Pair, Subscription, cids_of, subscription_of, in_front, by_service}
use Rattle.kit_bytes.specs.Numbers.{number_bytes}
use Rattle.mbim_fields.proofs.RoundTrip.{number_bytes-length}
use Rattle.mbim_fields.proofs.Agreement.{true_or}
use Rattle.mbim_services.specs.SubscribeLists.{structure, references}
use Rattle.mbim_services.specs.Writing.{Puts, cids_in, first_uuid, is_of, run_length, subscription_in}

-- ---- parts ----

-- a place behind what is put, as that of the rest
take-seam : (xs ys : List ℕ) (n : ℕ) → n ≡ length xs → take n (xs ++ ys) ≡ xs
take-seam xs ys n is = rw is (take-append_seam xs ys)

drop-seam : (xs ys : List ℕ) (n : ℕ) → n ≡ length xs → drop n (xs ++ ys) ≡ ys
drop-seam xs ys n is = rw is (drop-append_seam xs ys)

pub Puts-nothing : (at : ℕ) (old : List ℕ) → at ≤ length old → Puts at [] old old
Puts-nothing at old fits =
    let place : at + 0 ≡ at = omega arith in
    record { fits = omega (arith, fits); is = sym (ap (λ (n : ℕ). take at old ++ drop n old) place ∙ take-append-drop at old) }

pub Puts-length : (at : ℕ) (bytes old new : List ℕ) → Puts at bytes old new → length new ≡ length old
Puts-length at bytes old new puts =
    omega (
      arith,
      ap length puts.is,
      length-append (take at old) (bytes ++ drop (at + length bytes) old),
      length-append bytes (drop (at + length bytes) old),
      length-take-le at old (omega (arith, puts.fits)),
      length-drop (at + length bytes) old,
      puts.fits,
    )

pub Puts-then : (at place : ℕ) (a b old mid new : List ℕ) → Puts at a old mid → Puts place b mid new → place ≡ at + length a → Puts at (a ++ b) old new
Puts-then at place a b old mid new first second there =
    let behind : List ℕ = drop (at + length a) old in
    let mid_is : mid ≡ (take at old ++ a) ++ behind = first.is ∙ sym (append_assoc (take at old) a behind) in
    let front_long : place ≡ length (take at old ++ a) = omega (arith, there, length-append (take at old) a, length-take-le at old (omega (arith, first.fits))) in
    let taken : take place mid ≡ take at old ++ a = ap (take place) mid_is ∙ take-seam (take at old ++ a) behind place front_long in
    let rest : drop place mid ≡ behind = ap (drop place) mid_is ∙ drop-seam (take at old ++ a) behind place front_long in
    let end : at + length a + length b ≡ at + length (a ++ b) = omega (arith, length-append a b) in
    let dropped : drop (place + length b) mid ≡ drop (at + length (a ++ b)) old =
    sym (drop-drop (length b) place mid) ∙ ap (drop (length b)) rest ∙ drop-drop (length b) (at + length a) old ∙ ap (λ (n : ℕ). drop n old) end in
    record {
      fits = omega (arith, second.fits, Puts-length at a old mid first, there, length-append a b);
      is =
          second.is ∙ ap₂ (λ (x y : List ℕ). x ++ (b ++ y)) taken dropped ∙ append_assoc (take at old) a (b ++ drop (at + length (a ++ b)) old)
          ∙ ap (λ (l : List ℕ). take at old ++ l) (sym (append_assoc a b (drop (at + length (a ++ b)) old)));
    }

-- some of the bytes are put, and the rest is to come
pub record PutsOn (at : ℕ) (all rest : List ℕ) (end : ℕ) (old new : List ℕ) : Type 0 where
  pub done : List ℕ
  pub puts : Puts at done old new
  pub end_is : end ≡ at + length done
  pub all_is : done ++ rest ≡ all

pub PutsOn-none : (at : ℕ) (all old : List ℕ) → at ≤ length old → PutsOn at all all at old old
PutsOn-none at all old fits = record { done = []; puts = Puts-nothing at old fits; end_is = omega arith; all_is = refl }

pub PutsOn-more : (at : ℕ) (all bytes rest : List ℕ) (end next : ℕ) (old mid new : List ℕ) → PutsOn at all (bytes ++ rest) end old mid → Puts end bytes mid new → next ≡ end + length bytes → PutsOn at all rest next old new
PutsOn-more at all bytes rest end next old mid new on puts there =
    record {
      done = on.done ++ bytes;
      puts = Puts-then at end on.done bytes old mid new on.puts puts on.end_is;
      end_is = omega (arith, there, on.end_is, length-append on.done bytes);
      all_is = append_assoc on.done bytes rest ∙ on.all_is;
    }

pub PutsOn-all : (at : ℕ) (all rest : List ℕ) (end : ℕ) (old new : List ℕ) → PutsOn at all rest end old new → rest ≡ [] → Puts at all old new × (end ≡ at + length all)
PutsOn-all at all rest end old new on none =
    let same : on.done ≡ all = sym (append-nil on.done) ∙ ap (λ (l : List ℕ). on.done ++ l) (sym none) ∙ on.all_is in
    (subst (λ (l : List ℕ). Puts at l old new) same on.puts, on.end_is ∙ ap (λ (l : List ℕ). at + length l) same)

pub PutsOn-length : (at : ℕ) (all rest : List ℕ) (end : ℕ) (old new : List ℕ) → PutsOn at all rest end old new → length new ≡ length old
PutsOn-length at all rest end old new on = Puts-length at on.done old new on.puts

-- ---- numbers ----

pub numbers-length : (numbers : List ℕ) → length (flat_map (number_bytes 4) numbers) ≡ 4 * length numbers
numbers-length [] = omega arith
numbers-length (n ∷ numbers) = omega (arith, length-append (number_bytes 4 n) (flat_map (number_bytes 4) numbers), number_bytes-length 4 n, numbers-length numbers)

-- ---- runs ----

-- the first so many pairs are one subscription of the list, and it goes on with the others
pub record IsRun (pairs : List Pair) (count : ℕ) : Type 0 where
  pub is : by_service pairs ≡ subscription_in (take count pairs) ∷ by_service (drop count pairs)

pub joined : (s first : Subscription) (others : List Subscription) → first.uuid ≡ s.uuid → in_front s (first ∷ others) ≡ record { uuid = first.uuid; cids = s.cids ++ first.cids } ∷ others
joined s first others is = let eq : bytes_eq first.uuid s.uuid ≡ true = (bytes_eq-Decides first.uuid s.uuid).1 is in rw eq refl

pub apart : (s first : Subscription) (others : List Subscription) → first.uuid ≢ s.uuid → in_front s (first ∷ others) ≡ s ∷ first ∷ others
apart s first others isnt = elim (true_or (bytes_eq first.uuid s.uuid)) [
  | inl eq ↦ absurd (isnt ((bytes_eq-Decides first.uuid s.uuid).0 eq))
  | inr not ↦ rw not refl
]

-- the first subscription of a list is of its first service
record Leads (pairs : List Pair) (uuid : List ℕ) : Type 0 where
  pub cids : List ℕ
  pub others : List Subscription
  pub is : by_service pairs ≡ record { uuid = uuid; cids = cids } ∷ others

leads-in : (pair : Pair) (pairs : List Pair) (subscriptions : List Subscription) → by_service pairs ≡ subscriptions → Leads (pair ∷ pairs) pair.0
leads-in pair pairs [] is = record { cids = cids_of pair.1; others = []; is = ap (in_front (subscription_of pair)) is }
leads-in pair pairs (first ∷ others) is = elim (true_or (bytes_eq first.uuid pair.0)) [
  | inl eq ↦
      let same = (bytes_eq-Decides first.uuid pair.0).0 eq in
      record {
        cids = cids_of pair.1 ++ first.cids;
        others = others;
        is = ap (in_front (subscription_of pair)) is ∙ joined (subscription_of pair) first others same ∙ ap (λ (u : List ℕ). record { uuid = u; cids = cids_of pair.1 ++ first.cids } ∷ others) same;
      }
  | inr not ↦
      let differs : first.uuid ≢ pair.0 = λ same. (let h = sym not ∙ (bytes_eq-Decides first.uuid pair.0).1 same in absurd cc) in
      record { cids = cids_of pair.1; others = first ∷ others; is = ap (in_front (subscription_of pair)) is ∙ apart (subscription_of pair) first others differs }
]

leads : (pair : Pair) (pairs : List Pair) → Leads (pair ∷ pairs) pair.0
leads pair pairs = leads-in pair pairs (by_service pairs) refl

-- a pair before one of another service
alone : (pair next : Pair) (rest : List Pair) → next.0 ≢ pair.0 → by_service (pair ∷ next ∷ rest) ≡ subscription_of pair ∷ by_service (next ∷ rest)
alone pair next rest isnt =
    let l = leads next rest in
    ap (in_front (subscription_of pair)) l.is ∙ apart (subscription_of pair) (record { uuid = next.0; cids = l.cids }) l.others isnt ∙ ap (λ (s : List Subscription). subscription_of pair ∷ s) (sym l.is)

-- how many pairs of a service are in front
abbrev front : List ℕ → List Pair → ℕ
front uuid pairs = prefix_len (is_of uuid) pairs

-- a pair, and so many behind it, are one subscription
record Leads_on (pair : Pair) (rest : List Pair) (count : ℕ) : Type 0 where
  pub is : by_service (pair ∷ rest) ≡ record { uuid = pair.0; cids = cids_in (pair ∷ take count rest) } ∷ by_service (drop count rest)

one-more : (more : ℕ) → 1 + more ≡ suc more
one-more more = omega arith

leads_on : (uuid : List ℕ) (pair : Pair) (rest : List Pair) → pair.0 ≡ uuid → Leads_on pair rest (front uuid rest)
leads_on uuid pair [] same = record { is = ap (λ (l : List ℕ). record { uuid = pair.0; cids = l } ∷ []) (sym (append-nil (cids_of pair.1))) }
leads_on uuid pair (next ∷ rest) same = elim (true_or (bytes_eq next.0 uuid)) [
  | inl eq ↦
      let next_same = (bytes_eq-Decides next.0 uuid).0 eq in
      let cids : List ℕ = cids_in (next ∷ take (front uuid rest) rest) in
      let behind : List Subscription = by_service (drop (front uuid rest) rest) in
      let both : by_service (pair ∷ next ∷ rest) ≡ record { uuid = pair.0; cids = cids_of pair.1 ++ cids } ∷ behind =
      ap (in_front (subscription_of pair)) (leads_on uuid next rest next_same).is ∙ joined (subscription_of pair) (record { uuid = next.0; cids = cids }) behind (next_same ∙ sym same)
      ∙ ap (λ (u : List ℕ). record { uuid = u; cids = cids_of pair.1 ++ cids } ∷ behind) (next_same ∙ sym same) in
      let count : front uuid (next ∷ rest) ≡ suc (front uuid rest) = rw eq (one-more (front uuid rest)) in
      subst (Leads_on pair (next ∷ rest)) (sym count) (record { is = both })
  | inr isnt ↦
      let differs : next.0 ≢ pair.0 = λ alike. (let h = sym isnt ∙ (bytes_eq-Decides next.0 uuid).1 (alike ∙ same) in absurd cc) in
      let count : front uuid (next ∷ rest) ≡ 0 = rw isnt refl in
      subst (Leads_on pair (next ∷ rest)) (sym count)
      (record { is = alone pair next rest differs ∙ ap (λ (l : List ℕ). record { uuid = pair.0; cids = l } ∷ by_service (next ∷ rest)) (sym (append-nil (cids_of pair.1))) })
]

is-run-by : (pair : Pair) (rest : List Pair) (count : ℕ) → Leads_on pair rest count → IsRun (pair ∷ rest) (suc count)
is-run-by pair rest count on = record { is = on.is }

first-counts : {C : Type 0} (pair : List ℕ × C) (rest : List (List ℕ × C)) → run_length (pair ∷ rest) ≡ suc (prefix_len (is_of pair.0) rest)
first-counts pair rest =
    let own : bytes_eq pair.0 pair.0 ≡ true = (bytes_eq-Decides pair.0 pair.0).1 refl in
    rw own (one-more (prefix_len (is_of pair.0) rest))

pub some-run : {C : Type 0} (pairs : List (List ℕ × C)) → 1 ≤ length pairs → 1 ≤ run_length pairs
some-run [] some = absurd (omega (arith, some))
some-run (pair ∷ rest) some = omega (arith, first-counts pair rest)

pub is-run : (pairs : List Pair) (count : ℕ) → 1 ≤ count → count ≡ run_length pairs → IsRun pairs count
is-run [] count some is = absurd (omega (arith, some, is))
is-run (pair ∷ rest) count some is = subst (IsRun (pair ∷ rest)) (sym (is ∙ first-counts pair rest)) (is-run-by pair rest (front pair.0 rest) (leads_on pair.0 pair rest refl))

-- a run is counted
pub counted-on : (left behind : List Pair) (count n services most : ℕ) → 1 ≤ count → count ≤ length left → count ≡ run_length left → behind ≡ drop count left
    → (n + length (by_service left) ≡ services) × (n + length left ≤ most) → (n + 1 + length (by_service behind) ≡ services) × (n + 1 + length behind ≤ most)
counted-on left behind count n services most some within is behind_is so_far =
    let parts = ap length (is-run left count some is).is in
    let same = ap (λ (l : List Pair). length (by_service l)) behind_is in
    (omega (arith, so_far.0, parts, same), omega (arith, so_far.1, some, within, length-drop count left, ap length behind_is))

-- ---- CIDs ----

pub cids-step : (pairs : List Pair) (i : ℕ) (d : Pair) → i < length pairs
    → flat_map (number_bytes 4) (cids_in (drop i pairs)) ≡ flat_map (number_bytes 4) (cids_of (get_or pairs i d).1) ++ flat_map (number_bytes 4) (cids_in (drop (i + 1) pairs))
cids-step pairs i d within =
    ap (λ (l : List Pair). flat_map (number_bytes 4) (cids_in l)) (drop_more pairs i d within) ∙ flat_map-append (number_bytes 4) (cids_of (get_or pairs i d).1) (cids_in (drop (i + 1) pairs))

pub cids-none : (pairs : List Pair) (i : ℕ) → length pairs ≤ i → flat_map (number_bytes 4) (cids_in (drop i pairs)) ≡ []
cids-none pairs i past = ap (λ (l : List Pair). flat_map (number_bytes 4) (cids_in l)) (drop_all i pairs past)

pub cids_of-few : (cid : Option ℕ) → length (cids_of cid) ≤ 1
cids_of-few None = omega arith
cids_of-few (Some cid) = omega arith

-- ---- structures ----

pub structure-length : (s : Subscription) → length (structure s) ≡ length s.uuid + 4 + 4 * length s.cids
structure-length s = omega (arith, length-append (s.uuid ++ number_bytes 4 (length s.cids)) (flat_map (number_bytes 4) s.cids), length-append s.uuid (number_bytes 4 (length s.cids)), number_bytes-length 4 (length s.cids), numbers-length s.cids)

pub first-is : {C : Type 0} (pairs : List (List ℕ × C)) (d : List ℕ × C) → 1 ≤ length pairs → first_uuid pairs ≡ (get_or pairs 0 d).0
first-is [] d some = absurd (omega (arith, some))
first-is (pair ∷ pairs) d some = refl

pub references-length : (place : ℕ) (subscriptions : List Subscription) → length (references place subscriptions) ≡ 8 * length subscriptions
references-length place [] = omega arith
references-length place (s ∷ others) =
    omega (
      arith,
      length-append (number_bytes 4 place ++ number_bytes 4 (length (structure s))) (references (place + length (structure s)) others),
      length-append (number_bytes 4 place) (number_bytes 4 (length (structure s))),
      number_bytes-length 4 place,
      number_bytes-length 4 (length (structure s)),
      references-length (place + length (structure s)) others,
    )

-- a reference is put
pub references-put : (at place end next last count size : ℕ) (left run behind : List Pair) (all old now mid new : List ℕ) → IsRun left count → run ≡ take count left → behind ≡ drop count left → size ≡ length (structure (subscription_in run))
    → PutsOn at all (references place (by_service left)) end old now → Puts end (number_bytes 4 place) now mid → next ≡ end + 4 → Puts next (number_bytes 4 size) mid new → last ≡ next + 4
    → PutsOn at all (references (place + size) (by_service behind)) last old new
references-put at place end next last count size left run behind all old now mid new is run_is behind_is size_is on first first_end second second_end =
    let rest : List ℕ = references (place + size) (by_service behind) in
    let step : references place (by_service left) ≡ number_bytes 4 place ++ (number_bytes 4 size ++ rest) =
    ap (references place) is.is ∙ (rw (size_is, run_is, behind_is) (append_assoc (number_bytes 4 place) (number_bytes 4 (length (structure (subscription_in (take count left))))) (references (place + length (structure (subscription_in (take count left)))) (by_service (drop count left))))) in
    let one = PutsOn-more at all (number_bytes 4 place) (number_bytes 4 size ++ rest) end next old now mid (subst (λ (l : List ℕ). PutsOn at all l end old now) step on) first (omega (arith, first_end, number_bytes-length 4 place)) in
    PutsOn-more at all (number_bytes 4 size) rest next last old mid new one second (omega (arith, second_end, number_bytes-length 4 size))

-- a structure is put
pub structures-put : (at end next count : ℕ) (left run behind : List Pair) (all old now new : List ℕ) → IsRun left count → run ≡ take count left → behind ≡ drop count left → PutsOn at all (flat_map structure (by_service left)) end old now
    → Puts end (structure (subscription_in run)) now new → next ≡ end + length (structure (subscription_in run)) → PutsOn at all (flat_map structure (by_service behind)) next old new
structures-put at end next count left run behind all old now new is run_is behind_is on puts there =
    let step : flat_map structure (by_service left) ≡ structure (subscription_in run) ++ flat_map structure (by_service behind) = ap (flat_map structure) is.is ∙ (rw (run_is, behind_is) refl) in
    PutsOn-more at all (structure (subscription_in run)) (flat_map structure (by_service behind)) end next old now new (subst (λ (l : List ℕ). PutsOn at all l end old now) step on) puts there

-- ---- tests ----

pub agree : (a b : List ℕ) (test : Bool) → test ≡ not (bytes_eq a b) → test ≡ false → a ≡ b
agree a b test is fails = elim (true_or (bytes_eq a b)) [
  | inl eq ↦ (bytes_eq-Decides a b).0 eq
  | inr isnt ↦ absurd (let h = sym fails ∙ is ∙ ap not isnt in cc)
]
