-- Parts of a list that are read one after another.
use Rattle.std.proofs.Common.{◌≡◌, ℕ, ◌+◌, ◌<◌, ◌≤◌, List, [], ◌∷◌, ◌++◌, length, drop, get_or, Option, Some, None, refl, sym, ap, ◌∙◌, append_assoc, append-nil}
use Rattle.std.proofs.lemmas.List.{drop_all}
use Rattle.serde_json.specs.Data.{Data}
use Rattle.serde_json.specs.View.{view, items_view}
use Rattle.serde_json.specs.declared.value.Value.{Value}
use Rattle.message_tables.specs.declared.fault.MemberName.{MemberName}
use Rattle.message_tables.specs.Reading.{Reading, faulty, unknown, known, reading_map, and_then, listed}
use Rattle.message_tables.specs.Reads.{pushed}
use Rattle.message_tables.proofs.Lists.{drop_item}

-- what is read where these parts come first
abbrev pub continued : {A : Type 0} → Option (List A) → Reading (List A) → Reading (List A)
continued None (faulty which) = faulty which
continued None unknown = unknown
continued None (known more) = unknown
continued (Some front) rest = reading_map (λ more. front ++ more) rest

abbrev pub part_of : {A : Type 0} → Option A → Reading A
part_of None = unknown
part_of (Some part) = known part

behind : {A : Type 0} (front : List A) (part : A) (rest : Reading (List A))
    → reading_map (λ more. front ++ more) (reading_map (λ more. part ∷ more) rest) ≡ reading_map (λ more. (front ++ part ∷ []) ++ more) rest
behind front part (faulty which) = refl
behind front part unknown = refl
behind front part (known more) = ap known (sym (append_assoc front (part ∷ []) more))

-- one part more
continued-pushed : {A : Type 0} (so_far : Option (List A)) (part : Option A) (rest : Reading (List A))
    → continued so_far (and_then (λ first more. first ∷ more) (part_of part) rest) ≡ continued (pushed so_far part) rest
continued-pushed None None (faulty which) = refl
continued-pushed None None unknown = refl
continued-pushed None None (known more) = refl
continued-pushed None (Some part) (faulty which) = refl
continued-pushed None (Some part) unknown = refl
continued-pushed None (Some part) (known more) = refl
continued-pushed (Some front) None (faulty which) = refl
continued-pushed (Some front) None unknown = refl
continued-pushed (Some front) None (known more) = refl
continued-pushed (Some front) (Some part) rest = behind front part rest

continued-faulty : {A : Type 0} (so_far : Option (List A)) (which : MemberName) → continued so_far (faulty which) ≡ faulty which
continued-faulty None which = refl
continued-faulty (Some front) which = refl

continued-end : {A : Type 0} (so_far : Option (List A)) → continued so_far (known []) ≡ part_of so_far
continued-end None = refl
continued-end (Some front) = ap known (append-nil front)

-- what is read of the values of a list, of which those up to a place gave these parts
abbrev pub HasRead : {A : Type 0} → (Data → Reading A) → List Value → ℕ → Option (List A) → Type 0
HasRead read values i so_far = listed read (items_view values) ≡ continued so_far (listed read (items_view (drop i values)))

module _ {A : Type 0} (read : Data → Reading A) (values : List Value) (i : ℕ) (so_far : Option (List A)) (value : Value)
    (within : i < length values) (is : value ≡ get_or values i value) (has : HasRead read values i so_far) where
  next : listed read (items_view values) ≡ continued so_far (and_then (λ first more. first ∷ more) (read (view value)) (listed read (items_view (drop (i + 1) values))))
  next = has ∙ ap (λ vs. continued so_far (listed read (items_view vs))) (drop_item values i value within is)

  -- the value at the place gives one part more
  pub HasRead-part : (part : Option A) → read (view value) ≡ part_of part → HasRead read values (i + 1) (pushed so_far part)
  HasRead-part part gives =
      next ∙ ap (λ first. continued so_far (and_then (λ first more. first ∷ more) first (listed read (items_view (drop (i + 1) values))))) gives
      ∙ continued-pushed so_far part (listed read (items_view (drop (i + 1) values)))

  -- or is faulty, and so is the list
  pub HasRead-faulty : (which : MemberName) → read (view value) ≡ faulty which → listed read (items_view values) ≡ faulty which
  HasRead-faulty which gives =
      next ∙ ap (λ first. continued so_far (and_then (λ first more. first ∷ more) first (listed read (items_view (drop (i + 1) values))))) gives
      ∙ continued-faulty so_far which

-- all values have been read
pub HasRead-all : {A : Type 0} (read : Data → Reading A) (values : List Value) (i : ℕ) (so_far : Option (List A)) → length values ≤ i → HasRead read values i so_far
    → listed read (items_view values) ≡ part_of so_far
HasRead-all read values i so_far all has = has ∙ ap (λ vs. continued so_far (listed read (items_view vs))) (drop_all i values all) ∙ continued-end so_far
