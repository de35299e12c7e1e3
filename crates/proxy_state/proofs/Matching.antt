-- The request that an answer is for is the one of its number in its space.
use Rattle.std.proofs.Common.{◌≡◌, ℕ, zero, Bool, true, false, cond, ◌==◌, List, [], ◌∷◌, map, filter, refl, ap, sym, ◌∙◌, arith, Contains, Option, Some, None, if◌then◌else◌}
use Rattle.std.specs.List.{AllByRecursion}
use Rattle.std.proofs.lemmas.Bool.{eqb-true, eq-eqb, false_from_ne_true}
use Rattle.proxy_history.specs.Facts.{Request}
use Rattle.proxy_history.specs.Requests.{first_where}
use Rattle.proxy_history.specs.Sound.{Differ}
use Rattle.proxy_history.proofs.Lists.{Contains-cons}
use Rattle.number_space.specs.Table as numbers
use Rattle.number_space.specs.declared.space.Row as space_rows
use Rattle.proxy_state.specs.Requests.{RequestInUse}
use Rattle.proxy_state.specs.Requests as requests
use Rattle.proxy_state.proofs.InUse.{request_in, AreDifferent}

-- `is_answered` is the protocol's test
module _ {N : Type 0} (note : List ℕ → N) (space number : ℕ) (is_answered : Request → Bool) where
  abbrev Row : Type 0
  Row = space_rows.Row N

  abbrev row_of : RequestInUse → Row
  row_of a = requests.row_of note a

  abbrev rows_of : List RequestInUse → List Row
  rows_of list = requests.rows_of note space list

  abbrev row_in : List Row → Option Row
  row_in rows = numbers.row_of number rows

  abbrev first_in : List RequestInUse → Option Request
  first_in list = first_where is_answered (map request_in list)

  -- what is answered has the number, in the space
  abbrev pub IsMatched : Request → Type 0
  IsMatched r = is_answered r ≡ true → (r.space ≡ space) × (r.number ≡ number)

  pub record Found (list : List RequestInUse) (a : RequestInUse) : Type 0 where
    pub at : Contains list a
    pub row : row_in (rows_of list) ≡ Some (row_of a)
    pub answered : first_in list ≡ (if is_answered a.request then Some a.request else None)
    pub space_is : a.request.space ≡ space
    pub number_is : a.request.number ≡ number

  pub record NotFound (list : List RequestInUse) : Type 0 where
    pub row : row_in (rows_of list) ≡ None
    pub answered : first_in list ≡ None

  pub data Search (list : List RequestInUse) : Type 0 where
    IsFound : (a : RequestInUse) → Found list a → Search list
    IsNone : NotFound list → Search list

  none_answered : (r : Request) (list : List RequestInUse) → r.space ≡ space → r.number ≡ number → AllByRecursion (λ (b : RequestInUse). Differ r b.request) list → AllByRecursion (λ (b : RequestInUse). IsMatched b.request) list → first_in list ≡ None
  none_answered r [] in_it same differ matched = refl
  none_answered r (b ∷ list) in_it same differ matched =
      let isnt : is_answered b.request ≡ false = false_from_ne_true (is_answered b.request) (λ e. let at = matched.0 e in differ.0.1 (in_it ∙ sym at.0) (same ∙ sym at.1)) in
      ap (λ (t : Bool). if t then Some b.request else first_in list) isnt ∙ none_answered r list in_it same differ.1 matched.1

  -- whether the first of them is in the space
  first_row : (b : RequestInUse) (list : List RequestInUse) (in_it : Bool) → (b.request.space == space) ≡ in_it → row_in (rows_of (b ∷ list)) ≡ (if in_it then cond (number == b.request.number) (Some (row_of b)) (row_in (rows_of list)) else row_in (rows_of list))
  first_row b list true is = ap (λ (t : Bool). row_in (map row_of (cond t (b ∷ filter (λ (a : RequestInUse). a.request.space == space) list) (filter (λ (a : RequestInUse). a.request.space == space) list)))) is
  first_row b list false is = ap (λ (t : Bool). row_in (map row_of (cond t (b ∷ filter (λ (a : RequestInUse). a.request.space == space) list) (filter (λ (a : RequestInUse). a.request.space == space) list)))) is

  later_found : (b : RequestInUse) (list : List RequestInUse) → row_in (rows_of (b ∷ list)) ≡ row_in (rows_of list) → is_answered b.request ≡ false → Search list → Search (b ∷ list)
  later_found b list skipped isnt (IsFound a found) = IsFound a (record {
    at = Contains-cons a b list found.at;
    row = skipped ∙ found.row;
    answered = ap (λ (t : Bool). if t then Some b.request else first_in list) isnt ∙ found.answered;
    space_is = found.space_is;
    number_is = found.number_is;
  })
  later_found b list skipped isnt (IsNone none) = IsNone (record { row = skipped ∙ none.row; answered = ap (λ (t : Bool). if t then Some b.request else first_in list) isnt ∙ none.answered })

  pub search_for : (list : List RequestInUse) → AreDifferent list → AllByRecursion (λ (b : RequestInUse). IsMatched b.request) list → Search list
  unfolding AreDifferent
  search_for [] different matched = IsNone (record { row = refl; answered = refl })
  search_for (b ∷ list) different matched =
      let rest = search_for list different.1 matched.1 in
      let numbered : (same : Bool) → (b.request.space == space) ≡ true → (number == b.request.number) ≡ same → row_in (rows_of (b ∷ list)) ≡ (if same then Some (row_of b) else row_in (rows_of list)) =
      λ same i e. first_row b list true i ∙ ap (λ (t : Bool). cond t (Some (row_of b)) (row_in (rows_of list))) e ∙ elim same as (λ same. cond same (Some (row_of b)) (row_in (rows_of list)) ≡ (if same then Some (row_of b) else row_in (rows_of list))) [ true ↦ refl | false ↦ refl ]
      in
      let step : (in_it same : Bool) → (b.request.space == space) ≡ in_it → (number == b.request.number) ≡ same → Search (b ∷ list) =
      λ in_it same. elim in_it as (λ in_it. (b.request.space == space) ≡ in_it → (number == b.request.number) ≡ same → Search (b ∷ list)) [
        | true ↦ λ i e. elim same as (λ same. (number == b.request.number) ≡ same → Search (b ∷ list)) [
          | true ↦ λ e.
              let in_space : b.request.space ≡ space = eqb-true b.request.space space i in
              let same_number : b.request.number ≡ number = sym (eqb-true number b.request.number e) in
              IsFound b (record {
                at = (zero, omega arith, refl);
                row = numbered true i e;
                answered = elim (is_answered b.request) as (λ t. (if t then Some b.request else first_in list) ≡ (if t then Some b.request else None)) [
                  | true ↦ refl
                  | false ↦ none_answered b.request list in_space same_number different.0 matched.1
                ];
                space_is = in_space;
                number_is = same_number;
              })
          | false ↦ λ e.
              later_found b list (numbered false i e)
              (false_from_ne_true (is_answered b.request) (λ answered. let at = matched.0 answered in let is : (number == b.request.number) ≡ true = eq-eqb number b.request.number (sym at.1) in absurd (cc))) rest
        ] e
        | false ↦ λ i e.
            later_found b list (first_row b list false i)
            (false_from_ne_true (is_answered b.request) (λ answered. let at = matched.0 answered in let is : (b.request.space == space) ≡ true = eq-eqb b.request.space space at.0 in absurd (cc))) rest
      ]
      in step (b.request.space == space) (number == b.request.number) refl refl
