-- How what is told grows from call to call.
use Rattle.std.proofs.Common.{◌≡◌, ℕ, List, [], ◌++◌, length, take, slice_range, map, Option, Some, None, refl, sym, ◌∙◌, ap, append_assoc, arith, take-append-drop}
use Rattle.std.proofs.lemmas.List.{append-nil, map-append}
use Rattle.std.specs.Option.{option_map}
use Rattle.std.proofs.lemmas.Slice.{between_to_end}
use Rattle.kit_io.specs.Growth.{Grows, GrowsUpTo}

-- nothing was added
pub Grows-none : {A : Type 0} (old : Option (List A)) → Grows old [] old
Grows-none old = record { recorded = λ all is. (all, is, sym (append-nil all)) }

-- one call after another
pub Grows-append : {A : Type 0} {old mid new : Option (List A)} {xs ys : List A} → Grows old xs mid → Grows mid ys new → Grows old (xs ++ ys) new
Grows-append {xs = xs} {ys = ys} first second = record {
  recorded = λ all is.
      let late = second.recorded all is in
      let early = first.recorded late.0 late.1 in
      (early.0, early.1, late.2 ∙ ap (λ l. l ++ ys) early.2 ∙ append_assoc early.0 xs ys);
}

-- nothing of these is sent
pub GrowsUpTo-none : {A : Type 0} (old : Option (List A)) (most : List A) → GrowsUpTo old most most old
GrowsUpTo-none old most = record { front = []; whole = refl; grows = Grows-none old }

-- one call more takes the front of the rest
pub GrowsUpTo-more : {A : Type 0} {old mid new : Option (List A)} {most rest : List A} (n : ℕ) → GrowsUpTo old most rest mid → Grows mid (take n rest) new → GrowsUpTo old most (slice_range rest n (length rest)) new
GrowsUpTo-more {rest = rest} n so_far more = record {
  front = so_far.front ++ take n rest;
  whole =
      so_far.whole
      ∙ ap (λ l. so_far.front ++ l) (sym (take-append-drop n rest) ∙ ap (λ l. take n rest ++ l) (sym (between_to_end rest n (length rest) (omega arith))))
      ∙ sym (append_assoc so_far.front (take n rest) (slice_range rest n (length rest)));
  grows = Grows-append so_far.grows more;
}

-- nothing is told any more
pub Grows-unrecorded : {A : Type 0} (old : Option (List A)) (added : List A) → Grows old added None
Grows-unrecorded old added = record { recorded = λ all is. cc }

-- what is told of each entry grows with the entries
pub Grows-map : {A B : Type 0} (f : A → B) {old new : Option (List A)} {added : List A} → Grows old added new → Grows (option_map (map f) old) (map f added) (option_map (map f) new)
Grows-map f {old = old} {new = Some all} {added = added} grows =
    let was = grows.recorded all refl in
    record {
      recorded = λ mapped is.
          let same : map f all ≡ mapped = cc in (map f was.0, ap (option_map (map f)) was.1, sym same ∙ ap (map f) was.2 ∙ map-append f was.0 added);
    }
Grows-map f {new = None} grows = record { recorded = λ mapped is. cc }

-- how what is told grows
pub ruleset growing = (Grows-none, Grows-append, Grows-unrecorded, Grows-map, GrowsUpTo-none, GrowsUpTo-more)
