-- What is kept of any fragments is a front of one message.
use Rattle.std.proofs.Common.{◌≡◌, ℕ, ◌<◌, ◌==◌, Bool, true, false, List, [], ◌∷◌, ◌++◌, length, refl, sym, ◌∙◌, ap, subst, inl, inr, arith, append_assoc}
use Rattle.std.specs.Prelude.{◌&&◌, nat_lt, if◌then◌else◌}
use Rattle.std.proofs.lemmas.List.{append-nil, length_push, get_or_push, get_or_append_left}
use Rattle.std.proofs.lemmas.List.Elements.{All-nil, All-push, All-head}
use Rattle.std.proofs.lemmas.Bool.{and_parts, eqb-true, eqb-false, ltb-true, ltb-false, cases_lt}
use Rattle.mbim_frame.specs.Head.{number_of}
use Rattle.mbim_frame.specs.Fragment.{total_of, current_of}
use Rattle.mbim_fragments.specs.Runs.{More, Whole, OutOfSequence, TooLong, joined, is_due, run_with, run_after, run_from}
use Rattle.mbim_fragments.specs.Laws.{AreInOrder, EndsWithRun, RunIsAFront, RunGoesOn}

-- ---- one fragment more ----

-- the fragment that is due has the number, the total and the place that the run asks for
record IsNext (number total : ℕ) (run : List (List ℕ)) (fragment : List ℕ) : Type 0 where
  number_is : number_of fragment ≡ number
  total_is : total_of fragment ≡ total
  place : current_of fragment ≡ length run

AreInOrder-push : (number total : ℕ) (run : List (List ℕ)) (fragment : List ℕ) → AreInOrder number total run → IsNext number total run fragment → AreInOrder number total (run ++ fragment ∷ [])
AreInOrder-push number total run fragment are is = record {
  number_is = All-push (λ fragment. number_of fragment ≡ number) run fragment are.number_is is.number_is;
  total_is = All-push (λ fragment. total_of fragment ≡ total) run fragment are.total_is is.total_is;
  places = λ place within. elim (cases_lt place (length run)) [
    | inl before ↦ ap current_of (get_or_append_left run (fragment ∷ []) [] place before) ∙ are.places place before
    | inr last ↦
        let at : length run ≡ place = omega (arith, last, within, length_push run fragment) in
        ap current_of (get_or_push run fragment [] place at) ∙ is.place ∙ at
  ];
}

-- no run ends any fragments
ends_with_none : (longest : ℕ) (fragments : List (List ℕ)) → EndsWithRun longest fragments []
ends_with_none longest fragments = record {
  before = fragments;
  number = 0;
  total = 1;
  whole = sym (append-nil fragments);
  in_order = record {
    number_is = All-nil (λ fragment. number_of fragment ≡ 0);
    total_is = All-nil (λ fragment. total_of fragment ≡ 1);
    places = λ place within. absurd (omega (arith, within));
  };
  more_due = omega arith;
  short = omega arith;
}

-- a run and the fragment that is due, with the number and the total of their message
record GoesOn (run : List (List ℕ)) (fragment : List ℕ) : Type 0 where
  number : ℕ
  total : ℕ
  in_order : AreInOrder number total run
  next : IsNext number total run fragment
  more_due : length run < total

module _ (longest : ℕ) (fragments : List (List ℕ)) (fragment : List ℕ) where
  goes_on : (run : List (List ℕ)) → EndsWithRun longest fragments run → is_due run fragment ≡ true → GoesOn run fragment
  goes_on [] ends due =
      let parts = and_parts (current_of fragment == 0) (nat_lt 0 (total_of fragment)) due in
      record {
        number = number_of fragment;
        total = total_of fragment;
        in_order = record {
          number_is = All-nil (λ f. number_of f ≡ number_of fragment);
          total_is = All-nil (λ f. total_of f ≡ total_of fragment);
          places = λ place within. absurd (omega (arith, within));
        };
        next = record { number_is = refl; total_is = refl; place = eqb-true (current_of fragment) 0 parts.0 };
        more_due = ltb-true 0 (total_of fragment) parts.1;
      }
  goes_on (first ∷ run) ends due =
      let parts = and_parts (number_of fragment == number_of first && (total_of fragment == total_of first)) (current_of fragment == length (first ∷ run)) due in
      let same = and_parts (number_of fragment == number_of first) (total_of fragment == total_of first) parts.0 in
      record {
        number = ends.number;
        total = ends.total;
        in_order = ends.in_order;
        next = record {
          number_is = eqb-true (number_of fragment) (number_of first) same.0 ∙ All-head (λ f. number_of f ≡ ends.number) first run ends.in_order.number_is;
          total_is = eqb-true (total_of fragment) (total_of first) same.1 ∙ All-head (λ f. total_of f ≡ ends.total) first run ends.in_order.total_is;
          place = eqb-true (current_of fragment) (length (first ∷ run)) parts.1;
        };
        more_due = ends.more_due;
      }

  ends_with_more : (run : List (List ℕ)) → EndsWithRun longest fragments run → is_due run fragment ≡ true
      → nat_lt longest (length (joined (run ++ fragment ∷ []))) ≡ false → (length (run ++ fragment ∷ []) == total_of fragment) ≡ false
      → EndsWithRun longest (fragments ++ fragment ∷ []) (run ++ fragment ∷ [])
  ends_with_more run ends due short open_still =
      let goes = goes_on run ends due in
      record {
        before = ends.before;
        number = goes.number;
        total = goes.total;
        whole = ap (λ (l : List (List ℕ)). l ++ fragment ∷ []) ends.whole ∙ append_assoc ends.before run (fragment ∷ []);
        in_order = AreInOrder-push goes.number goes.total run fragment goes.in_order goes.next;
        more_due =
            let not_last : length (run ++ fragment ∷ []) ≡ goes.total → ⊥ = λ is. eqb-false _ _ open_still (is ∙ sym goes.next.total_is) in
            omega (arith, not_last, length_push run fragment, goes.more_due);
        short = ltb-false longest _ short;
      }

  ends_after : (run : List (List ℕ)) → EndsWithRun longest fragments run → EndsWithRun longest (fragments ++ fragment ∷ []) (run_after longest run fragment)
  ends_after run ends = by (is_due run fragment) (nat_lt longest (length (joined (run ++ fragment ∷ [])))) (length (run ++ fragment ∷ []) == total_of fragment) refl refl refl
    where
      by : (due long last : Bool) → is_due run fragment ≡ due → nat_lt longest (length (joined (run ++ fragment ∷ []))) ≡ long → (length (run ++ fragment ∷ []) == total_of fragment) ≡ last
          → EndsWithRun longest (fragments ++ fragment ∷ []) (run_with run fragment (if due then (if long then TooLong else if last then Whole (joined (run ++ fragment ∷ [])) else More) else OutOfSequence))
      by false long last is_out is_long is_last = ends_with_none longest (fragments ++ fragment ∷ [])
      by true true last is_due is_long is_last = ends_with_none longest (fragments ++ fragment ∷ [])
      by true false true is_due is_short is_last = ends_with_none longest (fragments ++ fragment ∷ [])
      by true false false is_due is_short open_still = ends_with_more run ends is_due is_short open_still

-- ---- any fragments ----

ends_from : (longest : ℕ) (before run fragments : List (List ℕ)) → EndsWithRun longest before run → EndsWithRun longest (before ++ fragments) (run_from longest run fragments)
unfolding run_from
ends_from longest before run [] ends = rw (append-nil before) ends
ends_from longest before run (fragment ∷ fragments) ends =
    let Ends : List (List ℕ) → Type 0 = λ (l : List (List ℕ)). EndsWithRun longest l (run_from longest (run_after longest run fragment) fragments) in
    subst Ends (append_assoc before (fragment ∷ []) fragments)
    (ends_from longest (before ++ fragment ∷ []) (run_after longest run fragment) fragments (ends_after longest before fragment run ends))

pub run_is_a_front : RunIsAFront
run_is_a_front longest fragments = ends_from longest [] [] fragments (ends_with_none longest [])

run_from-push : (longest : ℕ) (run fragments : List (List ℕ)) (fragment : List ℕ) → run_from longest run (fragments ++ fragment ∷ []) ≡ run_after longest (run_from longest run fragments) fragment
unfolding run_from
run_from-push longest run [] fragment = refl
run_from-push longest run (next ∷ fragments) fragment = run_from-push longest (run_after longest run next) fragments fragment

pub run_goes_on : RunGoesOn
run_goes_on longest fragments fragment = run_from-push longest [] fragments fragment
