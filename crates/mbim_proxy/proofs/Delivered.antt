-- What is heard of messages, one after another.
use Rattle.std.proofs.Common.{◌≡◌, ℕ, zero, suc, ◌-◌, ◌^◌, ◌<◌, ◌≤◌, nat_le, ◌==◌, ◌&&◌, Bool, true, false, if◌then◌else◌, List, [], ◌∷◌, ◌++◌, length, replicate, refl, ap, ap₂, sym, ◌∙◌, subst, arith, length-append, append_assoc}
use Rattle.std.specs.List.{AllByRecursion, concat}
use Rattle.std.proofs.lemmas.Bool.{eq-eqb, and_from}
use Rattle.std.proofs.lemmas.Bool.Decides.{nat_tests}
use Rattle.std.proofs.lemmas.List.Elements.{recursion_from_All}
use Rattle.std.proofs.lemmas.List.FromFn.{length-map-range_with_len, get_or-map-range_with_len}
use Rattle.framing.specs.declared.framing.Size.{Size}
use Rattle.framing.specs.declared.framing.Size.TheVariants.{Unknown, Known, Invalid}
use Rattle.framing.specs.Framing.{is_invalid, IsKept}
use Rattle.framing.specs.Cutting.{Cutting, behind}
use Rattle.framing.proofs.Cuts.{cut-append, cut-whole, cut-bad}
use Rattle.mbim_frame.specs.declared.head.MHead.{MHead}
use Rattle.mbim_frame.specs.declared.writing.NewFragment.{NewFragment}
use Rattle.mbim_frame.specs.declared.kind.MessageKind.{MessageKind}
use Rattle.mbim_frame.specs.declared.kind.MessageKind.TheVariants.{CommandDone, IndicateStatus}
use Rattle.mbim_frame.specs.Frame.{size_of, mbim_cut}
use Rattle.mbim_frame.specs.Framing.{size_of-kept}
use Rattle.mbim_frame.specs.Head.{kind_of, number_of}
use Rattle.mbim_frame.specs.Kinds.{kind_number}
use Rattle.mbim_frame.specs.Writing.{fragment_text, unsplit}
use Rattle.mbim_fragments.specs.Runs.{More, Whole, joining, run_after, run_from, joinings_from}
use Rattle.mbim_fragments.specs.Laws.{GivesBody}
use Rattle.mbim_fragments.specs.Splitting.{part_count, part_at, piece_at, pieces, split}
use Rattle.mbim_fragments.proofs.Pieces.{piece_reads, pieces_give_the_body}
use Rattle.mbim_fragments.proofs.Cutting.{pieces_are_cut}
use Rattle.mbim_fragments.specs.Assembling.{Assembled, GoesOnAsRun, fresh, assembled_of, joining_behind, assembled_after}
use Rattle.mbim_fragments.proofs.Standing.{assemblies_stand_for_runs}
use Rattle.mbim_proxy.specs.Delivering.{Begun, none_begun, is_fragment, heard_whole, heard_with, begun_after, heard_from, begun_from, deliver}
use Rattle.mbim_proxy.specs.Delivered.{AreHeardAs, FragmentsAreHeardWhole, AreUnheard, FrontsAreUnheard}

pub heard_goes_on : (longest : ℕ) (begun : Begun) (messages more : List (List ℕ)) → heard_from longest begun (messages ++ more) ≡ heard_from longest begun messages ++ heard_from longest (begun_from longest begun messages) more
unfolding heard_from begun_from
heard_goes_on longest begun [] more = refl
heard_goes_on longest begun (m ∷ messages) more =
    let after : Begun = begun_after longest begun m in
    ap (λ (l : List (List ℕ)). heard_with longest begun m ++ l) (heard_goes_on longest after messages more)
    ∙ sym (append_assoc (heard_with longest begun m) (heard_from longest after messages) (heard_from longest (begun_from longest after messages) more))

-- ---- the fragments of one message ----

-- a fragment of this kind and number
record IsFragment (kind number : ℕ) (m : List ℕ) : Type 0 where
  kind_is : kind_of m ≡ kind
  number_is : number_of m ≡ number
  has_heads : nat_le 20 (length m) ≡ true

first_is : {X : Type 0} (x y : X) (xs ys : List X) → x ∷ xs ≡ y ∷ ys → x ≡ y
first_is x y xs ys same = cc

rest_is : {X : Type 0} (x y : X) (xs ys : List X) → x ∷ xs ≡ y ∷ ys → xs ≡ ys
rest_is x y xs ys same = cc

long_enough : (f : NewFragment) (part : List ℕ) → nat_le 20 (length (fragment_text f part)) ≡ true
long_enough f part = let long : 20 ≤ length (fragment_text f part) = omega arith in grind (arith, nat_tests, long)

-- `begun_with` has the fragments of this kind, and those of the other kind none
module _ (longest kind number : ℕ) (begun_with : List (List ℕ) → Begun)
    (hears : (run : List (List ℕ)) (m : List ℕ) → IsFragment kind number m → heard_with longest (begun_with run) m ≡ heard_whole m (joining longest run m))
    (leaves : (run : List (List ℕ)) (m : List ℕ) → IsFragment kind number m → begun_after longest (begun_with run) m ≡ begun_with (run_after longest run m)) where
  all_heard : (body : List ℕ) (count : ℕ) (run messages : List (List ℕ)) → AllByRecursion (IsFragment kind number) messages
      → joinings_from longest run messages ≡ replicate count More ++ Whole body ∷ [] → heard_from longest (begun_with run) messages ≡ unsplit kind number body ∷ []
  unfolding heard_from joinings_from
  all_heard body zero run [] are joined = absurd (cc)
  all_heard body (suc count) run [] are joined = absurd (cc)
  all_heard body zero run (m ∷ []) are joined =
      let whole : joining longest run m ≡ Whole body = first_is (joining longest run m) (Whole body) [] [] joined in
      ap (λ (heard : List (List ℕ)). heard ++ []) (hears run m are.0 ∙ ap (heard_whole m) whole)
      ∙ ap (λ (k : ℕ). unsplit k (number_of m) body ∷ []) are.0.kind_is
      ∙ ap (λ (n : ℕ). unsplit kind n body ∷ []) are.0.number_is
  all_heard body zero run (m ∷ next ∷ messages) are joined =
      absurd (let clash : joinings_from longest (run_after longest run m) (next ∷ messages) ≡ [] = rest_is (joining longest run m) (Whole body) _ [] joined in cc)
  all_heard body (suc count) run (m ∷ messages) are joined =
      let more : joining longest run m ≡ More = first_is (joining longest run m) More _ _ joined in
      let rest = rest_is (joining longest run m) More _ _ joined in
      ap₂ (λ (heard : List (List ℕ)) (begun : Begun). heard ++ heard_from longest begun messages) (hears run m are.0 ∙ ap (heard_whole m) more) (leaves run m are.0)
      ∙ all_heard body count (run_after longest run m) messages are.1 rest

  all_left : (run messages : List (List ℕ)) → AllByRecursion (IsFragment kind number) messages → begun_from longest (begun_with run) messages ≡ begun_with (run_from longest run messages)
  unfolding begun_from run_from
  all_left run [] are = refl
  all_left run (m ∷ messages) are = ap (λ (begun : Begun). begun_from longest begun messages) (leaves run m are.0) ∙ all_left (run_after longest run m) messages are.1

  -- but for the last, nothing is heard of them
  not_empty : (run messages : List (List ℕ)) (next : List ℕ) (more : List (List ℕ)) → joinings_from longest run (messages ++ next ∷ more) ≡ [] → ⊥
  unfolding joinings_from
  not_empty run [] next more none = cc
  not_empty run (m ∷ messages) next more none = cc

  front_unheard : (body : List ℕ) (count : ℕ) (run messages : List (List ℕ)) (next : List ℕ) (more : List (List ℕ)) → AllByRecursion (IsFragment kind number) (messages ++ next ∷ more)
      → joinings_from longest run (messages ++ next ∷ more) ≡ replicate count More ++ Whole body ∷ [] → heard_from longest (begun_with run) messages ≡ []
  unfolding heard_from joinings_from
  front_unheard body count run [] next more are joined = refl
  front_unheard body zero run (m ∷ messages) next more are joined = absurd (not_empty (run_after longest run m) messages next more (rest_is (joining longest run m) (Whole body) _ [] joined))
  front_unheard body (suc count) run (m ∷ messages) next more are joined =
      let goes_on : joining longest run m ≡ More = first_is (joining longest run m) More _ _ joined in
      let rest = rest_is (joining longest run m) More _ _ joined in
      ap₂ (λ (heard : List (List ℕ)) (begun : Begun). heard ++ heard_from longest begun messages) (hears run m are.0 ∙ ap (heard_whole m) goes_on) (leaves run m are.0)
      ∙ front_unheard body count (run_after longest run m) messages next more are.1 rest

  module _ (max : ℕ) (body : List ℕ) (empty : begun_with [] ≡ none_begun) (kind_fits : kind < 2 ^ 32) (number_fits : number < 2 ^ 32) (least : 64 ≤ max) (most : max ≤ 4096) (fits : length body ≤ longest) (short : length body < 2 ^ 32) where
    abbrev fragments : List (List ℕ)
    fragments = pieces kind number max body

    abbrev given : GivesBody longest fragments body
    given = pieces_give_the_body longest kind number max body kind_fits number_fits least most fits short

    are_cut : mbim_cut (split kind number max body) ≡ record { messages = fragments; rest = [] }
    are_cut = pieces_are_cut kind number max body kind_fits number_fits least most short

    are : AllByRecursion (IsFragment kind number) fragments
    are =
        let size = max - 20 in
        let total = part_count size (length body) in
        let piece = piece_at kind number size body in
        let reads : (place : ℕ) → place < total → IsFragment kind number (piece place) =
        λ place inside.
        let back = piece_reads kind number size body kind_fits number_fits (omega (arith, least)) (omega (arith, most)) short place inside in
        record {
          kind_is = ap (λ (h : MHead). h.kind) back.head;
          number_is = ap (λ (h : MHead). h.number) back.head;
          has_heads = long_enough (record { kind = kind; number = number; total = total; current = place }) (part_at size body place);
        }
        in
        recursion_from_All (IsFragment kind number) fragments
        (λ place other within.
        let inside : place < total = subst (λ (n : ℕ). place < n) (length-map-range_with_len piece 0 total) within in
        subst (IsFragment kind number) (sym (get_or-map-range_with_len piece 0 total place place other inside (omega arith))) (reads place inside))

    all_heard_as : AreHeardAs longest (mbim_cut (split kind number max body)).messages (unsplit kind number body)
    all_heard_as =
        let cut : (mbim_cut (split kind number max body)).messages ≡ fragments = ap (λ (c : Cutting). c.messages) are_cut in
        record {
          heard =
              ap (λ (messages : List (List ℕ)). deliver longest messages) cut
              ∙ ap (λ (begun : Begun). heard_from longest begun fragments) (sym empty)
              ∙ all_heard body (length fragments - 1) [] fragments are given.each;
          closed =
              ap (λ (messages : List (List ℕ)). begun_from longest none_begun messages) cut
              ∙ ap (λ (begun : Begun). begun_from longest begun fragments) (sym empty)
              ∙ all_left [] fragments are
              ∙ ap begun_with given.closed
              ∙ empty;
        }

    -- ---- a front of their bytes ----

    module _ (front later : List ℕ) (whole : front ++ later ≡ split kind number max body) (some : 0 < length later) where
      abbrev before : Cutting
      before = mbim_cut front

      abbrev behind_it : Cutting
      behind_it = mbim_cut (before.rest ++ later)

      in_all : behind before.messages behind_it ≡ record { messages = fragments; rest = [] }
      in_all = sym (cut-append size_of front later) ∙ ap mbim_cut whole ∙ are_cut

      -- a message ends behind the front
      some_end : behind_it.messages ≡ [] → ⊥
      some_end none =
          let nothing : [] ≡ before.rest ++ later = ap₂ (λ (messages : List (List ℕ)) (rest : List ℕ). concat messages ++ rest) (sym none) (sym (ap (λ (c : Cutting). c.rest) in_all)) ∙ cut-whole size_of (before.rest ++ later) in
          omega (arith, some, ap length nothing, length-append before.rest later)

      unheard : (ends : List (List ℕ)) → behind_it.messages ≡ ends → deliver longest before.messages ≡ []
      unheard [] is = absurd (some_end is)
      unheard (next ∷ more) is =
          let all : before.messages ++ next ∷ more ≡ fragments = ap (λ (l : List (List ℕ)). before.messages ++ l) (sym is) ∙ ap (λ (c : Cutting). c.messages) in_all in
          ap (λ (begun : Begun). heard_from longest begun before.messages) (sym empty)
          ∙ front_unheard body (length fragments - 1) [] before.messages next more
          (subst (AllByRecursion (IsFragment kind number)) (sym all) are)
          (ap (joinings_from longest []) all ∙ given.each)

      goes_on_well : (size : Size) → size_of before.rest ≡ size → is_invalid size ≡ false
      goes_on_well Unknown is = refl
      goes_on_well (Known count) is = refl
      goes_on_well Invalid is =
          let bad : size_of (before.rest ++ later) ≡ Invalid = subst (λ (x : Size). IsKept x (size_of (before.rest ++ later))) is (size_of-kept before.rest later) in
          absurd (some_end (ap (λ (c : Cutting). c.messages) (cut-bad size_of size_of-kept (before.rest ++ later) bad)))

      front_is_unheard : AreUnheard longest front
      front_is_unheard = record { heard = unheard behind_it.messages refl; good = goes_on_well (size_of before.rest) refl }

-- ---- the two kinds ----

of_kind : (kind : MessageKind) (number : ℕ) (m : List ℕ) → IsFragment (kind_number kind) number m → is_fragment kind m ≡ true
of_kind kind number m is = and_from (kind_of m == kind_number kind) (nat_le 20 (length m)) (eq-eqb (kind_of m) (kind_number kind) is.kind_is) is.has_heads

-- it isn't of another kind
of_no_other : (kind other : MessageKind) (number : ℕ) (m : List ℕ) → (kind_number kind == kind_number other) ≡ false → IsFragment (kind_number kind) number m → is_fragment other m ≡ false
of_no_other kind other number m differ is =
    ap (λ (k : ℕ). k == kind_number other && nat_le 20 (length m)) is.kind_is ∙ ap (λ (b : Bool). b && nat_le 20 (length m)) differ

abbrev answers_alone : List (List ℕ) → Begun
answers_alone run = record { answer = assembled_of run; indication = fresh }

abbrev indications_alone : List (List ℕ) → Begun
indications_alone run = record { answer = fresh; indication = assembled_of run }

module _ (longest number : ℕ) (run : List (List ℕ)) (m : List ℕ) where
  abbrev goes_on : GoesOnAsRun longest run m
  goes_on = assemblies_stand_for_runs longest run m

  hears_answer : IsFragment (kind_number CommandDone) number m → heard_with longest (answers_alone run) m ≡ heard_whole m (joining longest run m)
  hears_answer is =
      ap (λ (b : Bool). if b then heard_whole m (joining_behind longest (assembled_of run) m) else if is_fragment IndicateStatus m then heard_whole m (joining_behind longest fresh m) else m ∷ [])
      (of_kind CommandDone number m is)
      ∙ ap (heard_whole m) goes_on.joining_is

  leaves_answers : IsFragment (kind_number CommandDone) number m → begun_after longest (answers_alone run) m ≡ answers_alone (run_after longest run m)
  leaves_answers is =
      ap₂ (λ (answer indication : Bool). let begun : Begun = record { answer = if answer then assembled_after longest (assembled_of run) m else assembled_of run; indication = if indication then assembled_after longest fresh m else fresh } in begun)
      (of_kind CommandDone number m is) (of_no_other CommandDone IndicateStatus number m refl is)
      ∙ ap (λ (a : Assembled). let begun : Begun = record { answer = a; indication = fresh } in begun) goes_on.left

  hears_indication : IsFragment (kind_number IndicateStatus) number m → heard_with longest (indications_alone run) m ≡ heard_whole m (joining longest run m)
  hears_indication is =
      ap₂ (λ (answer indication : Bool). if answer then heard_whole m (joining_behind longest fresh m) else if indication then heard_whole m (joining_behind longest (assembled_of run) m) else m ∷ [])
      (of_no_other IndicateStatus CommandDone number m refl is) (of_kind IndicateStatus number m is)
      ∙ ap (heard_whole m) goes_on.joining_is

  leaves_indications : IsFragment (kind_number IndicateStatus) number m → begun_after longest (indications_alone run) m ≡ indications_alone (run_after longest run m)
  leaves_indications is =
      ap₂ (λ (answer indication : Bool). let begun : Begun = record { answer = if answer then assembled_after longest fresh m else fresh; indication = if indication then assembled_after longest (assembled_of run) m else assembled_of run } in begun)
      (of_no_other IndicateStatus CommandDone number m refl is) (of_kind IndicateStatus number m is)
      ∙ ap (λ (a : Assembled). let begun : Begun = record { answer = fresh; indication = a } in begun) goes_on.left

pub answers_are_heard_whole : FragmentsAreHeardWhole CommandDone
answers_are_heard_whole longest number max body number_fits least most fits short =
    all_heard_as longest (kind_number CommandDone) number answers_alone (hears_answer longest number) (leaves_answers longest number) max body refl (omega arith) number_fits least most fits short

pub indications_are_heard_whole : FragmentsAreHeardWhole IndicateStatus
indications_are_heard_whole longest number max body number_fits least most fits short =
    all_heard_as longest (kind_number IndicateStatus) number indications_alone (hears_indication longest number) (leaves_indications longest number) max body refl (omega arith) number_fits least most fits short

pub answers_begin_unheard : FrontsAreUnheard CommandDone
answers_begin_unheard longest number max body front later number_fits least most fits short whole some =
    front_is_unheard longest (kind_number CommandDone) number answers_alone (hears_answer longest number) (leaves_answers longest number) max body refl (omega arith) number_fits least most fits short front later whole some

pub indications_begin_unheard : FrontsAreUnheard IndicateStatus
indications_begin_unheard longest number max body front later number_fits least most fits short whole some =
    front_is_unheard longest (kind_number IndicateStatus) number indications_alone (hears_indication longest number) (leaves_indications longest number) max body refl (omega arith) number_fits least most fits short front later whole some
