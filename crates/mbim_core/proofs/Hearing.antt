-- What the modem's messages are heard as.
use Rattle.std.proofs.Common.{◌≡◌, ℕ, ◌^◌, ◌<◌, ◌≤◌, Bool, true, false, ◌&&◌, ◌==◌, nat_le, List, [], ◌∷◌, length, drop, refl, ap, sym, ◌∙◌, arith, drop-drop, ne_eqb, Option, Some, if◌then◌else◌}
use Rattle.std.specs.Prelude.{slice_index}
use Rattle.std.proofs.Math.ListN.{drop_of_length-le}
use Rattle.std.proofs.lemmas.Bool.Decides.{nat_tests}
use Rattle.mbim_frame.specs.declared.kind.MessageKind.{MessageKind}
use Rattle.mbim_frame.specs.declared.kind.MessageKind.TheVariants.{OpenDone, CommandDone, FunctionError, IndicateStatus}
use Rattle.mbim_frame.specs.declared.head.MHead.{MHead}
use Rattle.framing.specs.Framing.{IsMessage}
use Rattle.mbim_frame.specs.Frame.{size_of}
use Rattle.mbim_frame.specs.Kinds.{kind_number, kind_numbered}
use Rattle.mbim_frame.specs.Head.{kind_of, is_kind, number_of}
use Rattle.mbim_frame.specs.Fragment.{body_of}
use Rattle.mbim_frame.specs.Bodies.{is_done, is_indication}
use Rattle.mbim_frame.specs.Laws.{FragmentReadsBack}
use Rattle.mbim_frame.specs.Writing.{unsplit}
use Rattle.mbim_frame.proofs.Written.{fragment_is_read}
use Rattle.mbim_frame.proofs.Numbered.{kinds_are_told}
use Rattle.mbim_frame.proofs.Renumbered.{renumbered_is_the_same}
use Rattle.mbim_fragments.specs.Runs.{Joining, More, Whole, OutOfSequence, TooLong}
use Rattle.mbim_fragments.specs.Assembling.{joining_behind, assembled_after, body_given}
use Rattle.mbim_proxy.specs.Setup.{Setup}
use Rattle.mbim_proxy.specs.Step.{blank}
use Rattle.mbim_proxy.specs.FromModem.{Heard, IsDone, IsOpenDone, IsError, IsIndication, IsNeither, heard_if, heard_as}
use Rattle.mbim_proxy.specs.Delivering.{Begun, heard_whole, is_fragment}
use Rattle.mbim_state.specs.Core.{MbimState}
use Rattle.mbim_state.specs.Transitions.{with_side, hear_as, hear_each, hear_modem}
use Rattle.mbim_clients.specs.Side.{is_whole}
use Rattle.mbim_core.specs.State.{IsDoneWith, IsIndicationWith}

-- ---- kinds ----

-- a message of a kind is heard by that kind alone
heard_by : (kind : ℕ) → (m : List ℕ) → Heard
heard_by kind m =
    if kind == kind_number CommandDone then heard_if (is_done (body_of m)) IsDone
    else if kind == kind_number OpenDone then heard_if (length m == 16) IsOpenDone
    else if kind == kind_number FunctionError then heard_if (length m == 16) IsError
    else if kind == kind_number IndicateStatus then heard_if (is_indication (body_of m)) IsIndication
    else IsNeither

heard_is : (kind : ℕ) (m : List ℕ) → kind_of m ≡ kind → heard_as m ≡ heard_by kind m
unfolding heard_by
heard_is kind m is = ap (λ (n : ℕ). heard_by n m) is

-- a whole message has its head
pub whole_long : (m : List ℕ) → IsMessage size_of m → 12 ≤ length m
whole_long m whole = grind (arith, nat_tests, whole)

-- ---- messages whose fragments are joined ----

short_body : (m : List ℕ) → length m < 20 → body_of m ≡ []
short_body m short = drop_of_length-le m {i = 20} (omega arith)

is_long : (m : List ℕ) → 20 ≤ length m → nat_le 20 (length m) ≡ true
is_long m long = grind (arith, nat_tests, long)

is_short : (m : List ℕ) → length m < 20 → nat_le 20 (length m) ≡ false
is_short m short = grind (arith, nat_tests, short)

module _ (s : Setup) (m : List ℕ) (x : MbimState) where
  abbrev answer_joining : Joining
  answer_joining = joining_behind s.longest_body x.beside.begun.answer m

  abbrev indication_joining : Joining
  indication_joining = joining_behind s.longest_body x.beside.begun.indication m

  abbrev with_begun : Begun → MbimState
  with_begun begun = with_side (record x.beside { begun = begun }) x

  abbrev with_answer : MbimState
  with_answer = with_begun (record x.beside.begun { answer = assembled_after s.longest_body x.beside.begun.answer m })

  abbrev with_indication : MbimState
  with_indication = with_begun (record x.beside.begun { indication = assembled_after s.longest_body x.beside.begun.indication m })

  -- whether it is a fragment of an answer, and of an indication
  abbrev hear_by : Bool → Bool → MbimState
  hear_by answer indication =
      hear_each s (if answer then heard_whole m answer_joining else if indication then heard_whole m indication_joining else m ∷ [])
      (with_begun (record {
        answer = if answer then assembled_after s.longest_body x.beside.begun.answer m else x.beside.begun.answer;
        indication = if indication then assembled_after s.longest_body x.beside.begun.indication m else x.beside.begun.indication;
      }))

  heard_as_is : (answer indication : Bool) → is_fragment CommandDone m ≡ answer → is_fragment IndicateStatus m ≡ indication → hear_modem s m x ≡ hear_by answer indication
  heard_as_is answer indication a i = ap (λ (b : Bool). hear_by b (is_fragment IndicateStatus m)) a ∙ ap (hear_by answer) i

  -- a message that isn't one of them is heard as it is
  heard_alone : is_fragment CommandDone m ≡ false → is_fragment IndicateStatus m ≡ false → hear_modem s m x ≡ hear_as s (heard_as m) m x
  unfolding hear_each
  heard_alone a i = heard_as_is false false a i

  heard_each_part : (j : Joining) (y : MbimState) → is_whole j ≡ false → hear_each s (heard_whole m j) y ≡ y
  unfolding hear_each
  heard_each_part More y part = refl
  heard_each_part (Whole body) y part = absurd (cc)
  heard_each_part OutOfSequence y part = refl
  heard_each_part TooLong y part = refl

  heard_each_whole : (j : Joining) (y : MbimState) (before : List ℕ) → is_whole j ≡ true → hear_each s (heard_whole m j) y ≡ hear_as s (heard_as (unsplit (kind_of m) (number_of m) (body_given j before))) (unsplit (kind_of m) (number_of m) (body_given j before)) y
  unfolding hear_each
  heard_each_whole More y before whole = absurd (cc)
  heard_each_whole (Whole body) y before whole = refl
  heard_each_whole OutOfSequence y before whole = absurd (cc)
  heard_each_whole TooLong y before whole = absurd (cc)

-- the number of a message has four bytes
pub number_fits : (m : List ℕ) → ((k : ℕ) → slice_index m k < 256) → number_of m < 2 ^ 32
number_fits m bytes =
    let first = bytes 8 in let second = bytes 9 in let third = bytes 10 in let last = bytes 11 in omega (arith, first, second, third, last)

-- ---- a body that became whole ----

module _ (kind : MessageKind) (number : ℕ) (body : List ℕ) (few : kind_number kind < 2 ^ 32) (within : number < 2 ^ 32) (short : length body ≤ 65536) where
  abbrev whole_message : List ℕ
  whole_message = unsplit (kind_number kind) number body

  reads_back : FragmentReadsBack (record { kind = kind_number kind; number = number; total = 1; current = 0 }) body
  reads_back = fragment_is_read _ body (record { kind = few; number = within; total = omega arith; current = omega arith }) (omega (arith, short))

  pub whole_kind : kind_of whole_message ≡ kind_number kind
  whole_kind = ap (λ (h : MHead). h.kind) reads_back.head

  pub whole_number : number_of whole_message ≡ number
  whole_number = ap (λ (h : MHead). h.number) reads_back.head

  pub whole_body : body_of whole_message ≡ body
  whole_body = reads_back.body

  -- ---- and what it is heard as ----

  heard_whole_message : heard_as whole_message ≡ heard_by (kind_number kind) whole_message
  heard_whole_message = heard_is (kind_number kind) whole_message whole_kind

module _ (number : ℕ) (body : List ℕ) (within : number < 2 ^ 32) (short : length body ≤ 65536) where
  few_done : kind_number CommandDone < 2 ^ 32
  few_done = omega arith

  few_indication : kind_number IndicateStatus < 2 ^ 32
  few_indication = omega arith

  heard_done : heard_as (unsplit (kind_number CommandDone) number body) ≡ heard_if (is_done body) IsDone
  unfolding heard_by
  heard_done = heard_whole_message CommandDone number body few_done within short ∙ ap (λ (l : List ℕ). heard_if (is_done l) IsDone) (whole_body CommandDone number body few_done within short)

  heard_indication : heard_as (unsplit (kind_number IndicateStatus) number body) ≡ heard_if (is_indication body) IsIndication
  unfolding heard_by
  heard_indication = heard_whole_message IndicateStatus number body few_indication within short ∙ ap (λ (l : List ℕ). heard_if (is_indication l) IsIndication) (whole_body IndicateStatus number body few_indication within short)

  pub is_done_with : IsDoneWith body (unsplit (kind_number CommandDone) number body)
  is_done_with = record { kind = whole_kind CommandDone number body few_done within short; carries = whole_body CommandDone number body few_done within short }

  pub done_number : number_of (unsplit (kind_number CommandDone) number body) ≡ number
  done_number = whole_number CommandDone number body few_done within short

  is_indication_with : IsIndicationWith body (unsplit (kind_number IndicateStatus) number body)
  is_indication_with =
      let m : List ℕ = unsplit (kind_number IndicateStatus) number body in
      let own : body_of m ≡ body = whole_body IndicateStatus number body few_indication within short in
      record {
        carries = own;
        blank_body = sym (drop-drop 8 12 (blank m)) ∙ ap (drop 8) (renumbered_is_the_same 0 m (omega arith) (omega arith)).behind ∙ drop-drop 8 12 m ∙ own;
      }

-- ---- each kind of message ----

module _ (s : Setup) (m : List ℕ) (x : MbimState) where
  module _ (is : kind_of m ≡ kind_number OpenDone) where
    open_done_alone : hear_modem s m x ≡ hear_as s (heard_if (length m == 16) IsOpenDone) m x
    unfolding heard_by
    open_done_alone =
        heard_alone s m x (ap (λ (n : ℕ). n == kind_number CommandDone && nat_le 20 (length m)) is) (ap (λ (n : ℕ). n == kind_number IndicateStatus && nat_le 20 (length m)) is)
        ∙ ap (λ (h : Heard). hear_as s h m x) (heard_is (kind_number OpenDone) m is)

    pub open_done_of : (b : Bool) → (length m == 16) ≡ b → hear_modem s m x ≡ hear_as s (heard_if b IsOpenDone) m x
    open_done_of b test = open_done_alone ∙ ap (λ (b : Bool). hear_as s (heard_if b IsOpenDone) m x) test

  module _ (is : kind_of m ≡ kind_number FunctionError) where
    error_alone : hear_modem s m x ≡ hear_as s (heard_if (length m == 16) IsError) m x
    unfolding heard_by
    error_alone =
        heard_alone s m x (ap (λ (n : ℕ). n == kind_number CommandDone && nat_le 20 (length m)) is) (ap (λ (n : ℕ). n == kind_number IndicateStatus && nat_le 20 (length m)) is)
        ∙ ap (λ (h : Heard). hear_as s h m x) (heard_is (kind_number FunctionError) m is)

    pub error_of : (b : Bool) → (length m == 16) ≡ b → hear_modem s m x ≡ hear_as s (heard_if b IsError) m x
    error_of b test = error_alone ∙ ap (λ (b : Bool). hear_as s (heard_if b IsError) m x) test

  module _ (is : kind_of m ≡ kind_number CommandDone) where
    no_indication : is_fragment IndicateStatus m ≡ false
    no_indication = ap (λ (n : ℕ). n == kind_number IndicateStatus && nat_le 20 (length m)) is

    answer_is : (b : Bool) → nat_le 20 (length m) ≡ b → is_fragment CommandDone m ≡ b
    answer_is b test = ap (λ (n : ℕ). n == kind_number CommandDone && nat_le 20 (length m)) is ∙ test

    -- it has no head of a fragment
    pub done_short : length m < 20 → x ≡ hear_modem s m x
    unfolding heard_by
    done_short short =
        sym (heard_alone s m x (answer_is false (is_short m short)) no_indication
        ∙ ap (λ (h : Heard). hear_as s h m x) (heard_is (kind_number CommandDone) m is ∙ ap (λ (l : List ℕ). heard_if (is_done l) IsDone) (short_body m short)))

    -- more fragments are to follow, or it wasn't due
    pub done_part : 20 ≤ length m → is_whole (answer_joining s m x) ≡ false → with_answer s m x ≡ hear_modem s m x
    done_part long part = sym (heard_as_is s m x true false (answer_is true (is_long m long)) no_indication ∙ heard_each_part s m x (answer_joining s m x) (with_answer s m x) part)

    pub done_whole : 20 ≤ length m → is_whole (answer_joining s m x) ≡ true → (before : List ℕ) → number_of m < 2 ^ 32 → length (body_given (answer_joining s m x) before) ≤ 65536
        → hear_modem s m x ≡ hear_as s (heard_if (is_done (body_given (answer_joining s m x) before)) IsDone) (unsplit (kind_number CommandDone) (number_of m) (body_given (answer_joining s m x) before)) (with_answer s m x)
    done_whole long whole before within short =
        heard_as_is s m x true false (answer_is true (is_long m long)) no_indication ∙ heard_each_whole s m x (answer_joining s m x) (with_answer s m x) before whole
        ∙ ap (λ (k : ℕ). hear_as s (heard_as (unsplit k (number_of m) (body_given (answer_joining s m x) before))) (unsplit k (number_of m) (body_given (answer_joining s m x) before)) (with_answer s m x)) is
        ∙ ap (λ (h : Heard). hear_as s h (unsplit (kind_number CommandDone) (number_of m) (body_given (answer_joining s m x) before)) (with_answer s m x)) (heard_done (number_of m) (body_given (answer_joining s m x) before) within short)

  module _ (is : kind_of m ≡ kind_number IndicateStatus) where
    no_answer : is_fragment CommandDone m ≡ false
    no_answer = ap (λ (n : ℕ). n == kind_number CommandDone && nat_le 20 (length m)) is

    status_is : (b : Bool) → nat_le 20 (length m) ≡ b → is_fragment IndicateStatus m ≡ b
    status_is b test = ap (λ (n : ℕ). n == kind_number IndicateStatus && nat_le 20 (length m)) is ∙ test

    pub indication_short : length m < 20 → x ≡ hear_modem s m x
    unfolding heard_by
    indication_short short =
        sym (heard_alone s m x no_answer (status_is false (is_short m short))
        ∙ ap (λ (h : Heard). hear_as s h m x) (heard_is (kind_number IndicateStatus) m is ∙ ap (λ (l : List ℕ). heard_if (is_indication l) IsIndication) (short_body m short)))

    pub indication_part : 20 ≤ length m → is_whole (indication_joining s m x) ≡ false → with_indication s m x ≡ hear_modem s m x
    indication_part long part = sym (heard_as_is s m x false true no_answer (status_is true (is_long m long)) ∙ heard_each_part s m x (indication_joining s m x) (with_indication s m x) part)

    -- how the last one is heard, by the body that it completes
    pub record HearsIndication (body : List ℕ) : Type 0 where
      pub message : List ℕ
      pub has_it : IsIndicationWith body message
      pub heard : hear_modem s m x ≡ hear_as s (heard_if (is_indication body) IsIndication) message (with_indication s m x)

    pub indication_whole : 20 ≤ length m → is_whole (indication_joining s m x) ≡ true → (before : List ℕ) → number_of m < 2 ^ 32 → length (body_given (indication_joining s m x) before) ≤ 65536
        → HearsIndication (body_given (indication_joining s m x) before)
    indication_whole long whole before within short = record {
      message = unsplit (kind_number IndicateStatus) (number_of m) (body_given (indication_joining s m x) before);
      has_it = is_indication_with (number_of m) (body_given (indication_joining s m x) before) within short;
      heard =
          heard_as_is s m x false true no_answer (status_is true (is_long m long)) ∙ heard_each_whole s m x (indication_joining s m x) (with_indication s m x) before whole
          ∙ ap (λ (k : ℕ). hear_as s (heard_as (unsplit k (number_of m) (body_given (indication_joining s m x) before))) (unsplit k (number_of m) (body_given (indication_joining s m x) before)) (with_indication s m x)) is
          ∙ ap (λ (h : Heard). hear_as s h (unsplit (kind_number IndicateStatus) (number_of m) (body_given (indication_joining s m x) before)) (with_indication s m x)) (heard_indication (number_of m) (body_given (indication_joining s m x) before) within short);
    }

  -- it is of no kind that is heard
  abbrev heard_tests : (done open_done error indication : Bool) → Heard
  heard_tests done open_done error indication =
      if done then heard_if (is_done (body_of m)) IsDone
      else if open_done then heard_if (length m == 16) IsOpenDone
      else if error then heard_if (length m == 16) IsError
      else if indication then heard_if (is_indication (body_of m)) IsIndication
      else IsNeither

  heard_other : is_kind CommandDone m ≡ false → is_kind OpenDone m ≡ false → is_kind FunctionError m ≡ false → is_kind IndicateStatus m ≡ false → x ≡ hear_modem s m x
  heard_other done open_done error indication =
      sym (heard_alone s m x (ap (λ (b : Bool). b && nat_le 20 (length m)) done) (ap (λ (b : Bool). b && nat_le 20 (length m)) indication)
      ∙ ap (λ (h : Heard). hear_as s h m x)
      (ap (λ (b : Bool). heard_tests b (is_kind OpenDone m) (is_kind FunctionError m) (is_kind IndicateStatus m)) done
      ∙ ap (λ (b : Bool). heard_tests false b (is_kind FunctionError m) (is_kind IndicateStatus m)) open_done
      ∙ ap (λ (b : Bool). heard_tests false false b (is_kind IndicateStatus m)) error
      ∙ ap (heard_tests false false false) indication))

-- ---- kinds that aren't heard ----

module _ (s : Setup) (m : List ℕ) (x : MbimState) (kind : Option MessageKind) (found : kind ≡ kind_numbered (kind_of m)) where
  is_not : (other : MessageKind) → (kind ≡ Some other → ⊥) → is_kind other m ≡ false
  is_not other differs = ne_eqb (kind_of m) (kind_number other) (λ is. differs (found ∙ (kinds_are_told (kind_of m) other).1 is))

  -- it has a number that is no kind's, or is of a kind that only the modem gets or that the proxy never asks for
  pub heard_not : (kind ≡ Some CommandDone → ⊥) → (kind ≡ Some OpenDone → ⊥) → (kind ≡ Some FunctionError → ⊥) → (kind ≡ Some IndicateStatus → ⊥) → x ≡ hear_modem s m x
  heard_not done open_done error indication = heard_other s m x (is_not CommandDone done) (is_not OpenDone open_done) (is_not FunctionError error) (is_not IndicateStatus indication)
