-- The run of each kind goes on with its fragments alone.
use Rattle.std.proofs.Common.{◌≡◌, ℕ, ◌<◌, ◌≤◌, Bool, true, false, ◌&&◌, List, [], ◌∷◌, ◌++◌, length, filter, Option, Some, None, refl, ap, sym, ◌∙◌, arith}
use Rattle.std.specs.Prelude.{if◌then◌else◌, nat_le}
use Rattle.std.proofs.lemmas.Bool.Decides.{nat_tests}
use Rattle.std.proofs.lemmas.List.{append-nil}
use Rattle.std.proofs.lemmas.List.Elements.{filter-append}
use Rattle.mbim_frame.specs.declared.kind.MessageKind.{MessageKind}
use Rattle.mbim_frame.specs.declared.kind.MessageKind.TheVariants.{Open, Close, Command, HostError, OpenDone, CloseDone, CommandDone, FunctionError, IndicateStatus}
use Rattle.mbim_frame.specs.Head.{kind_of, is_kind}
use Rattle.mbim_frame.specs.Kinds.{kind_number, kind_numbered}
use Rattle.mbim_frame.proofs.Numbered.{kinds_are_told}
use Rattle.mbim_fragments.specs.declared.assembly.Took.{Took}
use Rattle.mbim_fragments.specs.Assembling.{Assembled, assembled_of, assembled_after, joining_behind, body_given}
use Rattle.mbim_fragments.specs.Runs.{Joining, More, Whole, OutOfSequence, TooLong, told, joining, run_of, run_after, longest_body}
use Rattle.mbim_fragments.proofs.Runs.{run_goes_on}
use Rattle.mbim_fragments.proofs.Standing.{assemblies_stand_for_runs}
use Rattle.mbim_frame.specs.declared.head.MHead.{MHead}
use Rattle.mbim_frame.specs.Head.{head_of, tail_of}
use Rattle.stream_lines.specs.Lines.{Showing, place_behind}
use Rattle.dissect.specs.Mbim.{is_fragment, is_split, run_behind, joined_lines, took_lines, head_line, tail_lines, inner_lines, mbim_lines}
use Rattle.dissect.proofs.Joined.{then_one}

kept_one : (test : List ℕ → Bool) (m : List ℕ) → test m ≡ true → filter test (m ∷ []) ≡ m ∷ []
kept_one test m is = ap (λ (b : Bool). if b then m ∷ [] else []) is

left_one : (test : List ℕ → Bool) (m : List ℕ) → test m ≡ false → filter test (m ∷ []) ≡ []
left_one test m is = ap (λ (b : Bool). if b then m ∷ [] else []) is

module _ (kind : MessageKind) (before : List (List ℕ)) (m : List ℕ) where
  -- a fragment of the kind goes to its run
  pub run_goes : is_fragment kind m ≡ true → run_behind kind (before ++ m ∷ []) ≡ run_after longest_body (run_behind kind before) m
  run_goes is =
      ap (run_of longest_body) (filter-append (is_fragment kind) before (m ∷ []) ∙ ap (λ (l : List (List ℕ)). filter (is_fragment kind) before ++ l) (kept_one (is_fragment kind) m is))
      ∙ run_goes_on longest_body (filter (is_fragment kind) before) m

  -- what is no fragment of the kind leaves its run
  pub run_stays : is_fragment kind m ≡ false → run_behind kind (before ++ m ∷ []) ≡ run_behind kind before
  run_stays is =
      ap (run_of longest_body)
      (filter-append (is_fragment kind) before (m ∷ []) ∙ ap (λ (l : List (List ℕ)). filter (is_fragment kind) before ++ l) (left_one (is_fragment kind) m is) ∙ append-nil (filter (is_fragment kind) before))

-- ---- which messages are fragments ----

both_true : (a b : Bool) → a ≡ true → b ≡ true → (a && b) ≡ true
both_true true b is and_is = and_is
both_true false b is and_is = absurd (cc)

no_first : (a b : Bool) → ¬ (a ≡ true) → (a && b) ≡ false
no_first true b differs = absurd (differs refl)
no_first false b differs = refl

no_second : (a b : Bool) → b ≡ false → (a && b) ≡ false
no_second true b isnt = isnt
no_second false b isnt = refl

-- of a kind, and long enough
pub is_one : (kind : MessageKind) (m : List ℕ) → Some kind ≡ kind_numbered (kind_of m) → nat_le 20 (length m) ≡ true → is_fragment kind m ≡ true
is_one kind m found long =
    let number : kind_of m ≡ kind_number kind = (kinds_are_told (kind_of m) kind).0 (sym found) in
    both_true (is_kind kind m) (nat_le 20 (length m)) (grind (arith, nat_tests, number)) long

-- of another kind
pub is_none : (kind : MessageKind) (m : List ℕ) (other : Option MessageKind) → other ≡ kind_numbered (kind_of m) → ¬ (other ≡ Some kind) → is_fragment kind m ≡ false
is_none kind m other found differs =
    no_first (is_kind kind m) (nat_le 20 (length m)) (λ same. let number : kind_of m ≡ kind_number kind = grind (arith, nat_tests, same) in differs (found ∙ (kinds_are_told (kind_of m) kind).1 number))

-- too short
pub is_short : (kind : MessageKind) (m : List ℕ) → nat_le 20 (length m) ≡ false → is_fragment kind m ≡ false
is_short kind m short = no_second (is_kind kind m) (nat_le 20 (length m)) short

-- ---- assemblies ----

told_lines : (kind : MessageKind) (came_to : Joining) (body : List ℕ) → took_lines kind (told came_to) (body_given came_to body) ≡ joined_lines kind came_to
told_lines kind More body = refl
told_lines kind (Whole whole) body = refl
told_lines kind OutOfSequence body = refl
told_lines kind TooLong body = refl

module _ (kind : MessageKind) (before : List (List ℕ)) (m : List ℕ) {old : Assembled} (stands : old ≡ assembled_of (run_behind kind before)) where
  -- no fragment of the kind came
  pub stands_still : is_fragment kind m ≡ false → old ≡ assembled_of (run_behind kind (before ++ m ∷ []))
  stands_still is = stands ∙ ap assembled_of (sym (run_stays kind before m is))

  -- it took one
  pub stands_on : {new : Assembled} → is_fragment kind m ≡ true → new ≡ assembled_after longest_body old m → new ≡ assembled_of (run_behind kind (before ++ m ∷ []))
  stands_on is left =
      left ∙ ap (λ (a : Assembled). assembled_after longest_body a m) stands ∙ (assemblies_stand_for_runs longest_body (run_behind kind before) m).left ∙ ap assembled_of (sym (run_goes kind before m is))

  pub joined_is : (took : Took) (body earlier : List ℕ) → took ≡ told (joining_behind longest_body old m) → body ≡ body_given (joining_behind longest_body old m) earlier
      → took_lines kind took body ≡ joined_lines kind (joining longest_body (run_behind kind before) m)
  joined_is took body earlier took_is body_is =
      let came_to : Joining = joining_behind longest_body old m in
      ap (λ (t : Took). took_lines kind t body) took_is
      ∙ ap (λ (l : List ℕ). took_lines kind (told came_to) l) body_is
      ∙ told_lines kind came_to earlier
      ∙ ap (λ (a : Assembled). joined_lines kind (joining_behind longest_body a m)) stands
      ∙ ap (joined_lines kind) (assemblies_stand_for_runs longest_body (run_behind kind before) m).joining_is

-- ---- messages ----

-- the lines of a message that was shown so, behind its head's line
pub lines_of : (shown : Showing) (before : List (List ℕ)) (m old head_text more new : List ℕ) (place : ℕ) (head : MHead) → shown ≡ mbim_lines → place ≡ place_behind before → head ≡ head_of m
    → head_text ≡ old ++ head_line place head → new ≡ head_text ++ more → more ≡ inner_lines (kind_numbered (kind_of m)) before m → new ≡ old ++ shown before m
lines_of shown before m old head_text more new place head shown_is place_is head_is begun added is =
    then_one old (head_line place head) more begun added
    ∙ ap (λ (l : List ℕ). old ++ (head_line place head ++ l)) is
    ∙ ap (λ (n : ℕ). old ++ (head_line n head ++ inner_lines (kind_numbered (kind_of m)) before m)) place_is
    ∙ ap (λ (h : MHead). old ++ (head_line (place_behind before) h ++ inner_lines (kind_numbered (kind_of m)) before m)) head_is
    ∙ ap (λ (f : Showing). old ++ f before m) (sym shown_is)

-- a message that is too short for a fragment
pub inner_short : (kind : Option MessageKind) (before : List (List ℕ)) (m : List ℕ) → nat_le 20 (length m) ≡ false → tail_lines (tail_of m) ≡ inner_lines kind before m
inner_short None before m short = refl
inner_short (Some kind) before m short =
    ap (λ (b : Bool). if b then joined_lines kind (joining longest_body (run_behind kind before) m) else tail_lines (tail_of m)) (sym (no_second (is_split kind) (nat_le 20 (length m)) short))

-- a fragment
pub inner_joined : (kind : MessageKind) (before : List (List ℕ)) (m : List ℕ) → is_split kind ≡ true → nat_le 20 (length m) ≡ true → Some kind ≡ kind_numbered (kind_of m)
    → joined_lines kind (joining longest_body (run_behind kind before) m) ≡ inner_lines (kind_numbered (kind_of m)) before m
inner_joined kind before m split long found =
    ap (λ (b : Bool). if b then joined_lines kind (joining longest_body (run_behind kind before) m) else tail_lines (tail_of m)) (sym (both_true (is_split kind) (nat_le 20 (length m)) split long))
    ∙ ap (λ (k : Option MessageKind). inner_lines k before m) found

pub is_long : (m : List ℕ) → 20 ≤ length m → nat_le 20 (length m) ≡ true
is_long m long = grind (arith, nat_tests, long)

pub isnt_long : (m : List ℕ) → length m < 20 → nat_le 20 (length m) ≡ false
isnt_long m short = grind (arith, nat_tests, short)

-- a message of a kind that comes whole
pub inner_whole : (kind : MessageKind) (before : List (List ℕ)) (m : List ℕ) → ¬ (kind ≡ Command) → ¬ (kind ≡ CommandDone) → ¬ (kind ≡ IndicateStatus) → tail_lines (tail_of m) ≡ inner_lines (Some kind) before m
inner_whole Open before m command done indication = refl
inner_whole Close before m command done indication = refl
inner_whole Command before m command done indication = absurd (command refl)
inner_whole HostError before m command done indication = refl
inner_whole OpenDone before m command done indication = refl
inner_whole CloseDone before m command done indication = refl
inner_whole CommandDone before m command done indication = absurd (done refl)
inner_whole FunctionError before m command done indication = refl
inner_whole IndicateStatus before m command done indication = absurd (indication refl)
