-- An answer to a command that comes in fragments is heard with its last one.
use Rattle.std.proofs.Common.{◌≡◌, ℕ, ◌+◌, ◌-◌, ◌<◌, Bool, true, false, nat_lt, List, [], ◌∷◌, ◌++◌, length, refl, ap, sym, ◌∙◌, arith, append-nil, append_assoc, count_by, replicate, min, ◌^◌, ◌==◌, if◌then◌else◌}
use Rattle.std.proofs.lemmas.List.{map-append}
use Rattle.link_session.proofs.Deciding.{count_by-append}
use Rattle.std.specs.List.{AllByRecursion}
use Rattle.std.proofs.lemmas.List.Elements.{filter_map-append, filter-append}
use Rattle.link_session.specs.declared.waiting.Meaning.TheVariants as meaning
use Rattle.link_session.specs.Marks.{Placed, Mark, Message, message_in, messages_in, messages_from}
use Rattle.link_session.specs.Waiting.{Judge, ArePassed, AreUndecided, is_quiet, is_message}
use Rattle.mbim_fragments.specs.Runs.{Joining, More, Whole, OutOfSequence, TooLong, joining, joined, is_due, run_after, run_with, joinings_from}
use Rattle.mbim_frame.specs.declared.kind.MessageKind.TheVariants as kind
use Rattle.mbim_frame.specs.Fragment.{total_of}
use Rattle.mbim_session.specs.Requests.{is_of, is_error, pieces, bytes_of, judge_command, meaning_of}
use Rattle.mbim_session.specs.Answers.{body_with}

-- a fragment of the answer to the command with this number
pub record IsPiece (number : ℕ) (f : List ℕ) : Type 0 where
  pub done : is_of kind.CommandDone number f ≡ true
  pub no_error : is_error number f ≡ false
  pub long : nat_lt (length f) 20 ≡ false

-- ---- the fragments of one body ----

abbrev head_or : List Joining → Joining
head_or [] = More
head_or (x ∷ xs) = x

abbrev tail_or : List Joining → List Joining
tail_or [] = []
tail_or (x ∷ xs) = xs

-- each of these fragments goes on with the run and leaves it open
abbrev pub AreOpen : (run fs : List (List ℕ)) → Type 0
AreOpen run [] = Unit {0}
AreOpen run (f ∷ fs) = (joining 65536 run f ≡ More) × AreOpen (run ++ f ∷ []) fs

-- so do all but the last, which completes the body
pub all_are_open : (fs run : List (List ℕ)) (last body : List ℕ) → joinings_from 65536 run (fs ++ last ∷ []) ≡ replicate (length fs) More ++ Whole body ∷ [] → AreOpen run fs × (joining 65536 (run ++ fs) last ≡ Whole body)
unfolding joinings_from
all_are_open [] run last body are = (tt, ap (λ (r : List (List ℕ)). joining 65536 r last) (append-nil run) ∙ ap head_or are)
all_are_open (f ∷ fs) run last body are =
    let more : joining 65536 run f ≡ More = ap head_or are in
    let after : run_after 65536 run f ≡ run ++ f ∷ [] = ap (run_with run f) more in
    let then_are : joinings_from 65536 (run ++ f ∷ []) (fs ++ last ∷ []) ≡ replicate (length fs) More ++ Whole body ∷ [] = ap (λ (r : List (List ℕ)). joinings_from 65536 r (fs ++ last ∷ [])) (sym after) ∙ ap tail_or are in
    let rest = all_are_open fs (run ++ f ∷ []) last body then_are in
    ((more, rest.0), ap (λ (r : List (List ℕ)). joining 65536 r last) (sym (append_assoc run (f ∷ []) fs)) ∙ rest.1)

-- ---- and the marks of an answer's fragments ----

pub only_messages : (place : ℕ) (fs : List (List ℕ)) → (count_by is_quiet (messages_from place fs) ≡ 0) × (count_by is_message (messages_from place fs) ≡ length fs)
only_messages place [] = (refl, refl)
only_messages place (f ∷ fs) =
    let rest = only_messages (place + length f) fs in
    let one : List Mark = Message (record { place = min place (2 ^ 64 - 1); bytes = f }) ∷ [] in (
      count_by-append is_quiet one (messages_from (place + length f) fs) ∙ omega (arith, rest.0),
      count_by-append is_message one (messages_from (place + length f) fs) ∙ omega (arith, rest.1),
    )

module _ (number : ℕ) where
  abbrev judge : Judge
  judge = judge_command number

  -- the fragments among what was heard
  abbrev heard : List Mark → List (List ℕ)
  heard before = bytes_of (pieces number (messages_in before))

  heard-push : (before : List Mark) (q : Placed) → is_of kind.CommandDone number q.bytes ≡ true → heard (before ++ Message q ∷ []) ≡ heard before ++ q.bytes ∷ []
  heard-push before q is =
      ap (λ (l : List Placed). bytes_of (pieces number l)) (filter_map-append message_in before (Message q ∷ []))
      ∙ ap bytes_of (filter-append (λ (m : Placed). is_of kind.CommandDone number m.bytes) (messages_in before) (q ∷ []))
      ∙ ap (λ (b : Bool). bytes_of (pieces number (messages_in before) ++ (if b then q ∷ [] else []))) is
      ∙ map-append (λ (m : Placed). m.bytes) (pieces number (messages_in before)) (q ∷ [])

  meant : (before : List Mark) (q : Placed) (run : List (List ℕ)) → IsPiece number q.bytes → heard before ≡ run → judge (messages_in before) q ≡ meaning_of q (joining 65536 run q.bytes)
  meant before q run is same = rw (is.no_error, is.done, is.long) (ap (λ (r : List (List ℕ)). meaning_of q (joining 65536 r q.bytes)) same)

  record Passes (place : ℕ) (before : List Mark) (run fs : List (List ℕ)) : Type 0 where
    each : ArePassed judge before (messages_from place fs)
    heard_then : heard (before ++ messages_from place fs) ≡ run ++ fs

  passes : (fs : List (List ℕ)) (place : ℕ) (before : List Mark) (run : List (List ℕ)) → AllByRecursion (IsPiece number) fs → heard before ≡ run → AreOpen run fs → Passes place before run fs
  passes [] place before run all same opens = record { each = tt; heard_then = ap heard (append-nil before) ∙ same ∙ sym (append-nil run) }
  passes (f ∷ fs) place before run all same opens =
      let q : Placed = record { place = min place (2 ^ 64 - 1); bytes = f } in
      let heard_f : heard (before ++ Message q ∷ []) ≡ run ++ f ∷ [] = heard-push before q all.0.done ∙ ap (λ (r : List (List ℕ)). r ++ f ∷ []) same in
      let rest = passes fs (place + length f) (before ++ Message q ∷ []) (run ++ f ∷ []) all.1 heard_f opens.1 in
      let passed : judge (messages_in before) q ≡ meaning.NoAnswer = meant before q run all.0 same ∙ ap (meaning_of q) opens.0 in
      record {
        each = (passed, rest.each);
        heard_then = ap heard (sym (append_assoc before (Message q ∷ []) (messages_from (place + length f) fs))) ∙ rest.heard_then ∙ append_assoc run (f ∷ []) fs;
      }

  -- what is whole is what was joined
  whole_is : (run : List (List ℕ)) (last body : List ℕ) → joining 65536 run last ≡ Whole body → joined (run ++ last ∷ []) ≡ body
  whole_is run last body is = by (is_due run last) (nat_lt 65536 (length (joined (run ++ last ∷ [])))) (length (run ++ last ∷ []) == total_of last) is
    where
      body_in : Joining → List ℕ
      body_in (Whole b) = b
      body_in _ = []

      by : (due long all : Bool) → (if due then (if long then TooLong else if all then Whole (joined (run ++ last ∷ [])) else More) else OutOfSequence) ≡ Whole body → joined (run ++ last ∷ []) ≡ body
      by true true all is = absurd (cc)
      by true false true is = ap body_in is
      by true false false is = absurd (cc)
      by false long all is = absurd (cc)

  -- the answer in fragments: those before the last are passed, and the last is the answer, with this body
  pub record IsHeard (patience place : ℕ) (fs : List (List ℕ)) (q : Placed) (body : List ℕ) : Type 0 where
    pub undecided : AreUndecided (record { judge = judge; patience = patience }) (messages_from place fs)
    pub answers : judge (messages_in (messages_from place fs)) q ≡ meaning.Answer
    pub body_is : body_with (pieces number (messages_in (messages_from place fs))) q ≡ body

  pub is_heard : (patience place : ℕ) (fs : List (List ℕ)) (q : Placed) (body : List ℕ) → AllByRecursion (IsPiece number) fs → IsPiece number q.bytes → length fs < 65536
      → joinings_from 65536 [] (fs ++ q.bytes ∷ []) ≡ replicate (length fs) More ++ Whole body ∷ [] → IsHeard patience place fs q body
  is_heard patience place fs q body all last few are =
      let open_all = all_are_open fs [] q.bytes body are in
      let p = passes fs place [] [] all refl open_all.0 in
      let counts = only_messages place fs in
      record {
        undecided = record { each = p.each; quiets = omega (arith, counts.0); messages = omega (arith, counts.1, few) };
        answers = meant (messages_from place fs) q fs last p.heard_then ∙ ap (meaning_of q) open_all.1;
        body_is = ap (λ (r : List (List ℕ)). joined (r ++ q.bytes ∷ [])) p.heard_then ∙ whole_is fs q.bytes body open_all.1;
      }
