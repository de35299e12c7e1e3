-- The answer to a command comes in fragments.
use Rattle.std.proofs.Common.{◌≡◌, ◌⊎◌, ℕ, ◌≤◌, ◌==◌, Bool, true, false, List, [], ◌∷◌, ◌++◌, length, Option, Some, refl, sym, ◌∙◌, ap, ⊎_elim, subst}
use Rattle.std.specs.Prelude.{nat_lt, if◌then◌else◌}
use Rattle.std.specs.Option.{unwrap_or}
use Rattle.std.proofs.lemmas.Bool.{le-ltb}
use Rattle.std.proofs.lemmas.List.{map-append}
use Rattle.std.proofs.lemmas.List.Elements.{filter-append}
use Rattle.mbim_frame.specs.Fragment.{total_of}
use Rattle.mbim_fragments.specs.declared.assembly.Took.{Took}
use Rattle.mbim_fragments.specs.declared.assembly.Took.TheVariants as took
use Rattle.mbim_fragments.specs.Runs.{Joining, More, Whole, OutOfSequence, TooLong, is_due, joined, joining, run_with, told, longest_body}
use Rattle.mbim_fragments.specs.Assembling.{Assembled, assembled_of, assembled_after, body_given, joining_behind}
use Rattle.mbim_fragments.proofs.Standing.{assemblies_stand_for_runs}
use Rattle.mbim_frame.specs.declared.kind.MessageKind.TheVariants as kind
use Rattle.link_session.specs.declared.waiting.Meaning.{Meaning}
use Rattle.link_session.specs.declared.waiting.Meaning.TheVariants as meaning
use Rattle.link_session.specs.Marks.{Placed}
use Rattle.link_session.specs.Hearing.{Hears}
use Rattle.mbim_session.specs.declared.command_answer.CommandAnswer.{CommandAnswer}
use Rattle.mbim_session.specs.Requests.{begins_at, bytes_of, first_place, is_error, is_of, judge_command, judge_piece, meaning_of, pieces}
use Rattle.mbim_session.specs.Answers.{body_with}
use Rattle.mbim_session.specs.Hearing.{HasBody, HasPieces, HasReply, UnlessError}

pub pieces-push : (number : ℕ) (before : List Placed) (message : Placed) → is_of kind.CommandDone number message.bytes ≡ true → pieces number (before ++ message ∷ []) ≡ pieces number before ++ message ∷ []
pieces-push number before message is = filter-append (λ (m : Placed). is_of kind.CommandDone number m.bytes) before (message ∷ []) ∙ rw is refl

-- ---- the assembly of the fragments that came ----

bytes-push : (pieces : List Placed) (message : Placed) → bytes_of (pieces ++ message ∷ []) ≡ bytes_of pieces ++ message.bytes ∷ []
bytes-push pieces message = map-append (λ (m : Placed). m.bytes) pieces (message ∷ [])

joins_as_run : {assembly : Assembled} (pieces : List Placed) (message : Placed) → assembly ≡ assembled_of (bytes_of pieces)
    → joining_behind longest_body assembly message.bytes ≡ joining longest_body (bytes_of pieces) message.bytes
joins_as_run pieces message is =
    ap (λ (a : Assembled). joining_behind longest_body a message.bytes) is ∙ (assemblies_stand_for_runs longest_body (bytes_of pieces) message.bytes).joining_is

-- what the last one completes is what all of them carry
whole_is_joined : (longest : ℕ) (run : List (List ℕ)) (fragment body : List ℕ) → joining longest run fragment ≡ Whole body → body ≡ joined (run ++ fragment ∷ [])
whole_is_joined longest run fragment body is =
    by (is_due run fragment) (nat_lt longest (length (joined (run ++ fragment ∷ [])))) (length (run ++ fragment ∷ []) == total_of fragment) is
  where
    by : (due long last : Bool) → (if due then (if long then TooLong else if last then Whole (joined (run ++ fragment ∷ [])) else More) else OutOfSequence) ≡ Whole body → body ≡ joined (run ++ fragment ∷ [])
    by false long last is = absurd (cc)
    by true true last is = absurd (cc)
    by true false true is = cc
    by true false false is = absurd (cc)

module _ {before : Assembled} (pieces : List Placed) (message : Placed) (is : before ≡ assembled_of (bytes_of pieces)) where
  -- more are to follow: the assembly stands for them with this one
  pub stands_with : {after : Assembled} → took.More ≡ told (joining_behind longest_body before message.bytes) → after ≡ assembled_after longest_body before message.bytes → after ≡ assembled_of (bytes_of (pieces ++ message ∷ []))
  stands_with {after} told_is after_is =
      let joins : joining longest_body (bytes_of pieces) message.bytes ≡ More = told_more _ (told_is ∙ ap told (joins_as_run pieces message is)) in
      after_is ∙ ap (λ (a : Assembled). assembled_after longest_body a message.bytes) is ∙ (assemblies_stand_for_runs longest_body (bytes_of pieces) message.bytes).left
      ∙ ap (λ (j : Joining). assembled_of (run_with (bytes_of pieces) message.bytes j)) joins
      ∙ ap assembled_of (sym (bytes-push pieces message))
    where
      told_more : (j : Joining) → took.More ≡ told j → j ≡ More
      told_more More e = refl
      told_more (Whole body) e = absurd (cc)
      told_more OutOfSequence e = absurd (cc)
      told_more TooLong e = absurd (cc)

  -- it was the last
  pub body_is : {given : List ℕ} (old : List ℕ) → took.Message ≡ told (joining_behind longest_body before message.bytes) → given ≡ body_given (joining_behind longest_body before message.bytes) old → given ≡ body_with pieces message
  body_is {given} old told_is given_is = by (joining longest_body (bytes_of pieces) message.bytes) refl (told_is ∙ ap told (joins_as_run pieces message is)) (given_is ∙ ap (λ (j : Joining). body_given j old) (joins_as_run pieces message is))
    where
      by : (j : Joining) → joining longest_body (bytes_of pieces) message.bytes ≡ j → took.Message ≡ told j → given ≡ body_given j old → given ≡ body_with pieces message
      by More joins e body = absurd (cc)
      by (Whole whole) joins e body = body ∙ whole_is_joined longest_body (bytes_of pieces) message.bytes whole joins
      by OutOfSequence joins e body = absurd (cc)
      by TooLong joins e body = absurd (cc)

-- ---- what one hears ----

first_push : (pieces : List Placed) (message : Placed) → first_place (pieces ++ message ∷ []) ≡ Some (begins_at pieces message)
first_push [] message = refl
first_push (first ∷ pieces) message = refl

-- what a fragment comes to is what it means
abbrev meaning_by : (place : ℕ) → Took → Meaning
meaning_by place took.More = meaning.NoAnswer
meaning_by place took.Message = meaning.Answer
meaning_by place took.OutOfSequence = meaning.Broken place
meaning_by place took.TooLong = meaning.Broken place

meaning_told : (message : Placed) (j : Joining) → meaning_of message j ≡ meaning_by message.place (told j)
meaning_told message More = refl
meaning_told message (Whole body) = refl
meaning_told message OutOfSequence = refl
meaning_told message TooLong = refl

module _ {assembly : Assembled} (pieces : List Placed) (message : Placed) (is : assembly ≡ assembled_of (bytes_of pieces)) (whole : 20 ≤ length message.bytes) where
  judged : (result : Took) → result ≡ told (joining_behind longest_body assembly message.bytes) → judge_piece pieces message ≡ meaning_by message.place result
  judged result told_is =
      ap (λ (b : Bool). if b then meaning.Broken (begins_at pieces message) else meaning_of message (joining longest_body (bytes_of pieces) message.bytes)) (le-ltb (length message.bytes) 20 whole)
      ∙ meaning_told message (joining longest_body (bytes_of pieces) message.bytes)
      ∙ ap (meaning_by message.place) (sym (told_is ∙ ap told (joins_as_run pieces message is)))

  -- it wasn't taken
  pub hears-broken : (result : Took) → result ≡ told (joining_behind longest_body assembly message.bytes) → (result ≡ took.OutOfSequence) ⊎ (result ≡ took.TooLong) → judge_piece pieces message ≡ meaning.Broken message.place
  hears-broken result told_is either =
      judged result told_is ∙ ⊎_elim (λ (is : result ≡ took.OutOfSequence). ap (meaning_by message.place) is) (λ (is : result ≡ took.TooLong). ap (meaning_by message.place) is) either

-- more are to follow
pub hears-more : (before : CommandAnswer) {after : CommandAnswer} (pieces : List Placed) (message : Placed) → HasPieces before pieces → 20 ≤ length message.bytes
    → took.More ≡ told (joining_behind longest_body before.assembly message.bytes) → after.assembly ≡ assembled_after longest_body before.assembly message.bytes → after.first ≡ Some (unwrap_or before.first message.place)
    → Hears judge_piece (HasPieces after) (HasBody after) pieces message meaning.NoAnswer
hears-more before pieces message has whole told_is after_is first_is = (
  judged pieces message has.run whole took.More told_is,
  record {
    run = stands_with pieces message has.run told_is after_is;
    first = first_is ∙ ap (λ (first : Option ℕ). Some (unwrap_or first message.place)) has.first ∙ sym (first_push pieces message);
  },
)

-- it was the last
pub hears-last : (before : CommandAnswer) {after : CommandAnswer} (old : List ℕ) (pieces : List Placed) (message : Placed) → HasPieces before pieces → 20 ≤ length message.bytes
    → took.Message ≡ told (joining_behind longest_body before.assembly message.bytes) → after.body ≡ body_given (joining_behind longest_body before.assembly message.bytes) old → after.first ≡ Some (unwrap_or before.first message.place)
    → Hears judge_piece (HasPieces after) (HasBody after) pieces message meaning.Answer
hears-last before old pieces message has whole told_is given_is first_is = (
  judged pieces message has.run whole took.Message told_is,
  record {
    body = body_is pieces message has.run old told_is given_is;
    first = first_is ∙ ap (λ (first : Option ℕ). Some (unwrap_or first message.place)) has.first;
  },
)

-- one who waits for the answer hears a fragment of it
module _ (answer : CommandAnswer) {number : ℕ} (before : List Placed) (message : Placed) (same : answer.number ≡ number) (error : is_error number message.bytes ≡ false) (done : is_of kind.CommandDone number message.bytes ≡ true) where
  pub hears-piece : (result : Meaning) → Hears judge_piece (HasPieces answer) (HasBody answer) (pieces number before) message result
      → Hears (judge_command number) (λ before. HasPieces answer (pieces answer.number before)) (HasReply answer) before message result
  hears-piece meaning.NoAnswer (is, has) = (
    rw (error, done) is,
    subst (λ (n : ℕ). HasPieces answer (pieces n (before ++ message ∷ []))) (sym same) (subst (HasPieces answer) (sym (pieces-push number before message done)) has),
  )
  hears-piece meaning.Answer (is, has) = (
    rw (error, done) is,
    subst (λ (n : ℕ). UnlessError (is_error n message.bytes) (HasBody answer (pieces n before) message)) (sym same)
        (subst (λ (b : Bool). UnlessError b (HasBody answer (pieces number before) message)) (sym error) has),
  )
  hears-piece (meaning.Broken place) is = rw (error, done) is
