-- One request of a session at a peer that answers it. Lists of marks have the oldest first.
use Rattle.std.proofs.Common.{◌≡◌, ℕ, ◌+◌, ◌*◌, ◌<◌, ◌≤◌, ◌^◌, Bool, true, false, ◌&&◌, ◌==◌, nat_lt, List, [], ◌∷◌, ◌++◌, All, length, refl, ap, ap₂, sym, ◌∙◌, arith, subst, append_assoc, length-append}
use Rattle.std.specs.List.{concat, AllByRecursion}
use Rattle.std.proofs.lemmas.Bool.{eq-eqb}
use Rattle.std.proofs.lemmas.Bool.Decides.{nat_tests}
use Rattle.framing.specs.Framing.{IsMessage}
use Rattle.framing.specs.Cutting.{Cutting}
use Rattle.framing.specs.Reading.{place_of}
use Rattle.framing.proofs.Cuts.{cut-each}
use Rattle.mbim_frame.specs.declared.kind.MessageKind.TheVariants as kind
use Rattle.mbim_frame.specs.Frame.{size_of, mbim_cut}
use Rattle.mbim_frame.specs.Framing.{size_of-kept, size_of-positive}
use Rattle.mbim_frame.specs.Kinds.{kind_number}
use Rattle.mbim_frame.specs.Head.{kind_of, number_of}
use Rattle.mbim_fragments.specs.Splitting.{pieces, split}
use Rattle.mbim_fragments.proofs.Cutting.{pieces_are_cut}
use Rattle.mbim_fragments.proofs.Sizes.{length-split, split_fits}
use Rattle.mbim_requests.specs.declared.MbimRequest.{MbimRequest}
use Rattle.link_session.specs.declared.waiting.Meaning.TheVariants as meaning
use Rattle.link_session.specs.Marks.{Placed, Mark, Message, messages_in, messages_from}
use Rattle.link_session.specs.Waiting.{ArePassed, AreUndecided, patience_of}
use Rattle.link_session.specs.Asking.{Asked}
use Rattle.link_session.specs.Peer.{Peer, Talk, reply_to}
use Rattle.mbim_session.specs.Requests.{commanding, judge_command, is_of, is_error}
use Rattle.mbim_session.specs.Requests as session
use Rattle.mbim_session.specs.Answers.{body_with}
use Rattle.lone_client.specs.MbimLaw.{IsShort, IsTold, done_bytes, done_messages, told_bytes, told_messages}
use Rattle.lone_client.proofs.Fragments.{Reads, read, Split, is_split}
use Rattle.twin_sessions.proofs.Asking.{all_by, IsWhole, IsAnsweredBy, answered_among, one_said, answered_by_one}
use Rattle.twin_sessions.proofs.MbimAnswers.{IsPiece, IsHeard, is_heard, only_messages}

-- ---- lists ----

pub all_append : (P : List ℕ → Type 0) (xs ys : List (List ℕ)) → AllByRecursion P xs → AllByRecursion P ys → AllByRecursion P (xs ++ ys)
all_append P [] ys some more = more
all_append P (x ∷ xs) ys some more = (some.0, all_append P xs ys some.1 more)

concat-append : (xs ys : List (List ℕ)) → concat (xs ++ ys) ≡ concat xs ++ concat ys
concat-append [] ys = refl
concat-append (x ∷ xs) ys = ap (λ (l : List ℕ). x ++ l) (concat-append xs ys) ∙ sym (append_assoc x (concat xs) (concat ys))

messages_from-append : (place : ℕ) (xs ys : List (List ℕ)) → messages_from place (xs ++ ys) ≡ messages_from place xs ++ messages_from (place + length (concat xs)) ys
messages_from-append place [] ys = ap (λ (n : ℕ). messages_from n ys) (omega arith)
messages_from-append place (x ∷ xs) ys =
    ap (λ (l : List Mark). Message (record { place = place_of place; bytes = x }) ∷ l)
    (messages_from-append (place + length x) xs ys ∙ ap (λ (n : ℕ). messages_from (place + length x) xs ++ messages_from n ys) (omega (arith, length-append x (concat xs))))

-- ---- answers and indications ----

abbrev IsLong : List ℕ → Type 0
IsLong f = 20 ≤ length f

few : (fs : List (List ℕ)) → AllByRecursion IsLong fs → 20 * length fs ≤ length (concat fs)
few [] all = omega arith
few (f ∷ fs) all = let more = few fs all.1 in omega (arith, all.0, more, length-append f (concat fs))

pub done_is_cut : (number : ℕ) (done : List ℕ) → number < 2 ^ 32 → IsShort done → mbim_cut (done_bytes number done) ≡ record { messages = done_messages number done; rest = [] }
done_is_cut number done fits short = pieces_are_cut (kind_number kind.CommandDone) number 4096 done (omega arith) fits (omega arith) (omega arith) (omega (arith, short))

pub done_each : (number : ℕ) (done : List ℕ) → number < 2 ^ 32 → IsShort done → AllByRecursion (IsMessage size_of) (done_messages number done)
done_each number done fits short = subst (AllByRecursion (IsMessage size_of)) (ap (λ (c : Cutting). c.messages) (done_is_cut number done fits short)) (cut-each size_of (done_bytes number done))

abbrev IsToldPiece : List ℕ → Type 0
IsToldPiece f = Reads (kind_number kind.IndicateStatus) 0 f

pub told_each : (told : List (List ℕ)) → AllByRecursion IsTold told → AllByRecursion (IsMessage size_of) (told_messages told)
told_each [] all = tt
told_each (body ∷ told) all =
    let short = all.0.short in
    let cut_is = pieces_are_cut (kind_number kind.IndicateStatus) 0 4096 body (omega arith) (omega arith) (omega arith) (omega arith) (omega (arith, short)) in
    all_append (IsMessage size_of) (pieces (kind_number kind.IndicateStatus) 0 4096 body) (told_messages told)
    (subst (AllByRecursion (IsMessage size_of)) (ap (λ (c : Cutting). c.messages) cut_is) (cut-each size_of (split (kind_number kind.IndicateStatus) 0 4096 body)))
    (told_each told all.1)

pub told_read : (told : List (List ℕ)) → AllByRecursion IsTold told → AllByRecursion IsToldPiece (told_messages told)
told_read [] all = tt
told_read (body ∷ told) all =
    all_append IsToldPiece (pieces (kind_number kind.IndicateStatus) 0 4096 body) (told_messages told) (read (kind_number kind.IndicateStatus) 0 body (omega arith) (omega arith) all.0.short) (told_read told all.1)

told_bytes_are : (told : List (List ℕ)) → concat (told_messages told) ≡ told_bytes told
told_bytes_are [] = refl
told_bytes_are (body ∷ told) = concat-append (pieces (kind_number kind.IndicateStatus) 0 4096 body) (told_messages told) ∙ ap (λ (l : List ℕ). split (kind_number kind.IndicateStatus) 0 4096 body ++ l) (told_bytes_are told)

pub bytes_are : (number : ℕ) (done : List ℕ) (told : List (List ℕ)) → concat (done_messages number done ++ told_messages told) ≡ done_bytes number done ++ told_bytes told
bytes_are number done told = concat-append (done_messages number done) (told_messages told) ∙ ap (λ (l : List ℕ). done_bytes number done ++ l) (told_bytes_are told)

long_each : (fs : List (List ℕ)) → AllByRecursion IsToldPiece fs → AllByRecursion IsLong fs
long_each [] all = tt
long_each (f ∷ fs) all = (all.0.long, long_each fs all.1)

-- few indications fit what may wait for a client
pub few_told : (number : ℕ) (done : List ℕ) (told : List (List ℕ)) → AllByRecursion IsTold told → length (done_bytes number done ++ told_bytes told) ≤ 262144 → length (told_messages told) < 65536
few_told number done told all room =
    omega (arith, few (told_messages told) (long_each (told_messages told) (told_read told all)), ap length (told_bytes_are told), room, length-append (done_bytes number done) (told_bytes told))

-- ---- at a peer ----

module _ (peer : Peer) where
  -- ---- a request, by one message behind indications that were left ----

  module _ (asked : Asked) (same : asked.size ≡ size_of) (talk : Talk) (whole : IsWhole size_of talk.heard.taken) (d : List ℕ) (is_message : IsMessage size_of d) (replies : reply_to peer asked talk ≡ d)
      (answers : (before : List Placed) (q : Placed) → q.bytes ≡ d → asked.wait.judge before q ≡ meaning.Answer) (passes : (before : List Placed) (q : Placed) → kind_of q.bytes ≡ kind_number kind.IndicateStatus → asked.wait.judge before q ≡ meaning.NoAnswer)
      (place : ℕ) (told : List (List ℕ)) (are_told : AllByRecursion IsToldPiece told) (not_many : length told < 65536) (left : talk.heard.left ≡ messages_from place told) where
    passed : (fs : List (List ℕ)) → AllByRecursion IsToldPiece fs → (at : ℕ) (before : List Mark) → ArePassed asked.wait.judge before (messages_from at fs)
    passed [] all at before = tt
    passed (f ∷ fs) all at before =
        let q : Placed = record { place = place_of at; bytes = f } in
        (passes (messages_in before) q all.0.kind_is, passed fs all.1 (at + length f) (before ++ Message q ∷ []))

    abbrev marks : List Mark
    marks = messages_from place told

    abbrev pub one : Placed
    one = one_said size_of size_of-kept size_of-positive refl peer asked same talk whole d

    undecided : AreUndecided asked.wait marks
    undecided = let counts = only_messages place told in record { each = passed told are_told place []; quiets = omega (arith, counts.0); messages = omega (arith, counts.1, not_many) }

    pub answered_behind : IsAnsweredBy size_of peer asked talk (messages_in marks) one []
    answered_behind = answered_by_one size_of size_of-kept size_of-positive refl peer asked same talk whole d is_message replies marks left undecided (answers (messages_in marks) one refl)

  -- ---- a command, by an answer and indications ----

  module _ (request : MbimRequest) (seconds number : ℕ) (number_fits : number < 2 ^ 32) (talk : Talk) (whole : IsWhole size_of talk.heard.taken) (left : talk.heard.left ≡ []) (done : List ℕ) (short : IsShort done) (told : List (List ℕ)) (are_told : AllByRecursion IsTold told)
      (replies : reply_to peer (commanding request number seconds) talk ≡ done_bytes number done ++ told_bytes told) where
    abbrev parts : Split (kind_number kind.CommandDone) number done (omega arith) number_fits short
    parts = is_split (kind_number kind.CommandDone) number done (omega arith) number_fits short

    piece_of : (f : List ℕ) → Reads (kind_number kind.CommandDone) number f → IsPiece number f
    piece_of f reads =
        let same : (number_of f == number) ≡ true = eq-eqb (number_of f) number reads.number_is in
        let long : nat_lt (length f) 20 ≡ false = (let n = reads.long in grind (arith, nat_tests, n)) in
        record {
          done = ap₂ (λ (k : ℕ) (b : Bool). k == kind_number kind.CommandDone && b) reads.kind_is same;
          no_error = ap (λ (k : ℕ). k == kind_number kind.FunctionError && (number_of f == number)) reads.kind_is;
          long = long;
        }

    pieces_of : (fs : List (List ℕ)) → AllByRecursion (Reads (kind_number kind.CommandDone) number) fs → AllByRecursion (IsPiece number) fs
    pieces_of [] all = tt
    pieces_of (f ∷ fs) all = (piece_of f all.0, pieces_of fs all.1)

    long_pieces : (fs : List (List ℕ)) → AllByRecursion (Reads (kind_number kind.CommandDone) number) fs → AllByRecursion IsLong fs
    long_pieces [] all = tt
    long_pieces (f ∷ fs) all = (all.0.long, long_pieces fs all.1)

    abbrev at : ℕ
    at = length (concat (mbim_cut talk.heard.taken).messages)

    abbrev pub done_message : Placed
    done_message = record { place = place_of (at + length (concat parts.front)); bytes = parts.last }

    abbrev pub done_before : List Placed
    done_before = messages_in (messages_from at parts.front)

    abbrev pub told_from : ℕ
    told_from = at + length (concat parts.front) + length parts.last

    few_pieces : length parts.front < 65536
    few_pieces =
        let bytes : length (concat (parts.front ++ parts.last ∷ [])) ≡ length (done_bytes number done) = ap (λ (l : List (List ℕ)). length (concat l)) (sym parts.is) in
        let both : length (concat (parts.front ++ parts.last ∷ [])) ≡ length (concat parts.front) + length (concat (parts.last ∷ [])) = ap length (concat-append parts.front (parts.last ∷ [])) ∙ length-append (concat parts.front) (concat (parts.last ∷ [])) in
        omega (arith, few parts.front (long_pieces parts.front parts.reads_front), bytes, both, length-split (kind_number kind.CommandDone) number 4096 done (omega arith), split_fits 4096 (length done) (omega arith) short)

    heard : IsHeard number (patience_of seconds) at parts.front done_message done
    heard = is_heard number (patience_of seconds) at parts.front done_message done (pieces_of parts.front parts.reads_front) (piece_of parts.last parts.reads_last) few_pieces parts.joins

    pub done_body : body_with (session.pieces number done_before) done_message ≡ done
    done_body = heard.body_is

    pub no_error : is_error number done_message.bytes ≡ false
    no_error = (piece_of parts.last parts.reads_last).no_error

    abbrev all_messages : List (List ℕ)
    all_messages = done_messages number done ++ told_messages told

    all_are : all_messages ≡ parts.front ++ parts.last ∷ told_messages told
    all_are = ap (λ (l : List (List ℕ)). l ++ told_messages told) parts.is ∙ append_assoc parts.front (parts.last ∷ []) (told_messages told)

    marks_are : talk.heard.left ++ messages_from at all_messages ≡ messages_from at parts.front ++ Message done_message ∷ messages_from told_from (told_messages told)
    marks_are = ap₂ (λ (l : List Mark) (m : List (List ℕ)). l ++ messages_from at m) left all_are ∙ messages_from-append at parts.front (parts.last ∷ told_messages told)

    all_each : All (IsMessage size_of) all_messages
    all_each = all_by (IsMessage size_of) all_messages (all_append (IsMessage size_of) (done_messages number done) (told_messages told) (done_each number done number_fits short) (told_each told are_told))

    all_replies : reply_to peer (commanding request number seconds) talk ≡ concat all_messages
    all_replies = replies ∙ sym (bytes_are number done told)

    pub command_answered : IsAnsweredBy size_of peer (commanding request number seconds) talk done_before done_message (messages_from told_from (told_messages told))
    command_answered =
        answered_among size_of size_of-kept size_of-positive refl peer (commanding request number seconds) refl talk whole all_messages all_each all_replies (messages_from at parts.front) done_message (messages_from told_from (told_messages told))
        marks_are heard.undecided heard.answers
