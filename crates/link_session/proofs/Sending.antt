-- What a session's calls send, step by step.
use Rattle.std.proofs.Common.{◌≡◌, ℕ, suc, true, false, List, [], ◌∷◌, ◌++◌, take, All, Result, Ok, Err, refl, sym, ◌∙◌, ap, subst, append_assoc}
use Rattle.std.proofs.lemmas.List.{append-nil}
use Rattle.std.proofs.lemmas.List.Elements.{All-nil, All-cons, All-append, All-head, All-tail, All-weaker}
use Rattle.std.specs.List.{concat}
use Rattle.link_io.specs.Calls.{Call, Opened, Paired, Sent, Took, WasQuiet, WasEnd, TakeFailed, Closed}
use Rattle.link_session.specs.declared.fault.SessionFault.{SessionFault}
use Rattle.link_session.specs.Marks.{Placed, IsTake}
use Rattle.link_session.specs.Waiting.{Heard, Outcome, Answered, Fails}
use Rattle.link_session.specs.Asking.{Asked, Asks, unmade, unsent, sent, Stops, AfterOutcome, AfterReading, Step, ReadsThen}
use Rattle.link_session.specs.Sending.{IsSendOrTake, SendsInOrder, sent_in, sent_before_takes, EndsWell}

-- ---- takes send nothing ----

take_is : (call : Call) → IsTake call → IsSendOrTake call
take_is (Took piece) is = tt
take_is WasQuiet is = tt
take_is WasEnd is = tt
take_is TakeFailed is = tt
take_is (Sent bytes ok) is = tt
take_is (Opened address ok) is = absurd is
take_is (Paired ok) is = absurd is
take_is Closed is = absurd is

one_sent : (call : Call) (calls : List Call) → IsTake call → sent_in (call ∷ calls) ≡ sent_in calls
unfolding sent_in
one_sent (Took piece) calls is = refl
one_sent WasQuiet calls is = refl
one_sent WasEnd calls is = refl
one_sent TakeFailed calls is = refl
one_sent (Sent bytes ok) calls is = absurd is
one_sent (Opened address ok) calls is = absurd is
one_sent (Paired ok) calls is = absurd is
one_sent Closed calls is = absurd is

takes_send : (takes : List Call) → All IsTake takes → sent_in takes ≡ []
unfolding sent_in
takes_send [] each = refl
takes_send (call ∷ takes) each = one_sent call takes (All-head IsTake call takes each) ∙ takes_send takes (All-tail IsTake call takes each)

pub sent_in-append : (xs ys : List Call) → sent_in (xs ++ ys) ≡ sent_in xs ++ sent_in ys
unfolding sent_in
sent_in-append [] ys = refl
sent_in-append (Sent bytes ok ∷ xs) ys = ap (λ (l : List ℕ). bytes ++ l) (sent_in-append xs ys) ∙ sym (append_assoc bytes (sent_in xs) (sent_in ys))
sent_in-append (Took piece ∷ xs) ys = sent_in-append xs ys
sent_in-append (WasQuiet ∷ xs) ys = sent_in-append xs ys
sent_in-append (WasEnd ∷ xs) ys = sent_in-append xs ys
sent_in-append (TakeFailed ∷ xs) ys = sent_in-append xs ys
sent_in-append (Opened address ok ∷ xs) ys = sent_in-append xs ys
sent_in-append (Paired ok ∷ xs) ys = sent_in-append xs ys
sent_in-append (Closed ∷ xs) ys = sent_in-append xs ys

one_before : (so_far : List ℕ) (call : Call) (calls : List Call) → IsTake call → sent_before_takes so_far (call ∷ calls) ≡ so_far ∷ sent_before_takes so_far calls
unfolding sent_before_takes
one_before so_far (Took piece) calls is = refl
one_before so_far WasQuiet calls is = refl
one_before so_far WasEnd calls is = refl
one_before so_far TakeFailed calls is = refl
one_before so_far (Sent bytes ok) calls is = absurd is
one_before so_far (Opened address ok) calls is = absurd is
one_before so_far (Paired ok) calls is = absurd is
one_before so_far Closed calls is = absurd is

before_takes : (so_far : List ℕ) (takes : List Call) → All IsTake takes → All (λ (bytes : List ℕ). bytes ≡ so_far) (sent_before_takes so_far takes)
unfolding sent_before_takes
before_takes so_far [] each = All-nil (λ (bytes : List ℕ). bytes ≡ so_far)
before_takes so_far (call ∷ takes) each =
    rw (one_before so_far call takes (All-head IsTake call takes each))
    (All-cons (λ (bytes : List ℕ). bytes ≡ so_far) so_far (sent_before_takes so_far takes) refl (before_takes so_far takes (All-tail IsTake call takes each)))

pub before-append : (so_far : List ℕ) (xs ys : List Call) → sent_before_takes so_far (xs ++ ys) ≡ sent_before_takes so_far xs ++ sent_before_takes (so_far ++ sent_in xs) ys
unfolding sent_in sent_before_takes
before-append so_far [] ys = ap (λ (l : List ℕ). sent_before_takes l ys) (sym (append-nil so_far))
before-append so_far (Sent bytes ok ∷ xs) ys =
    before-append (so_far ++ bytes) xs ys ∙ ap (λ (l : List ℕ). sent_before_takes (so_far ++ bytes) xs ++ sent_before_takes l ys) (append_assoc so_far bytes (sent_in xs))
before-append so_far (Took piece ∷ xs) ys = ap (λ (l : List (List ℕ)). so_far ∷ l) (before-append so_far xs ys)
before-append so_far (WasQuiet ∷ xs) ys = ap (λ (l : List (List ℕ)). so_far ∷ l) (before-append so_far xs ys)
before-append so_far (WasEnd ∷ xs) ys = ap (λ (l : List (List ℕ)). so_far ∷ l) (before-append so_far xs ys)
before-append so_far (TakeFailed ∷ xs) ys = ap (λ (l : List (List ℕ)). so_far ∷ l) (before-append so_far xs ys)
before-append so_far (Opened address ok ∷ xs) ys = before-append so_far xs ys
before-append so_far (Paired ok ∷ xs) ys = before-append so_far xs ys
before-append so_far (Closed ∷ xs) ys = before-append so_far xs ys

-- ---- one request ----

-- the first text is sent before each take
abbrev pub AreBehind : List ℕ → List ℕ → List ℕ → Type 0
AreBehind so_far text bytes = bytes ≡ so_far ++ text

-- these calls sent a front of a text, and all of it where the request was answered or a take was made
record SendsOne (text : List ℕ) (calls : List Call) (outcome : Outcome) : Type 0 where
  pub left : List ℕ
  pub are : text ≡ sent_in calls ++ left
  pub all : (passed : List Placed) (message : Placed) → outcome ≡ Answered passed message → left ≡ []
  pub before : (so_far : List ℕ) → All (AreBehind so_far text) (sent_before_takes so_far calls)
  pub each : All IsSendOrTake calls

Asks-sends : {asked : Asked} {heard later : Heard} {calls : List Call} {outcome : Outcome} → Asks asked heard calls outcome later → SendsOne asked.text calls outcome
unfolding sent_in sent_before_takes
Asks-sends {asked = asked} (unmade none fails) =
    rw (none, fails) (record {
      left = asked.text;
      are = refl;
      all = λ passed message is. absurd (cc);
      before = λ so_far. All-nil (AreBehind so_far asked.text);
      each = All-nil IsSendOrTake;
    })
Asks-sends {asked = asked} (unsent front rest whole are fails) =
    rw (are, fails) (record {
      left = rest;
      are = whole ∙ ap (λ (l : List ℕ). l ++ rest) (sym (append-nil front));
      all = λ passed message is. absurd (cc);
      before = λ so_far. All-nil (AreBehind so_far asked.text);
      each = All-cons IsSendOrTake (Sent front false) [] tt (All-nil IsSendOrTake);
    })
Asks-sends {asked = asked} (sent takes are waits) =
    let each = waits.brings.each in
    let m : List ℕ = asked.text in
    let whole : m ≡ (m ++ sent_in takes) ++ [] = sym (append-nil (m ++ sent_in takes) ∙ ap (λ (l : List ℕ). m ++ l) (takes_send takes each) ∙ append-nil m) in
    rw are (record {
      left = [];
      are = whole;
      all = λ passed message is. refl;
      before = λ so_far. before_takes (so_far ++ m) takes each;
      each = All-cons IsSendOrTake (Sent m true) takes tt (All-weaker IsTake IsSendOrTake take_is takes each);
    })

-- ---- what follows ----

-- whole texts, the first of these, stand behind these bytes
abbrev pub AreFirstBehind : List ℕ → List (List ℕ) → List ℕ → Type 0
AreFirstBehind so_far texts bytes = (count : ℕ) × (bytes ≡ so_far ++ concat (take count texts))

-- the bytes before a take that follows the first text, or the texts behind it
first_behind : (text : List ℕ) (texts : List (List ℕ)) (so_far bytes : List ℕ) → AreBehind so_far text bytes → AreFirstBehind so_far (text ∷ texts) bytes
first_behind text texts so_far bytes are = (1, are ∙ ap (λ (l : List ℕ). so_far ++ l) (sym (append-nil text)))

more_behind : (text : List ℕ) (texts : List (List ℕ)) (own : List ℕ) → text ≡ own → (so_far bytes : List ℕ) → AreFirstBehind (so_far ++ own) texts bytes
    → AreFirstBehind so_far (text ∷ texts) bytes
more_behind text texts own first so_far bytes (count, are) = (
  suc count,
  are
      ∙ append_assoc so_far own (concat (take count texts))
      ∙ ap (λ (l : List ℕ). so_far ++ (l ++ concat (take count texts))) (sym first),
)

module _ {E : Type 0} (IsGood : E → Type 0) where
  -- these calls sent the texts up to some byte, for some choice of what a session learns as it goes on
  pub record Sends (texts : ℕ → List (List ℕ)) (calls : List Call) (result : Result E SessionFault) : Type 0 where
    pub choice : ℕ
    pub left : List ℕ
    pub in_all : concat (texts choice) ≡ sent_in calls ++ left
    pub ends : EndsWell IsGood result → left ≡ []
    pub before : (so_far : List ℕ) → All (AreFirstBehind so_far (texts choice)) (sent_before_takes so_far calls)
    pub each : All IsSendOrTake calls

  -- from the start on
  pub Sends-order : {texts : ℕ → List (List ℕ)} {calls : List Call} {result : Result E SessionFault} (sends : Sends texts calls result) → SendsInOrder (texts sends.choice) calls (EndsWell IsGood result)
  Sends-order sends = record { before_takes = sends.before []; unsent = sends.left; in_all = sends.in_all; ends = sends.ends }

  -- nothing more is sent
  pub Sends-stops : (texts : ℕ → List (List ℕ)) {end : Result E SessionFault} {calls : List Call} {result : Result E SessionFault} → Stops end calls result → (EndsWell IsGood end → texts 0 ≡ [])
      → Sends texts calls result
  unfolding sent_in sent_before_takes
  Sends-stops texts (none, is) all =
      rw (none, is) (record {
        choice = 0;
        left = concat (texts 0);
        in_all = refl;
        ends = λ ends. ap concat (all ends);
        before = λ so_far. All-nil (AreFirstBehind so_far (texts 0));
        each = All-nil IsSendOrTake;
      })

  -- the same texts
  pub Sends-as : {texts same : ℕ → List (List ℕ)} {calls : List Call} {result : Result E SessionFault} → ((n : ℕ) → texts n ≡ same n) → Sends texts calls result → Sends same calls result
  Sends-as {calls = calls} are sends =
      let P : List (List ℕ) → Type 0 = λ (l : List (List ℕ)). (concat l ≡ sent_in calls ++ sends.left) × ((so_far : List ℕ) → All (AreFirstBehind so_far l) (sent_before_takes so_far calls)) in
      let moved = subst P (are sends.choice) (sends.in_all, sends.before) in
      record { choice = sends.choice; left = sends.left; in_all = moved.0; ends = sends.ends; before = moved.1; each = sends.each }

  -- the choice is known
  pub Sends-known : (texts : ℕ → List (List ℕ)) {calls : List Call} {result : Result E SessionFault} (choice : ℕ) → Sends (λ n. texts choice) calls result → Sends texts calls result
  Sends-known texts choice sends = record { choice = choice; left = sends.left; in_all = sends.in_all; ends = sends.ends; before = sends.before; each = sends.each }

  -- a request, and what follows it
  module _ {text : List ℕ} {result : Result E SessionFault} (texts : ℕ → List (List ℕ)) where
    sends_behind : (own more : List Call) (outcome : Outcome) (Then : List Placed → Placed → Type 0) → SendsOne text own outcome → AfterOutcome outcome more result Then
        → ((passed : List Placed) (message : Placed) → Then passed message → Sends texts more result) → Sends (λ n. text ∷ texts n) (own ++ more) result
    sends_behind own more (Fails why) Then one follows next =
        rw (follows.0, follows.1, append-nil own) (record {
          choice = 0;
          left = one.left ++ concat (texts 0);
          in_all = ap (λ (l : List ℕ). l ++ concat (texts 0)) one.are ∙ append_assoc (sent_in own) one.left (concat (texts 0));
          ends = λ ends. absurd ends;
          before = λ so_far. All-weaker (AreBehind so_far text) (AreFirstBehind so_far (text ∷ texts 0)) (first_behind text (texts 0) so_far) (sent_before_takes so_far own) (one.before so_far);
          each = one.each;
        })
    sends_behind own more (Answered passed message) Then one follows next =
        let rest = next passed message follows in
        let n : ℕ = rest.choice in
        let first : text ≡ sent_in own = one.are ∙ ap (λ (l : List ℕ). sent_in own ++ l) (one.all passed message refl) ∙ append-nil (sent_in own) in
        record {
          choice = n;
          left = rest.left;
          in_all =
              ap (λ (l : List ℕ). l ++ concat (texts n)) first
              ∙ ap (λ (l : List ℕ). sent_in own ++ l) rest.in_all
              ∙ sym (append_assoc (sent_in own) (sent_in more) rest.left)
              ∙ ap (λ (l : List ℕ). l ++ rest.left) (sym (sent_in-append own more));
          ends = rest.ends;
          before = λ so_far.
              rw (before-append so_far own more)
              (All-append (AreFirstBehind so_far (text ∷ texts n)) (sent_before_takes so_far own) (sent_before_takes (so_far ++ sent_in own) more)
              (All-weaker (AreBehind so_far text) (AreFirstBehind so_far (text ∷ texts n)) (first_behind text (texts n) so_far) (sent_before_takes so_far own) (one.before so_far))
              (All-weaker (AreFirstBehind (so_far ++ sent_in own) (texts n)) (AreFirstBehind so_far (text ∷ texts n)) (more_behind text (texts n) (sent_in own) first so_far)
              (sent_before_takes (so_far ++ sent_in own) more) (rest.before (so_far ++ sent_in own))));
          each = All-append IsSendOrTake own more one.each rest.each;
        }

  pub Sends-step : (texts : ℕ → List (List ℕ)) {asked : Asked} {heard : Heard} {calls : List Call} {result : Result E SessionFault} {Then : List Placed → Placed → Heard → List Call → Type 0} → Step asked heard calls result Then
      → ((passed : List Placed) (message : Placed) (later : Heard) (more : List Call) → Then passed message later more → Sends texts more result) → Sends (λ n. asked.text ∷ texts n) calls result
  Sends-step texts {Then = Then} step next =
      rw step.are
      (sends_behind texts step.own step.more step.outcome (λ passed message. Then passed message step.later step.more) (Asks-sends step.asks) step.follows (λ passed message. next passed message step.later step.more))

  -- an answer that is read, and what follows it
  read_sends : {A : Type 0} (read : Result A SessionFault) (Reads : Result A SessionFault → Type 0) {calls : List Call} {result : Result E SessionFault} {Then : A → Type 0} (texts : ℕ → List (List ℕ))
      → Reads read → AfterReading read calls result Then → ((answer : A) → Reads (Ok answer) → Then answer → Sends texts calls result) → Sends texts calls result
  read_sends (Ok answer) Reads texts reads follows next = next answer reads follows
  read_sends (Err why) Reads texts reads follows next = Sends-stops texts follows (λ ends. absurd ends)

  pub Sends-read : {A : Type 0} {Reads : Result A SessionFault → Type 0} {calls : List Call} {result : Result E SessionFault} {Then : A → Type 0} (texts : ℕ → List (List ℕ))
      → ReadsThen Reads calls result Then → ((answer : A) → Reads (Ok answer) → Then answer → Sends texts calls result) → Sends texts calls result
  Sends-read {Reads = Reads} texts reads next = read_sends reads.read Reads texts reads.reads reads.follows next
