-- Where writes end.
use Rattle.std.proofs.Common.{◌≡◌, ◌⊎◌, inl, inr, ℕ, ◌<◌, ◌≤◌, true, false, List, [], ◌∷◌, ◌++◌, length, take, drop, ⊎_elim, true≢false, refl, sym, ◌∙◌, ap, subst, arith, append_assoc, length-append, take-append-drop}
use Rattle.std.proofs.lemmas.List.{append-nil, take-take}
use Rattle.std.proofs.lemmas.Bool.{false_from_ne_true, cases_lt, cases_Bool}
use Rattle.std.proofs.lemmas.Bool.Decides.{nat_tests}
use Rattle.std.proofs.lemmas.List.Folds.{concat-append}
use Rattle.std.specs.List.{concat}
use Rattle.framing.specs.declared.framing.Size.{Size}
use Rattle.framing.specs.declared.framing.Size.TheVariants.{Unknown, Known, Invalid}
use Rattle.framing.specs.Framing.{IsMessage, IsPartial, IsBad, IsShort, IsKept, IsPositive, is_message, is_whole}
use Rattle.framing.specs.Cutting.{Cutting, cut}
use Rattle.framing.proofs.Cuts.{cut-append, cut-partial, cut-bad, cut-message}
use Rattle.node_frame.specs.Frame.{size_of}
use Rattle.node_frame.specs.Framing.{size_of-kept, size_of-positive}
use Rattle.pump.specs.Writes.{some, writes_from, writes_behind, writes_of}

-- ---- messages ----

whole_is : (size : Size) (count : ℕ) → is_whole size count ≡ true → size ≡ Known count
whole_is Unknown count is = absurd (cc)
whole_is (Known length) count is = let same : length ≡ count = grind (arith, nat_tests) in ap (λ (n : ℕ). Known n) same
whole_is Invalid count is = absurd (cc)

is_whole-known : (count : ℕ) → is_whole (Known count) count ≡ true
is_whole-known count = grind (arith, nat_tests)

is_message-true : (bytes : List ℕ) → IsMessage size_of bytes → is_message size_of bytes ≡ true
is_message-true bytes is = ap (λ (s : Size). is_whole s (length bytes)) is ∙ is_whole-known (length bytes)

-- what a message says of its length, all that begin with it say
size-message : (message more : List ℕ) → IsMessage size_of message → size_of (message ++ more) ≡ Known (length message)
size-message message more is =
    let P : Size → Type 0 = λ (s : Size). IsKept s (size_of (message ++ more)) in subst P is (size_of-kept message more)

-- no message goes on within another
front_is_none : (front : List ℕ) (byte : ℕ) (rest : List ℕ) → IsMessage size_of (front ++ byte ∷ rest) → is_message size_of front ≡ false
front_is_none front byte rest whole = false_from_ne_true _ (λ is.
    let early = size-message front (byte ∷ rest) (whole_is (size_of front) (length front) is) in
    let same : Known (length front) ≡ Known (length (front ++ byte ∷ rest)) = sym early ∙ whole in
    let count : length front ≡ length (front ++ byte ∷ rest) = cc in
    omega (arith, length-append front (byte ∷ rest)))

pub message_is_some : (message : List ℕ) → IsMessage size_of message → 0 < length message
message_is_some message is = let P : Size → Type 0 = IsPositive in subst P is (size_of-positive message)

-- these bytes hold no whole message
abbrev pub HoldsNone : List ℕ → Type 0
HoldsNone bytes = IsPartial size_of bytes ⊎ IsBad size_of bytes

none_within : (bytes : List ℕ) → HoldsNone bytes → (front more : List ℕ) → bytes ≡ front ++ more → is_message size_of front ≡ false
none_within bytes (inl part) front more is = false_from_ne_true _ (λ t.
    let known : size_of bytes ≡ Known (length front) = ap size_of is ∙ size-message front more (whole_is (size_of front) (length front) t) in
    let P : Size → Type 0 = λ (s : Size). IsShort s (length bytes) in
    let short : length bytes < length front = subst P known part in
    omega (arith, ap length is, length-append front more))
none_within bytes (inr bad) front more is = false_from_ne_true _ (λ t.
    let known : size_of bytes ≡ Known (length front) = ap size_of is ∙ size-message front more (whole_is (size_of front) (length front) t) in
    let clash : Invalid ≡ Known (length front) = sym bad ∙ known in cc)

pub cut-none : (bytes : List ℕ) → HoldsNone bytes → cut size_of bytes ≡ record { messages = []; rest = bytes }
cut-none bytes (inl part) = cut-partial size_of size_of-kept bytes part
cut-none bytes (inr bad) = cut-bad size_of size_of-kept bytes bad

-- bytes that begin a message, and hold less than it
pub begun_is_shorter : (bytes : List ℕ) (begun count : ℕ) → begun ≤ length bytes → count ≤ length bytes → IsPartial size_of (take begun bytes) → IsMessage size_of (take count bytes) → begun < count
begun_is_shorter bytes begun count begun_in count_in part message = ⊎_elim (λ (less : begun < count). less) (λ (more : count ≤ begun).
    let front : List ℕ = take count bytes in
    let split : take begun bytes ≡ front ++ drop count (take begun bytes) =
    sym (take-append-drop count (take begun bytes)) ∙ ap (λ (l : List ℕ). l ++ drop count (take begun bytes)) (take-take count begun bytes more) in
    let none = none_within (take begun bytes) (inl part) front (drop count (take begun bytes)) split in
    absurd (true≢false (sym (is_message-true front message) ∙ none))) (cases_lt begun count)

-- ---- writes ----

-- the byte that ends a message
pub writes_from-ends : (begun unwritten : List ℕ) (byte : ℕ) (piece : List ℕ) → is_message size_of (begun ++ byte ∷ []) ≡ true
    → writes_from begun unwritten (byte ∷ piece) ≡ (unwritten ++ byte ∷ []) ∷ writes_from [] [] piece
unfolding writes_from
writes_from-ends begun unwritten byte piece ends = rw (ends, writes_from) refl

-- a byte that ends none
pub writes_from-goes_on : (begun unwritten : List ℕ) (byte : ℕ) (piece : List ℕ) → is_message size_of (begun ++ byte ∷ []) ≡ false
    → writes_from begun unwritten (byte ∷ piece) ≡ writes_from (begun ++ byte ∷ []) (unwritten ++ byte ∷ []) piece
unfolding writes_from
writes_from-goes_on begun unwritten byte piece goes_on = rw (goes_on, writes_from) refl

-- the end of a message
pub writes_from-message : (begun unwritten tail piece : List ℕ) → IsMessage size_of (begun ++ tail) → 0 < length tail
    → writes_from begun unwritten (tail ++ piece) ≡ (unwritten ++ tail) ∷ writes_from [] [] piece
writes_from-message begun unwritten [] piece whole some = absurd (omega arith)
writes_from-message begun unwritten (byte ∷ []) piece whole some = writes_from-ends begun unwritten byte piece (is_message-true (begun ++ byte ∷ []) whole)
writes_from-message begun unwritten (byte ∷ next ∷ tail) piece whole some =
    let P : List ℕ → Type 0 = IsMessage size_of in
    let moved = subst P (sym (append_assoc begun (byte ∷ []) (next ∷ tail))) whole in
    writes_from-goes_on begun unwritten byte (next ∷ (tail ++ piece)) (front_is_none (begun ++ byte ∷ []) next tail moved)
    ∙ writes_from-message (begun ++ byte ∷ []) (unwritten ++ byte ∷ []) (next ∷ tail) piece moved (omega arith)
    ∙ ap (λ (m : List ℕ). m ∷ writes_from [] [] piece) (append_assoc unwritten (byte ∷ []) (next ∷ tail))

-- bytes of which no front ends a message
writes_from-none_by : (begun unwritten tail : List ℕ) → ((front more : List ℕ) → begun ++ tail ≡ front ++ more → is_message size_of front ≡ false)
    → writes_from begun unwritten tail ≡ some (unwritten ++ tail)
unfolding writes_from
writes_from-none_by begun unwritten [] none = ap some (sym (append-nil unwritten))
writes_from-none_by begun unwritten (byte ∷ tail) none =
    let joined = append_assoc begun (byte ∷ []) tail in
    writes_from-goes_on begun unwritten byte tail (none (begun ++ byte ∷ []) tail (sym joined))
    ∙ writes_from-none_by (begun ++ byte ∷ []) (unwritten ++ byte ∷ []) tail (λ front more is. none front more (sym joined ∙ is))
    ∙ ap some (append_assoc unwritten (byte ∷ []) tail)

pub writes_from-none : (begun unwritten tail : List ℕ) → HoldsNone (begun ++ tail) → writes_from begun unwritten tail ≡ some (unwritten ++ tail)
writes_from-none begun unwritten tail holds = writes_from-none_by begun unwritten tail (none_within (begun ++ tail) holds)

-- what is written is what came
concat-some : (bytes : List ℕ) → concat (some bytes) ≡ bytes
concat-some [] = refl
concat-some (byte ∷ bytes) = append-nil (byte ∷ bytes)

concat-writes_from : (begun unwritten piece : List ℕ) → concat (writes_from begun unwritten piece) ≡ unwritten ++ piece
unfolding writes_from
concat-writes_from begun unwritten [] = concat-some unwritten ∙ sym (append-nil unwritten)
concat-writes_from begun unwritten (byte ∷ piece) =
    let P : List (List ℕ) → Type 0 = λ (l : List (List ℕ)). concat l ≡ unwritten ++ byte ∷ piece in
    ⊎_elim
    (λ ends. subst P (sym (writes_from-ends begun unwritten byte piece ends))
    (ap (λ (l : List ℕ). (unwritten ++ byte ∷ []) ++ l) (concat-writes_from [] [] piece) ∙ append_assoc unwritten (byte ∷ []) piece))
    (λ goes_on. subst P (sym (writes_from-goes_on begun unwritten byte piece goes_on))
    (concat-writes_from (begun ++ byte ∷ []) (unwritten ++ byte ∷ []) piece ∙ append_assoc unwritten (byte ∷ []) piece))
    (cases_Bool (is_message size_of (begun ++ byte ∷ [])))

pub concat-writes_behind : (before piece : List ℕ) → concat (writes_behind before piece) ≡ piece
concat-writes_behind before piece = concat-writes_from (cut size_of before).rest [] piece

pub concat-writes_of : (before : List ℕ) (pieces : List (List ℕ)) → concat (writes_of before pieces) ≡ concat pieces
concat-writes_of before [] = refl
concat-writes_of before (piece ∷ pieces) =
    concat-append (writes_behind before piece) (writes_of (before ++ piece) pieces)
    ∙ ap (λ (l : List ℕ). l ++ concat (writes_of (before ++ piece) pieces)) (concat-writes_behind before piece)
    ∙ ap (λ (l : List ℕ). piece ++ l) (concat-writes_of (before ++ piece) pieces)

-- one piece more
pub writes_of-push : (before : List ℕ) (pieces : List (List ℕ)) (piece : List ℕ) → writes_of before (pieces ++ piece ∷ []) ≡ writes_of before pieces ++ writes_behind (before ++ concat pieces) piece
writes_of-push before [] piece =
    append-nil (writes_behind before piece) ∙ ap (λ (l : List ℕ). writes_behind l piece) (sym (append-nil before))
writes_of-push before (first ∷ pieces) piece =
    ap (λ (l : List (List ℕ)). writes_behind before first ++ l) (writes_of-push (before ++ first) pieces piece)
    ∙ sym (append_assoc (writes_behind before first) (writes_of (before ++ first) pieces) (writes_behind ((before ++ first) ++ concat pieces) piece))
    ∙ ap (λ (l : List ℕ). (writes_behind before first ++ writes_of (before ++ first) pieces) ++ writes_behind l piece) (append_assoc before first (concat pieces))

-- no bytes are no writes
pub writes_behind-nil : (before : List ℕ) → writes_behind before [] ≡ []
unfolding writes_from
writes_behind-nil before = refl

-- ---- what begins, from one piece to the next ----

-- what a stream leaves and the next piece
pub rest-append : (before piece : List ℕ) → (cut size_of (before ++ piece)).rest ≡ (cut size_of ((cut size_of before).rest ++ piece)).rest
rest-append before piece = ap (λ (c : Cutting). c.rest) (cut-append size_of before piece)

-- a message is passed over
pub rest-message : (message stream : List ℕ) → IsMessage size_of message → (cut size_of (message ++ stream)).rest ≡ (cut size_of stream).rest
rest-message message stream is = ap (λ (c : Cutting). c.rest) (cut-message size_of size_of-kept size_of-positive message stream is)

pub rest-none : (bytes : List ℕ) → HoldsNone bytes → (cut size_of bytes).rest ≡ bytes
rest-none bytes holds = ap (λ (c : Cutting). c.rest) (cut-none bytes holds)

-- a bad stream stays bad
pub bad-more : (bytes more : List ℕ) → IsBad size_of bytes → IsBad size_of (bytes ++ more)
bad-more bytes more bad = let P : Size → Type 0 = λ (s : Size). IsKept s (size_of (bytes ++ more)) in subst P bad (size_of-kept bytes more)
