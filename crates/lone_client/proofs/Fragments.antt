-- The fragments that a body is split into.
use Rattle.std.proofs.Common.{◌≡◌, ℕ, ◌+◌, ◌-◌, ◌<◌, ◌≤◌, ◌^◌, true, false, ◌&&◌, ◌==◌, nat_le, nat_lt, List, [], ◌∷◌, ◌++◌, length, replicate, refl, ap, sym, ◌∙◌, arith, subst, append-nil}
use Rattle.std.specs.List.{AllByRecursion}
use Rattle.std.proofs.lemmas.Bool.{eq-eqb, and_from}
use Rattle.std.proofs.lemmas.Bool.Decides.{nat_tests}
use Rattle.std.proofs.lemmas.List.Elements.{recursion_from_All}
use Rattle.std.proofs.lemmas.List.FromFn.{length-map-range_with_len, get_or-map-range_with_len}
use Rattle.std.proofs.lemmas.List.{length_push}
use Rattle.framing.specs.Framing.{IsMessage}
use Rattle.framing.specs.Cutting.{cut_from}
use Rattle.framing.proofs.Cuts.{cut-message}
use Rattle.mbim_frame.specs.declared.head.MHead.{MHead}
use Rattle.mbim_frame.specs.declared.kind.MessageKind.TheVariants.{Open, Close, Command, HostError}
use Rattle.mbim_frame.specs.Frame.{size_of, mbim_cut}
use Rattle.mbim_frame.specs.Framing.{size_of-kept, size_of-positive}
use Rattle.mbim_frame.specs.Kinds.{kind_number}
use Rattle.mbim_frame.specs.Head.{kind_of, number_of}
use Rattle.mbim_fragments.specs.Runs.{More, Whole, joinings_from}
use Rattle.mbim_fragments.specs.Splitting.{part_count, piece_at, pieces}
use Rattle.mbim_fragments.proofs.Pieces.{piece_reads, pieces_give_the_body}
use Rattle.mbim_fragments.proofs.Filling.{pieces_are_filled}
use Rattle.lone_client.proofs.Saying.{IsFragment}
use Rattle.lone_client.proofs.Events.{IsPart}

-- a message is the only one in its bytes
pub one_message : (x : List ℕ) → IsMessage size_of x → mbim_cut x ≡ record { messages = x ∷ []; rest = [] }
unfolding cut_from
one_message x is = ap mbim_cut (sym (append-nil x)) ∙ cut-message size_of size_of-kept size_of-positive x [] is

-- ---- the last one ----

pub record HasLast (xs : List (List ℕ)) : Type 0 where
  pub front : List (List ℕ)
  pub last : List ℕ
  pub is : xs ≡ front ++ last ∷ []

last_of : (xs : List (List ℕ)) → 0 < length xs → HasLast xs
last_of [] some = absurd (omega (arith, some))
last_of (x ∷ []) some = record { front = []; last = x; is = refl }
last_of (x ∷ y ∷ xs) some =
    let later = last_of (y ∷ xs) (omega arith) in
    record { front = x ∷ later.front; last = later.last; is = ap (λ (l : List (List ℕ)). x ∷ l) later.is }

parted : (P : List ℕ → Type 0) (xs : List (List ℕ)) (x : List ℕ) → AllByRecursion P (xs ++ x ∷ []) → AllByRecursion P xs × P x
parted P [] x all = (tt, all.0)
parted P (y ∷ xs) x all = let later = parted P xs x all.1 in ((all.0, later.0), later.1)

-- ---- each of them ----

-- a fragment of this kind and number
pub record Reads (kind number : ℕ) (f : List ℕ) : Type 0 where
  pub kind_is : kind_of f ≡ kind
  pub number_is : number_of f ≡ number
  pub long : 20 ≤ length f
  pub short : length f ≤ 4096

module _ (kind number : ℕ) (body : List ℕ) (kind_fits : kind < 2 ^ 32) (number_fits : number < 2 ^ 32) (short : length body ≤ 65536) where
  abbrev total : ℕ
  total = part_count 4076 (length body)

  abbrev fragments : List (List ℕ)
  fragments = pieces kind number 4096 body

  some_pieces : 0 < length fragments
  some_pieces = let count : length fragments ≡ total = length-map-range_with_len (piece_at kind number 4076 body) 0 total in omega (arith, count)

  reads_at : (place : ℕ) → place < total → length (piece_at kind number 4076 body place) ≤ 4096 → Reads kind number (piece_at kind number 4076 body place)
  reads_at place within most =
      let back = piece_reads kind number 4076 body kind_fits number_fits (omega arith) (omega arith) (omega (arith, short)) place within in
      record {
        kind_is = ap (λ (h : MHead). h.kind) back.head;
        number_is = ap (λ (h : MHead). h.number) back.head;
        long = omega arith;
        short = most;
      }

  pub read : AllByRecursion (Reads kind number) fragments
  read =
      recursion_from_All (Reads kind number) fragments
      (λ place other within.
      let inside : place < total = subst (λ (n : ℕ). place < n) (length-map-range_with_len (piece_at kind number 4076 body) 0 total) within in
      let same = get_or-map-range_with_len (piece_at kind number 4076 body) 0 total place place other inside (omega arith) in
      subst (Reads kind number) (sym same) (reads_at place inside (subst (λ (l : List ℕ). length l ≤ 4096) same ((pieces_are_filled kind number 4096 body (omega arith)).within place other within))))

  pub record Split : Type 0 where
    pub front : List (List ℕ)
    pub last : List ℕ
    pub is : fragments ≡ front ++ last ∷ []
    pub joins : joinings_from 65536 [] (front ++ last ∷ []) ≡ replicate (length front) More ++ Whole body ∷ []
    pub reads_front : AllByRecursion (Reads kind number) front
    pub reads_last : Reads kind number last

  pub is_split : Split
  is_split =
      let one = last_of fragments some_pieces in
      let all = parted (Reads kind number) one.front one.last (subst (AllByRecursion (Reads kind number)) one.is read) in
      let count : length fragments - 1 ≡ length one.front = (let pushed : length fragments ≡ length one.front + 1 = ap length one.is ∙ length_push one.front one.last in omega (arith, pushed)) in
      record {
        front = one.front;
        last = one.last;
        is = one.is;
        joins = ap (joinings_from 65536 []) (sym one.is) ∙ (pieces_give_the_body 65536 kind number 4096 body kind_fits number_fits (omega arith) (omega arith) short (omega (arith, short))).each ∙ ap (λ (n : ℕ). replicate n More ++ Whole body ∷ []) count;
        reads_front = all.0;
        reads_last = all.1;
      }

  -- they may come one a piece
  part_of : (f : List ℕ) → Reads kind number f → IsPart f
  part_of f reads = record { some = omega (arith, reads.long); short = omega (arith, reads.short) }

  each_part : (fs : List (List ℕ)) → AllByRecursion (Reads kind number) fs → AllByRecursion IsPart fs
  each_part [] all = tt
  each_part (f ∷ fs) all = (part_of f all.0, each_part fs all.1)

  pub are_parts : AllByRecursion IsPart fragments
  are_parts = each_part fragments read

  pub record BeginsWith (xs : List (List ℕ)) : Type 0 where
    pub first : List ℕ
    pub rest : List (List ℕ)
    pub is : xs ≡ first ∷ rest

  first_of : (xs : List (List ℕ)) → 0 < length xs → BeginsWith xs
  first_of [] some = absurd (omega (arith, some))
  first_of (x ∷ xs) some = record { first = x; rest = xs; is = refl }

  pub begins_with : BeginsWith fragments
  begins_with = first_of fragments some_pieces

-- ---- those of a command ----

is_command_piece : (number : ℕ) (f : List ℕ) → Reads (kind_number Command) number f → IsFragment f
is_command_piece number f reads =
    let long : nat_le 20 (length f) ≡ true = (let n = reads.long in grind (arith, nat_tests, n)) in
    let not_short : nat_lt (length f) 20 ≡ false = (let n = reads.long in grind (arith, nat_tests, n)) in
    record {
      fragment = and_from (kind_of f == 3) (nat_le 20 (length f)) (eq-eqb (kind_of f) 3 reads.kind_is) long;
      no_open = ap (λ (k : ℕ). k == 1 && (length f == 16)) reads.kind_is;
      no_error = ap (λ (k : ℕ). k == kind_number HostError) reads.kind_is;
      no_opening = ap (λ (k : ℕ). k == kind_number Open) reads.kind_is;
      no_close = ap (λ (k : ℕ). k == kind_number Close) reads.kind_is;
      command = eq-eqb (kind_of f) 3 reads.kind_is;
      long = not_short;
    }

command_pieces : (number : ℕ) (fs : List (List ℕ)) → AllByRecursion (Reads (kind_number Command) number) fs → AllByRecursion IsFragment fs
command_pieces number [] all = tt
command_pieces number (f ∷ fs) all = (is_command_piece number f all.0, command_pieces number fs all.1)

-- the last completes the command, and the others leave it open
pub record SplitCommand (number : ℕ) (command : List ℕ) : Type 0 where
  pub front : List (List ℕ)
  pub last : List ℕ
  pub is : pieces (kind_number Command) number 4096 command ≡ front ++ last ∷ []
  pub joins : joinings_from 65536 [] (front ++ last ∷ []) ≡ replicate (length front) More ++ Whole command ∷ []
  pub are : AllByRecursion IsFragment front
  pub last_is : IsFragment last
  pub number_is : number_of last ≡ number

pub command_is_split : (number : ℕ) (command : List ℕ) → number < 2 ^ 32 → length command ≤ 65536 → SplitCommand number command
command_is_split number command number_fits short =
    let one = is_split (kind_number Command) number command (omega arith) number_fits short in
    record {
      front = one.front;
      last = one.last;
      is = one.is;
      joins = one.joins;
      are = command_pieces number one.front one.reads_front;
      last_is = is_command_piece number one.last one.reads_last;
      number_is = one.reads_last.number_is;
    }
