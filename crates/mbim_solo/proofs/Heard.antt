-- What the proxy hears of the modem: bodies that were joined, and messages that came whole.
use Rattle.std.proofs.Common.{◌≡◌, ◌⊎◌, ℕ, ◌+◌, ◌≤◌, Bool, true, false, not, nat_lt, nat_le, ◌==◌, if◌then◌else◌, List, [], ◌∷◌, ◌++◌, length, take, drop, refl, ap, sym, inl, inr, subst, arith, take-append-drop}
use Rattle.std.specs.List.{AllByRecursion}
use Rattle.std.proofs.lemmas.Bool.{eqb-true, and_parts}
use Rattle.std.proofs.lemmas.Bool.Decides.{nat_tests}
use Rattle.kit_bytes.proofs.Lists.{all_apart}
use Rattle.framing.specs.Framing.{IsMessage}
use Rattle.framing.proofs.Cuts.{cut-each}
use Rattle.mbim_frame.specs.declared.kind.MessageKind.{MessageKind}
use Rattle.mbim_frame.specs.declared.kind.MessageKind.TheVariants.{CommandDone, IndicateStatus}
use Rattle.mbim_frame.specs.Kinds.{kind_number}
use Rattle.mbim_frame.specs.Frame.{size_of, mbim_cut}
use Rattle.mbim_frame.specs.Head.{kind_of, is_kind, number_of}
use Rattle.mbim_frame.specs.Fragment.{total_of, current_of, body_of}
use Rattle.mbim_frame.specs.Writing.{unsplit}
use Rattle.mbim_fragments.specs.Runs.{Joining, Whole, More, OutOfSequence, TooLong}
use Rattle.mbim_fragments.specs.Assembling.{Assembled, is_due_behind, joining_behind}
use Rattle.proxy_history.specs.Items.{delivered_by_piece}
use Rattle.mbim_proxy.specs.Setup.{Setup}
use Rattle.mbim_proxy.specs.Delivering.{Begun, none_begun, is_fragment, heard_whole, heard_with, heard_from, begun_after, deliver}
use Rattle.mbim_proxy.specs.History.{mbim_protocol}

-- a body that was joined, in one message
pub record IsJoined (longest : ℕ) (kind : MessageKind) (m : List ℕ) : Type 0 where
  pub number : ℕ
  pub body : List ℕ
  pub is : m ≡ unsplit (kind_number kind) number body
  pub fits : length body ≤ longest

-- a message that came whole
pub record IsPlain (m : List ℕ) : Type 0 where
  pub message : IsMessage size_of m
  pub no_answer : is_fragment CommandDone m ≡ false
  pub no_indication : is_fragment IndicateStatus m ≡ false

abbrev pub CameAs : (longest : ℕ) → List ℕ → Type 0
CameAs longest m = IsJoined longest CommandDone m ⊎ (IsJoined longest IndicateStatus m ⊎ IsPlain m)

module _ (longest : ℕ) where
  joined_fits : (a : Assembled) (m body : List ℕ) → joining_behind longest a m ≡ Whole body → length body ≤ longest
  joined_fits a m body is = by (is_due_behind a.progress m) (nat_lt longest (length (a.body ++ body_of m))) (current_of m + 1 == total_of m) refl is
    where
      by : (due long last : Bool) → nat_lt longest (length (a.body ++ body_of m)) ≡ long
          → (let j : Joining = if not due then OutOfSequence else if long then TooLong else if last then Whole (a.body ++ body_of m) else More in j) ≡ Whole body → length body ≤ longest
      by false long last e is = absurd (cc)
      by true true last e is = absurd (cc)
      by true false true e is = let same : a.body ++ body_of m ≡ body = cc in let few : length (a.body ++ body_of m) ≤ longest = grind (arith, nat_tests, e) in subst (λ (l : List ℕ). length l ≤ longest) same few
      by true false false e is = absurd (cc)

  joined_as : (kind : MessageKind) (Came : List ℕ → Type 0) → ((m : List ℕ) → IsJoined longest kind m → Came m) → (a : Assembled) (m : List ℕ) → is_kind kind m ≡ true
      → (j : Joining) → joining_behind longest a m ≡ j → AllByRecursion Came (heard_whole m j)
  joined_as kind Came so a m of (Whole body) is =
      (so _ (record { number = number_of m; body = body; is = ap (λ (k : ℕ). unsplit k (number_of m) body) (eqb-true (kind_of m) (kind_number kind) of); fits = joined_fits a m body is }), tt)
  joined_as kind Came so a m of More is = tt
  joined_as kind Came so a m of OutOfSequence is = tt
  joined_as kind Came so a m of TooLong is = tt

  with_one : (begun : Begun) (m : List ℕ) → IsMessage size_of m → AllByRecursion (CameAs longest) (heard_with longest begun m)
  with_one begun m message = by (is_fragment CommandDone m) (is_fragment IndicateStatus m) refl refl
    where
      by : (answer indication : Bool) → is_fragment CommandDone m ≡ answer → is_fragment IndicateStatus m ≡ indication
          → AllByRecursion (CameAs longest) (let l : List (List ℕ) = if answer then heard_whole m (joining_behind longest begun.answer m) else if indication then heard_whole m (joining_behind longest begun.indication m) else m ∷ [] in l)
      by true indication a i = joined_as CommandDone (CameAs longest) (λ w joined. inl joined) begun.answer m (and_parts (is_kind CommandDone m) (nat_le 20 (length m)) a).0 (joining_behind longest begun.answer m) refl
      by false true a i = joined_as IndicateStatus (CameAs longest) (λ w joined. inr (inl joined)) begun.indication m (and_parts (is_kind IndicateStatus m) (nat_le 20 (length m)) i).0 (joining_behind longest begun.indication m) refl
      by false false a i = (inr (inr (record { message = message; no_answer = a; no_indication = i })), tt)

  both_all : (P : List ℕ → Type 0) (xs ys : List (List ℕ)) → AllByRecursion P xs → AllByRecursion P ys → AllByRecursion P (xs ++ ys)
  both_all P [] ys all more = more
  both_all P (x ∷ xs) ys all more = (all.0, both_all P xs ys all.1 more)

  with_each : (begun : Begun) (messages : List (List ℕ)) → AllByRecursion (IsMessage size_of) messages → AllByRecursion (CameAs longest) (heard_from longest begun messages)
  unfolding heard_from
  with_each begun [] all = tt
  with_each begun (m ∷ messages) all = both_all (CameAs longest) (heard_with longest begun m) (heard_from longest (begun_after longest begun m) messages) (with_one begun m all.0) (with_each (begun_after longest begun m) messages all.1)

-- so did each message that is heard with a piece
pub each_came : (s : Setup) (before piece : List ℕ) → AllByRecursion (CameAs s.longest_body) (delivered_by_piece (mbim_protocol s) before piece)
each_came s before piece =
    let heard : List (List ℕ) = deliver s.longest_body (mbim_cut (before ++ piece)).messages in
    let count : ℕ = length (deliver s.longest_body (mbim_cut before).messages) in
    let all : AllByRecursion (CameAs s.longest_body) heard = with_each s.longest_body none_begun (mbim_cut (before ++ piece)).messages (cut-each size_of (before ++ piece)) in
    (all_apart (CameAs s.longest_body) (take count heard) (drop count heard) (subst (AllByRecursion (CameAs s.longest_body)) (sym (take-append-drop count heard)) all)).1
