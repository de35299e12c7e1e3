-- A client's bytes, cut at the ends of its messages, are the same bytes and bring the same messages.
use Rattle.std.proofs.Common.{◌≡◌, ℕ, Bool, true, false, List, [], ◌∷◌, ◌++◌, length, drop, map, refl, ap, sym, ◌∙◌, subst, append_assoc, append-nil}
use Rattle.std.specs.List.{AllByRecursion, concat}
use Rattle.std.proofs.lemmas.List.{drop_at}
use Rattle.framing.specs.Framing.{IsMessage, is_invalid}
use Rattle.framing.specs.Cutting.{Cutting, cut_from, cut}
use Rattle.framing.proofs.Cuts.{cut-each, cut-whole}
use Rattle.mbim_frame.specs.Frame.{size_of}
use Rattle.mbim_frame.specs.Framing.{size_of-kept, size_of-positive}
use Rattle.proxy_history.specs.Streams.{messages_of_piece, is_bad}
use Rattle.proxy_history.specs.Items.{Item, Says, GoesBad, item_if, client_items}
use Rattle.proxy_history.proofs.Streams.{goes_on_from_rest}
use Rattle.proxy_solo.proofs.Fronts.{first_is, goes_on, rest_holds_none}
use Rattle.proxy_history.proofs.Pieces.{EndsMessage, ends_message}
use Rattle.mbim_solo.specs.Solo.{part_if_some, cut_at_ends, parts}
use Rattle.mbim_solo.specs.Law.{brought, AreThePiece, PartsAreThePiece}

module _ (c : ℕ) where
  abbrev items : (messages : List (List ℕ)) → (rest : List ℕ) → List Item
  items messages rest = map (λ m. Says c m) messages ++ item_if (is_invalid (size_of rest)) (GoesBad c)

  ends : (before front m : List ℕ) → (cut size_of before).rest ++ front ≡ m → IsMessage size_of m → EndsMessage size_of size_of-kept size_of-positive refl before front m
  ends before front m whole is = ends_message size_of size_of-kept size_of-positive refl before front (cut size_of before).rest m refl whole is

  -- each part brings one message at most, or that the stream went bad
  abbrev pub IsOneAtMost : List Item → Type 0
  IsOneAtMost [] = Unit {0}
  IsOneAtMost (Says d m ∷ []) = d ≡ c
  IsOneAtMost (GoesBad d ∷ []) = d ≡ c
  IsOneAtMost _ = ⊥

  abbrev pub EachBringsOne : (before : List ℕ) → (parts : List (List ℕ)) → Type 0
  EachBringsOne before [] = Unit {0}
  EachBringsOne before (part ∷ parts) = IsOneAtMost (client_items size_of c before part) × EachBringsOne (before ++ part) parts

  goes_bad_one : (bad : Bool) → IsOneAtMost (item_if bad (GoesBad c))
  goes_bad_one true = refl
  goes_bad_one false = tt

  -- a part that ends a message
  ended : (before front m : List ℕ) → (cut size_of before).rest ++ front ≡ m → IsMessage size_of m → client_items size_of c before front ≡ Says c m ∷ []
  ended before front m whole is =
      let E = ends before front m whole is in
      ap (λ (l : List (List ℕ)). map (λ m. Says c m) l ++ item_if (is_bad size_of (before ++ front)) (GoesBad c)) E.messages ∙ ap (λ (b : Bool). Says c m ∷ item_if b (GoesBad c)) E.good

  -- what is left behind the last of them
  left_items : (before rest : List ℕ) → (cut size_of before).rest ≡ [] → cut size_of rest ≡ record { messages = []; rest = rest } → client_items size_of c before rest ≡ items [] rest
  left_items before rest none is =
      let goes = goes_on_from_rest size_of before rest in
      let last : cut size_of ((cut size_of before).rest ++ rest) ≡ record { messages = []; rest = rest } = ap (λ (l : List ℕ). cut size_of (l ++ rest)) none ∙ is in
      ap (λ (l : List (List ℕ)). map (λ m. Says c m) l ++ item_if (is_bad size_of (before ++ rest)) (GoesBad c)) (goes.messages ∙ ap (λ (k : Cutting). k.messages) last)
      ∙ ap (λ (b : Bool). item_if b (GoesBad c)) (goes.bad ∙ ap (λ (k : Cutting). is_invalid (size_of k.rest)) last)

  left : (before rest : List ℕ) → (cut size_of before).rest ≡ [] → cut size_of rest ≡ record { messages = []; rest = rest } → brought size_of c before (part_if_some rest) ≡ items [] rest
  unfolding brought
  left before [] none is = refl
  left before (byte ∷ bytes) none is = append-nil (client_items size_of c before (byte ∷ bytes)) ∙ left_items before (byte ∷ bytes) none is

  left_one : (before rest : List ℕ) → (cut size_of before).rest ≡ [] → cut size_of rest ≡ record { messages = []; rest = rest } → EachBringsOne before (part_if_some rest)
  left_one before [] none is = tt
  left_one before (byte ∷ bytes) none is = (subst IsOneAtMost (sym (left_items before (byte ∷ bytes) none is)) (goes_bad_one (is_invalid (size_of (byte ∷ bytes)))), tt)

  later : (messages : List (List ℕ)) (before tail rest : List ℕ) → AllByRecursion (IsMessage size_of) messages → (cut size_of before).rest ≡ [] → cut size_of tail ≡ record { messages = messages; rest = rest }
      → brought size_of c before (messages ++ part_if_some rest) ≡ items messages rest
  unfolding brought
  later [] before tail rest all none is =
      let same : rest ≡ tail = sym (ap (λ (k : Cutting). concat k.messages ++ k.rest) is) ∙ cut-whole size_of tail in
      left before rest none (ap (cut size_of) same ∙ is)
  later (m ∷ messages) before tail rest all none is =
      let F = first_is size_of [] tail m messages rest is in
      let whole : (cut size_of before).rest ++ m ≡ m = ap (λ (l : List ℕ). l ++ m) none in
      let E = ends before m m whole all.0 in
      ap (λ (l : List Item). l ++ brought size_of c (before ++ m) (messages ++ part_if_some rest)) (ended before m m whole all.0)
      ∙ ap (λ (l : List Item). Says c m ∷ l) (later messages (before ++ m) F.tail rest all.1 E.rest F.later)

  later_one : (messages : List (List ℕ)) (before tail rest : List ℕ) → AllByRecursion (IsMessage size_of) messages → (cut size_of before).rest ≡ [] → cut size_of tail ≡ record { messages = messages; rest = rest } → EachBringsOne before (messages ++ part_if_some rest)
  later_one [] before tail rest all none is =
      let same : rest ≡ tail = sym (ap (λ (k : Cutting). concat k.messages ++ k.rest) is) ∙ cut-whole size_of tail in
      left_one before rest none (ap (cut size_of) same ∙ is)
  later_one (m ∷ messages) before tail rest all none is =
      let F = first_is size_of [] tail m messages rest is in
      let whole : (cut size_of before).rest ++ m ≡ m = ap (λ (l : List ℕ). l ++ m) none in
      (subst IsOneAtMost (sym (ended before m m whole all.0)) refl, later_one messages (before ++ m) F.tail rest all.1 (ends before m m whole all.0).rest F.later)

  concat_rest : (rest : List ℕ) → concat (part_if_some rest) ≡ rest
  concat_rest [] = refl
  concat_rest (byte ∷ bytes) = append-nil (byte ∷ bytes)

  concat_later : (messages : List (List ℕ)) (rest : List ℕ) → concat (messages ++ part_if_some rest) ≡ concat messages ++ rest
  concat_later [] rest = concat_rest rest
  concat_later (m ∷ messages) rest = ap (λ (l : List ℕ). m ++ l) (concat_later messages rest) ∙ sym (append_assoc m (concat messages) rest)

  module _ (before piece : List ℕ) where
    abbrev begun : List ℕ
    begun = (cut size_of before).rest

    abbrev cutting : Cutting
    cutting = cut_from size_of begun piece

    -- the stream goes on from what it left
    cut_is : cut size_of (begun ++ piece) ≡ cutting
    cut_is = let none = rest_holds_none size_of before in goes_on size_of [] begun piece none.messages ∙ ap (λ (l : List ℕ). cut_from size_of l piece) none.stays

    messages_are : messages_of_piece size_of before piece ≡ cutting.messages
    messages_are = (goes_on_from_rest size_of before piece).messages ∙ ap (λ (k : Cutting). k.messages) cut_is

    rest_is : (cut size_of (before ++ piece)).rest ≡ cutting.rest
    rest_is = (goes_on_from_rest size_of before piece).rest ∙ ap (λ (k : Cutting). k.rest) cut_is

    items_are : client_items size_of c before piece ≡ items cutting.messages cutting.rest
    items_are =
        ap (λ (l : List (List ℕ)). map (λ m. Says c m) l ++ item_if (is_bad size_of (before ++ piece)) (GoesBad c)) messages_are
        ∙ ap (λ (b : Bool). map (λ m. Says c m) cutting.messages ++ item_if b (GoesBad c)) ((goes_on_from_rest size_of before piece).bad ∙ ap (λ (k : Cutting). is_invalid (size_of k.rest)) cut_is)

    parts_are : parts before piece ≡ cut_at_ends piece begun cutting.messages cutting.rest
    parts_are = ap (λ (l : List (List ℕ)). cut_at_ends piece begun l (cut size_of (before ++ piece)).rest) messages_are ∙ ap (cut_at_ends piece begun cutting.messages) rest_is

    each_is : AllByRecursion (IsMessage size_of) cutting.messages
    each_is = subst (λ (k : Cutting). AllByRecursion (IsMessage size_of) k.messages) cut_is (cut-each size_of (begun ++ piece))

    record AreSo (found : List (List ℕ)) (rest : List ℕ) : Type 0 where
      bytes : concat (cut_at_ends piece begun found rest) ≡ piece
      brings : brought size_of c before (cut_at_ends piece begun found rest) ≡ items found rest

    by_messages : (found : List (List ℕ)) (rest : List ℕ) → cutting ≡ record { messages = found; rest = rest } → AllByRecursion (IsMessage size_of) found → AreSo found rest
    unfolding brought
    by_messages [] rest is all = record {
      bytes = append-nil piece;
      brings = append-nil (client_items size_of c before piece) ∙ items_are ∙ ap (λ (k : Cutting). items k.messages k.rest) is;
    }
    by_messages (m ∷ found) rest is all =
        let F = first_is size_of begun piece m found rest is in
        let front_is : drop (length begun) m ≡ F.front = ap (drop (length begun)) F.message ∙ drop_at begun F.front (length begun) refl in
        let E = ends before F.front m (sym F.message) all.0 in
        record {
          bytes =
              ap (λ (l : List ℕ). l ++ concat (found ++ part_if_some rest)) front_is
              ∙ ap (λ (l : List ℕ). F.front ++ l) (concat_later found rest ∙ sym (ap (λ (k : Cutting). concat k.messages ++ k.rest) F.later) ∙ cut-whole size_of F.tail)
              ∙ sym F.bytes_are;
          brings =
              ap (λ (l : List ℕ). client_items size_of c before l ++ brought size_of c (before ++ l) (found ++ part_if_some rest)) front_is
              ∙ ap (λ (l : List Item). l ++ brought size_of c (before ++ F.front) (found ++ part_if_some rest)) (ended before F.front m (sym F.message) all.0)
              ∙ ap (λ (l : List Item). Says c m ∷ l) (later found (before ++ F.front) F.tail rest all.1 E.rest F.later);
        }

    one_by_messages : (found : List (List ℕ)) (rest : List ℕ) → cutting ≡ record { messages = found; rest = rest } → AllByRecursion (IsMessage size_of) found → EachBringsOne before (cut_at_ends piece begun found rest)
    one_by_messages [] rest is all = (subst IsOneAtMost (sym (items_are ∙ ap (λ (k : Cutting). items k.messages k.rest) is)) (goes_bad_one (is_invalid (size_of rest))), tt)
    one_by_messages (m ∷ found) rest is all =
        let F = first_is size_of begun piece m found rest is in
        let front_is : drop (length begun) m ≡ F.front = ap (drop (length begun)) F.message ∙ drop_at begun F.front (length begun) refl in
        subst (λ (l : List ℕ). EachBringsOne before (l ∷ found ++ part_if_some rest)) (sym front_is) (
          subst IsOneAtMost (sym (ended before F.front m (sym F.message) all.0)) refl,
          later_one found (before ++ F.front) F.tail rest all.1 (ends before F.front m (sym F.message) all.0).rest F.later,
        )

    pub each_brings_one : EachBringsOne before (parts before piece)
    each_brings_one = subst (EachBringsOne before) (sym parts_are) (one_by_messages cutting.messages cutting.rest refl each_is)

    pub are_the_piece : AreThePiece c before piece
    are_the_piece =
        let so = by_messages cutting.messages cutting.rest refl each_is in
        record {
          bytes = ap concat parts_are ∙ so.bytes;
          items = ap (brought size_of c before) parts_are ∙ so.brings ∙ sym items_are;
        }

pub parts_are_the_piece : PartsAreThePiece
parts_are_the_piece c before piece = are_the_piece c before piece
