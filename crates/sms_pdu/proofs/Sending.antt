-- The messages of a text, piece by piece.
use Rattle.std.proofs.Common.{◌≡◌, ℕ, ◌+◌, ◌<◌, ◌≤◌, nat_le, Bool, true, false, cond, List, [], ◌∷◌, ◌++◌, length, drop, get_or, refl, ap, sym, ◌∙◌, arith, append_assoc}
use Rattle.std.proofs.lemmas.List.{drop_more, drop_all}
use Rattle.std.proofs.lemmas.Bool.Decides.{nat_tests}
use Rattle.sms_pdu.specs.Parts.{data_of, fits, front, header, is_coded, messages, messages_from, most_of, parts, pieces, pieces_from, units, units_of}
use Rattle.sms_pdu.proofs.Pieces.{fits-push, size-push}

pub some_pieces : (coded : Bool) (most : ℕ) (begun text : List ℕ) → 1 ≤ length (pieces_from coded most begun text)
some_pieces coded most begun [] = omega arith
some_pieces coded most begun (char ∷ text) = by (fits coded most (begun ++ char ∷ [])) (some_pieces coded most (begun ++ char ∷ []) text)
  where
    by : (b : Bool) → 1 ≤ length (pieces_from coded most (begun ++ char ∷ []) text)
        → 1 ≤ length (cond b (pieces_from coded most (begun ++ char ∷ []) text) (begun ∷ pieces_from coded most (char ∷ []) text))
    by true more = more
    by false more = omega arith

module _ (opening : List ℕ) (coded : Bool) (most reference total : ℕ) (text : List ℕ) where
  abbrev pub message : (place : ℕ) (piece : List ℕ) → List ℕ
  message place piece = opening ++ data_of coded (header reference total place) piece

  -- some messages are made, and a piece is begun
  pub record AreMade (index place size : ℕ) (piece : List ℕ) (list : List (List ℕ)) : Type 0 where
    pub made :
        messages_from opening coded reference total 1 (pieces coded most text)
        ≡ list ++ messages_from opening coded reference total place (pieces_from coded most piece (drop index text))
    pub size_is : size ≡ length (units_of coded piece)
    pub counted : total + 1 ≡ place + length (pieces_from coded most piece (drop index text))
    pub room : size ≤ most

  pub AreMade-none : length (pieces coded most text) ≡ total → AreMade 0 1 0 [] []
  AreMade-none count = record { made = refl; size_is = refl; counted = omega arith; room = omega arith }

  pub place-le : (index place size : ℕ) (piece : List ℕ) (list : List (List ℕ)) → AreMade index place size piece list → place ≤ total
  place-le index place size piece list are = omega (arith, are.counted, some_pieces coded most piece (drop index text))

  module _ (index place size char more : ℕ) (piece : List ℕ) (list : List (List ℕ)) (are : AreMade index place size piece list) (within : index < length text) (is : char ≡ get_or text index char)
      (more_is : more ≡ length (units coded char)) where
    behind : drop index text ≡ char ∷ drop (index + 1) text
    behind = drop_more text index char within ∙ ap (λ (c : ℕ). c ∷ drop (index + 1) text) (sym is)

    pub AreMade-same : size + more ≤ most → AreMade (index + 1) place (size + more) (piece ++ char ∷ []) list
    AreMade-same room =
        let test : nat_le (size + more) most ≡ true = grind (arith, nat_tests) in
        let same : pieces_from coded most piece (drop index text) ≡ pieces_from coded most (piece ++ char ∷ []) (drop (index + 1) text) =
        rw (behind, fits-push coded most piece char size more are.size_is more_is, test) refl
        in
        record {
          made = are.made ∙ ap (λ (l : List (List ℕ)). list ++ messages_from opening coded reference total place l) same;
          size_is = omega (arith, size-push coded piece char, are.size_is, more_is);
          counted = are.counted ∙ ap (λ (l : List (List ℕ)). place + length l) same;
          room = room;
        }

    next_piece : most < size + more → pieces_from coded most piece (drop index text) ≡ piece ∷ pieces_from coded most (char ∷ []) (drop (index + 1) text)
    next_piece full =
        let test : nat_le (size + more) most ≡ false = grind (arith, nat_tests) in
        rw (behind, fits-push coded most piece char size more are.size_is more_is, test) refl

    -- there is room for one more message
    pub place-lt : most < size + more → place + 1 ≤ total
    place-lt full = omega (arith, are.counted, ap length (next_piece full), some_pieces coded most (char ∷ []) (drop (index + 1) text))

    pub AreMade-next : most < size + more → more ≤ most → AreMade (index + 1) (place + 1) (0 + more) ([] ++ char ∷ []) (list ++ message place piece ∷ [])
    AreMade-next full fits_alone =
        let next = next_piece full in
        record {
          made = are.made ∙ ap (λ (l : List (List ℕ)). list ++ messages_from opening coded reference total place l) next
              ∙ sym (append_assoc list (message place piece ∷ []) (messages_from opening coded reference total (place + 1) (pieces_from coded most (char ∷ []) (drop (index + 1) text))));
          size_is = omega (arith, size-push coded [] char, more_is);
          counted = omega (arith, are.counted, ap length next);
          room = omega arith;
        }

    -- the same, of what these become
    pub AreMade-after : most < size + more → more ≤ most → (place_now size_now : ℕ) (piece_now pushed sent : List ℕ) (list_now : List (List ℕ))
        → sent ≡ message place piece → list_now ≡ list ++ sent ∷ [] → piece_now ≡ [] → size_now ≡ 0 → place_now ≡ place + 1 → pushed ≡ piece_now ++ char ∷ []
        → AreMade (index + 1) place_now (size_now + more) pushed list_now
    AreMade-after full fits_alone place_now size_now piece_now pushed sent list_now sent_is list_is piece_is size_is place_is pushed_is =
        rw (pushed_is, piece_is, size_is, place_is, list_is, sent_is) (AreMade-next full fits_alone)

  pub AreMade-all : (index place size : ℕ) (piece : List ℕ) (list : List (List ℕ)) → AreMade index place size piece list → length text ≤ index
      → list ++ message place piece ∷ [] ≡ messages_from opening coded reference total 1 (pieces coded most text)
  AreMade-all index place size piece list are end =
      let last : pieces_from coded most piece (drop index text) ≡ piece ∷ [] = rw (drop_all index text end) refl in
      sym (are.made ∙ ap (λ (l : List (List ℕ)). list ++ messages_from opening coded reference total place l) last)

-- ---- all messages ----

pub count_is : (text third fourth : List ℕ) (coded : Bool) (most total : ℕ) → coded ≡ is_coded text → most ≡ most_of coded third → third ≡ text → total ≡ length (pieces coded most fourth) → fourth ≡ text
    → total ≡ length (parts text)
count_is text third fourth coded most total coded_is most_is third_is total_is fourth_is =
    let most_at : most ≡ most_of (is_coded text) text = rw (coded_is, third_is) at most_is in
    rw (fourth_is, most_at, coded_is) at total_is

pub messages_are : (number text third fourth fifth sixth opening : List ℕ) (reference : ℕ) (coded : Bool) (most total : ℕ) (list : List (List ℕ)) → coded ≡ is_coded text → most ≡ most_of coded third → third ≡ text
    → total ≡ length (pieces coded most fourth) → fourth ≡ text → opening ≡ front fifth coded total → fifth ≡ number
    → list ≡ messages_from opening coded reference total 1 (pieces coded most sixth) → sixth ≡ text → list ≡ messages number text reference
messages_are number text third fourth fifth sixth opening reference coded most total list coded_is most_is third_is total_is fourth_is opening_is fifth_is list_is sixth_is =
    let most_at : most ≡ most_of (is_coded text) text = rw (coded_is, third_is) at most_is in
    let total_at : total ≡ length (parts text) = count_is text third fourth coded most total coded_is most_is third_is total_is fourth_is in
    let opening_at : opening ≡ front number (is_coded text) (length (parts text)) = rw (fifth_is, coded_is, total_at) at opening_is in
    rw (opening_at, sixth_is, total_at, most_at, coded_is) at list_is
