-- How the calls grow that the notes of a spawner in memory stand for.
use Rattle.std.proofs.Common.{◌≡◌, ℕ, ◌+◌, ◌<◌, ℤ, Bool, List, [], ◌∷◌, ◌++◌, length, take, get_or, map, Option, Some, None, refl, ap, sym, ◌∙◌, append_assoc}
use Rattle.std.proofs.lemmas.List.{append-nil, map_push, take_more}
use Rattle.std.proofs.lemmas.List.Sums.{fold-append}
use Rattle.kit_io.specs.Record.{Noted}
use Rattle.kit_io.specs.Growth.{Grows}
use Rattle.kit_io.proofs.Growth.{Grows-append}
use Rattle.child_io.specs.declared.memory.Made.{Made}
use Rattle.child_io.specs.declared.memory.Made.TheVariants as made
use Rattle.child_io.specs.Calls.{Call, Started, StartFailed, Ended, EndFailed, Stopped}
use Rattle.child_io.specs.Made.{Gathered, with_note, gathered_from, calls_in, calls_of, word_note, words_notes}

-- the words are gathered in their order
gathered_words : (gathered : Gathered) (words : List (List ℕ)) → gathered_from gathered (map word_note words) ≡ record { calls = gathered.calls; words = gathered.words ++ words }
gathered_words gathered [] = ap (λ (l : List (List ℕ)). record { calls = gathered.calls; words = l }) (sym (append-nil gathered.words))
gathered_words gathered (word ∷ words) =
    gathered_words (record { calls = gathered.calls; words = gathered.words ++ word ∷ [] }) words
    ∙ ap (λ (l : List (List ℕ)). record { calls = gathered.calls; words = l }) (append_assoc gathered.words (word ∷ []) words)

-- notes that stand for these calls, whatever stood before them
Grows-calls : (added : List (Noted Made)) (calls : List Call) {old new : Option (List (Noted Made))} → ((gathered : Gathered) → (gathered_from gathered added).calls ≡ gathered.calls ++ calls)
    → Grows old added new → Grows (calls_of old) calls (calls_of new)
Grows-calls added calls {old = old} {new = Some all} adds grows =
    let was = grows.recorded all refl in
    let empty : Gathered = record { calls = []; words = [] } in
    record {
      recorded = λ recorded is.
          let same : calls_in all ≡ recorded = cc in (
            calls_in was.0,
            ap calls_of was.1,
            sym same ∙ ap calls_in was.2 ∙ ap (λ (g : Gathered). g.calls) (fold-append with_note empty was.0 added) ∙ adds (gathered_from empty was.0),
          );
    }
Grows-calls added calls {new = None} adds grows = record { recorded = λ recorded is. cc }

-- one word more
pub word_notes-more : {X : Type 0} (f : X → List ℕ) (xs : List X) (i : ℕ) (x : X) → i < length xs → x ≡ get_or xs i x
    → map word_note (map f (take (i + 1) xs)) ≡ map word_note (map f (take i xs)) ++ word_note (f x) ∷ []
word_notes-more f xs i x within is =
    ap (λ l. map word_note (map f l)) (take_more xs i x within ∙ ap (λ y. take i xs ++ y ∷ []) (sym is))
    ∙ ap (map word_note) (map_push f (take i xs) x)
    ∙ map_push word_note (map f (take i xs)) (f x)

module _ {old mid new : Option (List (Noted Made))} (words : List (List ℕ)) where
  -- a start, with its words
  start_calls : (call : List (List ℕ) → Call) (answer : Noted Made)
      → ((gathered : Gathered) → (with_note gathered answer).calls ≡ gathered.calls ++ call gathered.words ∷ [])
      → Grows old (words_notes words) mid → Grows mid (answer ∷ []) new → Grows (calls_of old) (call words ∷ []) (calls_of new)
  start_calls call answer closes first last =
      Grows-calls (words_notes words ++ answer ∷ []) (call words ∷ [])
      (λ gathered.
      let begun : Gathered = record { calls = gathered.calls; words = [] } in
      ap (λ (g : Gathered). g.calls) (fold-append with_note begun (map word_note words) (answer ∷ []))
      ∙ ap (λ (g : Gathered). (with_note g answer).calls) (gathered_words begun words)
      ∙ closes (record { calls = gathered.calls; words = words }))
      (Grows-append first last)

  pub Grows-started : (child : ℕ) → Grows old (words_notes words) mid → Grows mid (record { kind = made.Started child; bytes = [] } ∷ []) new
      → Grows (calls_of old) (Started words child ∷ []) (calls_of new)
  Grows-started child first last = start_calls (λ l. Started l child) (record { kind = made.Started child; bytes = [] }) (λ gathered. refl) first last

  pub Grows-start_failed : Grows old (words_notes words) mid → Grows mid (record { kind = made.StartFailed; bytes = [] } ∷ []) new → Grows (calls_of old) (StartFailed words ∷ []) (calls_of new)
  Grows-start_failed first last = start_calls (λ l. StartFailed l) (record { kind = made.StartFailed; bytes = [] }) (λ gathered. refl) first last

module _ {old new : Option (List (Noted Made))} where
  pub Grows-ended : {bytes : List ℕ} (child : ℕ) (status : ℤ) → Grows old (record { kind = made.Ended child status; bytes = bytes } ∷ []) new → Grows (calls_of old) (Ended child status ∷ []) (calls_of new)
  Grows-ended {bytes = bytes} child status grows = Grows-calls (record { kind = made.Ended child status; bytes = bytes } ∷ []) (Ended child status ∷ []) (λ gathered. refl) grows

  pub Grows-end_failed : {bytes : List ℕ} (child : ℕ) → Grows old (record { kind = made.EndFailed child; bytes = bytes } ∷ []) new → Grows (calls_of old) (EndFailed child ∷ []) (calls_of new)
  Grows-end_failed {bytes = bytes} child grows = Grows-calls (record { kind = made.EndFailed child; bytes = bytes } ∷ []) (EndFailed child ∷ []) (λ gathered. refl) grows

  pub Grows-stopped : {bytes : List ℕ} (child : ℕ) (ok : Bool) (after : ℕ) → Grows old (record { kind = made.Stopped child ok after; bytes = bytes } ∷ []) new → Grows (calls_of old) (Stopped child ok after ∷ []) (calls_of new)
  Grows-stopped {bytes = bytes} child ok after grows = Grows-calls (record { kind = made.Stopped child ok after; bytes = bytes } ∷ []) (Stopped child ok after ∷ []) (λ gathered. refl) grows

-- how the calls grow
pub ruleset noting = (Grows-started, Grows-start_failed, Grows-ended, Grows-end_failed, Grows-stopped)
