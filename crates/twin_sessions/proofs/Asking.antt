-- A request that a peer answers by whole messages, among which is the answer, or behind others that came before.
use Rattle.std.proofs.Common.{◌≡◌, ℕ, ◌+◌, List, [], ◌∷◌, ◌++◌, All, length, refl, sym, ◌∙◌, ap, subst, append-nil}
use Rattle.std.specs.List.{concat, AllByRecursion}
use Rattle.std.proofs.lemmas.List.Elements.{All-nil, All-cons}
use Rattle.framing.specs.declared.framing.Size.{Size}
use Rattle.framing.specs.declared.framing.Size.TheVariants.{Unknown}
use Rattle.framing.specs.Framing.{IsMessage, IsPartial, IsPositive, IsShort}
use Rattle.framing.specs.Cutting.{Cutting, cut, cut_from}
use Rattle.framing.specs.Reading.{place_of}
use Rattle.framing.proofs.Cuts.{cut-whole, cut-each, cut-append, cut-given}
use Rattle.link_session.specs.declared.fault.SessionFault.{SessionFault}
use Rattle.link_session.specs.declared.waiting.Meaning.TheVariants as meaning
use Rattle.link_session.specs.Marks.{Placed, Mark, Message, messages_in, messages_from, marks_from, piece_marks}
use Rattle.link_session.specs.Waiting.{AreUndecided, Answered, decided}
use Rattle.link_session.specs.Asking.{Asked}
use Rattle.link_session.specs.Peer.{Peer, Keeps, Talk, Turn, Finish, Ending, ending, ending_of, ask, ask_then, reply_to, finish_behind}
use Rattle.link_session.proofs.Places.{marks_from-given, marks_from-partial, piece_marks-partial}
use Rattle.link_session.proofs.Deciding.{ending-decided}

pub all_by : {A : Type 0} (P : A → Type 0) (xs : List A) → AllByRecursion P xs → All P xs
all_by P [] each = All-nil P
all_by P (x ∷ xs) each = All-cons P x xs each.0 (all_by P xs each.1)

module _ (size : List ℕ → Size) where
  -- the bytes end with a whole message
  abbrev pub IsWhole : List ℕ → Type 0
  IsWhole bytes = (cut size bytes).rest ≡ []

  -- a request was answered by this message, behind these, and these marks are left
  pub record IsAnsweredBy (peer : Peer) (asked : Asked) (talk : Talk) (before : List Placed) (message : Placed) (left : List Mark) : Type 0 where
    pub later : Talk
    pub ask_is : ask peer asked talk ≡ record { outcome = Answered before message; talk = later }
    pub texts : later.texts ≡ talk.texts ++ asked.text ∷ []
    pub left_is : later.heard.left ≡ left
    pub whole : IsWhole later.heard.taken

  module _ (peer : Peer) (asked : Asked) (talk : Talk) (before : List Placed) (message : Placed) (left : List Mark) (by : IsAnsweredBy peer asked talk before message left) where
    -- and what follows it is next
    pub goes_on : {E : Type 0} (failed : SessionFault → E) (next : List Placed → Placed → Talk → Finish E) → ask_then peer asked talk failed next ≡ next before message by.later
    goes_on failed next = ap (λ (t : Turn). finish_behind t.outcome t.talk failed next) by.ask_is

  -- where the next message of what was taken begins
  abbrev pub place_behind : List ℕ → ℕ
  place_behind taken = length (concat (cut size taken).messages)

  module _ (kept : Keeps size) (positive : (bytes : List ℕ) → IsPositive (size bytes)) (begins : size [] ≡ Unknown) where
    nothing_partial : IsPartial size []
    nothing_partial = subst (λ (z : Size). IsShort z 0) (sym begins) tt

    module _ (taken : List ℕ) (xs : List (List ℕ)) (whole : IsWhole taken) (each : All (IsMessage size) xs) where
      abbrev given : List (List ℕ)
      given = (cut size taken).messages

      taken_is : concat given ++ [] ≡ taken
      taken_is = ap (λ (l : List ℕ). concat given ++ l) (sym whole) ∙ cut-whole size taken

      pub marks_are : piece_marks size taken (concat xs) ≡ messages_from (length (concat given)) xs
      marks_are =
          ap (λ (l : List ℕ). piece_marks size l (concat xs)) (sym taken_is)
          ∙ piece_marks-partial size kept positive given [] (concat xs) (all_by (IsMessage size) given (cut-each size taken)) nothing_partial
          ∙ ap (marks_from size (length (concat given))) (sym (append-nil (concat xs)))
          ∙ marks_from-given size kept positive (length (concat given)) xs [] each
          ∙ ap (λ (l : List Mark). messages_from (length (concat given)) xs ++ l) (marks_from-partial size kept (length (concat given) + length (concat xs)) [] nothing_partial)
          ∙ append-nil (messages_from (length (concat given)) xs)

    module _ (peer : Peer) (asked : Asked) (same : asked.size ≡ size) (talk : Talk) (whole : IsWhole talk.heard.taken) where
      -- among what was left and what the peer says now, this message answers, behind these marks and before those
      module _ (xs : List (List ℕ)) (each : All (IsMessage size) xs) (replies : reply_to peer asked talk ≡ concat xs) (before : List Mark) (answer : Placed) (rest : List Mark)
          (are : talk.heard.left ++ messages_from (place_behind talk.heard.taken) xs ≡ before ++ Message answer ∷ rest) (undecided : AreUndecided asked.wait before) (answers : asked.wait.judge (messages_in before) answer ≡ meaning.Answer) where
        abbrev then_said : Talk
        then_said = record { texts = talk.texts ++ asked.text ∷ []; heard = record { taken = talk.heard.taken ++ reply_to peer asked talk; left = rest } }

        ending_is : ending_of peer asked talk ≡ record { outcome = Answered (messages_in before) answer; left = rest }
        ending_is =
            ap (λ (z : List ℕ → Size). ending asked.wait (talk.heard.left ++ piece_marks z talk.heard.taken (reply_to peer asked talk))) same
            ∙ ap (λ (l : List ℕ). ending asked.wait (talk.heard.left ++ piece_marks size talk.heard.taken l)) replies
            ∙ ap (λ (l : List Mark). ending asked.wait (talk.heard.left ++ l)) (marks_are talk.heard.taken xs whole each)
            ∙ ap (ending asked.wait) are
            ∙ ending-decided asked.wait before (Message answer) rest (Answered (messages_in before) answer) undecided (ap (λ m. decided before answer m) answers)

        asked_so : ask peer asked talk ≡ record { outcome = Answered (messages_in before) answer; talk = then_said }
        unfolding ask
        asked_so = ap (λ (e : Ending). let turn : Turn = record { outcome = e.outcome; talk = record { texts = talk.texts ++ asked.text ∷ []; heard = record { taken = talk.heard.taken ++ reply_to peer asked talk; left = e.left } } } in turn) ending_is

        whole_then : IsWhole (talk.heard.taken ++ reply_to peer asked talk)
        unfolding cut_from
        whole_then =
            ap (λ (l : List ℕ). (cut size (talk.heard.taken ++ l)).rest) replies
            ∙ ap (λ (k : Cutting). k.rest) (cut-append size talk.heard.taken (concat xs))
            ∙ ap (λ (l : List ℕ). (cut size (l ++ concat xs)).rest) whole
            ∙ ap (λ (l : List ℕ). (cut size l).rest) (sym (append-nil (concat xs)))
            ∙ ap (λ (k : Cutting). k.rest) (cut-given size kept positive xs [] each)

        pub answered_among : IsAnsweredBy peer asked talk (messages_in before) answer rest
        answered_among = record { later = then_said; ask_is = asked_so; texts = refl; left_is = refl; whole = whole_then }

      -- the peer says one message, and it answers, behind these marks that were left
      abbrev pub one_said : List ℕ → Placed
      one_said x = record { place = place_of (place_behind talk.heard.taken); bytes = x }

      pub answered_by_one : (x : List ℕ) → IsMessage size x → reply_to peer asked talk ≡ x → (marks : List Mark) → talk.heard.left ≡ marks → AreUndecided asked.wait marks → asked.wait.judge (messages_in marks) (one_said x) ≡ meaning.Answer
          → IsAnsweredBy peer asked talk (messages_in marks) (one_said x) []
      answered_by_one x is replies marks left undecided answers =
          answered_among (x ∷ []) (all_by (IsMessage size) (x ∷ []) (is, tt)) (replies ∙ sym (append-nil x)) marks (one_said x) []
          (ap (λ (l : List Mark). l ++ messages_from (place_behind talk.heard.taken) (x ∷ [])) left) undecided answers
