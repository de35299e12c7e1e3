-- A client gets the answers to its own requests. Lists of events and of requests have the newest first.
use Rattle.std.proofs.Common.{◌≡◌, ℕ, ◌+◌, ◌≤◌, Bool, true, false, cond, ◌==◌, if◌then◌else◌, List, [], ◌∷◌, ◌++◌, length, map, filter, refl, ap, sym, ◌∙◌, append_assoc, arith}
use Rattle.std.proofs.lemmas.Bool.{eq-eqb, eqb-true}
use Rattle.std.proofs.lemmas.List.{append-nil}
use Rattle.std.specs.List.{AllByRecursion, flat_map}
use Rattle.proxy_history.specs.Events.{Event, Joined, Piece, Left, ModemPiece, ModemGone, ModemBack, Now, Took, ModemTook}
use Rattle.proxy_history.specs.Streams.{Framing, stream, messages_of_piece}
use Rattle.proxy_history.specs.Connections.{contains, without}
use Rattle.sim_modem.specs.Sim.{Answering}
use Rattle.served_sim.specs.Conduct.{Conduct, IsPrompt}
use Rattle.sim_serving.specs.Clients.{Owed, Request, heeded, session, is_ended, present, brought, asks, requests, messages_of, ticks, promised, due_at, owed, added, joins, text}
use Rattle.sim_serving.specs.Laws.{own_answers, JoinsOnce}
use Rattle.sim_serving.proofs.Asking.{asks-first}
use Rattle.sim_serving.proofs.Names.{not_added, still_absent}
use Rattle.sim_serving.proofs.Owing.{over-owed, over-due}

module _ {X : Type 0} (p : X → Bool) where
  none_passes : (xs : List X) → length (filter p xs) ≤ 0 → AllByRecursion (λ x. p x ≡ false) xs
  none_passes [] none = tt
  none_passes (x ∷ xs) none = here (p x) refl (none_passes xs) none
    where
      here : (b : Bool) → p x ≡ b → (length (filter p xs) ≤ 0 → AllByRecursion (λ y. p y ≡ false) xs) → length (cond b (x ∷ filter p xs) (filter p xs)) ≤ 0 → (p x ≡ false) × AllByRecursion (λ y. p y ≡ false) xs
      here true is later none = absurd (omega (arith, none))
      here false is later none = (is, later none)

abbrev pub asked_by : ℕ → List ℕ → Request
asked_by c message = record { conn = c; message = message }

-- the answers to these messages, one behind the other, where those before were asked before them
answers_to : Answering → List (List ℕ) → (before : List (List ℕ)) → List ℕ
answers_to answers [] before = []
answers_to answers (message ∷ messages) before = answers before message ++ answers_to answers messages (message ∷ before)

module _ (answers : Answering) (c : ℕ) where
  -- those that another connection asks add nothing
  own_of_other : (d : ℕ) → (d == c) ≡ false → (messages : List (List ℕ)) (before : List Request) → own_answers answers c (asks (map (asked_by d) messages) before) ≡ own_answers answers c before
  unfolding asks own_answers
  own_of_other d other [] before = refl
  own_of_other d other (m ∷ messages) before =
      ap (own_answers answers c) (asks-first (asked_by d m) (map (asked_by d) messages) before)
      ∙ own_of_other d other messages (asked_by d m ∷ before)
      ∙ ap (λ (b : Bool). if b then own_answers answers c before ++ answers (messages_of before) m else own_answers answers c before) other

  -- those that the connection itself asks add their answers
  own_of_own : (d : ℕ) → (d == c) ≡ true → (messages : List (List ℕ)) (before : List Request)
      → own_answers answers c (asks (map (asked_by d) messages) before) ≡ own_answers answers c before ++ answers_to answers messages (messages_of before)
  unfolding asks own_answers answers_to
  own_of_own d own [] before = sym (append-nil (own_answers answers c before))
  own_of_own d own (m ∷ messages) before =
      let later : List ℕ = answers_to answers messages (m ∷ messages_of before) in
      ap (own_answers answers c) (asks-first (asked_by d m) (map (asked_by d) messages) before)
      ∙ own_of_own d own messages (asked_by d m ∷ before)
      ∙ ap (λ (b : Bool). (if b then own_answers answers c before ++ answers (messages_of before) m else own_answers answers c before) ++ later) own
      ∙ append_assoc (own_answers answers c before) (answers (messages_of before) m) later

  own_of : (d : ℕ) (messages : List (List ℕ)) (before : List Request)
      → own_answers answers c (asks (map (asked_by d) messages) before) ≡ own_answers answers c before ++ (if d == c then answers_to answers messages (messages_of before) else [])
  own_of d messages before =
      let all : List Request = asks (map (asked_by d) messages) before in
      let step : (b : Bool) → (d == c) ≡ b → own_answers answers c all ≡ own_answers answers c before ++ (if b then answers_to answers messages (messages_of before) else []) =
      λ b. elim b as (λ b. (d == c) ≡ b → own_answers answers c all ≡ own_answers answers c before ++ (if b then answers_to answers messages (messages_of before) else [])) [
        | true ↦ λ e. own_of_own d e messages before
        | false ↦ λ e. own_of_other d e messages before ∙ sym (append-nil (own_answers answers c before))
      ]
      in step (d == c) refl

module _ (size : Framing) (conduct : Conduct) (c : ℕ) where
  abbrev Never : List Event → Type 0
  Never past = AllByRecursion (λ event. joins c event ≡ false) past

  -- who never joined isn't there
  never_there : (past : List Event) → Never past → contains c (present size conduct past) ≡ false
  unfolding session
  never_there [] never = refl
  never_there (Joined d ∷ past) never = not_added c d (present size conduct past) never.0 (never_there past never.1)
  never_there (Piece d piece ∷ past) never =
      let step : (b : Bool) → contains c (if b then without d (present size conduct past) else present size conduct past) ≡ false =
      elim [ true ↦ still_absent c d (present size conduct past) (never_there past never.1) | false ↦ never_there past never.1 ]
      in step (is_ended size conduct d piece past)
  never_there (Left d ∷ past) never = still_absent c d (present size conduct past) (never_there past never.1)
  never_there (ModemPiece piece ∷ past) never = never_there past never.1
  never_there (ModemGone ∷ past) never = never_there past never.1
  never_there (ModemBack ∷ past) never = never_there past never.1
  never_there (Now time ∷ past) never = never_there past never.1
  never_there (Took d count ∷ past) never = never_there past never.1
  never_there (ModemTook count ∷ past) never = never_there past never.1

  -- who isn't there asks nothing
  asked_nothing : (d : ℕ) (piece : List ℕ) (past : List Event) → d ≡ c → contains c (present size conduct past) ≡ false
      → own_answers conduct.answers c (asks (map (asked_by d) (brought size conduct d piece past)) (requests size conduct past)) ≡ own_answers conduct.answers c (requests size conduct past)
  unfolding asks
  asked_nothing d piece past is absent =
      ap (λ (b : Bool). own_answers conduct.answers c (asks (map (asked_by d) (if b then heeded conduct (messages_of_piece size (stream d past) piece) (messages_of (requests size conduct past)) else [])) (requests size conduct past))) (ap (λ (x : ℕ). contains x (present size conduct past)) is ∙ absent)

  -- and asked nothing
  never_asked : (past : List Event) → Never past → own_answers conduct.answers c (requests size conduct past) ≡ []
  unfolding session own_answers
  never_asked [] never = refl
  never_asked (Joined d ∷ past) never = never_asked past never.1
  never_asked (Piece d piece ∷ past) never =
      let before : List Request = requests size conduct past in
      let step : (b : Bool) → (d == c) ≡ b → own_answers conduct.answers c (asks (map (asked_by d) (brought size conduct d piece past)) before) ≡ [] =
      λ b. elim b as (λ b. (d == c) ≡ b → own_answers conduct.answers c (asks (map (asked_by d) (brought size conduct d piece past)) before) ≡ []) [
        | true ↦ λ e. asked_nothing d piece past (eqb-true d c e) (never_there past never.1) ∙ never_asked past never.1
        | false ↦ λ e. own_of_other conduct.answers c d e (brought size conduct d piece past) before ∙ never_asked past never.1
      ]
      in step (d == c) refl
  never_asked (Left d ∷ past) never = never_asked past never.1
  never_asked (ModemPiece piece ∷ past) never = never_asked past never.1
  never_asked (ModemGone ∷ past) never = never_asked past never.1
  never_asked (ModemBack ∷ past) never = never_asked past never.1
  never_asked (Now time ∷ past) never = never_asked past never.1
  never_asked (Took d count ∷ past) never = never_asked past never.1
  never_asked (ModemTook count ∷ past) never = never_asked past never.1

  abbrev later : ℕ → List (List ℕ) → List (List ℕ) → List Owed
  later tick messages before = filter (λ o. o.due == tick) (promised conduct tick messages before)

  -- a modem that answers at once promises what is due at once
  at-once : IsPrompt conduct → (tick : ℕ) (messages before : List (List ℕ)) → due_at tick (promised conduct tick messages before) ≡ answers_to conduct.answers messages before
  unfolding promised answers_to
  at-once prompt tick [] before = refl
  at-once prompt tick (m ∷ messages) before =
      let due : (tick + conduct.late before m == tick) ≡ true = eq-eqb (tick + conduct.late before m) tick (let once = prompt.at_once before m in omega (arith, once)) in
      ap (λ (b : Bool). flat_map (λ (o : Owed). o.messages) (if b then record { due = tick + conduct.late before m; messages = conduct.answers before m } ∷ later tick messages (m ∷ before) else later tick messages (m ∷ before))) due
      ∙ ap (λ (l : List ℕ). conduct.answers before m ++ l) (at-once prompt tick messages (m ∷ before))

  added-own : IsPrompt conduct → (d : ℕ) (piece : List ℕ) (past : List Event)
      → added size conduct c (Piece d piece) past ≡ (if d == c then answers_to conduct.answers (brought size conduct d piece past) (messages_of (requests size conduct past)) else [])
  added-own prompt d piece past = ap (λ (l : List ℕ). if d == c then l else []) (at-once prompt (ticks size conduct past) (brought size conduct d piece past) (messages_of (requests size conduct past)))

  added-none : IsPrompt conduct → (time : ℕ) (past : List Event) → added size conduct c (Now time) past ≡ []
  added-none prompt time past =
      let tick : ℕ = ticks size conduct past in
      ap (λ (l : List ℕ). l ++ conduct.told (tick + 1) (messages_of (requests size conduct past))) (over-due tick (owed size conduct c past) (over-owed size conduct prompt c past))
      ∙ prompt.silent (tick + 1) (messages_of (requests size conduct past))

  pub own_text : IsPrompt conduct → (past : List Event) → JoinsOnce c past → text size conduct c past ≡ own_answers conduct.answers c (requests size conduct past)
  unfolding text session own_answers
  own_text prompt [] once = refl
  own_text prompt (Joined d ∷ past) once =
      let own : List ℕ = own_answers conduct.answers c (requests size conduct past) in
      let joined : List Event = filter (joins c) past in
      let step : (b : Bool) → length (if b then Joined d ∷ joined else joined) ≤ 1 → (if b then [] else text size conduct c past ++ []) ≡ own =
      λ b. elim b as (λ b. length (if b then Joined d ∷ joined else joined) ≤ 1 → (if b then [] else text size conduct c past ++ []) ≡ own) [
        | true ↦ λ one. sym (never_asked past (none_passes (joins c) past (omega (arith, one))))
        | false ↦ λ one. append-nil (text size conduct c past) ∙ own_text prompt past one
      ]
      in step (d == c) once
  own_text prompt (Piece d piece ∷ past) once =
      ap (λ (l : List ℕ). l ++ added size conduct c (Piece d piece) past) (own_text prompt past once)
      ∙ ap (λ (l : List ℕ). own_answers conduct.answers c (requests size conduct past) ++ l) (added-own prompt d piece past)
      ∙ sym (own_of conduct.answers c d (brought size conduct d piece past) (requests size conduct past))
  own_text prompt (Left d ∷ past) once = append-nil (text size conduct c past) ∙ own_text prompt past once
  own_text prompt (ModemPiece piece ∷ past) once = append-nil (text size conduct c past) ∙ own_text prompt past once
  own_text prompt (ModemGone ∷ past) once = append-nil (text size conduct c past) ∙ own_text prompt past once
  own_text prompt (ModemBack ∷ past) once = append-nil (text size conduct c past) ∙ own_text prompt past once
  own_text prompt (Now time ∷ past) once = ap (λ (l : List ℕ). text size conduct c past ++ l) (added-none prompt time past) ∙ append-nil (text size conduct c past) ∙ own_text prompt past once
  own_text prompt (Took d count ∷ past) once = append-nil (text size conduct c past) ∙ own_text prompt past once
  own_text prompt (ModemTook count ∷ past) once = append-nil (text size conduct c past) ∙ own_text prompt past once
