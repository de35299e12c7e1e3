-- What is owed to clients, from tick to tick. Lists of events and of requests have the newest first.
use Rattle.std.proofs.Common.{◌≡◌, ℕ, ◌+◌, ◌-◌, ◌≤◌, Bool, true, false, not, ◌&&◌, ◌==◌, nat_lt, if◌then◌else◌, List, [], ◌∷◌, ◌++◌, map, filter, refl, ap, sym, ◌∙◌, append_assoc, append-nil, arith}
use Rattle.std.proofs.lemmas.Bool.{eqb-true}
use Rattle.std.proofs.lemmas.Bool.Decides.{nat_tests}
use Rattle.std.proofs.lemmas.List.{map-append}
use Rattle.std.proofs.lemmas.List.Elements.{filter-append}
use Rattle.std.proofs.lemmas.Simd.{map-map}
use Rattle.std.specs.List.{flat_map, AllByRecursion}
use Rattle.kit_bytes.proofs.Lists.{all_weaker}
use Rattle.proxy_history.specs.Events.{Event, Joined, Piece, Left, ModemPiece, ModemGone, ModemBack, Now, Took, ModemTook}
use Rattle.proxy_history.specs.Streams.{Framing}
use Rattle.served_sim.specs.Conduct.{Conduct, IsPrompt}
use Rattle.served_sim.proofs.Counting.{one-left}
use Rattle.sim_serving.specs.Clients.{Owed, session, joins, ticks, promised, promises, promised_by, due_at, owed, brought, requests, messages_of}
use Rattle.sim_serving.specs.Core.{Replies, late_after}
use Rattle.sim_serving.specs.Hearing.{all_passed, are_due, passed, sooner, still_late, with_messages, with_owed}
use Rattle.sim_serving.specs.declared.replies.Late.{Late}

-- ---- lists of which some are picked ----

module _ {A B : Type 0} (p : B → Bool) (q : A → Bool) (f : A → B) where
  map-if : (b : Bool) (x : A) (rest : List A) → (if b then f x ∷ map f rest else map f rest) ≡ map f (if b then x ∷ rest else rest)
  map-if true x rest = refl
  map-if false x rest = refl

  picked-if : (b : Bool) (x : A) (front rest : List A) → filter p (map f front) ≡ map f rest → filter p (map f (if b then x ∷ front else front)) ≡ map f (if b && p (f x) then x ∷ rest else rest)
  picked-if true x front rest is = ap (λ (l : List B). if p (f x) then f x ∷ l else l) is ∙ map-if (p (f x)) x rest
  picked-if false x front rest is = is

  -- those that are picked of what others became that were picked before
  picked : (xs : List A) → filter p (map f (filter q xs)) ≡ map f (filter (λ x. q x && p (f x)) xs)
  picked [] = refl
  picked (x ∷ xs) = picked-if (q x) x (filter q xs) (filter (λ y. q y && p (f y)) xs) (picked xs)

flat_map-map : {A B C : Type 0} (g : B → List C) (f : A → B) (xs : List A) → flat_map g (map f xs) ≡ flat_map (λ x. g (f x)) xs
flat_map-map g f [] = refl
flat_map-map g f (x ∷ xs) = ap (λ l. g (f x) ++ l) (flat_map-map g f xs)

-- ---- from one tick to the next ----

module _ (tick : ℕ) where
  abbrev late_at : Owed → Late
  late_at o = record { ticks = o.due - tick; messages = o.messages }

  due-next : (due : ℕ) (b : Bool) → (due == tick + 1) ≡ b → (nat_lt tick due && due - tick == 1) ≡ (due == tick + 1)
  due-next due true is = let due_is = eqb-true due (tick + 1) is in grind (arith, nat_tests, due_is)
  due-next due false is = ap (λ (t : Bool). nat_lt tick due && t) (one-left due tick ∙ is) ∙ none (nat_lt tick due) ∙ sym is
    where
      none : (b : Bool) → (b && false) ≡ false
      none true = refl
      none false = refl

  late-next : (due : ℕ) → (nat_lt tick due && not (due - tick == 1)) ≡ nat_lt (tick + 1) due
  late-next due = grind (arith, nat_tests)

  -- what was due in one tick is due
  pub due-then : (xs : List Owed) → are_due (late_after tick xs) ≡ due_at (tick + 1) xs
  due-then xs =
      ap (flat_map (λ (l : Late). l.messages)) (picked (λ l. l.ticks == 1) (λ o. nat_lt tick o.due) late_at xs)
      ∙ flat_map-map (λ (l : Late). l.messages) late_at (filter (λ o. nat_lt tick o.due && o.due - tick == 1) xs)
      ∙ ap (λ (test : Owed → Bool). flat_map (λ (o : Owed). o.messages) (filter test xs)) (λ i o. due-next o.due (o.due == tick + 1) refl i)

  sooner-is : (o : Owed) → sooner (late_at o) ≡ record { ticks = o.due - (tick + 1); messages = o.messages }
  sooner-is o = ap (λ (n : ℕ). let made : Late = record { ticks = n; messages = o.messages } in made) (omega arith)

  -- all others are due one tick sooner
  pub late-then : (xs : List Owed) → still_late (late_after tick xs) ≡ late_after (tick + 1) xs
  late-then xs =
      ap (map sooner) (picked (λ l. not (l.ticks == 1)) (λ o. nat_lt tick o.due) late_at xs)
      ∙ map-map sooner late_at (filter (λ o. nat_lt tick o.due && not (o.due - tick == 1)) xs)
      ∙ ap (λ (test : Owed → Bool). map (λ o. sooner (late_at o)) (filter test xs)) (λ i o. late-next o.due i)
      ∙ ap (λ (f : Owed → Late). map f (filter (λ o. nat_lt (tick + 1) o.due) xs)) (λ i o. sooner-is o i)

  pub late-append : (xs ys : List Owed) → late_after tick (xs ++ ys) ≡ late_after tick xs ++ late_after tick ys
  late-append xs ys = ap (map late_at) (filter-append (λ o. nat_lt tick o.due) xs ys) ∙ map-append late_at (filter (λ o. nat_lt tick o.due) xs) (filter (λ o. nat_lt tick o.due) ys)

-- ---- one after another ----

module _ (l : Late) (rest : List Late) (r : Replies) where
  abbrev pass : Bool → Replies
  pass b = if b then record { waiting = r.waiting ++ l.messages; late = r.late } else record { waiting = r.waiting; late = r.late ++ sooner l ∷ [] }

  abbrev all : Bool → Replies
  all b = record {
    waiting = r.waiting ++ flat_map (λ (x : Late). x.messages) (if b then l ∷ filter (λ x. x.ticks == 1) rest else filter (λ x. x.ticks == 1) rest);
    late = r.late ++ map sooner (if not b then l ∷ filter (λ x. not (x.ticks == 1)) rest else filter (λ x. not (x.ticks == 1)) rest);
  }

  passed-by : (b : Bool) → all_passed rest (pass b) ≡ all b
  passed-by true = ap (λ (w : List ℕ). let made : Replies = record { waiting = w; late = r.late ++ still_late rest } in made) (append_assoc r.waiting l.messages (are_due rest))
  passed-by false = ap (λ (w : List Late). let made : Replies = record { waiting = r.waiting ++ are_due rest; late = w } in made) (append_assoc r.late (sooner l ∷ []) (still_late rest))

  -- of what was late before a tick one is taken in, and then the others
  pub passed-first : all_passed rest (passed l r) ≡ all_passed (l ∷ rest) r
  passed-first = passed-by (l.ticks == 1)

module _ (r : Replies) where
  nothing-more : (waiting : List ℕ) (late : List Late) → waiting ≡ r.waiting → late ≡ r.late → record { waiting = waiting; late = late } ≡ r
  nothing-more waiting late waits lates =
      ap (λ (w : List ℕ). let made : Replies = record { waiting = w; late = late } in made) waits
      ∙ ap (λ (l : List Late). let made : Replies = record { waiting = r.waiting; late = l } in made) lates

  pub passed-none : all_passed [] r ≡ r
  passed-none = nothing-more _ _ (append-nil r.waiting) (append-nil r.late)

  pub owed-none : (tick : ℕ) → with_owed tick [] r ≡ r
  owed-none tick = nothing-more _ _ (append-nil r.waiting) (append-nil r.late)

module _ (tick : ℕ) where
  at_once : (n : ℕ) (b : Bool) → (n == 0) ≡ b → (tick + n == tick) ≡ b
  at_once n b is = grind (arith, nat_tests, is)

  not_late : (n : ℕ) (b : Bool) → (n == 0) ≡ b → nat_lt tick (tick + n) ≡ not b
  not_late n true is = grind (arith, nat_tests, is)
  not_late n false is = grind (arith, nat_tests, is)

  module _ (n : ℕ) (messages : List ℕ) (rest : List Owed) (r : Replies) where
    abbrev one : Owed
    one = record { due = tick + n; messages = messages }

    abbrev late_one : Late
    late_one = record { ticks = n; messages = messages }

    abbrev made : Bool → Replies
    made b = if b then record { waiting = r.waiting ++ messages; late = r.late } else record { waiting = r.waiting; late = r.late ++ late_one ∷ [] }

    abbrev in_all : Bool → Bool → Replies
    in_all due late = record {
      waiting = r.waiting ++ flat_map (λ (o : Owed). o.messages) (if due then one ∷ filter (λ o. o.due == tick) rest else filter (λ o. o.due == tick) rest);
      late = r.late ++ map (late_at tick) (if late then one ∷ filter (λ o. nat_lt tick o.due) rest else filter (λ o. nat_lt tick o.due) rest);
    }

    late-is : late_one ≡ late_at tick one
    late-is = ap (λ (m : ℕ). let made : Late = record { ticks = m; messages = messages } in made) (omega arith)

    made-by : (b : Bool) → with_owed tick rest (made b) ≡ in_all b (not b)
    made-by true = ap (λ (w : List ℕ). let made : Replies = record { waiting = w; late = r.late ++ late_after tick rest } in made) (append_assoc r.waiting messages (due_at tick rest))
    made-by false =
        let later : List Late → Replies = λ l. record { waiting = r.waiting ++ due_at tick rest; late = l } in
        ap later (append_assoc r.late (late_one ∷ []) (late_after tick rest)) ∙ ap (λ (l : Late). later (r.late ++ l ∷ late_after tick rest)) late-is

    first-by : (b : Bool) → (n == 0) ≡ b → with_owed tick rest (made (n == 0)) ≡ in_all (tick + n == tick) (nat_lt tick (tick + n))
    first-by b is = ap (λ (t : Bool). with_owed tick rest (made t)) is ∙ made-by b ∙ sym (ap (λ (t : Bool). in_all t (not b)) (at_once n b is)) ∙ sym (ap (λ (t : Bool). in_all (tick + n == tick) t) (not_late n b is))

    -- messages that go in so many ticks are taken in, and then what is owed behind them
    pub owed-first : with_owed tick rest (with_messages n messages r) ≡ with_owed tick (record { due = tick + n; messages = messages } ∷ rest) r
    owed-first = first-by (n == 0) refl

-- ---- from event to event ----

module _ (size : Framing) (conduct : Conduct) (c : ℕ) where
  -- what is owed stays where nothing is promised
  pub owed-same : (event : Event) (past : List Event) → joins c event ≡ false → promised_by size conduct c event past ≡ [] → owed size conduct c (event ∷ past) ≡ owed size conduct c past
  unfolding owed
  owed-same event past other none =
      ap (λ (b : Bool). if b then [] else owed size conduct c past ++ promised_by size conduct c event past) other
      ∙ ap (λ (l : List Owed). owed size conduct c past ++ l) none ∙ append-nil (owed size conduct c past)

  pub owed-more : (event : Event) (past : List Event) → joins c event ≡ false → owed size conduct c (event ∷ past) ≡ owed size conduct c past ++ promised_by size conduct c event past
  unfolding owed
  owed-more event past other = ap (λ (b : Bool). if b then [] else owed size conduct c past ++ promised_by size conduct c event past) other

  pub owed-joined : (past : List Event) → (c == c) ≡ true → owed size conduct c (Joined c ∷ past) ≡ []
  unfolding owed
  owed-joined past own = ap (λ (b : Bool). if b then [] else owed size conduct c past ++ []) own

-- ---- a modem that answers at once ----

-- all is due at this tick or before
abbrev pub AreOver : ℕ → List Owed → Type 0
AreOver tick owed = AllByRecursion (λ o. o.due ≤ tick) owed

over-append : (tick : ℕ) (xs ys : List Owed) → AreOver tick xs → AreOver tick ys → AreOver tick (xs ++ ys)
over-append tick [] ys first second = second
over-append tick (x ∷ xs) ys first second = (first.0, over-append tick xs ys first.1 second)

over-joined : (tick : ℕ) (xs : List Owed) (b : Bool) → AreOver tick xs → AreOver tick (if b then [] else xs ++ [])
over-joined tick xs true over = tt
over-joined tick xs false over = over-append tick xs [] over tt

over-if : (tick : ℕ) (xs : List Owed) (b : Bool) → AreOver tick xs → AreOver tick (if b then xs else [])
over-if tick xs true over = over
over-if tick xs false over = tt

pub over-late : (tick : ℕ) (xs : List Owed) → AreOver tick xs → late_after tick xs ≡ []
over-late tick [] over = refl
over-late tick (x ∷ xs) over =
    let isnt : nat_lt tick x.due ≡ false = let within = over.0 in grind (arith, nat_tests, within) in
    ap (λ (b : Bool). map (late_at tick) (if b then x ∷ filter (λ o. nat_lt tick o.due) xs else filter (λ o. nat_lt tick o.due) xs)) isnt ∙ over-late tick xs over.1

pub over-due : (tick : ℕ) (xs : List Owed) → AreOver tick xs → due_at (tick + 1) xs ≡ []
over-due tick [] over = refl
over-due tick (x ∷ xs) over =
    let isnt : (x.due == tick + 1) ≡ false = let within = over.0 in grind (arith, nat_tests, within) in
    ap (λ (b : Bool). flat_map (λ (o : Owed). o.messages) (if b then x ∷ filter (λ o. o.due == tick + 1) xs else filter (λ o. o.due == tick + 1) xs)) isnt ∙ over-due tick xs over.1

pub over-next : (tick : ℕ) (xs : List Owed) → AreOver tick xs → AreOver (tick + 1) xs
over-next tick xs over = all_weaker (λ (o : Owed). o.due ≤ tick) (λ (o : Owed). o.due ≤ tick + 1) (λ o within. omega (arith, within)) xs over

module _ (size : Framing) (conduct : Conduct) (prompt : IsPrompt conduct) where
  over-promised : (tick : ℕ) (messages before : List (List ℕ)) → AreOver tick (promised conduct tick messages before)
  unfolding promised
  over-promised tick [] before = tt
  over-promised tick (m ∷ messages) before = (let once = prompt.at_once before m in omega (arith, once), over-promised tick messages (m ∷ before))

  -- it owes nobody anything
  pub over-owed : (c : ℕ) (past : List Event) → AreOver (ticks size conduct past) (owed size conduct c past)
  unfolding session owed
  over-owed c [] = tt
  over-owed c (Joined d ∷ past) = over-joined (ticks size conduct past) (owed size conduct c past) (d == c) (over-owed c past)
  over-owed c (Piece d piece ∷ past) =
      over-append (ticks size conduct past) (owed size conduct c past) _ (over-owed c past)
      (over-if (ticks size conduct past) (promises size conduct d piece past) (d == c) (over-promised (ticks size conduct past) (brought size conduct d piece past) (messages_of (requests size conduct past))))
  over-owed c (Left d ∷ past) = over-append (ticks size conduct past) (owed size conduct c past) [] (over-owed c past) tt
  over-owed c (ModemPiece piece ∷ past) = over-append (ticks size conduct past) (owed size conduct c past) [] (over-owed c past) tt
  over-owed c (ModemGone ∷ past) = over-append (ticks size conduct past) (owed size conduct c past) [] (over-owed c past) tt
  over-owed c (ModemBack ∷ past) = over-append (ticks size conduct past) (owed size conduct c past) [] (over-owed c past) tt
  over-owed c (Now time ∷ past) = over-append (ticks size conduct past + 1) (owed size conduct c past) [] (over-next (ticks size conduct past) (owed size conduct c past) (over-owed c past)) tt
  over-owed c (Took d count ∷ past) = over-append (ticks size conduct past) (owed size conduct c past) [] (over-owed c past) tt
  over-owed c (ModemTook count ∷ past) = over-append (ticks size conduct past) (owed size conduct c past) [] (over-owed c past) tt
