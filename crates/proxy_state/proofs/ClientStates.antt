-- What the facts of connections make of a client's client_state.
use Rattle.std.proofs.Common.{◌≡◌, ℕ, ◌+◌, Bool, true, false, ◌||◌, ◌==◌, List, [], ◌∷◌, ◌++◌, length, drop, nat_lt, refl, ap, ◌∙◌, if◌then◌else◌}
use Rattle.std.proofs.lemmas.Bool.{eq-eqb}
use Rattle.proxy_history.specs.Facts.{Fact, Admitted, Ended, Taken, EventBegan, Why, NotAdmitted, BadStream, NoRoom, Leaving}
use Rattle.proxy_history.specs.View.{Entry, Taking, End, view, entry_if}
use Rattle.proxy_history.specs.Rendering.{render}
use Rattle.proxy_history.specs.Wording.{told_by, text_behind}
use Rattle.proxy_history.specs.Protocol.{Protocol}
use Rattle.proxy_state.specs.Stands.{Kept, ClientState, client_state_of}

abbrev pub take_waiting : {T : Type 0} → ℕ → ClientState T → ClientState T
take_waiting count a = record a { waiting = drop count a.waiting }

-- bytes lack room; `room` is how many may wait
abbrev pub lacks_room : {T : Type 0} → (room : ℕ) → List ℕ → ClientState T → Bool
lacks_room room bytes a = a.is_over || nat_lt room (length a.waiting + length bytes)

-- bytes come, where they find room
abbrev pub put_to : {T : Type 0} → (room : ℕ) → List ℕ → ClientState T → ClientState T
put_to room bytes a = record {
  client = a.client;
  waiting = if lacks_room room bytes a then a.waiting else a.waiting ++ bytes;
  is_over = lacks_room room bytes a;
}

module _ {Known T S : Type 0} (p : Protocol Known) (k : Kept Known T S) where
  -- the client_state that some entries make
  abbrev pub client_state_from : List Entry → ClientState T
  client_state_from entries = record {
    client = k.client (told_by p.wording.fresh p.wording.step entries);
    waiting = (render p.limits.outbox (text_behind p.wording) entries).waiting;
    is_over = (render p.limits.outbox (text_behind p.wording) entries).is_over;
  }

  abbrev pub client_state : List Fact → ℕ → ClientState T
  client_state past c = client_state_of p k past c

  pub client_state_begun : (past : List Fact) (d : ℕ) → client_state (EventBegan ∷ past) d ≡ client_state past d
  unfolding view
  client_state_begun past d = refl

  -- ---- a socket takes bytes ----

  module _ (taken_bytes : (known : Known) (count : ℕ) → k.client (p.wording.step known (Taking count)) ≡ k.client known) where
    taking_from : (count : ℕ) (entries : List Entry) → client_state_from (Taking count ∷ entries) ≡ take_waiting count (client_state_from entries)
    unfolding render told_by
    taking_from count entries = ap (λ (t : T). let a : ClientState T = record { client = t; waiting = drop count (client_state_from entries).waiting; is_over = (client_state_from entries).is_over } in a) (taken_bytes (told_by p.wording.fresh p.wording.step entries) count)

    pub taken_own : (past : List Fact) (c count : ℕ) → client_state (Taken c count ∷ past) c ≡ take_waiting count (client_state past c)
    unfolding view
    taken_own past c count = ap (λ (b : Bool). client_state_from (entry_if b (Taking count) (view p.wording.blank c past))) (eq-eqb c c refl) ∙ taking_from count (view p.wording.blank c past)

  pub taken_other : (past : List Fact) (c count d : ℕ) → (c == d) ≡ false → client_state (Taken c count ∷ past) d ≡ client_state past d
  unfolding view
  taken_other past c count d other = ap (λ (b : Bool). client_state_from (entry_if b (Taking count) (view p.wording.blank d past))) other

  -- ---- connections ----

  -- the end of a connection changes no other client_state
  pub ended_other : (past : List Fact) (c : ℕ) (why : Why) (d : ℕ) → (c == d) ≡ false → client_state (Ended c why ∷ past) d ≡ client_state past d
  unfolding view
  ended_other past c NotAdmitted d other = ap (λ (b : Bool). client_state_from (if b then End NotAdmitted ∷ [] else view p.wording.blank d past)) other
  ended_other past c BadStream d other = ap (λ (b : Bool). client_state_from (entry_if b (End BadStream) (view p.wording.blank d past))) other
  ended_other past c NoRoom d other = refl
  ended_other past c Leaving d other = ap (λ (b : Bool). client_state_from (entry_if b (End Leaving) (view p.wording.blank d past))) other

  ended_waiting : (b : Bool) (why : Why) (entries : List Entry) → (client_state_from (entry_if b (End why) entries)).waiting ≡ (client_state_from entries).waiting
  unfolding render
  ended_waiting true why entries = refl
  ended_waiting false why entries = refl

  -- what waited for it still does
  pub spoilt_waiting : (past : List Fact) (c : ℕ) → (client_state (Ended c BadStream ∷ past) c).waiting ≡ (client_state past c).waiting
  unfolding view
  spoilt_waiting past c = ended_waiting (c == c) BadStream (view p.wording.blank c past)

  pub overfull_waiting : (past : List Fact) (c : ℕ) → (client_state (Ended c NoRoom ∷ past) c).waiting ≡ (client_state past c).waiting
  unfolding view
  overfull_waiting past c = refl

  -- none waits for one that was refused
  pub refused_waiting : (past : List Fact) (c : ℕ) → (client_state (Ended c NotAdmitted ∷ past) c).waiting ≡ []
  unfolding view render
  refused_waiting past c = ap (λ (b : Bool). (client_state_from (if b then End NotAdmitted ∷ [] else view p.wording.blank c past)).waiting) (eq-eqb c c refl)

  abbrev pub new_client_state : ClientState T
  new_client_state = record { client = k.client p.wording.fresh; waiting = []; is_over = false }

  pub admitted_own : (past : List Fact) (c : ℕ) → client_state (Admitted c ∷ past) c ≡ new_client_state
  unfolding view render told_by
  admitted_own past c = ap (λ (b : Bool). client_state_from (if b then [] else view p.wording.blank c past)) (eq-eqb c c refl)

  pub admitted_other : (past : List Fact) (c d : ℕ) → (c == d) ≡ false → client_state (Admitted c ∷ past) d ≡ client_state past d
  unfolding view
  admitted_other past c d other = ap (λ (b : Bool). client_state_from (if b then [] else view p.wording.blank d past)) other
