-- That serving a simulated modem keeps the rules by which clients can be served over a hub. A list of events has the newest first.
use Rattle.std.proofs.Common.{◌≡◌, ℕ, zero, suc, Bool, true, false, ◌==◌, if◌then◌else◌, List, [], ◌∷◌, ◌++◌, drop, refl, ap, sym, ◌∙◌, arith}
use Rattle.std.proofs.lemmas.Bool.{eq-eqb}
use Rattle.std.proofs.lemmas.List.{append-nil}
use Rattle.proxy_history.specs.Events.{Event, Joined, Piece, Left, ModemPiece, ModemGone, ModemBack, Now, Took, ModemTook}
use Rattle.proxy_history.specs.Streams.{Framing}
use Rattle.proxy_history.specs.Connections.{without}
use Rattle.proxy_history.specs.Proxy.{LeavesBytesOf, HasGrown, IsTakenByModem, IsLawful}
use Rattle.served_sim.specs.Conduct.{Conduct}
use Rattle.sim_serving.specs.Clients.{session, present, added, joins, taken, text, waiting}
use Rattle.sim_serving.specs.Proxy.{served}

same : (c : ℕ) → (c == c) ≡ true
same c = eq-eqb c c refl

-- an event that leaves a client's bytes isn't its joining
no_joining : (c : ℕ) (event : Event) → LeavesBytesOf c event → joins c event ≡ false
no_joining c (Joined d) other = other
no_joining c (Piece d piece) other = refl
no_joining c (Left d) other = refl
no_joining c (ModemPiece piece) other = refl
no_joining c ModemGone other = refl
no_joining c ModemBack other = refl
no_joining c (Now time) other = refl
no_joining c (Took d count) other = refl
no_joining c (ModemTook count) other = refl

-- and its socket takes nothing by it
no_taking : (c : ℕ) (event : Event) → LeavesBytesOf c event → taken c event ≡ 0
no_taking c (Joined d) other = refl
no_taking c (Piece d piece) other = refl
no_taking c (Left d) other = refl
no_taking c (ModemPiece piece) other = refl
no_taking c ModemGone other = refl
no_taking c ModemBack other = refl
no_taking c (Now time) other = refl
no_taking c (Took d count) other = ap (λ (b : Bool). if b then count else 0) other
no_taking c (ModemTook count) other = refl

module _ (size : Framing) (conduct : Conduct) where
  -- a client that doesn't join keeps what it got
  pub text_after : (c : ℕ) (event : Event) (past : List Event) → joins c event ≡ false → text size conduct c (event ∷ past) ≡ text size conduct c past ++ added size conduct c event past
  unfolding text
  text_after c event past other = ap (λ (b : Bool). if b then [] else text size conduct c past ++ added size conduct c event past) other

  pub waiting_after : (c : ℕ) (event : Event) (past : List Event) (count : ℕ) → joins c event ≡ false → taken c event ≡ count → waiting size conduct c (event ∷ past) ≡ drop count (waiting size conduct c past) ++ added size conduct c event past
  unfolding waiting
  waiting_after c event past count other taking =
      ap (λ (b : Bool). if b then [] else drop (taken c event) (waiting size conduct c past) ++ added size conduct c event past) other
      ∙ ap (λ (n : ℕ). drop n (waiting size conduct c past) ++ added size conduct c event past) taking

  -- a client that joins has nothing
  pub text_joined : (c : ℕ) (past : List Event) → text size conduct c (Joined c ∷ past) ≡ []
  unfolding text
  text_joined c past = ap (λ (b : Bool). if b then [] else text size conduct c past ++ []) (same c)

  pub waiting_joined : (c : ℕ) (past : List Event) → waiting size conduct c (Joined c ∷ past) ≡ []
  unfolding waiting
  waiting_joined c past = ap (λ (b : Bool). if b then [] else waiting size conduct c past ++ []) (same c)

  grown : (c : ℕ) (event : Event) (past : List Event) → LeavesBytesOf c event → HasGrown (served size conduct) c past (event ∷ past)
  grown c event past other = record {
    more = added size conduct c event past;
    text = text_after c event past (no_joining c event other);
    waiting = waiting_after c event past 0 (no_joining c event other) (no_taking c event other);
  }

  -- where an event adds nothing
  pub nothing_added : (c : ℕ) (event : Event) (past : List Event) (count : ℕ) → joins c event ≡ false → taken c event ≡ count → added size conduct c event past ≡ [] → waiting size conduct c (event ∷ past) ≡ drop count (waiting size conduct c past)
  nothing_added c event past count other taking none =
      waiting_after c event past count other taking ∙ ap (λ (l : List ℕ). drop count (waiting size conduct c past) ++ l) none ∙ append-nil (drop count (waiting size conduct c past))

  no_bytes : (c : ℕ) → text size conduct c [] ≡ waiting size conduct c []
  unfolding text waiting
  no_bytes c = refl

  nobody : present size conduct [] ≡ []
  unfolding session
  nobody = refl

  took_present : (c count : ℕ) (past : List Event) → present size conduct (Took c count ∷ past) ≡ present size conduct past
  unfolding session
  took_present c count past = refl

  modem_took_present : (count : ℕ) (past : List Event) → present size conduct (ModemTook count ∷ past) ≡ present size conduct past
  unfolding session
  modem_took_present count past = refl

  left_present : (c : ℕ) (past : List Event) → present size conduct (Left c ∷ past) ≡ without c (present size conduct past)
  unfolding session
  left_present c past = refl

  modem_taken : (count : ℕ) (past : List Event) → IsTakenByModem (served size conduct) count past
  modem_taken count past = record { more = []; waiting = none count }
    where
      none : (count : ℕ) → ◌≡◌ {A = List ℕ} [] (drop count [] ++ [])
      none zero = refl
      none (suc count) = refl

  pub is_lawful : IsLawful (served size conduct)
  is_lawful = record {
    nobody = nobody;
    none_dropped = refl;
    no_bytes = no_bytes;
    no_modem_bytes = refl;
    joined = λ c past. text_joined c past ∙ sym (waiting_joined c past);
    grown = grown;
    taken_text = λ c count past there. text_after c (Took c count) past refl ∙ append-nil (text size conduct c past);
    taken_waiting = λ c count past there. nothing_added c (Took c count) past count refl (ap (λ (b : Bool). if b then count else 0) (same c)) refl;
    took_other = λ c count d past other. nothing_added d (Took c count) past 0 refl (ap (λ (b : Bool). if b then count else 0) other) refl;
    left_other = λ c d past other. nothing_added d (Left c) past 0 refl refl refl;
    modem_took_other = λ count d past. nothing_added d (ModemTook count) past 0 refl refl refl;
    took_present = took_present;
    modem_took_present = modem_took_present;
    left_present = λ c past there. left_present c past;
    took_away = λ c count past. refl;
    left_away = λ c past. refl;
    gone_away = λ past some. absurd (omega (arith, some));
    modem_taken = modem_taken;
    backlog_lessens = λ count past some within. absurd (omega (arith, some, within));
    took_dropped = λ c count past. refl;
    left_dropped = λ c past. refl;
    modem_took_dropped = λ count past. refl;
    back_dropped = λ past. refl;
  }
