-- Bytes for clients that depend on what is kept of each: each gets them and is changed, or is dropped where they find no room.
use Rattle.std.proofs.Common.{◌≡◌, ℕ, ◌+◌, Bool, true, false, not, cond, ◌&&◌, ◌||◌, ◌==◌, List, [], ◌∷◌, ◌++◌, length, filter, nat_lt, nat_le, refl, ap, sym, ◌∙◌, subst, arith, Option, Some, None, if◌then◌else◌}
use Rattle.std.specs.List.{AllByRecursion, IsDistinct}
use Rattle.std.proofs.lemmas.List.Elements.{recursion_from_All}
use Rattle.std.proofs.lemmas.Bool.{eqb-true, eq-eqb}
use Rattle.std.proofs.lemmas.Bool.Decides.{nat_tests}
use Rattle.kit_bytes.proofs.Lists.{all_passing}
use Rattle.outbox.specs.Queue.{Queue, has_room}
use Rattle.connections.specs.Table.{Connection, connection_in, changed, gets, finds_room}
use Rattle.connections.specs.Table as tables
use Rattle.proxy_history.specs.Facts.{Fact, Ended, NoRoom}
use Rattle.proxy_history.specs.Connections.{present, dropped, contains, without}
use Rattle.proxy_history.specs.View.{view}
use Rattle.proxy_history.specs.Noting.{rendering, end_if_overfull, end_overfull}
use Rattle.proxy_history.specs.Protocol.{Protocol}
use Rattle.proxy_history.proofs.Numbers.{contains_other}
use Rattle.proxy_history.proofs.Sound.{each_contained}
use Rattle.proxy_state.specs.State.{State, Handlers}
use Rattle.proxy_state.specs.Stands.{Kept, ClientState, client_state_of, connection_as, Streams}
use Rattle.proxy_state.specs.Step.{given_up_unless}
use Rattle.proxy_state.specs.Telling.{told, tell_if, tell_to, tell, tell_each}
use Rattle.proxy_state.specs.Faithful.{Keeps, FollowsConnections}
use Rattle.proxy_state.proofs.Changed.{changed_found, found_made}
use Rattle.proxy_state.proofs.ClientStates.{lacks_room, put_to}
use Rattle.proxy_state.proofs.Keeping.{KeepsAs, made_as, kept_from, kept_before, changed_as, dropped_as}

-- ---- bytes for a client that they change nothing of ----

module _ {T S : Type 0} (give_up : ℕ → S → S) (text : T → List ℕ) (c : ℕ) (bytes : List ℕ) (x : State T S) (is : (k : Connection T) → connection_in c x.table.present ≡ Some k → text k.client ≡ bytes) where
  pub tell_is : tell give_up text (λ client. client) c x ≡ record { table = tables.tells c bytes x.table; beside = given_up_unless give_up (finds_room bytes (connection_in c x.table.present)) c x.beside }
  tell_is = by (connection_in c x.table.present) refl
    where
      by_room : (k : Connection T) → connection_in c x.table.present ≡ Some k → (fits : Bool) → tell_if give_up text (λ client. client) fits c k x ≡ record { table = tables.tells_if fits c bytes k x.table; beside = given_up_unless give_up fits c x.beside }
      by_room k at true =
          let same = changed_found c (told give_up text (λ client. client)) (gets bytes) x.table.present k at (ap (λ (l : List ℕ). gets l k) (is k at)) in
          ap (λ (l : List (Connection T)). let y : State T S = record x { table = record x.table { present = l } } in y) same
      by_room k at false = refl

      by : (o : Option (Connection T)) → connection_in c x.table.present ≡ o → tell_to give_up text (λ client. client) o c x ≡ record { table = tables.tells_to o c bytes x.table; beside = given_up_unless give_up (finds_room bytes o) c x.beside }
      by None at = refl
      by (Some k) at = ap (λ (l : List ℕ). tell_if give_up text (λ client. client) (has_room l k.outbox) c k x) (is k at) ∙ by_room k at (has_room bytes k.outbox)

-- ---- lists of receivers ----

abbrev pub AreThere : List ℕ → List ℕ → Type 0
AreThere names cs = AllByRecursion (λ c. contains c names ≡ true) cs

abbrev AreOnce : List ℕ → Type 0
AreOnce cs = IsDistinct (λ c d. c == d) cs

not_in : (c : ℕ) (cs : List ℕ) → AllByRecursion (λ d. (c == d) ≡ false) cs → contains c cs ≡ false
not_in c [] all = refl
not_in c (d ∷ cs) all = ap (λ (b : Bool). b || contains c cs) all.0 ∙ not_in c cs all.1

once_first : (c : ℕ) (cs : List ℕ) → AreOnce (c ∷ cs) → (contains c cs ≡ false) × AreOnce cs
unfolding IsDistinct
once_first c cs once = (not_in c cs once.0, once.1)

pub chosen_there : (p : ℕ → Bool) (names : List ℕ) → AreThere names (filter p names)
chosen_there p names = all_passing p (λ c. contains c names ≡ true) (λ c. contains c names ≡ true) (λ c e h. h) names (recursion_from_All (λ c. contains c names ≡ true) names (each_contained names))

there_without : (c : ℕ) (names cs : List ℕ) → contains c cs ≡ false → AreThere names cs → AreThere (without c names) cs
there_without c names [] out there = tt
there_without c names (d ∷ cs) out there =
    let parts : (b : Bool) → (b || contains c cs) ≡ false → (b ≡ false) × (contains c cs ≡ false) =
    λ b. elim b as (λ b. (b || contains c cs) ≡ false → (b ≡ false) × (contains c cs ≡ false)) [ true ↦ λ e. absurd (cc) | false ↦ λ e. (refl, e) ]
    in
    let both = parts (c == d) out in
    (contains_other c d names both.0 ∙ there.0, there_without c names cs both.1 there.1)

-- ---- client_states ----

module _ {T : Type 0} (room : ℕ) (bytes : List ℕ) (rest : List ℕ) (c : ℕ) (a : ClientState T) (fits : a.is_over ≡ false) where
  abbrev outbox : Queue
  outbox = record { bytes = a.waiting; capacity = room }

  -- an outbox finds room where the client_state does
  pub lacks_is : lacks_room room bytes a ≡ not (has_room bytes outbox)
  lacks_is = ap (λ (b : Bool). b || nat_lt room (length a.waiting + length bytes)) fits ∙ tests (length a.waiting + length bytes)
    where
      tests : (n : ℕ) → nat_lt room n ≡ not (nat_le n room)
      tests n = grind (arith, nat_tests)

  pub still_waits : lacks_room room bytes a ≡ true → (put_to room bytes a).waiting ≡ a.waiting
  still_waits over = ap (λ (b : Bool). if b then a.waiting else a.waiting ++ bytes) over

-- whom bytes find with no room ends
pub end_if_is : {Known : Type 0} (p : Protocol Known) (c : ℕ) (past : List Fact) (over : Bool) → contains c (present past) ≡ true → (rendering p.limits p.wording c past).is_over ≡ over → end_if_overfull p.limits p.wording c past ≡ (if over then Ended c NoRoom ∷ past else past)
end_if_is p c past over there is =
    ap (λ (b : Bool). if b && (rendering p.limits p.wording c past).is_over then Ended c NoRoom ∷ past else past) there ∙ ap (λ (b : Bool). if b then Ended c NoRoom ∷ past else past) is

module _ {Known T S : Type 0} (p : Protocol Known) (k : Kept Known T S) (h : Handlers T S) (Fine : List Fact → Type 0) (F : FollowsConnections p k h Fine) (streams : Streams) (text : T → List ℕ) (change : T → T) where
  abbrev Kept_now : List Fact → State T S → Type 0
  Kept_now past x = Keeps p k Fine streams past x

  abbrev room : ℕ
  room = p.limits.outbox

  -- bytes come for it, where they find room, and it changes
  abbrev pub told_to : ClientState T → ClientState T
  told_to a = record (put_to room (text a.client) a) { client = change a.client }

  abbrev told_if : Bool → ClientState T → ClientState T
  told_if b a = if b then told_to a else a

  abbrev told_as : Connection T → Connection T
  told_as l = told h.give_up text change l

  gotten : (rest : List ℕ) (c : ℕ) (a : ClientState T) → lacks_room room (text a.client) a ≡ false → connection_as room rest c (told_to a) ≡ told_as (connection_as room rest c a)
  gotten rest c a found = ap (λ (b : Bool). connection_as room rest c (let after : ClientState T = record { client = change a.client; waiting = if b then a.waiting else a.waiting ++ text a.client; is_over = b } in after)) found

  -- the facts have the bytes for these, and the core hasn't told them yet
  module _ (c : ℕ) (cs : List ℕ) (past : List Fact) (x : State T S) (before : ℕ → ClientState T) (there : contains c (present past) ≡ true) (once : contains c cs ≡ false) (to : (d : ℕ) → client_state_of p k past d ≡ told_if (d == c || contains d cs) (before d)) (A : KeepsAs p k Fine streams before past x) where
    abbrev after : ℕ → ClientState T
    after d = if c == d then client_state_of p k past c else before d

    abbrev it_was : Connection T
    it_was = connection_as room (streams.rests c) c (before c)

    abbrev bytes : List ℕ
    bytes = text (before c).client

    own : client_state_of p k past c ≡ told_to (before c)
    own = to c ∙ ap (λ (b : Bool). told_if (b || contains c cs) (before c)) (eq-eqb c c refl)

    own_after : after c ≡ told_to (before c)
    own_after = ap (λ (b : Bool). if b then client_state_of p k past c else before c) (eq-eqb c c refl) ∙ own

    other : (d : ℕ) → (c == d) ≡ false → after d ≡ before d
    other d differs = ap (λ (b : Bool). if b then client_state_of p k past c else before d) differs

    to_after : (d : ℕ) → client_state_of p k past d ≡ told_if (contains d cs) (after d)
    to_after d =
        let After : Bool → Type 0 = λ (b : Bool). client_state_of p k past d ≡ told_if (contains d cs) (if b then client_state_of p k past c else before d) in
        let step : (b : Bool) → (c == d) ≡ b → After b =
        λ b. elim b as (λ b. (c == d) ≡ b → After b) [
          | true ↦ λ e.
              let out : contains d cs ≡ false = ap (λ (n : ℕ). contains n cs) (sym (eqb-true c d e)) ∙ once in
              ap (client_state_of p k past) (sym (eqb-true c d e)) ∙ sym (ap (λ (b : Bool). told_if b (client_state_of p k past c)) out)
          | false ↦ λ e. let differs : (d == c) ≡ false = grind (arith, nat_tests, e) in to d ∙ ap (λ (b : Bool). told_if (b || contains d cs) (before d)) differs
        ]
        in step (c == d) refl

    lacks_it : lacks_room room bytes (before c) ≡ not (has_room bytes it_was.outbox)
    lacks_it = lacks_is room bytes (streams.rests c) c (before c) (A.fits c there)

    over_now : (rendering p.limits p.wording c past).is_over ≡ not (has_room bytes it_was.outbox)
    over_now = ap (λ (a : ClientState T). a.is_over) own ∙ lacks_it

    -- it finds room
    room_kept : has_room bytes it_was.outbox ≡ true → KeepsAs p k Fine streams after past (record x { table = record x.table { present = changed c told_as x.table.present } })
    room_kept found =
        let lacks : lacks_room room bytes (before c) ≡ false = lacks_it ∙ ap not found in
        changed_as p k Fine streams before after c other past x there A told_as (ap (connection_as room (streams.rests c) c) own_after ∙ gotten (streams.rests c) c (before c) lacks) (ap (λ (a : ClientState T). a.is_over) own_after ∙ lacks)

    -- it lacks room
    abbrev over_past : List Fact
    over_past = Ended c NoRoom ∷ past

    to_over : (d : ℕ) → client_state_of p k over_past d ≡ told_if (contains d cs) (after d)
    unfolding view
    to_over d = to_after d

    over_kept : has_room bytes it_was.outbox ≡ false → KeepsAs p k Fine streams after over_past (record { table = tables.drops c it_was.outbox x.table; beside = h.give_up c x.beside })
    unfolding present dropped
    over_kept full =
        let lacks : lacks_room room bytes (before c) ≡ true = lacks_it ∙ ap not full in
        dropped_as p k Fine streams before after c other past x there A over_past (h.give_up c x.beside) refl (ap (h.give_up c) A.beside ∙ F.ended c NoRoom streams.messages past) (F.fine_more (Ended c NoRoom) past there tt A.fine)
        it_was.outbox (sym (ap (λ (a : ClientState T). a.waiting) own_after ∙ still_waits room bytes (streams.rests c) c (before c) (A.fits c there) lacks)) refl

    tell_there : tell h.give_up text change c x ≡ tell_if h.give_up text change (has_room bytes it_was.outbox) c it_was x
    tell_there =
        ap (λ (o : Option (Connection T)). tell_to h.give_up text change o c x)
        (ap (connection_in c) A.connections ∙ found_made (made_as p k Fine streams before) (λ d. refl) c (present past) ∙ ap (λ (b : Bool). cond b (Some it_was) None) there)

  told_all : (cs : List ℕ) (past : List Fact) (x : State T S) (before : ℕ → ClientState T) → AreThere (present past) cs → AreOnce cs → ((d : ℕ) → client_state_of p k past d ≡ told_if (contains d cs) (before d)) → KeepsAs p k Fine streams before past x
      → Kept_now (end_overfull p.limits p.wording cs past) (tell_each h.give_up text change cs x)
  unfolding tell_each end_overfull present
  told_all [] past x before there once to A = kept_from p k Fine streams before past x to A
  told_all (c ∷ cs) past x before there once to A =
      let Next : List Fact → State T S → Type 0 = λ (l : List Fact) (y : State T S). Kept_now (end_overfull p.limits p.wording cs l) (tell_each h.give_up text change cs y) in
      let out = once_first c cs once in
      let was : Connection T = it_was c cs past x before there.0 out.0 to A in
      let sent : List ℕ = bytes c cs past x before there.0 out.0 to A in
      let next : (fits : Bool) → has_room sent was.outbox ≡ fits → Next (if not fits then Ended c NoRoom ∷ past else past) (tell_if h.give_up text change fits c was x) =
      λ fits. elim fits as (λ fits. has_room sent was.outbox ≡ fits → Next (if not fits then Ended c NoRoom ∷ past else past) (tell_if h.give_up text change fits c was x)) [
        | true ↦ λ e. told_all cs past _ _ there.1 out.1 (to_after c cs past x before there.0 out.0 to A) (room_kept c cs past x before there.0 out.0 to A e)
        | false ↦ λ e. told_all cs (Ended c NoRoom ∷ past) _ _ (there_without c (present past) cs out.0 there.1) out.1 (to_over c cs past x before there.0 out.0 to A) (over_kept c cs past x before there.0 out.0 to A e)
      ]
      in
      let fits : Bool = has_room sent was.outbox in
      subst (Next (end_if_overfull p.limits p.wording c past)) (sym (tell_there c cs past x before there.0 out.0 to A))
      (subst (λ (l : List Fact). Next l (tell_if h.give_up text change fits c was x)) (sym (end_if_is p c past (not fits) there.0 (over_now c cs past x before there.0 out.0 to A))) (next fits refl))

  -- ---- facts have just told clients ----

  module _ (later past : List Fact) (x : State T S) (beside : S) (same_present : present later ≡ present past) (same_dropped : dropped later ≡ dropped past) (is : beside ≡ k.beside streams.messages later) (fine : Fine later) (K : Kept_now past x) where
    abbrev besides : State T S
    besides = record x { beside = beside }

    -- each of them gets the bytes, or is dropped
    pub told_each : (cs : List ℕ) → AreThere (present past) cs → AreOnce cs → ((d : ℕ) → client_state_of p k later d ≡ told_if (contains d cs) (client_state_of p k past d)) → Kept_now (end_overfull p.limits p.wording cs later) (tell_each h.give_up text change cs besides)
    told_each cs there once to =
        told_all cs later besides (client_state_of p k past) (subst (λ (xs : List ℕ). AreThere xs cs) (sym same_present) there) once to
        (kept_before p k Fine streams later past x beside same_present same_dropped is fine K)

    -- one client
    pub told_one : (c : ℕ) → contains c (present past) ≡ true → client_state_of p k later c ≡ told_to (client_state_of p k past c) → ((d : ℕ) → (c == d) ≡ false → client_state_of p k later d ≡ client_state_of p k past d)
        → Kept_now (end_if_overfull p.limits p.wording c later) (tell h.give_up text change c besides)
    unfolding tell_each end_overfull IsDistinct
    told_one c there own other = told_each (c ∷ []) (there, tt) (tt, tt) to
      where
        to : (d : ℕ) → client_state_of p k later d ≡ told_if (d == c || false) (client_state_of p k past d)
        to d =
            let To : Bool → Type 0 = λ (b : Bool). client_state_of p k later d ≡ told_if (b || false) (client_state_of p k past d) in
            let step : (b : Bool) → (d == c) ≡ b → To b =
            λ b. elim b as (λ b. (d == c) ≡ b → To b) [
              | true ↦ λ e. subst (λ (n : ℕ). client_state_of p k later n ≡ told_to (client_state_of p k past n)) (sym (eqb-true d c e)) own
              | false ↦ λ e. other d (grind (arith, nat_tests, e))
            ]
            in step (d == c) refl
