-- Clients that are chosen by what is kept of them are told from place to place: a turn, from what the code sees of the client of a place.
use Rattle.std.proofs.Common.{◌≡◌, ℕ, zero, suc, ◌+◌, ◌<◌, Bool, true, false, List, [], ◌∷◌, length, get_or, refl, ap, sym, ◌∙◌, subst, arith, Some, None}
use Rattle.std.specs.List.{position}
use Rattle.std.proofs.lemmas.Bool.{eqb-true}
use Rattle.connections.specs.Table.{Connection, AreRising, connection_in, changed, changed_at, with_client, finds_room}
use Rattle.connections.proofs.Named.{is_named, is_at, inside, found_at, none_found}
use Rattle.proxy_state.specs.State.{State}
use Rattle.proxy_state.specs.Chosen.{StandsAt, tell_from}
use Rattle.proxy_state.specs.Telling.{tell, told}
use Rattle.proxy_state.proofs.Changed.{changed_found}
use Rattle.proxy_state.proofs.Chosen.{turn_by, turn_on, turn_off}
use Rattle.proxy_state.proofs.Places.{found, connection_at, stands_at, length_updated, changed_again}
use Rattle.mbim_core.proofs.Tells.{told_nobody, told_same, told_full, told_changed, put_if, room_of}

-- ---- the client of a name ----

module _ {T S : Type 0} (give_up : ℕ → S → S) (text : T → List ℕ) (c : ℕ) (x : State T S) where
  pub nobody_told : None ≡ position (is_named c) x.table.present → x ≡ tell give_up text (λ k. k) c x
  nobody_told none = told_nobody give_up text (λ k. k) c x (none_found c x.table.present (sym none))

  -- `client` is what is kept of it
  pub one_told : (place : ℕ) → Some place ≡ position (is_named c) x.table.present → (client : T) → ((k : Connection T) → StandsAt k x.table.present place → client ≡ k.client)
      → (bytes : List ℕ) → bytes ≡ text client → tell give_up (λ _. bytes) (λ k. k) c x ≡ tell give_up text (λ k. k) c x
  one_told place stands client is bytes written =
      let here : place < length x.table.present = inside c x.table.present place stands (connection_at client x.table.present place) in
      let at : StandsAt (connection_at client x.table.present place) x.table.present place = stands_at client x.table.present place here in
      told_same give_up text c x (connection_at client x.table.present place) (found_at c x.table.present place stands (connection_at client x.table.present place) at) bytes (written ∙ ap text (is _ at))

-- ---- the client of a place ----

-- what the code sees of the connection of a place
pub record SeenAt {T : Type 0} (present : List (Connection T)) (i name : ℕ) (client : T) : Type 0 where
  pub here : i < length present
  pub rising : AreRising present
  pub named : (k : Connection T) → StandsAt k present i → name ≡ k.name
  pub is : (k : Connection T) → StandsAt k present i → client ≡ k.client

-- its name is read off the whole state, and its client off the parts that the state stands for
pub seen_as : {T S : Type 0} (was x : State T S) (i name : ℕ) (client : T) → was ≡ x → i < length x.table.present → AreRising x.table.present → ((k : Connection T) → StandsAt k x.table.present i → name ≡ k.name)
    → ((k : Connection T) → StandsAt k was.table.present i → client ≡ k.client) → SeenAt was.table.present i name client
seen_as {T} {S} was x i name client same here rising named is = record {
  here = subst (λ (v : State T S). i < length v.table.present) (sym same) here;
  rising = subst (λ (v : State T S). AreRising v.table.present) (sym same) rising;
  named = subst (λ (v : State T S). (k : Connection T) → StandsAt k v.table.present i → name ≡ k.name) (sym same) named;
  is = is;
}

-- the place is that of a name
pub seen_named : {T : Type 0} (present : List (Connection T)) (place name : ℕ) (client : T) → Some place ≡ position (is_named name) present → AreRising present → ((k : Connection T) → StandsAt k present place → client ≡ k.client) → SeenAt present place name client
seen_named {T} present place name client stands rising is = record {
  here = inside name present place stands (connection_at client present place);
  rising = rising;
  named = λ k at. eqb-true name k.name (ap (is_named name) at ∙ (is_at name present place stands k).named k);
  is = is;
}

module _ {T : Type 0} (k : Connection T) where
  -- what is put at a place stands there
  written_at : (i : ℕ) (present : List (Connection T)) → StandsAt k (changed_at i (λ _. k) present) i
  written_at zero [] = refl
  written_at (suc i) [] = refl
  written_at zero (l ∷ present) = refl
  written_at (suc i) (l ∷ present) = written_at i present

-- one that is changed stands where it stood
pub stands_changed : {T : Type 0} (k : Connection T) (f : Connection T → Connection T) (present : List (Connection T)) (i : ℕ) → AreRising present → i < length present → StandsAt k present i → StandsAt (f k) (changed k.name f present) i
stands_changed {T} k f present i rising within at =
    let again : changed_at i (λ (l : Connection T). f k) (changed k.name f present) ≡ changed k.name f present =
    changed_again k f (λ (l : Connection T). f k) present i rising within at ∙ changed_found k.name (λ (l : Connection T). f k) f present k (found k present i rising within at) refl
    in
    written_at (f k) i (changed k.name f present) ∙ ap (λ (l : List (Connection T)). get_or l i (f k)) again

module _ {T S : Type 0} (give_up : ℕ → S → S) (text : T → List ℕ) where
  module _ (change : T → T) (choose : T → Bool) (i : ℕ) (x : State T S) (c : ℕ) (client : T) (seen : SeenAt x.table.present i c client) where
    abbrev is_chosen : S → Connection T → Bool
    is_chosen beside k = choose k.client

    still : (c : ℕ) (beside : S) (k : Connection T) → c < k.name → is_chosen (give_up c beside) k ≡ is_chosen beside k
    still c beside k later = refl

    abbrev from : ℕ → State T S → State T S
    from n y = tell_from give_up text change is_chosen n y

    abbrev one : Connection T
    one = connection_at client x.table.present i

    at : StandsAt one x.table.present i
    at = stands_at client x.table.present i seen.here

    -- it isn't chosen
    pub passed : choose client ≡ false → (from (i + 1) x ≡ from i x) × (length x.table.present + i < length x.table.present + (i + 1))
    passed out = (turn_by give_up text change is_chosen still i x one seen.here at (ap choose (sym (seen.is one at)) ∙ out), omega arith)

    module _ (chosen : choose client ≡ true) (bytes : List ℕ) (written : bytes ≡ text client) where
      it : choose one.client ≡ true
      it = ap choose (sym (seen.is one at)) ∙ chosen

      known : connection_in c x.table.present ≡ Some one
      known = ap (λ (n : ℕ). connection_in n x.table.present) (seen.named one at) ∙ found one x.table.present i seen.rising seen.here at

      by_name : (new : State T S) → new ≡ tell give_up text change c x → new ≡ tell give_up text change one.name x
      by_name new made = made ∙ ap (λ (n : ℕ). tell give_up text change n x) (seen.named one at)

      room : (fits : Bool) → fits ≡ finds_room bytes (connection_in c x.table.present) → fits ≡ finds_room (text one.client) (connection_in one.name x.table.present)
      room fits finds = finds ∙ ap (λ (l : List ℕ). finds_room l (connection_in c x.table.present)) (written ∙ ap text (seen.is one at)) ∙ ap (λ (n : ℕ). finds_room (text one.client) (connection_in n x.table.present)) (seen.named one at)

      -- it is dropped
      pub dropped : (new : State T S) → new ≡ tell give_up (λ _. bytes) (λ k. k) c x → false ≡ finds_room bytes (connection_in c x.table.present)
          → (from i new ≡ from i x) × (length new.table.present + i < length x.table.present + i)
      dropped new made full =
          turn_off give_up text change is_chosen still i x one seen.here at seen.rising it new
          (by_name new (made ∙ told_full give_up text change c x one known bytes (written ∙ ap text (seen.is one at)) (room_of bytes c x one known false full))) (room false full)

      -- it gets the bytes, and what is kept of it stays the same
      pub got : (new : State T S) → new ≡ tell give_up (λ _. bytes) (λ k. k) c x → true ≡ finds_room bytes (connection_in c x.table.present)
          → (tell_from give_up text (λ k. k) is_chosen (i + 1) new ≡ tell_from give_up text (λ k. k) is_chosen i x) × (length new.table.present + i < length x.table.present + (i + 1))
      got new made fits =
          turn_on give_up text (λ k. k) is_chosen still i x one seen.here at seen.rising it new
          (made ∙ told_same give_up text c x one known bytes (written ∙ ap text (seen.is one at)) ∙ ap (λ (n : ℕ). tell give_up text (λ k. k) n x) (seen.named one at)) (room true fits)

  -- ---- the client of a name, which stands at a place ----

  module _ (change : T → T) (i : ℕ) (x : State T S) (c : ℕ) (client : T) (seen : SeenAt x.table.present i c client) (bytes : List ℕ) (written : bytes ≡ text client) where
    abbrev the_one : Connection T
    the_one = connection_at client x.table.present i

    stands : StandsAt the_one x.table.present i
    stands = stands_at client x.table.present i seen.here

    known_here : connection_in c x.table.present ≡ Some the_one
    known_here = ap (λ (n : ℕ). connection_in n x.table.present) (seen.named the_one stands) ∙ found the_one x.table.present i seen.rising seen.here stands

    its_text : bytes ≡ text the_one.client
    its_text = written ∙ ap text (seen.is the_one stands)

    given : (new : State T S) → new ≡ tell give_up (λ _. bytes) (λ k. k) c x → true ≡ finds_room bytes (connection_in c x.table.present) → new.table.present ≡ changed c (told give_up (λ _. bytes) (λ k. k)) x.table.present
    given new made fits = ap (λ (y : State T S). y.table.present) (made ∙ put_if give_up text change c x the_one known_here bytes its_text true (room_of bytes c x the_one known_here true fits))

    -- it is there still where it gets the bytes
    pub remains : (new : State T S) → new ≡ tell give_up (λ _. bytes) (λ k. k) c x → true ≡ finds_room bytes (connection_in c x.table.present) → i < length new.table.present
    remains new made fits =
        let long : length new.table.present ≡ length x.table.present = ap length (given new made fits) ∙ length_updated c (told give_up (λ _. bytes) (λ k. k)) x.table.present in
        omega (arith, seen.here, long)

    -- and what is kept of it is the same
    pub keeps : (new : State T S) → new ≡ tell give_up (λ _. bytes) (λ k. k) c x → true ≡ finds_room bytes (connection_in c x.table.present)
        → (kept : T) → ((k : Connection T) → StandsAt k new.table.present i → kept ≡ k.client) → kept ≡ client
    keeps new made fits kept reads =
        let put : Connection T → Connection T = told give_up (λ _. bytes) (λ k. k) in
        let there : new.table.present ≡ changed the_one.name put x.table.present = given new made fits ∙ ap (λ (n : ℕ). changed n put x.table.present) (seen.named the_one stands) in
        reads (put the_one) (subst (λ (l : List (Connection T)). StandsAt (put the_one) l i) (sym there) (stands_changed the_one put x.table.present i seen.rising seen.here stands)) ∙ sym (seen.is the_one stands)

    -- where they find no room it is dropped
    pub dropped_here : (new : State T S) → new ≡ tell give_up (λ _. bytes) (λ k. k) c x → false ≡ finds_room bytes (connection_in c x.table.present) → new ≡ tell give_up text change c x
    dropped_here new made full = made ∙ told_full give_up text change c x the_one known_here bytes its_text (room_of bytes c x the_one known_here false full)

    -- else it is changed
    pub changed_here : (sent new : State T S) → sent ≡ tell give_up (λ _. bytes) (λ k. k) c x → true ≡ finds_room bytes (connection_in c x.table.present)
        → (later : T) → later ≡ change client → new ≡ record sent { table = record sent.table { present = changed_at i (with_client later) sent.table.present } } → new ≡ tell give_up text change c x
    changed_here sent new made fits later changed_is new_is =
        new_is ∙ told_changed give_up text change c x i the_one seen.rising seen.here stands (seen.named the_one stands) bytes its_text fits sent made later (changed_is ∙ ap change (seen.is the_one stands))
