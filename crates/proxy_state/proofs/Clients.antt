-- What a piece of a client, its leaving, its socket and a new client make of what a core keeps.
use Rattle.std.proofs.Common.{◌≡◌, ℕ, ◌<◌, ◌≤◌, Bool, true, false, not, cond, ◌&&◌, ◌||◌, ◌==◌, List, [], ◌∷◌, ◌++◌, length, map, refl, ap, sym, ◌∙◌, subst, arith, Option, Some, None, is_none, nat_lt, if◌then◌else◌}
use Rattle.std.specs.List.{AllByRecursion}
use Rattle.std.proofs.lemmas.List.{length-map, map-append, map_push}
use Rattle.std.proofs.lemmas.Bool.{eqb-true, eq-eqb}
use Rattle.std.proofs.lemmas.Bool.Decides.{nat_tests}
use Rattle.framing.specs.Cutting.{Cutting, cut}
use Rattle.connections.specs.Table.{Connection, Dropped, Table, connection_in, changed, left_in, took}
use Rattle.connections.specs.Table as tables
use Rattle.connections.specs.Hearing.{Hearing, hears_all, heard, Brought, brings_if, brings_to}
use Rattle.connections.proofs.Named.{without_none, changed_none}
use Rattle.proxy_history.specs.Streams.{is_invalid}
use Rattle.proxy_history.specs.Items.{Item, Says, GoesBad, item_if}
use Rattle.proxy_history.specs.Facts.{Fact, Admitted, Ended, Taken, NotAdmitted, BadStream, Leaving}
use Rattle.proxy_history.specs.Connections.{present, dropped, contains, without}
use Rattle.proxy_history.specs.Noting as noting
use Rattle.proxy_history.specs.Protocol.{Protocol}
use Rattle.proxy_history.specs.History.{known_of, add_all}
use Rattle.proxy_history.proofs.Lists.{above_absent}
use Rattle.proxy_history.proofs.Walk.{add_all-append}
use Rattle.proxy_state.specs.State.{State, DroppedClient, Handlers}
use Rattle.proxy_state.specs.Stands.{Kept, ClientState, client_state_of, connection_as, connection_of, dropped_client_of, Streams, AreNames}
use Rattle.proxy_state.specs.Step.{given_up_unless, join, leave, take, bring}
use Rattle.proxy_state.specs.Faithful.{Keeps, settled_if, settled, IsFaithful}
use Rattle.proxy_state.proofs.Lists.{map_pointwise, map_absent, without_above, without_contains, contains_without}
use Rattle.proxy_state.proofs.Names.{names_more, names_still}
use Rattle.proxy_state.proofs.Changed.{changed_found, changed_same, changed_twice, without_changed, found_made, changed_made, without_made, found_changed}
use Rattle.proxy_state.proofs.ClientStates.{take_waiting, taken_own, taken_other, ended_other, spoilt_waiting, refused_waiting, admitted_own, admitted_other}
use Rattle.proxy_state.proofs.Keeping.{connection_is, connection_name, connection_same, found, found_there, found_absent, keeps_changed, keeps_left, keeps_dropped}

-- c's stream left this
abbrev pub with_rest : ℕ → List ℕ → Streams → Streams
with_rest c rest streams = record streams { rests = λ d. if c == d then rest else streams.rests d }

-- one is there exactly where it is found
there_if : {X : Type 0} (b : Bool) (it other : X) → Some it ≡ cond b (Some other) None → (b ≡ true) × (it ≡ other)
there_if true it other e = (refl, (let same : it ≡ other = cc in same))
there_if false it other e = absurd (cc)

gone_if : {X : Type 0} (b : Bool) (other : X) → None ≡ cond b (Some other) None → b ≡ false
gone_if true other e = absurd (cc)
gone_if false other e = refl

module _ {Known T S : Type 0} (p : Protocol Known) (k : Kept Known T S) (h : Handlers T S) (Fine : List Fact → Type 0) (F : IsFaithful p k h Fine) where
  abbrev KeptAt : Streams → List Fact → State T S → Type 0
  KeptAt streams past x = Keeps p k Fine streams past x

  -- ---- what is left of the streams ----

  -- the same connections, known by others
  held_as : (streams after : Streams) (past : List Fact) (x : State T S) (table : List (Connection T)) → after.greatest ≡ streams.greatest → after.messages ≡ streams.messages
      → table ≡ map (connection_of p k after.rests past) (present past) → KeptAt streams past x → KeptAt after past (record { table = record x.table { present = table }; beside = x.beside })
  held_as streams after past x table greatest messages is K = record {
    holds = record {
      connections = is;
      beside = K.holds.beside ∙ ap (λ (ms : List (List ℕ)). k.beside ms past) (sym messages);
      greatest = K.holds.greatest ∙ sym greatest;
      limit = K.holds.limit;
      room = K.holds.room;
      names = subst (λ (n : ℕ). AreNames n (present past)) (sym greatest) K.holds.names;
    };
    dropped_clients = K.dropped_clients;
    apart = K.apart;
    fits = K.fits;
    fine = K.fine;
  }

  -- the same rests
  pub keeps_same : (streams : Streams) (rests : ℕ → List ℕ) → ((d : ℕ) → streams.rests d ≡ rests d) → (past : List Fact) (x : State T S) → KeptAt streams past x → KeptAt (record streams { rests = rests }) past x
  unfolding connection_of
  keeps_same streams rests same past x K =
      held_as streams (record streams { rests = rests }) past x x.table.present refl refl
      (K.holds.connections ∙ map_pointwise (connection_of p k streams.rests past) (connection_of p k rests past) (λ d. ap (λ (l : List ℕ). connection_as p.limits.outbox l d (client_state_of p k past d)) (same d)) (present past)) K

  rest_elsewhere : (streams : Streams) (past : List Fact) (c : ℕ) (rest : List ℕ) (d : ℕ) → (c == d) ≡ false → connection_of p k (with_rest c rest streams).rests past d ≡ connection_of p k streams.rests past d
  unfolding connection_of
  rest_elsewhere streams past c rest d differs = ap (λ (b : Bool). connection_as p.limits.outbox (if b then rest else streams.rests d) d (client_state_of p k past d)) differs

  -- what the stream of one left who isn't there is no matter
  pub keeps_elsewhere : (streams : Streams) (past : List Fact) (x : State T S) (c : ℕ) (rest : List ℕ) → contains c (present past) ≡ false → KeptAt streams past x → KeptAt (with_rest c rest streams) past x
  keeps_elsewhere streams past x c rest absent K =
      held_as streams (with_rest c rest streams) past x x.table.present refl refl
      (K.holds.connections ∙ map_absent c _ _ (λ d differs. sym (rest_elsewhere streams past c rest d differs)) (present past) absent) K

  keeps_rest : (streams : Streams) (past : List Fact) (x : State T S) (c : ℕ) (rest : List ℕ) → KeptAt streams past x
      → KeptAt (with_rest c rest streams) past (record { table = record x.table { present = changed c (λ l. record l { rest = rest }) x.table.present }; beside = x.beside })
  unfolding connection_of
  keeps_rest streams past x c rest K =
      held_as streams (with_rest c rest streams) past x _ refl refl
      (ap (changed c (λ l. record l { rest = rest })) K.holds.connections
      ∙ changed_made (connection_of p k streams.rests past) (connection_name p k streams.rests past) c (connection_of p k (with_rest c rest streams).rests past) (rest_elsewhere streams past c rest)
      (λ l. record l { rest = rest }) (ap (λ (b : Bool). connection_as p.limits.outbox (if b then rest else streams.rests c) c (client_state_of p k past c)) (eq-eqb c c refl)) (present past) K.holds.names.distinct) K

  -- ---- the items of a piece ----

  abbrev pub said : ℕ → List (List ℕ) → List Item
  said c messages = map (λ m. Says c m) messages

  abbrev hear_it : ℕ → List ℕ → List Fact → List Fact
  hear_it c m past = p.hear_client (known_of p c past) c m past

  -- who isn't there says nothing
  says_none : (c : ℕ) (messages : List (List ℕ)) (past : List Fact) → contains c (present past) ≡ false → add_all p (said c messages) past ≡ past
  unfolding add_all
  says_none c [] past absent = refl
  says_none c (m ∷ messages) past absent =
      ap (λ (b : Bool). add_all p (said c messages) (if b then hear_it c m past else past)) absent ∙ says_none c messages past absent

  goes_bad_is : (c : ℕ) (past : List Fact) (there : Bool) → contains c (present past) ≡ there → add_all p (GoesBad c ∷ []) past ≡ (if there then Ended c BadStream ∷ past else past)
  unfolding add_all
  goes_bad_is c past there is = ap (λ (b : Bool). if b then Ended c BadStream ∷ past else past) is

  says_first : (c : ℕ) (m : List ℕ) (messages : List (List ℕ)) (past : List Fact) → contains c (present past) ≡ true → add_all p (said c (m ∷ messages)) past ≡ add_all p (said c messages) (hear_it c m past)
  unfolding add_all
  says_first c m messages past there = ap (λ (b : Bool). add_all p (said c messages) (if b then hear_it c m past else past)) there

  nothing_added : (past : List Fact) → add_all p [] past ≡ past
  unfolding add_all
  nothing_added past = refl

  -- ---- a client that was heard ----

  abbrev settle : Hearing T S → Connection T → Connection T
  settle g l = record l { client = g.client; outbox = g.outbox }

  module _ (streams : Streams) (c : ℕ) (past : List Fact) (x : State T S) (there : contains c (present past) ≡ true) (K : KeptAt streams past x) where
    abbrev it : Connection T
    it = connection_of p k streams.rests past c

    named : connection_in c x.table.present ≡ Some it
    named = found_there p k streams past x c K.holds there

    -- it is there still, as it was heard
    still_there : (g : Hearing T S) (later : List Fact) → KeptAt streams later (settled_if h true c g x) → (contains c (present later) ≡ true) × (settle g it ≡ connection_of p k streams.rests later c)
    still_there g later L =
        there_if (contains c (present later)) (settle g it) (connection_of p k streams.rests later c)
        (sym (found_changed c (settle g) (λ l. refl) x.table.present it named) ∙ found p k streams later (settled_if h true c g x) c L.holds)

    none_is : connection_in c (tables.without c x.table.present) ≡ None
    none_is =
        let make : ℕ → Connection T = connection_of p k streams.rests past in
        ap (λ (l : List (Connection T)). connection_in c (tables.without c l)) K.holds.connections
        ∙ ap (connection_in c) (without_made make (connection_name p k streams.rests past) c make (λ d differs. refl) (present past) K.holds.names.distinct)
        ∙ found_made make (connection_name p k streams.rests past) c (without c (present past))
        ∙ ap (λ (b : Bool). cond b (Some (make c)) None) (contains_without c (present past))

    -- or gone
    gone_now : (g : Hearing T S) (later : List Fact) → KeptAt streams later (settled_if h false c g x) → contains c (present later) ≡ false
    gone_now g later L =
        gone_if (contains c (present later)) (connection_of p k streams.rests later c) (sym none_is ∙ found p k streams later (settled_if h false c g x) c L.holds)

    -- the same where it was heard before
    settled_after : (one g : Hearing T S) (room : Bool) → settled_if h room c g (settled_if h true c one x) ≡ settled_if h room c g x
    settled_after one g true = ap (λ (l : List (Connection T)). let y : State T S = record { table = record x.table { present = l }; beside = g.beside } in y) (changed_twice c (settle one) (λ l. refl) (settle g) x.table.present)
    settled_after one g false =
        ap (λ (l : List (Connection T)). let y : State T S = record { table = record (tables.drops c g.outbox x.table) { present = l }; beside = h.give_up c g.beside } in y) (without_changed c (settle one) (λ l. refl) x.table.present)

    settled_none : settled_if h true c (record { client = it.client; outbox = it.outbox; beside = x.beside; has_room = true }) x ≡ x
    settled_none =
        let g : Hearing T S = record { client = it.client; outbox = it.outbox; beside = x.beside; has_room = true } in
        ap (λ (l : List (Connection T)). let y : State T S = record { table = record x.table { present = l }; beside = x.beside } in y)
        (changed_found c (settle g) (λ l. l) x.table.present it named refl ∙ changed_same c x.table.present)

  -- ---- the messages of a piece ----

  abbrev hears_these : ℕ → List (List ℕ) → Connection T → S → Hearing T S
  hears_these c messages l beside = hears_all h.hear_client c messages l.client l.outbox beside

  abbrev hear_one : ℕ → List ℕ → Connection T → S → Hearing T S
  hear_one c m l beside = h.hear_client c m l.client l.outbox beside

  hears_none : (c : ℕ) (l : Connection T) (beside : S) → hears_these c [] l beside ≡ record { client = l.client; outbox = l.outbox; beside = beside; has_room = true }
  unfolding hears_all
  hears_none c l beside = refl

  hears_more : (c : ℕ) (m : List ℕ) (messages : List (List ℕ)) (l : Connection T) (beside : S)
      → hears_these c (m ∷ messages) l beside ≡ (let one = hear_one c m l beside in elim one.has_room [ true ↦ hears_all h.hear_client c messages one.client one.outbox one.beside | false ↦ one ])
  unfolding hears_all
  hears_more c m messages l beside = refl

  heard_all : (streams : Streams) (c : ℕ) (messages : List (List ℕ)) (past : List Fact) (x : State T S) → contains c (present past) ≡ true → KeptAt streams past x
      → KeptAt streams (add_all p (said c messages) past) (settled h c (hears_these c messages (connection_of p k streams.rests past c) x.beside) x)
  heard_all streams c [] past x there K =
      subst (λ (l : List Fact). KeptAt streams l (settled h c (hears_these c [] (it streams c past x there K) x.beside) x)) (sym (nothing_added past))
      (subst (KeptAt streams past) (sym (ap (λ (g : Hearing T S). settled h c g x) (hears_none c (it streams c past x there K) x.beside) ∙ settled_none streams c past x there K)) K)
  heard_all streams c (m ∷ messages) past x there K =
      let l : Connection T = connection_of p k streams.rests past c in
      let one : Hearing T S = hear_one c m l x.beside in
      let middle : List Fact = hear_it c m past in
      let later : List Fact = add_all p (said c messages) middle in
      let first : KeptAt streams middle (settled h c one x) = F.hear_client c m streams past x there K in
      let rest : Hearing T S = hears_all h.hear_client c messages one.client one.outbox one.beside in
      let step : (b : Bool) → one.has_room ≡ b → KeptAt streams later (settled h c (elim b [ true ↦ rest | false ↦ one ]) x) =
      λ b. elim b as (λ b. one.has_room ≡ b → KeptAt streams later (settled h c (elim b [ true ↦ rest | false ↦ one ]) x)) [
        | true ↦ λ room.
            let L : KeptAt streams middle (settled_if h true c one x) = subst (λ (b : Bool). KeptAt streams middle (settled_if h b c one x)) room first in
            let still = still_there streams c past x there K one middle L in
            let more : KeptAt streams later (settled h c (hears_these c messages (connection_of p k streams.rests middle c) one.beside) (settled_if h true c one x)) = heard_all streams c messages middle (settled_if h true c one x) still.0 L in
            subst (KeptAt streams later) (settled_after streams c past x there K one rest rest.has_room)
            (subst (λ (l : Connection T). KeptAt streams later (settled h c (hears_these c messages l one.beside) (settled_if h true c one x))) (sym still.1) more)
        | false ↦ λ over.
            let L : KeptAt streams middle (settled_if h false c one x) = subst (λ (b : Bool). KeptAt streams middle (settled_if h b c one x)) over first in
            subst (λ (l : List Fact). KeptAt streams l (settled h c one x)) (sym (says_none c messages middle (gone_now streams c past x there K one middle L))) first
      ]
      in
      subst (λ (facts : List Fact). KeptAt streams facts (settled h c (hears_these c (m ∷ messages) l x.beside) x)) (sym (says_first c m messages past there))
      (subst (λ (g : Hearing T S). KeptAt streams later (settled h c g x)) (sym (hears_more c m messages l x.beside)) (step one.has_room refl))

  -- ---- a piece ----

  -- what a piece adds that leaves a stream with this cut
  abbrev pub piece_facts : ℕ → Cutting → List Fact → List Fact
  piece_facts c f past = add_all p (said c f.messages ++ item_if (is_invalid (p.size f.rest)) (GoesBad c)) past

  facts_split : (c : ℕ) (f : Cutting) (past : List Fact) (bad : Bool) → is_invalid (p.size f.rest) ≡ bad → piece_facts c f past ≡ add_all p (item_if bad (GoesBad c)) (add_all p (said c f.messages) past)
  facts_split c f past bad is =
      ap (λ (b : Bool). add_all p (said c f.messages ++ item_if b (GoesBad c)) past) is ∙ add_all-append p (said c f.messages) (item_if bad (GoesBad c)) past

  absent_goes_bad : (past : List Fact) (c : ℕ) (bad : Bool) → contains c (present past) ≡ false → add_all p (item_if bad (GoesBad c)) past ≡ past
  absent_goes_bad past c true absent = goes_bad_is c past false absent
  absent_goes_bad past c false absent = nothing_added past

  piece_none : (c : ℕ) (f : Cutting) (past : List Fact) → contains c (present past) ≡ false → piece_facts c f past ≡ past
  piece_none c f past absent =
      facts_split c f past (is_invalid (p.size f.rest)) refl
      ∙ ap (add_all p (item_if (is_invalid (p.size f.rest)) (GoesBad c))) (says_none c f.messages past absent)
      ∙ absent_goes_bad past c (is_invalid (p.size f.rest)) absent

  -- what was made of a client that was heard
  abbrev brought_as : Brought T S → ℕ → State T S
  brought_as b c = record { table = b.table; beside = given_up_unless h.give_up b.goes_on c b.beside }

  module _ (streams : Streams) (c : ℕ) (piece : List ℕ) (past : List Fact) (x : State T S) (there : contains c (present past) ≡ true) (K : KeptAt streams past x) where
    abbrev one : Connection T
    one = connection_of p k streams.rests past c

    abbrev f : Cutting
    f = cut p.size (streams.rests c ++ piece)

    abbrev g : Hearing T S
    g = hears_these c f.messages one x.beside

    abbrev heard_past : List Fact
    heard_past = add_all p (said c f.messages) past

    abbrev after : Streams
    after = with_rest c f.rest streams

    abbrev made : Bool → State T S
    made goes = brought_as (brings_if p.size goes c g piece x.table) c

    L : KeptAt streams heard_past (settled h c g x)
    L = heard_all streams c f.messages past x there K

    L_if : (b : Bool) → g.has_room ≡ b → KeptAt streams heard_past (settled_if h b c g x)
    L_if b is = subst (λ (b : Bool). KeptAt streams heard_past (settled_if h b c g x)) is L

    went_on : g.has_room ≡ true → is_invalid (p.size f.rest) ≡ false → KeptAt after (piece_facts c f past) (made true)
    unfolding connection_of
    went_on room good =
        subst (λ (l : List Fact). KeptAt after l (made true)) (sym (facts_split c f past false good ∙ nothing_added heard_past))
        (subst (λ (l : List (Connection T)). KeptAt after heard_past (record { table = record x.table { present = l }; beside = g.beside }))
        (changed_twice c (settle g) (λ l. refl) (λ l. record l { rest = f.rest }) x.table.present
        ∙ changed_found c (λ l. record (settle g l) { rest = f.rest }) (heard p.size g piece) x.table.present one (named streams c past x there K) refl)
        (keeps_rest streams heard_past (settled_if h true c g x) c f.rest (L_if true room)))

    went_bad : g.has_room ≡ true → is_invalid (p.size f.rest) ≡ true → KeptAt after (piece_facts c f past) (made false)
    unfolding present dropped
    went_bad room bad =
        let H : KeptAt streams heard_past (settled_if h true c g x) = L_if true room in
        let still = still_there streams c past x there K g heard_past H in
        let ended : List Fact = Ended c BadStream ∷ heard_past in
        let waits : g.outbox.bytes ≡ (client_state_of p k ended c).waiting =
        ap (λ (l : Connection T). l.outbox.bytes) (still.1 ∙ connection_is p k streams.rests heard_past c) ∙ sym (spoilt_waiting p k heard_past c)
        in
        let D : KeptAt streams ended (record { table = tables.drops c g.outbox (settled_if h true c g x).table; beside = h.give_up c g.beside }) =
        keeps_dropped p k Fine streams ended heard_past (settled_if h true c g x) c (h.give_up c g.beside)
        (λ d differs. ended_other p k heard_past c BadStream d differs) refl (ap (h.give_up c) H.holds.beside ∙ F.connections.ended c BadStream streams.messages heard_past)
        (F.connections.fine_more (Ended c BadStream) heard_past still.0 tt H.fine) still.0 H g.outbox waits refl
        in
        subst (λ (l : List Fact). KeptAt after l (made false)) (sym (facts_split c f past true bad ∙ goes_bad_is c heard_past true still.0))
        (keeps_elsewhere streams ended (made false) c f.rest (contains_without c (present heard_past))
        (subst (λ (l : List (Connection T)). KeptAt streams ended (record { table = record (tables.drops c g.outbox x.table) { present = l }; beside = h.give_up c g.beside })) (without_changed c (settle g) (λ l. refl) x.table.present) D))

    went_over : g.has_room ≡ false → KeptAt after (piece_facts c f past) (made false)
    went_over full =
        let H : KeptAt streams heard_past (settled_if h false c g x) = L_if false full in
        let gone : contains c (present heard_past) ≡ false = gone_now streams c past x there K g heard_past H in
        subst (λ (l : List Fact). KeptAt after l (made false)) (sym (facts_split c f past (is_invalid (p.size f.rest)) refl ∙ absent_goes_bad heard_past c (is_invalid (p.size f.rest)) gone))
        (keeps_elsewhere streams heard_past (made false) c f.rest gone H)

    went : KeptAt after (piece_facts c f past) (made (g.has_room && not (is_invalid (p.size f.rest))))
    went =
        let Went : Bool → Bool → Type 0 = λ (room bad : Bool). KeptAt after (piece_facts c f past) (made (room && not bad)) in
        let step : (room bad : Bool) → g.has_room ≡ room → is_invalid (p.size f.rest) ≡ bad → Went room bad =
        λ room. elim room as (λ room. (bad : Bool) → g.has_room ≡ room → is_invalid (p.size f.rest) ≡ bad → Went room bad) [
          | true ↦ λ bad. elim bad as (λ bad. g.has_room ≡ true → is_invalid (p.size f.rest) ≡ bad → Went true bad) [ true ↦ λ r b. went_bad r b | false ↦ λ r b. went_on r b ]
          | false ↦ λ bad r b. went_over r
        ]
        in step g.has_room (is_invalid (p.size f.rest)) refl refl

    brought_there : KeptAt after (piece_facts c f past) (bring h p.size c piece x)
    unfolding connection_of
    brought_there =
        subst (λ (o : Option (Connection T)). KeptAt after (piece_facts c f past) (brought_as (brings_to p.size h.hear_client o c piece x.table x.beside) c)) (sym (named streams c past x there K)) went

  pub keeps_brought : (streams : Streams) (past : List Fact) (x : State T S) (c : ℕ) (piece : List ℕ) → KeptAt streams past x
      → (let f : Cutting = cut p.size (streams.rests c ++ piece) in KeptAt (with_rest c f.rest streams) (piece_facts c f past) (bring h p.size c piece x))
  keeps_brought streams past x c piece K =
      let f : Cutting = cut p.size (streams.rests c ++ piece) in
      let step : (b : Bool) → contains c (present past) ≡ b → KeptAt (with_rest c f.rest streams) (piece_facts c f past) (bring h p.size c piece x) =
      λ b. elim b as (λ b. contains c (present past) ≡ b → KeptAt (with_rest c f.rest streams) (piece_facts c f past) (bring h p.size c piece x)) [
        | true ↦ λ there. brought_there streams c piece past x there K
        | false ↦ λ absent.
            subst (λ (o : Option (Connection T)). KeptAt (with_rest c f.rest streams) (piece_facts c f past) (brought_as (brings_to p.size h.hear_client o c piece x.table x.beside) c)) (sym (found_absent p k streams past x c K.holds absent))
            (subst (λ (l : List Fact). KeptAt (with_rest c f.rest streams) l x) (sym (piece_none c f past absent)) (keeps_elsewhere streams past x c f.rest absent K))
      ]
      in step (contains c (present past)) refl

  -- ---- one leaves, and a socket takes bytes ----

  pub keeps_gone : (streams : Streams) (past : List Fact) (x : State T S) (c : ℕ) → KeptAt streams past x → KeptAt streams (noting.if_present c past (Ended c Leaving ∷ past)) (leave h.give_up c x)
  unfolding present dropped
  keeps_gone streams past x c K =
      let left : Option (Connection T) → State T S = λ o. record { table = tables.leaves c x.table; beside = given_up_unless h.give_up (is_none o) c x.beside } in
      let step : (b : Bool) → contains c (present past) ≡ b → KeptAt streams (if b then Ended c Leaving ∷ past else past) (leave h.give_up c x) =
      λ b. elim b as (λ b. contains c (present past) ≡ b → KeptAt streams (if b then Ended c Leaving ∷ past else past) (leave h.give_up c x)) [
        | true ↦ λ there.
            subst (λ (o : Option (Connection T)). KeptAt streams (Ended c Leaving ∷ past) (record { table = tables.leaves c x.table; beside = given_up_unless h.give_up (is_none o) c x.beside })) (sym (found_there p k streams past x c K.holds there))
            (keeps_left p k Fine streams (Ended c Leaving ∷ past) past x c (h.give_up c x.beside) (λ d differs. ended_other p k past c Leaving d differs) refl
            (ap (h.give_up c) K.holds.beside ∙ F.connections.ended c Leaving streams.messages past) (F.connections.fine_more (Ended c Leaving) past there tt K.fine) there K refl)
        | false ↦ λ absent.
            let none : connection_in c x.table.present ≡ None = found_absent p k streams past x c K.holds absent in
            subst (λ (o : Option (Connection T)). KeptAt streams past (record { table = tables.leaves c x.table; beside = given_up_unless h.give_up (is_none o) c x.beside })) (sym none)
            (subst (λ (l : List (Connection T)). KeptAt streams past (record { table = record x.table { present = l }; beside = x.beside })) (sym (without_none c x.table.present none)) K)
      ]
      in step (contains c (present past)) refl

  keeps_taken : (streams : Streams) (past : List Fact) (x : State T S) (c count : ℕ) → contains c (present past) ≡ true → KeptAt streams past x → KeptAt streams (Taken c count ∷ past) (take c count x)
  unfolding present dropped connection_of
  keeps_taken streams past x c count there K =
      let own : client_state_of p k (Taken c count ∷ past) c ≡ take_waiting count (client_state_of p k past c) = taken_own p k F.connections.taken_bytes past c count in
      keeps_changed p k Fine streams (Taken c count ∷ past) past x c (took count) x.beside
      (ap (connection_as p.limits.outbox (streams.rests c) c) own)
      (ap (λ (a : ClientState T). a.is_over) own ∙ K.fits c there)
      (λ d differs. taken_other p k past c count d differs) refl refl (K.holds.beside ∙ sym (F.connections.was_taken c count past streams.messages)) (F.connections.fine_more (Taken c count) past there tt K.fine) there K

  pub keeps_took : (streams : Streams) (past : List Fact) (x : State T S) (c count : ℕ) → KeptAt streams past x → KeptAt streams (noting.if_present c past (Taken c count ∷ past)) (take c count x)
  keeps_took streams past x c count K =
      let step : (b : Bool) → contains c (present past) ≡ b → KeptAt streams (if b then Taken c count ∷ past else past) (take c count x) =
      λ b. elim b as (λ b. contains c (present past) ≡ b → KeptAt streams (if b then Taken c count ∷ past else past) (take c count x)) [
        | true ↦ λ there. keeps_taken streams past x c count there K
        | false ↦ λ absent. subst (λ (l : List (Connection T)). KeptAt streams past (record { table = record x.table { present = l }; beside = x.beside })) (sym (changed_none c (took count) x.table.present (found_absent p k streams past x c K.holds absent))) K
      ]
      in step (contains c (present past)) refl

  -- ---- one joins ----

  abbrev as_newest : ℕ → Streams → Streams
  as_newest c streams = record streams { greatest = c }

  keeps_admitted : (streams : Streams) (past : List Fact) (x : State T S) (c : ℕ) → streams.rests c ≡ [] → streams.greatest < c → dropped past ≡ [] → length (present past) < p.limits.connections
      → KeptAt streams past x → KeptAt (as_newest c streams) (Admitted c ∷ past) (record x { table = tables.joins_if true c h.fresh x.table })
  unfolding present dropped
  keeps_admitted streams past x c fresh above none room K =
      let later : List Fact = Admitted c ∷ past in
      let absent : contains c (present past) ≡ false = above_absent streams.greatest c above (present past) K.holds.names.known in
      let new : connection_of p k streams.rests later c ≡ tables.joined c h.fresh x.table.room =
      connection_is p k streams.rests later c
      ∙ ap (connection_as p.limits.outbox (streams.rests c) c) (admitted_own p k past c)
      ∙ ap (λ (l : List ℕ). connection_as p.limits.outbox l c (let a : ClientState T = record { client = k.client p.wording.fresh; waiting = []; is_over = false } in a)) fresh
      ∙ ap (λ (t : T). connection_as p.limits.outbox [] c (let a : ClientState T = record { client = t; waiting = []; is_over = false } in a)) F.connections.fresh
      ∙ ap (λ (n : ℕ). tables.joined c h.fresh n) (sym K.holds.room)
      in
      record {
        holds = record {
          connections =
              ap (λ (l : List (Connection T)). l ++ tables.joined c h.fresh x.table.room ∷ [])
              (K.holds.connections ∙ map_absent c _ _ (λ d differs. sym (connection_same p k streams.rests later past d (admitted_other p k past c d differs))) (present past) absent)
              ∙ ap (λ (l : Connection T). map (connection_of p k streams.rests later) (present past) ++ l ∷ []) (sym new)
              ∙ sym (map-append (connection_of p k streams.rests later) (present past) (c ∷ []));
          beside = K.holds.beside ∙ sym (F.connections.admitted c past streams.messages);
          greatest = refl;
          limit = K.holds.limit;
          room = K.holds.room;
          names = names_more streams.greatest c (present past) above K.holds.names;
        };
        dropped_clients = K.dropped_clients ∙ ap (map (dropped_client_of p past)) none ∙ sym (ap (map (dropped_client_of p later)) none);
        apart = subst (AllByRecursion (λ d. contains d (present past ++ c ∷ []) ≡ false)) (sym none) tt;
        fits = fitting later absent;
        fine = F.connections.fine_more (Admitted c) past room (omega arith, absent) K.fine;
      }
    where
      own : (client_state_of p k (Admitted c ∷ past) c).is_over ≡ false
      own = ap (λ (a : ClientState T). a.is_over) (admitted_own p k past c)

      pushed : (d : ℕ) (xs : List ℕ) → (c == d) ≡ false → contains d (xs ++ c ∷ []) ≡ true → contains d xs ≡ true
      pushed d [] differs at = (let other : (d == c) ≡ false = grind (arith, nat_tests, differs) in absurd (cc))
      pushed d (y ∷ ys) differs at =
          let step : (b : Bool) → (b || contains d (ys ++ c ∷ [])) ≡ true → (b || contains d ys) ≡ true =
          λ b. elim b as (λ b. (b || contains d (ys ++ c ∷ [])) ≡ true → (b || contains d ys) ≡ true) [ true ↦ λ e. refl | false ↦ λ e. pushed d ys differs e ]
          in step (d == y) at

      fitting : (later : List Fact) → contains c (present past) ≡ false → (d : ℕ) → contains d (present past ++ c ∷ []) ≡ true → (client_state_of p k (Admitted c ∷ past) d).is_over ≡ false
      fitting later absent d at =
          let step : (b : Bool) → (c == d) ≡ b → (client_state_of p k (Admitted c ∷ past) d).is_over ≡ false =
          λ b. elim b as (λ b. (c == d) ≡ b → (client_state_of p k (Admitted c ∷ past) d).is_over ≡ false) [
            | true ↦ λ e. subst (λ (n : ℕ). (client_state_of p k (Admitted c ∷ past) n).is_over ≡ false) (eqb-true c d e) own
            | false ↦ λ e. ap (λ (a : ClientState T). a.is_over) (admitted_other p k past c d e) ∙ K.fits d (pushed d (present past) e at)
          ]
          in step (c == d) refl

  keeps_refused : (streams : Streams) (past : List Fact) (x : State T S) (c : ℕ) → streams.greatest < c → dropped past ≡ [] → p.limits.connections ≤ length (present past)
      → KeptAt streams past x → KeptAt (as_newest c streams) (Ended c NotAdmitted ∷ past) (record x { table = tables.joins_if false c h.fresh x.table })
  unfolding present dropped
  keeps_refused streams past x c above none full K =
      let later : List Fact = Ended c NotAdmitted ∷ past in
      let absent : contains c (present past) ≡ false = above_absent streams.greatest c above (present past) K.holds.names.known in
      let same : without c (present past) ≡ present past = without_above c streams.greatest above (present past) K.holds.names.known in
      record {
        holds = record {
          connections =
              K.holds.connections ∙ map_absent c _ _ (λ d differs. sym (connection_same p k streams.rests later past d (ended_other p k past c NotAdmitted d differs))) (present past) absent
              ∙ ap (map (connection_of p k streams.rests later)) (sym same);
          beside = K.holds.beside ∙ sym (F.connections.refused c past (omega arith) absent K.fine streams.messages);
          greatest = refl;
          limit = K.holds.limit;
          room = K.holds.room;
          names = subst (AreNames c) (sym same) (names_still streams.greatest c (present past) above K.holds.names);
        };
        dropped_clients =
            map_push (λ (d : Dropped). let l : DroppedClient = record { name = d.name; waiting = left_in d.outbox } in l) x.table.dropped (record { name = c; outbox = None })
            ∙ ap (λ (l : List DroppedClient). l ++ record { name = c; waiting = [] } ∷ []) (K.dropped_clients ∙ ap (map (dropped_client_of p past)) none)
            ∙ ap (λ (l : List ℕ). let u : DroppedClient = record { name = c; waiting = l } in u ∷ []) (sym (refused_waiting p k past c))
            ∙ sym (ap (λ (ds : List ℕ). map (dropped_client_of p later) (ds ++ c ∷ [])) none);
        apart = subst (λ (ds : List ℕ). AllByRecursion (λ d. contains d (without c (present past)) ≡ false) (ds ++ c ∷ [])) (sym none) (contains_without c (present past), tt);
        fits = λ d at. (let parts = without_contains c d (present past) at in ap (λ (a : ClientState T). a.is_over) (ended_other p k past c NotAdmitted d parts.0) ∙ K.fits d parts.1);
        fine = F.connections.fine_more (Ended c NotAdmitted) past full (omega arith) K.fine;
      }

  pub keeps_joined : (streams : Streams) (past : List Fact) (x : State T S) (c : ℕ) → streams.rests c ≡ [] → streams.greatest < c → dropped past ≡ [] → KeptAt streams past x → KeptAt (as_newest c streams) (noting.join p.limits c past) (join h c x)
  keeps_joined streams past x c fresh above none K =
      let Joined : ℕ → ℕ → Type 0 = λ (n limit : ℕ). KeptAt (as_newest c streams) (noting.join p.limits c past) (record x { table = tables.joins_if (nat_lt n limit) c h.fresh x.table }) in
      let count : length (present past) ≡ length x.table.present = sym (ap length K.holds.connections ∙ length-map (present past) (connection_of p k streams.rests past)) in
      let step : (b : Bool) → nat_lt (length (present past)) p.limits.connections ≡ b
      → KeptAt (as_newest c streams) (if b then Admitted c ∷ past else Ended c NotAdmitted ∷ past) (record x { table = tables.joins_if b c h.fresh x.table }) =
      λ b. elim b as (λ b. nat_lt (length (present past)) p.limits.connections ≡ b
      → KeptAt (as_newest c streams) (if b then Admitted c ∷ past else Ended c NotAdmitted ∷ past) (record x { table = tables.joins_if b c h.fresh x.table })) [
        | true ↦ λ e. keeps_admitted streams past x c fresh above none (grind (arith, nat_tests, e)) K
        | false ↦ λ e. keeps_refused streams past x c above none (grind (arith, nat_tests, e)) K
      ]
      in
      subst (λ (limit : ℕ). Joined (length x.table.present) limit) (sym K.holds.limit) (subst (λ (n : ℕ). Joined n p.limits.connections) count (step (nat_lt (length (present past)) p.limits.connections) refl))
