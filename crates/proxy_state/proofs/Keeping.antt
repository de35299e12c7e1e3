-- What a core keeps in the midst of an event goes on from fact to fact.
use Rattle.std.proofs.Common.{◌≡◌, ℕ, Bool, true, false, cond, ◌==◌, List, [], ◌∷◌, ◌++◌, map, refl, ap, sym, ◌∙◌, subst, Some, None}
use Rattle.std.specs.List.{AllByRecursion}
use Rattle.std.proofs.lemmas.List.{map-append, map_push}
use Rattle.std.proofs.lemmas.Bool.{eqb-true, false_from_ne_true}
use Rattle.outbox.specs.Queue.{Queue}
use Rattle.connections.specs.Table.{Connection, Dropped, Table, connection_in, changed, gets, left_in, finds_room}
use Rattle.connections.specs.Table as tables
use Rattle.proxy_history.specs.Facts.{Fact}
use Rattle.proxy_history.specs.Connections.{present, dropped, contains, without}
use Rattle.proxy_history.specs.Adding.{AllFit}
use Rattle.proxy_history.specs.Protocol.{Protocol}
use Rattle.proxy_state.specs.State.{State, DroppedClient, dropped_clients_in}
use Rattle.proxy_state.specs.Stands.{Kept, ClientState, client_state_of, connection_as, connection_of, dropped_client_of, Streams, AreNames, HoldsOf}
use Rattle.proxy_state.specs.Faithful.{Keeps}
use Rattle.proxy_state.proofs.Lists.{map_pointwise, map_apart, map_absent, apart_more, apart_still, without_contains}
use Rattle.proxy_state.proofs.Names.{names_without}
use Rattle.proxy_state.proofs.Changed.{found_made, changed_made, without_made}

module _ {Known T S : Type 0} (p : Protocol Known) (k : Kept Known T S) where
  abbrev pub room : ℕ
  room = p.limits.outbox

  pub connection_is : (rests : ℕ → List ℕ) (past : List Fact) (d : ℕ) → connection_of p k rests past d ≡ connection_as room (rests d) d (client_state_of p k past d)
  unfolding connection_of
  connection_is rests past d = refl

  pub connection_name : (rests : ℕ → List ℕ) (past : List Fact) (d : ℕ) → (connection_of p k rests past d).name ≡ d
  unfolding connection_of
  connection_name rests past d = refl

  pub connection_same : (rests : ℕ → List ℕ) (later earlier : List Fact) (d : ℕ) → client_state_of p k later d ≡ client_state_of p k earlier d → connection_of p k rests later d ≡ connection_of p k rests earlier d
  unfolding connection_of
  connection_same rests later earlier d same = ap (connection_as room (rests d) d) same

  pub dropped_client_same : (later earlier : List Fact) (d : ℕ) → client_state_of p k later d ≡ client_state_of p k earlier d → dropped_client_of p later d ≡ dropped_client_of p earlier d
  dropped_client_same later earlier d same = ap (λ (a : ClientState T). let l : DroppedClient = record { name = d; waiting = a.waiting } in l) same

  -- ---- the connection of a name ----

  module _ (streams : Streams) (past : List Fact) (x : State T S) (c : ℕ) (H : HoldsOf p k streams past x) where
    pub found : connection_in c x.table.present ≡ cond (contains c (present past)) (Some (connection_of p k streams.rests past c)) None
    found = ap (connection_in c) H.connections ∙ found_made (connection_of p k streams.rests past) (connection_name streams.rests past) c (present past)

    pub found_there : contains c (present past) ≡ true → connection_in c x.table.present ≡ Some (connection_of p k streams.rests past c)
    found_there there = found ∙ ap (λ (b : Bool). cond b (Some (connection_of p k streams.rests past c)) None) there

    pub found_absent : contains c (present past) ≡ false → connection_in c x.table.present ≡ None
    found_absent absent = found ∙ ap (λ (b : Bool). cond b (Some (connection_of p k streams.rests past c)) None) absent

module _ {Known T S : Type 0} (p : Protocol Known) (k : Kept Known T S) (Fine : List Fact → Type 0) (streams : Streams) where
  abbrev pub IsKept : List Fact → State T S → Type 0
  IsKept past x = Keeps p k Fine streams past x

  abbrev Fits : List Fact → Type 0
  Fits past = AllFit p.limits p.wording past

  abbrev AreApart : List Fact → Type 0
  AreApart past = AllByRecursion (λ d. contains d (present past) ≡ false) (dropped past)

  -- ---- client states that are behind the facts, or before them ----

  abbrev pub made_as : (ℕ → ClientState T) → ℕ → Connection T
  made_as state d = connection_as p.limits.outbox (streams.rests d) d (state d)

  abbrev pub dropped_client_as : (ℕ → ClientState T) → ℕ → DroppedClient
  dropped_client_as state d = record { name = d; waiting = (state d).waiting }

  -- the connections have these states, and all else is as the facts say
  pub record KeepsAs (state : ℕ → ClientState T) (past : List Fact) (x : State T S) : Type 0 where
    pub connections : x.table.present ≡ map (made_as state) (present past)
    pub beside : x.beside ≡ k.beside streams.messages past
    pub greatest : x.table.greatest ≡ streams.greatest
    pub limit : x.table.limit ≡ p.limits.connections
    pub room_is : x.table.room ≡ p.limits.outbox
    pub names : AreNames streams.greatest (present past)
    pub dropped_clients : dropped_clients_in x.table.dropped ≡ map (dropped_client_as state) (dropped past)
    pub apart : AreApart past
    pub fits : (d : ℕ) → contains d (present past) ≡ true → (state d).is_over ≡ false
    pub fine : Fine past

  pub kept_from : (state : ℕ → ClientState T) (past : List Fact) (x : State T S) → ((d : ℕ) → client_state_of p k past d ≡ state d) → KeepsAs state past x → IsKept past x
  unfolding connection_of
  kept_from state past x is A = record {
    holds = record {
      connections = A.connections ∙ map_pointwise _ (connection_of p k streams.rests past) (λ d. ap (connection_as p.limits.outbox (streams.rests d) d) (sym (is d))) (present past);
      beside = A.beside;
      greatest = A.greatest;
      limit = A.limit;
      room = A.room_is;
      names = A.names;
    };
    dropped_clients = A.dropped_clients ∙ map_pointwise _ _ (λ d. ap (λ (a : ClientState T). dropped_client_as (λ e. a) d) (sym (is d))) (dropped past);
    apart = A.apart;
    fits = λ d at. ap (λ (a : ClientState T). a.is_over) (is d) ∙ A.fits d at;
    fine = A.fine;
  }

  -- the states are those before some facts by which nobody came or went
  module _ (later earlier : List Fact) (x : State T S) (beside : S) (same_present : present later ≡ present earlier) (same_dropped : dropped later ≡ dropped earlier) (is : beside ≡ k.beside streams.messages later) (fine : Fine later) (K : IsKept earlier x) where
    pub kept_before : KeepsAs (client_state_of p k earlier) later (record x { beside = beside })
    unfolding connection_of
    kept_before = record {
      connections = K.holds.connections ∙ ap (map (made_as (client_state_of p k earlier))) (sym same_present);
      beside = is;
      greatest = K.holds.greatest;
      limit = K.holds.limit;
      room_is = K.holds.room;
      names = subst (AreNames streams.greatest) (sym same_present) K.holds.names;
      dropped_clients = K.dropped_clients ∙ ap (map (dropped_client_as (client_state_of p k earlier))) (sym same_dropped);
      apart = subst (AllByRecursion (λ d. contains d (present later) ≡ false)) (sym same_dropped) (subst (λ (xs : List ℕ). AllByRecursion (λ d. contains d xs ≡ false) (dropped earlier)) (sym same_present) K.apart);
      fits = λ d at. K.fits d (ap (contains d) (sym same_present) ∙ at);
      fine = fine;
    }

  -- the state of one that is there changes
  module _ (before after : ℕ → ClientState T) (c : ℕ) (other : (d : ℕ) → (c == d) ≡ false → after d ≡ before d) (past : List Fact) (x : State T S) (there : contains c (present past) ≡ true) (A : KeepsAs before past x) where
    made_other : (d : ℕ) → (c == d) ≡ false → made_as after d ≡ made_as before d
    made_other d differs = ap (connection_as p.limits.outbox (streams.rests d) d) (other d differs)

    others_left : map (dropped_client_as before) (dropped past) ≡ map (dropped_client_as after) (dropped past)
    others_left = map_apart c (present past) _ _ (λ d differs. ap (λ (a : ClientState T). dropped_client_as (λ e. a) d) (sym (other d differs))) there (dropped past) A.apart

    pub changed_as : (f : Connection T → Connection T) → made_as after c ≡ f (made_as before c) → (after c).is_over ≡ false → KeepsAs after past (record x { table = record x.table { present = changed c f x.table.present } })
    changed_as f own fit = record {
      connections = ap (changed c f) A.connections ∙ changed_made (made_as before) (λ d. refl) c (made_as after) made_other f own (present past) A.names.distinct;
      beside = A.beside;
      greatest = A.greatest;
      limit = A.limit;
      room_is = A.room_is;
      names = A.names;
      dropped_clients = A.dropped_clients ∙ others_left;
      apart = A.apart;
      fits = fitting;
      fine = A.fine;
    }
      where
        fitting : (d : ℕ) → contains d (present past) ≡ true → (after d).is_over ≡ false
        fitting d at =
            let step : (b : Bool) → (c == d) ≡ b → (after d).is_over ≡ false =
            λ b. elim b as (λ b. (c == d) ≡ b → (after d).is_over ≡ false) [
              | true ↦ λ e. subst (λ (n : ℕ). (after n).is_over ≡ false) (eqb-true c d e) fit
              | false ↦ λ e. ap (λ (a : ClientState T). a.is_over) (other d e) ∙ A.fits d at
            ]
            in step (c == d) refl

    -- it ends, by itself or dropped
    module _ (later : List Fact) (beside : S) (fewer : present later ≡ without c (present past)) (is : beside ≡ k.beside streams.messages later) (fine : Fine later) where
      ended_as : (now : List Dropped) → dropped_clients_in now ≡ map (dropped_client_as after) (dropped later) → AreApart later → KeepsAs after later (record { table = record x.table { present = tables.without c x.table.present; dropped = now }; beside = beside })
      ended_as now dropped_clients apart = record {
        connections = ap (tables.without c) A.connections ∙ without_made (made_as before) (λ d. refl) c (made_as after) made_other (present past) A.names.distinct ∙ ap (map (made_as after)) (sym fewer);
        beside = is;
        greatest = A.greatest;
        limit = A.limit;
        room_is = A.room_is;
        names = subst (AreNames streams.greatest) (sym fewer) (names_without streams.greatest c (present past) A.names);
        dropped_clients = dropped_clients;
        apart = apart;
        fits = λ d at.
            let parts = without_contains c d (present past) (ap (contains d) (sym fewer) ∙ at) in
            ap (λ (a : ClientState T). a.is_over) (other d parts.0) ∙ A.fits d parts.1;
        fine = fine;
      }

      apart_from : (names : List ℕ) → dropped later ≡ names → AllByRecursion (λ d. contains d (without c (present past)) ≡ false) names → AreApart later
      apart_from names is apart = subst (AllByRecursion (λ d. contains d (present later) ≡ false)) (sym is) (subst (λ (xs : List ℕ). AllByRecursion (λ d. contains d xs ≡ false) names) (sym fewer) apart)

      pub left_as : dropped later ≡ dropped past → KeepsAs after later (record { table = tables.leaves c x.table; beside = beside })
      left_as same = ended_as x.table.dropped (A.dropped_clients ∙ others_left ∙ ap (map (dropped_client_as after)) (sym same)) (apart_from (dropped past) same (apart_still c (present past) (dropped past) A.apart))

      pub dropped_as : (outbox : Queue) → outbox.bytes ≡ (after c).waiting → dropped later ≡ dropped past ++ c ∷ [] → KeepsAs after later (record { table = tables.drops c outbox x.table; beside = beside })
      dropped_as outbox waits more =
          ended_as (x.table.dropped ++ record { name = c; outbox = Some outbox } ∷ [])
          (map_push (λ (d : Dropped). let l : DroppedClient = record { name = d.name; waiting = left_in d.outbox } in l) x.table.dropped (record { name = c; outbox = Some outbox })
          ∙ ap (λ (l : List DroppedClient). l ++ record { name = c; waiting = outbox.bytes } ∷ []) (A.dropped_clients ∙ others_left)
          ∙ ap (λ (l : List ℕ). map (dropped_client_as after) (dropped past) ++ record { name = c; waiting = l } ∷ []) waits
          ∙ sym (map-append (dropped_client_as after) (dropped past) (c ∷ []))
          ∙ ap (map (dropped_client_as after)) (sym more))
          (apart_from (dropped past ++ c ∷ []) more (apart_more c (present past) (dropped past) A.apart))

  -- ---- nothing comes for any client ----

  -- only what is kept beside the connections changes
  module _ (later earlier : List Fact) (same : (d : ℕ) → client_state_of p k later d ≡ client_state_of p k earlier d) (same_present : present later ≡ present earlier) where
    pub connections_same : (rests : ℕ → List ℕ) → map (connection_of p k rests earlier) (present earlier) ≡ map (connection_of p k rests later) (present later)
    connections_same rests = map_pointwise _ _ (λ d. sym (connection_same p k rests later earlier d (same d))) (present earlier) ∙ ap (map (connection_of p k rests later)) (sym same_present)

    pub fits_same : Fits earlier → Fits later
    fits_same fits d there = ap (λ (a : ClientState T). a.is_over) (same d) ∙ fits d (ap (contains d) (sym same_present) ∙ there)

    pub keeps_quiet : (x : State T S) (beside : S) → dropped later ≡ dropped earlier → beside ≡ k.beside streams.messages later → Fine later → IsKept earlier x → IsKept later (record { table = x.table; beside = beside })
    keeps_quiet x beside same_dropped is fine K = kept_from (client_state_of p k earlier) later _ same (kept_before later earlier x beside same_present same_dropped is fine K)

  -- of other messages of the modem's stream tells only what is kept beside the connections
  pub with_messages : (messages : List (List ℕ)) (past : List Fact) (x : State T S) (beside : S) → beside ≡ k.beside messages past → IsKept past x → Keeps p k Fine (record streams { messages = messages }) past (record x { beside = beside })
  with_messages messages past x beside is K = record {
    holds = record {
      connections = K.holds.connections;
      beside = is;
      greatest = K.holds.greatest;
      limit = K.holds.limit;
      room = K.holds.room;
      names = K.holds.names;
    };
    dropped_clients = K.dropped_clients;
    apart = K.apart;
    fits = K.fits;
    fine = K.fine;
  }

  -- what comes is for nobody that is there or was dropped
  pub keeps_unheard : (later earlier : List Fact) (x : State T S) (c : ℕ) (beside : S)
      → ((d : ℕ) → (c == d) ≡ false → client_state_of p k later d ≡ client_state_of p k earlier d)
      → contains c (present earlier) ≡ false → contains c (dropped earlier) ≡ false
      → present later ≡ present earlier → dropped later ≡ dropped earlier → beside ≡ k.beside streams.messages later → Fine later
      → IsKept earlier x → IsKept later (record { table = x.table; beside = beside })
  unfolding connection_of
  keeps_unheard later earlier x c beside other absent gone same_present same_dropped is fine K =
      let A : KeepsAs (client_state_of p k earlier) later (record x { beside = beside }) = kept_before later earlier x beside same_present same_dropped is fine K in
      let out : contains c (present later) ≡ false = ap (contains c) same_present ∙ absent in
      record {
        holds = record {
          connections = A.connections ∙ map_absent c _ _ (λ d differs. sym (connection_same p k streams.rests later earlier d (other d differs))) (present later) out;
          beside = A.beside;
          greatest = A.greatest;
          limit = A.limit;
          room = A.room_is;
          names = A.names;
        };
        dropped_clients = A.dropped_clients ∙ map_absent c _ _ (λ d differs. sym (dropped_client_same p k later earlier d (other d differs))) (dropped later) (ap (contains c) same_dropped ∙ gone);
        apart = A.apart;
        fits = λ d at.
            let differs : (c == d) ≡ false = false_from_ne_true (c == d) (λ e. let none : contains d (present later) ≡ false = ap (λ (n : ℕ). contains n (present later)) (sym (eqb-true c d e)) ∙ out in absurd (cc)) in
            ap (λ (a : ClientState T). a.is_over) (other d differs) ∙ A.fits d at;
        fine = A.fine;
      }

  -- ---- a connection that is there changes, or ends ----

  pub keeps_changed : (later earlier : List Fact) (x : State T S) (c : ℕ) (f : Connection T → Connection T) (beside : S)
      → connection_of p k streams.rests later c ≡ f (connection_of p k streams.rests earlier c)
      → (client_state_of p k later c).is_over ≡ false
      → ((d : ℕ) → (c == d) ≡ false → client_state_of p k later d ≡ client_state_of p k earlier d)
      → present later ≡ present earlier → dropped later ≡ dropped earlier → beside ≡ k.beside streams.messages later → Fine later
      → contains c (present earlier) ≡ true → IsKept earlier x
      → IsKept later (record { table = record x.table { present = changed c f x.table.present }; beside = beside })
  unfolding connection_of
  keeps_changed later earlier x c f beside own fit other same_present same_dropped is fine there K =
      kept_from (client_state_of p k later) later _ (λ d. refl)
      (changed_as (client_state_of p k earlier) (client_state_of p k later) c other later _ (ap (contains c) same_present ∙ there) (kept_before later earlier x beside same_present same_dropped is fine K) f own fit)

  module _ (later earlier : List Fact) (x : State T S) (c : ℕ) (beside : S)
      (other : (d : ℕ) → (c == d) ≡ false → client_state_of p k later d ≡ client_state_of p k earlier d)
      (fewer : present later ≡ without c (present earlier)) (is : beside ≡ k.beside streams.messages later) (fine : Fine later)
      (there : contains c (present earlier) ≡ true) (K : IsKept earlier x) where
    abbrev before : KeepsAs (client_state_of p k earlier) earlier x
    before = kept_before earlier earlier x x.beside refl refl K.holds.beside K.fine K

    pub keeps_left : dropped later ≡ dropped earlier → IsKept later (record { table = tables.leaves c x.table; beside = beside })
    keeps_left same = kept_from (client_state_of p k later) later _ (λ d. refl) (left_as (client_state_of p k earlier) (client_state_of p k later) c other earlier x there before later beside fewer is fine same)

    pub keeps_dropped : (outbox : Queue) → outbox.bytes ≡ (client_state_of p k later c).waiting → dropped later ≡ dropped earlier ++ c ∷ [] → IsKept later (record { table = tables.drops c outbox x.table; beside = beside })
    keeps_dropped outbox waits more =
        kept_from (client_state_of p k later) later _ (λ d. refl) (dropped_as (client_state_of p k earlier) (client_state_of p k later) c other earlier x there before later beside fewer is fine outbox waits more)
