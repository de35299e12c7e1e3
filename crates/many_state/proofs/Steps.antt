-- A core of several devices stands for its events after each.
use Rattle.std.proofs.Common.{◌≡◌, ℕ, ◌<◌, max, Bool, true, ◌||◌, List, [], ◌∷◌, ◌++◌, length, map, slice_get, refl, ap, sym, ◌∙◌, subst, arith, Option, Some, is_some, append-nil}
use Rattle.connections.specs.Table.{Connection, connection_in}
use Rattle.proxy_history.specs.Events.{Event}
use Rattle.proxy_history.specs.Connections.{present, dropped, contains, is_present}
use Rattle.proxy_history.specs.Rendering.{Rendering}
use Rattle.proxy_history.specs.Coming as one
use Rattle.proxy_history.specs.Protocol.{Protocol}
use Rattle.proxy_history.specs.History.{history}
use Rattle.proxy_state.specs.State.{Core, Handlers}
use Rattle.proxy_state.specs.Step as device
use Rattle.proxy_state.specs.Stands.{Kept, CanStep, connection_of, dropped_client_of, streams_of, rests_of, is_owed}
use Rattle.proxy_state.specs.Stands as proxy
use Rattle.proxy_state.proofs.Keeping.{found}
use Rattle.proxy_state.proofs.Waiting.{waiting_is}
use Rattle.proxy_solo.proofs.Cores.{stands_hung_up}
use Rattle.proxy_solo.specs.Cores.{hung_up, core_after, StepsWithWhatMayCome}
use Rattle.many_history.specs.Events.{ManyEvent, Joined, Piece, Left, Took, ModemPiece, ModemGone, ModemBack, ModemTook, Now}
use Rattle.many_history.specs.Devices.{Devices, HasDevices}
use Rattle.many_history.specs.Many.{Place, Undecided, At, Seat, Many, place_of, parts, seated, refused, is_there_at, there, ended, names_in, own_after, many, own}
use Rattle.many_history.specs.Many as several
use Rattle.many_history.specs.Queues.{text_at, text_for}
use Rattle.many_history.specs.Coming.{greatest_conn, MayCome}
use Rattle.many_history.specs.Seated.{IsOfDevice}
use Rattle.many_history.proofs.Own.{own_events_are_sound, parts_sound}
use Rattle.many_history.proofs.Places.{Hold, placed_of, seated_of, seats_are_of_devices}
use Rattle.many_history.proofs.There.{seats_are_there, placed_is_there, place_of_front, text_of_seat}
use Rattle.many_state.specs.Core.{ManyCore, greatest_in, names_of, has, is_there_in, waiting_under, waiting_at, waiting_for, core_behind, cores_after, seats_before, greatest_after, step, Stands, StandsAfter}
use Rattle.many_state.specs.Laws.{IsProxysCore}
use Rattle.many_state.proofs.Same.{parts_same, seated_same, there_same, ended_same, some_if, got, was, each_has_as_many}

-- ---- the core of one device ----

module _ {Known T S : Type 0} (p : Protocol Known) (k : Kept Known T S) (h : Handlers T S) (steps : StepsWithWhatMayCome p k h)
    (next : (event : Event) (events : List Event) (core : Core T S) → CanStep h event core → proxy.Stands p k events core → proxy.StandsAfter p k (event ∷ events) (device.step h p.size event core)) where
  -- it meets several events
  pub part_stands : (part events : List Event) (core : Core T S) → one.AreSound p (part ++ events) → proxy.StandsAfter p k events core → proxy.StandsAfter p k (part ++ events) (core_after core (device.step h p.size) part)
  unfolding core_after
  part_stands [] events core sound stands = stands
  part_stands (event ∷ part) events core sound stands =
      let before : Core T S = hung_up (core_after core (device.step h p.size) part) in
      let stood : proxy.Stands p k (part ++ events) before = stands_hung_up p k (part ++ events) (core_after core (device.step h p.size) part) (part_stands part events core sound.1 stands).stands in
      next event (part ++ events) before ((steps event (part ++ events) before stood refl).1 sound.0) stood

-- ---- who is there ----

module _ {Known T S : Type 0} (s : Devices Known) (k : ℕ → Kept Known T S) (events : ℕ → List Event) (cores : List (Core T S)) (count : length cores ≡ s.count)
    (stand : (d : ℕ) (core : Core T S) → slice_get cores d ≡ Some core → proxy.StandsAfter (s.protocol d) (k d) (events d) core) where
  has_is : (d name : ℕ) (core : Core T S) → slice_get cores d ≡ Some core → is_some (connection_in name core.state.table.present) ≡ is_present name (history (s.protocol d) (events d))
  has_is d name core at =
      let past = history (s.protocol d) (events d) in
      ap (λ (o : Option (Connection T)). is_some o) (found (s.protocol d) (k d) (streams_of (s.protocol d) (events d)) past core.state name (stand d core at).stands.holds)
      ∙ some_if (contains name (present past)) (connection_of (s.protocol d) (k d) (rests_of (s.protocol d) (events d)) past name)

  pub there_is : (place : Place) → IsOfDevice s.count place → is_there_in cores place ≡ is_there_at s events place
  there_is (Undecided bytes) of = refl
  there_is (At d name) of =
      let one = got cores d (omega (arith, of, count)) in
      ap (λ (o : Option (Core T S)). has name o) one.1 ∙ has_is d name one.0 one.1

  pub names_are : (d : ℕ) → d < s.count → names_of cores d ≡ names_in events d
  names_are d of =
      let one = got cores d (omega (arith, of, count)) in
      ap (λ (o : Option (Core T S)). greatest_in o) one.1 ∙ (stand d one.0 one.1).stands.holds.greatest

-- ---- all devices ----

greatest_is : (event : ManyEvent) (events : List ManyEvent) (greatest : ℕ) → greatest ≡ greatest_conn events → greatest_after event greatest ≡ greatest_conn (event ∷ events)
greatest_is (Joined c) events greatest is = ap (λ (n : ℕ). max c n) is
greatest_is (Piece c bytes) events greatest is = is
greatest_is (Left c) events greatest is = is
greatest_is (Took c count) events greatest is = is
greatest_is (ModemPiece d bytes) events greatest is = is
greatest_is (ModemGone d) events greatest is = is
greatest_is (ModemBack d) events greatest is = is
greatest_is (ModemTook d count) events greatest is = is
greatest_is (Now time) events greatest is = is

module _ {Known T S : Type 0} (s : Devices Known) (k : ℕ → Kept Known T S) (h : Handlers T S) (H : HasDevices s) (P : IsProxysCore s k h) where
  pub parts_are : (event : ManyEvent) (events : List ManyEvent) (x : ManyCore T S) → Stands s k events x → (d : ℕ) → (let m = many s events in parts s event x.seats (names_of x.cores) d ≡ parts s event m.seats (names_in m.own) d)
  parts_are event events x stands d =
      let m = many s events in
      ap (λ (l : List Seat). parts s event l (names_of x.cores) d) stands.seats
      ∙ parts_same s H (names_of x.cores) (names_in m.own) (names_are s k m.own x.cores stands.count stands.cores) event m.seats d

  pub seats_are : (event : ManyEvent) (events : List ManyEvent) (x : ManyCore T S) → Stands s k events x → seats_before s h event x ≡ several.seats_before s event (many s events)
  seats_are event events x stands =
      let m = many s events in
      ap (λ (l : List Seat). seated s event (names_of x.cores) l) stands.seats
      ∙ seated_same s H (names_of x.cores) (names_in m.own) (names_are s k m.own x.cores stands.count stands.cores) event m.seats

  -- the core of a device behind its part of an event
  pub core_stands : (event : ManyEvent) (events : List ManyEvent) (x : ManyCore T S) → MayCome s event events → Stands s k events x
      → (d : ℕ) (core : Core T S) → slice_get x.cores d ≡ Some core → proxy.StandsAfter (s.protocol d) (k d) (own_after s event (many s events) d) (core_behind s h event x d core)
  core_stands event events x may stands d core at =
      let m = many s events in
      subst (λ (l : List Event). proxy.StandsAfter (s.protocol d) (k d) (own_after s event m d) (core_after core (device.step h (s.protocol d).size) l)) (sym (parts_are event events x stands d))
      (part_stands (s.protocol d) (k d) h (P.steps d) (P.stands d) (parts s event m.seats (names_in m.own) d) (m.own d) core
      (parts_sound s event m.seats m.own may.1 (own_events_are_sound s events stands.sound) d) (stands.cores d core at))

  pub cores_stand : (event : ManyEvent) (events : List ManyEvent) (x : ManyCore T S) → MayCome s event events → Stands s k events x
      → (d : ℕ) (core : Core T S) → slice_get (cores_after s h event x) d ≡ Some core → proxy.StandsAfter (s.protocol d) (k d) (own_after s event (many s events) d) core
  cores_stand event events x may stands d core at =
      let before = was (core_behind s h event x) x.cores d core at in
      subst (λ (l : Core T S). proxy.StandsAfter (s.protocol d) (k d) (own_after s event (many s events) d) l) (sym before.2) (core_stands event events x may stands d before.0 before.1)

  pub step_stands : (event : ManyEvent) (events : List ManyEvent) (x : ManyCore T S) → MayCome s event events → Stands s k events x → StandsAfter s k (event ∷ events) (step s h event x)
  unfolding many
  step_stands event events x may stands =
      let m = many s events in
      let cores : List (Core T S) = cores_after s h event x in
      let count : length cores ≡ s.count = each_has_as_many (core_behind s h event x) x.cores ∙ stands.count in
      let stood = cores_stand event events x may stands in
      let is_there : (place : Place) → IsOfDevice s.count place → is_there_in cores place ≡ is_there_at s (own_after s event m) place = there_is s k (own_after s event m) cores count stood in
      let of : Hold (IsOfDevice s.count) (several.seats_before s event m) = seated_of s H (names_in m.own) event m.seats (seats_are_of_devices s H events) in
      let seats : seats_before s h event x ≡ several.seats_before s event m = seats_are event events x stands in
      let gone : ended (is_there_in cores) (seats_before s h event x) ≡ ended (is_there_at s (own_after s event m)) (several.seats_before s event m) =
      ap (λ (l : List Seat). ended (is_there_in cores) l) seats ∙ ended_same (IsOfDevice s.count) _ _ is_there (several.seats_before s event m) of
      in
      let dropped : (step s h event x).dropped ≡ (many s (event ∷ events)).dropped =
      ap (λ (l : List Seat). refused s event l ++ ended (is_there_in cores) (seats_before s h event x)) stands.seats
      ∙ ap (λ (l : List Seat). refused s event m.seats ++ l) gone
      in
      record {
        stands = record {
          count = count;
          cores = stood;
          seats = ap (λ (l : List Seat). there (is_there_in cores) l) seats ∙ there_same (IsOfDevice s.count) _ _ is_there (several.seats_before s event m) of;
          dropped = ([], dropped);
          greatest = greatest_is event events x.greatest stands.greatest;
          sound = (may, stands.sound);
        };
        all_dropped = dropped;
      }

-- ---- what waits for who is there ----

module _ {Known T S : Type 0} (s : Devices Known) (k : ℕ → Kept Known T S) (H : HasDevices s) where
  pub waiting_is_text : (events : List ManyEvent) (x : ManyCore T S) (c : ℕ) (place : Place) → Stands s k events x → place_of c x.seats ≡ Some place → waiting_for c x ≡ (text_for s c events).waiting
  waiting_is_text events x c place stands at =
      let m = many s events in
      let seat : place_of c m.seats ≡ Some place = ap (place_of c) (sym stands.seats) ∙ at in
      let here : waiting_for c x ≡ waiting_at x.cores (Some place) = ap (waiting_at x.cores) (place_of_front c x.seats x.dropped place at) in
      here ∙ by place seat
    where
      by : (place : Place) → place_of c (many s events).seats ≡ Some place → waiting_at x.cores (Some place) ≡ (text_for s c events).waiting
      by (Undecided bytes) seat = ap (λ (o : Option Place). (text_at s (many s events).own o).waiting) (sym (place_of_front c (many s events).seats (many s events).gone (Undecided bytes) seat))
      by (At d name) seat =
          let m = many s events in
          let of : d < s.count = placed_of (IsOfDevice s.count) c m.seats (At d name) (seats_are_of_devices s H events) seat in
          let one = got x.cores d (omega (arith, of, stands.count)) in
          let is : contains name (present (history (s.protocol d) (m.own d))) ≡ true = placed_is_there (is_there_at s m.own) c m.seats (At d name) (seats_are_there s events) seat in
          let in_core : is_some (connection_in name one.0.state.table.present) ≡ true = has_is s k m.own x.cores stands.count stands.cores d name one.0 one.1 ∙ is in
          let owed : is_owed name one.0 ≡ true = ap (λ (b : Bool). b || contains name (map (λ l. l.name) one.0.state.table.dropped)) in_core in
          ap (λ (o : Option (Core T S)). waiting_under name o) one.1
          ∙ waiting_is (s.protocol d) (k d) (m.own d) one.0 (stands.cores d one.0 one.1).stands name owed
          ∙ ap (λ (r : Rendering). r.waiting) (sym (text_of_seat s events c d name seat))
