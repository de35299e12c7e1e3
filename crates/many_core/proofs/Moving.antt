-- What the events of clients make of a core of several QMI devices.
use Rattle.std.proofs.Common.{◌≡◌, ℕ, ◌+◌, ◌<◌, Bool, true, false, ◌==◌, nat_lt, List, [], ◌∷◌, ◌++◌, length, set, position, refl, ap, sym, ◌∙◌, subst, arith, Option, Some, None}
use Rattle.std.specs.List.{remove}
use Rattle.kit_bytes.proofs.Lists.{all_push, all_set}
use Rattle.hub_io.specs.declared.settings.Limits.{Limits}
use Rattle.proxy_history.specs.Events.{Event}
use Rattle.proxy_history.specs.Events as one
use Rattle.qmi_state.specs.Core.{QmiCore}
use Rattle.qmi_state.specs.Transitions.{qmi_handlers}
use Rattle.qmi_proxy.specs.Limits.{connection_limit}
use Rattle.many_history.specs.Events.{Joined, Piece, Left, Took}
use Rattle.many_history.specs.Devices.{Devices, choice_on}
use Rattle.many_history.specs.Many.{Place, Undecided, At, Seat, place_of, placed, arrival, only_at, on_choice, on_piece, on_leaving, on_taking, parts, joined_if, chosen_if, said_by}
use Rattle.many_state.specs.Core.{names_of, seats_before}
use Rattle.many_state.specs.Laws.{AreAll}
use Rattle.qmi_many.specs.Devices.{qmi_devices}
use Rattle.many_seats.specs.Seats.{Seating, IsSeat, joins, moves}
use Rattle.many_seats.proofs.Placed.{conn_is, place_is, placed_is, without_is, none_without}
use Rattle.many_cores.specs.Cores.{after, met, at_place, HasNoFewer}
use Rattle.many_core.specs.Core.{ManyCore, MovesNobody}
use Rattle.many_core.specs.Core as many
use Rattle.many_core.proofs.Meeting.{value, met_is, no_core_changes, one_core_changes, quiet, hot, one_arrives, stays_is, one_is}

module _ (paths : List (List ℕ)) (limits : Limits) (cores : List QmiCore) (s : Seating) where
  abbrev devices : Devices Bool
  devices = qmi_devices paths limits.time limits.release

  abbrev names : ℕ → ℕ
  names = names_of cores

  abbrev x : ManyCore
  x = value paths limits cores s

  -- ---- one joins ----

  pub joined_is : (conn : ℕ) → s.greatest < conn → value paths limits cores (joins conn s) ≡ many.met (Joined conn) x
  joined_is conn newer = met_is paths limits cores s (Joined conn) cores (joins conn s) (no_core_changes paths limits cores s (Joined conn) (λ d. refl)) refl refl (omega (arith, newer))

  pub joined_moves : (conn : ℕ) → MovesNobody (Joined conn) x
  joined_moves conn = quiet paths limits cores s (Joined conn) (λ d. refl) (λ f undecided all. by f undecided all (nat_lt (length s.seats) connection_limit))
    where
      by : (f : Place → Bool) → ((bytes : List ℕ) → f (Undecided bytes) ≡ true) → AreAll f s.seats → (b : Bool) → AreAll f (joined_if b conn s.seats)
      by f undecided all true = all_push (λ (seat : Seat). f seat.place ≡ true) s.seats _ all (undecided [])
      by f undecided all false = all

  module _ (hung_up : s.dropped ≡ []) (conn : ℕ) where
    -- ---- a stranger ----

    module _ (none : place_of conn s.seats ≡ None) where
      unsaid : (piece : List ℕ) (d : ℕ) → parts devices (Piece conn piece) s.seats names d ≡ []
      unsaid piece d = ap (λ (o : Option Place). on_piece devices o piece names d) none

      unmoved : (piece : List ℕ) → seats_before devices qmi_handlers (Piece conn piece) x.core ≡ s.seats
      unmoved piece = ap (λ (o : Option Place). said_by devices o conn piece names s.seats) none

      pub strange_piece_is : (piece : List ℕ) → x ≡ many.met (Piece conn piece) x
      strange_piece_is piece = stays_is paths limits cores s (Piece conn piece) (unmoved piece) refl refl hung_up (unsaid piece)

      pub strange_piece_moves : (piece : List ℕ) → MovesNobody (Piece conn piece) x
      strange_piece_moves piece = quiet paths limits cores s (Piece conn piece) (unsaid piece) (λ f undecided all. subst (AreAll f) (sym (unmoved piece)) all)

      pub strange_taking_is : (count : ℕ) → x ≡ many.met (Took conn count) x
      strange_taking_is count = stays_is paths limits cores s (Took conn count) refl refl refl hung_up (λ d. ap (λ (o : Option Place). on_taking o count d) none)

      pub strange_taking_moves : (count : ℕ) → MovesNobody (Took conn count) x
      strange_taking_moves count = quiet paths limits cores s (Took conn count) (λ d. ap (λ (o : Option Place). on_taking o count d) none) (λ f undecided all. all)

      unleft : seats_before devices qmi_handlers (Left conn) x.core ≡ s.seats
      unleft = none_without conn s.seats none

      pub strange_leaving_is : x ≡ many.met (Left conn) x
      strange_leaving_is = stays_is paths limits cores s (Left conn) unleft refl refl hung_up (λ d. ap (λ (o : Option Place). on_leaving o d) none)

      pub strange_leaving_moves : MovesNobody (Left conn) x
      strange_leaving_moves = quiet paths limits cores s (Left conn) (λ d. ap (λ (o : Option Place). on_leaving o d) none) (λ f undecided all. subst (AreAll f) (sym unleft) all)

    -- ---- one that is there ----

    module _ (i : ℕ) (is : Some i ≡ position (λ (seat : Seat). seat.conn == conn) s.seats) (seat : Seat) (at : IsSeat seat s.seats i) where
      place_here : place_of conn s.seats ≡ Some seat.place
      place_here = place_is conn s.seats i is seat at

      same_conn : seat.conn ≡ conn
      same_conn = conn_is conn s.seats i is seat at

      -- it has chosen
      module _ (d name : ℕ) (chose : seat.place ≡ At d name) where
        placed_at : place_of conn s.seats ≡ Some (At d name)
        placed_at = place_here ∙ ap (λ (p : Place). Some p) chose

        said_only : (piece : List ℕ) (e : ℕ) → parts devices (Piece conn piece) s.seats names e ≡ only_at d (one.Piece name piece ∷ []) e
        said_only piece e = ap (λ (o : Option Place). on_piece devices o piece names e) placed_at

        said_unmoved : (piece : List ℕ) → seats_before devices qmi_handlers (Piece conn piece) x.core ≡ s.seats
        said_unmoved piece = ap (λ (o : Option Place). said_by devices o conn piece names s.seats) placed_at

        pub piece_is : (piece : List ℕ) → value paths limits (at_place d (met (one.Piece name piece)) cores) s ≡ many.met (Piece conn piece) x
        piece_is piece = one_is paths limits cores s (Piece conn piece) (said_unmoved piece) refl refl hung_up d (one.Piece name piece) (said_only piece)

        pub piece_moves : (piece : List ℕ) → HasNoFewer d (one.Piece name piece) cores → MovesNobody (Piece conn piece) x
        piece_moves piece fewer = hot paths limits cores s (Piece conn piece) d (one.Piece name piece) (said_only piece) refl fewer (said_unmoved piece)

        taken_only : (count e : ℕ) → parts devices (Took conn count) s.seats names e ≡ only_at d (one.Took name count ∷ []) e
        taken_only count e = ap (λ (o : Option Place). on_taking o count e) placed_at

        pub taking_is : (count : ℕ) → value paths limits (at_place d (met (one.Took name count)) cores) s ≡ many.met (Took conn count) x
        taking_is count = one_is paths limits cores s (Took conn count) refl refl refl hung_up d (one.Took name count) (taken_only count)

        pub taking_moves : (count : ℕ) → HasNoFewer d (one.Took name count) cores → MovesNobody (Took conn count) x
        taking_moves count fewer = hot paths limits cores s (Took conn count) d (one.Took name count) (taken_only count) refl fewer refl

        pub leaving_is : value paths limits (at_place d (met (one.Left name)) cores) (record s { seats = remove s.seats i }) ≡ many.met (Left conn) x
        leaving_is =
            met_is paths limits cores s (Left conn) (at_place d (met (one.Left name)) cores) (record s { seats = remove s.seats i })
            (one_core_changes paths limits cores s (Left conn) d (one.Left name) (λ e. ap (λ (o : Option Place). on_leaving o e) placed_at)) (without_is conn s.seats i is seat at) (sym hung_up) refl

      -- it hasn't
      module _ (before : List ℕ) (undecided : seat.place ≡ Undecided before) where
        placed_nowhere : place_of conn s.seats ≡ Some (Undecided before)
        placed_nowhere = place_here ∙ ap (λ (p : Place). Some p) undecided

        pub idle_taking_is : (count : ℕ) → x ≡ many.met (Took conn count) x
        idle_taking_is count = stays_is paths limits cores s (Took conn count) refl refl refl hung_up (λ d. ap (λ (o : Option Place). on_taking o count d) placed_nowhere)

        pub idle_taking_moves : (count : ℕ) → MovesNobody (Took conn count) x
        idle_taking_moves count = quiet paths limits cores s (Took conn count) (λ d. ap (λ (o : Option Place). on_taking o count d) placed_nowhere) (λ f u all. all)

        pub early_leaving_is : value paths limits cores (record s { seats = remove s.seats i }) ≡ many.met (Left conn) x
        early_leaving_is =
            met_is paths limits cores s (Left conn) cores (record s { seats = remove s.seats i })
            (no_core_changes paths limits cores s (Left conn) (λ d. ap (λ (o : Option Place). on_leaving o d) placed_nowhere)) (without_is conn s.seats i is seat at) (sym hung_up) refl

        module _ (piece : List ℕ) where
          heard : (choice : Option ℕ) → choice_on devices (before ++ piece) ≡ choice → (d : ℕ) → parts devices (Piece conn piece) s.seats names d ≡ on_choice choice before piece names d
          heard choice is d = ap (λ (o : Option Place). on_piece devices o piece names d) placed_nowhere ∙ ap (λ (o : Option ℕ). on_choice o before piece names d) is

          seated_as : (choice : Option ℕ) → choice_on devices (before ++ piece) ≡ choice → seats_before devices qmi_handlers (Piece conn piece) x.core ≡ chosen_if choice conn (before ++ piece) names s.seats
          seated_as choice is = ap (λ (o : Option Place). said_by devices o conn piece names s.seats) placed_nowhere ∙ ap (λ (o : Option ℕ). chosen_if o conn (before ++ piece) names s.seats) is

          placed_as : (place : Place) → placed conn place s.seats ≡ set s.seats i (record { conn = seat.conn; place = place })
          placed_as place = placed_is conn s.seats i is seat at place ∙ ap (λ (n : ℕ). set s.seats i (record { conn = n; place = place })) (sym same_conn)

          module _ (unchosen : choice_on devices (before ++ piece) ≡ None) where
            seated_more : seats_before devices qmi_handlers (Piece conn piece) x.core ≡ set s.seats i (record { conn = seat.conn; place = Undecided (before ++ piece) })
            seated_more = seated_as None unchosen ∙ placed_as (Undecided (before ++ piece))

            pub hearing_is : value paths limits cores (moves i seat.conn (Undecided (before ++ piece)) s) ≡ many.met (Piece conn piece) x
            hearing_is = met_is paths limits cores s (Piece conn piece) cores (moves i seat.conn (Undecided (before ++ piece)) s) (no_core_changes paths limits cores s (Piece conn piece) (heard None unchosen)) seated_more (sym hung_up) refl

            pub hearing_moves : MovesNobody (Piece conn piece) x
            hearing_moves =
                quiet paths limits cores s (Piece conn piece) (heard None unchosen)
                (λ f u all. subst (AreAll f) (sym seated_more) (all_set (λ (k : Seat). f k.place ≡ true) s.seats i (record { conn = seat.conn; place = Undecided (before ++ piece) }) seat (λ same. u (before ++ piece)) all))

          pub choosing_is : (d : ℕ) → choice_on devices (before ++ piece) ≡ Some d → (new : Seating) → new.seats ≡ set s.seats i (record { conn = seat.conn; place = At d (names d + 1) }) → new.dropped ≡ s.dropped → new.greatest ≡ s.greatest
              → value paths limits (at_place d (after (arrival (names d + 1) before piece)) cores) new ≡ many.met (Piece conn piece) x
          choosing_is d chose new seats dropped greatest =
              met_is paths limits cores s (Piece conn piece) (at_place d (after (arrival (names d + 1) before piece)) cores) new
              (one_arrives paths limits cores s (Piece conn piece) d (arrival (names d + 1) before piece) (heard (Some d) chose))
              (seated_as (Some d) chose ∙ placed_as (At d (names d + 1)) ∙ sym seats) (sym (dropped ∙ hung_up)) (sym greatest)
