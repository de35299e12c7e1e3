-- A proxy of several devices keeps the rules by which it can be served. Lists of events have the newest first.
use Rattle.std.proofs.Common.{◌≡◌, ℕ, ◌+◌, ◌<◌, ◌≤◌, Bool, true, false, ◌==◌, nat_lt, List, [], ◌∷◌, ◌++◌, length, drop, refl, ap, sym, ◌∙◌, subst, arith, append-nil, Option, Some, None}
use Rattle.std.proofs.Math.Seq.{drop-nil}
use Rattle.std.proofs.lemmas.Option.{same_Some}
use Rattle.proxy_history.specs.Events.{Event}
use Rattle.proxy_history.specs.Events as one
use Rattle.proxy_history.specs.Facts.{Fact, Request}
use Rattle.proxy_history.specs.Connections.{contains, is_present}
use Rattle.proxy_history.specs.Connections as connections
use Rattle.proxy_history.specs.Modem as modem
use Rattle.proxy_history.specs.Rendering.{Rendering, empty}
use Rattle.proxy_history.specs.History.{history}
use Rattle.proxy_history.specs.History as one_history
use Rattle.proxy_history.specs.Adding.{IsOrderly}
use Rattle.proxy_history.specs.Proxy as one_proxy
use Rattle.proxy_history.specs.Lawful.{AsksUpTo, backlog, proxy_of}
use Rattle.proxy_history.proofs.Lawful.{proxy_is_lawful}
use Rattle.many_history.specs.Events.{ManyEvent, Joined, Piece, Left, Took, ModemPiece, ModemGone, ModemBack, ModemTook, Now}
use Rattle.many_history.specs.Devices.{Devices}
use Rattle.many_history.specs.Many.{Place, Undecided, At, Seat, conns_of, place_of, without, seat_of, events_if, only_at, on_leaving, on_taking, joined_if, there, is_there_at, own_after, many, own}
use Rattle.many_history.specs.Queues.{text_at, text_for, modem_queue}
use Rattle.many_history.specs.Coming.{NamesRise}
use Rattle.many_history.proofs.There.{AreThere, place_of_front, without_other, seats_are_there, placed_is_there}
use Rattle.many_history.proofs.Once.{behind, nowhere, stands_once, seen}
use Rattle.many_history.proofs.Once as conns
use Rattle.many_serving.specs.Lawful.{IsLawful, IsTakenByModem, modem_of}
use Rattle.many_serving.specs.Proxy.{many_proxy_of}
use Rattle.many_lawful.proofs.Seats.{own_seat, either, place_of_append, place_of_both, other_nowhere, either_none, all_there, none_ended, found, names_without}
use Rattle.many_lawful.proofs.Alone.{everybody}
use Rattle.many_lawful.proofs.Standing.{only_here, only_elsewhere, quiet, modem_stays, taker_stays, leaver_goes, stands, text_grows, taking_leaves_waiting, leaving_leaves_waiting, modem_leaves_waiting}

module _ {Known : Type 0} (s : Devices Known) (Asks : ℕ → Request → List Fact → Type 0) (O : (d : ℕ) → IsOrderly (s.protocol d) (Asks d)) (own_bytes : ℕ → List Fact → ℕ) (A : (d : ℕ) → AsksUpTo (s.protocol d) (own_bytes d)) where
  -- those of each device's own proxy
  R : (d : ℕ) → one_proxy.IsLawful (proxy_of (s.protocol d) (own_bytes d))
  R d = proxy_is_lawful (s.protocol d) (Asks d) (O d) (own_bytes d) (A d)

  -- ---- before any event ----

  nobody : conns_of (many s []).seats ≡ []
  unfolding many
  nobody = refl

  none_dropped : conns_of (many s []).dropped ≡ []
  unfolding many
  none_dropped = refl

  no_bytes : (c : ℕ) → (text_for s c []).bytes ≡ (text_for s c []).waiting
  unfolding many place_of
  no_bytes c = refl

  no_modem_bytes : (d : ℕ) → modem_queue s d [] ≡ []
  unfolding many
  no_modem_bytes d = (R d).no_modem_bytes

  -- ---- a client that joins ----

  module _ (c : ℕ) (past : List ManyEvent) (rise : NamesRise (Joined c ∷ past)) where
    unknown : conns.times c (many s past).seats + conns.times c (many s past).gone ≡ 0
    unknown = omega (arith, (stands_once s c past rise.1).unknown rise.0, seen s c past)

    joins : (b : Bool) → (let m = many s past in text_at s m.own (place_of c (joined_if b c m.seats ++ (m.gone ++ []))) ≡ empty)
    unfolding place_of
    joins false =
        let m = many s past in
        let none : place_of c (m.seats ++ (m.gone ++ [])) ≡ None =
        ap (λ (l : List Seat). place_of c (m.seats ++ l)) (append-nil m.gone) ∙ behind c m.seats m.gone (omega (arith, unknown)) ∙ nowhere c m.gone (omega (arith, unknown))
        in
        ap (text_at s m.own) none
    joins true =
        let m = many s past in
        let here : place_of c (m.seats ++ record { conn = c; place = Undecided [] } ∷ []) ≡ Some (Undecided []) =
        behind c m.seats (record { conn = c; place = Undecided [] } ∷ []) (omega (arith, unknown)) ∙ own_seat c (Some (Undecided []))
        in
        ap (text_at s m.own) (place_of_front c (m.seats ++ record { conn = c; place = Undecided [] } ∷ []) (m.gone ++ []) (Undecided []) here)

    joins_empty : text_for s c (Joined c ∷ past) ≡ empty
    unfolding many
    joins_empty =
        let m = many s past in
        ap (text_at s (own_after s (Joined c) m)) (stands s c (Joined c) past rise) ∙ joins (nat_lt (length m.seats) s.limit)

    joined : (text_for s c (Joined c ∷ past)).bytes ≡ (text_for s c (Joined c ∷ past)).waiting
    joined = ap (λ (r : Rendering). r.bytes) joins_empty ∙ sym (ap (λ (r : Rendering). r.waiting) joins_empty)

  -- ---- who stays ----

  module _ (past : List ManyEvent) where
    -- a client's socket takes bytes
    takers : (c count : ℕ) → AreThere (is_there_at s (own_after s (Took c count) (many s past))) (many s past).seats
    takers c count = taker_stays s Asks O past (place_of c (many s past).seats) count (λ e name. (R e).took_dropped name count (own s e past))

    -- a modem does
    modem_takers : (d count : ℕ) → AreThere (is_there_at s (own_after s (ModemTook d count) (many s past))) (many s past).seats
    modem_takers d count = modem_stays s Asks O past d (one.ModemTook count) (λ name. refl) ((R d).modem_took_dropped count (own s d past))

    -- a modem is back
    with_modem : (d : ℕ) → AreThere (is_there_at s (own_after s (ModemBack d) (many s past))) (many s past).seats
    with_modem d = modem_stays s Asks O past d one.ModemBack (λ name. refl) ((R d).back_dropped (own s d past))

    -- a client goes by itself
    leavers : (c : ℕ) → AreThere (is_there_at s (own_after s (Left c) (many s past))) (without c (many s past).seats)
    leavers c = leaver_goes s Asks O past c (place_of c (many s past).seats) refl (λ e name. (R e).left_dropped name (own s e past))

    took_all : (c count : ℕ) → ((many s (Took c count ∷ past)).seats ≡ (many s past).seats) × ((many s (Took c count ∷ past)).gone ≡ (many s past).gone)
    took_all c count = quiet s (Took c count) past refl refl (takers c count)

    modem_took_all : (d count : ℕ) → ((many s (ModemTook d count ∷ past)).seats ≡ (many s past).seats) × ((many s (ModemTook d count ∷ past)).gone ≡ (many s past).gone)
    modem_took_all d count = quiet s (ModemTook d count) past refl refl (modem_takers d count)

    took_where : (c count k : ℕ) → place_of k (everybody s (Took c count ∷ past)) ≡ place_of k (everybody s past)
    took_where c count k = let all = took_all c count in ap (λ (l : List Seat). place_of k (l ++ (many s (Took c count ∷ past)).gone)) all.0 ∙ ap (λ (l : List Seat). place_of k ((many s past).seats ++ l)) all.1

    modem_took_where : (d count k : ℕ) → place_of k (everybody s (ModemTook d count ∷ past)) ≡ place_of k (everybody s past)
    modem_took_where d count k = let all = modem_took_all d count in ap (λ (l : List Seat). place_of k (l ++ (many s (ModemTook d count ∷ past)).gone)) all.0 ∙ ap (λ (l : List Seat). place_of k ((many s past).seats ++ l)) all.1

    left_seats : (c : ℕ) → (many s (Left c ∷ past)).seats ≡ without c (many s past).seats
    unfolding many
    left_seats c = let m = many s past in all_there (is_there_at s (own_after s (Left c) m)) (without c m.seats) (leavers c)

    left_gone : (c : ℕ) → (many s (Left c ∷ past)).gone ≡ (many s past).gone ++ seat_of c (place_of c (many s past).seats)
    unfolding many
    left_gone c =
        let m = many s past in
        let behind : List Seat = m.gone ++ seat_of c (place_of c m.seats) in
        ap (λ (l : List Seat). behind ++ l) (none_ended (is_there_at s (own_after s (Left c) m)) (without c m.seats) (leavers c)) ∙ append-nil behind

    left_where : (c k : ℕ) → (c == k) ≡ false → place_of k (everybody s (Left c ∷ past)) ≡ place_of k (everybody s past)
    left_where c k differs =
        let m = many s past in
        let second : place_of k (m.gone ++ seat_of c (place_of c m.seats)) ≡ place_of k m.gone =
        place_of_append k m.gone (seat_of c (place_of c m.seats)) ∙ ap (either (place_of k m.gone)) (other_nowhere k c (place_of c m.seats) differs) ∙ either_none (place_of k m.gone)
        in
        ap (λ (l : List Seat). place_of k (l ++ (many s (Left c ∷ past)).gone)) (left_seats c)
        ∙ ap (λ (l : List Seat). place_of k (without c m.seats ++ l)) (left_gone c)
        ∙ place_of_both k (without c m.seats) (m.gone ++ seat_of c (place_of c m.seats)) m.seats m.gone (without_other k c m.seats differs) second

    left_present : (c : ℕ) → NamesRise past → conns_of (many s (Left c ∷ past)).seats ≡ connections.without c (conns_of (many s past).seats)
    left_present c rise = ap conns_of (left_seats c) ∙ names_without c (many s past).seats (omega (arith, (stands_once s c past rise).once, seen s c past))

    -- ---- who is to be hung up ----

    took_dropped : (c count : ℕ) → conns_of (many s (Took c count ∷ past)).dropped ≡ []
    unfolding many
    took_dropped c count = let m = many s past in ap conns_of (none_ended (is_there_at s (own_after s (Took c count) m)) m.seats (takers c count))

    left_dropped : (c : ℕ) → conns_of (many s (Left c ∷ past)).dropped ≡ []
    unfolding many
    left_dropped c = let m = many s past in ap conns_of (none_ended (is_there_at s (own_after s (Left c) m)) (without c m.seats) (leavers c))

    modem_took_dropped : (d count : ℕ) → conns_of (many s (ModemTook d count ∷ past)).dropped ≡ []
    unfolding many
    modem_took_dropped d count = let m = many s past in ap conns_of (none_ended (is_there_at s (own_after s (ModemTook d count) m)) m.seats (modem_takers d count))

    back_dropped : (d : ℕ) → conns_of (many s (ModemBack d ∷ past)).dropped ≡ []
    unfolding many
    back_dropped d = let m = many s past in ap conns_of (none_ended (is_there_at s (own_after s (ModemBack d) m)) m.seats (with_modem d))

    -- ---- a client's socket takes bytes ----

    module _ (c count : ℕ) where
      own_text : (place : Place) → place_of c (many s past).seats ≡ Some place → text_for s c (Took c count ∷ past) ≡ text_at s (λ d. on_taking (Some place) count d ++ own s d past) (Some place)
      unfolding many
      own_text place at =
          let m = many s past in
          ap (text_at s (own_after s (Took c count) m)) (took_where c count c ∙ place_of_front c m.seats m.gone place at) ∙ ap (λ (o : Option Place). text_at s (λ d. on_taking o count d ++ m.own d) (Some place)) at

      was_text : (place : Place) → place_of c (many s past).seats ≡ Some place → text_for s c past ≡ text_at s (many s past).own (Some place)
      was_text place at = let m = many s past in ap (text_at s m.own) (place_of_front c m.seats m.gone place at)

      is_here : (e name : ℕ) → place_of c (many s past).seats ≡ Some (At e name) → is_present name (history (s.protocol e) (own s e past)) ≡ true
      is_here e name at = let m = many s past in placed_is_there (is_there_at s m.own) c m.seats (At e name) (seats_are_there s past) at

      text_by : (place : Place) → place_of c (many s past).seats ≡ Some place → (text_at s (λ d. on_taking (Some place) count d ++ own s d past) (Some place)).bytes ≡ (text_at s (many s past).own (Some place)).bytes
      text_by (Undecided bytes) at = refl
      text_by (At e name) at =
          ap (λ (l : List Event). (one_history.text_for (s.protocol e) name l).bytes) (only_here e (one.Took name count ∷ []) (own s e past)) ∙ (R e).taken_text name count (own s e past) (is_here e name at)

      waits_by : (place : Place) → place_of c (many s past).seats ≡ Some place → (text_at s (λ d. on_taking (Some place) count d ++ own s d past) (Some place)).waiting ≡ drop count (text_at s (many s past).own (Some place)).waiting
      waits_by (Undecided bytes) at = sym (drop-nil count)
      waits_by (At e name) at =
          ap (λ (l : List Event). (one_history.text_for (s.protocol e) name l).waiting) (only_here e (one.Took name count ∷ []) (own s e past)) ∙ (R e).taken_waiting name count (own s e past) (is_here e name at)

      taken_text : contains c (conns_of (many s past).seats) ≡ true → (text_for s c (Took c count ∷ past)).bytes ≡ (text_for s c past).bytes
      taken_text is =
          let at = found c (many s past).seats is in
          ap (λ (r : Rendering). r.bytes) (own_text at.0 at.1) ∙ text_by at.0 at.1 ∙ sym (ap (λ (r : Rendering). r.bytes) (was_text at.0 at.1))

      taken_waiting : contains c (conns_of (many s past).seats) ≡ true → (text_for s c (Took c count ∷ past)).waiting ≡ drop count (text_for s c past).waiting
      taken_waiting is =
          let at = found c (many s past).seats is in
          ap (λ (r : Rendering). r.waiting) (own_text at.0 at.1) ∙ waits_by at.0 at.1 ∙ sym (ap (λ (r : Rendering). drop count r.waiting) (was_text at.0 at.1))

    -- ---- the modems ----

    abbrev away : ℕ → List Event → Bool
    away d events = modem.is_away (s.protocol d).starts_away (history (s.protocol d) events)

    away_taking : (d count : ℕ) (place : Option Place) → away d (on_taking place count d ++ own s d past) ≡ away d (own s d past)
    away_taking d count None = refl
    away_taking d count (Some (Undecided bytes)) = refl
    away_taking d count (Some (At e name)) = by (d == e)
      where
        by : (b : Bool) → away d (events_if b (one.Took name count ∷ []) ++ own s d past) ≡ away d (own s d past)
        by true = (R d).took_away name count (own s d past)
        by false = refl

    away_leaving : (d : ℕ) (place : Option Place) → away d (on_leaving place d ++ own s d past) ≡ away d (own s d past)
    away_leaving d None = refl
    away_leaving d (Some (Undecided bytes)) = refl
    away_leaving d (Some (At e name)) = by (d == e)
      where
        by : (b : Bool) → away d (events_if b (one.Left name ∷ []) ++ own s d past) ≡ away d (own s d past)
        by true = (R d).left_away name (own s d past)
        by false = refl

    took_away : (c count d : ℕ) → away d (own s d (Took c count ∷ past)) ≡ away d (own s d past)
    unfolding many
    took_away c count d = away_taking d count (place_of c (many s past).seats)

    left_away : (c d : ℕ) → away d (own s d (Left c ∷ past)) ≡ away d (own s d past)
    unfolding many
    left_away c d = away_leaving d (place_of c (many s past).seats)

    elsewhere : (k d e : ℕ) (event : Event) → Some k ≡ Some d → (d == e) ≡ false → only_at k (event ∷ []) e ++ own s e past ≡ own s e past
    elsewhere k d e event is other = only_elsewhere k e (event ∷ []) (own s e past) (ap (λ (n : ℕ). n == e) (same_Some k d is) ∙ other)

    other_away : (d e : ℕ) (event : ManyEvent) → modem_of event ≡ Some d → (d == e) ≡ false → away e (own s e (event ∷ past)) ≡ away e (own s e past)
    unfolding many
    other_away d e (ModemTook k count) of other = ap (away e) (elsewhere k d e (one.ModemTook count) of other)
    other_away d e (ModemGone k) of other = ap (away e) (elsewhere k d e one.ModemGone of other)
    other_away d e (ModemBack k) of other = ap (away e) (elsewhere k d e one.ModemBack of other)
    other_away d e (Joined c) of other = absurd (cc)
    other_away d e (Piece c bytes) of other = absurd (cc)
    other_away d e (Left c) of other = absurd (cc)
    other_away d e (Took c count) of other = absurd (cc)
    other_away d e (ModemPiece k bytes) of other = absurd (cc)
    other_away d e (Now time) of other = absurd (cc)

    gone_away : (d : ℕ) → 0 < length (modem_queue s d past) → away d (own s d (ModemGone d ∷ past)) ≡ true
    unfolding many
    gone_away d waits = ap (away d) (only_here d (one.ModemGone ∷ []) (own s d past)) ∙ (R d).gone_away (own s d past) waits

    met_taking : (d count : ℕ) → own s d (ModemTook d count ∷ past) ≡ one.ModemTook count ∷ own s d past
    unfolding many
    met_taking d count = only_here d (one.ModemTook count ∷ []) (own s d past)

    modem_taken : (d count : ℕ) → IsTakenByModem (many_proxy_of s own_bytes) d count past
    modem_taken d count =
        let taken = (R d).modem_taken count (own s d past) in
        record { more = taken.more; waiting = ap (λ (l : List Event). one_history.modem_queue (s.protocol d) l) (met_taking d count) ∙ taken.waiting }

    backlog_lessens : (d count : ℕ) → 0 < count → count ≤ length (modem_queue s d past) → (many_proxy_of s own_bytes).modem_backlog d (ModemTook d count ∷ past) < (many_proxy_of s own_bytes).modem_backlog d past
    backlog_lessens d count some within =
        subst (λ (l : List Event). backlog (s.protocol d) (own_bytes d) (history (s.protocol d) l) < backlog (s.protocol d) (own_bytes d) (history (s.protocol d) (own s d past))) (sym (met_taking d count))
        ((R d).backlog_lessens count (own s d past) some within)

    took_other_modem : (d count e : ℕ) → (d == e) ≡ false → modem_queue s e (ModemTook d count ∷ past) ≡ modem_queue s e past
    unfolding many
    took_other_modem d count e other = ap (λ (l : List Event). one_history.modem_queue (s.protocol e) l) (only_elsewhere d e (one.ModemTook count ∷ []) (own s e past) other)

  pub many_is_lawful : IsLawful (many_proxy_of s own_bytes)
  many_is_lawful = record {
    nobody = nobody;
    none_dropped = none_dropped;
    no_bytes = no_bytes;
    no_modem_bytes = λ d within. no_modem_bytes d;
    joined = joined;
    grown = λ c event past rise leaves. let more = text_grows s own_bytes R c past event rise leaves in record { more = more.more; text = more.text; waiting = more.waiting };
    taken_text = λ c count past there. taken_text past c count there;
    taken_waiting = λ c count past there. taken_waiting past c count there;
    took_other = λ c count d past differs. taking_leaves_waiting s own_bytes R d past c count differs (took_where past c count d);
    left_other = λ c d past differs. leaving_leaves_waiting s own_bytes R d past c differs (left_where past c d differs);
    modem_took_other = λ d count c past within. modem_leaves_waiting s own_bytes R c past d count (modem_took_where past d count c);
    took_present = λ c count past. ap conns_of (took_all past c count).0;
    modem_took_present = λ d count past within. ap conns_of (modem_took_all past d count).0;
    left_present = λ c past rise there. left_present past c rise;
    took_away = λ c count d past within. took_away past c count d;
    left_away = λ c d past within. left_away past c d;
    other_away = λ d e event past of within also other. other_away past d e event of other;
    gone_away = λ d past within waits. gone_away past d waits;
    modem_taken = λ d count past within. modem_taken past d count;
    backlog_lessens = λ d count past within some fits. backlog_lessens past d count some fits;
    took_other_modem = λ d count e past within also other. took_other_modem past d count e other;
    took_dropped = λ c count past. took_dropped past c count;
    left_dropped = λ c past. left_dropped past c;
    modem_took_dropped = λ d count past within. modem_took_dropped past d count;
    back_dropped = λ d past within. back_dropped past d;
  }
