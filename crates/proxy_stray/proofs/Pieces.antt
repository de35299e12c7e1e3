-- Bytes of the modem that come in pieces: while nothing is heard with them, they bring nothing, and those that are for nobody leave no trace.
use Rattle.std.proofs.Common.{◌≡◌, ℕ, ◌+◌, ◌≤◌, Bool, true, false, if◌then◌else◌, List, [], ◌∷◌, ◌++◌, length, drop, map, refl, ap, ap₂, sym, ◌∙◌, subst, arith, append_assoc, append-nil, length-append, Option, Some, None}
use Rattle.std.proofs.Math.Seq.{drop-length}
use Rattle.std.proofs.lemmas.Bool.{false_from_ne_true}
use Rattle.framing.specs.declared.framing.Size.{Size}
use Rattle.framing.specs.declared.framing.Size.TheVariants.{Unknown, Known, Invalid}
use Rattle.framing.specs.Framing.{IsKept}
use Rattle.framing.specs.Cutting.{Cutting, behind, cut}
use Rattle.framing.proofs.Cuts.{cut-append, cut-bad}
use Rattle.proxy_history.specs.Events.{Event, Joined, Piece, Left, ModemPiece, ModemGone, ModemBack, Now, Took, ModemTook}
use Rattle.proxy_history.specs.Streams.{is_invalid, is_bad, stream, modem_stream, with_piece}
use Rattle.proxy_history.specs.Items.{Item, ModemSays, ModemIsLost, item_if, delivered, delivered_by_piece, modem_items, items_of}
use Rattle.proxy_history.specs.Facts.{Fact, EventBegan}
use Rattle.proxy_history.specs.Connections.{dropped}
use Rattle.proxy_history.specs.Protocol.{Protocol}
use Rattle.proxy_history.specs.History.{add_all, history}
use Rattle.proxy_history.specs.Coming.{piece_limit, greatest_name, AreSound}
use Rattle.proxy_stray.specs.Alike.{TellTheSame, Alike}
use Rattle.proxy_stray.specs.Pieces.{Step, Part, Other, bytes_of, with_parts, without_parts, is_of_modem, AreTogether, AreShort}
use Rattle.proxy_stray.specs.Stray.{heard_behind, IsStray, AreUnheard, IsStrayInPieces, TakesNoHeed}
use Rattle.proxy_stray.specs.Law.{BringTheSame, with_all}
use Rattle.proxy_stray.proofs.Keeping.{alike_self, alike_then, begun, adds_all}
use Rattle.proxy_stray.proofs.Hearing.{AreAlike}
use Rattle.proxy_stray.proofs.Histories.{LeftAlike, histories_alike, bring_the_same, comes_alike, other_items, same_streams, same_names, hang_up_the_same, left_alike, sound_alike, done, brings_nothing, nobody}

invalid_is : (size : Size) → is_invalid size ≡ true → size ≡ Invalid
invalid_is Unknown is = absurd (cc)
invalid_is (Known length) is = absurd (cc)
invalid_is Invalid is = refl

none_of : {X : Type 0} (xs : List X) → length xs ≡ 0 → xs ≡ []
none_of [] none = refl
none_of (x ∷ xs) none = absurd (omega (arith, none))

-- where a list with more behind it, and yet more, is the list, there is no more
none_behind : {X : Type 0} (xs more further : List X) → (xs ++ more) ++ further ≡ xs → (more ≡ []) × (further ≡ [])
none_behind xs more further same =
    let count : length xs + length more + length further ≡ length xs = sym (length-append (xs ++ more) further ∙ ap (λ (n : ℕ). n + length further) (length-append xs more)) ∙ ap length same in
    (none_of more (omega (arith, count)), none_of further (omega (arith, count)))

module _ {Known : Type 0} (p : Protocol Known) (T : TakesNoHeed p) where
  -- ---- streams ----

  -- a stream that is bad stays so
  stays_bad : (stream more : List ℕ) → is_bad p.size stream ≡ true → is_bad p.size (stream ++ more) ≡ true
  stays_bad stream more bad =
      let left : List ℕ = (cut p.size stream).rest in
      let still : p.size (left ++ more) ≡ Invalid = subst (λ (s : Size). IsKept s (p.size (left ++ more))) (invalid_is (p.size left) bad) (T.kept left more) in
      ap (λ (c : Cutting). is_invalid (p.size c.rest)) (cut-append p.size stream more)
      ∙ ap (λ (c : Cutting). is_invalid (p.size c.rest)) (cut-bad p.size T.kept (left ++ more) still)
      ∙ ap is_invalid still

  good_before : (stream more : List ℕ) → is_bad p.size (stream ++ more) ≡ false → is_bad p.size stream ≡ false
  good_before stream more good = false_from_ne_true _ (λ bad. let clash : true ≡ false = sym (stays_bad stream more bad) ∙ good in cc)

  -- what is heard with more bytes comes behind what was heard before
  delivered-append : (stream more : List ℕ) → delivered p (stream ++ more) ≡ delivered p stream ++ delivered_by_piece p stream more
  delivered-append stream more =
      let first : List (List ℕ) = (cut p.size stream).messages in
      subst (λ (messages : List (List ℕ)). p.deliver messages ≡ p.deliver first ++ drop (length (p.deliver first)) (p.deliver messages))
      (sym (ap (λ (c : Cutting). c.messages) (cut-append p.size stream more)))
      (T.goes_on first (cut p.size ((cut p.size stream).rest ++ more)).messages)

  -- where nothing is heard with some bytes and more, nothing is with either
  nothing_with_each : (stream bytes more : List ℕ) → delivered_by_piece p stream (bytes ++ more) ≡ [] → (delivered_by_piece p stream bytes ≡ []) × (delivered_by_piece p (stream ++ bytes) more ≡ [])
  nothing_with_each stream bytes more none =
      none_behind (delivered p stream) (delivered_by_piece p stream bytes) (delivered_by_piece p (stream ++ bytes) more)
      (ap (λ (l : List (List ℕ)). l ++ delivered_by_piece p (stream ++ bytes) more) (sym (delivered-append stream bytes))
      ∙ sym (delivered-append (stream ++ bytes) more)
      ∙ ap (delivered p) (append_assoc stream bytes more)
      ∙ delivered-append stream (bytes ++ more)
      ∙ ap (λ (l : List (List ℕ)). delivered p stream ++ l) none
      ∙ append-nil (delivered p stream))

  -- ---- events that aren't of the modem ----

  stays_there : (events : List Event) (event : Event) → is_of_modem event ≡ false → modem_stream p.size p.starts_away (event ∷ events) ≡ modem_stream p.size p.starts_away events
  unfolding modem_stream
  stays_there events (Joined c) other = refl
  stays_there events (Piece c bytes) other = refl
  stays_there events (Left c) other = refl
  stays_there events (ModemPiece bytes) other = absurd (cc)
  stays_there events ModemGone other = absurd (cc)
  stays_there events ModemBack other = absurd (cc)
  stays_there events (Now time) other = refl
  stays_there events (Took c count) other = refl
  stays_there events (ModemTook count) other = refl

  all_stay_there : (events : List Event) (steps : List Step) → AreTogether steps → modem_stream p.size p.starts_away (without_parts steps ++ events) ≡ modem_stream p.size p.starts_away events
  unfolding without_parts
  all_stay_there events [] together = refl
  all_stay_there events (Part bytes ∷ steps) together = all_stay_there events steps together
  all_stay_there events (Other event ∷ steps) together = stays_there (without_parts steps ++ events) event together.0 ∙ all_stay_there events steps together.1

  -- ---- pieces with which nothing is heard ----

  -- two lists of events, of which one has these bytes more behind the modem's stream
  pub record StandsOpen (before bytes : List ℕ) (events others : List Event) : Type 0 where
    pub facts : TellTheSame (history p events) (history p others)
    pub streams : (c : ℕ) → stream c events ≡ stream c others
    pub names : greatest_name events ≡ greatest_name others
    pub with_bytes : modem_stream p.size p.starts_away events ≡ Some (before ++ bytes)
    pub without_bytes : modem_stream p.size p.starts_away others ≡ Some before

  module _ (events : List Event) (before : List ℕ) (there : modem_stream p.size p.starts_away events ≡ Some before) where
    abbrev AreNothing : List ℕ → Type 0
    AreNothing bytes = (delivered_by_piece p before bytes ≡ []) × (is_bad p.size (before ++ bytes) ≡ false)

    fewer_are : (bytes more : List ℕ) → AreNothing (bytes ++ more) → AreNothing bytes
    fewer_are bytes more nothing =
        ((nothing_with_each before bytes more nothing.0).0, good_before (before ++ bytes) more (ap (is_bad p.size) (append_assoc before bytes more) ∙ nothing.1))

    part_open : (bytes more : List ℕ) (all others : List Event) → AreNothing (bytes ++ more) → StandsOpen before bytes all others → StandsOpen before (bytes ++ more) (ModemPiece more ∷ all) others
    unfolding stream modem_stream
    part_open bytes more all others nothing open_ =
        let good : is_bad p.size ((before ++ bytes) ++ more) ≡ false = ap (is_bad p.size) (append_assoc before bytes more) ∙ nothing.1 in
        let none : items_of p all (ModemPiece more) ≡ [] =
        ap (modem_items p more) open_.with_bytes
        ∙ ap₂ (λ (heard : List (List ℕ)) (bad : Bool). map (λ (m : List ℕ). ModemSays m) heard ++ item_if bad ModemIsLost) (nothing_with_each before bytes more nothing.0).1 good
        in
        record {
          facts = brings_nothing p T all (ModemPiece more) none ∙ open_.facts;
          streams = open_.streams;
          names = open_.names;
          with_bytes =
              ap (with_piece p.size more) open_.with_bytes
              ∙ ap (λ (bad : Bool). if bad then None else Some ((before ++ bytes) ++ more)) good
              ∙ ap (λ (l : List ℕ). Some l) (append_assoc before bytes more);
          without_bytes = open_.without_bytes;
        }

    other_open : (bytes : List ℕ) (all others : List Event) (event : Event) → is_of_modem event ≡ false → StandsOpen before bytes all others → StandsOpen before bytes (event ∷ all) (event ∷ others)
    other_open bytes all others event other open_ = record {
      facts = (histories_alike p T all others open_.facts event (other_items p T all others open_.streams event other)).same;
      streams = same_streams p T all others open_.streams event;
      names = same_names p T all others open_.names event;
      with_bytes = stays_there all event other ∙ open_.with_bytes;
      without_bytes = stays_there others event other ∙ open_.without_bytes;
    }

    pub stand_open : (steps : List Step) → AreTogether steps → AreNothing (bytes_of steps) → StandsOpen before (bytes_of steps) (with_parts steps ++ events) (without_parts steps ++ events)
    unfolding bytes_of with_parts without_parts
    stand_open [] together nothing = record { facts = refl; streams = λ c. refl; names = refl; with_bytes = there ∙ sym (ap (λ (l : List ℕ). Some l) (append-nil before)); without_bytes = there }
    stand_open (Part more ∷ steps) together nothing =
        part_open (bytes_of steps) more (with_parts steps ++ events) (without_parts steps ++ events) nothing (stand_open steps together (fewer_are (bytes_of steps) more nothing))
    stand_open (Other event ∷ steps) together nothing =
        other_open (bytes_of steps) (with_parts steps ++ events) (without_parts steps ++ events) event together.0 (stand_open steps together.1 nothing)

    pub parts_may_come : (steps : List Step) → AreTogether steps → AreNothing (bytes_of steps) → AreShort steps → AreSound p (without_parts steps ++ events) → AreSound p (with_parts steps ++ events)
    unfolding bytes_of with_parts without_parts
    parts_may_come [] together nothing short come = come
    parts_may_come (Part more ∷ steps) together nothing short come = (short.0, parts_may_come steps together (fewer_are (bytes_of steps) more nothing) short.1 come)
    parts_may_come (Other event ∷ steps) together nothing short come =
        let open_ = stand_open steps together.1 nothing in
        (comes_alike p T (with_parts steps ++ events) (without_parts steps ++ events) open_.facts open_.names event come.0, parts_may_come steps together.1 nothing short come.1)

  module _ (events : List Event) (steps : List Step) where
    pub unheard_bring_nothing : AreUnheard p events steps → BringTheSame p (with_parts steps ++ events) (without_parts steps ++ events)
    unheard_bring_nothing unheard =
        bring_the_same p T (with_parts steps ++ events) (without_parts steps ++ events) (stand_open events unheard.before unheard.is_there steps unheard.together (unheard.nothing_yet, unheard.is_good)).facts

    pub unheard_hang_up_nobody : (event : Event) → AreUnheard p events (Other event ∷ steps) → dropped (history p (event ∷ with_parts steps ++ events)) ≡ dropped (history p (event ∷ without_parts steps ++ events))
    unfolding bytes_of
    unheard_hang_up_nobody event unheard =
        let open_ = stand_open events unheard.before unheard.is_there steps unheard.together.1 (unheard.nothing_yet, unheard.is_good) in
        let all = with_parts steps ++ events in
        let others = without_parts steps ++ events in
        (histories_alike p T all others open_.facts event (other_items p T all others open_.streams event unheard.together.0)).hung_up

  -- ---- the last piece ----

  module _ (events : List Event) (steps : List Step) (last bytes : List ℕ) (comes : IsStrayInPieces p events steps last bytes) where
    abbrev before : List ℕ
    before = comes.stray.before

    abbrev all : List Event
    all = with_parts steps ++ events

    abbrev others : List Event
    others = without_parts steps ++ events

    -- the bytes stand between other messages
    cut_is : cut p.size (before ++ bytes) ≡ behind (cut p.size before).messages (cut p.size bytes)
    cut_is = cut-append p.size before bytes ∙ ap (λ (rest : List ℕ). behind (cut p.size before).messages (cut p.size (rest ++ bytes))) comes.stray.between

    good : is_bad p.size (before ++ bytes) ≡ false
    good = ap (λ (c : Cutting). is_invalid (p.size c.rest)) cut_is ∙ ap (λ (rest : List ℕ). is_invalid (p.size rest)) comes.stray.are_whole ∙ T.not_bad

    joined : (before ++ bytes_of steps) ++ last ≡ before ++ bytes
    joined = append_assoc before (bytes_of steps) last ∙ ap (λ (l : List ℕ). before ++ l) comes.whole

    there : modem_stream p.size p.starts_away events ≡ Some before
    there = sym (all_stay_there events steps comes.together) ∙ comes.stray.is_there

    nothing : (delivered_by_piece p before (bytes_of steps) ≡ []) × (is_bad p.size (before ++ bytes_of steps) ≡ false)
    nothing = (comes.nothing_yet, good_before (before ++ bytes_of steps) last (ap (is_bad p.size) joined ∙ good))

    open_ : StandsOpen before (bytes_of steps) all others
    open_ = stand_open events before there steps comes.together nothing

    -- what is heard with the last piece is what would be heard with all of them
    heard_at_last : delivered_by_piece p (before ++ bytes_of steps) last ≡ delivered_by_piece p before bytes
    heard_at_last =
        ap₂ (λ (was is : List (List ℕ)). drop (length was) is) (delivered-append before (bytes_of steps) ∙ ap (λ (l : List (List ℕ)). delivered p before ++ l) comes.nothing_yet ∙ append-nil (delivered p before)) (ap (delivered p) joined)

    abbrev heard : List Item
    heard = map (λ (m : List ℕ). ModemSays m) (delivered_by_piece p before bytes)

    items_are : items_of p all (ModemPiece last) ≡ heard
    items_are =
        ap (modem_items p last) open_.with_bytes
        ∙ ap₂ (λ (messages : List (List ℕ)) (bad : Bool). map (λ (m : List ℕ). ModemSays m) messages ++ item_if bad ModemIsLost) heard_at_last (ap (is_bad p.size) joined ∙ good)
        ∙ append-nil heard

    facts_alike : TellTheSame (history p (ModemPiece last ∷ all)) (history p others)
    unfolding history
    facts_alike =
        let begins : List Fact = EventBegan ∷ history p others in
        let added : Alike (add_all p heard (EventBegan ∷ history p all)) begins =
        alike_then _ (add_all p heard begins) _ (adds_all p T heard _ _ (begun (history p all) (history p others) open_.facts))
        (nobody p T (delivered_by_piece p before bytes) begins begins comes.stray.for_nobody (alike_self begins))
        in
        let ends : Alike (p.finish (add_all p (items_of p all (ModemPiece last)) (EventBegan ∷ history p all))) (p.finish begins) =
        T.finish _ _ (subst (λ (l : List Item). Alike (add_all p l (EventBegan ∷ history p all)) begins) (sym items_are) added)
        in
        ends.same ∙ done p T others

    stream_alike : AreAlike p T (Some (before ++ bytes)) (Some before)
    stream_alike = record {
      rest = ap (λ (c : Cutting). c.rest) cut_is ∙ comes.stray.are_whole ∙ sym comes.stray.between;
      open_ones = λ more. ap (λ (c : Cutting). heard_behind p c.messages more) cut_is ∙ comes.stray.leaves_open more;
    }

    streams_with_it : modem_stream p.size p.starts_away (ModemPiece last ∷ all) ≡ Some (before ++ bytes)
    unfolding modem_stream
    streams_with_it =
        ap (with_piece p.size last) open_.with_bytes
        ∙ ap (λ (stream : List ℕ). if is_bad p.size stream then None else Some stream) joined
        ∙ ap (λ (bad : Bool). if bad then None else Some (before ++ bytes)) good

    pub leaves_alike : LeftAlike p T (with_all events steps last) others
    unfolding stream
    leaves_alike = record {
      facts = facts_alike;
      streams = open_.streams;
      modem_streams = subst (λ (s : Option (List ℕ)). AreAlike p T s (modem_stream p.size p.starts_away others)) (sym streams_with_it) (subst (AreAlike p T (Some (before ++ bytes))) (sym open_.without_bytes) stream_alike);
      names = open_.names;
    }

    pub leaves_no_trace : (later : List Event) → BringTheSame p (later ++ with_all events steps last) (later ++ others)
    leaves_no_trace later = bring_the_same p T (later ++ with_all events steps last) (later ++ others) (left_alike p T (with_all events steps last) others later leaves_alike).facts

    pub hangs_up_nobody : (event : Event) (later : List Event) → dropped (history p (event ∷ later ++ with_all events steps last)) ≡ dropped (history p (event ∷ later ++ others))
    hangs_up_nobody event later = hang_up_the_same p T (later ++ with_all events steps last) (later ++ others) (left_alike p T (with_all events steps last) others later leaves_alike) event

    first_may_come : (later : List Event) → AreSound p (later ++ others) → AreSound p others
    first_may_come [] come = come
    first_may_come (event ∷ later) come = first_may_come later come.1

    pub lets_the_same_come : (later : List Event) → AreSound p (later ++ others) → AreShort steps → length last ≤ piece_limit → AreSound p (later ++ with_all events steps last)
    lets_the_same_come later come short last_short =
        sound_alike p T (with_all events steps last) others later leaves_alike come
        (last_short, parts_may_come events before there steps comes.together nothing short (first_may_come later come))

-- bytes that come in one piece
pub one_piece : {Known : Type 0} (p : Protocol Known) (events : List Event) (bytes : List ℕ) → IsStray p events bytes → IsStrayInPieces p events [] bytes bytes
unfolding bytes_of without_parts
one_piece p events bytes stray = record {
  whole = refl;
  stray = stray;
  together = tt;
  nothing_yet = none (cut p.size) stray.before;
}
  where
    none : (cuts : List ℕ → Cutting) (before : List ℕ) → drop (length (p.deliver (cuts before).messages)) (p.deliver (cuts (before ++ [])).messages) ≡ []
    none cuts before = ap (λ (l : List ℕ). drop (length (p.deliver (cuts before).messages)) (p.deliver (cuts l).messages)) (append-nil before) ∙ drop-length (p.deliver (cuts before).messages)
