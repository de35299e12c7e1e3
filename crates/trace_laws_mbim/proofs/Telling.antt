-- What the modem says to a client that is alone, with a message of its own and with one of the modem. Lists of events have the newest first.
use Rattle.std.proofs.Common.{◌≡◌, ℕ, ◌≤◌, Bool, true, false, ◌&&◌, ◌==◌, if◌then◌else◌, List, [], ◌∷◌, ◌++◌, length, map, Option, Some, None, refl, ap, ◌∙◌}
use Rattle.framing.specs.Framing.{IsMessage}
use Rattle.framing.specs.Cutting.{cut}
use Rattle.mbim_frame.specs.declared.kind.MessageKind.TheVariants.{Open}
use Rattle.mbim_frame.specs.declared.status.TheConstants.{SUCCESS}
use Rattle.mbim_frame.specs.Frame.{size_of}
use Rattle.mbim_frame.specs.Framing.{size_of-kept, size_of-positive}
use Rattle.mbim_frame.specs.Head.{is_kind}
use Rattle.mbim_frame.specs.Writing.{open_done}
use Rattle.proxy_history.specs.Events.{Event, Piece, ModemPiece, ModemGone}
use Rattle.proxy_history.specs.Streams.{stream, messages_of_piece, is_bad}
use Rattle.proxy_history.specs.Items.{Item, Says, GoesBad, ModemSays, item_if, client_items, modem_items, items_of}
use Rattle.proxy_history.specs.Facts.{Fact, EventBegan, Own, Ready}
use Rattle.proxy_history.specs.Decision.{Decision, Replies, forwards_under}
use Rattle.proxy_history.specs.Connections.{contains, is_present}
use Rattle.proxy_solo.specs.Solo as alone
use Rattle.proxy_solo.proofs.Lists.{self}
use Rattle.proxy_history.proofs.Pieces.{EndsMessage, ends_message}
use Rattle.mbim_proxy.specs.Known.{Known}
use Rattle.mbim_proxy.specs.OwnReplies.{view_decides}
use Rattle.mbim_proxy.specs.Step.{known_now}
use Rattle.mbim_proxy.specs.ModemStates.{state}
use Rattle.mbim_proxy.specs.Lists.{waiting}
use Rattle.mbim_proxy.specs.Forwarding.{own_open, number_for}
use Rattle.mbim_proxy.specs.Clients.{command_message, opening_decision, decision_on}
use Rattle.mbim_proxy.specs.History.{mbim_protocol, history}
use Rattle.mbim_solo.specs.Solo.{parts, cut_at_ends, is_ready, opened_with, hears, hears_if, answer_to, own_open_in, mbim_alone}
use Rattle.mbim_solo.proofs.Spoken.{SaysOne, comes_at_once}
use Rattle.rig_runs.specs.Mbim.{setup}
use Rattle.rig_laws_mbim.proofs.Stage.{one_piece}
use Rattle.rig_laws_mbim.proofs.Trail.{AreWhole}

abbrev pub meet : Event → List Event → List Event
meet event own = alone.meet (mbim_protocol setup) (mbim_alone setup) event own

abbrev pub meet_event : ℕ → List Event → Event → List Event → List Event
meet_event c events event own = alone.meet_event (mbim_protocol setup) (mbim_alone setup) c events event own

abbrev pub meet_bytes : Option (List ℕ) → List Event → List Event
meet_bytes bytes own = alone.meet_bytes (mbim_protocol setup) (mbim_alone setup) bytes own

-- short bytes come in one piece
pub meets_piece : (x : List ℕ) (own : List Event) → length x ≤ 200 → meet_bytes (Some x) own ≡ meet (ModemPiece x) own
unfolding alone.meet_pieces
meets_piece x own short = ap (λ (pieces : List (List ℕ)). alone.meet_pieces (mbim_protocol setup) (mbim_alone setup) pieces own) (one_piece (length x) x short)

-- ---- decisions ----

not_by : (view : Bool) (o : Option ℕ) → is_ready (if view then Replies Own else forwards_under o) ≡ false
not_by true o = refl
not_by false None = refl
not_by false (Some n) = refl

-- a message of another kind finds nothing open
pub no_opening : (known : Known) (m : List ℕ) (past : List Fact) → is_kind Open m ≡ false → is_ready (decision_on setup known m past) ≡ false
no_opening known m past other =
    ap (λ (b : Bool). is_ready (let d : Decision = if view_decides setup known m then Replies Own else if b then opening_decision (state false past) (number_for setup (own_open setup) past) else forwards_under (number_for setup (command_message setup known m) past) in d)) other
    ∙ not_by (view_decides setup known m) (number_for setup (command_message setup known m) past)

pub shut_not_ready : (o : Option ℕ) → is_ready (forwards_under o) ≡ false
shut_not_ready o = not_by false o

and_false : (a b : Bool) → (a && b && false) ≡ false
and_false true true = refl
and_false true false = refl
and_false false b = refl

pub either_none : (b : Bool) → (let o : Option (List ℕ) = if b then None else None in o) ≡ None
either_none true = refl
either_none false = refl

module _ (c : ℕ) (events : List Event) (streams : AreWhole events) (own : List Event) where
  abbrev past : List Fact
  past = EventBegan ∷ history setup events

  -- ---- with a message of its own ----

  module _ (m : List ℕ) (is : IsMessage size_of m) where
    ends : EndsMessage size_of size_of-kept size_of-positive refl (stream c events) m m
    ends = ends_message size_of size_of-kept size_of-positive refl (stream c events) m [] m (streams.whole c) refl is

    whole_part : parts (stream c events) m ≡ m ∷ []
    whole_part =
        ap (λ (begun : List ℕ). cut_at_ends m begun (messages_of_piece size_of (stream c events) m) (cut size_of (stream c events ++ m)).rest) (streams.whole c)
        ∙ ap (λ (messages : List (List ℕ)). cut_at_ends m [] messages (cut size_of (stream c events ++ m)).rest) ends.messages
        ∙ ap (λ (rest : List ℕ). cut_at_ends m [] (m ∷ []) rest) ends.rest

    whole_item : client_items size_of c (stream c events) m ≡ Says c m ∷ []
    whole_item =
        ap (λ (l : List (List ℕ)). map (λ m. Says c m) l ++ item_if (is_bad size_of (stream c events ++ m)) (GoesBad c)) ends.messages
        ∙ ap (λ (b : Bool). map (λ m. Says c m) (m ∷ []) ++ item_if b (GoesBad c)) ends.good

    pub says_it : meet_event c events (Piece c m) own ≡ meet_bytes (hears setup c (Says c m) past (history setup (meet (Piece c m) own))) (meet (Piece c m) own)
    unfolding alone.meet_parts alone.hear_all
    says_it =
        ap (λ (b : Bool). if b then alone.meet_own (mbim_protocol setup) (mbim_alone setup) c events m own else own) (self c)
        ∙ ap (λ (l : List (List ℕ)). alone.meet_parts (mbim_protocol setup) (mbim_alone setup) c (stream c events) l past own) whole_part
        ∙ ap (λ (items : List Item). alone.hear_all (mbim_protocol setup) (mbim_alone setup) c items past (meet (Piece c m) own)) whole_item

    abbrev ready_now : Bool
    ready_now = is_ready (decision_on setup (known_now setup c past) m past)

    not_opened : ready_now ≡ false → opened_with setup c (Says c m) past ≡ None
    not_opened other =
        ap (λ (b : Bool). let o : Option (List ℕ) = if b then Some (open_done 0 SUCCESS) else if contains c (waiting setup past) then None else None in o) (ap (λ (b : Bool). c == c && is_present c past && b) other ∙ and_false (c == c) (is_present c past))
        ∙ either_none (contains c (waiting setup past))

    -- the modem is silent, or it tells that it is open
    pub says_alone : ready_now ≡ false → meet_event c events (Piece c m) own ≡ meet (Piece c m) own
    says_alone other = says_it ∙ ap (λ (o : Option (List ℕ)). meet_bytes (hears_if o setup c (Says c m) past (history setup (meet (Piece c m) own))) (meet (Piece c m) own)) (not_opened other)

    pub says_open : is_present c past ≡ true → decision_on setup (known_now setup c past) m past ≡ Replies Ready
        → meet_event c events (Piece c m) own ≡ meet_bytes (answer_to (own_open_in (history setup (meet (Piece c m) own))) (open_done 0 SUCCESS)) (meet (Piece c m) own)
    says_open there so =
        let finds : (c == c && is_present c past && is_ready (decision_on setup (known_now setup c past) m past)) ≡ true =
        ap (λ (b : Bool). b && is_present c past && is_ready (decision_on setup (known_now setup c past) m past)) (self c)
        ∙ ap (λ (b : Bool). b && is_ready (decision_on setup (known_now setup c past) m past)) there
        ∙ ap is_ready so in
        says_it
        ∙ ap (λ (b : Bool). meet_bytes (hears_if (let o : Option (List ℕ) = if b then Some (open_done 0 SUCCESS) else if contains c (waiting setup past) then None else None in o) setup c (Says c m) past (history setup (meet (Piece c m) own))) (meet (Piece c m) own)) finds

  -- ---- with one of the modem ----

  module _ (m : List ℕ) (one : SaysOne setup m m) where
    pub comes_once : items_of (mbim_protocol setup) events (ModemPiece m) ≡ ModemSays m ∷ []
    comes_once = ap (modem_items (mbim_protocol setup) m) streams.said_is ∙ (comes_at_once setup streams.said m m streams.quiet one).items

    pub hears_it : meet_event c events (ModemPiece m) own ≡ meet_bytes (hears setup c (ModemSays m) past (history setup own)) own
    unfolding alone.hear_all
    hears_it =
        ap (λ (items : List Item). alone.meet_if (alone.fails items) (mbim_protocol setup) (mbim_alone setup) ModemGone (alone.hear_all (mbim_protocol setup) (mbim_alone setup) c items past own)) comes_once
