-- A client beside others and the client alone are alike, event by event.
use Rattle.std.proofs.Common.{◌≡◌, ◌≢◌, ℕ, ◌≤◌, Bool, true, false, ◌&&◌, ◌==◌, if◌then◌else◌, List, [], ◌∷◌, refl, sym, ◌∙◌, subst, Some, None}
use Rattle.std.proofs.lemmas.Bool.{eqb-true}
use Rattle.std.proofs.lemmas.List.Elements.{recursion_from_All}
use Rattle.proxy_history.specs.Events.{Event, Joined, Piece, Left, ModemPiece, ModemGone, ModemBack, Now, Took, ModemTook}
use Rattle.proxy_history.specs.Streams.{stream, modem_stream}
use Rattle.proxy_history.specs.Items.{items_of}
use Rattle.proxy_history.specs.Facts.{Fact, EventBegan}
use Rattle.proxy_history.specs.Connections.{present, is_present}
use Rattle.proxy_history.specs.Requests.{in_use, pending}
use Rattle.proxy_history.specs.Modem.{now}
use Rattle.proxy_history.specs.Modem as modem
use Rattle.proxy_history.specs.View.{Entry, view}
use Rattle.proxy_history.specs.Coming.{greatest_name, AreSound}
use Rattle.proxy_history.specs.History as proxy
use Rattle.proxy_history.specs.History.{add_all}
use Rattle.proxy_solo.specs.Law.{tells_of_others}
use Rattle.proxy_solo.specs.Part as alone_part
use Rattle.proxy_solo.specs.Solo as alone
use Rattle.proxy_solo.proofs.Lists.{self}
use Rattle.proxy_solo.proofs.Coming.{solo_names}
use Rattle.proxy_solo.proofs.Histories.{absent}
use Rattle.mbim_proxy.specs.Setup.{Setup}
use Rattle.mbim_proxy.specs.Step.{view_of}
use Rattle.mbim_proxy.specs.ModemStates.{IsAway, IsShut, is_ready, state}
use Rattle.mbim_proxy.specs.Lists.{merged}
use Rattle.mbim_proxy.specs.History.{mbim_protocol, history}
use Rattle.mbim_proxy.proofs.Walk.{Asks, orderly}
use Rattle.mbim_solo.specs.Solo.{restated, mbim_alone, solo}
use Rattle.mbim_solo.specs.Law.{IsRoomy, IsLetAlone}
use Rattle.mbim_solo.proofs.Spoken.{starts_quiet}
use Rattle.mbim_solo.proofs.Relation.{IsQuietThere, Stand, AsksAlone, Stands, Alike}
use Rattle.mbim_solo.proofs.Reading.{reads}
use Rattle.mbim_solo.proofs.Orderly.{histories_are_orderly, new_is_unheard}
use Rattle.mbim_solo.proofs.Standing.{there_alike}
use Rattle.mbim_solo.proofs.Wanting.{busy_none}
use Rattle.mbim_solo.proofs.Short.{mbim_is_short}
use Rattle.mbim_solo.proofs.Fair.{IsLeftAlone, fair_event}
use Rattle.mbim_solo.proofs.Alone.{nobody_else}
use Rattle.mbim_solo.proofs.OwnEvents.{joined_alike, left_alike, took_alike}
use Rattle.mbim_solo.proofs.OwnPieces.{piece_alike}
use Rattle.mbim_solo.proofs.Others.{finish_alike, another_joined, another_sent, another_left, another_took, modem_took}

-- what the modem and the clock do
abbrev pub IsHeard : Event → Type 0
IsHeard (ModemPiece bytes) = Unit {0}
IsHeard ModemGone = Unit {0}
IsHeard ModemBack = Unit {0}
IsHeard (Now time) = Unit {0}
IsHeard _ = ⊥

module _ (s : Setup) (c : ℕ) where
  abbrev pub facts : List Event → Event → List Fact
  facts events event = add_all (mbim_protocol s) (items_of (mbim_protocol s) events event) (EventBegan ∷ history s events)

  -- up to the event's end
  abbrev pub AlikeThen : (events solo : List Event) → Event → Type 0
  AlikeThen events solo event = Alike s c (facts events event) (alone.meet_event (mbim_protocol s) (mbim_alone s) c events event solo) (stream c (event ∷ events))

  -- ---- before the first event ----

  starts_rested : (away : Bool) → (is_ready (if away then IsAway else IsShut) && true) ≡ false
  starts_rested true = refl
  starts_rested false = refl

module _ (s : Setup) (roomy : IsRoomy s) (c : ℕ) (client : c ≢ 0) where
  alike_at_first : Alike s c (history s []) (solo s c []) (stream c [])
  unfolding proxy.history alone_part.part alone.solo stream modem_stream in_use pending now state present view modem.to_modem modem.modem_taken_count
  alike_at_first = record {
    orderly = histories_are_orderly s c client [] tt;
    may = tt;
    rests = record { queue = refl; list = refl; settled = busy_none s (merged s []) [] (starts_rested s c s.starts_away) };
    quiet = elim s.starts_away as (λ b. IsQuietThere s c (if b then None else Some [])) [ true ↦ tt | false ↦ starts_quiet s ];
    same = refl;
    time = refl;
    sent = refl;
    stands = λ still. stood;
  }
    where
      stood : Stands s c [] []
      stood = record {
        states = elim s.starts_away as (λ b. Stand s c false (if b then IsAway else IsShut) (if b then IsAway else IsShut)) [ true ↦ tt | false ↦ tt ];
        asks = elim s.starts_away as (λ b. AsksAlone s c (if b then IsAway else IsShut) [] []) [ true ↦ refl | false ↦ refl ];
      }

  -- ---- one event ----

  module _ (events own : List Event) (A : Alike s c (history s events) own (stream c events)) where
    mine_joined : AreSound (mbim_protocol s) (Joined c ∷ events) → greatest_name own ≤ greatest_name events → present (history s own) ≡ [] → IsLeftAlone s c client (facts s c events (Joined c)) → AlikeThen s c events own (Joined c)
    mine_joined sound names nobody fair =
        subst (λ (b : Bool). Alike s c (facts s c events (Joined c)) (alone.meet_if b (mbim_protocol s) (mbim_alone s) (Joined c) own) (stream c (Joined c ∷ events))) (sym (self c)) (joined_alike s c client roomy events own A sound names nobody fair)

    mine_sent : (bytes : List ℕ) → AreSound (mbim_protocol s) (Piece c bytes ∷ events) → IsLeftAlone s c client (facts s c events (Piece c bytes)) → AlikeThen s c events own (Piece c bytes)
    mine_sent bytes sound fair =
        subst (λ (b : Bool). Alike s c (facts s c events (Piece c bytes)) (if b then alone.meet_own (mbim_protocol s) (mbim_alone s) c events bytes own else own) (stream c (Piece c bytes ∷ events))) (sym (self c))
        (piece_alike s roomy c client bytes events own sound.0 A fair)

    mine_left : AreSound (mbim_protocol s) (Left c ∷ events) → AlikeThen s c events own (Left c)
    mine_left sound = subst (λ (b : Bool). Alike s c (facts s c events (Left c)) (alone.meet_if b (mbim_protocol s) (mbim_alone s) (Left c) own) (stream c (Left c ∷ events))) (sym (self c)) (left_alike s c client roomy events own A sound.1)

    mine_took : (count : ℕ) → AreSound (mbim_protocol s) (Took c count ∷ events) → AlikeThen s c events own (Took c count)
    mine_took count sound =
        subst (λ (b : Bool). Alike s c (facts s c events (Took c count)) (alone.meet_if b (mbim_protocol s) (mbim_alone s) (Took c count) own) (stream c (Took c count ∷ events))) (sym (self c)) (took_alike s c client roomy events own A count sound)

    abbrev Goes : Event → Type 0
    Goes event = AreSound (mbim_protocol s) (event ∷ events) → IsLeftAlone s c client (facts s c events event) → AlikeThen s c events own event

    -- an event of this connection, which is the client or another
    of_one : (named : ℕ → Event) (d : ℕ) → ((d == c) ≡ false → Goes (named d)) → Goes (named c) → Goes (named d)
    of_one named d other mine =
        let step : (b : Bool) → (d == c) ≡ b → Goes (named d) =
        λ b. elim b as (λ b. (d == c) ≡ b → Goes (named d)) [ true ↦ λ e. subst (λ (x : ℕ). Goes (named x)) (sym (eqb-true d c e)) mine | false ↦ λ e. other e ]
        in step (d == c) refl

    -- a client that joins is there in neither history
    gone : AreSound (mbim_protocol s) (Joined c ∷ events) → is_present c (history s own) ≡ false
    gone sound = sym (there_alike s c client (history s events) (history s own) A.same) ∙ absent (mbim_protocol s) (Asks s) (orderly s) restated reads c client (history s events) (new_is_unheard s c client events sound.1 sound.0)

    module _ (names : greatest_name own ≤ greatest_name events) (nobody : is_present c (history s own) ≡ false → present (history s own) ≡ [])
        (heard : (event : Event) → IsHeard event → Goes event) where
      event_alike : (event : Event) → Goes event
      event_alike (Joined d) = of_one (λ x. Joined x) d (λ other sound fair. another_joined s c client events own A d other sound) (λ sound fair. mine_joined sound names (nobody (gone sound)) fair)
      event_alike (Piece d bytes) = of_one (λ x. Piece x bytes) d (λ other sound fair. another_sent s c client events own A d bytes other sound) (λ sound fair. mine_sent bytes sound fair)
      event_alike (Left d) = of_one (λ x. Left x) d (λ other sound fair. another_left s c client events own A d other sound) (λ sound fair. mine_left sound)
      event_alike (Took d count) = of_one (λ x. Took x count) d (λ other sound fair. another_took s c client events own A d count other sound) (λ sound fair. mine_took count sound)
      event_alike (ModemTook count) = λ sound fair. modem_took s c client events own A count sound
      event_alike (ModemPiece bytes) = heard (ModemPiece bytes) tt
      event_alike ModemGone = heard ModemGone tt
      event_alike ModemBack = heard ModemBack tt
      event_alike (Now time) = heard (Now time) tt

  -- ---- all events ----

  module _ (heard : (event : Event) → IsHeard event → (events own : List Event) → Alike s c (history s events) own (stream c events) → AreSound (mbim_protocol s) (event ∷ events) → IsLeftAlone s c client (facts s c events event) → AlikeThen s c events own event) where
    alike_then : (events : List Event) → AreSound (mbim_protocol s) events → IsLeftAlone s c client (history s events) → Alike s c (history s events) (solo s c events) (stream c events)
    unfolding proxy.history alone.solo
    alike_then [] sound fair = alike_at_first
    alike_then (event ∷ events) sound fair =
        let was = fair_event s c client event events sound fair in
        let A : Alike s c (history s events) (solo s c events) (stream c events) = alike_then events sound.1 was.before in
        finish_alike s c client (facts s c events event) (alone.meet_event (mbim_protocol s) (mbim_alone s) c events event (solo s c events)) (stream c (event ∷ events))
        (event_alike events (solo s c events) A (solo_names (mbim_protocol s) (mbim_alone s) (mbim_is_short s) c events)
        (nobody_else (mbim_protocol s) (mbim_alone s) c (Asks s) (orderly s) events)
        (λ e is. heard e is events (solo s c events) A) event sound was.items)

    pub alike : (events : List Event) → IsLetAlone s c events → Alike s c (history s events) (solo s c events) (stream c events)
    alike events L = alike_then events L.sound (recursion_from_All (λ (entry : Entry). tells_of_others entry ≡ false) (view_of c (history s events)) L.undisturbed)
