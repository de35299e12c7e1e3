-- The proxy of an orderly protocol keeps the rules by which it can be served. Lists of events and of facts have the newest first.
use Rattle.std.proofs.Common.{◌≡◌, ℕ, zero, suc, ◌+◌, ◌<◌, ◌≤◌, Bool, true, false, not, if◌then◌else◌, List, [], ◌∷◌, ◌++◌, length, drop, refl, ap, sym, ◌∙◌, arith, drop-drop, Option, Some, None}
use Rattle.std.proofs.lemmas.List.{length-drop}
use Rattle.proxy_history.specs.Events.{Event, Joined, Piece, Left, ModemPiece, ModemGone, ModemBack, Now, Took, ModemTook, joins_or_takes}
use Rattle.proxy_history.specs.Items.{items_of, returns_once}
use Rattle.proxy_history.specs.Streams.{modem_stream}
use Rattle.proxy_history.specs.Facts.{Fact, Request, EventBegan, Ended, Leaving, Taken, Forwarded, ListSent, ModemTaken}
use Rattle.proxy_history.specs.Connections.{present, dropped, without, is_present}
use Rattle.proxy_history.specs.Modem.{is_away, to_modem, modem_taken_count}
use Rattle.proxy_history.specs.View.{Entry, view}
use Rattle.proxy_history.specs.Rendering.{Rendering, render}
use Rattle.proxy_history.specs.Wording.{text_behind}
use Rattle.proxy_history.specs.Protocol.{Protocol}
use Rattle.proxy_history.specs.History.{history, add_all, text_for, modem_queue}
use Rattle.proxy_history.specs.Adding.{MayFinish, IsOrderly}
use Rattle.proxy_history.specs.Proxy.{IsLawful, LeavesBytesOf, IsTakenByModem}
use Rattle.proxy_history.specs.Lawful.{AsksUpTo, backlog, proxy_of}
use Rattle.proxy_history.proofs.Touching.{takes_from_queue, QueueGrows, queue_same, queue_grows}
use Rattle.proxy_history.proofs.Walk.{sound_items, begun_is_sound, kept_at_end}
use Rattle.proxy_history.proofs.Folds.{at_end, others_change_nothing, bytes_grow, joining_starts_with_none, taking_takes_the_first, away_agrees}

-- what a fact leaves as it was is left whether the fact is added or not
left_either : {X : Type 0} (read : List Fact → X) (b : Bool) (fact : Fact) (past : List Fact) → read (fact ∷ past) ≡ read past → read (if b then fact ∷ past else past) ≡ read past
left_either read true fact past is = is
left_either read false fact past is = refl

-- the first so many of some bytes, where more stand behind them
drop_front : (count : ℕ) (bytes more : List ℕ) → (rest : List ℕ) × (drop count (bytes ++ more) ≡ drop count bytes ++ rest)
drop_front zero bytes more = (more, refl)
drop_front (suc count) [] more = (drop (suc count) more, refl)
drop_front (suc count) (byte ∷ bytes) more = drop_front count bytes more

-- ---- what the proxy's own requests at the end of an event leave as it was ----

Leaves : {X : Type 0} → (List Fact → X) → Type 0
Leaves read = (fact : Fact) (past : List Fact) → MayFinish fact past → read (fact ∷ past) ≡ read past

leaves_present : Leaves present
unfolding Leaves present
leaves_present (Forwarded r) past may = refl
leaves_present (ListSent list) past may = refl
leaves_present _ past may = absurd may

leaves_dropped : Leaves dropped
unfolding Leaves dropped
leaves_dropped (Forwarded r) past may = refl
leaves_dropped (ListSent list) past may = refl
leaves_dropped _ past may = absurd may

module _ {Known : Type 0} (p : Protocol Known) (Asks : Request → List Fact → Type 0) (O : IsOrderly p Asks) where
  before_end : {X : Type 0} (read : List Fact → X) → Leaves read → (event : Event) (past : List Event) → read (history p (event ∷ past)) ≡ read (add_all p (items_of p past event) (EventBegan ∷ history p past))
  unfolding Leaves history
  before_end read leaves event past =
      let after : List Fact = add_all p (items_of p past event) (EventBegan ∷ history p past) in
      kept_at_end p Asks O (λ facts. read facts ≡ read after) (λ fact before follows may asked is. leaves fact before may ∙ is) after
      (sound_items p Asks O (items_of p past event) (EventBegan ∷ history p past) (begun_is_sound p Asks O past)) refl

  leaves_view : (c : ℕ) → Leaves (view p.wording.blank c)
  unfolding Leaves view
  leaves_view c (Forwarded r) past may = refl
  leaves_view c (ListSent list) past may = refl
  leaves_view c _ past may = absurd may

  -- ---- before any event ----

  nobody : present (history p []) ≡ []
  unfolding history present
  nobody = refl

  none_dropped : dropped (history p []) ≡ []
  unfolding history dropped
  none_dropped = refl

  no_bytes : (c : ℕ) → (text_for p c []).bytes ≡ (text_for p c []).waiting
  unfolding history view render
  no_bytes c = refl

  no_modem_bytes : modem_queue p [] ≡ []
  unfolding history to_modem modem_taken_count
  no_modem_bytes = refl

  -- ---- who is there ----

  took_present : (c count : ℕ) (past : List Event) → present (history p (Took c count ∷ past)) ≡ present (history p past)
  unfolding add_all present
  took_present c count past =
      let facts : List Fact = EventBegan ∷ history p past in
      before_end present leaves_present (Took c count) past ∙ left_either present (is_present c facts) (Taken c count) facts refl

  left_present : (c : ℕ) (past : List Event) → is_present c (history p past) ≡ true → present (history p (Left c ∷ past)) ≡ without c (present (history p past))
  unfolding add_all present
  left_present c past there =
      let facts : List Fact = EventBegan ∷ history p past in
      before_end present leaves_present (Left c) past ∙ ap (λ (b : Bool). present (if b then Ended c Leaving ∷ facts else facts)) there

  modem_took_present : (count : ℕ) (past : List Event) → present (history p (ModemTook count ∷ past)) ≡ present (history p past)
  unfolding add_all present
  modem_took_present count past = before_end present leaves_present (ModemTook count) past

  -- ---- who is to be hung up ----

  took_dropped : (c count : ℕ) (past : List Event) → dropped (history p (Took c count ∷ past)) ≡ []
  unfolding add_all dropped
  took_dropped c count past =
      let facts : List Fact = EventBegan ∷ history p past in
      before_end dropped leaves_dropped (Took c count) past ∙ left_either dropped (is_present c facts) (Taken c count) facts refl

  left_dropped : (c : ℕ) (past : List Event) → dropped (history p (Left c ∷ past)) ≡ []
  unfolding add_all dropped
  left_dropped c past =
      let facts : List Fact = EventBegan ∷ history p past in
      before_end dropped leaves_dropped (Left c) past ∙ left_either dropped (is_present c facts) (Ended c Leaving) facts refl

  modem_took_dropped : (count : ℕ) (past : List Event) → dropped (history p (ModemTook count ∷ past)) ≡ []
  unfolding add_all dropped
  modem_took_dropped count past = before_end dropped leaves_dropped (ModemTook count) past

  back_dropped : (past : List Event) → dropped (history p (ModemBack ∷ past)) ≡ []
  unfolding add_all dropped
  back_dropped past = before_end dropped leaves_dropped ModemBack past ∙ returned (modem_stream p.size p.starts_away past)
    where
      returned : (o : Option (List ℕ)) → dropped (add_all p (returns_once o) (EventBegan ∷ history p past)) ≡ []
      returned None = refl
      returned (Some bytes) = refl

  -- ---- the bytes for a client ----

  stays : (c : ℕ) (event : Event) → LeavesBytesOf c event → joins_or_takes c event ≡ false
  stays c (Joined d) other = other
  stays c (Piece d bytes) other = refl
  stays c (Left d) other = refl
  stays c (ModemPiece bytes) other = refl
  stays c ModemGone other = refl
  stays c ModemBack other = refl
  stays c (Now time) other = refl
  stays c (Took d count) other = other
  stays c (ModemTook count) other = refl

  modem_took_other : (count d : ℕ) (past : List Event) → (text_for p d (ModemTook count ∷ past)).waiting ≡ (text_for p d past).waiting
  unfolding add_all view
  modem_took_other count d past = ap (λ (entries : List Entry). (render p.limits.outbox (text_behind p.wording) entries).waiting) (before_end (view p.wording.blank d) (leaves_view d) (ModemTook count) past)

  -- ---- the modem ----

  took_away : (c count : ℕ) (past : List Event) → is_away p.starts_away (history p (Took c count ∷ past)) ≡ is_away p.starts_away (history p past)
  unfolding modem_stream
  took_away c count past = away_agrees p Asks O (Took c count ∷ past) ∙ sym (away_agrees p Asks O past)

  left_away : (c : ℕ) (past : List Event) → is_away p.starts_away (history p (Left c ∷ past)) ≡ is_away p.starts_away (history p past)
  unfolding modem_stream
  left_away c past = away_agrees p Asks O (Left c ∷ past) ∙ sym (away_agrees p Asks O past)

  gone_away : (past : List Event) → is_away p.starts_away (history p (ModemGone ∷ past)) ≡ true
  unfolding modem_stream
  gone_away past = away_agrees p Asks O (ModemGone ∷ past)

  modem_grows : (count : ℕ) (past : List Event) → QueueGrows p.wire (ModemTaken count ∷ EventBegan ∷ history p past) (history p (ModemTook count ∷ past))
  unfolding history add_all
  modem_grows count past =
      let after : List Fact = ModemTaken count ∷ EventBegan ∷ history p past in
      kept_at_end p Asks O (QueueGrows p.wire after)
      (λ fact before follows may asked. queue_grows p.wire after fact before (at_end (λ f. takes_from_queue f ≡ false) (λ r. refl) (λ list. refl) fact before may)) after
      (sound_items p Asks O (items_of p past (ModemTook count)) (EventBegan ∷ history p past) (begun_is_sound p Asks O past)) (queue_same p.wire after)

  modem_taken : (own : List Fact → ℕ) (count : ℕ) (past : List Event) → IsTakenByModem (proxy_of p own) count past
  unfolding to_modem modem_taken_count
  modem_taken own count past =
      let g = modem_grows count past in
      let all : List ℕ = to_modem p.wire (history p past) in
      let taken : ℕ = modem_taken_count (history p past) in
      let rest = drop_front (taken + count) all g.more in
      record {
        more = rest.0;
        waiting =
            ap (λ (n : ℕ). drop n (to_modem p.wire (history p (ModemTook count ∷ past)))) g.taken
            ∙ ap (drop (taken + count)) g.bytes
            ∙ rest.1
            ∙ ap (λ (l : List ℕ). l ++ rest.0) (sym (drop-drop count taken all));
      }

  backlog_lessens : (own : List Fact → ℕ) → AsksUpTo p own → (count : ℕ) (past : List Event) → 0 < count → count ≤ length (modem_queue p past)
      → backlog p own (history p (ModemTook count ∷ past)) < backlog p own (history p past)
  unfolding history add_all to_modem modem_taken_count
  backlog_lessens own upto count past some within =
      let facts : List Fact = EventBegan ∷ history p past in
      let asked = upto.asked (ModemTaken count ∷ facts) (sound_items p Asks O (items_of p past (ModemTook count)) facts (begun_is_sound p Asks O past)) in
      let same : own (ModemTaken count ∷ facts) ≡ own (history p past) = upto.taken count facts ∙ upto.begun (history p past) in
      let all : List ℕ = to_modem p.wire (history p past) in
      let taken : ℕ = modem_taken_count (history p past) in
      omega (arith, asked, same, length-drop taken all, length-drop (taken + count) all)

  -- ---- the rules ----

  pub proxy_is_lawful : (own : List Fact → ℕ) → AsksUpTo p own → IsLawful (proxy_of p own)
  proxy_is_lawful own upto = record {
    nobody = nobody;
    none_dropped = none_dropped;
    no_bytes = no_bytes;
    no_modem_bytes = no_modem_bytes;
    joined = λ c past. let none = joining_starts_with_none p Asks O c past in ap (λ (r : Rendering). r.bytes) none ∙ sym (ap (λ (r : Rendering). r.waiting) none);
    grown = λ c event past other. let grows = bytes_grow p Asks O c event past (stays c event other) in record { more = grows.more; text = grows.bytes; waiting = grows.waiting };
    taken_text = λ c count past there. ap (λ (r : Rendering). r.bytes) (taking_takes_the_first p Asks O c count past there);
    taken_waiting = λ c count past there. ap (λ (r : Rendering). r.waiting) (taking_takes_the_first p Asks O c count past there);
    took_other = λ c count d past other. ap (λ (r : Rendering). r.waiting) (others_change_nothing p Asks O d (Took c count) past (ap not other));
    left_other = λ c d past other. ap (λ (r : Rendering). r.waiting) (others_change_nothing p Asks O d (Left c) past (ap not other));
    modem_took_other = modem_took_other;
    took_present = took_present;
    modem_took_present = modem_took_present;
    left_present = left_present;
    took_away = took_away;
    left_away = left_away;
    gone_away = λ past waits. gone_away past;
    modem_taken = modem_taken own;
    backlog_lessens = backlog_lessens own upto;
    took_dropped = took_dropped;
    left_dropped = left_dropped;
    modem_took_dropped = modem_took_dropped;
    back_dropped = back_dropped;
  }
