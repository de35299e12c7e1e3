-- A client gets the bytes of a reply, and what is kept of it changes, or it is dropped where they find no room.
use Rattle.std.proofs.Common.{◌≡◌, ℕ, Bool, true, false, not, ◌==◌, List, [], ◌∷◌, ◌++◌, refl, ap, sym, ◌∙◌, subst, if◌then◌else◌}
use Rattle.outbox.specs.Queue.{Queue, queues_if, has_room}
use Rattle.connections.specs.Hearing.{Hearing}
use Rattle.proxy_history.specs.Facts.{Fact, Ended, NoRoom}
use Rattle.proxy_history.specs.Connections.{present, dropped, contains, without}
use Rattle.proxy_history.specs.Noting.{rendering, end_if_overfull}
use Rattle.proxy_history.specs.Protocol.{Protocol}
use Rattle.proxy_state.specs.State.{State, Handlers}
use Rattle.proxy_state.specs.Stands.{Kept, ClientState, client_state_of, connection_as, connection_of, Streams}
use Rattle.proxy_state.specs.Faithful.{Keeps, FollowsConnections, settled_if}
use Rattle.proxy_state.proofs.ClientStates.{lacks_room, put_to, ended_other, overfull_waiting}
use Rattle.proxy_state.proofs.Keeping.{keeps_changed, keeps_dropped}
use Rattle.proxy_state.proofs.Telling.{lacks_is, still_waits, end_if_is}

module _ {Known T S : Type 0} (p : Protocol Known) (k : Kept Known T S) (h : Handlers T S) (Fine : List Fact → Type 0) (F : FollowsConnections p k h Fine) (streams : Streams) where
  -- `client` is what is kept of it by whether the bytes find room
  module _ (later past : List Fact) (x : State T S) (c : ℕ) (bytes : List ℕ) (client : Bool → T) (beside : S)
      (own : client_state_of p k later c ≡ record (put_to p.limits.outbox bytes (client_state_of p k past c)) { client = client true })
      (other : (d : ℕ) → (c == d) ≡ false → client_state_of p k later d ≡ client_state_of p k past d)
      (same_present : present later ≡ present past) (same_dropped : dropped later ≡ dropped past) (is : beside ≡ k.beside streams.messages later) (fine : Fine later)
      (there : contains c (present past) ≡ true) (K : Keeps p k Fine streams past x) where
    abbrev was : ClientState T
    was = client_state_of p k past c

    abbrev outbox : Queue
    outbox = record { bytes = was.waiting; capacity = p.limits.outbox }

    abbrev heard_as : Bool → Hearing T S
    heard_as found = record { client = client found; outbox = queues_if found bytes outbox; beside = beside; has_room = found }

    lacks : lacks_room p.limits.outbox bytes was ≡ not (has_room bytes outbox)
    lacks = lacks_is p.limits.outbox bytes (streams.rests c) c was (K.fits c there)

    there_later : contains c (present later) ≡ true
    there_later = ap (contains c) same_present ∙ there

    replied_if : (found : Bool) → has_room bytes outbox ≡ found → Keeps p k Fine streams (if not found then Ended c NoRoom ∷ later else later) (settled_if h found c (heard_as found) x)
    unfolding present dropped connection_of
    replied_if true found =
        let fits : lacks_room p.limits.outbox bytes was ≡ false = lacks ∙ ap not found in
        keeps_changed p k Fine streams later past x c (λ l. record l { client = (heard_as true).client; outbox = (heard_as true).outbox }) beside
        (ap (connection_as p.limits.outbox (streams.rests c) c) own
        ∙ ap (λ (b : Bool). connection_as p.limits.outbox (streams.rests c) c (let a : ClientState T = record { client = client true; waiting = if b then was.waiting else was.waiting ++ bytes; is_over = b } in a)) fits)
        (ap (λ (a : ClientState T). a.is_over) own ∙ fits) other same_present same_dropped is fine there K
    replied_if false full =
        let over : lacks_room p.limits.outbox bytes was ≡ true = lacks ∙ ap not full in
        keeps_dropped p k Fine streams (Ended c NoRoom ∷ later) past x c (h.give_up c beside)
        (λ d differs. ended_other p k later c NoRoom d differs ∙ other d differs)
        (ap (without c) same_present) (ap (h.give_up c) is ∙ F.ended c NoRoom streams.messages later) (F.fine_more (Ended c NoRoom) later there_later tt fine) there K
        outbox
        (sym (overfull_waiting p k later c ∙ ap (λ (a : ClientState T). a.waiting) own ∙ still_waits p.limits.outbox bytes (streams.rests c) c was (K.fits c there) over))
        (ap (λ (l : List ℕ). l ++ c ∷ []) same_dropped)

    pub keeps_replied : Keeps p k Fine streams (end_if_overfull p.limits p.wording c later) (settled_if h (has_room bytes outbox) c (heard_as (has_room bytes outbox)) x)
    keeps_replied =
        let found : Bool = has_room bytes outbox in
        let over : (rendering p.limits p.wording c later).is_over ≡ not found = ap (λ (a : ClientState T). a.is_over) own ∙ lacks in
        subst (λ (l : List Fact). Keeps p k Fine streams l (settled_if h found c (heard_as found) x)) (sym (end_if_is p c later (not found) there_later over)) (replied_if found refl)
