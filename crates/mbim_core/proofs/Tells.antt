-- One client is told, from what the code sees of its connection.
use Rattle.std.proofs.Common.{◌≡◌, ℕ, ◌<◌, Bool, true, false, List, ◌++◌, length, refl, ap, sym, ◌∙◌, Option, Some, None}
use Rattle.outbox.specs.Queue.{has_room}
use Rattle.connections.specs.Table.{Connection, AreRising, connection_in, changed, changed_at, with_client, finds_room}
use Rattle.proxy_state.specs.State.{State}
use Rattle.proxy_state.specs.Telling.{tell, tell_if, tell_to}
use Rattle.proxy_state.specs.Telling as telling
use Rattle.proxy_state.specs.Chosen.{StandsAt}
use Rattle.proxy_state.proofs.Changed.{changed_found}
use Rattle.proxy_state.proofs.Places.{found, changed_again}
use Rattle.proxy_state.proofs.Telling.{tell_is}

-- whether bytes find room is known of its outbox
pub room_of : {T S : Type 0} (bytes : List ℕ) (c : ℕ) (x : State T S) (k : Connection T) → connection_in c x.table.present ≡ Some k → (fits : Bool) → fits ≡ finds_room bytes (connection_in c x.table.present) → has_room bytes k.outbox ≡ fits
room_of bytes c x k known fits is = sym (is ∙ ap (finds_room bytes) known)

-- it gets the bytes, which are what it is to get, or is dropped: what is kept of it stays the same
pub told_same : {T S : Type 0} (give_up : ℕ → S → S) (text : T → List ℕ) (c : ℕ) (x : State T S) (k : Connection T) → connection_in c x.table.present ≡ Some k → (bytes : List ℕ) → bytes ≡ text k.client
    → tell give_up (λ _. bytes) (λ client. client) c x ≡ tell give_up text (λ client. client) c x
told_same {T} give_up text c x k known bytes written =
    tell_is give_up (λ _. bytes) c bytes x (λ l at. refl) ∙ sym (tell_is give_up text c bytes x (λ l at. ap (λ (m : Connection T). text m.client) (let is : l ≡ k = (let both : Some l ≡ Some k = sym at ∙ known in cc) in is) ∙ sym written))

module _ {T S : Type 0} (give_up : ℕ → S → S) (text : T → List ℕ) (change : T → T) (c : ℕ) (x : State T S) where
  -- nobody has the name
  pub told_nobody : connection_in c x.table.present ≡ None → x ≡ tell give_up text change c x
  told_nobody none = sym (ap (λ (o : Option (Connection T)). tell_to give_up text change o c x) none)

  module _ (k : Connection T) (known : connection_in c x.table.present ≡ Some k) (bytes : List ℕ) (written : bytes ≡ text k.client) where
    -- it gets the bytes, which are what it is to get, or is dropped
    abbrev put : State T S
    put = tell give_up (λ _. bytes) (λ client. client) c x

    told_if : (fits : Bool) → has_room bytes k.outbox ≡ fits → tell give_up text change c x ≡ tell_if give_up text change fits c k x
    told_if fits is =
        ap (λ (o : Option (Connection T)). tell_to give_up text change o c x) known
        ∙ ap (λ (b : Bool). tell_if give_up text change b c k x) (ap (λ (l : List ℕ). has_room l k.outbox) (sym written) ∙ is)

    pub put_if : (fits : Bool) → has_room bytes k.outbox ≡ fits → put ≡ tell_if give_up (λ _. bytes) (λ client. client) fits c k x
    put_if fits is =
        ap (λ (o : Option (Connection T)). tell_to give_up (λ _. bytes) (λ client. client) o c x) known ∙ ap (λ (b : Bool). tell_if give_up (λ _. bytes) (λ client. client) b c k x) is

    -- it is dropped
    pub told_full : has_room bytes k.outbox ≡ false → put ≡ tell give_up text change c x
    told_full full = put_if false full ∙ sym (told_if false full)

  -- it stands at a place, and is changed there once it got the bytes
  module _ (i : ℕ) (k : Connection T) (rising : AreRising x.table.present) (inside : i < length x.table.present) (at : StandsAt k x.table.present i) (named : c ≡ k.name) (bytes : List ℕ) (written : bytes ≡ text k.client) (fits : true ≡ finds_room bytes (connection_in c x.table.present)) where
    found_here : connection_in c x.table.present ≡ Some k
    found_here = ap (λ (n : ℕ). connection_in n x.table.present) named ∙ found k x.table.present i rising inside at

    room_here : has_room bytes k.outbox ≡ true
    room_here = room_of bytes c x k found_here true fits

    abbrev given : Connection T → Connection T
    given l = telling.told give_up (λ _. bytes) (λ client. client) l

    abbrev there : List (Connection T) → State T S
    there present = record x { table = record x.table { present = present } }

    abbrev with_later : T → State T S → State T S
    with_later client y = record y { table = record y.table { present = changed_at i (with_client client) y.table.present } }

    pub told_changed : (sent : State T S) → sent ≡ tell give_up (λ _. bytes) (λ client. client) c x → (client : T) → client ≡ change k.client → with_later client sent ≡ tell give_up text change c x
    told_changed sent made client is =
        ap (with_later client) (made ∙ put_if k found_here bytes written true room_here)
        ∙ ap (λ (n : ℕ). there (changed_at i (with_client client) (changed n given x.table.present))) named
        ∙ ap there (changed_again k given (with_client client) x.table.present i rising inside at)
        ∙ ap (λ (n : ℕ). there (changed n (λ l. with_client client (given l)) x.table.present)) (sym named)
        ∙ ap there (changed_found c (λ l. with_client client (given l)) (telling.told give_up text change) x.table.present k found_here
        (ap (λ (l : List ℕ). let after : Connection T = record k { client = client; outbox = record k.outbox { bytes = k.outbox.bytes ++ l } } in after) written
        ∙ ap (λ (n : T). let after : Connection T = record k { client = n; outbox = record k.outbox { bytes = k.outbox.bytes ++ text k.client } } in after) is))
        ∙ sym (told_if k found_here bytes written true room_here)
