-- An indication goes from connection to connection.
use Rattle.std.proofs.Common.{◌≡◌, ℕ, ◌<◌, Bool, true, false, not, cond, ◌&&◌, ◌||◌, ◌==◌, List, [], ◌∷◌, refl, ap, sym, ◌∙◌, arith, Option, Some, None, if◌then◌else◌}
use Rattle.std.proofs.lemmas.Bool.Decides.{nat_tests}
use Rattle.std.proofs.lemmas.Bool.{eqb-true, eq-eqb}
use Rattle.qmux_frame.specs.Head.{service_of, is_control, cid_of}
use Rattle.connections.specs.Table.{Connection, Table, connection_in, finds_room}
use Rattle.connections.specs.Table as tables
use Rattle.proxy_history.specs.ClientIds.{Grant, holder_in, holds_some}
use Rattle.proxy_state.proofs.Lists.{filter_map_is}
use Rattle.proxy_state.specs.Step.{given_up_unless}
use Rattle.proxy_state.specs.Chosen.{chosen}
use Rattle.proxy_state.proofs.Telling.{tell_is}
use Rattle.proxy_state.proofs.Chosen.{tell_from_first}
use Rattle.holders.specs.Grants.{leaves}
use Rattle.qmi_state.specs.declared.client.Client.{Client}
use Rattle.qmi_state.specs.Core.{ModemSide, QmiState}
use Rattle.qmi_state.specs.Transitions.{give_up, tell, tell_all, opened_ones, holders_of, tells_holder, indicates}
use Rattle.qmi_core.specs.State.{is_chosen, tell_from}

-- the bytes find room
pub stays_told : (c : ℕ) (bytes : List ℕ) (was : QmiState) (table : Table Client) → table ≡ tables.tells c bytes was.table → finds_room bytes (connection_in c was.table.present) ≡ true → record { table = table; beside = was.beside } ≡ tell c bytes was
stays_told c bytes was table told room =
    ap (λ (t : Table Client). let y : QmiState = record { table = t; beside = was.beside } in y) told
    ∙ sym (ap (λ (fits : Bool). let y : QmiState = record { table = tables.tells c bytes was.table; beside = given_up_unless give_up fits c was.beside } in y) room)
    ∙ sym (tell_is give_up (λ client. bytes) c bytes was (λ k at. refl))

-- those that hold an id of the service
holders_chosen : (service : ℕ) (side : ModemSide) (present : List (Connection Client)) → chosen (is_chosen (Some service)) side present ≡ holders_of service side.traffic.held present
holders_chosen service side present = sym (filter_map_is (λ (c : ℕ). holds_some c service side.traffic.held) (λ (k : Connection Client). k.name) present)

-- who gives up its ids takes none from others
still_holds : (c d service : ℕ) (held : List Grant) → (c == d) ≡ false → holds_some d service (leaves c held) ≡ holds_some d service held
still_holds c d service [] other = refl
still_holds c d service (g ∷ held) other =
    let rest = still_holds c d service held other in
    let Still : Bool → Type 0 = λ (b : Bool). holds_some d service (cond (not b) (g ∷ leaves c held) (leaves c held)) ≡ ((g.conn == d && (g.service == service)) || holds_some d service held) in
    let step : (b : Bool) → (c == g.conn) ≡ b → Still b =
    λ b. elim b as (λ b. (c == g.conn) ≡ b → Still b) [
      | true ↦ λ e.
          let same : c ≡ g.conn = eqb-true c g.conn e in
          let differs : (g.conn == d) ≡ false = ap (λ (n : ℕ). n == d) (sym same) ∙ other in
          rest ∙ sym (ap (λ (b : Bool). (b && (g.service == service)) || holds_some d service held) differs)
      | false ↦ λ e. ap (λ (b : Bool). (g.conn == d && (g.service == service)) || b) rest
    ]
    in step (c == g.conn) refl

-- whoever is given up, those behind it are chosen as before
pub still_chosen : (audience : Option ℕ) (c : ℕ) (side : ModemSide) (k : Connection Client) → c < k.name → is_chosen audience (give_up c side) k ≡ is_chosen audience side k
still_chosen None c side k later = refl
still_chosen (Some service) c side k later =
    let other : (c == k.name) ≡ false = grind (arith, nat_tests, later) in
    still_holds c k.name service side.traffic.held other

-- ---- an indication ----

abbrev indicated : List ℕ → QmiState → Bool → Bool → QmiState
indicated m x control all =
    if control then tell_all m (opened_ones x.table.present) x
    else if all then tell_all m (holders_of (service_of m) x.beside.traffic.held x.table.present) x
    else tells_holder (holder_in (service_of m) (cid_of m) x.beside.traffic.held) m x

pub indicated_open : (m : List ℕ) (new old : QmiState) → is_control m ≡ true → new ≡ tell_from None m 0 old → new ≡ indicates m old
indicated_open m new old control is = is ∙ tell_from_first give_up (λ client. m) (λ client. client) (is_chosen None) (still_chosen None) old ∙ sym (ap (λ (b : Bool). indicated m old b (cid_of m == 255)) control)

pub indicated_holders : (m : List ℕ) (service : ℕ) (new old : QmiState) → is_control m ≡ false → cid_of m ≡ 255 → service ≡ service_of m → new ≡ tell_from (Some service) m 0 old → new ≡ indicates m old
indicated_holders m service new old control client same is =
    is ∙ tell_from_first give_up (λ client. m) (λ client. client) (is_chosen (Some service)) (still_chosen (Some service)) old
    ∙ ap (λ (l : List ℕ). tell_all m l old) (holders_chosen service old.beside old.table.present ∙ ap (λ (n : ℕ). holders_of n old.beside.traffic.held old.table.present) same)
    ∙ sym (ap (λ (b : Bool). indicated m old b (cid_of m == 255)) control ∙ ap (indicated m old false) (eq-eqb (cid_of m) 255 client))
