use Rattle.std.proofs.Common.{◌≡◌, ℕ, ◌<◌, Bool, true, false, List, [], length, refl, ap, sym, ◌∙◌, arith}
use Rattle.connections.specs.Table.{Connection, connection_in, changed_at, finds_room, with_client, with_client_at}
use Rattle.connections.proofs.Named.{none_found}
use Rattle.proxy_history.specs.View.{OpenedWith}
use Rattle.mbim_proxy.specs.Setup.{Setup, mbim_setup}
use Rattle.mbim_state.specs.Core.{Client, MbimState}
use Rattle.mbim_state.specs.Transitions.{give_up, text, after}
use Rattle.proxy_state.specs.Chosen.{StandsAt}
use Rattle.proxy_state.proofs.Places.{connection_at, stands_at}
use Rattle.mbim_core.specs.Hand.{hand_of, left_unless, IsOf}
use Rattle.mbim_core.specs.State.{state_of}
use Rattle.mbim_core.proofs.Texts.{opened_text_is}
use Rattle.mbim_core.proofs.Hands.{told_is, follows_of}
use Rattle.mbim_core.proofs.Subscribed.{followed_at, long_at}
use Rattle.mbim_core.proofs.Tells.{told_nobody}
use Rattle.mbim_core.proofs.Turns.{SeenAt, seen_named, remains, keeps, dropped_here, changed_here}
use Rattle.mbim_core.proofs.teller.Teller.tell_opened.Goals as goal

pub returns-in_default-clause-told : goal.returns-in_default-clause-told
returns-in_default-clause-told c = λ s. told_nobody give_up (text s (OpenedWith c.args.status)) (after s (OpenedWith c.args.status)) c.args.name (state_of c.args.connections.now c.args.side.now) (none_found c.args.name c.args.connections.now.present (sym c.in_default.ensures.place))

pub returns-then-not-put : goal.returns-then-not-put
returns-then-not-put c =
    let was : MbimState = state_of c.args.connections.now c.args.side.now in
    let client : Client = c.client_at.result.now in
    let seen : SeenAt was.table.present c.in-Some.place c.args.name client = seen_named was.table.present c.in-Some.place c.args.name client c.in-Some.ensures.place c.in-Some.ensures.regular.rising c.client_at.ensures in
    let written : (s : Setup) → c.open_done-done.result ≡ text s (OpenedWith c.args.status) client = λ s. c.open_done-done.ensures ∙ opened_text_is s c.args.status c.opening_number-number.result client c.opening_number-number.ensures in
    record {
      told = λ s. dropped_here give_up (text s (OpenedWith c.args.status)) (after s (OpenedWith c.args.status)) c.in-Some.place was c.args.name client seen c.open_done-done.result (written s)
          (state_of c.put.new.connections c.put.new.side) c.put.ensures.told (sym c.if-not-put.true ∙ c.put.ensures.stays);
      agrees = told_is _ _ _ c.requires c.put.ensures.regular.rising c.open_done-done.result c.args.name _ _ c.put.result _ (c.leave.ensures ∙ ap (λ (b : Bool). left_unless b c.args.name (hand_of c.args.self.now)) (sym c.if-not-put.true)) c.put.ensures.told c.put.ensures.stays c.put.ensures.limit c.put.ensures.list;
    }

pub client_mut-client-requires : goal.client_mut-client-requires
client_mut-client-requires c =
    let was : MbimState = state_of c.args.connections.now c.args.side.now in
    let client : Client = c.client_at.result.now in
    let seen : SeenAt was.table.present c.in-Some.place c.args.name client = seen_named was.table.present c.in-Some.place c.args.name client c.in-Some.ensures.place c.in-Some.ensures.regular.rising c.client_at.ensures in
    let s : Setup = mbim_setup [] 0 false in
    remains give_up (text s (OpenedWith c.args.status)) (after s (OpenedWith c.args.status)) c.in-Some.place was c.args.name client seen c.open_done-done.result
    (c.open_done-done.ensures ∙ opened_text_is s c.args.status c.opening_number-number.result client c.opening_number-number.ensures)
    (state_of c.put.new.connections c.put.new.side) c.put.ensures.told (sym c.if-not-put.false ∙ c.put.ensures.stays)

pub follow-requires : goal.follow-requires
follow-requires c =
    let was : MbimState = state_of c.args.connections.now c.args.side.now in
    let client : Client = c.client_at.result.now in
    let seen : SeenAt was.table.present c.in-Some.place c.args.name client = seen_named was.table.present c.in-Some.place c.args.name client c.in-Some.ensures.place c.in-Some.ensures.regular.rising c.client_at.ensures in
    let s : Setup = mbim_setup [] 0 false in
    let within : c.in-Some.place < length c.put.new.connections.present =
    remains give_up (text s (OpenedWith c.args.status)) (after s (OpenedWith c.args.status)) c.in-Some.place was c.args.name client seen c.open_done-done.result
    (c.open_done-done.ensures ∙ opened_text_is s c.args.status c.opening_number-number.result client c.opening_number-number.ensures)
    (state_of c.put.new.connections c.put.new.side) c.put.ensures.told (sym c.if-not-put.false ∙ c.put.ensures.stays)
    in
    let long = long_at (with_client c.end_opening.new.self) c.in-Some.place c.put.new.connections.present in omega (arith, within, long)

pub returns : goal.returns
returns c =
    let was : MbimState = state_of c.args.connections.now c.args.side.now in
    let place : ℕ = c.in-Some.place in
    let client : Client = c.client_at.result.now in
    let done : List ℕ = c.open_done-done.result in
    let seen : SeenAt was.table.present place c.args.name client = seen_named was.table.present place c.args.name client c.in-Some.ensures.place c.in-Some.ensures.regular.rising c.client_at.ensures in
    let written : (s : Setup) → done ≡ text s (OpenedWith c.args.status) client = λ s. c.open_done-done.ensures ∙ opened_text_is s c.args.status c.opening_number-number.result client c.opening_number-number.ensures in
    let sent : MbimState = state_of c.put.new.connections c.put.new.side in
    let fits : true ≡ finds_room done (connection_in c.args.name was.table.present) = sym c.if-not-put.false ∙ c.put.ensures.stays in
    let kept : (s : Setup) → c.client_mut-client.result.now ≡ client = λ s.
    keeps give_up (text s (OpenedWith c.args.status)) (after s (OpenedWith c.args.status)) place was c.args.name client seen done (written s) sent c.put.ensures.told fits c.client_mut-client.result.now c.client_mut-client.ensures.client
    in
    let still : IsOf c.put.new.connections c.put.new.side (hand_of c.args.self.now) = told_is _ _ _ c.requires c.put.ensures.regular.rising done c.args.name _ _ c.put.result _ (ap (λ (b : Bool). left_unless b c.args.name (hand_of c.args.self.now)) (sym c.if-not-put.false)) c.put.ensures.told c.put.ensures.stays c.put.ensures.limit c.put.ensures.list in
    let later : Client = c.end_opening.new.self in
    let now : List (Connection Client) = changed_at place (with_client later) c.put.new.connections.present in
    let k : Connection Client = connection_at later now place in
    let any : Setup = mbim_setup [] 0 false in
    let within : place < length c.put.new.connections.present =
    remains give_up (text any (OpenedWith c.args.status)) (after any (OpenedWith c.args.status)) place was c.args.name client seen done (written any) sent c.put.ensures.told fits in
    let long : length now ≡ length c.put.new.connections.present = long_at (with_client later) place c.put.new.connections.present in
    let at : StandsAt k now place = stands_at later now place (omega (arith, within, long)) in
    record {
      told = λ s.
          changed_here give_up (text s (OpenedWith c.args.status)) (after s (OpenedWith c.args.status)) place was c.args.name client seen done (written s)
          sent (state_of (with_client_at place later c.put.new.connections) c.put.new.side) c.put.ensures.told fits later (c.end_opening.ensures s ∙ ap (after s (OpenedWith c.args.status)) (kept s)) refl;
      agrees = follows_of _ _ _ still k _ _ _ (c.follow.ensures.follows k at) refl refl (followed_at (with_client later) (λ m. refl) place c.put.new.connections.present k c.follow.ensures.regular.rising within at);
    }
