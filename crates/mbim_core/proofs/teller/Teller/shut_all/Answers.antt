use Rattle.std.proofs.Common.{◌≡◌, ◌<◌, [], List, false, length, refl, ap, sym, ◌∙◌, arith}
use Rattle.connections.specs.Table.{Connection, changed_at, with_client}
use Rattle.proxy_state.specs.Chosen.{StandsAt}
use Rattle.proxy_state.proofs.Places.{connection_at, stands_at}
use Rattle.mbim_proxy.specs.Setup.{mbim_setup}
use Rattle.mbim_state.specs.Core.{Client}
use Rattle.mbim_core.proofs.Shut.{shut_none, shut_end, shut_length, shut_next}
use Rattle.mbim_core.proofs.Subscribed.{followed_by, followed_at, long_at}
use Rattle.mbim_core.proofs.teller.Teller.shut_all.Goals as goal

pub loop-place-init : goal.loop-place-init
loop-place-init c = record { shut = λ s. shut_none s c.args.connections.now; follows = λ is. is; asked = λ is. (is, refl) }

pub client_mut-client-requires : goal.client_mut-client-requires
client_mut-client-requires c =
    let s = mbim_setup [] 0 false in omega (arith, c.loop-place-test.true, c.present-place-end.ensures.count, shut_length s c.args.connections.now c.loop-place.place c.loop-place.connections (c.loop-place.invariant.shut s))

pub follow-requires : goal.follow-requires
follow-requires c =
    let s = mbim_setup [] 0 false in
    let long = long_at (with_client c.shut.new.self) c.loop-place.place c.loop-place.connections.present in
    omega (arith, long, c.loop-place-test.true, c.present-place-end.ensures.count, shut_length s c.args.connections.now c.loop-place.place c.loop-place.connections (c.loop-place.invariant.shut s))

pub loop-place-preserved : goal.loop-place-preserved
loop-place-preserved c =
    let any = mbim_setup [] 0 false in
    let present : List (Connection Client) = c.loop-place.connections.present in
    let later : Client = c.shut.new.self in
    let now : List (Connection Client) = changed_at c.loop-place.place (with_client later) present in
    let within : c.loop-place.place < length present = omega (arith, c.loop-place-test.true, c.present-place-end.ensures.count, shut_length any c.args.connections.now c.loop-place.place c.loop-place.connections (c.loop-place.invariant.shut any)) in
    let long : length now ≡ length present = long_at (with_client later) c.loop-place.place present in
    let k : Connection Client = connection_at later now c.loop-place.place in
    let at : StandsAt k now c.loop-place.place = stands_at later now c.loop-place.place (omega (arith, within, long)) in
    let follows = c.follow.ensures.follows k at in
    record {
      shut = λ s. shut_next s c.args.connections.now c.loop-place.place c.loop-place.connections (c.loop-place.invariant.shut s) within c.client_mut-client.result.now later c.client_mut-client.ensures.client (c.shut.ensures s);
      follows = λ is. follows.subscribed ∙ ap (followed_by k) (c.loop-place.invariant.follows is) ∙ sym (followed_at (with_client later) (λ m. refl) c.loop-place.place present k c.follow.ensures.regular.rising within at);
      asked = λ is. let was = follows.asked is in let first = c.loop-place.invariant.asked was.0 in (first.0, was.1 ∙ first.1);
    }

pub returns : goal.returns
returns c = record {
  shut = λ s. c.loop-place.invariant.shut s ∙ shut_end s c.args.connections.now c.loop-place.place (omega (arith, c.loop-place-test.false, c.present-place-end.ensures.count));
  follows = c.loop-place.invariant.follows;
  asked = c.loop-place.invariant.asked;
}
