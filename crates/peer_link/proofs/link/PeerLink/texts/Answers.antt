use Rattle.std.proofs.Common.{◌≡◌, ℕ, ◌+◌, ◌≤◌, List, ◌∷◌, ◌++◌, length, drop, map, ap, sym, ◌∙◌, subst, rules, drop_of_length-le}
use Rattle.std.proofs.lemmas.List.{append-nil}
use Rattle.link_session.specs.Peer.{texts_in}
use Rattle.peer_link.specs.Made.{call_of}
use Rattle.peer_link.specs.declared.link.Made.{Made}
use Rattle.peer_link.proofs.Leading.{next_is, texts_next, told_are}
use Rattle.peer_link.proofs.link.PeerLink.texts.Goals as goal

pub loop-made-preserved : goal.loop-made-preserved
loop-made-preserved g c =
    let made : List Made = c.self.inside.made.items in
    let place : ℕ = c.loop-made.made-index in
    let one : Made = c.made-item.result in
    let texts : List (List ℕ) = c.loop-made.texts.items in
    let same : c.deref-made-items.result.now ≡ made = search rules in
    let next : drop place made ≡ one ∷ drop (place + 1) made =
    subst (λ (l : List Made). drop place l ≡ one ∷ drop (place + 1) l) same (next_is c.deref-made-items.result.now place one c.loop-made-test.true c.made-item.is) in
    ap (λ (l : List (List ℕ)). l ++ texts_in (map call_of (drop (place + 1) made))) c.in_ok-add_text.ensures
    ∙ texts_next texts (call_of one) (map call_of (drop (place + 1) made))
    ∙ ap (λ (l : List Made). texts ++ texts_in (map call_of l)) (sym next)
    ∙ c.loop-made.invariant

pub returns : goal.returns
unfolding texts_in
returns g c = λ calls is.
    let made : List Made = c.self.inside.made.items in
    let place : ℕ = c.loop-made.made-index in
    let texts : List (List ℕ) = c.loop-made.texts.items in
    let all : length made ≤ place = search rules in
    sym (append-nil texts)
    ∙ ap (λ (l : List Made). texts ++ texts_in (map call_of l)) (sym (drop_of_length-le made all))
    ∙ c.loop-made.invariant
    ∙ ap texts_in (told_are c.self.inside.tells (map call_of made) calls (ap (λ v. v.recorded) c.self.view_is ∙ is))
