use Rattle.std.proofs.Common.{◌≡◌, ◌≤◌, true, List, ℕ, [], ◌∷◌, ◌++◌, length, map, ap, ◌∙◌, sym, subst, rules}
use Rattle.link_io.specs.Calls.{Call, Sent}
use Rattle.peer_link.specs.declared.link.Made.{Made}
use Rattle.peer_link.specs.declared.link.Made.TheVariants as kept
use Rattle.peer_link.specs.Linked.{IsAtPeer}
use Rattle.peer_link.specs.Made.{call_of}
use Rattle.peer_link.proofs.Leading.{kept_are, sent_goes}
use Rattle.peer_link.proofs.link.PeerLink.ask.Goals as goal

pub invariant_of-self-2 : goal.invariant_of-self-2
invariant_of-self-2 g c =
    let At : List Call → List ℕ → Type 0 = λ calls bytes. IsAtPeer g.A.Answerer.peer g.A.Answerer.has_met c.answer.new.self calls bytes c.self.inside.taken in
    let made : List Made = c.self.inside.made.items in
    let said : List ℕ = c.self.inside.said.items in
    let within : c.self.inside.taken ≤ length said = search rules in
    let calls_are : map call_of c.push.new.self.items ≡ map call_of made ++ Sent c.args.text.now true ∷ [] =
    kept_are made (kept.Sent c.in_ok-text.text) c.push.new.self.items c.in_ok-push.ensures.items ∙ ap (λ (t : List ℕ). map call_of made ++ Sent t true ∷ []) c.in_ok-text.ensures in
    let reply : List ℕ = c.in_ok-reply.reply in
    let more : c.extend_from_slice.new.self.items ≡ said ++ c.as_slice.result.now = c.in_ok-extend_from_slice.ensures.items in
    let lent : c.as_slice.result.now ≡ reply = c.as_slice.ensures in
    let bytes_are : c.extend_from_slice.new.self.items ≡ said ++ reply = more ∙ ap (λ (l : List ℕ). said ++ l) lent in
    let same = g.met.A.Answerer.naming c.answer.new.self c.self.inside.answerer [] [] (c.in_ok-reply.ensures.named []) in (
      search rules,
      λ tells.
          subst (λ (calls : List Call). At calls c.extend_from_slice.new.self.items) (sym calls_are)
          (subst (At (map call_of made ++ Sent c.args.text.now true ∷ [])) (sym bytes_are)
          (sent_goes c.args.text.now (c.self.invariant.1 tells) within c.in_ok-reply.ensures.says c.in_ok-reply.ensures.met same.0)),
    )
