use Rattle.std.proofs.Common.{◌≡◌, ℕ, ◌+◌, ◌≤◌, List, [], ◌∷◌, ◌++◌, length, take, drop, slice_range, map, ap, ◌∙◌, sym, subst, arith, rules}
use Rattle.std.proofs.lemmas.List.{take_at}
use Rattle.link_io.specs.Calls.{Call}
use Rattle.link_io.specs.Calls as calls
use Rattle.peer_link.specs.Linked.{IsAtPeer}
use Rattle.peer_link.specs.Made.{call_of}
use Rattle.peer_link.specs.declared.link.Made.{Made}
use Rattle.peer_link.specs.declared.link.Made.TheVariants.{Took, WasQuiet}
use Rattle.peer_link.proofs.Leading.{kept_are, quiet_goes, took_goes, told_as}
use Rattle.peer_link.proofs.link.PeerLink.bring.Goals as goal

pub invariant_of-self-then-count-eq0 : goal.invariant_of-self-then-count-eq0
invariant_of-self-then-count-eq0 g c =
    let At : List Call → Type 0 = λ made. IsAtPeer g.A.Answerer.peer g.A.Answerer.has_met c.self.inside.answerer made c.self.inside.said.items c.self.inside.taken in
    let are = kept_are c.self.inside.made.items WasQuiet c.push.new.self.items c.in_ok-push.ensures.items in
    (c.self.invariant.0, λ tells. subst At (sym are) (quiet_goes (c.self.invariant.1 tells)))

pub invariant_of-self-2 : goal.invariant_of-self-2
invariant_of-self-2 g c =
    let start : ℕ = c.self.inside.taken in
    let end : ℕ = start + c.min-count.result in
    let said : List ℕ = c.self.inside.said.items in
    let before : List Call = map call_of c.self.inside.made.items in
    let At : List Call → Type 0 = λ calls. IsAtPeer g.A.Answerer.peer g.A.Answerer.has_met c.self.inside.answerer calls said end in
    let piece : c.in_ok-piece.piece ≡ slice_range said start end = c.in_ok-piece.ensures ∙ ap (λ (l : List ℕ). slice_range l start end) c.deref.ensures.value in
    let are = kept_are c.self.inside.made.items (Took c.in_ok-piece.piece) c.push-2.new.self.items c.in_ok-push-2.ensures.items in
    let order : start ≤ end = omega arith in (
      search rules,
      λ tells.
          subst At (sym are)
          (subst (λ (p : List ℕ). At (before ++ calls.Took p ∷ [])) (sym piece) (took_goes (c.self.invariant.1 tells) end order)),
    )

pub returns-clause-recorded : goal.returns-clause-recorded
returns-clause-recorded g c =
    let count : ℕ = c.min-count.result in
    let piece : List ℕ = c.in_ok-piece.piece in
    let copy : List ℕ = c.copy_from_slice.new.self in
    let made : List Made = c.self.inside.made.items in
    let copied : copy ≡ piece = c.copy_from_slice.ensures.after ∙ sym c.in_ok-piece.ensures in
    let long : length copy ≡ count = search rules in
    let behind : List ℕ = drop count c.args.buffer.now in
    let front : piece ≡ take count (copy ++ behind) = sym copied ∙ sym (take_at copy behind count long) in
    let are = kept_are made (Took piece) c.push-2.new.self.items c.in_ok-push-2.ensures.items in
    told_as c.self.inside.tells (map call_of made) (map call_of c.push-2.new.self.items) (calls.Took piece) (calls.Took (take count (copy ++ behind))) (ap (λ v. v.recorded) c.self.view_is) (ap (λ (p : List ℕ). calls.Took p) front) are
