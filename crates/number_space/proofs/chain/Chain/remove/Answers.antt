use Rattle.std.proofs.Common.{subst, arith}
use Rattle.slab.specs.Slab.{get, slab_len}
use Rattle.number_space.specs.Chain.{Entries, AreLinksOf}
use Rattle.number_space.proofs.Links.{met_is, met_kept, has_link, value_at, removed_at}
use Rattle.number_space.proofs.chain.Chain.remove.Goals as goal

pub remove-link-requires : goal.remove-link-requires
remove-link-requires g c =
    has_link (get c.self.inside.links) (slab_len c.self.inside.links) c.self.inside.first c.self.inside.last c.args.self.now.entries c.args.key c.requires.place
    (subst (λ (e : Entries g.row.V.Denot). AreLinksOf (get c.self.inside.links) (slab_len c.self.inside.links) c.self.inside.first c.self.inside.last e.entries) c.self.view_is c.self.invariant)
    c.requires.there

pub invariant_of-self : goal.invariant_of-self
invariant_of-self g c =
    met_kept (get c.set_before-self-inside.new.links) (slab_len c.set_before-self-inside.new.links) c.set_after-self-inside.result c.set_before-self-inside.result _
    (removed_at (get c.self.inside.links) (slab_len c.self.inside.links) c.self.inside.first c.self.inside.last c.args.self.now.entries c.args.key c.requires.place
    (subst (λ (e : Entries g.row.V.Denot). AreLinksOf (get c.self.inside.links) (slab_len c.self.inside.links) c.self.inside.first c.self.inside.last e.entries) c.self.view_is c.self.invariant)
    c.requires.there (get c.remove-link.new.self) (get c.set_after-self-inside.new.links) (get c.set_before-self-inside.new.links) (slab_len c.set_before-self-inside.new.links) c.remove-link.result _ _ c.remove-link.ensures.value c.set_after-self-inside.ensures.first c.set_before-self-inside.ensures.last
    (omega (arith, c.set_before-self-inside.ensures.len, c.set_after-self-inside.ensures.len, c.remove-link.ensures.len)) c.remove-link.ensures.updates.others c.set_after-self-inside.ensures.links c.set_before-self-inside.ensures.links)

pub returns-clause-value : goal.returns-clause-value
returns-clause-value g c = λ place d at.
    value_at (get c.self.inside.links) (slab_len c.self.inside.links) c.self.inside.first c.self.inside.last c.args.self.now.entries c.args.key place
    (subst (λ (e : Entries g.row.V.Denot). AreLinksOf (get c.self.inside.links) (slab_len c.self.inside.links) c.self.inside.first c.self.inside.last e.entries) c.self.view_is c.self.invariant)
    at c.remove-link.result d c.remove-link.ensures.value

pub returns-clause-entries : goal.returns-clause-entries
returns-clause-entries g c = λ place at.
    met_is (get c.set_before-self-inside.new.links) (slab_len c.set_before-self-inside.new.links) c.set_after-self-inside.result c.set_before-self-inside.result _
    (removed_at (get c.self.inside.links) (slab_len c.self.inside.links) c.self.inside.first c.self.inside.last c.args.self.now.entries c.args.key place
    (subst (λ (e : Entries g.row.V.Denot). AreLinksOf (get c.self.inside.links) (slab_len c.self.inside.links) c.self.inside.first c.self.inside.last e.entries) c.self.view_is c.self.invariant)
    at (get c.remove-link.new.self) (get c.set_after-self-inside.new.links) (get c.set_before-self-inside.new.links) (slab_len c.set_before-self-inside.new.links) c.remove-link.result _ _ c.remove-link.ensures.value c.set_after-self-inside.ensures.first c.set_before-self-inside.ensures.last
    (omega (arith, c.set_before-self-inside.ensures.len, c.set_after-self-inside.ensures.len, c.remove-link.ensures.len)) c.remove-link.ensures.updates.others c.set_after-self-inside.ensures.links c.set_before-self-inside.ensures.links)
