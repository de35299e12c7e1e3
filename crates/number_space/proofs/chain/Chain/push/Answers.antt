use Rattle.std.proofs.Common.{◌∙◌, subst}
use Rattle.slab.specs.Slab.{get, slab_len}
use Rattle.number_space.specs.Chain.{Entries, AreLinksOf}
use Rattle.number_space.proofs.Links.{met_is, met_kept, pushed}
use Rattle.number_space.proofs.chain.Chain.push.Goals as goal

pub invariant_of-self : goal.invariant_of-self
invariant_of-self g c =
    met_kept (get c.set_after-self-inside.new.links) (slab_len c.set_after-self-inside.new.links) _ _ _
    (pushed (get c.self.inside.links) (get c.insert_reserved-key.new.self) (get c.set_after-self-inside.new.links) (slab_len c.self.inside.links) (slab_len c.set_after-self-inside.new.links) c.self.inside.first c.self.inside.last _ c.args.self.now.entries c.insert_reserved-key.result c.args.value
    (subst (λ (e : Entries g.row.V.Denot). AreLinksOf (get c.self.inside.links) (slab_len c.self.inside.links) c.self.inside.first c.self.inside.last e.entries) c.self.view_is c.self.invariant)
    c.insert_reserved-key.ensures.was_vacant (c.set_after-self-inside.ensures.len ∙ c.insert_reserved-key.ensures.len) c.set_after-self-inside.ensures.first
    c.insert_reserved-key.ensures.updates.changed c.insert_reserved-key.ensures.updates.others c.set_after-self-inside.ensures.links)

pub returns-clause-entries : goal.returns-clause-entries
returns-clause-entries g c =
    met_is (get c.set_after-self-inside.new.links) (slab_len c.set_after-self-inside.new.links) _ _ _
    (pushed (get c.self.inside.links) (get c.insert_reserved-key.new.self) (get c.set_after-self-inside.new.links) (slab_len c.self.inside.links) (slab_len c.set_after-self-inside.new.links) c.self.inside.first c.self.inside.last _ c.args.self.now.entries c.insert_reserved-key.result c.args.value
    (subst (λ (e : Entries g.row.V.Denot). AreLinksOf (get c.self.inside.links) (slab_len c.self.inside.links) c.self.inside.first c.self.inside.last e.entries) c.self.view_is c.self.invariant)
    c.insert_reserved-key.ensures.was_vacant (c.set_after-self-inside.ensures.len ∙ c.insert_reserved-key.ensures.len) c.set_after-self-inside.ensures.first
    c.insert_reserved-key.ensures.updates.changed c.insert_reserved-key.ensures.updates.others c.set_after-self-inside.ensures.links)
