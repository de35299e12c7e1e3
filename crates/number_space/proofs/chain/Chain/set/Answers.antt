use Rattle.std.proofs.Common.{subst}
use Rattle.slab.specs.Slab.{get, slab_len}
use Rattle.number_space.specs.Chain.{Entries, AreLinksOf}
use Rattle.number_space.proofs.Links.{met_is, met_kept, replaced_at}
use Rattle.number_space.proofs.chain.Chain.set.Goals as goal

pub invariant_of-self : goal.invariant_of-self
invariant_of-self g c =
    met_kept (get c.set_value.new.links) (slab_len c.set_value.new.links) c.self.inside.first c.self.inside.last _
    (replaced_at (get c.self.inside.links) (slab_len c.self.inside.links) c.self.inside.first c.self.inside.last c.args.self.now.entries c.args.key c.requires.place
    (subst (λ (e : Entries g.row.V.Denot). AreLinksOf (get c.self.inside.links) (slab_len c.self.inside.links) c.self.inside.first c.self.inside.last e.entries) c.self.view_is c.self.invariant)
    c.requires.there (get c.set_value.new.links) (slab_len c.set_value.new.links) c.args.value c.set_value.ensures.len c.set_value.ensures.here c.set_value.ensures.others)

pub returns-clause-entries : goal.returns-clause-entries
returns-clause-entries g c = λ place at.
    met_is (get c.set_value.new.links) (slab_len c.set_value.new.links) c.self.inside.first c.self.inside.last _
    (replaced_at (get c.self.inside.links) (slab_len c.self.inside.links) c.self.inside.first c.self.inside.last c.args.self.now.entries c.args.key place
    (subst (λ (e : Entries g.row.V.Denot). AreLinksOf (get c.self.inside.links) (slab_len c.self.inside.links) c.self.inside.first c.self.inside.last e.entries) c.self.view_is c.self.invariant)
    at (get c.set_value.new.links) (slab_len c.set_value.new.links) c.args.value c.set_value.ensures.len c.set_value.ensures.here c.set_value.ensures.others)
