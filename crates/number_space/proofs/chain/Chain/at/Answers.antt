use Rattle.std.proofs.Common.{subst}
use Rattle.slab.specs.Slab.{get, slab_len}
use Rattle.number_space.specs.Chain.{Entries, AreLinksOf}
use Rattle.number_space.proofs.Links.{has_link, value_at, after_value}
use Rattle.number_space.proofs.chain.Chain.at.Goals as goal

pub index-link-requires : goal.index-link-requires
index-link-requires g c =
    has_link (get c.self.inside.links) (slab_len c.self.inside.links) c.self.inside.first c.self.inside.last c.args.self.now.entries c.args.key c.requires.place
    (subst (λ (e : Entries g.row.V.Denot). AreLinksOf (get c.self.inside.links) (slab_len c.self.inside.links) c.self.inside.first c.self.inside.last e.entries) c.self.view_is c.self.invariant)
    c.requires.there

pub returns-clause-value : goal.returns-clause-value
returns-clause-value g c = λ place d at.
    value_at (get c.self.inside.links) (slab_len c.self.inside.links) c.self.inside.first c.self.inside.last c.args.self.now.entries c.args.key place
    (subst (λ (e : Entries g.row.V.Denot). AreLinksOf (get c.self.inside.links) (slab_len c.self.inside.links) c.self.inside.first c.self.inside.last e.entries) c.self.view_is c.self.invariant)
    at c.index-link.result.now d c.index-link.ensures

pub returns-clause-after : goal.returns-clause-after
returns-clause-after g c = λ place at.
    after_value (get c.self.inside.links) (slab_len c.self.inside.links) c.self.inside.first c.self.inside.last c.args.self.now.entries c.args.key place
    (subst (λ (e : Entries g.row.V.Denot). AreLinksOf (get c.self.inside.links) (slab_len c.self.inside.links) c.self.inside.first c.self.inside.last e.entries) c.self.view_is c.self.invariant)
    at c.index-link.result.now c.index-link.ensures
