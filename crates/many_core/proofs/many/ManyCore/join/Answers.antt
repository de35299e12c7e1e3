use Rattle.std.proofs.Common.{◌<◌, nat_lt, List, length, ap, sym, ◌∙◌, subst}
use Rattle.qmi_proxy.specs.Limits.{connection_limit}
use Rattle.many_history.specs.Events.{Joined}
use Rattle.many_history.specs.Many.{Seat}
use Rattle.many_seats.specs.Seats.{Seating}
use Rattle.many_core.specs.Core.{ManyCore, MovesNobody, met}
use Rattle.many_core.proofs.Inside.{PlacesFit, joined_fit}
use Rattle.many_core.proofs.Meeting.{value}
use Rattle.many_core.proofs.Moving.{joined_is, joined_moves}
use Rattle.many_core.proofs.many.ManyCore.join.Goals as goal

pub invariant_of-self : goal.invariant_of-self
invariant_of-self c =
    let s = c.self.inside.seats in
    record {
      some = c.self.invariant.some;
      count = c.self.invariant.count;
      names = ap (λ (t : Seating). t.names) c.join.ensures ∙ c.self.invariant.names;
      places = subst (λ (l : List Seat). PlacesFit (length c.self.inside.paths) l) (sym (ap (λ (t : Seating). t.seats) c.join.ensures)) (joined_fit (length c.self.inside.paths) (nat_lt (length s.seats) connection_limit) c.args.conn s.seats c.self.invariant.places);
    }

pub returns-clause-met : goal.returns-clause-met
returns-clause-met c =
    let newer : c.self.inside.seats.greatest < c.args.conn = subst (λ (v : ManyCore). v.core.greatest < c.args.conn) (sym c.self.view_is) c.requires.newer in
    ap (value c.self.inside.paths c.self.inside.limits c.self.inside.cores) c.join.ensures
    ∙ joined_is c.self.inside.paths c.self.inside.limits c.self.inside.cores c.self.inside.seats c.args.conn newer
    ∙ ap (met (Joined c.args.conn)) c.self.view_is

pub returns-clause-moved : goal.returns-clause-moved
returns-clause-moved c = subst (MovesNobody (Joined c.args.conn)) c.self.view_is (joined_moves c.self.inside.paths c.self.inside.limits c.self.inside.cores c.self.inside.seats c.args.conn)
