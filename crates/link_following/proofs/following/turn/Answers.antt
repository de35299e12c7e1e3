use Rattle.std.proofs.Common.{refl, Some, None, Ok, Err}
use Rattle.link_session.specs.declared.fault.SessionFault.TheVariants as fault
use Rattle.link_following.specs.declared.end.FollowEnd.TheVariants.{LinkEnd}
use Rattle.link_following.proofs.Coming.{Turns-by, Turns-message}
use Rattle.link_following.proofs.following.turn.Goals as goal

pub returns-in-Message-clause-turns : goal.returns-in-Message-clause-turns
returns-in-Message-clause-turns g c = λ heard stands.
    Turns-message _ _ (c.in-Message.ensures.looks heard stands) _ (rw c.bytes.ensures at c.show_message.ensures.writes)

pub returns-in-Quiet-clause-turns : goal.returns-in-Quiet-clause-turns
returns-in-Quiet-clause-turns g c = λ heard stands.
    let looks = c.in-Quiet.ensures.looks heard stands in Turns-by _ _ looks _ (Ok None) (refl, refl) looks.stands

pub returns-in-End-clause-turns : goal.returns-in-End-clause-turns
returns-in-End-clause-turns g c = λ heard stands.
    let looks = c.in-End.ensures.looks heard stands in Turns-by _ _ looks _ (Ok (Some LinkEnd)) (refl, refl) looks.stands

pub returns-in-Bad-clause-turns : goal.returns-in-Bad-clause-turns
returns-in-Bad-clause-turns g c = λ heard stands. Turns-by _ _ (c.in-Bad.ensures.looks heard stands) _ (Err (fault.Broken c.in-Bad.place)) (refl, refl) tt

pub returns-in-Failed-clause-turns : goal.returns-in-Failed-clause-turns
returns-in-Failed-clause-turns g c = λ heard stands. Turns-by _ _ (c.in-Failed.ensures.looks heard stands) _ (Err fault.LinkFault) (refl, refl) tt
