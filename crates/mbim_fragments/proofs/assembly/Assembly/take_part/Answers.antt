use Rattle.std.proofs.Common.{◌≡◌, ◌+◌, ◌≤◌, ◌++◌, length, sym, ◌∙◌, ap, rules, arith}
use Rattle.mbim_frame.specs.Fragment.{body_of}
use Rattle.mbim_fragments.specs.Runs.{Joining, told, longest_body}
use Rattle.mbim_fragments.specs.Assembling.{body_given}
use Rattle.mbim_fragments.proofs.Assembling.{joins-whole}
use Rattle.mbim_fragments.proofs.assembly.Assembly.take_part.Goals as goal

pub returns-clause-told : goal.returns-clause-told
returns-clause-told c =
    let body : c.args.self.now.body ≡ c.self.inside.body = search rules in
    let short : length c.args.self.now.body + length (body_of c.args.fragment.now) ≤ longest_body =
    omega (arith, ap length body, ap length c.body_in-part.ensures, c.if-len-part.false, c.len.ensures.count, c.len.ensures.short) in
    ap told (sym (joins-whole longest_body c.args.self.now c.args.fragment.now c.in-Some.progress c.in-Some.ensures.due short c.in-Some.ensures.within c.if-progress.false))

pub returns-clause-given : goal.returns-clause-given
returns-clause-given c =
    let body : c.args.self.now.body ≡ c.self.inside.body = search rules in
    let short : length c.args.self.now.body + length (body_of c.args.fragment.now) ≤ longest_body =
    omega (arith, ap length body, ap length c.body_in-part.ensures, c.if-len-part.false, c.len.ensures.count, c.len.ensures.short) in
    let given : c.swap.new.y ≡ c.args.self.now.body ++ body_of c.args.fragment.now = search (rules, body, c.body_in-part.ensures, c.append.ensures) in
    given ∙ ap (λ (j : Joining). body_given j c.args.whole.now)
    (sym (joins-whole longest_body c.args.self.now c.args.fragment.now c.in-Some.progress c.in-Some.ensures.due short c.in-Some.ensures.within c.if-progress.false))
