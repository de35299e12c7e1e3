use Rattle.std.proofs.Common.{◌≡◌, ℕ, true, false, not, List, [], ap, sym, ◌∙◌, subst}
use Rattle.std.proofs.lemmas.Bool.{false≢true}
use Rattle.framing.specs.Cutting.{Cutting, cut}
use Rattle.framing.specs.Framing.{IsMessage, is_invalid}
use Rattle.framing.proofs.Standing.{part_is}
use Rattle.framing.proofs.Cuts.{cut-partial, cut-bad}
use Rattle.framing.proofs.First.{Begins, rest_one, messages_one, partial_is}
use Rattle.proxy_state.proofs.Hearing.{heard_one, heard_none}
use Rattle.proxy_core.specs.Meaning.{handlers_at, state_of}
use Rattle.proxy_core.proofs.proxy.hear_all.Goals as goal

pub hear_modem-requires-clause-whole : goal.hear_modem-requires-clause-whole
hear_modem-requires-clause-whole g c =
    let found = c.in-Whole.ensures.next in subst (λ (l : List ℕ). IsMessage g.P.Frame.Framing.size l) (sym (c.bytes.ensures ∙ part_is g.P.Frame.Framing.size found.gives)) found.message

pub loop-span-preserved : goal.loop-span-preserved
loop-span-preserved g c =
    let d = g.P.Protocol.meaning in
    let size = g.P.Frame.Framing.size in
    let found = c.in-Whole.ensures.next in
    let begins : Begins size c.loop-span.cutter.rest c.next.new.self.rest c.bytes.result.now =
    record { count = found.count; message = c.bytes.ensures ∙ part_is size found.gives; after_it = found.gives.rest; whole = found.message } in
    let h = handlers_at d c.args.side.now in
    let was = state_of c.loop-span.connections c.loop-span.side in
    let made : state_of c.hear_modem.new.connections c.hear_modem.new.side ≡ h.hear_modem c.bytes.result.now was =
    c.hear_modem.ensures.heard ∙ ap (λ (l : d.Lasting). (d.handlers l).hear_modem c.bytes.result.now was) c.loop-span.invariant.lasting
    in
    record {
      heard = heard_one h size c.bytes.result.now (cut size c.loop-span.cutter.rest).messages (cut size c.next.new.self.rest).messages was (state_of c.hear_modem.new.connections c.hear_modem.new.side) made (messages_one size g.met.P.Frame.Framing.kept g.met.P.Frame.Framing.positive begins) ∙ c.loop-span.invariant.heard;
      lasting = ap (λ x. d.lasting x.beside) made ∙ ((g.met.P.Protocol.lawful.lasts (d.lasting c.args.side.now)).hear_modem c.bytes.result.now was) ∙ c.loop-span.invariant.lasting;
      agrees = c.hear_modem.ensures.agrees;
      rest = rest_one size g.met.P.Frame.Framing.kept g.met.P.Frame.Framing.positive begins ∙ c.loop-span.invariant.rest;
    }

pub returns-in-NeedMore : goal.returns-in-NeedMore
returns-in-NeedMore g c =
    let size = g.P.Frame.Framing.size in
    let part : cut size c.loop-span.cutter.rest ≡ record { messages = []; rest = c.loop-span.cutter.rest } = cut-partial size g.met.P.Frame.Framing.kept c.loop-span.cutter.rest c.in-NeedMore.ensures.next.0 in
    let rest : c.loop-span.cutter.rest ≡ (cut size c.args.cutter.now.rest).rest = sym (ap (λ (k : Cutting). k.rest) part) ∙ c.loop-span.invariant.rest in
    let good : is_invalid (size (cut size c.args.cutter.now.rest).rest) ≡ false = sym (ap (λ (l : List ℕ). is_invalid (size l)) rest) ∙ partial_is _ _ c.in-NeedMore.ensures.next.0 in
    record {
      good = sym (ap not good);
      heard = heard_none (handlers_at g.P.Protocol.meaning c.args.side.now) size c.loop-span.cutter.rest (state_of c.loop-span.connections c.loop-span.side) part ∙ c.loop-span.invariant.heard;
      agrees = c.loop-span.invariant.agrees;
      rest = λ _. (ap (λ r. r.rest) c.in-NeedMore.ensures.next.1 ∙ rest, rw c.in-NeedMore.ensures.next.1 c.in-NeedMore.ensures.next.0);
    }

pub returns-in-Bad : goal.returns-in-Bad
returns-in-Bad g c =
    let size = g.P.Frame.Framing.size in
    let part : cut size c.loop-span.cutter.rest ≡ record { messages = []; rest = c.loop-span.cutter.rest } = cut-bad size g.met.P.Frame.Framing.kept c.loop-span.cutter.rest c.in-Bad.ensures.next.0 in
    let rest : c.loop-span.cutter.rest ≡ (cut size c.args.cutter.now.rest).rest = sym (ap (λ (k : Cutting). k.rest) part) ∙ c.loop-span.invariant.rest in
    let bad : is_invalid (size (cut size c.args.cutter.now.rest).rest) ≡ true = sym (ap (λ (l : List ℕ). is_invalid (size l)) rest) ∙ ap is_invalid c.in-Bad.ensures.next.0 in
    record {
      good = sym (ap not bad);
      heard = heard_none (handlers_at g.P.Protocol.meaning c.args.side.now) size c.loop-span.cutter.rest (state_of c.loop-span.connections c.loop-span.side) part ∙ c.loop-span.invariant.heard;
      agrees = c.loop-span.invariant.agrees;
      rest = λ e. absurd (false≢true e);
    }
