use Rattle.std.proofs.Common.{◌≡◌, ℕ, Bool, true, false, not, ◌&&◌, List, [], ap, sym, ◌∙◌, subst}
use Rattle.std.proofs.lemmas.Bool.{false≢true}
use Rattle.framing.specs.Framing.{IsMessage, is_invalid}
use Rattle.framing.specs.Cutting.{Cutting, cut}
use Rattle.framing.proofs.Standing.{part_is}
use Rattle.framing.proofs.Cuts.{cut-partial, cut-bad}
use Rattle.connections.specs.Hearing.{hears_all}
use Rattle.framing.proofs.First.{Begins, partial_is, rest_one, messages_one}
use Rattle.connections.proofs.Heard.{heard_one, over_one, heard_out}
use Rattle.connections.proofs.connection.hear_all.Goals as goal

pub hear-requires : goal.hear-requires
hear-requires g c =
    let found = c.in-Whole.ensures.next in
    subst (λ (l : List ℕ). IsMessage g.F.Framing.size l) (sym (c.bytes.ensures ∙ part_is g.F.Framing.size found.gives)) found.message

pub loop-span-preserved : goal.loop-span-preserved
loop-span-preserved g c =
    let found = c.in-Whole.ensures.next in
    let begins : Begins g.F.Framing.size c.loop-span.stream.rest c.next.new.self.rest c.bytes.result.now =
    record { count = found.count; message = c.bytes.ensures ∙ part_is g.F.Framing.size found.gives; after_it = found.gives.rest; whole = found.message } in
    let messages = messages_one g.F.Framing.size g.met.F.Framing.kept g.met.F.Framing.positive begins in
    record {
      hears =
          heard_one g.S.Hears.hears c.args.name c.bytes.result.now (cut g.F.Framing.size c.next.new.self.rest).messages c.loop-span.client c.hear.new.client c.loop-span.outbox c.hear.new.outbox c.loop-span.beside c.hear.new.self
          (sym c.if-not-hear.false ∙ c.hear.ensures.room) c.hear.ensures.client c.hear.ensures.outbox c.hear.ensures.beside
          ∙ sym (ap (λ (l : List (List ℕ)). hears_all g.S.Hears.hears c.args.name l c.loop-span.client c.loop-span.outbox c.loop-span.beside) messages)
          ∙ c.loop-span.invariant.hears;
      rest = rest_one g.F.Framing.size g.met.F.Framing.kept g.met.F.Framing.positive begins ∙ c.loop-span.invariant.rest;
      capacity = ap (λ q. q.capacity) c.hear.ensures.outbox ∙ g.met.S.Hears.capacity c.args.name c.bytes.result.now c.loop-span.client c.loop-span.outbox c.loop-span.beside ∙ c.loop-span.invariant.capacity;
    }

pub returns-then-not-hear : goal.returns-then-not-hear
returns-then-not-hear g c =
    let found = c.in-Whole.ensures.next in
    let begins : Begins g.F.Framing.size c.loop-span.stream.rest c.next.new.self.rest c.bytes.result.now =
    record { count = found.count; message = c.bytes.ensures ∙ part_is g.F.Framing.size found.gives; after_it = found.gives.rest; whole = found.message } in
    let messages = messages_one g.F.Framing.size g.met.F.Framing.kept g.met.F.Framing.positive begins in
    let over = sym c.if-not-hear.true ∙ c.hear.ensures.room in
    let all =
    over_one g.S.Hears.hears c.args.name c.bytes.result.now (cut g.F.Framing.size c.next.new.self.rest).messages c.loop-span.client c.loop-span.outbox c.loop-span.beside over
    ∙ sym (ap (λ (l : List (List ℕ)). hears_all g.S.Hears.hears c.args.name l c.loop-span.client c.loop-span.outbox c.loop-span.beside) messages)
    ∙ c.loop-span.invariant.hears
    in record {
      left = record {
        goes_on = ap (λ (b : Bool). b && not (is_invalid (g.F.Framing.size (cut g.F.Framing.size c.args.stream.now.rest).rest))) (over ∙ ap (λ h. h.has_room) all);
        client = c.hear.ensures.client ∙ ap (λ h. h.client) all;
        outbox = c.hear.ensures.outbox ∙ ap (λ h. h.outbox) all;
        beside = c.hear.ensures.beside ∙ ap (λ h. h.beside) all;
      };
      rest = λ e. absurd (false≢true e);
      capacity = ap (λ q. q.capacity) c.hear.ensures.outbox ∙ g.met.S.Hears.capacity c.args.name c.bytes.result.now c.loop-span.client c.loop-span.outbox c.loop-span.beside ∙ c.loop-span.invariant.capacity;
    }

pub returns-in-NeedMore : goal.returns-in-NeedMore
returns-in-NeedMore g c =
    let part : cut g.F.Framing.size c.loop-span.stream.rest ≡ record { messages = []; rest = c.loop-span.stream.rest } = cut-partial g.F.Framing.size g.met.F.Framing.kept c.loop-span.stream.rest c.in-NeedMore.ensures.next.0 in
    let all = heard_out g.S.Hears.hears c.args.name g.F.Framing.size c.loop-span.stream.rest c.loop-span.client c.loop-span.outbox c.loop-span.beside part ∙ c.loop-span.invariant.hears in
    let rest : c.loop-span.stream.rest ≡ (cut g.F.Framing.size c.args.stream.now.rest).rest = sym (ap (λ (k : Cutting). k.rest) part) ∙ c.loop-span.invariant.rest in
    let good : is_invalid (g.F.Framing.size (cut g.F.Framing.size c.args.stream.now.rest).rest) ≡ false = sym (ap (λ (l : List ℕ). is_invalid (g.F.Framing.size l)) rest) ∙ partial_is _ _ c.in-NeedMore.ensures.next.0 in
    record {
      left = record {
        goes_on =
            ap (λ h. h.has_room && true) all
            ∙ sym (ap (λ (b : Bool). (hears_all g.S.Hears.hears c.args.name (cut g.F.Framing.size c.args.stream.now.rest).messages c.args.client.now c.args.outbox.now c.args.beside.now).has_room && not b) good);
        client = ap (λ h. h.client) all;
        outbox = ap (λ h. h.outbox) all;
        beside = ap (λ h. h.beside) all;
      };
      rest = λ _. (ap (λ r. r.rest) c.in-NeedMore.ensures.next.1 ∙ rest, rw c.in-NeedMore.ensures.next.1 c.in-NeedMore.ensures.next.0);
      capacity = c.loop-span.invariant.capacity;
    }

pub returns-in-Bad : goal.returns-in-Bad
returns-in-Bad g c =
    let part : cut g.F.Framing.size c.loop-span.stream.rest ≡ record { messages = []; rest = c.loop-span.stream.rest } = cut-bad g.F.Framing.size g.met.F.Framing.kept c.loop-span.stream.rest c.in-Bad.ensures.next.0 in
    let all = heard_out g.S.Hears.hears c.args.name g.F.Framing.size c.loop-span.stream.rest c.loop-span.client c.loop-span.outbox c.loop-span.beside part ∙ c.loop-span.invariant.hears in
    let rest : c.loop-span.stream.rest ≡ (cut g.F.Framing.size c.args.stream.now.rest).rest = sym (ap (λ (k : Cutting). k.rest) part) ∙ c.loop-span.invariant.rest in
    let bad : is_invalid (g.F.Framing.size (cut g.F.Framing.size c.args.stream.now.rest).rest) ≡ true = sym (ap (λ (l : List ℕ). is_invalid (g.F.Framing.size l)) rest) ∙ ap is_invalid c.in-Bad.ensures.next.0 in
    record {
      left = record {
        goes_on =
            ap (λ h. h.has_room && false) all
            ∙ sym (ap (λ (b : Bool). (hears_all g.S.Hears.hears c.args.name (cut g.F.Framing.size c.args.stream.now.rest).messages c.args.client.now c.args.outbox.now c.args.beside.now).has_room && not b) bad);
        client = ap (λ h. h.client) all;
        outbox = ap (λ h. h.outbox) all;
        beside = ap (λ h. h.beside) all;
      };
      rest = λ e. absurd (false≢true e);
      capacity = c.loop-span.invariant.capacity;
    }
