use Rattle.std.proofs.Common.{◌≡◌, refl, ℕ, Bool, true, false, ◌||◌, not, List, [], ap, sym, ◌∙◌, subst}
use Rattle.std.proofs.lemmas.Bool.{false≢true}
use Rattle.framing.specs.Framing.{IsMessage, is_invalid}
use Rattle.framing.specs.Cutting.{Cutting, cut}
use Rattle.framing.proofs.Standing.{part_is}
use Rattle.served_sim.specs.Conduct.{Conduct}
use Rattle.framing.proofs.Cuts.{cut-partial, cut-bad}
use Rattle.framing.proofs.First.{Begins, partial_is, rest_one, messages_one}
use Rattle.sim_serving.proofs.Hearing.{DoesSo, asks_one, asks_until, asks_last, HasAsked, good_where}
use Rattle.sim_serving.proofs.client.ask_all.Goals as goal

pub ask-requires : goal.ask-requires
ask-requires g c =
    let found = c.in-Whole.ensures.next in
    subst (λ (l : List ℕ). IsMessage g.S.Framing.Framing.size l) (sym (c.bytes.ensures ∙ part_is g.S.Framing.Framing.size found.gives)) found.message

pub loop-span-preserved : goal.loop-span-preserved
loop-span-preserved g c =
    let size = g.S.Framing.Framing.size in
    let found = c.in-Whole.ensures.next in
    let begins : Begins size c.loop-span.stream.rest c.next.new.self.rest c.bytes.result.now =
    record { count = found.count; message = c.bytes.ensures ∙ part_is size found.gives; after_it = found.gives.rest; whole = found.message } in
    record {
      asking = λ ticks conduct before kept.
          let does : DoesSo g.S.ServedSim.keeps ticks conduct c.bytes.result.now c.loop-span.sim c.ask.new.self _ _ false =
          record {
            keeps_on = c.in_ok-reply-in-Whole.ensures.keeps ticks conduct;
            answers = c.in_ok-reply-in-Whole.ensures.answers ticks conduct;
            lates = c.in_ok-reply-in-Whole.ensures.late ticks conduct;
            ups = λ asked kept. sym c.if-reply.false ∙ c.in_ok-reply-in-Whole.ensures.hangs_up ticks conduct asked kept;
          } in
          asks_one g.S.ServedSim.keeps ticks conduct before (cut size c.args.stream.now.rest).messages c.args.replies.now (cut size c.loop-span.stream.rest).messages (cut size c.next.new.self.rest).messages
          c.bytes.result.now c.loop-span.sim c.ask.new.self c.loop-span.replies c.add.new.self _ _ (c.loop-span.invariant.asking ticks conduct before kept)
          (messages_one size g.met.S.Framing.Framing.kept g.met.S.Framing.Framing.positive begins) does c.in_ok-add-in-Whole.ensures;
      rest = rest_one size g.met.S.Framing.Framing.kept g.met.S.Framing.Framing.positive begins ∙ c.loop-span.invariant.rest;
    }

pub returns-then-reply : goal.returns-then-reply
returns-then-reply g c =
    let size = g.S.Framing.Framing.size in
    let found = c.in-Whole.ensures.next in
    let begins : Begins size c.loop-span.stream.rest c.next.new.self.rest c.bytes.result.now =
    record { count = found.count; message = c.bytes.ensures ∙ part_is size found.gives; after_it = found.gives.rest; whole = found.message } in
    let does : (ticks : ℕ) (conduct : Conduct) → DoesSo g.S.ServedSim.keeps ticks conduct c.bytes.result.now c.loop-span.sim c.ask.new.self _ _ true =
    λ ticks conduct.
    record {
      keeps_on = c.in_ok-reply-in-Whole.ensures.keeps ticks conduct;
      answers = c.in_ok-reply-in-Whole.ensures.answers ticks conduct;
      lates = c.in_ok-reply-in-Whole.ensures.late ticks conduct;
      ups = λ asked kept. sym c.if-reply.true ∙ c.in_ok-reply-in-Whole.ensures.hangs_up ticks conduct asked kept;
    } in
    let asked : (ticks : ℕ) (conduct : Conduct) (before : List (List ℕ)) → g.S.ServedSim.keeps ticks conduct before c.args.sim.now
    → HasAsked g.S.ServedSim.keeps ticks conduct before (cut size c.args.stream.now.rest).messages c.args.replies.now c.ask.new.self c.add.new.self true =
    λ ticks conduct before kept.
    asks_until g.S.ServedSim.keeps ticks conduct before (cut size c.args.stream.now.rest).messages c.args.replies.now (cut size c.loop-span.stream.rest).messages (cut size c.next.new.self.rest).messages
    c.bytes.result.now c.loop-span.sim c.ask.new.self c.loop-span.replies c.add.new.self _ _ (c.loop-span.invariant.asking ticks conduct before kept)
    (messages_one size g.met.S.Framing.Framing.kept g.met.S.Framing.Framing.positive begins) (does ticks conduct) c.in_ok-add-in-Whole.ensures
    in
    record {
      good = λ ticks conduct before kept. sym (up _) ∙ good_where size conduct before c.args.stream.now.rest _ true refl (asked ticks conduct before kept).hangs;
      answers = λ ticks conduct before kept. (asked ticks conduct before kept).answers;
      rest = λ e. absurd (false≢true e);
    }
  where
    up : (b : Bool) → not (b || true) ≡ false
    up true = refl
    up false = refl

pub returns-in-NeedMore : goal.returns-in-NeedMore
returns-in-NeedMore g c =
    let size = g.S.Framing.Framing.size in
    let part : cut size c.loop-span.stream.rest ≡ record { messages = []; rest = c.loop-span.stream.rest } = cut-partial size g.met.S.Framing.Framing.kept c.loop-span.stream.rest c.in-NeedMore.ensures.next.0 in
    let rest : c.loop-span.stream.rest ≡ (cut size c.args.stream.now.rest).rest = sym (ap (λ (k : Cutting). k.rest) part) ∙ c.loop-span.invariant.rest in
    let bad : is_invalid (size (cut size c.args.stream.now.rest).rest) ≡ false = sym (ap (λ (l : List ℕ). is_invalid (size l)) rest) ∙ partial_is _ _ c.in-NeedMore.ensures.next.0 in
    let asked : (ticks : ℕ) (conduct : Conduct) (before : List (List ℕ)) → g.S.ServedSim.keeps ticks conduct before c.args.sim.now
    → HasAsked g.S.ServedSim.keeps ticks conduct before (cut size c.args.stream.now.rest).messages c.args.replies.now c.loop-span.sim c.loop-span.replies false =
    λ ticks conduct before kept.
    asks_last g.S.ServedSim.keeps ticks conduct before (cut size c.args.stream.now.rest).messages c.args.replies.now (cut size c.loop-span.stream.rest).messages c.loop-span.sim c.loop-span.replies (c.loop-span.invariant.asking ticks conduct before kept) (ap (λ (k : Cutting). k.messages) part)
    in
    record {
      good = λ ticks conduct before kept. good_where size conduct before c.args.stream.now.rest false false bad (asked ticks conduct before kept).hangs;
      answers = λ ticks conduct before kept. (asked ticks conduct before kept).answers;
      rest = λ _. (ap (λ r. r.rest) c.in-NeedMore.ensures.next.1 ∙ rest, rw c.in-NeedMore.ensures.next.1 c.in-NeedMore.ensures.next.0);
    }

pub returns-in-Bad : goal.returns-in-Bad
returns-in-Bad g c =
    let size = g.S.Framing.Framing.size in
    let part : cut size c.loop-span.stream.rest ≡ record { messages = []; rest = c.loop-span.stream.rest } = cut-bad size g.met.S.Framing.Framing.kept c.loop-span.stream.rest c.in-Bad.ensures.next.0 in
    let rest : c.loop-span.stream.rest ≡ (cut size c.args.stream.now.rest).rest = sym (ap (λ (k : Cutting). k.rest) part) ∙ c.loop-span.invariant.rest in
    let bad : is_invalid (size (cut size c.args.stream.now.rest).rest) ≡ true = sym (ap (λ (l : List ℕ). is_invalid (size l)) rest) ∙ ap is_invalid c.in-Bad.ensures.next.0 in
    let asked : (ticks : ℕ) (conduct : Conduct) (before : List (List ℕ)) → g.S.ServedSim.keeps ticks conduct before c.args.sim.now
    → HasAsked g.S.ServedSim.keeps ticks conduct before (cut size c.args.stream.now.rest).messages c.args.replies.now c.loop-span.sim c.loop-span.replies false =
    λ ticks conduct before kept.
    asks_last g.S.ServedSim.keeps ticks conduct before (cut size c.args.stream.now.rest).messages c.args.replies.now (cut size c.loop-span.stream.rest).messages c.loop-span.sim c.loop-span.replies (c.loop-span.invariant.asking ticks conduct before kept) (ap (λ (k : Cutting). k.messages) part)
    in
    record {
      good = λ ticks conduct before kept. good_where size conduct before c.args.stream.now.rest true false bad (asked ticks conduct before kept).hangs;
      answers = λ ticks conduct before kept. (asked ticks conduct before kept).answers;
      rest = λ e. absurd (false≢true e);
    }
