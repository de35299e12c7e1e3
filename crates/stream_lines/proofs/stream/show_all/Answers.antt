use Rattle.std.proofs.Common.{◌≡◌, ◌+◌, ℕ, false, not, List, [], length, take, drop, ap, sym, ◌∙◌, subst, length-append, take-append-drop, refl}
use Rattle.std.proofs.lemmas.Bool.{false≢true}
use Rattle.framing.specs.Framing.{IsMessage, is_invalid}
use Rattle.framing.specs.Cutting.{Cutting, cut}
use Rattle.framing.proofs.Standing.{part_is}
use Rattle.framing.proofs.Cuts.{cut-partial, cut-bad}
use Rattle.stream_lines.proofs.Pieces.{partial_is}
use Rattle.framing.proofs.First.{Begins, rest_one, messages_one}
use Rattle.stream_lines.proofs.Showing.{shows_first, shows_one, shows_last}
use Rattle.stream_lines.proofs.stream.show_all.Goals as goal

pub show-requires : goal.show-requires
show-requires g c =
    let found = c.in-Whole.ensures.next in
    subst (λ (l : List ℕ). IsMessage g.S.Frames.Framing.size l) (sym (c.bytes-message.ensures ∙ part_is g.S.Frames.Framing.size found.gives)) found.message

pub loop-span-init : goal.loop-span-init
loop-span-init g c = record {
  showing = λ shown before kept is short. shows_first g.S.Shows.shows shown before _ _ _ _ _ kept is short;
  rest = refl;
}

pub loop-span-preserved : goal.loop-span-preserved
loop-span-preserved g c =
    let size = g.S.Frames.Framing.size in
    let found = c.in-Whole.ensures.next in
    let rest : List ℕ = c.loop-span.stream.cutter.rest in
    let after : List ℕ = c.next.new.self.rest in
    let m : List ℕ = c.bytes-message.result.now in
    let begins : Begins size rest after m = record { count = found.count; message = c.bytes-message.ensures ∙ part_is size found.gives; after_it = found.gives.rest; whole = found.message } in
    let lengths : length rest ≡ length m + length after =
    sym (ap length (take-append-drop begins.count rest)) ∙ length-append (take begins.count rest) (drop begins.count rest)
    ∙ ap (λ (n : ℕ). n + length (drop begins.count rest)) (sym (ap length begins.message)) ∙ ap (λ (l : List ℕ). length m + length l) (sym begins.after_it) in
    record {
      showing = λ shown before kept is short.
          shows_one g.S.Shows.shows shown before (cut size c.args.stream.now.cutter.rest).messages c.args.lines.now (cut size rest).messages (cut size after).messages
          m c.loop-span.stream.state c.show.new.self (length rest) (length after) c.loop-span.stream.place _ c.loop-span.lines c.show.new.lines (c.loop-span.invariant.showing shown before kept is short)
          (messages_one size g.met.S.Frames.Framing.kept g.met.S.Frames.Framing.positive begins)
          (c.in_ok-show-in-Whole.ensures.shows shown) (c.in_ok-show-in-Whole.ensures.lines shown) lengths c.saturating_add-stream.ensures;
      rest = rest_one size g.met.S.Frames.Framing.kept g.met.S.Frames.Framing.positive begins ∙ c.loop-span.invariant.rest;
    }

pub returns-in-NeedMore : goal.returns-in-NeedMore
returns-in-NeedMore g c =
    let size = g.S.Frames.Framing.size in
    let part : cut size c.loop-span.stream.cutter.rest ≡ record { messages = []; rest = c.loop-span.stream.cutter.rest } = cut-partial size g.met.S.Frames.Framing.kept c.loop-span.stream.cutter.rest c.in-NeedMore.ensures.next.0 in
    let rest : c.loop-span.stream.cutter.rest ≡ (cut size c.args.stream.now.cutter.rest).rest = sym (ap (λ (k : Cutting). k.rest) part) ∙ c.loop-span.invariant.rest in
    let good : is_invalid (size (cut size c.args.stream.now.cutter.rest).rest) ≡ false = sym (ap (λ (l : List ℕ). is_invalid (size l)) rest) ∙ partial_is _ _ c.in-NeedMore.ensures.next.0 in
    record {
      good = sym (ap not good);
      rest = ap (λ r. r.rest) c.in-NeedMore.ensures.next.1 ∙ rest;
      partial = λ _. rw c.in-NeedMore.ensures.next.1 c.in-NeedMore.ensures.next.0;
      shows = λ shown before kept is short. shows_last g.S.Shows.shows shown before _ _ _ _ _ _ _ (c.loop-span.invariant.showing shown before kept is short) (ap (λ (k : Cutting). k.messages) part);
    }

pub returns-in-Bad : goal.returns-in-Bad
returns-in-Bad g c =
    let size = g.S.Frames.Framing.size in
    let part : cut size c.loop-span.stream.cutter.rest ≡ record { messages = []; rest = c.loop-span.stream.cutter.rest } = cut-bad size g.met.S.Frames.Framing.kept c.loop-span.stream.cutter.rest c.in-Bad.ensures.next.0 in
    let rest : c.loop-span.stream.cutter.rest ≡ (cut size c.args.stream.now.cutter.rest).rest = sym (ap (λ (k : Cutting). k.rest) part) ∙ c.loop-span.invariant.rest in
    let bad : is_invalid (size (cut size c.args.stream.now.cutter.rest).rest) ≡ not false = sym (ap (λ (l : List ℕ). is_invalid (size l)) rest) ∙ ap is_invalid c.in-Bad.ensures.next.0 in
    record {
      good = sym (ap not bad);
      rest = ap (λ r. r.rest) c.in-Bad.ensures.next.1 ∙ rest;
      partial = λ e. absurd (false≢true e);
      shows = λ shown before kept is short. shows_last g.S.Shows.shows shown before _ _ _ _ _ _ _ (c.loop-span.invariant.showing shown before kept is short) (ap (λ (k : Cutting). k.messages) part);
    }
