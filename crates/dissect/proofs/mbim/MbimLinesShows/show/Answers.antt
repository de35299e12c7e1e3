use Rattle.std.proofs.Common.{◌≡◌, ◌++◌, ◌∙◌, List, ℕ, Option, Some, ap, sym, refl, arith, length}
use Rattle.std.proofs.lemmas.Slice.{between_to_end}
use Rattle.mbim_frame.specs.declared.head.MHead.{MHead}
use Rattle.mbim_frame.specs.declared.kind.MessageKind.{MessageKind}
use Rattle.mbim_frame.specs.declared.kind.MessageKind.TheVariants.{Command, CommandDone, IndicateStatus}
use Rattle.mbim_frame.specs.Head.{kind_of, tail_of}
use Rattle.mbim_frame.specs.Kinds.{kind_numbered}
use Rattle.dissect.specs.Mbim.{tail_lines, took_lines, inner_lines}
use Rattle.dissect.proofs.Runs.{lines_of, inner_short, inner_whole, inner_joined, joined_is, stands_on, stands_still, is_one, is_none, is_short, is_long, isnt_long}
use Rattle.dissect.proofs.mbim.MbimLinesShows.show.Goals as goal

pub returns-then-message-lt20-clause-lines : goal.returns-then-message-lt20-clause-lines
returns-then-message-lt20-clause-lines c = λ shown before stands place.
    let m : List ℕ = c.args.message.now in
    let tail = c.in_ok-push_tail.ensures ∙ ap (λ (l : List ℕ). c.push_head.new.text ++ tail_lines l) (between_to_end m 12 (length m) (omega arith)) in
    lines_of shown before m c.args.lines.now c.push_head.new.text (tail_lines (tail_of m)) c.push_tail.new.text c.args.place c.read-head.result stands.0 place c.read-head.ensures c.in_ok-push_head.ensures tail
    (inner_short (kind_numbered (kind_of m)) before m (isnt_long m (omega (arith, c.if-message-lt20.true))))

pub returns-then-message-lt20-clause-shows : goal.returns-then-message-lt20-clause-shows
returns-then-message-lt20-clause-shows c = λ shown before stands.
    let m : List ℕ = c.args.message.now in
    let short = isnt_long m (omega (arith, c.if-message-lt20.true)) in (
      stands.0,
      record {
        commands = stands_still Command before m stands.1.commands (is_short Command m short);
        answers = stands_still CommandDone before m stands.1.answers (is_short CommandDone m short);
        indications = stands_still IndicateStatus before m stands.1.indications (is_short IndicateStatus m short);
      },
    )

pub returns-in_default-clause-shows : goal.returns-in_default-clause-shows
returns-in_default-clause-shows c = λ shown before stands.
    let m : List ℕ = c.args.message.now in
    let found = c.message_kind.ensures ∙ ap (λ (h : MHead). kind_numbered h.kind) c.read-head.ensures in (
      stands.0,
      record {
        commands = stands_still Command before m stands.1.commands (is_none Command m c.message_kind.result found (c.in_default.not-Some Command));
        answers = stands_still CommandDone before m stands.1.answers (is_none CommandDone m c.message_kind.result found (c.in_default.not-Some CommandDone));
        indications = stands_still IndicateStatus before m stands.1.indications (is_none IndicateStatus m c.message_kind.result found (c.in_default.not-Some IndicateStatus));
      },
    )

pub returns-in_ok-push_joined-in-Command-clause-lines : goal.returns-in_ok-push_joined-in-Command-clause-lines
returns-in_ok-push_joined-in-Command-clause-lines c = λ shown before stands place.
    let m : List ℕ = c.args.message.now in
    let found = c.message_kind.ensures ∙ ap (λ (h : MHead). kind_numbered h.kind) c.read-head.ensures in
    let is_kind : Some Command ≡ kind_numbered (kind_of m) = sym (c.in-Some.is ∙ ap Some c.in-Command.is) ∙ found in
    let more : List ℕ = took_lines c.in-Some.kind c.take-took.result c.as_slice.result.now in
    lines_of shown before m c.args.lines.now c.push_head.new.text more c.push_joined.new.text c.args.place c.read-head.result stands.0 place c.read-head.ensures c.in_ok-push_head.ensures c.in_ok-push_joined-in-Command.ensures
    (ap (λ (kind : MessageKind). took_lines kind c.take-took.result c.as_slice.result.now) c.in-Command.is
    ∙ joined_is Command before m stands.1.commands c.take-took.result c.as_slice.result.now c.args.self.now.body c.take-took.ensures.told (c.as_slice.ensures.bytes ∙ c.take-took.ensures.given)
    ∙ inner_joined Command before m refl (is_long m (omega (arith, c.if-message-lt20.false))) is_kind)

pub returns-in_ok-push_joined-in-Command-clause-shows : goal.returns-in_ok-push_joined-in-Command-clause-shows
returns-in_ok-push_joined-in-Command-clause-shows c = λ shown before stands.
    let m : List ℕ = c.args.message.now in
    let found = c.message_kind.ensures ∙ ap (λ (h : MHead). kind_numbered h.kind) c.read-head.ensures in
    let is_kind : Some Command ≡ kind_numbered (kind_of m) = sym (c.in-Some.is ∙ ap Some c.in-Command.is) ∙ found in
    let long = is_long m (omega (arith, c.if-message-lt20.false)) in (
      stands.0,
      record {
        commands = stands_on Command before m stands.1.commands (is_one Command m is_kind long) c.take-took.ensures.left;
        answers = stands_still CommandDone before m stands.1.answers (is_none CommandDone m (Some Command) is_kind (λ same. absurd (cc)));
        indications = stands_still IndicateStatus before m stands.1.indications (is_none IndicateStatus m (Some Command) is_kind (λ same. absurd (cc)));
      },
    )

pub returns-in_ok-push_joined-in-CommandDone-clause-lines : goal.returns-in_ok-push_joined-in-CommandDone-clause-lines
returns-in_ok-push_joined-in-CommandDone-clause-lines c = λ shown before stands place.
    let m : List ℕ = c.args.message.now in
    let found = c.message_kind.ensures ∙ ap (λ (h : MHead). kind_numbered h.kind) c.read-head.ensures in
    let is_kind : Some CommandDone ≡ kind_numbered (kind_of m) = sym (c.in-Some.is ∙ ap Some c.in-CommandDone.is) ∙ found in
    let more : List ℕ = took_lines c.in-Some.kind c.take-took-in-CommandDone.result c.as_slice-in-CommandDone.result.now in
    lines_of shown before m c.args.lines.now c.push_head.new.text more c.push_joined-in-CommandDone.new.text c.args.place c.read-head.result stands.0 place c.read-head.ensures c.in_ok-push_head.ensures c.in_ok-push_joined-in-CommandDone.ensures
    (ap (λ (kind : MessageKind). took_lines kind c.take-took-in-CommandDone.result c.as_slice-in-CommandDone.result.now) c.in-CommandDone.is
    ∙ joined_is CommandDone before m stands.1.answers c.take-took-in-CommandDone.result c.as_slice-in-CommandDone.result.now c.args.self.now.body c.take-took-in-CommandDone.ensures.told (c.as_slice-in-CommandDone.ensures.bytes ∙ c.take-took-in-CommandDone.ensures.given)
    ∙ inner_joined CommandDone before m refl (is_long m (omega (arith, c.if-message-lt20.false))) is_kind)

pub returns-in_ok-push_joined-in-CommandDone-clause-shows : goal.returns-in_ok-push_joined-in-CommandDone-clause-shows
returns-in_ok-push_joined-in-CommandDone-clause-shows c = λ shown before stands.
    let m : List ℕ = c.args.message.now in
    let found = c.message_kind.ensures ∙ ap (λ (h : MHead). kind_numbered h.kind) c.read-head.ensures in
    let is_kind : Some CommandDone ≡ kind_numbered (kind_of m) = sym (c.in-Some.is ∙ ap Some c.in-CommandDone.is) ∙ found in
    let long = is_long m (omega (arith, c.if-message-lt20.false)) in (
      stands.0,
      record {
        commands = stands_still Command before m stands.1.commands (is_none Command m (Some CommandDone) is_kind (λ same. absurd (cc)));
        answers = stands_on CommandDone before m stands.1.answers (is_one CommandDone m is_kind long) c.take-took-in-CommandDone.ensures.left;
        indications = stands_still IndicateStatus before m stands.1.indications (is_none IndicateStatus m (Some CommandDone) is_kind (λ same. absurd (cc)));
      },
    )

pub returns-in_ok-push_joined-in-IndicateStatus-clause-lines : goal.returns-in_ok-push_joined-in-IndicateStatus-clause-lines
returns-in_ok-push_joined-in-IndicateStatus-clause-lines c = λ shown before stands place.
    let m : List ℕ = c.args.message.now in
    let found = c.message_kind.ensures ∙ ap (λ (h : MHead). kind_numbered h.kind) c.read-head.ensures in
    let is_kind : Some IndicateStatus ≡ kind_numbered (kind_of m) = sym (c.in-Some.is ∙ ap Some c.in-IndicateStatus.is) ∙ found in
    let more : List ℕ = took_lines c.in-Some.kind c.take-took-in-IndicateStatus.result c.as_slice-in-IndicateStatus.result.now in
    lines_of shown before m c.args.lines.now c.push_head.new.text more c.push_joined-in-IndicateStatus.new.text c.args.place c.read-head.result stands.0 place c.read-head.ensures c.in_ok-push_head.ensures c.in_ok-push_joined-in-IndicateStatus.ensures
    (ap (λ (kind : MessageKind). took_lines kind c.take-took-in-IndicateStatus.result c.as_slice-in-IndicateStatus.result.now) c.in-IndicateStatus.is
    ∙ joined_is IndicateStatus before m stands.1.indications c.take-took-in-IndicateStatus.result c.as_slice-in-IndicateStatus.result.now c.args.self.now.body c.take-took-in-IndicateStatus.ensures.told (c.as_slice-in-IndicateStatus.ensures.bytes ∙ c.take-took-in-IndicateStatus.ensures.given)
    ∙ inner_joined IndicateStatus before m refl (is_long m (omega (arith, c.if-message-lt20.false))) is_kind)

pub returns-in_ok-push_joined-in-IndicateStatus-clause-shows : goal.returns-in_ok-push_joined-in-IndicateStatus-clause-shows
returns-in_ok-push_joined-in-IndicateStatus-clause-shows c = λ shown before stands.
    let m : List ℕ = c.args.message.now in
    let found = c.message_kind.ensures ∙ ap (λ (h : MHead). kind_numbered h.kind) c.read-head.ensures in
    let is_kind : Some IndicateStatus ≡ kind_numbered (kind_of m) = sym (c.in-Some.is ∙ ap Some c.in-IndicateStatus.is) ∙ found in
    let long = is_long m (omega (arith, c.if-message-lt20.false)) in (
      stands.0,
      record {
        commands = stands_still Command before m stands.1.commands (is_none Command m (Some IndicateStatus) is_kind (λ same. absurd (cc)));
        answers = stands_still CommandDone before m stands.1.answers (is_none CommandDone m (Some IndicateStatus) is_kind (λ same. absurd (cc)));
        indications = stands_on IndicateStatus before m stands.1.indications (is_one IndicateStatus m is_kind long) c.take-took-in-IndicateStatus.ensures.left;
      },
    )

pub returns-in_ok-push_tail-in_default-kind : goal.returns-in_ok-push_tail-in_default-kind
returns-in_ok-push_tail-in_default-kind c =
    let m : List ℕ = c.args.message.now in
    let found = c.message_kind.ensures ∙ ap (λ (h : MHead). kind_numbered h.kind) c.read-head.ensures in
    let is_kind : Some c.in-Some.kind ≡ kind_numbered (kind_of m) = sym c.in-Some.is ∙ found in
    let tail = c.in_ok-push_tail-in_default-kind.ensures ∙ ap (λ (l : List ℕ). c.push_head.new.text ++ tail_lines l) (between_to_end m 12 (length m) (omega arith)) in
    record {
      lines = λ shown before stands place.
          lines_of shown before m c.args.lines.now c.push_head.new.text (tail_lines (tail_of m)) c.push_tail-in_default-kind.new.text c.args.place c.read-head.result stands.0 place c.read-head.ensures c.in_ok-push_head.ensures tail
          (inner_whole c.in-Some.kind before m c.in_default-kind.not-Command c.in_default-kind.not-CommandDone c.in_default-kind.not-IndicateStatus ∙ ap (λ (k : Option MessageKind). inner_lines k before m) is_kind);
      shows = λ shown before stands. (
        stands.0,
        record {
          commands = stands_still Command before m stands.1.commands (is_none Command m (Some c.in-Some.kind) is_kind (λ same. c.in_default-kind.not-Command (cc)));
          answers = stands_still CommandDone before m stands.1.answers (is_none CommandDone m (Some c.in-Some.kind) is_kind (λ same. c.in_default-kind.not-CommandDone (cc)));
          indications = stands_still IndicateStatus before m stands.1.indications (is_none IndicateStatus m (Some c.in-Some.kind) is_kind (λ same. c.in_default-kind.not-IndicateStatus (cc)));
        },
      );
    }
