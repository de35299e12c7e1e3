use Rattle.std.proofs.Common.{sym, ◌∙◌, arith}
use Rattle.std.proofs.lemmas.Bool.{false≢true}
use Rattle.std.proofs.lemmas.List.{get_or_default}
use Rattle.std.proofs.lemmas.Slice.Eq.{bytes_eq-Decides}
use Rattle.mbim_services.proofs.Named.{none-there, none-is, compared-is, compared-not}
use Rattle.mbim_services.proofs.paths.config_path_is.Goals as goal

pub returns-then-size-eq0 : goal.returns-then-size-eq0
returns-then-size-eq0 c =
    let none = sym c.u32_at-size.ensures ∙ c.if-size-eq0.true in
    (λ empty. none-there c.args.buffer.now c.args.path.now c.if-buffer-lt12.false none (sym c.is_empty.ensures ∙ empty), λ has. c.is_empty.ensures ∙ none-is c.args.buffer.now c.args.path.now none has)

pub returns-then-eq : goal.returns-then-eq
returns-then-eq c =
    compared-is c.args.buffer.now c.args.path.now c.u32_at-offset.result c.u32_at-size.result c.is_utf16.result c.u32_at-offset.ensures c.u32_at-size.ensures c.if-buffer-lt12.false c.if-buffer-offset.false
    (λ i d below. rw (get_or_default c.args.buffer.now i d 0 below) (omega (arith, c.type_inv.buffer i))) ((bytes_eq-Decides _ _).0 (sym c.eq.ensures ∙ c.if-eq.true)) c.is_utf16.ensures

pub returns-else-eq : goal.returns-else-eq
returns-else-eq c =
    compared-not c.args.buffer.now c.args.path.now c.u32_at-offset.result c.u32_at-size.result c.eq.result c.u32_at-offset.ensures c.u32_at-size.ensures (λ i d below. rw (get_or_default c.args.buffer.now i d 0 below) (omega (arith, c.type_inv.buffer i))) c.if-eq.false
    (λ same. false≢true (sym c.if-eq.false ∙ c.eq.ensures ∙ (bytes_eq-Decides _ _).1 same))
