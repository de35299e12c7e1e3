use Rattle.std.proofs.Common.{not, true, false, [], ◌∷◌, refl, ap, ◌∙◌}
use Rattle.kit_io.proofs.Growth.{Grows-append}
use Rattle.link_io.specs.Calls as link
use Rattle.link_io.specs.Target.{address_of}
use Rattle.file_io.specs.Calls as file
use Rattle.pump.specs.Beginning.{no_letter, begun}
use Rattle.pump.proofs.begin.begin.Goals as goal

pub returns-in-Ok-clause-calls : goal.returns-in-Ok-clause-calls
returns-in-Ok-clause-calls g c =
    let on_link = c.is_err.ensures.negation ∙ ap not c.if-is_err.false in
    let on_files = c.is_err-2.ensures.negation ∙ ap not c.if-is_err-2.false in
    record {
      on_link = _;
      on_files = _;
      are = begun refl (ap (λ ok. link.Opened (address_of c.args.bridge.now) ok ∷ link.Sent c.args.letter.now true ∷ []) on_link) (ap (λ ok. file.Opened c.args.node.now c.args.side ok ∷ []) on_files);
      link_grows = Grows-append c.open.ensures.calls c.in-Ok.ensures.calls;
      files_grow = c.open-2.ensures.calls;
    }

pub returns-in-Err-clause-calls : goal.returns-in-Err-clause-calls
returns-in-Err-clause-calls g c =
    let on_link = c.is_err.ensures.negation ∙ ap not c.if-is_err.false in
    let on_files = c.is_err-2.ensures.negation ∙ ap not c.if-is_err-2.false in
    let sent = c.in-Err.ensures.calls in
    record {
      on_link = _;
      on_files = _;
      are = no_letter sent.front sent.rest sent.whole refl (ap (λ ok. link.Opened (address_of c.args.bridge.now) ok ∷ link.Sent sent.front false ∷ []) on_link) (ap (λ ok. file.Opened c.args.node.now c.args.side ok ∷ []) on_files);
      link_grows = Grows-append c.open.ensures.calls sent.grows;
      files_grow = c.open-2.ensures.calls;
    }
