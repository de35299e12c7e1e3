use Rattle.std.proofs.Common.{◌≡◌, refl, ap}
use Rattle.std.proofs.lemmas.Result.{err_from_is_err_and}
use Rattle.qmi_values.specs.Reading.{Reading}
use Rattle.qmi_values.proofs.Readings.{fixed_cut, text_cut, text_cut_behind, text_taken}
use Rattle.qmi_values.proofs.reader.Reader.text.Goals as goal

pub returns-in_err-count-clause-err : goal.returns-in_err-count-clause-err
returns-in_err-count-clause-err c =
    let p = err_from_is_err_and c.from_residual.result c.from_residual.ensures.1 in
    rw (p.1, p.2) (text_cut c.args.prefix c.args.self.now c.in_err-count.field-0.0 c.in_err-count.ensures.err)

pub returns-in_default-clause-err : goal.returns-in_default-clause-err
returns-in_default-clause-err c =
    let place : c.self.inside.place ≡ c.args.self.now.place = ap (λ (r : Reading). r.place) c.self.view_is in
    rw place (text_cut_behind c.args.prefix c.in_ok-count.count c.args.self.now c.count.new.self c.in_ok-count.ensures.ok c.in_ok-count.ensures.rest (fixed_cut c.in_ok-count.count c.count.new.self c.in_default.field-0 c.in_default.ensures.err))

pub returns-clause-ok : goal.returns-clause-ok
returns-clause-ok c =
    text_taken c.args.prefix c.in_ok-count.count c.in-Ok.octets.now c.args.self.now c.count.new.self c.take.new.self c.in_ok-count.ensures.ok c.in-Ok.ensures.ok.0 c.in-Ok.ensures.ok.1
