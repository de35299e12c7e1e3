use Rattle.std.proofs.lemmas.Result.{err_from_is_err_and}
use Rattle.qmi_values.proofs.Readings.{count_cut}
use Rattle.qmi_values.proofs.reader.Reader.count.Goals as goal

pub returns-in_err-unsigned-in-Counted-clause-err :
    goal.returns-in_err-unsigned-in-Counted-clause-err
returns-in_err-unsigned-in-Counted-clause-err c =
    let p = err_from_is_err_and c.from_residual.result c.from_residual.ensures.1 in
    rw (p.1, p.2, c.in-Counted.is) (count_cut c.in-Counted.size c.args.self.now c.in_err-unsigned-in-Counted.field-0.0 c.in_err-unsigned-in-Counted.ensures.err)
