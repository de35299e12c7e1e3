use Rattle.std.proofs.Common.{ℕ, List, refl}
use Rattle.std.proofs.lemmas.Result.{err_from_is_err_and}
use Rattle.modem_profile.specs.declared.parts.NetworkTexts.{NetworkTexts}
use Rattle.modem_profile.specs.Reading.{network_of}
use Rattle.modem_profile.proofs.Within.{fault_goes_on}
use Rattle.modem_profile.proofs.parts.network_of.Goals as goal

pub returns-in_err-msisdn-clause-exact : goal.returns-in_err-msisdn-clause-exact
unfolding network_of
returns-in_err-msisdn-clause-exact c =
    let p = err_from_is_err_and c.from_residual.result c.from_residual.ensures.1 in
    rw (p.1, p.2)
    (fault_goes_on {T = List ℕ} {U = NetworkTexts} (λ text. text) (λ texts. texts) _ _ _ c.in_err-msisdn.ensures)

pub returns-in_err-imei-clause-exact : goal.returns-in_err-imei-clause-exact
unfolding network_of
returns-in_err-imei-clause-exact c =
    let p = err_from_is_err_and c.from_residual-in_err-imei.result c.from_residual-in_err-imei.ensures.1 in
    rw (c.in_ok-msisdn.ensures, p.1, p.2)
    (fault_goes_on {T = List ℕ} {U = NetworkTexts} (λ text. text) (λ texts. texts) _ _ _ c.in_err-imei.ensures)

pub returns-in_err-operator-clause-exact : goal.returns-in_err-operator-clause-exact
unfolding network_of
returns-in_err-operator-clause-exact c =
    let p = err_from_is_err_and c.from_residual-in_err-operator.result c.from_residual-in_err-operator.ensures.1 in
    rw (c.in_ok-msisdn.ensures, c.in_ok-imei.ensures, p.1, p.2)
    (fault_goes_on {T = List ℕ} {U = NetworkTexts} (λ text. text) (λ texts. texts) _ _ _ c.in_err-operator.ensures)

pub returns-clause-exact : goal.returns-clause-exact
unfolding network_of
returns-clause-exact c = rw (c.in_ok-msisdn.ensures, c.in_ok-imei.ensures, c.in_ok-operator.ensures) refl
