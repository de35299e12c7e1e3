use Rattle.std.proofs.Common.{ℕ, List, refl}
use Rattle.std.proofs.lemmas.Result.{err_from_is_err_and}
use Rattle.modem_profile.specs.declared.parts.DeviceTexts.{DeviceTexts}
use Rattle.modem_profile.specs.Reading.{device_of}
use Rattle.modem_profile.proofs.Within.{fault_goes_on}
use Rattle.modem_profile.proofs.parts.device_of.Goals as goal

pub returns-in_err-manufacturer-clause-exact : goal.returns-in_err-manufacturer-clause-exact
unfolding device_of
returns-in_err-manufacturer-clause-exact c =
    let p = err_from_is_err_and c.from_residual.result c.from_residual.ensures.1 in
    rw (p.1, p.2)
    (fault_goes_on {T = List ℕ} {U = DeviceTexts} (λ text. text) (λ texts. texts) _ _ _ c.in_err-manufacturer.ensures)

pub returns-in_err-model-clause-exact : goal.returns-in_err-model-clause-exact
unfolding device_of
returns-in_err-model-clause-exact c =
    let p = err_from_is_err_and c.from_residual-in_err-model.result c.from_residual-in_err-model.ensures.1 in
    rw (c.in_ok-manufacturer.ensures, p.1, p.2)
    (fault_goes_on {T = List ℕ} {U = DeviceTexts} (λ text. text) (λ texts. texts) _ _ _ c.in_err-model.ensures)

pub returns-in_err-revision-clause-exact : goal.returns-in_err-revision-clause-exact
unfolding device_of
returns-in_err-revision-clause-exact c =
    let p = err_from_is_err_and c.from_residual-in_err-revision.result c.from_residual-in_err-revision.ensures.1 in
    rw (c.in_ok-manufacturer.ensures, c.in_ok-model.ensures, p.1, p.2)
    (fault_goes_on {T = List ℕ} {U = DeviceTexts} (λ text. text) (λ texts. texts) _ _ _ c.in_err-revision.ensures)

pub returns-clause-exact : goal.returns-clause-exact
unfolding device_of
returns-clause-exact c = rw (c.in_ok-manufacturer.ensures, c.in_ok-model.ensures, c.in_ok-revision.ensures) refl
