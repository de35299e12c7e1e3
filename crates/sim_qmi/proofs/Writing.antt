-- What is written: the parts fit, and they are what the definitions say.
use Rattle.std.proofs.Common.{◌≡◌, ℕ, ◌≤◌, List, length, Option, Some, None, refl, sym, ◌∙◌, ap, subst}
use Rattle.std.proofs.lemmas.Option.{same_Some}
use Rattle.std.specs.Prelude.{IsSome, option_map}
use Rattle.tlv_codec.specs.Tlv.{tlv_text}
use Rattle.qmi_values.specs.Value.{Value}
use Rattle.qmi_services.specs.declared.table.Row as declared
use Rattle.qmi_services.specs.Modem.{output_tlvs, row_at}
use Rattle.qmi_services.specs.Table as table
use Rattle.qmi_services.specs.Table.{Output, Row}
use Rattle.qmi_services.specs.View.{row_view}
use Rattle.modem_profile.specs.Profile.{Profile}
use Rattle.modem_profile.specs.Limits.{IsWithin}
use Rattle.sim_qmi.specs.declared.request.Request.{Request}
use Rattle.sim_qmi.specs.Fits.{Fits, IsInRange}
use Rattle.sim_qmi.specs.Modem.{serves}
use Rattle.sim_qmi.specs.Nas.{serving_system}
use Rattle.sim_qmi.specs.Requests.{row_of}
use Rattle.sim_qmi.specs.State.{IsSound, State}
use Rattle.sim_qmi.specs.Step.{Answer, success}
use Rattle.sim_qmi.proofs.Fits.{serves_fit, serving_system_fits}

-- ---- the serving system ----

pub serving_found : (found : Option declared.Row) → option_map row_view found ≡ row_at 3 36 → IsSome found
unfolding row_at
serving_found None is = absurd cc
serving_found (Some row) is = refl

pub serving_line : (found : Option declared.Row) (row : declared.Row) → option_map row_view found ≡ row_at 3 36 → found ≡ Some row → row_view row ≡ table.get_serving_system
unfolding row_at
serving_line found row is at = same_Some (row_view row) table.get_serving_system (ap (option_map row_view) (sym at) ∙ is)

pub record IsServing (profile : Profile) (mode : ℕ) (row : Row) (values : List (Option Value)) : Type 0 where
  pub line : row ≡ table.get_serving_system
  pub values_are : values ≡ serving_system profile mode

pub serving_fits : (profile : Profile) (mode : ℕ) (row : Row) (values : List (Option Value)) → IsServing profile mode row values → IsWithin profile → Fits row.output (success values)
serving_fits profile mode row values is within =
    subst (λ (r : Row). Fits r.output (success values)) (sym is.line)
    (subst (λ (vs : List (Option Value)). Fits table.get_serving_system.output (success vs)) (sym is.values_are) (serving_system_fits profile mode within))

pub serving_written : (profile : Profile) (mode : ℕ) (row : Row) (values : List (Option Value)) → IsServing profile mode row values
    → tlv_text (output_tlvs row.output values) ≡ tlv_text (output_tlvs table.get_serving_system.output (serving_system profile mode))
serving_written profile mode row values is =
    ap (λ (r : Row). tlv_text (output_tlvs r.output values)) is.line ∙ ap (λ (vs : List (Option Value)). tlv_text (output_tlvs table.get_serving_system.output vs)) is.values_are

-- ---- an answer ----

pub answer_fits : (profile : Profile) (state : State) (request : Request) (row : Row) (answer : Answer) → IsWithin profile → IsSound state → IsInRange request
    → row ≡ row_of request → answer ≡ (serves profile state request).answer → Fits row.output answer
answer_fits profile state request row answer within sound range line is =
    subst (λ (r : Row). Fits r.output answer) (sym line) (subst (λ (a : Answer). Fits (row_of request).output a) (sym is) (serves_fit profile state request within sound range))

pub serving_short : (profile : Profile) (mode : ℕ) (tlvs : List ℕ) → IsWithin profile → tlvs ≡ tlv_text (output_tlvs table.get_serving_system.output (serving_system profile mode)) → length tlvs ≤ 4096
serving_short profile mode tlvs within is = subst (λ (l : List ℕ). length l ≤ 4096) (sym is) (serving_system_fits profile mode within).1
