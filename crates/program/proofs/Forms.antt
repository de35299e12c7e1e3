-- The sessions of each kind of modem, with their ends printed in the form that words want.
use Rattle.std.proofs.Common.{◌≡◌, refl, true}
use Rattle.device_core.specs.Session.{Session}
use Rattle.device_core.specs.declared.plan.QmiPlan.{QmiPlan}
use Rattle.mbim_session.specs.Session as mbim
use Rattle.mbim_session.specs.declared.plan.MbimPlan.{MbimPlan}
use Rattle.tunnel_session.specs.Session as tunnel
use Rattle.qmicli_print.specs.Answer.{end_text}
use Rattle.sms_answers.specs.Qmi.{qmi_bodies}
use Rattle.sms_print.specs.declared.decoding.Decoding.TheVariants.{Each}
use Rattle.tool_runs.specs.Json.{end_line, inside_line, mbim_line}
use Rattle.tool_runs.specs.Mbim as of_mbim
use Rattle.tool_runs.specs.Qmi.{refused}
use Rattle.tool_runs.specs.Tunnel as inside
use Rattle.tool_words.specs.declared.form.AnswerForm.{AnswerForm}
use Rattle.tool_words.specs.declared.form.AnswerForm.TheVariants as form
use Rattle.program.specs.Running.{asked_in_form, inside_asked, itself_asked, mbim_asked_in}

pub itself-in_form : (form : AnswerForm) (plan : QmiPlan) → asked_in_form form Each Session refused end_text qmi_bodies end_line plan ≡ itself_asked form plan
itself-in_form form.Lines plan = refl
itself-in_form form.Decoded plan = refl
itself-in_form form.Json plan = refl

pub inside-in_form : (form : AnswerForm) (plan : QmiPlan) → asked_in_form form Each tunnel.Session inside.refused inside.printed inside.bodies inside_line plan ≡ inside_asked form plan
inside-in_form form.Lines plan = refl
inside-in_form form.Decoded plan = refl
inside-in_form form.Json plan = refl

pub mbim-in_form : (form : AnswerForm) (plan : MbimPlan)
    → asked_in_form form (of_mbim.mbim_decoding true plan.request) mbim.Session of_mbim.refused of_mbim.printed of_mbim.bodies mbim_line plan ≡ mbim_asked_in form plan
mbim-in_form form.Lines plan = refl
mbim-in_form form.Decoded plan = refl
mbim-in_form form.Json plan = refl
