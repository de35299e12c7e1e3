use Rattle.std.proofs.Common.{◌++◌, List, ℕ, ◌∙◌, ap, map}
use Rattle.std.specs.Prelude.{option_map}
use Rattle.tlv_codec.specs.Tlv.{tlv_text}
use Rattle.qmi_services.specs.Modem.{output_tlvs}
use Rattle.qmi_services.specs.View.{row_view}
use Rattle.qmi_values.specs.View.{val_view}
use Rattle.sim_qmi.proofs.Writing.{IsServing, serving_found, serving_line, serving_fits, serving_written, serving_short}
use Rattle.sim_qmi.proofs.response.system_tlvs.Goals as goal

pub unwrap-message-requires : goal.unwrap-message-requires
unwrap-message-requires c = serving_found c.message_at.result c.message_at.ensures

pub write_outputs-requires : goal.write_outputs-requires
write_outputs-requires c =
    let is : IsServing c.args.profile.now c.args.mode (row_view c.unwrap-message.result) (map (option_map val_view) c.deref.result.now) = record {
      line = serving_line c.message_at.result c.unwrap-message.result c.message_at.ensures c.unwrap-message.ensures;
      values_are = ap (map (option_map val_view)) c.deref.ensures.value ∙ c.in_ok-values.ensures;
    } in
    (serving_fits c.args.profile.now c.args.mode _ _ is c.requires).0

pub returns-clause-exact : goal.returns-clause-exact
returns-clause-exact c =
    let is : IsServing c.args.profile.now c.args.mode (row_view c.unwrap-message.result) (map (option_map val_view) c.deref.result.now) = record {
      line = serving_line c.message_at.result c.unwrap-message.result c.message_at.ensures c.unwrap-message.ensures;
      values_are = ap (map (option_map val_view)) c.deref.ensures.value ∙ c.in_ok-values.ensures;
    } in
    c.in_ok-write_outputs.ensures
    ∙ ap (λ (old : List ℕ). old ++ tlv_text (output_tlvs (row_view c.unwrap-message.result).output (map (option_map val_view) c.deref.result.now))) c.new-tlvs.ensures
    ∙ serving_written c.args.profile.now c.args.mode (row_view c.unwrap-message.result) (map (option_map val_view) c.deref.result.now) is

pub returns-clause-short : goal.returns-clause-short
returns-clause-short c = serving_short c.args.profile.now c.args.mode c.write_outputs.new.out c.requires (returns-clause-exact c)
