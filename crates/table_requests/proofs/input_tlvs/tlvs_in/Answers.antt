use Rattle.std.proofs.Common.{List, ℕ, Option, [], ◌∷◌, ◌++◌, map, sym, ap, ◌∙◌, subst, arith}
use Rattle.std.proofs.lemmas.Result.{err_from_is_err_and}
use Rattle.serde_json.specs.Find.{get}
use Rattle.serde_json.specs.View.{view}
use Rattle.message_tables.specs.View.{tlv_view}
use Rattle.json_values.proofs.Continued.{Gives-same}
use Rattle.table_requests.specs.Requests.{TlvValue, spelled_by, tlvs_given}
use Rattle.table_requests.specs.Written.{IsWritten}
use Rattle.table_requests.proofs.Walks.{sound_at, left_out, given_more, misfit_is, all_given, none_given}
use Rattle.table_requests.proofs.input_tlvs.tlvs_in.Goals as goal
use Rattle.table_requests.proofs.input_tlvs.tlvs_in.Goals.{in-Some+in_ok-bytes+in_ok-written, in_default}

pub value_bytes-requires : goal.value_bytes-requires
value_bytes-requires c = (sound_at c.args.tlvs.now c.loop-tlv.tlv-index c.tlv-item.result c.requires c.loop-tlv-test.true c.tlv-item.is).well_made

pub loop-tlv-init : goal.loop-tlv-init
loop-tlv-init c = ([], none_given c.args.tlvs.now (view c.args.json.now), (c.new.ensures, rw c.new.ensures (omega arith)))

pub loop-tlv-preserved : goal.loop-tlv-preserved
loop-tlv-preserved c =
    let so_far = c.loop-tlv.invariant in
    let named = ap (λ (key : List ℕ). get key (view c.args.json.now)) c.as_str.ensures in
    elim c.match-get.branch [
      | in-Some+in_ok-bytes+in_ok-written w ↦
          let more =
          given_more c.args.tlvs.now (view c.args.json.now) c.loop-tlv.tlv-index c.tlv-item.result so_far.0 c.loop-tlv-test.true c.tlv-item.is so_far.1 (view w.in-Some.value.now)
          (sym (w.in-Some.ensures ∙ named)) w.in_ok-bytes.bytes w.in_ok-bytes.ensures in
          let entry = more.1 ∙ ap (λ (bytes : List ℕ). record { kind = c.tlv-item.result.kind; value = bytes }) (sym w.as_slice.ensures) in
          (so_far.0 ++ more.0 ∷ [], more.2, subst (λ (written : Option (List ℕ)). IsWritten written (so_far.0 ++ more.0 ∷ [])) (sym w.written-is) (w.in_ok-written.ensures so_far.0 more.0 entry so_far.2))
      | in_default w ↦
          let same = left_out c.args.tlvs.now (view c.args.json.now) c.loop-tlv.tlv-index c.tlv-item.result so_far.0 c.loop-tlv-test.true c.tlv-item.is so_far.1 (sym (w.in_default.ensures ∙ named)) in
          (so_far.0, same, subst (λ (written : Option (List ℕ)). IsWritten written so_far.0) (sym w.written-is) so_far.2)
    ]

pub returns-in_err-bytes : goal.returns-in_err-bytes
returns-in_err-bytes c =
    let so_far = c.loop-tlv.invariant in
    let named = ap (λ (key : List ℕ). get key (view c.args.json.now)) c.as_str.ensures in
    let p = err_from_is_err_and c.from_residual.result c.from_residual.ensures.1 in
    rw (p.1, p.2)
    (Gives-same (λ (octets : List ℕ). octets) (λ (values : List TlvValue). values) (spelled_by (tlv_view c.tlv-item.result) (view c.in-Some.value.now)) (tlvs_given (map tlv_view c.args.tlvs.now) (view c.args.json.now)) c.in_err-bytes.field-0.0 c.in_err-bytes.ensures
    (misfit_is c.args.tlvs.now (view c.args.json.now) c.loop-tlv.tlv-index c.tlv-item.result so_far.0 c.loop-tlv-test.true c.tlv-item.is so_far.1 (view c.in-Some.value.now) (sym (c.in-Some.ensures ∙ named))))

pub returns : goal.returns
returns c =
    let so_far = c.loop-tlv.invariant in
    (so_far.0, all_given c.args.tlvs.now (view c.args.json.now) c.loop-tlv.tlv-index so_far.0 c.loop-tlv-test.false so_far.1, so_far.2)
