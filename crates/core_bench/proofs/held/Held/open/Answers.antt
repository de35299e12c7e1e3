use Rattle.std.proofs.Common.{◌≡◌, ℕ, false, List, [], ap, sym, subst}
use Rattle.std.specs.Str.{chars, encode_utf8_all}
use Rattle.std.proofs.lemmas.Str.{encodes-chars}
use Rattle.kit_bytes.specs.declared.kind.Kind.{Kind}
use Rattle.qmux_frame.specs.Frame as qmux
use Rattle.mbim_frame.specs.Frame as mbim
use Rattle.mbim_clients.specs.Client.{newcomer}
use Rattle.qmi_proxy.specs.Proxy.{proxy_of}
use Rattle.qmi_core.specs.Meaning.{setup_of, qmi_meaning}
use Rattle.qmi_core.specs.Lawful as qmi_law
use Rattle.mbim_core.specs.Meaning.{mbim_meaning}
use Rattle.mbim_core.specs.Lawful as mbim_law
use Rattle.proxy_core.specs.Face.{face_of, Keeps}
use Rattle.proxy_core.proofs.Meets.{opened_keeps}
use Rattle.core_bench.specs.Runs.{proxy_for}
use Rattle.core_bench.proofs.held.Held.open.Goals as goal

pub returns-in_ok-open-in-Qmi : goal.returns-in_ok-open-in-Qmi
returns-in_ok-open-in-Qmi c =
    let limits = c.args.limits.now in
    let path : List ℕ = chars c.args.device.now in
    let is : c.args.device.now ≡ encode_utf8_all path = sym (encodes-chars c.args.device.now c.utf8.device) in
    let core = c.in_ok-open-in-Qmi.field-0 in
    let opened = c.in_ok-open-in-Qmi.ensures.opened path is in
    let kept = opened_keeps qmi_meaning (record { opened = false }) qmux.size_of qmi_law.is_lawful limits path core opened (c.in_ok-open-in-Qmi.ensures.stands path is) in
    let Kept : Kind → Type 0 = λ kind. Keeps qmi_meaning (proxy_for kind limits c.args.device.now) [] core in
    record {
      keeps = subst Kept (sym c.in-Qmi.is) (subst (λ (device : List ℕ). Keeps qmi_meaning (proxy_of (setup_of limits device)) [] core) (sym is) kept);
      asked = ap (λ v. (face_of qmi_meaning v).dropped) opened;
      greatest = ap (λ v. (face_of qmi_meaning v).greatest) opened;
    }

pub returns-in_ok-open-in-Mbim : goal.returns-in_ok-open-in-Mbim
returns-in_ok-open-in-Mbim c =
    let limits = c.args.limits.now in
    let path : List ℕ = chars c.args.device.now in
    let is : c.args.device.now ≡ encode_utf8_all path = sym (encodes-chars c.args.device.now c.utf8.device) in
    let core = c.in_ok-open-in-Mbim.field-0 in
    let opened = c.in_ok-open-in-Mbim.ensures.opened path is in
    let kept = opened_keeps mbim_meaning newcomer mbim.size_of mbim_law.is_lawful limits path core opened (c.in_ok-open-in-Mbim.ensures.stands path is) in
    let Kept : Kind → Type 0 = λ kind. Keeps mbim_meaning (proxy_for kind limits c.args.device.now) [] core in
    record {
      keeps = subst Kept (sym c.in-Mbim.is) kept;
      asked = ap (λ v. (face_of mbim_meaning v).dropped) opened;
      greatest = ap (λ v. (face_of mbim_meaning v).greatest) opened;
    }
