use Rattle.std.proofs.Common.{ℕ, ◌+◌, Bool, ◌||◌, nat_lt, length, ap, ◌∙◌}
use Rattle.proxy_history.specs.Rendering.{put_unless}
use Rattle.qmi_proxy.specs.Limits.{outbox_limit}
use Rattle.proxy_examples.specs.Story.{version_aborted}
use Rattle.proxy_examples.proofs.connections.a_full_outbox_ends_the_rendering.Goals as goal

pub returns : goal.returns
returns c = record {
  full = λ r going waiting. ap (λ (over : Bool). put_unless over version_aborted r)
      (ap (λ (over : Bool). over || nat_lt outbox_limit (length r.waiting + length version_aborted)) going
      ∙ ap (λ (count : ℕ). nat_lt outbox_limit (count + length version_aborted)) waiting);
  fits = λ r going waiting. ap (λ (over : Bool). put_unless over version_aborted r)
      (ap (λ (over : Bool). over || nat_lt outbox_limit (length r.waiting + length version_aborted)) going
      ∙ ap (λ (count : ℕ). nat_lt outbox_limit (count + length version_aborted)) waiting);
}
