use Rattle.std.proofs.Common.{refl}
use Rattle.mbim_services.proofs.requests.ip_configuration_of.Goals as goal

pub returns : goal.returns
returns c =
    simp (
      c.in_ok-vec.ensures.items,
      c.number.ensures,
      c.number-2.ensures,
      c.number-3.ensures,
      c.number-4.ensures,
      c.no_elements.ensures,
      c.number-5.ensures,
      c.no_elements-2.ensures,
      c.absent.ensures,
      c.absent-2.ensures,
      c.number-6.ensures,
      c.no_elements-3.ensures,
      c.number-7.ensures,
      c.no_elements-4.ensures,
      c.number-8.ensures,
      c.number-9.ensures,
    )
    refl
