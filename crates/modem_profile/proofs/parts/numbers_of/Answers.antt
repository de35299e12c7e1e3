use Rattle.std.proofs.Common.{rules, w8}
use Rattle.std.proofs.Math.Facts.{to_z-of_z}
use mir.Val.{SFits}
use Rattle.serde_json.specs.View.{view}
use Rattle.modem_profile.specs.declared.fault.MemberName.TheVariants.{Mcc, Mnc, Signal}
use Rattle.modem_profile.proofs.Within.{code-within, signal-within}
use Rattle.modem_profile.proofs.parts.numbers_of.Goals as goal

pub returns-clause-limits : goal.returns-clause-limits
returns-clause-limits c =
    let fits : SFits w8 c.in_ok-signal.signal = search rules in
    record {
      mcc = code-within Mcc _ (view c.args.object.now) c.in_ok-mcc.ensures;
      mnc = code-within Mnc _ (view c.args.object.now) c.in_ok-mnc.ensures;
      signal = rw (to_z-of_z fits) (signal-within Signal _ (view c.args.object.now) c.in_ok-signal.ensures);
    }
