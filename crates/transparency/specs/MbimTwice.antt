-- What is run on a bench of a command that is run twice.
use Rattle.std.specs.Str.{encode_utf8_all}
use Rattle.kit_bytes.specs.declared.kind.Kind.TheVariants.{Mbim}
use Rattle.core_bench.specs.Runs.{Run}
use Rattle.mbim_session.specs.declared.plan.MbimPlan.{MbimPlan}
use Rattle.modem_profile.specs.Profile.{Profile}
use Rattle.transparency.specs.Peers.{opened}
use Rattle.relays.specs.MbimRuns.{relay}

abbrev pub run_of : Profile → MbimPlan → Run
run_of profile plan = record (opened Mbim (encode_utf8_all plan.device)) { events = relay profile plan }
