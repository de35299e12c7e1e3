-- A command that is run twice: what it prints is the same, and what is run on a bench.
use Rattle.std.proofs.Common.{◌≡◌, ℕ, List, ◌∷◌, reverse, Option, subst}
use Rattle.std.specs.Str.{encode_utf8_all}
use Rattle.kit_bytes.specs.declared.kind.Kind.TheVariants.{Qmi}
use Rattle.qmux_frame.specs.Frame.{size_of}
use Rattle.core_bench.specs.Runs.{Run}
use Rattle.rig_stage.specs.Running.{AreRecorded}
use Rattle.device_core.specs.declared.plan.QmiPlan.{QmiPlan}
use Rattle.modem_profile.specs.Profile.{Profile}
use Rattle.modem_profile.specs.Limits.{IsWithin}
use Rattle.sim_modem.specs.Sim.{answers}
use Rattle.sim_qmi.specs.Modem.{machine}
use Rattle.lone_client.specs.Relay.{relayed}
use Rattle.relays.specs.QmiRuns.{direct_run, through_run}
use Rattle.relays.proofs.QmiPrinted.{tools_print_the_same}
use Rattle.printed_ends.specs.declared.printed.Printed.{Printed}
use Rattle.printed_ends.proofs.Same.{prints_alike}
use Rattle.transparency.specs.Peers.{cast_of, opened}
use Rattle.printed_ends.specs.Qmi.{Prints}
use Rattle.transparency.specs.QmiTwice.{AreShort, IsTold, run_of}

module _ (profile : Profile) (plan : QmiPlan) where
  pub same_printed : (direct through : Printed) → IsWithin profile → AreShort plan → IsTold profile plan
      → Prints (direct_run profile plan).end direct → Prints (through_run profile plan).end through → direct ≡ through
  same_printed direct through within short told =
      prints_alike (λ a b same. same) (direct_run profile plan).end (through_run profile plan).end direct through
      (tools_print_the_same profile plan within told.sound (record { command = told.command; inputs = short.inputs; device = short.device }))

  -- a core that was run for these texts, which are those of the session through the proxy
  abbrev played : (device : List ℕ) (texts : List (List ℕ)) → Run
  played device texts = record (opened Qmi device) { events = (relayed (cast_of Qmi device size_of (answers (machine profile))) (reverse texts)).events }

  pub runs_so : (tells : Option (List Run)) (earlier : List Run) (device : List ℕ) (texts : List (List ℕ)) → AreRecorded tells (played device texts ∷ earlier)
      → device ≡ encode_utf8_all plan.device → texts ≡ (through_run profile plan).talk.texts → AreRecorded tells (run_of profile plan ∷ earlier)
  runs_so tells earlier device texts told is are =
      subst (λ (d : List ℕ). AreRecorded tells (played d (through_run profile plan).talk.texts ∷ earlier)) is
      (subst (λ (l : List (List ℕ)). AreRecorded tells (played device l ∷ earlier)) are told)
