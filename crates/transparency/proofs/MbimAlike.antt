-- A command that is run twice: what it prints is the same, and what is run on a bench.
use Rattle.std.proofs.Common.{◌≡◌, ℕ, true, List, ◌∷◌, reverse, Option, subst}
use Rattle.std.specs.Str.{encode_utf8_all}
use Rattle.std.proofs.lemmas.Str.{chars-encodes}
use Rattle.kit_bytes.specs.declared.kind.Kind.TheVariants.{Mbim}
use Rattle.mbim_frame.specs.Frame.{size_of}
use Rattle.core_bench.specs.Runs.{Run}
use Rattle.rig_stage.specs.Running.{AreRecorded}
use Rattle.link_session.specs.Peer.{Finish}
use Rattle.mbim_session.specs.declared.plan.MbimPlan.{MbimPlan}
use Rattle.mbim_session.specs.declared.plan.MbimEnd.{MbimEnd}
use Rattle.mbim_session.specs.declared.plan.MbimEnd.TheVariants.{Answer, FunctionError}
use Rattle.mbim_session.specs.Peer.{LastWord, session_at}
use Rattle.mbim_services.specs.Requests.{IsInRange}
use Rattle.mbim_session.specs.Session.{configuration}
use Rattle.modem_profile.specs.Profile.{Profile}
use Rattle.modem_profile.specs.Limits.{IsWithin}
use Rattle.lone_client.specs.Relay.{Cast, relayed, through}
use Rattle.lone_client.specs.MbimLaw as lone
use Rattle.relays.specs.MbimLaw.{IsCommand, ReadTheSame}
use Rattle.relays.specs.MbimRuns.{direct_run, through_run, simulated_modem, time_limit}
use Rattle.relays.proofs.MbimPrinted.{tools_print_the_same}
use Rattle.printed_ends.specs.Held.{IsHeld}
use Rattle.printed_ends.specs.declared.held.Held.{Held}
use Rattle.printed_ends.specs.declared.printed.Printed.{Printed}
use Rattle.printed_ends.proofs.Same.{prints_alike}
use Rattle.transparency.specs.Peers.{cast_of, opened}
use Rattle.printed_ends.specs.Mbim.{Prints, refusal_of, text_of}
use Rattle.transparency.specs.MbimTwice.{run_of}

prints_so : (a b : MbimEnd) → ReadTheSame a b → (text_of a ≡ text_of b) × (refusal_of a ≡ refusal_of b)
prints_so (Answer a) (Answer b) same = same
prints_so (Answer a) (FunctionError code) same = absurd same
prints_so (FunctionError code) end same = absurd same

module _ (profile : Profile) (plan : MbimPlan) where
  pub same_printed : (direct through : Printed) → IsWithin profile → IsInRange plan.request → IsInRange (configuration plan) → IsCommand plan.request
      → Prints (direct_run profile plan).end direct → Prints (through_run profile plan).end through → direct ≡ through
  same_printed direct through within range device command =
      prints_alike prints_so (direct_run profile plan).end (through_run profile plan).end direct through
      (tools_print_the_same profile plan within (record { command = command; range = range; device = device }))

  -- a proxy of a device before a modem of the profile
  abbrev behind : (device : List ℕ) → Cast
  behind device = lone.cast device time_limit (simulated_modem profile)

  abbrev run_behind : (device : List ℕ) → Finish LastWord
  run_behind device = session_at (through (behind device)) (record plan { proxied = true })

  -- the core reads the device's name back
  pub held_behind : (held : Held) → IsInRange (configuration plan)
      → IsHeld Prints (session_at (through (cast_of Mbim (encode_utf8_all plan.device) size_of (simulated_modem profile))) (record plan { proxied = true })) held → IsHeld Prints (through_run profile plan) held
  held_behind held range is = subst (λ (device : List ℕ). IsHeld Prints (run_behind device) held) (chars-encodes plan.device range.0) is

  -- a core that was run for these texts, which are those of the session through the proxy
  abbrev played : (device : List ℕ) (texts : List (List ℕ)) → Run
  played device texts = record (opened Mbim device) { events = (relayed (cast_of Mbim device size_of (simulated_modem profile)) (reverse texts)).events }

  abbrev met_by : (path device : List ℕ) (texts : List (List ℕ)) → Run
  met_by path device texts = record (opened Mbim path) { events = (relayed (behind device) (reverse texts)).events }

  pub runs_so : (tells : Option (List Run)) (earlier : List Run) (device : List ℕ) (texts : List (List ℕ)) → IsInRange (configuration plan) → AreRecorded tells (played device texts ∷ earlier)
      → device ≡ encode_utf8_all plan.device → texts ≡ (through_run profile plan).talk.texts → AreRecorded tells (run_of profile plan ∷ earlier)
  runs_so tells earlier device texts range told is are =
      subst (λ (d : List ℕ). AreRecorded tells (met_by (encode_utf8_all plan.device) d (through_run profile plan).talk.texts ∷ earlier)) (chars-encodes plan.device range.0)
      (subst (λ (d : List ℕ). AreRecorded tells (played d (through_run profile plan).talk.texts ∷ earlier)) is
      (subst (λ (l : List (List ℕ)). AreRecorded tells (played device l ∷ earlier)) are told))
