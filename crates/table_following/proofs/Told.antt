-- An answer is told.
use Rattle.std.proofs.Common.{◌≡◌, ℕ, ◌==◌, true, false, List, [], ◌++◌, Option, Ok, Err, refl}
use Rattle.kit_io.specs.Growth.{Grows, GrowsByFront}
use Rattle.kit_io.proofs.Growth.{Grows-none, Grows-append}
use Rattle.framing.specs.Reading.{Reading}
use Rattle.qmux_frame.specs.Frame.{size_of}
use Rattle.link_io.specs.Calls.{Call}
use Rattle.link_session.specs.declared.fault.SessionFault.{SessionFault}
use Rattle.link_session.specs.declared.fault.SessionFault.TheVariants as fault
use Rattle.link_session.specs.Waiting.{Heard}
use Rattle.link_session.specs.Hearing.{Stands}
use Rattle.link_following.specs.declared.end.FollowEnd.{FollowEnd}
use Rattle.link_following.specs.declared.end.FollowEnd.TheVariants.{WriteFault}
use Rattle.link_following.specs.Hearing.{FollowsTo}
use Rattle.request_session.specs.declared.client.Client.{Client}
use Rattle.request_session.specs.declared.ends.TlvAnswer.{TlvAnswer}
use Rattle.table_requests.specs.Answers.{answer_text}
use Rattle.table_following.specs.Lines.{followed_lines}
use Rattle.table_following.specs.Plan.{Plan, kept_by, watched}
use Rattle.table_following.specs.Session.{denied, no_memory, shown, unwritten}
use Rattle.table_following.specs.Hearing.{TellsTo}
use Rattle.table_following.specs.declared.end.FollowedEnd.TheVariants.{Refused, Followed}

module _ (plan : Plan) (client : Client) (answer : TlvAnswer) {heard : Heard} {before : Option (List Call)} {taken_before : Option (List ℕ)} where
  pub tells_denied : {cutter : Reading} → (answer.outcome.status == 0) ≡ false → Stands size_of cutter heard → TellsTo plan client answer heard (Ok (Refused answer.outcome.error)) cutter before before taken_before taken_before
  tells_denied other stands = record {
    takes = [];
    now = heard;
    taken = [];
    tells = denied other refl refl refl refl;
    stands = stands;
    calls_grow = Grows-none before;
    taken_grow = Grows-none taken_before;
  }

  module _ (success : (answer.outcome.status == 0) ≡ true) where
    pub tells_without_memory : (cutter : Reading) → TellsTo plan client answer heard (Err fault.OutOfMemory) cutter before before taken_before taken_before
    tells_without_memory cutter = record {
      takes = [];
      now = heard;
      taken = [];
      tells = no_memory success refl refl refl refl;
      stands = tt;
      calls_grow = Grows-none before;
      taken_grow = Grows-none taken_before;
    }

    pub tells_unwritten : {cutter : Reading} {taken_after : Option (List ℕ)} → Stands size_of cutter heard → GrowsByFront taken_before (answer_text plan.request answer (kept_by plan.request.session client)) taken_after
        → TellsTo plan client answer heard (Ok (Followed WriteFault)) cutter before before taken_before taken_after
    tells_unwritten stands (rest, front) = record {
      takes = [];
      now = heard;
      taken = front.front;
      tells = unwritten rest success refl refl front.whole refl;
      stands = stands;
      calls_grow = Grows-none before;
      taken_grow = front.grows;
    }

    module _ {taken_mid taken_after : Option (List ℕ)} {after : Option (List Call)} (written : Grows taken_before (answer_text plan.request answer (kept_by plan.request.session client)) taken_mid) where
      pub tells_followed : {last : Reading} (end : FollowEnd) → FollowsTo size_of (followed_lines (watched plan client)) plan.turns heard (Ok end) last before after taken_mid taken_after
          → TellsTo plan client answer heard (Ok (Followed end)) last before after taken_before taken_after
      tells_followed end follows = record {
        takes = follows.takes;
        now = follows.later;
        taken = answer_text plan.request answer (kept_by plan.request.session client) ++ follows.taken;
        tells = shown (Ok end) follows.taken success follows.follows refl refl;
        stands = follows.stands;
        calls_grow = follows.calls_grow;
        taken_grow = Grows-append written follows.taken_grow;
      }

      pub tells_broken_off : {last : Reading} (why : SessionFault) → FollowsTo size_of (followed_lines (watched plan client)) plan.turns heard (Err why) last before after taken_mid taken_after
          → TellsTo plan client answer heard (Err why) last before after taken_before taken_after
      tells_broken_off why follows = record {
        takes = follows.takes;
        now = follows.later;
        taken = answer_text plan.request answer (kept_by plan.request.session client) ++ follows.taken;
        tells = shown (Err why) follows.taken success follows.follows refl refl;
        stands = tt;
        calls_grow = follows.calls_grow;
        taken_grow = Grows-append written follows.taken_grow;
      }
