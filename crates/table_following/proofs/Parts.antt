-- A session's parts, one behind another.
use Rattle.std.proofs.Common.{◌≡◌, inl, ℕ, Bool, true, false, List, [], ◌++◌, Option, Result, Ok, Err, refl, sym, subst}
use Rattle.std.proofs.lemmas.List.{append-nil}
use Rattle.kit_io.specs.Growth.{Grows}
use Rattle.kit_io.proofs.Growth.{Grows-none, Grows-append}
use Rattle.framing.specs.declared.framing.Size.{Size}
use Rattle.framing.specs.Reading.{Reading}
use Rattle.qmux_frame.specs.Frame.{size_of}
use Rattle.link_io.specs.Calls.{Call}
use Rattle.link_session.specs.declared.fault.SessionFault.{SessionFault}
use Rattle.link_session.specs.declared.fault.SessionFault.TheVariants as fault
use Rattle.link_session.specs.Waiting.{Heard}
use Rattle.session_script.specs.Script.{Script}
use Rattle.session_script.specs.Hearing.{Goes}
use Rattle.request_session.specs.declared.client.Client.{Client}
use Rattle.request_session.specs.declared.ends.TlvAnswer.{TlvAnswer}
use Rattle.request_session.specs.declared.plan.RequestPlan.{RequestPlan}
use Rattle.request_session.specs.Session.{leave}
use Rattle.table_following.specs.Plan.{Plan}
use Rattle.table_following.specs.Session.{GrowBy, Leaves, LeavesBy, PlaysThen, Stops, TellsThen, is_link_end}
use Rattle.table_following.specs.Hearing.{TellsTo}
use Rattle.table_following.specs.declared.end.FollowedEnd.{FollowedEnd}

-- by the same plan
pub by_same : {A : Type 0} (part : RequestPlan → Script A) {plan same : RequestPlan} {heard : Heard} {result : Result A SessionFault} {cutter : Reading} {before after : Option (List Call)} → plan ≡ same
    → Goes size_of (part plan) heard result cutter before after → Goes size_of (part same) heard result cutter before after
by_same part {heard = heard} {result = result} {cutter = cutter} {before = before} {after = after} is goes =
    subst (λ (plan : RequestPlan). Goes size_of (part plan) heard result cutter before after) is goes

-- nothing is called, and nothing is shown
pub GrowBy-none : {Like : List Call → List ℕ → Type 0} (calls : Option (List Call)) (taken : Option (List ℕ)) → Like [] [] → GrowBy Like calls calls taken taken
GrowBy-none calls taken are = record { calls = []; taken = []; are = are; calls_grow = Grows-none calls; taken_grow = Grows-none taken }

module _ {A : Type 0} {script : Script A} {heard : Heard} {Then : A → Heard → List Call → List ℕ → Type 0} where
  pub part_without_memory : (calls : Option (List Call)) (taken : Option (List ℕ)) → GrowBy (λ calls taken. PlaysThen script heard (Err fault.OutOfMemory) calls taken Then) calls calls taken taken
  part_without_memory calls taken =
      GrowBy-none calls taken (record { own = []; more = []; end = Err fault.OutOfMemory; now = heard; are = refl; plays = inl (refl, refl); follows = (refl, refl, refl) })

  module _ {size : List ℕ → Size} {cutter : Reading} {before mid : Option (List Call)} where
    pub part_fails : {why : SessionFault} (taken : Option (List ℕ)) → Goes size script heard (Err why) cutter before mid → GrowBy (λ calls taken. PlaysThen script heard (Err why) calls taken Then) before mid taken taken
    part_fails {why = why} taken goes = record {
      calls = goes.calls;
      taken = [];
      are = record { own = goes.calls; more = []; end = Err why; now = goes.later; are = sym (append-nil goes.calls); plays = goes.plays; follows = (refl, refl, refl) };
      calls_grow = goes.grows;
      taken_grow = Grows-none taken;
    }

    pub part_goes : {end : A} {result : Result FollowedEnd SessionFault} {after : Option (List Call)} {taken_before taken_after : Option (List ℕ)} (goes : Goes size script heard (Ok end) cutter before mid)
        → GrowBy (λ calls taken. Then end goes.later calls taken) mid after taken_before taken_after → GrowBy (λ calls taken. PlaysThen script heard result calls taken Then) before after taken_before taken_after
    part_goes {end = end} goes rest = record {
      calls = goes.calls ++ rest.calls;
      taken = rest.taken;
      are = record { own = goes.calls; more = rest.calls; end = Ok end; now = goes.later; are = refl; plays = goes.plays; follows = rest.are };
      calls_grow = Grows-append goes.grows rest.calls_grow;
      taken_grow = rest.taken_grow;
    }

-- ---- the answer is told ----

module _
    {plan : Plan}
    {client : Client}
    {answer : TlvAnswer}
    {heard : Heard}
    {told : Result FollowedEnd SessionFault}
    {cutter : Reading}
    {before mid : Option (List Call)}
    {taken_before taken_after : Option (List ℕ)}
    (tells : TellsTo plan client answer heard told cutter before mid taken_before taken_after) where
  told_then : {result : Result FollowedEnd SessionFault} {after : Option (List Call)} (more : List Call) → Grows mid more after → Leaves plan client told tells.now result more
      → GrowBy (λ calls taken. TellsThen plan client answer heard result calls taken) before after taken_before taken_after
  told_then more grows leaves = record {
    calls = tells.takes ++ more;
    taken = tells.taken;
    are = record { takes = tells.takes; more = more; told = told; now = tells.now; are = refl; tells = tells.tells; leaves = leaves };
    calls_grow = Grows-append tells.calls_grow grows;
    taken_grow = tells.taken_grow;
  }

  -- it is the end
  pub told_ends : {result : Result FollowedEnd SessionFault} → Leaves plan client told tells.now result [] → GrowBy (λ calls taken. TellsThen plan client answer heard result calls taken) before mid taken_before taken_after
  told_ends leaves = told_then [] (Grows-none mid) leaves

module _
    {plan : Plan}
    {client : Client}
    {answer : TlvAnswer}
    {heard : Heard}
    {told : FollowedEnd}
    {cutter : Reading}
    {before mid : Option (List Call)}
    {taken_before taken_after : Option (List ℕ)}
    (tells : TellsTo plan client answer heard (Ok told) cutter before mid taken_before taken_after) where
  -- the link has ended
  pub told_link_end : is_link_end told ≡ true → GrowBy (λ calls taken. TellsThen plan client answer heard (Ok told) calls taken) before mid taken_before taken_after
  told_link_end is = told_ends tells (subst (λ (b : Bool). LeavesBy b plan client told tells.now (Ok told) []) (sym is) (refl, refl))

  module _ (is : is_link_end told ≡ false) where
    leaves_by : {result : Result FollowedEnd SessionFault} {calls : List Call} → PlaysThen (leave plan.request.session client) tells.now result calls [] (λ kept now more taken. Stops (Ok told) more taken result)
        → Leaves plan client (Ok told) tells.now result calls
    leaves_by {result = result} {calls = calls} plays = subst (λ (b : Bool). LeavesBy b plan client told tells.now result calls) (sym is) plays

    -- the client id is left
    pub told_left : {kept : Option (ℕ × ℕ)} {last : Reading} {after : Option (List Call)} → Goes size_of (leave plan.request.session client) tells.now (Ok kept) last mid after
        → GrowBy (λ calls taken. TellsThen plan client answer heard (Ok told) calls taken) before after taken_before taken_after
    told_left {kept = kept} goes =
        told_then tells goes.calls goes.grows
        (leaves_by (record { own = goes.calls; more = []; end = Ok kept; now = goes.later; are = sym (append-nil goes.calls); plays = goes.plays; follows = (refl, refl, refl) }))

    -- or that fails
    pub told_unleft : {why : SessionFault} {last : Reading} {after : Option (List Call)} → Goes size_of (leave plan.request.session client) tells.now (Err why) last mid after
        → GrowBy (λ calls taken. TellsThen plan client answer heard (Err why) calls taken) before after taken_before taken_after
    told_unleft {why = why} goes =
        told_then tells goes.calls goes.grows
        (leaves_by (record { own = goes.calls; more = []; end = Err why; now = goes.later; are = sym (append-nil goes.calls); plays = goes.plays; follows = (refl, refl, refl) }))
