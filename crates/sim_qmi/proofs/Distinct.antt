-- No client id is given twice.
use Rattle.std.proofs.Common.{◌≡◌, ℕ, Bool, true, false, List, [], ◌∷◌, ◌++◌, Option, Some, None, refl}
use Rattle.std.proofs.lemmas.Option.{same_Some}
use Rattle.std.proofs.Common.{subst}
use Rattle.std.specs.Prelude.{cond, filter, find, not, ◌||◌, ◌&&◌, ◌==◌, if◌then◌else◌, Result, Ok, Err}
use Rattle.std.specs.List.{AllByRecursion, IsDistinct, list_any}
use Rattle.kit_bytes.proofs.Lists.{all_filter, all_push}
use Rattle.qmux_frame.specs.declared.kind.MessageKind.{MessageKind}
use Rattle.qmux_frame.specs.declared.kind.MessageKind.TheVariants as kind
use Rattle.qmux_frame.specs.Head.{head_of, tlvs_in}
use Rattle.qmux_frame.specs.Kind.{framed_kind}
use Rattle.modem_profile.specs.Profile.{Profile}
use Rattle.sim_qmi.specs.declared.client_id.ClientId.{ClientId}
use Rattle.sim_qmi.specs.declared.request.Request.{Request}
use Rattle.sim_qmi.specs.declared.request.Request.TheVariants.{Ctl, Wds, Dms, Nas, Wms}
use Rattle.sim_qmi.specs.declared.ctl.CtlRequest.TheVariants as ctl
use Rattle.sim_qmi.specs.declared.wds.WdsRequest.TheVariants as wds
use Rattle.sim_qmi.specs.declared.dms.DmsRequest.TheVariants as dms
use Rattle.sim_qmi.specs.declared.nas.NasRequest.TheVariants as nas
use Rattle.sim_qmi.specs.declared.wms.WmsRequest.TheVariants as wms
use Rattle.sim_qmi.specs.Ctl.{allocates, client_id}
use Rattle.sim_qmi.specs.Errors.{invalid_client_id}
use Rattle.sim_qmi.specs.Laws.{NoIdIsGivenTwice, is_same}
use Rattle.sim_modem.specs.Sim.{state_after}
use Rattle.sim_qmi.specs.Modem.{machine, serves, takes, takes_kind}
use Rattle.sim_qmi.specs.Requests.{asked}
use Rattle.sim_qmi.specs.State.{State, client_ids, free_id, is_client, is_given, message_at, without_client}
use Rattle.sim_qmi.specs.Step.{refused, success}
use Rattle.sim_qmi.specs.Wms.{deletes, reads}

-- ---- lists of client ids ----

or_parts : (a b : Bool) → (a || b) ≡ false → (a ≡ false) × (b ≡ false)
or_parts true b neither = absurd cc
or_parts false b neither = (refl, neither)

push : (clients : List ClientId) (service id : ℕ) → IsDistinct is_same clients → is_given clients service id ≡ false → IsDistinct is_same (clients ++ record { service = service; id = id } ∷ [])
unfolding IsDistinct
push [] service id distinct free = (tt, tt)
push (first ∷ clients) service id distinct free =
    let p = or_parts (is_client service id first) (list_any (is_client service id) clients) free in
    (all_push (λ client. is_same first client ≡ false) clients (record { service = service; id = id }) distinct.0 p.0, push clients service id distinct.1 p.1)

distinct_filter : (p : ClientId → Bool) (clients : List ClientId) → IsDistinct is_same clients → IsDistinct is_same (filter p clients)
unfolding IsDistinct
distinct_filter p [] distinct = tt
distinct_filter p (first ∷ clients) distinct = here (p first) (all_filter (λ client. is_same first client ≡ false) p clients distinct.0) (distinct_filter p clients distinct.1)
  where
    here : (b : Bool) → AllByRecursion (λ client. is_same first client ≡ false) (filter p clients) → IsDistinct is_same (filter p clients)
        → IsDistinct is_same (cond b (first ∷ filter p clients) (filter p clients))
    here true apart rest = (apart, rest)
    here false apart rest = rest

-- ---- the id that is given ----

find_passes : (p : ℕ → Bool) (ids : List ℕ) (id : ℕ) → find p ids ≡ Some id → p id ≡ true
find_passes p [] id is = absurd cc
find_passes p (first ∷ ids) id is = here (p first) refl (find_passes p ids id) is
  where
    here : (b : Bool) → p first ≡ b → (find p ids ≡ Some id → p id ≡ true) → cond b (Some first) (find p ids) ≡ Some id → p id ≡ true
    here true passes later is = subst (λ (n : ℕ). p n ≡ true) (same_Some first id is) passes
    here false passes later is = later is

not_true : (b : Bool) → not b ≡ true → b ≡ false
not_true true is = absurd cc
not_true false is = refl

free_isnt_given : (clients : List ClientId) (service id : ℕ) → free_id clients service ≡ Some id → is_given clients service id ≡ false
free_isnt_given clients service id is = not_true (is_given clients service id) (find_passes (λ n. not (is_given clients service n)) client_ids id is)

-- ---- what a request makes of them ----

AreDistinct : State → Type 0
AreDistinct state = IsDistinct is_same state.clients

allocated : (state : State) (service : ℕ) (free : Option ℕ) → AreDistinct state → ((id : ℕ) → free ≡ Some id → is_given state.clients service id ≡ false) → AreDistinct (allocates state service free).state
unfolding AreDistinct
allocated state service None distinct isnt = distinct
allocated state service (Some id) distinct isnt = push state.clients service id distinct (isnt id refl)

released : (state : State) (service id : ℕ) (given : Bool) → AreDistinct state
    → AreDistinct (if given then record { answer = success (Some (client_id service id) ∷ []); state = without_client state service id } else refused state invalid_client_id).state
unfolding AreDistinct
released state service id true distinct = distinct_filter (λ client. not (is_client service id client)) state.clients distinct
released state service id false distinct = distinct

stopped : (state : State) (ends : Bool) → AreDistinct state → AreDistinct (if ends then record { answer = success []; state = record state { connected = false } } else refused state invalid_client_id).state
unfolding AreDistinct
stopped state true distinct = distinct
stopped state false distinct = distinct

read : (state : State) (message : Option (List ℕ)) → AreDistinct state → AreDistinct (reads state message).state
unfolding AreDistinct
read state None distinct = distinct
read state (Some message) distinct = distinct

deleted : (state : State) (index : ℕ) (message : Option (List ℕ)) → AreDistinct state → AreDistinct (deletes state index message).state
unfolding AreDistinct
deleted state index None distinct = distinct
deleted state index (Some message) distinct = distinct

served : (profile : Profile) (state : State) (request : Request) → AreDistinct state → AreDistinct (serves profile state request).state
unfolding AreDistinct
served profile state (Ctl (ctl.Allocate service)) distinct = allocated state service (free_id state.clients service) distinct (free_isnt_given state.clients service)
served profile state (Ctl (ctl.Release service id)) distinct = released state service id (is_given state.clients service id) distinct
served profile state (Wds (wds.StopNetwork handle)) distinct = stopped state (state.connected && handle == state.handle) distinct
served profile state (Wms (wms.RawRead index)) distinct = read state (message_at state index) distinct
served profile state (Wms (wms.Delete (Some index))) distinct = deleted state index (message_at state index) distinct
-- no other touches them, such as these
served profile state (Dms (dms.SetOperatingMode mode)) distinct = distinct
served profile state (Nas nas.GetSignalStrength) distinct = distinct
served profile state request distinct = distinct

taken : (profile : Profile) (state : State) (message : List ℕ) (found : Result Request ℕ) → AreDistinct state → AreDistinct (takes profile state (head_of message) found).state
taken profile state message (Err error) distinct = distinct
taken profile state message (Ok request) distinct = served profile state request distinct

of_kind : (profile : Profile) (state : State) (message : List ℕ) (found : Option MessageKind) → AreDistinct state → AreDistinct (takes_kind profile state message found).state
of_kind profile state message (Some kind.Request) distinct = taken profile state message (asked state (head_of message) (tlvs_in message)) distinct
of_kind profile state message (Some kind.Response) distinct = distinct
of_kind profile state message (Some kind.Indication) distinct = distinct
of_kind profile state message None distinct = distinct

pub distinct : NoIdIsGivenTwice
unfolding AreDistinct IsDistinct
distinct profile [] = tt
distinct profile (message ∷ past) = of_kind profile (state_after (machine profile) past) message (framed_kind message) (distinct profile past)
