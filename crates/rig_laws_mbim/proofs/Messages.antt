-- The messages of the rig's clients and of its modem, for MBIM.
use Rattle.std.proofs.Common.{◌≡◌, ℕ, ◌+◌, ◌^◌, ◌<◌, ◌≤◌, Bool, true, false, not, ◌&&◌, ◌==◌, if◌then◌else◌, List, [], ◌∷◌, ◌++◌, length, Option, Some, None, refl, ap, sym, ◌∙◌, arith, lit≤}
use Rattle.std.specs.Prelude.{codes}
use Rattle.std.specs.Char.{encode_utf8}
use Rattle.kit_bytes.specs.Hex.{hex}
use Rattle.kit_bytes.specs.declared.services.TheConstants.{BASIC_CONNECT}
use Rattle.framing.specs.Framing.{IsMessage}
use Rattle.framing.specs.Cutting.{cut_from}
use Rattle.mbim_frame.specs.declared.kind.MessageKind.TheVariants.{Open, Command, CommandDone, IndicateStatus, FunctionError}
use Rattle.mbim_frame.specs.Kinds.{kind_number}
use Rattle.mbim_frame.specs.Frame.{size_of}
use Rattle.mbim_frame.specs.Head.{kind_of, is_kind, number_of, with_number}
use Rattle.mbim_frame.specs.Fragment.{body_of}
use Rattle.mbim_frame.specs.Bodies.{uuid_of, cid_of, done_text}
use Rattle.mbim_frame.specs.Writing.{unsplit, open_done, open_request}
use Rattle.mbim_fragments.specs.Runs.{Joining, Whole}
use Rattle.mbim_fragments.specs.Assembling.{Assembled, fresh, joining_behind, assembled_after}
use Rattle.mbim_fragments.specs.Splitting.{split}
use Rattle.proxy_history.specs.Coming.{piece_limit}
use Rattle.modem_profile.specs.Profile.{default_profile}
use Rattle.mbim_requests.specs.declared.MbimRequest.TheVariants.{ProxyConfiguration, QueryRadioState, QueryHomeProvider, QueryRegistrationState, QuerySignalState}
use Rattle.mbim_services.specs.Table.{layout_for}
use Rattle.mbim_session.specs.Requests.{command_message}
use Rattle.mbim_proxy.specs.Known.{Known}
use Rattle.mbim_proxy.specs.OwnReplies.{OwnReply, Configures, is_open_request, is_command_fragment, is_for_modem, may_open, reply_to_joining, own_reply, view_decides}
use Rattle.mbim_proxy.specs.Step.{command_with}
use Rattle.mbim_proxy.specs.Text.{SHARE_PASSED}
use Rattle.mbim_proxy.specs.FromModem.{IsDone, IsOpenDone, heard_as}
use Rattle.mbim_proxy.specs.Delivering.{is_fragment}
use Rattle.mbim_proxy.specs.Forwarding.{own_open, wire_of}
use Rattle.mbim_proxy.specs.Clients as clients
use Rattle.sim_modem.specs.Sim.{Machine}
use Rattle.sim_mbim.specs.Modem.{started}
use Rattle.sim_mbim.specs.Answers.{State, machine}
use Rattle.rig_runs.specs.Rig.{device}
use Rattle.rig_runs.specs.Mbim.{setup, asks_for}
use Rattle.rig_runs.specs.MbimExamples.{configuration, open_2}

-- ---- what a client says to open ----

pub said_configuration : command_message (ProxyConfiguration device) 1 ≡ configuration
unfolding command_message encode_utf8
said_configuration = refl

abbrev pub configuring : List ℕ
configuring = body_of configuration

pub record IsConfiguration : Type 0 where
  pub is_message : IsMessage size_of configuration
  pub short : length configuration ≤ piece_limit
  pub fragment : is_command_fragment configuration ≡ true
  pub no_open : is_open_request configuration ≡ false
  pub whole : joining_behind 65536 fresh configuration ≡ Whole configuring
  pub closed : assembled_after 65536 fresh configuration ≡ fresh
  -- the reply of a client's own view to it
  pub reply : (known : Known) → reply_to_joining setup known (Whole configuring) ≡ Configures configuring
  pub own : (known : Known) → is_for_modem known (Whole configuring) ≡ false
  pub number : number_of configuration ≡ 1

pub configuration_is : IsConfiguration
configuration_is = record {
  is_message = refl;
  short = lit≤ tt;
  fragment = refl;
  no_open = refl;
  whole = refl;
  closed = refl;
  reply = λ known. refl;
  own = λ known. refl;
  number = refl;
}

pub record IsOpening : Type 0 where
  pub said : open_request 2 4096 ≡ open_2
  pub is_message : IsMessage size_of open_2
  pub short : length open_2 ≤ piece_limit
  pub no_fragment : is_command_fragment open_2 ≡ false
  pub opens : is_open_request open_2 ≡ true
  pub number : number_of open_2 ≡ 2

pub opening_is : IsOpening
opening_is = record { said = refl; is_message = refl; short = lit≤ tt; no_fragment = refl; opens = refl; number = refl }

-- ---- queries ----

abbrev pub body : (cid : ℕ) → List ℕ
body cid = BASIC_CONNECT ++ cid ∷ 0 ∷ 0 ∷ 0 ∷ 0 ∷ 0 ∷ 0 ∷ 0 ∷ 0 ∷ 0 ∷ 0 ∷ 0 ∷ []

-- under this number
abbrev pub query : (cid number : ℕ) → List ℕ
query cid number = unsplit 3 number (body cid)

abbrev pub cid_for : (choice : ℕ) → ℕ
cid_for choice = if choice == 0 then 3 else if choice == 1 then 6 else if choice == 2 then 9 else 11

by_cid : (P : ℕ → Type 0) → P 3 → P 6 → P 9 → P 11 → (choice : ℕ) → P (cid_for choice)
by_cid P three six nine eleven choice = by (choice == 0) (choice == 1) (choice == 2)
  where
    by : (a b c : Bool) → P (if a then 3 else if b then 6 else if c then 9 else 11)
    by true b c = three
    by false true c = six
    by false false true = nine
    by false false false = eleven

pub said_query : (choice number : ℕ) → command_message (asks_for choice) number ≡ query (cid_for choice) number
unfolding command_message
said_query choice number = by (choice == 0) (choice == 1) (choice == 2)
  where
    by : (a b c : Bool) → command_message (if a then QueryRadioState else if b then QueryHomeProvider else if c then QueryRegistrationState else QuerySignalState) number ≡ query (if a then 3 else if b then 6 else if c then 9 else 11) number
    by true b c = refl
    by false true c = refl
    by false false true = refl
    by false false false = refl

pub record IsQuery (cid : ℕ) : Type 0 where
  pub is_message : (number : ℕ) → IsMessage size_of (query cid number)
  pub short : (number : ℕ) → length (query cid number) ≤ 200
  pub fragment : (number : ℕ) → is_command_fragment (query cid number) ≡ true
  pub no_open : (number : ℕ) → is_open_request (query cid number) ≡ false
  pub whole : (number : ℕ) → joining_behind 65536 fresh (query cid number) ≡ Whole (body cid)
  pub closed : (number : ℕ) → assembled_after 65536 fresh (query cid number) ≡ fresh
  pub shared : (known : Known) → known.opened ≡ true → is_for_modem known (Whole (body cid)) ≡ true
  pub no_request_to_open : (number : ℕ) → is_kind Open (query cid number) ≡ false
  pub wire : (number other : ℕ) → wire_of setup number (query cid other) ≡ query cid number
  -- the answer to one that passes its client's share
  pub refused : (number : ℕ) → length (split (kind_number CommandDone) number 4096 (done_text (record { uuid = uuid_of (body cid); cid = cid_of (body cid); status = SHARE_PASSED }) [])) ≤ 200

pub query_is : (choice : ℕ) → IsQuery (cid_for choice)
query_is = by_cid IsQuery three six nine eleven
  where
    three : IsQuery 3
    three = record { is_message = λ number. refl; short = λ number. lit≤ tt; fragment = λ number. refl; no_open = λ number. refl; whole = λ number. refl; closed = λ number. refl; shared = λ known opened. ap (λ (b : Bool). b && true) opened; no_request_to_open = λ number. refl; wire = λ number other. refl; refused = λ number. lit≤ tt }

    six : IsQuery 6
    six = record { is_message = λ number. refl; short = λ number. lit≤ tt; fragment = λ number. refl; no_open = λ number. refl; whole = λ number. refl; closed = λ number. refl; shared = λ known opened. ap (λ (b : Bool). b && true) opened; no_request_to_open = λ number. refl; wire = λ number other. refl; refused = λ number. lit≤ tt }

    nine : IsQuery 9
    nine = record { is_message = λ number. refl; short = λ number. lit≤ tt; fragment = λ number. refl; no_open = λ number. refl; whole = λ number. refl; closed = λ number. refl; shared = λ known opened. ap (λ (b : Bool). b && true) opened; no_request_to_open = λ number. refl; wire = λ number other. refl; refused = λ number. lit≤ tt }

    eleven : IsQuery 11
    eleven = record { is_message = λ number. refl; short = λ number. lit≤ tt; fragment = λ number. refl; no_open = λ number. refl; whole = λ number. refl; closed = λ number. refl; shared = λ known opened. ap (λ (b : Bool). b && true) opened; no_request_to_open = λ number. refl; wire = λ number other. refl; refused = λ number. lit≤ tt }

-- the number of a message reads as it was written
pub query_number_is : (cid number : ℕ) → number < 2 ^ 32 → number_of (query cid number) ≡ number
query_number_is cid number below = omega (arith, below)

-- ---- answers ----

abbrev pub answer_body : (cid : ℕ) → List ℕ
answer_body cid =
    if cid == 3 then hex (codes "A2 89 CC 33 BC BB 8B 4F B6 B0 13 3E C2 AA E6 DF 03 00 00 00 00 00 00 00 08 00 00 00 01 00 00 00 01 00 00 00")
    else if cid == 6 then hex (codes "A2 89 CC 33 BC BB 8B 4F B6 B0 13 3E C2 AA E6 DF 06 00 00 00 00 00 00 00 44 00 00 00 20 00 00 00 0A 00 00 00 00 00 00 00 2C 00 00 00 16 00 00 00 00 00 00 00 14 00 00 00 00 00 00 00 30 00 30 00 31 00 30 00 31 00 00 00 45 00 78 00 61 00 6D 00 70 00 6C 00 65 00 20 00 4E 00 65 00 74 00 00 00")
    else if cid == 9 then hex (codes "A2 89 CC 33 BC BB 8B 4F B6 B0 13 3E C2 AA E6 DF 09 00 00 00 00 00 00 00 30 00 00 00 00 00 00 00 03 00 00 00 00 00 00 00 00 00 00 00 00 00 00 00 00 00 00 00 00 00 00 00 00 00 00 00 00 00 00 00 00 00 00 00 00 00 00 00 00 00 00 00")
    else hex (codes "A2 89 CC 33 BC BB 8B 4F B6 B0 13 3E C2 AA E6 DF 0B 00 00 00 00 00 00 00 14 00 00 00 14 00 00 00 00 00 00 00 00 00 00 00 00 00 00 00 00 00 00 00")

abbrev pub answer : (cid number : ℕ) → List ℕ
answer cid number = unsplit 0x80000003 number (answer_body cid)

-- the modem once it was opened
abbrev pub opened_modem : State
opened_modem = record { begun = fresh; modem = record (started default_profile) { opened = true; longest = 4096 } }

pub record IsAnswer (cid : ℕ) : Type 0 where
  pub short_body : length (answer_body cid) ≤ 100
  pub short : (number : ℕ) → length (answer cid number) ≤ 200
  pub is_message : (number : ℕ) → IsMessage size_of (answer cid number)
  pub heard : (number : ℕ) → heard_as (answer cid number) ≡ IsDone
  pub split_is : (number : ℕ) → split (kind_number CommandDone) number 4096 (answer_body cid) ≡ answer cid number
  -- in a client's fragments
  pub no_error : (number : ℕ) → is_kind FunctionError (with_number 0 (answer cid number)) ≡ false
  pub in_fragments : (number other : ℕ) → length (split (kind_of (with_number 0 (answer cid number))) other 4096 (body_of (with_number 0 (answer cid number)))) ≤ 200
  -- it is what the modem says to the query
  pub said : (number : ℕ) → (machine default_profile).sends opened_modem (query cid number) ≡ answer cid (number_of (query cid number))
  pub stays : (number : ℕ) → (machine default_profile).next opened_modem (query cid number) ≡ opened_modem

pub answer_is : (choice : ℕ) → IsAnswer (cid_for choice)
unfolding layout_for encode_utf8
answer_is = by_cid IsAnswer three six nine eleven
  where
    three : IsAnswer 3
    three = record { short_body = lit≤ tt; short = λ number. lit≤ tt; is_message = λ number. refl; heard = λ number. refl; split_is = λ number. refl; no_error = λ number. refl; in_fragments = λ number other. lit≤ tt; said = λ number. refl; stays = λ number. refl }

    six : IsAnswer 6
    six = record { short_body = lit≤ tt; short = λ number. lit≤ tt; is_message = λ number. refl; heard = λ number. refl; split_is = λ number. refl; no_error = λ number. refl; in_fragments = λ number other. lit≤ tt; said = λ number. refl; stays = λ number. refl }

    nine : IsAnswer 9
    nine = record { short_body = lit≤ tt; short = λ number. lit≤ tt; is_message = λ number. refl; heard = λ number. refl; split_is = λ number. refl; no_error = λ number. refl; in_fragments = λ number other. lit≤ tt; said = λ number. refl; stays = λ number. refl }

    eleven : IsAnswer 11
    eleven = record { short_body = lit≤ tt; short = λ number. lit≤ tt; is_message = λ number. refl; heard = λ number. refl; split_is = λ number. refl; no_error = λ number. refl; in_fragments = λ number other. lit≤ tt; said = λ number. refl; stays = λ number. refl }

-- ---- the opening of the modem ----

abbrev pub own_open_under : (number : ℕ) → List ℕ
own_open_under number = open_request number 4096

abbrev pub opened : (number : ℕ) → List ℕ
opened number = open_done number 0

pub record OpensModem (number : ℕ) : Type 0 where
  pub wire : wire_of setup number (own_open setup) ≡ own_open_under number
  pub is_request : IsMessage size_of (own_open_under number)
  pub is_own : is_kind Open (own_open setup) ≡ true
  pub is_message : IsMessage size_of (opened number)
  pub short : length (opened number) ≤ 200
  pub no_answer : is_fragment CommandDone (opened number) ≡ false
  pub no_indication : is_fragment IndicateStatus (opened number) ≡ false
  pub heard : heard_as (opened number) ≡ IsOpenDone
  pub said : (machine default_profile).sends (machine default_profile).fresh (own_open_under number) ≡ opened (number_of (own_open_under number))
  pub opens : (machine default_profile).next (machine default_profile).fresh (own_open_under number) ≡ opened_modem

pub modem_is_opened : (number : ℕ) → OpensModem number
modem_is_opened number = record { wire = refl; is_request = refl; is_own = refl; is_message = refl; short = lit≤ tt; no_answer = refl; no_indication = refl; heard = refl; said = refl; opens = refl }

pub open_number_is : (number : ℕ) → number < 2 ^ 32 → number_of (own_open_under number) ≡ number
open_number_is number below = omega (arith, below)

pub opened_number_is : (number : ℕ) → number < 2 ^ 32 → number_of (opened number) ≡ number
opened_number_is number below = omega (arith, below)

pub answer_number_is : (cid number : ℕ) → number < 2 ^ 32 → number_of (answer cid number) ≡ number
answer_number_is cid number below = omega (arith, below)
