-- What a client of an MBIM proxy gets that is alone there, where the modem answers at once. Lists of turns and of messages have the newest first.
use Rattle.std.specs.Prelude.{◌≡◌, ℕ, ◌^◌, ◌<◌, ◌≤◌, true, false, List, [], ◌∷◌, ◌++◌, length, map}
use Rattle.std.specs.List.{AllByRecursion, flat_map}
use Rattle.kit_bytes.specs.Services.{starting_list}
use Rattle.kit_bytes.specs.Indications.{wants}
use Rattle.mbim_frame.specs.declared.kind.MessageKind.TheVariants as kind
use Rattle.mbim_frame.specs.declared.status.TheConstants.{SUCCESS}
use Rattle.mbim_frame.specs.Frame.{size_of, mbim_cut}
use Rattle.mbim_frame.specs.Kinds.{kind_number}
use Rattle.mbim_frame.specs.Bodies.{uuid_of, cid_of, done_text, is_command, is_done, is_indication}
use Rattle.mbim_frame.specs.Writing.{open_done, close_done}
use Rattle.mbim_fragments.specs.Splitting.{pieces, split}
use Rattle.proxy_history.specs.Coming.{AreSound, piece_limit}
use Rattle.mbim_proxy.specs.Setup.{Setup, mbim_setup}
use Rattle.mbim_proxy.specs.OwnReplies.{is_for_proxy, is_subscribe_list, configures}
use Rattle.mbim_proxy.specs.History.{mbim_protocol}
use Rattle.mbim_proxy.specs.Proxy.{proxy_of}
use Rattle.lone_client.specs.Relay.{Answering, Cast, Stage, sent_for, asked_then, relayed, reply}
use Rattle.lone_client.specs.Turns.{Turn, Names, Opens, Commands, Closes, Joined, Named, Opened, longest_message, text_of, phase_after, next_number, asked_under}

-- the bytes of an answer and of an indication with these bodies
abbrev pub done_bytes : (number : ℕ) → (done : List ℕ) → List ℕ
done_bytes number done = split (kind_number kind.CommandDone) number longest_message done

abbrev pub told_bytes : (told : List (List ℕ)) → List ℕ
told_bytes told = flat_map (λ body. split (kind_number kind.IndicateStatus) 0 longest_message body) told

-- their messages
abbrev pub done_messages : (number : ℕ) → (done : List ℕ) → List (List ℕ)
done_messages number done = pieces (kind_number kind.CommandDone) number longest_message done

abbrev pub told_messages : (told : List (List ℕ)) → List (List ℕ)
told_messages told = flat_map (λ body. pieces (kind_number kind.IndicateStatus) 0 longest_message body) told

-- a body that a message in fragments may carry
abbrev pub IsShort : List ℕ → Type 0
IsShort body = length body ≤ 65536

-- the body of an indication to which whoever opens a modem listens
pub record IsTold (body : List ℕ) : Type 0 where
  pub indication : is_indication body ≡ true
  pub wanted : wants starting_list (uuid_of body) (cid_of body) ≡ true
  pub short : IsShort body

module _ (device : List ℕ) (time_limit : ℕ) (modem : Answering) where
  abbrev pub setup : Setup
  setup = mbim_setup device time_limit false

  abbrev pub cast : Cast
  cast = record { proxy = proxy_of setup; modem = modem; size = size_of }

  abbrev pub stage_after : List Turn → Stage
  stage_after turns = relayed cast (map text_of turns)

  -- what the modem says to a turn
  abbrev pub said_to : Turn → List Turn → List (List ℕ)
  said_to turn turns = sent_for size_of modem (stage_after turns).asked (mbim_cut (asked_under (next_number turns) turn)).messages

  -- ---- turns that are met ----

  -- the client names the proxy's device, as its first turn
  pub record NamesTheDevice (number : ℕ) (command : List ℕ) (turns : List Turn) : Type 0 where
    pub phase : phase_after turns ≡ Joined
    pub number_fits : number < 2 ^ 32
    pub short : IsShort command
    pub comes_at_once : length (text_of (Names number command)) ≤ piece_limit
    pub is_command : is_command command ≡ true
    pub for_proxy : is_for_proxy command ≡ true
    pub configures : configures setup command ≡ true

  -- the modem lets itself be opened
  pub record IsOpened (number : ℕ) (turns : List Turn) : Type 0 where
    pub phase : phase_after turns ≡ Named
    pub number_fits : number < 2 ^ 32
    pub opens : said_to (Opens number) turns ≡ open_done (next_number turns) SUCCESS ∷ []

  -- the modem answers with this body, and behind it tells this
  pub record IsAnswered (turn : Turn) (turns : List Turn) (told : List (List ℕ)) : Type 0 where
    pub done : List ℕ
    pub said : said_to turn turns ≡ done_messages (next_number turns) done ++ told_messages told
    pub is_done : is_done done ≡ true
    pub short : IsShort done

  -- the client is open, and asks what the proxy leaves to the modem
  pub record AsksTheModem (number : ℕ) (command : List ℕ) (turns : List Turn) : Type 0 where
    pub phase : phase_after turns ≡ Opened
    pub number_fits : number < 2 ^ 32
    pub short : IsShort command
    pub comes_at_once : length (text_of (Commands number command)) ≤ piece_limit
    pub is_command : is_command command ≡ true
    pub for_modem : is_for_proxy command ≡ false
    pub no_list : is_subscribe_list command ≡ false
    pub told : List (List ℕ)
    pub answered : IsAnswered (Commands number command) turns told
    pub are_told : AllByRecursion IsTold told
    -- all of it may wait for the client
    pub room : length (done_bytes number answered.done ++ told_bytes told) ≤ 262144

  -- the client is open and closes, and the modem answers what the proxy then asks
  pub record IsClosed (number : ℕ) (turns : List Turn) : Type 0 where
    pub phase : phase_after turns ≡ Opened
    pub number_fits : number < 2 ^ 32
    pub answered : IsAnswered (Closes number) turns []

  abbrev pub IsMet : Turn → List Turn → Type 0
  IsMet (Names number command) turns = NamesTheDevice number command turns
  IsMet (Opens number) turns = IsOpened number turns
  IsMet (Commands number command) turns = AsksTheModem number command turns
  IsMet (Closes number) turns = IsClosed number turns

  abbrev pub AreMet : List Turn → Type 0
  AreMet [] = Unit {0}
  AreMet (turn ∷ turns) = IsMet turn turns × AreMet turns

  -- ---- what comes of them ----

  -- what the client gets: the modem's answer and what it tells come under the client's own number
  abbrev pub got : (turn : Turn) (turns : List Turn) → IsMet turn turns → List ℕ
  got (Names number command) turns met = done_bytes number (done_text (record { uuid = uuid_of command; cid = cid_of command; status = SUCCESS }) [])
  got (Opens number) turns met = open_done number SUCCESS
  got (Commands number command) turns met = done_bytes number met.answered.done ++ told_bytes met.told
  got (Closes number) turns met = close_done number SUCCESS

  pub record IsServed (turn : Turn) (turns : List Turn) (met : IsMet turn turns) : Type 0 where
    pub reply_is : reply cast (text_of turn) (stage_after turns) ≡ got turn turns met
    -- what the modem was asked by then
    pub asked_is : (stage_after (turn ∷ turns)).asked ≡ asked_then (stage_after turns).asked (mbim_cut (asked_under (next_number turns) turn)).messages
    -- and a proxy can be run on what it meets
    pub sound : AreSound (mbim_protocol setup) (stage_after (turn ∷ turns)).events

-- each turn of a client that is alone with a modem that answers at once is served
abbrev pub LoneClientsAreServed : Type 0
LoneClientsAreServed =
    (device : List ℕ) (time_limit : ℕ) (modem : Answering) (turn : Turn) (turns : List Turn) (met : IsMet device time_limit modem turn turns) → AreMet device time_limit modem turns
    → IsServed device time_limit modem turn turns met
