-- The words for the numbers of fields, by the fields' names.
-- Source: the numbers are those of MBIM_SUBSCRIBER_READY_STATE, MBIM_RADIO, MBIM_PIN_STATE, MBIM_REGISTER_STATE, MBIM_PACKET_SERVICE_STATE and MBIM_ACTIVATION_STATE in the USB-IF MBIM specification 1.0; the words are the program's own.
use Rattle.std.specs.Prelude.{ℕ, List, [], ◌∷◌, Option, Some, None, option_and_then, codes}
use Rattle.print_text.specs.Words.{by_name, word_in}
use Rattle.mbimcli_print.specs.declared.words.Words.{Words}
use Rattle.mbimcli_print.specs.declared.words.Words.TheVariants.{Ready, Radio, Pin, Register, Packet, Activation}

-- which words the numbers of a field have
abbrev pub words_for : List ℕ → Option Words
words_for name =
    by_name
    ((codes "ReadyState", Some Ready) ∷ (codes "HwRadioState", Some Radio) ∷ (codes "SwRadioState", Some Radio) ∷ (codes "PinState", Some Pin)
    ∷ (codes "RegisterState", Some Register) ∷ (codes "PacketServiceState", Some Packet) ∷ (codes "ActivationState", Some Activation) ∷ [])
    None name

abbrev pub word_of : Words → ℕ → Option (List ℕ)
word_of Ready n =
    word_in
    ((0, codes "not-initialized") ∷ (1, codes "initialized") ∷ (2, codes "sim-not-inserted") ∷ (3, codes "bad-sim") ∷ (4, codes "failure") ∷ (5, codes "not-activated") ∷ (6, codes "device-locked") ∷ [])
    n
word_of Radio n = word_in ((0, codes "off") ∷ (1, codes "on") ∷ []) n
word_of Pin n = word_in ((0, codes "unlocked") ∷ (1, codes "locked") ∷ []) n
word_of Register n =
    word_in
    ((0, codes "unknown") ∷ (1, codes "deregistered") ∷ (2, codes "searching") ∷ (3, codes "home") ∷ (4, codes "roaming") ∷ (5, codes "partner") ∷ (6, codes "denied") ∷ [])
    n
word_of Packet n = word_in ((0, codes "unknown") ∷ (1, codes "attaching") ∷ (2, codes "attached") ∷ (3, codes "detaching") ∷ (4, codes "detached") ∷ []) n
word_of Activation n = word_in ((0, codes "unknown") ∷ (1, codes "activated") ∷ (2, codes "activating") ∷ (3, codes "deactivated") ∷ (4, codes "deactivating") ∷ []) n

-- the word for a number of the field of a name
abbrev pub word_for : List ℕ → ℕ → Option (List ℕ)
word_for name n = option_and_then (λ words. word_of words n) (words_for name)
