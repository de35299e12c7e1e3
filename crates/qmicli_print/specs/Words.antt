-- How fields are shown, by their names, and the words for their numbers.
-- Source: the numbers are those of libqmi's enums QmiService, QmiDmsOperatingMode, QmiNasRegistrationState and QmiWdsConnectionStatus; the fields' names and the words are the program's own.
use Rattle.std.specs.Prelude.{ℕ, Bool, true, false, List, [], ◌∷◌, Option, None, codes}
use Rattle.print_text.specs.Words.{by_name, word_in}
use Rattle.qmicli_print.specs.declared.shown.Shown.{Shown}
use Rattle.qmicli_print.specs.declared.shown.Shown.TheVariants.{Plainly, Service, Mode, Registration, Connection, Address, Bytes}

-- how the field of a name is shown
abbrev pub shown_as : List ℕ → Shown
shown_as name =
    by_name
    ((codes "Service", Service) ∷ (codes "Mode", Mode) ∷ (codes "Registration", Registration) ∷ (codes "Connection", Connection)
    ∷ (codes "Primary DNS", Address) ∷ (codes "Secondary DNS", Address) ∷ (codes "Address", Address) ∷ (codes "Gateway", Address) ∷ (codes "Mask", Address)
    ∷ (codes "Data", Bytes) ∷ [])
    Plainly name

abbrev pub is_address : Shown → Bool
is_address Address = true
is_address _ = false

abbrev pub is_bytes : Shown → Bool
is_bytes Bytes = true
is_bytes _ = false

-- the word for a number that is shown so
abbrev pub word_of : Shown → ℕ → Option (List ℕ)
word_of Service n = word_in ((0, codes "ctl") ∷ (1, codes "wds") ∷ (2, codes "dms") ∷ (3, codes "nas") ∷ (5, codes "wms") ∷ []) n
word_of Mode n =
    word_in
    ((0, codes "online") ∷ (1, codes "low-power") ∷ (2, codes "factory-test") ∷ (3, codes "offline") ∷ (4, codes "reset") ∷ (5, codes "shutting-down") ∷ [])
    n
word_of Registration n =
    word_in ((0, codes "not-registered") ∷ (1, codes "registered") ∷ (2, codes "searching") ∷ (3, codes "denied") ∷ (4, codes "unknown") ∷ []) n
word_of Connection n = word_in ((1, codes "disconnected") ∷ (2, codes "connected") ∷ (3, codes "suspended") ∷ (4, codes "authenticating") ∷ []) n
word_of _ n = None
