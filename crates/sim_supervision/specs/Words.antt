-- The words that start a simulated modem.
use Rattle.std.specs.Prelude.{ℕ, List, [], ◌∷◌, ◌++◌, Option, Some, None, codes, decimal}
use Rattle.std.specs.Str.{encode_utf8_all}
use Rattle.kit_bytes.specs.declared.Kind.{Kind}
use Rattle.kit_bytes.specs.declared.Kind.TheVariants.{Qmi, Mbim}

abbrev pub kind_word : Kind → List ℕ
kind_word Qmi = codes "qmi"
kind_word Mbim = codes "mbim"

-- modem-sim --kind=KIND --socket=PATH --turns=N
unfoldable pub default_words : Kind → (socket : List ℕ) → (turns : ℕ) → List (List ℕ)
default_words kind socket turns =
    codes "modem-sim"
    ∷ (codes "--kind=" ++ kind_word kind)
    ∷ (codes "--socket=" ++ encode_utf8_all socket)
    ∷ (codes "--turns=" ++ decimal turns)
    ∷ []

-- and --profile=FILE, where a file is named
abbrev pub profile_words : Kind → (socket : List ℕ) → (turns : ℕ) → (profile : Option (List ℕ)) → List (List ℕ)
profile_words kind socket turns (Some file) = default_words kind socket turns ++ (codes "--profile=" ++ encode_utf8_all file) ∷ []
profile_words kind socket turns None = default_words kind socket turns

-- and --rules=FILE likewise
abbrev pub start_words : Kind → (socket : List ℕ) → (turns : ℕ) → (profile rules : Option (List ℕ)) → List (List ℕ)
start_words kind socket turns profile (Some file) = profile_words kind socket turns profile ++ (codes "--rules=" ++ encode_utf8_all file) ∷ []
start_words kind socket turns profile None = profile_words kind socket turns profile
