-- Calls that name a profile and a device: from them both can be told.
use Rattle.std.specs.Prelude.{ℕ, ℤ, pos, negsuc, List, [], ◌∷◌}
use Rattle.link_io.specs.Calls.{Call, Took, Closed}
use Rattle.modem_profile.specs.declared.phonebook.PhonebookEntry.{PhonebookEntry}
use Rattle.modem_profile.specs.Profile.{Profile}

abbrev pub named_number : ℤ → List ℕ
named_number (pos n) = 0 ∷ n ∷ []
named_number (negsuc n) = 1 ∷ n ∷ []

-- texts, an end, and what stands behind
unfoldable pub named_texts : List (List ℕ) → List Call → List Call
named_texts [] behind = Closed ∷ behind
named_texts (text ∷ texts) behind = Took text ∷ named_texts texts behind

unfoldable pub named_entries : List PhonebookEntry → List Call → List Call
named_entries [] behind = Closed ∷ behind
named_entries (entry ∷ entries) behind = Took entry.number ∷ Took entry.name ∷ named_entries entries behind

unfoldable pub named_profile : Profile → List Call → List Call
named_profile profile behind =
    Took profile.manufacturer ∷ Took profile.model ∷ Took profile.revision ∷ Took profile.msisdn ∷ Took profile.imei ∷ Took profile.operator
    ∷ Took (profile.mcc ∷ profile.mnc ∷ []) ∷ Took (named_number profile.signal) ∷ named_texts profile.sms (named_entries profile.phonebook behind)

-- of a modem of a profile behind a proxy of a device
unfoldable pub named_proxy : Profile → (device : List ℕ) → List Call → List Call
named_proxy profile device behind = Took device ∷ named_profile profile behind
