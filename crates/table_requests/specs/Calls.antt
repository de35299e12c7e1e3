-- What calls answer: only want of memory is free.
use Rattle.std.specs.Prelude.{◌≡◌, List, ℕ, chars, Result, Ok, Err}
use Rattle.table_requests.specs.declared.request_fault.RequestFault.{RequestFault}
use Rattle.table_requests.specs.declared.request_fault.RequestFault.TheVariants.{Tables, Json, NoTlv, Misfit, TooLong, OutOfMemory}

-- what is stated, or the stated fault
abbrev pub Gives : {T A : Type 0} → (T → A) → Result A RequestFault → Result T RequestFault → Type 0
Gives seen stated (Ok found) = stated ≡ Ok (seen found)
Gives seen stated (Err OutOfMemory) = Unit {0}
Gives seen stated (Err (Tables fault)) = stated ≡ Err (Tables fault)
Gives seen stated (Err Json) = stated ≡ Err Json
Gives seen stated (Err (NoTlv name)) = stated ≡ Err (NoTlv name)
Gives seen stated (Err (Misfit path)) = stated ≡ Err (Misfit path)
Gives seen stated (Err TooLong) = stated ≡ Err TooLong

-- no TLV has this name
abbrev pub IsNoTlv : List ℕ → RequestFault → Type 0
IsNoTlv name (NoTlv told) = told ≡ chars name
IsNoTlv name OutOfMemory = Unit {0}
IsNoTlv name _ = ⊥
