-- How what a call answers goes with what is to be read: only want of memory is free.
use Rattle.std.specs.Prelude.{◌≡◌, List, [], ◌∷◌, ◌++◌, Option, Some, None, Result, Ok, Err}
use Rattle.message_tables.specs.declared.fault.ObjectFault.{ObjectFault}
use Rattle.message_tables.specs.declared.fault.ObjectFault.TheVariants.{Member, Format, Twice, Deep, OutOfMemory}
use Rattle.message_tables.specs.Reading.{Reading, faulty, unknown, known}

abbrev pub same : {A : Type 0} → A → A
same a = a

-- a value that is known, or the faulty member
abbrev pub Gets : {T A : Type 0} → (T → A) → Result T ObjectFault → Reading A → Type 0
Gets seen (Ok value) reading = reading ≡ known (seen value)
Gets seen (Err (Member name)) reading = reading ≡ faulty name
Gets seen (Err Format) reading = ⊥
Gets seen (Err Twice) reading = ⊥
Gets seen (Err Deep) reading = ⊥
Gets seen (Err OutOfMemory) reading = Unit {0}

-- the same, and None where a format isn't known
abbrev pub Reads : {T A : Type 0} → (T → A) → Result (Option T) ObjectFault → Reading A → Type 0
Reads seen (Ok (Some value)) reading = reading ≡ known (seen value)
Reads seen (Ok None) reading = reading ≡ unknown
Reads seen (Err (Member name)) reading = reading ≡ faulty name
Reads seen (Err Format) reading = ⊥
Reads seen (Err Twice) reading = ⊥
Reads seen (Err Deep) reading = ⊥
Reads seen (Err OutOfMemory) reading = Unit {0}

-- parts and one part more, where all of them are known
abbrev pub pushed : {A : Type 0} → Option (List A) → Option A → Option (List A)
pushed None part = None
pushed (Some parts) None = None
pushed (Some parts) (Some part) = Some (parts ++ part ∷ [])

-- a value, or a format that isn't known, or the faulty member
abbrev pub Finds : {T A : Type 0} → (T → A) → Result T ObjectFault → Reading A → Type 0
Finds seen (Ok value) reading = reading ≡ known (seen value)
Finds seen (Err (Member name)) reading = reading ≡ faulty name
Finds seen (Err Format) reading = reading ≡ unknown
Finds seen (Err Twice) reading = ⊥
Finds seen (Err Deep) reading = ⊥
Finds seen (Err OutOfMemory) reading = Unit {0}
