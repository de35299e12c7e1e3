-- What decoding answers.
use Rattle.std.specs.Prelude.{◌≡◌, ◌<◌, ◌≤◌, ℕ, ◌-◌, ◌^◌, List, Err}
use Rattle.mbim_fields.specs.Layout.{Layout}
use Rattle.mbim_fields.specs.Value.{Value}
use Rattle.mbim_fields.specs.Reading.{Read, read}
use Rattle.mbim_fields.specs.Fields.{Fields}
use Rattle.mbim_fields.specs.Footprint.{footprint, footprint_limit}
use Rattle.mbim_fields.specs.declared.fault.FieldFault.{FieldFault}
use Rattle.mbim_fields.specs.declared.fault.FieldFault.TheVariants.{OutOfRange, Lone, TooLarge, OutOfMemory}

-- this is the first fault of what is read, but for want of memory
abbrev pub Refuses : {A : Type 0} → Read A → FieldFault → Type 0
Refuses read (OutOfRange place) = read ≡ Err (OutOfRange place)
Refuses read (Lone place) = read ≡ Err (Lone place)
Refuses read TooLarge = ⊥
Refuses read OutOfMemory = Unit {0}

-- it counts as more bytes than are left, but for want of memory
abbrev pub Exceeds : (footprint left : ℕ) → FieldFault → Type 0
Exceeds footprint left TooLarge = left < footprint
Exceeds footprint left OutOfMemory = Unit {0}
Exceeds footprint left _ = ⊥

-- this is the first fault of what is read, or what is read counts as more bytes than are left, but for want of memory
abbrev pub Ends : {A : Type 0} → Read A → (footprint left : ℕ) → FieldFault → Type 0
Ends read footprint left (OutOfRange place) = (read ≡ Err (OutOfRange place)) × (footprint ≤ left)
Ends read footprint left (Lone place) = (read ≡ Err (Lone place)) × (footprint ≤ left)
Ends read footprint left TooLarge = left < footprint
Ends read footprint left OutOfMemory = Unit {0}

-- a buffer has no values in a layout
abbrev pub HasNone : Layout → List ℕ → Type 0
HasNone layout buffer = (values : List Value) → Fields layout values buffer → ⊥

-- what is read of a buffer counts as no more bytes than the limit
abbrev pub IsWithinLimit : Layout → List ℕ → Type 0
IsWithinLimit layout buffer = footprint layout buffer ≤ footprint_limit

-- a buffer has no values in a layout, and this is its first fault, or what is read of it counts as more bytes than the limit, but for want of memory
abbrev pub IsRefused : Layout → List ℕ → FieldFault → Type 0
IsRefused layout buffer (OutOfRange place) = HasNone layout buffer × (read layout buffer ≡ Err (OutOfRange place)) × IsWithinLimit layout buffer
IsRefused layout buffer (Lone place) = HasNone layout buffer × (read layout buffer ≡ Err (Lone place)) × IsWithinLimit layout buffer
IsRefused layout buffer TooLarge = footprint_limit < footprint layout buffer
IsRefused layout buffer OutOfMemory = Unit {0}

-- how many bytes a slice has at most
abbrev pub longest_slice : ℕ
longest_slice = 2 ^ 63 - 1
