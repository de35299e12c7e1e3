-- What reading a part of a description gives.
use Rattle.std.specs.Prelude.{List, [], ◌∷◌, Option, Some, None}
use Rattle.serde_json.specs.Data.{Data, Items, no_items, item}
use Rattle.message_tables.specs.declared.fault.MemberName.{MemberName}

-- the first member that is missing or isn't as it has to be; or, where there is none, that a format isn't known; or, where all are, what was read
pub data Reading (A : Type 0) : Type 0 where
  faulty : MemberName → Reading A
  unknown : Reading A
  known : A → Reading A

abbrev pub reading_map : {A B : Type 0} → (A → B) → Reading A → Reading B
reading_map f (faulty name) = faulty name
reading_map f unknown = unknown
reading_map f (known a) = known (f a)

-- one part and then another: reading goes on behind a format that isn't known, and stops at a member
abbrev pub and_then : {A B C : Type 0} → (A → B → C) → Reading A → Reading B → Reading C
and_then f (faulty name) second = faulty name
and_then f unknown (faulty name) = faulty name
and_then f unknown unknown = unknown
and_then f unknown (known b) = unknown
and_then f (known a) second = reading_map (f a) second

-- the value of a function that is read, at one that is read behind it
abbrev pub applied : {A B : Type 0} → Reading (A → B) → Reading A → Reading B
applied first second = and_then (λ f a. f a) first second

-- a member that has to be there
abbrev pub required : {A : Type 0} → MemberName → Option A → Reading A
required which None = faulty which
required which (Some a) = known a

-- what each value of a list describes
abbrev pub listed : {A : Type 0} → (Data → Reading A) → Items → Reading (List A)
listed read no_items = known []
listed read (item value values) = and_then (λ first more. first ∷ more) (read value) (listed read values)
