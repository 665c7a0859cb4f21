-- What those who make journals tell.
use Rattle.std.specs.Prelude.{◌+◌, ◌-◌, ◌^◌, ◌++◌, ◌∷◌, [], ℕ, List, Option, Some, None, map, min, filter, find, reverse, Contains}
use Rattle.std.specs.Option.{option_map}
use Rattle.std.specs.Str.{bytes_eq}
use Rattle.fab_device.specs.Devices.{Held, HeldWithCalls, synced_of}

-- A journal that was kept: its node's name, and what it held.
pub record Entry : Type 0 where
  pub node : List ℕ
  pub content : List ℕ
  pub synced : ℕ
  pub faults : ℕ

-- What contracts see of who makes journals and takes them back: the nodes whose journals may ever fail, the nodes for which it made one and the
-- journals that it was given to keep, each in order, where it tells them; how often it has failed; and how many journals it lost, since it wanted
-- memory to keep them. Both counts stay at their last value, 2^64 - 1.
pub record Makers : Type 0 where
  pub may_fail : Option (List (List ℕ))
  pub made : Option (List (List ℕ))
  pub kept : Option (List Entry)
  pub faults : ℕ
  pub lost : ℕ

-- a count that stays at its last value
abbrev pub one_more : ℕ → ℕ
one_more n = min (n + 1) (2 ^ 64 - 1)

-- It is told which nodes' journals may ever fail, and this node isn't one of them.
abbrev pub CannotFail : Option (List (List ℕ)) → List ℕ → Type 0
CannotFail None node = ⊥
CannotFail (Some nodes) node = Contains nodes node → ⊥

-- the list with one more entry, where it is told
abbrev pub with_entry : Option (List Entry) → Entry → Option (List Entry)
with_entry kept entry = option_map (λ entries. entries ++ entry ∷ []) kept

-- the list with one more name, where it is told
abbrev pub with_name : Option (List (List ℕ)) → List ℕ → Option (List (List ℕ))
with_name made node = option_map (λ names. names ++ node ∷ []) made

-- what stands under a name, in order
abbrev pub all_under : {T : Type 0} → List ℕ → List (List ℕ × T) → List T
all_under node pairs = map (λ pair. pair.1) (filter (λ pair. bytes_eq pair.0 node) pairs)

-- the last that stands under a name
abbrev pub last_under : {T : Type 0} → List ℕ → List (List ℕ × T) → Option T
last_under node pairs = option_map (λ pair. pair.1) (find (λ pair. bytes_eq pair.0 node) (reverse pairs))

-- what a kept journal held
abbrev pub sure_entry : List ℕ × Held → Entry
sure_entry pair = record { node = pair.0; content = pair.1.content; synced = synced_of pair.1; faults = 0 }

abbrev pub mem_entry : List ℕ × HeldWithCalls → Entry
mem_entry pair = record (sure_entry (pair.0, pair.1.held)) { faults = pair.1.calls.faults }

-- The nodes for which journals were made, the journals that were kept, and how many were lost.
pub record SureKeeper : Type 0 where
  pub made : List (List ℕ)
  pub kept : List (List ℕ × Held)
  pub lost : ℕ

-- The same, and which calls of which nodes' journals fail.
pub record MemKeeper : Type 0 where
  pub fails : List (List ℕ × ℕ)
  pub made : List (List ℕ)
  pub kept : List (List ℕ × HeldWithCalls)
  pub lost : ℕ
