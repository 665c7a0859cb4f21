-- The transactions that are held, as contracts see them, and which of them bars a name.
use Rattle.std.specs.Prelude.{ℕ, ◌<◌, Bool, if◌then◌else◌, IsTrue, IsFalse, List, [], ◌∷◌, length, Option}
use Rattle.std.specs.Option.{option_map}
use Rattle.std.specs.List.{HoldsAt, find, list_any}
use Rattle.fab_base.specs.declared.object.Oid.{Oid}
use Rattle.fab_base.specs.declared.object.Tid.{Tid}
use Rattle.fab_base.specs.declared.message.Items.{Items}
use Rattle.fab_base.specs.FlatMap.{is_among}
use Rattle.fab_protocol.specs.Versions.{is_tid}
use Rattle.fab_protocol.specs.Stores.{Prepared, changed_by, named_by}

-- the transactions, and for how many more there is room
pub record Holding : Type 0 where
  pub held : List Prepared
  pub spare : ℕ

-- a transaction of this tid is held
abbrev pub holds_tid : Tid → List Prepared → Bool
holds_tid t ps = list_any (λ p. is_tid p.0 t) ps

-- no tid twice
abbrev pub AreDistinct : List Prepared → Type 0
AreDistinct [] = Unit {0}
AreDistinct (p ∷ ps) = IsFalse (holds_tid p.0 ps) × AreDistinct ps

-- the transaction at place i has this tid
pub record IsHeldAt (t : Tid) (ps : List Prepared) (i : ℕ) : Type 0 where
  pub in_range : i < length ps
  pub tid_here : HoldsAt (λ p. IsTrue (is_tid p.0 t)) ps i

-- items bar a name that one writes or creates if they have it, and one that is read if they write or create it
abbrev pub bars : Oid → Bool → Items → Bool
bars o writing items = if writing then is_among o (named_by items) else is_among o (changed_by items)

-- the first transaction that does
abbrev pub first_barring : Oid → Bool → List Prepared → Option Tid
first_barring o writing ps = option_map (λ p. p.0) (find (λ p. bars o writing p.1) ps)
