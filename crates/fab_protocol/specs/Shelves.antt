-- What holds of every shelf, and which records a store may keep.
use Rattle.std.specs.Prelude.{◌≡◌, ℕ, ◌≤◌, nat_lt, IsTrue, IsFalse, List, [], ◌∷◌, map, length}
use Rattle.std.specs.List.{AllByRecursion, range_with_len}
use Rattle.fab_base.specs.declared.entry.Entry.{Entry}
use Rattle.fab_base.specs.declared.entry.Entry.TheVariants as e
use Rattle.fab_base.specs.declared.message.Answer.TheVariants.{Yes}
use Rattle.fab_base.specs.FieldSpelling.{KeepsItems}
use Rattle.fab_base.specs.Tids.{is_above}
use Rattle.fab_rights.specs.declared.rights.Rights.{Rights}
use Rattle.fab_rights.specs.Computed.{is_worker}
use Rattle.fab_protocol.specs.Tables.{ascends, OnlyOnce}
use Rattle.fab_protocol.specs.Versions.{name_of, is_tid}
use Rattle.fab_protocol.specs.Stores.{Shelf, Prepared, Item, item_name, all_in, named_by, is_locked_by, is_prepared}
use Rattle.fab_protocol.specs.Stores.{is_unsuited, lacks_right, out_of_date, vote, last_of, boot_of}

-- the record is one that the rules give: at store s, over the shelf
abbrev pub CanKeep : Rights → ℕ → Entry → Shelf → Type 0
CanKeep rights s (e.Prepared t items) shelf =
    IsTrue (is_worker rights t.worker) × IsTrue (is_above t (last_of shelf t.worker)) × KeepsItems items
    × (vote rights s t.worker t items shelf ≡ Yes)
CanKeep rights s (e.Refused t) shelf = IsTrue (is_worker rights t.worker) × IsTrue (is_above t (last_of shelf t.worker))
CanKeep rights s (e.Applied t) shelf = IsTrue (is_prepared t shelf)
CanKeep rights s (e.Released t) shelf = IsTrue (is_prepared t shelf)
CanKeep rights s (e.BootSeen w b) shelf = IsTrue (is_worker rights w) × IsTrue (nat_lt (boot_of shelf w) b)
CanKeep rights s _ shelf = ⊥

-- what was read or written is at its current version, and what is created isn't there
abbrev pub IsCurrent : Shelf → Item → Type 0
IsCurrent shelf i = IsFalse (out_of_date shelf.rows i).0

-- of two attempts, and no item of the one is locked by the other
abbrev pub IsApart : Prepared → Prepared → Type 0
IsApart p q = IsFalse (is_tid p.0 q.0) × AllByRecursion (λ i. IsFalse (is_locked_by i q.1)) (all_in p.1)

abbrev pub AreApart : List Prepared → Type 0
AreApart [] = Unit {0}
AreApart (p ∷ ps) = AllByRecursion (IsApart p) ps × AreApart ps

-- what is prepared is of classes that its worker may fetch, and write where it writes or creates
abbrev pub IsAllowed : Rights → Prepared → Type 0
IsAllowed rights p = AllByRecursion (λ i. IsFalse (lacks_right rights p.0.worker i)) (all_in p.1)

-- each object that it writes or creates suits its name, and each name that it creates is made in it
abbrev pub IsSuited : Rights → Prepared → Type 0
IsSuited rights p = AllByRecursion (λ i. IsFalse (is_unsuited rights p.0 i)) (all_in p.1)

-- The rows ascend, are here, and have versions. What is prepared is of workers, at most their last tids, here,
-- current, apart, allowed and suited, and names each object once, so that a commit leaves each of its writes. Of each
-- number that may be a node's something is remembered, and its last tid is its own. All that is here can be spelled:
-- objects have at most 16 fields, and items keep their counts.
pub record IsShelf (rights : Rights) (s : ℕ) (shelf : Shelf) : Type 0 where
  pub ascending : IsTrue (ascends name_of shelf.rows)
  pub rows_here : AllByRecursion (λ row. row.0.store ≡ s) shelf.rows
  pub versions : AllByRecursion (λ row. 1 ≤ row.1) shelf.rows
  pub senders : AllByRecursion (λ p. IsTrue (is_worker rights p.0.worker)) shelf.prepared
  pub tids : AllByRecursion (λ p. IsFalse (is_above p.0 (last_of shelf p.0.worker))) shelf.prepared
  pub items_here : AllByRecursion (λ p. AllByRecursion (λ i. (item_name i).store ≡ s) (all_in p.1)) shelf.prepared
  pub current : AllByRecursion (λ p. AllByRecursion (IsCurrent shelf) (all_in p.1)) shelf.prepared
  pub apart : AreApart shelf.prepared
  pub once : AllByRecursion (λ p. OnlyOnce (named_by p.1)) shelf.prepared
  pub allowed : AllByRecursion (IsAllowed rights) shelf.prepared
  pub suited : AllByRecursion (IsSuited rights) shelf.prepared
  pub fields : AllByRecursion (λ row. length row.2.fields ≤ 16) shelf.rows
  pub counts : AllByRecursion (λ p. KeepsItems p.1) shelf.prepared
  pub remembered : map (λ x. x.last.worker) shelf.senders ≡ range_with_len 0 64
