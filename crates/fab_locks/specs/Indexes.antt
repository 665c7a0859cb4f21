-- What finds held transactions without a walk over them: the number of each tid, and the numbers of those that have a name.
use Rattle.std.specs.Prelude.{◌≡◌, ℕ, ◌≤◌, Bool, true, false, not, ◌&&◌, ◌||◌, ◌==◌, cond, if◌then◌else◌, List, Option, Some, None}
use Rattle.std.specs.List.{list_any}
use Rattle.std.specs.declared.cmp.Ordering.{Ordering}
use Rattle.std.specs.Ordering.{nat_cmp, ordering_then}
use Rattle.std.specs.List.Sorted.{IsStrictlySortedBy}
use Rattle.std.specs.Map.{keys_of, lookup, values_of}
use Rattle.std.specs.BTreeMap.{get, is_at}
use Rattle.std.specs.BTreeSet.{BTreeSet, contains}
use Rattle.fab_base.specs.declared.object.Oid.{Oid}
use Rattle.fab_base.specs.declared.object.Tid.{Tid}
use Rattle.fab_base.specs.declared.message.Items.{Items}
use Rattle.fab_base.specs.FlatMap.{is_same, is_among}
use Rattle.fab_protocol.specs.Versions.{is_tid}
use Rattle.fab_protocol.specs.Stores.{Prepared, changed_by, named_by}
use Rattle.fab_locks.specs.declared.index.Index.{Index}
use Rattle.fab_locks.specs.Conflicts.{AreDistinct}

-- ---- keys, as the maps compare them

abbrev pub tid_cmp : Tid → Tid → Ordering
tid_cmp t u = ordering_then (nat_cmp t.worker u.worker) (ordering_then (nat_cmp t.boot u.boot) (nat_cmp t.number u.number))

abbrev pub oid_cmp : Oid → Oid → Ordering
oid_cmp o p =
    ordering_then (nat_cmp o.store p.store) (ordering_then (nat_cmp o.class p.class) (ordering_then (nat_cmp o.worker p.worker)
    (ordering_then (nat_cmp o.boot p.boot) (ordering_then (nat_cmp o.number p.number) (ordering_then (nat_cmp o.site p.site) (nat_cmp o.index p.index))))))

-- a name, and the number of a transaction that has it
abbrev pub Key : Type 0
Key = Oid × ℕ

abbrev pub key_cmp : Key → Key → Ordering
key_cmp x y = ordering_then (oid_cmp x.0 y.0) (nat_cmp x.1 y.1)

-- ---- sets of names with numbers

-- a name is put under a number
abbrev pub has : BTreeSet Key → Oid → ℕ → Bool
has names o n = contains key_cmp names (o, n)

-- what has one of these names
abbrev pub any_named : {X : Type 0} → (X → Oid) → List X → Oid → Bool
any_named name_of xs o = list_any (λ x. is_same (name_of x) o) xs

-- the names that pass a test are put under a number, and nothing else changes
pub record Puts (test : Oid → Bool) (n : ℕ) (old new : BTreeSet Key) : Type 0 where
  pub at : (o : Oid) (m : ℕ) → has new o m ≡ (((n == m) && test o) || has old o m)

-- the names that pass a test aren't under a number any more, and nothing else changes
pub record Takes (test : Oid → Bool) (n : ℕ) (old new : BTreeSet Key) : Type 0 where
  pub at : (o : Oid) (m : ℕ) → has new o m ≡ (not ((n == m) && test o) && has old o m)

-- nothing changes but names that pass a test, under a number
pub record Keeps (test : Oid → Bool) (n : ℕ) (old new : BTreeSet Key) : Type 0 where
  pub at : (o : Oid) (m : ℕ) → ((n == m) && test o) ≡ false → has new o m ≡ has old o m

-- the least number that passes a test
pub record IsLeast (test : ℕ → Bool) (n : ℕ) : Type 0 where
  pub holds : test n ≡ true
  pub least : (m : ℕ) → test m ≡ true → n ≤ m

-- ---- a transaction in the indexes

abbrev pub is_named : Items → Oid → Bool
is_named items o = is_among o (named_by items)

abbrev pub is_changed : Items → Oid → Bool
is_changed items o = is_among o (changed_by items)

-- a transaction is put under a number
pub record Put (t : Tid) (items : Items) (n : ℕ) (old new : Index) : Type 0 where
  pub places : (u : Tid) → get tid_cmp new.places u ≡ cond (is_tid t u) (Some n) (get tid_cmp old.places u)
  pub named : Puts (is_named items) n old.named new.named
  pub changed : Puts (is_changed items) n old.changed new.changed

-- it may be put in part
pub record MayPut (items : Items) (n : ℕ) (old new : Index) : Type 0 where
  pub places : (u : Tid) → get tid_cmp new.places u ≡ get tid_cmp old.places u
  pub named : Keeps (is_named items) n old.named new.named
  pub changed : Keeps (is_changed items) n old.changed new.changed

-- it isn't there any more
pub record Taken (t : Tid) (items : Items) (n : ℕ) (old new : Index) : Type 0 where
  pub places : (u : Tid) → get tid_cmp new.places u ≡ cond (is_tid t u) None (get tid_cmp old.places u)
  pub named : Takes (is_named items) n old.named new.named
  pub changed : Takes (is_changed items) n old.changed new.changed

-- the names that bar one that writes, or one that reads
abbrev pub names_for : Bool → Index → BTreeSet Key
names_for writing index = if writing then index.named else index.changed

-- ---- what the indexes say of the transactions

-- transactions with the numbers under which they are held
abbrev pub Numbered : Type 0
Numbered = List (ℕ × Prepared)

-- the transaction of a number
abbrev pub under : ℕ → Numbered → Option Prepared
under n es = lookup (is_at (nat_cmp n)) es

-- the transaction of a number has this tid
abbrev pub is_of : Tid → Option Prepared → Bool
is_of t None = false
is_of t (Some p) = is_tid p.0 t

-- the items of the transaction of a number pass a test
abbrev pub passes : (Items → Bool) → Option Prepared → Bool
passes test None = false
passes test (Some p) = test p.1

-- each tid is under the number of its transaction, and each name under the numbers of those that have it
pub record Agrees (es : Numbered) (index : Index) : Type 0 where
  pub found : (t : Tid) (n : ℕ) → get tid_cmp index.places t ≡ Some n → is_of t (under n es) ≡ true
  pub all : (t : Tid) (n : ℕ) → is_of t (under n es) ≡ true → get tid_cmp index.places t ≡ Some n
  pub named : (o : Oid) (n : ℕ) → has index.named o n ≡ passes (λ items. is_named items o) (under n es)
  pub changed : (o : Oid) (n : ℕ) → has index.changed o n ≡ passes (λ items. is_changed items o) (under n es)

-- the transactions in the order of their numbers, no tid twice, with what finds them
pub record IsIndexed (es : Numbered) (index : Index) : Type 0 where
  pub ordered : IsStrictlySortedBy nat_cmp (keys_of es)
  pub distinct : AreDistinct (values_of es)
  pub agrees : Agrees es index
