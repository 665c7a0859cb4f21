-- The bytes of the fields that messages and journal records are made of, and what has such bytes. Every number
-- is big-endian. A value's and an object's version is that of the message or journal that it stands in.
use Rattle.std.specs.Prelude.{ℕ, ◌+◌, ◌<◌, ◌≤◌, ◌^◌, List, [], ◌∷◌, ◌++◌, length, FitsSigned}
use Rattle.std.specs.List.{flat_map, All, AllByRecursion}
use Rattle.std.specs.Int.{w16, w32, to_be_bytes, cast_unsigned}
use Rattle.fab_base.specs.declared.object.Tid.{Tid}
use Rattle.fab_base.specs.declared.object.Oid.{Oid}
use Rattle.fab_base.specs.declared.object.Value.{Value}
use Rattle.fab_base.specs.declared.object.Value.TheVariants.{Int, Null, Ref}
use Rattle.fab_base.specs.declared.object.Object.{Object}
use Rattle.fab_base.specs.declared.message.Items.{Items}

-- the version of each message that is sent
abbrev pub sent_version : ℕ
sent_version = 1

-- a number below 2 ^ 16 in two bytes, one below 2 ^ 32 in four
abbrev pub two_bytes : ℕ → List ℕ
two_bytes n = to_be_bytes w16 n

abbrev pub four_bytes : ℕ → List ℕ
four_bytes n = to_be_bytes w32 n

-- a transaction's name: its worker, boot and number, 10 bytes
abbrev pub tid_bytes : Tid → List ℕ
tid_bytes t = two_bytes t.worker ++ four_bytes t.boot ++ four_bytes t.number

pub record IsTid (t : Tid) : Type 0 where
  pub worker : t.worker < 2 ^ 16
  pub boot : t.boot < 2 ^ 32
  pub number : t.number < 2 ^ 32

-- an object's name: store, class, worker, boot, number, site and index, 18 bytes
abbrev pub oid_bytes : Oid → List ℕ
oid_bytes o =
    two_bytes o.store ++ two_bytes o.class ++ two_bytes o.worker ++ four_bytes o.boot ++ four_bytes o.number
    ++ two_bytes o.site ++ two_bytes o.index

pub record IsOid (o : Oid) : Type 0 where
  pub store : o.store < 2 ^ 16
  pub class : o.class < 2 ^ 16
  pub worker : o.worker < 2 ^ 16
  pub boot : o.boot < 2 ^ 32
  pub number : o.number < 2 ^ 32
  pub site : o.site < 2 ^ 16
  pub index : o.index < 2 ^ 16

-- a tag, and then a number's two's complement, nothing for null, or an object's name
abbrev pub value_bytes : Value → List ℕ
value_bytes (Int n) = 0 ∷ four_bytes (cast_unsigned w32 n)
value_bytes Null = 1 ∷ []
value_bytes (Ref o) = 2 ∷ oid_bytes o

-- the values of a version; so far each version has these
abbrev pub IsValue : ℕ → Value → Type 0
IsValue version (Int n) = FitsSigned w32 n
IsValue version Null = Unit {0}
IsValue version (Ref o) = IsOid o

-- an object: its class, how many fields it has in one byte, and the fields
abbrev pub object_bytes : Object → List ℕ
object_bytes x = two_bytes x.class ++ length x.fields ∷ flat_map value_bytes x.fields

-- at most 16 fields
pub record IsObject (version : ℕ) (x : Object) : Type 0 where
  pub class : x.class < 2 ^ 16
  pub count : length x.fields ≤ 16
  pub fields : AllByRecursion (IsValue version) x.fields

-- items: how many reads there are and the reads, then so for the writes and the creates. A read is an object's
-- name and the version that was read, a write those and the object, a create a name and the object.
abbrev pub read_bytes : Oid × ℕ → List ℕ
read_bytes r = oid_bytes r.0 ++ four_bytes r.1

abbrev pub write_bytes : Oid × ℕ × Object → List ℕ
write_bytes w = oid_bytes w.0 ++ four_bytes w.1 ++ object_bytes w.2

abbrev pub create_bytes : Oid × Object → List ℕ
create_bytes c = oid_bytes c.0 ++ object_bytes c.1

abbrev pub items_bytes : Items → List ℕ
items_bytes i =
    (two_bytes (length i.reads) ++ flat_map read_bytes i.reads) ++ (two_bytes (length i.writes) ++ flat_map write_bytes i.writes)
    ++ (two_bytes (length i.creates) ++ flat_map create_bytes i.creates)

pub record IsRead (r : Oid × ℕ) : Type 0 where
  pub oid : IsOid r.0
  pub read : r.1 < 2 ^ 32

pub record IsWrite (version : ℕ) (w : Oid × ℕ × Object) : Type 0 where
  pub oid : IsOid w.0
  pub read : w.1 < 2 ^ 32
  pub object : IsObject version w.2

pub record IsCreate (version : ℕ) (c : Oid × Object) : Type 0 where
  pub oid : IsOid c.0
  pub object : IsObject version c.1

-- at most 1,024 reads, 256 writes and 256 creates, in whatever order
pub record AreItems (version : ℕ) (i : Items) : Type 0 where
  pub reads_count : length i.reads ≤ 1024
  pub reads : AllByRecursion IsRead i.reads
  pub writes_count : length i.writes ≤ 256
  pub writes : AllByRecursion (IsWrite version) i.writes
  pub creates_count : length i.creates ≤ 256
  pub creates : AllByRecursion (IsCreate version) i.creates

-- the counts alone: what of this the types of the code don't keep
pub record KeepsItems (i : Items) : Type 0 where
  pub reads : length i.reads ≤ 1024
  pub writes : length i.writes ≤ 256
  pub written : All (λ w. length w.2.fields ≤ 16) i.writes
  pub creates : length i.creates ≤ 256
  pub created : All (λ c. length c.1.fields ≤ 16) i.creates

-- What an honest worker has one store prepare: at most 1,024 touched objects, read or written, and at most 256
-- written or made, each of at most 16 fields.
pub record AreHonest (i : Items) : Type 0 where
  pub touched : length i.reads + length i.writes ≤ 1024
  pub changed : length i.writes + length i.creates ≤ 256
  pub written : All (λ w. length w.2.fields ≤ 16) i.writes
  pub created : All (λ c. length c.1.fields ≤ 16) i.creates
