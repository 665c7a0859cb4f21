-- The fields keep to what readers keep to.
use Rattle.std.proofs.Common.{◌≡◌, ℕ, zero, suc, ◌^◌, ◌<◌, ◌≤◌, List, [], ◌∷◌, ◌++◌, length, refl, sym, ap, subst, append_assoc, arith}
use Rattle.std.specs.List.{flat_map}
use Rattle.std.specs.Int.{w32, cast_signed, cast_unsigned}
use Rattle.std.proofs.lemmas.Int.{to_z-of_z, of_z-to_z}
use Rattle.std.proofs.Math.Facts.{sfits_to_z, Fits-of_z}
use mir.Val.{Fits}
use Rattle.fab_base.specs.declared.object.Oid.{Oid}
use Rattle.fab_base.specs.declared.object.Value.{Value}
use Rattle.fab_base.specs.declared.object.Value.TheVariants.{Int, Null, Ref}
use Rattle.fab_base.specs.FieldSpelling.{two_bytes, four_bytes, tid_bytes, IsTid, oid_bytes, IsOid, value_bytes, IsValue, object_bytes, IsObject, read_bytes, write_bytes, create_bytes, items_bytes, IsRead, IsWrite, IsCreate, AreItems}
use Rattle.fab_wire.specs.Reading.{tid_at, oid_at, value_by, value_at, object_at, read_at, write_at, create_at, items_at}
use Rattle.fab_wire.proofs.ReaderLaws.{Reads, made_reads, chosen_reads, both_reads, respelled, nothing_reads, counted_reads}
use Rattle.fab_wire.proofs.NumberLaws.{two_reads, four_reads, byte_reads, count_reads}

pub tid_reads : Reads tid_at tid_bytes IsTid
unfolding tid_at
tid_reads =
    made_reads (λ p. record { worker = p.0; boot = p.1.0; number = p.1.1 }) tid_bytes IsTid (both_reads two_reads (both_reads four_reads four_reads))
    (λ p fp. (append_assoc (two_bytes p.0) (four_bytes p.1.0) (four_bytes p.1.1), record { worker = fp.0; boot = fp.1.0; number = fp.1.1 }))
    (λ t ft. ((t.worker, (t.boot, t.number)), (ft.worker, (ft.boot, ft.number)), refl))

pub oid_reads : Reads oid_at oid_bytes IsOid
unfolding oid_at
oid_reads =
    made_reads (λ p. record { store = p.0; class = p.1.0; worker = p.1.1.0; boot = p.1.1.1.0; number = p.1.1.1.1.0; site = p.1.1.1.1.1.0; index = p.1.1.1.1.1.1 }) oid_bytes IsOid
    (both_reads two_reads (both_reads two_reads (both_reads two_reads (both_reads four_reads (both_reads four_reads (both_reads two_reads two_reads))))))
    (λ p fp. (simp append_assoc, record { store = fp.0; class = fp.1.0; worker = fp.1.1.0; boot = fp.1.1.1.0; number = fp.1.1.1.1.0; site = fp.1.1.1.1.1.0; index = fp.1.1.1.1.1.1 }))
    (λ o fo. ((o.store, (o.class, (o.worker, (o.boot, (o.number, (o.site, o.index)))))), (fo.store, (fo.class, (fo.worker, (fo.boot, (fo.number, (fo.site, fo.index)))))), refl))

-- ---- values

value_tag : Value → ℕ
value_tag (Int n) = 0
value_tag Null = 1
value_tag (Ref o) = 2

value_body : Value → List ℕ
value_body (Int n) = four_bytes (cast_unsigned w32 n)
value_body Null = []
value_body (Ref o) = oid_bytes o

abbrev IsTagged : ℕ → ℕ → Value → Type 0
IsTagged version tag v = IsValue version v × (value_tag v ≡ tag)

int_back : (version : ℕ) (v : Value) → IsTagged version 0 v → (n : ℕ) × (n < 2 ^ 32) × (Int (cast_signed w32 n) ≡ v)
unfolding value_tag
int_back version (Int z) h = (cast_unsigned w32 z, (let f : Fits w32 (cast_unsigned w32 z) = Fits-of_z h.0 in omega arith), ap Int (to_z-of_z w32 z h.0))
int_back version Null h = absurd (omega (arith, h.1))
int_back version (Ref o) h = absurd (omega (arith, h.1))

null_back : (version : ℕ) (v : Value) → IsTagged version 1 v → v ≡ Null
unfolding value_tag
null_back version (Int z) h = absurd (omega (arith, h.1))
null_back version Null h = refl
null_back version (Ref o) h = absurd (omega (arith, h.1))

ref_back : (version : ℕ) (v : Value) → IsTagged version 2 v → (o : Oid) × IsOid o × (Ref o ≡ v)
unfolding value_tag
ref_back version (Int z) h = absurd (omega (arith, h.1))
ref_back version Null h = absurd (omega (arith, h.1))
ref_back version (Ref o) h = (o, h.0, refl)

value_by_reads : (version tag : ℕ) → (0 ≤ tag) × (tag ≤ 2) → Reads (value_by tag) value_body (IsTagged version tag)
unfolding value_tag value_body
value_by_reads version zero h =
    made_reads (λ n. Int (cast_signed w32 n)) value_body (IsTagged version 0) four_reads
    (λ n lt. (ap four_bytes (of_z-to_z w32 n lt), ((let f : Fits w32 n = record { fits = lt } in sfits_to_z f), refl)))
    (int_back version)
value_by_reads version (suc zero) h =
    respelled value_body (IsTagged version 1) (nothing_reads Null) (λ v fv. ap value_body (null_back version v fv)) (λ v e. subst (IsTagged version 1) (sym e) (tt, refl)) (null_back version)
value_by_reads version (suc (suc zero)) h =
    made_reads (λ o. Ref o) value_body (IsTagged version 2) oid_reads (λ o fo. (refl, (fo, refl))) (ref_back version)
value_by_reads version (suc (suc (suc tag))) h = absurd (omega (arith, h.1))

value_parts : (v : Value) → value_bytes v ≡ (value_tag v ∷ []) ++ value_body v
unfolding value_tag value_body
value_parts (Int n) = refl
value_parts Null = refl
value_parts (Ref o) = refl

tag_within : (v : Value) → (0 ≤ value_tag v) × (value_tag v ≤ 2)
unfolding value_tag
tag_within (Int n) = (omega arith, omega arith)
tag_within Null = (omega arith, omega arith)
tag_within (Ref o) = (omega arith, omega arith)

pub value_reads : (version : ℕ) → Reads value_at value_bytes (IsValue version)
unfolding value_at
value_reads version =
    respelled value_bytes (IsValue version) (chosen_reads value_by value_tag value_body (IsValue version) (byte_reads 0 2 (omega arith) (omega arith)) (value_by_reads version))
    (λ v fv. value_parts v) (λ v h. h.1) (λ v h. (tag_within v, h))

-- ---- objects and items

pub object_reads : (version : ℕ) → Reads object_at object_bytes (IsObject version)
unfolding object_at
object_reads version =
    made_reads (λ p. record { class = p.0; fields = p.1 }) object_bytes (IsObject version)
    (both_reads two_reads (counted_reads (byte_reads 0 16 (omega arith) (omega arith)) (value_reads version)))
    (λ p fp. (refl, record { class = fp.0; count = fp.1.0.1; fields = fp.1.1 }))
    (λ o fo. ((o.class, o.fields), (fo.class, ((omega arith, fo.count), fo.fields)), refl))

pub read_reads : Reads read_at read_bytes IsRead
unfolding read_at
read_reads =
    respelled read_bytes IsRead (both_reads oid_reads four_reads) (λ r fr. refl) (λ r h. record { oid = h.0; read = h.1 }) (λ r h. (h.oid, h.read))

pub write_reads : (version : ℕ) → Reads write_at write_bytes (IsWrite version)
unfolding write_at
write_reads version =
    made_reads (λ p. (p.0, p.1.0, p.1.1)) write_bytes (IsWrite version) (both_reads oid_reads (both_reads four_reads (object_reads version)))
    (λ p fp. (append_assoc (oid_bytes p.0) (four_bytes p.1.0) (object_bytes p.1.1), record { oid = fp.0; read = fp.1.0; object = fp.1.1 }))
    (λ w fw. ((w.0, (w.1, w.2)), (fw.oid, (fw.read, fw.object)), refl))

pub create_reads : (version : ℕ) → Reads create_at create_bytes (IsCreate version)
unfolding create_at
create_reads version =
    respelled create_bytes (IsCreate version) (both_reads oid_reads (object_reads version)) (λ c fc. refl) (λ c h. record { oid = h.0; object = h.1 }) (λ c h. (h.oid, h.object))

pub items_reads : (version : ℕ) → Reads items_at items_bytes (AreItems version)
unfolding items_at
items_reads version =
    made_reads (λ p. record { reads = p.0; writes = p.1.0; creates = p.1.1 }) items_bytes (AreItems version)
    (both_reads (counted_reads (count_reads 4 (omega arith)) read_reads)
    (both_reads (counted_reads (count_reads 1 (omega arith)) (write_reads version)) (counted_reads (count_reads 1 (omega arith)) (create_reads version))))
    (λ p fp. (
      append_assoc (two_bytes (length p.0) ++ flat_map read_bytes p.0) (two_bytes (length p.1.0) ++ flat_map write_bytes p.1.0) (two_bytes (length p.1.1) ++ flat_map create_bytes p.1.1),
      record { reads_count = fp.0.0; reads = fp.0.1; writes_count = fp.1.0.0; writes = fp.1.0.1; creates_count = fp.1.1.0; creates = fp.1.1.1 },
    ))
    (λ i fi. ((i.reads, (i.writes, i.creates)), ((fi.reads_count, fi.reads), ((fi.writes_count, fi.writes), (fi.creates_count, fi.creates))), refl))
