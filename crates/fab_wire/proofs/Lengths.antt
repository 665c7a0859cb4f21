-- How long spellings are at most.
use Rattle.std.proofs.Common.{ℕ, ◌+◌, ◌*◌, ◌<◌, ◌≤◌, List, [], ◌∷◌, ◌++◌, length, length-append, arith}
use Rattle.std.specs.List.{flat_map, All, AllByRecursion}
use Rattle.std.proofs.lemmas.List.Elements.{recursion_from_All}
use Rattle.fab_base.specs.declared.object.Oid.{Oid}
use Rattle.fab_base.specs.declared.object.Tid.{Tid}
use Rattle.fab_base.specs.declared.object.Value.{Value}
use Rattle.fab_base.specs.declared.object.Value.TheVariants.{Int, Null, Ref}
use Rattle.fab_base.specs.declared.object.Object.{Object}
use Rattle.fab_base.specs.declared.message.Items.{Items}
use Rattle.fab_base.specs.declared.message.Message.TheVariants.{Prepare}
use Rattle.fab_base.specs.FieldSpelling.{two_bytes, value_bytes, object_bytes, read_bytes, write_bytes, create_bytes, items_bytes, AreHonest}
use Rattle.fab_base.specs.MessageSpelling.{spelled}

pub value_le : (v : Value) → length (value_bytes v) ≤ 19
value_le (Int n) = omega arith
value_le Null = omega arith
value_le (Ref o) = omega arith

values_le : (vs : List Value) → length (flat_map value_bytes vs) ≤ length vs * 19
values_le [] = omega arith
values_le (v ∷ vs) = omega (arith, length-append (value_bytes v) (flat_map value_bytes vs), value_le v, values_le vs)

object_le : (x : Object) → length x.fields ≤ 16 → length (object_bytes x) ≤ 307
object_le x few = omega (arith, few, values_le x.fields)

reads_le : (rs : List (Oid × ℕ)) → length (flat_map read_bytes rs) ≤ length rs * 22
reads_le [] = omega arith
reads_le (r ∷ rs) = omega (arith, length-append (read_bytes r) (flat_map read_bytes rs), reads_le rs)

writes_le : (ws : List (Oid × ℕ × Object)) → AllByRecursion (λ w. length w.2.fields ≤ 16) ws → length (flat_map write_bytes ws) ≤ length ws * 329
writes_le [] h = omega arith
writes_le (w ∷ ws) h = omega (arith, length-append (write_bytes w) (flat_map write_bytes ws), object_le w.2 h.0, writes_le ws h.1)

creates_le : (cs : List (Oid × Object)) → AllByRecursion (λ c. length c.1.fields ≤ 16) cs → length (flat_map create_bytes cs) ≤ length cs * 325
creates_le [] h = omega arith
creates_le (c ∷ cs) h = omega (arith, length-append (create_bytes c) (flat_map create_bytes cs), object_le c.1 h.0, creates_le cs h.1)

pub items_le : (i : Items) → All (λ (w : Oid × ℕ × Object). length w.2.fields ≤ 16) i.writes → All (λ (c : Oid × Object). length c.1.fields ≤ 16) i.creates
    → length (items_bytes i) ≤ 6 + length i.reads * 22 + length i.writes * 329 + length i.creates * 325
items_le i written created =
    let reads = reads_le i.reads in
    let writes = writes_le i.writes (recursion_from_All (λ (w : Oid × ℕ × Object). length w.2.fields ≤ 16) i.writes written) in
    let creates = creates_le i.creates (recursion_from_All (λ (c : Oid × Object). length c.1.fields ≤ 16) i.creates created) in
    let first = two_bytes (length i.reads) ++ flat_map read_bytes i.reads in
    let second = two_bytes (length i.writes) ++ flat_map write_bytes i.writes in
    let third = two_bytes (length i.creates) ++ flat_map create_bytes i.creates in
    omega (arith, reads, writes, creates, length-append (first ++ second) third, length-append first second)

pub honest_short : (tid : Tid) (items : Items) → AreHonest items → length (spelled (Prepare tid items)) < 107000
honest_short tid items h = omega (arith, items_le items h.written h.created, h.touched, h.changed)
