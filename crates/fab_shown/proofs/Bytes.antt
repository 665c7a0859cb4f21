-- What is sent is spelled in bytes, and a record's length has 32 bits.
use Rattle.std.proofs.Common.{ℕ, ◌<◌, ◌≤◌, ◌^◌, List, [], ◌∷◌, ◌++◌, length, Option, Some, None, arith}
use Rattle.std.specs.List.{AllByRecursion, flat_map}
use Rattle.std.specs.Int.{w32, cast_unsigned}
use Rattle.std.proofs.lemmas.List.Elements.{recursion_from_All}
use Rattle.fab_base.specs.declared.entry.Entry.{Entry}
use Rattle.fab_base.specs.declared.entry.Entry.TheVariants as e
use Rattle.fab_base.specs.declared.message.Answer.{Answer}
use Rattle.fab_base.specs.declared.message.Answer.TheVariants as answers
use Rattle.fab_base.specs.declared.message.Items.{Items}
use Rattle.fab_base.specs.declared.message.Message.{Message}
use Rattle.fab_base.specs.declared.message.Message.TheVariants as m
use Rattle.fab_base.specs.declared.message.Why.{Why}
use Rattle.fab_base.specs.declared.message.Why.TheVariants as why
use Rattle.fab_base.specs.declared.object.Object.{Object}
use Rattle.fab_base.specs.declared.object.Oid.{Oid}
use Rattle.fab_base.specs.declared.object.Tid.{Tid}
use Rattle.fab_base.specs.declared.object.Value.{Value}
use Rattle.fab_base.specs.declared.object.Value.TheVariants.{Int, Null, Ref}
use Rattle.fab_base.specs.FieldSpelling.{KeepsItems, create_bytes, four_bytes, items_bytes, object_bytes, oid_bytes, read_bytes, tid_bytes, two_bytes, value_bytes, write_bytes}
use Rattle.fab_base.specs.JournalSpelling.{version_behind}
use Rattle.fab_base.specs.MessageSpelling.{KeepsCounts, answer_bytes, spelled, why_bytes}
use Rattle.fab_base.proofs.Lists.{all_append}
use Rattle.fab_wire.proofs.Lengths.{items_le}
use Rattle.fab_journal.specs.Lengths.{record_length}
use Rattle.fab_journal.proofs.Lengths.{length-record, result_le}
use Rattle.fab_world.specs.Machine.{record_behind}
use Rattle.fab_reports.specs.Lines.{AreBytes}

-- ---- fields

abbrev IsByte : ℕ → Type 0
IsByte b = b < 256

two_in : (n : ℕ) → AreBytes (two_bytes n)
two_in n = (omega arith, (omega arith, tt))

four_in : (n : ℕ) → AreBytes (four_bytes n)
four_in n = (omega arith, (omega arith, (omega arith, (omega arith, tt))))

both : (xs ys : List ℕ) → AreBytes xs → AreBytes ys → AreBytes (xs ++ ys)
both xs ys h g = all_append IsByte xs ys h g

tid_in : (t : Tid) → AreBytes (tid_bytes t)
tid_in t =
    both (two_bytes t.worker) (four_bytes t.boot ++ four_bytes t.number) (two_in t.worker) (both (four_bytes t.boot) (four_bytes t.number) (four_in t.boot) (four_in t.number))

oid_in : (o : Oid) → AreBytes (oid_bytes o)
oid_in o =
    let places = both (two_bytes o.site) (two_bytes o.index) (two_in o.site) (two_in o.index) in
    let made = both (four_bytes o.number) (two_bytes o.site ++ two_bytes o.index) (four_in o.number) places in
    let booted = both (four_bytes o.boot) (four_bytes o.number ++ two_bytes o.site ++ two_bytes o.index) (four_in o.boot) made in
    let worked = both (two_bytes o.worker) (four_bytes o.boot ++ four_bytes o.number ++ two_bytes o.site ++ two_bytes o.index) (two_in o.worker) booted in
    let classed = both (two_bytes o.class) (two_bytes o.worker ++ four_bytes o.boot ++ four_bytes o.number ++ two_bytes o.site ++ two_bytes o.index) (two_in o.class) worked in
    both (two_bytes o.store) (two_bytes o.class ++ two_bytes o.worker ++ four_bytes o.boot ++ four_bytes o.number ++ two_bytes o.site ++ two_bytes o.index) (two_in o.store) classed

value_in : (v : Value) → AreBytes (value_bytes v)
value_in (Int n) = (omega arith, four_in (cast_unsigned w32 n))
value_in Null = (omega arith, tt)
value_in (Ref o) = (omega arith, oid_in o)

values_in : (vs : List Value) → AreBytes (flat_map value_bytes vs)
values_in [] = tt
values_in (v ∷ vs) = both (value_bytes v) (flat_map value_bytes vs) (value_in v) (values_in vs)

object_in : (x : Object) → length x.fields ≤ 16 → AreBytes (object_bytes x)
object_in x few = both (two_bytes x.class) (length x.fields ∷ flat_map value_bytes x.fields) (two_in x.class) (omega (arith, few), values_in x.fields)

read_in : (r : Oid × ℕ) → AreBytes (read_bytes r)
read_in r = both (oid_bytes r.0) (four_bytes r.1) (oid_in r.0) (four_in r.1)

write_in : (w : Oid × ℕ × Object) → length w.2.fields ≤ 16 → AreBytes (write_bytes w)
write_in w few = both (oid_bytes w.0) (four_bytes w.1 ++ object_bytes w.2) (oid_in w.0) (both (four_bytes w.1) (object_bytes w.2) (four_in w.1) (object_in w.2 few))

create_in : (c : Oid × Object) → length c.1.fields ≤ 16 → AreBytes (create_bytes c)
create_in c few = both (oid_bytes c.0) (object_bytes c.1) (oid_in c.0) (object_in c.1 few)

reads_in : (rs : List (Oid × ℕ)) → AreBytes (flat_map read_bytes rs)
reads_in [] = tt
reads_in (r ∷ rs) = both (read_bytes r) (flat_map read_bytes rs) (read_in r) (reads_in rs)

writes_in : (ws : List (Oid × ℕ × Object)) → AllByRecursion (λ w. length w.2.fields ≤ 16) ws → AreBytes (flat_map write_bytes ws)
writes_in [] h = tt
writes_in (w ∷ ws) h = both (write_bytes w) (flat_map write_bytes ws) (write_in w h.0) (writes_in ws h.1)

creates_in : (cs : List (Oid × Object)) → AllByRecursion (λ c. length c.1.fields ≤ 16) cs → AreBytes (flat_map create_bytes cs)
creates_in [] h = tt
creates_in (c ∷ cs) h = both (create_bytes c) (flat_map create_bytes cs) (create_in c h.0) (creates_in cs h.1)

items_in : (i : Items) → KeepsItems i → AreBytes (items_bytes i)
items_in i h =
    let reads = both (two_bytes (length i.reads)) (flat_map read_bytes i.reads) (two_in (length i.reads)) (reads_in i.reads) in
    let written = recursion_from_All (λ (w : Oid × ℕ × Object). length w.2.fields ≤ 16) i.writes h.written in
    let writes = both (two_bytes (length i.writes)) (flat_map write_bytes i.writes) (two_in (length i.writes)) (writes_in i.writes written) in
    let created = recursion_from_All (λ (c : Oid × Object). length c.1.fields ≤ 16) i.creates h.created in
    let creates = both (two_bytes (length i.creates)) (flat_map create_bytes i.creates) (two_in (length i.creates)) (creates_in i.creates created) in
    both ((two_bytes (length i.reads) ++ flat_map read_bytes i.reads) ++ (two_bytes (length i.writes) ++ flat_map write_bytes i.writes))
    (two_bytes (length i.creates) ++ flat_map create_bytes i.creates)
    (both (two_bytes (length i.reads) ++ flat_map read_bytes i.reads) (two_bytes (length i.writes) ++ flat_map write_bytes i.writes) reads writes) creates

-- ---- messages

why_in : (reason : Why) → AreBytes (why_bytes reason)
why_in why.Missing = (omega arith, tt)
why_in why.Rights = (omega arith, tt)

answer_in : (answer : Answer) → AreBytes (answer_bytes answer)
answer_in answers.Yes = (omega arith, tt)
answer_in (answers.Stale o version) = (omega arith, both (oid_bytes o) (four_bytes version) (oid_in o) (four_in version))
answer_in (answers.Locked t) = (omega arith, tid_in t)
answer_in (answers.Rights o) = (omega arith, oid_in o)
answer_in (answers.OldTid t) = (omega arith, tid_in t)
answer_in (answers.IllFormed o) = (omega arith, oid_in o)
answer_in (answers.Exists o) = (omega arith, oid_in o)

-- a message with no more of anything than it may have is spelled in bytes
pub message_in : (message : Message) → KeepsCounts message → AreBytes (spelled message)
message_in (m.Fetch t o) h = (omega arith, (omega arith, both (tid_bytes t) (oid_bytes o) (tid_in t) (oid_in o)))
message_in (m.Object t o version x) h =
    let last = both (four_bytes version) (object_bytes x) (four_in version) (object_in x h) in
    (omega arith, (omega arith, both (tid_bytes t) (oid_bytes o ++ four_bytes version ++ object_bytes x) (tid_in t) (both (oid_bytes o) (four_bytes version ++ object_bytes x) (oid_in o) last)))
message_in (m.Deny t o reason) h =
    (omega arith, (omega arith, both (tid_bytes t) (oid_bytes o ++ why_bytes reason) (tid_in t) (both (oid_bytes o) (why_bytes reason) (oid_in o) (why_in reason))))
message_in (m.Prepare t items) h = (omega arith, (omega arith, both (tid_bytes t) (items_bytes items) (tid_in t) (items_in items h)))
message_in (m.Vote t answer) h = (omega arith, (omega arith, both (tid_bytes t) (answer_bytes answer) (tid_in t) (answer_in answer)))
message_in (m.Commit t) h = (omega arith, (omega arith, tid_in t))
message_in (m.Abort t) h = (omega arith, (omega arith, tid_in t))
message_in (m.Boot b) h = (omega arith, (omega arith, four_in b))
message_in (m.Inquire t) h = (omega arith, (omega arith, tid_in t))

-- ---- records

-- what keeps a record short: how many stores it lists, and what it has to prepare
abbrev pub IsShort : Entry → Type 0
IsShort (e.Decided t request value stores) = length stores ≤ 65536
IsShort (e.Prepared t items) = KeepsItems items
IsShort (e.Closed request code node) = Unit {0}
IsShort (e.Boot b) = Unit {0}
IsShort (e.Refused t) = Unit {0}
IsShort (e.Applied t) = Unit {0}
IsShort (e.Released t) = Unit {0}
IsShort (e.BootSeen w b) = Unit {0}

abbrev pub IsShortIf : Option Entry → Type 0
IsShortIf None = Unit {0}
IsShortIf (Some entry) = IsShort entry

short_length : (entry : Entry) → IsShort entry → record_length entry < 2 ^ 32
short_length (e.Decided t request value stores) h = omega (arith, result_le value, h)
short_length (e.Prepared t items) h = omega (arith, items_le items h.written h.created, h.reads, h.writes, h.creates)
short_length (e.Closed request code node) h = omega arith
short_length (e.Boot b) h = omega arith
short_length (e.Refused t) h = omega arith
short_length (e.Applied t) h = omega arith
short_length (e.Released t) h = omega arith
short_length (e.BootSeen w b) h = omega arith

-- a record behind others
pub record_short : (first : ℕ) (entries : List Entry) (entry : Option Entry) → IsShortIf entry → length (record_behind first entries entry) < 2 ^ 32
record_short first entries None h = omega arith
record_short first entries (Some entry) h =
    let long = length-record (version_behind first entries) entry in let low = short_length entry h in omega (arith, long, low)
