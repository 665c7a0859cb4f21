-- What workers and stores send one another is short enough to be read.
use Rattle.std.proofs.Common.{ℕ, ◌+◌, ◌*◌, ◌≤◌, [], ◌∷◌, ◌++◌, length, arith, lit≤, length-append}
use Rattle.std.specs.List.{AllByRecursion}
use Rattle.std.proofs.lemmas.List.Elements.{All-from_recursion}
use Rattle.fab_base.specs.declared.message.Answer.{Answer}
use Rattle.fab_base.specs.declared.message.Answer.TheVariants as answers
use Rattle.fab_base.specs.declared.message.Items.{Items}
use Rattle.fab_base.specs.declared.message.Message.{Message}
use Rattle.fab_base.specs.declared.message.Message.TheVariants as m
use Rattle.fab_base.specs.declared.message.Why.{Why}
use Rattle.fab_base.specs.declared.message.Why.TheVariants as why
use Rattle.fab_base.specs.declared.object.Object.{Object}
use Rattle.fab_base.specs.declared.object.Oid.{Oid}
use Rattle.fab_base.specs.declared.object.Tid.{Tid}
use Rattle.fab_base.specs.FieldSpelling.{AreItems, IsCreate, IsObject, IsWrite, items_bytes, object_bytes, oid_bytes, sent_version}
use Rattle.fab_base.specs.MessageSpelling.{byte_limit, spelled}
use Rattle.fab_base.proofs.Lists.{all_along}
use Rattle.fab_wire.proofs.Lengths.{items_le}

-- few enough bytes to be read
abbrev pub IsShort : Message → Type 0
IsShort message = length (spelled message) ≤ byte_limit

pub fetch_short : (t : Tid) (o : Oid) → IsShort (m.Fetch t o)
fetch_short t o = lit≤ tt

pub deny_short : (t : Tid) (o : Oid) (reason : Why) → IsShort (m.Deny t o reason)
deny_short t o why.Missing = lit≤ tt
deny_short t o why.Rights = lit≤ tt

pub vote_short : (t : Tid) (answer : Answer) → IsShort (m.Vote t answer)
vote_short t answers.Yes = lit≤ tt
vote_short t (answers.Stale o version) = lit≤ tt
vote_short t (answers.Locked u) = lit≤ tt
vote_short t (answers.Rights o) = lit≤ tt
vote_short t (answers.OldTid u) = lit≤ tt
vote_short t (answers.IllFormed o) = lit≤ tt
vote_short t (answers.Exists o) = lit≤ tt

-- ---- items, and one object as items that create it

items_few : (items : Items) → AllByRecursion (λ (w : Oid × ℕ × Object). length w.2.fields ≤ 16) items.writes
    → AllByRecursion (λ (c : Oid × Object). length c.1.fields ≤ 16) items.creates
    → length (items_bytes items) ≤ 6 + length items.reads * 22 + length items.writes * 329 + length items.creates * 325
items_few items written created =
    items_le items (All-from_recursion (λ (w : Oid × ℕ × Object). length w.2.fields ≤ 16) items.writes written)
    (All-from_recursion (λ (c : Oid × Object). length c.1.fields ≤ 16) items.creates created)

pub object_short : (t : Tid) (o : Oid) (version : ℕ) (x : Object) → IsObject sent_version x → IsShort (m.Object t o version x)
object_short t o version x fits =
    let few = items_few (record { reads = []; writes = []; creates = (o, x) ∷ [] }) tt (fits.count, tt) in
    let long = length-append (oid_bytes o ++ object_bytes x) [] in
    omega (arith, few, long)

-- no more than 1,024 reads, and no more than 256 objects that are written or made
pub prepare_short : (t : Tid) (items : Items) → AreItems sent_version items → length items.writes + length items.creates ≤ 256 → IsShort (m.Prepare t items)
prepare_short t items are few =
    let most = items_few items
    (all_along (IsWrite sent_version) (λ (w : Oid × ℕ × Object). length w.2.fields ≤ 16) (λ w h. let x = h.object in x.count) items.writes are.writes)
    (all_along (IsCreate sent_version) (λ (c : Oid × Object). length c.1.fields ≤ 16) (λ c h. let x = h.object in x.count) items.creates are.creates) in
    omega (arith, most, are.reads_count, few)
