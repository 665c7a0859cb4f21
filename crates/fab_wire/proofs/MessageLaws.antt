-- Messages keep to what readers keep to.
use Rattle.std.proofs.Common.{◌≡◌, ℕ, zero, suc, ◌^◌, ◌<◌, ◌≤◌, cond, eqb, List, [], ◌∷◌, ◌++◌, length, refl, sym, ap, subst, ◌∙◌, append_assoc, arith}
use Rattle.std.specs.List.{AllByRecursion}
use Rattle.std.proofs.lemmas.List.Elements.{All-from_recursion}
use Rattle.fab_base.specs.declared.object.Tid.{Tid}
use Rattle.fab_base.specs.declared.object.Oid.{Oid}
use Rattle.fab_base.specs.declared.object.Object.{Object}
use Rattle.fab_base.specs.declared.message.Items.{Items}
use Rattle.fab_base.specs.declared.message.Why.{Why}
use Rattle.fab_base.specs.declared.message.Why.TheVariants as why
use Rattle.fab_base.specs.declared.message.Answer.{Answer}
use Rattle.fab_base.specs.declared.message.Answer.TheVariants as answers
use Rattle.fab_base.specs.declared.message.Message.{Message}
use Rattle.fab_base.specs.declared.message.Message.TheVariants as messages
use Rattle.fab_base.specs.FieldSpelling.{four_bytes, tid_bytes, IsTid, oid_bytes, IsOid, object_bytes, IsObject, items_bytes, AreItems, IsWrite, IsCreate, sent_version}
use Rattle.fab_base.specs.MessageSpelling.{why_bytes, answer_bytes, IsAnswer, kind_and_body, message_bytes, IsBody, IsMessage, KeepsCounts}
use Rattle.fab_wire.specs.Reading.{byte_at, why_at, answer_by, answer_at, body_by, message_at, chosen}
use Rattle.fab_wire.proofs.ReaderLaws.{Reads, made_reads, chosen_reads, both_reads, respelled, nothing_reads}
use Rattle.fab_wire.proofs.NumberLaws.{four_reads, byte_reads}
use Rattle.fab_wire.proofs.FieldLaws.{tid_reads, oid_reads, object_reads, items_reads}

-- ---- why

abbrev why_of : ℕ → Why
why_of b = cond (eqb b 1) why.Missing why.Rights

why_to : (b : ℕ) → (1 ≤ b) × (b ≤ 2) → (why_bytes (why_of b) ≡ b ∷ []) × Unit {0}
why_to zero h = absurd (omega (arith, h.0))
why_to (suc zero) h = (refl, tt)
why_to (suc (suc zero)) h = (refl, tt)
why_to (suc (suc (suc b))) h = absurd (omega (arith, h.1))

why_back : (w : Why) → Unit {0} → (b : ℕ) × ((1 ≤ b) × (b ≤ 2)) × (why_of b ≡ w)
why_back why.Missing h = (1, (omega arith, omega arith), refl)
why_back why.Rights h = (2, (omega arith, omega arith), refl)

why_reads : Reads why_at why_bytes (λ _. Unit {0})
unfolding why_at
why_reads = made_reads why_of why_bytes (λ _. Unit {0}) (byte_reads 1 2 (omega arith) (omega arith)) why_to why_back

-- ---- answers

answer_tag : Answer → ℕ
answer_tag answers.Yes = 0
answer_tag (answers.Stale oid version) = 1
answer_tag (answers.Locked tid) = 2
answer_tag (answers.Rights oid) = 3
answer_tag (answers.OldTid tid) = 4
answer_tag (answers.IllFormed oid) = 5
answer_tag (answers.Exists oid) = 6

answer_body : Answer → List ℕ
answer_body answers.Yes = []
answer_body (answers.Stale oid version) = oid_bytes oid ++ four_bytes version
answer_body (answers.Locked tid) = tid_bytes tid
answer_body (answers.Rights oid) = oid_bytes oid
answer_body (answers.OldTid tid) = tid_bytes tid
answer_body (answers.IllFormed oid) = oid_bytes oid
answer_body (answers.Exists oid) = oid_bytes oid

abbrev HasTag : ℕ → Answer → Type 0
HasTag tag a = IsAnswer a × (answer_tag a ≡ tag)

yes_back : (a : Answer) → HasTag 0 a → a ≡ answers.Yes
unfolding answer_tag
yes_back answers.Yes h = refl
yes_back (answers.Stale oid version) h = absurd (omega (arith, h.1))
yes_back (answers.Locked tid) h = absurd (omega (arith, h.1))
yes_back (answers.Rights oid) h = absurd (omega (arith, h.1))
yes_back (answers.OldTid tid) h = absurd (omega (arith, h.1))
yes_back (answers.IllFormed oid) h = absurd (omega (arith, h.1))
yes_back (answers.Exists oid) h = absurd (omega (arith, h.1))

stale_back : (a : Answer) → HasTag 1 a → (p : Oid × ℕ) × (IsOid p.0 × (p.1 < 2 ^ 32)) × (answers.Stale p.0 p.1 ≡ a)
unfolding answer_tag
stale_back answers.Yes h = absurd (omega (arith, h.1))
stale_back (answers.Stale oid version) h = ((oid, version), h.0, refl)
stale_back (answers.Locked tid) h = absurd (omega (arith, h.1))
stale_back (answers.Rights oid) h = absurd (omega (arith, h.1))
stale_back (answers.OldTid tid) h = absurd (omega (arith, h.1))
stale_back (answers.IllFormed oid) h = absurd (omega (arith, h.1))
stale_back (answers.Exists oid) h = absurd (omega (arith, h.1))

locked_back : (a : Answer) → HasTag 2 a → (t : Tid) × IsTid t × (answers.Locked t ≡ a)
unfolding answer_tag
locked_back answers.Yes h = absurd (omega (arith, h.1))
locked_back (answers.Stale oid version) h = absurd (omega (arith, h.1))
locked_back (answers.Locked tid) h = (tid, h.0, refl)
locked_back (answers.Rights oid) h = absurd (omega (arith, h.1))
locked_back (answers.OldTid tid) h = absurd (omega (arith, h.1))
locked_back (answers.IllFormed oid) h = absurd (omega (arith, h.1))
locked_back (answers.Exists oid) h = absurd (omega (arith, h.1))

rights_back : (a : Answer) → HasTag 3 a → (o : Oid) × IsOid o × (answers.Rights o ≡ a)
unfolding answer_tag
rights_back answers.Yes h = absurd (omega (arith, h.1))
rights_back (answers.Stale oid version) h = absurd (omega (arith, h.1))
rights_back (answers.Locked tid) h = absurd (omega (arith, h.1))
rights_back (answers.Rights oid) h = (oid, h.0, refl)
rights_back (answers.OldTid tid) h = absurd (omega (arith, h.1))
rights_back (answers.IllFormed oid) h = absurd (omega (arith, h.1))
rights_back (answers.Exists oid) h = absurd (omega (arith, h.1))

oldtid_back : (a : Answer) → HasTag 4 a → (t : Tid) × IsTid t × (answers.OldTid t ≡ a)
unfolding answer_tag
oldtid_back answers.Yes h = absurd (omega (arith, h.1))
oldtid_back (answers.Stale oid version) h = absurd (omega (arith, h.1))
oldtid_back (answers.Locked tid) h = absurd (omega (arith, h.1))
oldtid_back (answers.Rights oid) h = absurd (omega (arith, h.1))
oldtid_back (answers.OldTid tid) h = (tid, h.0, refl)
oldtid_back (answers.IllFormed oid) h = absurd (omega (arith, h.1))
oldtid_back (answers.Exists oid) h = absurd (omega (arith, h.1))

illformed_back : (a : Answer) → HasTag 5 a → (o : Oid) × IsOid o × (answers.IllFormed o ≡ a)
unfolding answer_tag
illformed_back answers.Yes h = absurd (omega (arith, h.1))
illformed_back (answers.Stale oid version) h = absurd (omega (arith, h.1))
illformed_back (answers.Locked tid) h = absurd (omega (arith, h.1))
illformed_back (answers.Rights oid) h = absurd (omega (arith, h.1))
illformed_back (answers.OldTid tid) h = absurd (omega (arith, h.1))
illformed_back (answers.IllFormed oid) h = (oid, h.0, refl)
illformed_back (answers.Exists oid) h = absurd (omega (arith, h.1))

exists_back : (a : Answer) → HasTag 6 a → (o : Oid) × IsOid o × (answers.Exists o ≡ a)
unfolding answer_tag
exists_back answers.Yes h = absurd (omega (arith, h.1))
exists_back (answers.Stale oid version) h = absurd (omega (arith, h.1))
exists_back (answers.Locked tid) h = absurd (omega (arith, h.1))
exists_back (answers.Rights oid) h = absurd (omega (arith, h.1))
exists_back (answers.OldTid tid) h = absurd (omega (arith, h.1))
exists_back (answers.IllFormed oid) h = absurd (omega (arith, h.1))
exists_back (answers.Exists oid) h = (oid, h.0, refl)

answer_by_reads : (tag : ℕ) → (0 ≤ tag) × (tag ≤ 6) → Reads (answer_by tag) answer_body (HasTag tag)
unfolding answer_tag answer_body
answer_by_reads zero h = respelled answer_body (HasTag 0) (nothing_reads answers.Yes) (λ a fa. ap answer_body (yes_back a fa)) (λ a e. subst (HasTag 0) (sym e) (tt, refl)) yes_back
answer_by_reads (suc zero) h = made_reads (λ p. answers.Stale p.0 p.1) answer_body (HasTag 1) (both_reads oid_reads four_reads) (λ p fp. (refl, (fp, refl))) stale_back
answer_by_reads (suc (suc zero)) h = made_reads (λ t. answers.Locked t) answer_body (HasTag 2) tid_reads (λ t f. (refl, (f, refl))) locked_back
answer_by_reads (suc (suc (suc zero))) h = made_reads (λ o. answers.Rights o) answer_body (HasTag 3) oid_reads (λ o f. (refl, (f, refl))) rights_back
answer_by_reads (suc (suc (suc (suc zero)))) h = made_reads (λ t. answers.OldTid t) answer_body (HasTag 4) tid_reads (λ t f. (refl, (f, refl))) oldtid_back
answer_by_reads (suc (suc (suc (suc (suc zero))))) h = made_reads (λ o. answers.IllFormed o) answer_body (HasTag 5) oid_reads (λ o f. (refl, (f, refl))) illformed_back
answer_by_reads (suc (suc (suc (suc (suc (suc zero)))))) h = made_reads (λ o. answers.Exists o) answer_body (HasTag 6) oid_reads (λ o f. (refl, (f, refl))) exists_back
answer_by_reads (suc (suc (suc (suc (suc (suc (suc tag))))))) h = absurd (omega (arith, h.1))

answer_parts : (a : Answer) → answer_bytes a ≡ (answer_tag a ∷ []) ++ answer_body a
unfolding answer_tag answer_body
answer_parts answers.Yes = refl
answer_parts (answers.Stale oid version) = refl
answer_parts (answers.Locked tid) = refl
answer_parts (answers.Rights oid) = refl
answer_parts (answers.OldTid tid) = refl
answer_parts (answers.IllFormed oid) = refl
answer_parts (answers.Exists oid) = refl

answer_within : (a : Answer) → (0 ≤ answer_tag a) × (answer_tag a ≤ 6)
unfolding answer_tag
answer_within answers.Yes = (omega arith, omega arith)
answer_within (answers.Stale oid version) = (omega arith, omega arith)
answer_within (answers.Locked tid) = (omega arith, omega arith)
answer_within (answers.Rights oid) = (omega arith, omega arith)
answer_within (answers.OldTid tid) = (omega arith, omega arith)
answer_within (answers.IllFormed oid) = (omega arith, omega arith)
answer_within (answers.Exists oid) = (omega arith, omega arith)

answer_reads : Reads answer_at answer_bytes IsAnswer
unfolding answer_at
answer_reads =
    respelled answer_bytes IsAnswer (chosen_reads answer_by answer_tag answer_body IsAnswer (byte_reads 0 6 (omega arith) (omega arith)) answer_by_reads)
    (λ a fa. answer_parts a) (λ a h. h.1) (λ a h. (answer_within a, h))

-- ---- bodies

kind_of : Message → ℕ
kind_of (messages.Fetch tid oid) = 1
kind_of (messages.Object tid oid number object) = 2
kind_of (messages.Deny tid oid why) = 3
kind_of (messages.Prepare tid items) = 4
kind_of (messages.Vote tid answer) = 5
kind_of (messages.Commit tid) = 6
kind_of (messages.Abort tid) = 7
kind_of (messages.Boot boot) = 8
kind_of (messages.Inquire tid) = 9

body_bytes : Message → List ℕ
body_bytes (messages.Fetch tid oid) = tid_bytes tid ++ oid_bytes oid
body_bytes (messages.Object tid oid number object) = tid_bytes tid ++ oid_bytes oid ++ four_bytes number ++ object_bytes object
body_bytes (messages.Deny tid oid why) = tid_bytes tid ++ oid_bytes oid ++ why_bytes why
body_bytes (messages.Prepare tid items) = tid_bytes tid ++ items_bytes items
body_bytes (messages.Vote tid answer) = tid_bytes tid ++ answer_bytes answer
body_bytes (messages.Commit tid) = tid_bytes tid
body_bytes (messages.Abort tid) = tid_bytes tid
body_bytes (messages.Boot boot) = four_bytes boot
body_bytes (messages.Inquire tid) = tid_bytes tid

abbrev HasKind : ℕ → ℕ → Message → Type 0
HasKind version kind m = IsBody version m × (kind_of m ≡ kind)

fetch_back : (version : ℕ) (m : Message) → HasKind version 1 m → (p : Tid × Oid) × (IsTid p.0 × IsOid p.1) × (messages.Fetch p.0 p.1 ≡ m)
unfolding kind_of
fetch_back version (messages.Fetch tid oid) h = ((tid, oid), (h.0.0, h.0.1), refl)
fetch_back version (messages.Object tid oid number object) h = absurd (omega (arith, h.1))
fetch_back version (messages.Deny tid oid why) h = absurd (omega (arith, h.1))
fetch_back version (messages.Prepare tid items) h = absurd (omega (arith, h.1))
fetch_back version (messages.Vote tid answer) h = absurd (omega (arith, h.1))
fetch_back version (messages.Commit tid) h = absurd (omega (arith, h.1))
fetch_back version (messages.Abort tid) h = absurd (omega (arith, h.1))
fetch_back version (messages.Boot boot) h = absurd (omega (arith, h.1))
fetch_back version (messages.Inquire tid) h = absurd (omega (arith, h.1))

object_back : (version : ℕ) (m : Message) → HasKind version 2 m → (p : Tid × (Oid × (ℕ × Object))) × (IsTid p.0 × (IsOid p.1.0 × ((p.1.1.0 < 2 ^ 32) × IsObject version p.1.1.1))) × (messages.Object p.0 p.1.0 p.1.1.0 p.1.1.1 ≡ m)
unfolding kind_of
object_back version (messages.Fetch tid oid) h = absurd (omega (arith, h.1))
object_back version (messages.Object tid oid number object) h = ((tid, (oid, (number, object))), (h.0.0, (h.0.1, (h.0.2, h.0.3))), refl)
object_back version (messages.Deny tid oid why) h = absurd (omega (arith, h.1))
object_back version (messages.Prepare tid items) h = absurd (omega (arith, h.1))
object_back version (messages.Vote tid answer) h = absurd (omega (arith, h.1))
object_back version (messages.Commit tid) h = absurd (omega (arith, h.1))
object_back version (messages.Abort tid) h = absurd (omega (arith, h.1))
object_back version (messages.Boot boot) h = absurd (omega (arith, h.1))
object_back version (messages.Inquire tid) h = absurd (omega (arith, h.1))

deny_back : (version : ℕ) (m : Message) → HasKind version 3 m → (p : Tid × (Oid × Why)) × (IsTid p.0 × (IsOid p.1.0 × Unit {0})) × (messages.Deny p.0 p.1.0 p.1.1 ≡ m)
unfolding kind_of
deny_back version (messages.Fetch tid oid) h = absurd (omega (arith, h.1))
deny_back version (messages.Object tid oid number object) h = absurd (omega (arith, h.1))
deny_back version (messages.Deny tid oid why) h = ((tid, (oid, why)), (h.0.0, (h.0.1, tt)), refl)
deny_back version (messages.Prepare tid items) h = absurd (omega (arith, h.1))
deny_back version (messages.Vote tid answer) h = absurd (omega (arith, h.1))
deny_back version (messages.Commit tid) h = absurd (omega (arith, h.1))
deny_back version (messages.Abort tid) h = absurd (omega (arith, h.1))
deny_back version (messages.Boot boot) h = absurd (omega (arith, h.1))
deny_back version (messages.Inquire tid) h = absurd (omega (arith, h.1))

prepare_back : (version : ℕ) (m : Message) → HasKind version 4 m → (p : Tid × Items) × (IsTid p.0 × AreItems version p.1) × (messages.Prepare p.0 p.1 ≡ m)
unfolding kind_of
prepare_back version (messages.Fetch tid oid) h = absurd (omega (arith, h.1))
prepare_back version (messages.Object tid oid number object) h = absurd (omega (arith, h.1))
prepare_back version (messages.Deny tid oid why) h = absurd (omega (arith, h.1))
prepare_back version (messages.Prepare tid items) h = ((tid, items), (h.0.0, h.0.1), refl)
prepare_back version (messages.Vote tid answer) h = absurd (omega (arith, h.1))
prepare_back version (messages.Commit tid) h = absurd (omega (arith, h.1))
prepare_back version (messages.Abort tid) h = absurd (omega (arith, h.1))
prepare_back version (messages.Boot boot) h = absurd (omega (arith, h.1))
prepare_back version (messages.Inquire tid) h = absurd (omega (arith, h.1))

vote_back : (version : ℕ) (m : Message) → HasKind version 5 m → (p : Tid × Answer) × (IsTid p.0 × IsAnswer p.1) × (messages.Vote p.0 p.1 ≡ m)
unfolding kind_of
vote_back version (messages.Fetch tid oid) h = absurd (omega (arith, h.1))
vote_back version (messages.Object tid oid number object) h = absurd (omega (arith, h.1))
vote_back version (messages.Deny tid oid why) h = absurd (omega (arith, h.1))
vote_back version (messages.Prepare tid items) h = absurd (omega (arith, h.1))
vote_back version (messages.Vote tid answer) h = ((tid, answer), (h.0.0, h.0.1), refl)
vote_back version (messages.Commit tid) h = absurd (omega (arith, h.1))
vote_back version (messages.Abort tid) h = absurd (omega (arith, h.1))
vote_back version (messages.Boot boot) h = absurd (omega (arith, h.1))
vote_back version (messages.Inquire tid) h = absurd (omega (arith, h.1))

commit_back : (version : ℕ) (m : Message) → HasKind version 6 m → (t : Tid) × IsTid t × (messages.Commit t ≡ m)
unfolding kind_of
commit_back version (messages.Fetch tid oid) h = absurd (omega (arith, h.1))
commit_back version (messages.Object tid oid number object) h = absurd (omega (arith, h.1))
commit_back version (messages.Deny tid oid why) h = absurd (omega (arith, h.1))
commit_back version (messages.Prepare tid items) h = absurd (omega (arith, h.1))
commit_back version (messages.Vote tid answer) h = absurd (omega (arith, h.1))
commit_back version (messages.Commit tid) h = (tid, h.0, refl)
commit_back version (messages.Abort tid) h = absurd (omega (arith, h.1))
commit_back version (messages.Boot boot) h = absurd (omega (arith, h.1))
commit_back version (messages.Inquire tid) h = absurd (omega (arith, h.1))

abort_back : (version : ℕ) (m : Message) → HasKind version 7 m → (t : Tid) × IsTid t × (messages.Abort t ≡ m)
unfolding kind_of
abort_back version (messages.Fetch tid oid) h = absurd (omega (arith, h.1))
abort_back version (messages.Object tid oid number object) h = absurd (omega (arith, h.1))
abort_back version (messages.Deny tid oid why) h = absurd (omega (arith, h.1))
abort_back version (messages.Prepare tid items) h = absurd (omega (arith, h.1))
abort_back version (messages.Vote tid answer) h = absurd (omega (arith, h.1))
abort_back version (messages.Commit tid) h = absurd (omega (arith, h.1))
abort_back version (messages.Abort tid) h = (tid, h.0, refl)
abort_back version (messages.Boot boot) h = absurd (omega (arith, h.1))
abort_back version (messages.Inquire tid) h = absurd (omega (arith, h.1))

boot_back : (version : ℕ) (m : Message) → HasKind version 8 m → (n : ℕ) × (n < 2 ^ 32) × (messages.Boot n ≡ m)
unfolding kind_of
boot_back version (messages.Fetch tid oid) h = absurd (omega (arith, h.1))
boot_back version (messages.Object tid oid number object) h = absurd (omega (arith, h.1))
boot_back version (messages.Deny tid oid why) h = absurd (omega (arith, h.1))
boot_back version (messages.Prepare tid items) h = absurd (omega (arith, h.1))
boot_back version (messages.Vote tid answer) h = absurd (omega (arith, h.1))
boot_back version (messages.Commit tid) h = absurd (omega (arith, h.1))
boot_back version (messages.Abort tid) h = absurd (omega (arith, h.1))
boot_back version (messages.Boot boot) h = (boot, h.0, refl)
boot_back version (messages.Inquire tid) h = absurd (omega (arith, h.1))

inquire_back : (version : ℕ) (m : Message) → HasKind version 9 m → (t : Tid) × IsTid t × (messages.Inquire t ≡ m)
unfolding kind_of
inquire_back version (messages.Fetch tid oid) h = absurd (omega (arith, h.1))
inquire_back version (messages.Object tid oid number object) h = absurd (omega (arith, h.1))
inquire_back version (messages.Deny tid oid why) h = absurd (omega (arith, h.1))
inquire_back version (messages.Prepare tid items) h = absurd (omega (arith, h.1))
inquire_back version (messages.Vote tid answer) h = absurd (omega (arith, h.1))
inquire_back version (messages.Commit tid) h = absurd (omega (arith, h.1))
inquire_back version (messages.Abort tid) h = absurd (omega (arith, h.1))
inquire_back version (messages.Boot boot) h = absurd (omega (arith, h.1))
inquire_back version (messages.Inquire tid) h = (tid, h.0, refl)

object_regrouped : (tid : Tid) (oid : Oid) (n : ℕ) (x : Object) → tid_bytes tid ++ oid_bytes oid ++ four_bytes n ++ object_bytes x ≡ tid_bytes tid ++ (oid_bytes oid ++ (four_bytes n ++ object_bytes x))
object_regrouped tid oid n x = append_assoc (tid_bytes tid ++ oid_bytes oid) (four_bytes n) (object_bytes x) ∙ append_assoc (tid_bytes tid) (oid_bytes oid) (four_bytes n ++ object_bytes x)

body_by_reads : (version kind : ℕ) → (1 ≤ kind) × (kind ≤ 9) → Reads (body_by kind) body_bytes (HasKind version kind)
unfolding kind_of body_bytes
body_by_reads version zero h = absurd (omega (arith, h.0))
body_by_reads version (suc zero) h = made_reads (λ p. messages.Fetch p.0 p.1) body_bytes (HasKind version 1) (both_reads tid_reads oid_reads) (λ p fp. (refl, ((fp.0, fp.1), refl))) (fetch_back version)
body_by_reads version (suc (suc zero)) h = made_reads (λ p. messages.Object p.0 p.1.0 p.1.1.0 p.1.1.1) body_bytes (HasKind version 2) (both_reads tid_reads (both_reads oid_reads (both_reads four_reads (object_reads version)))) (λ p fp. (object_regrouped p.0 p.1.0 p.1.1.0 p.1.1.1, ((fp.0, fp.1.0, fp.1.1.0, fp.1.1.1), refl))) (object_back version)
body_by_reads version (suc (suc (suc zero))) h = made_reads (λ p. messages.Deny p.0 p.1.0 p.1.1) body_bytes (HasKind version 3) (both_reads tid_reads (both_reads oid_reads why_reads)) (λ p fp. (append_assoc (tid_bytes p.0) (oid_bytes p.1.0) (why_bytes p.1.1), ((fp.0, fp.1.0), refl))) (deny_back version)
body_by_reads version (suc (suc (suc (suc zero)))) h = made_reads (λ p. messages.Prepare p.0 p.1) body_bytes (HasKind version 4) (both_reads tid_reads (items_reads version)) (λ p fp. (refl, ((fp.0, fp.1), refl))) (prepare_back version)
body_by_reads version (suc (suc (suc (suc (suc zero))))) h = made_reads (λ p. messages.Vote p.0 p.1) body_bytes (HasKind version 5) (both_reads tid_reads answer_reads) (λ p fp. (refl, ((fp.0, fp.1), refl))) (vote_back version)
body_by_reads version (suc (suc (suc (suc (suc (suc zero)))))) h = made_reads (λ t. messages.Commit t) body_bytes (HasKind version 6) tid_reads (λ t ft. (refl, (ft, refl))) (commit_back version)
body_by_reads version (suc (suc (suc (suc (suc (suc (suc zero))))))) h = made_reads (λ t. messages.Abort t) body_bytes (HasKind version 7) tid_reads (λ t ft. (refl, (ft, refl))) (abort_back version)
body_by_reads version (suc (suc (suc (suc (suc (suc (suc (suc zero)))))))) h = made_reads (λ n. messages.Boot n) body_bytes (HasKind version 8) four_reads (λ n fn. (refl, (fn, refl))) (boot_back version)
body_by_reads version (suc (suc (suc (suc (suc (suc (suc (suc (suc zero))))))))) h = made_reads (λ t. messages.Inquire t) body_bytes (HasKind version 9) tid_reads (λ t ft. (refl, (ft, refl))) (inquire_back version)
body_by_reads version (suc (suc (suc (suc (suc (suc (suc (suc (suc (suc kind)))))))))) h = absurd (omega (arith, h.1))

body_parts : (m : Message) → kind_and_body m ≡ (kind_of m ∷ []) ++ body_bytes m
unfolding kind_of body_bytes
body_parts (messages.Fetch tid oid) = refl
body_parts (messages.Object tid oid number object) = refl
body_parts (messages.Deny tid oid why) = refl
body_parts (messages.Prepare tid items) = refl
body_parts (messages.Vote tid answer) = refl
body_parts (messages.Commit tid) = refl
body_parts (messages.Abort tid) = refl
body_parts (messages.Boot boot) = refl
body_parts (messages.Inquire tid) = refl

kind_within : (m : Message) → (1 ≤ kind_of m) × (kind_of m ≤ 9)
unfolding kind_of
kind_within (messages.Fetch tid oid) = (omega arith, omega arith)
kind_within (messages.Object tid oid number object) = (omega arith, omega arith)
kind_within (messages.Deny tid oid why) = (omega arith, omega arith)
kind_within (messages.Prepare tid items) = (omega arith, omega arith)
kind_within (messages.Vote tid answer) = (omega arith, omega arith)
kind_within (messages.Commit tid) = (omega arith, omega arith)
kind_within (messages.Abort tid) = (omega arith, omega arith)
kind_within (messages.Boot boot) = (omega arith, omega arith)
kind_within (messages.Inquire tid) = (omega arith, omega arith)

kind_reads : (version : ℕ) → Reads (λ bytes. chosen (byte_at 1 9) body_by bytes) kind_and_body (IsBody version)
kind_reads version =
    respelled kind_and_body (IsBody version) (chosen_reads body_by kind_of body_bytes (IsBody version) (byte_reads 1 9 (omega arith) (omega arith)) (body_by_reads version))
    (λ m fm. body_parts m) (λ m h. h.1) (λ m h. (kind_within m, h))

-- the version is the one that is sent
pub message_reads : Reads message_at (message_bytes sent_version) (IsMessage sent_version)
unfolding message_at
message_reads =
    respelled (message_bytes sent_version) (IsMessage sent_version)
    (chosen_reads (λ version. chosen (byte_at 1 9) body_by) (λ m. sent_version) kind_and_body (IsBody sent_version) (byte_reads sent_version sent_version (omega arith) (omega arith))
    (λ a fa. respelled kind_and_body (λ m. IsBody sent_version m × (sent_version ≡ a)) (kind_reads 1) (λ m fm. refl) (λ m h. (h, omega (arith, fa.0, fa.1))) (λ m h. h.0)))
    (λ m fm. refl) (λ m h. record { known = refl; body = h.1 }) (λ m h. ((omega arith, omega arith), h.body))

-- what has a spelling keeps the counts
writes_kept : (version : ℕ) (ws : List (Oid × ℕ × Object)) → AllByRecursion (IsWrite version) ws → AllByRecursion (λ w. length w.2.fields ≤ 16) ws
writes_kept version [] h = tt
writes_kept version (w ∷ ws) h = (h.0.object.count, writes_kept version ws h.1)

creates_kept : (version : ℕ) (cs : List (Oid × Object)) → AllByRecursion (IsCreate version) cs → AllByRecursion (λ c. length c.1.fields ≤ 16) cs
creates_kept version [] h = tt
creates_kept version (c ∷ cs) h = (h.0.object.count, creates_kept version cs h.1)

counts_kept : (version : ℕ) (m : Message) → IsBody version m → KeepsCounts m
counts_kept version (messages.Fetch tid oid) h = tt
counts_kept version (messages.Object tid oid number object) h = h.3.count
counts_kept version (messages.Deny tid oid why) h = tt
counts_kept version (messages.Prepare tid items) h = record {
  reads = h.1.reads_count;
  writes = h.1.writes_count;
  written = All-from_recursion (λ (w : Oid × ℕ × Object). length w.2.fields ≤ 16) items.writes (writes_kept version items.writes h.1.writes);
  creates = h.1.creates_count;
  created = All-from_recursion (λ (c : Oid × Object). length c.1.fields ≤ 16) items.creates (creates_kept version items.creates h.1.creates);
}
counts_kept version (messages.Vote tid answer) h = tt
counts_kept version (messages.Commit tid) h = tt
counts_kept version (messages.Abort tid) h = tt
counts_kept version (messages.Boot boot) h = tt
counts_kept version (messages.Inquire tid) h = tt

pub can_be_encoded : (version : ℕ) (m : Message) → IsMessage version m → KeepsCounts m
can_be_encoded version m h = counts_kept version m h.body
