-- What is sent is read as itself, as far as it can be spelled; and what of it is read in any case.
use Rattle.std.proofs.Common.{◌≡◌, ℕ, ◌<◌, ◌≤◌, ◌^◌, List, take, drop, length, get_or, Some, refl, sym, ap, ◌∙◌, subst, w16, w32, arith, lit≤}
use Rattle.std.specs.Int.{from_be_bytes}
use Rattle.std.proofs.lemmas.List.Elements.{All-from_recursion}
use Rattle.std.proofs.lemmas.Nat.{from_be_bytes-to_be_bytes_2, from_be_bytes-to_be_bytes_4}
use Rattle.std.proofs.lemmas.Option.{same_Some}
use Rattle.fab_base.specs.declared.object.Object.{Object}
use Rattle.fab_base.specs.declared.object.Oid.{Oid}
use Rattle.fab_base.specs.declared.object.Tid.{Tid}
use Rattle.fab_base.specs.declared.message.Answer.{Answer}
use Rattle.fab_base.specs.declared.message.Answer.TheVariants as answers
use Rattle.fab_base.specs.declared.message.Message.{Message}
use Rattle.fab_base.specs.declared.message.Message.TheVariants as m
use Rattle.fab_base.specs.FieldSpelling.{IsTid, IsOid, IsWrite, IsCreate, sent_version}
use Rattle.fab_base.specs.MessageSpelling.{IsBody, IsReadAs, KeepsCounts, message_bytes, spelled}
use Rattle.fab_world.specs.Machine.{Setting}
use Rattle.fab_world.specs.Serial.{IsSetting}
use Rattle.fab_base.specs.declared.message.Items.{Items}
use Rattle.fab_base.proofs.Lists.{all_along}

-- ---- what stands at places of a message: its kind, a tid, behind this an answer, or a name and a version

abbrev pub kind_at : List ℕ → ℕ
kind_at bytes = get_or bytes 1 0

abbrev pub answer_at : List ℕ → ℕ
answer_at bytes = get_or bytes 12 0

abbrev number_at : ℕ → List ℕ → ℕ
number_at k bytes = from_be_bytes w32 (take 4 (drop k bytes))

abbrev short_at : ℕ → List ℕ → ℕ
short_at k bytes = from_be_bytes w16 (take 2 (drop k bytes))

abbrev tid_at : List ℕ → Tid
tid_at bytes = record { worker = short_at 2 bytes; boot = number_at 4 bytes; number = number_at 8 bytes }

abbrev name_at : List ℕ → Oid
name_at bytes = record {
  store = short_at 12 bytes;
  class = short_at 14 bytes;
  worker = short_at 16 bytes;
  boot = number_at 18 bytes;
  number = number_at 22 bytes;
  site = short_at 26 bytes;
  index = short_at 28 bytes;
}

vote_tid : (t : Tid) (answer : Answer) → IsTid t → tid_at (spelled (m.Vote t answer)) ≡ t
vote_tid t answer h =
    let worker = from_be_bytes-to_be_bytes_2 t.worker h.worker in
    let boot = from_be_bytes-to_be_bytes_4 t.boot h.boot in
    let number = from_be_bytes-to_be_bytes_4 t.number h.number in
    λ i. record { worker = worker i; boot = boot i; number = number i }

object_name : (t : Tid) (o : Oid) (version : ℕ) (x : Object) → IsOid o → name_at (spelled (m.Object t o version x)) ≡ o
object_name t o version x h =
    let store = from_be_bytes-to_be_bytes_2 o.store h.store in
    let class = from_be_bytes-to_be_bytes_2 o.class h.class in
    let worker = from_be_bytes-to_be_bytes_2 o.worker h.worker in
    let boot = from_be_bytes-to_be_bytes_4 o.boot h.boot in
    let number = from_be_bytes-to_be_bytes_4 o.number h.number in
    let site = from_be_bytes-to_be_bytes_2 o.site h.site in
    let index = from_be_bytes-to_be_bytes_2 o.index h.index in
    λ i. record { store = store i; class = class i; worker = worker i; boot = boot i; number = number i; site = site i; index = index i }

object_version : (t : Tid) (o : Oid) (version : ℕ) (x : Object) → version < 2 ^ 32 → number_at 30 (spelled (m.Object t o version x)) ≡ version
object_version t o version x h = from_be_bytes-to_be_bytes_4 version h

-- no answer but Yes has its tag
yes_alone : (t u : Tid) (answer : Answer) → answer_at (spelled (m.Vote t answer)) ≡ answer_at (spelled (m.Vote u answers.Yes)) → answer ≡ answers.Yes
yes_alone t u answers.Yes e = refl
yes_alone t u (answers.Stale o version) e = let no : 1 ≡ 0 = e in absurd (omega (arith, no))
yes_alone t u (answers.Locked other) e = let no : 2 ≡ 0 = e in absurd (omega (arith, no))
yes_alone t u (answers.Rights o) e = let no : 3 ≡ 0 = e in absurd (omega (arith, no))
yes_alone t u (answers.OldTid last) e = let no : 4 ≡ 0 = e in absurd (omega (arith, no))
yes_alone t u (answers.IllFormed o) e = let no : 5 ≡ 0 = e in absurd (omega (arith, no))
yes_alone t u (answers.Exists o) e = let no : 6 ≡ 0 = e in absurd (omega (arith, no))

-- the numbers of a message that is read, and its bytes
pub record IsSpelled (bytes : List ℕ) (message : Message) : Type 0 where
  pub body : IsBody sent_version message
  pub bytes_are : bytes ≡ spelled message

-- a message in range has no more of anything than a store may keep
pub counts_of : (message : Message) → IsBody sent_version message → KeepsCounts message
counts_of (m.Object t o version x) h = let y = h.3 in y.count
counts_of (m.Prepare t items) h =
    let are = h.1 in
    record {
      reads = are.reads_count;
      writes = are.writes_count;
      written = All-from_recursion (λ w. length w.2.fields ≤ 16) items.writes
          (all_along (IsWrite sent_version) (λ w. length w.2.fields ≤ 16) (λ w g. let y = g.object in y.count) items.writes are.writes);
      creates = are.creates_count;
      created = All-from_recursion (λ c. length c.1.fields ≤ 16) items.creates
          (all_along (IsCreate sent_version) (λ c. length c.1.fields ≤ 16) (λ c g. let y = g.object in y.count) items.creates are.creates);
    }
counts_of (m.Fetch t o) h = tt
counts_of (m.Deny t o reason) h = tt
counts_of (m.Vote t answer) h = tt
counts_of (m.Commit t) h = tt
counts_of (m.Abort t) h = tt
counts_of (m.Boot b) h = tt
counts_of (m.Inquire t) h = tt

module _ (S : Setting) (given : IsSetting S) where
  -- what was read is within range, and was spelled so
  pub spelled_so : (bytes : List ℕ) (message : Message) → S.read bytes ≡ Some message → IsSpelled bytes message
  spelled_so bytes message e =
      let read : IsReadAs bytes message = (given.read bytes message).0 e in
      let s = read.spelled in
      let known : s.0 ≡ 1 = s.1.known in
      record {
        body = subst (λ version. IsBody version message) known s.1.body;
        bytes_are = s.2 ∙ ap (λ version. message_bytes version message) known;
      }

  -- what can be spelled is read as itself, if it is read
  pub read_back : (sent read : Message) → IsBody sent_version sent → S.read (spelled sent) ≡ Some read → read ≡ sent
  read_back sent read body e =
      let is : IsReadAs (spelled sent) read = (given.read (spelled sent) read).0 e in
      let own : IsReadAs (spelled sent) sent = record { short = is.short; spelled = (sent_version, record { known = refl; body = body }, refl) } in
      same_Some read sent (sym e ∙ (given.read (spelled sent) sent).1 own)

  -- what is read is of the kind that was sent
  pub same_kind : (sent read : Message) → S.read (spelled sent) ≡ Some read → kind_at (spelled sent) ≡ kind_at (spelled read)
  same_kind sent read e = let s = spelled_so (spelled sent) read e in ap kind_at s.bytes_are

  -- a vote that is read as Yes is one
  pub yes_is_yes : (t u : Tid) (answer : Answer) → S.read (spelled (m.Vote t answer)) ≡ Some (m.Vote u answers.Yes) → answer ≡ answers.Yes
  yes_is_yes t u answer e =
      let s = spelled_so (spelled (m.Vote t answer)) (m.Vote u answers.Yes) e in
      yes_alone t u answer (ap answer_at s.bytes_are)

  -- a vote that is read is of the tid that was sent
  pub same_vote : (t u : Tid) (answer other : Answer) → IsTid t → S.read (spelled (m.Vote t answer)) ≡ Some (m.Vote u other) → u ≡ t
  same_vote t u answer other h e =
      let s = spelled_so (spelled (m.Vote t answer)) (m.Vote u other) e in
      let body = s.body in
      sym (vote_tid u other body.0) ∙ sym (ap tid_at s.bytes_are) ∙ vote_tid t answer h

  -- an object that is read has the name that was sent, and the version where this is one
  pub same_object : (t u : Tid) (o p : Oid) (version read : ℕ) (x y : Object) → IsOid o
      → S.read (spelled (m.Object t o version x)) ≡ Some (m.Object u p read y) → p ≡ o
  same_object t u o p version read x y h e =
      let s = spelled_so (spelled (m.Object t o version x)) (m.Object u p read y) e in
      let body = s.body in
      sym (object_name u p read y body.1) ∙ sym (ap name_at s.bytes_are) ∙ object_name t o version x h

  pub same_version : (t u : Tid) (o p : Oid) (version read : ℕ) (x y : Object) → version < 2 ^ 32
      → S.read (spelled (m.Object t o version x)) ≡ Some (m.Object u p read y) → read ≡ version
  same_version t u o p version read x y h e =
      let s = spelled_so (spelled (m.Object t o version x)) (m.Object u p read y) e in
      let body = s.body in
      sym (object_version u p read y body.2) ∙ sym (ap (number_at 30) s.bytes_are) ∙ object_version t o version x h

  -- a Commit and a Boot are read as themselves, and a Commit as nothing else
  pub commit_back : (t : Tid) → IsTid t → S.read (spelled (m.Commit t)) ≡ Some (m.Commit t)
  commit_back t h = (given.read (spelled (m.Commit t)) (m.Commit t)).1 (record { short = lit≤ tt; spelled = (sent_version, record { known = refl; body = h }, refl) })

  -- the same of a Boot
  pub boot_back : (b : ℕ) → b < 2 ^ 32 → S.read (spelled (m.Boot b)) ≡ Some (m.Boot b)
  boot_back b h = (given.read (spelled (m.Boot b)) (m.Boot b)).1 (record { short = lit≤ tt; spelled = (sent_version, record { known = refl; body = h }, refl) })

  pub commit_no_prepare : (t u : Tid) (items : Items) → S.read (spelled (m.Commit t)) ≡ Some (m.Prepare u items) → ⊥
  commit_no_prepare t u items e = let bad : 6 ≡ 4 = same_kind (m.Commit t) (m.Prepare u items) e in omega (arith, bad)

  pub commit_no_boot : (t : Tid) (b : ℕ) → S.read (spelled (m.Commit t)) ≡ Some (m.Boot b) → ⊥
  commit_no_boot t b e = let bad : 6 ≡ 8 = same_kind (m.Commit t) (m.Boot b) e in omega (arith, bad)
