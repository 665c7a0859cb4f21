-- Messages as bytes: the one spelling of each message, what has one, and how far bytes go along with one.
use Rattle.std.specs.Prelude.{◌≡◌, ℕ, ◌<◌, ◌≤◌, ◌^◌, List, [], ◌∷◌, ◌++◌, length, take}
use Rattle.fab_base.specs.declared.message.Why.{Why}
use Rattle.fab_base.specs.declared.message.Why.TheVariants as why
use Rattle.fab_base.specs.declared.message.Answer.{Answer}
use Rattle.fab_base.specs.declared.message.Answer.TheVariants as answers
use Rattle.fab_base.specs.declared.message.Message.{Message}
use Rattle.fab_base.specs.declared.message.Message.TheVariants as messages
use Rattle.fab_base.specs.FieldSpelling.{sent_version, four_bytes, tid_bytes, IsTid, oid_bytes, IsOid, object_bytes, IsObject, items_bytes, AreItems, KeepsItems}

-- why a Fetch is denied, one byte
abbrev pub why_bytes : Why → List ℕ
why_bytes why.Missing = 1 ∷ []
why_bytes why.Rights = 2 ∷ []

-- a vote: a tag, and what the answer names
abbrev pub answer_bytes : Answer → List ℕ
answer_bytes answers.Yes = 0 ∷ []
answer_bytes (answers.Stale oid version) = 1 ∷ (oid_bytes oid ++ four_bytes version)
answer_bytes (answers.Locked tid) = 2 ∷ tid_bytes tid
answer_bytes (answers.Rights oid) = 3 ∷ oid_bytes oid
answer_bytes (answers.OldTid tid) = 4 ∷ tid_bytes tid
answer_bytes (answers.IllFormed oid) = 5 ∷ oid_bytes oid
answer_bytes (answers.Exists oid) = 6 ∷ oid_bytes oid

abbrev pub IsAnswer : Answer → Type 0
IsAnswer answers.Yes = Unit {0}
IsAnswer (answers.Stale oid version) = IsOid oid × (version < 2 ^ 32)
IsAnswer (answers.Locked tid) = IsTid tid
IsAnswer (answers.Rights oid) = IsOid oid
IsAnswer (answers.OldTid tid) = IsTid tid
IsAnswer (answers.IllFormed oid) = IsOid oid
IsAnswer (answers.Exists oid) = IsOid oid

-- the kind, and what follows it
abbrev pub kind_and_body : Message → List ℕ
kind_and_body (messages.Fetch tid oid) = 1 ∷ (tid_bytes tid ++ oid_bytes oid)
kind_and_body (messages.Object tid oid version object) = 2 ∷ (tid_bytes tid ++ oid_bytes oid ++ four_bytes version ++ object_bytes object)
kind_and_body (messages.Deny tid oid why) = 3 ∷ (tid_bytes tid ++ oid_bytes oid ++ why_bytes why)
kind_and_body (messages.Prepare tid items) = 4 ∷ (tid_bytes tid ++ items_bytes items)
kind_and_body (messages.Vote tid answer) = 5 ∷ (tid_bytes tid ++ answer_bytes answer)
kind_and_body (messages.Commit tid) = 6 ∷ tid_bytes tid
kind_and_body (messages.Abort tid) = 7 ∷ tid_bytes tid
kind_and_body (messages.Boot boot) = 8 ∷ four_bytes boot
kind_and_body (messages.Inquire tid) = 9 ∷ tid_bytes tid

-- the spelling: the version, the kind, the body
abbrev pub message_bytes : ℕ → Message → List ℕ
message_bytes version m = version ∷ kind_and_body m

-- the spelling that is sent
abbrev pub spelled : Message → List ℕ
spelled m = message_bytes sent_version m

-- what the numbers and counts of a body keep
abbrev pub IsBody : ℕ → Message → Type 0
IsBody version (messages.Fetch tid oid) = IsTid tid × IsOid oid
IsBody version (messages.Object tid oid number object) = IsTid tid × IsOid oid × (number < 2 ^ 32) × IsObject version object
IsBody version (messages.Deny tid oid why) = IsTid tid × IsOid oid
IsBody version (messages.Prepare tid items) = IsTid tid × AreItems version items
IsBody version (messages.Vote tid answer) = IsTid tid × IsAnswer answer
IsBody version (messages.Commit tid) = IsTid tid
IsBody version (messages.Abort tid) = IsTid tid
IsBody version (messages.Boot boot) = boot < 2 ^ 32
IsBody version (messages.Inquire tid) = IsTid tid

-- what has a spelling in a version, which is the one that is sent
pub record IsMessage (version : ℕ) (m : Message) : Type 0 where
  pub known : version ≡ sent_version
  pub body : IsBody version m

-- the counts alone: what of this the types of the code don't keep
abbrev pub KeepsCounts : Message → Type 0
KeepsCounts (messages.Object tid oid number object) = length object.fields ≤ 16
KeepsCounts (messages.Prepare tid items) = KeepsItems items
KeepsCounts _ = Unit {0}

-- the bytes are the spelling of the message
abbrev pub Spells : List ℕ → Message → Type 0
Spells bytes m = (version : ℕ) × IsMessage version m × (bytes ≡ message_bytes version m)

-- bytes with which some spelling begins
abbrev pub BeginsSpelling : List ℕ → Type 0
BeginsSpelling front = (more : List ℕ) × (m : Message) × Spells (front ++ more) m

-- the length of the longest front of the bytes with which some spelling begins
pub record IsLongestFront (bytes : List ℕ) (at : ℕ) : Type 0 where
  pub within : at ≤ length bytes
  pub begins : BeginsSpelling (take at bytes)
  pub longest : (n : ℕ) → n ≤ length bytes → BeginsSpelling (take n bytes) → n ≤ at

-- Of more bytes than these nothing is read.
abbrev pub byte_limit : ℕ
byte_limit = 131072

-- the bytes are read as the message
pub record IsReadAs (bytes : List ℕ) (m : Message) : Type 0 where
  pub short : length bytes ≤ byte_limit
  pub spelled : Spells bytes m

-- the place where bytes that are read as no message go wrong: the limit, or the end of the longest front
pub record IsBadPlace (bytes : List ℕ) (at : ℕ) : Type 0 where
  pub unread : (m : Message) → IsReadAs bytes m → ⊥
  pub long : byte_limit < length bytes → at ≡ byte_limit
  pub short : length bytes ≤ byte_limit → IsLongestFront bytes at
