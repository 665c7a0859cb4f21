-- Reading from left to right. A reader answers what it read and the bytes after it, or the number of bytes that
-- are left where the first wrong byte stands, none where the bytes end too early.
use Rattle.std.specs.Prelude.{◌≡◌, ℕ, zero, suc, ◌+◌, ◌*◌, Bool, true, List, [], ◌∷◌, length, drop, Option, None, Result, Ok, Err, nat_lt, nat_le, ◌&&◌, ◌==◌, if◌then◌else◌}
use Rattle.std.specs.Int.{w32, cast_signed}
use Rattle.std.specs.Result.{result_ok}
use Rattle.byteorder.specs.Endian.{big_number}
use Rattle.fab_base.specs.declared.object.Tid.{Tid}
use Rattle.fab_base.specs.declared.object.Oid.{Oid}
use Rattle.fab_base.specs.declared.object.Value.{Value}
use Rattle.fab_base.specs.declared.object.Value.TheVariants.{Int, Null, Ref}
use Rattle.fab_base.specs.declared.object.Object.{Object}
use Rattle.fab_base.specs.declared.message.Items.{Items}
use Rattle.fab_base.specs.declared.message.Why.{Why}
use Rattle.fab_base.specs.declared.message.Why.TheVariants as why
use Rattle.fab_base.specs.declared.message.Answer.{Answer}
use Rattle.fab_base.specs.declared.message.Answer.TheVariants as answers
use Rattle.fab_base.specs.declared.message.Message.{Message}
use Rattle.fab_base.specs.declared.message.Message.TheVariants as messages
use Rattle.fab_base.specs.FieldSpelling.{sent_version}
use Rattle.fab_base.specs.MessageSpelling.{byte_limit}
use Rattle.fab_wire.specs.declared.stop.Stop.{Stop}
use Rattle.fab_wire.specs.declared.stop.Stop.TheVariants as stops

abbrev pub Reader : Type 0 → Type 0
Reader A = List ℕ → Result (A × List ℕ) ℕ

infixl 10 ◌>>=◌
abbrev pub ◌>>=◌ : {A B : Type 0} → Result A ℕ → (A → Result B ℕ) → Result B ℕ
(Ok x) >>= f = f x
(Err left) >>= f = Err left

-- What a function returned, seen by view, is what reading gives, unless memory ran out.
abbrev pub Fails : {Y : Type 0} → Stop → Result Y ℕ → Type 0
Fails stops.Memory read = Unit {0}
Fails (stops.Bad left) read = read ≡ Err left

abbrev pub Gives : {X Y : Type 0} → (X → Y) → Result X Stop → Result Y ℕ → Type 0
Gives view (Ok x) read = read ≡ Ok (view x)
Gives view (Err e) read = Fails e read

-- one after the other
abbrev pub both : {A B : Type 0} → Reader A → Reader B → Reader (A × B)
both first second bytes = do
  a ← first bytes
  b ← second a.1
  Ok ((a.0, b.0), b.1)

-- what f makes of it
abbrev pub made : {A B : Type 0} → (A → B) → Reader A → Reader B
made f read bytes = do
  a ← read bytes
  Ok (f a.0, a.1)

-- the second reader depends on what the first gave
abbrev pub chosen : {A B : Type 0} → Reader A → (A → Reader B) → Reader B
chosen first second bytes = do
  a ← first bytes
  second a.0 a.1

-- a number of so many bytes
abbrev pub number_at : ℕ → Reader ℕ
number_at n bytes = if nat_lt (length bytes) n then Err 0 else Ok (big_number n bytes, drop n bytes)

-- a byte within these bounds
abbrev pub byte_at : ℕ → ℕ → Reader ℕ
byte_at low high [] = Err 0
byte_at low high (b ∷ rest) = if nat_le low b && nat_le b high then Ok (b, rest) else Err (length (b ∷ rest))

-- a number of two bytes that is at most so many times 256
abbrev pub count_at : ℕ → Reader ℕ
count_at most [] = Err 0
count_at most (high ∷ []) = if nat_le high most then Err 0 else Err 1
count_at most (high ∷ low ∷ rest) =
    if nat_le high most then (if nat_le (high * 256 + low) (most * 256) then Ok (high * 256 + low, rest) else Err (length (low ∷ rest)))
    else Err (length (high ∷ low ∷ rest))

-- so many, one after the other
unfoldable pub many_at : {A : Type 0} → Reader A → ℕ → Reader (List A)
many_at read zero = λ bytes. Ok ([], bytes)
many_at read (suc n) = made (λ p. p.0 ∷ p.1) (both read (many_at read n))

unfoldable pub tid_at : Reader Tid
tid_at = made (λ p. record { worker = p.0; boot = p.1.0; number = p.1.1 }) (both (number_at 2) (both (number_at 4) (number_at 4)))

unfoldable pub oid_at : Reader Oid
oid_at =
    made (λ p. record { store = p.0; class = p.1.0; worker = p.1.1.0; boot = p.1.1.1.0; number = p.1.1.1.1.0; site = p.1.1.1.1.1.0; index = p.1.1.1.1.1.1 })
    (both (number_at 2) (both (number_at 2) (both (number_at 2) (both (number_at 4) (both (number_at 4) (both (number_at 2) (number_at 2)))))))

abbrev pub value_by : ℕ → Reader Value
value_by tag =
    if tag == 0 then made (λ n. Int (cast_signed w32 n)) (number_at 4)
    else if tag == 1 then (λ bytes. Ok (Null, bytes))
    else made (λ o. Ref o) oid_at

unfoldable pub value_at : Reader Value
value_at = chosen (byte_at 0 2) value_by

unfoldable pub object_at : Reader Object
object_at = made (λ p. record { class = p.0; fields = p.1 }) (both (number_at 2) (chosen (byte_at 0 16) (many_at value_at)))

unfoldable pub read_at : Reader (Oid × ℕ)
read_at = both oid_at (number_at 4)

unfoldable pub write_at : Reader (Oid × ℕ × Object)
write_at = made (λ p. (p.0, p.1.0, p.1.1)) (both oid_at (both (number_at 4) object_at))

unfoldable pub create_at : Reader (Oid × Object)
create_at = both oid_at object_at

unfoldable pub items_at : Reader Items
items_at =
    made (λ p. record { reads = p.0; writes = p.1.0; creates = p.1.1 })
    (both (chosen (count_at 4) (many_at read_at)) (both (chosen (count_at 1) (many_at write_at)) (chosen (count_at 1) (many_at create_at))))

unfoldable pub why_at : Reader Why
why_at = made (λ b. if b == 1 then why.Missing else why.Rights) (byte_at 1 2)

abbrev pub answer_by : ℕ → Reader Answer
answer_by tag =
    if tag == 0 then (λ bytes. Ok (answers.Yes, bytes))
    else if tag == 1 then made (λ p. answers.Stale p.0 p.1) (both oid_at (number_at 4))
    else if tag == 2 then made (λ t. answers.Locked t) tid_at
    else if tag == 3 then made (λ o. answers.Rights o) oid_at
    else if tag == 4 then made (λ t. answers.OldTid t) tid_at
    else if tag == 5 then made (λ o. answers.IllFormed o) oid_at
    else made (λ o. answers.Exists o) oid_at

unfoldable pub answer_at : Reader Answer
answer_at = chosen (byte_at 0 6) answer_by

abbrev pub body_by : ℕ → Reader Message
body_by kind =
    if kind == 1 then made (λ p. messages.Fetch p.0 p.1) (both tid_at oid_at)
    else if kind == 2 then made (λ p. messages.Object p.0 p.1.0 p.1.1.0 p.1.1.1) (both tid_at (both oid_at (both (number_at 4) object_at)))
    else if kind == 3 then made (λ p. messages.Deny p.0 p.1.0 p.1.1) (both tid_at (both oid_at why_at))
    else if kind == 4 then made (λ p. messages.Prepare p.0 p.1) (both tid_at items_at)
    else if kind == 5 then made (λ p. messages.Vote p.0 p.1) (both tid_at answer_at)
    else if kind == 6 then made (λ t. messages.Commit t) tid_at
    else if kind == 7 then made (λ t. messages.Abort t) tid_at
    else if kind == 8 then made (λ n. messages.Boot n) (number_at 4)
    else made (λ t. messages.Inquire t) tid_at

unfoldable pub message_at : Reader Message
message_at = chosen (byte_at sent_version sent_version) (λ version. chosen (byte_at 1 9) body_by)

-- all of the bytes
unfoldable pub all_of : List ℕ → Result Message ℕ
all_of bytes = do
  m ← message_at bytes
  if length m.1 == 0 then Ok m.0 else Err (length m.1)

-- each of these numbers is a byte
abbrev pub are_bytes : List ℕ → Bool
are_bytes [] = true
are_bytes (b ∷ bytes) = nat_lt b 256 && are_bytes bytes

-- the message that a list is read as, none where it is longer than the limit or spells none
unfoldable pub read_message : List ℕ → Option Message
read_message bytes = if nat_le (length bytes) byte_limit && are_bytes bytes then result_ok (all_of bytes) else None
