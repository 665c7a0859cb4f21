-- The message spelling computed on examples, good and bad.
use Rattle.std.proofs.Common.{◌≡◌, ℕ, List, [], ◌∷◌, ◌++◌, length, pos, negsuc, refl, ap, lit<, arith}
use Rattle.fab_base.specs.declared.object.Tid.{Tid}
use Rattle.fab_base.specs.declared.object.Oid.{Oid}
use Rattle.fab_base.specs.declared.object.Value.TheVariants.{Int, Null}
use Rattle.fab_base.specs.declared.object.Object.{Object}
use Rattle.fab_base.specs.declared.message.Items.{Items}
use Rattle.fab_base.specs.declared.message.Why.TheVariants as why
use Rattle.fab_base.specs.declared.message.Answer.TheVariants as answers
use Rattle.fab_base.specs.declared.message.Message.TheVariants as messages
use Rattle.fab_base.specs.FieldSpelling.{value_bytes, object_bytes, IsObject}
use Rattle.fab_base.specs.MessageSpelling.{message_bytes, IsMessage, BeginsSpelling}

-- the second attempt of worker 3 in its boot 1, and the root 1 of store 1, of class 0
abbrev second : Tid
second = record { worker = 3; boot = 1; number = 258 }

abbrev root : Oid
root = record { store = 1; class = 0; worker = 65535; boot = 0; number = 1; site = 65535; index = 0 }

abort_is : message_bytes 1 (messages.Abort second) ≡ 1 ∷ 7 ∷ 0 ∷ 3 ∷ 0 ∷ 0 ∷ 0 ∷ 1 ∷ 0 ∷ 0 ∷ 1 ∷ 2 ∷ []
abort_is = refl

fetch_is : message_bytes 1 (messages.Fetch second root)
    ≡ 1 ∷ 1 ∷ 0 ∷ 3 ∷ 0 ∷ 0 ∷ 0 ∷ 1 ∷ 0 ∷ 0 ∷ 1 ∷ 2 ∷ 0 ∷ 1 ∷ 0 ∷ 0 ∷ 255 ∷ 255 ∷ 0 ∷ 0 ∷ 0 ∷ 0 ∷ 0 ∷ 0 ∷ 0 ∷ 1 ∷ 255 ∷ 255 ∷ 0 ∷ 0 ∷ []
fetch_is = refl

minus_two_is : value_bytes (Int (negsuc 1)) ≡ 0 ∷ 255 ∷ 255 ∷ 255 ∷ 254 ∷ []
minus_two_is = refl

object_is : object_bytes (record { class = 7; fields = Int (pos 1000) ∷ Null ∷ [] }) ≡ 0 ∷ 7 ∷ 2 ∷ 0 ∷ 0 ∷ 0 ∷ 3 ∷ 232 ∷ 1 ∷ []
object_is = refl

abbrev nothing : Items
nothing = record { reads = []; writes = []; creates = [] }

prepare_is : message_bytes 1 (messages.Prepare second nothing) ≡ 1 ∷ 4 ∷ 0 ∷ 3 ∷ 0 ∷ 0 ∷ 0 ∷ 1 ∷ 0 ∷ 0 ∷ 1 ∷ 2 ∷ 0 ∷ 0 ∷ 0 ∷ 0 ∷ 0 ∷ 0 ∷ []
prepare_is = refl

stale_is : length (message_bytes 1 (messages.Vote second (answers.Stale root 9))) ≡ 35
stale_is = refl

deny_is : message_bytes 1 (messages.Deny second root why.Rights) ≡ (1 ∷ 3 ∷ []) ++ (0 ∷ 3 ∷ 0 ∷ 0 ∷ 0 ∷ 1 ∷ 0 ∷ 0 ∷ 1 ∷ 2 ∷ [])
    ++ (0 ∷ 1 ∷ 0 ∷ 0 ∷ 255 ∷ 255 ∷ 0 ∷ 0 ∷ 0 ∷ 0 ∷ 0 ∷ 0 ∷ 0 ∷ 1 ∷ 255 ∷ 255 ∷ 0 ∷ 0 ∷ []) ++ 2 ∷ []
deny_is = refl

boot_is_spelled : IsMessage 1 (messages.Boot 4294967295)
boot_is_spelled = record { known = refl; body = lit< tt }

-- no such version, number or count
no_version_two : IsMessage 2 (messages.Boot 1) → ⊥
no_version_two h = omega (arith, h.known)

no_greater_boot : IsMessage 1 (messages.Boot 4294967296) → ⊥
no_greater_boot h = omega (arith, h.body)

no_seventeenth_field : (x : Object) → length x.fields ≡ 17 → IsObject 1 x → ⊥
no_seventeenth_field x n h = omega (arith, h.count)

-- the empty bytes begin a spelling, and so does a Boot that is cut short; a version 2 doesn't
empty_begins : BeginsSpelling []
empty_begins = (message_bytes 1 (messages.Boot 1), messages.Boot 1, (1, record { known = refl; body = lit< tt }, refl))

cut_boot_begins : BeginsSpelling (1 ∷ 8 ∷ 0 ∷ 0 ∷ 0 ∷ [])
cut_boot_begins = (7 ∷ [], messages.Boot 7, (1, record { known = refl; body = lit< tt }, refl))

abbrev first_byte : List ℕ → ℕ
first_byte [] = 0
first_byte (b ∷ bs) = b

version_two_begins_nothing : (b : ℕ) → BeginsSpelling (2 ∷ b ∷ []) → ⊥
version_two_begins_nothing b h =
    let spelled = h.2 in
    let e : 2 ≡ spelled.0 = (let P : List ℕ → ℕ = first_byte in ap P spelled.2) in
    omega (arith, e, spelled.1.known)
