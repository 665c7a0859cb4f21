-- Bytes at whose front no whole record stands.
use Rattle.std.proofs.Common.{◌≡◌, ℕ, ◌+◌, ◌<◌, ◌^◌, List, ◌++◌, length, take, ap, ◌∙◌, arith, length-append}
use Rattle.std.specs.Int.{w32, from_be_bytes}
use Rattle.std.proofs.lemmas.Nat.{from_be_bytes-to_be_bytes_4}
use Rattle.fab_base.specs.FieldSpelling.{four_bytes}
use Rattle.fab_base.specs.JournalSpelling.{framed, IsTorn}

-- the number in the first four bytes
abbrev pub number_in : List ℕ → ℕ
number_in bytes = from_be_bytes w32 (take 4 bytes)

pub number_in-framed : (body more : List ℕ) → length body < 2 ^ 32 → number_in (framed body ++ more) ≡ length body
number_in-framed body more small = from_be_bytes-to_be_bytes_4 (length body) small

pub length-framed : (body : List ℕ) → length (framed body) ≡ 4 + length body
length-framed body = omega (arith, length-append (four_bytes (length body)) body)

-- fewer than four bytes
pub short_is_torn : (bytes : List ℕ) → length bytes < 4 → IsTorn bytes
short_is_torn bytes short body more small same =
    omega (arith, ap length same, length-append (framed body) more, length-framed body)

-- fewer than the first four say, after them
pub cut_is_torn : (bytes : List ℕ) → length bytes < 4 + number_in bytes → IsTorn bytes
cut_is_torn bytes cut body more small same =
    omega (arith, ap length same, ap number_in same ∙ number_in-framed body more small, length-append (framed body) more, length-framed body)
