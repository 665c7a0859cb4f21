-- Names stand in the order of the bytes that spell them.
use Rattle.std.proofs.Common.{◌≡◌, ℕ, zero, suc, ◌+◌, ◌*◌, ◌<◌, ◌^◌, Bool, ◌||◌, ◌&&◌, ◌==◌, nat_lt, List, [], ◌++◌, sym, ◌∙◌, ap, arith}
use Rattle.std.specs.Int.{byte_at}
use Rattle.std.proofs.lemmas.Nat.{from_be_bytes-to_be_bytes_2, from_be_bytes-to_be_bytes_4}
use Rattle.std.proofs.lemmas.Bool.Decides.{nat_tests}
use Rattle.fab_base.specs.declared.object.Oid.{Oid}
use Rattle.fab_base.specs.FlatMap.{precedes, is_before}
use Rattle.fab_base.specs.FieldSpelling.{two_bytes, four_bytes, oid_bytes, IsOid}

-- the first numbers decide, or else what is said of the others
abbrev lex : ℕ → ℕ → Bool → Bool
lex x y p = nat_lt x y || ((x == y) && p)

-- one digit more to the base of a byte
digit : (q r s t : ℕ) (p : Bool) → r < 256 → t < 256 → lex q s (lex r t p) ≡ lex (q * 256 + r) (s * 256 + t) p
digit q r s t p h k = grind (arith, nat_tests)

byte_small : (i n : ℕ) → byte_at i n < 256
byte_small zero n = omega arith
byte_small (suc i) n = omega arith

two_is : (n : ℕ) → n < 2 ^ 16 → byte_at 1 n * 256 + byte_at 0 n ≡ n
two_is n h = omega (arith, from_be_bytes-to_be_bytes_2 n h)

four_is : (n : ℕ) → n < 2 ^ 32 → ((byte_at 3 n * 256 + byte_at 2 n) * 256 + byte_at 1 n) * 256 + byte_at 0 n ≡ n
four_is n h = omega (arith, from_be_bytes-to_be_bytes_4 n h)

module _ (n m : ℕ) (xs ys : List ℕ) where
  two_front : n < 2 ^ 16 → m < 2 ^ 16 → precedes (two_bytes n ++ xs) (two_bytes m ++ ys) ≡ lex n m (precedes xs ys)
  two_front h k =
      digit (byte_at 1 n) (byte_at 0 n) (byte_at 1 m) (byte_at 0 m) (precedes xs ys) (byte_small 0 n) (byte_small 0 m)
      ∙ (λ i. lex (two_is n h i) (two_is m k i) (precedes xs ys))

  four_front : n < 2 ^ 32 → m < 2 ^ 32 → precedes (four_bytes n ++ xs) (four_bytes m ++ ys) ≡ lex n m (precedes xs ys)
  four_front h k =
      digit (byte_at 3 n) (byte_at 2 n) (byte_at 3 m) (byte_at 2 m) (lex (byte_at 1 n) (byte_at 1 m) (lex (byte_at 0 n) (byte_at 0 m) (precedes xs ys))) (byte_small 2 n) (byte_small 2 m)
      ∙ digit (byte_at 3 n * 256 + byte_at 2 n) (byte_at 1 n) (byte_at 3 m * 256 + byte_at 2 m) (byte_at 1 m) (lex (byte_at 0 n) (byte_at 0 m) (precedes xs ys)) (byte_small 1 n) (byte_small 1 m)
      ∙ digit ((byte_at 3 n * 256 + byte_at 2 n) * 256 + byte_at 1 n) (byte_at 0 n) ((byte_at 3 m * 256 + byte_at 2 m) * 256 + byte_at 1 m) (byte_at 0 m) (precedes xs ys) (byte_small 0 n) (byte_small 0 m)
      ∙ (λ i. lex (four_is n h i) (four_is m k i) (precedes xs ys))

-- the bytes behind each part
abbrev behind_site : Oid → List ℕ
behind_site o = two_bytes o.index ++ []

abbrev behind_number : Oid → List ℕ
behind_number o = two_bytes o.site ++ behind_site o

abbrev behind_boot : Oid → List ℕ
behind_boot o = four_bytes o.number ++ behind_number o

abbrev behind_worker : Oid → List ℕ
behind_worker o = four_bytes o.boot ++ behind_boot o

abbrev behind_class : Oid → List ℕ
behind_class o = two_bytes o.worker ++ behind_worker o

abbrev behind_store : Oid → List ℕ
behind_store o = two_bytes o.class ++ behind_class o

pub before_by_bytes : (a b : Oid) → IsOid a → IsOid b → is_before a b ≡ precedes (oid_bytes a) (oid_bytes b)
before_by_bytes a b h k =
    let at_index = two_front a.index b.index [] [] h.index k.index in
    let at_site = two_front a.site b.site (behind_site a) (behind_site b) h.site k.site ∙ ap (lex a.site b.site) at_index in
    let at_number = four_front a.number b.number (behind_number a) (behind_number b) h.number k.number ∙ ap (lex a.number b.number) at_site in
    let at_boot = four_front a.boot b.boot (behind_boot a) (behind_boot b) h.boot k.boot ∙ ap (lex a.boot b.boot) at_number in
    let at_worker = two_front a.worker b.worker (behind_worker a) (behind_worker b) h.worker k.worker ∙ ap (lex a.worker b.worker) at_boot in
    let at_class = two_front a.class b.class (behind_class a) (behind_class b) h.class k.class ∙ ap (lex a.class b.class) at_worker in
    sym (two_front a.store b.store (behind_store a) (behind_store b) h.store k.store ∙ ap (lex a.store b.store) at_class)
