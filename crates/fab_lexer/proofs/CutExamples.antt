-- Worked examples of places where a text can't be cut.
use Rattle.std.proofs.Common.{◌≡◌, ℕ, refl, codes, arith}
use Rattle.fab_lexer.specs.Cuts.{Cut, here, further, IsUncut}
use Rattle.fab_lexer.proofs.TokenLists.{no_tokens_behind}

-- of two wrong bytes the first is the place
dollars : {there : ℕ} → Cut 0 (codes "$ $") there → there ≡ 0
dollars here = refl
dollars (further e d) = absurd (cc)

-- the wrong byte in a comment is no place, the one behind it is
comment : Cut 0 (codes "// $\n$") 5
comment = further refl (further refl here)

-- a word of which no token can be made is wrong at its first byte
word : {there : ℕ} → Cut 0 (codes "01 $") there → there ≡ 0
word here = refl
word (further e d) = absurd (cc)

-- ---- in quotation marks, behind a sign

wrong_digit : IsUncut (codes "+\"0g\"") 3
wrong_digit = record {
  place = 1;
  fitting = 2;
  inside = omega arith;
  before = further refl here;
  nothing = refl;
  there = refl;
  within = omega arith;
  no_tokens = no_tokens_behind (codes "+\"0g\"") 1 2 (omega arith) (further refl here) refl;
}

odd_digits : IsUncut (codes "+\"0\"") 3
odd_digits = record {
  place = 1;
  fitting = 2;
  inside = omega arith;
  before = further refl here;
  nothing = refl;
  there = refl;
  within = omega arith;
  no_tokens = no_tokens_behind (codes "+\"0\"") 1 2 (omega arith) (further refl here) refl;
}

-- a text that ends there is refused at its length
never_closed : IsUncut (codes "+\"00") 4
never_closed = record {
  place = 1;
  fitting = 3;
  inside = omega arith;
  before = further refl here;
  nothing = refl;
  there = refl;
  within = omega arith;
  no_tokens = no_tokens_behind (codes "+\"00") 1 3 (omega arith) (further refl here) refl;
}
