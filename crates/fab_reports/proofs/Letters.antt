-- A word that is counted byte by byte.
use Rattle.std.proofs.Common.{◌≡◌, ℕ, zero, suc, ◌+◌, ◌<◌, ◌≤◌, true, false, List, [], ◌∷◌, ◌++◌, length, get_or, take, drop, refl, sym, ap, ◌∙◌, length-drop, length-take, arith}
use Rattle.std.proofs.lemmas.Bool.Decides.{nat_tests}
use Rattle.std.proofs.lemmas.List.{take_more, drop_more}
use Rattle.std.specs.List.{list_all}
use Rattle.std.specs.Str.{IsAscii}
use Rattle.std.proofs.lemmas.Bool.{and_from, and_parts}
use Rattle.fab_base.specs.Tokens.{is_word_byte}
use Rattle.fab_reports.specs.Reading.{is_end, scan, may_go_on, word_step, word_done, word_at}
use Rattle.fab_reports.proofs.Words.{all_append}

-- so many bytes of a word were read
pub record IsSpelling (ends bytes rest : List ℕ) (n : ℕ) : Type 0 where
  pub going : scan word_step word_done ends (take n bytes) rest ≡ word_at ends bytes
  pub rest_is : rest ≡ drop n bytes
  pub within : n ≤ length bytes
  pub letters : list_all is_word_byte (take n bytes) ≡ true

pub none_yet : (ends bytes : List ℕ) → IsSpelling ends bytes bytes 0
unfolding word_at
none_yet ends bytes = record { going = refl; rest_is = refl; within = omega arith; letters = refl }

-- one byte more
pub one_letter : (ends bytes rest : List ℕ) (n b : ℕ) (after : List ℕ) → IsSpelling ends bytes rest n → rest ≡ b ∷ after → is_end ends b ≡ false → may_go_on n b ≡ true
    → IsSpelling ends bytes after (n + 1)
one_letter ends bytes rest n b after s e never on =
    let left : drop n bytes ≡ b ∷ after = sym s.rest_is ∙ e in
    let lt : n < length bytes = omega (arith, ap length left, length-drop n bytes) in
    let parts : get_or bytes n 0 ∷ drop (n + 1) bytes ≡ b ∷ after = sym (drop_more bytes n 0 lt) ∙ left in
    let byte : get_or bytes n 0 ≡ b = cc in
    let others : drop (n + 1) bytes ≡ after = cc in
    let more : take (n + 1) bytes ≡ take n bytes ++ b ∷ [] = take_more bytes n 0 lt ∙ ap (λ (x : ℕ). take n bytes ++ x ∷ []) byte in
    let len : length (take n bytes) ≡ n = omega (arith, length-take n bytes) in
    let goes : may_go_on (length (take n bytes)) b ≡ true = ap (λ (k : ℕ). may_go_on k b) len ∙ on in
    let is_word : is_word_byte b ≡ true = (and_parts (is_word_byte b) _ on).0 in
    let step : scan word_step word_done ends (take n bytes) (b ∷ after) ≡ scan word_step word_done ends (take n bytes ++ b ∷ []) after = rw (never, goes) refl in
    record {
      going =
          ap (λ (w : List ℕ). scan word_step word_done ends w after) more ∙ sym step
          ∙ ap (λ (x : List ℕ). scan word_step word_done ends (take n bytes) x) (sym e) ∙ s.going;
      rest_is = sym others;
      within = omega arith;
      letters = ap (λ (w : List ℕ). list_all is_word_byte w) more ∙ all_append is_word_byte (take n bytes) (b ∷ []) s.letters (and_from (is_word_byte b) true is_word refl);
    }

pub word_ascii : (w : List ℕ) → list_all is_word_byte w ≡ true → IsAscii w
word_ascii [] h i = omega arith
word_ascii (b ∷ w) h zero = let g = (and_parts (is_word_byte b) (list_all is_word_byte w) h).0 in grind (arith, nat_tests)
word_ascii (b ∷ w) h (suc i) = word_ascii w (and_parts (is_word_byte b) (list_all is_word_byte w) h).1 i
