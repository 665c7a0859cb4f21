-- Names of nodes, each with a space behind it: none begins another.
use Rattle.std.proofs.Common.{◌≡◌, ℕ, suc, Bool, true, false, cond, eqb, not, List, [], ◌∷◌, ◌++◌, length, refl, sym, ap, arith, inl, inr}
use Rattle.std.proofs.lemmas.Bool.{and_from, and_parts, eqb-true}
use Rattle.std.proofs.lemmas.Bool.Decides.{nat_tests}
use Rattle.std.specs.List.{list_all, AllByRecursion}
use Rattle.fab_base.specs.Tokens.{is_word_byte}
use Rattle.fab_tree.specs.declared.resolved.Resolved.{Resolved}
use Rattle.fab_language.specs.Words.{node_text}
use Rattle.fab_wire.proofs.ReaderLaws.{IsBytes, IsBytes-append}
use Rattle.fab_reports.specs.Lines.{IsWord}
use Rattle.fab_reports.specs.Reading.{shared}
use Rattle.fab_reports.proofs.Given.{IsIn, are_apart, begins_neither, small_bytes}
use Rattle.fab_reports.proofs.Letters.{word_ascii}
use Rattle.fab_evidence.specs.Reading.{AreNamed, name_before}

-- a word has no space
not_space : (c : ℕ) → is_word_byte c ≡ true → eqb c 32 ≡ false
not_space c h = grind (arith, nat_tests)

space_not : (c : ℕ) → is_word_byte c ≡ true → eqb 32 c ≡ false
space_not c h = grind (arith, nat_tests)

zero_suc : (n : ℕ) → eqb 0 (suc n) ≡ false
zero_suc n = grind (arith, nat_tests)

suc_suc : (m n : ℕ) → eqb m n ≡ false → eqb (suc m) (suc n) ≡ false
suc_suc m n h = grind (arith, nat_tests)

-- of two words that aren't the same, each with a space, the one isn't the front of the other
not_front : (a b : List ℕ) → list_all is_word_byte a ≡ true → list_all is_word_byte b ≡ true → (a ≡ b → ⊥)
    → eqb (shared (a ++ 32 ∷ []) (b ++ 32 ∷ [])) (length (a ++ 32 ∷ [])) ≡ false
not_front [] [] wa wb other = absurd (other refl)
not_front [] (d ∷ b) wa wb other = rw (space_not d (and_parts (is_word_byte d) (list_all is_word_byte b) wb).0) refl
not_front (c ∷ a) [] wa wb other = rw (not_space c (and_parts (is_word_byte c) (list_all is_word_byte a) wa).0) (zero_suc (length (a ++ 32 ∷ [])))
not_front (c ∷ a) (d ∷ b) wa wb other =
    by (not_front a b (and_parts (is_word_byte c) (list_all is_word_byte a) wa).1 (and_parts (is_word_byte d) (list_all is_word_byte b) wb).1) (eqb c d) refl
  where
    by : ((a ≡ b → ⊥) → eqb (shared (a ++ 32 ∷ []) (b ++ 32 ∷ [])) (length (a ++ 32 ∷ [])) ≡ false) → (t : Bool) → eqb c d ≡ t
        → eqb (cond t (suc (shared (a ++ 32 ∷ []) (b ++ 32 ∷ []))) 0) (suc (length (a ++ 32 ∷ []))) ≡ false
    by later true e = let one : c ≡ d = eqb-true c d e in suc_suc (shared (a ++ 32 ∷ []) (b ++ 32 ∷ [])) (length (a ++ 32 ∷ [])) (later (λ same. other cc))
    by later false e = zero_suc (length (a ++ 32 ∷ []))

neither : (a b : List ℕ) → IsWord a → IsWord b → (a ≡ b → ⊥) → begins_neither (a ++ 32 ∷ []) (b ++ 32 ∷ []) ≡ true
neither a b wa wb other =
    let va = (and_parts (list_all is_word_byte a) _ wa).0 in
    let vb = (and_parts (list_all is_word_byte b) _ wb).0 in
    and_from _ _ (ap not (not_front a b va vb other)) (ap not (not_front b a vb va (λ same. other (sym same))))

module _ (r : Resolved) where
  from_others : (n : ℕ) (ns : List ℕ) → IsWord (node_text r n) → AllByRecursion (λ m. node_text r n ≡ node_text r m → ⊥) ns → AreNamed r ns
      → list_all (λ m. begins_neither (name_before r n) (name_before r m)) ns ≡ true
  from_others n [] word others named = refl
  from_others n (m ∷ ms) word others named =
      and_from _ _ (neither (node_text r n) (node_text r m) word named.0 others.0) (from_others n ms word others.1 named.2)

  pub names_apart : (nodes : List ℕ) → AreNamed r nodes → are_apart (name_before r) nodes ≡ true
  names_apart [] named = refl
  names_apart (n ∷ ns) named = and_from _ _ (from_others n ns named.0 named.1 named.2) (names_apart ns named.2)

  word_bytes : (w : List ℕ) → IsWord w → IsBytes (w ++ 32 ∷ [])
  word_bytes w word =
      let ascii = word_ascii w (and_parts (list_all is_word_byte w) _ word).0 in
      IsBytes-append w (32 ∷ []) (λ i. let k = ascii i in omega arith) (small_bytes (32 ∷ []) refl)

  pub name_bytes : (nodes : List ℕ) → AreNamed r nodes → (n : ℕ) → IsIn n nodes → IsBytes (name_before r n)
  name_bytes [] named n i = absurd i
  name_bytes (m ∷ ms) named n (inl same) = subst_bytes same
    where
      subst_bytes : n ≡ m → IsBytes (name_before r n)
      subst_bytes same = rw same (word_bytes (node_text r m) named.0)
  name_bytes (m ∷ ms) named n (inr i) = name_bytes ms named.2 n i
