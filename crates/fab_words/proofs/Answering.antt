-- What words ask for, by what `clap` finds in them.
use Rattle.std.proofs.Common.{◌≡◌, ◌∙◌, ◌||◌, ◌&&◌, inl, inr, Bool, true, false, refl, sym, ap, subst, map, List, [], ◌∷◌, ℕ, Option, Some, None, eqb-true, String, string_bytes, codes, length, nat_le, ◌==◌}
use Rattle.std.specs.List.{list_all, list_any}
use Rattle.std.specs.Str.{bytes_eq}
use Rattle.std.specs.declared.alloc.Global.{Global}
use Rattle.std.proofs.lemmas.Bool.{cases_Bool, and_right, or_cases}
use Rattle.clap.specs.Words.{Text, matches_of, takes}
use Rattle.clap.proofs.WalkLemmas.{list_any-map}
use Rattle.fab_asked.specs.Names.{is_name_word}
use Rattle.fab_asked.specs.Numbers.{number_of, numbers_of, paired, size_of}
use Rattle.fab_asked.specs.Words.{asked, asked_by, begins_with_dash, command_among, command_asked, command_of, command_with, reads_of, trust_of, view_of, watch_of}
use Rattle.fab_words.specs.Line.{asked_in, command_line}
use Rattle.fab_asked.proofs.Decimals.{dashed_number}
use Rattle.fab_words.proofs.Taken.{found_rows, rows_for, words_taken}

-- ---- a word that begins with `-` is no command and no name

no_command : (word : Text) → begins_with_dash word ≡ true → command_of word ≡ None
no_command [] e = cc
no_command (b ∷ bs) e = subst (λ x. command_of (x ∷ bs) ≡ None) (sym (eqb-true b 45 e)) refl

no_command_with : (word from to : Text) → begins_with_dash word ≡ true → command_with word from to ≡ None
no_command_with [] from to e = cc
no_command_with (b ∷ bs) from to e = subst (λ x. command_with (x ∷ bs) from to ≡ None) (sym (eqb-true b 45 e)) refl

no_name : (word : Text) → begins_with_dash word ≡ true → is_name_word word ≡ false
no_name [] e = cc
no_name (b ∷ bs) e = subst (λ x. is_name_word (x ∷ bs) ≡ false) (sym (eqb-true b 45 e)) refl

not_names : (word from to : Text) → (is_name_word from && is_name_word to) ≡ false → command_with word from to ≡ None
not_names word from to e = elim (cases_Bool (bytes_eq word (codes "flows"))) [ inl t ↦ rw (t, e) refl | inr f ↦ rw f refl ]

no_first : (a b : Bool) → a ≡ false → (a && b) ≡ false
no_first a b e = rw e refl

abbrev have_dash : List (String Global) → Bool
have_dash words = list_any (λ word. begins_with_dash (string_bytes word)) words

two_or_one : (word from to : Text) → (begins_with_dash word || (begins_with_dash from || (begins_with_dash to || false))) ≡ true → command_with word from to ≡ None
two_or_one word from to e = elim (or_cases (begins_with_dash word) (begins_with_dash from || (begins_with_dash to || false)) e) [
  | inl w ↦ no_command_with word from to w
  | inr rest ↦ elim (or_cases (begins_with_dash from) (begins_with_dash to || false) rest) [
    | inl f ↦ not_names word from to (no_first (is_name_word from) (is_name_word to) (no_name from f))
    | inr last ↦ elim (or_cases (begins_with_dash to) false last) [
      | inl t ↦ not_names word from to (and_right (is_name_word from) (is_name_word to) (no_name to t))
      | inr never ↦ absurd (cc)
    ]
  ]
]

one_dash : (word : Text) → (begins_with_dash word || false) ≡ true → command_of word ≡ None
one_dash word e = elim (or_cases (begins_with_dash word) false e) [ inl w ↦ no_command word w | inr never ↦ absurd (cc) ]

not_among : (word : Text) (operands : List Text) → list_any begins_with_dash (word ∷ operands) ≡ true → command_among word operands ≡ None
not_among w [] e = one_dash w e
not_among w (v ∷ []) e = refl
not_among w (f ∷ t ∷ []) e = two_or_one w f t e
not_among w (f ∷ t ∷ v ∷ vs) e = refl

-- one of the words is no name
not_all_names : (words : List Text) → list_any begins_with_dash words ≡ true → list_all is_name_word words ≡ false
not_all_names [] e = cc
not_all_names (w ∷ ws) e = elim (or_cases (begins_with_dash w) (list_any begins_with_dash ws) e) [
  | inl here ↦ no_first (is_name_word w) (list_all is_name_word ws) (no_name w here)
  | inr later ↦ and_right (is_name_word w) (list_all is_name_word ws) (not_all_names ws later)
]

no_view : (words : List Text) → list_any begins_with_dash words ≡ true → view_of words ≡ None
no_view words e = rw (and_right (nat_le (length words) 32) (list_all is_name_word words) (not_all_names words e)) refl

no_trust : (words : List Text) → list_any begins_with_dash words ≡ true → trust_of words ≡ None
no_trust words e = rw (and_right (nat_le (length words) 32) (list_all is_name_word words) (not_all_names words e)) refl

-- where the command's word is `view`, `trust` or `watch`, the dash is behind it
behind_view : (word : Text) (operands : List Text) → bytes_eq word (codes "view") ≡ true → list_any begins_with_dash (word ∷ operands) ≡ true → list_any begins_with_dash operands ≡ true
behind_view [] operands v e = e
behind_view (b ∷ bs) operands v e = elim (cases_Bool (b == 45)) [
  | inl dash ↦ absurd (let no : bytes_eq (45 ∷ bs) (codes "view") ≡ true = subst (λ x. bytes_eq (x ∷ bs) (codes "view") ≡ true) (eqb-true b 45 dash) v in cc)
  | inr other ↦ rw other at e
]

behind_trust : (word : Text) (operands : List Text) → bytes_eq word (codes "trust") ≡ true → list_any begins_with_dash (word ∷ operands) ≡ true → list_any begins_with_dash operands ≡ true
behind_trust [] operands v e = e
behind_trust (b ∷ bs) operands v e = elim (cases_Bool (b == 45)) [
  | inl dash ↦ absurd (let no : bytes_eq (45 ∷ bs) (codes "trust") ≡ true = subst (λ x. bytes_eq (x ∷ bs) (codes "trust") ≡ true) (eqb-true b 45 dash) v in cc)
  | inr other ↦ rw other at e
]

behind_watch : (word : Text) (operands : List Text) → bytes_eq word (codes "watch") ≡ true → list_any begins_with_dash (word ∷ operands) ≡ true → list_any begins_with_dash operands ≡ true
behind_watch [] operands v e = e
behind_watch (b ∷ bs) operands v e = elim (cases_Bool (b == 45)) [
  | inl dash ↦ absurd (let no : bytes_eq (45 ∷ bs) (codes "watch") ≡ true = subst (λ x. bytes_eq (x ∷ bs) (codes "watch") ≡ true) (eqb-true b 45 dash) v in cc)
  | inr other ↦ rw other at e
]

-- a name or a number of `watch` has one
not_read : (root : Text) (times : Option ℕ) → is_name_word root ≡ false → reads_of root times ≡ None
not_read root None e = refl
not_read root (Some n) e = rw e refl

no_watch : (words : List Text) → list_any begins_with_dash words ≡ true → watch_of words ≡ None
no_watch [] e = cc
no_watch (root ∷ []) e = refl
no_watch (root ∷ times ∷ []) e = elim (or_cases (begins_with_dash root) (begins_with_dash times || false) e) [
  | inl first ↦ not_read root (size_of times) (no_name root first)
  | inr rest ↦ elim (or_cases (begins_with_dash times) false rest) [
    | inl second ↦ rw (dashed_number times second) refl
    | inr never ↦ absurd (cc)
  ]
]
no_watch (root ∷ times ∷ w ∷ ws) e = refl

no_command_asked : (word : Text) (operands : List Text) → list_any begins_with_dash (word ∷ operands) ≡ true → command_asked word operands ≡ None
no_command_asked word operands e = elim (cases_Bool (bytes_eq word (codes "view"))) [
  | inl view ↦ rw view (no_view operands (behind_view word operands view e))
  | inr other ↦ elim (cases_Bool (bytes_eq word (codes "trust"))) [
    | inl trust ↦ rw (other, trust) (no_trust operands (behind_trust word operands trust e))
    | inr another ↦ elim (cases_Bool (bytes_eq word (codes "watch"))) [
      | inl watch ↦ rw (other, another, watch) (no_watch operands (behind_watch word operands watch e))
      | inr last ↦ rw (other, another, last) (not_among word operands e)
    ]
  ]
]

-- one of the words is no number
no_pair : (number : Option ℕ) → paired number None ≡ None
no_pair None = refl
no_pair (Some n) = refl

no_numbers : (words : List Text) → list_any begins_with_dash words ≡ true → numbers_of words ≡ None
no_numbers [] e = cc
no_numbers (n ∷ []) e = refl
no_numbers (n ∷ s ∷ []) e = elim (or_cases (begins_with_dash n) (begins_with_dash s || false) e) [
  | inl first ↦ rw (dashed_number n first) refl
  | inr rest ↦ elim (or_cases (begins_with_dash s) false rest) [
    | inl second ↦ rw (dashed_number s second) (no_pair (number_of n))
    | inr never ↦ absurd (cc)
  ]
]
no_numbers (n ∷ s ∷ w ∷ ws) e = refl

-- a word that is another one doesn't begin with a dash
behind_word : (word : Text) (operands : List Text) → (begins_with_dash word ≡ true → ⊥) → list_any begins_with_dash (word ∷ operands) ≡ true → list_any begins_with_dash operands ≡ true
behind_word word operands none e = elim (or_cases (begins_with_dash word) (list_any begins_with_dash operands) e) [
  | inl dash ↦ absurd (none dash)
  | inr later ↦ later
]

is_gen : (word : Text) → bytes_eq word (codes "gen") ≡ true → begins_with_dash word ≡ true → ⊥
is_gen [] is e = cc
is_gen (b ∷ bs) is e = let no : bytes_eq (45 ∷ bs) (codes "gen") ≡ true = subst (λ x. bytes_eq (x ∷ bs) (codes "gen") ≡ true) (eqb-true b 45 e) is in cc

is_drill : (word : Text) → bytes_eq word (codes "drill") ≡ true → begins_with_dash word ≡ true → ⊥
is_drill [] is e = cc
is_drill (b ∷ bs) is e = let no : bytes_eq (45 ∷ bs) (codes "drill") ≡ true = subst (λ x. bytes_eq (x ∷ bs) (codes "drill") ≡ true) (eqb-true b 45 e) is in cc

nothing_asked : (word : Text) (operands : List Text) → list_any begins_with_dash (word ∷ operands) ≡ true → asked (word ∷ operands) ≡ None
nothing_asked word operands e = elim (cases_Bool (bytes_eq word (codes "gen"))) [
  | inl gen ↦ rw (gen, no_numbers operands (behind_word word operands (is_gen word gen) e)) refl
  | inr other ↦ elim (cases_Bool (bytes_eq word (codes "drill"))) [
    | inl drill ↦ rw (other, drill, no_numbers operands (behind_word word operands (is_drill word drill) e)) refl
    | inr last ↦ rw (other, last, no_command_asked word operands e) refl
  ]
]

pub dashed : (words : List (String Global)) → have_dash words ≡ true → asked_by words ≡ None
dashed [] e = cc
dashed (w ∷ ws) e = nothing_asked (string_bytes w) (map string_bytes ws) (sym (list_any-map begins_with_dash string_bytes (w ∷ ws)) ∙ e)

-- ---- what `clap` finds

no_dash : (words : List (String Global)) → have_dash words ≡ false → list_any begins_with_dash (map string_bytes words) ≡ false
no_dash words e = sym (list_any-map begins_with_dash string_bytes words) ∙ e

rows_ask : (words : List Text) → asked_in (rows_for words) ≡ asked words
rows_ask [] = refl
rows_ask (w ∷ []) = refl
rows_ask (w ∷ v ∷ vs) = refl

pub found_asks : (words : List (String Global)) → have_dash words ≡ false → asked_in (matches_of command_line (map string_bytes words)) ≡ asked_by words
found_asks words e = ap asked_in (found_rows (map string_bytes words) (no_dash words e)) ∙ rows_ask (map string_bytes words)

pub refused : (words : List (String Global)) → have_dash words ≡ false → (takes command_line (map string_bytes words) ≡ true → ⊥) → asked_by words ≡ None
refused [] e untaken = refl
refused (w ∷ ws) e untaken = absurd (untaken (words_taken (string_bytes w) (map string_bytes ws) (no_dash (w ∷ ws) e)))
