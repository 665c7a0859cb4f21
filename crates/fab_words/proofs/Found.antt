-- What the getters of matches say of their rows.
use Rattle.std.proofs.Common.{◌≡◌, ◌∙◌, ℕ, List, [], ◌∷◌, map, refl, sym, ap, ap₂, codes, Option, Some, None, option_map}
use Rattle.std.specs.Prelude.{option_and_then, unwrap_or}
use Rattle.std.specs.Borrow.{Bor}
use Rattle.clap.specs.Words.{all_of, first_of, first_value, matched_of, raw_values, rows_of}
use Rattle.clap.specs.declared.parser.matches.Found.{Found}
use Rattle.clap.proofs.WalkLemmas.{first_value-rows, raw_values-rows}
use Rattle.fab_asked.specs.Words.{asked}
use Rattle.fab_words.specs.Line.{asked_in}

-- what a slice of texts has
abbrev pub texts_of : Bor (List (Bor (List ℕ))) → List (List ℕ)
texts_of s = map (λ v. v.now) s.now

-- the operands that were found, none where there is no such entry
pub operands_are : (f : Found) (given : Option (Bor (List (Bor (List ℕ))))) (other : Bor (List (Bor (List ℕ)))) → other.now ≡ [] → option_map texts_of given ≡ option_map raw_values (matched_of f (codes "operands"))
    → texts_of (unwrap_or given other) ≡ unwrap_or (all_of (codes "operands") (rows_of f)) []
operands_are f given other none e = texts_unwrapped given ∙ ap (λ o. unwrap_or o []) (e ∙ raw_values-rows f (codes "operands"))
  where
    texts_unwrapped : (o : Option (Bor (List (Bor (List ℕ))))) → texts_of (unwrap_or o other) ≡ unwrap_or (option_map texts_of o) []
    texts_unwrapped None = ap (map (λ v. v.now)) none
    texts_unwrapped (Some s) = refl

pub nothing_is : (f : Found) → None ≡ first_value f (codes "command") → None ≡ asked_in (rows_of f)
nothing_is f e = ap (option_and_then (λ w. asked (w ∷ unwrap_or (all_of (codes "operands") (rows_of f)) []))) (e ∙ first_value-rows f (codes "command"))

-- what is asked with the first value of the command, and with these operands
pub asked_is : (f : Found) (word : Option (Bor (List ℕ))) (operands : List (List ℕ)) → option_map (λ s. s.now) word ≡ first_value f (codes "command")
    → operands ≡ unwrap_or (all_of (codes "operands") (rows_of f)) []
    → asked_in (rows_of f) ≡ option_and_then (λ w. asked (w.now ∷ operands)) word
asked_is f word operands e g =
    let one : first_of (codes "command") (rows_of f) ≡ option_map (λ s. s.now) word = sym (e ∙ first_value-rows f (codes "command")) in
    ap₂ (λ xs o. option_and_then (λ w. asked (w ∷ xs)) o) (sym g) one ∙ mapped word
  where
    mapped : (o : Option (Bor (List ℕ))) → option_and_then (λ w. asked (w ∷ operands)) (option_map (λ s. s.now) o) ≡ option_and_then (λ w. asked (w.now ∷ operands)) o
    mapped None = refl
    mapped (Some w) = refl
