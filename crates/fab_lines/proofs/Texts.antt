-- Texts put together.
use Rattle.std.proofs.Common.{◌≡◌, ◌/◌, ◌%◌, option_map, ℕ, false, List, [], ◌∷◌, ◌++◌, None, find, sym, ap, ◌∙◌, append_assoc}
use Rattle.std.specs.Fmt.{digit_glyph}
use Rattle.std.proofs.lemmas.Grind.{flat_map-append}
use Rattle.fab_base.specs.declared.object.Oid.{Oid}
use Rattle.fab_base.specs.FlatMap.{is_same}
use Rattle.fab_base.specs.FieldSpelling.{oid_bytes}
use Rattle.fab_tree.specs.declared.resolved.Resolved.{Resolved}
use Rattle.fab_language.specs.Words.{hex, text_or, name_text}

pub hex_then : (a b c xs ys : List ℕ) → b ≡ a ++ hex xs → c ≡ b ++ hex ys → c ≡ a ++ hex (xs ++ ys)
hex_then a b c xs ys e f = f ∙ ap (λ z. z ++ hex ys) e ∙ append_assoc a (hex xs) (hex ys) ∙ ap (λ z. a ++ z) (sym (flat_map-append (λ x. digit_glyph false (x / 16) ∷ digit_glyph false (x % 16) ∷ []) xs ys))

-- a name without a root
pub unnamed : (a b c : List ℕ) (r : Resolved) (o : Oid) → None ≡ find (λ x. is_same x.oid o) r.roots → b ≡ a ++ 35 ∷ [] → c ≡ b ++ hex (oid_bytes o) → c ≡ a ++ name_text r o
unnamed a b c r o n e f = f ∙ ap (λ z. z ++ hex (oid_bytes o)) e ∙ append_assoc a (35 ∷ []) (hex (oid_bytes o)) ∙ ap (λ z. a ++ text_or (35 ∷ hex (oid_bytes o)) (option_map (λ x. x.name.text) z)) n
