-- Which words are names of the language.
use Rattle.std.specs.Prelude.{ℕ, Bool, true, false, ◌&&◌, List, [], ◌∷◌, Option, Some, None}
use Rattle.std.specs.List.{list_all}
use Rattle.fab_base.specs.declared.token.Kind.{Kind}
use Rattle.fab_base.specs.declared.token.Kind.TheVariants as k
use Rattle.fab_base.specs.declared.token.Token.{Token}
use Rattle.fab_base.specs.Tokens.{is_word_byte, word_kind}

-- a name, and no other token
abbrev pub is_name_kind : Option Kind → Bool
is_name_kind (Some (k.Name text)) = true
is_name_kind other = false

-- letters, digits and `_` that are a name: no number, and no keyword
abbrev pub is_name_word : List ℕ → Bool
is_name_word word = list_all is_word_byte word && is_name_kind (word_kind word)

-- one token, a name
abbrev pub is_one_name : List Token → Bool
is_one_name [] = false
is_one_name (t ∷ []) = is_name_kind (Some t.kind)
is_one_name (t ∷ u ∷ ts) = false
