-- What the words of the command line ask for: `NODE .. from K to M`.
use Rattle.std.specs.Prelude.{ℕ, ◌+◌, ◌*◌, ◌-◌, ◌&&◌, min, nat_le, Bool, List, [], ◌∷◌, ◌++◌, map, codes, Option, Some, None, String, string_bytes, if◌then◌else◌}
use Rattle.std.specs.List.{list_all}
use Rattle.std.specs.Char.{is_ascii_digit}
use Rattle.std.specs.Str.{bytes_eq}
use Rattle.std.specs.declared.alloc.Global.{Global}
use Rattle.fab_base.specs.Tokens.{is_name_text, is_word_byte}
use Rattle.fab_drawing.specs.declared.asked.Asked.{Asked}

-- a word of letters, digits and `_` that begins with no digit, of at most 64 bytes
abbrev pub is_node_word : List ℕ → Bool
is_node_word word = list_all is_word_byte word && is_name_text word

-- the number that digits stand for, behind the number so far; one above 1,000,000,000 counts as that
abbrev pub number_from : ℕ → List ℕ → Option ℕ
number_from n [] = Some n
number_from n (b ∷ bs) = if is_ascii_digit b then number_from (min 1000000000 (10 * n + (b - 48))) bs else None

abbrev pub number_of : List ℕ → Option ℕ
number_of [] = None
number_of (b ∷ bs) = number_from 0 (b ∷ bs)

-- events are counted from 1
abbrev pub ordered : Option ℕ → Option ℕ → Option (ℕ × ℕ)
ordered (Some from) (Some to) = if nat_le 1 from && nat_le from to then Some (from, to) else None
ordered (Some from) None = None
ordered None to = None

-- `from K to M`, and nothing else
abbrev pub window_of : List (List ℕ) → Option (ℕ × ℕ)
window_of (from ∷ k ∷ to ∷ m ∷ []) = if bytes_eq from (codes "from") && bytes_eq to (codes "to") then ordered (number_of k) (number_of m) else None
window_of _ = None

abbrev pub asks : List (List ℕ) → ℕ × ℕ → Asked
asks nodes window = record { nodes = nodes; from = window.0; to = window.1 }

abbrev pub default_window : ℕ × ℕ
default_window = (1, 200)

abbrev pub asked_at : Option (ℕ × ℕ) → List (List ℕ) → List ℕ → Option Asked → Option Asked
asked_at (Some window) nodes word rest = Some (asks nodes window)
asked_at None nodes word rest = if is_node_word word then rest else None

-- Behind these names of nodes: the window, where the words are one, and else one name more. No node is called `to`, so words
-- that are a window name no nodes.
abbrev pub asked_in : List (List ℕ) → List (List ℕ) → Option Asked
asked_in nodes [] = Some (asks nodes default_window)
asked_in nodes (word ∷ words) = asked_at (window_of (word ∷ words)) nodes word (asked_in (nodes ++ word ∷ []) words)

abbrev pub asked_by : List (String Global) → Option Asked
asked_by words = asked_in [] (map (λ w. string_bytes w) words)
