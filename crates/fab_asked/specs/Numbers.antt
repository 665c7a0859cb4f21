-- Which words are numbers.
use Rattle.std.specs.Prelude.{ℕ, ◌==◌, ◌&&◌, ◌||◌, ◌≤◌, Bool, false, nat_le, List, [], ◌∷◌, Option, Some, None, option_map, if◌then◌else◌}
use Rattle.std.specs.Fmt.{decimal}
use Rattle.std.specs.Str.{bytes_eq}
use Rattle.std.specs.Str.Parse.{digits_value}
use Rattle.fab_command.specs.declared.task.Task.{Task}
use Rattle.fab_command.specs.declared.task.Task.TheVariants.{Drill, Generate, Reply}

-- the number up to 4294967295 that a word writes, in digits without zeros in front
abbrev pub number_of : List ℕ → Option ℕ
number_of word =
    if nat_le (digits_value 10 word) 4294967295 && bytes_eq (decimal (digits_value 10 word)) word then Some (digits_value 10 word) else None

-- the word begins with `+`, or with a zero that isn't all of it
abbrev pub has_front : List ℕ → Bool
has_front [] = false
has_front (b ∷ []) = b == 43
has_front (b ∷ c ∷ cs) = b == 43 || b == 48

-- a size is a number from 1 to 1000
abbrev pub sized : Option ℕ → Option ℕ
sized (Some size) = if nat_le 1 size && nat_le size 1000 then Some size else None
sized None = None

abbrev pub size_of : List ℕ → Option ℕ
size_of word = sized (number_of word)

-- a number and a size
abbrev pub paired : Option ℕ → Option ℕ → Option (ℕ × ℕ)
paired (Some number) size = option_map (λ n. (number, n)) size
paired None size = None

-- the words are a number and a size
abbrev pub numbers_of : List (List ℕ) → Option (ℕ × ℕ)
numbers_of (number ∷ size ∷ []) = paired (number_of number) (size_of size)
numbers_of [] = None
numbers_of (number ∷ []) = None
numbers_of (number ∷ size ∷ other ∷ others) = None

-- the size of what is made up is in its range
abbrev pub IsSized : Option Task → Type 0
IsSized (Some (Generate number size)) = (1 ≤ size) × (size ≤ 1000)
IsSized (Some (Drill number size)) = (1 ≤ size) × (size ≤ 1000)
IsSized (Some (Reply command)) = Unit {0}
IsSized None = Unit {0}
