-- Sizes that words ask for are in their range.
use Rattle.std.proofs.Common.{◌≡◌, ◌≤◌, ◌&&◌, ℕ, Bool, true, false, List, [], ◌∷◌, Option, Some, None, refl, option_map, if◌then◌else◌, map, string_bytes, String, codes, bytes_eq, nat_le}
use Rattle.std.specs.declared.alloc.Global.{Global}
use Rattle.std.proofs.lemmas.Bool.{leb-true, and_parts}
use Rattle.fab_command.specs.declared.command.Command.{Command}
use Rattle.fab_command.specs.declared.task.Task.TheVariants.{Drill, Generate, Reply}
use Rattle.fab_asked.specs.Numbers.{IsSized, number_of, numbers_of, paired, sized}
use Rattle.fab_asked.specs.Words.{asked, asked_by, command_asked}

abbrev IsInRange : Option (ℕ × ℕ) → Type 0
IsInRange (Some x) = (1 ≤ x.1) × (x.1 ≤ 1000)
IsInRange None = Unit {0}

sized_pair : (number size : ℕ) (b : Bool) → (nat_le 1 size && nat_le size 1000) ≡ b → IsInRange (paired (Some number) (if b then Some size else None))
sized_pair number size false e = tt
sized_pair number size true e = let h = and_parts (nat_le 1 size) (nat_le size 1000) e in (leb-true 1 size h.0, leb-true size 1000 h.1)

pairs_in : (number size : Option ℕ) → IsInRange (paired number (sized size))
pairs_in None size = tt
pairs_in (Some number) None = tt
pairs_in (Some number) (Some size) = sized_pair number size (nat_le 1 size && nat_le size 1000) refl

words_in : (words : List (List ℕ)) → IsInRange (numbers_of words)
words_in [] = tt
words_in (n ∷ []) = tt
words_in (n ∷ s ∷ []) = pairs_in (number_of n) (number_of s)
words_in (n ∷ s ∷ w ∷ ws) = tt

generates : (x : Option (ℕ × ℕ)) → IsInRange x → IsSized (option_map (λ y. Generate y.0 y.1) x)
generates None h = tt
generates (Some x) h = h

drills : (x : Option (ℕ × ℕ)) → IsInRange x → IsSized (option_map (λ y. Drill y.0 y.1) x)
drills None h = tt
drills (Some x) h = h

replies : (x : Option Command) → IsSized (option_map Reply x)
replies None = tt
replies (Some x) = tt

chosen : (word : List ℕ) (operands : List (List ℕ)) (gen drill : Bool) → IsSized (if gen then option_map (λ x. Generate x.0 x.1) (numbers_of operands)
    else (if drill then option_map (λ x. Drill x.0 x.1) (numbers_of operands) else option_map Reply (command_asked word operands)))
chosen word operands true drill = generates (numbers_of operands) (words_in operands)
chosen word operands false true = drills (numbers_of operands) (words_in operands)
chosen word operands false false = replies (command_asked word operands)

asked_sized : (words : List (List ℕ)) → IsSized (asked words)
asked_sized [] = tt
asked_sized (word ∷ operands) = chosen word operands (bytes_eq word (codes "gen")) (bytes_eq word (codes "drill"))

pub are_sized : (words : List (String Global)) → IsSized (asked_by words)
are_sized words = asked_sized (map string_bytes words)
