-- Worked examples of what words ask for.
use Rattle.std.proofs.Common.{◌≡◌, ℕ, List, [], ◌∷◌, ◌++◌, Some, None, refl, codes}
use Rattle.std.specs.Fmt.{digits}
use Rattle.fab_command.specs.declared.command.Command.TheVariants.{Audit, Flows, Infer, Run, Trust, View}
use Rattle.fab_command.specs.declared.command.Telling.TheVariants.{Reads, Report}
use Rattle.fab_command.specs.declared.task.Task.TheVariants.{Drill, Generate, Reply}
use Rattle.fab_asked.specs.Words.{asked}

view_alone : asked (codes "view" ∷ []) ≡ Some (Reply (View []))
view_alone = refl

two_nodes : asked (codes "view" ∷ codes "w1" ∷ codes "s_1" ∷ []) ≡ Some (Reply (View (codes "w1" ∷ codes "s_1" ∷ [])))
two_nodes = refl

node_twice : asked (codes "view" ∷ codes "w1" ∷ codes "w1" ∷ []) ≡ Some (Reply (View (codes "w1" ∷ codes "w1" ∷ [])))
node_twice = refl

-- a keyword, a number, and what is neither
keyword : asked (codes "view" ∷ codes "w1" ∷ codes "store" ∷ []) ≡ None
keyword = refl

number : asked (codes "view" ∷ codes "7" ∷ []) ≡ None
number = refl

empty : asked (codes "view" ∷ [] ∷ []) ≡ None
empty = refl

-- no other word takes names
replay_with_name : asked (codes "replay" ∷ codes "w1" ∷ []) ≡ None
replay_with_name = refl

run_alone : asked (codes "run" ∷ []) ≡ Some (Reply (Run Report))
run_alone = refl

run_with_name : asked (codes "run" ∷ codes "w1" ∷ []) ≡ None
run_with_name = refl

run_in_capitals : asked (codes "Run" ∷ []) ≡ None
run_in_capitals = refl

two_labels : asked (codes "flows" ∷ codes "A" ∷ codes "B" ∷ []) ≡ Some (Reply (Flows (codes "A") (codes "B")))
two_labels = refl

two_distrusted : asked (codes "trust" ∷ codes "w1" ∷ codes "h" ∷ []) ≡ Some (Reply (Trust (codes "w1" ∷ codes "h" ∷ [])))
two_distrusted = refl

no_view : asked (codes "trust" ∷ []) ≡ Some (Reply (View [])) → ⊥
no_view e = let other : Some (Reply (Trust [])) ≡ Some (Reply (View [])) = e in cc

infer_alone : asked (codes "infer" ∷ []) ≡ Some (Reply Infer)
infer_alone = refl

infer_with_name : asked (codes "infer" ∷ codes "w1" ∷ []) ≡ None
infer_with_name = refl

audit_alone : asked (codes "audit" ∷ []) ≡ Some (Reply Audit)
audit_alone = refl

audit_with_name : asked (codes "audit" ∷ codes "w1" ∷ []) ≡ None
audit_with_name = refl

-- 32 names, and one more
abbrev eight : List (List ℕ)
eight = codes "a" ∷ codes "b" ∷ codes "c" ∷ codes "d" ∷ codes "e" ∷ codes "f" ∷ codes "g" ∷ codes "h" ∷ []

most_nodes : asked (codes "view" ∷ eight ++ eight ++ eight ++ eight) ≡ Some (Reply (View (eight ++ eight ++ eight ++ eight)))
most_nodes = refl

too_many_nodes : asked (codes "view" ∷ codes "w1" ∷ eight ++ eight ++ eight ++ eight) ≡ None
too_many_nodes = refl

not_in_another_order : asked (codes "view" ∷ codes "a" ∷ codes "b" ∷ []) ≡ Some (Reply (View (codes "b" ∷ codes "a" ∷ []))) → ⊥
not_in_another_order e = cc

-- ---- a name and a number of reads

watched : asked (codes "watch" ∷ codes "a" ∷ codes "3" ∷ []) ≡ Some (Reply (Run (Reads (codes "a") 3)))
unfolding digits
watched = refl

once : asked (codes "watch" ∷ codes "s_1" ∷ codes "1" ∷ []) ≡ Some (Reply (Run (Reads (codes "s_1") 1)))
unfolding digits
once = refl

most_reads : asked (codes "watch" ∷ codes "a" ∷ codes "1000" ∷ []) ≡ Some (Reply (Run (Reads (codes "a") 1000)))
unfolding digits
most_reads = refl

too_many_reads : asked (codes "watch" ∷ codes "a" ∷ codes "1001" ∷ []) ≡ None
unfolding digits
too_many_reads = refl

no_reads : asked (codes "watch" ∷ codes "a" ∷ codes "0" ∷ []) ≡ None
unfolding digits
no_reads = refl

reads_with_zero : asked (codes "watch" ∷ codes "a" ∷ codes "03" ∷ []) ≡ None
unfolding digits
reads_with_zero = refl

read_keyword : asked (codes "watch" ∷ codes "store" ∷ codes "3" ∷ []) ≡ None
unfolding digits
read_keyword = refl

read_number : asked (codes "watch" ∷ codes "3" ∷ codes "3" ∷ []) ≡ None
unfolding digits
read_number = refl

reads_first : asked (codes "watch" ∷ codes "3" ∷ codes "a" ∷ []) ≡ None
unfolding digits
reads_first = refl

watch_alone : asked (codes "watch" ∷ []) ≡ None
watch_alone = refl

watch_without_reads : asked (codes "watch" ∷ codes "a" ∷ []) ≡ None
watch_without_reads = refl

watch_of_two : asked (codes "watch" ∷ codes "a" ∷ codes "b" ∷ codes "3" ∷ []) ≡ None
watch_of_two = refl

-- a run without a reader is another wish
no_run : asked (codes "watch" ∷ codes "a" ∷ codes "3" ∷ []) ≡ Some (Reply (Run Report)) → ⊥
unfolding digits
no_run e = let other : Some (Reply (Run (Reads (codes "a") 3))) ≡ Some (Reply (Run Report)) = e in cc

-- ---- a number and a size

generated : asked (codes "gen" ∷ codes "7" ∷ codes "3" ∷ []) ≡ Some (Generate 7 3)
unfolding digits
generated = refl

drilled : asked (codes "drill" ∷ codes "0" ∷ codes "1" ∷ []) ≡ Some (Drill 0 1)
unfolding digits
drilled = refl

greatest : asked (codes "drill" ∷ codes "4294967295" ∷ codes "1000" ∷ []) ≡ Some (Drill 4294967295 1000)
unfolding digits
greatest = refl

one_too_great : asked (codes "gen" ∷ codes "4294967296" ∷ codes "3" ∷ []) ≡ None
unfolding digits
one_too_great = refl

-- twenty digits, as great as what 64 bits can't tell from 7
far_too_great : asked (codes "gen" ∷ codes "18446744073709551623" ∷ codes "3" ∷ []) ≡ None
unfolding digits
far_too_great = refl

zeros_in_front : asked (codes "gen" ∷ codes "007" ∷ codes "3" ∷ []) ≡ None
unfolding digits
zeros_in_front = refl

two_zeros : asked (codes "gen" ∷ codes "00" ∷ codes "3" ∷ []) ≡ None
unfolding digits
two_zeros = refl

with_a_sign : asked (codes "gen" ∷ codes "+7" ∷ codes "3" ∷ []) ≡ None
unfolding digits
with_a_sign = refl

below_zero : asked (codes "gen" ∷ codes "-7" ∷ codes "3" ∷ []) ≡ None
unfolding digits
below_zero = refl

in_letters : asked (codes "gen" ∷ codes "a" ∷ codes "3" ∷ []) ≡ None
unfolding digits
in_letters = refl

no_digits : asked (codes "drill" ∷ [] ∷ codes "3" ∷ []) ≡ None
unfolding digits
no_digits = refl

no_size : asked (codes "gen" ∷ codes "7" ∷ codes "0" ∷ []) ≡ None
unfolding digits
no_size = refl

size_too_great : asked (codes "drill" ∷ codes "7" ∷ codes "1001" ∷ []) ≡ None
unfolding digits
size_too_great = refl

size_with_zero : asked (codes "drill" ∷ codes "7" ∷ codes "03" ∷ []) ≡ None
unfolding digits
size_with_zero = refl

number_alone : asked (codes "gen" ∷ codes "7" ∷ []) ≡ None
number_alone = refl

three_numbers : asked (codes "drill" ∷ codes "7" ∷ codes "3" ∷ codes "3" ∷ []) ≡ None
three_numbers = refl

-- a name isn't a number, and a number is no name
numbers_for_flows : asked (codes "flows" ∷ codes "7" ∷ codes "3" ∷ []) ≡ None
numbers_for_flows = refl

not_the_other_way : asked (codes "gen" ∷ codes "7" ∷ codes "3" ∷ []) ≡ Some (Generate 3 7) → ⊥
unfolding digits
not_the_other_way e = let swapped : Some (Generate 7 3) ≡ Some (Generate 3 7) = e in cc

no_drill : asked (codes "gen" ∷ codes "7" ∷ codes "3" ∷ []) ≡ Some (Drill 7 3) → ⊥
unfolding digits
no_drill e = let other : Some (Generate 7 3) ≡ Some (Drill 7 3) = e in cc
