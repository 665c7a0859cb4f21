-- Examples of which text is asked, and of how `gen` may end.
use Rattle.std.proofs.Common.{◌≡◌, ℕ, zero, suc, List, [], ◌++◌, Option, Some, None, refl, ap, arith, codes, get_or}
use Rattle.fab_command.specs.declared.command.Command.TheVariants.{Check, Run}
use Rattle.fab_command.specs.declared.command.Telling.TheVariants.{Report, Summary}
use Rattle.fab_command.specs.declared.task.Task.TheVariants.{Drill, Generate, Reply}
use Rattle.fab_gen.specs.Generated.{generated_text}
use Rattle.fab_front.specs.declared.status.Status.TheVariants as status
use Rattle.fab_reply.specs.Tasks.{Generates, IsRead, IsReplied, command_in, input_of, rest_of, task_of}

-- ---- what is asked, and of which text

drill_runs : command_in (Some (Drill 7 3)) ≡ Some (Run Summary)
drill_runs = refl

not_for_a_report : command_in (Some (Drill 7 3)) ≡ Some (Run Report) → ⊥
not_for_a_report h = cc

gen_asks_nothing : command_in (Some (Generate 7 3)) ≡ None
gen_asks_nothing = refl

own_text : (left : Option (List ℕ)) → input_of (Some (Drill 7 3)) left ≡ Some (generated_text 7 3)
own_text left = refl

-- it is told also where the source tells nothing, and read whole
whole_text : rest_of (Some (Drill 7 3)) None ≡ Some []
whole_text = refl

text_of_the_source : (left : Option (List ℕ)) → input_of (Some (Reply Check)) left ≡ left
text_of_the_source left = refl

drill_reads_nothing : IsRead (Some (Drill 7 3)) → ⊥
drill_reads_nothing h = h

gen_has_no_reply : IsReplied (Some (Generate 7 3)) → ⊥
gen_has_no_reply h = h

a_command_is_replied : IsReplied (task_of (Some Check))
a_command_is_replied = tt

a_command_is_read : IsRead (task_of (Some Check))
a_command_is_read = tt

nothing_is_no_task : task_of None ≡ None
nothing_is_no_task = refl

-- ---- how `gen` may end

all_of_it : Generates 7 3 status.Ok (Some []) (Some (generated_text 7 3))
all_of_it = refl

front_of_it : Generates 7 3 status.WriteFault (Some (codes "x")) (Some (codes "x" ++ codes "principal"))
front_of_it = (9, refl)

not_done_with_a_front : Generates 7 3 status.Ok (Some []) (Some (codes "principal")) → ⊥
not_done_with_a_front h = let none : 0 ≡ 32 = ap (λ bytes. get_or bytes 9 0) h in omega (arith, none)

not_of_another_text : Generates 7 3 status.Memory (Some []) (Some (codes "worker")) → ⊥
not_of_another_text (zero, h) = let none : 119 ≡ 0 = ap (λ bytes. get_or bytes 0 0) h in omega (arith, none)
not_of_another_text (suc n, h) = let other : 119 ≡ 112 = ap (λ bytes. get_or bytes 0 0) h in omega (arith, other)

never_for_reading : (w w' : Option (List ℕ)) → Generates 7 3 status.ReadFault w w' → ⊥
never_for_reading w w' h = h

never_refused : (w w' : Option (List ℕ)) → Generates 7 3 status.Usage w w' → ⊥
never_refused w w' h = h
