-- What counts as an event, what a job has to be for who evaluates it, and what the answer that all is over asks for.
use Rattle.std.specs.Prelude.{◌≡◌, Err}
use Rattle.std.proofs.Common.{refl, sym, ◌∙◌, arith}
use Rattle.fab_eval.specs.declared.job.Job.{Job}
use Rattle.fab_tree.specs.declared.resolved.Resolved.{Resolved}
use Rattle.fab_exchange.specs.declared.turn.Turn.TheVariants as t
use Rattle.fab_exchange.specs.declared.turn.Given.TheVariants as given
use Rattle.fab_threads.specs.Counts.{JobIsReady, OnOver, acted, acted_turn, taken_given}

-- ---- counts

-- an event is one
it_acted : acted_turn t.Acted ≡ 1
it_acted = refl

-- who evaluates has made none yet
it_evaluates : (job : Job) → acted_turn (t.Evaluate job) ≡ 0
it_evaluates job = refl

-- nor has who waits
not_waiting : acted_turn t.Wait ≡ 1 → ⊥
not_waiting h = omega (arith, h)

-- a turn for which memory was wanting made none
wanting : (E : Type 0) (e : E) → acted (Err e) ≡ 0
wanting E e = refl

-- what was brought back is an event where it was taken
it_is_taken : taken_given given.Taken ≡ 1
it_is_taken = refl

not_left : taken_given given.Stale ≡ 1 → ⊥
not_left h = omega (arith, h)

-- ---- jobs

-- one of another program isn't ready
not_of_another : (p q : Resolved) (job : Job) → job.program.value ≡ q → (q ≡ p → ⊥) → JobIsReady p (t.Evaluate job) → ⊥
not_of_another p q job is other h = other (sym is ∙ h.program_is)

-- who waits has none
none_to_wait : (p : Resolved) → JobIsReady p t.Wait
none_to_wait p = tt

-- ---- over

-- who is told that all is over may rely on it
it_is_over : (holds : Type 0) → OnOver t.Over holds → holds
it_is_over holds h = h

-- who is to wait may not: where it isn't over, too, there is that answer
may_wait : OnOver t.Wait ⊥
may_wait = tt

not_over : OnOver t.Over ⊥ → ⊥
not_over h = h
