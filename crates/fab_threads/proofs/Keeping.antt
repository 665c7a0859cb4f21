-- What the calling thread has kept, and which jobs it found left.
use Rattle.std.specs.Prelude.{◌≡◌, ℕ, List, [], ◌∷◌, ◌++◌, map, replicate, slice_index_or, slice_set, Option, Some, None, Result, IfOk, IfSome}
use Rattle.std.specs.List.{All}
use Rattle.std.proofs.Common.{zero, suc, sym, subst}
use Rattle.std.proofs.lemmas.List.Elements.{All-cons, All-head, All-nil, All-push, All-replicate, All-same, All-set, All-tail, All-weaker}
use Rattle.fab_eval.specs.declared.done.Done.{Done}
use Rattle.fab_eval.specs.declared.job.Job.{Job}
use Rattle.fab_tree.specs.declared.resolved.Resolved.{Resolved}
use Rattle.fab_pauses.specs.Evaluations.{IsOf}
use Rattle.fab_pool.specs.Jobs as pool
use Rattle.fab_exchange.specs.declared.turn.Turn.{Turn}
use Rattle.fab_threads.specs.Counts.{IsReady, JobIsReady}
use Rattle.fab_threads.specs.Rounds.{AreKept}

-- what came of a job of this program, if it is there
abbrev pub IsKept : Resolved → Option Done → Type 0
IsKept program kept = IfSome kept (λ (done : Done). IsOf program done.job)

-- ---- what is kept

pub none_kept : (program : Resolved) (kept : List (Option Done)) → kept ≡ replicate 64 None → AreKept program kept
none_kept program kept is = All-same (IsKept program) kept (replicate 64 None) is (All-replicate (IsKept program) 64 None tt)

pub kept_at : (program : Resolved) (kept : List (Option Done)) (place : ℕ) → AreKept program kept → IsKept program (slice_index_or kept place None)
kept_at program [] place h = tt
kept_at program (one ∷ rest) zero h = All-head (IsKept program) one rest h
kept_at program (one ∷ rest) (suc place) h = kept_at program rest place (All-tail (IsKept program) one rest h)

pub one_kept : (program : Resolved) (kept : List (Option Done)) (place : ℕ) (done : Done) → IsOf program done.job → AreKept program kept → AreKept program (slice_set kept place (Some done))
one_kept program kept place done is h = All-set (IsKept program) kept place (Some done) is h

-- ---- jobs that are left

pub one_left : (program : Resolved) (jobs new : List Job) (job : Job) → new ≡ jobs ++ job ∷ [] → All (IsReady program) jobs → IsReady program job → All (IsReady program) new
one_left program jobs new job is h ready = All-same (IsReady program) new (jobs ++ job ∷ []) is (All-push (IsReady program) jobs job h ready)

-- the pool can evaluate them
pub all_ready : (program : Resolved) (jobs : List Job) → All (IsReady program) jobs → All pool.IsReady jobs
all_ready program jobs h = All-weaker (IsReady program) pool.IsReady (λ job ready. record { distinct = ready.distinct; made_before = ready.made_before }) jobs h

-- what holds of what is made of each holds of each as it is made
mapped : {X Y : Type 0} (P : X → Type 0) (f : Y → X) (ys : List Y) → All P (map f ys) → All (λ y. P (f y)) ys
mapped P f [] h = All-nil (λ y. P (f y))
mapped P f (y ∷ ys) h = All-cons (λ y. P (f y)) y ys (All-head P (f y) (map f ys) h) (mapped P f ys (All-tail P (f y) (map f ys) h))

-- what they come to is of their program
pub all_of : (program : Resolved) (dones : List Done) (jobs : List Job) → map (λ d. d.job) dones ≡ jobs → All (IsReady program) jobs → All (λ d. IsOf program d.job) dones
all_of program dones jobs is h =
    mapped (IsOf program) (λ (d : Done). d.job) dones
    (All-weaker (IsReady program) (IsOf program) (λ job ready. ready.program_is) (map (λ (d : Done). d.job) dones) (subst (All (IsReady program)) (sym is) h))

-- ---- one program

-- what is ready for a program is ready for the same one
pub ready_still : {E : Type 0} (p q : Resolved) (result : Result Turn E) → q ≡ p → IfOk result (JobIsReady q) → IfOk result (JobIsReady p)
ready_still p q result same h = subst (λ (x : Resolved). IfOk result (JobIsReady x)) same h
