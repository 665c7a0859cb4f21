-- Of which runs a report has a spelling: names are words, numbers are those of the bundle and in their ranges.
use Rattle.std.specs.Prelude.{◌≢◌, ℕ, suc, ◌<◌, ◌^◌, List, [], ◌∷◌, ◌++◌, length, codes, Option, Some, None, IsSome, find, FitsSigned}
use Rattle.std.specs.List.{AllByRecursion}
use Rattle.std.specs.Int.{w32}
use Rattle.fab_base.specs.declared.object.Oid.{Oid}
use Rattle.fab_base.specs.declared.object.Object.{Object}
use Rattle.fab_base.specs.declared.object.Tid.{Tid}
use Rattle.fab_base.specs.declared.object.Value.{Value}
use Rattle.fab_base.specs.declared.object.Value.TheVariants.{Int, Null, Ref}
use Rattle.fab_base.specs.FieldSpelling.{IsOid}
use Rattle.fab_tree.specs.declared.resolved.Resolved.{Resolved}
use Rattle.fab_language.specs.Words.{has_number}
use Rattle.fab_net.specs.declared.event.Event.{Event}
use Rattle.fab_net.specs.declared.event.Event.TheVariants as e
use Rattle.fab_net.specs.declared.event.Inner.{Inner}
use Rattle.fab_net.specs.declared.event.Inner.TheVariants as i
use Rattle.fab_net.specs.declared.note.Commit.{Commit}
use Rattle.fab_net.specs.declared.note.Logged.{Logged}
use Rattle.fab_net.specs.declared.outcome.ReqOutcome.{ReqOutcome}
use Rattle.fab_net.specs.declared.outcome.ReqOutcome.TheVariants as o
use Rattle.fab_trace.specs.Report.{target_behind, commits_in}
use Rattle.fab_reports.specs.Lines.{IsWord, AreBytes, IsRequest}

-- the names of nodes, classes and roots are words, and no root is called `null`
pub record HasWords (r : Resolved) : Type 0 where
  pub nodes : AllByRecursion (λ x. IsWord x.name.text) r.nodes
  pub classes : AllByRecursion (λ x. IsWord x.name.text) r.classes
  pub roots : AllByRecursion (λ x. IsWord x.name.text × (x.name.text ≢ codes "null")) r.roots

-- a worker or store of the bundle has the number, and a class has it
abbrev pub IsNode : Resolved → ℕ → Type 0
IsNode r n = IsSome (find (λ x. has_number n x.node) r.nodes)

abbrev pub IsClass : Resolved → ℕ → Type 0
IsClass r n = n < length r.classes

abbrev pub IsInnerIn : Resolved → Inner → Type 0
IsInnerIn r (i.Begin n) = IsNode r n
IsInnerIn r (i.Resume n) = IsNode r n
IsInnerIn r (i.Deliver a b) = IsNode r a × IsNode r b
IsInnerIn r (i.Idle n s) = IsNode r n × IsNode r s
IsInnerIn r (i.Recover n) = IsNode r n

-- with the target of a post
abbrev pub IsEventIn : Resolved → Event → ℕ → Type 0
IsEventIn r (e.Begin n) target = IsNode r n
IsEventIn r (e.Resume n) target = IsNode r n
IsEventIn r (e.Deliver a b) target = IsNode r a × IsNode r b
IsEventIn r (e.Idle n s) target = IsNode r n × IsNode r s
IsEventIn r (e.Recover n) target = IsNode r n
IsEventIn r (e.Post h) target = IsNode r h × IsNode r target
IsEventIn r (e.Crash n) target = IsNode r n
IsEventIn r (e.CrashIn keep event) target = (keep < 2 ^ 32) × IsInnerIn r event

-- each event of a log, behind those before
abbrev pub IsLogIn : Resolved → List Logged → List Logged → Type 0
IsLogIn r before [] = Unit {0}
IsLogIn r before (x ∷ log) = (IsEventIn r x.event (target_behind r before x.event) × AreBytes x.bytes) × IsLogIn r (before ++ x ∷ []) log

abbrev pub IsValueIn : Value → Type 0
IsValueIn (Int n) = FitsSigned w32 n
IsValueIn Null = Unit {0}
IsValueIn (Ref oid) = IsOid oid

abbrev pub IsResultIn : Option Value → Type 0
IsResultIn None = Unit {0}
IsResultIn (Some x) = IsValueIn x

abbrev pub IsAttemptIn : Tid → Type 0
IsAttemptIn t = (t.boot < 2 ^ 32) × (t.number < 2 ^ 32)

abbrev pub IsCommitIn : Resolved → Commit → Type 0
IsCommitIn r c = IsNode r c.worker × (IsRequest c.request × IsAttemptIn c.tid)

abbrev pub IsOutcomeIn : Resolved → ReqOutcome → Type 0
IsOutcomeIn r (o.Committed t value) = IsAttemptIn t × IsResultIn value
IsOutcomeIn r (o.Silent n) = IsNode r n
IsOutcomeIn r (o.Denied n denial) = IsNode r n
IsOutcomeIn r o.Failed = Unit {0}
IsOutcomeIn r o.Conflict = Unit {0}
IsOutcomeIn r (o.Stopped limit) = Unit {0}
IsOutcomeIn r o.NodeDown = Unit {0}
IsOutcomeIn r o.Unfinished = Unit {0}

-- one list for each node, from number n on
abbrev pub AreOutcomesIn : Resolved → ℕ → List (List ReqOutcome) → Type 0
AreOutcomesIn r n [] = Unit {0}
AreOutcomesIn r n (xs ∷ more) = ((length xs < 2 ^ 32) × AllByRecursion (λ x. IsNode r n × IsOutcomeIn r x) xs) × AreOutcomesIn r (suc n) more

pub record IsRowIn (r : Resolved) (s : ℕ) (row : Oid × ℕ × Object) : Type 0 where
  pub store : IsNode r s
  pub name : IsOid row.0
  pub class : IsClass r row.0.class
  pub version : row.1 < 2 ^ 32
  pub fields : AllByRecursion IsValueIn row.2.fields

abbrev pub AreHeldIn : Resolved → ℕ → List (List (Oid × ℕ × Object)) → Type 0
AreHeldIn r s [] = Unit {0}
AreHeldIn r s (rows ∷ more) = AllByRecursion (IsRowIn r s) rows × AreHeldIn r (suc s) more

-- the report of this run has a spelling for each line
pub record IsShowable (r : Resolved) (log : List Logged) (held : List (List (Oid × ℕ × Object))) (outcomes : List (List ReqOutcome)) : Type 0 where
  pub words : HasWords r
  pub events_are_in : IsLogIn r [] log
  pub commits_are_in : AllByRecursion (IsCommitIn r) (commits_in log)
  pub outcomes_are_in : AreOutcomesIn r 0 outcomes
  pub held_are_in : AreHeldIn r 0 held
