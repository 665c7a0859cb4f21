-- The coordinator of a two-phase commit as contracts see it, what votes come to, and what an attempt keeps that it can
-- be asked for.
use Rattle.std.specs.Prelude.{ℕ, ◌≤◌, ◌<◌, ◌^◌, Bool, true, not, ◌==◌, if◌then◌else◌, List, length, fold, map}
use Rattle.std.specs.List.{All, AllByRecursion, filter, flat_map, list_any}
use Rattle.fab_base.specs.declared.object.Tid.{Tid}
use Rattle.fab_base.specs.declared.message.Message.{Message}
use Rattle.fab_base.specs.declared.message.Message.TheVariants.{Commit}
use Rattle.fab_base.specs.MessageSpelling.{spelled}
use Rattle.fab_protocol.specs.declared.parts.Decision.{Decision}
use Rattle.fab_protocol.specs.declared.parts.Parts.{Parts}
use Rattle.fab_commit.specs.declared.verdict.Verdict.{Verdict}
use Rattle.fab_commit.specs.declared.verdict.Verdict.TheVariants as v

-- the attempt, the stores that take part, and those that haven't voted
pub record Coordination : Type 0 where
  pub tid : Tid
  pub stores : List ℕ
  pub waiting : List ℕ

-- at first each store has yet to vote
abbrev pub begun : Tid → List ℕ → Coordination
begun t stores = record { tid = t; stores = stores; waiting = stores }

-- a store is among these
abbrev pub is_among : ℕ → List ℕ → Bool
is_among store stores = list_any (λ s. s == store) stores

-- a No aborts; a Yes commits where no other store has yet to vote
abbrev pub verdict : ℕ → Bool → List ℕ → Verdict
verdict store agrees waiting =
    if agrees then (if list_any (λ s. not (s == store)) waiting then v.Wait else v.Commit) else v.Abort

-- behind a Yes the store has voted, and a No changes nothing
abbrev pub voted : ℕ → Bool → Coordination → Coordination
voted store agrees c = if agrees then record c { waiting = filter (λ s. not (s == store)) c.waiting } else c

-- behind the Yes votes of these stores
abbrev pub all_voted : List ℕ → Coordination → Coordination
all_voted stores c = fold (λ before store. voted store true before) c stores

-- each touched or made object is at a node
pub record AreAtNodes (parts : Parts) : Type 0 where
  pub touched : AllByRecursion (λ t. t.0.store < 2 ^ 16) parts.touched
  pub creates : AllByRecursion (λ c. c.0.store < 2 ^ 16) parts.creates

-- each decided Commit again, to the stores that took part
abbrev pub commits_of : List Decision → List (ℕ × Message)
commits_of decided = flat_map (λ d. map (λ s. (s, Commit d.tid)) d.stores) decided

-- messages to nodes, as bytes
abbrev pub spelled_sends : List (ℕ × Message) → List (ℕ × List ℕ)
spelled_sends sends = map (λ x. (x.0, spelled x.1)) sends
