-- Touches and downgraded values are only ever noted behind those before, by what is done erased, too.
use Rattle.std.proofs.Common.{ℕ, List, [], ◌∷◌, Option, Bool, if◌then◌else◌, map, refl, Some, None}
use Rattle.std.specs.List.{flat_map}
use Rattle.fab_base.specs.declared.object.Tid.{Tid}
use Rattle.fab_base.specs.declared.object.Value.{Value}
use Rattle.fab_base.specs.declared.object.Value.TheVariants.{Null, Ref}
use Rattle.fab_tree.specs.declared.expression.Operator.{Operator}
use Rattle.fab_tree.specs.declared.resolved.Class.{Class}
use Rattle.fab_tree.specs.declared.resolved.Local.{Local}
use Rattle.fab_tree.specs.declared.resolved.Expression.{Expression}
use Rattle.fab_tree.specs.declared.resolved.Operand.{Operand}
use Rattle.fab_tree.specs.declared.resolved.Return.{Return}
use Rattle.fab_tree.specs.declared.resolved.Returns.{Returns}
use Rattle.fab_tree.specs.declared.resolved.Right.{Right}
use Rattle.fab_tree.specs.declared.resolved.Statement.{Statement}
use Rattle.fab_tree.specs.declared.resolved.Resolved.{Resolved}
use Rattle.fab_labelling.specs.Sites.{sites_in, right_sites, return_sites, block_sites, method_sites}
use Rattle.fab_language.specs.Meaning.{M, gives, write, operate, chained, led}
use Rattle.fab_laws.specs.Runs.{state_behind}
use Rattle.fab_laws.proofs.Everywhere as all
use Rattle.fab_laws.proofs.Everywhere.{Anywhere}
use Rattle.fab_laws.proofs.Grows.{Longer, as_long, Grows, grows_gives, grows_cond, grows_write, reads_grow, steps_grow}
use Rattle.fab_laws.proofs.Values.{all_any}
use Rattle.fab_erasure.specs.Erased as erase
use Rattle.fab_erasure.specs.Erased.{Part, taken}
use Rattle.fab_erasure.proofs.ErasedForms.{operand_part}
use Rattle.fab_erasure.proofs.Everywhere as everywhere
use Rattle.fab_erasure.proofs.Everywhere.{OfErased, nowhere}
use Rattle.fab_base.specs.Values.{referred}
use Rattle.fab_base.specs.declared.object.Oid.{Oid}

pub grows_given : (blank : Value) → Grows (erase.take_given blank)
grows_given blank t = by_given t.given
  where
    by_given : (vs : List Value) → Longer t (state_behind (taken blank vs t))
    by_given [] = as_long t t refl refl
    by_given (v ∷ vs) = as_long t (record t { given = vs }) refl refl

abbrev Grow : (A : Type 0) → M A → Type 0
Grow A m = Grows {A = A} m

module _ (sees shows : ℕ → Bool) where
  pub grows_write_shown : (site field : ℕ) (v w : Value) → Grows (erase.write_shown sees shows site field v w)
  grows_write_shown site field v w = by (referred w)
    where
      by : (o : Option Oid) → Grows (led o (λ p. if shows p.class then write site field v (Ref p) else gives tt))
      by None t = as_long t t refl refl
      by (Some o) t = grows_cond (shows o.class) (write site field v (Ref o)) (gives tt) (grows_write site field v (Ref o)) (λ u. as_long u u refl refl) t

  pub grows_downgraded : (classes : List Class) (ls : List Local) (blank : Value) (from to : ℕ) (v : Value)
      → Grows (erase.downgraded sees shows classes ls blank from to v)
  grows_downgraded classes ls blank from to v =
      grows_cond (sees from) (gives v) (if sees to then erase.take_given blank else gives Null) (grows_gives v)
      (grows_cond (sees to) (erase.take_given blank) (gives Null) (grows_given blank) (grows_gives Null))

  steps : OfErased Grow Anywhere shows
  steps = record { steps = steps_grow Anywhere shows; took = grows_given }

  module _ (classes : List Class) (ls : List Local) where
    pub value_grows : (e : Expression) → Grows (erase.value sees shows classes ls e)
    value_grows e = (everywhere.expressions Grow Anywhere sees shows (reads_grow Anywhere shows) classes ls e).by (all_any (sites_in e))

    pub chain_grows : (us : List Operand) (v : Value)
        → Grows (chained operate (map (λ (u : Operator × Part). (u.0, u.1.run)) (map (operand_part sees shows classes ls) us)) v)
    chain_grows us v =
        all.chains Grow Anywhere shows (reads_grow Anywhere shows) (map (λ (u : Operator × Part). (u.0, u.1.run)) (map (operand_part sees shows classes ls) us)) v
        (everywhere.all_operands Grow Anywhere sees shows (reads_grow Anywhere shows) classes ls us (all_any _))

    pub values_grow : (es : List Expression) → Grows (erase.values sees shows classes ls es)
    values_grow es = everywhere.all_values Grow Anywhere sees shows (reads_grow Anywhere shows) classes ls es (all_any (flat_map sites_in es))

    pub returned_grows : (returns : Option Returns) (result : Option Return) → Grows (erase.returned sees shows classes ls returns result)
    returned_grows returns result =
        everywhere.all_returned Grow Anywhere sees shows (reads_grow Anywhere shows) classes ls returns result (all_any (return_sites result))

    module _ (tid : Tid) (call : ℕ → List Value → M (Option Value)) (calls : (m : ℕ) (vs : List Value) → Grows (call m vs)) where
      pub right_grows : (blank : Value) (x : Right) → Grows (erase.right sees shows classes ls tid call blank x)
      right_grows blank x = everywhere.all_rights Grow Anywhere sees shows steps classes ls tid call calls blank x (all_any (right_sites x))

      pub statement_grows : (x : Statement) → Grows (erase.statement sees shows classes ls tid call x)
      statement_grows x = (everywhere.statements Grow Anywhere sees shows steps classes ls tid call calls x).by [] refl (nowhere sees _)

      pub block_grows : (xs : List Statement) → Grows (erase.block sees shows classes ls tid call xs)
      block_grows xs = (everywhere.blocks Grow Anywhere sees shows steps classes ls tid call calls xs).by [] refl (nowhere sees (block_sites classes ls xs []))

  pub calls_grow : (program : Resolved) (tid : Tid) (depth i : ℕ) (vs : List Value) → Grows (erase.called sees shows program tid depth i vs)
  calls_grow program tid = everywhere.all_calls Grow Anywhere sees shows steps program tid (λ i m e. nowhere sees (method_sites program.classes m))
