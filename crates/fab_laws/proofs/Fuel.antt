-- No run gains fuel.
use Rattle.std.proofs.Common.{ℕ, ◌≤◌, List, [], arith}
use Rattle.std.specs.Prelude.{slice_get}
use Rattle.fab_base.specs.declared.object.Oid.{Oid}
use Rattle.fab_base.specs.declared.object.Tid.{Tid}
use Rattle.fab_base.specs.declared.object.Value.{Value}
use Rattle.fab_tree.specs.declared.resolved.Expression.{Expression}
use Rattle.fab_tree.specs.declared.resolved.Statement.{Statement}
use Rattle.fab_tree.specs.declared.resolved.Resolved.{Resolved}
use Rattle.fab_language.specs.Meaning.{State, Run, value, block, called}
use Rattle.fab_laws.specs.Kinds.{Kind, Claim, parameter_kinds, block_claims}
use Rattle.fab_laws.specs.Runs.{state_behind}
use Rattle.fab_laws.proofs.Values.{all_any}
use Rattle.fab_laws.proofs.Walk as w
use Rattle.fab_laws.proofs.Walk.{Result, on, off}

module _ (limit : ℕ) where
  pub record Spares (ls : List Kind) (t : State) : Type 0 where
    pub few : t.fuel ≤ limit

  abbrev Has : State → Kind → Value → Type 0
  Has t k v = Unit {0}

  abbrev Then : State → State → Type 0
  Then t u = Unit {0}

  abbrev Lacks : ℕ → Oid → Type 0
  Lacks site o = Unit {0}

  abbrev Meets : Claim → Type 0
  Meets c = Unit {0}

  module _ (program : Resolved) (tid : Tid) where
    no_more : (ls ms : List Kind) (t u : State) → Spares ls t → u.fuel ≤ t.fuel → w.Next program tid Spares Has Then Lacks Meets ms t u
    no_more ls ms t u h le = let f = h.few in record { holds = record { few = omega arith }; later = tt }

    kept : w.IsKept program tid Spares Has Then Lacks Meets
    kept = record {
      same = λ t. tt;
      then_on = λ t u v g h. tt;
      of_number = λ t w v e. tt;
      operated = λ t k l a b v i p q. tt;
      of_null = λ t. tt;
      still = λ t u k v g h. tt;
      fitted = λ t taker k v m h. tt;
      at_local = λ ls t x h. tt;
      charged = λ ls t h. no_more ls ls t _ h (omega arith);
      assigned = λ ls t x v h p. no_more ls ls t _ h (omega arith);
      lacked = λ ls t k site o h p e. tt;
      touched = λ ls t k site o x ts h p e. no_more ls ls t _ h (omega arith);
      at_field = λ ls t k site field o x ts h p e. tt;
      wrote = λ ls t k l site field o v x ts g h p m q e r. no_more ls ls t _ h (omega arith);
      created = λ ls t store class site vs h m g r. no_more ls ls t _ h (omega arith);
      of_name = λ ls t store class site vs h m r. tt;
      downed = λ ls t k site v h p. no_more ls ls t _ h (omega arith);
      put_back = λ ls t u h g k. record { holds = record { few = k.few }; later = tt };
      entered = λ ls t m args h g. no_more ls _ t _ h (omega arith);
      left = λ ls ms t u h g k. record { holds = record { few = k.few }; later = tt };
      moved = λ t k v vs h. tt;
    }

    few_behind : {A : Type 0} (ls : List Kind) (t : State) (P : State → A → Type 0) (r : Run A) → w.Result program tid Spares Has Then Lacks Meets ls t P r → (state_behind r).fuel ≤ limit
    few_behind ls t P _ (on a u n p) = n.holds.few
    few_behind ls t P _ (off e u n p) = n.holds.few

    calls : (depth : ℕ) → w.Calls program tid Spares Has Then Lacks Meets kept (called program tid depth)
    calls depth = w.all_calls program tid Spares Has Then Lacks Meets kept (λ i m e. w.unasked program m) depth

-- from a state, its own fuel is the limit
spares : (t : State) (ls : List Kind) → Spares t.fuel ls t
spares t ls = record { few = omega arith }

module _ (program : Resolved) (tid : Tid) (depth : ℕ) (t : State) where
  pub call_spends : (m : ℕ) (args : List Value) → (state_behind (called program tid depth m args t)).fuel ≤ t.fuel
  call_spends m args =
      few_behind t.fuel program tid [] t _ (called program tid depth m args t)
      (calls t.fuel program tid depth [] t m args (spares t []) (record { count = tt; each = w.each_has program tid (Spares t.fuel) (Has t.fuel) (Then t.fuel) (Lacks t.fuel) (Meets t.fuel) t (λ v. Unit {0}) (λ k v p. tt) (parameter_kinds (slice_get program.methods m)) args (all_any args) }))

  pub block_spends : (xs : List Statement) → (state_behind (block tid (called program tid depth) xs t)).fuel ≤ t.fuel
  block_spends xs =
      few_behind t.fuel program tid [] t _ (block tid (called program tid depth) xs t)
      ((w.blocks program tid (Spares t.fuel) (Has t.fuel) (Then t.fuel) (Lacks t.fuel) (Meets t.fuel) (kept t.fuel program tid) [] (called program tid depth) (calls t.fuel program tid depth) xs (all_any (block_claims program.classes program.methods [] xs))).by t (spares t []))

-- a program without anything, since the value of an expression asks nothing of the program
abbrev nobody : Resolved
nobody = record { nodes = []; pairs = []; labels = []; classes = []; methods = []; roots = []; sessions = []; posts = []; crashes = []; cache = 0; schedule = [] }

pub value_spends : (e : Expression) (t : State) → (state_behind (value e t)).fuel ≤ t.fuel
value_spends e t =
    let tid : Tid = record { worker = 0; boot = 0; number = 0 } in
    few_behind t.fuel nobody tid [] t _ (value e t) ((w.expressions nobody tid (Spares t.fuel) (Has t.fuel) (Then t.fuel) (Lacks t.fuel) (Meets t.fuel) (kept t.fuel nobody tid) [] e).by t (spares t []))
