-- Blocks and loops, one step more.
use Rattle.std.proofs.Common.{◌≡◌, ℕ, zero, suc, ◌+◌, ◌<◌, ◌≤◌, true, List, drop, length, get_or, Option, refl, sym, ap, ◌∙◌, arith, add-one, drop-cons}
use Rattle.fab_base.specs.declared.object.Tid.{Tid}
use Rattle.fab_base.specs.declared.object.Value.{Value}
use Rattle.fab_base.specs.declared.object.Stop.TheVariants.{Fuel}
use Rattle.fab_tree.specs.declared.resolved.Expression.{Expression}
use Rattle.fab_tree.specs.declared.resolved.Statement.{Statement, fold-roll-Statement}
use Rattle.fab_tree.specs.declared.resolved.Statement.TheVariants as statements
use Rattle.fab_tree.specs.declared.resolved.Statement.TheOpen as s
use Rattle.fab_language.specs.Meaning.{State, Run, goes, ends, stopped, M, and_then, charge, holds, value, turns, statement, statement_step, block}
use Rattle.fab_values.specs.Pieces.{choice}

-- ---- blocks

-- a block from one of its statements on
pub next_statement : (tid : Tid) (call : ℕ → List Value → M (Option Value)) (ss : List Statement) (i : ℕ) (x : Statement) (p : State) → i < length ss → x ≡ get_or ss i x → block tid call (drop i ss) p ≡ and_then (statement tid call x p) (λ _. block tid call (drop (i + 1) ss))
next_statement tid call ss i x p le e = rw (add-one, drop-cons ss i x) (ap (λ (y : Statement). and_then (statement tid call y p) (λ _. block tid call (drop (suc i) ss))) (sym e))

-- a statement went on
pub block_goes_on : (tid : Tid) (call : ℕ → List Value → M (Option Value)) (ss : List Statement) (i : ℕ) (x : Statement) (p q : State) (all : Run (Unit {0})) → i < length ss → x ≡ get_or ss i x → statement tid call x p ≡ goes tt q → block tid call (drop i ss) p ≡ all → block tid call (drop (i + 1) ss) q ≡ all
block_goes_on tid call ss i x p q all le e g same = sym (next_statement tid call ss i x p le e ∙ rw g refl) ∙ same

-- ---- choices

pub if_means : (tid : Tid) (call : ℕ → List Value → M (Option Value)) (e : Expression) (body otherwise : List Statement) → statement tid call (statements.If e body otherwise) ≡ choice (value e) (block tid call body) (block tid call otherwise)
if_means tid call e body otherwise = ap (statement tid call) (sym (statements.rolls-If e body otherwise)) ∙ fold-roll-Statement (M (Unit {0})) (statement_step tid call) (s.If e body otherwise)

-- ---- loops

pub charge_none : (p : State) → p.fuel ≡ 0 → charge p ≡ ends (stopped Fuel) p
charge_none p e = rw e refl

pub turns_on : (n : ℕ) (test : M Value) (body : M (Unit {0})) (p q r : State) (v : Value) → charge p ≡ goes tt q → test q ≡ goes v r → holds v ≡ true → turns (suc n) test body p ≡ and_then (body r) (λ _. turns n test body)
turns_on n test body p q r v e1 e2 e3 = rw (e1, e2, e3) refl

-- one turn, in the loop's invariant
pub turns_next : (n : ℕ) (test : M Value) (body : M (Unit {0})) (p q r z : State) (v : Value) (all : Run (Unit {0})) → p.fuel ≤ n → z.fuel < p.fuel → charge p ≡ goes tt q → test q ≡ goes v r → holds v ≡ true → body r ≡ goes tt z → turns n test body p ≡ all → (k : ℕ) × (z.fuel ≤ k) × (turns k test body z ≡ all)
turns_next zero test body p q r z v all le lt e1 e2 e3 e4 same = absurd (omega arith)
turns_next (suc n) test body p q r z v all le lt e1 e2 e3 e4 same = (n, omega arith, sym (turns_on n test body p q r v e1 e2 e3 ∙ rw e4 refl) ∙ same)
