-- What a walk through statements finds, from what it finds in their parts.
use Rattle.std.proofs.Common.{◌≡◌, ℕ, sym, ap, ◌∙◌, ◌≤◌, ◌<◌, ◌+◌, suc, arith, get_or, drop, drop-cons, List, [], ◌∷◌, ◌++◌, map, take, length, Option, Some, None}
use Rattle.std.proofs.lemmas.List.{take-take, length-take}
use Rattle.std.proofs.lemmas.List.Concat.{flat_map-append}
use Rattle.fab_tree.specs.declared.name.Name.{Name}
use Rattle.fab_tree.specs.declared.expression.Expression.{Expression}
use Rattle.fab_tree.specs.declared.statement.Statement.{Statement, fold-roll-Statement}
use Rattle.fab_tree.specs.declared.statement.Statement.TheOpen as s
use Rattle.fab_tree.specs.declared.statement.Statement.TheVariants as forms
use Rattle.fab_tree.specs.declared.program.Method.{Method}
use Rattle.fab_tree.specs.declared.program.Return.{Return}
use Rattle.fab_language.specs.declared.rule.Fault.{Fault}
use Rattle.fab_language.specs.Heads.{Locals, Head, Walk, test, atomic, result, walk, walk_step, in_block, heads_in, heads_of, result_heads}
use Rattle.fab_rules.specs.First.{first_from}
use Rattle.fab_rules.proofs.Firsts.{in_parts}
use Rattle.fab_faults.specs.HeadFaults.{Says, among}

pub among_both : (says : Says) (first : Option Fault) (xs ys : List (Locals × Head)) → first_from first (among says (xs ++ ys)) ≡ first_from (first_from first (among says xs)) (among says ys)
among_both says first xs ys = ap (first_from first) (flat_map-append (λ h. says h.0 h.1) xs ys) ∙ in_parts first (among says xs) (among says ys)

pub among_first : (says : Says) (first : Option Fault) (known : Locals) (h : Head) (xs : List (Locals × Head)) → first_from first (among says ((known, h) ∷ xs)) ≡ first_from (first_from first (says known h)) (among says xs)
among_first says first known h xs = in_parts first (says known h) (among says xs)

-- a test, a block and another
pub tested : (says : Says) (first : Option Fault) (known : Locals) (h : Head) (xs ys : List (Locals × Head)) → first_from first (among says ((known, h) ∷ xs ++ ys)) ≡ first_from (first_from (first_from first (says known h)) (among says xs)) (among says ys)
tested says first known h xs ys = among_both says first ((known, h) ∷ xs) ys ∙ ap (λ f. first_from f (among says ys)) (among_first says first known h xs)

abbrev found : Says → Option Fault → Locals → Statement → Option Fault
found says first known x = first_from first (among says (walk x known).heads)

abbrev found_in : Says → Option Fault → Locals → List Statement → Option Fault
found_in says first known xs = first_from first (among says (heads_in xs known).heads)

module _ (says : Says) (first : Option Fault) (known : Locals) where
  pub found_if_alone : (e : Expression) (block : List Statement) → found says first known (forms.If e block None) ≡ found_in says (first_from first (says known (test e))) known block
  found_if_alone e block =
      ap (found says first known) (sym (forms.rolls-If e block None))
      ∙ ap (λ w. first_from first (among says (w known).heads)) (fold-roll-Statement Walk walk_step (s.If e block None))
      ∙ tested says first known (test e) (in_block (map walk block) known) []

  pub found_if_else : (e : Expression) (block other : List Statement) → found says first known (forms.If e block (Some other)) ≡ found_in says (found_in says (first_from first (says known (test e))) known block) known other
  found_if_else e block other =
      ap (found says first known) (sym (forms.rolls-If e block (Some other)))
      ∙ ap (λ w. first_from first (among says (w known).heads)) (fold-roll-Statement Walk walk_step (s.If e block (Some other)))
      ∙ tested says first known (test e) (in_block (map walk block) known) (in_block (map walk other) known)

  pub found_while : (e : Expression) (block : List Statement) → found says first known (forms.While e block) ≡ found_in says (first_from first (says known (test e))) known block
  found_while e block =
      ap (found says first known) (sym (forms.rolls-While e block))
      ∙ ap (λ w. first_from first (among says (w known).heads)) (fold-roll-Statement Walk walk_step (s.While e block))
      ∙ among_first says first known (test e) (in_block (map walk block) known)

  pub found_atomic : (x : Name) (block other : List Statement) (at : ℕ) → found says first known (forms.Atomic x block other at) ≡ found_in says (found_in says (first_from first (says known (atomic x))) known block) known other
  found_atomic x block other at =
      ap (found says first known) (sym (forms.rolls-Atomic x block other at))
      ∙ ap (λ w. first_from first (among says (w known).heads)) (fold-roll-Statement Walk walk_step (s.Atomic x block other at))
      ∙ tested says first known (atomic x) (in_block (map walk block) known) (in_block (map walk other) known)

  pub found_next : (x : Statement) (xs : List Statement) → found_in says first known (x ∷ xs) ≡ found_in says (found says first known x) (walk x known).behind xs
  found_next x xs = among_both says first (walk x known).heads (heads_in xs (walk x known).behind).heads

pub kept_further : (a b c : Locals) → take (length a) b ≡ a → take (length b) c ≡ b → take (length a) c ≡ a
kept_further a b c p q =
    let short : length a ≤ length b = let m = sym (length-take (length a) b) ∙ ap length p in omega (arith, m) in
    sym (take-take (length a) (length b) c short) ∙ ap (take (length a)) q ∙ p

pub next_left : {A : Type 0} (xs : List A) (i : ℕ) (x : A) → i < length xs → x ≡ get_or xs i x → drop i xs ≡ x ∷ drop (i + 1) xs
next_left xs i x within is =
    let one : suc i ≡ i + 1 = omega arith in
    drop-cons xs i x within ∙ ap (λ d. d ∷ drop (suc i) xs) (sym is) ∙ ap (λ n. x ∷ drop n xs) one

-- a method with a result
pub found_with_result : (says : Says) (first : Option Fault) (m : Method) (y : Return) → m.result ≡ Some y → first_from first (among says (heads_of m)) ≡ first_from (found_in says first m.parameters m.body) (says (heads_in m.body m.parameters).behind (result y))
found_with_result says first m y is =
    let body = heads_in m.body m.parameters in
    ap (λ r. first_from first (among says (body.heads ++ result_heads r body.behind))) is
    ∙ among_both says first body.heads ((body.behind, result y) ∷ [])
    ∙ among_first says (first_from first (among says body.heads)) body.behind (result y) []
