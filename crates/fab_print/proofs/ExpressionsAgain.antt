-- What is printed for expressions is read again.
use Rattle.std.proofs.Common.{◌≡◌, ℕ, zero, suc, ◌+◌, ◌-◌, ◌<◌, ◌≤◌, Bool, true, false, List, [], ◌∷◌, map, refl, sym, ap, ◌∙◌, subst, arith, pos}
use Rattle.std.specs.Prelude.{if◌then◌else◌, nat_lt}
use Rattle.std.proofs.lemmas.Bool.Decides.{nat_tests}
use Rattle.fab_base.specs.declared.token.Mark.TheVariants as m
use Rattle.fab_base.specs.declared.token.Kind.TheVariants as k
use Rattle.fab_base.specs.declared.token.Token.{Token}
use Rattle.fab_tree.specs.declared.name.Name.{Name}
use Rattle.fab_tree.specs.declared.expression.Level.{Level}
use Rattle.fab_tree.specs.declared.expression.Level.TheVariants as l
use Rattle.fab_tree.specs.declared.expression.Operator.{Operator}
use Rattle.fab_tree.specs.declared.expression.Operator.TheVariants as operators
use Rattle.fab_tree.specs.declared.expression.Comparison.{Comparison}
use Rattle.fab_tree.specs.declared.expression.Comparison.TheVariants as comparisons
use Rattle.fab_tree.specs.declared.expression.Expression.{Expression}
use Rattle.fab_tree.specs.declared.expression.Form.TheVariants as f
use Rattle.fab_tree.specs.declared.expression.Number.{Number}
use Rattle.fab_tree.specs.declared.expression.Number.TheVariants as numbers
use Rattle.fab_tree.specs.declared.expression.Operand.{Operand}
use Rattle.fab_tree.specs.declared.expression.UnaryOperator.{UnaryOperator}
use Rattle.fab_tree.specs.declared.expression.UnaryOperator.TheVariants as unary
use Rattle.fab_tree.specs.Lists.{Is, is, IsName, name, IsNumber, int, IsLeast, least_int, numeral, minus}
use Rattle.fab_tree.specs.Marks.{unary_mark}
use Rattle.fab_tree.specs.Expressions.{expression_at, operand_at, placed, place_of, chain_of, IsComparison, IsOperator, IsChain, IsOthers, IsOperand, IsCompared, IsUnary, IsPrimary, IsExpression, IsArguments}
use Rattle.fab_tree.specs.Expressions as e
use Rattle.fab_tree.specs.Print.{Ink, Inks, ◌>>◌, mark, space, Shown, ShownOperand, at_level, level_of, shown, in_brackets}
use Rattle.fab_tree.specs.Print as print
use Rattle.fab_tree.specs.Unplaced as unplaced
use Rattle.fab_print.proofs.Inks.{Edge, free, word, sign, Clean, Holds, fits, freed, Wells, Printed, Again, tokens, behind_it, well_name, behind_name, few, number_clean}
use Rattle.fab_print.proofs.ListsAgain.{separated_again}
use Rattle.fab_print.proofs.Forms.{beside, shown_at, shown_placed, beside_at, number_shape, null_shape, local_shape, read_shape, unary_shape, chain_shape, compared_shape}
use Rattle.fab_print.proofs.Forms.{stripped_operand, unplaced_at, unplaced_placed, stripped_at, number_stripped, null_stripped, local_stripped, read_stripped, unary_stripped, chain_stripped, compared_stripped}

-- ---- levels

-- the rule of each level
abbrev IsRank : ℕ → List Token → Expression → List Token → Type 0
IsRank zero = IsChain l.Or
IsRank (suc zero) = IsChain l.And
IsRank (suc (suc zero)) = IsCompared
IsRank (suc (suc (suc zero))) = IsChain l.Sum
IsRank (suc (suc (suc (suc zero)))) = IsChain l.Product
IsRank (suc (suc (suc (suc (suc zero))))) = IsUnary
IsRank (suc (suc (suc (suc (suc (suc n)))))) = IsPrimary

one_down : (n : ℕ) (a b : List Token) (t : Expression) → IsRank (suc n) a t b → IsRank n a t b
one_down zero a b t p = e.chain (e.of_or p) e.no_other
one_down (suc zero) a b t p = e.chain (e.of_and p) e.no_other
one_down (suc (suc zero)) a b t p = e.alone p
one_down (suc (suc (suc zero))) a b t p = e.chain (e.of_sum p) e.no_other
one_down (suc (suc (suc (suc zero)))) a b t p = e.chain (e.of_product p) e.no_other
one_down (suc (suc (suc (suc (suc zero))))) a b t p = e.primary p
one_down (suc (suc (suc (suc (suc (suc n)))))) a b t p = p

-- what stands at a level stands at each below it
down : (k r x : ℕ) (a b : List Token) (t : Expression) → x ≡ k + r → IsRank x a t b → IsRank r a t b
down zero r x a b t same p = let g : x ≡ r = omega arith in subst (λ y. IsRank y a t b) g p
down (suc k) r x a b t same p =
    let g : x ≡ suc (k + r) = omega arith in
    down k r (k + r) a b t refl (one_down (k + r) a b t (subst (λ y. IsRank y a t b) g p))

-- only what stands at the highest may touch a sign
abbrev entry : ℕ → Edge
entry (suc (suc (suc (suc (suc (suc n)))))) = sign
entry n = free

entry_free : (n : ℕ) → n < 6 → entry n ≡ free
entry_free zero h = refl
entry_free (suc zero) h = refl
entry_free (suc (suc zero)) h = refl
entry_free (suc (suc (suc zero))) h = refl
entry_free (suc (suc (suc (suc zero)))) h = refl
entry_free (suc (suc (suc (suc (suc zero))))) h = refl
entry_free (suc (suc (suc (suc (suc (suc n)))))) h = absurd (omega arith)

entered : (n : ℕ) (more : List Ink) → n < 6 → Clean free more → Clean (entry n) more
entered n more h c = subst (λ e. Clean e more) (sym (entry_free n h)) c

entry_down : (k r x : ℕ) (more : List Ink) → x ≤ 6 → x ≡ k + r → Clean (entry x) more → Clean (entry r) more
entry_down zero r x more h same c = let g : x ≡ r = omega arith in subst (λ y. Clean (entry y) more) g c
entry_down (suc k) r x more h same c = entered r more (omega arith) (freed (entry x) more c)

fits_bracket : (e : Edge) → Holds (fits e (k.Fixed m.LeftParen))
fits_bracket free = tt
fits_bracket word = tt
fits_bracket sign = tt

-- ---- what is shown of an expression is read at its level

record Bare (t : Expression) (b : List Token) : Type 0 where
  form : Shown
  is_form : shown t ≡ form
  low : form.level ≤ 6
  rest : Wells b
  clean : (more : List Ink) → Clean word more → Clean (entry form.level) (form.inks more)
  again : (n : ℕ) (more : List Ink) → Again (IsRank form.level) unplaced.expression t (tokens n (form.inks more)) (tokens n more)
  steady : shown (unplaced.expression t) ≡ shown t

decided : (r : ℕ) → r ≤ 6 → (t : Expression) (b : List Token) (x : Bare t b) (q : Bool) → nat_lt x.form.level r ≡ q
    → Printed (IsRank r) unplaced.expression (entry r) word (λ y. at_level r (shown y)) t b
decided r h t b x true same =
    let g : at_level r (shown t) ≡ in_brackets x.form.inks =
    ap (at_level r) x.is_form ∙ ap (λ q. if q then in_brackets x.form.inks else x.form.inks) same in
    record {
      rest = x.rest;
      clean = λ more c.
          let bare : Clean free (x.form.inks (mark m.RightParen more)) =
          freed (entry x.form.level) (x.form.inks (mark m.RightParen more)) (x.clean (mark m.RightParen more) (tt, tt, freed word more c)) in
          let shown : Clean (entry r) (in_brackets x.form.inks more) = (fits_bracket (entry r), tt, bare) in
          subst (λ (y : Inks). Clean (entry r) (y more)) (sym g) shown;
      again = λ n more.
          let one = x.again n (mark m.RightParen more) in
          let low : IsChain l.Or (tokens n (x.form.inks (mark m.RightParen more))) one.tree (tokens n (mark m.RightParen more)) =
          down x.form.level 0 x.form.level _ _ _ (omega arith) one.reads in
          let shown : Again (IsRank r) unplaced.expression t (tokens n (in_brackets x.form.inks more)) (tokens n more) =
          record {
            tree = _;
            reads = down (6 - r) r 6 _ _ _ (omega arith) (e.brackets (is refl) low (is refl));
            same = unplaced_placed _ one.tree ∙ one.same;
          } in
          subst (λ (y : Inks). Again (IsRank r) unplaced.expression t (tokens n (y more)) (tokens n more)) (sym g) shown;
      steady = ap (at_level r) x.steady;
    }
decided r h t b x false same =
    let g : at_level r (shown t) ≡ x.form.inks =
    ap (at_level r) x.is_form ∙ ap (λ q. if q then in_brackets x.form.inks else x.form.inks) same in
    let high : r ≤ x.form.level = grind (arith, nat_tests) in
    record {
      rest = x.rest;
      clean = λ more c.
          subst (λ (y : Inks). Clean (entry r) (y more)) (sym g)
          (entry_down (x.form.level - r) r x.form.level (x.form.inks more) x.low (omega arith) (x.clean more c));
      again = λ n more.
          let one = x.again n more in
          let shown : Again (IsRank r) unplaced.expression t (tokens n (x.form.inks more)) (tokens n more) =
          record { tree = one.tree; reads = down (x.form.level - r) r x.form.level _ _ _ (omega arith) one.reads; same = one.same } in
          subst (λ (y : Inks). Again (IsRank r) unplaced.expression t (tokens n (y more)) (tokens n more)) (sym g) shown;
      steady = ap (at_level r) x.steady;
    }

-- at a place for this level and those above it
placed_again : (r : ℕ) → r ≤ 6 → (t : Expression) (b : List Token) → Bare t b
    → Printed (IsRank r) unplaced.expression (entry r) word (λ y. at_level r (shown y)) t b
placed_again r h t b x = decided r h t b x (nat_lt x.form.level r) refl

-- ---- operators

abbrev rank_of : Level → ℕ
rank_of l.Or = 0
rank_of l.And = 1
rank_of l.Sum = 3
rank_of l.Product = 4

rank_low : (x : Level) → rank_of x ≤ 4
rank_low l.Or = omega arith
rank_low l.And = omega arith
rank_low l.Sum = omega arith
rank_low l.Product = omega arith

operator_rank : {x : Level} {a b : List Token} {y : Operator} → IsOperator x a y b → level_of y ≡ rank_of x
operator_rank (e.bar h) = refl
operator_rank (e.ampersand h) = refl
operator_rank (e.plus h) = refl
operator_rank (e.dash h) = refl
operator_rank (e.star h) = refl
operator_rank (e.slash h) = refl

behind_operator : {x : Level} {a b : List Token} {y : Operator} → IsOperator x a y b → Wells a → Wells b
behind_operator (e.bar h) w = behind_it h w
behind_operator (e.ampersand h) w = behind_it h w
behind_operator (e.plus h) w = behind_it h w
behind_operator (e.dash h) w = behind_it h w
behind_operator (e.star h) w = behind_it h w
behind_operator (e.slash h) w = behind_it h w

operand_of : (x : Level) (a b : List Token) (t : Expression) → IsRank (rank_of x + 1) a t b → IsOperand x a t b
operand_of l.Or a b t p = e.of_or p
operand_of l.And a b t p = e.of_and p
operand_of l.Sum a b t p = e.of_sum p
operand_of l.Product a b t p = e.of_product p

chain_at : (x : Level) (a b : List Token) (t : Expression) → IsChain x a t b → IsRank (rank_of x) a t b
chain_at l.Or a b t p = p
chain_at l.And a b t p = p
chain_at l.Sum a b t p = p
chain_at l.Product a b t p = p

operator_clean : (x : Operator) (more : List Ink) → Clean free more → Clean free (print.operator x (space more))
operator_clean operators.Or more c = (tt, tt, (tt, c))
operator_clean operators.And more c = (tt, tt, (tt, c))
operator_clean operators.Add more c = (tt, tt, (tt, c))
operator_clean operators.Subtract more c = (tt, tt, (tt, c))
operator_clean operators.Multiply more c = (tt, tt, (tt, c))
operator_clean operators.Divide more c = (tt, tt, (tt, c))

-- the operator again, and what stands behind it
operator_again : {x : Level} {a b : List Token} {y : Operator} → IsOperator x a y b → (n : ℕ) (more : List Ink) (c d : List Token) (t : Expression) (ts : List Operand)
    → IsOperand x (tokens n more) t c → IsOthers x c ts d → (at : ℕ) × IsOthers x (tokens n (print.operator y more)) (operand_at at y t ∷ ts) d
operator_again (e.bar h) n more c d t ts p q = (_, e.one_other (e.bar (is refl)) p q)
operator_again (e.ampersand h) n more c d t ts p q = (_, e.one_other (e.ampersand (is refl)) p q)
operator_again (e.plus h) n more c d t ts p q = (_, e.one_other (e.plus (is refl)) p q)
operator_again (e.dash h) n more c d t ts p q = (_, e.one_other (e.dash (is refl)) p q)
operator_again (e.star h) n more c d t ts p q = (_, e.one_other (e.star (is refl)) p q)
operator_again (e.slash h) n more c d t ts p q = (_, e.one_other (e.slash (is refl)) p q)

comparison_clean : (x : Comparison) (more : List Ink) → Clean free more → Clean free (print.comparison x (space more))
comparison_clean comparisons.Equal more c = (tt, tt, (tt, c))
comparison_clean comparisons.NotEqual more c = (tt, tt, (tt, c))
comparison_clean comparisons.Less more c = (tt, tt, (tt, c))
comparison_clean comparisons.LessEqual more c = (tt, tt, (tt, c))
comparison_clean comparisons.Greater more c = (tt, tt, (tt, c))
comparison_clean comparisons.GreaterEqual more c = (tt, tt, (tt, c))

behind_comparison : {a b : List Token} {x : Comparison} → IsComparison a x b → Wells a → Wells b
behind_comparison (e.equal h) w = behind_it h w
behind_comparison (e.not_equal h) w = behind_it h w
behind_comparison (e.less h) w = behind_it h w
behind_comparison (e.less_equal h) w = behind_it h w
behind_comparison (e.greater h) w = behind_it h w
behind_comparison (e.greater_equal h) w = behind_it h w

comparison_again : {a b : List Token} {x : Comparison} → IsComparison a x b → (n : ℕ) (more : List Ink) → IsComparison (tokens n (print.comparison x more)) x (tokens n more)
comparison_again (e.equal h) n more = e.equal (is refl)
comparison_again (e.not_equal h) n more = e.not_equal (is refl)
comparison_again (e.less h) n more = e.less (is refl)
comparison_again (e.less_equal h) n more = e.less_equal (is refl)
comparison_again (e.greater h) n more = e.greater (is refl)
comparison_again (e.greater_equal h) n more = e.greater_equal (is refl)

-- ---- chains

record Beside (x : Level) (us : List Operand) (b : List Token) : Type 0 where
  printed : Printed (IsOthers x) (map stripped_operand) word word (λ vs. print.operands (map beside vs)) us b
  still : map beside (map stripped_operand us) ≡ map beside us

one_beside : {x : Level} {a b : List Token} {y : Operator} → IsOperator x a y b → (at : ℕ) (t : Expression) (ts : List Operand) (c d : List Token)
    → Bare t c → Beside x ts d → Beside x (operand_at at y t ∷ ts) d
one_beside {x} {y} o at t ts c d v z =
    let same_rank : level_of y ≡ rank_of x = operator_rank o in
    let low : rank_of x ≤ 4 = rank_low x in
    let one = placed_again (level_of y + 1) (omega arith) t c v in
    let g : print.operands (map beside (operand_at at y t ∷ ts)) ≡ (space >> print.operator y >> space >> at_level (level_of y + 1) (shown t) >> print.operands (map beside ts)) =
    ap (λ w. print.operands (w ∷ map beside ts)) (beside_at at y t) in
    let still : map beside (map stripped_operand (operand_at at y t ∷ ts)) ≡ map beside (operand_at at y t ∷ ts) =
    cc (stripped_at at y t, beside_at at y t, beside_at 0 y (unplaced.expression t), v.steady, z.still) in
    record {
      printed = record {
        rest = z.printed.rest;
        clean = λ more c.
            let inner : Clean free (at_level (level_of y + 1) (shown t) (print.operands (map beside ts) more)) =
            freed (entry (level_of y + 1)) (at_level (level_of y + 1) (shown t) (print.operands (map beside ts) more)) (one.clean _ (z.printed.clean more c)) in
            let shown : Clean word ((space >> print.operator y >> space >> at_level (level_of y + 1) (shown t) >> print.operands (map beside ts)) more) =
            (tt, operator_clean y _ inner) in
            subst (λ (i : Inks). Clean word (i more)) (sym g) shown;
        again = λ n more.
            let p = one.again n (print.operands (map beside ts) more) in
            let q = z.printed.again n more in
            let read = operator_again o n (space (at_level (level_of y + 1) (shown t) (print.operands (map beside ts) more))) _ _ _ _
            (operand_of x _ _ _ (subst (λ r. IsRank (r + 1) (tokens n (at_level (level_of y + 1) (shown t) (print.operands (map beside ts) more))) p.tree (tokens n (print.operands (map beside ts) more))) same_rank p.reads)) q.reads in
            let shown : Again (IsOthers x) (map stripped_operand) (operand_at at y t ∷ ts) (tokens n ((space >> print.operator y >> space >> at_level (level_of y + 1) (shown t) >> print.operands (map beside ts)) more)) (tokens n more) =
            record {
              tree = operand_at read.0 y p.tree ∷ q.tree;
              reads = read.1;
              same = cc (stripped_at at y t, stripped_at read.0 y p.tree, p.same, q.same);
            } in
            subst (λ (i : Inks). Again (IsOthers x) (map stripped_operand) (operand_at at y t ∷ ts) (tokens n (i more)) (tokens n more)) (sym g) shown;
        steady = ap print.operands still;
      };
      still = still;
    }

same_chain : (t : Expression) (us : List Operand) (u : Expression) (vs : List Operand) → unplaced.expression u ≡ unplaced.expression t → map stripped_operand vs ≡ map stripped_operand us
    → unplaced.expression (chain_of u vs) ≡ unplaced.expression (chain_of t us)
same_chain t [] u [] p q = p
same_chain t [] u (v ∷ vs) p q = absurd (cc)
same_chain t (w ∷ us) u [] p q = absurd (cc)
same_chain t (w ∷ us) u (v ∷ vs) p q =
    cc (unplaced_at (place_of t) (f.Chain t (w ∷ us)), unplaced_at (place_of u) (f.Chain u (v ∷ vs)), chain_stripped t (w ∷ us), chain_stripped u (v ∷ vs))

chain_bare : {x : Level} {a c : List Token} {us : List Operand} (t : Expression) (b : List Token) → Bare t b → IsOthers x a us c → Beside x us c → Bare (chain_of t us) c
chain_bare t b v e.no_other z = record { form = v.form; is_form = v.is_form; low = v.low; rest = z.printed.rest; clean = v.clean; again = v.again; steady = v.steady }
chain_bare {x} t b v (e.one_other {u} {x = y} {t = s} {ts} o p q) z =
    let us : List Operand = operand_at u.at y s ∷ ts in
    let level : ℕ = level_of (beside (operand_at u.at y s)).operator in
    let same_rank : level ≡ rank_of x = ap (λ w. level_of w.operator) (beside_at u.at y s) ∙ operator_rank o in
    let low : rank_of x ≤ 4 = rank_low x in
    let one = placed_again (level + 1) (omega arith) t b v in
    record {
      form = print.shown_chain (shown t) (map beside us);
      is_form = shown_at _ _ ∙ chain_shape t us;
      low = omega arith;
      rest = z.printed.rest;
      clean = λ more c.
          entered level (at_level (level + 1) (shown t) (print.operands (map beside us) more)) (omega arith)
          (freed (entry (level + 1)) (at_level (level + 1) (shown t) (print.operands (map beside us) more)) (one.clean _ (z.printed.clean more c)));
      again = λ n more.
          let p = one.again n (print.operands (map beside us) more) in
          let q = z.printed.again n more in
          record {
            tree = chain_of p.tree q.tree;
            reads = subst (λ r. IsRank r (tokens n (at_level (level + 1) (shown t) (print.operands (map beside us) more))) (chain_of p.tree q.tree) (tokens n more)) (sym same_rank)
                (chain_at x _ _ _ (e.chain (operand_of x _ _ _ (subst (λ r. IsRank (r + 1) (tokens n (at_level (level + 1) (shown t) (print.operands (map beside us) more))) p.tree (tokens n (print.operands (map beside us) more))) same_rank p.reads)) q.reads));
            same = same_chain t us p.tree q.tree p.same q.same;
          };
      steady =
          ap shown (unplaced_at _ _ ∙ ap (expression_at 0) (chain_stripped t us)) ∙ shown_at _ _ ∙ chain_shape (unplaced.expression t) (map stripped_operand us)
          ∙ (λ i. print.shown_chain (v.steady i) (z.still i)) ∙ sym (shown_at _ _ ∙ chain_shape t us);
    }

-- ---- the forms

compared_bare : {a c : List Token} (t u : Expression) (x : Comparison) (b d : List Token) → Bare t b → IsComparison a x c → Bare u d → Bare (expression_at (place_of t) (f.Compared t x u)) d
compared_bare t u x b d v o w =
    let left = placed_again 3 (omega arith) t b v in
    let right = placed_again 3 (omega arith) u d w in
    record {
      form = record { level = 2; inks = at_level 3 (shown t) >> space >> print.comparison x >> space >> at_level 3 (shown u) };
      is_form = shown_at _ _ ∙ compared_shape t x u;
      low = omega arith;
      rest = w.rest;
      clean = λ more c. left.clean (space (print.comparison x (space (at_level 3 (shown u) more)))) (tt, comparison_clean x _ (right.clean more c));
      again = λ n more.
          let p = left.again n (space (print.comparison x (space (at_level 3 (shown u) more)))) in
          let q = right.again n more in
          record {
            tree = _;
            reads = e.compared p.reads (comparison_again o n (space (at_level 3 (shown u) more))) q.reads;
            same = cc (unplaced_at (place_of t) (f.Compared t x u), unplaced_at (place_of p.tree) (f.Compared p.tree x q.tree), compared_stripped t x u, compared_stripped p.tree x q.tree, p.same, q.same);
          };
      steady =
          ap shown (unplaced_at _ _ ∙ ap (expression_at 0) (compared_stripped t x u)) ∙ shown_at _ _ ∙ compared_shape (unplaced.expression t) x (unplaced.expression u)
          ∙ (λ i. record { level = 2; inks = at_level 3 (v.steady i) >> space >> print.comparison x >> space >> at_level 3 (w.steady i) })
          ∙ sym (shown_at _ _ ∙ compared_shape t x u);
    }

-- a sign touches only what may stand behind it
sign_clean : (x : UnaryOperator) (more : List Ink) → Clean sign more → Clean free (mark (unary_mark x) more)
sign_clean unary.Negative more c = (tt, tt, c)
sign_clean unary.Not more c = (tt, tt, c)

signed_bare : (at : ℕ) (x : UnaryOperator) (t : Expression) (b : List Token) → Bare t b → Bare (expression_at at (f.Unary x t)) b
signed_bare at x t b v =
    let one = placed_again 6 (omega arith) t b v in
    record {
      form = record { level = 5; inks = mark (unary_mark x) >> at_level 6 (shown t) };
      is_form = shown_at _ _ ∙ unary_shape x t;
      low = omega arith;
      rest = v.rest;
      clean = λ more c. sign_clean x (at_level 6 (shown t) more) (one.clean more c);
      again = λ n more.
          let p = one.again n more in
          record {
            tree = _;
            reads = e.signed {x = x} (is refl) p.reads;
            same = unplaced_at _ (f.Unary x p.tree) ∙ ap (expression_at 0) (unary_stripped x p.tree ∙ ap (f.Unary x) p.same ∙ sym (unary_stripped x t)) ∙ sym (unplaced_at at (f.Unary x t));
          };
      steady =
          ap shown (unplaced_at _ _ ∙ ap (expression_at 0) (unary_stripped x t)) ∙ shown_at _ _ ∙ unary_shape x (unplaced.expression t)
          ∙ (λ i. record { level = 5; inks = mark (unary_mark x) >> at_level 6 (v.steady i) }) ∙ sym (shown_at _ _ ∙ unary_shape x t);
    }

least_bare : (at : ℕ) {a b : List Token} {n : Number} → IsLeast a n b → Wells a → Bare (expression_at at (f.Number n)) b
least_bare at (least_int h) w =
    let n : Number = numbers.Int (minus 2147483648) in
    record {
      form = print.shown_number n;
      is_form = shown_at _ _ ∙ number_shape n;
      low = omega arith;
      rest = w.1;
      clean = λ more c. (tt, tt, (tt, tt, c));
      again = λ n0 more. record {
        tree = _;
        reads = e.least (is refl) (least_int refl);
        same = unplaced_at _ (f.Number n) ∙ sym (unplaced_at at (f.Number n));
      };
      steady = ap shown (unplaced_at _ _ ∙ ap (expression_at 0) (number_stripped n)) ∙ shown_at _ _ ∙ sym (shown_at _ _);
    }

number_bare : (at : ℕ) {a b : List Token} {n : Number} → IsNumber a n b → Wells a → Bare (expression_at at (f.Number n)) b
number_bare at (int (numeral {n} i h)) w =
    let z : Number = numbers.Int (pos n) in
    record {
      form = print.shown_number z;
      is_form = shown_at _ _ ∙ number_shape z;
      low = omega arith;
      rest = w.1;
      clean = λ more c. number_clean sign more n h tt c;
      again = λ n0 more. record {
        tree = _;
        reads = e.number (int (numeral (few n h) h));
        same = unplaced_at _ (f.Number z) ∙ sym (unplaced_at at (f.Number z));
      };
      steady = ap shown (unplaced_at _ _ ∙ ap (expression_at 0) (number_stripped z)) ∙ shown_at _ _ ∙ sym (shown_at _ _);
    }

null_bare : (at : ℕ) (b : List Token) → Wells b → Bare (expression_at at f.Null) b
null_bare at b w = record {
  form = record { level = 6; inks = mark m.Null };
  is_form = shown_at _ _ ∙ null_shape;
  low = omega arith;
  rest = w;
  clean = λ more c. (tt, tt, c);
  again = λ n more. record { tree = _; reads = e.null (is refl); same = unplaced_at _ f.Null ∙ sym (unplaced_at at f.Null) };
  steady = ap shown (unplaced_at _ _ ∙ ap (expression_at 0) null_stripped) ∙ shown_at _ _ ∙ sym (shown_at _ _);
}

local_bare : {a b : List Token} {x : Name} → IsName a x b → Wells a → Bare (expression_at x.at (f.Local x)) b
local_bare {x} p w = record {
  form = record { level = 6; inks = print.name x };
  is_form = shown_at _ _ ∙ local_shape x;
  low = omega arith;
  rest = behind_name p w;
  clean = λ more c. (tt, well_name p w, c);
  again = λ n more. record {
    tree = _;
    reads = e.local (name refl);
    same = unplaced_at _ (f.Local _) ∙ ap (expression_at 0) (local_stripped _ ∙ sym (local_stripped x)) ∙ sym (unplaced_at x.at (f.Local x));
  };
  steady = ap shown (unplaced_at _ _ ∙ ap (expression_at 0) (local_stripped x)) ∙ shown_at _ _ ∙ local_shape (unplaced.name x) ∙ sym (shown_at _ _ ∙ local_shape x);
}

read_bare : {a b c d : List Token} {x y : Name} → IsName a x b → Is m.Dot b c → IsName c y d → Wells a → Bare (expression_at x.at (f.Read x y)) d
read_bare {x} {y} p h q w = record {
  form = record { level = 6; inks = print.name x >> mark m.Dot >> print.name y };
  is_form = shown_at _ _ ∙ read_shape x y;
  low = omega arith;
  rest = behind_name q (behind_it h (behind_name p w));
  clean = λ more c. (tt, well_name p w, (tt, tt, (tt, well_name q (behind_it h (behind_name p w)), c)));
  again = λ n more. record {
    tree = _;
    reads = e.read (name refl) (is refl) (name refl);
    same = unplaced_at _ (f.Read _ _) ∙ ap (expression_at 0) (read_stripped _ _ ∙ sym (read_stripped x y)) ∙ sym (unplaced_at x.at (f.Read x y));
  };
  steady =
      ap shown (unplaced_at _ _ ∙ ap (expression_at 0) (read_stripped x y)) ∙ shown_at _ _ ∙ read_shape (unplaced.name x) (unplaced.name y)
      ∙ sym (shown_at _ _ ∙ read_shape x y);
}

brackets_bare : (at : ℕ) (t : Expression) {b c : List Token} → Is m.RightParen b c → Bare t b → Bare (placed at t) c
brackets_bare at t h v = record {
  form = v.form;
  is_form = shown_placed at t ∙ v.is_form;
  low = v.low;
  rest = behind_it h v.rest;
  clean = v.clean;
  again = λ n more.
      let one = v.again n more in
      record { tree = one.tree; reads = one.reads; same = one.same ∙ sym (unplaced_placed at t) };
  steady = ap shown (unplaced_placed at t) ∙ v.steady ∙ sym (shown_placed at t);
}

-- ---- the rules

mutual
  bare_chain : {x : Level} {a b : List Token} {t : Expression} → IsChain x a t b → Wells a → Bare t b
  bare_chain (e.chain {b = b} {t = t} p q) w =
      let v = bare_operand p w in
      chain_bare t b v q (bare_others q v.rest)

  bare_others : {x : Level} {a b : List Token} {us : List Operand} → IsOthers x a us b → Wells a → Beside x us b
  bare_others e.no_other w = record {
    printed = record { rest = w; clean = λ more c. c; again = λ n more. record { tree = []; reads = e.no_other; same = refl }; steady = refl };
    still = refl;
  }
  bare_others (e.one_other {u} {c = c} {d = d} {t = t} {ts} o p q) w =
      let v = bare_operand p (behind_operator o w) in
      one_beside o u.at t ts c d v (bare_others q v.rest)

  bare_operand : {x : Level} {a b : List Token} {t : Expression} → IsOperand x a t b → Wells a → Bare t b
  bare_operand (e.of_or p) w = bare_chain p w
  bare_operand (e.of_and p) w = bare_compared p w
  bare_operand (e.of_sum p) w = bare_chain p w
  bare_operand (e.of_product p) w = bare_unary p w

  bare_compared : {a b : List Token} {t : Expression} → IsCompared a t b → Wells a → Bare t b
  bare_compared (e.alone p) w = bare_chain p w
  bare_compared (e.compared {b = b} {d = d} {t = t} {u = u} {x = x} p o q) w =
      let left = bare_chain p w in
      let right = bare_chain q (behind_comparison o left.rest) in
      compared_bare t u x b d left o right

  bare_unary : {a b : List Token} {t : Expression} → IsUnary a t b → Wells a → Bare t b
  bare_unary (e.primary p) w = bare_primary p w
  bare_unary (e.signed {u} {x = x} {t = t} h p) w = signed_bare u.at x t _ (bare_primary p (behind_it h w))
  bare_unary (e.least {u} h p) w = least_bare u.at p (behind_it h w)

  bare_primary : {a b : List Token} {t : Expression} → IsPrimary a t b → Wells a → Bare t b
  bare_primary (e.number {u} p) w = number_bare u.at p w
  bare_primary (e.null {u} h) w = null_bare u.at _ (behind_it h w)
  bare_primary (e.local p) w = local_bare p w
  bare_primary (e.read p h q) w = read_bare p h q w
  bare_primary (e.brackets {u} {t = t} h p i) w = brackets_bare u.at t i (bare_chain p (behind_it h w))

pub expression_again : (a b : List Token) (x : Expression) → IsExpression a x b → Wells a → Printed IsExpression unplaced.expression free word print.expression x b
expression_again a b x p w = placed_again 0 (omega arith) x b (bare_chain p w)

pub arguments_again : {a b : List Token} {xs : List Expression} → IsArguments a xs b → Wells a
    → Printed IsArguments unplaced.expressions free word (λ ys. print.separated m.Comma (map print.expression ys)) xs b
arguments_again p w = separated_again m.Comma tt expression_again p w
