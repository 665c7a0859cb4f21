-- What is printed for statements is read again.
use Rattle.std.proofs.Common.{◌≡◌, ℕ, ◌+◌, List, [], ◌∷◌, map, refl, sym, ap, ◌∙◌, subst, Option, Some, None}
use Rattle.std.specs.Prelude.{option_map}
use Rattle.fab_base.specs.declared.object.Width.TheVariants as widths
use Rattle.fab_base.specs.declared.token.Mark.TheVariants as m
use Rattle.fab_base.specs.declared.token.Token.{Token}
use Rattle.fab_tree.specs.declared.name.Name.{Name}
use Rattle.fab_tree.specs.declared.declaration.Sort.{Sort}
use Rattle.fab_tree.specs.declared.declaration.Sort.TheVariants as sorts
use Rattle.fab_tree.specs.declared.expression.Expression.{Expression}
use Rattle.fab_tree.specs.declared.statement.Downgrade.TheVariants as downgrades
use Rattle.fab_tree.specs.declared.statement.Right.{Right}
use Rattle.fab_tree.specs.declared.statement.Right.TheVariants as rights
use Rattle.fab_tree.specs.declared.statement.Statement.{Statement, roll-Statement, map-Statement, fold-roll-Statement}
use Rattle.fab_tree.specs.declared.statement.Statement.TheVariants as s
use Rattle.fab_tree.specs.declared.statement.Statement.TheOpen as o
use Rattle.fab_tree.specs.Lists.{Is, is, IsName, name}
use Rattle.fab_tree.specs.Declarations as d
use Rattle.fab_tree.specs.Expressions.{IsExpression, IsArguments}
use Rattle.fab_tree.specs.Statements.{IsDowngrade, IsRight, IsStatement, IsOtherwise, IsBlock, IsStatements}
use Rattle.fab_tree.specs.Statements as t
use Rattle.fab_tree.specs.Print.{Ink, Inks, ◌>>◌, mark, space, line, indent, line_end, in_brackets}
use Rattle.fab_tree.specs.Print as print
use Rattle.fab_tree.specs.Unplaced as unplaced
use Rattle.fab_print.proofs.Inks.{free, word, Clean, Wells, Printed, Again, tokens, freed, behind_it, well_name, behind_name, indent_clean}
use Rattle.fab_print.proofs.ExpressionsAgain.{expression_again, arguments_again}

-- ---- right sides

pub right_again : {a b : List Token} {x : Right} → IsRight a x b → Wells a → Printed IsRight unplaced.right free word print.right x b
right_again (t.plain p) w =
    let one = expression_again _ _ _ p w in
    record {
      rest = one.rest;
      clean = one.clean;
      again = λ n more.
          let two = one.again n more in
          record { tree = _; reads = t.plain two.reads; same = ap rights.Plain two.same };
      steady = one.steady;
    }
right_again (t.call {x = x} p h q i) w =
    let values = arguments_again q (behind_it h (behind_name p w)) in
    record {
      rest = behind_it i values.rest;
      clean = λ more c. (tt, well_name p w, (tt, tt, values.clean _ (tt, tt, freed word more c)));
      again = λ n more.
          let one = values.again n _ in
          record { tree = _; reads = t.call (name refl) (is refl) one.reads (is refl); same = ap (rights.Call (unplaced.name x)) one.same };
      steady = λ i. print.name x >> in_brackets (values.steady i);
    }
right_again (t.new {x = x} {y = y} h p i q j r k) w =
    let w1 = behind_it h w in
    let w2 = behind_it i (behind_name p w1) in
    let values = arguments_again r (behind_it j (behind_name q w2)) in
    record {
      rest = behind_it k values.rest;
      clean = λ more c. (tt, tt, (tt, (tt, well_name p w1, (tt, (tt, tt, (tt, (tt, well_name q w2, (tt, (tt, tt, values.clean _ (tt, tt, freed word more c))))))))));
      again = λ n more.
          let one = values.again n _ in
          record {
            tree = _;
            reads = t.new (is refl) (name refl) (is refl) (name refl) (is refl) one.reads (is refl);
            same = λ i. rights.New (unplaced.name x) (unplaced.name y) (one.same i) 0;
          };
      steady = λ i. mark m.New >> space >> print.name x >> space >> mark m.At >> space >> print.name y >> space >> in_brackets (values.steady i);
    }
right_again (t.downgrade {t = e} {x = x} {y = y} (t.declassify h) i p j q k r l) w =
    let w1 = behind_it i (behind_it h w) in
    let one = expression_again _ _ _ p w1 in
    let w2 = behind_it j one.rest in
    let w3 = behind_it k (behind_name q w2) in
    record {
      rest = behind_it l (behind_name r w3);
      clean = λ more c. (tt, tt, (tt, tt, one.clean _ ((tt, tt, (tt, (tt, well_name q w2, (tt, (tt, tt, (tt, (tt, well_name r w3, (tt, tt, freed word more c)))))))))));
      again = λ n more.
          let two = one.again n _ in
          record {
            tree = _;
            reads = t.downgrade (t.declassify (is refl)) (is refl) two.reads (is refl) (name refl) (is refl) (name refl) (is refl);
            same = λ i. rights.Downgrade downgrades.Declassify (two.same i) (unplaced.name x) (unplaced.name y) 0;
          };
      steady = λ i.
          mark m.Declassify >> mark m.LeftParen >> one.steady i >> mark m.Comma >> space >> print.name x >> space
          >> mark m.To >> space >> print.name y >> mark m.RightParen;
    }
right_again (t.downgrade {t = e} {x = x} {y = y} (t.endorse h) i p j q k r l) w =
    let w1 = behind_it i (behind_it h w) in
    let one = expression_again _ _ _ p w1 in
    let w2 = behind_it j one.rest in
    let w3 = behind_it k (behind_name q w2) in
    record {
      rest = behind_it l (behind_name r w3);
      clean = λ more c. (tt, tt, (tt, tt, one.clean _ ((tt, tt, (tt, (tt, well_name q w2, (tt, (tt, tt, (tt, (tt, well_name r w3, (tt, tt, freed word more c)))))))))));
      again = λ n more.
          let two = one.again n _ in
          record {
            tree = _;
            reads = t.downgrade (t.endorse (is refl)) (is refl) two.reads (is refl) (name refl) (is refl) (name refl) (is refl);
            same = λ i. rights.Downgrade downgrades.Endorse (two.same i) (unplaced.name x) (unplaced.name y) 0;
          };
      steady = λ i.
          mark m.Endorse >> mark m.LeftParen >> one.steady i >> mark m.Comma >> space >> print.name x >> space
          >> mark m.To >> space >> print.name y >> mark m.RightParen;
    }

-- ---- forms

shown_of : (e : o.Statement-F Statement) (x : Statement) → roll-Statement e ≡ x → print.statement x ≡ print.statement_step (map-Statement Statement (ℕ → Inks) print.statement e)
shown_of e x h = ap print.statement (sym h) ∙ fold-roll-Statement (ℕ → Inks) print.statement_step e

unplaced_of : (e : o.Statement-F Statement) (x : Statement) → roll-Statement e ≡ x → unplaced.statement x ≡ unplaced.statement_step (map-Statement Statement Statement unplaced.statement e)
unplaced_of e x h = ap unplaced.statement (sym h) ∙ fold-roll-Statement Statement unplaced.statement_step e

declare_shown : (x : Sort) (y z : Name) (e : Expression) (at : ℕ) → print.statement (s.Declare x y z e at) ≡ print.statement_step (o.Declare x y z e at)
declare_shown x y z e at = shown_of (o.Declare x y z e at) _ (s.rolls-Declare x y z e at)

declare_unplaced : (x : Sort) (y z : Name) (e : Expression) (at : ℕ)
    → unplaced.statement (s.Declare x y z e at) ≡ s.Declare (unplaced.sort x) (unplaced.name y) (unplaced.name z) (unplaced.expression e) 0
declare_unplaced x y z e at = unplaced_of (o.Declare x y z e at) _ (s.rolls-Declare x y z e at)

assign_shown : (x : Name) (y : Right) → print.statement (s.Assign x y) ≡ print.statement_step (o.Assign x y)
assign_shown x y = shown_of (o.Assign x y) _ (s.rolls-Assign x y)

assign_unplaced : (x : Name) (y : Right) → unplaced.statement (s.Assign x y) ≡ s.Assign (unplaced.name x) (unplaced.right y)
assign_unplaced x y = unplaced_of (o.Assign x y) _ (s.rolls-Assign x y)

pub write_shown : (x y : Name) (e : Expression) → print.statement (s.Write x y e) ≡ print.statement_step (o.Write x y e)
write_shown x y e = shown_of (o.Write x y e) _ (s.rolls-Write x y e)

write_unplaced : (x y : Name) (e : Expression) → unplaced.statement (s.Write x y e) ≡ s.Write (unplaced.name x) (unplaced.name y) (unplaced.expression e)
write_unplaced x y e = unplaced_of (o.Write x y e) _ (s.rolls-Write x y e)

call_shown : (x : Name) (es : List Expression) → print.statement (s.Call x es) ≡ print.statement_step (o.Call x es)
call_shown x es = shown_of (o.Call x es) _ (s.rolls-Call x es)

call_unplaced : (x : Name) (es : List Expression) → unplaced.statement (s.Call x es) ≡ s.Call (unplaced.name x) (unplaced.expressions es)
call_unplaced x es = unplaced_of (o.Call x es) _ (s.rolls-Call x es)

pub if_shown : (e : Expression) (us : List Statement) (ws : Option (List Statement))
    → print.statement (s.If e us ws) ≡ print.statement_step (o.If e (map print.statement us) (option_map (map print.statement) ws))
if_shown e us None = shown_of (o.If e us None) _ (s.rolls-If e us None)
if_shown e us (Some ws) = shown_of (o.If e us (Some ws)) _ (s.rolls-If e us (Some ws))

if_unplaced : (e : Expression) (us : List Statement) (ws : Option (List Statement))
    → unplaced.statement (s.If e us ws) ≡ s.If (unplaced.expression e) (map unplaced.statement us) (option_map (map unplaced.statement) ws)
if_unplaced e us None = unplaced_of (o.If e us None) _ (s.rolls-If e us None)
if_unplaced e us (Some ws) = unplaced_of (o.If e us (Some ws)) _ (s.rolls-If e us (Some ws))

while_shown : (e : Expression) (us : List Statement) → print.statement (s.While e us) ≡ print.statement_step (o.While e (map print.statement us))
while_shown e us = shown_of (o.While e us) _ (s.rolls-While e us)

while_unplaced : (e : Expression) (us : List Statement) → unplaced.statement (s.While e us) ≡ s.While (unplaced.expression e) (map unplaced.statement us)
while_unplaced e us = unplaced_of (o.While e us) _ (s.rolls-While e us)

atomic_shown : (x : Name) (us ws : List Statement) (at : ℕ)
    → print.statement (s.Atomic x us ws at) ≡ print.statement_step (o.Atomic x (map print.statement us) (map print.statement ws) at)
atomic_shown x us ws at = shown_of (o.Atomic x us ws at) _ (s.rolls-Atomic x us ws at)

atomic_unplaced : (x : Name) (us ws : List Statement) (at : ℕ)
    → unplaced.statement (s.Atomic x us ws at) ≡ s.Atomic (unplaced.name x) (map unplaced.statement us) (map unplaced.statement ws) 0
atomic_unplaced x us ws at = unplaced_of (o.Atomic x us ws at) _ (s.rolls-Atomic x us ws at)

fail_shown : (at : ℕ) → print.statement (s.Fail at) ≡ print.statement_step (o.Fail at)
fail_shown at = shown_of (o.Fail at) _ (s.rolls-Fail at)

fail_unplaced : (at : ℕ) → unplaced.statement (s.Fail at) ≡ s.Fail 0
fail_unplaced at = unplaced_of (o.Fail at) _ (s.rolls-Fail at)

-- ---- statements

-- A statement of a form that is shown so at each level, and its form without places.
record Stated (u : Statement) (b : List Token) : Type 0 where
  shown : ℕ → Inks
  is_shown : print.statement u ≡ shown
  rest : Wells b
  clean : (at : ℕ) (more : List Ink) → Clean free more → Clean free (shown at more)
  again : (at n : ℕ) (more : List Ink) → Again IsStatement unplaced.statement u (tokens n (shown at more)) (tokens n more)
  steady : print.statement (unplaced.statement u) ≡ shown

stated_again : (u : Statement) (b : List Token) → Stated u b → (at : ℕ) → Printed IsStatement unplaced.statement free free (λ y. print.statement y at) u b
stated_again u b x at = record {
  rest = x.rest;
  clean = λ more c. subst (λ (f : ℕ → Inks). Clean free (f at more)) (sym x.is_shown) (x.clean at more c);
  again = λ n more.
      subst (λ (f : ℕ → Inks). Again IsStatement unplaced.statement u (tokens n (f at more)) (tokens n more)) (sym x.is_shown) (x.again at n more);
  steady = ap (λ f. f at) (x.steady ∙ sym x.is_shown);
}

abbrev Blocks : List Statement → List Token → Type 0
Blocks us b = (at : ℕ) → Printed IsBlock (map unplaced.statement) free free (λ ys. print.block at (map print.statement ys)) us b

int_stated : {a b c d f g h i : List Token} {y z : Name} {e : Expression} (place : ℕ)
    → Is m.Int a b → IsName b y c → Is m.Colon c d → IsName d z f → Is m.Equal f g → IsExpression g e h → Is m.Semicolon h i → Wells a
    → Stated (s.Declare (sorts.Number widths.Int) y z e place) i
int_stated {y} {z} {e} place h p i q j r k w =
    let w1 = behind_it h w in
    let w2 = behind_it i (behind_name p w1) in
    let one = expression_again _ _ _ r (behind_it j (behind_name q w2)) in
    record {
      shown = print.statement_step (o.Declare (sorts.Number widths.Int) y z e place);
      is_shown = declare_shown (sorts.Number widths.Int) y z e place;
      rest = behind_it k one.rest;
      clean = λ at more c. indent_clean at _ (tt, tt, (tt, (tt, well_name p w1, (tt, (tt, tt, (tt, (tt, well_name q w2, (tt, (tt, tt, (tt, one.clean _ (tt, tt, (tt, c))))))))))));
      again = λ at n more.
          let two = one.again n _ in
          record {
            tree = _;
            reads = t.declare (d.number {w = widths.Int} (is refl)) (name refl) (is refl) (name refl) (is refl) two.reads (is refl);
            same = declare_unplaced _ _ _ two.tree _ ∙ (λ i. s.Declare (sorts.Number widths.Int) (unplaced.name y) (unplaced.name z) (two.same i) 0) ∙ sym (declare_unplaced (sorts.Number widths.Int) y z e place);
          };
      steady =
          ap print.statement (declare_unplaced (sorts.Number widths.Int) y z e place) ∙ declare_shown (sorts.Number widths.Int) (unplaced.name y) (unplaced.name z) (unplaced.expression e) 0
          ∙ (λ i at. line at (mark m.Int >> space >> print.name y >> space >> mark m.Colon >> space >> print.name z >> space
          >> mark m.Equal >> space >> one.steady i >> mark m.Semicolon));
    }

class_stated : {a b c d f g h i : List Token} {x y z : Name} {e : Expression} (place : ℕ)
    → IsName a x b → IsName b y c → Is m.Colon c d → IsName d z f → Is m.Equal f g → IsExpression g e h → Is m.Semicolon h i → Wells a
    → Stated (s.Declare (sorts.Class x) y z e place) i
class_stated {x} {y} {z} {e} place h p i q j r k w =
    let w1 = behind_name h w in
    let w2 = behind_it i (behind_name p w1) in
    let one = expression_again _ _ _ r (behind_it j (behind_name q w2)) in
    record {
      shown = print.statement_step (o.Declare (sorts.Class x) y z e place);
      is_shown = declare_shown (sorts.Class x) y z e place;
      rest = behind_it k one.rest;
      clean = λ at more c. indent_clean at _ (tt, well_name h w, (tt, (tt, well_name p w1, (tt, (tt, tt, (tt, (tt, well_name q w2, (tt, (tt, tt, (tt, one.clean _ (tt, tt, (tt, c))))))))))));
      again = λ at n more.
          let two = one.again n _ in
          record {
            tree = _;
            reads = t.declare (d.class (name refl)) (name refl) (is refl) (name refl) (is refl) two.reads (is refl);
            same = declare_unplaced _ _ _ two.tree _ ∙ (λ i. s.Declare (sorts.Class (unplaced.name x)) (unplaced.name y) (unplaced.name z) (two.same i) 0) ∙ sym (declare_unplaced (sorts.Class x) y z e place);
          };
      steady =
          ap print.statement (declare_unplaced (sorts.Class x) y z e place) ∙ declare_shown (sorts.Class (unplaced.name x)) (unplaced.name y) (unplaced.name z) (unplaced.expression e) 0
          ∙ (λ i at. line at (print.name x >> space >> print.name y >> space >> mark m.Colon >> space >> print.name z >> space
          >> mark m.Equal >> space >> one.steady i >> mark m.Semicolon));
    }

assign_stated : {a b c d f : List Token} {x : Name} {y : Right} → IsName a x b → Is m.Equal b c → IsRight c y d → Is m.Semicolon d f → Wells a → Stated (s.Assign x y) f
assign_stated {x} {y} p h q i w =
    let one = right_again q (behind_it h (behind_name p w)) in
    record {
      shown = print.statement_step (o.Assign x y);
      is_shown = assign_shown x y;
      rest = behind_it i one.rest;
      clean = λ at more c. indent_clean at _ (tt, well_name p w, (tt, (tt, tt, (tt, one.clean _ (tt, tt, (tt, c))))));
      again = λ at n more.
          let two = one.again n _ in
          record {
            tree = _;
            reads = t.assign (name refl) (is refl) two.reads (is refl);
            same = assign_unplaced _ two.tree ∙ ap (s.Assign (unplaced.name x)) two.same ∙ sym (assign_unplaced x y);
          };
      steady =
          ap print.statement (assign_unplaced x y) ∙ assign_shown (unplaced.name x) (unplaced.right y)
          ∙ (λ i at. line at (print.name x >> space >> mark m.Equal >> space >> one.steady i >> mark m.Semicolon));
    }

write_stated : {a b c d f g h : List Token} {x y : Name} {e : Expression}
    → IsName a x b → Is m.Dot b c → IsName c y d → Is m.Equal d f → IsExpression f e g → Is m.Semicolon g h → Wells a → Stated (s.Write x y e) h
write_stated {x} {y} {e} p h q i r j w =
    let w1 = behind_it h (behind_name p w) in
    let one = expression_again _ _ _ r (behind_it i (behind_name q w1)) in
    record {
      shown = print.statement_step (o.Write x y e);
      is_shown = write_shown x y e;
      rest = behind_it j one.rest;
      clean = λ at more c. indent_clean at _ (tt, well_name p w, (tt, tt, (tt, well_name q w1, (tt, (tt, tt, (tt, one.clean _ (tt, tt, (tt, c))))))));
      again = λ at n more.
          let two = one.again n _ in
          record {
            tree = _;
            reads = t.write (name refl) (is refl) (name refl) (is refl) two.reads (is refl);
            same = write_unplaced _ _ two.tree ∙ ap (s.Write (unplaced.name x) (unplaced.name y)) two.same ∙ sym (write_unplaced x y e);
          };
      steady =
          ap print.statement (write_unplaced x y e) ∙ write_shown (unplaced.name x) (unplaced.name y) (unplaced.expression e)
          ∙ (λ i at. line at (print.name x >> mark m.Dot >> print.name y >> space >> mark m.Equal >> space >> one.steady i >> mark m.Semicolon));
    }

call_stated : {a b c d f g : List Token} {x : Name} {es : List Expression}
    → IsName a x b → Is m.LeftParen b c → IsArguments c es d → Is m.RightParen d f → Is m.Semicolon f g → Wells a → Stated (s.Call x es) g
call_stated {x} {es} p h q i j w =
    let one = arguments_again q (behind_it h (behind_name p w)) in
    record {
      shown = print.statement_step (o.Call x es);
      is_shown = call_shown x es;
      rest = behind_it j (behind_it i one.rest);
      clean = λ at more c. indent_clean at _ (tt, well_name p w, (tt, tt, one.clean _ ((tt, tt, (tt, tt, (tt, c))))));
      again = λ at n more.
          let two = one.again n _ in
          record {
            tree = _;
            reads = t.call (name refl) (is refl) two.reads (is refl) (is refl);
            same = call_unplaced _ two.tree ∙ ap (s.Call (unplaced.name x)) two.same ∙ sym (call_unplaced x es);
          };
      steady =
          ap print.statement (call_unplaced x es) ∙ call_shown (unplaced.name x) (unplaced.expressions es)
          ∙ (λ i at. line at (print.name x >> in_brackets (one.steady i) >> mark m.Semicolon));
    }

if_stated : {a b c d f g h : List Token} {e : Expression} {us : List Statement} {ws : Option (List Statement)}
    → Is m.If a b → Is m.LeftParen b c → Printed IsExpression unplaced.expression free word print.expression e d → Is m.RightParen d f
    → Blocks us g → ((at : ℕ) → Printed IsOtherwise (option_map (map unplaced.statement)) free free (λ ys. print.otherwise at (option_map (map print.statement) ys)) ws h)
    → Stated (s.If e us ws) h
if_stated {e} {us} {ws} h i one j block otherwise = record {
  shown = print.statement_step (o.If e (map print.statement us) (option_map (map print.statement) ws));
  is_shown = if_shown e us ws;
  rest = (otherwise 0).rest;
  clean = λ at more c. indent_clean at _ (tt, tt, (tt, (tt, tt, one.clean _ ((tt, tt, (tt, (block at).clean _ ((otherwise at).clean _ (tt, c))))))));
  again = λ at n more.
      let p = one.again n _ in
      let q = (block at).again n _ in
      let r = (otherwise at).again n _ in
      record {
        tree = _;
        reads = t.choice (is refl) (is refl) p.reads (is refl) q.reads r.reads;
        same = if_unplaced p.tree q.tree r.tree ∙ (λ i. s.If (p.same i) (q.same i) (r.same i)) ∙ sym (if_unplaced e us ws);
      };
  steady =
      ap print.statement (if_unplaced e us ws) ∙ if_shown (unplaced.expression e) (map unplaced.statement us) (option_map (map unplaced.statement) ws)
      ∙ (λ i at. line at (mark m.If >> space >> in_brackets (one.steady i) >> space >> (block at).steady i >> (otherwise at).steady i));
}

while_stated : {a b c d f g : List Token} {e : Expression} {us : List Statement}
    → Is m.While a b → Is m.LeftParen b c → Printed IsExpression unplaced.expression free word print.expression e d → Is m.RightParen d f
    → Blocks us g → Stated (s.While e us) g
while_stated {e} {us} h i one j block = record {
  shown = print.statement_step (o.While e (map print.statement us));
  is_shown = while_shown e us;
  rest = (block 0).rest;
  clean = λ at more c. indent_clean at _ (tt, tt, (tt, (tt, tt, one.clean _ ((tt, tt, (tt, (block at).clean _ (tt, c)))))));
  again = λ at n more.
      let p = one.again n _ in
      let q = (block at).again n _ in
      record {
        tree = _;
        reads = t.loop (is refl) (is refl) p.reads (is refl) q.reads;
        same = while_unplaced p.tree q.tree ∙ (λ i. s.While (p.same i) (q.same i)) ∙ sym (while_unplaced e us);
      };
  steady =
      ap print.statement (while_unplaced e us) ∙ while_shown (unplaced.expression e) (map unplaced.statement us)
      ∙ (λ i at. line at (mark m.While >> space >> in_brackets (one.steady i) >> space >> (block at).steady i));
}

atomic_stated : {a b c d f g : List Token} {x : Name} {us ws : List Statement} (o : ℕ)
    → Is m.Atomic a b → IsName b x c → Wells a → Blocks us d → Is m.Else d f → Blocks ws g → Stated (s.Atomic x us ws o) g
atomic_stated {x} {us} {ws} place h p w block i other = record {
  shown = print.statement_step (o.Atomic x (map print.statement us) (map print.statement ws) place);
  is_shown = atomic_shown x us ws place;
  rest = (other 0).rest;
  clean = λ at more c. indent_clean at _ (tt, tt, (tt, (tt, well_name p (behind_it h w), (tt, (block at).clean _ ((tt, (tt, tt, (tt, (other at).clean _ (tt, c)))))))));
  again = λ at n more.
      let q = (block at).again n _ in
      let r = (other at).again n _ in
      record {
        tree = _;
        reads = t.atomic (is refl) (name refl) q.reads (is refl) r.reads;
        same = atomic_unplaced _ q.tree r.tree _ ∙ (λ i. s.Atomic (unplaced.name x) (q.same i) (r.same i) 0) ∙ sym (atomic_unplaced x us ws place);
      };
  steady =
      ap print.statement (atomic_unplaced x us ws place) ∙ atomic_shown (unplaced.name x) (map unplaced.statement us) (map unplaced.statement ws) 0
      ∙ (λ i at. line at (mark m.Atomic >> space >> print.name x >> space >> (block at).steady i >> space >> mark m.Else >> space >> (other at).steady i));
}

fail_stated : {b : List Token} (place : ℕ) → Wells b → Stated (s.Fail place) b
fail_stated place w = record {
  shown = print.statement_step (o.Fail place);
  is_shown = fail_shown place;
  rest = w;
  clean = λ at more c. indent_clean at _ (tt, tt, (tt, tt, (tt, c)));
  again = λ at n more. record { tree = _; reads = t.fail (is refl) (is refl); same = fail_unplaced _ ∙ sym (fail_unplaced place) };
  steady = ap print.statement (fail_unplaced place) ∙ fail_shown 0;
}

-- statements in a row, at a level
abbrev Rows : List Statement → List Token → Type 0
Rows us b = (at : ℕ) → Printed IsStatements (map unplaced.statement) free free (λ ys. print.all (map (λ x. x at) (map print.statement ys))) us b

mutual
  statement_stated : {a b : List Token} {u : Statement} → IsStatement a u b → Wells a → Stated u b
  statement_stated (t.declare {o} (d.number {w = widths.Int} h) p i q j r k) w = int_stated o.at h p i q j r k w
  statement_stated (t.declare {o} (d.class h) p i q j r k) w = class_stated o.at h p i q j r k w
  statement_stated (t.assign p h q i) w = assign_stated p h q i w
  statement_stated (t.write p h q i r j) w = write_stated p h q i r j w
  statement_stated (t.call p h q i j) w = call_stated p h q i j w
  statement_stated (t.choice h i p j q r) w =
      let one = expression_again _ _ _ p (behind_it i (behind_it h w)) in
      let block = block_again q (behind_it j one.rest) in
      if_stated h i one j block (otherwise_again r (block 0).rest)
  statement_stated (t.loop h i p j q) w =
      let one = expression_again _ _ _ p (behind_it i (behind_it h w)) in
      while_stated h i one j (block_again q (behind_it j one.rest))
  statement_stated (t.atomic {o} h p q i r) w =
      let block = block_again q (behind_name p (behind_it h w)) in
      atomic_stated o.at h p w block i (block_again r (behind_it i (block 0).rest))
  statement_stated (t.fail {o} h i) w = fail_stated o.at (behind_it i (behind_it h w))

  otherwise_again : {a b : List Token} {us : Option (List Statement)} → IsOtherwise a us b → Wells a
      → (at : ℕ) → Printed IsOtherwise (option_map (map unplaced.statement)) free free (λ ys. print.otherwise at (option_map (map print.statement) ys)) us b
  otherwise_again t.no_else w at = record { rest = w; clean = λ more c. c; again = λ n more. record { tree = None; reads = t.no_else; same = refl }; steady = refl }
  otherwise_again (t.some_else h p) w at =
      let one = block_again p (behind_it h w) at in
      record {
        rest = one.rest;
        clean = λ more c. (tt, (tt, tt, (tt, one.clean _ c)));
        again = λ n more.
            let two = one.again n more in
            record { tree = _; reads = t.some_else (is refl) two.reads; same = ap Some two.same };
        steady = λ i. space >> mark m.Else >> space >> one.steady i;
      }

  block_again : {a b : List Token} {us : List Statement} → IsBlock a us b → Wells a → Blocks us b
  block_again (t.block h p i) w at =
      let one = statements_again p (behind_it h w) (at + 1) in
      record {
        rest = behind_it i one.rest;
        clean = λ more c. (tt, tt, (tt, one.clean (indent at (mark m.RightBrace more)) (indent_clean at _ (tt, tt, c))));
        again = λ n more.
            let two = one.again n _ in
            record { tree = _; reads = t.block (is refl) two.reads (is refl); same = two.same };
        steady = λ i. mark m.LeftBrace >> line_end >> one.steady i >> indent at >> mark m.RightBrace;
      }

  statements_again : {a b : List Token} {us : List Statement} → IsStatements a us b → Wells a → Rows us b
  statements_again t.no_statement w at = record { rest = w; clean = λ more c. c; again = λ n more. record { tree = []; reads = t.no_statement; same = refl }; steady = refl }
  statements_again (t.one_statement {b = b} {u = u} p q) w at =
      let first = statement_stated p w in
      let one = stated_again u b first at in
      let others = statements_again q first.rest at in
      record {
        rest = others.rest;
        clean = λ more c. one.clean _ (others.clean more c);
        again = λ n more.
            let two = one.again n _ in
            let three = others.again n more in
            record { tree = two.tree ∷ three.tree; reads = t.one_statement two.reads three.reads; same = cc };
        steady = λ i. one.steady i >> others.steady i;
      }

pub statement_again : (at : ℕ) (a b : List Token) (u : Statement) → IsStatement a u b → Wells a → Printed IsStatement unplaced.statement free free (λ y. print.statement y at) u b
statement_again at a b u p w = stated_again u b (statement_stated p w) at
