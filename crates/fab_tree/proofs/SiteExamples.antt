-- Worked examples of sites: their places, in the order of the text.
use Rattle.std.proofs.Common.{◌≡◌, ◌+◌, ℕ, List, [], ◌∷◌, ◌++◌, sym, ap, ◌∙◌}
use Rattle.fab_tree.specs.declared.name.Name.{Name}
use Rattle.fab_tree.specs.declared.expression.Expression.{Expression, fold-roll-Expression}
use Rattle.fab_tree.specs.declared.expression.Form.{fold-Form, fold-roll-Form}
use Rattle.fab_tree.specs.declared.expression.Form.TheVariants as f
use Rattle.fab_tree.specs.declared.expression.Form.TheOpen as o
use Rattle.fab_tree.specs.declared.statement.Statement.{fold-roll-Statement}
use Rattle.fab_tree.specs.declared.statement.Statement.TheVariants as s
use Rattle.fab_tree.specs.declared.statement.Statement.TheOpen as layer
use Rattle.fab_tree.specs.declared.statement.Downgrade.TheVariants as downgrades
use Rattle.fab_tree.specs.declared.statement.Right.TheVariants as rights
use Rattle.fab_tree.specs.Expressions.{expression_at}
use Rattle.fab_tree.specs.Sites.{in_form, in_expression, in_right, in_statement, in_statement_step}

abbrev named : ℕ → Name
named at = record { text = []; at = at }

-- b.g, whose object's name stands at a place
abbrev read_at : ℕ → Expression
read_at at = expression_at at (f.Read (named at) (named (at + 2)))

in_read : (at : ℕ) → in_expression (read_at at) ≡ at ∷ []
in_read at =
    fold-roll-Expression (List ℕ) (List ℕ) (List ℕ) in_form (λ e. e.form) (λ u. u.operand) (record { form = f.Read (named at) (named (at + 2)); at = at })
    ∙ ap (fold-Form (List ℕ) (List ℕ) (List ℕ) in_form (λ e. e.form) (λ u. u.operand)) (sym (f.rolls-Read (named at) (named (at + 2))))
    ∙ fold-roll-Form (List ℕ) (List ℕ) (List ℕ) in_form (λ e. e.form) (λ u. u.operand) (o.Read (named at) (named (at + 2)))

-- a.f = b.g; the write comes before the read
a_write_and_its_read : in_statement (s.Write (named 0) (named 2) (read_at 6)) ≡ 0 ∷ 6 ∷ []
a_write_and_its_read =
    ap in_statement (sym (s.rolls-Write (named 0) (named 2) (read_at 6)))
    ∙ fold-roll-Statement (List ℕ) in_statement_step (layer.Write (named 0) (named 2) (read_at 6))
    ∙ ap (λ x. 0 ∷ x) (in_read 6)

-- x = new C @ s (b.g); the new object comes before what it is given
a_new_object : in_right (rights.New (named 8) (named 12) (read_at 17 ∷ []) 4) ≡ 4 ∷ 17 ∷ []
a_new_object = ap (λ x. 4 ∷ (x ++ [])) (in_read 17)

-- x = declassify(b.g, A to B);
a_downgrade : in_right (rights.Downgrade downgrades.Declassify (read_at 15) (named 20) (named 25) 4) ≡ 4 ∷ 15 ∷ []
a_downgrade = ap (λ x. 4 ∷ x) (in_read 15)
