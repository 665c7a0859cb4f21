-- Worked examples of the grammar of statements and of runs, and of sites.
use Rattle.std.proofs.Common.{◌+◌, ℕ, List, [], ◌∷◌, refl, codes, lit<}
use Rattle.fab_base.specs.declared.object.Width.TheVariants as widths
use Rattle.fab_base.specs.declared.token.Mark.{Mark}
use Rattle.fab_base.specs.declared.token.Mark.TheVariants as m
use Rattle.fab_base.specs.declared.token.Kind.TheVariants as k
use Rattle.fab_base.specs.declared.token.Token.{Token}
use Rattle.fab_tree.specs.declared.name.Name.{Name}
use Rattle.fab_tree.specs.declared.expression.Form.TheVariants as f
use Rattle.fab_tree.specs.declared.statement.Downgrade.TheVariants as downgrades
use Rattle.fab_tree.specs.declared.statement.Right.TheVariants as rights
use Rattle.fab_tree.specs.declared.statement.Statement.{Statement}
use Rattle.fab_tree.specs.declared.statement.Statement.TheVariants as s
use Rattle.fab_tree.specs.Lists.{is, name, numeral, no_more}
use Rattle.fab_tree.specs.Declarations.{number, class}
use Rattle.fab_tree.specs.Expressions.{expression_at, chain, no_other, of_or, of_and, of_sum, of_product, alone, primary, local}
use Rattle.fab_tree.specs.Statements.{IsStatement, declare, assign, write, call, choice, loop, atomic, fail, downgrade, declassify}
use Rattle.fab_tree.specs.Runs.{IsCache, cache, IsSchedule, schedule}

abbrev word : ℕ → List ℕ → Token
word at x = record { kind = k.Name x; at = at; end = at + 1 }

abbrev sign : ℕ → Mark → Token
sign at x = record { kind = k.Fixed x; at = at; end = at + 1 }

abbrev named : ℕ → List ℕ → Name
named at x = record { text = x; at = at }

-- x = declassify(y, A to B);
abbrev tokens : List Token
tokens =
    word 0 (codes "x") ∷ sign 2 m.Equal ∷ sign 4 m.Declassify ∷ sign 14 m.LeftParen ∷ word 15 (codes "y") ∷ sign 16 m.Comma
    ∷ word 18 (codes "A") ∷ sign 20 m.To ∷ word 23 (codes "B") ∷ sign 24 m.RightParen ∷ sign 25 m.Semicolon ∷ []

a_downgrade_is_assigned : IsStatement tokens (s.Assign (named 0 (codes "x")) (rights.Downgrade downgrades.Declassify (expression_at 15 (f.Local (named 15 (codes "y")))) (named 18 (codes "A")) (named 23 (codes "B")) 4)) []
a_downgrade_is_assigned =
    assign (name refl) (is refl)
    (downgrade (declassify (is refl)) (is refl)
    (chain (of_or (chain (of_and (alone (chain (of_sum (chain (of_product (primary (local (name refl)))) no_other)) no_other))) no_other)) no_other)
    (is refl) (name refl) (is refl) (name refl) (is refl))
    (is refl)

-- cache 0; leaves what no line leaves
a_cache_of_none : IsCache (sign 0 m.Cache ∷ record { kind = k.Number 0; at = 6; end = 7 } ∷ sign 7 m.Semicolon ∷ []) 0 []
a_cache_of_none = cache (is refl) (numeral refl (lit< tt)) (is refl)

-- schedule { } leaves no events
an_empty_schedule : IsSchedule (sign 0 m.Schedule ∷ sign 9 m.LeftBrace ∷ sign 11 m.RightBrace ∷ []) [] []
an_empty_schedule = schedule (is refl) (is refl) no_more (is refl)

-- fail without a semicolon is no statement
no_bare_failure : (t : Statement) → IsStatement (sign 0 m.Fail ∷ []) t [] → ⊥
no_bare_failure t (declare (number {w = widths.Int} (is e)) p i q j r l) = absurd (cc)
no_bare_failure t (declare (class (name e)) p i q j r l) = absurd (cc)
no_bare_failure t (assign (name e) i p j) = absurd (cc)
no_bare_failure t (write (name e) i p j q l) = absurd (cc)
no_bare_failure t (call (name e) i p j l) = absurd (cc)
no_bare_failure t (choice (is e) i p j q o) = absurd (cc)
no_bare_failure t (loop (is e) i p j q) = absurd (cc)
no_bare_failure t (atomic (is e) p q i r) = absurd (cc)
no_bare_failure t (fail (is e) i) = elim i [ ]
