-- The labels of sites, gathered part by part.
use Rattle.std.proofs.Common.{◌≡◌, ◌⊎◌, inl, inr, ℕ, refl, sym, ap, ◌∙◌, List, [], ◌∷◌, ◌++◌, map, append_assoc}
use Rattle.std.specs.List.{flat_map}
use Rattle.std.proofs.lemmas.List.{append-nil, map-append}
use Rattle.fab_tree.specs.declared.expression.Number.{Number}
use Rattle.fab_tree.specs.declared.expression.Comparison.{Comparison}
use Rattle.fab_tree.specs.declared.resolved.Use.{Use}
use Rattle.fab_tree.specs.declared.resolved.Class.{Class}
use Rattle.fab_tree.specs.declared.resolved.Local.{Local}
use Rattle.fab_tree.specs.declared.resolved.Expression.{Expression, fold-roll-Expression, roll-out-Expression, out-Expression}
use Rattle.fab_tree.specs.declared.resolved.Form.{Form, fold-roll-Form, fold-Form}
use Rattle.fab_tree.specs.declared.resolved.Form.TheVariants as kinds
use Rattle.fab_tree.specs.declared.resolved.Form.TheOpen as parts
use Rattle.fab_tree.specs.declared.resolved.Operand.{Operand, fold-roll-Operand, fold-Operand, roll-out-Operand, out-Operand}
use Rattle.fab_tree.specs.declared.resolved.Statement.{Statement, fold-roll-Statement}
use Rattle.fab_tree.specs.declared.resolved.Statement.TheVariants as statements
use Rattle.fab_tree.specs.declared.resolved.Statement.TheOpen as s
use Rattle.fab_labelling.specs.Obligations.{part, under}
use Rattle.fab_labelling.specs.Sites.{Sited, all_under, block_sites, form_sites, sited, sites_in, statement_sites}
use Rattle.fab_check.specs.Sited.{all_sited, with_sites}

pub sited_in_parts : (out : List (List ℕ)) (xs ys : Sited) → all_sited out (xs ++ ys) ≡ all_sited (all_sited out xs) ys
unfolding all_sited
sited_in_parts out xs ys = ap (λ (l : List (List ℕ)). out ++ l) (map-append (λ (x : ℕ × List ℕ). x.1) xs ys) ∙ sym (append_assoc out (map (λ (x : ℕ × List ℕ). x.1) xs) (map (λ (x : ℕ × List ℕ). x.1) ys))

pub none_sited : (out : List (List ℕ)) → all_sited out [] ≡ out
unfolding all_sited
none_sited out = append-nil out

pub sites_in_parts : (out : List (List ℕ)) (pc ns ms : List ℕ) → with_sites out pc (ns ++ ms) ≡ with_sites (with_sites out pc ns) pc ms
sites_in_parts out pc ns ms = ap (all_sited out) (map-append (λ (n : ℕ). (n, pc)) ns ms) ∙ sited_in_parts out (all_under pc ns) (all_under pc ms)

pub no_sites : (out : List (List ℕ)) (pc : List ℕ) → with_sites out pc [] ≡ out
no_sites out pc = none_sited out

-- one site is gathered first
pub site_first : (out : List (List ℕ)) (pc : List ℕ) (site : ℕ) (ns : List ℕ) → with_sites out pc (site ∷ ns) ≡ with_sites (out ++ pc ∷ []) pc ns
unfolding all_sited
site_first out pc site ns = sym (append_assoc out (pc ∷ []) (map (λ (x : ℕ × List ℕ). x.1) (all_under pc ns)))

pub one_site : (out : List (List ℕ)) (pc : List ℕ) (site : ℕ) → with_sites out pc (site ∷ []) ≡ out ++ pc ∷ []
unfolding all_sited
one_site out pc site = refl

-- ---- expressions

in_form : Form → List ℕ
in_form = fold-Form (List ℕ) (List ℕ) (List ℕ) form_sites (λ e. e.form) (λ u. u.operand)

in_other : Operand → List ℕ
in_other = fold-Operand (List ℕ) (List ℕ) (List ℕ) form_sites (λ e. e.form) (λ u. u.operand)

by_form : (x : Expression) → sites_in x ≡ in_form (out-Expression x).form
unfolding in_form
by_form x = ap sites_in (sym (roll-out-Expression x)) ∙ fold-roll-Expression (List ℕ) (List ℕ) (List ℕ) form_sites (λ e. e.form) (λ u. u.operand) (out-Expression x)

by_operand : (x : Operand) → in_other x ≡ sites_in (out-Operand x).operand
unfolding in_other
by_operand x = ap in_other (sym (roll-out-Operand x)) ∙ fold-roll-Operand (List ℕ) (List ℕ) (List ℕ) form_sites (λ e. e.form) (λ u. u.operand) (out-Operand x)

all_others : (us : List Operand) → flat_map (λ (ns : List ℕ). ns) (map in_other us) ≡ flat_map (λ (u : Operand). sites_in (out-Operand u).operand) us
all_others [] = refl
all_others (u ∷ us) = ap (λ (l : List ℕ). l ++ flat_map (λ (ns : List ℕ). ns) (map in_other us)) (by_operand u) ∙ ap (λ (l : List ℕ). sites_in (out-Operand u).operand ++ l) (all_others us)

pub chain_sites : (x e : Expression) (us : List Operand) → (out-Expression x).form ≡ kinds.Chain e us → sites_in x ≡ sites_in e ++ flat_map (λ (u : Operand). sites_in (out-Operand u).operand) us
unfolding in_form in_other
chain_sites x e us is =
    by_form x ∙ ap in_form (is ∙ sym (kinds.rolls-Chain e us))
    ∙ fold-roll-Form (List ℕ) (List ℕ) (List ℕ) form_sites (λ e. e.form) (λ u. u.operand) (parts.Chain e us)
    ∙ ap (λ (l : List ℕ). sites_in e ++ l) (all_others us)

pub compared_sites : (x e g : Expression) (c : Comparison) → (out-Expression x).form ≡ kinds.Compared e c g → sites_in x ≡ sites_in e ++ sites_in g
unfolding in_form
compared_sites x e g c is =
    by_form x ∙ ap in_form (is ∙ sym (kinds.rolls-Compared e c g))
    ∙ fold-roll-Form (List ℕ) (List ℕ) (List ℕ) form_sites (λ e. e.form) (λ u. u.operand) (parts.Compared e c g)

-- a form that holds no site
pub no_form_sites : (x : Expression)
    → ((n : Number) × ((out-Expression x).form ≡ kinds.Number n)) ⊎ (((out-Expression x).form ≡ kinds.Null) ⊎ ((u : Use) × ((out-Expression x).form ≡ kinds.Local u)))
    → sites_in x ≡ []
unfolding in_form
no_form_sites x (inl (n, is)) = by_form x ∙ ap in_form (is ∙ sym (kinds.rolls-Number n)) ∙ fold-roll-Form (List ℕ) (List ℕ) (List ℕ) form_sites (λ e. e.form) (λ u. u.operand) (parts.Number n)
no_form_sites x (inr (inl is)) = by_form x ∙ ap in_form (is ∙ sym kinds.rolls-Null) ∙ fold-roll-Form (List ℕ) (List ℕ) (List ℕ) form_sites (λ e. e.form) (λ u. u.operand) parts.Null
no_form_sites x (inr (inr (u, is))) = by_form x ∙ ap in_form (is ∙ sym (kinds.rolls-Local u)) ∙ fold-roll-Form (List ℕ) (List ℕ) (List ℕ) form_sites (λ e. e.form) (λ u. u.operand) (parts.Local u)

pub read_sites : (x : Expression) (o : Use) (f n : ℕ) → (out-Expression x).form ≡ kinds.Read o f n → sites_in x ≡ n ∷ []
unfolding in_form
read_sites x o f n is = by_form x ∙ ap in_form (is ∙ sym (kinds.rolls-Read o f n)) ∙ fold-roll-Form (List ℕ) (List ℕ) (List ℕ) form_sites (λ e. e.form) (λ u. u.operand) (parts.Read o f n)

-- ---- statements

module _ (classes : List Class) (locals : List Local) (pc : List ℕ) where
  abbrev inside : Expression → List ℕ
  inside e = under pc (part classes locals e).labels

  pub if_sites : (e : Expression) (block otherwise : List Statement) →
      sited classes locals (statements.If e block otherwise) pc ≡ all_under pc (sites_in e) ++ block_sites classes locals block (inside e) ++ block_sites classes locals otherwise (inside e)
  if_sites e block otherwise =
      ap (λ (x : Statement). sited classes locals x pc) (sym (statements.rolls-If e block otherwise))
      ∙ ap (λ (f : List ℕ → Sited). f pc) (fold-roll-Statement (List ℕ → Sited) (statement_sites classes locals) (s.If e block otherwise))

  pub while_sites : (e : Expression) (block : List Statement) → sited classes locals (statements.While e block) pc ≡ all_under pc (sites_in e) ++ block_sites classes locals block (inside e)
  while_sites e block =
      ap (λ (x : Statement). sited classes locals x pc) (sym (statements.rolls-While e block))
      ∙ ap (λ (f : List ℕ → Sited). f pc) (fold-roll-Statement (List ℕ → Sited) (statement_sites classes locals) (s.While e block))

  pub atomic_sites : (l : Use) (block otherwise : List Statement) (at : ℕ) →
      sited classes locals (statements.Atomic l block otherwise at) pc ≡ block_sites classes locals block (under pc (l.number ∷ [])) ++ block_sites classes locals otherwise (under pc (l.number ∷ []))
  atomic_sites l block otherwise at =
      ap (λ (x : Statement). sited classes locals x pc) (sym (statements.rolls-Atomic l block otherwise at))
      ∙ ap (λ (f : List ℕ → Sited). f pc) (fold-roll-Statement (List ℕ → Sited) (statement_sites classes locals) (s.Atomic l block otherwise at))

  pub write_sites : (x : Use) (f : ℕ) (e : Expression) (n : ℕ) → sited classes locals (statements.Write x f e n) pc ≡ all_under pc (n ∷ sites_in e)
  write_sites x f e n =
      ap (λ (y : Statement). sited classes locals y pc) (sym (statements.rolls-Write x f e n))
      ∙ ap (λ (g : List ℕ → Sited). g pc) (fold-roll-Statement (List ℕ → Sited) (statement_sites classes locals) (s.Write x f e n))

  pub fail_sites : (at : ℕ) → sited classes locals (statements.Fail at) pc ≡ []
  fail_sites at =
      ap (λ (y : Statement). sited classes locals y pc) (sym (statements.rolls-Fail at))
      ∙ ap (λ (g : List ℕ → Sited). g pc) (fold-roll-Statement (List ℕ → Sited) (statement_sites classes locals) (s.Fail at))

-- the same block under the same labels
pub same_sites : (classes : List Class) (locals : List Local) (xs ys : List Statement) (pc qs : List ℕ) → xs ≡ ys → pc ≡ qs → block_sites classes locals xs pc ≡ block_sites classes locals ys qs
same_sites classes locals xs ys pc qs e f = ap (λ (zs : List Statement). block_sites classes locals zs pc) e ∙ ap (block_sites classes locals ys) f

pub two_parts : (whole xs ys zs ws : Sited) → whole ≡ xs ++ ys → zs ≡ xs → ws ≡ ys → whole ≡ zs ++ ws
two_parts whole xs ys zs ws is e f = is ∙ ap (λ (l : Sited). l ++ ys) (sym e) ∙ ap (λ (l : Sited). zs ++ l) (sym f)

pub three_parts : (whole xs ys zs ys2 zs2 : Sited) → whole ≡ xs ++ ys ++ zs → ys2 ≡ ys → zs2 ≡ zs → whole ≡ xs ++ ys2 ++ zs2
three_parts whole xs ys zs ys2 zs2 is e f = is ∙ ap (λ (l : Sited). xs ++ l ++ zs) (sym e) ∙ ap (λ (l : Sited). xs ++ ys2 ++ l) (sym f)
