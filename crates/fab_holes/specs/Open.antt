-- A program with its holes standing as labels.
--
-- A name that nothing has got the number behind the last, so the label of a hole is behind the declared ones. Here each hole
-- gets a number of its own: behind the declared labels, in the order of the text.
use Rattle.std.specs.Prelude.{ℕ, suc, ◌+◌, nat_lt, if◌then◌else◌, map, length}
use Rattle.fab_tree.specs.declared.resolved.Local.{Local}
use Rattle.fab_tree.specs.declared.resolved.Method.{Method}
use Rattle.fab_tree.specs.declared.resolved.Resolved.{Resolved}
use Rattle.fab_language.specs.MethodNumbers.{Numbered, made_of, in_turn}
use Rattle.fab_labelling.specs.Obligations.{Claim, flows, conf, nowhere, declassifies, endorses, holds, answers_for}

-- the local with this label's number
abbrev pub with_label : ℕ → Local → Local
with_label n x = record x { label = record x.label { number = n } }

module _ (count : ℕ) where
  abbrev pub opened_local : Local → Numbered Local
  opened_local x k = if nat_lt x.label.number count then (x, k) else (with_label (count + k) x, suc k)

  abbrev pub opened_method : Method → Numbered Method
  opened_method m = made_of (λ xs. record m { locals = xs }) (in_turn (map opened_local m.locals))

abbrev pub opened : Resolved → Resolved
opened r = record r { methods = (in_turn (map (opened_method (length r.labels)) r.methods) 0).0 }

-- ---- other numbers for the labels of locals

abbrev pub renamed_method : (ℕ → ℕ) → Method → Method
renamed_method f m = record m { locals = map (λ x. with_label (f x.label.number) x) m.locals }

abbrev pub renamed : (ℕ → ℕ) → Resolved → Resolved
renamed f r = record r { methods = map (renamed_method f) r.methods }

-- ---- what a program owes under other numbers

-- The numbers of locals alone change: the second label of a claim on confidentiality is the access label of a class, and what is
-- downgraded goes from a declared label to another.
abbrev pub renamed_claim : (ℕ → ℕ) → Claim → Claim
renamed_claim f (flows a b) = flows (f a) (f b)
renamed_claim f (conf a b) = conf (f a) b
renamed_claim f (nowhere a) = nowhere (f a)
renamed_claim f (declassifies a b ps) = declassifies a b ps
renamed_claim f (endorses a b ps) = endorses a b ps
renamed_claim f (holds store class) = holds store class
renamed_claim f (answers_for worker method p) = answers_for worker method p
