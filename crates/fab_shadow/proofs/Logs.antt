-- What one more event of the log says of attempts, of its node and of others.
use Rattle.std.proofs.Common.{◌≡◌, ℕ, List, [], ◌∷◌, ◌++◌, cond, refl, sym, ap, ◌∙◌}
use Rattle.std.specs.Prelude.{◌==◌, fold}
use Rattle.std.specs.List.{flat_map}
use Rattle.std.proofs.lemmas.Bool.{eq-eqb, ne_eqb}
use Rattle.std.proofs.lemmas.Grind.{flat_map-append}
use Rattle.std.proofs.lemmas.List.{append-nil}
use Rattle.std.proofs.lemmas.List.Sums.{fold-append}
use Rattle.fab_base.specs.declared.object.Oid.{Oid}
use Rattle.fab_base.specs.declared.object.Tid.{Tid}
use Rattle.fab_net.specs.declared.note.Logged.{Logged}
use Rattle.fab_net.specs.declared.note.Note.{Note}
use Rattle.fab_release.specs.Sights.{Sight}
use Rattle.fab_release.specs.Record.{is_of, notes_at, seen_behind, seen_by, changes_in, changes_of}
use Rattle.fab_shadow.proofs.Lists.{cond_same}
use Rattle.fab_shadow.proofs.Notes.{AreOwn}

-- an event of node n, with these notes
pub record IsLogged (n : ℕ) (notes : List Note) (x : Logged) : Type 0 where
  pub mine : (m : ℕ) → is_of m x.event ≡ (n == m)
  pub noted : x.notes ≡ notes

-- ---- what attempts change

-- as these notes tell
abbrev pub changes_told : Tid → List Note → List Oid
changes_told t notes = flat_map (changes_in t) notes

-- notes of one node tell nothing of another's attempts
pub others_told : (n : ℕ) (notes : List Note) (t : Tid) → AreOwn n notes → (t.worker ≡ n → ⊥) → changes_told t notes ≡ []
others_told n [] t own apart = refl
others_told n (x ∷ xs) t own apart = ap (λ ys. ys ++ changes_told t xs) (own.0 t apart) ∙ others_told n xs t own.1 apart

pub changes_more : (t : Tid) (log : List Logged) (x : Logged) → changes_of t (log ++ x ∷ []) ≡ changes_of t log ++ changes_told t x.notes
changes_more t log x =
    flat_map-append (λ (y : Logged). changes_told t y.notes) log (x ∷ []) ∙ ap (λ ys. changes_of t log ++ ys) (append-nil (changes_told t x.notes))

-- its own event tells of an attempt what its notes tell, and another node's nothing
pub changes_mine : (n : ℕ) (notes : List Note) (t : Tid) (log : List Logged) (x : Logged) → IsLogged n notes x
    → changes_of t (log ++ x ∷ []) ≡ changes_of t log ++ changes_told t notes
changes_mine n notes t log x h = changes_more t log x ∙ ap (λ ys. changes_of t log ++ changes_told t ys) h.noted

pub changes_others : (n : ℕ) (notes : List Note) (t : Tid) (log : List Logged) (x : Logged) → IsLogged n notes x → AreOwn n notes → (t.worker ≡ n → ⊥)
    → changes_of t (log ++ x ∷ []) ≡ changes_of t log
changes_others n notes t log x h own apart =
    changes_mine n notes t log x h ∙ ap (λ ys. changes_of t log ++ ys) (others_told n notes t own apart) ∙ append-nil (changes_of t log)

-- nor does an event without notes
pub changes_quiet : (t : Tid) (log : List Logged) (x : Logged) → x.notes ≡ [] → changes_of t (log ++ x ∷ []) ≡ changes_of t log
changes_quiet t log x none = changes_more t log x ∙ ap (λ notes. changes_of t log ++ changes_told t notes) none ∙ append-nil (changes_of t log)

-- ---- what was touched in view

notes_more : (m : ℕ) (log : List Logged) (x : Logged) → notes_at m (log ++ x ∷ []) ≡ notes_at m log ++ cond (is_of m x.event) x.notes []
notes_more m log x =
    flat_map-append (λ (y : Logged). cond (is_of m y.event) y.notes []) log (x ∷ [])
    ∙ ap (λ ys. notes_at m log ++ ys) (append-nil (cond (is_of m x.event) x.notes []))

module _ (sight : Sight) where
  seen_more : (m : ℕ) (log : List Logged) (x : Logged)
      → seen_by sight m (log ++ x ∷ []) ≡ fold (seen_behind sight) (seen_by sight m log) (cond (is_of m x.event) x.notes [])
  seen_more m log x =
      ap (fold (seen_behind sight) []) (notes_more m log x) ∙ fold-append (seen_behind sight) [] (notes_at m log) (cond (is_of m x.event) x.notes [])

  -- of its own node the notes count, and of others nothing is seen anew
  pub seen_mine : (n : ℕ) (notes : List Note) (log : List Logged) (x : Logged) → IsLogged n notes x
      → seen_by sight n (log ++ x ∷ []) ≡ fold (seen_behind sight) (seen_by sight n log) notes
  seen_mine n notes log x h =
      seen_more n log x ∙ ap (λ b. fold (seen_behind sight) (seen_by sight n log) (cond b x.notes [])) (h.mine n ∙ eq-eqb n n refl)
      ∙ ap (fold (seen_behind sight) (seen_by sight n log)) h.noted

  pub seen_others : (n m : ℕ) (notes : List Note) (log : List Logged) (x : Logged) → IsLogged n notes x → (m ≡ n → ⊥)
      → seen_by sight m (log ++ x ∷ []) ≡ seen_by sight m log
  seen_others n m notes log x h apart =
      seen_more m log x ∙ ap (λ b. fold (seen_behind sight) (seen_by sight m log) (cond b x.notes [])) (h.mine m ∙ ne_eqb n m (λ e. apart (sym e)))

  -- an event without notes tells nothing
  pub seen_quiet : (m : ℕ) (log : List Logged) (x : Logged) → x.notes ≡ [] → seen_by sight m (log ++ x ∷ []) ≡ seen_by sight m log
  seen_quiet m log x none =
      seen_more m log x ∙ ap (λ notes. fold (seen_behind sight) (seen_by sight m log) (cond (is_of m x.event) notes [])) none
      ∙ ap (fold (seen_behind sight) (seen_by sight m log)) (cond_same (is_of m x.event) [])
