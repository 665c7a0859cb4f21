-- All transactions of a worker go, one after the other.
use Rattle.std.proofs.Common.{◌≡◌, ℕ, ◌≤◌, ◌<◌, ◌==◌, Bool, true, false, not, ◌||◌, List, [], ◌∷◌, length, refl, sym, ap, ◌∙◌, arith}
use Rattle.std.specs.List.{filter}
use Rattle.std.proofs.lemmas.Bool.{true≢false, eq-eqb}
use Rattle.fab_base.specs.declared.object.Tid.{Tid}
use Rattle.fab_protocol.specs.Versions.{is_tid}
use Rattle.fab_protocol.specs.Stores.{Prepared, without}
use Rattle.fab_locks.specs.Conflicts.{holds_tid}
use Rattle.fab_locks.proofs.Tids.{kept_here, kept_past, one_tid}

abbrev of_others : ℕ → Prepared → Bool
of_others w p = not (p.0.worker == w)

-- those of other workers stay when one of this worker goes
pub others_stay : (w : ℕ) (t : Tid) (ps : List Prepared) → t.worker ≡ w → filter (of_others w) (without t ps) ≡ filter (of_others w) ps
others_stay w t [] is = refl
others_stay w t (p ∷ ps) is = step (others_stay w t ps is) (is_tid p.0 t) refl
  where
    both : filter (of_others w) (without t ps) ≡ filter (of_others w) ps → (b : Bool) → of_others w p ≡ b → filter (of_others w) (p ∷ without t ps) ≡ filter (of_others w) (p ∷ ps)
    both rest true e = kept_here (of_others w) p (without t ps) e ∙ ap (λ l. p ∷ l) rest ∙ sym (kept_here (of_others w) p ps e)
    both rest false e = kept_past (of_others w) p (without t ps) e ∙ rest ∙ sym (kept_past (of_others w) p ps e)

    step : filter (of_others w) (without t ps) ≡ filter (of_others w) ps → (b : Bool) → is_tid p.0 t ≡ b
        → filter (of_others w) (without t (p ∷ ps)) ≡ filter (of_others w) (p ∷ ps)
    step rest true e =
        let mine : p.0.worker ≡ w = ap (λ u. u.worker) (one_tid p.0 t e) ∙ is in
        ap (filter (of_others w)) (kept_past (λ q. not (is_tid q.0 t)) p ps (ap not e))
        ∙ rest
        ∙ sym (kept_past (of_others w) p ps (ap not (eq-eqb p.0.worker w mine)))
    step rest false e = ap (filter (of_others w)) (kept_here (λ q. not (is_tid q.0 t)) p ps (ap not e)) ∙ both rest (of_others w p) refl

no_longer : (t : Tid) (ps : List Prepared) → length (without t ps) ≤ length ps
no_longer t [] = omega arith
no_longer t (p ∷ ps) = step (is_tid p.0 t) refl (no_longer t ps)
  where
    step : (b : Bool) → is_tid p.0 t ≡ b → length (without t ps) ≤ length ps → length (without t (p ∷ ps)) ≤ length (p ∷ ps)
    step true e h = rw (kept_past (λ q. not (is_tid q.0 t)) p ps (ap not e)) (omega (arith, h))
    step false e h = rw (kept_here (λ q. not (is_tid q.0 t)) p ps (ap not e)) (omega (arith, h))

-- whoever goes was there
pub shorter : (t : Tid) (ps : List Prepared) → holds_tid t ps ≡ true → length (without t ps) < length ps
shorter t [] h = absurd (true≢false (sym h))
shorter t (p ∷ ps) h = step (λ k. shorter t ps k) (is_tid p.0 t) refl h
  where
    step : (holds_tid t ps ≡ true → length (without t ps) < length ps) → (b : Bool) → is_tid p.0 t ≡ b → (b || holds_tid t ps) ≡ true → length (without t (p ∷ ps)) < length (p ∷ ps)
    step rest true e k = rw (kept_past (λ q. not (is_tid q.0 t)) p ps (ap not e)) (omega (arith, no_longer t ps))
    step rest false e k = rw (kept_here (λ q. not (is_tid q.0 t)) p ps (ap not e)) (omega (arith, rest k))
