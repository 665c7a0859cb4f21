-- Lines of commits, some behind others.
use Rattle.std.proofs.Common.{◌≡◌, ℕ, ◌+◌, suc, List, [], ◌∷◌, ◌++◌, codes, length, sym, ap, ◌∙◌, append_assoc, arith}
use Rattle.std.specs.Fmt.{decimal}
use Rattle.fab_tree.specs.declared.resolved.Resolved.{Resolved}
use Rattle.fab_language.specs.Words.{line, spaced, node_text}
use Rattle.fab_net.specs.declared.note.Commit.{Commit}
use Rattle.fab_trace.specs.Report.{commits_text, tid_text}

module _ (r : Resolved) where
  abbrev commit_line : ℕ → Commit → List ℕ
  commit_line k c = line (codes "commit" ++ spaced (decimal (suc k) ∷ node_text r c.worker ∷ decimal c.request ∷ tid_text c.tid ∷ []))

  behind : (k n : ℕ) (front others : List Commit) → n ≡ k + length front → commits_text r k (front ++ others) ≡ commits_text r k front ++ commits_text r n others
  behind k n [] others e = let same : k ≡ n = omega (arith, e) in ap (λ m. commits_text r m others) same
  behind k n (c ∷ front) others e =
      ap (λ l. commit_line k c ++ l) (behind (suc k) n front others (omega (arith, e)))
      ∙ sym (append_assoc (commit_line k c) (commits_text r (suc k) front) (commits_text r n others))

  -- the lines so far and those to come, some lines on
  pub lines_on : (k n : ℕ) (front others : List Commit) (out more : List ℕ) → n ≡ k + length front → more ≡ out ++ commits_text r k front
      → more ++ commits_text r n others ≡ out ++ commits_text r k (front ++ others)
  lines_on k n front others out more e put =
      ap (λ l. l ++ commits_text r n others) put
      ∙ append_assoc out (commits_text r k front) (commits_text r n others)
      ∙ ap (λ l. out ++ l) (sym (behind k n front others e))
