-- Commits, one more behind others: their messages, and what they leave.
use Rattle.std.proofs.Common.{◌≡◌, ℕ, ◌+◌, ◌<◌, ◌==◌, if◌then◌else◌, List, [], ◌∷◌, ◌++◌, map, length, take, get_or, append-nil, ap, ◌∙◌}
use Rattle.std.specs.List.{filter, flat_map}
use Rattle.std.proofs.lemmas.Grind.{flat_map-append}
use Rattle.std.proofs.lemmas.List.{map-append, map_more}
use Rattle.fab_base.specs.declared.message.Message.{Message}
use Rattle.fab_base.specs.declared.message.Message.TheVariants.{Commit}
use Rattle.fab_base.specs.declared.object.Tid.{Tid}
use Rattle.fab_protocol.specs.Versions.{Row, Rows, is_tid}
use Rattle.fab_release.specs.Replay as replay
use Rattle.fab_release.specs.Sights.{Public, Sight}
use Rattle.fab_sent.specs.Messages.{all_spelled}
use Rattle.fab_world.specs.Workers.{to_all}
use Rattle.fab_parts.proofs.Spelled.{in_bytes}
use Rattle.fab_known.specs.Commits.{commitment_of}
use Rattle.fab_known.specs.declared.commits.Commitment.{Commitment}

-- ---- commits

abbrev pub left_by : ℕ → Tid → Commitment → Rows
left_by store t c = if is_tid c.tid t then filter (λ row. row.0.store == store) c.leaves else []

abbrev commits_in : replay.Commitment → List (ℕ × Message)
commits_in c = to_all c.stores (Commit c.tid)

pub commits_more : (commits : List Commitment) (i : ℕ) (d : Commitment) → i < length commits
    → all_spelled (flat_map commits_in (map commitment_of (take (i + 1) commits)))
    ≡ all_spelled (flat_map commits_in (map commitment_of (take i commits))) ++ all_spelled (to_all (get_or commits i d).stores (Commit (get_or commits i d).tid))
commits_more commits i d h =
    ap (λ l. all_spelled (flat_map commits_in l)) (map_more commitment_of commits i d h)
    ∙ ap all_spelled (flat_map-append commits_in (map commitment_of (take i commits)) (commitment_of (get_or commits i d) ∷ []))
    ∙ map-append in_bytes (flat_map commits_in (map commitment_of (take i commits))) (commits_in (commitment_of (get_or commits i d)) ++ [])
    ∙ ap (λ l. all_spelled (flat_map commits_in (map commitment_of (take i commits))) ++ all_spelled l) (append-nil (commits_in (commitment_of (get_or commits i d))))

-- what is left at a store, by one commit more
pub left_more : (sight : Sight) (P : Public) (store : ℕ) (t : Tid) (commits : List Commitment) (i : ℕ) (d : Commitment) → i < length commits
    → replay.leaves_at sight P store t (map commitment_of (take (i + 1) commits))
    ≡ replay.leaves_at sight P store t (map commitment_of (take i commits)) ++ left_by store t (get_or commits i d)
left_more sight P store t commits i d h =
    ap (replay.leaves_at sight P store t) (map_more commitment_of commits i d h)
    ∙ flat_map-append (λ (c : replay.Commitment). if is_tid c.tid t then filter (λ (row : Row). row.0.store == store) c.leaves else [])
    (map commitment_of (take i commits)) (commitment_of (get_or commits i d) ∷ [])
    ∙ ap (λ (l : Rows). replay.leaves_at sight P store t (map commitment_of (take i commits)) ++ l) (append-nil (left_by store t (get_or commits i d)))
