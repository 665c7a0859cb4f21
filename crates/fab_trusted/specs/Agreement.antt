-- That trusted replay gives what is held, and what robust declassifications let out.
use Rattle.std.specs.Prelude.{◌≡◌, ℕ, Bool, true, ◌==◌, List, [], ◌∷◌, Option}
use Rattle.std.specs.List.{filter}
use Rattle.fab_base.specs.declared.object.Value.{Value}
use Rattle.fab_base.specs.FlatMap.{FlatMap}
use Rattle.fab_tree.specs.declared.start.Start.{Start}
use Rattle.fab_tree.specs.declared.resolved.Resolved.{Resolved}
use Rattle.fab_language.specs.declared.ending.Ending.TheVariants.{Ended}
use Rattle.fab_language.specs.Meaning.{Meant}
use Rattle.fab_language.specs.Numbers.{resolved}
use Rattle.fab_net.specs.declared.note.Commit.{Commit}
use Rattle.fab_rights.specs.Computed.{has_bit}
use Rattle.fab_rights.specs.declared.rights.Rights.{Rights}
use Rattle.fab_settings.specs.Settings.{IsAcceptedWith, is_hostile_node, setting_of}
use Rattle.fab_world.specs.Machine.{Move, Setting}
use Rattle.fab_world.specs.Serial.{IsRun, commits_in, held_map, within, world_of}
use Rattle.fab_trusted.specs.Trusts.{IsTrustedBy}
use Rattle.fab_trusted.specs.Trusted.{done_by, endorsed_by, endorsed, trusted_by, trusted_one, trusted_replay}
use Rattle.fab_trusted.specs.Robust.{IsRobust, IsGuarded}

-- a run of an accepted bundle, and a set of nodes, the hostile ones among them, with what they can't have influenced
pub record IsOfRun (s : Start) (rights : Rights) (nodes : ℕ) (trusts keeps : ℕ → Bool) (moves : List Move) : Type 0 where
  pub accepted : IsAcceptedWith s rights
  pub hostile : (n : ℕ) → is_hostile_node (resolved s) n ≡ true → has_bit nodes n ≡ true
  pub trusted : IsTrustedBy (resolved s) nodes trusts keeps
  pub run : IsRun (setting_of (resolved s) rights) moves

-- the commits of all workers that aren't hostile
abbrev pub commits_at : Setting → List Move → List Commit
commits_at S moves = commits_in S S.hostile moves

-- what the others hold of these classes is trusted replay of these commits
abbrev pub IsTrustedReplay : (Setting → ℕ → List Move → List Commit) → Type 0
IsTrustedReplay commits =
    (s : Start) (rights : Rights) (nodes : ℕ) (trusts keeps : ℕ → Bool) (moves : List Move) → IsOfRun s rights nodes trusts keeps moves
    → let r = resolved s in
    let S = setting_of (resolved s) rights in
    held_map S (has_bit nodes) keeps (world_of S moves)
    ≡ trusted_replay trusts keeps r (commits S nodes moves) (endorsed trusts keeps r (commits S nodes moves))

-- of those of all workers that aren't hostile
abbrev pub TrustedReplayAgrees : Type 0
TrustedReplayAgrees = IsTrustedReplay (λ S nodes moves. commits_at S moves)

-- and of those of the workers outside the set alone
abbrev pub OutsideReplayAgrees : Type 0
OutsideReplayAgrees = IsTrustedReplay (λ S nodes moves. commits_in S (has_bit nodes) moves)

-- what was downgraded at a site
abbrev pub at_site : ℕ → Meant → List (ℕ × Value)
at_site site meant = filter (λ d. d.0 == site) meant.downs

-- each commit ends when it is replayed so, and downgrades at the sites of which this holds what its attempt did
module _ (trusts keeps : ℕ → Bool) (r : Resolved) (IsSuch : ℕ → Type 0) where
  pub record IsFollowed (N : FlatMap) (c : Commit) : Type 0 where
    pub value : Option Value
    pub ended : (trusted_by trusts keeps r N c (endorsed_by trusts keeps r (done_by trusts keeps r c))).ending ≡ Ended value
    pub alike : (site : ℕ) → IsSuch site
        → at_site site (trusted_by trusts keeps r N c (endorsed_by trusts keeps r (done_by trusts keeps r c))) ≡ at_site site (done_by trusts keeps r c)

  abbrev pub AreFollowed : FlatMap → List Commit → Type 0
  AreFollowed N [] = Unit {0}
  AreFollowed N (c ∷ cs) = IsFollowed N c × AreFollowed (trusted_one trusts keeps r N c (endorsed_by trusts keeps r (done_by trusts keeps r c))) cs

-- Each commit ends when it is replayed so; and where the program is robust, the values that its declassifications let out in committed
-- attempts at guarded sites are those of trusted replay.
abbrev pub RobustValuesTrusted : Type 0
RobustValuesTrusted =
    (s : Start) (rights : Rights) (nodes : ℕ) (trusts keeps : ℕ → Bool) (moves : List Move) → IsOfRun s rights nodes trusts keeps moves
    → let r = resolved s in
    let S = setting_of (resolved s) rights in
    AreFollowed trusts keeps r (λ site. IsRobust r × IsGuarded r nodes site) (within keeps S.roots) (commits_at S moves)
