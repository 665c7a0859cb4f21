-- What a command wants of runs is one text.
use Rattle.std.proofs.Common.{◌≡◌, ◌≢◌, ℕ, zero, suc, ◌+◌, ◌<◌, ◌≤◌, Bool, IsTrue, not, if◌then◌else◌, List, ◌∷◌, filter, Option, Some, None, refl, sym, ap, ◌∙◌, arith, true≢false}
use Rattle.std.specs.List.{range_with_len}
use Rattle.std.specs.Prelude.{is_some}
use Rattle.std.proofs.lemmas.Bool.{false≢true}
use Rattle.std.proofs.lemmas.List.Sums.{count_by-le-length}
use Rattle.fab_flows.proofs.Declared.{has_principals}
use Rattle.fab_tree.specs.declared.start.Start.{Start}
use Rattle.fab_tree.specs.declared.resolved.Resolved.{Resolved}
use Rattle.fab_language.specs.Numbers.{resolved}
use Rattle.fab_command.specs.declared.command.Command.{Command}
use Rattle.fab_command.specs.declared.command.Telling.{Telling}
use Rattle.fab_command.specs.declared.command.Telling.TheVariants as telling
use Rattle.fab_command.specs.declared.command.Command.TheVariants.{Audit, Check, Evaluate, Flows, Format, Infer, Replay, Run, Trust, View}
use Rattle.fab_listing.specs.Listing.{listing, node_count, nodes_where, sent_text}
use Rattle.fab_places.specs.declared.masks.Seen.{Seen}
use Rattle.fab_rights.specs.Computed.{has_bit}
use Rattle.fab_rights.specs.declared.rights.Rights.{Rights}
use Rattle.fab_settings.specs.Settings.{IsAcceptedWith}
use Rattle.fab_world.specs.Machine.{Move}
use Rattle.fab_node.specs.Standing.{GivenModel}
use Rattle.fab_replay.specs.declared.replayed.Replayed.{Replayed}
use Rattle.fab_replay.specs.declared.replayed.Replayed.TheVariants as r
use Rattle.fab_replay.specs.declared.replayed.Told.{Told}
use Rattle.fab_replay.specs.declared.replayed.Told.TheVariants as told
use Rattle.fab_replay.specs.declared.replayed.Wanted.{Wanted}
use Rattle.fab_replay.specs.declared.replayed.Wanted.TheVariants.{Report, Run as ByNodes, Trust as Trusted, View as Viewed}
use Rattle.fab_replay.specs.Replays.{HasNoFault, IsFaulty, IsWhole, Tells, is_scheduled, text_of, with_counts}
use Rattle.fab_replay.proofs.Counts.{uncounted}
use Rattle.fab_replay.proofs.Answered.{stopped_by, stopped_of, whole_by, whole_of}
use Rattle.fab_reply.specs.Headline.{IsPartFor, IsWholeFor}
use Rattle.fab_front.specs.Refused.{AsksLabels, AsksNames, LacksName}
use Rattle.fab_answers.specs.Says.{MakesRuns}
use Rattle.fab_reply.specs.Replays.{AreDistrusted, AreNamed, CanMake, IsSetOf, IsToldOf, Wants, given_of}
use Rattle.fab_reply.proofs.Trusting.{one_trust}

-- ---- a listing looks at the nodes of a program alone

filter_alike : (p q : ℕ → Bool) (k n : ℕ) → ((i : ℕ) → i < k + n → p i ≡ q i) → filter p (range_with_len k n) ≡ filter q (range_with_len k n)
filter_alike p q k zero h = refl
filter_alike p q k (suc n) h =
    ap (λ b. if b then k ∷ filter p (range_with_len (k + 1) n) else filter p (range_with_len (k + 1) n)) (h k (omega arith))
    ∙ ap (λ xs. if q k then k ∷ xs else xs) (filter_alike p q (k + 1) n (λ i l. h i (omega (arith, l))))

pub listed_alike : (r : Resolved) (p q : ℕ → Bool) (sent : ℕ → ℕ → List (List ℕ)) → ((n : ℕ) → n < node_count r → p n ≡ q n) → listing r p sent ≡ listing r q sent
listed_alike r p q sent h =
    ap (λ ns. sent_text r sent ns (nodes_where r p)) (filter_alike (λ n. not (p n)) (λ n. not (q n)) 0 (node_count r) (λ n l. ap not (h n (omega (arith, l)))))
    ∙ ap (sent_text r sent (nodes_where r (λ n. not (q n)))) (filter_alike p q 0 (node_count r) (λ n l. h n (omega (arith, l))))

-- the same nodes are named by both
few_nodes : (s : Start) (rights : Rights) → IsAcceptedWith s rights → node_count (resolved s) ≤ 64
few_nodes s rights accepted =
    let few = (has_principals s accepted.within accepted.named).few in
    let count = count_by-le-length (λ x. is_some x.node) (resolved s).nodes in
    omega (arith, few, count)

pub same_text : (s : Start) (rights : Rights) (c : Command) (u w : Wanted) → IsAcceptedWith s rights → Wants s c u → Wants s c w
    → IsTrue (is_scheduled u) → (moves : List Move) → text_of (given_of s rights) u moves ≡ text_of (given_of s rights) w moves
same_text s rights Replay Report Report accepted h k is moves = refl
same_text s rights (Run x) (ByNodes y) w accepted h k is moves = absurd (false≢true is)
same_text s rights (View names) (Viewed m seen part) (Viewed n other known) accepted h k is moves =
    let few = few_nodes s rights accepted in
    listed_alike (resolved s) (has_bit m) (has_bit n) _ (λ i l. h.nodes_are i (omega (arith, l, few)) ∙ sym (k.nodes_are i (omega (arith, l, few))))
same_text s rights (Trust names) (Trusted m part) (Trusted n other) accepted h k is moves = one_trust s rights names m n part other accepted h k moves
same_text s rights Replay (ByNodes y) w accepted h k is moves = absurd h
same_text s rights Replay (Viewed m seen part) w accepted h k is moves = absurd h
same_text s rights Replay Report (ByNodes z) accepted h k is moves = absurd k
same_text s rights Replay Report (Viewed n seen part) accepted h k is moves = absurd k
same_text s rights (Run x) Report w accepted h k is moves = absurd h
same_text s rights (Run x) (Viewed m seen part) w accepted h k is moves = absurd h
same_text s rights (View names) Report w accepted h k is moves = absurd h
same_text s rights (View names) (ByNodes y) w accepted h k is moves = absurd h
same_text s rights (View names) (Viewed m seen part) Report accepted h k is moves = absurd k
same_text s rights (View names) (Viewed m seen part) (ByNodes z) accepted h k is moves = absurd k
same_text s rights Replay (Trusted m part) w accepted h k is moves = absurd h
same_text s rights Replay Report (Trusted n other) accepted h k is moves = absurd k
same_text s rights (Run x) (Trusted m part) w accepted h k is moves = absurd h
same_text s rights (View names) (Trusted m part) w accepted h k is moves = absurd h
same_text s rights (View names) (Viewed m seen part) (Trusted n other) accepted h k is moves = absurd k
same_text s rights (Trust names) Report w accepted h k is moves = absurd h
same_text s rights (Trust names) (ByNodes y) w accepted h k is moves = absurd h
same_text s rights (Trust names) (Viewed m seen part) w accepted h k is moves = absurd h
same_text s rights (Trust names) (Trusted m part) Report accepted h k is moves = absurd k
same_text s rights (Trust names) (Trusted m part) (ByNodes z) accepted h k is moves = absurd k
same_text s rights (Trust names) (Trusted m part) (Viewed n seen known) accepted h k is moves = absurd k
same_text s rights Check u w accepted h k is moves = absurd h
same_text s rights Evaluate u w accepted h k is moves = absurd h
same_text s rights (Flows a b) u w accepted h k is moves = absurd h
same_text s rights Format u w accepted h k is moves = absurd h
same_text s rights Infer u w accepted h k is moves = absurd h
same_text s rights Audit u w accepted h k is moves = absurd h

-- so an answer tells of either run of the schedule
pub tells_alike : (g : GivenModel) (u w : Wanted) (moves : List Move) (x : Replayed) → HasNoFault x → IsTrue (is_scheduled u) → IsTrue (is_scheduled w)
    → text_of g u moves ≡ text_of g w moves → Tells g u moves x → Tells g w moves x
tells_alike g u w moves (r.Done bytes) noted p q e h = (whole_by g moves w q (whole_of g moves u p h.0), h.1 ∙ e, uncounted g moves w q)
tells_alike g u w moves (r.NotEnabled number) noted p q e h = stopped_by g moves w number q (stopped_of g moves u number h)
tells_alike g u w moves (r.JournalFault node report) noted p q e h = absurd noted

-- ---- what a command that makes a run asks for

-- what is so of each command with what it wants
pub wished : {s : Start} (P : Command → Wanted → Type 0) → P Replay Report → ((x : Telling) (y : Told) → IsToldOf s x y → P (Run x) (ByNodes y))
    → ((names : List (List ℕ)) (nodes : ℕ) (seen : Seen) (part : Resolved) → AreNamed s names nodes → P (View names) (Viewed nodes seen part))
    → ((names : List (List ℕ)) (nodes : ℕ) (part : Seen) → AreDistrusted s names nodes part → P (Trust names) (Trusted nodes part))
    → (c : Command) (u : Wanted) → Wants s c u → P c u
wished P replay run view trust Replay Report h = replay
wished P replay run view trust (Run x) (ByNodes y) h = run x y h
wished P replay run view trust (View names) (Viewed nodes seen part) h = view names nodes seen part h
wished P replay run view trust (Trust names) (Trusted nodes part) h = trust names nodes part h
wished P replay run view trust Replay (ByNodes y) h = absurd h
wished P replay run view trust Replay (Viewed nodes seen part) h = absurd h
wished P replay run view trust (Run x) Report h = absurd h
wished P replay run view trust (Run x) (Viewed nodes seen part) h = absurd h
wished P replay run view trust (View names) Report h = absurd h
wished P replay run view trust (View names) (ByNodes y) h = absurd h
wished P replay run view trust Replay (Trusted nodes part) h = absurd h
wished P replay run view trust (Run x) (Trusted nodes part) h = absurd h
wished P replay run view trust (View names) (Trusted nodes part) h = absurd h
wished P replay run view trust (Trust names) Report h = absurd h
wished P replay run view trust (Trust names) (ByNodes y) h = absurd h
wished P replay run view trust (Trust names) (Viewed nodes seen part) h = absurd h
wished P replay run view trust Check u h = absurd h
wished P replay run view trust Evaluate u h = absurd h
wished P replay run view trust (Flows a b) u h = absurd h
wished P replay run view trust Format u h = absurd h
wished P replay run view trust Infer u h = absurd h
wished P replay run view trust Audit u h = absurd h

-- it makes runs
pub runs_by : (s : Start) (c : Command) (u : Wanted) → Wants s c u → MakesRuns (Some c)
runs_by s c u h = wished (λ d v. MakesRuns (Some d)) tt (λ x y asked. tt) (λ names nodes seen part named. tt) (λ names nodes part trusted. tt) c u h

-- what is read is of a root that may be
pub root_asked : (s : Start) (x : Telling) (y : Told) → IsToldOf s x y → AsksLabels (Run x) s
root_asked s telling.Report y h = tt
root_asked s telling.Summary y h = tt
root_asked s (telling.Reads root times) told.Report h = absurd h
root_asked s (telling.Reads root times) told.Summary h = absurd h
root_asked s (telling.Reads root times) (told.Reads reading counts) h = (reading.oid, h.readable)

pub root_found : (s : Start) (x : Telling) → AsksLabels (Run x) s → LacksName (Run x) s → ⊥
root_found s telling.Report h l = l
root_found s telling.Summary h l = l
root_found s (telling.Reads root times) h l = l h

-- whatever the counts of what is read are, it is what the command wants
pub any_counts : (s : Start) (c : Command) (u : Wanted) (counts : List ℕ) → Wants s c u → Wants s c (with_counts u counts)
any_counts s c u counts h =
    wished (λ d v. Wants s d (with_counts v counts)) tt (λ x y asked. of_run x y asked) (λ names nodes seen part named. named) (λ names nodes part trusted. trusted) c u h
  where
    of_run : (x : Telling) (y : Told) → IsToldOf s x y → Wants s (Run x) (with_counts (ByNodes y) counts)
    of_run x told.Report h = h
    of_run x told.Summary h = h
    of_run telling.Report (told.Reads reading before) h = absurd h
    of_run telling.Summary (told.Reads reading before) h = absurd h
    of_run (telling.Reads root times) (told.Reads reading before) h = h

-- and all its words name something
pub names_found : (s : Start) (c : Command) {A : Type 0} (u : Wanted) → Wants s c u → LacksName c s → A
names_found s c {A} u h =
    wished (λ d v. LacksName d s → A) (λ l. absurd l) (λ x y asked l. absurd (root_found s x (root_asked s x y asked) l)) (λ names nodes seen part named l. absurd (true≢false (sym named.names_are ∙ l)))
    (λ names nodes part trusted l. absurd (true≢false (sym trusted.named.names_are ∙ l))) c u h

-- without `run` all that is wanted is of the schedule's run
pub by_hand : (asked : Option Command) → ((x : Telling) → asked ≢ Some (Run x)) → CanMake is_scheduled asked
by_hand None other = tt
by_hand (Some c) other = λ s u h. wished (λ d v. ((x : Telling) → Some d ≢ Some (Run x)) → IsTrue (is_scheduled v)) (λ k. refl) (λ x y asked k. absurd (k x refl)) (λ names nodes seen part named k. refl) (λ names nodes part trusted k. refl) c u h other

-- who makes all runs makes what is wanted
pub by_all : (makes : Wanted → Bool) (asked : Option Command) → ((u : Wanted) → IsTrue (makes u)) → CanMake makes asked
by_all makes None all = tt
by_all makes (Some c) all = λ s u h. all u

-- and those that are wanted are of the kind that it asks for
pub whole_for : (s : Start) (g : GivenModel) (moves : List Move) (c : Command) (u : Wanted) → Wants s c u → IsWhole g u moves → IsWholeFor (Some c) g moves
whole_for s g moves c u h = wished (λ d v. IsWhole g v moves → IsWholeFor (Some d) g moves) (λ k. k) (λ x y asked k. k) (λ names nodes seen part named k. k) (λ names nodes part trusted k. k) c u h

pub part_for : (s : Start) (g : GivenModel) (moves : List Move) (node : ℕ) (c : Command) (u : Wanted) → Wants s c u → IsFaulty g u moves node → IsPartFor (Some c) node g moves
part_for s g moves node c u h = wished (λ d v. IsFaulty g v moves node → IsPartFor (Some d) node g moves) (λ k. k) (λ x y asked k. k) (λ names nodes seen part named k. k) (λ names nodes part trusted k. k) c u h

pub asks_names : (c : Command) → MakesRuns (Some c) → AsksNames c
asks_names Replay h = tt
asks_names (Run x) h = tt
asks_names (View names) h = tt
asks_names (Trust names) h = tt
asks_names Check h = tt
asks_names Evaluate h = tt
asks_names (Flows a b) h = tt
asks_names Format h = absurd h
asks_names Infer h = absurd h
asks_names Audit h = absurd h

pub asks_labels : (s : Start) (c : Command) (set : ℕ) → MakesRuns (Some c) → IsSetOf s c set → AsksLabels c s
asks_labels s Replay set runs h = tt
asks_labels s (Run telling.Report) set runs h = tt
asks_labels s (Run telling.Summary) set runs h = tt
asks_labels s (Run (telling.Reads root times)) set runs h = h
asks_labels s (View names) set runs h = h.names_are
asks_labels s (Trust names) set runs h = h.names_are
asks_labels s Check set runs h = absurd runs
asks_labels s Evaluate set runs h = absurd runs
asks_labels s (Flows a b) set runs h = absurd runs
asks_labels s Format set runs h = absurd runs
asks_labels s Infer set runs h = absurd runs
asks_labels s Audit set runs h = absurd runs
