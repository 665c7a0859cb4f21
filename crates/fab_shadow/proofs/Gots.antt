-- An evaluation tells what it downgraded into view, and the versions of the objects that it touched in view: so the replay knows them.
use Rattle.std.proofs.Common.{◌≡◌, inl, ℕ, Bool, true, false, not, ◌&&◌, ◌||◌, cond, List}
use Rattle.std.proofs.Common.{[], ◌∷◌, ◌++◌, map, refl, sym, ap, ◌∙◌, subst}
use Rattle.std.specs.Prelude.{if◌then◌else◌}
use Rattle.std.specs.List.{filter}
use Rattle.std.proofs.lemmas.Bool.{and_parts, and_from, or_right, or_parts}
use Rattle.std.proofs.lemmas.List.{append-nil, append_assoc}
use Rattle.std.proofs.lemmas.List.Elements.{filter-append}
use Rattle.fab_base.specs.declared.object.Oid.{Oid}
use Rattle.fab_base.specs.declared.object.Tid.{Tid}
use Rattle.fab_base.specs.declared.object.Value.{Value}
use Rattle.fab_base.specs.FlatMap.{map_of, is_among, is_same}
use Rattle.fab_language.specs.declared.ending.Ending.TheVariants.{Missing}
use Rattle.fab_language.specs.Meaning.{Meant}
use Rattle.fab_fewer.specs.Fewer.{AreKnown}
use Rattle.fab_net.specs.declared.note.Commit.{Commit}
use Rattle.fab_net.specs.declared.note.Logged.{Logged}
use Rattle.fab_protocol.specs.Versions.{Rows, name_of, objects_of, version_of}
use Rattle.fab_protocol.proofs.NameLists.{among_append}
use Rattle.fab_protocol.proofs.TableLaws.{row_of_name}
use Rattle.fab_protocol.proofs.VersionLaws.{version_of_row}
use Rattle.fab_world.specs.Machine.{Setting, World, kept, meant}
use Rattle.fab_world.specs.Workers.{request_of}
use Rattle.fab_release.specs.declared.release.Release.{Release}
use Rattle.fab_release.specs.declared.release.Release.TheVariants.{Down, Got}
use Rattle.fab_release.specs.Sights.{Sight, Public}
use Rattle.fab_release.specs.Record.{downs_to, gots_to}
use Rattle.fab_release.specs.Replay.{Rebuilt, WorkerSeen, got_by, row_at, run, tid_of, is_shown}
use Rattle.fab_isolation.specs.Law.{IsShared}
use Rattle.fab_isolation.specs.Owed.{Follows, given_by, is_seen}
use Rattle.fab_integrity.proofs.Invariant.{In, IsWorker, standing, tid_at}
use Rattle.fab_integrity.proofs.Lists.{all_of, in_filter, in_left, in_right, map_in}
use Rattle.fab_integrity.proofs.Maps.{ascends_map_of, in_among, row_listed}
use Rattle.fab_shadow.proofs.Shadow.{never, Stands, Knows, seen_names}
use Rattle.fab_shadow.proofs.Fold.{AtWorker, after, tells}
use Rattle.fab_shadow.proofs.Here.{answer_dated, at_as, at_next, named, over_ascends, over_fit}
use Rattle.fab_shadow.proofs.Knowing.{known_has, known_none, known_out, known_part, knows_again, knows_as, knows_told, seen_more, told_shown, touched_answered}

-- ---- values that are given

module _ (sight : Sight) (P : Public) (k : Rebuilt) (n : ℕ) where
  abbrev DownsTold : List (ℕ × Value) → List Release → List Value → Type 0
  DownsTold downs entries values =
      (next : Rebuilt) (y : WorkerSeen) (table : Rows) → AtWorker k next n y table
      → AtWorker k (after sight P next entries) n (record y { given = y.given ++ values }) table

  downs_step : (d : ℕ × Value) (downs : List (ℕ × Value)) → DownsTold downs (downs_to sight n downs) (map (λ d. d.1) (filter (λ d. sight.into_view d.0) downs))
      → (b : Bool) → DownsTold (d ∷ downs) (map (λ d. Down n d.1) (cond b (d ∷ filter (λ d. sight.into_view d.0) downs) (filter (λ d. sight.into_view d.0) downs)))
      (map (λ d. d.1) (cond b (d ∷ filter (λ d. sight.into_view d.0) downs) (filter (λ d. sight.into_view d.0) downs)))
  downs_step d downs more false next y table at = more next y table at
  downs_step d downs more true next y table at =
      let values = map (λ (d : ℕ × Value). d.1) (filter (λ d. sight.into_view d.0) downs) in
      at_as sight P k _ n (record y { given = (y.given ++ d.1 ∷ []) ++ values }) (record y { given = y.given ++ d.1 ∷ values }) table
      (ap (λ g. record y { given = g }) (append_assoc y.given (d.1 ∷ []) values))
      (more _ (record y { given = y.given ++ d.1 ∷ [] }) table (at_next sight P k next n y table (λ v. record v { given = v.given ++ d.1 ∷ [] }) at))

  pub downs_told : (downs : List (ℕ × Value)) → DownsTold downs (downs_to sight n downs) (map (λ d. d.1) (filter (λ d. sight.into_view d.0) downs))
  downs_told [] next y table at = at_as sight P k next n y (record y { given = y.given ++ [] }) table (ap (λ g. record y { given = g }) (sym (append-nil y.given))) at
  downs_told (d ∷ downs) next y table at = downs_step d downs (downs_told downs) (sight.into_view d.0) next y table at

  quiet_step : (d : ℕ × Value) (downs : List (ℕ × Value)) → ((next : Rebuilt) → tells sight P next (downs_to sight n downs) ≡ []) → (b : Bool) (next : Rebuilt)
      → tells sight P next (map (λ d. Down n d.1) (cond b (d ∷ filter (λ d. sight.into_view d.0) downs) (filter (λ d. sight.into_view d.0) downs))) ≡ []
  quiet_step d downs more true next = more _
  quiet_step d downs more false next = more next

  pub downs_quiet : (downs : List (ℕ × Value)) (next : Rebuilt) → tells sight P next (downs_to sight n downs) ≡ []
  downs_quiet [] next = refl
  downs_quiet (d ∷ downs) next = quiet_step d downs (downs_quiet downs) (sight.into_view d.0) next

-- ---- versions that are got

module _ (S : Setting) (sight : Sight) (P : Public) (shared : IsShared S sight P) (w : World) (log : List Logged) (cs : List Commit) (k : Rebuilt)
    (stands : Stands S sight P w log cs k) (n : ℕ) (me : IsWorker S sight.has never n) where
  abbrev full : Meant
  full = meant S w n

  abbrev answers : Rows
  answers = (w.node n).attempt.answers

  abbrev tid : Tid
  tid = tid_at n (standing S sight.has never w cs n)

  abbrev request : ℕ
  request = request_of (kept S w n)

  -- the replay's run is of this attempt, with all that it downgraded into view
  pub record RunsIt (v : WorkerSeen) : Type 0 where
    pub request_is : v.request ≡ request
    pub tid_is : tid_of sight P n v ≡ tid
    pub given_is : v.given ≡ given_by sight full

  pub runs_on : (v : WorkerSeen) (known : Rows) → RunsIt v → RunsIt (record v { known = known })
  runs_on v known h = record { request_is = h.request_is; tid_is = h.tid_is; given_is = h.given_is }

  -- so it follows the evaluation
  pub run_follows : (v : WorkerSeen) (told : List Oid) → RunsIt v → Knows S sight P told answers v.known
      → ((o : Oid) → is_among o told ≡ true → sight.shows o.class ≡ true) → Follows sight full (map_of (objects_of v.known)) (run sight P n v)
  run_follows v told it knows shown =
      subst (Follows sight full (map_of (objects_of v.known)))
      (λ i. P.means n (sym it.request_is i) (sym it.tid_is i) (map_of (objects_of v.known)) (sym it.given_is i))
      (shared.followed.follows n request tid (map_of (objects_of answers)) (map_of (objects_of v.known)) (named S sight P shared w log cs k stands n me)
      (over_ascends S sight P shared w log cs k stands n me) (over_fit S sight P shared w log cs k stands n me) (ascends_map_of (objects_of v.known))
      (known_part S sight P shared w log cs k stands n me told v.known knows shown))

  -- all that was touched in view is known, where it was told or is of a store in the set
  pub all_known : (known : Rows) (told : List Oid) (touches : List (ℕ × Oid)) → Knows S sight P told answers known
      → ((t : ℕ × Oid) → In t touches → In t full.touches × ((sight.has t.1.store || is_among t.1 told) ≡ true)) → AreKnown (map_of (objects_of known)) touches
  all_known known told touches knows h =
      all_of _ touches (λ t i.
      let g = h t i in
      let r = touched_answered S sight P shared w log cs k stands n me t g.0 in
      known_has S sight P shared w log cs k stands n me told known knows t.1 r.0 g.1 r.1)

  abbrev pub versioned : ℕ × Oid → ℕ × Oid × ℕ
  versioned t = (t.0, t.1, version_of answers t.1)

  -- behind these entries it knows all that was touched in view
  pub record GotAll (next : Rebuilt) (v : WorkerSeen) (entries : List Release) : Type 0 where
    pub known : Rows
    pub at : AtWorker k (after sight P next entries) n (record v { known = known }) k.table
    pub knows : Knows S sight P (seen_names S sight P full.touches) answers known
    pub quiet : tells sight P next entries ≡ []

  abbrev Gets : List (ℕ × Oid) → Type 0
  Gets more =
      (next : Rebuilt) (v : WorkerSeen) (os : List Oid) (pre : List (ℕ × Oid)) → AtWorker k next n v k.table → RunsIt v → Knows S sight P os answers v.known
      → ((o : Oid) → is_among o os ≡ is_among o (seen_names S sight P pre)) → full.touches ≡ pre ++ more → GotAll next v (gots_to sight n os (map versioned more))

  swap_step : (a b c : Bool) → b ≡ c → (a || b) ≡ (c || (a || false))
  swap_step true b true same = refl
  swap_step true b false same = refl
  swap_step false b true same = same
  swap_step false b false same = same

  among_one : (os pre : List Oid) (o p : Oid) → is_among p os ≡ is_among p pre → is_among p (o ∷ os) ≡ is_among p (pre ++ o ∷ [])
  among_one os pre o p same = swap_step (is_same o p) (is_among p os) (is_among p pre) same ∙ sym (among_append p pre (o ∷ []))

  shown_by : (os : List Oid) (pre : List (ℕ × Oid)) → ((o : Oid) → is_among o os ≡ is_among o (seen_names S sight P pre)) → (o : Oid) → is_among o os ≡ true
      → sight.shows o.class ≡ true
  shown_by os pre same o h = told_shown S sight P pre o (sym (same o) ∙ h)

  -- the replay's run lacks the next object in view that it doesn't know
  lacks_next : (t : ℕ × Oid) (more : List (ℕ × Oid)) (v : WorkerSeen) (os : List Oid) (pre : List (ℕ × Oid)) → RunsIt v → Knows S sight P os answers v.known
      → ((o : Oid) → is_among o os ≡ is_among o (seen_names S sight P pre)) → full.touches ≡ pre ++ t ∷ more → is_seen sight t ≡ true
      → (sight.has t.1.store || is_among t.1 os) ≡ false → (run sight P n v).ending ≡ Missing t.0 t.1
  lacks_next t more v os pre it knows same e seen new =
      (run_follows v os it knows (shown_by os pre same)).goes (filter (is_seen sight) pre) t.0 t.1 (filter (is_seen sight) more)
      (ap (filter (is_seen sight)) e ∙ filter-append (is_seen sight) pre (t ∷ more)
      ∙ ap (λ b. filter (is_seen sight) pre ++ cond b (t ∷ filter (is_seen sight) more) (filter (is_seen sight) more)) seen)
      (all_known v.known os (filter (is_seen sight) pre) knows (λ u i. (
        subst (In u) (sym e) (in_left u pre (t ∷ more) (in_filter (is_seen sight) u pre i).0),
        or_right (sight.has u.1.store) (is_among u.1 os)
            (same u.1 ∙ in_among u.1 (seen_names S sight P pre) (map_in (λ (t : ℕ × Oid). t.1) u (filter (is_seen sight) pre) i)),
      )))
      (known_none S sight P shared w log cs k stands n me os v.known knows t.1 (known_out S sight P os answers v.known knows t.1 new))

  -- one touch more
  seen_one : (pre : List (ℕ × Oid)) (t : ℕ × Oid) (b : Bool) → is_seen sight t ≡ b
      → seen_names S sight P (pre ++ t ∷ []) ≡ seen_names S sight P pre ++ cond b (t.1 ∷ []) []
  seen_one pre t b seen = seen_more S sight P pre t ∙ ap (λ c. seen_names S sight P pre ++ cond c (t.1 ∷ []) []) seen

  along : (pre : List (ℕ × Oid)) (t : ℕ × Oid) (more : List (ℕ × Oid)) → full.touches ≡ pre ++ t ∷ more → full.touches ≡ (pre ++ t ∷ []) ++ more
  along pre t more e = e ∙ sym (append_assoc pre (t ∷ []) more)

  same_on : (os : List Oid) (pre : List (ℕ × Oid)) (t : ℕ × Oid) → is_seen sight t ≡ true → ((o : Oid) → is_among o os ≡ is_among o (seen_names S sight P pre))
      → (o : Oid) → is_among o (t.1 ∷ os) ≡ is_among o (seen_names S sight P (pre ++ t ∷ []))
  same_on os pre t seen same o = among_one os (seen_names S sight P pre) t.1 o (same o) ∙ ap (is_among o) (sym (seen_one pre t true seen))

  neither : (a b : Bool) → (not a && not b) ≡ not (a || b)
  neither true b = refl
  neither false b = refl

  gets_step : (t : ℕ × Oid) (more : List (ℕ × Oid)) → Gets more → (next : Rebuilt) (v : WorkerSeen) (os : List Oid) (pre : List (ℕ × Oid))
      → AtWorker k next n v k.table → RunsIt v → Knows S sight P os answers v.known
      → ((o : Oid) → is_among o os ≡ is_among o (seen_names S sight P pre)) → full.touches ≡ pre ++ t ∷ more
      → (b : Bool) → is_seen sight t ≡ b → (c : Bool) → (sight.has t.1.store || is_among t.1 os) ≡ c
      → GotAll next v (cond (b && (not (sight.has t.1.store) && not (is_among t.1 os))) (Got n (version_of answers t.1) ∷ []) [] ++ gots_to sight n (cond b (t.1 ∷ os) os) (map versioned more))
  gets_step t more later next v os pre at it knows same e false seen c old =
      later next v os (pre ++ t ∷ []) at it knows
      (λ o. same o ∙ ap (is_among o) (sym (seen_one pre t false seen ∙ append-nil (seen_names S sight P pre)))) (along pre t more e)
  gets_step t more later next v os pre at it knows same e true seen true old =
      subst (λ q. GotAll next v (cond q (Got n (version_of answers t.1) ∷ []) [] ++ gots_to sight n (t.1 ∷ os) (map versioned more)))
      (sym (neither (sight.has t.1.store) (is_among t.1 os) ∙ ap not old))
      (later next v (t.1 ∷ os) (pre ++ t ∷ []) at it (knows_again S sight P os answers v.known knows t.1 old) (same_on os pre t seen same) (along pre t more e))
  gets_step t more later next v os pre at it knows same e true seen false old =
      let there : In t full.touches = subst (In t) (sym e) (in_right t pre (t ∷ more) (inl refl)) in
      let answer = touched_answered S sight P shared w log cs k stands n me t there in
      let row = answer.0 in
      let name : row.0 ≡ t.1 = row_of_name name_of answers t.1 row answer.1 in
      let outside : sight.has t.1.store ≡ false = (or_parts (sight.has t.1.store) (is_among t.1 os) old).0 in
      let shown : is_shown sight P row.0 ≡ true =
      subst (λ o. is_shown sight P o ≡ true) (sym name) (and_from (sight.shows t.1.class) (not (sight.has t.1.store)) (and_parts (sight.in_view t.0) (sight.shows t.1.class) seen).1
      (ap not outside)) in
      let dated = answer_dated S sight P shared w log cs k stands n me row (row_listed name_of answers t.1 row answer.1) shown in
      let tabled : row_at k.table t.1 (version_of answers t.1) ≡ row ∷ [] =
      ap (row_at k.table t.1) (version_of_row answers t.1 row answer.1) ∙ subst (λ o. row_at k.table o row.1 ≡ row ∷ []) name dated.known in
      let learns = λ (u : WorkerSeen). got_by sight P next.table (version_of answers t.1) (run sight P n u).ending u in
      let learned : learns v ≡ record v { known = v.known ++ row ∷ [] } =
      ap (λ table. got_by sight P table (version_of answers t.1) (run sight P n v).ending v) at.tabled
      ∙ ap (λ ending. got_by sight P k.table (version_of answers t.1) ending v) (lacks_next t more v os pre it knows same e seen old)
      ∙ ap (λ b. if b then v else record v { known = v.known ++ row_at k.table t.1 (version_of answers t.1) }) outside
      ∙ ap (λ rows. record v { known = v.known ++ rows }) tabled in
      let r = later (after sight P next (Got n (version_of answers t.1) ∷ [])) (record v { known = v.known ++ row ∷ [] }) (t.1 ∷ os) (pre ++ t ∷ [])
      (at_as sight P k (after sight P next (Got n (version_of answers t.1) ∷ [])) n (learns v) (record v { known = v.known ++ row ∷ [] }) k.table learned
      (at_next sight P k next n v k.table learns at))
      (runs_on v (v.known ++ row ∷ []) it)
      (knows_told S sight P os answers v.known knows t.1 row name answer.1 (known_out S sight P os answers v.known knows t.1 old))
      (same_on os pre t seen same) (along pre t more e) in
      subst (λ q. GotAll next v (cond q (Got n (version_of answers t.1) ∷ []) [] ++ gots_to sight n (t.1 ∷ os) (map versioned more)))
      (sym (neither (sight.has t.1.store) (is_among t.1 os) ∙ ap not old))
      (record { known = r.known; at = r.at; knows = r.knows; quiet = r.quiet })

  pub gets_all : (more : List (ℕ × Oid)) → Gets more
  gets_all [] next v os pre at it knows same e = record {
    known = v.known;
    at = at;
    knows = knows_as S sight P os (seen_names S sight P full.touches) answers v.known
        (λ o. same o ∙ ap (λ ts. is_among o (seen_names S sight P ts)) (sym (e ∙ append-nil pre))) knows;
    quiet = refl;
  }
  gets_all (t ∷ more) next v os pre at it knows same e =
      gets_step t more (gets_all more) next v os pre at it knows same e (is_seen sight t) refl (sight.has t.1.store || is_among t.1 os) refl
