-- A worker alone: what it does when its evaluation is over, and the ends of attempts with their notes.
use Rattle.std.proofs.Common.{◌≡◌, ℕ, List, [], ◌∷◌, ◌++◌, pos, true, false, Some, None, refl}
use Rattle.std.specs.Prelude.{slice_set}
use Rattle.fab_base.specs.declared.object.Oid.{Oid}
use Rattle.fab_base.specs.declared.object.Tid.{Tid}
use Rattle.fab_base.specs.declared.object.Stop.TheVariants as stop
use Rattle.fab_base.specs.declared.object.Value.{Value}
use Rattle.fab_base.specs.declared.object.Value.TheVariants.{Int}
use Rattle.fab_base.specs.declared.message.Message.{Message}
use Rattle.fab_base.specs.declared.message.Message.TheVariants.{Fetch, Object, Deny, Prepare, Vote, Abort, Inquire, Commit}
use Rattle.fab_base.specs.declared.message.Answer.TheVariants.{Yes, Locked}
use Rattle.fab_base.specs.declared.message.Why.TheVariants as why
use Rattle.fab_base.specs.declared.entry.Entry.TheVariants as e
use Rattle.fab_language.specs.Meaning.{Meant}
use Rattle.fab_language.specs.declared.ending.Ending.{Ending}
use Rattle.fab_language.specs.declared.ending.Ending.TheVariants as means
use Rattle.fab_net.specs.declared.outcome.ReqOutcome.TheVariants.{Committed, Failed, Conflict, Denied, Stopped}
use Rattle.fab_net.specs.declared.outcome.Denial.TheVariants.{Rights, IllFormed}
use Rattle.fab_net.specs.declared.note.Note.TheVariants as note
use Rattle.fab_protocol.specs.declared.parts.Parts.{Parts}
use Rattle.fab_protocol.specs.Versions.{Rows}
use Rattle.fab_world.specs.Workers.{Kept, Attempt, Act, Idle, Evaluating, Fetching, Preparing, kept_of, fresh, stays, begins, resumes, takes}
use Rattle.fab_protocol.proofs.Toy.{account, box, holding, attempt, made, rights}

abbrev t : Tid
t = attempt 0 2 3

-- in boot 2, at request 2
abbrev K : Kept
K = record { boot = 2; decided = []; outcomes = Failed ∷ [] }

abbrev answers : Rows
answers = (account 0, 7, holding (pos 3)) ∷ []

-- attempt 3, with an answer and a cached object; one touch and one downgrade were noted
abbrev A : Attempt
A = record fresh { number = 3; tries = 2; phase = Evaluating; answers = answers; caches = slice_set fresh.caches 1 ((account 1, 5, holding (pos 0)) ∷ []); told = (1, 1) }

-- an evaluation that touched account 0 at two sites and downgraded two values, and ended so
abbrev meant : Ending → Meant
meant ending = record {
  ending = ending;
  map = (account 0, holding (pos 3)) ∷ [];
  written = [];
  made = [];
  touches = (1, account 0) ∷ (2, account 0) ∷ [];
  downs = (4, Int (pos 8)) ∷ (5, Int (pos 9)) ∷ [];
}

abbrev resumed : Ending → Act
resumed ending = resumes rights 2 0 K A (meant ending)

-- what is new since the last evaluation
abbrev touches : List (ℕ × Oid × ℕ)
touches = (2, account 0, 7) ∷ []

abbrev downs : List (ℕ × Value)
downs = (5, Int (pos 9)) ∷ []

-- nothing is left of the answers and the caches
abbrev idle : ℕ → Attempt
idle tries = record fresh { number = 3; tries = tries }

-- ---- attempts begin

first_attempt : begins rights 0 0 K fresh
    ≡ record { entry = None; attempt = record fresh { number = 1; phase = Evaluating }; sends = []; notes = note.Begun (attempt 0 2 1) 2 ∷ [] }
first_attempt = refl

next_attempt : begins rights 0 0 K (record A { phase = Idle }) ≡ record {
  entry = None;
  attempt = record A { number = 4; phase = Evaluating; answers = []; told = (0, 0) };
  sends = [];
  notes = note.Begun (attempt 0 2 4) 2 ∷ [];
}
next_attempt = refl

-- ---- evaluations

failed : resumed means.Failed
    ≡ record { entry = Some (e.Closed 2 1 65535); attempt = idle 0; sends = []; notes = note.Failed t touches downs ∷ note.Closed 2 Failed ∷ [] }
failed = refl

stopped : resumed (means.Stopped stop.Reads) ≡ record {
  entry = Some (e.Closed 2 8 65535);
  attempt = idle 0;
  sends = [];
  notes = note.Stopped t stop.Reads touches downs ∷ note.Closed 2 (Stopped stop.Reads) ∷ [];
}
stopped = refl

-- a cached object is an answer at once, with the version that the cache has, and stays cached
cached : resumed (means.Missing 9 (account 1)) ≡ record {
  entry = None;
  attempt = record A { answers = answers ++ (account 1, 5, holding (pos 0)) ∷ []; told = (2, 2) };
  sends = [];
  notes = note.Need t 9 (account 1) true touches downs ∷ [];
}
cached = refl

fetched : resumed (means.Missing 9 box) ≡ record {
  entry = None;
  attempt = record A { phase = Fetching box; told = (2, 2) };
  sends = (4, Fetch t box) ∷ [];
  notes = note.Need t 9 box false touches downs ∷ [];
}
fetched = refl

prepared : resumed (means.Ended (Some (Int (pos 1)))) ≡ record {
  entry = None;
  attempt = record A { phase = Preparing (1 ∷ []); told = (2, 2) };
  sends = (1, Prepare t (record { reads = (account 0, 7) ∷ []; writes = []; creates = [] })) ∷ [];
  notes = note.Ended t (Some (Int (pos 1))) touches downs [] [] ∷ [];
}
prepared = refl

-- an attempt that touched and made nothing is decided at once; its caches stay
nothing_touched : resumes rights 2 0 K (record A { answers = []; told = (0, 0) }) (record (meant (means.Ended None)) { map = []; touches = []; downs = [] }) ≡ record {
  entry = Some (e.Decided t 2 None []);
  attempt = record A { tries = 0; phase = Idle; answers = []; told = (0, 0) };
  sends = [];
  notes = note.Ended t None [] [] [] [] ∷ note.Decided t 2 true [] ∷ note.Closed 2 (Committed t None) ∷ [];
}
nothing_touched = refl

-- ---- ends of attempts

abbrev parts : Parts
parts = record { value = None; touched = (account 0, 7) ∷ (box, 4) ∷ []; writes = (account 0, 7, holding (pos 2)) ∷ []; creates = [] }

abbrev preparing : ℕ → List ℕ → Attempt
preparing tries ls = record A { phase = Preparing ls; tries = tries }

abbrev fetching : Oid → Attempt
fetching o = record A { phase = Fetching o }

abbrev on : Attempt → ℕ → Message → Act
on a s message = takes rights 2 0 K s message a parts

-- a commit, by the last vote or by an Inquire in its place: each participant hears of it, tries are 0, and what was touched is cached
committed : on (preparing 2 (4 ∷ [])) 4 (Vote t Yes) ≡ record {
  entry = Some (e.Decided t 2 None (1 ∷ 4 ∷ []));
  attempt = record (idle 0) { caches = slice_set A.caches 1 ((account 1, 5, holding (pos 0)) ∷ (account 0, 8, holding (pos 2)) ∷ []) };
  sends = (1, Commit t) ∷ (4, Commit t) ∷ [];
  notes = note.Decided t 2 true answers ∷ note.Closed 2 (Committed t None) ∷ [];
}
committed = refl

by_an_inquire : on (preparing 2 (4 ∷ [])) 4 (Inquire t) ≡ on (preparing 2 (4 ∷ [])) 4 (Vote t Yes)
by_an_inquire = refl

seventh_no : on (preparing 6 (4 ∷ [])) 1 (Vote t (Locked t))
    ≡ record { entry = None; attempt = idle 7; sends = (1, Abort t) ∷ (4, Abort t) ∷ []; notes = note.Decided t 2 false answers ∷ [] }
seventh_no = refl

eighth_no : on (preparing 7 (4 ∷ [])) 1 (Vote t (Locked t)) ≡ record {
  entry = Some (e.Closed 2 2 65535);
  attempt = idle 0;
  sends = (1, Abort t) ∷ (4, Abort t) ∷ [];
  notes = note.Decided t 2 false answers ∷ note.Closed 2 Conflict ∷ [];
}
eighth_no = refl

denied_rights : on (fetching box) 4 (Deny t box why.Rights) ≡ record {
  entry = Some (e.Closed 2 4 4);
  attempt = idle 0;
  sends = [];
  notes = note.Decided t 2 false answers ∷ note.Closed 2 (Denied 4 Rights) ∷ [];
}
denied_rights = refl

ill_formed : on (fetching box) 4 (Object t box 0 (holding (pos 1))) ≡ record {
  entry = Some (e.Closed 2 5 4);
  attempt = idle 0;
  sends = [];
  notes = note.Decided t 2 false answers ∷ note.Closed 2 (Denied 4 IllFormed) ∷ [];
}
ill_formed = refl

-- ---- objects that this worker made: taken of attempts before this one, and of no other

of_an_attempt_before : on (fetching (made (attempt 0 2 2))) 1 (Object t (made (attempt 0 2 2)) 1 (holding (pos 8)))
    ≡ stays (record A { answers = answers ++ (made (attempt 0 2 2), 1, holding (pos 8)) ∷ [] })
of_an_attempt_before = refl

of_a_boot_before : on (fetching (made (attempt 0 1 9))) 1 (Object t (made (attempt 0 1 9)) 1 (holding (pos 8)))
    ≡ stays (record A { answers = answers ++ (made (attempt 0 1 9), 1, holding (pos 8)) ∷ [] })
of_a_boot_before = refl

of_a_later_attempt : (on (fetching (made (attempt 0 2 4))) 1 (Object t (made (attempt 0 2 4)) 1 (holding (pos 8)))).entry ≡ Some (e.Closed 2 5 1)
of_a_later_attempt = refl

of_a_later_boot : (on (fetching (made (attempt 0 3 1))) 1 (Object t (made (attempt 0 3 1)) 1 (holding (pos 8)))).entry ≡ Some (e.Closed 2 5 1)
of_a_later_boot = refl

of_another_worker : on (fetching (made (attempt 3 9 9))) 1 (Object t (made (attempt 3 9 9)) 1 (holding (pos 8)))
    ≡ stays (record A { answers = answers ++ (made (attempt 3 9 9), 1, holding (pos 8)) ∷ [] })
of_another_worker = refl
