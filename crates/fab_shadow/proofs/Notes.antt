-- The changes that an event's notes tell are of attempts of its node.
use Rattle.std.proofs.Common.{◌≡◌, ℕ, List, [], ◌++◌, map, ◌&&◌, cond, Option, refl, sym, ap, ◌∙◌}
use Rattle.std.specs.Prelude.{◌==◌}
use Rattle.std.specs.List.{AllByRecursion}
use Rattle.std.proofs.lemmas.Bool.{ne_eqb, and_left}
use Rattle.fab_base.specs.declared.object.Object.{Object}
use Rattle.fab_base.specs.declared.object.Oid.{Oid}
use Rattle.fab_base.specs.declared.object.Tid.{Tid}
use Rattle.fab_base.specs.declared.object.Value.{Value}
use Rattle.fab_base.specs.declared.message.Message.{Message}
use Rattle.fab_language.specs.Meaning.{Meant}
use Rattle.fab_net.specs.declared.event.Inner.{Inner}
use Rattle.fab_net.specs.declared.event.Inner.TheVariants as i
use Rattle.fab_net.specs.declared.note.Note.{Note}
use Rattle.fab_net.specs.declared.note.Note.TheVariants as note
use Rattle.fab_rights.specs.declared.rights.Rights.{Rights}
use Rattle.fab_protocol.specs.declared.parts.Parts.{Parts}
use Rattle.fab_protocol.specs.Stores as stores
use Rattle.fab_protocol.specs.Stores.{Shelf}
use Rattle.fab_protocol.specs.Versions.{Row}
use Rattle.fab_protocol.proofs.StoreActs.{answered}
use Rattle.fab_world.specs.Attempts.{parts_of}
use Rattle.fab_world.specs.Machine.{Setting, World, kept, shelf, node_of, act, front_of, meant, parts}
use Rattle.fab_world.specs.Workers.{Act, Attempt, Kept, new_downs, new_touches, resumes, takes, tid_of}
use Rattle.fab_world.proofs.WorkerActs.{heard, resumed, taken, woken}
use Rattle.fab_release.specs.Record.{changes_in}

-- the changes that a note tells are of attempts of this node
abbrev pub IsOwn : ℕ → Note → Type 0
IsOwn n note = (t : Tid) → (t.worker ≡ n → ⊥) → changes_in t note ≡ []

abbrev pub AreOwn : ℕ → List Note → Type 0
AreOwn n notes = AllByRecursion (IsOwn n) notes

abbrev OwnAct : ℕ → Act → Type 0
OwnAct n act = AreOwn n act.notes

pub own_ended : (n : ℕ) (u : Tid) → u.worker ≡ n → (value : Option Value) (touches : List (ℕ × Oid × ℕ)) (downs : List (ℕ × Value)) (writes : List Row)
    (creates : List (Oid × Object)) → IsOwn n (note.Ended u value touches downs writes creates)
own_ended n u at value touches downs writes creates t apart =
    ap (λ b. cond b (map (λ (w : Row). w.0) writes ++ map (λ (c : Oid × Object). c.0) creates) [])
    (and_left (u.worker == t.worker) ((u.boot == t.boot) && (u.number == t.number)) (ne_eqb u.worker t.worker (λ e. apart (sym e ∙ at))))

module _ (rights : Rights) (k n : ℕ) (kept : Kept) (a : Attempt) where
  own_resumes : (meant : Meant) → OwnAct n (resumes rights k n kept a meant)
  own_resumes meant =
      let parts : Parts = parts_of a.answers meant in
      let told = λ (value : Option Value).
      own_ended n (tid_of n kept a) refl value (new_touches a meant) (new_downs a meant) parts.writes parts.creates in
      resumed rights k n kept a meant (OwnAct n) (record {
        finds = λ site o row is there. ((λ t ne. refl), tt);
        fetches = λ site o is none. ((λ t ne. refl), tt);
        decides = λ value is none. (told value, ((λ t ne. refl), ((λ t ne. refl), tt)));
        asks = λ value s ss is at. (told value, tt);
        fails = λ is. ((λ t ne. refl), ((λ t ne. refl), tt));
        stops = λ limit is. ((λ t ne. refl), ((λ t ne. refl), tt));
      })

  own_takes : (s : ℕ) (message : Message) (parts : Parts) → OwnAct n (takes rights k n kept s message a parts)
  own_takes s message parts = taken rights k n kept s a parts message (OwnAct n) (record {
    rests = λ h. tt;
    learns = λ x h. tt;
    denied = λ reason x. ((λ t ne. refl), ((λ t ne. refl), tt));
    tires = λ x h. ((λ t ne. refl), ((λ t ne. refl), tt));
    tries = λ x h. ((λ t ne. refl), tt);
    gives_up = λ x h. ((λ t ne. refl), ((λ t ne. refl), tt));
    aborts = λ x h. ((λ t ne. refl), tt);
    decides = λ x h. ((λ t ne. refl), ((λ t ne. refl), tt));
    waits = λ x l ls h. tt;
    commits = λ x h. tt;
    forgets = λ x h g. tt;
  })

-- ---- a store tells of no changes

own_says : (rights : Rights) (s n : ℕ) (message : Message) (shelf : Shelf) → AreOwn s (stores.says rights s n message shelf).notes
own_says rights s n message shelf = answered rights s n shelf (λ said. AreOwn s said.notes) message (record {
  rests = λ h. tt;
  lacks = λ t o h. tt;
  bars = λ t o h. tt;
  shows = λ t o row h there. tt;
  too_late = λ t items h. ((λ u ne. refl), tt);
  votes_on = λ t items h above. ((λ u ne. refl), tt);
  applies = λ t h there. ((λ u ne. refl), tt);
  releases = λ t h there. tt;
  boots = λ b h later. tt;
})

-- ---- an event

-- each event's notes are of its node's attempts
pub act_own : (S : Setting) (w : World) (e : Inner) → AreOwn (node_of e) (act S w e).notes
act_own S w (i.Begin n) = ((λ t ne. refl), tt)
act_own S w (i.Resume n) = own_resumes S.rights S.cache n (kept S w n) (w.node n).attempt (meant S w n)
act_own S w (i.Deliver a b) =
    heard S w (OwnAct b) a b tt (λ message worker. own_takes S.rights S.cache b (kept S w b) (w.node b).attempt a message (parts S w b))
    (λ message store. own_says S.rights b a message (shelf S w b)) (S.read (front_of (w.queue a b)))
act_own S w (i.Idle n s) = ((λ t ne. refl), ((λ t ne. refl), tt))
act_own S w (i.Recover n) = woken S w (OwnAct n) n (λ worker. tt) (λ store. tt)
