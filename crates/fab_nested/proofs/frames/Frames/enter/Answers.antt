use Rattle.std.proofs.Common.{ℕ, [], ◌∷◌, ◌++◌, ap, sym, ◌∙◌, subst}
use Rattle.fab_nested.specs.Logs.{heap_of, IsLogged}
use Rattle.fab_nested.specs.Overlay.{rows_of}
use Rattle.fab_nested.proofs.Undoing.{logged_entered, entered_is}
use Rattle.fab_nested.proofs.frames.Frames.enter.Goals as goal

pub invariant_of-self-2 : goal.invariant_of-self-2
invariant_of-self-2 c =
    let e = c.in_ok-push.ensures.items ∙ ap (λ (n : ℕ). c.self.inside.marks.items ++ n ∷ []) (c.len.ensures ∙ c.self.inside.log.ok.0) in
    let h = heap_of c.self.inside.objects in
    record {
      below = c.self.invariant.below;
      above = subst (IsLogged c.self.inside.log.items h) (sym e) (logged_entered c.self.inside.log.items h c.self.inside.marks.items c.self.invariant.above);
    }

pub returns-clause-ok : goal.returns-clause-ok
returns-clause-ok c =
    let e = c.in_ok-push.ensures.items ∙ ap (λ (n : ℕ). c.self.inside.marks.items ++ n ∷ []) (c.len.ensures ∙ c.self.inside.log.ok.0) in
    entered_is c.self.inside.versions.entries (rows_of c.self.inside.known) c.self.inside.log.items (heap_of c.self.inside.objects) c.self.inside.marks.items c.push.new.self.items c.self.inside.touches c.args.self.now e c.self.view_is
