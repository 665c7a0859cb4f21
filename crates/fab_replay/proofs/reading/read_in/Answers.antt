use Rattle.std.proofs.Common.{◌∙◌, refl, ap, option_copied, sym, true≢false}
use Rattle.fab_replay.proofs.Readable.{not_of_class, not_of_hostile}
use Rattle.fab_replay.proofs.reading.read_in.Goals as goal

pub returns-then-is_hostile : goal.returns-then-is_hostile
returns-then-is_hostile c =
    not_of_hostile c.args.program.now c.args.root.now c.in-Some.root.now (sym c.root_named.ensures ∙ ap option_copied c.in-Some.is) (sym c.is_hostile.ensures ∙ c.if-is_hostile.true)

pub returns-then-not-is_in : goal.returns-then-not-is_in
returns-then-not-is_in c =
    not_of_class c.args.program.now c.args.root.now c.in-Some.root.now (sym c.root_named.ensures ∙ ap option_copied c.in-Some.is)
    (λ k. true≢false (sym ((c.in_ok-classes.ensures c.in-Some.root.now.oid.class).1 k) ∙ sym c.is_in.ensures.computed ∙ c.if-not-is_in.true))

pub returns : goal.returns
returns c = record {
  readable = record {
    root = c.in-Some.root.now;
    found = sym c.root_named.ensures ∙ ap option_copied c.in-Some.is;
    object = refl;
    honest = sym c.is_hostile.ensures ∙ c.if-is_hostile.false;
    trusted = (c.in_ok-classes.ensures c.in-Some.root.now.oid.class).0 (sym c.is_in.ensures.computed ∙ c.if-not-is_in.false);
  };
  times_are = refl;
  classes = c.in_ok-classes.ensures;
}
