use Rattle.std.proofs.Common.{refl}
use Rattle.fab_protocol.proofs.Commits.{written, made, unchanged, read_version, version_rises, new_before, none_without, others_as}
use Rattle.fab_protocol.proofs.laws.commits_apply_what_is_prepared.Goals as goal

pub returns : goal.returns
returns c = record {
  written = λ rights s shelf t items w h has. written rights s shelf h t items has w;
  current = λ rights s shelf t items w h has. read_version rights s shelf h t items has w;
  rises = λ rights s shelf t items w h has. version_rises rights s shelf h t items has w;
  made = λ rights s shelf t items c h has. made rights s shelf h t items has c;
  new = λ rights s shelf t items c h has. new_before rights s shelf h t items has c;
  unchanged = λ rights s shelf t items o h has. unchanged rights s shelf h t items has o;
  gone = λ t shelf. none_without t shelf.prepared;
  others = λ t u shelf. others_as t u shelf.prepared;
  senders = λ t shelf. refl;
}
