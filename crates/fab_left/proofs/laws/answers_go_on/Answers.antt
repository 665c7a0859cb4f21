use Rattle.std.proofs.Common.{◌∙◌, []}
use Rattle.fab_left.proofs.Stacks.{answer_begun, answer_stems}
use Rattle.fab_left.proofs.laws.answers_go_on.Goals as goal

pub returns : goal.returns
returns c = record {
  begun = λ m p tid does known ks t o x new h. answer_begun o x tid known new m p does ks t h;
  kept = λ m p tid does known js ks s t h k more fresh. h more fresh ∙ k more fresh;
  now = λ m p tid does known ks t h. h [] tt;
  stem = λ tid known ks t o x new h. answer_stems o x tid known new ks t h;
}
