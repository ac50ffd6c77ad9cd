use Rattle.std.proofs.Common.{◌≡◌, ◌≤◌, ◌^◌, drop, None, IfSome, false}
use Rattle.std.specs.Option.{option_copied}
use Rattle.no_app.specs.Words.{scanned}
use Rattle.no_app.proofs.words.scan.Given as goal

abbrev pub invariant-loop-word : goal.invariant-loop-word
invariant-loop-word l = record {
  rest : scanned (drop l.word-index l.words) l.heard.waiting (option_copied l.heard.file) l.heard.steps ≡ scanned l.words false None None;
  within : IfSome l.heard.steps (λ n. n ≤ 2 ^ 32);
}
