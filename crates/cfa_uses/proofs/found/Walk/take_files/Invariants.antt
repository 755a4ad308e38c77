use Rattle.std.proofs.Common.{◌≡◌, take}
use Rattle.cfa_uses.specs.Found.{AllHaveTokens}
use Rattle.cfa_uses.proofs.found.Walk.take_files.Given as goal

-- each file so far has tokens, and before the first one nothing was found
abbrev pub invariant-loop-file : goal.invariant-loop-file
invariant-loop-file l = record {
  tokens : AllHaveTokens (take l.file-index l.files);
  none : l.file-index ≡ 0 → l.self ≡ l.fn.self;
}
