use Rattle.std.proofs.Common.{◌≡◌, true, take, map}
use Rattle.std.specs.List.{list_all}
use Rattle.cfa_words.specs.Words.{is_class}
use Rattle.cfa_words.proofs.words.classes_between_commas.Given as goal

abbrev pub invariant-loop-part : goal.invariant-loop-part
invariant-loop-part l = record {
  classes : l.classes ≡ take l.part-index (map (λ t. t.now) l.part-items);
  pass : list_all is_class (take l.part-index (map (λ t. t.now) l.part-items)) ≡ true;
}
