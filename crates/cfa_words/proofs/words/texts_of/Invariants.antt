use Rattle.std.proofs.Common.{◌≡◌, true, take, map}
use Rattle.std.specs.List.{list_all}
use Rattle.std.specs.Str.{is_utf8}
use Rattle.cfa_words.proofs.words.texts_of.Given as goal

abbrev pub invariant-loop-word : goal.invariant-loop-word
invariant-loop-word l = record {
  texts : map (λ t. t.now) l.texts.items ≡ take l.word-index l.words;
  utf8 : list_all is_utf8 (map (λ t. t.now) l.texts.items) ≡ true;
}
