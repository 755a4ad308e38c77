use Rattle.std.proofs.Common.{◌∙◌, ◌++◌, ◌∷◌, [], ap, ap₂, sym, map, true, Bor, List, ℕ, Bool, ◌&&◌}
use Rattle.std.specs.List.{list_all}
use Rattle.std.specs.Str.{is_utf8}
use Rattle.std.proofs.lemmas.List.{map-append, take_more}
use Rattle.std.proofs.lemmas.List.Folds.{list_all-append}
use Rattle.std.proofs.lemmas.Str.{is_utf8-from_IsUtf8}
use Rattle.cfa_words.proofs.words.texts_of.Goals as goal

pub loop-word-preserved : goal.loop-word-preserved
loop-word-preserved c =
    let text_of : Bor (List ℕ) → List ℕ = λ t. t.now in
    let joined = ap (map text_of) c.in_ok-push.ensures.items ∙ map-append text_of c.loop-word.texts.items (c.as_str.result ∷ []) in
    let read = is_utf8-from_IsUtf8 c.as_str.result.now c.as_str.utf8 in
    record {
      texts = joined ∙ ap₂ (λ (xs : List (List ℕ)) (x : List ℕ). xs ++ x ∷ []) c.loop-word.invariant.texts (c.as_str.ensures ∙ c.word-item.is)
          ∙ sym (take_more c.args.words.now c.loop-word.word-index c.word-item.result c.loop-word-test.true);
      utf8 = ap (list_all is_utf8) joined ∙ list_all-append is_utf8 (map text_of c.loop-word.texts.items) (c.as_str.result.now ∷ [])
          ∙ ap₂ (λ (a b : Bool). a && (b && true)) c.loop-word.invariant.utf8 read;
    }
