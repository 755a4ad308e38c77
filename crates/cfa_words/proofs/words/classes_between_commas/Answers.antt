use Rattle.std.proofs.Common.{◌≡◌, ◌∙◌, ◌+◌, ◌++◌, ◌∷◌, ◌&&◌, ◌==◌, ◌<◌, [], ap, ap₂, sym, map, true, false, Bool, cond, Bor, List, ℕ, None, Some, arith, length, get_or, take}
use Rattle.std.specs.List.{list_all, slice_split}
use Rattle.std.proofs.lemmas.List.{get_or-map, length-map, take_more}
use Rattle.std.proofs.lemmas.List.Folds.{list_all-map, list_all_at, list_all_more}
use Rattle.cfa_base.specs.Index.{Text}
use Rattle.cfa_words.specs.Words.{class_list, is_class}
use Rattle.cfa_words.proofs.words.classes_between_commas.Goals as goal

abbrev text_of : Bor Text → Text
text_of t = t.now

fails_at : (xs : List (Bor Text)) (i : ℕ) (d : Bor Text) → i < length xs → is_class (get_or xs i d).now ≡ false → list_all is_class (map text_of xs) ≡ false
fails_at xs i d lt e = list_all-map is_class text_of xs ∙ list_all_at (λ (t : Bor Text). is_class t.now) xs i d lt e

refused : (text : Text) (parts : List Text) → parts ≡ slice_split (λ b. b == 44) text → list_all is_class parts ≡ false → None ≡ class_list text
refused text parts is e = sym (ap (λ (b : Bool). cond b (Some (slice_split (λ b. b == 44) text)) None) (sym (ap (list_all is_class) is) ∙ e))

one_more : (xs : List (Bor Text)) (i : ℕ) (d : Bor Text) (so_far now : List Text) (name : Text) → i < length xs → so_far ≡ take i (map text_of xs) → now ≡ so_far ++ name ∷ []
    → name ≡ (get_or xs i d).now → now ≡ take (i + 1) (map text_of xs)
one_more xs i d so_far now name lt is pushed read =
    let inside : i < length (map text_of xs) = omega (arith, length-map xs text_of) in
    pushed ∙ ap₂ (λ (ys : List Text) (y : Text). ys ++ y ∷ []) is (read ∙ sym (get_or-map text_of xs i d [] lt)) ∙ sym (take_more (map text_of xs) i [] inside)

passes_more : (xs : List (Bor Text)) (i : ℕ) (d : Bor Text) → i < length xs → list_all is_class (take i (map text_of xs)) ≡ true → is_class (get_or xs i d).now ≡ true
    → list_all is_class (take (i + 1) (map text_of xs)) ≡ true
passes_more xs i d lt before here =
    let inside : i < length (map text_of xs) = omega (arith, length-map xs text_of) in
    list_all_more is_class (map text_of xs) i [] inside ∙ ap₂ (λ (a b : Bool). a && b) before (ap is_class (get_or-map text_of xs i d [] lt) ∙ here)

pub returns-then-not-is_class : goal.returns-then-not-is_class
returns-then-not-is_class c =
    refused c.args.list.now (map text_of c.deref-part-items.result.now) (ap (map text_of) c.deref-part-items.ensures.value ∙ c.in_ok-parts.ensures)
    (fails_at c.deref-part-items.result.now c.loop-part.part-index _ c.loop-part-test.true (sym c.is_class.ensures ∙ c.if-not-is_class.true))

pub loop-part-preserved : goal.loop-part-preserved
loop-part-preserved c =
    let xs = c.deref-part-items.result.now in
    record {
      classes = one_more xs c.loop-part.part-index _ c.loop-part.classes c.push.new.self c.in_ok-from_text.field-0 c.loop-part-test.true c.loop-part.invariant.classes c.in_ok-push.ensures.ok c.in_ok-from_text.ensures;
      pass = passes_more xs c.loop-part.part-index _ c.loop-part-test.true c.loop-part.invariant.pass (sym c.is_class.ensures ∙ c.if-not-is_class.false);
    }
