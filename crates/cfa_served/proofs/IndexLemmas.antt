-- The tables of an index: what a table answers once a block more was passed.
use Rattle.std.proofs.Common.{◌≡◌, ◌<◌, ◌≤◌, ℕ, ◌+◌, Bool, true, false, cond, List, [], ◌∷◌, ◌++◌, length, Option, Some, None, sym, ap, refl, ◌∙◌, arith, map, take, get_or, subst}
use Rattle.std.specs.Prelude.{is_some, slice_get, option_and_then, nat_lt, find, option_copied}
use Rattle.std.specs.Option.{option_or}
use Rattle.std.specs.List.{position, position_or_len}
use Rattle.std.specs.Str.{bytes_eq}
use Rattle.std.proofs.lemmas.Map.Text.{is_eq-slice_cmp}
use Rattle.std.proofs.lemmas.List.{length-map, map-append, take_more, take_all, length-take-le}
use Rattle.std.specs.Cmp.Lexicographic.{nat_list_cmp_total}
use Rattle.std.specs.FinMap as finite
use Rattle.std.proofs.lemmas.List.Folds.{find_at}
use Rattle.std.proofs.lemmas.Option.{slice_get_past}
use Rattle.std.proofs.lemmas.Bool.Decides.{nat_tests}
use denote.Ref.{Bor}
use Rattle.cfa_base.specs.IndexTables.{Notes}
use Rattle.cfa_base.specs.TextMaps.{TextMap}
use Rattle.cfa_base.specs.lemmas.Lists.{place_push, option_or-none}
use Rattle.cfa_base.specs.lemmas.EqualTexts.{is_text}
use Rattle.cfa_tree.specs.declared.blocks.Block.{Block}
use Rattle.cfa_tree.specs.Plain.{plain_block}
use Rattle.cfa_tree.specs.Tree.{PolicyTree}
use Rattle.cfa_served.specs.declared.index.Wanted.{Wanted}
use Rattle.cfa_served.specs.declared.index.Wanted.TheVariants.{Bundle, Body}
use Rattle.cfa_served.specs.declared.index.Index.{Index}
use Rattle.cfa_kinds.specs.declared.kinds.BodyType.TheVariants as bodies
use Rattle.cfa_served.specs.Indexed.{AnswersPlaces, IsIndex, is_name, is_wanted, place_of}

or_some : {A : Type 0} → (o p : Option A) → is_some o ≡ true → o ≡ option_or o p
or_some None p e = cc
or_some (Some x) p e = refl

from_none : {A : Type 0} → (o p : Option A) → o ≡ None → p ≡ option_or o p
from_none None p e = refl
from_none (Some x) p e = cc

kept_by : (m : TextMap ℕ) (name q : List ℕ) (place : ℕ) (b : Bool) → bytes_eq q name ≡ b → is_some (finite.get m name) ≡ true →
    finite.get m q ≡ option_or (finite.get m q) (cond b (Some place) None)
kept_by m name q place true e some = or_some (finite.get m q) (Some place) (ap (λ k. is_some (finite.get m k)) (is_text q name e) ∙ some)
kept_by m name q place false e some = sym (option_or-none (finite.get m q))

-- a name that has a place keeps it
pub place_kept : (m : TextMap ℕ) (name : List ℕ) (place : ℕ) → is_some (finite.get m name) ≡ true →
    Notes bytes_eq (finite.get m) (finite.get m) name place
place_kept m name place some q = kept_by m name q place (bytes_eq q name) refl some

none_is : (o : Option ℕ) → is_some o ≡ false → o ≡ None
none_is None e = refl
none_is (Some x) e = cc

put_by : (m : TextMap ℕ) (name q : List ℕ) (place : ℕ) (b : Bool) → bytes_eq q name ≡ b → is_some (finite.get m name) ≡ false →
    cond b (Some place) (finite.get m q) ≡ option_or (finite.get m q) (cond b (Some place) None)
put_by m name q place true e none = from_none (finite.get m q) (Some place) (none_is (finite.get m q) (ap (λ k. is_some (finite.get m k)) (is_text q name e) ∙ none))
put_by m name q place false e none = sym (option_or-none (finite.get m q))

-- a name that had none gets this one
pub place_put : (m n : TextMap ℕ) (name : List ℕ) (place : ℕ) → is_some (finite.get m name) ≡ false → n ≡ finite.insert m name place →
    Notes bytes_eq (finite.get m) (finite.get n) name place
place_put m n name place none is q =
    ap (λ (k : TextMap ℕ). finite.get k q) is ∙ finite.get-insert nat_list_cmp_total m name place q
    ∙ ap (λ b. cond b (Some place) (finite.get m q)) (is_eq-slice_cmp q name)
    ∙ put_by m name q place (bytes_eq q name) refl none

module _ (wanted : Wanted) (blocks : List Block) (i : ℕ) (block : Block) (within : i < length blocks) (is : block ≡ get_or blocks i block) (before : TextMap ℕ)
    (answers : AnswersPlaces wanted before (map plain_block (take i blocks))) where
  abbrev passed : PolicyTree
  passed = map plain_block (take i blocks)

  one_more : map plain_block (take (i + 1) blocks) ≡ passed ++ plain_block block ∷ []
  one_more =
      ap (map plain_block) (take_more blocks i block within) ∙ map-append plain_block (take i blocks) (get_or blocks i block ∷ [])
      ∙ ap (λ b. map plain_block (take i blocks) ++ plain_block b ∷ []) (sym is)

  count : i ≡ length passed
  count = sym (length-map (take i blocks) plain_block ∙ length-take-le i blocks (omega (arith, within)))

  -- a block that isn't wanted is passed over
  pub place_passed : (found : Option (List ℕ)) → ((name : List ℕ) → is_wanted wanted name (plain_block block) ≡ is_name name found) → found ≡ None →
      AnswersPlaces wanted before (map plain_block (take (i + 1) blocks))
  place_passed found tests none name =
      answers name ∙ sym (option_or-none (position (is_wanted wanted name) passed))
      ∙ ap (λ b. option_or (position (is_wanted wanted name) passed) (cond b (Some i) None)) (sym (tests name ∙ ap (is_name name) none))
      ∙ sym (place_push (is_wanted wanted name) passed (plain_block block) i count)
      ∙ ap (position (is_wanted wanted name)) (sym one_more)

  -- the name of one that is has a place then
  pub place_more : (found : Option (List ℕ)) (n : List ℕ) (after : TextMap ℕ) → ((name : List ℕ) → is_wanted wanted name (plain_block block) ≡ is_name name found) → found ≡ Some n →
      Notes bytes_eq (finite.get before) (finite.get after) n i → AnswersPlaces wanted after (map plain_block (take (i + 1) blocks))
  place_more found n after tests some notes name =
      notes name ∙ ap (λ o. option_or o (cond (bytes_eq name n) (Some i) None)) (answers name)
      ∙ ap (λ b. option_or (position (is_wanted wanted name) passed) (cond b (Some i) None)) (sym (tests name ∙ ap (is_name name) some))
      ∙ sym (place_push (is_wanted wanted name) passed (plain_block block) i count)
      ∙ ap (position (is_wanted wanted name)) (sym one_more)

pub places_all : (wanted : Wanted) (blocks : List Block) (i : ℕ) (places : TextMap ℕ) → length blocks ≤ i → AnswersPlaces wanted places (map plain_block (take i blocks)) →
    AnswersPlaces wanted places (map plain_block blocks)
places_all wanted blocks i places past answers = subst (λ (bs : List Block). AnswersPlaces wanted places (map plain_block bs)) (take_all i blocks past) answers

at_place : {X : Type 0} (xs : List X) (n m : ℕ) (b : Bool) → nat_lt n m ≡ b → length xs ≡ m → slice_get xs n ≡ option_and_then (slice_get xs) (cond b (Some n) None)
at_place xs n m true e l = refl
at_place xs n m false e l = let past : length xs ≤ n = grind (arith, nat_tests) in slice_get_past xs n past

-- what is found stands at its first place
pub found_at : {X : Type 0} (p : X → Bool) (xs : List X) → find p xs ≡ option_and_then (slice_get xs) (position p xs)
found_at p xs = find_at p xs ∙ at_place xs (position_or_len p xs) (length xs) (nat_lt (position_or_len p xs) (length xs)) refl refl

pub copied_some : (o : Option (Bor ℕ)) → is_some (option_copied o) ≡ is_some o
copied_some None = refl
copied_some (Some x) = refl

-- where each table answers, so does the index
pub tables_answer : (index : Index) (policy : PolicyTree) → AnswersPlaces Bundle index.bundles policy →
    AnswersPlaces (Body bodies.Delete) index.delete policy →
    AnswersPlaces (Body bodies.CopyFrom) index.copy_from policy →
    AnswersPlaces (Body bodies.EditDefaults) index.edit_defaults policy →
    AnswersPlaces (Body bodies.Perms) index.perms policy →
    AnswersPlaces (Body bodies.Classes) index.classes policy →
    AnswersPlaces (Body bodies.Action) index.action policy →
    AnswersPlaces (Body bodies.Location) index.location policy →
    AnswersPlaces (Body bodies.ReplaceWith) index.replace_with policy →
    AnswersPlaces (Body bodies.EditField) index.edit_field policy →
    AnswersPlaces (Body bodies.Common) index.common policy →
    AnswersPlaces (Body bodies.Agent) index.agent policy →
    IsIndex index policy
unfolding place_of
tables_answer index policy bundles delete copy_from edit_defaults perms classes action location replace_with edit_field common agent Bundle name = bundles name
tables_answer index policy bundles delete copy_from edit_defaults perms classes action location replace_with edit_field common agent (Body bodies.Delete) name = delete name
tables_answer index policy bundles delete copy_from edit_defaults perms classes action location replace_with edit_field common agent (Body bodies.CopyFrom) name = copy_from name
tables_answer index policy bundles delete copy_from edit_defaults perms classes action location replace_with edit_field common agent (Body bodies.EditDefaults) name = edit_defaults name
tables_answer index policy bundles delete copy_from edit_defaults perms classes action location replace_with edit_field common agent (Body bodies.Perms) name = perms name
tables_answer index policy bundles delete copy_from edit_defaults perms classes action location replace_with edit_field common agent (Body bodies.Classes) name = classes name
tables_answer index policy bundles delete copy_from edit_defaults perms classes action location replace_with edit_field common agent (Body bodies.Action) name = action name
tables_answer index policy bundles delete copy_from edit_defaults perms classes action location replace_with edit_field common agent (Body bodies.Location) name = location name
tables_answer index policy bundles delete copy_from edit_defaults perms classes action location replace_with edit_field common agent (Body bodies.ReplaceWith) name = replace_with name
tables_answer index policy bundles delete copy_from edit_defaults perms classes action location replace_with edit_field common agent (Body bodies.EditField) name = edit_field name
tables_answer index policy bundles delete copy_from edit_defaults perms classes action location replace_with edit_field common agent (Body bodies.Common) name = common name
tables_answer index policy bundles delete copy_from edit_defaults perms classes action location replace_with edit_field common agent (Body bodies.Agent) name = agent name
