-- The promises of a bundle by their numbers.
use Rattle.std.proofs.Common.{cond, true, false, ◌≡◌, ◌<◌, ◌≤◌, ◌+◌, ◌-◌, ℕ, zero, suc, List, [], ◌∷◌, ◌++◌, length, drop, get_or, map, refl, ap, sym, ◌∙◌, arith}
use Rattle.std.specs.Prelude.{Option, Some, None, option_copied, option_map, slice_get, find, option_and_then}
use denote.Ref.{Bor}
use Rattle.std.specs.List.{flat_map}
use Rattle.std.proofs.lemmas.List.{drop_more, length-map}
use Rattle.std.proofs.lemmas.Option.{slice_get-map}
use Rattle.cfa_tree.specs.declared.promises.Promise.{Promise}
use Rattle.cfa_tree.specs.declared.sections.Section.{Section}
use Rattle.cfa_tree.specs.Plain.{plain_promise, plain_section}
use Rattle.cfa_tree.specs.Tree.{PromiseTree, BlockTree, bundle, body, PolicyTree}
use Rattle.cfa_served.specs.Checked.{worded_promises_of, given_in_bundle}
use Rattle.cfa_served.specs.Served.{bundle_of, if_bundle, is_bundle_of}
use Rattle.std.specs.Str.{bytes_eq}
use Rattle.cfa_served.specs.lemmas.Promises.{pair_with}

get_left : {X : Type 0} (xs ys : List X) (n : ℕ) → n < length xs → slice_get (xs ++ ys) n ≡ slice_get xs n
get_left [] ys n h = absurd (omega arith)
get_left (x ∷ xs) ys zero h = refl
get_left (x ∷ xs) ys (suc n) h = get_left xs ys n (omega arith)

get_right : {X : Type 0} (xs ys : List X) (n m : ℕ) → length xs ≤ n → m ≡ n - length xs → slice_get (xs ++ ys) n ≡ slice_get ys m
get_right [] ys n m h e = ap (slice_get ys) (omega arith)
get_right (x ∷ xs) ys zero m h e = absurd (omega arith)
get_right (x ∷ xs) ys (suc n) m h e = get_right xs ys n m (omega arith) (omega arith)

abbrev pub plain_with : List ℕ → Promise → List ℕ × PromiseTree
plain_with word p = (word, plain_promise p)

both_maps : (word : List ℕ) (promises : List Promise) → map (plain_with word) promises ≡ map (pair_with word) (map plain_promise promises)
both_maps word [] = refl
both_maps word (p ∷ ps) = ap (λ rest. plain_with word p ∷ rest) (both_maps word ps)

found_worded : (word : List ℕ) (found : Option (Bor Promise)) (promises : List Promise) (n : ℕ) → option_copied found ≡ slice_get promises n →
    option_map (λ p. plain_with word p.now) found ≡ slice_get (map (pair_with word) (map plain_promise promises)) n
found_worded word None promises n e =
    ap (option_map (plain_with word)) e ∙ sym (slice_get-map (plain_with word) promises n) ∙ ap (λ ps. slice_get ps n) (both_maps word promises)
found_worded word (Some p) promises n e =
    ap (option_map (plain_with word)) e ∙ sym (slice_get-map (plain_with word) promises n) ∙ ap (λ ps. slice_get ps n) (both_maps word promises)

abbrev worded : Section → List (List ℕ × PromiseTree)
worded s = worded_promises_of (plain_section s)

module _ (sections : List Section) (i : ℕ) (d : Section) (left : ℕ) (promises : List Promise) (within : i < length sections) (is : promises ≡ (get_or sections i d).promises) where
  abbrev here : List (List ℕ × PromiseTree)
  here = worded (get_or sections i d)

  abbrev rest : List (List ℕ × PromiseTree)
  rest = flat_map worded_promises_of (map plain_section (drop (i + 1) sections))

  one_more : flat_map worded_promises_of (map plain_section (drop i sections)) ≡ here ++ rest
  one_more = ap (λ ss. flat_map worded_promises_of (map plain_section ss)) (drop_more sections i d within)

  count_here : length here ≡ length promises
  count_here =
      length-map (map plain_promise (get_or sections i d).promises) (pair_with (get_or sections i d).kind)
      ∙ length-map (get_or sections i d).promises plain_promise ∙ ap length (sym is)

  -- the promise stands in this section
  pub promise_here : (found : Option (Bor Promise)) → option_copied found ≡ slice_get promises left → left < length promises →
      option_map (λ p. plain_with (get_or sections i d).kind p.now) found ≡ slice_get (flat_map worded_promises_of (map plain_section (drop i sections))) left
  promise_here found e h =
      found_worded (get_or sections i d).kind found promises left e
      ∙ ap (λ ps. slice_get (map (pair_with (get_or sections i d).kind) (map plain_promise ps)) left) is
      ∙ sym (get_left here rest left (let count = count_here in omega arith))
      ∙ ap (λ ps. slice_get ps left) (sym one_more)

  -- or in one behind it
  pub promise_behind : length promises ≤ left →
      slice_get (flat_map worded_promises_of (map plain_section (drop (i + 1) sections))) (left - length promises) ≡ slice_get (flat_map worded_promises_of (map plain_section (drop i sections))) left
  promise_behind h =
      sym (get_right here rest left (left - length promises) (let count = count_here in omega arith) (let count = count_here in omega arith))
      ∙ ap (λ ps. slice_get ps left) (sym one_more)

-- the promises of what was found by a name
abbrev pub promises_within : Option BlockTree → List (List ℕ × PromiseTree)
promises_within None = []
promises_within (Some (bundle type_name named params sections place)) = flat_map worded_promises_of sections
promises_within (Some (body type_name named params attributes place)) = []

found_within : (name : List ℕ) (policy : PolicyTree) → promises_within (option_and_then if_bundle (find (is_bundle_of name) policy)) ≡ given_in_bundle worded_promises_of name policy
found_within name [] = refl
found_within name (bundle type_name named params sections place ∷ rest) =
    elim (bytes_eq name named.name) as (λ b. promises_within (option_and_then if_bundle (cond b (Some (bundle type_name named params sections place)) (find (is_bundle_of name) rest))) ≡ cond b (flat_map worded_promises_of sections) (given_in_bundle worded_promises_of name rest))
    [ true ↦ refl | false ↦ found_within name rest ]
found_within name (body type_name named params attributes place ∷ rest) = found_within name rest

pub promises_found : (name : List ℕ) (policy : PolicyTree) (found : Option BlockTree) → found ≡ bundle_of policy name → promises_within found ≡ given_in_bundle worded_promises_of name policy
unfolding bundle_of
promises_found name policy found e = ap promises_within e ∙ found_within name policy
