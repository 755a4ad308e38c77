-- The promises of a bundle with their numbers in steps: one more, and those of one section more.
use Rattle.std.proofs.Common.{◌≡◌, ℕ, suc, ◌+◌, ◌<◌, List, [], ◌∷◌, ◌++◌, length, drop, get_or, map, Option, Some, None, refl, ap, sym, ◌∙◌, arith, append_assoc}
use Rattle.std.specs.List.{flat_map, cons_option}
use Rattle.std.proofs.lemmas.List.{drop_more}
use Rattle.cfa_tree.specs.declared.promises.Promise.{Promise}
use Rattle.cfa_tree.specs.declared.sections.Section.{Section}
use Rattle.cfa_tree.specs.Plain.{plain_promise, plain_section}
use Rattle.cfa_tree.specs.Tree.{PromiseTree}
use Rattle.cfa_kinds.specs.declared.kinds.PromiseType.{PromiseType}
use Rattle.cfa_kinds.specs.Kinds.{promise_type}
use Rattle.cfa_served.specs.Checked.{worded_promises_of}
use Rattle.cfa_served.specs.lemmas.Promises.{pair_with}
use Rattle.cfa_scripts.specs.Numbered.{Numbered, numbered_as, numbered_from}

cons-append : {X : Type 0} (o : Option X) (xs ys : List X) → cons_option o xs ++ ys ≡ cons_option o (xs ++ ys)
cons-append None xs ys = refl
cons-append (Some x) xs ys = refl

numbered-append : (name : List ℕ) (number : ℕ) (ps qs : List (List ℕ × PromiseTree)) →
    numbered_from name number (ps ++ qs) ≡ numbered_from name number ps ++ numbered_from name (number + length ps) qs
numbered-append name number [] qs = ap (λ n. numbered_from name n qs) (let e : number ≡ number + 0 = omega arith in e)
numbered-append name number (p ∷ ps) qs =
    let here = numbered_as name number p.1 (promise_type p.0) in
    let behind = numbered_from name (number + 1) ps in
    let e : (number + 1) + length ps ≡ number + suc (length ps) = omega arith in
    ap (cons_option here) (numbered-append name (number + 1) ps qs ∙ ap (λ n. behind ++ numbered_from name n qs) e)
    ∙ sym (cons-append here behind (numbered_from name (number + suc (length ps)) qs))

-- the promises of a section, under the word of their type
abbrev pub worded : (kind : List ℕ) → List Promise → List (List ℕ × PromiseTree)
worded kind ps = map (pair_with kind) (map plain_promise ps)

pub one_numbered : (name kind : List ℕ) (ps : List Promise) (i : ℕ) (p : Promise) (found : Option PromiseType) (number next : ℕ) (so_far now : List Numbered) →
    i < length ps → p ≡ get_or ps i p → found ≡ promise_type kind → next ≡ number + 1 → now ≡ so_far ++ cons_option (numbered_as name next (plain_promise p) found) [] →
    now ++ numbered_from name (next + 1) (worded kind (drop (i + 1) ps)) ≡ so_far ++ numbered_from name (number + 1) (worded kind (drop i ps))
one_numbered name kind ps i p found number next so_far now behind is of_type following e =
    let left = numbered_from name (next + 1) (worded kind (drop (i + 1) ps)) in
    let here = numbered_as name next (plain_promise p) in
    ap (λ all. all ++ left) e ∙ append_assoc so_far (cons_option (here found) []) left ∙ ap (λ all. so_far ++ all) (cons-append (here found) [] left)
    ∙ ap (λ type. so_far ++ cons_option (here type) left) of_type
    ∙ ap (λ n. so_far ++ numbered_from name n (worded kind (p ∷ drop (i + 1) ps))) following
    ∙ ap (λ q. so_far ++ numbered_from name (number + 1) (worded kind (q ∷ drop (i + 1) ps))) is
    ∙ ap (λ rest. so_far ++ numbered_from name (number + 1) (worded kind rest)) (sym (drop_more ps i p behind))

abbrev pub left_of : List Section → List (List ℕ × PromiseTree)
left_of sections = flat_map worded_promises_of (map plain_section sections)

pub one_section : (name : List ℕ) (sections : List Section) (i : ℕ) (section : Section) (number next : ℕ) (so_far now : List Numbered) →
    i < length sections → section ≡ get_or sections i section → next ≡ number + length (worded_promises_of (plain_section section)) →
    now ≡ so_far ++ numbered_from name (number + 1) (worded_promises_of (plain_section section)) →
    now ++ numbered_from name (next + 1) (left_of (drop (i + 1) sections)) ≡ so_far ++ numbered_from name (number + 1) (left_of (drop i sections))
one_section name sections i section number next so_far now behind is counted e =
    let here = worded_promises_of (plain_section section) in
    let left = left_of (drop (i + 1) sections) in
    let numbers : next + 1 ≡ (number + 1) + length here = omega (arith, counted) in
    ap (λ all. all ++ numbered_from name (next + 1) left) e ∙ append_assoc so_far (numbered_from name (number + 1) here) (numbered_from name (next + 1) left)
    ∙ ap (λ n. so_far ++ (numbered_from name (number + 1) here ++ numbered_from name n left)) numbers
    ∙ ap (λ all. so_far ++ all) (sym (numbered-append name (number + 1) here left))
    ∙ ap (λ s. so_far ++ numbered_from name (number + 1) (worded_promises_of (plain_section s) ++ left)) is
    ∙ ap (λ rest. so_far ++ numbered_from name (number + 1) (left_of rest)) (sym (drop_more sections i section behind))
