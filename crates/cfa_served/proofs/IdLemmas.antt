-- The list of the ids of promises, made in steps.
use Rattle.std.proofs.Common.{◌≡◌, ◌∙◌, ℕ, suc, ◌+◌, ◌<◌, ◌≤◌, List, [], ◌∷◌, ◌++◌, length, drop, get_or, map, All, ap, sym, subst, arith, append_assoc}
use Rattle.std.specs.List.{flat_map}
use Rattle.std.proofs.lemmas.List.{drop_more, length-append, length-map}
use Rattle.std.proofs.lemmas.List.Elements.{All-cons, All-get_or, All-head, All-nil, All-tail}
use Rattle.cfa_base.specs.declared.places.PromiseId.{PromiseId}
use Rattle.cfa_tree.specs.declared.blocks.Block.{Block}
use Rattle.cfa_tree.specs.declared.promises.Promise.{Promise}
use Rattle.cfa_tree.specs.declared.sections.Section.{Section}
use Rattle.cfa_tree.specs.Plain.{plain_block, plain_promise, plain_section}
use Rattle.cfa_tree.specs.Tree.{PromiseTree}
use Rattle.cfa_served.specs.Checked.{HasFew, id_at, promise_count, promises_of, ids_from, ids_in_block}

pub ids-append : (name : List ℕ) (number : ℕ) (ps qs : List PromiseTree) → ids_from name number (ps ++ qs) ≡ ids_from name number ps ++ ids_from name (number + length ps) qs
ids-append name number [] qs = ap (λ n. ids_from name n qs) (let e : number ≡ number + 0 = omega arith in e)
ids-append name number (p ∷ ps) qs =
    ap (λ rest. id_at name number p.place.line ∷ rest)
    (ids-append name (number + 1) ps qs ∙ ap (λ n. ids_from name (number + 1) ps ++ ids_from name n qs) (let e : (number + 1) + length ps ≡ number + suc (length ps) = omega arith in e))

-- one promise more
pub one_id : (name found : List ℕ) (ps : List Promise) (i : ℕ) (p : Promise) (number : ℕ) (so_far now : List PromiseId) → i < length ps → p ≡ get_or ps i p → found ≡ name →
    now ≡ so_far ++ id_at found (number + 1) p.place.line ∷ [] →
    now ++ ids_from name (number + 1 + 1) (map plain_promise (drop (i + 1) ps)) ≡ so_far ++ ids_from name (number + 1) (map plain_promise (drop i ps))
one_id name found ps i p number so_far now within is same e =
    let left = ids_from name (number + 1 + 1) (map plain_promise (drop (i + 1) ps)) in
    ap (λ ids. ids ++ left) (e ∙ ap (λ n. so_far ++ id_at n (number + 1) p.place.line ∷ []) same)
    ∙ append_assoc so_far (id_at name (number + 1) p.place.line ∷ []) left
    ∙ ap (λ q. so_far ++ id_at name (number + 1) q.place.line ∷ left) is
    ∙ ap (λ ps. so_far ++ ids_from name (number + 1) (map plain_promise ps)) (sym (drop_more ps i p within))

abbrev left_of : List Section → List PromiseTree
left_of sections = flat_map promises_of (map plain_section sections)

-- one section more
module _ (sections items : List Section) (i : ℕ) (s : Section) (promises : List Promise)
    (same : items ≡ sections) (within : i < length items) (found : s ≡ get_or items i s) (is : promises ≡ s.promises) where
  here_first : left_of (drop i sections) ≡ map plain_promise promises ++ left_of (drop (i + 1) sections)
  here_first =
      ap (λ ss. left_of (drop i ss)) (sym same) ∙ ap left_of (drop_more items i s within)
      ∙ ap (λ x. map plain_promise x.promises ++ left_of (drop (i + 1) items)) (sym found)
      ∙ ap (λ ps. map plain_promise ps ++ left_of (drop (i + 1) items)) (sym is)
      ∙ ap (λ ss. map plain_promise promises ++ left_of (drop (i + 1) ss)) same

  pub section_ids : (name found_name : List ℕ) (number next : ℕ) (so_far now : List PromiseId) → found_name ≡ name → next ≡ number + length promises →
      now ≡ so_far ++ ids_from found_name (number + 1) (map plain_promise promises) →
      now ++ ids_from name (next + 1) (left_of (drop (i + 1) sections)) ≡ so_far ++ ids_from name (number + 1) (left_of (drop i sections))
  section_ids name found_name number next so_far now named counted e =
      let here = ids_from name (number + 1) (map plain_promise promises) in
      let left = left_of (drop (i + 1) sections) in
      let count = length-map promises plain_promise in
      let numbers : next + 1 ≡ (number + 1) + length (map plain_promise promises) = omega (arith, count, counted) in
      ap (λ ids. ids ++ ids_from name (next + 1) left) (e ∙ ap (λ n. so_far ++ ids_from n (number + 1) (map plain_promise promises)) named)
      ∙ append_assoc so_far here (ids_from name (next + 1) left)
      ∙ ap (λ n. so_far ++ (here ++ ids_from name n left)) numbers
      ∙ ap (λ ids. so_far ++ ids) (sym (ids-append name (number + 1) (map plain_promise promises) left))
      ∙ ap (λ ps. so_far ++ ids_from name (number + 1) ps) (sym here_first)

  pub section_count : length (left_of (drop i sections)) ≡ length promises + length (left_of (drop (i + 1) sections))
  section_count =
      ap length here_first ∙ length-append (map plain_promise promises) (left_of (drop (i + 1) sections))
      ∙ ap (λ n. n + length (left_of (drop (i + 1) sections))) (length-map promises plain_promise)

-- one block more
pub block_ids : (blocks : List Block) (i : ℕ) (b : Block) (so_far now : List PromiseId) → i < length blocks → b ≡ get_or blocks i b → now ≡ so_far ++ ids_in_block (plain_block b) →
    now ++ flat_map ids_in_block (map plain_block (drop (i + 1) blocks)) ≡ so_far ++ flat_map ids_in_block (map plain_block (drop i blocks))
block_ids blocks i b so_far now within is e =
    let left = flat_map ids_in_block (map plain_block (drop (i + 1) blocks)) in
    ap (λ ids. ids ++ left) e ∙ append_assoc so_far (ids_in_block (plain_block b)) left
    ∙ ap (λ x. so_far ++ (ids_in_block (plain_block x) ++ left)) is
    ∙ ap (λ rest. so_far ++ flat_map ids_in_block (map plain_block rest)) (sym (drop_more blocks i b within))

few_mapped : (most : ℕ) (blocks : List Block) → HasFew most (map plain_block blocks) → All (λ b. promise_count (plain_block b) ≤ most) blocks
few_mapped most [] few = All-nil (λ b. promise_count (plain_block b) ≤ most)
few_mapped most (b ∷ blocks) few =
    All-cons (λ b. promise_count (plain_block b) ≤ most) b blocks
    (All-head (λ b. promise_count b ≤ most) (plain_block b) (map plain_block blocks) few)
    (few_mapped most blocks (All-tail (λ b. promise_count b ≤ most) (plain_block b) (map plain_block blocks) few))

pub few_here : (most : ℕ) (blocks : List Block) (i : ℕ) (d b : Block) → i < length blocks → HasFew most (map plain_block blocks) → b ≡ get_or blocks i d → promise_count (plain_block b) ≤ most
few_here most blocks i d b within few is =
    subst (λ x. promise_count (plain_block x) ≤ most) (sym is)
    (All-get_or (λ x. promise_count (plain_block x) ≤ most) blocks i d within (few_mapped most blocks few))
