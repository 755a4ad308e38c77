-- The texts of the promises of a section, each with the guard of the promise before it.
use Rattle.std.proofs.Common.{◌≡◌, sym, ◌∙◌, ap, ℕ, suc, ◌+◌, ◌<◌, ◌≤◌, List, [], ◌++◌, map, length, get_or, drop, add-one, drop-cons}
use Rattle.std.specs.Prelude.{option_map}
use Rattle.std.proofs.lemmas.Bool.{cond-true}
use Rattle.std.proofs.lemmas.List.{append-nil, append_assoc, drop_all}
use Rattle.cfa_tree.specs.declared.promises.Promise.{Promise}
use Rattle.cfa_tree.specs.Plain.{plain_expr, plain_promise}
use Rattle.cfa_tree.specs.Repeats.{guard_at, guard_before}
use Rattle.cfa_tree.specs.lemmas.GuardPlaces.{guard_there}
use Rattle.cfa_printer.specs.OfTheCode.{line_above}
use Rattle.cfa_printer.specs.Printing.{printed_promise, printed_promises}
use Rattle.cfa_printer.specs.SameExpr.{same_guard}
use Rattle.cfa_printer.proofs.SameExprs.{same_guard_for}

-- no line stands above a promise with the guard of the one before it
pub no_line : (items : List Promise) (i : ℕ) → guard_at items i ≡ guard_before items i → line_above items i ≡ []
no_line items i same =
    let before = option_map plain_expr (guard_before items i) in
    let guard = option_map plain_expr (guard_at items i) in
    cond-true (same_guard before guard) _ _ (same_guard_for before guard (ap (option_map plain_expr) (sym same)))

pub promise_turn : (out mid new whole : List ℕ) (items : List Promise) (i : ℕ) (x : Promise) → i < length items → x ≡ get_or items i x →
    mid ≡ out ++ line_above items i → new ≡ mid ++ printed_promise (plain_promise x) →
    out ++ printed_promises (option_map plain_expr (guard_before items i)) (map plain_promise (drop i items)) ≡ whole →
    new ++ printed_promises (option_map plain_expr (guard_before items (i + 1))) (map plain_promise (drop (i + 1) items)) ≡ whole
promise_turn out mid new whole items i x below is first second so_far =
    ap (λ y. y ++ printed_promises (option_map plain_expr (guard_before items (i + 1))) (map plain_promise (drop (i + 1) items))) (second ∙ ap (λ y. y ++ printed_promise (plain_promise x)) first)
    ∙ (ap (λ n. (out ++ line ++ printed_promise (plain_promise x)) ++ printed_promises (option_map plain_expr (guard_before items n)) (map plain_promise (drop n items))) (add-one i)
    ∙ (ap (λ g. (out ++ line ++ printed_promise (plain_promise x)) ++ printed_promises (option_map plain_expr g) (map plain_promise (drop (suc i) items))) (guard_there items i x below is)
    ∙ (sym goes_on ∙ so_far)))
  where
    line : List ℕ
    line = line_above items i

    goes_on : out ++ printed_promises (option_map plain_expr (guard_before items i)) (map plain_promise (drop i items))
        ≡ (out ++ line ++ printed_promise (plain_promise x)) ++ printed_promises (plain_promise x).guard (map plain_promise (drop (suc i) items))
    goes_on = rw (drop-cons items i x, ← is, guard_there items i x below is) (sym (append_assoc (out ++ _) (printed_promise (plain_promise x)) _ ∙ append_assoc out _ _))

pub promises_end : (out whole : List ℕ) (items : List Promise) (i : ℕ) → length items ≤ i →
    out ++ printed_promises (option_map plain_expr (guard_before items i)) (map plain_promise (drop i items)) ≡ whole → out ≡ whole
promises_end out whole items i past so_far =
    let none : out ++ printed_promises (option_map plain_expr (guard_before items i)) (map plain_promise (drop i items)) ≡ out = rw drop_all (append-nil out) in
    sym none ∙ so_far
