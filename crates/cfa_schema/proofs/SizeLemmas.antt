-- A policy that was read has, in each of its bundles, no more promises than the bundle's file has bytes.
use Rattle.std.proofs.Common.{◌≡◌, ℕ, suc, ◌+◌, ◌≤◌, true, List, [], ◌∷◌, length, Option, ap, sym, subst, arith}
use Rattle.std.specs.List.{flat_map}
use Rattle.std.proofs.lemmas.List.{length-append, length-drop}
use Rattle.std.proofs.lemmas.List.Elements.{All-cons, All-nil, All-append, All-weaker}
use Rattle.cfa_base.specs.declared.limits.TheConstants.{MOST_SOURCE_BYTES}
use Rattle.cfa_base.specs.declared.places.Place.{Place}
use Rattle.cfa_base.specs.declared.tokens.Kind.{Kind}
use Rattle.cfa_base.specs.Tokens.{Token}
use Rattle.cfa_base.specs.Lexing.{Scans, ends, a_separator, a_comment, a_token, stops, Fault, spells, line_of}
use Rattle.cfa_base.specs.lemmas.Spelled.{nothing_spells}
use Rattle.cfa_tree.specs.Tree.{ExprTree, PromiseTree, SectionTree, bundle, body, PolicyTree}
use Rattle.cfa_tree.specs.Grammar.{Levels, Promises, no_promise, new_guard, a_promise, Sections, no_section, a_section, Policy, no_block, a_bundle, a_body}
use Rattle.cfa_served.specs.Checked.{promises_of, promise_count, HasFew}
use Rattle.cfa_schema.specs.Sourced.{IsRead, AreRead, no_file, a_file, joined, IsSourced}
use Rattle.cfa_schema.proofs.RestLemmas.{end_fits, guard_ends, attributes_end, promisee_ends, params_end, body_attributes_end}

promises_size : {levels : Levels} {ts rest : List Token} {g : Option ExprTree} {ps : List PromiseTree} → Promises levels ts g ps rest → length ps + length rest ≤ length ts
promises_size no_promise = omega arith
promises_size (new_guard g more) = let h = end_fits (guard_ends g) in let k = promises_size more in omega arith
promises_size (a_promise v all more) =
    let h = end_fits (promisee_ends v) in let k = end_fits (attributes_end all) in let l = promises_size more in omega arith

sections_size : {levels : Levels} {ts rest : List Token} {sections : List SectionTree} → Sections levels ts sections rest → length (flat_map promises_of sections) + length rest ≤ length ts
sections_size no_section = omega arith
sections_size (a_section {promises = promises} {more = more} ps rest) =
    let h = promises_size ps in let k = sections_size rest in let l = length-append promises (flat_map promises_of more) in omega arith

few_weaker : (most more : ℕ) (policy : PolicyTree) → most ≤ more → HasFew most policy → HasFew more policy
few_weaker most more policy h few = All-weaker (λ b. promise_count b ≤ most) (λ b. promise_count b ≤ more) (λ b k. omega (arith, h, k)) policy few

policy_size : {levels : Levels} {ts : List Token} {tree : PolicyTree} → Policy levels ts tree → HasFew (length ts) tree
policy_size no_block = All-nil (λ b. promise_count b ≤ 0)
policy_size (a_bundle {x = x} {y = y} {p = p} {q = q} {r = r} {ts = ts} {us = us} {vs = vs} {names = names} {sections = sections} {more = more} params within rest) =
    let h = end_fits (params_end params) in let k = sections_size within in
    let wide : length vs ≤ suc (suc (suc (length ts))) = omega arith in
    All-cons (λ b. promise_count b ≤ suc (suc (suc (length ts)))) (bundle (record { name = x; place = q }) (record { name = y; place = r }) names sections p) more
    (omega arith) (few_weaker (length vs) (suc (suc (suc (length ts)))) more wide (policy_size rest))
policy_size (a_body {x = x} {y = y} {p = p} {q = q} {r = r} {ts = ts} {us = us} {vs = vs} {names = names} {attributes = attributes} {more = more} params within rest) =
    let h = end_fits (params_end params) in let k = end_fits (body_attributes_end within) in
    let wide : length vs ≤ suc (suc (suc (length ts))) = omega arith in
    All-cons (λ b. promise_count b ≤ suc (suc (suc (length ts)))) (body (record { name = x; place = q }) (record { name = y; place = r }) names attributes p) more
    (omega arith) (few_weaker (length vs) (suc (suc (suc (length ts)))) more wide (policy_size rest))

spelled_size : (kind : Kind) (text : List ℕ) → spells kind text ≡ true → 1 ≤ length text
spelled_size kind [] h = absurd (nothing_spells kind h)
spelled_size kind (b ∷ bs) h = omega arith

scan_size : {place : Place} {bytes : List ℕ} {tokens : List Token} {fault : Option Fault} → Scans place bytes tokens fault → length tokens ≤ length bytes
scan_size ends = omega arith
scan_size (a_separator is more) = let h = scan_size more in omega arith
scan_size (a_comment {rest = rest} is more) =
    let h = scan_size more in let k = length-drop (length (line_of rest)) rest in omega arith
scan_size (a_token {text = text} {rest = rest} {kind = kind} takes more) =
    let h = scan_size more in let k = length-append text rest in let l = ap length takes.cut in
    let m = spelled_size kind text takes.spelled in omega arith
scan_size (stops is none) = omega arith

read_size : {file : ℕ} {tree : PolicyTree} → IsRead file tree → HasFew MOST_SOURCE_BYTES tree
read_size {tree = tree} is =
    let h = scan_size is.lexes in let fits = is.fits in
    few_weaker (length is.tokens) MOST_SOURCE_BYTES tree (omega arith) (policy_size is.reads)

all_read_size : {file : ℕ} {parts : List PolicyTree} → AreRead file parts → HasFew MOST_SOURCE_BYTES (joined parts)
all_read_size no_file = All-nil (λ b. promise_count b ≤ MOST_SOURCE_BYTES)
all_read_size (a_file {tree = tree} {more = more} is rest) =
    All-append (λ b. promise_count b ≤ MOST_SOURCE_BYTES) tree (joined more) (read_size is) (all_read_size rest)

pub sourced_has_few : (policy : PolicyTree) → IsSourced policy → HasFew MOST_SOURCE_BYTES policy
sourced_has_few policy is = subst (HasFew MOST_SOURCE_BYTES) (sym is.whole) (all_read_size is.read)
