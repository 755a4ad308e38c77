use Rattle.std.proofs.Common.{◌≡◌, ◌++◌, string_bytes, sym, ap, ◌∙◌, arith}
use Rattle.cfa_demo.specs.Policies.{ended, text_of, opening, ending, promise_line, promise_lines}
use Rattle.cfa_demo.proofs.PolicyLemmas.{no_promises, one_promise_more, with_the_end, the_end, short_demo}
use Rattle.cfa_demo.proofs.policies.demo_policy.Goals as goal

pub loop-k-init : goal.loop-k-init
loop-k-init c = c.in_ok-text.ensures.ok ∙ sym no_promises

pub loop-k-preserved : goal.loop-k-preserved
loop-k-preserved c =
    c.in_ok-push_promise.ensures
    ∙ ap (λ text. text ++ ended (promise_line c.loop-k.k)) c.loop-k.invariant
    ∙ sym (one_promise_more c.loop-k.k)

pub returns-clause-text : goal.returns-clause-text
returns-clause-text c =
    let all : c.loop-k.k ≡ c.args.n = omega arith in
    c.in_ok-from_string.ensures ∙ c.in_ok-push_str.ensures.bytes
    ∙ ap (λ rest. string_bytes c.loop-k.text ++ rest) (sym the_end)
    ∙ ap (λ text. text ++ text_of ending) (c.loop-k.invariant ∙ ap (λ n. text_of (opening ++ promise_lines n)) all)
    ∙ sym (with_the_end c.args.n)

pub returns-clause-short : goal.returns-clause-short
returns-clause-short c = λ within. rw (returns-clause-text c) (short_demo c.args.n within)
