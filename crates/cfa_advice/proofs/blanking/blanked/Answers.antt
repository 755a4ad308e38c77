use Rattle.std.proofs.Common.{◌≡◌, [], ◌++◌, drop, ap, sym, ◌∙◌, subst, arith}
use Rattle.std.proofs.lemmas.List.{append-nil, drop_all}
use Rattle.cfa_base.specs.Lexing.{first_place}
use Rattle.cfa_advice.specs.Blanks.{IsBlanked}
use Rattle.cfa_advice.proofs.BlankLemmas.{blanks, blanked_by}
use Rattle.cfa_advice.proofs.blanking.blanked.Goals as goal

pub returns-clause-bytes : goal.returns-clause-bytes
returns-clause-bytes c numbered =
    let source = c.args.source.now in
    let done = c.loop-byte.bytes.items in
    let rest : drop c.loop-byte.byte-index source ≡ [] = drop_all _ source (omega (arith, c.loop-byte.auto.byte-index-end)) in
    let whole : done ≡ blanks c.args.from c.args.to (first_place 0) source =
    sym (append-nil done) ∙ (sym (ap (λ r. done ++ blanks c.args.from c.args.to c.loop-byte.place r) rest) ∙ c.loop-byte.invariant.so_far numbered) in
    subst (IsBlanked source c.args.from c.args.to) (sym whole) (blanked_by c.args.from c.args.to source)
