use Rattle.std.proofs.Common.{◌++◌, sym, ap, ◌∙◌, append-nil}
use Rattle.std.specs.String.{string_bytes}
use Rattle.cfa_printer.proofs.PromiseTexts.{no_line}
use Rattle.cfa_printer.proofs.promises.push_line_above.Goals as goal

pub returns-then-repeats_guard : goal.returns-then-repeats_guard
returns-then-repeats_guard c =
    let none = no_line c.args.promises.now c.args.index (c.repeats_guard.ensures c.if-repeats_guard.true) in
    sym (ap (λ x. string_bytes c.args.out.now ++ x) none ∙ append-nil (string_bytes c.args.out.now))
