use Rattle.std.proofs.Common.{◌+◌, drop, sym, ap, ◌∙◌, arith}
use Rattle.std.specs.List.{flat_map}
use Rattle.std.specs.Str.{bytes_eq}
use Rattle.indexmap.specs.IndexMap.{insert_all}
use Rattle.cfa_vars.specs.References.{names_in}
use Rattle.cfa_vars.specs.Scopes.{in_scope}
use Rattle.cfa_vars.specs.Choices.{lists_named, seen_lists}
use Rattle.cfa_vars.proofs.ChoiceLemmas.{gathered_text, front_item}
use Rattle.cfa_vars.proofs.choosing.gather.Goals as goal

pub loop-text-preserved : goal.loop-text-preserved
loop-text-preserved c =
    let scopes = in_scope c.args.scopes.now in
    let texts = c.args.texts.now in
    let table = seen_lists c.loop-text.lists.entries in
    let rest = drop (c.loop-text.text-index + 1) texts in
    let front = front_item texts c.loop-text.text-index c.text-item.result (omega arith) c.text-item.is in
    let put = c.in_ok-gather_text.ensures ∙ ap (λ t. insert_all bytes_eq table (lists_named scopes (names_in t))) c.as_str.ensures in
    gathered_text scopes table (seen_lists c.gather_text.new.lists.entries) c.text-item.result rest put ∙ ap (λ ts. insert_all bytes_eq table (lists_named scopes (flat_map names_in ts))) (sym front) ∙ c.loop-text.invariant
