use Rattle.std.proofs.Common.{◌≡◌, ◌++◌, ap, ◌∙◌, sym}
use Rattle.std.specs.Prelude.{OnOk}
use Rattle.std.proofs.lemmas.Iterator.Adapters.{fact_from_extend, YieldsList-from_vec}
use Rattle.std.proofs.lemmas.List.{map-id}
use Rattle.cfa_tree.proofs.Joined.{joined_more}
use Rattle.cfa_tree.proofs.joining.join.Goals as goal

pub loop-part-preserved : goal.loop-part-preserved
loop-part-preserved c =
    let old = c.loop-part.blocks.items in
    let added : OnOk c.extend.result (c.extend.new.self.items ≡ old ++ c.into_vec.result.items) =
    fact_from_extend (λ x. x) c.extend.result c.extend.ensures.ran (λ it b. YieldsList-from_vec {s = it} _ b.0 (b.1 ∙ c.into_vec.result.ok.0)) (λ xs e h. h.0 ∙ ap (λ z. old ++ z) (sym (map-id xs) ∙ e)) in
    let here = rw c.in_ok-extend.was at added in
    joined_more old c.extend.new.self.items c.into_vec.result.items c.loop-part.yielded c.in-Some.part here c.into_vec.ensures c.loop-part.invariant
