use Rattle.std.proofs.Common.{rules, ◌≡◌, ◌++◌, ◌∷◌, [], length}
use Rattle.cfa_base.proofs.IndexLemmas.{pair_answers_push}
use Rattle.cfa_base.specs.IndexTables.{Notes, pair_noted}
use Rattle.cfa_base.specs.Index.{same_pair}
use Rattle.cfa_base.proofs.index.PairIndex.add.Goals as goal

pub invariant_of-self-2 : goal.invariant_of-self-2
invariant_of-self-2 c =
    let items : c.push.new.self.items ≡ c.self.inside.pairs.items ++ (c.args.first, c.args.second) ∷ [] = search rules in
    let notes : Notes same_pair (pair_noted c.self.inside.places) (pair_noted c.note_pair_if_new.new.places) (c.args.first.now, c.args.second.now) (length c.self.inside.pairs.items) = search rules in
    rw items (pair_answers_push c.self.inside.pairs.items (c.args.first, c.args.second) c.self.inside.places c.note_pair_if_new.new.places c.self.invariant notes)
