use Rattle.std.proofs.Common.{rules, ◌≡◌, ◌++◌, ◌∷◌, [], length}
use Rattle.cfa_base.proofs.IndexLemmas.{answers_push}
use Rattle.cfa_base.specs.IndexTables.{Notes, noted}
use Rattle.std.specs.Str.{bytes_eq}
use Rattle.cfa_base.proofs.index.NameIndex.add.Goals as goal

pub invariant_of-self-2 : goal.invariant_of-self-2
invariant_of-self-2 c =
    let items : c.push.new.self.items ≡ c.self.inside.names.items ++ c.args.name ∷ [] = search rules in
    let notes : Notes bytes_eq (noted c.self.inside.places) (noted c.note_if_new.new.places) c.args.name.now (length c.self.inside.names.items) = search rules in
    rw items (answers_push c.self.inside.names.items c.args.name c.self.inside.places c.note_if_new.new.places c.self.invariant notes)
