use Rattle.std.proofs.Common.{rules, ◌≡◌, ℕ, ◌++◌, ◌∷◌, [], length, subst}
use Rattle.cfa_states.specs.Logs.{NotesPlace}
use Rattle.cfa_states.proofs.PlaceLemmas.{has_more}
use Rattle.cfa_states.proofs.register.Register.add.Goals as goal

pub invariant_of-self-2 : goal.invariant_of-self-2
invariant_of-self-2 c =
    let items : c.push.new.self.items ≡ c.self.inside.instances.items ++ c.args.instance.now ∷ [] = search rules in
    let at : c.in_ok-place.place ≡ length c.self.inside.instances.items = search rules in
    let notes : NotesPlace c.self.inside.places c.note_if_unsure.new.places c.args.instance.now c.in_ok-place.place = search rules in
    rw items (has_more c.self.inside.places c.note_if_unsure.new.places c.self.inside.instances.items c.args.instance.now c.self.invariant
    (subst (λ (k : ℕ). NotesPlace c.self.inside.places c.note_if_unsure.new.places c.args.instance.now k) at notes))
