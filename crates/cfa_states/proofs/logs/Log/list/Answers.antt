use Rattle.std.proofs.Common.{rules, ◌≡◌, ◌++◌, ◌∷◌, [], refl}
use Rattle.std.specs.Prelude.{option_copied}
use Rattle.cfa_states.specs.declared.logs.Row.{Row}
use Rattle.cfa_states.proofs.RowLemmas.{rows_stay, rows_more, is_listed}
use Rattle.cfa_states.proofs.logs.Log.list.Goals as goal

pub invariant_of-self-in_err-push : goal.invariant_of-self-in_err-push
invariant_of-self-in_err-push c =
    let items : c.push.new.self.items ≡ c.self.inside.rows.items = search rules in
    rw items (rows_stay c.args.is_first c.self.inside.instances c.note_visit.new.instances c.args.instance.now c.in_ok-of.ensures.ok
    c.self.inside.rows.items c.self.invariant)

pub invariant_of-self-2 : goal.invariant_of-self-2
invariant_of-self-2 c =
    let row : Row = record { of = c.in_ok-of.of; status = c.args.status; blame = c.in_ok-blame.blame } in
    let items : c.push.new.self.items ≡ c.self.inside.rows.items ++ row ∷ [] = search rules in
    rw items (rows_more c.args.is_first c.self.inside.instances c.note_visit.new.instances c.args.instance.now c.in_ok-of.ensures.ok
    c.self.inside.rows.items row c.self.invariant c.in_ok-of.ensures.of.1)

pub returns : goal.returns
returns c =
    let row : Row = record { of = c.in_ok-of.of; status = c.args.status; blame = c.in_ok-blame.blame } in
    let items : c.push.new.self.items ≡ c.self.inside.rows.items ++ row ∷ [] = search rules in
    is_listed c.args.is_first c.self.inside.instances c.note_visit.new.instances c.args.instance.now c.in_ok-of.ensures.ok
    c.self.inside.rows.items c.push.new.self.items row c.args.status (option_copied c.args.waits) c.self.inside.unsettled.items c.args.self.now
    c.self.invariant c.self.view_is items refl c.in_ok-blame.ensures c.in_ok-of.ensures.of
