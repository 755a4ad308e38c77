use Rattle.std.proofs.Common.{sym, subst}
use Rattle.cfa_bodies.specs.Bodies.{bound, data_given}
use Rattle.cfa_defines.specs.OwnTexts.{arguments_of}
use Rattle.cfa_edits.specs.Scripts.{AreEdits}
use Rattle.cfa_tree.specs.Plain.{plain_block, plain_value}
use Rattle.cfa_tree.specs.declared.blocks.Block.TheVariants.{Bundle}
use Rattle.cfa_scripts.specs.declared.walking.Walk.{Walk}
use Rattle.cfa_scripts.specs.Callers.{seen_caller}
use Rattle.cfa_scripts.specs.EditScripts.{around_of, edits_among}
use Rattle.cfa_scripts.specs.Numbered.{numbered_in, params_of}
use Rattle.cfa_scripts.specs.lemmas.Ordered.{script_edits}
use Rattle.cfa_scripts.proofs.calling.walked_in.Goals as goal

pub conclude-requires : goal.conclude-requires
conclude-requires g c =
    let caller = seen_caller c.args.caller.now in
    let block = plain_block (Bundle c.args.bundle.now) in
    let value = plain_value c.args.call.now in
    subst (λ (w : Walk). AreEdits (edits_among w.edits)) (sym c.in_ok-walk.ensures.walk)
    (script_edits (around_of caller block) (bound (params_of block) (data_given caller.scopes caller.choice (arguments_of value))) (numbered_in block))
