use Rattle.std.proofs.Common.{◌∙◌, ap, sym, refl, subst, inl, inr}
use Rattle.clap.specs.Words.{App, fault_of, found_of, is_simple, is_simple_and_free, kind_of, matches_of}
use Rattle.clap.specs.Kinds.{IsAmong}
use Rattle.cfa_base.specs.IndexTables.{texts_of}
use Rattle.cfa_words.proofs.Reading.{is_plain_command}
use Rattle.cfa_words.proofs.Lines.{refused, taken}
use Rattle.cfa_words.proofs.words.line_of.Goals as goal

pub returns-in-Ok : goal.returns-in-Ok
returns-in-Ok c =
    let app = c.in_ok-command_line.ensures in
    let words = texts_of c.args.words.now in
    taken words c.requires (found_of c.in-Ok.matches) c.of.result (record {
      command = c.of.ensures.command;
      argument = c.of.ensures.argument;
      extra = c.of.ensures.extra;
      classes = c.of.ensures.classes;
      without_locks = c.of.ensures.without_locks;
      strict = c.of.ensures.strict;
    })
    (sym (ap (λ (a : App). fault_of a words) app) ∙ c.in-Ok.ensures.kinds (ap is_simple_and_free app ∙ is_plain_command))
    ((c.in-Ok.ensures.matches (ap is_simple app ∙ refl)).0 ∙ ap (λ (a : App). matches_of a words) app)

pub returns : goal.returns
returns c =
    let app = c.in_ok-command_line.ensures in
    let words = texts_of c.args.words.now in
    elim (c.in-Err.ensures.kinds (ap is_simple_and_free app ∙ is_plain_command)) [
      | inl memory ↦ absurd (c.in_default.not-OutOfMemory (c.kind.ensures ∙ memory))
      | inr among ↦ refused words c.requires (kind_of c.in-Err.error) (subst (λ (a : App). IsAmong (kind_of c.in-Err.error) (fault_of a words)) app among)
    ]
