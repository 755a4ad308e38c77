use Rattle.std.proofs.Common.{refl}
use Rattle.cfa_base.proofs.PatternLemmas.{pattern_of_reading, no_pattern_of_refusal}
use Rattle.cfa_base.specs.Patterns.{is_pattern}
use Rattle.cfa_base.proofs.patterns.compiled.compile.Goals as goal

pub returns-in-Ok-clause-reads : goal.returns-in-Ok-clause-reads
unfolding is_pattern
returns-in-Ok-clause-reads c =
    let made = c.in-Ok.ensures in
    pattern_of_reading _ (_, _, rw (made.source, made.config, c.as_str.ensures.value, c.in_ok-built.ensures.text) at made.read)

pub returns-in-Err-Syntax-clause-bad : goal.returns-in-Err-Syntax-clause-bad
unfolding is_pattern
returns-in-Err-Syntax-clause-bad c e =
    let refused = rw (c.in-Err-Syntax.field-0-is, c.as_str.ensures.value, c.in_ok-built.ensures.text) at c.in-Err-Syntax.ensures.by_grammar in
    let other = rw c.in-Err-Syntax.field-0-is at c.in-Err-Syntax.ensures.kind in
    no_pattern_of_refusal _ _ (refused c.in-Err-Syntax.field-0-0 refl) other

pub returns-in-Err-CompiledTooBig-clause-too_big : goal.returns-in-Err-CompiledTooBig-clause-too_big
unfolding is_pattern
returns-in-Err-CompiledTooBig-clause-too_big c e =
    let kind = rw (c.in-Err-CompiledTooBig.field-0-is, c.as_str.ensures.value, c.in_ok-built.ensures.text) at c.in-Err-CompiledTooBig.ensures.kind in
    pattern_of_reading _ kind
