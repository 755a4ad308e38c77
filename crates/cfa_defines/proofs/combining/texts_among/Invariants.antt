use Rattle.std.proofs.Common.{◌≡◌}
use Rattle.std.specs.List.{filter_map}
use Rattle.cfa_defines.specs.OfTheCode.{text_read}
use Rattle.cfa_defines.proofs.combining.texts_among.Given as goal

abbrev pub invariant-loop-read : goal.invariant-loop-read
invariant-loop-read l = l.texts.items ≡ filter_map text_read l.yielded
