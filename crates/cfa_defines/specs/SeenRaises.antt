-- What a classes promise raises, as its definition tells it: a class, its status, and the first Maybe class among its expressions.
use Rattle.cfa_defines.specs.declared.class_promises.Raise.{Raise}
use Rattle.cfa_defines.specs.ClassPromises.{Raise as Told}

abbrev pub seen_raise : Raise → Told
seen_raise raise = (raise.class, (raise.status, raise.maybe))
