-- A call that shows a policy puts the policy's text, of which nothing is told.
use Rattle.std.specs.Prelude.{◌≡◌, Some, slice_get, codes}
use Rattle.cfa_hints.specs.declared.calls.Heard.{Heard}

pub record IsShown (heard : Heard) : Type 0 where
  pub command : slice_get heard.words.now 0 ≡ Some (codes "show")
  pub done : heard.status ≡ 0
