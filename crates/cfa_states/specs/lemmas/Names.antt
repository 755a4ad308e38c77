-- The names of instances are equal either way round.
use Rattle.std.proofs.Common.{◌≡◌, ◌∙◌, ℕ, Bool, ◌&&◌, List, ap}
use Rattle.std.specs.Str.{bytes_eq}
use Rattle.cfa_base.specs.Index.{same_pair}
use Rattle.cfa_base.specs.lemmas.EqualTexts.{texts_turned}
use Rattle.cfa_resolve.specs.declared.instances.Instance.{Instance}
use Rattle.cfa_states.specs.History.{is_named}
use Rattle.cfa_states.specs.Names.{name_of}

pub same_instance : (path text : List ℕ) (instance : Instance) → same_pair (path, text) (name_of instance) ≡ is_named path text instance
same_instance path text instance =
    ap (λ (b : Bool). b && bytes_eq text instance.text) (texts_turned path instance.path)
    ∙ ap (λ (b : Bool). bytes_eq instance.path path && b) (texts_turned text instance.text)
