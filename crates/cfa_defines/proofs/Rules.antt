-- Lemmas that goals want by name.
use Rattle.std.proofs.lemmas.List.Elements.{filter_map-append, All-append}

pub ruleset appended = (filter_map-append, All-append)
